pub mod Foretelling
