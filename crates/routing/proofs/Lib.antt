pub mod Painting
pub mod States
pub mod Agreement
