pub mod OnPath
pub mod Judging
pub mod Stood
pub mod Few
pub mod Numbered
