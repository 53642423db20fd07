pub mod Grids
pub mod Stars
pub mod Bench
pub mod Follows
pub mod Refusals
pub mod Dead
pub mod Quick
pub mod Exact
