pub mod Finding
pub mod Laying
pub mod LinkCount
pub mod Every
pub mod Running
