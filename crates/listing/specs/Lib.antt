pub mod Depth
pub mod Names
pub mod Said
