pub mod Faults
pub mod Format
pub mod Laws
pub mod Reading
pub mod Steps
