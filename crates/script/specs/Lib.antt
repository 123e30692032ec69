pub mod Kinds
pub mod Constructs
pub mod Children
pub mod Scripts
pub mod Tables
