pub mod Awaited
pub mod Siblings
pub mod Empty
