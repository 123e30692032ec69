pub mod Decided
pub mod Formed
pub mod Lowest
pub mod Members
pub mod Tested
pub mod Trees
pub mod Walks
