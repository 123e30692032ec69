pub mod Names
pub mod OpenLabels
pub mod OpenScopes
pub mod Seen
