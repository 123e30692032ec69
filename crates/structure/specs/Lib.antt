pub mod Children
pub mod Forms
pub mod Places
