pub mod Parts
pub mod Joined
pub mod Removal
pub mod Events
