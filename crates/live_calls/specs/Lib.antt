pub mod Methods
pub mod Places
pub mod Turns
pub mod Afterwards
pub mod Replied
