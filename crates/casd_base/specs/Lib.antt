pub mod Causes
pub mod Streams
pub mod Code
pub mod Memory
