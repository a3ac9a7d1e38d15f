pub mod Closing
pub mod Hosting
pub mod InMemory
pub mod Reads
pub mod Running
pub mod Serving
pub mod Words
pub mod Working
