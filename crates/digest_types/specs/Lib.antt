pub mod Name
pub mod Digest
pub mod Hasher
pub mod Hex
pub mod Reading
pub mod Parsing
