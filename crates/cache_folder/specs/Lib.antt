pub mod UseList
pub mod BodyName
pub mod Told
