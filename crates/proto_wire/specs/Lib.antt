pub mod Text
pub mod Field
pub mod Wire
pub mod Steps
pub mod Reading
pub mod Spelling
pub mod Packed
