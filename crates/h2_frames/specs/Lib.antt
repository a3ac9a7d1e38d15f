pub mod Layout
pub mod Reading
pub mod Spelling
pub mod Stream
pub mod Grammar
pub mod Runs
