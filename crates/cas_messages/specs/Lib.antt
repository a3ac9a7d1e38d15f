pub mod Fault
pub mod Table
pub mod Meaning
pub mod Spelling
pub mod Fits
pub mod Tables
