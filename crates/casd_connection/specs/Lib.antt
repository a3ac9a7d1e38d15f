pub mod Waiters
pub mod Exchange
pub mod Course
pub mod Linked
pub mod Writes
pub mod Written
pub mod Steps
pub mod Stands
