pub mod Counting
pub mod Opening
pub mod ViewLists
pub mod Owners
pub mod LockSteps
pub mod SeatFacts
