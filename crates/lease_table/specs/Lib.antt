pub mod Table
pub mod Slots
pub mod Rows
pub mod Pairs
pub mod PairKeys
pub mod Tallies
pub mod Holds
pub mod LeaseReaches
