pub mod Statuses
pub mod Names
pub mod Here
pub mod Query
pub mod Places
pub mod ReadStops
pub mod Pieces
pub mod Read
