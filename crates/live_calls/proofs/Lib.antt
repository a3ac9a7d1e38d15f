pub mod Requests
pub mod TurnLaws
