pub mod TakeLaws
pub mod UpdateLaws
pub mod ReadLaws
