pub mod HereLaws
pub mod NameLaws
pub mod QueryLaws
pub mod PieceLaws
pub mod ReadTurns
pub mod OpenLaws
