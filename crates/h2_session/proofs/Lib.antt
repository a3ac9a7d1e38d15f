pub mod BlockSizes
pub mod RowLaws
pub mod PartLaws
pub mod SaidLaws
pub mod HeardLaws
pub mod BusyLaws
