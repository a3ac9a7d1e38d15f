pub mod VisitLaws
pub mod VisitBenchLaws
