pub mod UseLemmas
pub mod ToldLemmas
