pub mod RowLemmas
pub mod ShapeLemmas
pub mod FitLemmas
pub mod PlainLemmas
