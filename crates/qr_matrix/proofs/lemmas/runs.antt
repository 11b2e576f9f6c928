pub mod RowLemmas
pub mod ChargeLemmas
pub mod ColumnLemmas
pub mod RunLemmas
pub mod AboveLemmas
pub mod SquareLemmas
