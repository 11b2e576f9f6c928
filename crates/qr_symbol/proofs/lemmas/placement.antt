pub mod PlacementLemmas
pub mod WalkLemmas
pub mod ColumnLemmas
pub mod AcrossLemmas
pub mod SpanDrawnLemmas
