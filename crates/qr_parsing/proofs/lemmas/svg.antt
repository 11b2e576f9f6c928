pub mod NumberLemmas
pub mod PathLemmas
pub mod BoxLemmas
pub mod PaintLemmas
pub mod DocumentLemmas
