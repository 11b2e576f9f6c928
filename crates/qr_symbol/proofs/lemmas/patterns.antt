pub mod PaintLemmas
pub mod TimingLemmas
pub mod FinderLemmas
pub mod FormatDrawingLemmas
pub mod CornerLemmas
pub mod VersionLemmas
