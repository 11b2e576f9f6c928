-- A file is read back, step by step, in the order in which to read them.
pub mod CodeLemmas
pub mod ReadLemmas
pub mod StartLemmas
pub mod InflateLemmas
pub mod LineLemmas
pub mod PackLemmas
pub mod FileLemmas
pub mod PixelLemmas
pub mod LawLemmas
pub mod BitmapLemmas
pub mod DotLemmas
pub mod EscPosLemmas
pub mod LabelLemmas
pub mod TsplLemmas
pub mod ZplLemmas
pub mod LengthLemmas
