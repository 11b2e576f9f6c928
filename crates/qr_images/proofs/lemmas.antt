-- Lemmas, in files and folders with the name of the file of src that they serve, in the order in which to read them.
pub mod checksums
pub mod codes
pub mod pixels
pub mod copies
pub mod stream
pub mod lines
pub mod quads
pub mod sums
pub mod png
pub mod target
pub mod texts
pub mod bitmap_lines
pub mod printing
pub mod runs
pub mod pbm
pub mod laws
