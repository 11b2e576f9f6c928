-- The two checksums.
pub mod CrcLemmas
pub mod AdlerLemmas
