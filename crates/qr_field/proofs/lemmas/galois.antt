pub mod BitLemmas
pub mod ByteLemmas
pub mod ProductLemmas
pub mod PowerLemmas
pub mod FieldLemmas
