mod lemmas
pub mod Named
