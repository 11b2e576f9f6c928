mod lemmas
-- The lemmas that other crates use.
pub mod Facts
