pub mod UndamagedLemmas
pub mod SoundnessLemmas
pub mod BoundLemmas
pub mod WeakerLemmas
