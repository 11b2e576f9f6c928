-- The lemmas that other crates use.
pub use Rattle.qr_layout.proofs.lemmas.alignment.{centres-inside, fixed-inside, region-parts, region_outside}
pub use Rattle.qr_layout.proofs.lemmas.blocks.{blocks-sound, every, every-at, laws-of}
pub use Rattle.qr_layout.proofs.lemmas.order.ListLemmas.{All-of-Mem, All-rec, Mem, Mem-at, Mem-of-Contains, Rises, Rises-of-pairs, one-rising}
pub use Rattle.qr_layout.proofs.lemmas.order.OrderLemmas.{index-at, only-order, order-has, order-length, order-mem, order-small}
pub use Rattle.qr_layout.proofs.lemmas.region.{col-in, row-in}
pub use Rattle.qr_layout.proofs.lemmas.role.RolePlaceLemmas.{dark-module, format-first, format-only, format-second, off-role, region-role, role-region, version-first, version-second}
pub use Rattle.qr_layout.proofs.lemmas.role.RoleSymmetryLemmas.{role-symmetric}
pub use Rattle.qr_layout.proofs.lemmas.strips.{Inside}
pub use Rattle.qr_layout.proofs.lemmas.region.{region-symmetric}
pub use Rattle.qr_layout.proofs.lemmas.alignment.{below, below-at}
pub use Rattle.qr_layout.proofs.lemmas.order.WalkLemmas.{to_come-start}
