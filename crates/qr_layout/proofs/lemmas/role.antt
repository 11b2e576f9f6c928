pub mod RolePlaceLemmas
pub mod RoleSymmetryLemmas
