use Rattle.{qr_layout.specs.declared.level.Level.{Level, TheVariants.{L, M, Q, H}}, qr_matrix.specs.Grid.Grid}
use Rattle.qr_mending.specs.{Format.IsNearFormat, declared.format.FormatCopy.FormatCopy}
use Rattle.std.proofs.{Common.{rules, ◌≡◌, ℕ, ◌<◌, [], ◌∷◌, get_or, inl, inr, arith}, lemmas.Bool.cases_lt}
use Rattle.qr_mending.proofs.format.near_format_of.Goals as goal

-- the level with the number k
abbrev level : ℕ → Level
level k = get_or (L ∷ M ∷ Q ∷ H ∷ []) k L

-- if the copy is near to none of the four levels in the list, it is near to no level
every : (unknown : Grid) (copy : FormatCopy) (g : Grid) → ((k : ℕ) → k < 4 → (mask : ℕ) → IsNearFormat unknown copy g (level k) mask → ⊥) →
    (l : Level) (mask : ℕ) → IsNearFormat unknown copy g l mask → ⊥
every unknown copy g none L = none 0 (omega arith)
every unknown copy g none M = none 1 (omega arith)
every unknown copy g none Q = none 2 (omega arith)
every unknown copy g none H = none 3 (omega arith)

pub loop-level-preserved : goal.loop-level-preserved
loop-level-preserved c = λ u g copy h k less mask f.
    elim (cases_lt k c.loop-level.level-index) [
      | inl l ↦ c.loop-level.invariant u g copy h k l mask f
      | inr l ↦
          let e : k ≡ c.loop-level.level-index = omega arith in
          (rw c.in_default.is at c.near_mask_of.ensures) u g copy h mask (rw e at f)
    ]

pub returns : goal.returns
returns c =
    let u = c.args.scan.now.unknown.now in
    let g = c.args.scan.now.matrix.now in
    every u c.args.copy g
    (search rules)
