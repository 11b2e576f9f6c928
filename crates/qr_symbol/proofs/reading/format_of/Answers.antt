use Rattle.{qr_layout.specs.declared.level.Level.{Level, TheVariants.{L, M, Q, H}}, qr_matrix.specs.Grid.Grid, qr_symbol.specs.Reading.IsFormat}
use Rattle.std.proofs.{Common.{rules, ℕ, ◌<◌, [], ◌∷◌, get_or, inl, inr, arith}, lemmas.Bool.cases_lt}
use Rattle.qr_symbol.proofs.reading.format_of.Goals as goal

-- the level with the number k
abbrev level : ℕ → Level
level k = get_or (L ∷ M ∷ Q ∷ H ∷ []) k L

-- if the square has the format information of none of the four levels in the list, it has that of no level
every : (g : Grid) → ((k : ℕ) → k < 4 → (mask : ℕ) → IsFormat g (level k) mask → ⊥) → (l : Level) (mask : ℕ) → IsFormat g l mask → ⊥
every g none L = none 0 (omega arith)
every g none M = none 1 (omega arith)
every g none Q = none 2 (omega arith)
every g none H = none 3 (omega arith)

pub loop-level-preserved : goal.loop-level-preserved
loop-level-preserved c = λ k less mask f. elim (cases_lt k _) [
  | inl l ↦ c.loop-level.invariant k l mask f
  | inr l ↦ c.in_default.ensures mask (search rules)
]

pub returns : goal.returns
returns c = every c.args.matrix.now (λ k l. c.loop-level.invariant k (omega (arith, c.loop-level-test.false)))
