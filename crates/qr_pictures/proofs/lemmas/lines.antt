-- Runs of bytes in a row of pixels.
use Rattle.std.proofs.Common.{◌≡◌, ◌≢◌, ℕ, ◌+◌, ◌-◌, ◌<◌, ◌≤◌, eqb, List, length, length-drop, length-take, get_or, take, drop, sym, ap, ◌∙◌, arith, inl, inr}
use Rattle.std.proofs.lemmas.{Bool.{cases_order, eq-eqb, eqb-true}, List.{get_or-drop, get_or-take}}
use Rattle.std.specs.Bool.{Decides}
use Rattle.qr_pictures.specs.Steps.{AreAll}

-- the first byte of a row that is not light
pub record IsFirstOther (line : List ℕ) (value i : ℕ) : Type 0 where
  pub most : i ≤ length line
  pub before : AreAll line 0 i value
  pub at : i < length line → get_or line i 0 ≢ value

-- the end of the bytes of a row that are not light
pub record IsEndOfOthers (line : List ℕ) (value i : ℕ) : Type 0 where
  pub most : i ≤ length line
  pub after : AreAll line i (length line) value
  pub at : 0 < i → get_or line (i - 1) 0 ≢ value

pub piece : (line : List ℕ) (from end k : ℕ) → k < end - from → get_or (take (end - from) (drop from line)) k 0 ≡ get_or line (from + k) 0
piece line from end k l = get_or-take (end - from) (drop from line) k 0 l ∙ get_or-drop from line k 0

pub piece-length : (line : List ℕ) (from end : ℕ) → end ≤ length line → length (take (end - from) (drop from line)) ≡ end - from
piece-length line from end l = omega (arith, length-take (end - from) (drop from line), length-drop from line)

-- all bytes are equal exactly if the first other one is at the end
pub all-decided : (line : List ℕ) (from end value i : ℕ) → end ≤ length line → IsFirstOther (take (end - from) (drop from line)) value i → Decides (eqb i (end - from)) (AreAll line from end value)
all-decided line from end value i room o =
    let len = piece-length line from end room in
    let most = o.most in (
      λ e. let f = eqb-true i (end - from) e in
          record {
            each = λ x lo hi. let l : x - from < end - from = omega arith in let lt : x - from < i = omega arith in let place : x ≡ from + (x - from) = omega arith in
                ap (λ z. get_or line z 0) place ∙ sym (piece line from end (x - from) l) ∙ o.before.each (x - from) (omega arith) lt;
          },
      λ h. eq-eqb i (end - from) (elim (cases_order i (end - from)) [
        | inl e ↦ e
        | inr other ↦ elim other [
          | inl lt ↦ absurd (o.at (omega arith) (piece line from end i lt ∙ h.each (from + i) (omega arith) (omega arith)))
          | inr gt ↦ absurd (omega arith)
        ]
      ]),
    )
