-- If only byte mode may be used, there is one valid assignment: byte mode for each byte.
use Rattle.qr_bits.proofs.lemmas.{best_modes.ChoiceLemmas.byte-used, interpretation.{length-written, written-bytes}}
use Rattle.qr_bits.proofs.lemmas.segmentation.{BackLemmas.{sum_by-runs_of, runs_of-replicate, all-used}, CoverLemmas.one-covers}
use Rattle.qr_bits.{proofs.lemmas.segmentation.SegmentLemmas.{covers-all, least_fits}, specs.Modes.{may_use, count_width}}
use Rattle.qr_bits.specs.{Segmentation.{HasFit, IsAssignment, IsNotAfter, IsLeastSegmentation, IsLongestFit}, Steps.Segmentation.one_segment}
use Rattle.qr_bits.specs.declared.{interpretation.Interpretation.Interpretation, modes.{Mode.{Mode, TheVariants.Byte}, Rule.{Rule, TheVariants.BytesOnly}}}
use Rattle.std.proofs.{Common.{◌≡◌, ℕ, ◌+◌, ◌*◌, ◌<◌, ◌≤◌, min, take, ⊎_elim, true, List, [], ◌∷◌, length, replicate, refl, sym, arith, inr}, Math.Nat.le_refl}
use Rattle.std.{proofs.lemmas.{Bool.cases_lt, List.length-take-le}, specs.List.list_all}

only-bytes : (ks : List Mode) → list_all (may_use BytesOnly) ks ≡ true → ks ≡ replicate (length ks) Byte
only-bytes [] u = refl
only-bytes (Byte ∷ ks) u = cc (only-bytes ks u)
only-bytes (_ ∷ ks) u = cc

not-after-self : (ms : List Mode) → IsNotAfter ms ms
not-after-self [] = tt
not-after-self (m ∷ ms) = inr (refl, not-after-self ms)

-- an assignment has a mode for each byte
pub assignment-length : (i : Interpretation) (r : Rule) (xs : List ℕ) (ks : List Mode) → IsAssignment i r xs ks → length ks ≡ length xs
assignment-length i r xs ks h = search (arith, length-written, covers-all, sum_by-runs_of)

one-assignment : (i : Interpretation) (xs : List ℕ) (ks : List Mode) → IsAssignment i BytesOnly xs ks → ks ≡ replicate (length xs) Byte
one-assignment i xs ks h = rw (← assignment-length i BytesOnly xs ks h) (only-bytes ks h.0)

-- byte mode for each byte is an assignment
bytes-assigned : (i : Interpretation) (r : Rule) (xs : List ℕ) → IsAssignment i r xs (replicate (length xs) Byte)
bytes-assigned i r xs =
    search (arith, written-bytes, all-used, byte-used, runs_of-replicate, one-covers)

-- If only byte mode may be used, the one segment of all bytes is the least segmentation.
pub bytes-least : (i : Interpretation) (v : ℕ) (xs : List ℕ) → IsLeastSegmentation i v BytesOnly xs xs (one_segment Byte (length xs))
bytes-least i v xs = (
  replicate (length xs) Byte,
  record {
    assignment = bytes-assigned i BytesOnly xs;
    least = λ ks h. rw (one-assignment i xs ks h) (le_refl _);
    first = λ ks h _. rw (one-assignment i xs ks h) (not-after-self _);
  },
  rw (written-bytes i xs (length xs)).1 (sym (runs_of-replicate Byte (length xs))),
  sym (written-bytes i xs (length xs)).0,
)

-- The longest prefix that fits as one byte segment is the longest prefix that fits.
pub bytes-longest : (i : Interpretation) (v : ℕ) (xs : List ℕ) (room n k : ℕ) → n ≡ min (length xs) k → 4 + count_width v Byte + 8 * k ≤ room → room < 4 + count_width v Byte + 8 * (k + 1)
    → IsLongestFit i v BytesOnly xs room n
bytes-longest i v xs room n k e fits most =
    let inside : n ≤ length xs = omega arith in
    let len = length-take-le n xs inside in
    record {
      inside = inside;
      fits = ((least_fits i v BytesOnly (take n xs) _ _ (bytes-least i v (take n xs))).1 room).1 (search arith);
      longest = λ j h fit.
          ⊎_elim (λ (none : j < 1). omega arith) (λ (some : 1 ≤ j).
          grind (arith, length-take-le, ((least_fits i v BytesOnly (take j xs) _ _ (bytes-least i v (take j xs))).1 room).0 fit)) (cases_lt j 1);
    }

-- An input fits where it fits in byte mode alone.
pub bytes-fit : (i : Interpretation) (v : ℕ) (r : Rule) (xs : List ℕ) (room : ℕ) → 4 + count_width v Byte + 8 * length xs ≤ room → HasFit i v r xs room
bytes-fit i v r xs room few =
    (replicate (length xs) Byte, bytes-assigned i r xs, rw ((written-bytes i xs (length xs)).1, runs_of-replicate Byte (length xs)) (search arith))
