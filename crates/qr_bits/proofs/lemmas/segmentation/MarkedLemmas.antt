-- GS1 data without `%` has the least segmentation of its marked copy, in which `%` stands for each separator. The
-- characters of the copy are those of the data in alphanumeric mode, and in the other modes they are the bytes.
use Rattle.std.proofs.Common.{◌≡◌, ℕ, ◌+◌, ◌-◌, ◌≤◌, Bool, true, false, List, [], ◌∷◌, ◌++◌, length, map, take, drop, sum_by, append_assoc, length-drop, refl, sym, ap, ◌∙◌, arith}
use Rattle.std.proofs.lemmas.{Bool.and_parts, List.{drop-drop, drop-map, length-map, length-take-le, take-map, take-append-drop, Folds.list_all-append, Sums.sum_by-cons}, Slice.{drop-put_mid, take-put_mid}}
use Rattle.std.{proofs.Math.Seq.take-add, specs.List.list_all}
use borrow.Rule.Slice.PartMut.{put_mid, same_len_mid}
use Rattle.qr_bits.specs.declared.{modes.Mode.Mode, modes.Mode.TheVariants.{Alphanumeric}, modes.Rule.Rule, segmentation.Segment.Segment, run_state.RunState.{RunState, TheVariants.Start}}
use Rattle.qr_bits.specs.{declared.interpretation.Interpretation.TheVariants.{Default, Gs1}, Interpretation.{character_for, doubled_gs1, is_doubled}}
use Rattle.qr_bits.specs.{Modes.is_kanji_pair, Segmentation.{IsAssignment, IsLeastSegmentation}, Steps.Segmentation.{written_in, is_single, marked, written}}
use Rattle.qr_bits.specs.Steps.RunState.{allowed_in, begins_with_pair, may_begin, may_take, state_after}
use Rattle.qr_bits.proofs.lemmas.segmentation.{AssignedLemmas.{allowed-assigned, assigned-allowed}, BackLemmas.sum_by-runs_of, BytesOnlyLemmas.assignment-length, RunLemmas.{escaped-marked, runs-written}}

-- a byte other than `%` is one character
single-one : (x : ℕ) (m : Mode) → is_single x ≡ true → is_doubled Gs1 x m ≡ false
single-one x m h = grind arith

-- so the modes of the characters are those of the bytes
single-modes : (xs : List ℕ) (ms : List Mode) → list_all is_single xs ≡ true → doubled_gs1 xs ms ≡ ms
unfolding doubled_gs1
single-modes [] ms h = refl
single-modes (x ∷ xs) [] h = refl
single-modes (x ∷ xs) (m ∷ ms) h =
    let parts = and_parts (is_single x) (list_all is_single xs) h in
    rw (single-one x m parts.0, single-modes xs ms parts.1) refl

pairs-marked : (r : Rule) (xs : List ℕ) → begins_with_pair r is_kanji_pair (map marked xs) ≡ begins_with_pair r is_kanji_pair xs
unfolding begins_with_pair is_kanji_pair
pairs-marked r xs = search arith

-- a marked byte may have the modes that the character of the byte may have
take-marked : (r : Rule) (p : RunState) (x : ℕ) (pair : Bool) (m : Mode) → may_take r p (marked x) pair m ≡ may_take r p (character_for Gs1 x m) pair m
unfolding may_take may_begin
take-marked r p x pair m = grind arith

-- the marked copy may have the modes that the bytes may have
allowed-marked : (r : Rule) (p : RunState) (xs : List ℕ) (ms : List Mode) → list_all is_single xs ≡ true
    → allowed_in Gs1 r is_kanji_pair p xs ms ≡ allowed_in Default r is_kanji_pair p (map marked xs) ms
unfolding allowed_in
allowed-marked r p [] [] h = refl
allowed-marked r p [] (m ∷ ms) h = refl
allowed-marked r p (x ∷ xs) [] h = refl
allowed-marked r p (x ∷ xs) (m ∷ ms) h =
    let parts = and_parts (is_single x) (list_all is_single xs) h in
    rw (single-one x m parts.0, pairs-marked r (x ∷ xs), take-marked r p x (begins_with_pair r is_kanji_pair (x ∷ xs)) m, allowed-marked r (state_after p m) xs ms parts.1) refl

to-marked : (r : Rule) (xs : List ℕ) (ms : List Mode) → list_all is_single xs ≡ true → IsAssignment Gs1 r xs ms → IsAssignment Default r (map marked xs) ms
to-marked r xs ms h a = allowed-assigned Default r (map marked xs) ms (sym (allowed-marked r Start xs ms h) ∙ assigned-allowed Gs1 r xs ms a)

from-marked : (r : Rule) (xs : List ℕ) (ms : List Mode) → list_all is_single xs ≡ true → IsAssignment Default r (map marked xs) ms → IsAssignment Gs1 r xs ms
from-marked r xs ms h a = search (arith, allowed-assigned, allowed-marked, assigned-allowed)

-- Without `%`, the segments of the marked copy are those of the bytes.
pub least-marked : (v : ℕ) (r : Rule) (xs : List ℕ) (segs : List Segment) → list_all is_single xs ≡ true
    → IsLeastSegmentation Default v r (map marked xs) (map marked xs) segs → IsLeastSegmentation Gs1 v r xs (written_in xs segs) segs
least-marked v r xs segs single h =
    let ms = h.0 in
    let assignment = from-marked r xs ms single h.1.assignment in
    let runs = runs-written xs ms (sym (assignment-length Gs1 r xs ms assignment)) in search (arith, single-modes, to-marked)

-- the lengths of the segments of the least segmentation of the marked copy add up to that of the bytes
pub marked-length : (v : ℕ) (r : Rule) (xs ys : List ℕ) (segs : List Segment) → IsLeastSegmentation Default v r (map marked xs) ys segs → sum_by (λ s. s.len) segs ≡ length xs
marked-length v r xs ys segs h =
    rw h.2 (sum_by-runs_of h.0 ∙ assignment-length Default r (map marked xs) h.0 h.1.assignment ∙ length-map xs marked)

single-parts : (n : ℕ) (xs : List ℕ) → list_all is_single xs ≡ true → (list_all is_single (take n xs) ≡ true) × (list_all is_single (drop n xs) ≡ true)
single-parts n xs h = and_parts _ _ (sym (list_all-append is_single (take n xs) (drop n xs)) ∙ rw (take-append-drop n xs) h)

-- the marked copy `cs` of the bytes `xs`, of which the segments before `ss` and the first `b` characters are restored
pub record IsRestored (xs : List ℕ) (segs : List Segment) (cs : List ℕ) (b : ℕ) (ss : List Segment) : Type 0 where
  pub so_far : written_in xs segs ≡ take b cs ++ written_in (drop b xs) ss
  pub rest : drop b cs ≡ map marked (drop b xs)
  pub len : b + sum_by (λ s. s.len) ss ≡ length xs
  pub same : length cs ≡ length xs

-- one more segment is restored
restored : (xs : List ℕ) (segs : List Segment) (cs ds : List ℕ) (b e : ℕ) (s : Segment) (ss : List Segment) → IsRestored xs segs cs b (s ∷ ss) → e ≡ b + s.len
    → take e ds ≡ take b cs ++ written s.mode (take s.len (drop b xs)) → drop e ds ≡ drop e cs → length ds ≡ length cs → IsRestored xs segs ds e ss
unfolding written_in
restored xs segs cs ds b e s ss h is front back all =
    let next : drop s.len (drop b xs) ≡ drop e xs = drop-drop s.len b xs ∙ ap (λ (n : ℕ). drop n xs) (sym is) in
    let rest : drop e cs ≡ drop s.len (drop b cs) = ap (λ (n : ℕ). drop n cs) is ∙ sym (drop-drop s.len b cs) in
    record {
      so_far = search (arith, append_assoc);
      rest = search (arith, drop-map);
      len = omega (arith, sum_by-cons (λ (t : Segment). t.len) s ss);
      same = all ∙ h.same;
    }

-- in alphanumeric mode the marked bytes are the characters
pub restored-marked : (xs : List ℕ) (segs : List Segment) (cs : List ℕ) (b e : ℕ) (s : Segment) (ss : List Segment) → list_all is_single xs ≡ true → IsRestored xs segs cs b (s ∷ ss) → e ≡ b + s.len
    → s.mode ≡ Alphanumeric → IsRestored xs segs cs e ss
restored-marked xs segs cs b e s ss single h is mode =
    let part = (single-parts s.len (drop b xs) (single-parts b xs single).1).0 in
    let own : take s.len (drop b cs) ≡ written s.mode (take s.len (drop b xs)) = rw (h.rest, mode, escaped-marked (take s.len (drop b xs)) part) (take-map marked s.len (drop b xs)) in
    restored xs segs cs cs b e s ss h is (rw is (take-add b s.len cs) ∙ ap (λ (r : List ℕ). take b cs ++ r) own) refl refl

-- in the other modes the bytes are copied
pub restored-copied : (xs : List ℕ) (segs : List Segment) (cs ys : List ℕ) (b e : ℕ) (s : Segment) (ss : List Segment) → IsRestored xs segs cs b (s ∷ ss) → e ≡ b + s.len
    → ys ≡ take (e - b) (drop b xs) → written s.mode (take s.len (drop b xs)) ≡ take s.len (drop b xs) → IsRestored xs segs (put_mid b (e - b) cs ys) e ss
restored-copied xs segs cs ys b e s ss h is new mode =
    let n : e - b ≡ s.len = omega arith in
    let inside : b + s.len ≤ length xs = omega (arith, sum_by-cons (λ (t : Segment). t.len) s ss) in
    let long : length ys ≡ e - b = rw new (length-take-le (e - b) (drop b xs) (omega (arith, length-drop b xs))) in
    let first : b ≤ length cs = omega arith in
    restored xs segs cs (put_mid b (e - b) cs ys) b e s ss h is
    (take-put_mid b (e - b) cs ys e (omega arith) first ∙ rw (new, n, mode) refl)
    (drop-put_mid b (e - b) cs ys e (omega arith) first long)
    (same_len_mid b (e - b) cs ys (long ∙ sym (length-take-le (e - b) (drop b cs) (omega (arith, length-drop b cs)))))
