-- Squares that were found are written one by one.
use Rattle.std.proofs.{Common.{◌≡◌, ◌∙◌, ◌⊎◌, ℕ, ◌+◌, ◌*◌, ◌<◌, ◌≤◌, List, [], ◌∷◌, ◌++◌, length, map, take, drop, get_or, slice_index_or, append_assoc, ap, arith, inl, inr, subst, sym}, Math.ListN.set}
use Rattle.std.proofs.{Math.Seq.{drop-cons, set-append_seam}, lemmas.{Bool.cases_lt, List.{take_more, get_or-map, get_or_default, length-map, length-take-le}}}
use Rattle.std.specs.List.{All}
use Rattle.qr_scanning.specs.declared.scanning.Scanned.{Scanned}
use Rattle.qrproved.specs.{declared.finding.QrprovedFound.QrprovedFound, Finding.{told_found, HoldsScanned}}

-- after the value of item i is written, the buffer begins with the values of the first i + 1 items
next-written : {X Y : Type 0} (f : X → Y) (xs : List X) (out : List Y) (i : ℕ) (d : X) → i < length xs → i < length out
    → set (take i (map f xs) ++ drop i out) i (f (get_or xs i d)) ≡ take (i + 1) (map f xs) ++ drop (i + 1) out
next-written f xs out i d h k =
    let told = map f xs in
    let front = take i told in
    let x = f (get_or xs i d) in
    let e = get_or out i x in
    let many : length told ≡ length xs = length-map xs f in
    let len : length front ≡ i = length-take-le i told (omega (arith, many)) in
    let rest : drop i out ≡ e ∷ drop (i + 1) out = search (arith, drop-cons) in
    let put : set (front ++ e ∷ drop (i + 1) out) (length front) x ≡ front ++ x ∷ drop (i + 1) out = set-append_seam front e (drop (i + 1) out) x in
    cc (take_more told i x (omega (arith, many)), get_or-map f xs i d x h, append_assoc front (x ∷ []) (drop (i + 1) out))

-- the same of the structs of squares
pub struct-next : (squares : List Scanned) (out : List QrprovedFound) (i : ℕ) (d : Scanned) → i < length squares → i < length out
    → set (take i (map told_found squares) ++ drop i out) i (told_found (get_or squares i d)) ≡ take (i + 1) (map told_found squares) ++ drop (i + 1) out
struct-next squares out i d h k = next-written told_found squares out i d h k

-- the modules of a square fit its place
pub fits-place : (squares : List Scanned) (s : Scanned) (i : ℕ) → i < length squares → s ≡ slice_index_or squares i s
    → All (λ (z : Scanned). length z.modules.items ≤ 31329) squares → length s.modules.items ≤ 31329
fits-place squares s i l is small = subst (λ (z : Scanned). length z.modules.items ≤ 31329) (sym is) (small i s l)

-- after a square is written in its place, the squares up to it are written
pub scanned-more : (squares : List Scanned) (s : Scanned) (i start : ℕ) (bytes before mid after : List ℕ)
    → i < length squares → s ≡ slice_index_or squares i s → All (λ (z : Scanned). length z.modules.items ≤ 31329) squares
    → bytes ≡ s.modules.items → start ≡ i * 31329
    → ((k : ℕ) (d : Scanned) → k < i → HoldsScanned (slice_index_or squares k d) (k * 31329) before mid)
    → ((j : ℕ) → start ≤ j → slice_index_or mid j 0 ≡ slice_index_or before j 0)
    → ((j : ℕ) → j < length bytes → slice_index_or after (start + j) 0 ≡ slice_index_or bytes j 0)
    → ((j : ℕ) → (j < start) ⊎ (start + length bytes ≤ j) → slice_index_or after j 0 ≡ slice_index_or mid j 0)
    → (k : ℕ) (d : Scanned) → k < i + 1 → HoldsScanned (slice_index_or squares k d) (k * 31329) before after
scanned-more squares s i start bytes before mid after inside is small same at each kept written others k d l = elim (cases_lt k i) [
  | inl a ↦
      let old = each k d a in
      let few : length (slice_index_or squares k d).modules.items ≤ 31329 = small k d (omega arith) in
      record {
        modules = λ j m. others (k * 31329 + j) (inl (omega (arith, at, few))) ∙ old.modules j m;
        others = λ j g m. others (k * 31329 + j) (inl (omega (arith, at))) ∙ old.others j g m;
      }
  | inr b ↦
      let here : k ≡ i = omega arith in
      let this : slice_index_or squares k d ≡ s = ap (λ (n : ℕ). slice_index_or squares n d) here ∙ (get_or_default squares i d s inside ∙ sym is) in
      let long : length bytes ≡ length s.modules.items = ap (λ (xs : List ℕ). length xs) same in
      let place : (j : ℕ) → k * 31329 + j ≡ start + j = λ j. omega (arith, at, here) in
      subst (λ (z : Scanned). HoldsScanned z (k * 31329) before after) (sym this) (record {
        modules = λ j m. ap (λ (n : ℕ). slice_index_or after n 0) (place j) ∙ (written j (omega (arith, long)) ∙ ap (λ (xs : List ℕ). slice_index_or xs j 0) same);
        others = λ j g m. ap (λ (n : ℕ). slice_index_or after n 0) (place j) ∙ (others (start + j) (inr (omega (arith, long)))
            ∙ (kept (start + j) (omega arith) ∙ ap (λ (n : ℕ). slice_index_or before n 0) (sym (place j))));
      })
]
