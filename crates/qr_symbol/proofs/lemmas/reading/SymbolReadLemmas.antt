-- The codewords that the bits of all modules form, and the codewords of a square under a mask pattern.
use Rattle.qr_bits.{proofs.Facts.{fault-read, length-field, length-bits_of}, specs.{Bits.{field, bits_of}, Parsing.{parse, Content, IsResultOf}}}
use Rattle.{qr_bits.specs.declared.fault.ParseFault.ParseFault, qr_layout.proofs.Facts.{Mem, col-in, order-length, order-mem, row-in, below, below-at}}
use Rattle.qr_layout.specs.{Blocks.data_codewords_of, Order.IsOrder, Region.is_in_region, Version.{side_of, total_codewords_of, remainder_bits_of}}
use Rattle.{qr_layout.specs.declared.{level.Level.Level, region.Module.Module}, qr_matrix.proofs.Facts.{colour-square, colour-transposed}}
use Rattle.{qr_matrix.specs.Grid.{Grid, colour, square, transposed}, qr_symbol.proofs.lemmas.interleaving.MessageLemmas.append-front}
use Rattle.qr_symbol.{proofs.lemmas.{placement.PlacementLemmas.at, reading.ReadLemmas.read-one}, specs.{Fault.unread_for, Interleaving.IsInterleaved}}
use Rattle.qr_symbol.specs.{Mask.{inverts, inverted}, Reading.{unmasked, IsRead, IsReadUnmasked, IsMessage, IsFormat, IsOfVersion, IsReading, IsUnread}}
use Rattle.qr_symbol.specs.{Steps.{Collecting.colour_across, Placement.region_grid}, declared.fault.ReadFault.ReadFault}
use Rattle.std.proofs.Common.{◌≡◌, ℕ, suc, ◌+◌, ◌-◌, ◌*◌, ◌/◌, ◌<◌, ◌≤◌, Bool, true, ◌&&◌, ltb, List, ◌∷◌, ◌++◌, map, take, length, sym, ◌∙◌, ap, refl, subst, length-append, inl, inr, ◌⊎◌, arith}
use Rattle.std.{proofs.lemmas.List.{append-nil, length-map, length-take, map-append, take-append-drop}, specs.{List.All, Prelude.{Err, Ok}}}
use borrow.Author.Tests.{ltb-true}
use Rattle.qr_bits.specs.declared.fault.ParseFault.TheVariants as unparsed
use Rattle.qr_symbol.specs.declared.fault.ReadFault.TheVariants as fault

-- each of the forty versions has fewer than eight remainder bits, computed
remainder-small : below 40 (λ i. ltb (remainder_bits_of (i + 1)) 8) ≡ true
unfolding remainder_bits_of
remainder-small = refl

few-left : (v : ℕ) → 1 ≤ v → v ≤ 40 → remainder_bits_of v < 8
few-left v l h =
    ltb-true _ _ (subst (λ (k : ℕ). ltb (remainder_bits_of k) 8 ≡ true) (omega arith) (below-at 40 (λ i. ltb (remainder_bits_of (i + 1)) 8) remainder-small (v - 1) (omega arith)))

-- the bits of all modules fill no more codewords than there are
pub filled-few : (v : ℕ) (f : Module → Bool) (ms : List Module) → 1 ≤ v → v ≤ 40 → IsOrder v ms → length (map f ms) / 8 ≤ total_codewords_of v
filled-few v f ms p q o = omega (arith, order-length v ms p q o, few-left v p q, length-map ms f)

-- if fewer than eight bits are left after all modules, all codewords have been read
pub all-read : (v : ℕ) (f : Module → Bool) (ms : List Module) (cw : List ℕ) (width begun : ℕ) → 1 ≤ v → v ≤ 40 → IsOrder v ms → width < 8 → bits_of cw ++ field width begun ≡ map f ms → length cw ≡ total_codewords_of v
all-read v f ms cw width begun p q o w bits =
    let many = order-length v ms p q o in search (arith, few-left, length-append, bits_of, length-map, length-bits_of, length-field)

-- the codewords that have been read have the bits of the first modules
pub read-whole : (v : ℕ) (f : Module → Bool) (ms : List Module) (cw : List ℕ) (width begun : ℕ) → 1 ≤ v → v ≤ 40 → IsOrder v ms → width < 8 → bits_of cw ++ field width begun ≡ map f ms → bits_of cw ≡ map f (take (8 * total_codewords_of v) ms)
read-whole v f ms cw width begun p q o w bits =
    let many = order-length v ms p q o in let all = all-read v f ms cw _ _ p q o w bits in
    let t = 8 * total_codewords_of v in let a = length-bits_of cw in
    let b = length-map (take t ms) f in let c = length-take t ms in
    (append-front (bits_of cw) (map f _) (field _ _) (map f _) (omega arith) (bits ∙ (ap (map f) (sym (take-append-drop t ms)) ∙ map-append f _ _))).0

-- two functions with the same values at all modules of a list
take-same : (f h : Module → Bool) (n : ℕ) (ms : List Module) → ((m : Module) → Mem m ms → f m ≡ h m) → map f (take n ms) ≡ map h (take n ms)
take-same f h (suc n) (m ∷ ms) e = let t = take-same f h n ms (λ x k. e x (inr k)) in cc (e m (inl refl))
take-same f h n ms e = refl

-- two functions with the same values in the region
order-same : (v : ℕ) (f h : Module → Bool) (n : ℕ) (ms : List Module) → IsOrder v ms → ((r c : ℕ) → r < side_of v → c < side_of v → is_in_region v r c ≡ true → f (at r c) ≡ h (at r c)) → map f (take n ms) ≡ map h (take n ms)
order-same v f h n ms o e = search (arith, take-same, order-mem, row-in, col-in)

-- the codewords that are read from the transposed square, strip by strip, are those of the square
pub read-across : (v : ℕ) (g : Grid) (ms : List Module) (cw : List ℕ) (width begun : ℕ) → 1 ≤ v → v ≤ 40
    → g.side ≡ side_of v → IsOrder v ms → All (λ x. x < 256) cw → width < 8
    → bits_of cw ++ field width begun ≡ map (colour_across g) ms → IsReadUnmasked v (transposed g) cw
read-across v g ms cw width begun p q s o bytes w bits = record {
  bytes = bytes;
  places = ms;
  order = o;
  bits = read-whole v _ ms cw _ _ p q o w bits
      ∙ order-same v _ (λ m. colour (transposed g) m.row m.col) _ ms o (λ r c l k t. sym (colour-transposed g r c (omega arith) (omega arith)));
}

-- squares with the same colours in the region contain the same codewords
pub read-same : (v : ℕ) (g h : Grid) (cw : List ℕ) → ((r c : ℕ) → r < side_of v → c < side_of v → is_in_region v r c ≡ true → colour g r c ≡ colour h r c) → IsReadUnmasked v g cw → IsReadUnmasked v h cw
read-same v g h cw e w = record {
  bytes = w.bytes;
  places = w.places;
  order = w.order;
  bits = w.bits ∙ order-same v (λ m. colour g m.row m.col) (λ m. colour h m.row m.col) _ _ w.order e;
}

-- the codewords of the square without its mask pattern are those of the square
pub read-masked : (v mask n : ℕ) (g region undone : Grid) (cw : List ℕ) → 1 ≤ v → v ≤ 40 → region ≡
    region_grid v → ((r c : ℕ) → inverts n r c ≡ inverts mask r c) → undone ≡ square (side_of v) (λ r c.
    inverted (colour region r c && inverts n r c) (colour g r c)) → IsReadUnmasked v undone cw → IsRead v mask g cw
read-masked v mask n g region undone cw p q is same e w =
    let t = 8 * total_codewords_of v in let f = unmasked mask g in
    let ms = w.places in let many = order-length v ms p q w.order in
    let none : 0 ≡ t - length ms = omega arith in
    let one : (r c : ℕ) → r < side_of v → c < side_of v → is_in_region v r c ≡ true → colour undone r c ≡ f (at r c) = search (arith, colour-square) in
    record {
      bytes = w.bytes;
      places = ms;
      order = w.order;
      bits = w.bits ∙ (order-same v (λ m. colour undone m.row m.col) f t ms w.order one ∙ (cc (append-nil (map f (take t ms)))));
    }

-- if the codewords are the final sequence of no message, the square is not read
pub not-checked : (g : Grid) (v : ℕ) (l : Level) (mask : ℕ) (cw : List ℕ) (e : ReadFault) → IsOfVersion g v → IsFormat g l mask → IsRead v mask g cw → (e ≡ fault.Memory) ⊎ (e ≡ fault.Check) → (e ≡ fault.Check → (d : List ℕ) → length d ≡ data_codewords_of v l → IsInterleaved v l d cw → ⊥) → IsUnread g e
not-checked g v l mask cw e s f r (inl m) none = subst (IsUnread g) (sym m) tt
not-checked g v l mask cw e s f r (inr k) none =
    subst (IsUnread g) (sym k) (v, s, l, mask, f, λ d h. none k d h.many (subst (IsInterleaved v l d) (read-one v mask g h.codewords cw h.read r) h.interleaved))

-- if the message is parsed, the square is read
pub is-parsed : (g : Grid) (v : ℕ) (l : Level) (mask : ℕ) (d : List ℕ) (p : Content) → IsOfVersion g v →
    IsFormat g l mask → IsMessage v l mask g d → IsResultOf (Ok p) (parse v (bits_of d)) → IsReading g p
is-parsed g v l mask d p s f h (inl e) = absurd (let k = e in cc)
is-parsed g v l mask d p s f h (inr e) = search arith

-- if the message cannot be parsed, the square is not read
pub not-parsed : (g : Grid) (v : ℕ) (l : Level) (mask : ℕ) (d : List ℕ) (e : ParseFault) → IsOfVersion g v → IsFormat g l mask
    → IsMessage v l mask g d → IsResultOf (Err e) (parse v (bits_of d)) → IsUnread g (unread_for e)
not-parsed g v l mask d unparsed.Memory s f h k = tt
not-parsed g v l mask d e s f h k = search (arith, fault-read)
