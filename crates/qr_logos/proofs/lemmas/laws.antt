-- A symbol with a logo is a damaged form of the symbol without the logo.
use Rattle.{qr_bits.specs.Bits.{bits_of, field}, qr_field.proofs.lemmas.laws.DistanceLemmas.{difference-most, difference-same}}
use Rattle.{qr_field.specs.Distance.{difference, differences}, qr_layout.{proofs.Facts.{format-second, only-order}, specs.{Blocks.{blocks_of, correctable_of}, Format.format_word_of, Order.IsOrder}}}
use Rattle.qr_layout.specs.{Region.is_corner, Version.{side_of, total_codewords_of}, declared.{level.Level.Level, region.Module.Module}}
use Rattle.qr_matrix.{proofs.Facts.{colour-square}, specs.{BitRow.has_bit, Difference.differs, Grid.{Grid, colour, is_same, light}}}
use Rattle.qr_mending.specs.declared.{erasures.Changes.Changes, format.FormatCopy.{FormatCopy, TheVariants.{First, Second}}}
use Rattle.qr_mending.proofs.Facts.{bits-alike, codeword-read, codewords-bits, codewords-many, copy-light, final-in-blocks, in-blocks-one, item}
use Rattle.qr_mending.proofs.Facts.{items-in-blocks, light-mended, mended-reading-one, received-all, received-map, sure-format, unerased}
use Rattle.qr_mending.specs.{Format.{bit_difference, bit_differences, copy_bit, copy_place}, Mending.{HasFormat, HoldsDamaged, IsMendedReading}, Message.{modules_of, received, AreIndices}}
use Rattle.qr_symbol.proofs.Facts.{bits-one, data-sizes-whole, format-read, read-some, symbol-holds, symbol-parsed}
use Rattle.qr_symbol.specs.{Interleaving.{block_count, blocks_in, codeword_count, data_sizes, part_of}, Reading.{unmasked, IsMessage, IsRead}}
use Rattle.qr_symbol.specs.{Encoding.IsSymbolAt, Reading.interpreted_content, Symbol.{colour_of, grid_of}}
use Rattle.qr_bits.specs.{Interpretation.MayWrite, declared.{interpretation.Interpretation.Interpretation, modes.Rule.Rule, stream.Header.Header}}
use Rattle.qr_logos.specs.{Logo.{is_under, is_covered, IsAllowed, IsClear, IsMostCovered}, Laws.{is_worn, IsMendedOnlyAs, IsUnderLogo, IsWorn}}
use Rattle.std.proofs.Common.{◌≡◌, ℕ, zero, suc, ◌+◌, ◌-◌, ◌*◌, ◌<◌, ◌≤◌, ◌&&◌, ◌||◌, Bool, true, false, not, cond, List, [], ◌∷◌, ◌++◌, map, length, get_or, refl, sym, ◌∙◌, ap, arith}
use Rattle.std.proofs.lemmas.{Bool.Decides.nat_tests, List.{Elements.{All-nil, All-cons, All-head, All-tail}, FromFn.{get_or-map-range_with_len, length-map-range_with_len}, Sums.sum_by-cons}}
use Rattle.std.specs.{List.{All, count_by, list_any, range_with_len}, Prelude.Option}

-- a module has different colours in two squares
abbrev differs_at : Grid → Grid → Module → Bool
differs_at g h m = differs g h m.row m.col

-- a codeword has a module with different colours in two squares
abbrev is_wrong : Grid → Grid → List Module → ℕ → Bool
is_wrong g h places j = list_any (differs_at g h) (modules_of places j)

-- ---- one codeword

or-none : (a b : Bool) → a || b ≡ false → (a ≡ false) × (b ≡ false)
or-none a b e = grind (arith, nat_tests)

not-same : (a b : Bool) → not (is_same a b) ≡ false → a ≡ b
not-same a b e = grind (arith, nat_tests)

-- if no module differs, the same bits are read
same-bits : (mask : ℕ) (g h : Grid) (ms : List Module) → list_any (differs_at g h) ms ≡ false →
    map (unmasked mask g) ms ≡ map (unmasked mask h) ms
same-bits mask g h [] e = refl
same-bits mask g h (m ∷ ms) e =
    let w = or-none (differs_at g h m) (list_any (differs_at g h) ms) e in
    let here : colour g m.row m.col ≡ colour h m.row m.col = not-same (colour g m.row m.col) (colour h m.row m.col) w.0 in
    cc (same-bits mask g h ms w.1)

-- bytes with the same eight bits are equal
byte-one : (a b : ℕ) → a < 256 → b < 256 → field 8 a ≡ field 8 b → a ≡ b
unfolding bits_of
byte-one a b l m e =
    let single = λ (x : ℕ) (l : x < 256). All-cons (λ y. y < 256) x [] l (All-nil (λ y. y < 256)) in
    cc (bits-one (a ∷ []) (b ∷ []) (single a l) (single b m) (ap (λ (z : List Bool). z ++ []) e))

-- codeword j is the same in two squares if none of its modules differs
same-codeword : (v mask : ℕ) (g h : Grid) (ms : List Module) (cs ds : List ℕ) (j : ℕ) → 1 ≤ v → v ≤ 40 →
    IsOrder v ms → IsRead v mask g cs → IsRead v mask h ds → j < total_codewords_of v → is_wrong g h ms j ≡ false →
    get_or cs j 0 ≡ get_or ds j 0
same-codeword v mask g h ms cs ds j p q o a b l e =
    let n = total_codewords_of v in
    let many = codewords-many v mask g cs p q a in
    let many2 = codewords-many v mask h ds p q b in
    byte-one (get_or cs j 0) (get_or ds j 0) (a.bytes j 0 (omega arith)) (b.bytes j 0 (omega arith))
    (codeword-read (unmasked mask g) ms cs n j (codewords-bits v mask g ms cs p q o a) many l
    ∙ (same-bits mask g h (modules_of ms j) e
    ∙ sym (codeword-read (unmasked mask h) ms ds n j (codewords-bits v mask h ms ds p q o b) many2 l)))

-- codeword j of two squares counts as different only if one of its modules differs
wrong-most : (v mask : ℕ) (g h : Grid) (ms : List Module) (cs ds : List ℕ) (j : ℕ) → 1 ≤ v → v ≤ 40 →
    IsOrder v ms → IsRead v mask g cs → IsRead v mask h ds → j < total_codewords_of v →
    difference (item cs j) (item ds j) ≤ cond (is_wrong g h ms j) 1 0
wrong-most v mask g h ms cs ds j p q o a b l = by-case (is_wrong g h ms j) refl
  where
    by-case : (w : Bool) → is_wrong g h ms j ≡ w → difference (item cs j) (item ds j) ≤ cond w 1 0
    by-case true e = difference-most (item cs j) (item ds j)
    by-case false e = omega (arith, difference-same (item cs j) (item ds j) (same-codeword v mask g h ms cs ds j p q o a b l e))

-- ---- one block

-- codewords at the same indices differ at most as their modules do
items-most : (f : ℕ → Bool) (cs ds ks : List ℕ) → All (λ k. difference (item cs k) (item ds k) ≤ cond (f k) 1 0) ks →
    differences (map (item cs) ks) (map (item ds) ks) ≤ count_by f ks
items-most f cs ds [] h = omega arith
items-most f cs ds (k ∷ ks) h =
    let near : ℕ → Type 0 = λ k. difference (item cs k) (item ds k) ≤ cond (f k) 1 0 in
    omega (arith, All-head near k ks h, items-most f cs ds ks (All-tail near k ks h), sum_by-cons (λ (k : ℕ). cond (f k) 1 0) k ks)

-- what is counted passes a second test, or does not pass it
split-one : (a b : Bool) → cond a 1 0 ≤ cond b 1 0 + cond (a && not b) 1 0
split-one true true = omega arith
split-one true false = omega arith
split-one false true = omega arith
split-one false false = omega arith

split-count : (f g : ℕ → Bool) (ks : List ℕ) → count_by f ks ≤ count_by g ks + count_by (λ k. f k && not (g k)) ks
split-count f g [] = omega arith
split-count f g (k ∷ ks) =
    omega (
      arith,
      split-one (f k) (g k),
      split-count f g ks,
      sum_by-cons (λ (k : ℕ). cond (f k) 1 0) k ks,
      sum_by-cons (λ (k : ℕ). cond (g k) 1 0) k ks,
      sum_by-cons (λ (k : ℕ). cond (f k && not (g k)) 1 0) k ks,
    )

-- ---- the message

-- a square that differs from a symbol in few codewords of each block contains a damaged form of its message
pub wrong-damaged : (v : ℕ) (l : Level) (mask : ℕ) (g h : Grid) (d : List ℕ) (places : List Module) (ks js : List ℕ) → 1 ≤ v → v ≤ 40 →
    IsMessage v l mask h d → IsOrder v places → AreIndices v l ks js →
    ((i : ℕ) → i < blocks_in v l → count_by (is_wrong g h places) (received (blocks_of v l) ks js i) ≤ correctable_of v l) →
    (changed : List Changes) × HoldsDamaged (light g.side) v l mask g d changed
wrong-damaged v l mask g h d places ks js p q m order indexed few =
    let b = blocks_of v l in
    let own = data_sizes b in
    let n = total_codewords_of v in
    let read = read-some v mask g p q in
    let cw = read.0 in
    let sent = m.codewords in
    let xs = map (item cw) ks in
    let es = map (item cw) js in
    let long : length d ≡ codeword_count own = m.many ∙ sym (data-sizes-whole v l p q) in
    let whole = final-in-blocks b d sent long m.interleaved in
    let inside = items-in-blocks b n cw ks js (codewords-many v mask g cw p q read.1) indexed in
    let also = items-in-blocks b n sent ks js (codewords-many v mask h sent p q m.read) indexed in
    let same = in-blocks-one b sent (map (item sent) ks) (map (item sent) js) d whole.checks also whole.inside in
    let checks = m.interleaved.corrections in
    let block : ℕ → List ℕ = λ i. part_of own d i ++ get_or checks i [] in
    let count : ℕ → ℕ = λ i. differences (received b xs es i) (block i) in
    let changed = map count (range_with_len 0 (block_count own)) in
    let bound : (i : ℕ) → i < block_count own → count i ≤ count_by (is_wrong g h places) (received b ks js i) =
    λ i r.
    let x = received-map b (item cw) ks js i in
    let y : map (item sent) (received b ks js i) ≡ block i =
    cc (received-map b (item sent) ks js i, whole.same i r) in
    let all = received-all b (λ k. difference (item cw k) (item sent k) ≤ cond (is_wrong g h places k) 1 0) n ks js i
    (λ k r. wrong-most v mask g h places cw sent k p q order read.1 m.read r) indexed in
    rw (x, ← y) (items-most (is_wrong g h places) cw sent (received b ks js i) all) in (
      map unerased changed,
      record {
        codewords = cw;
        held = read.1;
        mended =
            light-mended v mask g.side l g cw xs es d changed p q read.1 inside (record {
              long = long;
              many = length-map-range_with_len count 0 (block_count own);
              each = λ i r. rw (get_or-map-range_with_len count 0 (block_count own) i i 0 r (omega arith)) (record {
                correction = get_or checks i [];
                corrects = m.interleaved.each i r;
                few = omega (arith, bound i r, few i r);
                count = refl;
              });
            });
      },
    )

-- ---- the format information

-- the bits of each copy in a symbol are those of the word of its level and mask
shown : (copy : FormatCopy) (v : ℕ) (l : Level) (mask : ℕ) (cw : List ℕ) (i : ℕ) → 1 ≤ v →
    v ≤ 40 → mask < 8 → i < 15 → copy_bit copy (grid_of v l mask cw) i ≡ has_bit (format_word_of l mask) i
unfolding colour_of
shown First v l mask cw i p q h r = (format-read v l mask cw p q h).bits i r
shown Second v l mask cw i p q h r = search (arith, colour-square, format-second, nat_tests)

-- the format information of the square costs at most 12
pub near-format : (v : ℕ) (l : Level) (mask : ℕ) (cw : List ℕ) (g h : Grid) → 1 ≤ v → v ≤ 40 → mask < 8 → h ≡ grid_of v l mask cw →
    bit_differences 15 (copy_bit First g) (copy_bit First h) + bit_differences 15 (copy_bit Second g) (copy_bit Second h) ≤ 6 →
    HasFormat (light g.side) v g l mask
near-format v l mask cw g h p q small e few =
    let word = has_bit (format_word_of l mask) in
    let first = bits-alike 15 (copy_bit First g) word (copy_bit First g) (copy_bit First h) (λ i k. refl)
    (λ i k. rw e (sym (shown First v l mask cw i p q small k))) in
    let second = bits-alike 15 (copy_bit Second g) word (copy_bit Second g) (copy_bit Second h) (λ i k. refl)
    (λ i k. rw e (sym (shown Second v l mask cw i p q small k))) in
    let cost = copy-light g.side in
    sure-format (light g.side) g v l mask small (omega (arith, cost First g l mask, cost Second g l mask))

-- ---- a symbol with a logo and further damage

-- few codewords of each block are wrong if the logo covers few, and few others are wrong
worn-few : (v : ℕ) (l : Level) (k n more : ℕ) (g h : Grid) → (w : IsWorn v l k more g h) → IsMostCovered v l k n →
    n + more ≤ correctable_of v l → (i : ℕ) → i < blocks_in v l →
    count_by (is_wrong g h w.places) (received (blocks_of v l) w.indices w.checks i) ≤ correctable_of v l
worn-few v l k n more g h w m most i r =
    let ks = received (blocks_of v l) w.indices w.checks i in
    let order = only-order v m.places w.places m.order w.order in
    let inside = in-blocks-one (blocks_of v l) (range_with_len 0 (total_codewords_of v)) m.indices m.checks w.indices w.checks m.inside w.inside in
    let covered : count_by (is_covered v k w.places) ks ≤ n = rw (order, inside.0, inside.1) at (m.most i r) in
    omega (arith, split-count (is_wrong g h w.places) (is_covered v k w.places) ks, covered, w.few i r, most)

-- the square `g` is the symbol of the input `x` with a logo and further damage
module _ (v : ℕ) (l : Level) (rule : Rule) (how : Interpretation) (x : List ℕ) (header : Option Header) (mask : ℕ)
    (symbol g : Grid) (k n more : ℕ) (least : 1 ≤ v) (most : v ≤ 40) (may : MayWrite how x)
    (s : IsSymbolAt v l rule how x header mask symbol) (w : IsWorn v l k more g symbol)
    (m : IsMostCovered v l k n) (few : n + more ≤ correctable_of v l) where
  -- its message can be mended
  worn-damaged : (changed : List Changes) × HoldsDamaged (light g.side) v l mask g s.message changed
  worn-damaged =
      wrong-damaged v l mask g symbol s.message w.places w.indices w.checks least most
      (symbol-holds v l rule how x header mask symbol least most s) w.order w.inside
      (worn-few v l k n more g symbol w m few)

  -- it is mended, and read as the input
  worn-reading : IsMendedReading (light g.side) g v l mask (interpreted_content how header s.segments x) worn-damaged.0
  worn-reading = record {
    message = s.message;
    form = record {
      sized = record {
        least = least;
        most = most;
        side = w.side ∙ ap (λ (z : Grid). z.side) s.drawn;
      };
      format = near-format v l mask s.codewords g symbol least most s.best.in_range s.drawn w.format;
      damaged = worn-damaged.1;
    };
    parsed = symbol-parsed v l rule how x header mask symbol may s;
  }

  -- it is read as the input, and as nothing else
  pub worn-read : IsMendedOnlyAs g v l mask (interpreted_content how header s.segments x)
  worn-read = record {
    changed = worn-damaged.0;
    reading = worn-reading;
    only = λ u j a other y h.
        let z = mended-reading-one (light g.side) g u v j l a mask other (interpreted_content how header s.segments x) y worn-damaged.0 h worn-reading in
        (z.0, z.1, z.2, z.3);
  }

-- ---- a symbol with a logo and no further damage

same-self : (b : Bool) → not (is_same b b) ≡ false
same-self b = grind (arith, nat_tests)

and-none : (a : Bool) → a && not true ≡ false
and-none a = grind (arith, nat_tests)

and-left : (a b : Bool) → a ≡ false → a && b ≡ false
and-left a b e = grind (arith, nat_tests)

or-both : (a b c d : Bool) → a && not c ≡ false → b && not d ≡ false → (a || b) && not (c || d) ≡ false
or-both a b c d e f = grind (arith, nat_tests)

-- no module differs that is not under the logo
beside-one : (v k : ℕ) (g h : Grid) → IsUnderLogo v k g h → (m : Module) →
    differs_at g h m && not (is_under v k m.row m.col) ≡ false
beside-one v k g h w m = by-case (is_under v k m.row m.col) refl
  where
    by-case : (b : Bool) → is_under v k m.row m.col ≡ b → differs_at g h m && not b ≡ false
    by-case true e = and-none (differs_at g h m)
    by-case false e = and-left (differs_at g h m) (not false) (rw (w.beside m.row m.col e) (same-self (colour h m.row m.col)))

beside-none : (v k : ℕ) (g h : Grid) → IsUnderLogo v k g h → (ms : List Module) →
    list_any (differs_at g h) ms && not (list_any (λ m. is_under v k m.row m.col) ms) ≡ false
beside-none v k g h w [] = refl
beside-none v k g h w (m ∷ ms) =
    or-both (differs_at g h m) (list_any (differs_at g h) ms) (is_under v k m.row m.col) (list_any (λ m. is_under v k m.row m.col) ms)
    (beside-one v k g h w m) (beside-none v k g h w ms)

-- nothing is counted
count-none : (f : ℕ → Bool) (ks : List ℕ) → ((k : ℕ) → f k ≡ false) → count_by f ks ≡ 0
count-none f [] e = refl
count-none f (k ∷ ks) e =
    let here = ap (λ (b : Bool). cond {A = ℕ} b 1 0) (e k) in
    omega (arith, here, count-none f ks e, sum_by-cons (λ (k : ℕ). cond (f k) 1 0) k ks)

-- the modules of format information are in the corners
format-corner : (copy : FormatCopy) (v i : ℕ) → 1 ≤ v → i < 15 →
    is_corner (side_of v) (copy_place copy (side_of v) i).row (copy_place copy (side_of v) i).col ≡ true
format-corner First v i p l = grind (arith, nat_tests)
format-corner Second v i p l = grind (arith, nat_tests)

-- the modules of format information are not under the logo
format-beside : (copy : FormatCopy) (v k i : ℕ) → 1 ≤ v → i < 15 → IsClear v k →
    is_under v k (copy_place copy (side_of v) i).row (copy_place copy (side_of v) i).col ≡ false
format-beside copy v k i p l clear =
    by-case (is_under v k (copy_place copy (side_of v) i).row (copy_place copy (side_of v) i).col) refl
  where
    by-case : (b : Bool) → is_under v k (copy_place copy (side_of v) i).row (copy_place copy (side_of v) i).col ≡ b →
        is_under v k (copy_place copy (side_of v) i).row (copy_place copy (side_of v) i).col ≡ false
    by-case true e = absurd (grind (arith, nat_tests, format-corner copy v i p l, clear (copy_place copy (side_of v) i).row (copy_place copy (side_of v) i).col e))
    by-case false e = e

bit-self : (b : Bool) → bit_difference b b ≡ 0
bit-self true = refl
bit-self false = refl

bits-self : (n : ℕ) (p : ℕ → Bool) → bit_differences n p p ≡ 0
bits-self zero p = refl
bits-self (suc n) p = omega (arith, bit-self (p n), bits-self n p)

-- the format information is the same
format-same : (copy : FormatCopy) (v k : ℕ) (g h : Grid) → 1 ≤ v → h.side ≡ side_of v → IsClear v k → IsUnderLogo v k g h →
    bit_differences 15 (copy_bit copy g) (copy_bit copy h) ≡ 0
format-same copy v k g h p side clear w =
    let own : g.side ≡ side_of v = w.side ∙ side in
    bits-alike 15 (copy_bit copy g) (copy_bit copy h) (copy_bit copy h) (copy_bit copy h)
    (λ i l.
    ap (λ (n : ℕ). colour g (copy_place copy n i).row (copy_place copy n i).col) own
    ∙ (w.beside (copy_place copy (side_of v) i).row (copy_place copy (side_of v) i).col (format-beside copy v k i p l clear)
    ∙ sym (ap (λ (n : ℕ). colour h (copy_place copy n i).row (copy_place copy n i).col) side)))
    (λ i l. refl)
    ∙ bits-self 15 (copy_bit copy h)

-- a symbol with a logo has no further damage
pub clear-worn : (v : ℕ) (l : Level) (k n : ℕ) (g h : Grid) → 1 ≤ v → h.side ≡ side_of v → IsClear v k → IsUnderLogo v k g h →
    IsMostCovered v l k n → IsWorn v l k 0 g h
clear-worn v l k n g h p side clear w m = record {
  side = w.side;
  format = omega (arith, format-same First v k g h p side clear w, format-same Second v k g h p side clear w);
  places = m.places;
  order = m.order;
  indices = m.indices;
  checks = m.checks;
  inside = m.inside;
  few = λ i r.
      let none = count-none (is_worn v k g h m.places) (received (blocks_of v l) m.indices m.checks i)
      (λ j. beside-none v k g h w (modules_of m.places j)) in
      omega (arith, none);
}

-- an allowed logo leaves the rest for other damage
pub allowed-few : (v : ℕ) (l : Level) (share k more : ℕ) → (a : IsAllowed v l share k) → share ≤ 100 → 100 * more ≤ (100 - share) * correctable_of v l →
    a.covered + more ≤ correctable_of v l
allowed-few v l share k more a most rest =
    let whole : 100 - share + share ≡ 100 = omega arith in
    let parts : (100 - share + share) * correctable_of v l ≡ 100 * correctable_of v l = ap (λ (n : ℕ). n * correctable_of v l) whole in
    omega (arith, parts, a.within, rest)
