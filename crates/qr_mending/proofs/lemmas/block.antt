-- The errors of a damaged block are located by any polynomial that solves the equations. Adding the errors to the
-- damaged codewords gives the true block.
use Rattle.qr_field.proofs.lemmas.galois.{BitLemmas.xor-cancel, ByteLemmas.product-by_one}
use Rattle.qr_field.proofs.lemmas.laws.DistanceLemmas.{weight-plus, difference-same, unambiguous-known, erasures-read, errors-read}
use Rattle.qr_field.proofs.lemmas.laws.ValueLemmas.{value-lt, value-plus, value-zero, block-bytes, block-root}
use Rattle.qr_field.proofs.lemmas.polynomial.{ListLemmas.{length-plus, bytes-plus}, PolynomialLemmas.correction-one}
use Rattle.qr_field.specs.{Distance.{differences, erasures, errors}, Polynomial.{IsByte, plus, IsCorrection}, Steps.Polynomial.value_at}
use Rattle.qr_mending.{proofs.lemmas.locator.{few-values, search-locates, weight-zeros}, specs.{Block.{IsBlock, IsMended}, Erasures.IsMendedWithErasures}}
use Rattle.qr_mending.specs.Steps.{Errors.{AreFewErrorsOf, AreErrors}, Polynomial.{all_of, IsMonic, IsProgress}, Roots.HasLeadingOne}
use Rattle.qr_mending.specs.{Steps.Sums.{HasValues, HasSameValues}, declared.{locator.Progress.Progress, polynomial.Polynomial.Polynomial}}
use Rattle.std.proofs.Common.{◌≡◌, ℕ, ◌+◌, ◌-◌, ◌*◌, ◌/◌, ◌<◌, ◌≤◌, Option, Some, List, [], ◌∷◌, ◌++◌, length, map, take, drop, refl, sym, ap, ◌∙◌, subst, arith, length-append}
use Rattle.std.{proofs.lemmas.List.{length-map, length-take-le, take_more, take_at, take-append-drop, drop_at}, specs.Int.Bits.{xor_zero_r, xor_self}}
use Rattle.std.specs.List.{All}

-- ---- blocks

-- a block consists of bytes
pub bytes-block : (n : ℕ) (b : List ℕ) → IsBlock n b → All IsByte b
bytes-block n b h =
    subst (λ (t : List ℕ). All IsByte t) (sym h.whole) (block-bytes h.message n h.correction h.corrects)

-- the first n values of a block are 0
pub root-block : (n : ℕ) (b : List ℕ) → IsBlock n b → (i : ℕ) → i < n → value_at i b ≡ 0
root-block n b h i l = cc (block-root h.message n h.correction h.corrects i l)

-- the data codewords of a block are all of its codewords but the last n
start-block : (n : ℕ) (b : List ℕ) → (h : IsBlock n b) → length h.message ≡ length b - n
start-block n b h = search (arith, length-append)

-- the last n codewords of a block are the error correction codewords of its data codewords
pub block-corrects : (n : ℕ) (b : List ℕ) → IsBlock n b → IsCorrection (take (length b - n) b) n (drop (length b - n) b)
block-corrects n b h = search (arith, start-block, take_at, drop_at)

-- ---- errors

-- the first n values of the errors are those of the damaged block
pub errors-value : (n : ℕ) (damaged b : List ℕ) → IsBlock n b → length b ≡ length damaged →
    All IsByte damaged → (i : ℕ) → i < n → value_at i (plus damaged b) ≡ value_at i damaged
errors-value n damaged b h s a i l =
    let v = value_at i damaged in
    let none : i * 0 ≡ 0 = omega arith in
    cc (
      value-plus i 0 damaged b (omega arith) a (bytes-block n b h),
      product-by_one v (value-lt i damaged a),
      root-block n b h i l,
      xor_zero_r v,
    )

-- so the first n values of the errors are the syndromes
pub errors-values : (n : ℕ) (damaged b first : List ℕ) → IsBlock n b → length b ≡ length damaged →
    All IsByte damaged → HasValues first damaged → length first ≡ n → HasValues first (plus damaged b)
errors-values n damaged b first block long a h l = search (arith, errors-value)

-- the sum of two lists that begin alike has the values of the sum of what follows
value-front : (i : ℕ) (xs ys zs : List ℕ) → value_at i (plus (xs ++ ys) (xs ++ zs)) ≡ value_at i (plus ys zs)
value-front i [] ys zs = refl
value-front i (x ∷ xs) ys zs = search (arith, xor_self, value-zero, value-front i xs ys zs)

-- the remainder of a block has its first values
pub remainder-values : (n k : ℕ) (damaged correction r : List ℕ) → All IsByte damaged → k + n ≡ length damaged →
    IsCorrection (take k damaged) n correction → r ≡ plus (drop k damaged) correction → length r ≡ n →
    HasSameValues r damaged
remainder-values n k damaged correction r a long corrects sum count =
    let start = take k damaged in
    let rest = drop k damaged in
    let b = start ++ correction in
    let block : IsBlock n b = search arith in
    let same : length b ≡ length damaged = search (arith, length-append, length-take-le) in
    record {
      each = λ i l.
          ap (value_at i) sum
          ∙ (sym (value-front i start rest correction)
          ∙ (search (arith, take-append-drop, errors-value)));
    }

-- the list of all coefficients ends with the leading 1
pub all-leading : (p : Polynomial) → IsMonic p → p.degree < length p.terms → HasLeadingOne (all_of p)
all-leading p m l = record { others = take p.degree p.terms; whole = search (arith, take_more) }

-- adding the difference of two lists to the first list gives the second list
pub plus-cancel : (xs ys : List ℕ) → length xs ≡ length ys → plus xs (plus xs ys) ≡ ys
plus-cancel [] ys h = refl
plus-cancel (x ∷ xs) [] h = absurd (omega arith)
plus-cancel (x ∷ xs) (y ∷ ys) h = cc (xor-cancel x y, plus-cancel xs ys (omega arith))

-- ---- the whole list

-- the errors have the remainder of the damaged block
pub errors-few : (n t : ℕ) (r damaged b : List ℕ) → length damaged ≤ 255 → All IsByte damaged → HasSameValues r damaged →
    length r ≡ n → IsMended n t damaged b → AreFewErrorsOf t r (plus damaged b)
errors-few n t r damaged b most a same l m =
    let e = plus damaged b in
    record {
      bytes = bytes-plus damaged b a (bytes-block n b m.block);
      most = omega (arith, length-plus damaged b (omega arith));
      few = search (arith, weight-zeros, weight-plus);
      values = search (arith, errors-value);
    }

-- once all syndromes were taken in, the codewords without the errors that the search located are the true block
pub search-mended : (progress : Progress) (t : ℕ) (damaged r items : List ℕ) → length damaged ≤ 255 → All IsByte damaged →
    HasSameValues r damaged → IsProgress t r progress → progress.taken ≡ 2 * t →
    ((e : List ℕ) → AreErrors (length damaged) (all_of progress.search.best) progress.syndromes.items e →
    items ≡ plus damaged e) →
    (b : List ℕ) → IsMended (length r) t damaged b → items ≡ b
search-mended progress t damaged r items most a same h full sum b m =
    let s = progress.syndromes.items in
    let e = plus damaged b in
    let few = few-values t r s e h.values h.count (errors-few (length r) t r damaged b most a same refl m) in
    let all : AreErrors (length damaged) (all_of progress.search.best) s e = record {
      count = omega (arith, length-plus damaged b (omega arith));
      located = search-locates t progress.taken progress.search s e h.search (omega arith) h.within h.degree few;
      values = few.values;
    } in
    sum e all ∙ plus-cancel damaged b (sym m.long)

-- ---- the checks

-- codewords with the correction that follows from them are a block
pub block-found : (n k : ℕ) (b correction : List ℕ) → IsCorrection (take k b) n correction → correction ≡ drop k b → IsBlock n b
block-found n k b correction c e = search (arith, take-append-drop)

-- a list differs from itself in no item
pub differences-same : (xs : List ℕ) → differences xs xs ≡ 0
differences-same [] = refl
differences-same (x ∷ xs) = omega (arith, difference-same, differences-same xs)

-- a block is a damaged form of itself
pub mended-same : (n t : ℕ) (b : List ℕ) → IsBlock n b → IsMended n t b b
mended-same n t b h = search (arith, differences-same)

-- two blocks of the same length with the same data codewords are equal
blocks-one : (n : ℕ) (b c : List ℕ) → (g : IsBlock n b) → (h : IsBlock n c) → g.message ≡ h.message → b ≡ c
blocks-one n b c g h e = cc (correction-one h.message n g.correction h.correction (rw e at g.corrects) h.corrects)

-- the law of mended blocks with erasures
pub erasures-one : (n spare : ℕ) (read : List (Option ℕ)) (b c : List ℕ) → length read ≤ 255 →
    spare ≤ n → IsMendedWithErasures n spare read b → IsMendedWithErasures n spare read c → b ≡ c
erasures-one n spare read b c most enough g h =
    let x = g.block in
    let y = h.block in
    let lx = start-block n b x in
    let ly = start-block n c y in
    let all = length-append x.message x.correction in
    let t = (spare - erasures read) / 2 in
    let gt : errors read b ≤ t = omega arith in
    let ht : errors read c ≤ t = omega arith in
    blocks-one n b c x y (unambiguous-known n t x.message x.correction y.message y.correction read x.corrects y.corrects (omega arith) (omega (arith, ap length x.whole)) (omega arith) (rw x.whole at gt) (rw y.whole at ht))

-- a block of which all codewords were read is mended with erasures as it is without
pub read-mended : (n spare : ℕ) (damaged b : List ℕ) → IsMended n (spare / 2) damaged b →
    IsMendedWithErasures n spare (map (λ x. Some x) damaged) b
read-mended n spare damaged b m = search (arith, length-map, erasures-read, errors-read)

-- and the other way round: what is mended with erasures, if there are none, is mended without
pub mended-read : (n spare : ℕ) (damaged b : List ℕ) →
    IsMendedWithErasures n spare (map (λ x. Some x) damaged) b → IsMended n (spare / 2) damaged b
mended-read n spare damaged b m = search (arith, length-map, erasures-read, errors-read)

-- the law of mended blocks
pub mended-one : (n t : ℕ) (damaged b c : List ℕ) → length damaged ≤ 255 → 2 * t ≤ n →
    IsMended n t damaged b → IsMended n t damaged c → b ≡ c
mended-one n t damaged b c most half g h =
    let turn : t ≡ 2 * t / 2 = omega arith in
    let known : (z : List ℕ) → IsMended n t damaged z → IsMendedWithErasures n (2 * t) (map (λ x. Some x) damaged) z =
    λ z m. read-mended n (2 * t) damaged z (rw turn at m) in
    search (arith, erasures-one, length-map)
