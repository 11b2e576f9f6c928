-- The parts of an input: how long a prefix fits, and the lengths of the parts, which are found one after another.
use borrow.Author.Tests.{leb-true}
use Rattle.qr_bits.proofs.Facts.{bytes-fit, fitting-short, piece-fits}
use Rattle.qr_bits.specs.{Modes.{may_use, count_width}, Padding.{capacity_of, room_of}, Segmentation.{HasFit, IsLongestFit}, Interpretation.interpretation_bits}
use Rattle.qr_bits.specs.declared.{interpretation.Interpretation.{Interpretation, TheVariants.Default}, modes.{Mode.TheVariants.{Byte, Kanji}, Rule.Rule}}
use Rattle.qr_symbol.{proofs.lemmas.version_choice.interpretation-most, specs.Series.{AreParts, FitParts, NeedsParts, IsSymbolOf, AreSymbolsFrom}}
use Rattle.qr_layout.{proofs.Facts.{every, every-at}, specs.{Version.total_codewords_of, declared.level.Level.Level}}
use Rattle.qr_layout.specs.Blocks.{block_count_of, correction_len_of, data_codewords_of}
use Rattle.qr_symbol.specs.{Steps.Series.{AreLengths, parts_of}, declared.symbol.Symbol.Symbol}
use Rattle.std.proofs.Common.{◌≡◌, ℕ, suc, ◌+◌, ◌-◌, ◌*◌, ◌<◌, ◌≤◌, min, true, false, leb, ◌⊎◌, All, List, [], ◌∷◌, ◌++◌, take, drop, length, get_or, Some, refl, sym, ◌∙◌, ap, subst, append_assoc, inl, inr, arith}
use Rattle.std.{proofs.Math.Seq.{drop-cons, drop-nil, drop-append-add, take-append_seam, take-length}, specs.List.concat}
use Rattle.std.proofs.lemmas.{Bool.{cases_lt}, List.Elements.{All-nil, All-cons, All-head, All-tail}}
use Rattle.std.proofs.lemmas.List.{length-take, length-drop, append-nil, take-append-drop, drop-append-le, length-append}

-- ---- how long a prefix fits

-- the room after a header alone is enough for a byte segment of five bytes, computed
five-all : every (λ l v. leb (4 + count_width v Byte + 40) (capacity_of v l - 20)) ≡ true
unfolding block_count_of correction_len_of data_codewords_of total_codewords_of
five-all = refl

-- so with what says the interpretation one byte fits after it
few-fit : (v : ℕ) (l : Level) (b : Rule) (how : Interpretation) (xs : List ℕ) → 1 ≤ v → v ≤ 40
    → 8 * length xs + interpretation_bits how ≤ 40 → HasFit how v b xs (room_of v l how)
few-fit v l b how xs p q few =
    bytes-fit how v b xs (room_of v l how) (omega (arith, leb-true _ _ (every-at (λ l v. leb (4 + count_width v Byte + 40) (capacity_of v l - 20)) five-all l v p q)))

-- one byte fits in any case
pub one-fits : (v : ℕ) (l : Level) (b : Rule) (how : Interpretation) (xs : List ℕ) → 1 ≤ v → v ≤ 40 → length xs ≤ 1 → HasFit how v b xs (room_of v l how)
one-fits v l b how xs p q one = search (arith, few-fit, interpretation-most)

-- so the longest prefix that fits is not empty
pub longest-some : (v : ℕ) (l : Level) (b : Rule) (how : Interpretation) (xs : List ℕ) (n : ℕ) → 1 ≤ v → v ≤ 40 → 0 < length xs → IsLongestFit how v b xs (room_of v l how) n → 0 < n
longest-some v l b how xs n p q some h =
    let cut = length-take 1 xs in
    omega (arith, h.longest 1 (omega arith) (one-fits v l b how (take 1 xs) p q (omega arith)))

-- so a part has at least five bytes, or it is the whole rest
pub part-least : (v : ℕ) (l : Level) (b : Rule) (x p : List ℕ) (ps : List (List ℕ)) → 1 ≤ v → v ≤ 40 → AreParts v l b Default x (p ∷ ps) → (5 ≤ length p) ⊎ (p ≡ x)
unfolding AreParts
part-least v l b x p ps i j h =
    let cut = h.2 in elim (cases_lt (length x) 5) [
      | inl short ↦
          let whole = cut.longest (length x) (omega arith) (subst (λ ys. HasFit Default v b ys (room_of v l Default)) (sym (take-length x)) (few-fit v l b Default x i j (omega arith))) in
          inr (h.3 ∙ (ap (λ k. take k x) (omega arith) ∙ take-length x))
      | inr long ↦
          inl (omega (arith, (length-take h.0 x), (ap length h.3), (cut.longest 5 (omega arith) (few-fit v l b Default _ i j (omega (arith, (length-take 5 x)))))))
    ]

-- bytes that fit after a header are at most 7,089
pub part-short : (v : ℕ) (l : Level) (b : Rule) (how : Interpretation) (xs : List ℕ) → 1 ≤ v → v ≤ 40 → HasFit how v b xs (room_of v l how) → length xs ≤ 7089
part-short v l b how xs p q fit = fitting-short how v l b xs p q (fit.0, fit.1, (omega arith))

-- a prefix of a prefix is a prefix of the whole list
take-less : {X : Type 0} (k m : ℕ) (xs : List X) → k ≤ m → take k (take m xs) ≡ take k xs
take-less (suc k) (suc m) (x ∷ xs) h = ap (λ zs. x ∷ zs) (take-less k m xs (omega arith))
take-less k m xs h = search arith

-- to find the longest prefix that fits, the first 7,089 bytes are enough
pub longest-cut : (v : ℕ) (l : Level) (b : Rule) (how : Interpretation) (xs : List ℕ) (m n : ℕ) → 1 ≤ v → v ≤ 40 → min (length xs) 7089 ≤ m → IsLongestFit how v b (take m xs) (room_of v l how) n → IsLongestFit how v b xs (room_of v l how) n
longest-cut v l b how xs m n p q long h =
    let cut = length-take m xs in record {
      inside = omega arith;
      fits = search (arith, take-less);
      longest = λ k i fit.
          let short = part-short v l b how (take k xs) p q fit in let same = length-take k xs in
          h.longest k (omega arith) (search (arith, take-less));
    }

-- ---- lengths of parts

-- the parts that belong to lengths of parts are the parts of the bytes
pub parts-are : (v : ℕ) (l : Level) (b : Rule) (how : Interpretation) (x ns : List ℕ) → AreLengths v l b how x ns → AreParts v l b how x (parts_of x ns)
unfolding AreLengths AreParts parts_of
parts-are v l b how x [] h = h
parts-are v l b how x (n ∷ ns) h = (n, h.0, h.1, refl, parts-are v l b how (drop n x) ns h.2)

-- there are as many parts as lengths
pub length-parts : (x ns : List ℕ) → length (parts_of x ns) ≡ length ns
unfolding parts_of
length-parts x [] = refl
length-parts x (n ∷ ns) = ap suc (length-parts (drop n x) ns)

-- an input with a byte has at least one length
pub lengths-some : (v : ℕ) (l : Level) (b : Rule) (how : Interpretation) (x ns : List ℕ) → AreLengths v l b how x ns → 0 < length x → 0 < length ns
unfolding AreLengths
lengths-some v l b how x [] h some = absurd (omega (arith, ap length h))
lengths-some v l b how x (n ∷ ns) h some = omega arith

-- if the lengths found and those of the rest are those of the whole input, so they are with the next length
pub lengths-more : (v : ℕ) (l : Level) (b : Rule) (how : Interpretation) (whole found rest : List ℕ) (n : ℕ) → 0 < n → IsLongestFit how
    v b rest (room_of v l how) n → ((ns : List ℕ) → AreLengths v l b how rest ns → AreLengths v l b how whole (found ++ ns))
    → (ns : List ℕ) → AreLengths v l b how (drop n rest) ns → AreLengths v l b how whole ((found ++ n ∷ []) ++ ns)
unfolding AreLengths
lengths-more v l b how whole found rest n some fit all ns h = rw append_assoc (all (n ∷ ns) (some, fit, h))

-- there is only one length of the longest prefix
longest-one : (how : Interpretation) (v : ℕ) (b : Rule) (xs : List ℕ) (room m n : ℕ) → IsLongestFit how v b xs room m → IsLongestFit how v b xs room n → m ≡ n
longest-one how v b xs room m n h k =
    let above = h.longest n k.inside k.fits in omega (arith, k.longest m h.inside h.fits)

-- bytes have only one list of parts
pub parts-one : (v : ℕ) (l : Level) (b : Rule) (how : Interpretation) (x : List ℕ) (ps qs : List (List ℕ)) → AreParts v l b how x ps → AreParts v l b how x qs → ps ≡ qs
unfolding AreParts
parts-one v l b how x [] [] h k = refl
parts-one v l b how x [] (q ∷ qs) h k = search arith
parts-one v l b how x (p ∷ ps) [] h k = search arith
parts-one v l b how x (p ∷ ps) (q ∷ qs) h k =
    let same = longest-one how v b x _ h.0 k.0 h.2 k.2 in
    λ i. (h.3 ∙ (ap (λ (n : ℕ). take n x) same ∙ sym k.3)) i ∷ (parts-one v l b how (drop k.0 x) ps qs (search arith) k.4) i

-- an input with a byte has at least one part
pub parts-some : (v : ℕ) (l : Level) (b : Rule) (how : Interpretation) (x : List ℕ) (ps : List (List ℕ)) → AreParts v l b how x ps → 0 < length x → 0 < length ps
unfolding AreParts
parts-some v l b how x [] h some = absurd (omega (arith, ap length h))
parts-some v l b how x (p ∷ ps) h some = omega arith

-- the bytes of parts are at most 7,089 for each part
pub parts-long : (v : ℕ) (l : Level) (b : Rule) (how : Interpretation) (x : List ℕ) (ps : List (List ℕ)) → 1 ≤ v → v ≤ 40 → AreParts v l b how x ps → length x ≤ 7089 * length ps
unfolding AreParts
parts-long v l b how x [] i j h = omega (arith, ap length h)
parts-long v l b how x (p ∷ ps) i j h =
    search (arith, length-take, length-drop, parts-long v l b how (drop h.0 x) ps i j h.4, part-short v l b how (take h.0 x) i j h.2.fits)

-- ---- no fewer parts

-- the rest of two joined lists, if the first list is dropped as a whole
behind-all : {X : Type 0} (k : ℕ) (xs ys : List X) → length xs ≤ k → drop k (xs ++ ys) ≡ drop (k - length xs) ys
behind-all k xs ys i = search (arith, drop-append-add)

-- a rest of the bytes fits wherever all of the bytes fit
rest-fits : (how : Interpretation) (v : ℕ) (b : Rule) (k : ℕ) (xs : List ℕ) (n : ℕ) → may_use b Kanji ≡ false → HasFit how v b xs n → HasFit how v b (drop k xs) n
rest-fits how v b k xs n no_kanji fit =
    let whole : xs ≡ take k xs ++ (drop k xs ++ []) = rw (append-nil _) (sym (take-append-drop k xs)) in
    piece-fits how v b _ _ [] n no_kanji (subst (λ (ys : List ℕ). HasFit how v b ys n) whole fit)

-- a rest of the bytes can be cut into at most as many parts that fit as all of the bytes
rest-parts : (v : ℕ) (l : Level) (b : Rule) (how : Interpretation) (k : ℕ) (ps : List (List ℕ)) → may_use b Kanji ≡ false → All (λ p. HasFit how v b p (room_of v l how)) ps
    → (qs : List (List ℕ)) × FitParts v l b how (drop k (concat ps)) qs × (length qs ≤ length ps)
rest-parts v l b how k [] no_kanji h = ([], (drop-nil k, h), omega arith)
rest-parts v l b how k (p ∷ ps) no_kanji h =
    let fits = λ (q : List ℕ). HasFit how v b q (room_of v l how) in
    let behind = All-tail fits p ps h in elim (cases_lt k (length p)) [
      | inl i ↦ (drop k p ∷ ps, (drop-append-le k p _ (omega arith), All-cons fits _ ps (rest-fits how v b k p _ no_kanji (All-head fits p ps h)) behind), omega arith)
      | inr i ↦ search (arith, behind-all, rest-parts v l b how (k - length p) ps no_kanji behind)
    ]

-- if the rest after the longest prefix needs k parts, the bytes need k + 1
pub needs-more : (v : ℕ) (l : Level) (b : Rule) (how : Interpretation) (x : List ℕ) (n k : ℕ) → may_use b Kanji ≡ false → 0 < length x → IsLongestFit how v b x (room_of v l how) n → NeedsParts v l b how (drop n x) k → NeedsParts v l b how x (k + 1)
needs-more v l b how x n k no_kanji some fit needs [] cut = absurd (omega (arith, ap length cut.0))
needs-more v l b how x n k no_kanji some fit needs (p ∷ ps) cut =
    let fits = λ (q : List ℕ). HasFit how v b q (room_of v l how) in
    let within : length p ≤ length x = omega (arith, ap length cut.0, length-append p (concat ps)) in
    let r = rest-parts v l b how _ ps no_kanji (All-tail fits p ps cut.1) in
    let left : drop n x ≡ concat r.0 = ap (λ (ys : List ℕ). drop n ys) cut.0 ∙ (behind-all n p _ (fit.longest (length p) within (subst fits (sym (rw cut.0 (take-append_seam p _))) (All-head fits p ps cut.1))) ∙ r.1.0) in
    omega (arith, r.2)

-- if the parts of the rest after the longest prefix are at least k, those of the bytes are at least k + 1
pub prefixes-more : (v : ℕ) (l : Level) (b : Rule) (how : Interpretation) (x : List ℕ) (n k : ℕ) → 0 < length x
    → IsLongestFit how v b x (room_of v l how) n → ((qs : List (List ℕ)) → AreParts v l b how (drop n x) qs
    → k ≤ length qs) → (ps : List (List ℕ)) → AreParts v l b how x ps → k + 1 ≤ length ps
unfolding AreParts
prefixes-more v l b how x n k some fit many [] h = absurd (omega (arith, ap length h))
prefixes-more v l b how x n k some fit many (p ∷ ps) h =
    omega (arith, many ps (subst (λ (m : ℕ). AreParts v l b how (drop m x) ps) (longest-one how v b x _ h.0 n h.2 fit) h.4))

-- an input with a byte needs at least one part
pub needs-some : (v : ℕ) (l : Level) (b : Rule) (how : Interpretation) (x : List ℕ) → 0 < length x → NeedsParts v l b how x 1
needs-some v l b how x some [] cut = absurd (omega (arith, ap length cut.0))
needs-some v l b how x some (p ∷ ps) cut = omega arith

-- without kanji mode, bytes need as many parts as their longest prefixes make
pub needs-parts : (v : ℕ) (l : Level) (b : Rule) (how : Interpretation) (x : List ℕ) (ps : List (List ℕ)) → may_use b Kanji ≡ false → AreParts v l b how x ps → NeedsParts v l b how x (length ps)
unfolding AreParts
needs-parts v l b how x [] no_kanji h qs cut = omega arith
needs-parts v l b how x (p ∷ ps) no_kanji h qs cut =
    omega (arith, needs-more v l b how x h.0 (length ps) no_kanji (omega arith) h.2 (needs-parts v l b how (drop h.0 x) ps no_kanji h.4) qs cut)

-- the parts of bytes are parts that fit
pub parts-fit : (v : ℕ) (l : Level) (b : Rule) (how : Interpretation) (x : List ℕ) (ps : List (List ℕ)) → AreParts v l b how x ps → FitParts v l b how x ps
unfolding AreParts
parts-fit v l b how x [] h = search (arith, All-nil)
parts-fit v l b how x (p ∷ ps) h =
    let fits = λ (q : List ℕ). HasFit how v b q (room_of v l how) in let rest = parts-fit v l b how (drop h.0 x) ps h.4 in
    (sym (rw (h.3, ← rest.0) (take-append-drop h.0 x)), All-cons fits p ps (subst fits (sym h.3) h.2.fits) rest.1)

-- ---- the symbols of parts, one after another

-- the length with index i is that of the longest prefix of the rest that it cuts
pub lengths-at : (v : ℕ) (l : Level) (b : Rule) (how : Interpretation) (rest ns : List ℕ) (i : ℕ) → i < length ns → AreLengths v l b how
    rest (drop i ns) → IsLongestFit how v b rest (room_of v l how) (get_or ns i 0) × AreLengths v l b how (drop (get_or ns i 0)
    rest) (drop (i + 1) ns)
unfolding AreLengths
lengths-at v l b how rest ns i some h = search (arith, drop-cons)

-- if the symbols made and those of the rest are those of all parts, so they are with the next symbol
pub symbols-more : (v : ℕ) (l : Level) (b : Rule) (how : Interpretation) (last parity k : ℕ) (rest ns : List ℕ) (whole : List (List ℕ))
    (found : List Symbol) (s : Symbol) → k < length ns → IsSymbolOf v l b how (take (get_or ns k 0) rest) (Some (record
    { position = k; last = last; parity = parity })) s → ((ss : List Symbol) → AreSymbolsFrom v l b how last parity k
    (parts_of rest (drop k ns)) ss → AreSymbolsFrom v l b how last parity 0 whole (found ++ ss)) → (ss : List Symbol)
    → AreSymbolsFrom v l b how last parity (k + 1) (parts_of (drop (get_or ns k 0) rest) (drop (k + 1) ns)) ss →
    AreSymbolsFrom v l b how last parity 0 whole ((found ++ s ∷ []) ++ ss)
unfolding AreSymbolsFrom parts_of
symbols-more v l b how last parity k rest ns whole found s some is all ss h = search (arith, append_assoc, drop-cons)
