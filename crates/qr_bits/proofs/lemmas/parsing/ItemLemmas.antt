-- A parse reads back every stream of items and every stream of segments, and what it reads is such a stream.
use Rattle.qr_bits.proofs.lemmas.interpretation.{meant-plain, plain-meant}
use Rattle.qr_bits.proofs.lemmas.parsing.ParsingLemmas.{bind-ok, guard-ok, same-ok, ended-empty, not_ended, item-shorter, items-end, items-step}
use Rattle.qr_bits.proofs.lemmas.parsing.StreamReadingLemmas.{IsSegment, segment-takes, item-again, number-again, number-takes, opens, other-opens, first-again, first-takes, items-begin}
use Rattle.qr_bits.{proofs.lemmas.stream.StreamLemmas.{drop-field, field-read, read-field}, specs.{Bits.{field, value}, Header.{header_stream, HeaderFits}}}
use Rattle.qr_bits.specs.Interpretation.{is_application_indicator, may_follow, plain, designator, interpretation_stream, InterpretationFits, items_in}
use Rattle.qr_bits.specs.Parsing.{leading_number, application_at, designator_at, ends, item_at, items_at, items_of, first_header, Content, content_of, plain_content, parse}
use Rattle.qr_bits.specs.Stream.{AreItems, DesignatorFits, designator_of, items_stream, segments_stream, Suits, CountsFit, IsStream}
use Rattle.qr_bits.specs.declared.{fault.ParseFault.TheVariants.BadValue, interpretation.{Designator.Designator, Interpretation.Interpretation, Item.Item}}
use Rattle.qr_bits.specs.declared.{interpretation.Item.TheVariants.{Data, Eci, Fnc1First, Fnc1Second}, segmentation.Segment.Segment, stream.Header.Header}
use Rattle.std.proofs.Common.{◌≡◌, ℕ, ◌<◌, ◌≤◌, Bool, true, false, ◌==◌, nat_le, nat_lt, All, List, [], ◌∷◌, ◌++◌, length, take, drop, Ok, refl, ⊎_elim, arith, lit<, append_assoc, subst, inl, zero, suc, length-append, Option}
use Rattle.std.proofs.{Math.Seq.{take-append_seam, drop-append_seam}, lemmas.Bool.{le-ltb, lt-ltb, ltb-true, cases_Bool, eqb-true, and_parts}}
use Rattle.std.proofs.lemmas.List.{length-take-le, take-append-drop, Elements.{All-nil, All-append, All-take, All-drop}}
use Rattle.qr_bits.specs.declared.interpretation.Interpretation.TheVariants as written

-- a designator is read back in as many codewords
pub number-back : (d : Designator) (rest : List Bool) → DesignatorFits d → designator_at (designator_of d.codewords d.number ++ rest) ≡ Ok (d, rest)
unfolding designator_at designator_of
number-back d rest h = search (arith, number-again, lt-ltb, le-ltb, append_assoc)

eci-back : (v : ℕ) (may : Bool) (d : Designator) (rest : List Bool) → DesignatorFits d → item_at v may (field 4 7 ++ (designator_of d.codewords d.number ++ rest)) ≡ Ok (Eci d, [], rest)
unfolding item_at
eci-back v may d rest h = rw (read-field 4 7 (designator_of d.codewords d.number ++ rest) (lit< tt), drop-field 4 7 (designator_of d.codewords d.number ++ rest), number-back d rest h) refl

first-back : (v : ℕ) (may : Bool) (rest : List Bool) → may ≡ true → item_at v may (field 4 5 ++ rest) ≡ Ok (Fnc1First, [], rest)
unfolding item_at
first-back v may rest h = rw (h, read-field 4 5 rest (lit< tt), drop-field 4 5 rest) refl

application-back : (a : ℕ) (rest : List Bool) → is_application_indicator a ≡ true → application_at (field 8 a ++ rest) ≡ Ok (a, rest)
unfolding application_at
application-back a rest h = search (arith, number-again)

second-back : (v : ℕ) (may : Bool) (a : ℕ) (rest : List Bool) → may ≡ true → is_application_indicator a ≡ true → item_at v may (field 4 9 ++ (field 8 a ++ rest)) ≡ Ok (Fnc1Second a, [], rest)
unfolding item_at
second-back v may a rest h k = rw (h, read-field 4 9 (field 8 a ++ rest) (lit< tt), drop-field 4 9 (field 8 a ++ rest), application-back a rest k) refl

-- Items that are written are read back.
pub items-again : (v : ℕ) (may : Bool) (xs : List ℕ) (items : List Item) (tail : List Bool) → All (λ b. b < 256) xs → AreItems v may xs items → ends tail ≡ true
    → items_of v may (items_stream v xs items ++ tail) ≡ Ok (items, xs)
unfolding items_stream AreItems
items-again v may xs [] tail bytes are end = cc (items-end v may tail end)
items-again v may xs (Data s ∷ is) tail bytes are end =
    let part = take s.len xs in
    let len : length part ≡ s.len = length-take-le s.len xs are.0 in
    let halves : All (λ b. b < 256) part × All (λ b. b < 256) (drop s.len xs) = search (arith, All-take, All-drop) in
    search (arith, append_assoc, item-again, items-step, opens, take-append-drop, items-again v false (drop s.len xs) is tail halves.1 are.3 end)
items-again v may xs (Eci d ∷ is) tail bytes are end =
    search (arith, append_assoc, items-step, other-opens, eci-back, items-again v may xs is tail bytes are.1 end)
items-again v may xs (Fnc1First ∷ is) tail bytes are end =
    search (arith, append_assoc, items-step, other-opens, first-back, items-again v false xs is tail bytes are.1 end)
items-again v may xs (Fnc1Second a ∷ is) tail bytes are end =
    search (arith, append_assoc, items-step, other-opens, second-back, items-again v false xs is tail bytes are.2 end)

-- what is read is a designator that fits, and then the rest
designator-takes : (bits : List Bool) (r : Designator × List Bool) → designator_at bits ≡ Ok r → DesignatorFits r.0 × (bits ≡ designator_of r.0.codewords r.0.number ++ r.1)
unfolding designator_at designator_of
designator-takes bits r h =
    let P : Designator × List Bool → Type 0 = λ t. DesignatorFits t.0 × (bits ≡ designator_of t.0.codewords t.0.number ++ t.1) in
    let a = bind-ok (leading_number 8 bits) _ r h in
    let f = number-takes 8 bits a.0 a.1 in
    ⊎_elim (λ (e : nat_lt a.0.0 128 ≡ true). let k = rw e at a.2 in
    subst P (same-ok _ _ k) (inl (refl, ltb-true _ _ e), f.1))
    (λ (e : nat_lt a.0.0 128 ≡ false). let k = rw e at a.2 in
    ⊎_elim (λ (g : nat_lt a.0.0 192 ≡ true). let m = rw g at k in
    let b = bind-ok (leading_number 8 a.0.1) _ r m in
    let l = number-takes 8 a.0.1 b.0 b.1 in
    search (arith, same-ok, append_assoc))
    (λ (g : nat_lt a.0.0 192 ≡ false). let m = rw g at k in
    let b = bind-ok (leading_number 16 a.0.1) _ r (guard-ok (nat_le 224 a.0.0) BadValue _ r m).1 in
    let l = number-takes 16 a.0.1 b.0 b.1 in
    search (arith, same-ok, ltb-true, append_assoc))
    (cases_Bool (nat_lt a.0.0 192)))
    (cases_Bool (nat_lt a.0.0 128))

indicated : (n : ℕ) (bits : List Bool) → 4 ≤ length bits → (value (take 4 bits) == n) ≡ true → bits ≡ field 4 n ++ drop 4 bits
indicated n bits four h = cc (eqb-true _ n h, field-read 4 bits four, take-append-drop 4 bits)

-- an item that was read is its stream, with the rest after it
abbrev IsItem : ℕ → Bool → List Bool → Item → List ℕ → List Bool → Type 0
IsItem v may bits (Data s) ys rest = IsSegment v bits s ys rest
IsItem v may bits (Eci d) ys rest = DesignatorFits d × (ys ≡ []) × (bits ≡ field 4 7 ++ (designator_of d.codewords d.number ++ rest))
IsItem v may bits Fnc1First ys rest = (may ≡ true) × (ys ≡ []) × (bits ≡ field 4 5 ++ rest)
IsItem v may bits (Fnc1Second a) ys rest = (may ≡ true) × (is_application_indicator a ≡ true) × (ys ≡ []) × (bits ≡ field 4 9 ++ (field 8 a ++ rest))

-- if an application indicator is read, it is a valid one, and its 8 bits are the first
application-takes : (bits : List Bool) (a : ℕ × List Bool) → application_at bits ≡ Ok a → (is_application_indicator a.0 ≡ true) × (bits ≡ field 8 a.0 ++ a.1)
unfolding application_at
application-takes bits a h =
    let n = bind-ok (leading_number 8 bits) _ a h in
    search (arith, same-ok, number-takes 8 bits n.0 n.1)

-- if an item is read, its stream comes first in the bits that were read
item-takes : (v : ℕ) (may : Bool) (bits : List Bool) (i : Item × List ℕ × List Bool) → 4 ≤ length bits → item_at v may bits ≡ Ok i → IsItem v may bits i.0 i.1 i.2
unfolding item_at
item-takes v may bits i four h =
    search (arith, bind-ok, designator-takes, same-ok, indicated, and_parts, application-takes, segment-takes)

-- items that were read are their stream, and then an end
pub record IsItems (v : ℕ) (may : Bool) (bits : List Bool) (items : List Item) (xs : List ℕ) : Type 0 where
  pub tail : List Bool
  pub bytes : All (λ b. b < 256) xs
  pub are : AreItems v may xs items
  pub whole : bits ≡ items_stream v xs items ++ tail
  pub end : ends tail ≡ true

items-none : (v : ℕ) (may : Bool) (bits : List Bool) → ends bits ≡ true → IsItems v may bits [] []
unfolding items_stream AreItems
items-none v may bits e = search (arith, All-nil)

-- an item and the items that are read after it are items together
items-more : (v : ℕ) (may : Bool) (bits rest : List Bool) (i : Item) (is : List Item) (ys zs : List ℕ) → IsItem v may bits i ys rest → IsItems v (may_follow may i) rest is zs → IsItems v may bits (i ∷ is) (ys ++ zs)
unfolding items_stream AreItems
items-more v may bits rest (Data s) is ys zs one others =
    let front : take s.len (ys ++ zs) ≡ ys = rw one.long at (take-append_seam ys zs) in
    let back : drop s.len (ys ++ zs) ≡ zs = rw one.long at (drop-append_seam ys zs) in
    record {
      tail = others.tail;
      bytes = All-append (λ b. b < 256) ys zs one.bytes others.bytes;
      are = search (arith, length-append);
      whole = rw (front, back) (search (arith, append_assoc));
      end = others.end;
    }
items-more v may bits rest _ is ys zs one others = search (arith, append_assoc)

-- if items are read from at most `n` bits, these bits are the stream of the items and then an end
pub items-takes : (n v : ℕ) (may : Bool) (bits : List Bool) (r : List Item × List ℕ) → length bits ≤ n → items_at n v may bits ≡ Ok r → IsItems v may bits r.0 r.1
unfolding items_at
items-takes zero v may bits r few h = search (arith, same-ok, items-none, ended-empty)
items-takes (suc n) v may bits r few h = ⊎_elim (search (arith, same-ok, items-none)) (λ (e : ends bits ≡ false).
    let four = not_ended bits e in
    let i = bind-ok (item_at v may bits) _ r (rw e at h) in
    let q = bind-ok (items_at n v (may_follow may i.0.0) i.0.2) _ r i.2 in
    let less = item-shorter v may bits i.0 four i.1 in
    subst (λ (t : List Item × List ℕ). IsItems v may bits t.0 t.1) (same-ok _ _ q.2)
    (items-more v may bits i.0.2 i.0.0 q.0.0 i.0.1 q.0.1 (item-takes v may bits i.0 four i.1) (items-takes n v (may_follow may i.0.0) i.0.2 q.0 (omega arith) q.1)))
    (cases_Bool (ends bits))

-- the bits are a stream of these items, and then an end
abbrev ItemsSay : ℕ → List Bool → List Item → List ℕ → Type 0
ItemsSay v bits items xs = (tail : List Bool) × All (λ b. b < 256) xs × AreItems v true xs items × (bits ≡ items_stream v xs items ++ tail) × (ends tail ≡ true)

pub items-said : (v : ℕ) (bits : List Bool) (items : List Item) (xs : List ℕ) → items_of v true bits ≡ Ok (items, xs) → ItemsSay v bits items xs
unfolding items_of
items-said v bits items xs h =
    let is = items-takes (length bits) v true bits (items, xs) (omega arith) h in
    (is.tail, is.bytes, is.are, is.whole, is.end)

-- segments alone are items that have the same bits
plain-stream : (v : ℕ) (xs : List ℕ) (segs : List Segment) → items_stream v xs (plain segs) ≡ segments_stream v xs segs
unfolding items_stream segments_stream
plain-stream v xs [] = refl
plain-stream v xs (s ∷ ss) = cc (plain-stream v (drop s.len xs) ss)

plain-fits : (v : ℕ) (may : Bool) (xs : List ℕ) (segs : List Segment) → Suits xs segs → CountsFit v segs → AreItems v may xs (plain segs)
unfolding AreItems Suits CountsFit
plain-fits v may xs [] suit fits = suit
plain-fits v may xs (s ∷ ss) suit fits = (suit.0, suit.1, fits.0, plain-fits v false (drop s.len xs) ss suit.2 fits.1)

plain-suits : (v : ℕ) (may : Bool) (xs : List ℕ) (segs : List Segment) → AreItems v may xs (plain segs) → Suits xs segs × CountsFit v segs
unfolding AreItems Suits CountsFit
plain-suits v may xs [] are = (are, tt)
plain-suits v may xs (s ∷ ss) are =
    let rest = plain-suits v false (drop s.len xs) ss are.3 in ((are.0, are.1, rest.0), (are.2, rest.1))

-- the items of an interpretation and segments are written as the interpretation and the segments
items-marked : (v : ℕ) (i : Interpretation) (xs : List ℕ) (segs : List Segment) → InterpretationFits i → Suits xs segs → CountsFit v segs
    → AreItems v true xs (items_in i segs) × (items_stream v xs (items_in i segs) ≡ interpretation_stream i ++ segments_stream v xs segs)
unfolding items_stream AreItems interpretation_stream designator designator_of
items-marked v written.Default xs segs h suit fits = search (arith, plain-stream, plain-fits)
items-marked v (written.Eci n) xs segs h suit fits = search (arith, plain-stream, plain-fits, append_assoc)
items-marked v written.Gs1 xs segs h suit fits = search (arith, plain-stream, plain-fits)

-- A header and items that are written, followed by an end, are parsed into their content.
pub content-again : (v : ℕ) (xs : List ℕ) (items : List Item) (h : Option Header) (tail : List Bool) → HeaderFits h → All (λ b. b < 256) xs → AreItems v true xs items → ends tail ≡ true
    → parse v (header_stream h ++ (items_stream v xs items ++ tail)) ≡ Ok (content_of h items xs)
unfolding parse
content-again v xs items h tail fits bytes are e = search (arith, first-again, items-begin, items-again)

-- the bits are the stream of a header and items with this content, and then an end
abbrev ContentSays : ℕ → List Bool → Content → Type 0
ContentSays v bits c =
    (items : List Item) × (xs : List ℕ) × (tail : List Bool) × HeaderFits c.header × All (λ b. b < 256) xs × AreItems v true xs items
    × (bits ≡ header_stream c.header ++ (items_stream v xs items ++ tail)) × (ends tail ≡ true) × (c ≡ content_of c.header items xs)

-- Bits that are parsed as a content are the stream of its header and items followed by an end.
pub content-said : (v : ℕ) (bits : List Bool) (c : Content) → parse v bits ≡ Ok c → ContentSays v bits c
unfolding parse
content-said v bits c e =
    let a = bind-ok (first_header bits) _ _ e in
    let r = bind-ok (items_of v true a.0.1) _ _ a.2 in
    let first = first-takes bits a.0 a.1 in
    let said = items-said v a.0.1 r.0.0 r.0.1 r.1 in
    subst (ContentSays v bits) (same-ok _ _ r.2)
    (r.0.0, r.0.1, said.0, first.0, said.1, said.2, cc, said.4, refl)

-- A stream followed by an end is parsed into its header, items and bytes.
pub parse-again : (v : ℕ) (xs : List ℕ) (segs : List Segment) (h : Option Header) (i : Interpretation) (front tail : List Bool) → IsStream v xs segs h i front → ends tail ≡ true
    → parse v (front ++ tail) ≡ Ok (content_of h (items_in i segs) xs)
parse-again v xs segs h i front tail is e = search (arith, append_assoc, items-marked, content-again)

-- As `parse-again`, without an ECI header and FNC1.
pub parse_plain : (v : ℕ) (xs : List ℕ) (segs : List Segment) (h : Option Header) (front tail : List Bool) → IsStream v xs segs h written.Default front → ends tail ≡ true
    → parse v (front ++ tail) ≡ Ok (plain_content h segs xs)
parse_plain v xs segs h front tail is e = cc (parse-again v xs segs h written.Default front tail is e, plain-meant h segs xs is.suit)

-- the bits are the stream of these segments, and then an end
abbrev Says : ℕ → List Bool → List ℕ → List Segment → Option Header → Type 0
Says v bits xs segs h = (front : List Bool) × (tail : List Bool) × IsStream v xs segs h written.Default front × (bits ≡ front ++ tail) × (ends tail ≡ true)

-- Bits that are parsed as segments alone are a stream followed by an end.
pub parse_takes : (v : ℕ) (bits : List Bool) (h : Option Header) (segs : List Segment) (xs : List ℕ) → parse v bits ≡ Ok (plain_content h segs xs) → Says v bits xs segs h
unfolding parse items_of interpretation_stream
parse_takes v bits h segs xs e =
    let a = bind-ok (first_header bits) _ _ e in
    let r = bind-ok (items_at (length a.0.1) v true a.0.1) _ _ a.2 in
    let first = first-takes bits a.0 a.1 in
    let others = items-takes (length a.0.1) v true a.0.1 r.0 (omega arith) r.1 in
    search (arith, meant-plain, same-ok, append_assoc, plain-suits, plain-stream)
