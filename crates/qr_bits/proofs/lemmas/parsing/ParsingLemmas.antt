-- A parse, segment by segment.
use Rattle.std.proofs.lemmas.{List.{append-nil, append_assoc, length-drop}, Bool.{lt-ltb, le-ltb, ltb-false, or_parts, or_left, and_parts, cases_Bool}}
use Rattle.qr_bits.specs.{Steps.Parsing.IsFaultOf, Interpretation.may_follow, declared.fault.ParseFault.TheVariants.Memory, Bits.value}
use Rattle.std.proofs.Common.{◌≡◌, ℕ, zero, suc, ◌+◌, ◌≤◌, Bool, true, false, cond, List, [], ◌∷◌, ◌++◌, length, take, drop, Result, Ok, Err, refl, ⊎_elim, arith}
use Rattle.qr_bits.specs.declared.{interpretation.{Designator.Designator, Item.Item}, fault.ParseFault.ParseFault}
use Rattle.qr_bits.specs.Parsing.{◌>>=◌, IsResultOf, ends, leading_number, payload_at, segment_at, designator_at, application_at, item_at, items_at, items_of, begins_header, header_at}
use borrow.Author.Tests.{leb-true}

-- if two parsers in turn succeed, the first one succeeds, and the second one succeeds on its result
pub bind-ok : {A B : Type 0} (r : Result A ParseFault) (f : A → Result B ParseFault) (y : B) → (r >>= f) ≡ Ok y → (x : A) × (r ≡ Ok x) × (f x ≡ Ok y)
bind-ok r f y h = grind arith

-- if a parser after a test succeeds, the test was passed
pub guard-ok : {A : Type 0} (b : Bool) (e : ParseFault) (r : Result A ParseFault) (y : A) → cond b (Err e) r ≡ Ok y → (b ≡ false) × (r ≡ Ok y)
guard-ok b e r y h = grind arith

number-shorter : (w : ℕ) (bits : List Bool) (n : ℕ × List Bool) → leading_number w bits ≡ Ok n → length n.1 ≤ length bits
unfolding leading_number
number-shorter w bits n h = search (arith, guard-ok, length-drop)

-- a result that is no fault
abbrev pub ok : {A : Type 0} → A → Result A ParseFault
ok a = Ok a

-- results that are equal contain equal values
pub same-ok : {A : Type 0} (a b : A) → ok a ≡ ok b → a ≡ b
same-ok a b h = cc

-- if the data does not end here, there are four bits
pub not_ended : (bits : List Bool) → ends bits ≡ false → 4 ≤ length bits
unfolding ends
not_ended bits h = search (arith, ltb-false, or_parts)

-- an empty list of bits is an end
pub ended-empty : (bits : List Bool) → length bits ≤ 0 → ends bits ≡ true
unfolding ends
ended-empty bits h = search (arith, or_left, lt-ltb)

-- reading a designator leaves no more bits than there were
designator-shorter : (bits : List Bool) (d : Designator × List Bool) → designator_at bits ≡ Ok d → length d.1 ≤ length bits
unfolding designator_at
designator-shorter bits d h =
    let a = bind-ok (leading_number 8 bits) _ d h in
    grind (arith, same-ok, bind-ok, number-shorter, guard-ok, number-shorter 8 bits a.0 a.1)

-- reading an application indicator leaves no more bits than there were
application-shorter : (bits : List Bool) (a : ℕ × List Bool) → application_at bits ≡ Ok a → length a.1 ≤ length bits
unfolding application_at
application-shorter bits a h = search (arith, bind-ok, number-shorter, same-ok)

-- an item has at least the four bits of its indicator
pub item-shorter : (v : ℕ) (may : Bool) (bits : List Bool) (i : Item × List ℕ × List Bool) → 4 ≤ length bits → item_at v may bits ≡ Ok i → length i.2 + 4 ≤ length bits
unfolding item_at segment_at payload_at
item-shorter v may bits i four h = search (arith, length-drop, bind-ok, designator-shorter, same-ok, application-shorter, number-shorter, guard-ok)

-- an item, and then the rest
abbrev pub step : Bool → Result (Item × List ℕ × List Bool) ParseFault → (Bool → List Bool → Result (List Item × List ℕ) ParseFault) → Result (List Item × List ℕ) ParseFault
step may read next = read >>= λ i. next (may_follow may i.0) i.2 >>= λ r. Ok (i.0 ∷ r.0, i.1 ++ r.1)

same-rest : (may : Bool) (read : Result (Item × List ℕ × List Bool) ParseFault) (n m v : ℕ)
    → ((i : Item × List ℕ × List Bool) → read ≡ Ok i → items_at n v (may_follow may i.0) i.2 ≡ items_at m v (may_follow may i.0) i.2)
    → step may read (items_at n v) ≡ step may read (items_at m v)
same-rest may read n m v h = grind arith

-- two bounds on the number of items give the same result if both are at least the number of bits
enough : (n m v : ℕ) (may : Bool) (bits : List Bool) → length bits ≤ n → length bits ≤ m → items_at n v may bits ≡ items_at m v may bits
unfolding items_at
enough zero zero v may bits h k = refl
enough zero (suc m) v may bits h k = rw (ended-empty bits h) refl
enough (suc n) zero v may bits h k = rw (ended-empty bits k) refl
enough (suc n) (suc m) v may bits h k = ⊎_elim (λ (e : ends bits ≡ true). rw e refl)
    (λ (e : ends bits ≡ false). rw e (same-rest may (item_at v may bits) n m v
    (λ i q. enough n m v (may_follow may i.0) i.2 (omega (arith, item-shorter v may bits i (not_ended bits e) q)) (omega (arith, item-shorter v may bits i (not_ended bits e) q)))))
    (cases_Bool (ends bits))

-- at an end no item is read
pub items-end : (v : ℕ) (may : Bool) (bits : List Bool) → ends bits ≡ true → items_of v may bits ≡ Ok ([], [])
unfolding items_of items_at
items-end v may bits h = search (arith, enough)

-- if the data does not end here, an item is read and then the rest
pub items-step : (v : ℕ) (may : Bool) (bits : List Bool) → ends bits ≡ false
    → items_of v may bits ≡ step may (item_at v may bits) (items_of v)
unfolding items_of items_at
items-step v may bits h = grind (arith, enough, item-shorter, not_ended)

-- the result for the rest, with the items and bytes that were read before it
abbrev pub behind : List Item → List ℕ → Result (List Item × List ℕ) ParseFault → Result (List Item × List ℕ) ParseFault
behind items xs read = read >>= λ r. Ok (items ++ r.0, xs ++ r.1)

pub behind-none : (read : Result (List Item × List ℕ) ParseFault) → behind [] [] read ≡ read
behind-none read = grind arith

-- one more item is read
pub behind-more : (v : ℕ) (may : Bool) (bits rest : List Bool) (items : List Item) (xs ys : List ℕ) (i : Item) → ends bits ≡ false → item_at v may bits ≡ Ok (i, ys, rest)
    → behind items xs (items_of v may bits) ≡ behind (items ++ i ∷ []) (xs ++ ys) (items_of v (may_follow may i) rest)
behind-more v may bits rest items xs ys i e h = search (arith, items-step, append_assoc)

-- a fault of the next item is the fault of the whole parse
pub fault-all : (v : ℕ) (may : Bool) (bits start : List Bool) (items : List Item) (xs : List ℕ) (f : ParseFault) → ends bits ≡ false → IsFaultOf f (item_at v may bits)
    → behind items xs (items_of v may bits) ≡ items_of v true start → IsFaultOf f (items_of v true start)
fault-all v may bits start items xs f e h i = grind (arith, items-step v may bits e)

-- a returned fault other than `Memory` is the fault of the definition
pub fault-read : {A : Type 0} (e : ParseFault) (read : Result A ParseFault) → (e ≡ Memory → ⊥) → IsResultOf (Err e) read → read ≡ Err e
fault-read e read other h = grind arith

-- at an end of the data, all items are read
pub end-all : (v : ℕ) (may : Bool) (bits start : List Bool) (items : List Item) (xs : List ℕ) → ends bits ≡ true
    → behind items xs (items_of v may bits) ≡ items_of v true start → items_of v true start ≡ Ok (items, xs)
end-all v may bits start items xs e i = search (arith, items-end, append-nil)

-- a header whose bits are all there
pub header-whole : (bits : List Bool) → 16 ≤ length bits
    → header_at bits ≡ Ok (record { position = value (take 4 bits); last = value (take 4 (drop 4 bits)); parity = value (take 8 (drop 8 bits)) }, drop 16 bits)
unfolding header_at
header-whole bits h = rw (le-ltb (length bits) 16 h) refl

-- the four bits of a header's indicator are there
pub begun : (bits : List Bool) → begins_header bits ≡ true → 4 ≤ length bits
unfolding begins_header
begun bits h = search (arith, leb-true, and_parts)
