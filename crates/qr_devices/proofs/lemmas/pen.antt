-- How the written parts of a text join.
use Rattle.qr_devices.specs.Device.{AppendsBeginning, IsWrittenWithin, Writer, counted, is_write_fault, no_writes, write_counted}
use Rattle.qr_devices.specs.declared.device.{Trouble.{Trouble, TheVariants.{Interrupted, Failed}}, WriteCounts.WriteCounts}
use Rattle.qr_devices.specs.{Pen.Reserves, Writing.{Sends, Stops, Writes, IsWell}, declared.pen.{DrawFault.DrawFault, Pen.Pen}}
use Rattle.std.proofs.Common.{◌≡◌, ◌++◌, ℕ, List, [], MatchResult, OnErr, OnOk, is_err, max, Result, Ok, Err, append_assoc, append-nil, arith, rules, ◌≤◌, ◌+◌, ◌∙◌, length, length-append, subst, sym, ◌<◌, ◌^◌, zero, suc, ◌∷◌, true, ap, refl, take, drop}
use Rattle.std.proofs.{KnownBytes.{Appends-trans, Appends-nil, Appends-kept}, Math.Seq.{drop-nil, take-add, take-append-add}}
use Rattle.std.{proofs.lemmas.List.{nil_from_length, length-take-le, take-append-drop, take-append-le}, specs.Io.KnownBytes.{Appends, Keeps}}
use borrow.Rule.Slice.PartMut.{put_mid}

-- bytes that were left out in two steps
pub drop-twice : (n m : ℕ) (xs : List ℕ) → drop m (drop n xs) ≡ drop (n + m) xs
drop-twice zero m xs = ap (λ k. drop k xs) (omega arith)
drop-twice (suc n) m [] = drop-nil m ∙ sym (drop-nil (suc n + m))
drop-twice (suc n) m (x ∷ xs) = let e : suc n + m ≡ suc (n + m) = omega arith in rw e (drop-twice n m xs)

-- the bytes of a buffer that are left after two parts
left-twice : (old : List ℕ) (x y : List ℕ) → drop (length y) (drop (length x) old) ≡ drop (length (x ++ y)) old
left-twice old x y = drop-twice (length x) (length y) old ∙ ap (λ k. drop k old) (sym (length-append x y))

sends-on : (a b c : Writer) (h0 h1 h2 x y : List ℕ) → Sends a b (h0 ++ x) h1 → Sends b c (h1 ++ y) h2 → Sends a c (h0 ++ (x ++ y)) h2
sends-on a b c h0 h1 h2 x y p q = record {
  sent = p.sent ++ q.sent;
  grows = Appends-trans a.taken b.taken c.taken p.sent q.sent p.grows q.grows;
  whole = append_assoc p.sent q.sent h2 ∙ ap (λ l. p.sent ++ l) q.whole ∙ sym (append_assoc p.sent h1 y) ∙ ap (λ l. l ++ y) p.whole ∙ append_assoc h0 x y;
  many = search (arith, length-append);
  rest = q.rest ∙ ap (λ l. drop (length q.sent) l) p.rest ∙ left-twice a.rest p.sent q.sent;
}

-- if one part was written and then another, the two together were written
pub writes-on : (a b c : Writer) (i j k : ℕ) (h0 h1 h2 x y : List ℕ)
    → Writes a b i j (h0 ++ x) h1 → Writes b c j k (h1 ++ y) h2 → Writes a c i k (h0 ++ (x ++ y)) h2
writes-on a b c i j k h0 h1 h2 x y p q = record {
  sends = sends-on a b c h0 h1 h2 x y p.sends q.sends;
  well = λ w. q.well (p.well w);
  offered = omega (arith, p.offered, q.offered);
  flushes = q.flushes ∙ p.flushes;
  buffer = q.buffer ∙ p.buffer;
}

-- if one part was written and the writer failed in the next, it failed in the two together
pub writes-stop : (a b c : Writer) (i j : ℕ) (h0 h1 x y : List ℕ)
    → Writes a b i j (h0 ++ x) h1 → Stops b c j (h1 ++ y) → Stops a c i (h0 ++ (x ++ y))
writes-stop a b c i j h0 h1 x y p q = search (arith, length-append, append_assoc)

-- a writer that failed in a part failed in the whole text
pub stops-before : (a b : Writer) (i : ℕ) (x y : List ℕ) → Stops a b i x → Stops a b i (x ++ y)
stops-before a b i x y p = search (arith, length-append, append_assoc)

-- a writer that failed in the first of two texts failed in both together
pub stops-first : (a b : Writer) (i : ℕ) (h x y : List ℕ) → Stops a b i (h ++ x) → Stops a b i (h ++ (x ++ y))
stops-first a b i h x y p = subst (λ l. Stops a b i l) (append_assoc h x y) (stops-before a b i (h ++ x) y p)

-- if nothing was written, the text that is held is unchanged
pub writes-none : (a : Writer) (i : ℕ) (h : List ℕ) → Writes a a i i (h ++ []) h
writes-none a i h = search (arith, Appends-nil, append-nil)

-- if a text is appended to what is held, it is also appended to the whole text
pub formed : (a b : Writer) (i j : ℕ) (h0 h1 h2 x : List ℕ) → Writes a b i j h0 h1 → h2 ≡ h1 ++ x → Writes a b i j (h0 ++ x) h2
formed a b i j h0 h1 h2 x p e = search (arith, append_assoc)

-- one part was written, and the writer failed in the held rest of it, before the next part
pub stops-between : (a b c : Writer) (i j : ℕ) (h0 h1 x y : List ℕ) → Writes a b i j (h0 ++ x) h1 → Stops b c j h1 → Stops a c i (h0 ++ (x ++ y))
stops-between a b c i j h0 h1 x y p q = writes-stop a b c i j h0 h1 x y p (stops-before b c j h1 y q)

-- after what was held of a text is sent, the whole text was written, or the writer failed in it
pub emptied : (a b c : Writer) (i : ℕ) (before after : Pen) (text : List ℕ) (r : Result (Unit {0}) DrawFault) → Writes a b i before.interrupted text before.piece
    → Reserves b c before after r → OnOk r (length after.piece + 1200 ≤ 1200)
    → MatchResult r (λ _. Writes a c i after.interrupted text []) (λ _. Stops a c i text)
emptied a b c i before after text (Ok t) p q e =
    let w = writes-on a b c i before.interrupted after.interrupted [] before.piece after.piece text [] p (rw append-nil q) in rw (append-nil, (nil_from_length after.piece (omega arith))) at w
emptied a b c i before after text (Err f) p q e =
    rw append-nil at (writes-stop a b c i before.interrupted [] before.piece text [] p (rw append-nil q))

-- a call that writes a text whole promises this
abbrev pub Written : Writer → Writer → List ℕ → {T : Type 0} → Result T DrawFault → Type 0
Written old new text r = record {
  ok : OnOk r (Appends old.taken new.taken text);
  err : OnErr r (AppendsBeginning old.taken new.taken text);
  fault : old.counts ≡ no_writes → is_write_fault new.counts ≡ is_err r;
  taken : old.counts ≡ no_writes → OnOk r (new.counts.taken ≡ counted (length text));
  most : old.counts ≡ no_writes → OnErr r (new.counts.taken ≤ counted (length text));
  within : old.counts ≡ no_writes → IsWrittenWithin new.counts;
  offered : new.counts.offered ≤ max old.counts.offered 1200;
  flushes : new.counts.flushes ≡ old.counts.flushes;
  buffer : new.buffer ≡ old.buffer;
  rest : OnOk r (new.rest ≡ drop (length text) old.rest);
}

-- if a text was written, or the writer failed in it, and no write was interrupted before, the promise of such a call
-- holds
pub written : {T : Type 0} (a b : Writer) (interruptions : ℕ) (text : List ℕ) (r : Result T DrawFault)
    → MatchResult r (λ _. Writes a b 0 interruptions text []) (λ _. Stops a b 0 text) → Written a b text r
written a b interruptions text (Ok t) p = search rules
written a b interruptions text (Err f) p = search rules

-- What one write does while bytes are sent.

-- the writer took some of the bytes that a write offered
take-offered : (n m : ℕ) (xs : List ℕ) → n ≤ length (take m xs) → take n (take m xs) ≡ take n xs
take-offered zero m xs le = refl
take-offered (suc n) zero xs le = absurd (omega arith)
take-offered (suc n) (suc m) [] le = absurd (omega arith)
take-offered (suc n) (suc m) (x ∷ xs) le = ap (λ l. x ∷ l) (take-offered n m xs (omega arith))

-- no write offered more than a piece
offered-after : (u : ℕ) (v w : WriteCounts) (len : ℕ) (r : Result ℕ Trouble) → w ≡ write_counted len r v →
    len ≤ 1200 → v.offered ≤ max u 1200 → w.offered ≤ max u 1200
offered-after u v w len r e short h = grind arith

-- a write is no flush
flushes-after : (v w : WriteCounts) (len : ℕ) (r : Result ℕ Trouble) → w ≡ write_counted len r v → w.flushes ≡ v.flushes
flushes-after v w len r e = grind arith

-- if the first `at` bytes were written, and then n more, the first `at` + n bytes were written
pub sends-more : (a b c : Writer) (bytes : List ℕ) (at len n i j k : ℕ) → Writes a b i j (take at bytes) [] →
    n ≤ length (take len (drop at bytes)) → length (take len (drop at bytes)) ≤ 1200 → (n ≡ 0 → ⊥) →
    j ≡ k → Appends b.taken c.taken (take n (take len (drop at bytes))) →
    c.counts ≡ write_counted (length (take len (drop at bytes))) (Ok n) b.counts → c.buffer ≡ b.buffer → c.rest ≡ drop n b.rest →
    Writes a c i k (take (at + n) bytes) []
sends-more a b c bytes at len n i j k p le short some same q e kept left =
    let buf = take len (drop at bytes) in
    let z : length (take n buf) ≡ n = length-take-le n buf le in
    let over : c.rest ≡ drop (length (take n buf)) b.rest = rw z left in
    let one : Writes b c j k (take n buf) [] = search (arith, append-nil, offered-after, flushes-after) in
    rw (take-add at n bytes, ← take-offered n len (drop at bytes) le) (writes-on a b c i j k [] [] [] (take at bytes) (take n buf) p one)

-- after an interrupted write the same text was written, with one interruption more
pub sends-again : (a b c : Writer) (text : List ℕ) (len i j : ℕ) → Writes a b i j text [] → len ≤ 1200 →
    j + 1 < 1000 → Keeps b.taken c.taken → c.counts ≡ write_counted len (Err Interrupted) b.counts → c.buffer ≡ b.buffer → c.rest ≡ b.rest →
    Writes a c i (j + 1) text []
sends-again a b c text len i j p short few q e kept left = search arith

-- if the last write took no byte and is a fault, the writer failed in the text
refused : (a b c : Writer) (text : List ℕ) (at len i j : ℕ) (r : Result ℕ Trouble) → Writes a b i j (take at text) [] → len ≤ 1200
    → Keeps b.taken c.taken → c.counts ≡ write_counted len r b.counts → c.buffer ≡ b.buffer → (b.counts.taken < 2 ^ 64 → c.counts.taken ≤ counted b.counts.taken)
    → (IsWell b.counts j → is_write_fault c.counts ≡ true) → Stops a c i text
refused a b c text at len i j r p short q e kept most fault =
    let whole = writes-stop a b c i j [] [] (take at text) (drop at text) p (search (arith, Appends-kept, Appends-nil, offered-after, flushes-after)) in
    rw take-append-drop at whole

-- if the write took no byte of a text that was not empty, the writer failed in the text
pub refused-zero : (a b c : Writer) (text buf : List ℕ) (at n i j : ℕ) → n ≡ 0 → Writes a b i j (take at text) [] → 0 < length buf → length buf ≤ 1200
    → Appends b.taken c.taken (take n buf) → c.counts ≡ write_counted (length buf) (Ok n) b.counts → c.buffer ≡ b.buffer → Stops a c i text
refused-zero a b c text buf at n i j none p some short q e kept =
    refused a b c text at (length buf) i j (Ok n) p short (search (arith, append-nil)) e kept (λ fits. rw e (omega arith))
    (λ h. search arith)

-- if the write failed, the writer failed in the text
pub refused-failed : (a b c : Writer) (text : List ℕ) (at len i j : ℕ) → Writes a b i j (take at text) [] →
    len ≤ 1200 → Keeps b.taken c.taken → c.counts ≡ write_counted len (Err Failed) b.counts → c.buffer ≡ b.buffer → Stops a c i text
refused-failed a b c text at len i j p short q e kept =
    refused a b c text at len i j (Err Failed) p short q e kept (λ fits. rw e (omega arith)) (λ h. rw (e, h.failed) refl)

-- if the write was interrupted for the 1,000th time, the writer failed in the text
pub refused-interrupted : (a b c : Writer) (text : List ℕ) (at len i j : ℕ) → j ≡ 999 → Writes a b i j (take at text) [] → len ≤ 1200
    → Keeps b.taken c.taken → c.counts ≡ write_counted len (Err Interrupted) b.counts → c.buffer ≡ b.buffer → Stops a c i text
refused-interrupted a b c text at len i j last p short q e kept =
    refused a b c text at len i j (Err Interrupted) p short q e kept (λ fits. rw e (omega arith))
    (λ h. search arith)

-- What is in a piece after a copy.

-- after ys were copied to place n, the first n + k bytes are the first n bytes of xs and the first k of ys
pub copied : (n m k : ℕ) (xs ys : List ℕ) → n ≤ length xs → k ≤ length ys → take (n + k) (put_mid n m xs ys) ≡ take n xs ++ take k ys
copied n m k xs ys fits some = search (arith, length-take-le, take-append-add, take-append-le)
