use Rattle.std.proofs.Common.{◌≡◌, inr, refl, sym, ◌∙◌, subst, drop, arith}
use Rattle.std.proofs.lemmas.{Bool.{iff_false, Decides.Decides-eqb}, List.take_rest, Slice.Eq.slice_eq-Decides}
use Rattle.qr_symbol.{proofs.lemmas.interleaving.MessageLemmas.{message-read, none-fits}, specs.Interleaving.{codeword_count, correction_sizes, data_sizes, IsGathered}}
use Rattle.qr_symbol.proofs.interleaving.checked_message.Goals as goal

pub returns-then-eq : goal.returns-then-eq
returns-then-eq c =
    let e = (slice_eq-Decides Decides-eqb _ _ _ c.eq.ensures).0 c.if-eq.true in
    let same : c.in_ok-read.read.items ≡ c.in_ok-computed.computed.items = sym c.as_slice.ensures.value ∙ (e ∙ c.as_slice-2.ensures.value) in
    let message = rw c.of_data.ensures at c.in_ok-message.ensures in
    let read = rw (c.of_corrections.ensures, take_rest c.args.codewords.now c.len.result) at c.in_ok-read.ensures in
    let n : c.len.result ≡ codeword_count (data_sizes c.args.blocks) = omega (arith, c.len.ensures, message.long) in (
      message.long,
      message-read c.args.blocks _ _ _ c.len.result n c.requires.whole message (subst (IsGathered (correction_sizes c.args.blocks) (drop c.len.result c.args.codewords.now)) same read) (rw c.deref.ensures.value at c.in_ok-computed.ensures),
    )

pub returns-else-eq : goal.returns-else-eq
returns-else-eq c =
    let message = rw c.of_data.ensures at c.in_ok-message.ensures in
    let read = rw (c.of_corrections.ensures, take_rest c.args.codewords.now c.len.result) at c.in_ok-read.ensures in
    let n : c.len.result ≡ codeword_count (data_sizes c.args.blocks) = omega (arith, c.len.ensures, message.long) in
    let other = iff_false (slice_eq-Decides Decides-eqb _ _ _ c.eq.ensures) c.if-eq.false in
    inr (
      refl,
      λ d h. none-fits c.args.blocks _ _ _ _ d c.len.result n message read (rw c.deref.ensures.value at c.in_ok-computed.ensures)
          (λ same. other (c.as_slice.ensures.value ∙ (same ∙ sym c.as_slice-2.ensures.value))) h.0 h.1,
    )
