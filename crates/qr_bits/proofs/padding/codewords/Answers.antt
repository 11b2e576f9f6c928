use Rattle.qr_bits.proofs.lemmas.padding.{capacity-most, counts_fit, is-data, length-header_stream, length-interpretation_stream}
use Rattle.qr_bits.proofs.lemmas.segmentation.{CoverLemmas.covers-suits, SegmentLemmas.{covers-all, bits-most, bits-least}}
use Rattle.qr_bits.proofs.{lemmas.stream.WritingLemmas.length-segments_stream, padding.codewords.Goals.{in-None, in-Some}}
use Rattle.qr_bits.specs.{Header.{header_bits, header_stream}, Interpretation.interpretation_stream, Stream.{segments_stream, IsStream}}
use Rattle.std.{proofs.Common.{◌≡◌, ℕ, ◌+◌, ◌*◌, ◌^◌, ◌<◌, ◌≤◌, ◌++◌, refl, arith, length-append, rules}, specs.Cow.cow_slice_items}
use Rattle.qr_bits.proofs.padding.codewords.Goals as goal

-- header and segments have at most as many bits as the data codewords, and the input is short
room : (h i b k head mark bits most : ℕ) → h ≡ head → i ≡ mark → b ≡ bits → k ≡ most → h + i + b ≤ k
    → (h + i + b ≤ most) × (bits ≤ most) × (most < head + mark + bits → ⊥) × ((n : ℕ) → 10 * n ≤ 3 * bits → most ≤ 23648 → n < 2 ^ 16)
room h i b k head mark bits most e j f g l = search rules

pub bit_len-requires-clause-nonempty : goal.bit_len-requires-clause-nonempty
bit_len-requires-clause-nonempty c = search (arith, covers-all)

pub bit_len-requires-clause-short : goal.bit_len-requires-clause-short
bit_len-requires-clause-short c = search (rules, covers-all)

pub overflow_add-used-2 : goal.overflow_add-used-2
overflow_add-used-2 c = search (rules, covers-all, bits-most)

pub returns-then-used-capacity-clause-too_long : goal.returns-then-used-capacity-clause-too_long
returns-then-used-capacity-clause-too_long c = search rules

pub put_segments-requires-clause-short : goal.put_segments-requires-clause-short
put_segments-requires-clause-short c =
    let head : c.match-header.header_bits ≡ header_bits c.args.header = elim c.match-header.branch [ in-None w ↦ search rules | in-Some w ↦ search rules ] in
    let segs = c.args.segmented.now.segments.items in
    let least = bits-least c.args.v _ segs (covers-suits _ segs c.requires.covered) in
    let most = capacity-most c.args.v c.args.level (omega arith) (omega arith) in
    rw c.deref-2.ensures.value ((room _ _ _ _ _ _ _ _ head c.interpretation_bits.ensures.value (rw c.deref.ensures.value at c.bit_len.ensures) c.capacity-capacity.ensures.value c.if-used-capacity.false).3 _ least most)

pub returns-clause-ok : goal.returns-clause-ok
returns-clause-ok c =
    let head : c.match-header.header_bits ≡ header_bits c.args.header = elim c.match-header.branch [ in-None w ↦ search rules | in-Some w ↦ search rules ] in
    let xs = cow_slice_items c.args.segmented.now.characters in
    let segs = c.args.segmented.now.segments.items in
    let suit = covers-suits xs segs c.requires.covered in
    let bits = rw c.deref.ensures.value at c.bit_len.ensures in
    let left = room _ _ _ _ _ _ _ _ head c.interpretation_bits.ensures.value bits c.capacity-capacity.ensures.value c.if-used-capacity.false in
    let is : IsStream c.args.v xs segs c.args.header c.args.interpretation ((header_stream c.args.header ++ interpretation_stream c.args.interpretation) ++ segments_stream c.args.v xs segs) = record {
      bytes = rw c.deref-2.ensures.value at c.in_ok-put_segments.ensures.1;
      suit = suit;
      counts = counts_fit c.args.v c.args.level segs (omega arith) (omega arith) left.1;
      header = λ h e. let r = c.requires.in_range h e in (r.0, r.1, c.in_ok-put_start.ensures.1 h e);
      interpretation = c.requires.number;
      whole = refl;
    } in
    is-data c.args.v c.args.level xs segs c.args.header c.args.interpretation _ (c.match-header.header_bits + c.interpretation_bits.result + c.bit_len.result) c.in_ok-codewords.codewords.items _ is
    (rw (length-append (header_stream c.args.header ++ interpretation_stream c.args.interpretation) (segments_stream c.args.v xs segs), length-append (header_stream c.args.header) (interpretation_stream c.args.interpretation), length-header_stream c.args.header, length-interpretation_stream c.args.interpretation, length-segments_stream c.args.v xs segs suit, head, c.interpretation_bits.ensures.value, bits) refl)
    left.0
    (rw (c.in_ok-codewords.ensures, c.in_ok-put.ensures, c.in_ok-put_segments.ensures.0, c.in_ok-put_start.ensures.0, c.in_ok-writer.ensures, c.deref-2.ensures.value, c.deref-3.ensures.value, c.min.ensures, ← c.capacity-capacity.ensures.value))
    (search arith) c.in_ok-pad.ensures.1

pub returns-clause-too_long : goal.returns-clause-too_long
returns-clause-too_long c =
    let head : c.match-header.header_bits ≡ header_bits c.args.header = elim c.match-header.branch [ in-None w ↦ search rules | in-Some w ↦ search rules ] in
    (λ e. cc, λ h. absurd ((room _ _ _ _ _ _ _ _ head c.interpretation_bits.ensures.value (rw c.deref.ensures.value at c.bit_len.ensures) c.capacity-capacity.ensures.value c.if-used-capacity.false).2 h))
