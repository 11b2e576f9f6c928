-- A symbol with few wrong modules is a damaged form of the symbol that it was.
use Rattle.{qr_field.specs.Distance.{difference, differences}, qr_layout.specs.{Blocks.blocks_of, Format.format_word_of, Version.total_codewords_of}}
use Rattle.{qr_layout.specs.declared.level.Level.Level, qr_matrix.specs.{BitRow.has_bit, Grid.{Grid, light}}}
use Rattle.qr_mending.specs.declared.erasures.Changes.{Changes}
use Rattle.qr_theorems.proofs.lemmas.laws.{DistanceLemmas.shown, ModuleLemmas.{interleaved-differences, items-differences}}
use Rattle.qr_mending.proofs.Facts.{bits-alike, codewords-many, copy-light, final-in-blocks, in-blocks-one, item, items-in-blocks, light-mended}
use Rattle.qr_mending.proofs.Facts.{received-all, received-map, sure-format, unerased}
use Rattle.qr_mending.specs.{Format.copy_bit, Mending.{HasFormat, HoldsDamaged}, Message.received}
use Rattle.qr_theorems.specs.Damage.{codeword_differences, DifferInFewModules}
use Rattle.{qr_mending.specs.declared.format.FormatCopy.TheVariants.{First, Second}, qr_symbol.proofs.Facts.{data-sizes-whole, read-some}}
use Rattle.qr_symbol.specs.{Interleaving.{block_count, codeword_count, data_sizes, part_of}, Reading.{IsFormat, IsMessage}, Symbol.grid_of}
use Rattle.std.proofs.Common.{◌≡◌, ℕ, ◌<◌, ◌≤◌, List, [], ◌++◌, map, length, get_or, refl, sym, ◌∙◌, arith}
use Rattle.std.{proofs.lemmas.List.FromFn.{get_or-map-range_with_len, length-map-range_with_len}, specs.List.{range_with_len, sum_by}}

-- the format information of the square costs at most 12
pub few-format : (v : ℕ) (l : Level) (mask : ℕ) (cw : List ℕ) (g h : Grid) → 1 ≤ v → v ≤ 40 → h ≡ grid_of v l mask cw → IsFormat h l mask →
    DifferInFewModules v l g h → HasFormat (light g.side) v g l mask
few-format v l mask cw g h p q e f w =
    let word = has_bit (format_word_of l mask) in
    let first = bits-alike 15 (copy_bit First g) word (copy_bit First g) (copy_bit First h) (λ i k. refl)
    (λ i k. sym (f.bits i k)) in
    let second = bits-alike 15 (copy_bit Second g) word (copy_bit Second g) (copy_bit Second h) (λ i k. refl)
    (λ i k. rw e (sym (shown Second v l mask cw i p q f.in_range k))) in
    let cost = copy-light g.side in
    sure-format (light g.side) g v l mask f.in_range (omega (arith, cost First g l mask, cost Second g l mask))

-- a square that differs from a symbol in few modules contains a damaged form of its message
pub few-damaged : (v : ℕ) (l : Level) (mask : ℕ) (g h : Grid) (d : List ℕ) → 1 ≤ v → v ≤ 40 → IsMessage v l mask h d →
    DifferInFewModules v l g h → (changed : List Changes) × HoldsDamaged (light g.side) v l mask g d changed
few-damaged v l mask g h d p q m w =
    let b = blocks_of v l in
    let own = data_sizes b in
    let n = total_codewords_of v in
    let read = read-some v mask g p q in
    let cw = read.0 in
    let sent = m.codewords in
    let ks = w.indices in
    let js = w.checks in
    let xs = map (item cw) ks in
    let es = map (item cw) js in
    let long : length d ≡ codeword_count own = m.many ∙ sym (data-sizes-whole v l p q) in
    let whole = final-in-blocks b d sent long m.interleaved in
    let inside = items-in-blocks b n cw ks js (codewords-many v mask g cw p q read.1) w.inside in
    let also = items-in-blocks b n sent ks js (codewords-many v mask h sent p q m.read) w.inside in
    let same = in-blocks-one b sent (map (item sent) ks) (map (item sent) js) d whole.checks also whole.inside in
    let checks = m.interleaved.corrections in
    let block : ℕ → List ℕ = λ i. part_of own d i ++ get_or checks i [] in
    let count : ℕ → ℕ = λ i. differences (received b xs es i) (block i) in
    let changed = map count (range_with_len 0 (block_count own)) in
    let bound : (i : ℕ) → i < block_count own → count i ≤ sum_by (codeword_differences g h w.places) (received b ks js i) =
    λ i r.
    let x = received-map b (item cw) ks js i in
    let y : map (item sent) (received b ks js i) ≡ block i =
    cc (received-map b (item sent) ks js i, whole.same i r) in
    let all = received-all b (λ k. difference (item cw k) (item sent k) ≤ codeword_differences g h w.places k) n ks js i
    (λ k r. interleaved-differences v mask g h w.places cw sent k p q w.order read.1 m.read r) w.inside in
    search (arith, items-differences) in (
      map unerased changed,
      record {
        codewords = cw;
        held = read.1;
        mended =
            light-mended v mask g.side l g cw xs es d changed p q read.1 inside (record {
              long = long;
              many = length-map-range_with_len count 0 (block_count own);
              each = λ i r. rw (get_or-map-range_with_len count 0 (block_count own) i i 0 r (omega arith)) (record {
                correction = get_or checks i [];
                corrects = m.interleaved.each i r;
                few = omega (arith, bound i r, w.few i r);
                count = refl;
              });
            });
      },
    )
