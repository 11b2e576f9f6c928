use Rattle.std.proofs.lemmas.{Bool.Decides.nat_tests, Fmt.{decimal_nonempty, length-decimal-le}}
use Rattle.std.proofs.Common.{rules, ◌≡◌, ◌<◌, ◌+◌, ◌-◌, ◌∷◌, ◌++◌, ◌∙◌, ℕ, List, decimal, drop, length, get_or, sym, ap, arith, length-append, length-drop}
use Rattle.qr_parsing.{specs.Steps.Svg.leading, proofs.lemmas.svg.NumberLemmas.{digit-by, drop-one, leading-read, leading-shorter, one-digit-more}}
use Rattle.qr_parsing.proofs.svg.number_after.Goals as goal

-- from `at` on the text is as long as its number, one byte and the rest
parts : (text rest : List ℕ) (at n byte : ℕ) → drop at text ≡ decimal n ++ (byte ∷ rest) → length text - at ≡ length (decimal n) + (1 + length rest)
parts text rest at n byte is = omega (arith, sym (length-drop at text) ∙ (ap length is ∙ length-append (decimal n) (byte ∷ rest)))

pub returns-then-at-text-clause-reads : goal.returns-then-at-text-clause-reads
returns-then-at-text-clause-reads c n byte rest le e long is = search (rules, parts, decimal_nonempty)

pub returns-then-digit-gt9-clause-reads : goal.returns-then-digit-gt9-clause-reads
unfolding leading
returns-then-digit-gt9-clause-reads c n byte rest le e long is = search (arith, drop-one, leading-read, nat_tests)

pub loop-i-preserved : goal.loop-i-preserved
unfolding leading
loop-i-preserved c =
    let text = c.args.text.now in
    let place = c.args.at + c.loop-i.i in
    let here = get_or text place 0 in
    let byte_in : here < 256 = omega (arith, c.type_inv.text place) in
    let digit = digit-by here byte_in c.if-digit-gt9.false in
    let lt : place < length text = omega arith in
    let value : c.from.result ≡ here - 48 = omega arith in
    record {
      small = one-digit-more c.loop-i.number c.from.result c.loop-i.i c.loop-i.invariant.small (omega arith);
      reads = search (rules, drop-one);
    }

pub returns-clause-reads : goal.returns-clause-reads
returns-clause-reads c n byte rest le e long is =
    let text = c.args.text.now in
    let place = c.args.at + c.loop-i.i in
    let same : ◌≡◌ {A = ℕ × List ℕ} (leading c.loop-i.number (drop place text)) (n, rest) =
    search (rules, leading-read) in
    omega (
      arith,
      leading-shorter c.loop-i.number (drop place text),
      length-drop place text,
      parts text rest c.args.at n byte is,
      length-decimal-le 5 n (omega arith) (omega arith) (omega arith),
      ap (λ (p : ℕ × List ℕ). length p.1) same,
    )
