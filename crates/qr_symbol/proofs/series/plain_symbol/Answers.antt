use Rattle.qr_bits.{proofs.Facts.{capacity-least, least-most, least_fits}, specs.{Interpretation.interpretation_bits, Padding.capacity_of}}
use Rattle.{qr_symbol.proofs.lemmas.{encoding.version-fits, version_choice.{interpretation-most, version-short}}, std.proofs.Common.{◌-◌, arith}}
use Rattle.qr_symbol.proofs.series.plain_symbol.Goals as goal

pub returns-then-input-gt-SYMBOL_BYTES_MAX : goal.returns-then-input-gt-SYMBOL_BYTES_MAX
returns-then-input-gt-SYMBOL_BYTES_MAX c = λ fits. let short = version-short _ _ _ _ _ (omega arith) (omega arith) fits in omega arith

pub returns-then-from-interpretation_bits : goal.returns-then-from-interpretation_bits
returns-then-from-interpretation_bits c = λ fits.
    omega (
      arith,
      c.least_bits.ensures.least c.args.writing.interpretation c.args.size.version (capacity_of c.args.size.version c.args.size.level - interpretation_bits c.args.writing.interpretation) c.args.writing.rule fits,
      capacity-least c.args.size.version c.args.size.level (omega arith) (omega arith),
      interpretation-most c.args.writing.interpretation,
      c.interpretation_bits.ensures.value,
      c.from.ensures,
      c.capacity-capacity.ensures.value,
    )

pub needed_bits-needed-requires : goal.needed_bits-needed-requires
needed_bits-needed-requires c = let is = c.in_ok-segmented.ensures.ok in record {
  covered = (least_fits _ _ _ _ _ _ is).0;
  short = omega (arith, least-most _ _ _ _ _ _ is, c.if-input-gt-SYMBOL_BYTES_MAX.false);
}

pub returns-then-needed-capacity : goal.returns-then-needed-capacity
returns-then-needed-capacity c = λ fits.
    omega (arith, version-fits _ _ _ _ _ _ _ (omega arith) (omega arith) c.in_ok-segmented.ensures.ok fits, c.needed_bits-needed.ensures, c.if-needed-capacity.true, c.capacity-capacity.ensures.value)

pub returns : goal.returns
returns c = c.in_ok-symbol.ensures c.args.writing.rule c.args.input.now c.in_ok-segmented.ensures.ok
