use Rattle.qr_matrix.{proofs.Facts.{filled, fill-none, fill-line, fill-all, masked-bit, masked-past}, specs.Grid.colour}
use Rattle.{qr_symbol.specs.Mask.{inverts, inverted}, std.proofs.Common.{rules, ℕ, ◌&&◌, ◌∙◌, ap, arith}}
use Rattle.qr_symbol.proofs.mask.set_masked.Goals as goal

pub loop-row-init : goal.loop-row-init
loop-row-init c = search (rules, fill-none)

pub loop-row-preserved : goal.loop-row-preserved
loop-row-preserved c = search (rules, fill-line, masked-bit)

pub set_bit_row-requires : goal.set_bit_row-requires
set_bit_row-requires c = search (rules, masked-past)

pub returns : goal.returns
returns c =
    let f = λ (r k : ℕ). inverted (colour c.args.region.now r k && inverts c.args.mask r k) (colour c.args.source.now r k) in
    let s = c.args.matrix.now.side in
    c.loop-row.invariant.so_far ∙ (ap (λ (k : ℕ). filled s f (colour c.args.matrix.now) k 0) (omega (arith, c.loop-row.invariant.last)) ∙ fill-all s f (colour c.args.matrix.now))
