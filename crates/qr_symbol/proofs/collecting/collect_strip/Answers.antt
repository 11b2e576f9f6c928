use Rattle.qr_layout.specs.{Order.in_region_of, Strips.{both_of, rows_from}, Version.side_of}
use Rattle.qr_symbol.proofs.{collecting.collect_strip.Goals.After-columns_of-within, lemmas.{collecting.strip-bits, placement.AcrossLemmas.region-across}}
use Rattle.{qr_symbol.specs.Steps.{Collecting.{bits_in_rows, colour_across}, Words.{Appends, Collected}}, std.proofs.Common.{◌≡◌, ◌∙◌, Bool, map, sym, subst, arith}}
use Rattle.qr_symbol.proofs.collecting.collect_strip.Goals as goal

-- the bits of the columns, read in the direction of the strip, are those of the strip
strip : (c : After-columns_of-within) (up : Bool) (b : Collected) → up ≡ c.args.strip.upward
    → Appends (bits_in_rows (side_of c.args.version) (record { right = c.args.strip.right; upward = up }) c.columns_of-within.result c.columns_of-columns.result 0 (side_of c.args.version)) c.args.bits.now b
    → Appends (map (colour_across c.args.across.now) (in_region_of c.args.version (both_of (rows_from (side_of c.args.version) c.args.strip 0 (side_of c.args.version))))) c.args.bits.now b
strip c up b e read =
    let s = side_of c.args.version in let x = c.args.strip in
    let w = c.columns_of-within in let y = c.columns_of-columns in
    subst (λ z. Appends z c.args.bits.now b)
    (strip-bits c.args.version s c.args.across.now x w.result y.result (λ row l. w.ensures.right row ∙ region-across _ _ row _ c.requires.region l c.requires.right_in) (λ row l. w.ensures.left row ∙ region-across _ _ row _ c.requires.region l (omega (arith, c.requires.right_in))) y.ensures.right y.ensures.left 0 s (omega arith))
    (subst (λ z. Appends (bits_in_rows s (record { right = x.right; upward = z }) w.result y.result 0 s) c.args.bits.now b) e read)

pub returns-then-upward : goal.returns-then-upward
returns-then-upward c = strip (goal.at.returns-then-upward c).After-columns_of-within _ c.collect_columns.new.bits (sym c.if-upward.true) c.collect_columns.ensures

pub returns-else-upward : goal.returns-else-upward
returns-else-upward c = strip (goal.at.returns-else-upward c).After-columns_of-within _ c.collect_columns-else-upward.new.bits (sym c.if-upward.false) c.collect_columns-else-upward.ensures
