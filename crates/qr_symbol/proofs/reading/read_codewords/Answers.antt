use Rattle.{qr_matrix.specs.Grid.{Grid, colour, square}, qr_symbol.proofs.lemmas.{placement.PlacementLemmas.square-is, reading.SymbolReadLemmas.read-masked}}
use Rattle.qr_symbol.specs.{Mask.{inverts, inverted}, Reading.IsRead}
use Rattle.std.proofs.{Common.{rules, ◌≡◌, ℕ, ◌≤◌, ◌&&◌, ap, ◌∙◌, arith}, lemmas.Result.{IfOk-from_err, IfOk-weaker}}
use Rattle.qr_symbol.proofs.reading.read_codewords.Goals as goal

-- each number from 7 on is the mask pattern 7
seven-on : (mask r c : ℕ) → 7 ≤ mask → inverts 7 r c ≡ inverts mask r c
unfolding inverts
seven-on mask r c l = search rules

pub set_masked-requires-clause-square : goal.set_masked-requires-clause-square
set_masked-requires-clause-square c = search (rules, square-is)

pub returns-clause-read : goal.returns-clause-read
returns-clause-read c =
    let n = c.min-mask.result in let g = c.args.matrix.now in
    let region = c.in_ok-region.region in
    let drawn = c.set_masked.ensures ∙ ap (λ s. square s (λ (i k : ℕ). inverted (colour region i k && inverts n i k) (colour g i k)))
    (ap (λ (g : Grid). g.side) c.in_ok-unmasked.ensures ∙ c.side.ensures.value) in
    IfOk-weaker c.read_without_mask.result _ (λ cw. IsRead c.args.version c.args.mask g cw.items)
    (λ cw h. read-masked _ _ n g region c.set_masked.new.matrix cw.items (omega arith) (omega arith) c.in_ok-region.ensures
    (search (rules, seven-on)) drawn h) c.read_without_mask.ensures.read

pub returns-in_err-region : goal.returns-in_err-region
returns-in_err-region c = search (rules, IfOk-from_err)
