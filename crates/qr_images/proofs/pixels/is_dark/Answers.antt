use Rattle.std.proofs.Common.{arith, ◌∙◌, ◌+◌, ◌-◌, ◌%◌, ◌<◌, ◌≤◌, length, sym}
use Rattle.std.proofs.lemmas.Bool.{le-ltb}
use Rattle.qr_images.proofs.lemmas.pixels.{cell-dark, cell-none, counted-from}
use Rattle.qr_images.proofs.pixels.is_dark.Goals as goal

pub returns-then-x-cells : goal.returns-then-x-cells
returns-then-x-cells c =
    let margin = c.args.margin in
    let column = c.args.column in
    let near : (column + (4294967296 - margin)) % 4294967296 < length c.args.cells.now = rw c.from.ensures at c.if-x-cells.true in
    let few : margin < 256 = c.ranges.margin.fits in
    let m = counted-from margin column few c.ranges.column.fits (omega (arith, near, c.requires)) in
    rw c.from.ensures (cell-dark margin column _ c.args.cells.now m.0 m.1)

pub returns-else-x-cells : goal.returns-else-x-cells
returns-else-x-cells c =
    let margin = c.args.margin in
    let column = c.args.column in
    let far : length c.args.cells.now ≤ (column + (4294967296 - margin)) % 4294967296 = rw c.from.ensures at c.if-x-cells.false in
    let few : margin < 256 = c.ranges.margin.fits in
    rw c.from.ensures (le-ltb _ _ far ∙ sym (cell-none margin column c.args.cells.now few c.ranges.column.fits far))
