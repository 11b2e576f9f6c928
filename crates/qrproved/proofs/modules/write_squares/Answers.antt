use Rattle.std.proofs.Common.{◌≡◌, ℕ, ◌+◌, ◌*◌, ◌<◌, length, map, get_or, slice_index_or, sym, ap, ◌∙◌, inl, inr, arith, rules}
use Rattle.{std.proofs.lemmas.{Bool.cases_lt, List.length-map}, qr_matrix.specs.Grid.{Grid, colour, light}}
use Rattle.qrproved.{specs.Modules.byte_of, proofs.lemmas.modules.{block-end, place-in}}
use Rattle.qr_drawing.proofs.Facts.{square_at-item}
use Rattle.qrproved.proofs.modules.write_squares.Goals as goal

pub write_square-requires : goal.write_square-requires
write_square-requires g c =
    let i = c.loop-item.item-index in
    let s = c.args.side in
    let grid = g.S.HasSquare.grid in
    let square = square_at-item grid c.args.squares.now i c.item-item.result c.loop-item-test.true c.item-item.is in
    let side : c.square.result.now.side ≡ s = search (rules, length-map) in
    let area = ap (λ (n : ℕ). n * n) side in
    let start : c.loop-item.start ≡ i * (s * s) = search rules in
    omega (arith, area, start, block-end (s * s) i (length c.args.squares.now) c.loop-item-test.true, c.requires.room, c.loop-item.invariant.long)

pub loop-item-preserved : goal.loop-item-preserved
loop-item-preserved g c =
    let i = c.loop-item.item-index in
    let s = c.args.side in
    let grid = g.S.HasSquare.grid in
    let is = c.loop-item.invariant in
    let shown = c.square.result.now in
    let square = square_at-item grid c.args.squares.now i c.item-item.result c.loop-item-test.true c.item-item.is ∙ sym c.square.ensures in
    let side : shown.side ≡ s = search (rules, length-map) in
    let area = ap (λ (n : ℕ). n * n) side in
    record {
      area = is.area;
      start = omega (arith, is.start);
      long = search rules;
      modules = λ k row col l r m. elim (cases_lt k i) [
        | inl a ↦
            let inner : row * s + col < c.area-area.result = omega (arith, place-in s row col s r m, is.area) in
            let before = place-in c.area-area.result k (row * s + col) i a inner in
            c.write_square.ensures.others (k * c.area-area.result + (row * s + col)) (inl (omega (arith, before, is.start))) ∙ is.modules k row col a r m
        | inr b ↦
            let here : k ≡ i = omega arith in
            let blocks = ap (λ (n : ℕ). n * c.area-area.result) here in
            let rows = ap (λ (n : ℕ). row * n) side in
            let place : k * c.area-area.result + (row * s + col) ≡ c.loop-item.start + (row * shown.side + col) = omega (arith, blocks, rows, is.start) in
            let same = ap (λ (n : ℕ). get_or (map grid c.args.squares.now) n (light 0)) here ∙ square in
            ap (λ (n : ℕ). slice_index_or c.write_square.new.bytes n 0) place
            ∙ (c.write_square.ensures.modules row col (omega (arith, side)) (omega (arith, side)) ∙ ap (λ (g : Grid). byte_of (colour g row col)) (sym same))
      ];
      others = λ j l. c.write_square.ensures.others j (inr (omega (arith, area, is.area))) ∙ is.others j (omega arith);
    }
