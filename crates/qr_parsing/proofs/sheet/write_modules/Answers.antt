use Rattle.{qr_matrix.specs.Bytes.byte_of, qr_parsing.{proofs.lemmas.sheet.rows-more, specs.Steps.Sheet.is_dark_on}}
use Rattle.std.proofs.{Common.{rules, ◌≡◌, ◌+◌, ◌-◌, ◌*◌, ◌≤◌, length, take, drop, arith}, Math.Nat.{add-mul, mul-le-mul_right}}
use Rattle.std.proofs.lemmas.List.{length-drop, length-take-le}
use Rattle.qr_parsing.proofs.sheet.write_modules.Goals as goal

pub loop-row-preserved : goal.loop-row-preserved
loop-row-preserved c =
    let side = c.args.side in
    let row = c.loop-row.row in
    let is = c.loop-row.invariant in
    let begin : c.loop-row.start ≡ row * side = is.start in
    let n = c.loop-row.start + c.from-in-loop-row.result - c.loop-row.start in
    let fits : row * side + side ≤ length c.loop-row.modules = search (rules, add-mul, mul-le-mul_right) in
    let part : length (take n (drop c.loop-row.start c.loop-row.modules)) ≡ side = search (rules, length-take-le, length-drop) in
    let long : length c.write_row.new.modules ≡ side = omega (arith, part) in
    record {
      long = search rules;
      start = omega (arith, is.start, add-mul row 1 side);
      rows = rw begin (rows-more side row _ c.loop-row.modules c.write_row.new.modules
          (λ r col. byte_of (is_dark_on c.args.sheet.now.kind c.args.sheet.now.width c.args.sheet.now.bytes.now c.args.k (c.args.margin + r) (c.args.margin + col)))
          long fits is.rows (search rules));
    }
