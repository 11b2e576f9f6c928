use Rattle.{qr_parsing.{proofs.lemmas.parsing.{can-be-drawn, guessed}, specs.Steps.Sheet.is_dark_on}, std.proofs.Common.{rules, ◌+◌, ◌-◌, ◌*◌, arith}}
use Rattle.qr_parsing.proofs.parsing.drawn_of.Goals as goal

pub returns-then-margin-gt-MARGIN_MAX : goal.returns-then-margin-gt-MARGIN_MAX
returns-then-margin-gt-MARGIN_MAX c text is kind margin squares h =
    let s = c.args.sheet.now in
    search (rules, guessed s.kind s.width s.count s.bytes.now c.margin_of-margin.result text is c.margin_of-margin.ensures.light c.margin_of-margin.ensures.dark kind margin squares h)

pub returns-then-sheet-eq0 : goal.returns-then-sheet-eq0
returns-then-sheet-eq0 c text is kind margin squares h =
    let s = c.args.sheet.now in
    let g = guessed s.kind s.width s.count s.bytes.now c.margin_of-margin.result text is c.margin_of-margin.ensures.light c.margin_of-margin.ensures.dark kind margin squares h in
    search rules

pub returns : goal.returns
returns c text is =
    let s = c.args.sheet.now in
    let m = c.margin_of-margin.result in
    record {
      drawable = can-be-drawn (s.width - 2 * m) s.count (λ k row col. is_dark_on s.kind s.width s.bytes.now k (m + row) (m + col)) c.in_ok-squares.squares.items c.in_ok-squares.ensures (omega arith) (omega arith);
      only = λ k n squares h.
          let g = guessed s.kind s.width s.count s.bytes.now m text is c.margin_of-margin.ensures.light c.margin_of-margin.ensures.dark k n squares h in
          search rules;
    }
