use Rattle.std.proofs.{Common.{rules, ◌≡◌, ◌/◌, ◌%◌, ◌∙◌, drop, get_or, sym, ap, arith}, lemmas.List.Sums.prefix_len-le-length}
use Rattle.qr_parsing.{specs.Steps.Svg.{is_in_boxes, path_in}, proofs.lemmas.svg.{PaintLemmas.painted-box, PathLemmas.path-start}}
use Rattle.qr_parsing.proofs.svg.paint_all.Goals as goal

pub boxes-init : goal.boxes-init
boxes-init c =
    let text = c.args.text.now in
    let is : path_in text ≡ drop c.position_of-at.result text = sym (path-start text) ∙ ap (λ n. drop n text) (sym c.position_of-at.ensures) in
    search (rules, prefix_len-le-length)

pub boxes-preserved : goal.boxes-preserved
boxes-preserved c =
    let w = c.args.width in
    record {
      within = c.in-Some.ensures.within.1;
      painted = λ numbers path.
          let before = c.boxes.invariant.painted numbers path in
          let next = c.in-Some.ensures.reads before.0 before.1 in (
            next.2,
            next.4,
            λ i lt. painted-box c.in-Some.dark.x c.in-Some.dark.y c.in-Some.dark.modules next.0 next.1 next.2 (i / w) (i % w) (get_or c.args.bytes.now i 0) (get_or c.boxes.bytes i 0) (get_or c.paint.new.bytes i 0) (is_in_boxes numbers (i / w) (i % w))
                (search rules) (c.paint.ensures i (omega arith)),
          );
    }

pub returns : goal.returns
returns c numbers path i lt = search rules
