use Rattle.{qr_matrix.specs.{Grid.colour, Penalty.penalty_of, Steps.IsCounted}, std.proofs.Common.{rules, ◌∙◌, ap, sym, subst, false}}
use Rattle.qr_matrix.proofs.penalties.penalty.Goals as goal

pub points-requires : goal.points-requires
points-requires c = let n = c.count_all.ensures false in search rules

pub returns : goal.returns
returns c =
    let g = c.args.m.now in
    let e = c.side.ensures.value in
    let n = c.count_all.result in
    c.points.ensures (colour g) (subst (λ z. IsCounted z (colour g) n.runs n.squares n.windows n.dark) (sym e) (c.count_all.ensures false)) ∙ ap (λ z. penalty_of z (colour g)) e
