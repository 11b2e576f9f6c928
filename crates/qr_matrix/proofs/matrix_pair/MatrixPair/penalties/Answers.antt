use Rattle.{qr_matrix.specs.{Grid.colour, Penalty.penalty_of, Steps.IsCounted}, std.proofs.Common.{rules, ◌∙◌, ap, sym, subst, false, true}}
use Rattle.qr_matrix.proofs.matrix_pair.MatrixPair.penalties.Goals as goal

pub points-requires : goal.points-requires
points-requires c = let n = c.count_all.ensures false in search rules

pub points-requires-2 : goal.points-requires-2
points-requires-2 c = let n = c.count_all.ensures true in search rules

pub returns-clause-first : goal.returns-clause-first
returns-clause-first c =
    let g = c.args.self.now.first in
    let e = c.side-side.ensures.value in
    let n = c.count_all.result in
    c.points.ensures (colour g) (subst (λ z. IsCounted z (colour g) n.runs.0 n.squares.0 n.windows.0 n.dark.0) (sym e) (c.count_all.ensures false)) ∙ ap (λ z. penalty_of z (colour g)) e

pub returns-clause-second : goal.returns-clause-second
returns-clause-second c =
    let g = c.args.self.now.second in
    let n = c.count_all.result in
    c.points-2.ensures (colour g) (subst (λ z. IsCounted z (colour g) n.runs.1 n.squares.1 n.windows.1 n.dark.1) (sym c.side-side.ensures.value) (c.count_all.ensures true))
    ∙ ap (λ z. penalty_of z (colour g)) c.side-side.ensures.second
