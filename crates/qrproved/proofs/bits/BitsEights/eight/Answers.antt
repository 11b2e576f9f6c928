use Rattle.std.proofs.{Common.{◌≡◌, ℕ, ◌+◌, ◌*◌, ◌/◌, ◌<◌, ◌∙◌, ap, sym, get_or, arith, rules}, lemmas.List.get_or_past}
use Rattle.qr_matrix.{proofs.Facts.colour-square, specs.Grid.{Grid, colour}}
use Rattle.qrproved.{specs.Bits.bit_of, proofs.lemmas.bits.two-bytes}
use Rattle.qrproved.proofs.bits.BitsEights.eight.Goals.{then-byte-self, else-byte-self}
use Rattle.qrproved.proofs.bits.BitsEights.eight.Goals as goal

pub returns : goal.returns
returns c = λ k l inside.
    let xs = c.self.inside.bytes.now in
    let s = c.self.inside.side in
    let at = c.from.result * c.from-2.result + c.from-3.result in
    let view = c.self.view_is in
    let side : s ≡ c.args.self.now.side = ap (λ (g : Grid). g.side) view in
    let second : c.if-byte-self.second ≡ get_or xs (at / 8 + 1) 0 = elim c.if-byte-self.branch [
      | then-byte-self w ↦ w.second-is
      | else-byte-self w ↦ w.second-is ∙ sym (get_or_past xs (at / 8 + 1) 0 (omega (arith, w.if-byte-self.false)))
    ] in
    let small : get_or xs (at / 8 + 1) 0 < 256 = search rules in
    let place : at + k ≡ c.args.row * s + (c.args.col + k) = rw (c.from.ensures, c.from-2.ensures, c.from-3.ensures) (omega arith) in
    c.reversed.ensures k l
    ∙ ((rw (c.from-4.ensures, c.from-5.ensures, second) (two-bytes xs at k small l))
    ∙ (ap (bit_of xs) place
    ∙ (sym (colour-square s (λ (row col : ℕ). bit_of xs (row * s + col)) c.args.row (c.args.col + k) (omega (arith, side)) (omega (arith, side)))
    ∙ ap (λ (g : Grid). colour g c.args.row (c.args.col + k)) view)))
