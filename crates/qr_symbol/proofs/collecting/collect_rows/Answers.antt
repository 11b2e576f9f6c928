use Rattle.qr_symbol.{proofs.lemmas.{collecting.run-bits, placement.ColumnLemmas.run-row}, specs.Steps.{Collecting.bits_in_rows, Words.{rank_in, Appends}}}
use Rattle.{qr_bits.specs.Bits.field, std.proofs.Common.{rules, ◌≡◌, ℕ, ◌*◌, ◌<◌, subst}}
use Rattle.qr_symbol.proofs.collecting.collect_rows.Goals as goal

pub returns : goal.returns
returns c = λ s x k region up room is-top whole.
    let n = c.args.count in let y = c.args.columns.now in let top = c.args.top in
    let rank = λ (m : ℕ). rank_in n c.args.upward m in
    let row = λ (m : ℕ) (l : m < n). run-row x s k n m room l in
    let all : field (2 * n) c.merged.result ≡ bits_in_rows s x region y k n = search (rules, run-bits) in
    subst (λ z. Appends z c.args.bits.now c.push_bits.new.self) all c.push_bits.ensures
