use Rattle.std.proofs.Common.{◌≡◌, ℕ, ◌+◌, ◌*◌, ◌/◌, ◌%◌, ◌<◌, ◌≤◌, ◌&&◌, false, cond, eqb, ltb, get_or, length}
use Rattle.qr_matrix.specs.{Grid.colour, BitRow.{dark_in, has_bit}, Steps.bit_in}
use Rattle.qr_matrix.proofs.matrix.Matrix.set_transposed.Given as goal

abbrev pub invariant-loop-band : goal.invariant-loop-band
invariant-loop-band l =
    let n = l.fn.self.side in
    let rows = l.self-inside.rows.items in
    record {
      same : l.self-inside.side ≡ n;
      long : length rows ≡ n;
      past : (r c : ℕ) → n ≤ c → dark_in rows r c ≡ false;
      done : (r c : ℕ) → r < n → c < n → r / 64 < l.band → dark_in rows r c ≡ colour l.other c r;
    }

abbrev pub invariant-loop-word : goal.invariant-loop-word
invariant-loop-word l =
    let n = l.fn.self.side in
    let rows = l.self-inside.rows.items in
    record {
      same : l.self-inside.side ≡ n;
      long : length rows ≡ n;
      past : (r c : ℕ) → n ≤ c → dark_in rows r c ≡ false;
      done : (r c : ℕ) → r < n → c < n → r / 64 < l.band → dark_in rows r c ≡ colour l.other c r;
      here : (r c : ℕ) → r < n → c < n → r / 64 ≡ l.band → c / 64 < l.word → dark_in rows r c ≡ colour l.other c r;
    }

abbrev pub invariant-loop-line : goal.invariant-loop-line
invariant-loop-line l = record {
  long : length l.tile ≡ 64;
  read : (r c : ℕ) → r < l.line → c < 64 → has_bit (get_or l.tile r 0) c ≡ colour l.other (64 * l.word + r) (64 * l.band + c);
  rest : (r : ℕ) → l.line ≤ r → get_or l.tile r 0 ≡ 0;
}

abbrev pub invariant-loop-row : goal.invariant-loop-row
invariant-loop-row l =
    let before = l.initial.self-inside in
    record {
      same : l.self-inside.side ≡ before.side;
      long : length l.self-inside.rows.items ≡ before.side;
      written : (r c : ℕ) → dark_in l.self-inside.rows.items r c ≡ cond ((eqb (r / 64) l.band && ltb r (64 * l.band + l.row)) && eqb (c / 64) l.word) (bit_in l.tile (r % 64) (c % 64)) (dark_in before.rows.items r c);
    }
