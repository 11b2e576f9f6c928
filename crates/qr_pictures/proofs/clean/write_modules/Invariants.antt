use Rattle.std.proofs.Common.{◌≡◌, ℕ, ◌<◌, ◌≤◌, ◌/◌, ◌%◌, length, slice_index_or}
use Rattle.qr_matrix.specs.Bytes.{byte_of}
use Rattle.qr_pictures.specs.{Steps.{back, sampled}, Turns.turned}
use Rattle.qr_pictures.proofs.clean.write_modules.Given as goal

-- the modules before the current one have been written
abbrev pub invariant-loop-i : goal.invariant-loop-i
invariant-loop-i l = record {
  long : length l.modules ≡ length l.fn.modules;
  written : (k : ℕ) → k < l.i → slice_index_or l.modules k 0 ≡ byte_of (turned (back l.square.turn) l.square.frame.side (sampled l.picture l.square.frame) (k / l.square.frame.side) (k % l.square.frame.side));
  others : (k : ℕ) → l.i ≤ k → slice_index_or l.modules k 0 ≡ slice_index_or l.fn.modules k 0;
}
