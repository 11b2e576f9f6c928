use Rattle.std.proofs.{Common.{rules, slice_index_or, arith}, lemmas.{Bool.cases_lt, Nat.Bits.bit_at-zero}}
use Rattle.qr_matrix.{specs.BitRow.has_bit, proofs.lemmas.bytes.{bit-after, bit-before, past-eight, put-bits}}
use Rattle.qr_matrix.proofs.bytes.word_of.Goals as goal

pub loop-part-init : goal.loop-part-init
unfolding has_bit
loop-part-init c = search (rules, bit_at-zero)

pub loop-part-preserved : goal.loop-part-preserved
loop-part-preserved c = search (arith, cases_lt, bit-before, put-bits, slice_index_or, bit-after, past-eight)
