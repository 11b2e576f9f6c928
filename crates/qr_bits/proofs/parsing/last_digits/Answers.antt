use Rattle.{qr_bits.specs.Parsing.digits_of, std.proofs.{Common.rules, lemmas.Bool.{le-ltb, lt-ltb}}}
use Rattle.qr_bits.proofs.parsing.last_digits.Goals as goal

pub returns-then-group-ge-TWO_DIGITS_LIMIT : goal.returns-then-group-ge-TWO_DIGITS_LIMIT
unfolding digits_of
returns-then-group-ge-TWO_DIGITS_LIMIT c = search (rules, le-ltb)

pub returns-in_ok-extend_from_slice-in-2 : goal.returns-in_ok-extend_from_slice-in-2
unfolding digits_of
returns-in_ok-extend_from_slice-in-2 c = search (rules, lt-ltb)

pub returns-in_ok-push-in-1 : goal.returns-in_ok-push-in-1
unfolding digits_of
returns-in_ok-push-in-1 c = search (rules, lt-ltb)
