use Rattle.qr_bits.{proofs.lemmas.folding.{length-folded_around_pairs, uppercase}, specs.{Folding.folded_around_pairs, Steps.RunState.begins_with_pair}}
use Rattle.std.proofs.{Common.{append_assoc, append-nil, get_or, arith, rules}, lemmas.{Bool.eqb-true, List.take_rest}}
use Rattle.qr_bits.proofs.folding.fold_around_pairs.Goals as goal

pub split_at-requires : goal.split_at-requires
unfolding begins_with_pair
split_at-requires c = search rules

pub loop-rest-preserved-then-begins_with_pair : goal.loop-rest-preserved-then-begins_with_pair
unfolding folded_around_pairs begins_with_pair
loop-rest-preserved-then-begins_with_pair c = search (rules, append_assoc)

pub loop-rest-preserved : goal.loop-rest-preserved
unfolding folded_around_pairs begins_with_pair
loop-rest-preserved c =
    let rest = c.loop-rest.rest.now in
    rw (c.in_ok-push.ensures.items, c.to_ascii_uppercase.ensures.value, uppercase (get_or rest 0 0), take_rest rest 1)
    (search (arith, append_assoc))

pub returns : goal.returns
unfolding folded_around_pairs
returns c = search (rules, eqb-true, append-nil, length-folded_around_pairs)
