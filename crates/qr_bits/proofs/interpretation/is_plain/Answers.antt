use Rattle.qr_bits.{proofs.lemmas.interpretation.item-next, specs.{Interpretation.{meant_bytes, eci_changes}, declared.interpretation.Item.TheVariants.Data}}
use Rattle.std.proofs.{Common.{◌≡◌, ◌++◌, ◌+◌, ◌∷◌, take, drop, append_assoc, length-append, rules}, lemmas.Bool.eqb-true}
use Rattle.std.proofs.lemmas.List.{drop_all, nil_from_length, take-append-drop}
use Rattle.qr_bits.proofs.interpretation.is_plain.Goals as goal

pub loop-item-preserved : goal.loop-item-preserved
unfolding eci_changes meant_bytes
loop-item-preserved c =
    let s = c.in-Data.segment in
    let i = c.loop-item.item-index in
    let items = c.args.items.now in
    let next : drop i items ≡ Data s ∷ drop (i + 1) items = search (rules, item-next) in
    record {
      front = c.loop-item.invariant.front ++ take s.len c.loop-item.rest.now;
      whole = search (rules, append_assoc, take-append-drop);
      bytes = search (rules, append_assoc);
      ecis = search (rules, length-append);
    }

pub returns-clause-bytes : goal.returns-clause-bytes
unfolding meant_bytes
returns-clause-bytes c = search (rules, nil_from_length, eqb-true, drop_all)

pub returns-clause-ecis : goal.returns-clause-ecis
unfolding eci_changes
returns-clause-ecis c = search (rules, drop_all)
