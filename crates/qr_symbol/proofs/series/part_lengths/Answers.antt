use Rattle.qr_bits.{proofs.Facts.{may_write-drop, may_write-take}, specs.{Padding.room_of, Segmentation.IsLongestFit}}
use Rattle.qr_symbol.proofs.{lemmas.series.PartLemmas.{lengths-more, longest-cut, longest-some, parts-some, prefixes-more}, series.part_lengths.Goals.After-longest_part-len}
use Rattle.{qr_symbol.specs.Steps.Series.AreLengths, std.proofs.Common.{rules, ◌+◌, ◌<◌, [], ◌∷◌, length, refl, sym, ◌∙◌, length-append, arith}}
use Rattle.std.proofs.lemmas.{Bool.{eqb-true, Decides.nat_tests}, List.{append-nil, nil_from_length, length-drop}}
use Rattle.qr_symbol.proofs.series.part_lengths.Goals as goal

-- the length that was found is that of the longest part of the whole rest, and the part is not empty
next : (c : After-longest_part-len) → (0 < c.longest_part-len.result) × IsLongestFit c.args.writing.interpretation c.args.size.version c.args.writing.rule c.loop-rest.rest.now (room_of c.args.size.version c.args.size.level c.args.writing.interpretation) c.longest_part-len.result
next c =
    let some : 0 < length c.loop-rest.rest.now = grind (arith, nat_tests) in
    let short = c.loop-rest.invariant.short in
    let cut = longest-cut _ _ _ _ _ _ _ (omega arith) (omega arith) (omega arith) c.longest_part-len.ensures in search (rules, longest-some)

pub longest_part-len-requires-clause-written : goal.longest_part-len-requires-clause-written
longest_part-len-requires-clause-written c = search (rules, may_write-take)

pub returns-then-is_full : goal.returns-then-is_full
returns-then-is_full c = (
  refl,
  λ parts is.
      let full = eqb-true _ _ (sym c.is_full.ensures.value ∙ c.if-is_full.true) in
      let more = c.loop-rest.invariant.parts 1 (λ qs cut. parts-some c.args.size.version c.args.size.level c.args.writing.rule c.args.writing.interpretation c.loop-rest.rest.now qs cut (grind (arith, nat_tests))) parts is in
      omega arith,
)

pub split_at-requires : goal.split_at-requires
split_at-requires c = (next (goal.at.split_at-requires c).After-longest_part-len).1.inside

pub loop-rest-smaller : goal.loop-rest-smaller
loop-rest-smaller c =
    let longest = next (goal.at.loop-rest-smaller c).After-longest_part-len in
    rw c.split_at.ensures.back (omega (arith, longest.0, longest.1.inside, length-drop c.longest_part-len.result c.loop-rest.rest.now))

pub loop-rest-preserved : goal.loop-rest-preserved
loop-rest-preserved c =
    let v = c.args.size.version in let b = c.args.writing.rule in let how = c.args.writing.interpretation in
    let n = c.longest_part-len.result in let inv = c.loop-rest.invariant in
    let longest = next (goal.at.loop-rest-preserved c).After-longest_part-len in let more = longest.0 in
    let less = length-drop n c.loop-rest.rest.now in rw (c.push.ensures.items, c.split_at.ensures.back) (record {
      short = omega (arith, inv.short);
      may = may_write-drop how n _ inv.may;
      lengths = lengths-more v c.args.size.level b how _ _ _ n longest.0 longest.1 inv.lengths;
      parts = λ k many ps is.
          let more = inv.parts (k + 1) (prefixes-more v c.args.size.level b how _ n k (grind (arith, nat_tests)) longest.1 many) ps is in
          omega (arith, length-append c.loop-rest.lengths.items (n ∷ []));
    })

pub returns : goal.returns
unfolding AreLengths
returns c =
    rw append-nil at (c.loop-rest.invariant.lengths [] (search (rules, nil_from_length, eqb-true)))
