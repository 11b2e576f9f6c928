use Rattle.std.proofs.{Common.{◌-◌, [], ◌∷◌, arith, rules}, lemmas.Bool.le-ltb}
use Rattle.qr_bits.{specs.Parsing.characters_of, proofs.lemmas.parsing.PayloadLemmas.{characters-step, group-read, fails}}
use Rattle.qr_bits.proofs.parsing.characters.Goals as goal

pub returns-then-pair-ge-TWO_CHARACTERS_LIMIT : goal.returns-then-pair-ge-TWO_CHARACTERS_LIMIT
returns-then-pair-ge-TWO_CHARACTERS_LIMIT c =
    search (rules, fails, characters-step c.loop-left.left (c.loop-left.left - 2) c.loop-left.reader (omega (arith, c.loop-left-test.true)))

pub loop-left-preserved : goal.loop-left-preserved
loop-left-preserved c =
    let g = c.take-pair.ensures in
    let s = characters-step c.loop-left.left (c.loop-left.left - 2) c.loop-left.reader (omega (arith, c.loop-left-test.true)) in
    group-read 11 (c.character.result ∷ c.character-in-loop-left.result ∷ []) c.loop-left.invariant s.0 g.rest c.in_ok-extend_from_slice.ensures.items
    (search rules)

pub returns-then-single-ge-ONE_CHARACTER_LIMIT : goal.returns-then-single-ge-ONE_CHARACTER_LIMIT
unfolding characters_of
returns-then-single-ge-ONE_CHARACTER_LIMIT c = search (rules, le-ltb, fails)
