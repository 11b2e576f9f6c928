use Rattle.{qr_bits.proofs.lemmas.modes.{character-index, index-is-value}, std.proofs.Common.{arith, refl, sym, ◌∙◌}}
use Rattle.qr_bits.proofs.modes.character_value.Goals as goal

pub unwrap-requires : goal.unwrap-requires
unwrap-requires c = rw (c.index_of.ensures, index-is-value c.args.character c.requires) refl

pub overflow_cast-result : goal.overflow_cast-result
overflow_cast-result c = omega (arith, (character-index c.args.character _ c.requires (sym c.index_of.ensures ∙ c.unwrap.ensures)).1)

pub returns : goal.returns
returns c = let i = character-index c.args.character _ c.requires (sym c.index_of.ensures ∙ c.unwrap.ensures) in record { value = i.0; most = i.1 }
