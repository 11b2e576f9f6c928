-- The lemmas that the attributes of functions name.
use Rattle.qr_field.proofs.lemmas.{galois.{ByteLemmas.product-of_zero, PowerLemmas.{power-lt, product-of_powers}}, laws.DistanceLemmas.difference-same}
use Rattle.{qr_field.proofs.lemmas.polynomial.ListLemmas.length-plus, qr_layout.proofs.Facts.{blocks-sound, laws-of}}
use Rattle.qr_mending.proofs.lemmas.block.{erasures-one, differences-same, mended-same}
use Rattle.qr_mending.proofs.lemmas.{erasures.{erased-more, erased-self, errors-more, modified-more, erasures-marked, length-read, errors-self}, errors.RemovalLemmas.sum-more}
use Rattle.qr_mending.proofs.lemmas.{format.{near-one, near-two}, laws.WeakerLemmas.weaker-block}
use Rattle.qr_mending.proofs.lemmas.locator.{add-all, add-begins, add-leading, add-more, add-skip, search-begins, shift-more, shift-leading}
use Rattle.qr_mending.proofs.lemmas.{mending.unmended-one, roots.{length-rooted, length-rooted_rest, divided-more, quotient-value-more_divided, value-more_divided}}
use Rattle.qr_mending.proofs.lemmas.sums.{digits-added, table-at, multiple-first, multiple-is, multiple-none, multiple-same, values-none}
use Rattle.qr_symbol.proofs.Facts.{data-sizes-whole, readings-none, sizes-whole, unjoined-next}
use Rattle.std.{proofs.lemmas.{List.{take_all, take_rest, take-replicate, Elements.All-from_get_or}, Result.err_from_is_err_and}, specs.Int.Bits.xor_zero_r}

pub ruleset value_facts = (All-from_get_or, values-none)

pub ruleset power_facts = (product-of_powers)

pub ruleset multiple_facts = (multiple-first, multiple-is, multiple-none, multiple-same)

pub ruleset digit_facts = (digits-added, table-at)

pub ruleset search_facts = (search-begins)

pub ruleset no_error_facts = (power-lt, product-of_zero, xor_zero_r)

pub ruleset sum_facts = (length-plus, sum-more, take_all)

pub ruleset add_facts = (add-all, add-begins, add-leading, add-more, add-skip)

pub ruleset shift_facts = (shift-more, shift-leading, take-replicate)

pub ruleset root_facts = (All-from_get_or, length-rooted, length-rooted_rest)

pub ruleset division_facts = (All-from_get_or, divided-more, quotient-value-more_divided, value-more_divided)

pub ruleset block_facts = (differences-same, mended-same)

pub ruleset erasure_facts = (difference-same, erased-more, errors-more, modified-more, take_rest)

pub ruleset series_facts = (err_from_is_err_and, readings-none, unjoined-next)

pub ruleset law_facts = (near-one, near-two, unmended-one, weaker-block)

pub ruleset mend_with_erasures_facts = (erased-self, erasures-marked, length-read, errors-self, erasures-one)

pub ruleset size_facts = (blocks-sound, data-sizes-whole, laws-of, sizes-whole)
