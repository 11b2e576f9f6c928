-- The lemmas that the attributes of functions name.
use Rattle.qr_sampling.proofs.lemmas.{means.{mean-small, places-many, places-some}, map.{product-low, product-high}, sums.sum_below-more, tables.{column-in, entry-is, index-in, row-in, side-in}}

-- products that fit 64 bits
pub ruleset product_facts = (product-low, product-high)

-- one more term of a sum
pub ruleset sum_facts = (sum_below-more)

-- one more value of a table
pub ruleset table_facts = (column-in, entry-is, index-in, row-in, side-in)

-- the mean of the places around a module
pub ruleset mean_facts = (mean-small, places-many, places-some)

-- one more term of a sum of a table
pub ruleset sum_table_facts = (index-in, sum_below-more)
