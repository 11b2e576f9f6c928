use Rattle.{std.proofs.Common.arith, qr_layout.proofs.lemmas.blocks.laws-of}
use Rattle.qr_layout.proofs.laws.data_is_bounded.Goals as goal

pub returns-clause-small : goal.returns-clause-small
returns-clause-small c = λ h. (laws-of c.args.level c.args.version (omega arith) (omega arith)).most_small h

pub returns-clause-middle : goal.returns-clause-middle
returns-clause-middle c = λ h. (laws-of c.args.level c.args.version (omega arith) (omega arith)).most_middle h

pub returns-clause-most : goal.returns-clause-most
returns-clause-most c = (laws-of c.args.level c.args.version (omega arith) (omega arith)).most
