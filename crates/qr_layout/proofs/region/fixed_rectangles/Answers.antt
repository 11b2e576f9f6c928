use Rattle.{qr_layout.{proofs.lemmas.alignment.fixed-are, specs.Rectangles.AreFixed}, std.proofs.Common.{rules, arith, subst, sym}}
use Rattle.qr_layout.proofs.region.fixed_rectangles.Goals as goal

pub returns-then-has_version_information : goal.returns-then-has_version_information
returns-then-has_version_information c =
    subst (AreFixed c.args.version) (sym (search rules)) (fixed-are c.args.version (omega arith) (omega arith))

pub returns-else-has_version_information : goal.returns-else-has_version_information
returns-else-has_version_information c =
    subst (AreFixed c.args.version) (sym (search rules)) (fixed-are c.args.version (omega arith) (omega arith))
