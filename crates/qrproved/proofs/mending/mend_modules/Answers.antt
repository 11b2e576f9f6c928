use Rattle.{qr_matrix.specs.Grid.Grid, qr_mending.specs.Mending.{wrong_format_least, wrong_format_modules, IsMendedReading, IsUnmended}, qrproved.specs.Modules.square_of_bytes}
use Rattle.std.{proofs.Common.{rules, ◌≡◌, subst}, specs.Prelude.{IfOk, MatchResult}}
use Rattle.qrproved.proofs.mending.mend_modules.Goals as goal

pub returns-clause-mended : goal.returns-clause-mended
returns-clause-mended c =
    let g = square_of_bytes c.args.side c.args.modules.now in
    subst (λ (z : Grid). MatchResult c.mend_symbol_with_unknown.result (λ m. IsMendedReading z g m.version m.level m.mask m.parsed m.changed.items) (IsUnmended z g)) c.in_ok-matrix.ensures.unknown
    (subst (λ (z : Grid). MatchResult c.mend_symbol_with_unknown.result (λ m. IsMendedReading c.in_ok-matrix.unknown z m.version m.level m.mask m.parsed m.changed.items) (IsUnmended c.in_ok-matrix.unknown z)) c.in_ok-matrix.ensures.dark c.mend_symbol_with_unknown.ensures.mended)

pub returns-clause-format : goal.returns-clause-format
returns-clause-format c =
    let g = square_of_bytes c.args.side c.args.modules.now in
    subst (λ (z : Grid). IfOk c.mend_symbol_with_unknown.result (λ m. m.wrong_format_modules ≡ wrong_format_modules z g m.level m.mask)) c.in_ok-matrix.ensures.unknown
    (search rules)

pub returns-clause-least : goal.returns-clause-least
returns-clause-least c =
    let g = square_of_bytes c.args.side c.args.modules.now in
    subst (λ (z : Grid). IfOk c.mend_symbol_with_unknown.result (λ m. m.wrong_format_least ≡ wrong_format_least z g m.level m.mask)) c.in_ok-matrix.ensures.unknown
    (search rules)

pub returns-clause-modules : goal.returns-clause-modules
returns-clause-modules c = search rules
