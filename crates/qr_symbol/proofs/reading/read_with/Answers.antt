use Rattle.std.proofs.{Common.{rules, Err, sym, ap, subst, arith}, lemmas.Result.err_from_is_err_and}
use Rattle.{qr_layout.proofs.Facts.laws-of, qr_symbol.proofs.lemmas.reading.SymbolReadLemmas.{is-parsed, not-checked, not-parsed}}
use Rattle.qr_symbol.{specs.{Reading.{IsRead, IsMessage}, declared.fault.ReadFault.ReadFault}, proofs.reading.read_with.Goals.After-deref-2}
use Rattle.qr_symbol.proofs.reading.read_with.Goals as goal

pub returns-in_err-message : goal.returns-in_err-message
returns-in_err-message c =
    let g = c.args.matrix.now in
    let p = err_from_is_err_and c.from_residual-in_err-message.result c.from_residual-in_err-message.ensures.1 in
    rw (p.1, p.2) (not-checked g c.args.size.version _ _ _ _ (record { least = omega arith; most = omega arith; side = c.requires.side }) c.requires.format
    (subst (IsRead c.args.size.version c.args.mask g) (sym c.deref.ensures.value) c.in_ok-codewords.ensures.read) c.in_err-message.ensures.fault
    (λ e d n h. (c.in_err-message.ensures.check.0 (ap (λ (f : ReadFault). Err f) e)).1 d (n, h)))

pub parse-requires : goal.parse-requires
parse-requires c = let most = (laws-of c.args.size.level c.args.size.version (omega arith) (omega arith)).most in
    search rules

-- the message that was deinterleaved is that of the square
held : (c : After-deref-2) → IsMessage c.args.size.version c.args.size.level c.args.mask c.args.matrix.now c.deref-2.result.now
held c = search rules

pub returns-in_err-parse : goal.returns-in_err-parse
returns-in_err-parse c =
    let p = err_from_is_err_and c.from_residual-in_err-parse.result c.from_residual-in_err-parse.ensures.1 in
    rw (p.1, p.2) (not-parsed _ _ _ _ _ _ (record { least = omega arith; most = omega arith; side = c.requires.side }) c.requires.format
    (held (goal.at.returns-in_err-parse c).After-deref-2) c.in_err-parse.ensures)

pub returns : goal.returns
returns c = is-parsed _ _ _ _ _ _ (record { least = omega arith; most = omega arith; side = c.requires.side }) c.requires.format
    (held (goal.at.returns c).After-deref-2) c.in_ok-parse.ensures
