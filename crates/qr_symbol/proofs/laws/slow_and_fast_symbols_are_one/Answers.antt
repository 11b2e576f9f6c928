use Rattle.std.proofs.{Common.{rules, ◌∙◌}, lemmas.Result.err_from_is_err_and}
use Rattle.qr_symbol.proofs.laws.slow_and_fast_symbols_are_one.Goals as goal

pub returns-in_err-fast : goal.returns-in_err-fast
returns-in_err-fast c = search (rules, err_from_is_err_and)

pub returns-in_err-slow : goal.returns-in_err-slow
returns-in_err-slow c = let p = err_from_is_err_and c.from_residual-in_err-slow.result c.from_residual-in_err-slow.ensures.1 in
    rw p.1 (record { version = tt; level = tt; mask = tt; matrix = tt; best = tt; fault = p.2 ∙ c.in_err-slow.ensures.fault })
