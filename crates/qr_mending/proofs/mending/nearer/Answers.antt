use Rattle.{qr_mending.proofs.lemmas.mending.{first-alone, first-nearer, second-alone, second-nearer}, std.proofs.Common.{rules, arith}}
use Rattle.qr_mending.proofs.mending.nearer.Goals as goal

pub returns-in_default : goal.returns-in_default
returns-in_default c = search (rules, second-alone)

pub returns-in_default-second : goal.returns-in_default-second
returns-in_default-second c =
    let scan = c.args.scan.now in
    first-alone scan.unknown.now scan.matrix.now scan.version c.in-Some.first (rw c.in-Some.is at c.requires.first)
    (rw c.in_default-second.is at c.requires.second)

pub returns-then-format_cost : goal.returns-then-format_cost
returns-then-format_cost c =
    let scan = c.args.scan.now in
    second-nearer scan.unknown.now scan.matrix.now scan.version c.in-Some.first c.in-Some-second.second
    (rw c.in-Some.is at c.requires.first) (rw c.in-Some-second.is at c.requires.second)
    (omega arith)

pub returns : goal.returns
returns c =
    let scan = c.args.scan.now in
    first-nearer scan.unknown.now scan.matrix.now scan.version c.in-Some.first c.in-Some-second.second
    (rw c.in-Some.is at c.requires.first) (rw c.in-Some-second.is at c.requires.second)
    (omega arith)
