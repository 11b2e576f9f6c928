use Rattle.qr_mending.{specs.declared.format.FormatCopy.TheVariants.{First, Second}, proofs.lemmas.mending.{both-alike, certain-first, mended-by}}
use Rattle.qr_mending.proofs.mending.mend_by_format.Goals as goal

pub returns-then-is_certain-clause-mended : goal.returns-then-is_certain-clause-mended
returns-then-is_certain-clause-mended c =
    let scan = c.args.scan.now in
    let u = scan.unknown.now in
    let g = scan.matrix.now in
    certain-first u g scan.version c.in_ok-first.first
    (mended-by u g First scan.version c.near_format_of-near_first.result c.in_ok-first.first c.near_format_of-near_first.ensures c.in_ok-first.ensures.mended)
    (rw c.if-is_certain.true at c.is_certain.ensures)

pub returns-then-is_same_format-clause-mended : goal.returns-then-is_same_format-clause-mended
returns-then-is_same_format-clause-mended c =
    let scan = c.args.scan.now in
    let u = scan.unknown.now in
    let g = scan.matrix.now in
    let same = rw c.if-is_same_format.true at c.is_same_format.ensures in
    both-alike u g scan.version c.in_ok-first.first
    (mended-by u g First scan.version c.near_format_of-near_first.result c.in_ok-first.first c.near_format_of-near_first.ensures c.in_ok-first.ensures.mended)
    (mended-by u g Second scan.version c.near_format_of-near_second.result c.in_ok-first.first c.near_format_of-near_second.ensures
    (rw same at c.in_ok-first.ensures.mended))

pub nearer-requires-clause-first : goal.nearer-requires-clause-first
nearer-requires-clause-first c =
    let scan = c.args.scan.now in
    mended-by scan.unknown.now scan.matrix.now First scan.version c.near_format_of-near_first.result c.in_ok-first.first
    c.near_format_of-near_first.ensures c.in_ok-first.ensures.mended

pub nearer-requires-clause-second : goal.nearer-requires-clause-second
nearer-requires-clause-second c =
    let scan = c.args.scan.now in
    mended-by scan.unknown.now scan.matrix.now Second scan.version c.near_format_of-near_second.result c.in_ok-second.second
    c.near_format_of-near_second.ensures c.in_ok-second.ensures.mended
