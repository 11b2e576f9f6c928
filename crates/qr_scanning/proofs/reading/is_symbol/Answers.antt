use Rattle.std.proofs.Common.{◌≡◌, ◌*◌, ◌<◌, ◌≤◌, arith, rules}
use Rattle.qr_matrix.specs.Bytes.{square_of_bytes, square_of_unknown}
use Rattle.qr_mending.proofs.Facts.{mended-not-refused}
use Rattle.qr_mending.specs.Mending.{HasWrongModules, IsMendedReading, IsUnmended}
use Rattle.qr_scanning.proofs.lemmas.reading.{told-by-blocks, told-by-count}
use Rattle.qr_scanning.proofs.reading.is_symbol.Goals as goal

pub returns-in-Ok : goal.returns-in-Ok
returns-in-Ok c =
    let u = square_of_unknown c.args.side c.args.modules.now in
    let g = square_of_bytes c.args.side c.args.modules.now in
    let m = c.in-Ok.mended in
    let read : IsMendedReading u g m.version m.level m.mask m.parsed m.changed.items = search rules in
    let counted : HasWrongModules u g m.version m.level m.mask m.changed.items m.wrong_modules = search rules in
    let few : m.wrong_modules * c.args.share ≤ g.side * g.side = search (rules, arith) in
    let items : c.deref.result.now ≡ m.changed.items = search rules in
    told-by-blocks c.args.share u g m.version m.level m.mask m.parsed m.changed.items m.wrong_modules c.are_checked.result read counted few (rw (c.spare-spare.ensures, items) at c.are_checked.ensures)

pub returns-then-from-area : goal.returns-then-from-area
returns-then-from-area c =
    let u = square_of_unknown c.args.side c.args.modules.now in
    let g = square_of_bytes c.args.side c.args.modules.now in
    let m = c.in-Ok.mended in
    let counted : HasWrongModules u g m.version m.level m.mask m.changed.items m.wrong_modules = search rules in
    let many : g.side * g.side < m.wrong_modules * c.args.share = search (rules, arith) in
    (λ never. search rules, λ is. absurd (told-by-count c.args.share u g m.version m.level m.mask m.changed.items m.wrong_modules counted many is))

pub returns : goal.returns
returns c =
    let u = square_of_unknown c.args.side c.args.modules.now in
    let g = square_of_bytes c.args.side c.args.modules.now in
    let refused : IsUnmended u g c.in-Err.fault = rw (c.in_ok-matrix.ensures.dark, c.in_ok-matrix.ensures.unknown) at c.in-Err.ensures.mended in (
      λ never. search rules,
      λ is.
          let memory = mended-not-refused u g is.version is.level is.mask is.content is.changed c.in-Err.fault is.read refused in
          search (rules, memory),
    )
