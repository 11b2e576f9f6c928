use Rattle.{qr_matrix.specs.Grid.light, qr_mending.{proofs.lemmas.{mending.unmended-one, series.{content-one, content-refused}}, specs.Mending.IsUnmended}}
use Rattle.{qr_mending.specs.Series.{IsMendedContent, IsMendedSeries, IsUnmendedSeries}, qr_symbol.proofs.Facts.{exactly, joined-refused, unjoined-one}}
use Rattle.qr_mending.proofs.laws.series_mendings_are_refused_exactly.Goals as goal

pub returns : goal.returns
returns c =
    let gs = c.args.damaged.now in
    exactly (λ bytes. IsMendedSeries gs bytes.items) (IsUnmendedSeries gs) c.mend_series.result c.mend_series.ensures
    (λ bytes e. joined-refused IsMendedContent (λ g. IsUnmended (light g.side) g) content-refused content-one gs bytes.items e)
    (unjoined-one IsMendedContent (λ g. IsUnmended (light g.side) g) content-refused (λ g. unmended-one (light g.side) g) gs)
