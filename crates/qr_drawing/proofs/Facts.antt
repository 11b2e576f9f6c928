-- The lemmas that other crates use.
pub use Rattle.qr_drawing.proofs.lemmas.text.LineLemmas.{no-texts, put-next, put-none, put-stops, texts_below-add, texts_below-alike, texts_below-length, texts_below-more, texts_below-none, texts_below-same, texts-of-items}
pub use Rattle.qr_drawing.proofs.lemmas.svg.{is_dark_at_above, is_dark_at_below, is_dark_at-inside, one-width, row-texts, run_text-light, square_at-item, three, two}
unfoldable pub use Rattle.qr_drawing.proofs.lemmas.svg.{run_text}
