use Rattle.qr_parsing.proofs.lemmas.sheet.{ascii-reads, block-reads, inverse-reads, row-dark, row-inside, svg-reads}
use Rattle.qr_parsing.proofs.sheet.write_row.Goals as goal

pub write_by-requires-clause-inside : goal.write_by-requires-clause-inside
write_by-requires-clause-inside c =
    row-inside _ _ _ _ (ascii-reads _ _ _ c.in-Ascii.is c.signs_of.ensures) _ _ _ _ _ c.index_of-first.ensures _ _ c.args.sheet.now.whole c.requires.k_in c.requires.y_in c.requires.x_in

pub write_by-requires-in-AsciiInverse-clause-inside : goal.write_by-requires-in-AsciiInverse-clause-inside
write_by-requires-in-AsciiInverse-clause-inside c =
    row-inside _ _ _ _ (inverse-reads _ _ _ c.in-AsciiInverse.is c.signs_of-in-AsciiInverse.ensures) _ _ _ _ _ c.index_of-first.ensures _ _ c.args.sheet.now.whole c.requires.k_in c.requires.y_in c.requires.x_in

pub write_by-requires-in-Utf8-clause-inside : goal.write_by-requires-in-Utf8-clause-inside
write_by-requires-in-Utf8-clause-inside c =
    row-inside _ _ _ _ (block-reads _ _ _ c.in-Utf8.is c.signs_of-in-Utf8.ensures) _ _ _ _ _ c.index_of-first.ensures _ _ c.args.sheet.now.whole c.requires.k_in c.requires.y_in c.requires.x_in

pub write_by-requires-in-Svg-clause-inside : goal.write_by-requires-in-Svg-clause-inside
write_by-requires-in-Svg-clause-inside c =
    row-inside _ _ _ _ (svg-reads _ _ _ c.in-Svg.is c.signs_of-in-Svg.ensures) _ _ _ _ _ c.index_of-first.ensures _ _ c.args.sheet.now.whole c.requires.k_in c.requires.y_in c.requires.x_in

pub returns-in-Ascii : goal.returns-in-Ascii
returns-in-Ascii c =
    row-dark _ _ _ _ (ascii-reads _ _ _ c.in-Ascii.is c.signs_of.ensures) _ _ _ _ _ c.index_of-first.ensures _ _ c.write_by.ensures

pub returns-in-AsciiInverse : goal.returns-in-AsciiInverse
returns-in-AsciiInverse c =
    row-dark _ _ _ _ (inverse-reads _ _ _ c.in-AsciiInverse.is c.signs_of-in-AsciiInverse.ensures) _ _ _ _ _ c.index_of-first.ensures _ _ c.write_by-in-AsciiInverse.ensures

pub returns-in-Utf8 : goal.returns-in-Utf8
returns-in-Utf8 c =
    row-dark _ _ _ _ (block-reads _ _ _ c.in-Utf8.is c.signs_of-in-Utf8.ensures) _ _ _ _ _ c.index_of-first.ensures _ _ c.write_by-in-Utf8.ensures

pub returns-in-Svg : goal.returns-in-Svg
returns-in-Svg c =
    row-dark _ _ _ _ (svg-reads _ _ _ c.in-Svg.is c.signs_of-in-Svg.ensures) _ _ _ _ _ c.index_of-first.ensures _ _ c.write_by-in-Svg.ensures
