-- The command's arguments, and what `clap` finds in a command line. In this file a rule is what the crate `clap` is
-- told of one argument. `id` is the name that an option, or the string, has in the code. `letter` is the code point of
-- an option's letter. `words` is the command line, which begins with the program's name.
use Rattle.std.specs.Prelude.{ℕ, true, List, codes, Some, pos, slice_index, ℤ}
use Rattle.clap.specs.Words.{Kinds, fault_of}
use Rattle.clap.specs.Walk.{Row, Rule, Text}
use Rattle.clap.specs.Simple.{App, matches_of, new_app, new_rule, with_rule}
use Rattle.clap.specs.declared.builder.action.ArgAction.TheVariants.{SetTrue}
use Rattle.clap.specs.declared.builder.value_parser.ValueParser.TheVariants as parser

-- The rule of an option that takes a text, such as -l [own]
abbrev pub text_rule : Text → ℕ → Rule
text_rule id letter = record (new_rule id) { short = Some letter; value_names = 1 }

-- The rule of an option that takes a number, such as -v or -m. The number is from 0 to `most` [own]
abbrev pub number_rule : Text → ℕ → ℤ → Rule
number_rule id letter most = record (text_rule id letter) { parser = Some (parser.Signed (pos 0) most) }

-- The rule of an option that takes a text and has to be given. If it is missing, `clap` refuses the arguments [own]
abbrev pub required_rule : Text → ℕ → Rule
required_rule id letter = record (text_rule id letter) { required = true }

-- The rule of an argument that is neither an option nor the value of an option, such as the string [own]
abbrev pub positional_rule : Text → Rule
positional_rule id = record (new_rule id) { value_names = 1 }

-- The rule of an option without a value [own]
abbrev pub flag_rule : Text → ℕ → Rule
flag_rule id letter = record (new_rule id) { short = Some letter; action = Some SetTrue }

-- The code point of an option's letter. The text consists of this letter alone [own]
abbrev pub letter_of : Text → ℕ
letter_of text = slice_index text 0

-- The rules of the command. Its options are -l, -v (0 to 40), -t, -m (0 to 100), -8, -k, -i and -S, and it takes one
-- string. Only -t has to be given [own]
unfoldable pub command : App
command = with_rule (with_rule (with_rule (with_rule (with_rule (with_rule (with_rule (with_rule (with_rule (new_app (codes "qrencode"))
    (text_rule (codes "level") (letter_of (codes "l"))))
    (number_rule (codes "version") (letter_of (codes "v")) (pos 40)))
    (required_rule (codes "type") (letter_of (codes "t"))))
    (number_rule (codes "margin") (letter_of (codes "m")) (pos 100)))
    (flag_rule (codes "bytes-only") (letter_of (codes "8"))))
    (flag_rule (codes "kanji") (letter_of (codes "k"))))
    (flag_rule (codes "fold") (letter_of (codes "i"))))
    (flag_rule (codes "structured") (letter_of (codes "S"))))
    (positional_rule (codes "string"))

-- What `clap` finds in the command line `words`: the arguments that are given, with their values [own]
unfoldable pub rows_for : List Text → List Row
rows_for words = matches_of command words

-- The kinds of fault that `clap` finds in the command line `words`. If there is none, `clap` accepts the arguments
-- [own]
unfoldable pub faults_for : List Text → Kinds
faults_for words = fault_of command words
