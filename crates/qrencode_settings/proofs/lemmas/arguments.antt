-- From what `clap` states about a command line to the matches of this command.
use Rattle.std.proofs.{Common.{arith, ◌≡◌, ◌==◌, cond, length, Bool, false, List, [], Err, true, refl, ap}, lemmas.{Bool.eqb-true, List.nil_from_length}}
use Rattle.clap.specs.{Words.{HasKind, Kinds, fault_of, found_of, is_simple_and_free, kind_of}, Walk.{Text, rows_of}, Simple.{App, HasMatchesOf, is_simple}}
use Rattle.clap.specs.declared.{error.Error.Error, parser.matches.ArgMatches.ArgMatches}
use Rattle.clap.specs.declared.error.kind.ErrorKind.TheVariants as kind
use Rattle.qrencode_settings.specs.{Arguments.{command, faults_for, rows_for}, Settings.{refused_by_clap, settings_for, settings_of}}

pub is_simple-command : is_simple command ≡ true
unfolding command
is_simple-command = refl

pub is_free-command : is_simple_and_free command ≡ true
unfolding command
is_free-command = refl

pub faults-are : (a : App) (words : List Text) → a ≡ command → fault_of a words ≡ faults_for words
unfolding faults_for
faults-are a words e = ap (λ x. fault_of x words) e

pub rows-are : (a : App) (words : List Text) (m : ArgMatches) → a ≡ command → HasMatchesOf a words m → rows_of (found_of m) ≡ rows_for words
unfolding rows_for
rows-are a words m e h = search (arith, is_simple-command)

pub kinds-not-empty : (kinds : Kinds) (e : Error) → (kind_of e ≡ kind.OutOfMemory → ⊥) → HasKind kinds e → kinds ≡ [] → ⊥
kinds-not-empty kinds e other h none = search arith

-- a command line for which `clap` states a fault has no settings
pub refused-words : (words : List Text) → (faults_for words ≡ [] → ⊥) → settings_for words ≡ Err refused_by_clap
refused-words words some = go (length (faults_for words) == 0) refl
  where
    go : (b : Bool) → (length (faults_for words) == 0) ≡ b → cond b (settings_of (rows_for words)) (Err refused_by_clap) ≡ Err refused_by_clap
    go true e = absurd (some (nil_from_length (faults_for words) (eqb-true (length (faults_for words)) 0 e)))
    go false e = refl
