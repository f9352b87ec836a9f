-- What is read of a command that was found.
use Rattle.std.proofs.Common.{◌≡◌, ◌≢◌, ◌⊎◌, ◌<◌, ◌≤◌, ℕ, true, false, List, [], ◌∷◌, Option, Some, None, decimal, refl, sym, ap, ◌∙◌, codes, inl, inr, subst, IfNone, IfSome}
use Rattle.std.specs.Prelude.{Box, option_map}
use Rattle.std.specs.Borrow.{Bor}
use Rattle.std.specs.Str.{bytes_eq}
use Rattle.clap.specs.Matches.{first_value, found_of, subcommand_name_of}
use Rattle.clap.specs.Simple.{subcommand_rows, subcommand_rows_of}
use Rattle.clap.specs.Walk.{Row, Text, first_of, rows_of}
use Rattle.clap.specs.declared.parser.matches.ArgMatches.{ArgMatches}
use Rattle.clap.specs.declared.parser.matches.ArgMatches.TheViews.{out-ArgMatches, out-SubCommand}
use Rattle.clap.specs.declared.parser.matches.SubCommand.{SubCommand}
use Rattle.std.specs.Box.{box_value}
use Rattle.clap.proofs.WalkLemmas.{first_value-rows}
use Rattle.erm_command_line.specs.CommandLine.{IsReadAs}
use Rattle.erm_command_line.specs.declared.command.Command.{Command}
use Rattle.erm_command_line.specs.declared.command.Command.TheVariants.{Run, Threads, Recover, Audit, Checkpoint, Ship, Follow, Replica, Make}
use Rattle.erm_command_line.specs.declared.command.TheConstants.{MOST_SESSIONS, MOST_TRANSACTIONS}

-- a name and rows that were found stand together
found_at : {Z : Type 0} (o : Option (Box SubCommand Z)) (name : Text) (rows : List Row) → Some name ≡ option_map (λ b. (out-SubCommand (box_value b)).name.now) o
    → Some rows ≡ option_map (λ (p : Text × List Row). p.1) (subcommand_rows o) → subcommand_rows o ≡ Some (name, rows)
found_at None name rows named found = absurd (cc)
found_at (Some b) name rows named found =
    let first : name ≡ (out-SubCommand (box_value b)).name.now = cc in
    let second : rows ≡ rows_of (found_of (out-SubCommand (box_value b)).matches) = cc in
    sym (ap (λ (n : Text). Some (n, rows)) first ∙ ap (λ (r : List Row). Some ((out-SubCommand (box_value b)).name.now, r)) second)

pub found_rows : (m : ArgMatches) (name : Text) (rows : List Row) → Some name ≡ subcommand_name_of m → Some rows ≡ option_map (λ (p : Text × List Row). p.1) (subcommand_rows_of m) → subcommand_rows_of m ≡ Some (name, rows)
found_rows m name rows named found = found_at (out-ArgMatches m).subcommand name rows named found

-- the value of an option
pub value_read : (options : ArgMatches) (id : Text) (value : Option Text) → value ≡ first_value (found_of options) id → first_of id (rows_of (found_of options)) ≡ value
value_read options id value is = sym (is ∙ first_value-rows (found_of options) id)

abbrev IsNoNumber : ℕ → Text → List Row → Type 0
IsNoNumber most id rows = (n : ℕ) → 0 < n → n ≤ most → first_of id rows ≢ Some (decimal n)

-- no value is none that spells a number, nor is a word that spells none
pub no_value : (most : ℕ) (id : Text) (rows : List Row) → first_of id rows ≡ None → IsNoNumber most id rows
no_value most id rows none n some few is = let bad : None ≡ Some (decimal n) = sym none ∙ is in cc

pub other_value : (most : ℕ) (id word : Text) (rows : List Row) → first_of id rows ≡ Some word → ((n : ℕ) → 0 < n → n ≤ most → word ≢ decimal n) → IsNoNumber most id rows
other_value most id word rows is other n some few read = let same : Some word ≡ Some (decimal n) = sym is ∙ read in other n some few (cc)

-- `make` without one of its numbers is no command
at_make : (name : Text) (rows : List Row) (command : Command) → name ≡ codes "make" → IsNoNumber MOST_TRANSACTIONS (codes "count") rows ⊎ IsNoNumber MOST_SESSIONS (codes "sessions") rows → IsReadAs (Some (name, rows)) command → ⊥
at_make name rows Run is other read = let bad : codes "make" ≡ codes "run" = sym is ∙ read in absurd (cc)
at_make name rows Threads is other read = let bad : codes "make" ≡ codes "threads" = sym is ∙ read in absurd (cc)
at_make name rows Recover is other read = let bad : codes "make" ≡ codes "recover" = sym is ∙ read in absurd (cc)
at_make name rows Audit is other read = let bad : codes "make" ≡ codes "audit" = sym is ∙ read in absurd (cc)
at_make name rows Checkpoint is other read = let bad : codes "make" ≡ codes "checkpoint" = sym is ∙ read in absurd (cc)
at_make name rows Ship is other read = let bad : false ≡ true = ap (λ (t : Text). bytes_eq t (codes "ship")) (sym is ∙ read) in absurd (cc)
at_make name rows Follow is other read = let bad : codes "make" ≡ codes "follow" = sym is ∙ read in absurd (cc)
at_make name rows Replica is other read = let bad : codes "make" ≡ codes "replica" = sym is ∙ read in absurd (cc)
at_make name rows (Make transactions seats as_text) is other read = elim other [
  | inl no_count ↦ no_count transactions read.1.0 read.1.1 read.1.2
  | inr no_seats ↦ no_seats seats read.2.0 read.2.1 read.2.2
]

pub unread : (m : ArgMatches) (name : Text) (rows : List Row) (command : Command) → subcommand_rows_of m ≡ Some (name, rows) → name ≡ codes "make"
    → IsNoNumber MOST_TRANSACTIONS (codes "count") rows ⊎ IsNoNumber MOST_SESSIONS (codes "sessions") rows → IsReadAs (subcommand_rows_of m) command → ⊥
unread m name rows command found is other read = at_make name rows command is other (subst (λ (f : Option (Text × List Row)). IsReadAs f command) found read)
