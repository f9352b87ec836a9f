-- The command line that the program takes, and which words ask for which command.
use Rattle.std.specs.Prelude.{◌≡◌, ◌⊎◌, ◌<◌, ◌≤◌, ◌+◌, ℕ, Bool, true, false, if◌then◌else◌, List, [], ◌∷◌, ◌++◌, map, codes, Option, Some, None}
use Rattle.std.specs.List.{flat_map}
use Rattle.std.specs.Prelude.{String, string_bytes}
use Rattle.std.specs.Fmt.{decimal}
use Rattle.std.specs.declared.alloc.Global.{Global}
use Rattle.clap.specs.Walk.{Row, Rule, Text, first_of, one_of}
use Rattle.clap.specs.Simple.{App, Shape, new_app, new_rule, with_rule, with_subcommand}
use Rattle.clap.specs.declared.builder.action.ArgAction.TheVariants.{SetTrue}
use Rattle.erm_command_line.specs.declared.command.TheConstants.{MOST_SESSIONS, MOST_TRANSACTIONS}
use Rattle.erm_command_line.specs.declared.command.Command.{Command}
use Rattle.erm_command_line.specs.declared.command.Command.TheVariants.{Run, Threads, Recover, Audit, Checkpoint, Ship, Follow, Replica, Make}

-- ---- the command line, as the library that reads it sees it

-- an option that must be given, with a value
abbrev pub needed : Text → Rule
needed name = record (new_rule name) { long = Some name; required = true }

-- an option without a value
abbrev pub flag : Text → Rule
flag name = record (new_rule name) { long = Some name; action = Some SetTrue }

-- the command `make`, with its options
abbrev pub make_shape : Shape
make_shape = (with_rule (with_rule (with_rule (new_app (codes "make")) (needed (codes "count"))) (needed (codes "sessions"))) (flag (codes "text"))).top

-- a command without options
abbrev pub plain_shape : Text → Shape
plain_shape name = (new_app name).top

abbrev pub program : App
program = record (new_app (codes "erm")) { top = record (new_app (codes "erm")).top { subcommand_required = true } }

-- the program's name, and its commands
abbrev pub command_line : App
command_line = with_subcommand (with_subcommand (with_subcommand (with_subcommand (with_subcommand (with_subcommand (with_subcommand (with_subcommand (with_subcommand program (plain_shape (codes "run")))
    (plain_shape (codes "threads"))) make_shape) (plain_shape (codes "recover"))) (plain_shape (codes "audit"))) (plain_shape (codes "checkpoint")))
    (plain_shape (codes "ship"))) (plain_shape (codes "follow"))) (plain_shape (codes "replica"))

-- ---- the options of `make`

-- an option of `make`, with the word that is its value
pub data MakeOption : Type 0 where
  count : Text → MakeOption
  sessions : Text → MakeOption
  text : MakeOption

-- its words, the value being a word of its own
abbrev pub apart : MakeOption → List Text
apart (count value) = codes "--count" ∷ value ∷ []
apart (sessions value) = codes "--sessions" ∷ value ∷ []
apart text = codes "--text" ∷ []

-- its words, the value joined to the option's name
abbrev pub joined : MakeOption → List Text
joined (count value) = (codes "--count=" ++ value) ∷ []
joined (sessions value) = (codes "--sessions=" ++ value) ∷ []
joined text = codes "--text" ∷ []

-- the values of each option, in order, and how often the mark for text is given
abbrev pub counts_of : List MakeOption → List Text
counts_of [] = []
counts_of (count value ∷ rest) = value ∷ counts_of rest
counts_of (option ∷ rest) = counts_of rest

abbrev pub sessions_of : List MakeOption → List Text
sessions_of [] = []
sessions_of (sessions value ∷ rest) = value ∷ sessions_of rest
sessions_of (option ∷ rest) = sessions_of rest

abbrev pub marks_of : List MakeOption → ℕ
marks_of [] = 0
marks_of (text ∷ rest) = marks_of rest + 1
marks_of (option ∷ rest) = marks_of rest

-- the one word is a number from 1 to `most`, in decimal digits with no sign and no zero before it
abbrev pub AreNumber : ℕ → ℕ → List Text → Type 0
AreNumber most n words = (0 < n) × (n ≤ most) × (words ≡ decimal n ∷ [])

-- The options ask for so many transactions of so many sessions, each number given once, and for text where that is marked, which it is at most
-- once.
pub record AskFor (options : List MakeOption) (transactions seats : ℕ) (as_text : Bool) : Type 0 where
  pub counted : AreNumber MOST_TRANSACTIONS transactions (counts_of options)
  pub seated : AreNumber MOST_SESSIONS seats (sessions_of options)
  pub marked : marks_of options ≡ (if as_text then 1 else 0)

-- each option, in any order, is written in one of the two ways
abbrev pub AreWritten : List MakeOption → List Text → Type 0
AreWritten [] words = words ≡ []
AreWritten (option ∷ rest) words = (more : List Text) × ((words ≡ apart option ++ more) ⊎ (words ≡ joined option ++ more)) × AreWritten rest more

-- ---- the words of a command

-- the word of a command without options
abbrev pub word_of : Command → Text
word_of Run = codes "run"
word_of Threads = codes "threads"
word_of Recover = codes "recover"
word_of Audit = codes "audit"
word_of Checkpoint = codes "checkpoint"
word_of Ship = codes "ship"
word_of Follow = codes "follow"
word_of Replica = codes "replica"
word_of (Make transactions seats as_text) = codes "make"

-- The words behind the program's name, as they are meant to be given: the command's word and nothing more, or `make` and its options, each value a
-- word of its own.
abbrev pub AreCommandWords : Command → List Text → Type 0
AreCommandWords (Make transactions seats as_text) words =
    (options : List MakeOption) × AskFor options transactions seats as_text × (words ≡ codes "make" ∷ flat_map apart options)
AreCommandWords command words = words ≡ word_of command ∷ []

-- The words behind the program's name that ask for a command: these, and those in which a value is joined to its option.
abbrev pub AreTaken : Command → List Text → Type 0
AreTaken (Make transactions seats as_text) words =
    (options : List MakeOption) × (more : List Text) × AskFor options transactions seats as_text × AreWritten options more × (words ≡ codes "make" ∷ more)
AreTaken command words = words ≡ word_of command ∷ []

-- The words ask for a command: the program's name, then the command's words. The mark `--`, which ends options, may stand last.
pub record IsCommand (words : List (String Global)) (command : Command) : Type 0 where
  pub name : Text
  pub args : List Text
  pub asks : AreTaken command args
  pub spelled : (map string_bytes words ≡ name ∷ args) ⊎ (map string_bytes words ≡ name ∷ args ++ codes "--" ∷ [])

-- the words ask for no command
abbrev pub IsNoCommand : List (String Global) → Type 0
IsNoCommand words = (command : Command) → IsCommand words command → ⊥

-- ---- what is read

-- what the library read, the name of a command and what it found of its options, is this command
abbrev pub IsReadAs : Option (Text × List Row) → Command → Type 0
IsReadAs None command = ⊥
IsReadAs (Some (name, rows)) (Make transactions seats as_text) = (name ≡ codes "make")
    × ((0 < transactions) × (transactions ≤ MOST_TRANSACTIONS) × (first_of (codes "count") rows ≡ Some (decimal transactions)))
    × ((0 < seats) × (seats ≤ MOST_SESSIONS) × (first_of (codes "sessions") rows ≡ Some (decimal seats)))
    × (one_of (codes "text") rows ≡ Some (codes "true") → as_text ≡ true) × (one_of (codes "text") rows ≡ Some (codes "false") → as_text ≡ false)
IsReadAs (Some (name, rows)) command = name ≡ word_of command
