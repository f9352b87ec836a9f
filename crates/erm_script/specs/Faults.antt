-- What is wrong with a line that is not in the grammar, by the first kind of fault that applies.
use Rattle.std.specs.Prelude.{◌≡◌, ◌≢◌, ℕ, ◌^◌, ◌<◌, ◌≤◌, true, false, List, [], ◌∷◌, ◌++◌, length}
use Rattle.std.specs.Fmt.{decimal}
use Rattle.erm_model.specs.Member.{◌∈◌}
use Rattle.erm_model.specs.Spelling.{value_word}
use Rattle.erm_script.specs.declared.fault.FaultKind.{FaultKind}
use Rattle.erm_script.specs.declared.fault.FaultKind.TheVariants.{Threads, Name, Sessions, Command, Args, Number, Value}
use Rattle.erm_script.specs.declared.script.ScriptLine.{ScriptLine}
use Rattle.erm_script.specs.declared.script.TheConstants.{LAST_TABLE}
use Rattle.erm_script.specs.declared.grammar.Grammar.{Grammar}
use Rattle.erm_script.specs.declared.keyword.Keyword.{Keyword as AnyKeyword}
use Rattle.erm_script.specs.Keywords.{Argument, arguments_of, word_of, names_session, has_command}
use Rattle.erm_script.specs.Keywords.Argument.{TableArgument, KeyArgument, ValueArgument, SavepointArgument}
use Rattle.erm_script.specs.Script.{IsName, IsValue, kept_lines, AreScript, IsScript}
use Rattle.erm_script.specs.Words.{words_of}

-- a word is a number in the range that its place asks for, where it asks for a number
abbrev pub IsNumberFor : Argument → List ℕ → Type 0
IsNumberFor TableArgument word = (n : ℕ) × (n ≤ LAST_TABLE) × (word ≡ decimal n)
IsNumberFor KeyArgument word = (n : ℕ) × (n < 2 ^ 64) × (word ≡ decimal n)
IsNumberFor ValueArgument word = Unit {0}
IsNumberFor SavepointArgument word = (n : ℕ) × (n < 2 ^ 32) × (word ≡ decimal n)

-- a word is a value, where its place asks for one
abbrev pub IsValueFor : Argument → List ℕ → Type 0
IsValueFor TableArgument word = Unit {0}
IsValueFor KeyArgument word = Unit {0}
IsValueFor ValueArgument word = (value : List ℕ) × IsValue value × (word ≡ value_word value)
IsValueFor SavepointArgument word = Unit {0}

-- of each argument with its word P holds
abbrev pub EachFor : (Argument → List ℕ → Type 0) → List Argument → List (List ℕ) → Type 0
EachFor P [] words = Unit {0}
EachFor P (a ∷ arguments) [] = Unit {0}
EachFor P (a ∷ arguments) (w ∷ words) = P a w × EachFor P arguments words

-- the second word of a line is that of a command of sessions, and so many words are there for its arguments
pub record HasArguments (g : Grammar) (words : List (List ℕ)) : Type 0 where
  pub session : List ℕ
  pub command : AnyKeyword
  pub given : List (List ℕ)
  pub words_are : words ≡ session ∷ word_of command ∷ given
  pub named : names_session command ≡ true
  pub there : has_command g command ≡ true

-- the first word of a line is a session's name
abbrev pub BeginsWithName : List (List ℕ) → Type 0
BeginsWithName [] = ⊥
BeginsWithName (word ∷ words) = IsName word

-- the first word of a line is none of these names
abbrev pub BeginsWithNoneOf : List (List ℕ) → List (List ℕ) → Type 0
BeginsWithNoneOf names [] = Unit {0}
BeginsWithNoneOf names (word ∷ words) = word ∈ names → ⊥

-- a line that names no session: the word of one of the commands whose lines name none
pub record NamesNoSession (words : List (List ℕ)) : Type 0 where
  pub command : AnyKeyword
  pub words_are : words ≡ word_of command ∷ []
  pub unnamed : names_session command ≡ false

-- such a line, of a command that there is
abbrev pub AsksAlone : Grammar → List (List ℕ) → Type 0
AsksAlone g words = (alone : NamesNoSession words) × (has_command g alone.command ≡ true)

-- The words of a line have this fault, after lines that named these sessions. The lines that name no session are not for
-- a session's own thread, and else have at most the fault of a command that there is not.
abbrev pub HasFault : Grammar → List (List ℕ) → List (List ℕ) → FaultKind → Type 0
HasFault g names words Threads = (g.threads ≡ true) × NamesNoSession words
HasFault g names words Name = (NamesNoSession words → ⊥) × (BeginsWithName words → ⊥)
HasFault g names words Sessions = (NamesNoSession words → ⊥) × BeginsWithNoneOf names words × (g.sessions ≤ length names)
HasFault g names words Command = (AsksAlone g words → ⊥) × (HasArguments g words → ⊥)
HasFault g names words Args = (a : HasArguments g words) × (length a.given ≢ length (arguments_of a.command))
HasFault g names words Number = (a : HasArguments g words) × (EachFor IsNumberFor (arguments_of a.command) a.given → ⊥)
HasFault g names words Value = (a : HasArguments g words) × (EachFor IsValueFor (arguments_of a.command) a.given → ⊥)

-- the place of a kind in the order in which kinds are tried
abbrev pub turn_of : FaultKind → ℕ
turn_of Threads = 0
turn_of Name = 1
turn_of Sessions = 2
turn_of Command = 3
turn_of Args = 4
turn_of Number = 5
turn_of Value = 6

-- the first kind of fault that applies to the words of a line
pub record IsFirstFault (g : Grammar) (names words : List (List ℕ)) (kind : FaultKind) : Type 0 where
  pub applies : HasFault g names words kind
  pub first : (other : FaultKind) → turn_of other < turn_of kind → HasFault g names words other → ⊥

-- The first line that is not in the grammar has this number, and this is the first kind of fault that applies to it: the
-- lines before it are those of a script, and with it they are those of none, whatever follows.
pub record IsFirstBadLine (g : Grammar) (bytes : List ℕ) (number : ℕ) (kind : FaultKind) : Type 0 where
  pub before : List (ℕ × List ℕ)
  pub bad : List ℕ
  pub rest : List (ℕ × List ℕ)
  pub cut : kept_lines bytes ≡ before ++ (number, bad) ∷ rest
  pub names : List (List ℕ)
  pub script : List ScriptLine
  pub good : AreScript g before names script
  pub fault : IsFirstFault g names (words_of bad) kind
  pub wrong : (others : List (List ℕ)) (more : List ScriptLine) → AreScript g (before ++ (number, bad) ∷ []) others more → ⊥
  pub none : (others : List (List ℕ)) (more : List ScriptLine) → IsScript g bytes others more → ⊥

-- the words that were given for a command's arguments have this fault, and none that is tried before it
abbrev pub IsFaultOfArguments : List Argument → List (List ℕ) → FaultKind → Type 0
IsFaultOfArguments arguments given Threads = ⊥
IsFaultOfArguments arguments given Name = ⊥
IsFaultOfArguments arguments given Sessions = ⊥
IsFaultOfArguments arguments given Command = ⊥
IsFaultOfArguments arguments given Args = length given ≢ length arguments
IsFaultOfArguments arguments given Number = (length given ≡ length arguments) × (EachFor IsNumberFor arguments given → ⊥)
IsFaultOfArguments arguments given Value =
    (length given ≡ length arguments) × EachFor IsNumberFor arguments given × (EachFor IsValueFor arguments given → ⊥)

-- the words behind a session's name have this fault, and none that is tried before it but after those of a session
pub record IsFaultOfCommand (g : Grammar) (words : List (List ℕ)) (kind : FaultKind) : Type 0 where
  pub late : turn_of Command ≤ turn_of kind
  pub applies : (names : List (List ℕ)) (name : List ℕ) → (NamesNoSession (name ∷ words) → ⊥) → HasFault g names (name ∷ words) kind
  pub first : (other : FaultKind) → turn_of Command ≤ turn_of other → turn_of other < turn_of kind
      → (names : List (List ℕ)) (name : List ℕ) → HasFault g names (name ∷ words) other → ⊥
