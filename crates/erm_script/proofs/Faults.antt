-- Faults of lines: which kind is the first one, and that no line of a script has one.
use Rattle.std.proofs.Common.{◌≡◌, ◌≢◌, ℕ, ◌-◌, ◌<◌, ◌≤◌, nat_eq, Bool, true, false, List, [], ◌∷◌, ◌++◌, length, take, codes, ap, sym, ◌∙◌, ◌⊎◌, arith, inl, inr}
use Rattle.std.specs.Cmp.Lexicographic.{pointwise}
use Rattle.std.proofs.lemmas.Bool.{false≢true}
use Rattle.std.proofs.lemmas.Bool.Decides.{Decides-eqb}
use Rattle.std.proofs.lemmas.Slice.Eq.{slice_eq-Decides}
use Rattle.std.proofs.lemmas.List.{take_all, length-take-le}
use Rattle.erm_model.specs.Member.{◌∈◌}
use Rattle.erm_model.proofs.Members.{∈-at}
use Rattle.erm_script.specs.declared.fault.FaultKind.{FaultKind}
use Rattle.erm_script.specs.declared.fault.FaultKind.TheVariants.{Threads, Name, Sessions, Command, Args, Number, Value}
use Rattle.erm_script.specs.declared.script.ScriptLine.{ScriptLine}
use Rattle.erm_script.specs.declared.grammar.Grammar.{Grammar}
use Rattle.erm_script.specs.declared.keyword.Keyword.{Keyword}
use Rattle.erm_script.specs.declared.keyword.Keyword.TheVariants as keyword
use Rattle.erm_script.specs.Keywords.{Argument, arguments_of, word_of, names_session, has_command}
use Rattle.erm_script.specs.declared.script.Command.{Command as AnyCommand}
use Rattle.erm_script.specs.Faults.{EachFor, IsNumberFor, IsValueFor, HasArguments, HasFault, turn_of, IsFirstFault, IsFaultOfArguments, IsFaultOfCommand, BeginsWithName, NamesNoSession}
use Rattle.erm_script.specs.Script.{IsName, IsCommand, AreScript, name_of, keyword_of, given_words}
use Rattle.erm_script.specs.Words.{words_of}
use Rattle.erm_script.proofs.Lines.{command_is_given, same_keyword}
use Rattle.erm_script.proofs.Readings.{AreScript-unique}
use Rattle.erm_script.proofs.Scripts.{last_line, front_script}
use Rattle.erm_script.proofs.Words.{alike, only_word}

-- the words of a line have one command's arguments
same_arguments : {g : Grammar} {words : List (List ℕ)} (a b : HasArguments g words) → (a.given ≡ b.given) × (a.command ≡ b.command)
same_arguments a b =
    let e : a.session ∷ word_of a.command ∷ a.given ≡ b.session ∷ word_of b.command ∷ b.given = sym a.words_are ∙ b.words_are in
    let command : word_of a.command ≡ word_of b.command = cc in
    let given : a.given ≡ b.given = cc in
    (given, same_keyword a.command b.command command)

-- there are as many words as arguments
no_args_fault : (g : Grammar) (names words : List (List ℕ)) (a : HasArguments g words) → length a.given ≡ length (arguments_of a.command)
    → HasFault g names words Args → ⊥
no_args_fault g names words a long fault =
    let same = same_arguments a fault.0 in
    fault.1 (rw (same.0, same.1) at long)

-- the numbers are numbers
no_number_fault : (g : Grammar) (names words : List (List ℕ)) (a : HasArguments g words) → EachFor IsNumberFor (arguments_of a.command) a.given
    → HasFault g names words Number → ⊥
no_number_fault g names words a numbers fault =
    let same = same_arguments a fault.0 in
    fault.1 (rw (same.0, same.1) at numbers)

-- the value is one
no_value_fault : (g : Grammar) (names words : List (List ℕ)) (a : HasArguments g words) → EachFor IsValueFor (arguments_of a.command) a.given
    → HasFault g names words Value → ⊥
no_value_fault g names words a values fault =
    let same = same_arguments a fault.0 in
    fault.1 (rw (same.0, same.1) at values)

-- no kind comes after the last one
turn_of-le : (kind : FaultKind) → turn_of kind ≤ 6
turn_of-le Threads = omega arith
turn_of-le Name = omega arith
turn_of-le Sessions = omega arith
turn_of-le Command = omega arith
turn_of-le Args = omega arith
turn_of-le Number = omega arith
turn_of-le Value = omega arith

-- what the fault of a command's arguments says of their number, and of the numbers among them
arguments_before : (arguments : List Argument) (given : List (List ℕ)) (kind : FaultKind) → IsFaultOfArguments arguments given kind
    → (4 ≤ turn_of kind) × (4 < turn_of kind → length given ≡ length arguments) × (5 < turn_of kind → EachFor IsNumberFor arguments given)
arguments_before arguments given Threads fault = absurd fault
arguments_before arguments given Name fault = absurd fault
arguments_before arguments given Sessions fault = absurd fault
arguments_before arguments given Command fault = absurd fault
arguments_before arguments given Args fault = (omega arith, λ late. absurd (omega arith), λ late. absurd (omega arith))
arguments_before arguments given Number fault = (omega arith, λ late. fault.0, λ late. absurd (omega arith))
arguments_before arguments given Value fault = (omega arith, λ late. fault.0, λ late. fault.1)

-- the fault of a command's arguments is one of the line
arguments_apply : (g : Grammar) (names words : List (List ℕ)) (a : HasArguments g words) (kind : FaultKind)
    → IsFaultOfArguments (arguments_of a.command) a.given kind → HasFault g names words kind
arguments_apply g names words a Threads fault = absurd fault
arguments_apply g names words a Name fault = absurd fault
arguments_apply g names words a Sessions fault = absurd fault
arguments_apply g names words a Command fault = absurd fault
arguments_apply g names words a Args fault = (a, fault)
arguments_apply g names words a Number fault = (a, fault.1)
arguments_apply g names words a Value fault = (a, fault.2)

-- the fault of a command's arguments is the first one behind a session's name
arguments_first : (g : Grammar) (names words : List (List ℕ)) (a : HasArguments g words) (kind other : FaultKind)
    → IsFaultOfArguments (arguments_of a.command) a.given kind → 3 ≤ turn_of other → turn_of other < turn_of kind → HasFault g names words other → ⊥
arguments_first g names words a kind Threads fault late early = absurd (omega arith)
arguments_first g names words a kind Name fault late early = absurd (omega arith)
arguments_first g names words a kind Sessions fault late early = absurd (omega arith)
arguments_first g names words a kind Command fault late early = λ unknown. unknown.1 a
arguments_first g names words a kind Args fault late early = no_args_fault g names words a ((arguments_before (arguments_of a.command) a.given kind fault).1 early)
arguments_first g names words a kind Number fault late early = no_number_fault g names words a ((arguments_before (arguments_of a.command) a.given kind fault).2 early)
arguments_first g names words a kind Value fault late early = let most = turn_of-le kind in absurd (omega arith)

-- the words behind a session's name are those of a command but for this fault of its arguments
pub arguments_fault : (g : Grammar) (words : List (List ℕ)) (command : Keyword) (given : List (List ℕ)) (kind : FaultKind)
    → words ≡ word_of command ∷ given → names_session command ≡ true → has_command g command ≡ true
    → IsFaultOfArguments (arguments_of command) given kind → IsFaultOfCommand g words kind
arguments_fault g words command given kind are named there fault = record {
  late = let late = (arguments_before (arguments_of command) given kind fault).0 in omega arith;
  applies = λ names name own. arguments_apply g names (name ∷ words) (all name) kind fault;
  first = λ other late early names name. arguments_first g names (name ∷ words) (all name) kind other fault late early;
}
  where
    all : (name : List ℕ) → HasArguments g (name ∷ words)
    all name = record {
      session = name;
      command = command;
      given = given;
      words_are = ap (λ (ws : List (List ℕ)). name ∷ ws) are;
      named = named;
      there = there;
    }

-- the words behind a session's name do not begin with that of a command
pub command_fault : (g : Grammar) (words : List (List ℕ))
    → ((command : Keyword) (given : List (List ℕ)) → words ≡ word_of command ∷ given → names_session command ≡ true → has_command g command ≡ true → ⊥)
    → IsFaultOfCommand g words Command
command_fault g words unknown = record {
  late = omega arith;
  applies = λ names name own. (λ alone. own alone.0, λ a. let e = a.words_are in unknown a.command a.given (cc) a.named a.there);
  first = λ other late early. absurd (omega arith);
}

-- the first word behind a session's name is that of no command
pub unknown_word : (g : Grammar) (words : List (List ℕ)) (word : List ℕ) (given : List (List ℕ)) → words ≡ word ∷ given
    → ((command : Keyword) → names_session command ≡ true → has_command g command ≡ true → word ≢ word_of command) → IsFaultOfCommand g words Command
unknown_word g words word given are unknown = command_fault g words (λ command others e named there. unknown command named there (let more = are in cc))

-- whether a line is one word
pub one_word : (line word : List ℕ) (same : Bool) → same ≡ pointwise nat_eq line word → words_of word ≡ word ∷ []
    → (same ≡ true → words_of line ≡ word ∷ []) × (words_of line ≡ word ∷ [] → same ≡ true)
one_word line word same is alone = (
  λ yes. rw (alike line word same is yes) alone,
  λ e. (slice_eq-Decides Decides-eqb line word same is).1 (only_word line word e),
)

-- two words or more are not one
two_words : {X : Type 0} (first second : X) (rest : List X) (only : X) {words : List X} → words ≡ first ∷ second ∷ rest → words ≡ only ∷ [] → ⊥
two_words first second rest only more one = let e = sym more ∙ one in cc

-- two words or more name a session
more_names : (first second : List ℕ) (rest words : List (List ℕ)) → words ≡ first ∷ second ∷ rest → NamesNoSession words → ⊥
more_names first second rest words more alone = two_words first second rest (word_of alone.command) more alone.words_are

-- one word has no command behind it
one_has_none : (g : Grammar) (word : List ℕ) (words : List (List ℕ)) → words ≡ word ∷ [] → HasArguments g words → ⊥
one_has_none g word words one a = two_words a.session (word_of a.command) a.given word a.words_are one

-- a line that names no session is one of two words
pub one_of_two : (words : List (List ℕ)) → NamesNoSession words → (words ≡ codes "flush" ∷ []) ⊎ (words ≡ codes "checkpoint" ∷ [])
one_of_two words alone = which alone.command alone.words_are alone.unnamed
  where
    which : (k : Keyword) → words ≡ word_of k ∷ [] → names_session k ≡ false → (words ≡ codes "flush" ∷ []) ⊎ (words ≡ codes "checkpoint" ∷ [])
    which keyword.Flush are unnamed = inl are
    which keyword.Checkpoint are unnamed = inr are
    which k are unnamed = absurd (false≢true (sym unnamed))

-- a line that names no session names one command
same_alone : {words : List (List ℕ)} (k : Keyword) (alone : NamesNoSession words) → words ≡ word_of k ∷ [] → alone.command ≡ k
same_alone k alone are = same_keyword alone.command k (let e = sym alone.words_are ∙ are in cc)

-- a line that names no session, under threads
pub threads_fault : (g : Grammar) (names words : List (List ℕ)) (k : Keyword) → names_session k ≡ false → words ≡ word_of k ∷ [] → g.threads ≡ true
    → IsFirstFault g names words Threads
threads_fault g names words k unnamed are threads = record {
  applies = (threads, record { command = k; words_are = are; unnamed = unnamed });
  first = λ other early. absurd (omega arith);
}

-- a line that names no session, of a command that there is not
pub alone_fault : (g : Grammar) (names words : List (List ℕ)) (k : Keyword) → names_session k ≡ false → words ≡ word_of k ∷ [] → g.threads ≡ false
    → has_command g k ≡ false → IsFirstFault g names words Command
alone_fault g names words k unnamed are one_thread missing = record {
  applies = (
    λ asks. false≢true (sym missing ∙ ap (λ (l : Keyword). has_command g l) (sym (same_alone k asks.0 are)) ∙ asks.1),
    one_has_none g (word_of k) words are,
  );
  first = first;
}
  where
    own : NamesNoSession words
    own = record { command = k; words_are = are; unnamed = unnamed }

    first : (other : FaultKind) → turn_of other < 3 → HasFault g names words other → ⊥
    first Threads early = λ fault. false≢true (sym one_thread ∙ fault.0)
    first Name early = λ fault. fault.0 own
    first Sessions early = λ fault. fault.0 own
    first Command early = absurd (omega arith)
    first Args early = absurd (omega arith)
    first Number early = absurd (omega arith)
    first Value early = absurd (omega arith)

-- a line whose first word is not a name
pub name_fault : (g : Grammar) (names words : List (List ℕ)) → (NamesNoSession words → ⊥) → (BeginsWithName words → ⊥)
    → IsFirstFault g names words Name
name_fault g names words own unnamed = record { applies = (own, unnamed); first = first }
  where
    first : (other : FaultKind) → turn_of other < 1 → HasFault g names words other → ⊥
    first Threads early = λ fault. own fault.1
    first Name early = absurd (omega arith)
    first Sessions early = absurd (omega arith)
    first Command early = absurd (omega arith)
    first Args early = absurd (omega arith)
    first Number early = absurd (omega arith)
    first Value early = absurd (omega arith)

-- a line of one session too many
pub sessions_fault : (g : Grammar) (names : List (List ℕ)) (name : List ℕ) (words : List (List ℕ)) → (NamesNoSession (name ∷ words) → ⊥)
    → IsName name → (name ∈ names → ⊥) → g.sessions ≤ length names → IsFirstFault g names (name ∷ words) Sessions
sessions_fault g names name words own named new full = record { applies = (own, new, full); first = first }
  where
    first : (other : FaultKind) → turn_of other < 2 → HasFault g names (name ∷ words) other → ⊥
    first Threads early = λ fault. own fault.1
    first Name early = λ fault. fault.1 named
    first Sessions early = absurd (omega arith)
    first Command early = absurd (omega arith)
    first Args early = absurd (omega arith)
    first Number early = absurd (omega arith)
    first Value early = absurd (omega arith)

-- a line of a session, with a fault behind its name
pub later_fault : (g : Grammar) (names : List (List ℕ)) (name : List ℕ) (words : List (List ℕ)) (kind : FaultKind)
    → (NamesNoSession (name ∷ words) → ⊥) → IsName name → ((name ∈ names → ⊥) → g.sessions ≤ length names → ⊥)
    → IsFaultOfCommand g words kind → IsFirstFault g names (name ∷ words) kind
later_fault g names name words kind own named seated fault = record { applies = fault.applies names name own; first = first }
  where
    first : (other : FaultKind) → turn_of other < turn_of kind → HasFault g names (name ∷ words) other → ⊥
    first Threads early = λ none. own none.1
    first Name early = λ unnamed. unnamed.1 named
    first Sessions early = λ full. seated full.1 full.2
    first Command early = fault.first Command (omega arith) early names name
    first Args early = fault.first Args (omega arith) early names name
    first Number early = fault.first Number (omega arith) early names name
    first Value early = fault.first Value (omega arith) early names name

-- a line of a session with which lines are still those of a script has no fault after them
named_line : (g : Grammar) (names older words : List (List ℕ)) (name : List ℕ) (command : AnyCommand) (kind : FaultKind) → words ≡ name ∷ word_of (keyword_of command) ∷ given_words command
    → IsName name → names_session (keyword_of command) ≡ true → IsCommand g command → ((name ∈ older → ⊥) → g.sessions ≤ length older → ⊥)
    → HasFault g older words kind → ⊥
named_line g names older words name command kind are named of_session ok seated =
    let given = command_is_given command ok.in_range in
    let has : HasArguments g words =
    record { session = name; command = keyword_of command; given = given_words command; words_are = are; named = of_session; there = ok.there } in
    elim kind as (λ k. HasFault g older words k → ⊥) [
      | Threads ↦ λ fault. more_names name (word_of (keyword_of command)) (given_words command) words are fault.1
      | Name ↦ λ unnamed. unnamed.1 (rw are named)
      | Sessions ↦ λ full. seated (rw are at full.1) full.2
      | Command ↦ λ unknown. unknown.1 has
      | Args ↦ no_args_fault g older words has given.long
      | Number ↦ no_number_fault g older words has given.numbers
      | Value ↦ no_value_fault g older words has given.values
    ]

-- nor has a line that names no session
lone_line : (g : Grammar) (older words : List (List ℕ)) (k : Keyword) (kind : FaultKind) → words ≡ word_of k ∷ []
    → names_session k ≡ false → has_command g k ≡ true → g.threads ≡ false → HasFault g older words kind → ⊥
lone_line g older words k kind are unnamed there one_thread =
    let own : NamesNoSession words = record { command = k; words_are = are; unnamed = unnamed } in
    let none : HasArguments g words → ⊥ = one_has_none g (word_of k) words are in
    elim kind as (λ k. HasFault g older words k → ⊥) [
      | Threads ↦ λ fault. false≢true (sym one_thread ∙ fault.0)
      | Name ↦ λ fault. fault.0 own
      | Sessions ↦ λ fault. fault.0 own
      | Command ↦ λ fault. fault.0 (own, there)
      | Args ↦ λ fault. none fault.0
      | Number ↦ λ fault. none fault.0
      | Value ↦ λ fault. none fault.0
    ]

-- a line with which lines are still those of a script has no fault after them
pub no_fault : (g : Grammar) (before : List (ℕ × List ℕ)) (number : ℕ) (line : List ℕ) (names older : List (List ℕ)) (script shorter : List ScriptLine) (kind : FaultKind)
    → AreScript g (before ++ (number, line) ∷ []) names script → AreScript g before older shorter → HasFault g older (words_of line) kind → ⊥
no_fault g before number line names older script shorter kind is was =
    let last = last_line g names before number line script 0 (length names) is.spelled is.numbered in
    let command : AnyCommand = last.line.command in
    let session : ℕ = last.line.session in
    elim last.spelled [
      | inl named ↦
          named_line g names older (words_of line) (name_of names session) command kind named.1.words named.1.name_ok named.1.named named.1.command_ok
          (λ new full.
          let front = front_script g before ((number, line) ∷ []) names script is in
          let same = AreScript-unique g before older (take front.sessions names) shorter front.lines was front.is in
          let long : length older ≡ front.sessions = ap (λ (ns : List (List ℕ)). length ns) same.0 ∙ length-take-le front.sessions names front.most in
          let few = is.few in
          let all : older ≡ names = same.0 ∙ take_all front.sessions names (omega arith) in
          let least = named.0 in
          let most = last.most in
          let none = rw all at new in
          none (∈-at names (session - 1) [] (omega arith)))
      | inr alone ↦
          lone_line g older (words_of line) (keyword_of command) kind alone.1.words alone.1.unnamed alone.1.command_ok.there alone.1.one_thread
    ]
