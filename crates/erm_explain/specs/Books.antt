-- What the books of a report tell of its transactions, as far as the report was read.
use Rattle.std.specs.Prelude.{◌≡◌, ℕ, ◌+◌, ◌==◌, ◌≤◌, false, is_some, if◌then◌else◌, List, ◌++◌, map, length, take, slice_index, slice_index_or, Option, Some, None}
use Rattle.std.specs.List.{filter, filter_map, slice_get}
use Rattle.std.specs.Option.{option_and_then, option_map, option_to_list}
use Rattle.erm_model.specs.Member.{◌∈◌}
use Rattle.erm_report.specs.declared.answer.Answer.{Answer}
use Rattle.erm_script.specs.declared.script.ScriptLine.{ScriptLine}
use Rattle.erm_good_report.specs.Transactions as report
use Rattle.erm_good_report.specs.Transactions.{Exchange, Progress, Snapshot, Transaction, begun, ended, heard, progress_of, said_of, with_ending, with_line, with_seal}
use Rattle.erm_explain.specs.declared.books.Books.{Books}
use Rattle.erm_explain.specs.declared.books.TheConstants.{SEATS}
use Rattle.erm_explain.specs.declared.told.Ending.{Ending}
use Rattle.erm_explain.specs.declared.told.Ending.TheVariants as told
use Rattle.erm_explain.specs.declared.told.Told.{Told}

-- what the line at this place asked for, with its answer, where there are both
abbrev pub exchange_at : List ScriptLine → List Answer → ℕ → Option Exchange
exchange_at script answers place =
    option_and_then (λ l. option_map (λ a. record { asked = l.command; answer = a }) (slice_get answers place)) (slice_get script place)

-- those of the lines at these places
abbrev pub exchanges_at : List ScriptLine → List Answer → List ℕ → List Exchange
exchanges_at script answers places = filter_map (exchange_at script answers) places

-- how a transaction ended
abbrev pub ending_of : Ending → report.Ending
ending_of told.Unfinished = report.Unfinished
ending_of (told.Commits stamp succ pred) = report.Commits stamp succ pred
ending_of (told.Excludes stamp succ pred) = report.Excludes stamp succ pred
ending_of told.Aborts = report.Aborts

-- the transaction that is told
abbrev pub transaction_of : List ScriptLine → List Answer → Told → Transaction
transaction_of script answers t = record {
  session = t.session;
  number = t.number;
  begin = t.begin;
  lines = exchanges_at script answers t.lines.items;
  sealed = t.sealed;
  ending = ending_of t.ending;
}

-- the books have a session's transactions: those that are over, in turn, the one that isn't, how many are over, with the snapshots, and whether there
-- is a snapshot
pub record HasProgress (script : List ScriptLine) (answers : List Answer) (books : Books) (session : ℕ) (p : Progress) : Type 0 where
  pub over : filter (λ t. t.session == session) (map (transaction_of script answers) books.over.items) ≡ p.over
  pub current : option_map (transaction_of script answers) (slice_index_or books.current.items session None) ≡ p.current
  pub count : slice_index books.counts.items session ≡ length p.over + length p.snapshots
  pub watched : slice_index_or books.watching.items session false ≡ is_some p.snapshot

-- The line at this place was answered, and is one of the session's transaction with this number.
pub record IsPlaceOf (script : List ScriptLine) (answers : List Answer) (session number place : ℕ) : Type 0 where
  pub line : ScriptLine
  pub stands : slice_get script place ≡ Some line
  pub of_session : line.session ≡ session
  pub answer : Answer
  pub answered : slice_get answers place ≡ Some answer
  pub own : Transaction
  pub current : (progress_of session (take place (said_of script answers))).current ≡ Some own
  pub number_is : own.number ≡ number

-- all places of a transaction that is told are places of its lines
abbrev pub ArePlacesOf : List ScriptLine → List Answer → Told → Type 0
ArePlacesOf script answers t = (place : ℕ) → place ∈ t.lines.items → IsPlaceOf script answers t.session t.number place

-- so it is of all in the books
pub record ArePlaced (script : List ScriptLine) (answers : List Answer) (books : Books) : Type 0 where
  pub over : (t : Told) → t ∈ books.over.items → ArePlacesOf script answers t
  pub current : (session : ℕ) (t : Told) → slice_index_or books.current.items session None ≡ Some t → ArePlacesOf script answers t

-- there are books for each number of a session, the counts are of transactions and snapshots that are there, and each session's transaction is its own
pub record AreSeats (books : Books) : Type 0 where
  pub current : length books.current.items ≡ SEATS
  pub counts : length books.counts.items ≡ SEATS
  pub watching : length books.watching.items ≡ SEATS
  pub few : (session : ℕ) → slice_index books.counts.items session ≤ length books.over.items + length books.watched.items
  pub own : (session : ℕ) (t : Told) → slice_index_or books.current.items session None ≡ Some t → t.session ≡ session

-- one session's progress becomes another, and those of the other sessions stay
abbrev pub Moves : List ScriptLine → List Answer → ℕ → (Progress → Progress) → Books → Books → Type 0
Moves script answers session change old new = (s : ℕ) (p : Progress) → HasProgress script answers old s p
    → HasProgress script answers new s (if session == s then change p else p)

-- a transaction begins, is sealed, is over
abbrev pub Begins : ℕ → ℕ → Books → Books → Type 0
Begins session begin old new = (script : List ScriptLine) (answers : List Answer)
    → Moves script answers session (λ p. record p { current = Some (begun session begin p) }) old new

abbrev pub Seals : ℕ → ℕ → Books → Books → Type 0
Seals session stamp old new = (script : List ScriptLine) (answers : List Answer)
    → Moves script answers session (λ p. record p { current = option_map (with_seal stamp) p.current }) old new

abbrev pub Ends : ℕ → Ending → Books → Books → Type 0
Ends session ending old new = (script : List ScriptLine) (answers : List Answer) → Moves script answers session (ended (ending_of ending)) old new

-- the one alone; and its snapshot
abbrev pub EndsOwn : ℕ → Ending → Books → Books → Type 0
EndsOwn session ending old new = (script : List ScriptLine) (answers : List Answer)
    → Moves script answers session (λ p. record p { over = p.over ++ option_to_list (option_map (with_ending (ending_of ending)) p.current); current = None }) old new

abbrev pub EndsWatch : ℕ → Books → Books → Type 0
EndsWatch session old new = (script : List ScriptLine) (answers : List Answer)
    → Moves script answers session (λ p. record p { snapshots = p.snapshots ++ option_to_list p.snapshot; snapshot = None }) old new

-- the session has a snapshot, whichever it is
abbrev pub Watches : ℕ → Books → Books → Type 0
Watches session old new = (script : List ScriptLine) (answers : List Answer) (snapshot : Progress → Snapshot)
    → Moves script answers session (λ p. record p { snapshot = Some (snapshot p) }) old new

-- the line at a place, with its answer, is one of the current transaction's, if it works on the map
abbrev pub Notes : ScriptLine → ℕ → Books → Books → Type 0
Notes line place old new = (script : List ScriptLine) (answers : List Answer) (answer : Answer) → slice_get script place ≡ Some line → slice_get answers place ≡ Some answer
    → Moves script answers line.session (λ p. record p { current = option_map (with_line (Some line.command) answer) p.current }) old new

-- so it is, and then this transaction is over
abbrev pub Refuses : ScriptLine → ℕ → Books → Books → Type 0
Refuses line place old new = (script : List ScriptLine) (answers : List Answer) (answer : Answer) → slice_get script place ≡ Some line → slice_get answers place ≡ Some answer
    → Moves script answers line.session (λ p. ended report.Aborts (record p { current = option_map (with_line (Some line.command) answer) p.current })) old new

-- the line at a place was answered
abbrev pub Hears : ScriptLine → ℕ → Answer → Books → Books → Type 0
Hears line place answer old new = (script : List ScriptLine) (answers : List Answer) → slice_get script place ≡ Some line → slice_get answers place ≡ Some answer
    → Moves script answers line.session (heard line.session (Some line.command) answer) old new

-- where the books have what was told before, and all places in them are of their lines, so it is with one line more
abbrev pub KeepsPlaces : ScriptLine → ℕ → Answer → Books → Books → Type 0
KeepsPlaces line place answer old new = (script : List ScriptLine) (answers : List Answer) → slice_get script place ≡ Some line → slice_get answers place ≡ Some answer
    → HasProgress script answers old line.session (progress_of line.session (take place (said_of script answers)))
    → ArePlaced script answers old → ArePlaced script answers new
