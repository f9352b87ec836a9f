-- Objects are made by puts of new keys alone: the law, as a statement on runs so far.
use Rattle.std.specs.Prelude.{◌≡◌, ℕ, suc, ◌+◌, ◌*◌, ◌<◌, ◌≤◌, ◌⊎◌, List, [], ◌∷◌, ◌++◌, take, Some}
use Rattle.std.specs.List.{slice_get}
use Rattle.erm_model.specs.declared.limits.TheConstants.{OID_LIMIT, PUT_OBJECTS}
use Rattle.erm_report.specs.declared.answer.Answer.{Answer}
use Rattle.erm_report.specs.declared.answer.Answer.TheVariants as answer
use Rattle.erm_model.specs.declared.operation.Reply.TheVariants as reply
use Rattle.erm_script.specs.declared.script.Command.{Command}
use Rattle.erm_script.specs.declared.script.Command.TheVariants as command
use Rattle.erm_script.specs.declared.script.ScriptLine.{ScriptLine}
use Rattle.erm_world.specs.World.{View}
use Rattle.erm_good_report.specs.Transactions.{Said, Transaction, progress_of, said_of, transactions_of}
use Rattle.erm_good_report.specs.Windows.{HasKept, IsCommit, PutsKey}
use Rattle.erm_lines.specs.Executions.{IsCourse}

-- A line of a transaction puts a key that is new to it: of no commit that the places before tell, with a stamp below its begin, did a put of the key
-- stay.
pub record PutsNewKey (sessions : ℕ) (before : List Said) (s : Said) : Type 0 where
  pub table : ℕ
  pub key : ℕ
  pub value : List ℕ
  pub asks : s.asked ≡ Some (command.Put table key value)
  pub own : Transaction
  pub current : (progress_of s.session before).current ≡ Some own
  pub new : (by : Transaction) (stamp succ : ℕ) → IsCommit (transactions_of sessions before) by stamp succ → stamp < own.begin → HasKept (PutsKey table key) by → ⊥

-- so many of these places do, each behind those before it
abbrev pub HaveNewKeys : ℕ → List Said → List Said → ℕ → Type 0
HaveNewKeys sessions before [] n = n ≡ 0
HaveNewKeys sessions before (s ∷ said) n =
    HaveNewKeys sessions (before ++ s ∷ []) said n
    ⊎ (PutsNewKey sessions before s × ((m : ℕ) × (n ≡ suc m) × HaveNewKeys sessions (before ++ s ∷ []) said m))

-- Where an answer of a run so far tells that objects are full, the lines up to it put new keys, as many as make all the objects that may be made.
abbrev pub OidsAreFull : Type 0
OidsAreFull = (v t : View) (script : List ScriptLine) (answers : List Answer) → IsCourse v script answers t → (i drawn : ℕ) → slice_get answers i ≡ Some (answer.OidsFull drawn)
    → (n : ℕ) × HaveNewKeys v.opening.sessions [] (take (i + 1) (said_of script answers)) n × (OID_LIMIT < v.opening.first + PUT_OBJECTS * n)

abbrev pub said_by_first : Command → Answer → Said
said_by_first c a = record { session = 1; asked = Some c; answer = a }

-- A bad report: a key that a commit has put is put once more, and objects are told full for it, though there was room for those of one new key.
abbrev pub put_once_more : List Said
put_once_more = said_by_first command.Begin (answer.Began 13) ∷ said_by_first (command.Put 0 10 []) (answer.Replied reply.Done)
    ∷ said_by_first command.Commit (answer.Committed 13 13 0) ∷ said_by_first command.Begin (answer.Began 38)
    ∷ said_by_first (command.Put 0 10 []) (answer.OidsFull OID_LIMIT) ∷ []

-- In it the key is new once at most.
abbrev pub KeysAreNewOnce : Type 0
KeysAreNewOnce = (n : ℕ) → HaveNewKeys 1 [] put_once_more n → n ≤ 1
