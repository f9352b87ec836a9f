-- The ends of the exclusion window are tight where the lines show it: a key's record that a transaction touched was made by a commit
-- that put the key, and one that it read is overwritten by the next commit that writes the key. A put that a way back has undone makes no
-- record that stays; but where there was one, it is overwritten all the same, and what was read stays read.
use Rattle.std.specs.Prelude.{◌≡◌, ℕ, ◌<◌, ◌≤◌, ◌⊎◌, List, ◌∷◌, ◌++◌, Some}
use Rattle.erm_model.specs.declared.operation.Reply.{Reply}
use Rattle.erm_model.specs.Member.{◌∈◌}
use Rattle.erm_report.specs.declared.answer.Answer.{Answer}
use Rattle.erm_report.specs.declared.answer.Answer.TheVariants as answer
use Rattle.erm_script.specs.declared.script.Command.TheVariants as command
use Rattle.erm_good_report.specs.Transactions.{Exchange, Ending, Commits, Excludes, Transaction, lines_kept, reply_in}

-- a line that was answered; one that was answered how many versions were cut off
abbrev pub IsReplied : Answer → Type 0
IsReplied a = (r : Reply) × (reply_in a ≡ Some r)

abbrev pub IsTidied : Answer → Type 0
IsTidied a = (cells : ℕ) × (a ≡ answer.Cut cells)

-- it gets the key, puts it, deletes it, tidies it, and was answered
abbrev pub GetsKey : ℕ → ℕ → Exchange → Type 0
GetsKey table key e = (e.asked ≡ command.Get table key) × IsReplied e.answer

abbrev pub PutsKey : ℕ → ℕ → Exchange → Type 0
PutsKey table key e = ((value : List ℕ) × (e.asked ≡ command.Put table key value)) × IsReplied e.answer

abbrev pub DeletesKey : ℕ → ℕ → Exchange → Type 0
DeletesKey table key e = (e.asked ≡ command.Del table key) × IsReplied e.answer

abbrev pub TidiesKey : ℕ → ℕ → Exchange → Type 0
TidiesKey table key e = (e.asked ≡ command.Tidy table key) × IsTidied e.answer

-- a transaction has such a line
abbrev pub HasLine : (Exchange → Type 0) → Transaction → Type 0
HasLine P t = (e : Exchange) × (e ∈ t.lines) × P e

-- a transaction has such a line, and it stays
abbrev pub HasKept : (Exchange → Type 0) → Transaction → Type 0
HasKept P t = (e : Exchange) × (e ∈ lines_kept t) × P e

-- a transaction that committed with these stamps is one of these
pub record IsCommit (transactions : List Transaction) (u : Transaction) (stamp succ : ℕ) : Type 0 where
  pub of : u ∈ transactions
  pub pred : ℕ
  pub ending : u.ending ≡ Commits stamp succ pred

-- below a bound a commit put the key, and the put stayed: it has a record from then on
pub record WasPut (transactions : List Transaction) (table key bound : ℕ) : Type 0 where
  pub by : Transaction
  pub stamp : ℕ
  pub succ : ℕ
  pub commit : IsCommit transactions by stamp succ
  pub below : stamp < bound
  pub puts : HasKept (PutsKey table key) by

-- it puts the key, deletes it or tidies it
abbrev pub ChangesKey : ℕ → ℕ → Exchange → Type 0
ChangesKey table key e = PutsKey table key e ⊎ DeletesKey table key e ⊎ TidiesKey table key e

-- A commit overwrites the key's record: it put the key, and the put stayed; or it put, deleted or tidied it where it had a record when it began,
-- also where that was undone.
abbrev pub OverwritesKey : List Transaction → ℕ → ℕ → Transaction → Type 0
OverwritesKey transactions table key v =
    HasKept (PutsKey table key) v
    ⊎ (HasLine (ChangesKey table key) v × WasPut transactions table key v.begin)

-- The predecessor stamp is at least that of each commit below the begin that overwrites the record of a key which the transaction got, put or deleted.
abbrev pub IsLowEnd : List Transaction → Transaction → ℕ → Type 0
IsLowEnd transactions t pred = (table key stamp succ : ℕ) (u : Transaction)
    → HasLine (λ e. GetsKey table key e ⊎ PutsKey table key e ⊎ DeletesKey table key e) t
    → IsCommit transactions u stamp succ → stamp < t.begin → OverwritesKey transactions table key u → stamp ≤ pred

-- the transaction got the key before any put or del of its own of it
pub record GetsFirst (t : Transaction) (table key : ℕ) : Type 0 where
  pub before : List Exchange
  pub line : Exchange
  pub after : List Exchange
  pub split : t.lines ≡ before ++ line ∷ after
  pub gets : GetsKey table key line
  pub none : (e : Exchange) → e ∈ before → PutsKey table key e ⊎ DeletesKey table key e → ⊥

-- of the commits at or above a bound that overwrite the key's record this one has the least stamp
pub record IsNextWriter (transactions : List Transaction) (table key bound : ℕ) (v : Transaction) (stamp succ : ℕ) : Type 0 where
  pub commit : IsCommit transactions v stamp succ
  pub above : bound ≤ stamp
  pub overwrites : OverwritesKey transactions table key v
  pub least : (w : Transaction) (other_stamp other_succ : ℕ) → IsCommit transactions w other_stamp other_succ → bound ≤ other_stamp
      → OverwritesKey transactions table key w → stamp ≤ other_stamp

-- The successor stamp is at most that of the next commit that overwrites a key's record which the transaction read.
abbrev pub IsHighEnd : List Transaction → Transaction → ℕ → ℕ → Type 0
IsHighEnd transactions t own succ = (table key stamp next_succ : ℕ) (v : Transaction)
    → GetsFirst t table key → WasPut transactions table key t.begin → IsNextWriter transactions table key t.begin v stamp next_succ
    → stamp < own → succ ≤ next_succ

-- the window of a transaction that has its commit stamp is tight
pub record IsTight (transactions : List Transaction) (t : Transaction) (stamp succ pred : ℕ) : Type 0 where
  pub low : IsLowEnd transactions t pred
  pub high : IsHighEnd transactions t stamp succ

abbrev pub IsTightAt : Ending → List Transaction → Transaction → Type 0
IsTightAt (Commits stamp succ pred) transactions t = IsTight transactions t stamp succ pred
IsTightAt (Excludes (Some stamp) succ pred) transactions t = IsTight transactions t stamp succ pred
IsTightAt ending transactions t = Unit {0}
