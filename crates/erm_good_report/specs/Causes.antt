-- The causes that a report shows of the stamps of each commit, and of each exclusion.
use Rattle.std.specs.Prelude.{◌≡◌, ℕ, ◌⊎◌, ◌<◌, ◌≤◌, true, List, Option, Some, IfSome}
use Rattle.erm_model.specs.Member.{◌∈◌}
use Rattle.erm_good_report.specs.Transactions.{Exchange, Ending, Unfinished, Commits, Excludes, Aborts, Transaction, table_of, is_writer}

-- a transaction has a line of this table
pub record NamesTable (t : Transaction) (table : ℕ) : Type 0 where
  pub line : Exchange
  pub of : line ∈ t.lines
  pub names : table_of line.asked ≡ Some table

-- it has a put, del or tidy line of this table
pub record WritesTable (t : Transaction) (table : ℕ) : Type 0 where
  pub line : Exchange
  pub of : line ∈ t.lines
  pub names : table_of line.asked ≡ Some table
  pub writes : is_writer line.asked ≡ true

-- one of two transactions has a line that writes in this table
abbrev pub EitherWrites : Transaction → Transaction → ℕ → Type 0
EitherWrites u t table = WritesTable u table ⊎ WritesTable t table

-- one transaction committed with this stamp, and has a line of a table in which the other one has a line; one of the two writes there
pub record CommitsBeside (u t : Transaction) (stamp : ℕ) : Type 0 where
  pub succ : ℕ
  pub pred : ℕ
  pub ending : u.ending ≡ Commits stamp succ pred
  pub table : ℕ
  pub line : NamesTable u table
  pub other : NamesTable t table
  pub writes : EitherWrites u t table

-- One transaction committed at or above the begin of the other one, and below its stamp where it has one, with this successor stamp,
-- and has a line that writes in a table in which the other one has a line.
pub record OverwritesBeside (u t : Transaction) (bound : Option ℕ) (succ : ℕ) : Type 0 where
  pub own : ℕ
  pub pred : ℕ
  pub ending : u.ending ≡ Commits own succ pred
  pub after : t.begin ≤ own
  pub before : IfSome bound (λ stamp. own < stamp)
  pub table : ℕ
  pub line : WritesTable u table
  pub other : NamesTable t table

-- The exclusion window of a commit is open (Wang, Johnson, Fekete, Pandis, 2017), and each end of it has its cause: the
-- successor stamp is its own stamp, or that of a commit that overwrote what it may have read; the predecessor stamp is 0,
-- or the smaller stamp of a commit that touched what it may have touched.
pub record HasWindow (transactions : List Transaction) (t : Transaction) (stamp succ pred : ℕ) : Type 0 where
  pub opens : pred < succ
  pub closes : succ ≤ stamp
  pub succ_cause : (succ ≡ stamp) ⊎ ((u : Transaction) × (u ∈ transactions) × OverwritesBeside u t (Some stamp) succ)
  pub pred_cause : (pred ≡ 0) ⊎ ((u : Transaction) × (u ∈ transactions) × (pred < stamp) × CommitsBeside u t pred)

-- The exclusion window of an excluded transaction is closed, and both ends of it have their causes, which are below its own stamp where
-- it was sealed.
pub record HasNoWindow (transactions : List Transaction) (t : Transaction) (stamp : Option ℕ) (succ pred : ℕ) : Type 0 where
  pub closed : succ ≤ pred
  pub after : Transaction
  pub after_in : after ∈ transactions
  pub succ_cause : OverwritesBeside after t stamp succ
  pub before : Transaction
  pub before_in : before ∈ transactions
  pub pred_cause : CommitsBeside before t pred
  pub below : IfSome stamp (λ own. pred < own)

-- Commit causes and exclusion causes: what an ending owes, its causes being among these transactions.
abbrev pub HasCauseOf : Ending → List Transaction → Transaction → Type 0
HasCauseOf Unfinished transactions t = Unit {0}
HasCauseOf (Commits stamp succ pred) transactions t = HasWindow transactions t stamp succ pred
HasCauseOf (Excludes stamp succ pred) transactions t = HasNoWindow transactions t stamp succ pred
HasCauseOf Aborts transactions t = Unit {0}
