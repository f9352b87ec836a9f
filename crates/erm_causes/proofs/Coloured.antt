-- Rows whose objects are each of their table, through the work of transactions and the commits below a stamp.
use Rattle.std.proofs.Common.{◌≡◌, ℕ, zero, suc, ◌+◌, ◌<◌, ◌≤◌, ◌⊎◌, List, [], ◌∷◌, inl, inr, sym, ◌∙◌, arith}
use Rattle.erm_model.specs.declared.history.TransactionRecord.{TransactionRecord}
use Rattle.erm_model.specs.declared.limits.TheConstants.{TABLES}
use Rattle.erm_model.specs.History.{History, after_writes, rows_after}
use Rattle.erm_model.specs.Lawful.{times_made}
use Rattle.erm_model.specs.Member.{◌∈◌}
use Rattle.erm_model.specs.RowTransaction.{Agrees, Asked, Event, after_all, asked_claim, asked_make, asked_read, made_by_all}
use Rattle.erm_model.specs.Rows.{Rows}
use Rattle.erm_model.proofs.Members.{∈-behind}
use Rattle.erm_machine.proofs.Listed.{∈-head}
use Rattle.erm_core_ssn.proofs.Turns.{FitInTurn}
use Rattle.erm_node.specs.Sound.{IsSound, sound_law}
use Rattle.erm_tree.specs.Tables.{AreClaiming, IsOwn, IsOwnAsked, reached_by}
use Rattle.erm_world.specs.Laws.{FitsWork, IsLawfulWork}
use Rattle.erm_world.specs.Works.{seen_by}
use Rattle.erm_world.specs.World.{Work}
use Rattle.erm_maps.proofs.Histories.{work_in}
use Rattle.erm_causes.specs.Touched.{AreOfTables}
use Rattle.erm_causes.proofs.Own.{StaysIn}
use Rattle.erm_told_limits.proofs.Ran.{AreReading, MovesAll}

-- a transaction leaves each object to its table, on whatever rows it may have begun where each was of its table
abbrev pub KeepsTables : (ℕ → ℕ) → Work → Type 0
KeepsTables table w = (rows : Rows) → IsSound rows → FitsWork sound_law w rows → AreOfTables table rows → AreOfTables table (seen_by w rows)

module _ (table : ℕ → ℕ) where
  -- events of one table leave each object to its table, where those that they made are of it
  pub after_events : (k : ℕ) (rows : Rows) (events : List Event) → StaysIn k rows events → ((x : ℕ) → 0 < made_by_all events x → table x ≡ k) → AreOfTables table rows
      → AreOfTables table (after_all events rows)
  after_events k rows events stays made are other x below some = elim (stays.after other x below some) as (λ _. table x ≡ other) [
    | inl before ↦ are other x below before
    | inr new ↦ made x new.1 ∙ sym new.0
  ]

  own_is : (k : ℕ) (rows : Rows) (events : List Event) → k < TABLES → ((x : ℕ) → 0 < made_by_all events x → table x ≡ k) → AreOfTables table rows
      → (x : ℕ) → IsOwn rows k events x → table x ≡ k
  own_is k rows events below made are x own = elim (some_of (reached_by rows k x) (made_by_all events x) own) as (λ _. table x ≡ k) [
    | inl reached ↦ are k x below reached
    | inr new ↦ made x new
  ]
    where
      some_of : (a b : ℕ) → 0 < a + b → (0 < a) ⊎ (0 < b)
      some_of zero b some = inr (omega (arith, some))
      some_of (suc a) b some = inl (omega arith)

  -- what they read and claim is of it
  pub reads_of : (k : ℕ) (rows : Rows) (events : List Event) → k < TABLES → StaysIn k rows events → AreOfTables table rows → (x : ℕ) → AreReading events x → table x ≡ k
  reads_of k rows events below stays are x by = are k x below (stays.reads x by)

  pub claims_of : (k : ℕ) (rows : Rows) (events : List Event) → k < TABLES → StaysIn k rows events → ((x : ℕ) → 0 < made_by_all events x → table x ≡ k) → AreOfTables table rows
      → (x : ℕ) → AreClaiming events x → table x ≡ k
  claims_of k rows events below stays made are x by = own_is k rows events below made are x (stays.claims x by)

  -- the object that was asked for
  abbrev pub AskedOf : ℕ → Asked → Type 0
  AskedOf k (asked_read oid) = table oid ≡ k
  AskedOf k (asked_claim oid) = table oid ≡ k
  AskedOf k asked_make = Unit {0}

  pub asked_of : (k : ℕ) (rows : Rows) (events : List Event) (asked : Asked) → k < TABLES → IsOwnAsked rows k events asked → ((x : ℕ) → 0 < made_by_all events x → table x ≡ k)
      → AreOfTables table rows → AskedOf k asked
  asked_of k rows events (asked_read oid) below own made are = are k oid below own
  asked_of k rows events (asked_claim oid) below own made are = own_is k rows events below made are oid own
  asked_of k rows events asked_make below own made are = tt

  -- the commits in turn leave each object to its table
  pub after_commits : (order : History) (rows : Rows) → FitInTurn sound_law rows order → ((t : TransactionRecord) → t ∈ order → KeepsTables table (work_in t)) → AreOfTables table rows
      → AreOfTables table (rows_after order rows)
  after_commits [] rows fit keeps are = are
  after_commits (t ∷ order) rows fit keeps are =
      let fits : FitsWork sound_law (work_in t) rows = record { meets = fit.0.meets; reads = fit.0.reads; claims = fit.0.claims; unreached = fit.0.unreached } in
      after_commits order (after_writes t.writes rows) fit.1 (λ u m. keeps u (∈-behind t order u m)) (keeps t (∈-head t order) rows fit.0.meets fits are)

-- The rows that a transaction saw before events are sound and agree with them.
pub agrees_with : (w u : Work) (events : List Event) → MovesAll sound_law w events u → IsLawfulWork sound_law w → ((x : ℕ) → times_made u.made x ≤ 1)
    → (rows : Rows) → FitsWork sound_law u rows → IsSound (seen_by w rows) × Agrees sound_law events (seen_by w rows)
agrees_with w u events moves lawful once rows fits = (
  lawful.meets rows (moves.fitted rows fits),
  moves.told rows (seen_by w rows) fits once (λ x. lawful.reach rows x (moves.fitted rows fits)),
)
