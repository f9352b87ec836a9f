-- What a safe snapshot of a session beside others is as a transaction that reads.
use Rattle.std.specs.Prelude.{◌≡◌, ℕ, ◌<◌, List}
use Rattle.erm_model.specs.declared.outcome.Phase.TheVariants.{Safe}
use Rattle.erm_model.specs.History.{HasNewestRows, IsNewestBelow}
use Rattle.erm_model.specs.Rows.{Rows}
use Rattle.erm_model.specs.RowTransaction.{Event, Face, Law, did_claim, did_make, did_read, did_write}
use Rattle.erm_world.specs.Laws.{IsSerializable}
use Rattle.erm_world.specs.World.{View, history_of, phase_at, work_at}
use Rattle.erm_beside.specs.Calls.{Passes}
use Rattle.erm_beside.specs.Laws.{GoesOnward}
use Rattle.erm_beside.specs.Safe.{IsRowBelow}

-- Of a law of rows: below each stamp of a serializable world there are newest rows, one of each object, and they meet it.
pub record FindsRows (law : Law) : Type 0 where
  pub rows : (v : View) (bound : ℕ) → IsSerializable law v → 0 < bound → (found : Rows) × law.meets found × HasNewestRows (history_of v) v.opening.rows bound found
  pub one : (v : View) (oid bound stamp other : ℕ) (row other_row : List ℕ) → IsSerializable law v → IsNewestBelow (history_of v) v.opening.rows oid bound stamp row
      → IsNewestBelow (history_of v) v.opening.rows oid bound other other_row → row ≡ other_row

-- these are the newest rows below a stamp, of all that commit
abbrev pub AreRowsBelow : View → ℕ → Rows → Type 0
AreRowsBelow f begin rows = HasNewestRows (history_of f) f.opening.rows begin rows

-- the event is a read, and the row that it found is the newest one below the stamp
abbrev pub WasReadBelow : View → ℕ → Event → Type 0
WasReadBelow f begin (did_read oid row) = IsRowBelow f begin oid row
WasReadBelow f begin (did_claim oid) = ⊥
WasReadBelow f begin (did_write oid row) = ⊥
WasReadBelow f begin (did_make oid) = ⊥

-- A safe snapshot of a session of a seat as a transaction that reads: the arrays that it may have begun on are those of the newest rows below its
-- begin stamp, each in a world in which all may end, and it sees these. It claims and makes nothing, and each object counts as read, since
-- no read of it is tracked. `one` says that two states are of one session and share one world. No call is refused.
abbrev pub safe_beside_face : {S : Type 0} → Law → (S → View) → (S → ℕ) → (S → Type 0) → (S → View → Type 0) → (S → S → Type 0) → Face S
safe_beside_face law own seat stands ends one = record {
  law = law;
  active = λ s. FindsRows law × stands s × (phase_at (own s) (seat s) ≡ Safe);
  fits = λ s begun. (f : View) × ends s f × AreRowsBelow f (work_at (own s) (seat s)).begin begun;
  rows = λ s begun. begun;
  made = λ s x. 0;
  claims = λ s x. ⊥;
  reads = λ s x. Unit {0};
  follows = λ s t. one s t × (stands s → stands t) × GoesOnward (seat s) (seat t) (ends s) (ends t) × Passes (seat s) (own s) (own t);
  answers = λ s event t. GoesOnward (seat s) (seat t) (ends s) (ends t) × Passes (seat s) (own s) (own t)
      × ((f : View) → ends t f → WasReadBelow f (work_at (own s) (seat s)).begin event);
  stops = λ s asked why t. ⊥;
}
