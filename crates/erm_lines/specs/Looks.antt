-- What the looks of a safe snapshot are: it reads the newest rows below its begin stamp, changes nothing, and is never refused.
use Rattle.std.specs.Prelude.{◌≡◌, ℕ, Some}
use Rattle.erm_model.specs.declared.operation.Op.{Op}
use Rattle.erm_model.specs.declared.operation.Reply.{Reply}
use Rattle.erm_model.specs.declared.outcome.Phase.TheVariants.{Safe}
use Rattle.erm_model.specs.History.{HasNewestRows}
use Rattle.erm_model.specs.Rows.{Rows}
use Rattle.erm_model.specs.RowTransaction.{Event, Face, Law, SameLaw, did_claim, did_make, did_read, did_write}
use Rattle.erm_model.specs.Run.{IsReplyOn}
use Rattle.erm_node.specs.Sound.{IsSound, sound_law}
use Rattle.erm_node.specs.TreeMap.{map_of_rows}
use Rattle.erm_script.specs.declared.script.Command.{Command}
use Rattle.erm_world.specs.Safe.{DidSafeRead}
use Rattle.erm_world.specs.World.{IsSession, View, history_of, phase_at, work_at}
use Rattle.erm_good_report.specs.Transactions.{op_of}

-- these are the newest rows below the begin stamp of the session's snapshot
abbrev pub AreBelow : View → ℕ → Rows → Type 0
AreBelow v seat rows = HasNewestRows (history_of v) v.opening.rows (work_at v seat).begin rows

-- A look was replied to as on the map of the rows below the begin stamp, and nothing changed.
pub record DidLook (v : View) (seat : ℕ) (c : Command) (r : Reply) (t : View) : Type 0 where
  pub same : t ≡ v
  pub op : Op
  pub asked : op_of c ≡ Some op
  pub reply : (rows : Rows) → IsSound rows → AreBelow v seat rows → IsReplyOn (map_of_rows rows) op r

-- the call of which this was the event was answered, and nothing changed
abbrev pub WasRead : View → ℕ → Event → Type 0
WasRead v seat (did_read oid row) = DidSafeRead v seat oid row
WasRead v seat (did_claim oid) = ⊥
WasRead v seat (did_write oid row) = ⊥
WasRead v seat (did_make oid) = ⊥

-- A safe snapshot of a session as a transaction that reads: the arrays that it may have begun on are those of the newest rows below its begin
-- stamp, and it sees these. It claims and makes nothing, and each object counts as read, since no read of it is tracked. `one` says that two
-- states hold one world. Its calls are all of one seat, and none is refused.
abbrev pub safe_face : {S : Type 0} → Law → (S → View) → (S → ℕ) → (S → Type 0) → (S → S → Type 0) → Face S
safe_face law view seat stands one = record {
  law = law;
  active = λ s. SameLaw law sound_law × stands s × IsSession (view s) (seat s) × (phase_at (view s) (seat s) ≡ Safe);
  fits = λ s begun. AreBelow (view s) (seat s) begun;
  rows = λ s begun. begun;
  made = λ s x. 0;
  claims = λ s x. ⊥;
  reads = λ s x. Unit {0};
  follows = λ s t. one s t × (seat t ≡ seat s) × (stands s → stands t) × (view t ≡ view s);
  answers = λ s event t. (seat t ≡ seat s) × (view t ≡ view s) × WasRead (view s) (seat s) event;
  stops = λ s asked stop t. ⊥;
}
