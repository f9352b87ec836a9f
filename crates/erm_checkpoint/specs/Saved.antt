-- What a checkpoint holds.
use Rattle.std.specs.Prelude.{◌<◌, ℕ, List}
use Rattle.erm_bytes.specs.Bytes.{bytes_of}
use Rattle.erm_model.specs.declared.limits.TheConstants.{OID_LIMIT}
use Rattle.erm_model.specs.Rows.{rows_of}
use Rattle.erm_ckpt.specs.declared.slot.Slot.{Slot}
use Rattle.erm_ckpt.specs.Checkpoint.{checkpoint_of, slot_words}
use Rattle.erm_world.specs.declared.gathered.SeatWait.{SeatWait}
use Rattle.erm_world.specs.Log.{IsRowAt, Log}

-- these are the rows of all objects as of the place pinned
abbrev pub AreRowsAt : Log → List (List ℕ) → Type 0
AreRowsAt log rows = (oid : ℕ) → oid < OID_LIMIT → IsRowAt log oid (rows_of rows oid)

-- the bytes of the slot of the checkpoint with these rows
abbrev pub slot_bytes : Slot → List (List ℕ) → List ℕ
slot_bytes slot rows = bytes_of (slot_words (checkpoint_of slot rows))

-- For whom a row of an object waits was met in a state of whose log the same is known as before.
pub record WaitsFrom {S : Type 0} (knows : S → Log → Type 0) (waits : S → ℕ → SeatWait → S → Type 0) (s : S) (wait : SeatWait) (t : S) : Type 0 where
  pub mid : S
  pub same : (l : Log) → knows s l → knows mid l
  pub oid : ℕ
  pub object : oid < OID_LIMIT
  pub met : waits mid oid wait t
