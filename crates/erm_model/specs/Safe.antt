-- Safe stamps: a reader at one has a place in the serial order without being tracked (Ports and Grittner, 2012).
use Rattle.std.specs.Prelude.{ℕ, ◌<◌, ◌≤◌}
use Rattle.erm_model.specs.declared.history.TransactionRecord.{TransactionRecord}
use Rattle.erm_model.specs.History.{History}
use Rattle.erm_model.specs.Member.{◌∈◌}

-- A stamp is safe: no transaction that had begun below it and committed at or above it has a successor stamp below it.
abbrev pub IsSafeAt : History → ℕ → Type 0
IsSafeAt h b = (t : TransactionRecord) → t ∈ h → t.begin < b → b ≤ t.stamp → b ≤ t.succ
