-- Where transactions begin.
use Rattle.std.specs.Prelude.{ℕ}
use Rattle.erm_machine.specs.declared.part.Part.{Part}
use Rattle.erm_machine.specs.Core.{Core, Shared}
use Rattle.erm_machine.specs.Facts.{HasBegun}
use Rattle.erm_machine.specs.Log.{IsEnd}

-- the seat's transaction in progress, or its pin, has a begin stamp at which a range ends, or the log of this opening begins
pub record BeginsAtEnd (s : Shared) (x : Part) : Type 0 where
  pub ends : HasBegun x.place → IsEnd s x.current.begin

-- each seat's has
abbrev pub BeginAtEnds : Core → Type 0
BeginAtEnds c = (seat : ℕ) → BeginsAtEnd c.shared (c.seats seat)
