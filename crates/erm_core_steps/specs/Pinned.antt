-- Rows as of the pin: who may still write one, and the version that a reader as of a place sees.
use Rattle.std.specs.Prelude.{ℕ, ◌||◌, ◌==◌, nat_lt, if◌then◌else◌, List, [], ◌∷◌, Option, Some, None}
use Rattle.erm_machine.specs.declared.version.Version.{Version}
use Rattle.erm_machine.specs.Core.{Core}
use Rattle.erm_machine.specs.Words.{is_clear, owner_of, state_of}
use Rattle.erm_model.specs.History.{IsNewestBelow}
use Rattle.erm_world.specs.declared.gathered.SeatWait.{SeatWait}
use Rattle.erm_world.specs.World.{View, history_of}

-- the seat that owns an object's entry, where that isn't clear for the bound
abbrev pub owner_below : Core → ℕ → ℕ → Option SeatWait
owner_below c oid bound =
    let owner : ℕ = owner_of (c.shared.objects oid).entry in
    let seen : ℕ = state_of (c.seats owner).place in
    if (owner == 0) || is_clear seen bound then None else Some (record { seat = owner; seen = seen })

-- the row of the last of these versions whose stamp lies below the bound
abbrev pub row_below : ℕ → List Version → Option (List ℕ) → Option (List ℕ)
row_below bound [] row = row
row_below bound (v ∷ vs) row = row_below bound vs (if nat_lt v.words.stamp bound then Some v.words.row else row)

-- the row is the newest below the place of what the world has committed
pub record IsNewestRow (v : View) (oid : ℕ) (row : List ℕ) (place : ℕ) : Type 0 where
  pub stamp : ℕ
  pub newest : IsNewestBelow (history_of v) v.opening.rows oid place stamp row
