-- What becomes of a session's savepoints: they stay, one more is held, or the transaction goes back to one of them.
use Rattle.std.specs.Prelude.{◌≡◌, ◌⊎◌, ℕ, ◌+◌, ◌<◌, zero, suc, true, false, List, [], ◌∷◌, ◌++◌, length, map, Option, Some, None}
use Rattle.erm_cells.specs.Calls.{starts_anew}
use Rattle.erm_cells.specs.Placed.{place_of}
use Rattle.erm_cells.specs.Rows.{with_own_row}
use Rattle.erm_cells.specs.Took.{TookRow}
use Rattle.erm_machine.specs.declared.attempt.Claim.{Claim}
use Rattle.erm_machine.specs.declared.event.Kind.{Kind}
use Rattle.erm_machine.specs.declared.event.Kind.TheVariants as kind
use Rattle.erm_machine.specs.declared.part.Part.{Part}
use Rattle.erm_machine.specs.declared.task.Task.{Task}
use Rattle.erm_machine.specs.declared.task.Task.TheVariants as task
use Rattle.erm_machine.specs.Core.{claim_at}
use Rattle.erm_machine.specs.Decided.{written_of}
use Rattle.erm_machine.specs.Seat.{with_claim}
use Rattle.erm_model.specs.declared.outcome.Phase.TheVariants as phase
use Rattle.erm_model.specs.RowTransaction.{Law}
use Rattle.erm_rule.specs.declared.view.Book.{Book}
use Rattle.erm_rule.specs.declared.view.View.{View}
use Rattle.erm_rule.specs.Hands.{IsKnown}
use Rattle.erm_rule.specs.Steps.{Booked}
use Rattle.erm_rule.specs.Views.{part_of, with_part}
use Rattle.erm_model.specs.declared.limits.TheConstants.{SAVES}
use Rattle.erm_savepoints.specs.Saves.{row_saved}
use Rattle.erm_session.specs.declared.session.Session.{Session}
use Rattle.erm_session.specs.Saves.{saves_of}
use Rattle.erm_session.specs.Session.{IsSession, phase_of}

-- while the transaction goes on, its claims at its savepoints stay what they were
abbrev pub StaySaved : Session → Part → Session → Part → Type 0
StaySaved s x n y = phase_of n.stage ≡ phase.Active → saves_of n y ≡ saves_of s x

-- claims that no write has set have the rows that they found
abbrev pub HasRows : Part → Type 0
HasRows x = (k : ℕ) → k < length x.current.writes → (claim_at x.current k).is_set ≡ false → (claim_at x.current k).row ≡ (claim_at x.current k).base

-- SAVE. One savepoint more is held, of the claims as they are; or all that there may be are held already, and nothing is changed.
pub record AddsSave (s : Session) (held : ℕ) (n : Session) : Type 0 where
  pub room : length s.saves.points < SAVES
  pub held_is : held ≡ length s.saves.points + 1
  pub shows : (x : Part) → IsSession s x → HasRows x → saves_of n x ≡ saves_of s x ++ map written_of x.current.writes ∷ []

-- BACK. A claim, and its own cell, with the row that a write had set, or with the one that it found.
abbrev pub claim_back : Option (List ℕ) → Claim → Claim
claim_back (Some row) w = record w { row = row; own = with_own_row row w.own; is_set = true }
claim_back None w = record w { row = w.base; own = with_own_row w.base w.own; is_set = false }

-- the claims gone back to a savepoint: each that there was is as it was, and each made since leaves the row that it found
abbrev pub claims_back : List (Option (List ℕ)) → List Claim → List Claim
claims_back saved [] = []
claims_back [] (w ∷ ws) = claim_back None w ∷ claims_back [] ws
claims_back (s ∷ saved) (w ∷ ws) = claim_back s w ∷ claims_back saved ws

-- the part of a seat whose transaction has these claims, with a call in progress
abbrev pub with_writes : Task → List Claim → Part → Part
with_writes t ws x = record x { task = t; current = record x.current { writes = ws } }

-- The seat's transaction went back to a savepoint of these rows. Nothing else of the view is changed, and a call may start.
pub record GoesBack (v : View) (who : ℕ) (saved : List (Option (List ℕ))) (w : View) : Type 0 where
  pub task : Task
  pub starts : starts_anew task ≡ true
  pub view_is : w ≡ with_part who (with_writes task (claims_back saved (part_of v who).current.writes) (part_of v who)) v
  pub known : IsKnown w

-- the claim at a place went back so
pub record ClaimGoesBack (v : View) (who place : ℕ) (saved : Option (List ℕ)) (w : View) : Type 0 where
  pub view_is : w ≡ with_part who (record (part_of v who) {
    task = task.Rest;
    current = with_claim place (claim_back saved (claim_at (part_of v who).current place)) (part_of v who).current;
  }) v
  pub known : IsKnown w

-- no savepoint has this number: there are so many
abbrev pub IsNoSave : Session → (n held : ℕ) → Type 0
IsNoSave s n held = (held ≡ length s.saves.points) × ((n ≡ 0) ⊎ (held < n))

-- a store into a claim's own cell, or the step by which no write has set a claim's row
abbrev pub IsBackStep : Kind → ℕ → Type 0
IsBackStep (kind.StoreCell claim cell w value) found = Unit {0}
IsBackStep (kind.Unset claim) found = Unit {0}
IsBackStep k found = ⊥

-- The words of this row were stored into the own cell of the claim at a place.
pub record TookRowAt (law : Law) (who place : ℕ) (row : List ℕ) (b e : Book) : Type 0 where
  pub cell : ℕ
  pub of : place_of cell (part_of b.view who) ≡ place
  pub stores : TookRow law who cell row b e

-- the same, and then no write has set its row
pub record TookUnset (law : Law) (who place : ℕ) (row : List ℕ) (b e : Book) : Type 0 where
  pub stored : Book
  pub stores : TookRowAt law who place row b stored
  pub unset : Booked law stored who (kind.Unset place) 0 e

-- the steps of a claim that goes back: the row that a write had set, or the one that the claim found, is stored
abbrev pub TookClaimBack : Law → (who place : ℕ) → Option (List ℕ) → List ℕ → Book → Book → Type 0
TookClaimBack law who place (Some row) base b e = TookRowAt law who place row b e
TookClaimBack law who place None base b e = TookUnset law who place base b e

-- those of the first claims, so many, one after another
abbrev pub TookBacks : Law → ℕ → List (Option (List ℕ)) → ℕ → Book → Book → Type 0
TookBacks law who saved zero b e = e ≡ b
TookBacks law who saved (suc place) b e =
    (m : Book) × TookBacks law who saved place b m
    × TookClaimBack law who place (row_saved saved place) (claim_at (part_of b.view who).current place).base m e

-- those of all claims
abbrev pub TookBack : Law → ℕ → List (Option (List ℕ)) → Book → Book → Type 0
TookBack law who saved b e = TookBacks law who saved (length (part_of b.view who).current.writes) b e
