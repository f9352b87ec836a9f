-- A session's savepoints: what it keeps of them is its seat's, and what its transaction's claims were at each of them.
use Rattle.std.specs.List.{AllByRecursion}
use Rattle.std.specs.Prelude.{◌≡◌, ℕ, ◌≤◌, true, false, List, [], ◌∷◌, length, map, Option, Some, None}
use Rattle.erm_machine.specs.declared.attempt.Claim.{Claim}
use Rattle.erm_machine.specs.declared.part.Part.{Part}
use Rattle.erm_machine.specs.Decided.{written_of}
use Rattle.erm_model.specs.declared.history.VersionWritten.{VersionWritten}
use Rattle.erm_model.specs.declared.limits.TheConstants.{SAVES}
use Rattle.erm_savepoints.specs.Saves.{KeptSaves}
use Rattle.erm_session.specs.declared.session.Session.{Session}
use Rattle.erm_session.specs.declared.session.Stage.{Stage}
use Rattle.erm_session.specs.declared.session.Stage.TheVariants as stage

-- The rows that the claims found are kept, and whether a write has set theirs; each savepoint is one of so many of the claims at most.
pub record AreSaves (s : KeptSaves) (x : Part) : Type 0 where
  pub found : s.found ≡ map (λ (w : Claim). w.base) x.current.writes
  pub is_set : s.is_set ≡ map (λ (w : Claim). w.is_set) x.current.writes
  pub within : AllByRecursion (λ (saved : List (Option (List ℕ))). length saved ≤ length x.current.writes) s.points
  pub few : length s.points ≤ SAVES

-- while a transaction is active
abbrev pub HasSaves : Stage → KeptSaves → Part → Type 0
HasSaves (stage.Active t) s x = AreSaves s x
HasSaves g s x = Unit {0}

-- a claim with the row that a write had set, or with the one that it found
abbrev pub claim_saved : Option (List ℕ) → VersionWritten → VersionWritten
claim_saved (Some row) c = record c { row = row; is_set = true }
claim_saved None c = record c { row = c.base; is_set = false }

-- the claims that there were at a savepoint, as they were then
abbrev pub claims_saved : List (Option (List ℕ)) → List VersionWritten → List VersionWritten
claims_saved [] claims = []
claims_saved (s ∷ saved) [] = []
claims_saved (s ∷ saved) (c ∷ claims) = claim_saved s c ∷ claims_saved saved claims

-- the claims of an active transaction at each of its savepoints, the oldest first
abbrev pub saves_at : Stage → List (List (Option (List ℕ))) → Part → List (List VersionWritten)
saves_at (stage.Active t) points x = map (λ (saved : List (Option (List ℕ))). claims_saved saved (map written_of x.current.writes)) points
saves_at g points x = []

abbrev pub saves_of : Session → Part → List (List VersionWritten)
saves_of s x = saves_at s.stage s.saves.points x
