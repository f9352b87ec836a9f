-- Savepoints: what becomes of a transaction's claims where it goes back to one, and what the calls for them do to a world's view.
use Rattle.std.specs.Prelude.{◌≡◌, ℕ, suc, ◌+◌, ◌<◌, ◌==◌, ◌⊎◌, if◌then◌else◌, false, List, [], ◌∷◌, ◌++◌, length, map, take, Some}
use Rattle.std.specs.List.{slice_get}
use Rattle.erm_model.specs.declared.history.VersionWritten.{VersionWritten}
use Rattle.erm_model.specs.declared.limits.TheConstants.{SAVES}
use Rattle.erm_world.specs.declared.stops.SaveStop.{SaveStop}
use Rattle.erm_world.specs.declared.stops.SaveStop.TheVariants as save
use Rattle.erm_world.specs.Calls.{Works}
use Rattle.erm_world.specs.Going.{found_by}
use Rattle.erm_world.specs.World.{View, Work, work_at}

-- THE CLAIMS. One that leaves the row that it found.
abbrev pub undone : VersionWritten → VersionWritten
undone c = record c { row = c.base; is_set = false }

-- The claims after one goes back to these: each of them is as it was saved, and each made since is undone. No claim is given up.
abbrev pub restored : (saved claims : List VersionWritten) → List VersionWritten
restored [] claims = map undone claims
restored (s ∷ saved) [] = []
restored (s ∷ saved) (c ∷ claims) = s ∷ restored saved claims

-- a transaction with these claims had those at a savepoint: each of those stands in its place, and found the same
abbrev pub HasClaimed : (saved claims : List VersionWritten) → Type 0
HasClaimed saved claims = (k : ℕ) (s : VersionWritten) → slice_get saved k ≡ Some s → (c : VersionWritten) × (slice_get claims k ≡ Some c) × (found_by c ≡ found_by s)

-- each object is claimed once
abbrev pub OnceOf : List VersionWritten → Type 0
OnceOf claims = (i j : ℕ) (c d : VersionWritten) → slice_get claims i ≡ Some c → slice_get claims j ≡ Some d → c.oid ≡ d.oid → i ≡ j

-- a transaction with these claims in place of its own
abbrev pub with_claims : List VersionWritten → Work → Work
with_claims claims w = record w { claims = claims }

-- the transaction still has what it had claimed at each savepoint
abbrev pub AreSavesOf : Work → List (List VersionWritten) → Type 0
AreSavesOf w saves = (j : ℕ) (saved : List VersionWritten) → slice_get saves j ≡ Some saved → HasClaimed saved w.claims

-- THE VIEW. The sessions hold these savepoints, or one of them does.
abbrev pub with_saves : (ℕ → List (List VersionWritten)) → View → View
with_saves saves v = record v { saves = saves }

abbrev pub holding : ℕ → List (List VersionWritten) → View → View
holding seat held v = with_saves (λ q. if q == seat then held else v.saves q) v

-- SAVE. Below the limit there is room for it: one savepoint more is held, at which the claims were as they are.
pub record DidSave (v : View) (seat held : ℕ) (t : View) : Type 0 where
  pub room : length (v.saves seat) < SAVES
  pub held_is : held ≡ length (v.saves seat) + 1
  pub saved : t ≡ holding seat (v.saves seat ++ (work_at v seat).claims ∷ []) v

-- no more may be held
abbrev pub DidNotSave : View → ℕ → SaveStop → View → Type 0
DidNotSave v seat (save.SavesFull held) t = (t ≡ v) × (held ≡ SAVES) × (length (v.saves seat) ≡ SAVES)
DidNotSave v seat save.Memory t = (t ≡ v) × (length (v.saves seat) < SAVES)

-- BACK. There is a savepoint of this number, from 1: the claims are restored to those of then, and the savepoints made since are gone. All else
-- that the transaction has done stays.
pub record WentBack (v : View) (seat n : ℕ) (t : View) : Type 0 where
  pub place : ℕ
  pub saved : List VersionWritten
  pub number : n ≡ suc place
  pub was_saved : slice_get (v.saves seat) place ≡ Some saved
  pub between : View
  pub claims : Works v seat (with_claims (restored saved (work_at v seat).claims) (work_at v seat)) between
  pub saves : t ≡ holding seat (take n (v.saves seat)) between

-- there is none
abbrev pub HasNoSave : View → ℕ → ℕ → ℕ → View → Type 0
HasNoSave v seat n held t = (t ≡ v) × (held ≡ length (v.saves seat)) × ((n ≡ 0) ⊎ (held < n))
