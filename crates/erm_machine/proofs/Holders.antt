-- Who holds an object, in a sound state.
use Rattle.std.proofs.Common.{◌≡◌, ℕ, ◌<◌, ◌≤◌, true, length, sym, ap, ◌∙◌, subst, arith}
use Rattle.std.proofs.lemmas.Option.{slice_get-get_or, slice_get_within, get_or_from_slice_get}
use Rattle.erm_model.specs.Member.{◌∈◌}
use Rattle.erm_machine.specs.declared.limits.TheConstants.{OBJECT_LIMIT}
use Rattle.erm_machine.specs.declared.attempt.Attempt.{Attempt}
use Rattle.erm_machine.specs.declared.attempt.Claim.{Claim}
use Rattle.erm_machine.specs.declared.place.Place.{Place}
use Rattle.erm_machine.specs.declared.place.Place.TheVariants.{Vacant, Idle, Begun, Announced, Active, Sealing, Drawn, Sealed, Decided, Leaving}
use Rattle.erm_machine.specs.declared.task.Task.{Task}
use Rattle.erm_machine.specs.declared.task.Task.TheVariants as task
use Rattle.erm_machine.specs.Claims.{ClaimFits}
use Rattle.erm_machine.specs.Core.{Core, claim_at, no_claim}
use Rattle.erm_machine.specs.Facts.{Holds, HasBegun}
use Rattle.erm_machine.specs.Snapshot.{NewerFrom}
use Rattle.erm_machine.specs.Sound.{Sound}
use Rattle.erm_machine.specs.Tasks.{TaskFits, InActive}
use Rattle.erm_machine.specs.Words.{owner_of}

-- a claim that stands in a list stands at a place, and the other way round
pub record StandsAt (t : Attempt) (w : Claim) : Type 0 where
  pub place : ℕ
  pub within : place < length t.writes
  pub is : claim_at t place ≡ w

pub stands_at : (t : Attempt) (w : Claim) → w ∈ t.writes → StandsAt t w
stands_at t w m = record { place = m.0; within = slice_get_within t.writes m.0 w m.1; is = get_or_from_slice_get t.writes m.0 w no_claim m.1 }

pub stands_in : (t : Attempt) (k : ℕ) → k < length t.writes → claim_at t k ∈ t.writes
stands_in t k within = (k, slice_get-get_or t.writes k no_claim within)

-- what a seat holds, by the claim's place
pub record HoldsAt (c : Core) (q oid : ℕ) : Type 0 where
  pub place : ℕ
  pub within : place < length (c.seats q).current.writes
  pub held : (claim_at (c.seats q).current place).held ≡ true
  pub oid_is : (claim_at (c.seats q).current place).version.oid ≡ oid

pub holds_at : (c : Core) (q oid : ℕ) → Holds (c.seats q) oid → HoldsAt c q oid
holds_at c q oid h =
    let at = stands_at (c.seats q).current h.0 h.1 in
    record { place = at.place; within = at.within; held = ap (λ (w : Claim). w.held) at.is ∙ h.2; oid_is = ap (λ (w : Claim). w.version.oid) at.is ∙ h.3 }

pub holds_from : (c : Core) (q oid : ℕ) → HoldsAt c q oid → Holds (c.seats q) oid
holds_from c q oid h = (claim_at (c.seats q).current h.place, stands_in (c.seats q).current h.place h.within, h.held, h.oid_is)

-- the claim of an object that a seat holds fits the object
pub record HeldClaim (c : Core) (q oid : ℕ) : Type 0 where
  pub at : HoldsAt c q oid
  pub fits : ClaimFits q (c.seats q).current.number (c.seats q).current.begin (c.shared.objects oid) (claim_at (c.seats q).current at.place)

pub held_claim : (c : Core) (q oid : ℕ) → Sound c → Holds (c.seats q) oid → HeldClaim c q oid
held_claim c q oid sound h =
    let at = holds_at c q oid h in
    let w = claim_at (c.seats q).current at.place in
    record {
      at = at;
      fits = subst (λ n. ClaimFits q (c.seats q).current.number (c.seats q).current.begin (c.shared.objects n) w) at.oid_is ((sound.own q).claims.fit at.place at.within at.held);
    }

-- an entry names the seat that holds its object
pub owner_holds : (c : Core) (q oid : ℕ) → Sound c → Holds (c.seats q) oid → owner_of (c.shared.objects oid).entry ≡ q
owner_holds c q oid sound h = (held_claim c q oid sound h).fits.owner

-- two seats don't hold one object
pub held_once : (c : Core) (p q oid : ℕ) → Sound c → Holds (c.seats p) oid → Holds (c.seats q) oid → p ≡ q
held_once c p q oid sound h g = sym (owner_holds c p oid sound h) ∙ owner_holds c q oid sound g

-- a task that is none of an active transaction's, and isn't at rest, says where the seat is
abbrev pub Works : Task → Type 0
Works task.Rest = ⊥
Works (task.Ends raised ended step cleared) = ⊥
Works t = InActive t

active_then : (pl : Place) (t : Attempt) (u : Task) → TaskFits pl t u → Works u → HasBegun pl
active_then (Active tail) t u f w = tt
active_then (Sealing tail) t u f w = tt
active_then (Drawn tail stamp) t u f w = tt
active_then (Sealed tail stamp) t u f w = tt
active_then (Decided tail stamp) t u f w = tt
active_then Vacant t u f w = absurd (subst Works f w)
active_then Idle t u f w = absurd (subst Works f w)
active_then (Begun tail) t u f w = absurd (subst Works f w)
active_then (Announced tail) t u f w = absurd (subst Works f w)
active_then (Leaving stamp) t u f w = absurd (subst Works f w)

-- a seat in the middle of a read or a claim has begun
pub works_begun : (c : Core) (p : ℕ) → Sound c → Works (c.seats p).task → HasBegun (c.seats p).place
works_begun c p sound w = active_then (c.seats p).place (c.seats p).current (c.seats p).task (sound.own p).task.fits w

-- a version whose newer ones all have stamps at or above a begin stamp is attached
pub begun_attached : (c : Core) (p oid place : ℕ) → Sound c → oid < OBJECT_LIMIT → HasBegun (c.seats p).place →
    NewerFrom (c.shared.objects oid) place (c.seats p).current.begin → (c.shared.objects oid).cut ≤ place
begun_attached c p oid place sound known begun newer =
    let below = (sound.own p).attached.below oid known begun in
    let within = (sound.common.chains.linked oid known).attached in
    not_above (c.shared.objects oid).cut place (λ (h : place < (c.shared.objects oid).cut). let above = newer (c.shared.objects oid).cut h within in omega (arith, above, below))
  where
    not_above : (m n : ℕ) → (n < m → ⊥) → m ≤ n
    not_above m n f = omega (arith, f)
