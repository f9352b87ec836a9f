-- A session's transaction in progress has claimed each object once.
use Rattle.std.proofs.Common.{◌≡◌, ℕ, ◌<◌, ◌≤◌, ⊎_elim, List, length, map, get_or, Some, sym, ap, ◌∙◌, arith}
use Rattle.std.specs.List.{slice_get}
use Rattle.std.proofs.lemmas.Bool.{cases_eq, cases_lt}
use Rattle.std.proofs.lemmas.List.{length-map}
use Rattle.std.proofs.lemmas.Option.{get_or_from_slice_get, slice_get_within}
use Rattle.std.proofs.Math.ListN as listn
use Rattle.erm_model.specs.declared.history.VersionWritten.{VersionWritten}
use Rattle.erm_machine.specs.declared.attempt.Attempt.{Attempt}
use Rattle.erm_machine.specs.declared.attempt.Claim.{Claim}
use Rattle.erm_machine.specs.declared.place.Place.{Place}
use Rattle.erm_machine.specs.declared.place.Place.TheVariants.{Active, Sealed}
use Rattle.erm_machine.specs.declared.task.Task.{Task}
use Rattle.erm_machine.specs.Core.{Core, no_claim}
use Rattle.erm_machine.specs.Decided.{written_of}
use Rattle.erm_machine.specs.Seat.{is_snapshot}
use Rattle.erm_machine.specs.Sound.{Sound}
use Rattle.erm_machine.proofs.Guards.{either_way}
use Rattle.erm_world.specs.Saves.{OnceOf}
use Rattle.erm_world.specs.World.{Stand, work_at}
use Rattle.erm_world.specs.World as world
use Rattle.erm_core_view.specs.Views.{shown_by, stand_of, view_of}

-- of different objects
abbrev Apart : List Claim → Type 0
Apart ws = (j k : ℕ) → j < k → k < length ws → (get_or ws j no_claim).version.oid ≡ (get_or ws k no_claim).version.oid → ⊥

-- the claim at a place of what shows of them
claim_shown : (ws : List Claim) (i : ℕ) (c : VersionWritten) → slice_get (map written_of ws) i ≡ Some c → (i < length ws) × ((get_or ws i no_claim).version.oid ≡ c.oid)
claim_shown ws i c at =
    let within : i < length (map written_of ws) = slice_get_within (map written_of ws) i c at in
    let shown : get_or (map written_of ws) i (written_of no_claim) ≡ c = get_or_from_slice_get (map written_of ws) i c (written_of no_claim) at in (
      let n = length-map ws written_of in omega (arith, n, within),
      ap (λ (v : VersionWritten). v.oid) (sym (listn.get_or-map written_of ws i no_claim) ∙ shown),
    )

apart_once : (ws : List Claim) → Apart ws → OnceOf (map written_of ws)
apart_once ws apart i j c d at_i at_j same =
    let one = claim_shown ws i c at_i in
    let other = claim_shown ws j d at_j in
    let equal : (get_or ws i no_claim).version.oid ≡ (get_or ws j no_claim).version.oid = one.1 ∙ same ∙ sym other.1 in
    ⊎_elim
    (λ (is : i ≡ j). is)
    (λ (another : i ≡ j → ⊥).
    ⊎_elim
    (λ (less : i < j). absurd (apart i j less other.0 equal))
    (λ (more : j ≤ i). absurd (apart j i (omega (arith, more, another)) one.0 (sym equal)))
    (cases_lt i j))
    (cases_eq i j)

-- what a seat shows
pub shown_once : (u : Task) (t : Attempt) → OnceOf (map written_of t.writes) → OnceOf (world.work_of (shown_by u t)).claims
shown_once u t once =
    either_way (λ (stand : Stand). OnceOf (world.work_of stand).claims) (is_snapshot u) _ _ (λ _ i j c d at. absurd (cc)) (λ _. once)

stand_once : (p : Place) (u : Task) (t : Attempt) → OnceOf (map written_of t.writes) → OnceOf (world.work_of (stand_of p u t)).claims
stand_once (Active tail) u t once = shown_once u t once
stand_once (Sealed tail stamp) u t once = once
stand_once _ u t once = λ i j c d at. absurd (cc)

pub claims_once : (c : Core) → Sound c → (seat : ℕ) → OnceOf (map written_of (c.seats seat).current.writes)
claims_once c sound seat = apart_once (c.seats seat).current.writes (sound.own seat).claims.once

pub works_once : (sessions : ℕ) (c : Core) → Sound c → (seat : ℕ) → OnceOf (work_at (view_of sessions c) seat).claims
works_once sessions c sound seat =
    let x = c.seats seat in
    stand_once x.place x.task x.current (claims_once c sound seat)
