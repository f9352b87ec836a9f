-- A session that is given up: what it may still have in progress, and that it has nothing then.
use Rattle.std.proofs.Common.{◌≡◌, ℕ, ◌⊎◌, ⊎_elim, inl, inr, refl, sym, ap, subst}
use Rattle.erm_beside.specs.Calls.{After}
use Rattle.erm_model.specs.declared.outcome.Phase.{Phase}
use Rattle.erm_model.specs.declared.outcome.Phase.TheVariants as phase
use Rattle.erm_session.specs.Safe.{IsSnapshotPhase}
use Rattle.erm_world.specs.Calls.{DidAbort}
use Rattle.erm_world.specs.Safe.{HasSnapshot}
use Rattle.erm_world.specs.World.{Session, Snapshot, Stand, View, phase_at, phase_of}
use Rattle.erm_world.specs.World as world

snapshot_stand : (stand : Stand) → IsSnapshotPhase (phase_of stand) → (s : Snapshot) × (stand ≡ world.snapshot s)
snapshot_stand world.idle is = absurd is
snapshot_stand (world.active w) is = absurd is
snapshot_stand (world.sealed w stamp) is = absurd is
snapshot_stand (world.snapshot s) is = (s, refl)

-- a session in a phase of a snapshot has one
pub has_snapshot : (v : View) (seat : ℕ) (p : Phase) → p ≡ phase_at v seat → (p ≡ phase.Pending) ⊎ (p ≡ phase.Safe) → HasSnapshot v seat
has_snapshot v seat p shown either =
    snapshot_stand (v.session seat).stand
    (subst IsSnapshotPhase shown
    (⊎_elim (λ (pending : p ≡ phase.Pending). subst IsSnapshotPhase (sym pending) tt) (λ (safe : p ≡ phase.Safe). subst IsSnapshotPhase (sym safe) tt) either))

-- one that is idle or sealed has none in progress
pub either_rests : (p q : Phase) → p ≡ q → (p ≡ phase.Idle) ⊎ (p ≡ phase.Sealed) → q ≡ phase.Active → ⊥
either_rests p q shown (inl idle) active = absurd (cc)
either_rests p q shown (inr sealed) active = absurd (cc)

-- one whose transaction or snapshot was ended has none in progress
pub ended_rests : (v t : View) (seat then_seat : ℕ) → then_seat ≡ seat → After seat (λ u w. DidAbort u seat w) v t → phase_at t then_seat ≡ phase.Active → ⊥
ended_rests v t seat then_seat same ended active =
    let idle = ap (λ (s : Session). phase_of s.stand) ended.2.own in
    let there : phase_at t seat ≡ phase.Active = subst (λ (n : ℕ). phase_at t n ≡ phase.Active) same active in
    absurd (cc)
