-- A session that has a snapshot is in no phase of a transaction.
use Rattle.std.specs.Prelude.{◌≡◌, ◌⊎◌, Bool, if◌then◌else◌, true, false}
use Rattle.std.proofs.Common.{inl, inr}
use Rattle.erm_model.specs.declared.outcome.Phase.{Phase}
use Rattle.erm_model.specs.declared.outcome.Phase.TheVariants as phase
use Rattle.erm_world.specs.World.{Snapshot, phase_of, snapshot}

-- not even one that isn't known to be safe
neither_is : (b : Bool) (p : Phase) → (if b then phase.Safe else phase.Pending) ≡ p → (phase.Safe ≡ p) ⊎ (phase.Pending ≡ p)
neither_is true p e = inl e
neither_is false p e = inr e

pub snapshot_not_idle : (s : Snapshot) → phase_of (snapshot s) ≡ phase.Idle → ⊥
snapshot_not_idle s e = elim (neither_is s.is_safe phase.Idle e) [ inl safe ↦ cc | inr pending ↦ cc ]

pub snapshot_not_active : (s : Snapshot) → phase_of (snapshot s) ≡ phase.Active → ⊥
snapshot_not_active s e = elim (neither_is s.is_safe phase.Active e) [ inl safe ↦ cc | inr pending ↦ cc ]

pub snapshot_not_sealed : (s : Snapshot) → phase_of (snapshot s) ≡ phase.Sealed → ⊥
snapshot_not_sealed s e = elim (neither_is s.is_safe phase.Sealed e) [ inl safe ↦ cc | inr pending ↦ cc ]
