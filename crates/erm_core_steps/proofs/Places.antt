-- What is so of a session's place, and of the task that it is at there.
use Rattle.std.proofs.Common.{◌≡◌, ℕ, ◌<◌, true, false, refl, arith}
use Rattle.erm_machine.specs.declared.attempt.Attempt.{Attempt}
use Rattle.erm_machine.specs.declared.place.Place.{Place}
use Rattle.erm_machine.specs.declared.place.Place.TheVariants.{Active, Sealed}
use Rattle.erm_machine.specs.declared.task.Task.{Task}
use Rattle.erm_machine.specs.Facts.{IsCurrent}
use Rattle.erm_machine.specs.Seat.{is_active, is_sealed, is_vacant, may_start}
use Rattle.erm_machine.specs.Settling.{may_settle}
use Rattle.erm_core_view.specs.Views.{IsBetween}
use Rattle.erm_core_view.proofs.Snapshots.{starts_between}

-- where it is active
pub active_at : (pl : Place) → is_active pl ≡ true → (tail : ℕ) × (pl ≡ Active tail)
active_at (Active tail) e = (tail, refl)
active_at _ e = absurd (cc)

pub active_unsealed : (pl : Place) → is_active pl ≡ true → is_sealed pl ≡ false
active_unsealed (Active tail) e = refl
active_unsealed _ e = absurd (cc)

pub active_there : (pl : Place) → is_active pl ≡ true → is_vacant pl ≡ false
active_there (Active tail) e = refl
active_there _ e = absurd (cc)

pub active_between : (pl : Place) (u : Task) → is_active pl ≡ true → may_start u ≡ true → IsBetween pl u
active_between (Active tail) u e starts = starts_between u starts
active_between _ u e starts = absurd (cc)

-- where it is sealed
pub sealed_inactive : (pl : Place) → is_sealed pl ≡ true → is_active pl ≡ false
sealed_inactive (Sealed tail stamp) e = refl
sealed_inactive _ e = absurd (cc)

pub sealed_there : (pl : Place) → is_sealed pl ≡ true → is_vacant pl ≡ false
sealed_there (Sealed tail stamp) e = refl
sealed_there _ e = absurd (cc)

pub sealed_between : (pl : Place) (u : Task) → is_sealed pl ≡ true → may_settle u ≡ true → IsBetween pl u
sealed_between (Sealed tail stamp) u e may = may
sealed_between _ u e may = absurd (cc)

pub sealed_drawn : (pl : Place) (t : Attempt) → is_sealed pl ≡ true → IsCurrent pl t → 0 < t.stamp
sealed_drawn (Sealed tail stamp) t e is = let at = is.stamp_is in let some = is.positive in omega (arith, at, some)
sealed_drawn _ t e is = absurd (cc)
