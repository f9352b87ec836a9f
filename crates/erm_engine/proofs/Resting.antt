-- A seat between two calls.
use Rattle.std.proofs.Common.{◌≡◌, ◌≢◌, ℕ, ◌<◌, true, List, [], ◌∷◌, length, refl, ap, arith, false}
use Rattle.erm_model.specs.declared.limits.TheConstants.{SESSIONS}
use Rattle.erm_machine.specs.declared.attempt.Attempt.{Attempt}
use Rattle.erm_machine.specs.declared.limits.TheConstants.{FLUSH_SEAT}
use Rattle.erm_machine.specs.declared.part.Part.{Part}
use Rattle.erm_machine.specs.declared.place.Place.{Place}
use Rattle.erm_machine.specs.declared.place.Place.TheVariants.{Idle}
use Rattle.erm_machine.specs.declared.task.Task.{Task}
use Rattle.erm_machine.specs.Core.{blank}
use Rattle.erm_machine.specs.Facts.{IsCurrent}
use Rattle.erm_machine.specs.Seat.{is_snapshot}
use Rattle.erm_machine.specs.Tasks.{TaskFits}
use Rattle.erm_machine.specs.Words.{is_session}
use Rattle.erm_core_view.specs.Views.{IsBetween, work_of}
use Rattle.erm_own_view.proofs.Own.{session_in}
use Rattle.erm_world.specs.World.{size_of}

-- It stands between two calls; and where its transaction has a range, that is of its block's size.
pub record Rests (x : Part) : Type 0 where
  pub between : IsBetween x.place x.task
  pub sized : IsCurrent x.place x.current → 0 < x.current.stamp → x.current.size ≡ size_of (work_of x.current)

pub idle_blank : (pl : Place) (t : Attempt) → pl ≡ Idle → IsCurrent pl t → t ≡ blank
idle_blank Idle t e current = current
idle_blank _ t e current = absurd (cc)

pub idle_between : (pl : Place) (t : Attempt) (u : Task) → pl ≡ Idle → TaskFits pl t u → IsBetween pl u
idle_between Idle t u e fits = fits
idle_between _ t u e fits = absurd (cc)

pub idle_plain : (pl : Place) (t : Attempt) (u : Task) → pl ≡ Idle → TaskFits pl t u → is_snapshot u ≡ false
idle_plain Idle t u e fits = ap is_snapshot fits
idle_plain _ t u e fits = absurd (cc)

pub none_over : (ts : List Attempt) → length ts ≡ 0 → ts ≡ []
none_over [] none = refl
none_over (t ∷ ts) none = absurd (omega (arith, none))

-- a session's seat isn't the flush seat
pub session_other : (q : ℕ) → is_session q ≡ true → q ≢ FLUSH_SEAT
session_other q is flusher = let within = (session_in q is).1 in absurd (let s : SESSIONS ≡ 48 = refl in let f : FLUSH_SEAT ≡ 49 = refl in omega (arith, within, flusher, s, f))
