-- A session that goes on beside others, and goes on again, has gone on.
use Rattle.std.proofs.Common.{◌≡◌, ℕ, refl, ◌∙◌, subst, le_trans, arith}
use Rattle.erm_world.specs.Face.{same}
use Rattle.erm_world.specs.Onward.{active_before, grows_then}
use Rattle.erm_world.specs.World.{View}
use Rattle.erm_beside.specs.Calls.{Passes}
use Rattle.erm_beside.specs.Face.{GoesBeside}
use Rattle.erm_beside.specs.Laws.{GoesOnward}

pub onward_itself : (seat : ℕ) (before : View → Type 0) → GoesOnward seat seat before before
onward_itself seat before = record { seat_is = refl; ends_so = λ f end. end }

pub onward_then : (seat then_seat last : ℕ) (before between after : View → Type 0) → GoesOnward seat then_seat before between → GoesOnward then_seat last between after
    → GoesOnward seat last before after
onward_then seat then_seat last before between after first second = record {
  seat_is = second.seat_is ∙ first.seat_is;
  ends_so = λ f end. first.ends_so f (second.ends_so f end);
}

pub beside_itself : (seat : ℕ) (v : View) → GoesBeside seat v v
beside_itself seat v = record { own = same refl; opening = refl; tail = omega arith; flushed = omega arith; saves = λ active. refl }

pub beside_then : (seat then_seat : ℕ) (v t u : View) → then_seat ≡ seat → GoesBeside seat v t → GoesBeside then_seat t u → GoesBeside seat v u
beside_then seat then_seat v t u is first later =
    let second = subst (λ (at : ℕ). GoesBeside at t u) is later in record {
      own = grows_then (v.session seat) (t.session seat) (u.session seat) first.own second.own;
      opening = second.opening ∙ first.opening;
      tail = le_trans first.tail second.tail;
      flushed = le_trans first.flushed second.flushed;
      saves = λ active. second.saves active ∙ first.saves (active_before (t.session seat) (u.session seat) second.own active);
    }

pub passes_itself : (seat : ℕ) (v : View) → Passes seat v v
passes_itself seat v = record { own = refl; opening = refl; tail = omega arith; flushed = omega arith; given_up = refl; saves = refl }

pub passes_then : (seat then_seat : ℕ) (v t u : View) → then_seat ≡ seat → Passes seat v t → Passes then_seat t u → Passes seat v u
passes_then seat then_seat v t u is first later =
    let second = subst (λ (at : ℕ). Passes at t u) is later in record {
      own = second.own ∙ first.own;
      opening = second.opening ∙ first.opening;
      tail = le_trans first.tail second.tail;
      flushed = le_trans first.flushed second.flushed;
      given_up = second.given_up ∙ first.given_up;
      saves = second.saves ∙ first.saves;
    }
