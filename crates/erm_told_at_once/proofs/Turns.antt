-- What an answer to a session tells, beside what it did with the session's own part.
use Rattle.std.proofs.Common.{◌≡◌, ℕ, ◌≤◌, Option, refl, sym, ap, ◌∙◌, subst, arith, le_trans}
use Rattle.erm_report.specs.declared.answer.Answer.{Answer}
use Rattle.erm_script.specs.declared.script.Command.{Command}
use Rattle.erm_world.specs.World.{Session, View, phase_at, phase_of}
use Rattle.erm_good_report.specs.Phases.{phase_after}
use Rattle.erm_good_report.specs.Transactions.{Progress, heard}
use Rattle.erm_lines.specs.Told.{Continues}
use Rattle.erm_beside.specs.Calls.{Passes}
use Rattle.erm_told.proofs.Executed.{told_same}
use Rattle.erm_told.proofs.Turns.{TellsAt, Turn}
use Rattle.erm_lines_at_once.specs.Operations.{Beside}

-- a session went on, and its transactions and its phase are those told
pub record Took (seat : ℕ) (asked : Option Command) (a : Answer) (v t : View) : Type 0 where
  pub goes : Continues (v.session seat) (t.session seat)
  pub phase : phase_after asked a (phase_at v seat) ≡ phase_at t seat
  pub tells : (p : Progress) → TellsAt seat p v → TellsAt seat (heard seat asked a p) t

-- the log came as far at least, in a world that was opened so
pub record Onward (v t : View) : Type 0 where
  pub opening : t.opening ≡ v.opening
  pub tail : v.tail ≤ t.tail

pub onward_itself : (v : View) → Onward v v
onward_itself v = record { opening = refl; tail = omega arith }

pub onward_then : (v u t : View) → Onward v u → Onward u t → Onward v t
onward_then v u t first second = record { opening = second.opening ∙ first.opening; tail = le_trans first.tail second.tail }

pub onward_passes : (seat : ℕ) (v u : View) → Passes seat v u → Onward v u
onward_passes seat v u passes = record { opening = passes.opening; tail = passes.tail }

-- an own part, and what became of it
pub record Turns (seat : ℕ) (asked : Option Command) (a : Answer) (v t : View) : Type 0 where
  pub took : Took seat asked a v t
  pub onward : Onward v t

-- of worlds in which the session is the same
took_as : (seat : ℕ) (asked : Option Command) (a : Answer) (v t x y : View) → x.session seat ≡ v.session seat → x.saves seat ≡ v.saves seat → t.session seat ≡ y.session seat
    → t.saves seat ≡ y.saves seat → Took seat asked a x y → Took seat asked a v t
took_as seat asked a v t x y starts starts_saves stops stops_saves took = record {
  goes = subst (λ (s : Session). Continues s (t.session seat)) starts (subst (λ (s : Session). Continues (x.session seat) s) (sym stops) took.goes);
  phase = ap (λ (s : Session). phase_after asked a (phase_of s.stand)) (sym starts) ∙ took.phase ∙ sym (ap (λ (s : Session). phase_of s.stand) stops);
  tells = λ p told. told_same seat (heard seat asked a p) y t stops stops_saves (took.tells p (told_same seat p v x starts starts_saves told));
}

-- a turn of the session in its own view, after others went on
pub turns_after : (seat : ℕ) (asked : Option Command) (a : Answer) (v u t : View) → Passes seat v u → Turn u seat asked a t → Turns seat asked a v t
turns_after seat asked a v u t passes turn = record {
  took = took_as seat asked a v t u t passes.own passes.saves refl refl (record { goes = turn.goes; phase = turn.phase; tells = turn.tells });
  onward = record { opening = turn.opening ∙ passes.opening; tail = le_trans passes.tail turn.tail };
}

-- a turn in some world in which the session stands so
pub turns_beside : (seat : ℕ) (asked : Option Command) (a : Answer) (Did : View → View → Type 0) (v t : View) → (beside : Beside seat Did v t)
    → Turn beside.from seat asked a beside.to → Turns seat asked a v t
turns_beside seat asked a Did v t beside turn = record {
  took = took_as seat asked a v t beside.from beside.to beside.starts beside.starts_saves beside.stops beside.stops_saves
      (record { goes = turn.goes; phase = turn.phase; tells = turn.tells });
  onward = record { opening = beside.opening; tail = beside.tail };
}
