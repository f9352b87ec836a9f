-- A world that was just opened: a script without lines is run in it, and each script may be cut off in it before the first answer.
use Rattle.std.proofs.Common.{◌≡◌, ℕ, ◌≤◌, List, [], ◌∷◌, length, Option, refl, sym, ap, subst, inl, inr, arith}
use Rattle.erm_model.specs.declared.limits.TheConstants.{LAST_NUMBER}
use Rattle.erm_model.specs.Member.{◌∈◌}
use Rattle.erm_model.proofs.Members.{none_in_nil}
use Rattle.erm_script.specs.declared.script.ScriptLine.{ScriptLine}
use Rattle.erm_script.specs.Script.{IsInRange}
use Rattle.erm_good_at_once.specs.CutReports.{answered_of}
use Rattle.erm_beside.specs.Calls.{Passes}
use Rattle.erm_lines.specs.Executions.{IsOpened, Move}
use Rattle.erm_world.specs.World.{Finished, HasStamp, IsSession, Session, Stand, View, Work, phase_of, stamp_of}
use Rattle.erm_world.specs.World as world
use Rattle.erm_lines_at_once.specs.CutRuns.{IsCutPart, IsCutRunAtOnce, next_of, stood}
use Rattle.erm_lines_at_once.specs.Ends.{IsEnd}
use Rattle.erm_lines_at_once.specs.Executions.{IsOwnPart, IsOwnRun, IsRunAtOnce, all_moves}

passes : (v : View) (seat : ℕ) → Passes seat v v
passes v seat = record { own = refl; opening = refl; tail = omega arith; flushed = omega arith; given_up = refl; saves = refl }

module _ (v : View) (opened : IsOpened v) where
  none_over : (seat : ℕ) (one : Finished) → IsSession v seat → one ∈ (v.session seat).over → ⊥
  none_over seat one session m = none_in_nil one (subst (λ (fs : List Finished). one ∈ fs) (ap (λ (s : Session). s.over) (opened.idle seat session)) m)

  stands_idle : (seat : ℕ) → IsSession v seat → (v.session seat).stand ≡ world.idle
  stands_idle seat session = ap (λ (s : Session). s.stand) (opened.idle seat session)

  idle_sealed : (stand : Stand) (w : Work) (stamp : ℕ) → stand ≡ world.idle → stand ≡ world.sealed w stamp → ⊥
  idle_sealed stand w stamp idle sealed = cc

  none_sealed : (seat : ℕ) (w : Work) (stamp : ℕ) → IsSession v seat → HasStamp v seat w stamp → ⊥
  none_sealed seat w stamp session (inl (one, m, is, at)) = none_over seat one session m
  none_sealed seat w stamp session (inr sealed) = idle_sealed (v.session seat).stand w stamp (stands_idle seat session) sealed

  opened_ends : IsEnd v
  opened_ends = record {
    serializable = opened.serializable;
    excluded = λ seat w stamp succ pred session m. absurd (none_over seat (record { work = w; fate = world.excluded stamp succ pred }) session m);
    alone = λ seat w stamp succ pred c u session m. absurd (none_over seat (record { work = w; fate = world.excluded stamp succ pred }) session m);
    reach = λ seat w stamp session has. absurd (none_sealed seat w stamp session has);
    tail = omega (arith, opened.tail);
    within = λ seat w stamp session has. absurd (none_sealed seat w stamp session has);
  }

  own_part : (seat : ℕ) → IsSession v seat → IsOwnPart v seat v []
  own_part seat session = record {
    last = v;
    run = passes v seat;
    ends = refl;
    given_up = refl;
    within = (omega arith, omega arith);
  }

pub nothing_runs : (v : View) → IsOpened v → IsRunAtOnce v [] [] [] v
nothing_runs v opened = record {
  opened = opened;
  ranges = λ l m. absurd (none_in_nil l m);
  few = omega arith;
  each = refl;
  named = λ l m. absurd (none_in_nil l m);
  opening = refl;
  ascend = λ i j d low high. absurd (omega arith);
  sessions = λ c m. absurd (none_in_nil c m);
  own = λ seat session. own_part v opened seat session;
  ends = opened_ends v opened;
  idle = λ seat session. ap phase_of (stands_idle v opened seat session);
}

-- CUT OFF before any answer
none_answered : (script : List ScriptLine) → answered_of (λ seat. 0) script ≡ []
none_answered [] = refl
none_answered (l ∷ script) = none_answered script

cut_part : (v : View) (seat : ℕ) (next : Option ScriptLine) (ms : List Move) → ms ≡ [] → IsCutPart v seat next v ms
cut_part v seat next ms none = record {
  last = v;
  end = v;
  run = subst (λ (moves : List Move). IsOwnRun v seat v moves v) (sym none) (passes v seat);
  rest = stood (passes v seat);
  ends = refl;
  given_up = refl;
  within = (omega arith, omega arith);
}

pub nothing_is_answered : (v : View) (script : List ScriptLine) → IsOpened v → ((l : ScriptLine) → l ∈ script → IsInRange l.command × IsSession v l.session) → length script ≤ LAST_NUMBER
    → IsCutRunAtOnce v script (λ seat. 0) [] [] v
nothing_is_answered v script opened of few = record {
  opened = opened;
  ranges = λ l m. (of l m).0;
  few = few;
  each = sym (ap length (none_answered script));
  named = λ l m. (of l m).1;
  opening = refl;
  ascend = λ i j d low high. absurd (omega arith);
  sessions = λ c m. absurd (none_in_nil c m);
  decided = λ c m. absurd (none_in_nil c m);
  own = λ seat session. cut_part v seat (next_of seat (λ q. 0) script) (all_moves (answered_of (λ q. 0) script) [] []) (ap (λ (ls : List ScriptLine). all_moves ls [] []) (none_answered script));
  ends = opened_ends v opened;
}
