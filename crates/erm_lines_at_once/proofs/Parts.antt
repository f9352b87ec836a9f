-- A whole execution at once is one in part, of all its lines.
use Rattle.std.proofs.Common.{List, arith}
use Rattle.erm_report.specs.declared.answer.Answer.{Answer}
use Rattle.erm_script.specs.declared.script.ScriptLine.{ScriptLine}
use Rattle.erm_world.specs.World.{View}
use Rattle.erm_good_report.specs.Opening.{Opening}
use Rattle.erm_good_report.specs.Phases.{Closed}
use Rattle.erm_good_report.specs.Transactions.{Transaction}
use Rattle.erm_lines_at_once.specs.Ends.{IsEnd}
use Rattle.erm_lines_at_once.specs.Executions.{IsRunAtOnce}
use Rattle.erm_lines_at_once.specs.Laws.{OfRunsAtOnce}
use Rattle.erm_lines_at_once.specs.Parts.{IsLeft, IsRunInPart, OfRunsInPart}

pub end_left : (f : View) → IsEnd f → IsLeft 0 f
end_left f ends = record {
  serializable = ends.serializable;
  excluded = ends.excluded;
  reach = λ seat w stamp session has. omega (arith, ends.reach seat w stamp session has);
  tail = omega (arith, ends.tail);
  within = ends.within;
}

abbrev pub in_part : (v f : View) (script : List ScriptLine) (answers : List Answer) (closed : List Closed) → IsRunAtOnce v script answers closed f → IsRunInPart v script script answers closed f
in_part v f script answers closed run = record {
  opened = run.opened;
  ranges = run.ranges;
  few = run.few;
  named = run.named;
  opening = run.opening;
  own = run.own;
  more = 0;
  ends = end_left f run.ends;
  draws = omega arith;
  counts = λ count. omega arith;
}

-- so a fact of such executions is one of whole ones
pub whole_of : (Fact : Opening → List ScriptLine → List ScriptLine → List Answer → List Transaction → Type 0) → OfRunsInPart Fact
    → OfRunsAtOnce (λ opening script answers closed told. Fact opening script script answers told)
whole_of Fact fact v f script answers closed opening run of = fact v f script script answers closed opening (in_part v f script answers closed run) of
