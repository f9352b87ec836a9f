use Rattle.std.specs.Prelude.{◌≡◌, ℕ, Some}
use Rattle.std.specs.List.{slice_get}
use Rattle.erm_report.specs.declared.answer.Answer.{Answer}
use Rattle.erm_script.specs.declared.script.ScriptLine.{ScriptLine}
use Rattle.erm_good_report.specs.Refusals.{IsInReach}
use Rattle.erm_good_at_once.specs.CutReports.{moment_in}
use Rattle.erm_lines_at_once.proofs.Parts.{whole_of}
use Rattle.erm_causes_at_once.proofs.runs_at_once_are_in_reach.Goals as goal

pub returns : goal.returns
returns c = whole_of (λ opening whole part answers told. (i : ℕ) (l : ScriptLine) (a : Answer) → slice_get part i ≡ Some l → slice_get answers i ≡ Some a
    → IsInReach (moment_in opening whole part answers told i l) l.command a) c.runs_in_part_tell_log.ensures.reach
