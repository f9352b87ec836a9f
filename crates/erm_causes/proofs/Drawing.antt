-- A commit that waits draws its stamp at the log's end, which the lines before it have moved so far at most.
use Rattle.std.proofs.Common.{◌≡◌, ℕ, ◌+◌, ◌*◌, ◌≤◌, List, Some, take, slice_get, ap, ◌∙◌, arith}
use Rattle.std.proofs.lemmas.List.Sums.{sum_by_push}
use Rattle.erm_model.specs.declared.limits.TheConstants.{GREATEST_BLOCK}
use Rattle.erm_script.specs.declared.script.Command.TheVariants as command
use Rattle.erm_script.specs.declared.script.ScriptLine.{ScriptLine}
use Rattle.erm_good_report.specs.Refusals.{draws_of, total_of}
use Rattle.erm_lines.specs.Laws.{ExecutionsGoOn, ExecutionsTell}
use Rattle.erm_told.proofs.Untold.{asks, drawn_there, place, there}
use Rattle.erm_told_limits.specs.Limits.{EndsAreInReach}
use Rattle.erm_told_limits.proofs.At.{take_next}
use Rattle.erm_causes.specs.Laws.{RunsDrawInReach}

the_line : (script : List ScriptLine) (i : ℕ) (k l : ScriptLine) → slice_get script i ≡ Some k → slice_get script i ≡ Some l → k ≡ l
the_line script i k l one other = cc

pub draws : ExecutionsTell → ExecutionsGoOn → EndsAreInReach → RunsDrawInReach
draws tell go ends v t script answers run closed opening are of i stamp l at drawn =
    let its = place tell go v t script answers run closed are i stamp drawn in
    let here = there tell go v t script answers run closed are i stamp drawn in
    let begins = (drawn_there tell go v t script answers run closed are i stamp drawn).begins in
    let commits : l.command ≡ command.Commit = ap (λ (k : ScriptLine). k.command) (the_line script i l its.line at its.at) ∙ asks tell go v t script answers run closed are i stamp drawn in
    let one : draws_of l.command ≡ 1 = ap draws_of commits in
    let end : here.before.tail ≤ v.opening.tail + GREATEST_BLOCK * total_of draws_of (take i script) = ends v here.before (take i script) (take i answers) run.opened here.start in
    let next : total_of draws_of (take (i + 1) script) ≡ total_of draws_of (take i script) + draws_of l.command =
    ap (λ (ls : List ScriptLine). total_of draws_of ls) (take_next script i l at) ∙ sum_by_push (λ (k : ScriptLine). draws_of k.command) (take i script) l in
    omega (arith, begins, end, one, next, of.stamp)
