-- The commits that an execution at once tells have their stamps within the log.
use Rattle.std.proofs.Common.{◌≡◌, ℕ, ◌<◌, List, inl, refl, sym, ap, subst, arith}
use Rattle.erm_model.specs.declared.history.TransactionRecord.{TransactionRecord}
use Rattle.erm_model.specs.declared.limits.TheConstants.{LOG_END}
use Rattle.erm_model.specs.Committed.{Committed}
use Rattle.erm_model.specs.Member.{◌∈◌}
use Rattle.erm_machine.proofs.Listed.{∈-map}
use Rattle.erm_report.specs.declared.answer.Answer.{Answer}
use Rattle.erm_script.specs.declared.script.ScriptLine.{ScriptLine}
use Rattle.erm_world.specs.World.{View}
use Rattle.erm_world.specs.World as world
use Rattle.erm_world.proofs.Commits.{tells_commits}
use Rattle.erm_maps.specs.Runs.{told_commit, told_commits}
use Rattle.erm_good_report.specs.GoodReport.{places_of}
use Rattle.erm_good_report.specs.Phases.{Closed}
use Rattle.erm_good_report.specs.Transactions.{Progress, Said, history_of, progress_of, transactions_of}
use Rattle.erm_lines_at_once.specs.Executions.{IsRunAtOnce}
use Rattle.erm_lines_at_once.specs.Parts.{RunsInPartTell}
use Rattle.erm_lines_at_once.proofs.Parts.{in_part}
use Rattle.erm_told_order.specs.Told.{IsTold, told_in}
use Rattle.erm_told_order.proofs.Orders.{commits_told}
use Rattle.erm_told_order.proofs.Places.{told_by}
use Rattle.erm_told_at_once.proofs.Ends.{is_told}

pub logged : RunsInPartTell → (v f : View) (script : List ScriptLine) (answers : List Answer) (closed : List Closed) → IsRunAtOnce v script answers closed f → (c : Committed)
    → c ∈ history_of (transactions_of v.opening.sessions (places_of script answers closed)) → c.stamp < LOG_END
logged tell v f script answers closed run c m =
    let said : List Said = places_of script answers closed in
    let told : IsTold f said = is_told tell v f script script answers closed (in_part v f script answers closed run) in
    let progress : ℕ → Progress = λ seat. progress_of seat said in
    let here : c ∈ history_of (told_in f said) = subst (λ (o : world.Opening). c ∈ history_of (transactions_of o.sessions said)) (sym run.opening) m in
    let in_world : c ∈ told_commits (told_by progress) (world.history_of f) = subst (λ (cs : List Committed). c ∈ cs) (commits_told f progress told.serializable told.tells) here in
    let from = ∈-map (told_commit (told_by progress)) (world.history_of f) c in_world in
    let own = (tells_commits f).only from.0 from.1 in
    let g : world.Finished = record { work = own.work; fate = world.commits own.stamp own.succ own.pred } in
    let low = run.ends.within own.seat own.work own.stamp own.session (inl (g, own.over, refl, refl)) in
    let told_is : from.0.stamp ≡ c.stamp = ap (λ (x : Committed). x.stamp) from.2 in
    let own_is : from.0.stamp ≡ own.stamp = ap (λ (r : TransactionRecord). r.stamp) own.is in
    omega (arith, low, told_is, own_is)
