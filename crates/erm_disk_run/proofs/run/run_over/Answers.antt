use Rattle.std.proofs.Common.{◌≡◌, List, ℕ, [], length, sym, ◌∙◌, subst}
use Rattle.std.proofs.lemmas.Bool.{eqb-true}
use Rattle.std.proofs.lemmas.List.{nil_from_length}
use Rattle.erm_disk_run.specs.Runs.{EndsRun, IsScriptFor, LeavesUntold}
use Rattle.erm_disk_run.proofs.Spared.{no_sessions, spare_script, spared, spared_untold}
use Rattle.erm_disk_run.proofs.run.run_over.Goals as goal

pub run_named-requires-clause-script : goal.run_named-requires-clause-script
run_named-requires-clause-script g c =
    let none : c.args.names.now ≡ [] = nil_from_length c.args.names.now (eqb-true (length c.args.names.now) 0 (sym c.is_empty.ensures ∙ c.if-is_empty.true)) in
    spare_script c.empty.result c.args.script.now (subst (λ (names : List (List ℕ)). IsScriptFor names c.args.script.now) none c.requires.script)

pub returns-then-is_empty-clause-ended : goal.returns-then-is_empty-clause-ended
returns-then-is_empty-clause-ended g c =
    let none : c.args.names.now ≡ [] = nil_from_length c.args.names.now (eqb-true (length c.args.names.now) 0 (sym c.is_empty.ensures ∙ c.if-is_empty.true)) in
    let script = c.args.script.now in
    let before = g.D.Disk.told c.args.disk in
    let after = g.D.Disk.told c.run_named.result.disk in
    let unnamed = no_sessions script (subst (λ (names : List (List ℕ)). IsScriptFor names script) none c.requires.script) in
    subst (λ (names : List (List ℕ)). EndsRun g.W.StartWorld.limits c.run_named.result.ended before after names script) (sym none)
    (spared c.spare_names_tell_nothing.ensures g.W.StartWorld.limits before after c.empty.result script unnamed c.run_named.result.ended c.run_named.ensures.ended)

pub returns-then-is_empty-clause-untold : goal.returns-then-is_empty-clause-untold
returns-then-is_empty-clause-untold g c =
    let none : c.args.names.now ≡ [] = nil_from_length c.args.names.now (eqb-true (length c.args.names.now) 0 (sym c.is_empty.ensures ∙ c.if-is_empty.true)) in
    let script = c.args.script.now in
    let before = g.D.Disk.told c.args.disk in
    let after = g.D.Disk.told c.run_named.result.disk in
    let unnamed = no_sessions script (subst (λ (names : List (List ℕ)). IsScriptFor names script) none c.requires.script) in
    subst (λ (names : List (List ℕ)). LeavesUntold g.W.StartWorld.limits c.run_named.result.ended before after names script) (sym none)
    (spared_untold c.spare_names_tell_nothing.ensures g.W.StartWorld.limits before after c.empty.result script unnamed c.run_named.result.ended c.run_named.ensures.untold)
