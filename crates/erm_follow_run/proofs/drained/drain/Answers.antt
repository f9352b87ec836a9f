use Rattle.std.proofs.Common.{List, sym, subst}
use Rattle.erm_model.specs.declared.history.Commit.{Commit}
use Rattle.erm_follow_run.specs.Following.{Steps}
use Rattle.erm_follow_run.proofs.Going.{below_steps, fewer_steps, leads_on, whole_steps}
use Rattle.erm_follow_run.proofs.Told.{drains_more, drains_starved}
use Rattle.erm_follow_run.proofs.drained.drain.Goals as goal

pub items-smaller : goal.items-smaller
items-smaller c =
    fewer_steps (λ log bytes part stands. (c.parts_are_announced.ensures log bytes part stands).1) c.items.stream c.step.new.stream c.items.follow c.step.new.follow c.in-Ok.lines.items c.in-Ok.ensures.goes

pub items-preserved : goal.items-preserved
items-preserved c =
    let steps : Steps c.items.stream c.items.follow c.deref.result.now c.step.new.stream c.step.new.follow = subst (λ (ls : List Commit). Steps c.items.stream c.items.follow ls c.step.new.stream c.step.new.follow) (sym c.deref.ensures.value) c.in-Ok.ensures.goes in
    drains_more c.args.stream.now c.items.stream c.step.new.stream c.args.follow.now c.items.follow c.step.new.follow c.items.text c.push_lines.new.text c.deref.result.now c.items.invariant
    (leads_on c.takes_go_on.ensures.first c.takes_go_on.ensures.next c.spelling_size.ensures.size c.items.stream c.step.new.stream c.items.follow c.step.new.follow c.deref.result.now steps)
    (below_steps c.spelling_size.ensures.size c.items.stream c.step.new.stream c.items.follow c.step.new.follow c.deref.result.now c.items.invariant.below steps)
    (whole_steps c.items.stream c.step.new.stream c.items.follow c.step.new.follow c.deref.result.now c.items.invariant.whole steps)
    c.in-Ok-push_lines.ensures.ok

pub returns-in-Err-push_lines : goal.returns-in-Err-push_lines
returns-in-Err-push_lines c =
    let steps : Steps c.items.stream c.items.follow c.deref.result.now c.step.new.stream c.step.new.follow = subst (λ (ls : List Commit). Steps c.items.stream c.items.follow ls c.step.new.stream c.step.new.follow) (sym c.deref.ensures.value) c.in-Ok.ensures.goes in
    drains_starved c.args.stream.now c.items.stream c.step.new.stream c.args.follow.now c.items.follow c.step.new.follow c.items.text c.push_lines.new.text c.deref.result.now c.items.invariant
    (leads_on c.takes_go_on.ensures.first c.takes_go_on.ensures.next c.spelling_size.ensures.size c.items.stream c.step.new.stream c.items.follow c.step.new.follow c.deref.result.now steps) c.in-Err-push_lines.ensures.front
