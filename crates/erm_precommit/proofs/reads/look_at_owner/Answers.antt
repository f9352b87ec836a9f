use Rattle.std.proofs.Common.{refl, subst, sym}
use Rattle.erm_precommit.proofs.Looks.{look_taken, look_bound, look_went, look_comes, look_stands, wait_went, wait_stands, wait_stops, owner_other, owner_next}
use Rattle.erm_precommit.proofs.reads.look_at_owner.Goals as goal
use Rattle.erm_precommit.proofs.Took.{stopped}
use Rattle.erm_seats.proofs.Took.{look_loads}
use Rattle.erm_seats.specs.declared.answer.Look.TheVariants.{Clear, NotYet}
use Rattle.erm_machine.specs.declared.task.Task.{Task}
use Rattle.erm_precommit.specs.Took.{LooksAt}

pub look-requires-clause-taken : goal.look-requires-clause-taken
look-requires-clause-taken g c = look_taken c.args.pre.now c.args.p.now.me.0.view c.args.who c.requires.stands

pub look-requires-clause-other : goal.look-requires-clause-other
look-requires-clause-other g c = (owner_other c.args.pre.now c.args.p.now.me.0.view c.args.who c.requires.stands c.args.place c.args.owner c.requires.task).another

pub look-requires-clause-seat : goal.look-requires-clause-seat
look-requires-clause-seat g c = (owner_other c.args.pre.now c.args.p.now.me.0.view c.args.who c.requires.stands c.args.place c.args.owner c.requires.task).has_words

pub look-requires-clause-bound : goal.look-requires-clause-bound
look-requires-clause-bound g c = look_bound c.args.pre.now c.args.p.now.me.0.view c.args.who c.requires.stands

pub returns-in-Clear-clause-went : goal.returns-in-Clear-clause-went
returns-in-Clear-clause-went g c =
    look_went c.args.pre.now c.args.p.now.me.0.view c.args.who c.requires.stands c.args.owner _ c.in-Clear.ensures.looked _ (owner_next c.args.pre.now c.args.p.now.me.0.view c.args.who c.requires.stands c.args.place c.args.owner c.requires.task)

pub returns-in-Clear-clause-stands : goal.returns-in-Clear-clause-stands
returns-in-Clear-clause-stands g c =
    look_stands c.args.pre.now c.args.p.now.me.0.view c.args.who c.requires.stands c.args.owner _ c.in-Clear.ensures.looked _ (owner_next c.args.pre.now c.args.p.now.me.0.view c.args.who c.requires.stands c.args.place c.args.owner c.requires.task) refl

pub returns-in-Clear-clause-clear : goal.returns-in-Clear-clause-clear
returns-in-Clear-clause-clear g c =
    look_comes c.args.pre.now c.args.p.now.me.0.view c.args.who c.requires.stands c.args.owner _ c.in-Clear.ensures.looked _ (owner_next c.args.pre.now c.args.p.now.me.0.view c.args.who c.requires.stands c.args.place c.args.owner c.requires.task)

pub returns-in-NotYet-clause-went : goal.returns-in-NotYet-clause-went
returns-in-NotYet-clause-went g c = wait_went c.args.pre.now c.args.p.now.me.0.view c.args.who c.requires.stands c.args.owner c.in-NotYet.seat c.in-NotYet.seen _ c.in-NotYet.ensures.looked

pub returns-in-NotYet-clause-stands : goal.returns-in-NotYet-clause-stands
returns-in-NotYet-clause-stands g c = wait_stands c.args.pre.now c.args.p.now.me.0.view c.args.who c.requires.stands c.args.owner c.in-NotYet.seat c.in-NotYet.seen _ c.in-NotYet.ensures.looked

pub returns-in-NotYet-clause-stops : goal.returns-in-NotYet-clause-stops
returns-in-NotYet-clause-stops g c =
    wait_stops c.args.pre.now c.args.p.now.me.0.view c.args.who c.requires.stands c.args.owner c.in-NotYet.seat c.in-NotYet.seen _ c.in-NotYet.ensures.looked
    (owner_other c.args.pre.now c.args.p.now.me.0.view c.args.who c.requires.stands c.args.place c.args.owner c.requires.task).another

pub returns-in-Clear-clause-loads : goal.returns-in-Clear-clause-loads
returns-in-Clear-clause-loads g c = look_loads g.L.RowLaw.law c.args.who c.args.owner c.args.pre.now.stamp Clear c.args.p.now.me.0 c.look.new.p.me.0 c.in-Clear.ensures.took

pub returns-in-NotYet-clause-loads : goal.returns-in-NotYet-clause-loads
returns-in-NotYet-clause-loads g c = look_loads g.L.RowLaw.law c.args.who c.args.owner c.args.pre.now.stamp (NotYet c.in-NotYet.seat c.in-NotYet.seen) c.args.p.now.me.0 c.look.new.p.me.0 c.in-NotYet.ensures.took

pub returns-in-NotYet-clause-took_wait : goal.returns-in-NotYet-clause-took_wait
returns-in-NotYet-clause-took_wait g c =
    stopped g.L.RowLaw.law c.args.pre.now c.args.who c.in-NotYet.seat c.in-NotYet.seen c.args.p.now.me.0 c.look.new.p.me.0 c.requires.stands
    (subst (λ (t : Task). LooksAt t c.in-NotYet.seat) (sym c.requires.task) c.in-NotYet.ensures.took.0) c.in-NotYet.ensures.took.1 c.in-NotYet.ensures.took.2
