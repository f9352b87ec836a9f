use Rattle.std.specs.Int.{bit_at}
use Rattle.std.proofs.Common.{ℕ, ◌<◌, arith, sym, ap, ◌∙◌, subst, ◌≡◌}
use Rattle.erm_precommit.specs.Settle.{readers_task}
use Rattle.erm_precommit.proofs.Looks.{look_taken, look_bound, look_went, look_comes, look_stands, wait_went, wait_stands, wait_stops, least_other, least_next, least_set, least_low, least_fewer, least_among, may_readers}
use Rattle.erm_precommit.proofs.writes.look_at_least.Goals as goal
use Rattle.erm_precommit.proofs.Took.{stopped}
use Rattle.erm_precommit.specs.Took.{LooksAt}
use Rattle.erm_machine.specs.declared.task.Task.{Task}
use Rattle.erm_seats.proofs.Took.{look_loads}
use Rattle.erm_seats.specs.declared.answer.Look.TheVariants.{Clear, NotYet}

pub look-requires-clause-taken : goal.look-requires-clause-taken
look-requires-clause-taken g c = look_taken c.args.pre.now c.args.p.now.me.0.view c.args.who c.requires.stands

pub look-requires-clause-other : goal.look-requires-clause-other
look-requires-clause-other g c = (least_other c.args.pre.now c.args.p.now.me.0.view c.args.who c.requires.stands c.args.place c.args.bits c.requires.task).another

pub look-requires-clause-seat : goal.look-requires-clause-seat
look-requires-clause-seat g c = (least_other c.args.pre.now c.args.p.now.me.0.view c.args.who c.requires.stands c.args.place c.args.bits c.requires.task).has_words

pub look-requires-clause-bound : goal.look-requires-clause-bound
look-requires-clause-bound g c = look_bound c.args.pre.now c.args.p.now.me.0.view c.args.who c.requires.stands

pub without_bit-requires : goal.without_bit-requires
without_bit-requires g c = let low = least_low c.args.pre.now c.args.p.now.me.0.view c.args.who c.requires.stands c.args.place c.args.bits c.requires.task in omega (arith, low)

pub returns-in-Clear-clause-went : goal.returns-in-Clear-clause-went
returns-in-Clear-clause-went g c =
    look_went c.args.pre.now c.args.p.now.me.0.view c.args.who c.requires.stands _ _ c.in-Clear.ensures.looked _ (least_next c.args.pre.now c.args.p.now.me.0.view c.args.who c.requires.stands c.args.place c.args.bits c.requires.task)

pub returns-in-Clear-clause-stands : goal.returns-in-Clear-clause-stands
returns-in-Clear-clause-stands g c =
    look_stands c.args.pre.now c.args.p.now.me.0.view c.args.who c.requires.stands _ _ c.in-Clear.ensures.looked _ (least_next c.args.pre.now c.args.p.now.me.0.view c.args.who c.requires.stands c.args.place c.args.bits c.requires.task) (may_readers c.args.place _)

pub returns-in-Clear-clause-left : goal.returns-in-Clear-clause-left
returns-in-Clear-clause-left g c =
    look_comes c.args.pre.now c.args.p.now.me.0.view c.args.who c.requires.stands _ _ c.in-Clear.ensures.looked _ (least_next c.args.pre.now c.args.p.now.me.0.view c.args.who c.requires.stands c.args.place c.args.bits c.requires.task)
    ∙ ap (λ (n : ℕ). readers_task c.args.place n) (sym c.without_bit.ensures)

pub returns-in-Clear-clause-fewer : goal.returns-in-Clear-clause-fewer
returns-in-Clear-clause-fewer g c = subst (λ (n : ℕ). n < c.args.bits) (sym c.without_bit.ensures) (least_fewer c.args.pre.now c.args.p.now.me.0.view c.args.who c.requires.stands c.args.place c.args.bits c.requires.task)

pub returns-in-Clear-clause-among : goal.returns-in-Clear-clause-among
returns-in-Clear-clause-among g c q one = least_among c.args.pre.now c.args.p.now.me.0.view c.args.who c.requires.stands c.args.place c.args.bits c.requires.task q (ap (λ (n : ℕ). bit_at n q) (sym c.without_bit.ensures) ∙ one)

pub returns-in-Clear-clause-set : goal.returns-in-Clear-clause-set
returns-in-Clear-clause-set g c = least_set c.args.pre.now c.args.p.now.me.0.view c.args.who c.requires.stands c.args.place c.args.bits c.requires.task

pub returns-in-NotYet-clause-set : goal.returns-in-NotYet-clause-set
returns-in-NotYet-clause-set g c = least_set c.args.pre.now c.args.p.now.me.0.view c.args.who c.requires.stands c.args.place c.args.bits c.requires.task

pub returns-in-NotYet-clause-went : goal.returns-in-NotYet-clause-went
returns-in-NotYet-clause-went g c = wait_went c.args.pre.now c.args.p.now.me.0.view c.args.who c.requires.stands _ c.in-NotYet.seat c.in-NotYet.seen _ c.in-NotYet.ensures.looked

pub returns-in-NotYet-clause-stands : goal.returns-in-NotYet-clause-stands
returns-in-NotYet-clause-stands g c = wait_stands c.args.pre.now c.args.p.now.me.0.view c.args.who c.requires.stands _ c.in-NotYet.seat c.in-NotYet.seen _ c.in-NotYet.ensures.looked

pub returns-in-NotYet-clause-stops : goal.returns-in-NotYet-clause-stops
returns-in-NotYet-clause-stops g c =
    wait_stops c.args.pre.now c.args.p.now.me.0.view c.args.who c.requires.stands _ c.in-NotYet.seat c.in-NotYet.seen _ c.in-NotYet.ensures.looked
    (least_other c.args.pre.now c.args.p.now.me.0.view c.args.who c.requires.stands c.args.place c.args.bits c.requires.task).another

pub returns-in-Clear-clause-loads : goal.returns-in-Clear-clause-loads
returns-in-Clear-clause-loads g c = look_loads g.L.RowLaw.law c.args.who _ c.args.pre.now.stamp Clear c.args.p.now.me.0 c.look.new.p.me.0 c.in-Clear.ensures.took

pub returns-in-NotYet-clause-loads : goal.returns-in-NotYet-clause-loads
returns-in-NotYet-clause-loads g c = look_loads g.L.RowLaw.law c.args.who _ c.args.pre.now.stamp (NotYet c.in-NotYet.seat c.in-NotYet.seen) c.args.p.now.me.0 c.look.new.p.me.0 c.in-NotYet.ensures.took

pub returns-in-NotYet-clause-took_wait : goal.returns-in-NotYet-clause-took_wait
returns-in-NotYet-clause-took_wait g c =
    let is = c.in-NotYet.ensures.took.0 in
    stopped g.L.RowLaw.law c.args.pre.now c.args.who c.in-NotYet.seat c.in-NotYet.seen c.args.p.now.me.0 c.look.new.p.me.0 c.requires.stands
    (subst (λ (t : Task). LooksAt t c.in-NotYet.seat) (sym c.requires.task)
    (is, subst (λ (q : ℕ). bit_at c.args.bits q ≡ 1) (sym is) (least_set c.args.pre.now c.args.p.now.me.0.view c.args.who c.requires.stands c.args.place c.args.bits c.requires.task))) c.in-NotYet.ensures.took.1 c.in-NotYet.ensures.took.2
