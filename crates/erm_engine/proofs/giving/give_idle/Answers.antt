use Rattle.std.proofs.Common.{◌≡◌, ℕ, ◌+◌, List, sym, subst, arith}
use Rattle.atomic_table.specs.declared.shared.Seat.{Seat}
use Rattle.erm_model.specs.declared.limits.TheConstants.{SESSIONS}
use Rattle.erm_rule.specs.declared.view.Book.{Book}
use Rattle.erm_engine.specs.Opened.{AreIdle, HasGiven}
use Rattle.erm_engine.proofs.Handed.{idle_more, idle_none}
use Rattle.erm_engine.proofs.giving.give_idle.Goals as goal

pub loop-q-init : goal.loop-q-init
loop-q-init g c = (
  c.requires.given,
  idle_none c.args.t.now.words.shared.table_id c.args.opening.now.run c.args.opening.now.tail c.args.count c.in_ok-passes.passes.items c.in_ok-passes.ensures.items,
  (let room = c.in_ok-passes.ensures.capacity in let few = c.requires.few in omega (arith, room, few)),
)

pub loop-q-preserved : goal.loop-q-preserved
loop-q-preserved g c =
    let o = c.args.opening.now in
    let table = c.args.t.now.words.shared.table_id in (
      c.give-pass.ensures.rest,
      subst (λ (l : List (Seat (Unit {0}) Book)). AreIdle table o.run o.tail c.args.count (c.loop-q.q + 1) l) (sym c.push_reserved.ensures.items)
          (idle_more table o.run o.tail c.args.count c.loop-q.q c.loop-q.passes.items c.give-pass.result c.loop-q.invariant.1 c.give-pass.ensures.given.idle),
      (let room = c.loop-q.invariant.2 in let same = c.push_reserved.ensures.capacity in omega (arith, room, same)),
    )

pub returns-clause-rest : goal.returns-clause-rest
returns-clause-rest g c =
    let all : c.loop-q.q ≡ SESSIONS = (let past = c.loop-q-test.false in let within = c.loop-q.auto.q-end in omega (arith, past, within)) in
    subst (λ (n : ℕ). HasGiven g.L.RowLaw.law c.args.t.now.words.shared.table_id c.args.opening.now n c.loop-q.p) all c.loop-q.invariant.0
