use Rattle.std.proofs.Common.{◌≡◌, ◌+◌, Some, refl, sym, subst, ◌∙◌, arith}
use Rattle.std.specs.Prelude.{slice_index_or}
use Rattle.erm_machine.specs.declared.event.Kind.TheVariants as kind
use Rattle.erm_machine.specs.Step.{after_event}
use Rattle.erm_core.specs.Cores.{core_of}
use Rattle.erm_sound.specs.Kept.{Keeps}
use Rattle.erm_core_steps.specs.Steps.{IsTaken}
use Rattle.erm_core_steps.proofs.Deciding.{Filling, decide_keeps, decide_taken, decided, fill_more, fill_taken, filling_none}
use Rattle.erm_lists.proofs.lists.Lists.store_words.Goals as goal

pub loop-k-init : goal.loop-k-init
loop-k-init g c =
    (c.requires.sound, filling_none c.args.self.now.sessions c.args.seat c.args.behind.now (core_of c.args.self.now.state) c.requires.decides c.requires.sound.sound, refl)

pub go-requires-clause-taken : goal.go-requires-clause-taken
go-requires-clause-taken g c =
    let before = core_of c.args.self.now.state in
    let now = core_of c.loop-k.self.state in
    let behind = c.args.behind.now in
    let k = c.loop-k.k in
    let inv = c.loop-k.invariant in
    let less = c.loop-k-test.true in
    subst (λ n. IsTaken now c.args.seat (kind.StoreRing (n + 1 + k) (slice_index_or behind k 0))) (sym c.requires.stamp)
    (fill_taken c.args.self.now.sessions c.args.seat behind before c.requires.decides now k inv.0.sound inv.1 (omega (arith, less)) c.requires.spelled.size)

pub loop-k-preserved : goal.loop-k-preserved
loop-k-preserved g c =
    let before = core_of c.args.self.now.state in
    let now = core_of c.loop-k.self.state in
    let after = core_of c.go.new.self.state in
    let behind = c.args.behind.now in
    let k = c.loop-k.k in
    let inv = c.loop-k.invariant in
    let less = c.loop-k-test.true in (
      c.go.ensures.sound,
      fill_more c.args.self.now.sessions c.args.seat behind before c.requires.decides now k inv.0.sound inv.1 (omega (arith, less)) c.requires.spelled.size after
          (subst (λ n. after_event now c.args.seat (kind.StoreRing (n + 1 + k) (slice_index_or behind k 0)) ≡ Some after) c.requires.stamp c.go.ensures.after),
      c.go.ensures.sessions ∙ inv.2,
    )

pub take-requires-clause-keeps : goal.take-requires-clause-keeps
take-requires-clause-keeps g c =
    let before = core_of c.args.self.now.state in
    let now = core_of c.loop-k.self.state in
    let behind = c.args.behind.now in
    let inv = c.loop-k.invariant in
    let past = c.loop-k-test.false in
    let most = c.loop-k.auto.k-end in
    let at = subst (λ n. Filling c.args.self.now.sessions c.args.seat behind before now n) (omega (arith, past, most)) inv.1 in
    subst (λ n. Keeps g.L.RowLaw.law now c.args.seat (kind.Decide n c.args.header)) (sym c.requires.stamp)
    (decide_keeps c.args.self.now.sessions c.args.seat behind before c.requires.decides now c.args.header inv.0.sound c.requires.sound.sound c.requires.session at
    c.requires.spelled g.L.RowLaw.law)

pub take-requires-clause-taken : goal.take-requires-clause-taken
take-requires-clause-taken g c =
    let before = core_of c.args.self.now.state in
    let now = core_of c.loop-k.self.state in
    let behind = c.args.behind.now in
    let inv = c.loop-k.invariant in
    let past = c.loop-k-test.false in
    let most = c.loop-k.auto.k-end in
    let at = subst (λ n. Filling c.args.self.now.sessions c.args.seat behind before now n) (omega (arith, past, most)) inv.1 in
    subst (λ n. IsTaken now c.args.seat (kind.Decide n c.args.header)) (sym c.requires.stamp)
    (decide_taken c.args.self.now.sessions c.args.seat behind before c.requires.decides now c.args.header inv.0.sound c.requires.sound.sound c.requires.session at
    c.requires.spelled)

pub returns-clause-decided : goal.returns-clause-decided
returns-clause-decided g c =
    let before = core_of c.args.self.now.state in
    let now = core_of c.loop-k.self.state in
    let after = core_of c.take.new.self.state in
    let behind = c.args.behind.now in
    let inv = c.loop-k.invariant in
    let past = c.loop-k-test.false in
    let most = c.loop-k.auto.k-end in
    let at = subst (λ n. Filling c.args.self.now.sessions c.args.seat behind before now n) (omega (arith, past, most)) inv.1 in
    decided c.args.self.now.sessions c.args.seat behind before c.requires.decides now c.args.header inv.0.sound c.requires.sound.sound c.requires.session at
    c.requires.spelled after
    (subst (λ n. after_event now c.args.seat (kind.Decide n c.args.header) ≡ Some after) c.requires.stamp c.take.ensures.after)
