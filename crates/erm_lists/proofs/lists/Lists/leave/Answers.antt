use Rattle.std.proofs.Common.{◌≡◌, Some, sym, subst, ◌∙◌}
use Rattle.erm_machine.specs.Step.{after_event}
use Rattle.erm_core.specs.Cores.{core_of}
use Rattle.erm_core_steps.specs.Steps.{IsFree, IsTaken}
use Rattle.erm_core_steps.proofs.Leaving.{end_less, end_since, end_taken, ends_free, last_left, last_rests, last_taken, of_end}
use Rattle.erm_lists.proofs.lists.Lists.leave.Goals as goal

pub go-requires-clause-free : goal.go-requires-clause-free
go-requires-clause-free g c =
    let inv = c.loop-kind.invariant in
    let before = core_of c.loop-kind.self.state in
    let next = c.in-Some.ensures in
    subst IsFree (sym next.1) (ends_free _ (of_end before c.args.seat inv.0.sound c.requires.session next.0)).free

pub go-requires-clause-taken : goal.go-requires-clause-taken
go-requires-clause-taken g c =
    let inv = c.loop-kind.invariant in
    let before = core_of c.loop-kind.self.state in
    let next = c.in-Some.ensures in
    subst (IsTaken before c.args.seat) (sym next.1) (end_taken before c.args.seat inv.0.sound c.requires.session next.0)

pub loop-kind-smaller : goal.loop-kind-smaller
loop-kind-smaller g c =
    let inv = c.loop-kind.invariant in
    let before = core_of c.loop-kind.self.state in
    let after = core_of c.go.new.self.state in
    let next = c.in-Some.ensures in
    end_less before c.args.seat inv.0.sound c.requires.session next.0 after
    (subst (λ k. after_event before c.args.seat k ≡ Some after) next.1 c.go.ensures.after)

pub loop-kind-preserved : goal.loop-kind-preserved
loop-kind-preserved g c =
    let inv = c.loop-kind.invariant in
    let before = core_of c.loop-kind.self.state in
    let after = core_of c.go.new.self.state in
    let next = c.in-Some.ensures in (
      c.go.ensures.sound,
      end_since before c.args.seat inv.0.sound c.requires.session next.0 c.args.self.now.sessions (core_of c.args.self.now.state) after inv.1
          (subst (λ k. after_event before c.args.seat k ≡ Some after) next.1 c.go.ensures.after),
      c.go.ensures.sessions ∙ inv.2,
    )

pub go-requires-2-clause-taken : goal.go-requires-2-clause-taken
go-requires-2-clause-taken g c = last_taken (core_of c.loop-kind.self.state) c.args.seat c.loop-kind.invariant.0.sound c.in_default.ensures

pub returns-clause-rests : goal.returns-clause-rests
returns-clause-rests g c =
    last_rests (core_of c.loop-kind.self.state) c.args.seat c.loop-kind.invariant.0.sound c.in_default.ensures (core_of c.go-2.new.self.state) c.go-2.ensures.after

pub returns-clause-left : goal.returns-clause-left
returns-clause-left g c =
    let inv = c.loop-kind.invariant in
    last_left (core_of c.loop-kind.self.state) c.args.seat inv.0.sound c.in_default.ensures (core_of c.go-2.new.self.state) c.go-2.ensures.after c.args.self.now.sessions
    (core_of c.args.self.now.state) inv.1
