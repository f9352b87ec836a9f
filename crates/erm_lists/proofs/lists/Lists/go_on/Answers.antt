use Rattle.std.proofs.Common.{◌≡◌, ap, ◌∙◌, sym, subst, refl, Some}
use Rattle.erm_core.specs.Cores.{core_of}
use Rattle.erm_core_steps.specs.Reads.{GoesOn, read_step}
use Rattle.erm_core_steps.proofs.Ways.{goes_both, read_goes, read_nears}
use Rattle.erm_lists.proofs.lists.Lists.go_on.Goals as goal

pub load-requires-clause-loads : goal.load-requires-clause-loads
load-requires-clause-loads g c =
    let now = core_of c.loop-kind.self.state in
    let next : read_step (now.seats c.args.seat).task ≡ Some c.in-Some.kind = ap read_step (sym c.task.ensures) ∙ sym c.in-Some.ensures in
    (read_goes now c.args.seat c.in-Some.kind c.loop-kind.invariant.sound.sound c.loop-kind.invariant.goes.at (now.seats c.args.seat).task refl next).0

pub load-requires-clause-taken : goal.load-requires-clause-taken
load-requires-clause-taken g c =
    let now = core_of c.loop-kind.self.state in
    let next : read_step (now.seats c.args.seat).task ≡ Some c.in-Some.kind = ap read_step (sym c.task.ensures) ∙ sym c.in-Some.ensures in
    (read_goes now c.args.seat c.in-Some.kind c.loop-kind.invariant.sound.sound c.loop-kind.invariant.goes.at (now.seats c.args.seat).task refl next).1

pub loop-kind-smaller : goal.loop-kind-smaller
loop-kind-smaller g c =
    let now = core_of c.loop-kind.self.state in
    let next : read_step (now.seats c.args.seat).task ≡ Some c.in-Some.kind = ap read_step (sym c.task.ensures) ∙ sym c.in-Some.ensures in
    (read_nears now (core_of c.load.new.self.state) c.args.seat c.in-Some.kind c.loop-kind.invariant.goes.at c.load.ensures.after (now.seats c.args.seat).task refl next).falls

pub loop-kind-preserved : goal.loop-kind-preserved
loop-kind-preserved g c =
    let now = core_of c.loop-kind.self.state in
    let after = core_of c.load.new.self.state in
    let inv = c.loop-kind.invariant in
    let next : read_step (now.seats c.args.seat).task ≡ Some c.in-Some.kind = ap read_step (sym c.task.ensures) ∙ sym c.in-Some.ensures in
    let near = read_nears now after c.args.seat c.in-Some.kind inv.goes.at c.load.ensures.after (now.seats c.args.seat).task refl next in
    record {
      sound = c.load.ensures.sound;
      sessions = c.load.ensures.sessions ∙ inv.sessions;
      goes =
          goes_both c.args.self.now.sessions c.args.seat (core_of c.args.self.now.state) now after inv.goes
          (subst (λ n. GoesOn n c.args.seat now after) inv.sessions c.load.ensures.goes);
      room = λ n room. c.load.ensures.room n (inv.room n room);
      stage = near.stage ∙ inv.stage;
    }
