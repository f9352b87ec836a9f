use Rattle.std.proofs.Common.{◌≡◌, ap, ◌∙◌, sym, refl, Some}
use Rattle.erm_core.specs.Cores.{core_of}
use Rattle.erm_core_steps.proofs.Loads.{load_free}
use Rattle.erm_lists.specs.Snapshots.{walk_step}
use Rattle.erm_lists.proofs.SafeLooks.{looks_both, looks_none}
use Rattle.erm_lists.proofs.SafeReads.{walk_goes, walk_nears, walk_reads}
use Rattle.erm_lists.proofs.lists.Lists.walk_safe.Goals as goal

pub loop-kind-init : goal.loop-kind-init
loop-kind-init g c = record {
  sound = c.requires.sound;
  sessions = refl;
  looks = looks_none c.args.seat (core_of c.args.self.now.state);
  reader = c.requires.reader;
  object = refl;
}

pub go-requires-clause-free : goal.go-requires-clause-free
go-requires-clause-free g c =
    let now = core_of c.loop-kind.self.state in
    let inv = c.loop-kind.invariant in
    let next : walk_step (now.seats c.args.seat).task ≡ Some c.in-Some.kind = ap walk_step (sym c.task.ensures) ∙ sym c.in-Some.ensures in
    load_free c.in-Some.kind (walk_goes now c.args.seat c.in-Some.kind inv.sound.sound inv.reader (now.seats c.args.seat).task refl next).0

pub go-requires-clause-taken : goal.go-requires-clause-taken
go-requires-clause-taken g c =
    let now = core_of c.loop-kind.self.state in
    let inv = c.loop-kind.invariant in
    let next : walk_step (now.seats c.args.seat).task ≡ Some c.in-Some.kind = ap walk_step (sym c.task.ensures) ∙ sym c.in-Some.ensures in
    (walk_goes now c.args.seat c.in-Some.kind inv.sound.sound inv.reader (now.seats c.args.seat).task refl next).1

pub loop-kind-smaller : goal.loop-kind-smaller
loop-kind-smaller g c =
    let now = core_of c.loop-kind.self.state in
    let inv = c.loop-kind.invariant in
    let next : walk_step (now.seats c.args.seat).task ≡ Some c.in-Some.kind = ap walk_step (sym c.task.ensures) ∙ sym c.in-Some.ensures in
    (walk_nears now (core_of c.go.new.self.state) c.args.seat c.in-Some.kind inv.reader.active c.go.ensures.after (now.seats c.args.seat).task refl next).nearer.falls

pub loop-kind-preserved : goal.loop-kind-preserved
loop-kind-preserved g c =
    let now = core_of c.loop-kind.self.state in
    let after = core_of c.go.new.self.state in
    let inv = c.loop-kind.invariant in
    let next : walk_step (now.seats c.args.seat).task ≡ Some c.in-Some.kind = ap walk_step (sym c.task.ensures) ∙ sym c.in-Some.ensures in
    let walked = walk_nears now after c.args.seat c.in-Some.kind inv.reader.active c.go.ensures.after (now.seats c.args.seat).task refl next in
    record {
      sound = c.go.ensures.sound;
      sessions = c.go.ensures.sessions ∙ inv.sessions;
      looks = looks_both c.args.seat (core_of c.args.self.now.state) now after inv.looks walked.looks;
      reader = walk_reads now after c.args.seat (now.seats c.args.seat).task inv.reader walked;
      object = walked.nearer.object ∙ inv.object;
    }
