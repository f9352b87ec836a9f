use Rattle.erm_core.specs.Cores.{core_of}
use Rattle.erm_core_steps.proofs.Taken.{stepped_to}
use Rattle.erm_lists.proofs.lists.Lists.take.Goals as goal

pub returns-clause-sound : goal.returns-clause-sound
returns-clause-sound g c =
    let c0 = core_of c.args.self.now.state in
    let d = core_of c.step.new.self in
    c.events_keep_law.ensures c0 d c.args.seat c.args.kind c.requires.sound c.requires.keeps
    (stepped_to c0 d c.args.seat c.args.kind c.step.result c.step.ensures.step c.requires.taken).after

pub returns-clause-after : goal.returns-clause-after
returns-clause-after g c =
    (stepped_to (core_of c.args.self.now.state) (core_of c.step.new.self) c.args.seat c.args.kind c.step.result c.step.ensures.step c.requires.taken).after

pub returns-clause-answer : goal.returns-clause-answer
returns-clause-answer g c =
    (stepped_to (core_of c.args.self.now.state) (core_of c.step.new.self) c.args.seat c.args.kind c.step.result c.step.ensures.step c.requires.taken).answer
