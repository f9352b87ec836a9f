use Rattle.erm_core.specs.Cores.{core_of}
use Rattle.erm_core_steps.proofs.Taken.{keeps_free}
use Rattle.erm_lists.proofs.lists.Lists.go.Goals as goal

pub take-requires : goal.take-requires
take-requires g c = record {
  sound = c.requires.sound;
  room = c.rooms_serve.ensures.none c.args.self.now.state c.args.seat c.args.kind c.requires.free.ranges c.requires.free.none;
  keeps = keeps_free g.L.RowLaw.law (core_of c.args.self.now.state) c.args.seat c.args.kind c.requires.free.one;
  taken = c.requires.taken;
}
