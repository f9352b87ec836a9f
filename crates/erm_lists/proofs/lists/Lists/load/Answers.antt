use Rattle.erm_core.specs.Cores.{core_of}
use Rattle.erm_core_steps.proofs.Loads.{load_free, load_leaves, loads}
use Rattle.erm_core_steps.proofs.Ways.{load_goes}
use Rattle.erm_lists.proofs.lists.Lists.load.Goals as goal

pub go-requires : goal.go-requires
go-requires g c = record { sound = c.requires.sound; free = load_free c.args.kind c.requires.loads; taken = c.requires.taken }

pub returns-clause-goes : goal.returns-clause-goes
returns-clause-goes g c =
    load_goes c.args.self.now.sessions c.args.seat (core_of c.args.self.now.state) (core_of c.go.new.self.state) c.args.kind c.requires.sound.sound c.requires.at
    c.requires.loads c.go.ensures.after

pub returns-clause-room : goal.returns-clause-room
returns-clause-room g c = λ n room.
    c.rooms_last.ensures.own c.args.self.now.state c.go.new.self.state c.args.seat c.args.kind n c.go.ensures.left (loads c.args.kind c.requires.loads).adds
    (load_leaves c.args.kind n c.requires.loads) room
