use Rattle.erm_machine.specs.declared.event.Kind.TheVariants as kind
use Rattle.erm_core.specs.Cores.{core_of}
use Rattle.erm_core.specs.declared.need.Need.TheVariants as need
use Rattle.std.proofs.Common.{refl}
use Rattle.erm_core_steps.proofs.Registered.{found_of, register_shows, register_taken}
use Rattle.erm_lists.proofs.lists.Lists.register.Goals as goal

pub take-requires-clause-room : goal.take-requires-clause-room
take-requires-clause-room g c =
    c.rooms_serve.ensures.call c.args.self.now.state c.args.seat need.Read (kind.SetReader c.version-version.result) c.requires.room refl

pub take-requires-clause-taken : goal.take-requires-clause-taken
take-requires-clause-taken g c =
    let before = core_of c.args.self.now.state in
    let found = found_of c.args.oid (before.seats c.args.seat).task c.requires.stage c.requires.done in
    register_taken before c.args.seat c.args.oid c.requires.sound.sound c.requires.at found c.requires.few c.requires.unread c.version-version.result c.version-version.ensures

pub returns-clause-registered : goal.returns-clause-registered
returns-clause-registered g c =
    let before = core_of c.args.self.now.state in
    let found = found_of c.args.oid (before.seats c.args.seat).task c.requires.stage c.requires.done in
    register_shows before c.args.seat c.args.oid c.requires.sound.sound c.requires.at found c.requires.few c.requires.unread c.args.self.now.sessions
    (core_of c.take.new.self.state) c.version-version.result c.newest_row.result c.version-version.ensures c.take.ensures.after c.newest_row.ensures
