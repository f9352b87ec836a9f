use Rattle.std.proofs.Common.{refl}
use Rattle.erm_core.specs.Cores.{core_of}
use Rattle.erm_core.specs.declared.need.Need.TheVariants as need
use Rattle.erm_machine.specs.declared.event.Kind.TheVariants as kind
use Rattle.erm_core_steps.proofs.Exchanges.{exchange_shows, exchange_taken}
use Rattle.erm_lists.proofs.lists.Lists.exchange.Goals as goal

pub take-requires-clause-taken : goal.take-requires-clause-taken
take-requires-clause-taken g c =
    exchange_taken (core_of c.args.self.now.state) c.args.seat c.args.oid c.args.entry c.current_number-number.result c.requires.sound.sound c.requires.at c.requires.free c.requires.few
    c.current_number-number.ensures

pub returns-clause-exchanged : goal.returns-clause-exchanged
returns-clause-exchanged g c =
    exchange_shows (core_of c.args.self.now.state) c.args.seat c.args.oid c.args.entry c.current_number-number.result c.requires.sound.sound c.requires.at c.requires.free c.requires.few
    c.current_number-number.ensures c.args.self.now.sessions (core_of c.take.new.self.state) c.take.ensures.after

pub returns-clause-room : goal.returns-clause-room
returns-clause-room g c =
    c.rooms_last.ensures.claim c.args.self.now.state c.take.new.self.state c.args.seat c.args.oid c.args.entry c.current_number-number.result c.take.ensures.left c.requires.room

pub take-requires-clause-room : goal.take-requires-clause-room
take-requires-clause-room g c =
    c.rooms_serve.ensures.call c.args.self.now.state c.args.seat (need.Claim c.args.oid) (kind.Claim c.args.oid c.args.entry c.current_number-number.result) c.requires.room refl
