use Rattle.std.proofs.Common.{◌∙◌, refl}
use Rattle.erm_core.specs.Cores.{core_of}
use Rattle.erm_core_steps.proofs.Exchanges.{arrives_left, arrives_starts, uncleared}
use Rattle.erm_core_steps.proofs.Owners.{owner_other}
use Rattle.erm_core_steps.proofs.Quiet.{active_seat, at_work}
use Rattle.erm_core_steps.proofs.Ways.{entry_arrives, entry_taken, goes_none}
use Rattle.erm_lists.proofs.lists.Lists.leave_cleared.Goals as goal

pub task-requires : goal.task-requires
task-requires g c =
    let at = active_seat c.args.self.now.sessions c.args.seat (core_of c.args.self.now.state) c.requires.stands.quiet c.requires.session c.requires.active in
    record { session = at.session }

pub load-requires-clause-at : goal.load-requires-clause-at
load-requires-clause-at g c =
    let at = active_seat c.args.self.now.sessions c.args.seat (core_of c.args.self.now.state) c.requires.stands.quiet c.requires.session c.requires.active in
    at_work at

pub load-requires-clause-taken : goal.load-requires-clause-taken
load-requires-clause-taken g c =
    let at = active_seat c.args.self.now.sessions c.args.seat (core_of c.args.self.now.state) c.requires.stands.quiet c.requires.session c.requires.active in
    entry_taken (core_of c.args.self.now.state) c.args.seat c.args.oid (at_work at) at.starts c.requires.object

pub returns-in-Cleared-clause-starts : goal.returns-in-Cleared-clause-starts
returns-in-Cleared-clause-starts g c =
    let before = core_of c.args.self.now.state in
    let at = active_seat c.args.self.now.sessions c.args.seat before c.requires.stands.quiet c.requires.session c.requires.active in
    let other = owner_other c.args.self.now.sessions c.args.seat c.args.oid before c.requires.stands.sound.sound at c.requires.session.0 c.requires.object c.requires.unclaimed in
    arrives_starts c.args.oid (before.shared.objects c.args.oid).entry _
    (entry_arrives before (core_of c.load.new.self.state) c.args.seat c.args.oid (at_work at) at.starts other c.load.ensures.after)

pub returns-in-Cleared-clause-left : goal.returns-in-Cleared-clause-left
returns-in-Cleared-clause-left g c =
    let before = core_of c.args.self.now.state in
    let at = active_seat c.args.self.now.sessions c.args.seat before c.requires.stands.quiet c.requires.session c.requires.active in
    let other = owner_other c.args.self.now.sessions c.args.seat c.args.oid before c.requires.stands.sound.sound at c.requires.session.0 c.requires.object c.requires.unclaimed in
    arrives_left c.args.oid (before.shared.objects c.args.oid).entry _
    (entry_arrives before (core_of c.load.new.self.state) c.args.seat c.args.oid (at_work at) at.starts other c.load.ensures.after)

pub returns-in_default : goal.returns-in_default
returns-in_default g c =
    let before = core_of c.args.self.now.state in
    let at = active_seat c.args.self.now.sessions c.args.seat before c.requires.stands.quiet c.requires.session c.requires.active in
    record {
      sound = c.requires.stands.sound;
      sessions = refl;
      goes = goes_none c.args.self.now.sessions c.args.seat before (at_work at);
      room = λ n room. room;
      starts = at.starts;
      left = uncleared (before.seats c.args.seat).task (λ oid is. c.in_default.not-Cleared oid (c.task.ensures ∙ is));
    }
