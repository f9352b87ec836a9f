use Rattle.std.proofs.Common.{◌≡◌, Some, sym}
use Rattle.erm_core.specs.Cores.{core_of}
use Rattle.erm_core_steps.specs.Reads.{closed_window}
use Rattle.erm_core_steps.proofs.Early.{shut_is}
use Rattle.erm_core_steps.proofs.Quiet.{active_seat}
use Rattle.erm_lists.proofs.lists.Lists.test_early.Goals as goal

pub closed_window-requires : goal.closed_window-requires
closed_window-requires g c =
    let at = active_seat c.args.self.now.sessions c.args.seat (core_of c.args.self.now.state) c.requires.stands.quiet c.requires.session c.requires.active in
    record { session = at.session }

pub returns-in-Some-clause-err : goal.returns-in-Some-clause-err
returns-in-Some-clause-err g c =
    let before = core_of c.args.self.now.state in
    let at = active_seat c.args.self.now.sessions c.args.seat before c.requires.stands.quiet c.requires.session c.requires.active in
    let window : closed_window (before.seats c.args.seat).current ≡ Some (c.in-Some.succ, c.in-Some.pred) = sym c.in-Some.ensures in
    (c.abort.ensures.aborted, shut_is c.args.self.now.sessions c.args.seat c.in-Some.succ c.in-Some.pred before c.requires.stands.sound.sound c.requires.stands.quiet at window)
