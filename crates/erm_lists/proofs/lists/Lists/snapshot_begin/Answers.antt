use Rattle.std.proofs.Common.{sym, ◌∙◌}
use Rattle.erm_core.specs.Cores.{core_of}
use Rattle.erm_lists.proofs.SafeLooks.{snapshot_begins, snapshot_seat}
use Rattle.erm_lists.proofs.lists.Lists.snapshot_begin.Goals as goal

pub begin_stamp-requires : goal.begin_stamp-requires
begin_stamp-requires g c =
    record { session = (snapshot_seat c.args.self.now.sessions c.args.seat (core_of c.args.self.now.state) c.requires.stands.quiet c.requires.session c.requires.snapshot).session }

pub returns : goal.returns
returns g c =
    let x = (core_of c.args.self.now.state).seats c.args.seat in
    let at = snapshot_seat c.args.self.now.sessions c.args.seat (core_of c.args.self.now.state) c.requires.stands.quiet c.requires.session c.requires.snapshot in
    c.begin_stamp.ensures ∙ sym (snapshot_begins x.place x.task x.current at.active)
