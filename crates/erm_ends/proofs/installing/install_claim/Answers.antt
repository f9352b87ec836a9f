use Rattle.std.proofs.Common.{refl}
use Rattle.erm_ends.proofs.Installs.{did_install, head_may, install_next, install_object, mark_cell, mark_committed, mark_decided, mark_marking, mark_stamp, mark_succ}
use Rattle.erm_ends.proofs.installing.install_claim.Goals as goal
use Rattle.erm_ends.proofs.Installed.{was_installed}

pub store_head-requires-clause-may : goal.store_head-requires-clause-may
store_head-requires-clause-may g c = head_may c.args.p.now.me.0.view c.args.who c.args.claim c.args.stamp c.args.succ c.requires.known c.requires.next _ refl

pub mark_overwritten-requires-clause-known : goal.mark_overwritten-requires-clause-known
mark_overwritten-requires-clause-known g c = c.store_head.ensures.stored.known

pub mark_overwritten-requires-clause-decided : goal.mark_overwritten-requires-clause-decided
mark_overwritten-requires-clause-decided g c = mark_decided c.args.p.now.me.0.view c.args.who c.args.claim c.args.stamp c.args.succ c.requires.known c.requires.next _ c.store_head.ensures.stored

pub mark_overwritten-requires-clause-committed : goal.mark_overwritten-requires-clause-committed
mark_overwritten-requires-clause-committed g c = mark_committed c.args.p.now.me.0.view c.args.who c.args.claim c.args.stamp c.args.succ c.requires.known c.requires.next _ c.store_head.ensures.stored

pub mark_overwritten-requires-clause-marking : goal.mark_overwritten-requires-clause-marking
mark_overwritten-requires-clause-marking g c = mark_marking c.args.p.now.me.0.view c.args.who c.args.claim c.args.stamp c.args.succ c.requires.known c.requires.next _ c.store_head.ensures.stored

pub mark_overwritten-requires-clause-cell : goal.mark_overwritten-requires-clause-cell
mark_overwritten-requires-clause-cell g c = mark_cell c.args.p.now.me.0.view c.args.who c.args.claim c.args.stamp c.args.succ c.requires.known c.requires.next _ c.store_head.ensures.stored

pub mark_overwritten-requires-clause-stamp : goal.mark_overwritten-requires-clause-stamp
mark_overwritten-requires-clause-stamp g c = mark_stamp c.args.p.now.me.0.view c.args.who c.args.claim c.args.stamp c.args.succ c.requires.known c.requires.next _ c.store_head.ensures.stored

pub mark_overwritten-requires-clause-succ : goal.mark_overwritten-requires-clause-succ
mark_overwritten-requires-clause-succ g c = mark_succ c.args.p.now.me.0.view c.args.who c.args.claim c.args.stamp c.args.succ c.requires.known c.requires.next _ c.store_head.ensures.stored

pub install-requires-clause-object : goal.install-requires-clause-object
install-requires-clause-object g c =
    install_object c.args.p.now.me.0.view c.args.who c.args.claim c.args.stamp c.args.succ c.requires.known c.requires.next _ c.store_head.ensures.stored _ c.mark_overwritten.ensures.marked

pub install-requires-clause-next : goal.install-requires-clause-next
install-requires-clause-next g c =
    install_next c.args.p.now.me.0.view c.args.who c.args.claim c.args.stamp c.args.succ c.requires.known c.requires.next _ c.store_head.ensures.stored _ c.mark_overwritten.ensures.marked

pub returns-clause-installed : goal.returns-clause-installed
returns-clause-installed g c =
    did_install c.args.p.now.me.0.view c.args.who c.args.claim c.args.stamp c.args.succ c.requires.known c.requires.next _ c.store_head.ensures.stored _ c.mark_overwritten.ensures.marked _ c.install.ensures.installed

pub returns-clause-was : goal.returns-clause-was
returns-clause-was g c =
    was_installed g.L.RowLaw.law c.args.who c.args.p.now.me.0 c.store_head.new.p.me.0 c.mark_overwritten.new.p.me.0 c.install.new.p.me.0 c.args.claim c.args.stamp c.args.succ c.requires.known c.requires.next c.store_head.ensures.stored
    c.mark_overwritten.ensures.marked c.install.ensures.installed c.install.ensures.booked.0 c.install.ensures.booked.1 c.store_head.ensures.stores c.mark_overwritten.ensures.took
