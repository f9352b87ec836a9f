use Rattle.std.proofs.Common.{refl}
use Rattle.erm_rule.specs.Views.{part_of}
use Rattle.erm_ends.proofs.Commits.{did_commit, may_clear_committed, may_go_back, may_install, may_leave_committed, may_raise, took_commit}
use Rattle.erm_ends.proofs.committing.commit_end.Goals as goal
use Rattle.erm_ends.proofs.Took.{commit_ends}

pub raise_reads-requires-clause-may : goal.raise_reads-requires-clause-may
raise_reads-requires-clause-may g c = rw (c.as_slice.ensures.value, c.deref.ensures) (may_raise c.args.pre.now (part_of c.args.p.now.me.0.view c.args.who) c.requires.kept c.requires.may)

pub install_claims-requires-clause-known : goal.install_claims-requires-clause-known
install_claims-requires-clause-known g c = c.raise_reads.ensures.raised.known

pub install_claims-requires-clause-may : goal.install_claims-requires-clause-may
install_claims-requires-clause-may g c = rw (c.as_slice-2.ensures.value, c.deref-2.ensures) (may_install c.args.p.now.me.0.view c.args.who c.args.pre.now c.requires.kept c.requires.may _ c.raise_reads.ensures.raised)

pub go_back-requires-clause-known : goal.go_back-requires-clause-known
go_back-requires-clause-known g c = c.install_claims.ensures.installed.known

pub go_back-requires-clause-may : goal.go_back-requires-clause-may
go_back-requires-clause-may g c =
    may_go_back c.args.p.now.me.0.view c.args.who c.args.pre.now c.requires.kept c.requires.may _ c.raise_reads.ensures.raised _ c.install_claims.ensures.installed

pub clear_reads-requires-clause-known : goal.clear_reads-requires-clause-known
clear_reads-requires-clause-known g c = c.go_back.ensures.back.known

pub clear_reads-requires-clause-may : goal.clear_reads-requires-clause-may
clear_reads-requires-clause-may g c =
    rw (c.as_slice-3.ensures.value, c.deref-3.ensures) (may_clear_committed c.args.p.now.me.0.view c.args.who c.args.pre.now c.requires.kept c.requires.may _ c.raise_reads.ensures.raised _ c.install_claims.ensures.installed _ c.go_back.ensures.back)

pub leave-requires-clause-may : goal.leave-requires-clause-may
leave-requires-clause-may g c =
    may_leave_committed c.args.p.now.me.0.view c.args.who c.args.pre.now c.requires.kept c.requires.may _ c.raise_reads.ensures.raised _ c.install_claims.ensures.installed _ c.go_back.ensures.back _ c.clear_reads.ensures.cleared

pub returns-clause-committed : goal.returns-clause-committed
returns-clause-committed g c =
    did_commit c.args.p.now.me.0.view c.args.who c.args.pre.now c.requires.kept c.requires.may _ c.raise_reads.ensures.raised _ c.install_claims.ensures.installed _ c.go_back.ensures.back _ c.clear_reads.ensures.cleared _ c.leave.ensures.left

pub returns-clause-took : goal.returns-clause-took
returns-clause-took g c =
    took_commit c.args.p.now.me.0.view c.args.who c.args.pre.now c.requires.kept c.requires.may _ c.raise_reads.ensures.raised _ c.install_claims.ensures.installed _ c.go_back.ensures.back
    g.L.RowLaw.law c.args.p.now.me.0 c.raise_reads.new.p.me.0 c.install_claims.new.p.me.0 c.go_back.new.p.me.0 c.clear_reads.new.p.me.0 c.leave.new.p.me.0 refl c.raise_reads.ensures.took c.install_claims.ensures.took c.go_back.ensures.took c.clear_reads.ensures.took c.leave.ensures.took

pub returns-clause-ends : goal.returns-clause-ends
returns-clause-ends g c = commit_ends g.L.RowLaw.law c.args.who c.args.p.now.me.0 c.leave.new.p.me.0 (returns-clause-took g c)
