use Rattle.std.proofs.Common.{refl}
use Rattle.erm_rule.specs.Views.{part_of}
use Rattle.erm_ends.proofs.Leaves.{decided_ends, did_skip, may_clear, may_leave, skip_claims, skip_excluded, skip_reads, skip_spare, took_skip}
use Rattle.erm_ends.proofs.skipping.skip_end.Goals as goal
use Rattle.erm_ends.proofs.Took.{skip_ends}

pub release_claims-requires-clause-may : goal.release_claims-requires-clause-may
release_claims-requires-clause-may g c = rw (c.as_slice.ensures.value, c.deref.ensures) (skip_claims c.args.pre.now (part_of c.args.p.now.me.0.view c.args.who) c.requires.kept c.requires.may)

pub clear_reads-requires-clause-known : goal.clear_reads-requires-clause-known
clear_reads-requires-clause-known g c = c.release_claims.ensures.released.come.known

pub clear_reads-requires-clause-may : goal.clear_reads-requires-clause-may
clear_reads-requires-clause-may g c =
    rw (c.as_slice-2.ensures.value, c.deref-2.ensures)
    (may_clear c.args.p.now.me.0.view c.args.who (decided_ends _ c.requires.may.decided) (skip_excluded (part_of c.args.p.now.me.0.view c.args.who) c.requires.may.decided c.requires.may.excluded) _ c.release_claims.ensures.released
    c.args.pre.now.reads.value.items (skip_reads c.args.pre.now (part_of c.args.p.now.me.0.view c.args.who) c.requires.kept))

pub leave-requires-clause-may : goal.leave-requires-clause-may
leave-requires-clause-may g c =
    may_leave c.args.p.now.me.0.view c.args.who (decided_ends _ c.requires.may.decided) (skip_excluded (part_of c.args.p.now.me.0.view c.args.who) c.requires.may.decided c.requires.may.excluded) _ c.release_claims.ensures.released
    _ c.clear_reads.ensures.cleared c.requires.may.decided

pub returns-clause-skipped : goal.returns-clause-skipped
returns-clause-skipped g c =
    did_skip c.args.p.now.me.0.view c.args.who (decided_ends _ c.requires.may.decided) (skip_excluded (part_of c.args.p.now.me.0.view c.args.who) c.requires.may.decided c.requires.may.excluded) _ c.release_claims.ensures.released
    _ c.clear_reads.ensures.cleared _ c.leave.ensures.left

pub returns-clause-spare : goal.returns-clause-spare
returns-clause-spare g c =
    skip_spare c.args.p.now.me.0.view c.args.who (decided_ends _ c.requires.may.decided) (skip_excluded (part_of c.args.p.now.me.0.view c.args.who) c.requires.may.decided c.requires.may.excluded) _ c.release_claims.ensures.released
    _ c.clear_reads.ensures.cleared _ c.leave.ensures.left _ c.release_claims.ensures.spare

pub returns-clause-took : goal.returns-clause-took
returns-clause-took g c =
    took_skip c.args.p.now.me.0.view c.args.who (decided_ends _ c.requires.may.decided) (skip_excluded (part_of c.args.p.now.me.0.view c.args.who) c.requires.may.decided c.requires.may.excluded) _ c.release_claims.ensures.released
    g.L.RowLaw.law c.args.p.now.me.0 c.release_claims.new.p.me.0 c.clear_reads.new.p.me.0 c.leave.new.p.me.0 refl c.release_claims.ensures.took c.clear_reads.ensures.took c.leave.ensures.took

pub returns-clause-ends : goal.returns-clause-ends
returns-clause-ends g c = skip_ends g.L.RowLaw.law c.args.who c.args.p.now.me.0 c.leave.new.p.me.0 (returns-clause-took g c)
