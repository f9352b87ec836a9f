use Rattle.std.proofs.Common.{refl}
use Rattle.erm_ends.proofs.Leaves.{abort_held, abort_ready, abort_spare, active_ends, active_excluded, did_abort, may_clear, may_release, session_not_flusher, session_seat, took_abort}
use Rattle.erm_ends.proofs.aborting.abort.Goals as goal
use Rattle.erm_ends.proofs.Took.{abort_ends}

pub release_claims-requires-clause-may : goal.release_claims-requires-clause-may
release_claims-requires-clause-may g c = may_release c.args.claims.now c.args.reads.now _ c.requires.may

pub clear_reads-requires-clause-known : goal.clear_reads-requires-clause-known
clear_reads-requires-clause-known g c = c.release_claims.ensures.released.come.known

pub clear_reads-requires-clause-may : goal.clear_reads-requires-clause-may
clear_reads-requires-clause-may g c =
    may_clear c.args.p.now.me.0.view c.args.who (active_ends _ c.requires.may.active).0 (active_excluded c.args.p.now.me.0.view c.args.who c.requires.known c.requires.may.active) _ c.release_claims.ensures.released
    c.args.reads.now c.requires.may.reads_kept

pub store_begin-requires-clause-held : goal.store_begin-requires-clause-held
store_begin-requires-clause-held g c =
    abort_held c.args.p.now.me.0.view c.args.who (active_ends _ c.requires.may.active).0 (active_excluded c.args.p.now.me.0.view c.args.who c.requires.known c.requires.may.active) _ c.release_claims.ensures.released _
    c.clear_reads.ensures.cleared

pub store_begin-requires-clause-seat : goal.store_begin-requires-clause-seat
store_begin-requires-clause-seat g c = session_seat c.args.who c.requires.session

pub store_begin-requires-clause-ready : goal.store_begin-requires-clause-ready
store_begin-requires-clause-ready g c =
    abort_ready c.args.p.now.me.0.view c.args.who (active_ends _ c.requires.may.active).0 (active_excluded c.args.p.now.me.0.view c.args.who c.requires.known c.requires.may.active) _ c.release_claims.ensures.released _
    c.clear_reads.ensures.cleared c.requires.may.active (session_not_flusher c.args.who c.requires.session)

pub returns-clause-aborted : goal.returns-clause-aborted
returns-clause-aborted g c =
    did_abort c.args.p.now.me.0.view c.args.who (active_ends _ c.requires.may.active).0 (active_excluded c.args.p.now.me.0.view c.args.who c.requires.known c.requires.may.active) _ c.release_claims.ensures.released _
    c.clear_reads.ensures.cleared c.requires.may.active (session_not_flusher c.args.who c.requires.session) c.store_begin.ensures.told.0 _ c.store_begin.ensures.told.1.told

pub returns-clause-spare : goal.returns-clause-spare
returns-clause-spare g c =
    abort_spare c.args.p.now.me.0.view c.args.who (active_ends _ c.requires.may.active).0 (active_excluded c.args.p.now.me.0.view c.args.who c.requires.known c.requires.may.active) _ c.release_claims.ensures.released _
    c.clear_reads.ensures.cleared c.requires.may.active (session_not_flusher c.args.who c.requires.session) c.store_begin.ensures.told.0 _ c.store_begin.ensures.told.1.told _ c.release_claims.ensures.spare

pub returns-clause-took : goal.returns-clause-took
returns-clause-took g c =
    took_abort c.args.p.now.me.0.view c.args.who (active_ends _ c.requires.may.active).0 (active_excluded c.args.p.now.me.0.view c.args.who c.requires.known c.requires.may.active) _ c.release_claims.ensures.released
    g.L.RowLaw.law c.args.p.now.me.0 c.release_claims.new.p.me.0 c.clear_reads.new.p.me.0 c.store_begin.new.p.me.0 refl c.release_claims.ensures.took c.clear_reads.ensures.took c.store_begin.ensures.booked.0 c.store_begin.ensures.booked.1

pub returns-clause-ends : goal.returns-clause-ends
returns-clause-ends g c = abort_ends g.L.RowLaw.law c.args.who c.args.p.now.me.0 c.store_begin.new.p.me.0 (returns-clause-took g c)
