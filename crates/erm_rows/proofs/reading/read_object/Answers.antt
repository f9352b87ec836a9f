use Rattle.std.proofs.Common.{ℕ, subst}
use Rattle.std.proofs.lemmas.Result.{err_from_is_err_and}
use Rattle.erm_entries.specs.Spelling.{word_of}
use Rattle.erm_entries.specs.Took.{TookReach}
use Rattle.erm_rows.proofs.Reached.{active_there, kept_there, kept_waiting, object_there, read_from, unread_there, walks_there}
use Rattle.erm_rows.proofs.reading.read_object.Goals as goal
use Rattle.erm_rows.proofs.Took.{wait_begins}

pub returns-in_err-entry-clause-kept : goal.returns-in_err-entry-clause-kept
returns-in_err-entry-clause-kept g c = kept_waiting c.args.p.now.me.0.view c.args.who c.args.oid c.requires.active c.args.txn.now _ _ c.requires.kept c.in_err-entry.ensures.waits

pub read_version-requires-clause-active : goal.read_version-requires-clause-active
read_version-requires-clause-active g c = active_there c.args.p.now.me.0.view c.args.who c.args.oid c.requires.active c.in_ok-entry.entry _ c.in_ok-entry.ensures.spelled c.in_ok-entry.ensures.reached

pub read_version-requires-clause-kept : goal.read_version-requires-clause-kept
read_version-requires-clause-kept g c = kept_there c.args.p.now.me.0.view c.args.who c.args.oid c.requires.active c.in_ok-entry.entry _ c.in_ok-entry.ensures.spelled c.in_ok-entry.ensures.reached c.args.txn.now c.requires.kept

pub read_version-requires-clause-walks : goal.read_version-requires-clause-walks
read_version-requires-clause-walks g c = walks_there c.args.p.now.me.0.view c.args.who c.args.oid c.requires.active c.in_ok-entry.entry _ c.in_ok-entry.ensures.spelled c.in_ok-entry.ensures.reached

pub read_version-requires-clause-object : goal.read_version-requires-clause-object
read_version-requires-clause-object g c = object_there c.args.p.now.me.0.view c.args.who c.args.oid c.requires.active c.in_ok-entry.entry _ c.in_ok-entry.ensures.spelled c.in_ok-entry.ensures.reached

pub read_version-requires-clause-unread : goal.read_version-requires-clause-unread
read_version-requires-clause-unread g c = unread_there c.args.p.now.me.0.view c.args.who c.args.oid c.requires.active c.in_ok-entry.entry _ c.in_ok-entry.ensures.spelled c.in_ok-entry.ensures.reached c.requires.unread

pub returns-clause-read : goal.returns-clause-read
returns-clause-read g c = read_from c.args.p.now.me.0.view c.args.who c.args.oid c.requires.active c.in_ok-entry.entry _ c.in_ok-entry.ensures.spelled c.in_ok-entry.ensures.reached c.read_version.result _ c.read_version.ensures.read c.read_version.ensures.unnoted

pub returns-in_err-entry-clause-took_wait : goal.returns-in_err-entry-clause-took_wait
returns-in_err-entry-clause-took_wait g c =
    let p = err_from_is_err_and c.from_residual.result c.from_residual.ensures.1 in
    rw (p.1, p.2) (wait_begins _ _ _ _ _ _ _ _ c.requires.kept.begin c.in_err-entry.ensures.took_wait)

pub returns-clause-took : goal.returns-clause-took
returns-clause-took g c = record {
  entry = word_of c.in_ok-entry.entry;
  reached = c.enter.new.p.me.0;
  reach = subst (λ (n : ℕ). TookReach g.L.RowLaw.law c.args.who c.args.oid n (word_of c.in_ok-entry.entry) c.args.p.now.me.0 c.enter.new.p.me.0) c.requires.kept.begin c.in_ok-entry.ensures.took;
  read = c.read_version.ensures.took;
}
