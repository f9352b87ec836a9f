use Rattle.std.proofs.lemmas.Result.{err_from_is_err_and}
use Rattle.std.proofs.Common.{length, ap, ◌∙◌}
use Rattle.arrayvec.specs.ArrayVec.{ArrayVec}
use Rattle.erm_entries.specs.declared.entries.Entry.{Entry}
use Rattle.erm_precommit.specs.declared.pre.KeptClaim.{KeptClaim}
use Rattle.erm_rows.proofs.Taken.{active_found, head_found, kept_stopped, misses, number_found, room_found, room_left, stops, takes, unclaimed_found}
use Rattle.erm_rows.proofs.taking.take_entry.Goals as goal
use Rattle.erm_entries.specs.Spelling.{word_of}
use Rattle.erm_rows.proofs.Took.{missed_stop, not_free_stop}

pub returns-in_err-seen-clause-refused : goal.returns-in_err-seen-clause-refused
returns-in_err-seen-clause-refused g c =
    let p = err_from_is_err_and c.from_residual.result c.from_residual.ensures.1 in
    rw (p.1, p.2) (stops c.args.p.now.me.0.view c.args.who c.args.oid c.requires.active c.requires.object c.requires.unclaimed _ _ c.in_err-seen.ensures.refused)

pub returns-in_err-seen-clause-kept : goal.returns-in_err-seen-clause-kept
returns-in_err-seen-clause-kept g c =
    let p = err_from_is_err_and c.from_residual.result c.from_residual.ensures.1 in
    rw p.1 (kept_stopped c.args.p.now.me.0.view c.args.who c.args.oid c.requires.active c.requires.object c.requires.unclaimed c.args.txn.now c.requires.kept _ _
    (stops c.args.p.now.me.0.view c.args.who c.args.oid c.requires.active c.requires.object c.requires.unclaimed _ _ c.in_err-seen.ensures.refused))

pub exchange-requires-clause-active : goal.exchange-requires-clause-active
exchange-requires-clause-active g c = active_found c.args.p.now.me.0.view c.args.who c.args.oid c.requires.active c.requires.object c.requires.unclaimed _ _ c.in_ok-seen.ensures.found

pub exchange-requires-clause-number : goal.exchange-requires-clause-number
exchange-requires-clause-number g c = number_found c.args.p.now.me.0.view c.args.who c.args.oid c.requires.active c.requires.object c.requires.unclaimed _ _ c.in_ok-seen.ensures.found c.args.txn.now.number c.requires.kept.number

pub exchange-requires-clause-room : goal.exchange-requires-clause-room
exchange-requires-clause-room g c =
    room_found c.args.p.now.me.0.view c.args.who c.args.oid c.requires.active c.requires.object c.requires.unclaimed _ _ c.in_ok-seen.ensures.found
    (room_left c.len.result _ c.len.ensures.fits c.if-len-eq-WRITE_LIMIT.false (c.len.ensures.value ∙ ap (λ (l : ArrayVec KeptClaim). length l.items) c.deref.ensures ∙ c.requires.kept.claim_count))

pub exchange-requires-clause-head : goal.exchange-requires-clause-head
exchange-requires-clause-head g c = head_found c.args.p.now.me.0.view c.args.who c.args.oid c.requires.active c.requires.object c.requires.unclaimed _ _ c.in_ok-seen.ensures.found

pub exchange-requires-clause-unclaimed : goal.exchange-requires-clause-unclaimed
exchange-requires-clause-unclaimed g c = unclaimed_found c.args.p.now.me.0.view c.args.who c.args.oid c.requires.active c.requires.object c.requires.unclaimed _ _ c.in_ok-seen.ensures.found

pub returns-clause-taken : goal.returns-clause-taken
returns-clause-taken g c = takes c.args.p.now.me.0.view c.args.who c.args.oid c.requires.active c.requires.object c.requires.unclaimed _ _ c.in_ok-seen.ensures.found c.in_ok-seen.seen.head _ (ap (λ (e : Entry). e.head) c.in_ok-seen.ensures.spelled) c.in_ok-exchange.ensures.taken

pub returns-in_err-exchange-clause-refused : goal.returns-in_err-exchange-clause-refused
returns-in_err-exchange-clause-refused g c =
    let p = err_from_is_err_and c.from_residual-in_err-exchange.result c.from_residual-in_err-exchange.ensures.1 in
    rw (p.1, p.2) (misses c.args.p.now.me.0.view c.args.who c.args.oid c.requires.active c.requires.object c.requires.unclaimed _ _ c.in_ok-seen.ensures.found _ _ c.in_err-exchange.ensures.lost)

pub returns-in_err-exchange-clause-kept : goal.returns-in_err-exchange-clause-kept
returns-in_err-exchange-clause-kept g c =
    let p = err_from_is_err_and c.from_residual-in_err-exchange.result c.from_residual-in_err-exchange.ensures.1 in
    rw p.1 (kept_stopped c.args.p.now.me.0.view c.args.who c.args.oid c.requires.active c.requires.object c.requires.unclaimed c.args.txn.now c.requires.kept _ _
    (misses c.args.p.now.me.0.view c.args.who c.args.oid c.requires.active c.requires.object c.requires.unclaimed _ _ c.in_ok-seen.ensures.found _ _ c.in_err-exchange.ensures.lost))

pub exchange-requires-clause-plain : goal.exchange-requires-clause-plain
exchange-requires-clause-plain g c = c.in_ok-seen.ensures.found.walk.plain

pub returns-in_err-seen-clause-took_none : goal.returns-in_err-seen-clause-took_none
returns-in_err-seen-clause-took_none g c =
    let p = err_from_is_err_and c.from_residual.result c.from_residual.ensures.1 in
    rw (p.1, p.2) (not_free_stop g.L.RowLaw.law c.args.who c.args.oid _ c.args.p.now.me.0 c.find_free.new.p.me.0
    (room_left c.len.result _ c.len.ensures.fits c.if-len-eq-WRITE_LIMIT.false (c.len.ensures.value ∙ ap (λ (l : ArrayVec KeptClaim). length l.items) c.deref.ensures ∙ c.requires.kept.claim_count)) c.in_err-seen.ensures.took_none)

pub returns-clause-took : goal.returns-clause-took
returns-clause-took g c = record {
  entry = word_of c.in_ok-seen.seen;
  number = c.args.txn.now.number;
  head_is = ap (λ (e : Entry). e.head) c.in_ok-seen.ensures.spelled;
  at = c.find_free.new.p.me.0;
  free = c.in_ok-seen.ensures.took;
  step = c.in_ok-exchange.ensures.took;
}

pub returns-in_err-exchange-clause-took_none : goal.returns-in_err-exchange-clause-took_none
returns-in_err-exchange-clause-took_none g c =
    let p = err_from_is_err_and c.from_residual-in_err-exchange.result c.from_residual-in_err-exchange.ensures.1 in
    rw (p.1, p.2) (missed_stop g.L.RowLaw.law c.args.who c.args.oid _ c.args.p.now.me.0 c.exchange.new.p.me.0
    (room_left c.len.result _ c.len.ensures.fits c.if-len-eq-WRITE_LIMIT.false (c.len.ensures.value ∙ ap (λ (l : ArrayVec KeptClaim). length l.items) c.deref.ensures ∙ c.requires.kept.claim_count)) (record {
      entry = word_of c.in_ok-seen.seen;
      number = c.args.txn.now.number;
      at = c.find_free.new.p.me.0;
      free = c.in_ok-seen.ensures.took;
      other = c.in_err-exchange.ensures.took_other;
    }))
