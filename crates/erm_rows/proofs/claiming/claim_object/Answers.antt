use Rattle.std.proofs.lemmas.Result.{err_from_is_err_and}
use Rattle.std.proofs.Common.{◌≡◌}
use Rattle.erm_rule.proofs.Courses.{seen_after}
use Rattle.erm_rows.proofs.Whole.{active_taken, active_tidied, base_tidied, did_claim, did_lack, draws_tidied, head_taken, kept_claimed, kept_lack, oid_tidied, spare_taken, tells_nothing, untaken}
use Rattle.erm_rows.proofs.Taken.{spare_stopped}
use Rattle.erm_rows.proofs.claiming.claim_object.Goals as goal
use Rattle.erm_rows.proofs.Took.{no_entry_stop, tidied_goes}

pub returns-in_err-head-clause-refused : goal.returns-in_err-head-clause-refused
returns-in_err-head-clause-refused g c =
    let p = err_from_is_err_and c.from_residual.result c.from_residual.ensures.1 in
    rw (p.1, p.2) (untaken c.args.p.now.me.0.view c.args.who c.args.oid _ _ c.in_err-head.ensures.refused)

pub returns-in_err-head-clause-spare : goal.returns-in_err-head-clause-spare
returns-in_err-head-clause-spare g c = spare_stopped c.args.p.now.me.0.view c.args.who c.args.oid c.requires.active c.requires.object c.requires.unclaimed c.args.spare.now c.requires.spare _ _ c.in_err-head.ensures.refused

pub cut_chain-cut-requires-clause-active : goal.cut_chain-cut-requires-clause-active
cut_chain-cut-requires-clause-active g c = active_taken c.args.p.now.me.0.view c.args.who c.args.oid c.requires.active c.in_ok-head.head _ c.in_ok-head.ensures.taken

pub cut_chain-cut-requires-clause-claimed : goal.cut_chain-cut-requires-clause-claimed
cut_chain-cut-requires-clause-claimed g c = head_taken c.args.p.now.me.0.view c.args.who c.args.oid c.requires.active c.in_ok-head.head _ c.in_ok-head.ensures.taken

pub cut_chain-cut-requires-clause-spare : goal.cut_chain-cut-requires-clause-spare
cut_chain-cut-requires-clause-spare g c = spare_taken c.args.p.now.me.0.view c.args.who c.args.oid c.requires.active c.in_ok-head.head _ c.in_ok-head.ensures.taken c.args.spare.now c.requires.spare

pub fill_claim-requires-clause-known : goal.fill_claim-requires-clause-known
fill_claim-requires-clause-known g c = c.cut_chain-cut.ensures.cut.known

pub fill_claim-requires-clause-active : goal.fill_claim-requires-clause-active
fill_claim-requires-clause-active g c = active_tidied c.args.p.now.me.0.view c.args.who c.args.oid c.requires.active c.in_ok-head.head _ c.in_ok-head.ensures.taken c.cut_chain-cut.result _ c.cut_chain-cut.ensures.cut

pub fill_claim-requires-clause-draws : goal.fill_claim-requires-clause-draws
fill_claim-requires-clause-draws g c = draws_tidied c.args.p.now.me.0.view c.args.who c.args.oid c.requires.active c.in_ok-head.head _ c.in_ok-head.ensures.taken c.cut_chain-cut.result _ c.cut_chain-cut.ensures.cut

pub fill_claim-requires-clause-claimed : goal.fill_claim-requires-clause-claimed
fill_claim-requires-clause-claimed g c = oid_tidied c.args.p.now.me.0.view c.args.who c.args.oid c.requires.active c.in_ok-head.head _ c.in_ok-head.ensures.taken c.cut_chain-cut.result _ c.cut_chain-cut.ensures.cut

pub fill_claim-requires-clause-base : goal.fill_claim-requires-clause-base
fill_claim-requires-clause-base g c = base_tidied c.args.p.now.me.0.view c.args.who c.args.oid c.requires.active c.in_ok-head.head _ c.in_ok-head.ensures.taken c.cut_chain-cut.result _ c.cut_chain-cut.ensures.cut

pub returns-in-Err-clause-kept : goal.returns-in-Err-clause-kept
returns-in-Err-clause-kept g c = kept_lack c.args.p.now.me.0.view c.args.who c.args.oid c.requires.active c.in_ok-head.head _ c.in_ok-head.ensures.taken c.cut_chain-cut.result _ c.cut_chain-cut.ensures.cut c.in-Err.drawn _ c.in-Err.ensures.refused c.args.txn.now c.requires.kept

pub returns-in-Err-clause-refused : goal.returns-in-Err-clause-refused
returns-in-Err-clause-refused g c = did_lack c.args.p.now.me.0.view c.args.who c.args.oid c.requires.active c.in_ok-head.head _ c.in_ok-head.ensures.taken c.cut_chain-cut.result _ c.cut_chain-cut.ensures.cut c.in-Err.drawn _ c.in-Err.ensures.refused

pub returns-clause-kept : goal.returns-clause-kept
returns-clause-kept g c = kept_claimed c.args.p.now.me.0.view c.args.who c.args.oid c.requires.active c.in_ok-head.head _ c.in_ok-head.ensures.taken c.cut_chain-cut.result _ c.cut_chain-cut.ensures.cut c.in-Ok.filled _ c.in-Ok.ensures.filled c.args.txn.now _ c.requires.kept c.add_claim.ensures

pub returns-clause-claimed : goal.returns-clause-claimed
returns-clause-claimed g c = did_claim c.args.p.now.me.0.view c.args.who c.args.oid c.requires.active c.in_ok-head.head _ c.in_ok-head.ensures.taken c.cut_chain-cut.result _ c.cut_chain-cut.ensures.cut c.in-Ok.filled _ c.in-Ok.ensures.filled

pub returns-in_err-head-clause-counted : goal.returns-in_err-head-clause-counted
returns-in_err-head-clause-counted g c =
    let p = err_from_is_err_and c.from_residual.result c.from_residual.ensures.1 in
    rw (p.1, p.2) (tells_nothing c.args.p.now.me.0.view c.args.who c.args.oid _ c.args.p.now.me.0 _ _ c.in_err-head.ensures.refused)

pub returns-in-Err-clause-counted : goal.returns-in-Err-clause-counted
returns-in-Err-clause-counted g c =
    seen_after c.args.p.now.me.0 c.cut_chain-cut.new.p.me.0 (λ s. s.shared.cells_drawn ≡ c.in-Err.drawn) c.fill_claim.new.p.me.0
    (tidied_goes g.L.RowLaw.law c.args.who c.args.oid c.in_ok-head.head c.cut_chain-cut.result c.args.p.now.me.0 c.take_entry.new.p.me.0 c.cut_chain-cut.new.p.me.0 c.in_ok-head.ensures.took c.cut_chain-cut.ensures.took) c.in-Err.ensures.counted

pub returns-in_err-head-clause-took_none : goal.returns-in_err-head-clause-took_none
returns-in_err-head-clause-took_none g c =
    let p = err_from_is_err_and c.from_residual.result c.from_residual.ensures.1 in
    rw (p.1, p.2) (no_entry_stop g.L.RowLaw.law c.args.who c.args.oid _ c.args.p.now.me.0 c.take_entry.new.p.me.0 c.args.p.now.me.0.view _ c.in_err-head.ensures.refused c.in_err-head.ensures.took_none)

pub returns-in-Err-clause-took_none : goal.returns-in-Err-clause-took_none
returns-in-Err-clause-took_none g c = record {
  head = c.in_ok-head.head;
  count = c.cut_chain-cut.result;
  taken = c.take_entry.new.p.me.0;
  entry = c.in_ok-head.ensures.took;
  tidied = c.cut_chain-cut.new.p.me.0;
  cut = c.cut_chain-cut.ensures.took;
  none = c.in-Err.ensures.took_none;
}

pub returns-clause-took : goal.returns-clause-took
returns-clause-took g c = record {
  head = c.in_ok-head.head;
  taken = c.take_entry.new.p.me.0;
  entry = c.in_ok-head.ensures.took;
  tidied = c.cut_chain-cut.new.p.me.0;
  cut = c.cut_chain-cut.ensures.took;
  own = c.in-Ok.filled.own;
  readers = c.in-Ok.filled.readers;
  row = c.in-Ok.filled.row;
  fill = c.in-Ok.ensures.took;
}
