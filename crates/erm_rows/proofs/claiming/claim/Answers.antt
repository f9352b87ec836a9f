use Rattle.erm_rows.proofs.Barred.{excludes, closed_in}
use Rattle.erm_rows.proofs.claiming.claim.Goals as goal
use Rattle.erm_rows.proofs.Took.{claim_still, no_claim_still}

pub returns-in-Some-clause-refused : goal.returns-in-Some-clause-refused
returns-in-Some-clause-refused g c =
    excludes c.args.p.now.me.0.view c.args.who c.args.oid c.requires.active _ _ c.in_ok-claimed.ensures.claimed _ c.in_ok-claimed.ensures.kept c.in-Some.succ c.in-Some.pred c.in-Some.ensures

pub returns-in-Some-clause-took_none : goal.returns-in-Some-clause-took_none
returns-in-Some-clause-took_none g c =
    (c.in_ok-claimed.claimed.cut, c.in_ok-claimed.ensures.took, closed_in c.args.p.now.me.0.view c.args.who c.args.oid c.requires.active _ _ c.in_ok-claimed.ensures.claimed _ c.in_ok-claimed.ensures.kept c.in-Some.succ c.in-Some.pred c.in-Some.ensures)

pub returns-in_err-claimed-clause-still : goal.returns-in_err-claimed-clause-still
returns-in_err-claimed-clause-still g c = no_claim_still g.L.RowLaw.law c.args.who c.args.oid _ c.args.p.now.me.0 c.claim_object.new.p.me.0 c.in_err-claimed.ensures.took_none

pub returns-in-Some-clause-still : goal.returns-in-Some-clause-still
returns-in-Some-clause-still g c = claim_still g.L.RowLaw.law c.args.who c.args.oid c.in_ok-claimed.claimed.cut c.args.p.now.me.0 c.claim_object.new.p.me.0 c.in_ok-claimed.ensures.took

pub returns-in-None-clause-still : goal.returns-in-None-clause-still
returns-in-None-clause-still g c = claim_still g.L.RowLaw.law c.args.who c.args.oid c.in_ok-claimed.claimed.cut c.args.p.now.me.0 c.claim_object.new.p.me.0 c.in_ok-claimed.ensures.took
