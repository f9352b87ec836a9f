use Rattle.std.proofs.Common.{◌≡◌, false, None}
use Rattle.std.specs.Prelude.{IfOk, Result, Ok, Err}
use Rattle.erm_model.specs.declared.row_stop.RowStop.{RowStop}
use Rattle.erm_rows.specs.Active.{IsActive, closed_window}
use Rattle.erm_rule.specs.Views.{part_of}
use Rattle.erm_session.specs.Session.{has_closed}
use Rattle.erm_session.proofs.Goes.{active_at, active_so, open_now, stage_on, starts_at}
use Rattle.erm_session.proofs.RowsClaimed.{goes_either}
use Rattle.erm_session.proofs.Sought.{not_held}
use Rattle.erm_session.proofs.writing.claim_first.Goals as goal
use Rattle.erm_rows.specs.declared.claiming.Claimed.{Claimed}

pub claim-requires-clause-unclaimed : goal.claim-requires-clause-unclaimed
claim-requires-clause-unclaimed g c = not_held (part_of c.args.p.now.me.0.view c.args.who) c.args.oid c.requires.unclaimed

pub returns-clause-stands : goal.returns-clause-stands
returns-clause-stands g c =
    let v = c.args.p.now.me.0.view in
    let x = part_of v c.args.who in
    let t = c.in-Active.txn in
    let goes =
    goes_either v c.args.who c.args.oid (active_at _ x c.requires.stands t c.in-Active.is) (starts_at _ x c.requires.stands t c.in-Active.is) c.claim.result _ c.claim.ensures.claimed
    c.claim.ensures.refused
    in
    stage_on t _ x _ (active_so _ x c.requires.stands t c.in-Active.is) goes c.claim.ensures.kept

pub returns-clause-window : goal.returns-clause-window
returns-clause-window g c =
    told c.claim.result c.claim.ensures.«open» c.claim.ensures.kept
  where
    told : (r : Result Claimed RowStop) → IfOk r (λ row. closed_window c.claim.new.txn ≡ None) → IsActive c.claim.new.txn (part_of c.claim.new.p.me.0.view c.args.who)
        → IfOk r (λ row. has_closed (part_of c.claim.new.p.me.0.view c.args.who).current ≡ false)
    told (Ok claimed) none is = open_now _ _ is none
    told (Err why) none is = tt
