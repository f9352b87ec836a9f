use Rattle.erm_bad_reports.proofs.OfGoodSaves.{claim_stays_at_once, claim_stays_is_good, gone_back_at_once, gone_back_is_good, new_key_undone_at_once, new_key_undone_is_good}
use Rattle.erm_bad_reports.proofs.laws.savepoints_may_be_good.Goals as goal

pub returns-clause-back : goal.returns-clause-back
returns-clause-back c = gone_back_is_good

pub returns-clause-claims : goal.returns-clause-claims
returns-clause-claims c = claim_stays_is_good

pub returns-clause-undone : goal.returns-clause-undone
returns-clause-undone c = new_key_undone_is_good

pub returns-clause-back_at_once : goal.returns-clause-back_at_once
returns-clause-back_at_once c = gone_back_at_once

pub returns-clause-claims_at_once : goal.returns-clause-claims_at_once
returns-clause-claims_at_once c = claim_stays_at_once

pub returns-clause-undone_at_once : goal.returns-clause-undone_at_once
returns-clause-undone_at_once c = new_key_undone_at_once
