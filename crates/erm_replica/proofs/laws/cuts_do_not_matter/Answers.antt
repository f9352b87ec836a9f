use Rattle.erm_replica.proofs.Cuts.{feeds_drain, one_reading}
use Rattle.erm_replica.proofs.laws.cuts_do_not_matter.Goals as goal

pub returns : goal.returns
returns c = λ s t u pieces parts others none feeds drains.
    let all = feeds_drain c.fronts_stay.ensures.part (λ log bytes part stands. (c.parts_are_announced.ensures log bytes part stands).1) s t pieces parts none feeds in
    one_reading c.fronts_are_one.ensures.part _ t u parts others all.reads all.last drains.reads drains.last
