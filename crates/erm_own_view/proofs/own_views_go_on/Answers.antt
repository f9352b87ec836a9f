use Rattle.erm_own_view.proofs.Along.{begins_of, seen_of, took_start, was_before, was_itself}
use Rattle.erm_own_view.proofs.Own.{again_took, ends_before}
use Rattle.erm_own_view.proofs.own_views_go_on.Goals as goal

pub returns-clause-onward : goal.returns-clause-onward
returns-clause-onward g c seat tail flushed then_tail then_flushed b e f goes start more_tail more_flushed later end =
    ends_before g.L.RowLaw.law seat tail flushed then_tail then_flushed b e f goes start more_tail more_flushed later end

pub returns-clause-seen : goal.returns-clause-seen
returns-clause-seen g c seat tail flushed b e may goes core is =
    seen_of (λ first second q k sound event. c.numbers_rise.ensures.event first second q k sound event) tail flushed b core may.seen (was_before b e core goes (was_itself e core is))

pub returns-clause-again : goal.returns-clause-again
returns-clause-again g c seat tail flushed then_tail then_flushed steps b e may took between seen =
    again_took g.L.RowLaw.law seat tail flushed b may
    (λ z core is. begins_of (λ first second q k sound begins event. c.begins_stay_at_ends.ensures first second q k sound begins event) z core is)
    then_tail then_flushed steps e took (took_start g.L.RowLaw.law seat steps b e took) between seen

pub returns-clause-start : goal.returns-clause-start
returns-clause-start g c seat steps b e took = took_start g.L.RowLaw.law seat steps b e took
