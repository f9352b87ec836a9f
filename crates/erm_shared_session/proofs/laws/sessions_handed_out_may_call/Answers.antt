use Rattle.std.proofs.Common.{arith}
use Rattle.erm_model.specs.declared.limits.TheConstants.{TABLE_CELLS}
use Rattle.erm_rule.specs.Rule.{first_rows}
use Rattle.erm_shared_session.proofs.Handing.{goes_on, may_call, none_yet}
use Rattle.erm_shared_session.proofs.laws.sessions_handed_out_may_call.Goals as goal

pub returns-clause-first : goal.returns-clause-first
returns-clause-first g c o none some low first wide meets unreached =
    none_yet g.L.RowLaw.law o none
    (c.openings_are_lawful.ensures o.sessions (first_rows o) o.tail o.run o.first TABLE_CELLS
    (c.openings_are_sound.ensures o.sessions (first_rows o) o.tail o.run o.first TABLE_CELLS (omega (arith, none)) some low first (omega arith) (omega arith) wide) meets unreached)

pub returns-clause-more : goal.returns-clause-more
returns-clause-more g c o given b none behind low has = (
  goes_on g.L.RowLaw.law o given b none low has (λ first last seat k under keeps e. c.events_keep_law.ensures first last seat k under keeps e)
      (λ first last seat k sound e. c.numbers_rise.ensures.event first last seat k sound e),
  may_call g.L.RowLaw.law o given b none low has (λ first last seat k under keeps e. c.events_keep_law.ensures first last seat k under keeps e)
      (λ first last seat k sound e. c.numbers_rise.ensures.event first last seat k sound e) behind,
)
