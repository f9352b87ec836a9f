use Rattle.erm_closed_log.proofs.Apart.{stamp_within, stamps_apart}
use Rattle.erm_closed_log.proofs.ranges_of_closed_tables_stand_apart.Goals as goal

pub returns : goal.returns
returns g c sessions core under quiet = record {
  apart = stamps_apart g.L.RowLaw.law sessions core under quiet;
  within = stamp_within g.L.RowLaw.law sessions core under quiet;
}
