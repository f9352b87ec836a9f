use Rattle.erm_summary.proofs.Tables.{in_tables}
use Rattle.erm_summary.proofs.laws.summaries_are_in_tables.Goals as goal

pub returns : goal.returns
returns c = in_tables
