use Rattle.erm_node.proofs.TableValues.{value_at-map_of_rows, value_at-map_of_rows_none}
use Rattle.erm_node.proofs.laws.map_has_values_of_records.Goals as goal

pub returns-clause-value : goal.returns-clause-value
returns-clause-value c = value_at-map_of_rows

pub returns-clause-none : goal.returns-clause-none
returns-clause-none c = value_at-map_of_rows_none
