use Rattle.std.proofs.Common.{◌≡◌}
use Rattle.std.specs.FinMap.{insert, remove}
use Rattle.erm_model.specs.Database.{at}
use Rattle.erm_record.specs.Record.{absent_row, value_row}
use Rattle.erm_node.specs.TreeMap.{map_of_rows}
use Rattle.erm_tree.specs.Change.{IsPut, IsDel}
use Rattle.erm_tree.proofs.Tables.{calls_change_one}
use Rattle.erm_tree.proofs.laws.calls_change_one_table.Goals as goal

pub returns-clause-put : goal.returns-clause-put
returns-clause-put g c law table key value below fits =
    calls_change_one g.T.RowRead.face law IsPut c.tables_stand_apart.ensures.apart.0 table key (value_row value) (λ old new. map_of_rows new ≡ insert (map_of_rows old) (at table key) value) below fits

pub returns-clause-del : goal.returns-clause-del
returns-clause-del g c law table key below fits =
    calls_change_one g.T.RowRead.face law IsDel c.tables_stand_apart.ensures.apart.1 table key absent_row (λ old new. map_of_rows new ≡ remove (map_of_rows old) (at table key)) below fits
