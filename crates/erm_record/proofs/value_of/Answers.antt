use Rattle.erm_record.proofs.Values.{record_value-is}
use Rattle.erm_record.proofs.value_of.Goals as goal

pub returns-clause-value : goal.returns-clause-value
returns-clause-value c =
    record_value-is c.record_values.ensures.found c.record_values.ensures.given c.args.row.now c.spelled_value.result c.spelled_value.ensures.found c.spelled_value.ensures.given
