use Rattle.erm_record.specs.Record.{padded}
use Rattle.erm_record.proofs.Rows.{length-padded, AreBytes-padded}
use Rattle.erm_record.proofs.Values.{record_value-found, record_value-given, record_value-absent}
use Rattle.erm_record.proofs.record_values.Goals as goal

pub returns-clause-found : goal.returns-clause-found
returns-clause-found c = record_value-found c.words_have_bytes.ensures.count c.words_have_bytes.ensures.bytes c.bytes_again.ensures.count

pub returns-clause-given : goal.returns-clause-given
returns-clause-given c = record_value-given (λ bytes is. c.bytes_again.ensures.same 14 (padded bytes) (AreBytes-padded bytes is) (length-padded bytes is))

pub returns-clause-absent : goal.returns-clause-absent
returns-clause-absent c = record_value-absent
