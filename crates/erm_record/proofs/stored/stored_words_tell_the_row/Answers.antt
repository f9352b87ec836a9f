use Rattle.erm_record.proofs.StoredRows.{stored_length-le, stored_whole}
use Rattle.erm_record.proofs.stored.stored_words_tell_the_row.Goals as goal

pub returns-clause-short : goal.returns-clause-short
returns-clause-short c = stored_length-le

pub returns-clause-whole : goal.returns-clause-whole
returns-clause-whole c = stored_whole
