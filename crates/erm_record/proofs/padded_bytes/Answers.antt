use Rattle.erm_record.proofs.Rows.{padded_over_zeros}
use Rattle.erm_record.proofs.padded_bytes.Goals as goal

pub returns : goal.returns
returns c = padded_over_zeros c.args.bytes.now c.copy_from_slice.new.self c.copy_from_slice.ensures.after
