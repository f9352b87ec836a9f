use Rattle.erm_ckpt.proofs.Written.{IsWritten}
use Rattle.erm_ckpt.proofs.encode.write_rows.Given as goal

-- the rows so far were written
abbrev pub invariant-loop-oid : goal.invariant-loop-oid
invariant-loop-oid l = IsWritten l.rows l.initial.out l.out l.oid l.count l.at
