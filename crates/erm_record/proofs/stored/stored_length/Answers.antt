use Rattle.std.proofs.Common.{◌≡◌, ℕ, ◌-◌, get_or, arith, subst, ◌≢◌}
use Rattle.erm_record.proofs.StoredRows.{stored_length-is}
use Rattle.erm_record.proofs.stored.stored_length.Goals as goal

pub returns-then-row-i-ne0-clause-length : goal.returns-then-row-i-ne0-clause-length
returns-then-row-i-ne0-clause-length c =
    stored_length-is c.args.row.now _ (omega arith) (λ k low. c.loop-i.invariant k (omega (arith, low)))
    (λ m is. let same : c.loop-i.i - 1 ≡ m = omega (arith, is) in subst (λ (n : ℕ). get_or c.args.row.now n 0 ≢ 0) same c.if-row-i-ne0.true)

pub returns-clause-length : goal.returns-clause-length
returns-clause-length c = stored_length-is c.args.row.now 0 (omega arith) (λ k low. c.loop-i.invariant k (omega arith)) (λ m none. absurd (omega (arith, none)))
