use Rattle.std.proofs.Common.{length, ap, arith}
use Rattle.erm_run_beside.proofs.More.{longer}
use Rattle.erm_beside_cases.proofs.sessions.parts.Goals as goal

pub loop-seat-preserved : goal.loop-seat-preserved
loop-seat-preserved c =
    let at = c.loop-seat in
    let was = at.invariant.0 in (
      (let new = ap (λ l. length l) c.in_ok-push.ensures.items in let long = longer at.parts.items c.in_ok-lines.lines in omega (arith, was, new, long)),
      (let less = c.loop-seat-test.true in omega (arith, less)),
    )
