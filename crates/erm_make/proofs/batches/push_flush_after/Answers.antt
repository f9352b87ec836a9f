use Rattle.std.proofs.Common.{◌≡◌, ◌+◌, ◌%◌, ◌==◌, true, false, arith}
use Rattle.std.proofs.lemmas.Bool.Decides.{nat_tests}
use Rattle.std.proofs.lemmas.Result.{on_ok_weaker}
use Rattle.erm_make.specs.Workload.{flush_after}
use Rattle.erm_make.proofs.Steps.{Adds-none, Adds-more, Adds-same, flush_after-no, flush_after-yes}
use Rattle.erm_make.proofs.batches.push_flush_after.Goals as goal

pub returns-then-number-ne0-clause-added : goal.returns-then-number-ne0-clause-added
returns-then-number-ne0-clause-added c =
    let no : ((c.args.number + 1) % 64 == 0) ≡ false = let h = c.if-number-ne0.true in grind (arith, nat_tests) in
    Adds-same (flush_after c.args.number) c.args.lines.now.items (flush_after-no c.args.number no)

pub returns-clause-added : goal.returns-clause-added
returns-clause-added c =
    let yes : ((c.args.number + 1) % 64 == 0) ≡ true = let h = c.if-number-ne0.false in grind (arith, nat_tests) in
    on_ok_weaker c.push.result (λ added. Adds-more (flush_after c.args.number) (Adds-none c.args.lines.now.items) added (flush_after-yes c.args.number yes)) c.push.ensures.added
