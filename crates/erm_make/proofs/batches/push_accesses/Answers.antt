use Rattle.std.proofs.Common.{◌≡◌, ◌+◌, ◌*◌, arith, rules}
use Rattle.std.specs.Int.{to_be_bytes, w64}
use Rattle.std.proofs.lemmas.Grind.{common_steps}
use Rattle.std.proofs.lemmas.Result.{on_ok_weaker}
use Rattle.erm_make.specs.Workload.{accesses}
use Rattle.erm_make.proofs.Steps.{Adds-append, Adds-more, accesses-is}
use Rattle.erm_make.proofs.batches.push_accesses.Goals as goal

pub returns-clause-added : goal.returns-clause-added
returns-clause-added c =
    let key = c.draw-key.ensures.drawn (2 * c.args.number) c.requires.draws in
    let other = c.draw-other.ensures.drawn (2 * c.args.number + 1) (c.draw-key.ensures.state (2 * c.args.number) c.requires.draws) in
    let value : c.unwrap-value.result ≡ to_be_bytes w64 c.args.number = first_of (search rules, grind (arith, common_steps)) in
    let is = accesses-is c.args.seat c.args.number c.draw-key.result c.draw-other.result c.unwrap-value.result key other value in
    on_ok_weaker c.push-3.result (λ added. Adds-more (accesses c.args.seat c.args.number)
    (Adds-append c.in_ok-push.ensures.added c.in_ok-push-2.ensures.added) added is) c.push-3.ensures.added
