use Rattle.std.proofs.Common.{◌≡◌, ◌+◌, ◌++◌, ap, ◌∙◌, arith}
use Rattle.erm_make.specs.Draws.{state_after}
use Rattle.erm_make.specs.Workload.{accesses, all_accesses}
use Rattle.erm_make.proofs.Steps.{Adds-more, Adds-same, all_accesses-more, all_accesses-none}
use Rattle.erm_make.proofs.batches.push_all_accesses.Goals as goal

pub loop-place-init : goal.loop-place-init
loop-place-init c = (
  Adds-same (all_accesses c.args.first 0) c.args.lines.now.items (all_accesses-none c.args.first),
  omega arith,
  c.requires.draws ∙ ap (λ n. state_after n) (omega arith),
)

pub loop-place-preserved : goal.loop-place-preserved
loop-place-preserved c =
    let same : c.from.result ≡ c.loop-place.place = c.from.ensures in
    let next = ap (λ p. all_accesses c.args.first c.loop-place.place ++ accesses (c.loop-place.place + 1) (c.args.first + p)) same
    ∙ all_accesses-more c.args.first c.loop-place.place in (
      Adds-more (all_accesses c.args.first (c.loop-place.place + 1)) c.loop-place.invariant.0 c.in_ok-push_accesses.ensures.added next,
      omega (arith, c.in_ok-push_accesses.ensures.many),
      c.in_ok-push_accesses.ensures.draws ∙ ap (λ n. state_after n) (omega arith),
    )
