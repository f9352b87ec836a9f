use Rattle.std.proofs.Common.{◌≡◌, ℕ, ◌+◌, ◌-◌, ◌*◌, ◌<◌, ◌++◌, List, min, ap, subst, ◌∙◌, arith}
use Rattle.std.specs.Int.{div_ceil}
use Rattle.erm_make.specs.Draws.{state_after}
use Rattle.erm_make.specs.Workload.{Request, batches, load, numbered}
use Rattle.erm_make.proofs.Steps.{Adds-all, Adds-append, Adds-more, batch_end, batch_start, before_end, first_lines, more_lines, workload-is}
use Rattle.erm_make.proofs.workload.lines.Goals as goal

pub loop-number-init : goal.loop-number-init
loop-number-init c = (
  first_lines c.args.count c.args.sessions c.new-lines.result.items c.push_load.new.lines.items c.new-lines.ensures.items c.in_ok-push_load.ensures.added,
  c.new-draws.ensures ∙ ap (λ n. state_after n) (omega arith),
  omega (arith, c.in_ok-push_load.ensures.many, c.new-lines.ensures.len),
)

pub loop-number-preserved : goal.loop-number-preserved
loop-number-preserved c =
    let n = c.loop-number.number in
    let most : ℕ = c.from-most.result in
    let same : most ≡ c.args.sessions = c.from-most.ensures in
    let P : ℕ → Type 0 = λ m. n < m in
    let left : n * most < c.args.count =
    before_end c.args.count most n (omega arith) (subst P c.div_ceil-number-end.ensures c.loop-number-test.true) in
    let size : ℕ = c.min-size.result in
    let many : size ≡ min most (c.args.count - n * most) = c.min-size.ensures in
    let start = batch_start c.args.count c.args.sessions most n same left in
    let end = batch_end c.args.count c.args.sessions most n size same left many in (
      Adds-more (load ++ batches c.args.count c.args.sessions (n + 1)) c.loop-number.invariant.0
          (Adds-append c.in_ok-push_batch.ensures.added c.in_ok-push_flush_after.ensures.added)
          (more_lines c.args.count c.args.sessions n (n * most) size (ap (λ m. n * m) same) (many ∙ ap (λ m. min m (c.args.count - n * most)) same)),
      c.in_ok-push_batch.ensures.draws ∙ ap (λ k. state_after (2 * k)) end,
      omega (arith, start, end, c.loop-number.invariant.2, c.in_ok-push_batch.ensures.many, c.in_ok-push_flush_after.ensures.few),
    )

pub returns-clause-lines : goal.returns-clause-lines
returns-clause-lines c =
    let last : c.loop-number.number ≡ c.div_ceil-number-end.result = omega arith in
    let all : c.loop-number.number ≡ div_ceil c.args.count c.args.sessions =
    last ∙ c.div_ceil-number-end.ensures ∙ ap (λ m. div_ceil c.args.count m) c.from-most.ensures in
    Adds-all c.loop-number.invariant.0 ∙ ap (λ (rs : List Request). numbered 1 rs) (workload-is c.args.count c.args.sessions c.loop-number.number all)
