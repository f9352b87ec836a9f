use Rattle.std.proofs.Common.{ℕ, length, refl, arith, below_more}
use Rattle.erm_log.specs.Behind.{ReadsBehind}
use Rattle.erm_log.proofs.Looking.{reads_none, reads_within, some_words}
use Rattle.erm_log.proofs.behind.first_block.Goals as goal

pub loop-skipped-preserved : goal.loop-skipped-preserved
loop-skipped-preserved c less run lt reads =
    let words = c.args.words.now in
    below_more (λ (k : ℕ). (r : ℕ) → ReadsBehind words c.args.end k r → ⊥) c.loop-skipped.skipped (λ k h r. c.loop-skipped.invariant k r h)
    (reads_none words c.args.end c.loop-skipped.skipped c.in_default.ensures.none) less lt run reads

pub returns-else-is_empty : goal.returns-else-is_empty
returns-else-is_empty c =
    let words = c.args.words.now in (
      some_words (length words) c.if-is_empty.ensures,
      refl,
      λ skipped run reads. c.loop-skipped.invariant skipped run (omega (arith, reads_within words c.args.end skipped run reads, c.loop-skipped-test.false)) reads,
    )
