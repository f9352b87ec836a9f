use Rattle.erm_log.specs.Texts.{head_text, row_text}
use Rattle.erm_log.proofs.Pushing.{one_more}
use Rattle.erm_log.proofs.block_text.push_block.Goals as goal

pub loop-entry-preserved : goal.loop-entry-preserved
loop-entry-preserved c =
    one_more row_text c.args.out.now.items (head_text c.args.block.now) c.loop-entry.out.items c.push_row.new.out.items c.args.block.now.rows.items c.as_slice-entry-items.result.now
    c.loop-entry.entry-index _ c.as_slice-entry-items.ensures.value c.loop-entry-test.true c.loop-entry.invariant c.in_ok-push_row.ensures
