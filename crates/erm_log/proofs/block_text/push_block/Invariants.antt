use Rattle.std.proofs.Common.{◌≡◌, ◌++◌, take}
use Rattle.std.specs.List.{flat_map}
use Rattle.erm_log.specs.Texts.{head_text, row_text}
use Rattle.erm_log.proofs.block_text.push_block.Given as goal

-- the rows so far are told
abbrev pub invariant-loop-entry : goal.invariant-loop-entry
invariant-loop-entry l = l.out.items ≡ l.fn.out.items ++ (head_text l.block ++ flat_map row_text (take l.entry-index l.block.rows.items))
