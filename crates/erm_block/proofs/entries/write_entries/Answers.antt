use Rattle.std.proofs.Common.{[], ◌-◌, ◌<◌, length, drop, arith, length-drop}
use Rattle.std.proofs.lemmas.List.{length-take-le}
use Rattle.erm_block.specs.Spelling.{entry_words}
use Rattle.erm_block.proofs.EntryWords.{take-flat_map, length-flat_map_at, length-flat_map_more}
use Rattle.erm_block.proofs.entries.write_entries.Goals as goal

pub write_entry-at-requires : goal.write_entry-at-requires
write_entry-at-requires c =
    let at = c.loop-entry.at in
    let out = c.loop-entry.out in
    let parts = length-flat_map_at (entry_words c.args.form) c.args.entries.now (0, []) c.loop-entry.entry-index (omega arith) in
    let behind = length-drop at out in
    omega (arith, parts, behind, length-take-le (length out - at) (drop at out) (omega (arith, behind)))

pub loop-entry-preserved : goal.loop-entry-preserved
loop-entry-preserved c =
    let below : c.loop-entry.entry-index < length c.args.entries.now = omega arith in
    let more = length-flat_map_more (entry_words c.args.form) c.args.entries.now (0, []) c.loop-entry.entry-index below in
    let parts = length-flat_map_at (entry_words c.args.form) c.args.entries.now (0, []) c.loop-entry.entry-index below in
    record {
      at_is = omega (arith, more);
      written = take-flat_map (entry_words c.args.form) c.args.entries.now (0, []) c.loop-entry.entry-index c.loop-entry.at c.write_entry-at.result c.loop-entry.out c.write_entry-at.new.out _ _ below
          (omega (arith, parts)) c.write_entry-at.ensures.size c.loop-entry.invariant.written c.write_entry-at.ensures.words;
    }
