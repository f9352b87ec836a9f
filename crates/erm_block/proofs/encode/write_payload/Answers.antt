use Rattle.std.proofs.Common.{List, subst, arith, ap, length}
use Rattle.std.specs.List.{flat_map}
use Rattle.erm_block.specs.declared.block.Form.TheVariants.{Whole, Stored}
use Rattle.erm_block.specs.declared.block.Kind.{Kind}
use Rattle.erm_block.specs.declared.block.Kind.TheVariants.{OldCommit, Commit}
use Rattle.erm_block.specs.Block.{Entry, KeepsRulesOf}
use Rattle.erm_block.specs.Spelling.{entry_words}
use Rattle.erm_block.proofs.EntryWords.{length-entries}
use Rattle.erm_block.proofs.encode.write_payload.Goals as goal

pub write_entries-requires : goal.write_entries-requires
write_entries-requires c =
    let block = c.args.block.now in
    let rules : KeepsRulesOf OldCommit block c.requires.rules.0 = subst (λ (k : Kind). KeepsRulesOf k block c.requires.rules.0) c.in-OldCommit.is c.requires.rules.1 in
    let size = rules.size in
    let same = ap (λ (es : List Entry). length (flat_map (entry_words Whole) es)) c.deref.ensures.0 in
    omega (arith, size, same, length-entries c.stored_words_tell_the_row.ensures.short Whole block.rows.items rules.rows.each)

pub write_entries-requires-in-Commit : goal.write_entries-requires-in-Commit
write_entries-requires-in-Commit c =
    let block = c.args.block.now in
    let rules : KeepsRulesOf Commit block c.requires.rules.0 = subst (λ (k : Kind). KeepsRulesOf k block c.requires.rules.0) c.in-Commit.is c.requires.rules.1 in
    let size = rules.size in
    let same = ap (λ (es : List Entry). length (flat_map (entry_words Stored) es)) c.deref-in-Commit.ensures.0 in
    omega (arith, size, same, length-entries c.stored_words_tell_the_row.ensures.short Stored block.rows.items rules.rows.each)
