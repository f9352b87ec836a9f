use Rattle.std.proofs.Common.{◌≡◌, length, take}
use Rattle.std.specs.List.{flat_map}
use Rattle.erm_block.specs.Spelling.{entry_words}
use Rattle.erm_block.proofs.entries.write_entries.Given as goal

-- the words of the entries so far stand in front
abbrev pub invariant-loop-entry : goal.invariant-loop-entry
invariant-loop-entry l = record {
  at_is : l.at ≡ length (flat_map (entry_words l.form) (take l.entry-index l.entries));
  written : take l.at l.out ≡ flat_map (entry_words l.form) (take l.entry-index l.entries);
}
