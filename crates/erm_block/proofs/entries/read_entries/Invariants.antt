use Rattle.std.proofs.Common.{◌≡◌, ℕ, ◌≤◌, List, ◌++◌, length, take, drop}
use Rattle.std.specs.List.{flat_map, All}
use Rattle.erm_block.specs.Block.{Entry, IsEntry}
use Rattle.erm_block.specs.Spelling.{entry_words}
use Rattle.erm_block.proofs.entries.read_entries.Given as goal

-- so many entries were read, and if the words spell so many they are the first of these, and the others are left
abbrev pub invariant-loop-entry : goal.invariant-loop-entry
invariant-loop-entry l = record {
  many : length l.entries.items ≡ l._entry;
  within : l.at ≤ length l.words;
  given : (entries : List Entry) (rest : List ℕ) → All IsEntry entries → length entries ≡ l.count → l.words ≡ flat_map (entry_words l.form) entries ++ rest
      → (l.entries.items ≡ take l._entry entries) × (drop l.at l.words ≡ flat_map (entry_words l.form) (drop l._entry entries) ++ rest);
}
