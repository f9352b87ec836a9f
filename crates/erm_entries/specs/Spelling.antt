-- Entries and the words that spell them.
use Rattle.std.specs.Prelude.{ℕ}
use Rattle.erm_machine.specs.Words.{head_of, owner_of, number_of, claimed}
use Rattle.erm_entries.specs.declared.entries.Entry.{Entry}

-- the word of an entry: its head, claimed by its owner
abbrev pub word_of : Entry → ℕ
word_of e = claimed e.head e.owner e.number

-- the entry that a word spells
abbrev pub entry_of : ℕ → Entry
entry_of word = record { head = head_of word; owner = owner_of word; number = number_of word }

-- the entry with the same head that a seat's transaction of this number owns
abbrev pub owned_by : ℕ → ℕ → Entry → Entry
owned_by seat number e = record e { owner = seat; number = number }
