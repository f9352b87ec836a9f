-- Entries and the words that spell them.
use Rattle.std.proofs.Common.{◌≡◌, ℕ, ◌^◌, ◌<◌, refl, sym, ap, ◌∙◌, arith}
use Rattle.erm_machine.specs.Words.{head_of, owner_of, number_of, claimed}
use Rattle.erm_entries.specs.declared.entries.Entry.{Entry}
use Rattle.erm_entries.specs.Spelling.{word_of, entry_of, owned_by}

-- a word is what its parts spell
pub word_back : (word : ℕ) → word_of (entry_of word) ≡ word
word_back word = omega arith

-- the parts of a word that an owner has claimed
claimed_head : (word seat number : ℕ) → seat < 2 ^ 8 → head_of (claimed word seat number) ≡ head_of word
claimed_head word seat number few = omega arith

claimed_owner : (word seat number : ℕ) → seat < 2 ^ 8 → owner_of (claimed word seat number) ≡ seat
claimed_owner word seat number few = omega arith

claimed_number : (word seat number : ℕ) → seat < 2 ^ 8 → number_of (claimed word seat number) ≡ number
claimed_number word seat number few = omega arith

small_head : (head : ℕ) → head < 2 ^ 24 → head_of head ≡ head
small_head head small = omega arith

abbrev entry : ℕ → ℕ → ℕ → Entry
entry head owner number = record { head = head; owner = owner; number = number }

same_entry : (h1 h2 o1 o2 n1 n2 : ℕ) → h1 ≡ h2 → o1 ≡ o2 → n1 ≡ n2 → entry h1 o1 n1 ≡ entry h2 o2 n2
same_entry h1 h2 o1 o2 n1 n2 h o n = cc

pub claimed_entry : (word seat number : ℕ) → seat < 2 ^ 8 → entry_of (claimed word seat number) ≡ owned_by seat number (entry_of word)
claimed_entry word seat number few =
    same_entry _ _ _ _ _ _ (claimed_head word seat number few) (claimed_owner word seat number few) (claimed_number word seat number few)

-- an entry is what its word spells
pub entry_back : (e : Entry) → e.owner < 2 ^ 8 → e.head < 2 ^ 24 → entry_of (word_of e) ≡ e
entry_back e few small = claimed_entry e.head e.owner e.number few ∙ same_entry _ _ _ _ _ _ (small_head e.head small) refl refl

-- what a word spells has the same word, and is spelled again
pub entry_again : (e : Entry) (word : ℕ) → e ≡ entry_of word → entry_of (word_of e) ≡ e
entry_again e word is = ap (λ (z : Entry). entry_of (word_of z)) is ∙ ap entry_of (word_back word) ∙ sym is
