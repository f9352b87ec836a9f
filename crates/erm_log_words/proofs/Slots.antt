-- Slots that were written whole, or not at all.
use Rattle.std.proofs.Common.{ℕ, ◌+◌, List, [], ◌∷◌, length, drop, refl, inl, inr}
use Rattle.erm_outside.specs.Disk.{patched}
use Rattle.erm_log_words.specs.Tears.{BeginsWith, ShowsSlot}

whole_begins : (before slot : List ℕ) → BeginsWith (patched before 0 slot) slot
whole_begins before [] = (before, refl)
whole_begins before (byte ∷ slot) = (drop (0 + length (byte ∷ slot)) before, refl)

pub whole_shows : (IsSlot : List ℕ → Type 0) (before slot : List ℕ) → ShowsSlot IsSlot before slot (patched before 0 slot)
whole_shows IsSlot before slot = inl (whole_begins before slot)

pub nothing_shows : (IsSlot : List ℕ → Type 0) (before slot : List ℕ) → ShowsSlot IsSlot before slot before
nothing_shows IsSlot before slot = inr (inl (λ other. (λ has. has, λ has. has)))
