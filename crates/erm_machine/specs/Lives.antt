-- Lives: what a seat's transactions have in order, from its first on.
use Rattle.std.specs.Prelude.{◌≡◌, ◌≢◌, ℕ, ◌+◌, ◌<◌, ◌≤◌, true, false, length, slice_index_or}
use Rattle.erm_model.specs.Member.{◌∈◌}
use Rattle.erm_machine.specs.declared.attempt.Attempt.{Attempt}
use Rattle.erm_machine.specs.declared.attempt.Decision.TheVariants.{Abort}
use Rattle.erm_machine.specs.declared.part.Part.{Part}
use Rattle.erm_machine.specs.declared.place.Place.{Place}
use Rattle.erm_machine.specs.declared.place.Place.TheVariants.{Vacant, Idle, Begun, Announced, Sealing, Drawn, Sealed, Decided, Leaving}
use Rattle.erm_machine.specs.Core.{Shared, blank}
use Rattle.erm_machine.specs.Facts.{all_of}
use Rattle.erm_machine.specs.Seat.{has_number}
use Rattle.erm_machine.specs.Words.{is_flusher}

-- 1 where the seat has a transaction, from its begin stamp on until it is over, else 0
abbrev pub in_progress : Place → ℕ
in_progress Vacant = 0
in_progress Idle = 0
in_progress (Begun tail) = 0
in_progress (Announced tail) = 0
in_progress p = 1

-- it has loaded the tail for a begin, and has none yet
abbrev pub IsBeginning : Place → Type 0
IsBeginning (Begun tail) = Unit {0}
IsBeginning (Announced tail) = Unit {0}
IsBeginning _ = ⊥

-- a place of the flush seat, whose pins seal nothing
abbrev pub IsPin : Place → Type 0
IsPin (Sealing tail) = ⊥
IsPin (Drawn tail stamp) = ⊥
IsPin (Sealed tail stamp) = ⊥
IsPin (Decided tail stamp) = ⊥
IsPin (Leaving stamp) = ⊥
IsPin _ = Unit {0}

-- the transaction that was over as the one of that place
abbrev pub over_at : Part → ℕ → Attempt
over_at x place = slice_index_or x.over place blank

-- A seat writes its opening's run. Its transactions begin at the opening's place of the log or above, and at most at their
-- commit stamps, which those that are over have unless they aborted; each begins above the stamps of those before. A session's have the numbers from 1 on, in order, and one that
-- begins has a number left; pins of the flush seat seal and leave nothing.
pub record OwnLives (s : Shared) (seat : ℕ) (x : Part) : Type 0 where
  pub run : x.run ≡ s.run
  pub opened : (t : Attempt) → t ∈ x.over → s.opening ≤ t.begin
  pub opened_now : in_progress x.place ≡ 1 → s.opening ≤ x.current.begin
  pub sealed : (t : Attempt) → t ∈ all_of x → 0 < t.stamp → (0 < t.begin) × (t.begin ≤ t.stamp)
  pub drawn : (t : Attempt) → t ∈ x.over → t.decision ≢ Abort → 0 < t.stamp
  pub earlier : (t : Attempt) → t ∈ x.over → in_progress x.place ≡ 1 → t.stamp < x.current.begin
  pub numbers : is_flusher seat ≡ false → (k : ℕ) → k < length x.over → (over_at x k).number ≡ k + 1
  pub number : is_flusher seat ≡ false → x.number ≡ length x.over + in_progress x.place
  pub current : in_progress x.place ≡ 1 → x.current.number ≡ x.number
  pub left : IsBeginning x.place → has_number seat x ≡ true
  pub pins : is_flusher seat ≡ true → length x.over ≡ 0
  pub pinned : is_flusher seat ≡ true → IsPin x.place
