-- The ring's room for a block.
use Rattle.std.proofs.Common.{◌≡◌, ℕ, ◌+◌, ◌-◌, ◌<◌, ◌≤◌, ◌↔◌, Bool, true, false, List, ◌++◌, sym, subst, arith}
use Rattle.std.proofs.lemmas.Bool.{lt-ltb}
use Rattle.std.specs.Prelude.{if◌then◌else◌, [], ◌∷◌, nat_le, ◌&&◌, ◌==◌}
use Rattle.erm_model.specs.Member.{◌∈◌}
use Rattle.erm_machine.specs.declared.attempt.Attempt.{Attempt}
use Rattle.erm_machine.specs.declared.limits.TheConstants.{GREATEST_BLOCK, RING_WORDS}
use Rattle.erm_machine.specs.declared.version.Span.{Span}
use Rattle.erm_machine.specs.Core.{Core}
use Rattle.erm_machine.specs.Ranges.{range_at, ranges_of}
use Rattle.erm_machine.specs.Settling.{has_room}
use Rattle.erm_machine.specs.Sound.{Sound}
use Rattle.erm_machine.proofs.Listed.{∈-filter, ∈-head, ∈-second}

-- the range of a transaction that has one stands in the log
range_if : (b : Bool) (r : Span) → b ≡ true → r ∈ (if b then r ∷ [] else [])
range_if b r there = subst (λ (c : Bool). r ∈ (if c then r ∷ [] else [])) (sym there) (∈-head r [])

range_is : (seat stamp size : ℕ) → 0 < stamp → ◌∈◌ {X = Span} (record { seat = seat; start = stamp; size = size }) (range_at seat stamp size)
range_is seat stamp size positive = range_if _ _ (lt-ltb 0 stamp positive)

pub size_is : (c : Core) (seat : ℕ) → Sound c → 0 < (c.seats seat).current.stamp → (c.seats seat).current.size ≤ GREATEST_BLOCK
size_is c seat sound positive =
    let x = c.seats seat in
    let r : Span = record { seat = seat; start = x.current.stamp; size = x.current.size } in
    let own : r ∈ (ranges_of seat x.over ++ range_at seat x.current.stamp x.current.size) =
    ∈-second (ranges_of seat x.over) (range_at seat x.current.stamp x.current.size) r (range_is seat x.current.stamp x.current.size positive) in
    let kept = subst (λ (rs : List Span). r ∈ rs) (sym (sound.own seat).ranges.ranges) own in
    (sound.common.ranges.sizes r (∈-filter (λ (u : Span). u.seat == seat) r c.shared.log kept).0).1

pub room_is : (flushed : ℕ) (t : Attempt) → t.size ≤ GREATEST_BLOCK → (has_room flushed t ≡ false) ↔ (flushed + RING_WORDS < t.stamp + t.size)
room_is flushed t few = (full flushed t.stamp t.size few, none flushed t.stamp t.size few)
  where
    full : (flushed stamp size : ℕ) → size ≤ GREATEST_BLOCK → (nat_le size RING_WORDS && nat_le (stamp - (RING_WORDS - size)) flushed) ≡ false → flushed + RING_WORDS < stamp + size
    full flushed stamp size few found = grind arith

    none : (flushed stamp size : ℕ) → size ≤ GREATEST_BLOCK → flushed + RING_WORDS < stamp + size → (nat_le size RING_WORDS && nat_le (stamp - (RING_WORDS - size)) flushed) ≡ false
    none flushed stamp size few above = grind arith
