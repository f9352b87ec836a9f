-- What the slots of two checkpoints say of the best one, and of what the next one removes.
use Rattle.std.proofs.Common.{◌≡◌, ℕ, ◌/◌, ◌≤◌, Bool, true, false, cond, Option, Some, None, ◌⊎◌, inl, inr, ap, refl, arith, nat_lt}
use Rattle.std.proofs.lemmas.Bool.Decides.{nat_tests}
use Rattle.erm_outside.specs.declared.disk.File.{File}
use Rattle.erm_outside.specs.declared.disk.File.TheVariants.{Slot0, Slot1, Segment}
use Rattle.std.specs.Prelude.{IfSome, max}
use Rattle.std.specs.Option.{option_map}
use Rattle.erm_model.specs.declared.limits.TheConstants.{SEGMENT_WORDS}
use Rattle.erm_ckpt.specs.declared.slot.Slot.{Slot}
use Rattle.erm_ckpt.specs.Checkpoint.{Checkpoint, IsSlot}
use Rattle.erm_ckpt.specs.Recovered.{Pair, best, better, pair_with, put, slots_of}
use Rattle.erm_ckpt.specs.Slots.{best_of, better_slot, first_left, other_of, put_slot, segment_of, slots_with}

-- what a checkpoint's slot says
abbrev said : Option Checkpoint → Option Slot
said checkpoint = option_map (λ checkpoint. checkpoint.slot) checkpoint

said_of : (b : Bool) (x y : Checkpoint) → cond b (Some y.slot) (Some x.slot) ≡ said (cond b (Some y) (Some x))
said_of true x y = refl
said_of false x y = refl

best_said : (a b : Option Checkpoint) → better_slot (said a) (said b) ≡ said (better a b)
best_said None None = refl
best_said None (Some b) = refl
best_said (Some a) None = refl
best_said (Some a) (Some b) = said_of (nat_lt a.slot.stamp b.slot.stamp) a b

-- the best slot is the best checkpoint's
pub best_slot : (pair : Pair) → best_of (slots_of pair) ≡ said (best pair)
best_slot pair = best_said pair.slot0 pair.slot1

low_if : (b : Bool) (x y n : ℕ) → x ≤ n → y ≤ n → cond b x y ≤ n
low_if true x y n low_x low_y = low_x
low_if false x y n low_x low_y = low_y

-- the segment of a lower place is no greater, and no greater is the first that a slot names
segment_low : (slot : Slot) (stamp : ℕ) → slot.stamp ≤ stamp → segment_of slot ≤ stamp / SEGMENT_WORDS
segment_low slot stamp low = omega (arith, low)

first_low : (slot : Slot) (stamp : ℕ) → IsSlot slot → slot.stamp ≤ stamp → slot.first ≤ stamp / SEGMENT_WORDS
first_low slot stamp is low = let first = is.first in omega (arith, first, segment_low slot stamp low)

pub first_left_low : (a b : Option Slot) (stamp : ℕ) → IfSome a (λ slot. IsSlot slot × slot.stamp ≤ stamp) → IfSome b (λ slot. IsSlot slot × slot.stamp ≤ stamp)
    → first_left a b ≤ stamp / SEGMENT_WORDS
first_left_low None None stamp one other = omega arith
first_left_low None (Some b) stamp one other = first_low b stamp other.0 other.1
first_left_low (Some a) None stamp one other = first_low a stamp one.0 one.1
first_left_low (Some a) (Some b) stamp one other =
    low_if (nat_lt a.stamp b.stamp) (max b.first (segment_of a)) (max a.first (segment_of b)) (stamp / SEGMENT_WORDS)
    (omega (arith, first_low b stamp other.0 other.1, segment_low a stamp one.1)) (omega (arith, first_low a stamp one.0 one.1, segment_low b stamp other.1))

-- ---- another checkpoint

-- a place that isn't below another
not_below : (a b : ℕ) → b ≤ a → nat_lt a b ≡ false
not_below a b low = grind (arith, nat_tests, low)

at_or_behind : (a b : ℕ) → nat_lt a b ≡ false → b ≤ a
at_or_behind a b test = grind (arith, nat_tests, test)

-- the new one is the best, or the old one is and has the same place
abbrev IsBestOrTie : Option Checkpoint → Checkpoint → Option Checkpoint → Type 0
IsBestOrTie old checkpoint now = (now ≡ Some checkpoint) ⊎ ((now ≡ old) × IfSome old (λ was. was.slot.stamp ≡ checkpoint.slot.stamp))

-- in front of another one
in_front : (checkpoint b : Checkpoint) → b.slot.stamp ≤ checkpoint.slot.stamp → better (Some checkpoint) (Some b) ≡ Some checkpoint
in_front checkpoint b low = ap (λ (x : Bool). cond x (Some b) (Some checkpoint)) (not_below checkpoint.slot.stamp b.slot.stamp low)

-- behind the best one
behind : (a checkpoint : Checkpoint) (test : Bool) → nat_lt a.slot.stamp checkpoint.slot.stamp ≡ test → a.slot.stamp ≤ checkpoint.slot.stamp
    → IsBestOrTie (Some a) checkpoint (cond test (Some checkpoint) (Some a))
behind a checkpoint true is low = inl refl
behind a checkpoint false is low = inr (refl, omega (arith, low, at_or_behind a.slot.stamp checkpoint.slot.stamp is))

-- of two, by which of them was the best
of_two : (a b checkpoint : Checkpoint) (test : Bool) → IfSome (cond test (Some b) (Some a)) (λ old. old.slot.stamp ≤ checkpoint.slot.stamp)
    → IsBestOrTie (cond test (Some b) (Some a)) checkpoint
    (best (pair_with (record { slot0 = Some a; slot1 = Some b }) (cond test Slot0 Slot1) (Some checkpoint)))
of_two a b checkpoint true low = inl (in_front checkpoint b low)
of_two a b checkpoint false low = behind a checkpoint (nat_lt a.slot.stamp checkpoint.slot.stamp) refl low

best_with : (a b : Option Checkpoint) (checkpoint : Checkpoint) → IfSome (better a b) (λ old. old.slot.stamp ≤ checkpoint.slot.stamp)
    → IsBestOrTie (better a b) checkpoint (best (put (record { slot0 = a; slot1 = b }) checkpoint))
best_with None None checkpoint low = inl refl
best_with None (Some b) checkpoint low = inl (in_front checkpoint b low)
best_with (Some a) None checkpoint low = behind a checkpoint (nat_lt a.slot.stamp checkpoint.slot.stamp) refl low
best_with (Some a) (Some b) checkpoint low = of_two a b checkpoint (nat_lt a.slot.stamp b.slot.stamp) low

pub best_put : (pair : Pair) (checkpoint : Checkpoint) → IfSome (best pair) (λ old. old.slot.stamp ≤ checkpoint.slot.stamp)
    → (best (put pair checkpoint) ≡ Some checkpoint) ⊎ ((best (put pair checkpoint) ≡ best pair) × IfSome (best pair) (λ old. old.slot.stamp ≡ checkpoint.slot.stamp))
best_put pair checkpoint low = best_with pair.slot0 pair.slot1 checkpoint low

-- the slots of the checkpoints with another one
slots_of_with : (pair : Pair) (file : File) (checkpoint : Checkpoint) → slots_of (pair_with pair file (Some checkpoint)) ≡ slots_with (slots_of pair) file checkpoint.slot
slots_of_with pair Slot0 checkpoint = refl
slots_of_with pair Slot1 checkpoint = refl
slots_of_with pair (Segment n) checkpoint = refl

pub slots_put : (pair : Pair) (checkpoint : Checkpoint) → slots_of (put pair checkpoint) ≡ put_slot (slots_of pair) checkpoint.slot
slots_put pair checkpoint = slots_of_with pair (other_of (slots_of pair)) checkpoint
