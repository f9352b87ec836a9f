-- The bits of a word in which one is set or cleared.
use Rattle.std.proofs.Common.{◌≡◌, ◌≢◌, ℕ, ◌-◌, ◌<◌, ◌^◌, min, max, ap, ◌∙◌, arith}
use Rattle.std.specs.Int.{w64, bit_at, bit_not}
use Rattle.std.proofs.Math.Pow.{pow-lt}
use Rattle.std.proofs.lemmas.Nat.Bits.{bit_at_or, bit_at_and, bit_at_not, bit_at-lt, bit_at-pow_same, bit_at-pow_other}
use Rattle.erm_machine.specs.Words.{with_bit, without_bit}

-- of two bits the greater, the less
max_one : (a b : ℕ) → a < 2 → b ≡ 1 → max a b ≡ 1
max_one a b low e = grind arith

max_none : (a b : ℕ) → b ≡ 0 → max a b ≡ a
max_none a b e = grind arith

min_none : (a b : ℕ) → b ≡ 0 → min a b ≡ 0
min_none a b e = grind arith

min_one : (a b : ℕ) → a < 2 → b ≡ 1 → min a b ≡ a
min_one a b low e = grind arith

min_is : (a b : ℕ) → a < 2 → min a b ≡ 1 → a ≡ 1
min_is a b low e = grind arith

pub bit_set : (bits p : ℕ) → bit_at (with_bit bits p) p ≡ 1
bit_set bits p = bit_at_or bits (2 ^ p) p ∙ max_one (bit_at bits p) (bit_at (2 ^ p) p) (bit_at-lt bits p) (bit_at-pow_same p)

pub bit_set_other : (bits p q : ℕ) → q ≢ p → bit_at (with_bit bits p) q ≡ bit_at bits q
bit_set_other bits p q ne = bit_at_or bits (2 ^ p) q ∙ max_none (bit_at bits q) (bit_at (2 ^ p) q) (bit_at-pow_other p q ne)

without : (bits p q : ℕ) → p < 64 → q < 64 → bit_at (without_bit bits p) q ≡ min (bit_at bits q) (1 - bit_at (2 ^ p) q)
without bits p q seat other = bit_at_and bits (bit_not w64 (2 ^ p)) q ∙ ap (min (bit_at bits q)) (bit_at_not w64 (2 ^ p) q (pow-lt seat) other)

pub bit_cleared : (bits p : ℕ) → p < 64 → bit_at (without_bit bits p) p ≡ 0
bit_cleared bits p seat = let one = bit_at-pow_same p in without bits p p seat seat ∙ min_none (bit_at bits p) (1 - bit_at (2 ^ p) p) (omega (arith, one))

pub bit_cleared_other : (bits p q : ℕ) → p < 64 → q < 64 → q ≢ p → bit_at (without_bit bits p) q ≡ bit_at bits q
bit_cleared_other bits p q seat other ne =
    let none = bit_at-pow_other p q ne in
    without bits p q seat other ∙ min_one (bit_at bits q) (1 - bit_at (2 ^ p) q) (bit_at-lt bits q) (omega (arith, none))

-- a bit that is left was set
pub bit_left : (bits p q : ℕ) → bit_at (without_bit bits p) q ≡ 1 → bit_at bits q ≡ 1
bit_left bits p q e = min_is (bit_at bits q) (bit_at (bit_not w64 (2 ^ p)) q) (bit_at-lt bits q) (let was = bit_at_and bits (bit_not w64 (2 ^ p)) q in omega (arith, was, e))
