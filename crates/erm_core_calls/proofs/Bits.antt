-- The bits of a word of which one is cleared, and the least one that is set.
use Rattle.std.proofs.Common.{◌≡◌, ◌≢◌, ℕ, ◌-◌, ◌<◌, ◌≤◌, ◌/◌, ◌%◌, ◌^◌, ◌⊎◌, ⊎_elim, true, eqb, ltb, min, refl, ap, ◌∙◌, sym, arith}
use Rattle.std.specs.Int.{w64, bit_at, bit_not, trailing_zeros}
use Rattle.std.proofs.Math.Pow.{pow-lt}
use Rattle.std.proofs.lemmas.Bool.{and_from, cases_lt, eq-eqb, lt-ltb}
use Rattle.std.proofs.lemmas.Nat.{shr_split}
use Rattle.std.proofs.lemmas.Nat.Bits.{bit_at_and, bit_at_not, bit_at-lt, bit_at-pow_same, bit_at-trailing_zeros, bit_at_above, bit_at_cat_low, same_from_bits}
use Rattle.erm_machine.specs.declared.limits.TheConstants.{ANNOUNCERS}
use Rattle.erm_machine.specs.Words.{is_least_bit, without_bit}

-- of two bits the less
min_none : (a b : ℕ) → b ≡ 0 → min a b ≡ 0
min_none a b e = grind arith

min_is : (a b : ℕ) → a < 2 → min a b ≡ 1 → a ≡ 1
min_is a b low e = grind arith

without : (bits p q : ℕ) → p < 64 → q < 64 → bit_at (without_bit bits p) q ≡ min (bit_at bits q) (1 - bit_at (2 ^ p) q)
without bits p q seat other = bit_at_and bits (bit_not w64 (2 ^ p)) q ∙ ap (min (bit_at bits q)) (bit_at_not w64 (2 ^ p) q (pow-lt seat) other)

pub bit_cleared : (bits p : ℕ) → p < 64 → bit_at (without_bit bits p) p ≡ 0
bit_cleared bits p seat = let one = bit_at-pow_same p in without bits p p seat seat ∙ min_none (bit_at bits p) (1 - bit_at (2 ^ p) p) (omega (arith, one))

-- a bit that is left was set
pub bit_left : (bits p q : ℕ) → bit_at (without_bit bits p) q ≡ 1 → bit_at bits q ≡ 1
bit_left bits p q e = min_is (bit_at bits q) (bit_at (bit_not w64 (2 ^ p)) q) (bit_at-lt bits q) (let was = bit_at_and bits (bit_not w64 (2 ^ p)) q in omega (arith, was, e))

-- a bit that is left isn't the one that was cleared
pub left_other : (bits p q : ℕ) → p < 64 → bit_at (without_bit bits p) q ≡ 1 → q ≢ p
left_other bits p q seat e = λ (same : q ≡ p). let zero = bit_cleared bits p seat in let one = ap (λ n. bit_at (without_bit bits p) n) (sym same) ∙ e in omega (arith, zero, one)

cases_bit : (b : ℕ) → b < 2 → (b ≡ 0) ⊎ (b ≡ 1)
cases_bit b lt = grind arith

none_above : (n i : ℕ) → (bit_at n i ≡ 1 → i < 64) → 64 ≤ i → bit_at n i ≡ 0
none_above n i low above =
    ⊎_elim (λ (zero : bit_at n i ≡ 0). zero) (λ (one : bit_at n i ≡ 1). let below = low one in absurd (omega (arith, below, above))) (cases_bit (bit_at n i) (bit_at-lt n i))

-- a number whose bits all stand below 64 is one word
word_from_bits : (n : ℕ) → ((i : ℕ) → bit_at n i ≡ 1 → i < 64) → n < 2 ^ 64
word_from_bits n low =
    let split = shr_split n 64 in
    let same : n ≡ n % 2 ^ 64 = same_from_bits n (n % 2 ^ 64) (λ i.
    ⊎_elim
    (λ (below : i < 64). sym (ap (λ m. bit_at m i) split) ∙ bit_at_cat_low (n / 2 ^ 64) 64 (n % 2 ^ 64) i below)
    (λ (above : 64 ≤ i). none_above n i (low i) above ∙ sym (bit_at_above (n % 2 ^ 64) 64 i (omega arith) above))
    (cases_lt i 64)) in
    omega (arith, same)

-- the least bit that is set is one of a seat, where all are
pub record Least (bits : ℕ) : Type 0 where
  pub least : is_least_bit bits (trailing_zeros w64 bits) ≡ true
  pub set : bit_at bits (trailing_zeros w64 bits) ≡ 1

pub least_bit : (bits : ℕ) → 0 < bits → ((q : ℕ) → bit_at bits q ≡ 1 → q < ANNOUNCERS) → Least bits
least_bit bits some low =
    let at = bit_at-trailing_zeros w64 bits some (word_from_bits bits (λ q one. let h = low q one in omega (arith, h))) in
    record {
      least = and_from (eqb (trailing_zeros w64 bits) (trailing_zeros w64 bits)) (ltb (trailing_zeros w64 bits) ANNOUNCERS)
          (eq-eqb (trailing_zeros w64 bits) (trailing_zeros w64 bits) refl) (lt-ltb (trailing_zeros w64 bits) ANNOUNCERS (low (trailing_zeros w64 bits) at.1));
      set = at.1;
    }
