-- What lies ahead of a seat in its call as one number.
use Rattle.std.proofs.Common.{◌≡◌, ℕ, ◌+◌, ◌*◌, ◌^◌, ◌/◌, ◌%◌, ◌<◌, ◌≤◌, ◌⊎◌, ⊎_elim, ap, sym, ◌∙◌, arith}
use Rattle.std.specs.Int.{bit_at}
use Rattle.std.proofs.lemmas.Bool.{cases_lt}
use Rattle.std.proofs.lemmas.Nat.{shr_split}
use Rattle.std.proofs.lemmas.Nat.Bits.{bit_at-lt, bit_at_above, bit_at_cat_low, same_from_bits}
use Rattle.erm_machine.specs.declared.part.Part.{Part}
use Rattle.erm_core_calls.specs.Ending.{Ahead, IsLess, ahead, fewer_stages, less_left}

abbrev pub weight_of : Ahead → ℕ
weight_of a = a.stages * 2 ^ 64 + a.left

abbrev pub weight : Part → ℕ
weight x = weight_of (ahead x)

pub lighter : (a b : Ahead) → a.left < 2 ^ 64 → IsLess a b → weight_of a < weight_of b
lighter a b low (fewer_stages fewer) = omega (arith, low, fewer)
lighter a b low (less_left same less) = omega (arith, same, less)

cases_bit : (b : ℕ) → b < 2 → (b ≡ 0) ⊎ (b ≡ 1)
cases_bit b lt = grind arith

none_above : (n i : ℕ) → (bit_at n i ≡ 1 → i < 64) → 64 ≤ i → bit_at n i ≡ 0
none_above n i low above =
    ⊎_elim (λ (zero : bit_at n i ≡ 0). zero) (λ (one : bit_at n i ≡ 1). let below = low one in absurd (omega (arith, below, above))) (cases_bit (bit_at n i) (bit_at-lt n i))

-- a number whose bits all stand below 64 is one word
pub word_from_bits : (n : ℕ) → ((i : ℕ) → bit_at n i ≡ 1 → i < 64) → n < 2 ^ 64
word_from_bits n low =
    let split = shr_split n 64 in
    let same : n ≡ n % 2 ^ 64 = same_from_bits n (n % 2 ^ 64) (λ i.
    ⊎_elim
    (λ (below : i < 64). sym (ap (λ m. bit_at m i) split) ∙ bit_at_cat_low (n / 2 ^ 64) 64 (n % 2 ^ 64) i below)
    (λ (above : 64 ≤ i). none_above n i (low i) above ∙ sym (bit_at_above (n % 2 ^ 64) 64 i (omega arith) above))
    (cases_lt i 64)) in
    omega (arith, same)
