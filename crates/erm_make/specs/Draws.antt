-- The draws of keys.
use Rattle.std.specs.Prelude.{ℕ, zero, suc, ◌+◌, ◌*◌, ◌/◌, ◌%◌, ◌^◌}

-- The state of a linear congruential generator (Knuth, The Art of Computer Programming, volume 2, section 3.2.1) after so many draws:
-- modulus 2^31, multiplier 1103515245, increment 12345, and 1 at first.
unfoldable pub state_after : ℕ → ℕ
state_after zero = 1
state_after (suc n) = (state_after n * 1103515245 + 12345) % 2 ^ 31

-- a draw, by its number from 0: a key below 64, of the state's upper bits
unfoldable pub draw : ℕ → ℕ
draw n = state_after (suc n) / 65536 % 64
