-- Draws one after another.
use Rattle.std.proofs.Common.{◌≡◌, ℕ, ◌+◌, ◌*◌, ◌/◌, ◌%◌, ◌<◌, refl, ap, ◌∙◌, arith, add-one}
use Rattle.erm_make.specs.Draws.{draw, state_after}

pub state_after-none : 1 ≡ state_after 0
unfolding state_after
state_after-none = refl

pub state_after-more : (s n : ℕ) → s ≡ state_after n → (s * 1103515245 + 12345) % 2147483648 ≡ state_after (n + 1)
unfolding state_after
state_after-more s n e = rw add-one (ap (λ t. (t * 1103515245 + 12345) % 2147483648) e)

pub draw-is : (s n : ℕ) → s ≡ state_after n → (s * 1103515245 + 12345) % 2147483648 / 65536 % 64 ≡ draw n
unfolding draw
draw-is s n e = ap (λ t. t / 65536 % 64) (state_after-more s n e ∙ ap (λ m. state_after m) (add-one n))

-- a draw is below 64
pub draw-small : (n : ℕ) → draw n < 64
unfolding draw
draw-small n = omega arith
