-- The seats of sessions.
use Rattle.std.specs.Prelude.{◌≡◌, ℕ, ◌+◌, ◌-◌, ◌<◌, ◌≤◌, ◌⊎◌, List, length, Some}
use Rattle.std.specs.List.{slice_get}
use Rattle.erm_model.specs.Member.{◌∈◌}

-- The seat of a session, after lines that named these sessions in this order: the place of its name among them, from 1,
-- or the next one, where no line named it and there are fewer than there may be.
abbrev pub IsSeatOf : ℕ → List ℕ → List (List ℕ) → ℕ → Type 0
IsSeatOf most name names seat =
    ((1 ≤ seat) × (slice_get names (seat - 1) ≡ Some name))
    ⊎ ((seat ≡ length names + 1) × (length names < most) × (name ∈ names → ⊥))
