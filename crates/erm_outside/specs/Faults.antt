-- Counts of faults, which never fall.
use Rattle.std.specs.Prelude.{◌≡◌, ◌==◌, ℕ, ◌+◌, ◌-◌, ◌^◌, ◌<◌, ◌⊎◌, if◌then◌else◌}

-- a count rose, or stands at its last value
abbrev pub Rose : ℕ → ℕ → Type 0
Rose before now = (before < now) ⊎ ((before ≡ 2 ^ 64 - 1) × (now ≡ 2 ^ 64 - 1))

-- one more, where 2 ^ 64 - 1 is the last
abbrev pub next : ℕ → ℕ
next n = if n == 2 ^ 64 - 1 then n else n + 1
