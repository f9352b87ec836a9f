-- What a transaction still needs of its seat's lists, by the place of its seat.
use Rattle.std.specs.Prelude.{ℕ, ◌+◌, ◌*◌, Bool, if◌then◌else◌}
use Rattle.erm_machine.specs.declared.place.Place.{Place}
use Rattle.erm_machine.specs.declared.place.Place.TheVariants.{Vacant, Idle, Begun, Announced, Active, Sealing, Drawn, Sealed, Decided}
use Rattle.erm_machine.specs.declared.task.Task.{Task}
use Rattle.erm_machine.specs.declared.task.Task.TheVariants as task

-- a number at a session's seat, and 0 at the flush seat, whose pins leave nothing
abbrev pub lasting : Bool → ℕ → ℕ
lasting flushes n = if flushes then 0 else n

-- 1 for true, 0 for false
abbrev pub one : Bool → ℕ
one b = if b then 1 else 0

-- 1 where a transaction has begun and may still draw a range, else 0
abbrev pub awaiting : Bool → Place → ℕ
awaiting flushes (Begun tail) = lasting flushes 1
awaiting flushes (Announced tail) = lasting flushes 1
awaiting flushes (Active tail) = lasting flushes 1
awaiting flushes (Sealing tail) = 1
awaiting flushes _ = 0

-- 1 where a transaction is in progress, which will be over, else 0
abbrev pub busy : Bool → Place → ℕ
busy flushes Vacant = 0
busy flushes Idle = 0
busy flushes (Begun tail) = lasting flushes 1
busy flushes (Announced tail) = lasting flushes 1
busy flushes (Active tail) = lasting flushes 1
busy flushes _ = 1

-- How many words its block still needs where the transaction has no range yet, else 0: 4, and 17 for each of its claims.
abbrev pub unsealed : Bool → Place → ℕ → ℕ
unsealed flushes (Begun tail) claims = lasting flushes 4
unsealed flushes (Announced tail) claims = lasting flushes 4
unsealed flushes (Active tail) claims = lasting flushes (4 + 17 * claims)
unsealed flushes (Sealing tail) claims = 4 + 17 * claims
unsealed flushes _ claims = 0

-- a number while the transaction has a range and isn't decided, else 0
abbrev pub undecided : Place → ℕ → ℕ
undecided (Drawn tail stamp) n = n
undecided (Sealed tail stamp) n = n
undecided _ n = 0

-- a number while the transaction may have claims that aren't over, else 0
abbrev pub holding : Place → ℕ → ℕ
holding (Active tail) n = n
holding (Sealing tail) n = n
holding (Drawn tail stamp) n = n
holding (Sealed tail stamp) n = n
holding (Decided tail stamp) n = n
holding _ n = 0

-- the session to which a snapshot has come that looks whether it is safe, else 0
abbrev pub surveyed : Task → ℕ
surveyed (task.Surveys next) = next
surveyed (task.Behind next) = next
surveyed _ = 0

-- no transaction is in progress
abbrev pub IsUnused : Place → Type 0
IsUnused Vacant = Unit {0}
IsUnused Idle = Unit {0}
IsUnused _ = ⊥
