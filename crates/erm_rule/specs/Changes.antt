-- What a change makes of the word that it finds.
use Rattle.std.specs.Prelude.{ℕ, ◌+◌, ◌%◌, ◌^◌, ◌==◌, if◌then◌else◌, max, bit_and, bit_or}
use Rattle.erm_rule.specs.declared.change.Change.{Change}
use Rattle.erm_rule.specs.declared.change.Change.TheVariants as change

-- the word afterwards, where this one is found
abbrev pub changed : Change → ℕ → ℕ
changed change.Keep n = n
changed (change.Set new) n = new
changed (change.Add more) n = (n + more) % 2 ^ 64
changed (change.Exchange old new) n = if n == old then new else n
changed (change.Or bits) n = bit_or n bits
changed (change.And bits) n = bit_and n bits
changed (change.Raise least) n = max n least
