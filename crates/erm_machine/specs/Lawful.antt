-- Lawful: the law of rows, which callers keep and the machine carries through.
use Rattle.std.specs.Prelude.{◌≡◌, ℕ, ◌<◌, ◌≤◌}
use Rattle.erm_model.specs.Member.{◌∈◌}
use Rattle.erm_model.specs.Rows.{Rows}
use Rattle.erm_model.specs.Lawful.{IsLawfulRecord}
use Rattle.erm_model.specs.RowTransaction.{Law}
use Rattle.erm_machine.specs.declared.attempt.Attempt.{Attempt}
use Rattle.erm_machine.specs.declared.event.Kind.{Kind}
use Rattle.erm_machine.specs.declared.event.Kind.TheVariants as kind
use Rattle.erm_machine.specs.declared.part.Part.{Part}
use Rattle.erm_machine.specs.Core.{Core, Shared, version_at}
use Rattle.erm_machine.specs.Decided.{record_of}
use Rattle.erm_machine.specs.Facts.{all_of}

-- the rows found at opening
abbrev pub opening_rows : Shared → Rows
opening_rows s oid = (version_at (s.objects oid) 0).words.row

-- The opening's rows meet the law, and reach no object of a number that may be drawn. Each transaction that has drawn its
-- stamp is lawful.
pub record Lawful (law : Law) (s : Shared) (seats : ℕ → Part) : Type 0 where
  pub opening : law.meets (opening_rows s)
  pub below : (oid : ℕ) → s.first ≤ oid → law.reach (opening_rows s) oid ≡ 0
  pub lawful : (seat : ℕ) (t : Attempt) → t ∈ all_of (seats seat) → 0 < t.stamp → IsLawfulRecord law (record_of seat t)

-- a step that draws a range draws it for a lawful transaction: its caller's promise
abbrev pub DrawsLawfully : Law → Core → ℕ → Kind → Type 0
DrawsLawfully law c seat (kind.AddTail size) = IsLawfulRecord law (record_of seat (c.seats seat).current)
DrawsLawfully law c seat k = Unit {0}
