-- The steps of a begin, of a seal and of a look, the last one first, with the words that they found.
use Rattle.std.specs.Prelude.{◌≡◌, ℕ, true, false, [], ◌∷◌}
use Rattle.erm_machine.specs.declared.event.Kind.TheVariants.{LoadTail, AddTail, StoreBegin, StoreState, LoadState}
use Rattle.erm_machine.specs.declared.event.TailUse.TheVariants as tail
use Rattle.erm_machine.specs.Words.{is_clear, refuses}
use Rattle.erm_model.specs.RowTransaction.{Law}
use Rattle.erm_rule.specs.declared.view.Book.{Book}
use Rattle.erm_rule.specs.Steps.{Booked}
use Rattle.erm_rule.specs.Went.{Took}
use Rattle.erm_seats.specs.declared.answer.BeginStop.{BeginStop}
use Rattle.erm_seats.specs.declared.answer.BeginStop.TheVariants.{LogEnd}
use Rattle.erm_seats.specs.declared.answer.Look.{Look}
use Rattle.erm_seats.specs.declared.answer.Look.TheVariants.{Clear, NotYet}

-- BEGIN. The seat loaded the tail, announced it, and loaded the tail once more: that one is the begin stamp.
pub record TookBegin (law : Law) (who begin : ℕ) (b e : Book) : Type 0 where
  pub announced : ℕ
  pub word : ℕ
  pub low : refuses who announced ≡ false
  pub took : Took law who ((LoadTail tail.Begin, begin) ∷ (StoreBegin announced, word) ∷ (LoadTail tail.Begin, announced) ∷ []) b e

-- It loaded the tail, and went no further.
abbrev pub TookStop : Law → ℕ → BeginStop → Book → Book → Type 0
TookStop law who (LogEnd found) b e = (refuses who found ≡ true) × Took law who ((LoadTail tail.Begin, found) ∷ []) b e

-- SEAL. It announced that it seals, drew its range at the tail, and stored the stamp.
pub record TookSeal (law : Law) (who size stamp : ℕ) (b e : Book) : Type 0 where
  pub first : ℕ
  pub last : ℕ
  pub took : Took law who ((StoreState stamp, last) ∷ (AddTail size, stamp) ∷ (StoreState 1, first) ∷ []) b e

-- LOOK. It loaded the other seat's state word.
abbrev pub TookLook : Law → (who seat bound : ℕ) → Look → Book → Book → Type 0
TookLook law who seat bound Clear b e = (found : ℕ) × (is_clear found bound ≡ true) × Booked law b who (LoadState seat bound) found e
TookLook law who seat bound (NotYet other seen) b e = (other ≡ seat) × (is_clear seen bound ≡ false) × Booked law b who (LoadState other bound) seen e
