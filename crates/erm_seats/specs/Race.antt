-- What a session has done that has begun, sealed and looked at another one, each once; and two sessions that race.
use Rattle.std.specs.Prelude.{◌≡◌, ◌≢◌, ℕ, ◌<◌, ◌≤◌, true, false}
use Rattle.erm_machine.specs.declared.part.Part.{Part}
use Rattle.erm_machine.specs.declared.place.Place.TheVariants.{Idle}
use Rattle.erm_machine.specs.Core.{Core, fresh_part}
use Rattle.erm_machine.specs.Sound.{Sound}
use Rattle.erm_machine.specs.Words.{is_clear}
use Rattle.erm_rule.specs.declared.view.Opening.{Opening}
use Rattle.erm_rule.specs.declared.view.View.{View}
use Rattle.erm_rule.specs.Views.{one_seat, part_of}
use Rattle.erm_seats.specs.declared.answer.BeginStop.{BeginStop}
use Rattle.erm_seats.specs.declared.answer.Look.{Look}
use Rattle.erm_seats.specs.declared.answer.Look.TheVariants.{Clear, NotYet}
use Rattle.erm_seats.specs.Calls.{begun_part, sealed_part, clear_part, DidStop, FindsState, OnClear, StaysClear}

-- the part of a seat that has done nothing yet
abbrev pub idle_part : Opening → Part
idle_part o = fresh_part Idle o.run o.tail

-- the part after a look
abbrev pub after_look : ℕ → ℕ → Look → Part → Part
after_look seat bound Clear x = clear_part seat bound x
after_look seat bound (NotYet other seen) x = x

-- the part of a seat that has begun, and sealed a range of so many words
abbrev pub settling_part : Opening → (who size announced begin stamp : ℕ) → Part
settling_part o who size announced begin stamp = sealed_part size stamp (begun_part who announced begin (idle_part o))

-- the part of a seat that has then looked at another seat with its commit stamp
abbrev pub ran_part : Opening → (who other size announced begin stamp : ℕ) → Look → Part
ran_part o who other size announced begin stamp answer = after_look other stamp answer (settling_part o who size announced begin stamp)

-- What the look of a seat with this part found. Clear: a state word that is clear for the bound. Not yet: the answer has the
-- seat asked and its state word, which isn't.
abbrev pub HasLooked : ℕ → Part → ℕ → ℕ → Look → Type 0
HasLooked who x seat bound Clear = (found : ℕ) × FindsState (one_seat who x) seat found × (is_clear found bound ≡ true)
HasLooked who x seat bound (NotYet q seen) = (q ≡ seat) × FindsState (one_seat who x) seat seen × (is_clear seen bound ≡ false)

-- a session that had done nothing yet didn't begin: the tail that it found was at or above 2 ^ 60
abbrev pub HasStopped : Opening → ℕ → Type 0
HasStopped o who = (stop : BeginStop) × (w : View) × DidStop (one_seat who (idle_part o)) who stop w

-- A pass with one seat that ran. Where the other was clear, it stays so.
pub record HasRun (o : Opening) (who other size begin stamp : ℕ) (answer : Look) (v : View) : Type 0 where
  pub announced : ℕ
  pub in_order : (0 < announced) × (announced ≤ begin) × (begin ≤ stamp)
  pub view_is : v ≡ one_seat who (ran_part o who other size announced begin stamp answer)
  pub looked : HasLooked who (settling_part o who size announced begin stamp) other stamp answer
  pub stays : OnClear answer (StaysClear who other stamp (part_of v who).clear)

-- Sessions 1 and 2 ran side by side: in the last state, which is a sound one of the opening, each has its part, and this is
-- the tail. Their stamps differ, and one that found the other clear has the lower stamp.
pub record HaveRaced (o : Opening) (size tail begin stamp : ℕ) (answer : Look) (begin_too stamp_too : ℕ) (answer_too : Look) : Type 0 where
  pub core : Core
  pub sound : Sound core
  pub opened : core.shared.opening ≡ o.tail
  pub tail_is : core.shared.tail ≡ tail
  pub announced : ℕ
  pub announced_too : ℕ
  pub in_order : (0 < announced) × (announced ≤ begin) × (begin ≤ stamp)
  pub in_order_too : (0 < announced_too) × (announced_too ≤ begin_too) × (begin_too ≤ stamp_too)
  pub first : core.seats 1 ≡ ran_part o 1 2 size announced begin stamp answer
  pub second : core.seats 2 ≡ ran_part o 2 1 size announced_too begin_too stamp_too answer_too
  pub looked : HasLooked 1 (settling_part o 1 size announced begin stamp) 2 stamp answer
  pub looked_too : HasLooked 2 (settling_part o 2 size announced_too begin_too stamp_too) 1 stamp_too answer_too
  pub apart : stamp ≢ stamp_too
  pub lower : answer ≡ Clear → stamp < stamp_too
  pub lower_too : answer_too ≡ Clear → stamp_too < stamp
