-- What a pass's view says of the machine: the seats that it has, with their parts.
use Rattle.std.specs.Prelude.{◌≡◌, ◌≢◌, ℕ, ◌-◌, ◌<◌, ◌≤◌, true, false, ◌==◌, if◌then◌else◌, List, [], ◌∷◌, ◌++◌, length, map, take, slice_index_or, max, Option, Some, None, unwrap_or}
use Rattle.atomic_table.specs.declared.shared.Seat.{Seat}
use Rattle.erm_model.specs.Member.{◌∈◌}
use Rattle.erm_machine.specs.declared.part.Part.{Part}
use Rattle.erm_machine.specs.declared.place.Place.TheVariants.{Vacant, Idle}
use Rattle.erm_machine.specs.Core.{Core, fresh_part}
use Rattle.erm_machine.specs.Seat.{saw, is_vacant}
use Rattle.erm_machine.specs.Words.{is_seat}
use Rattle.erm_rule.specs.declared.view.Book.{Book}
use Rattle.erm_rule.specs.declared.view.Held.{Held}
use Rattle.erm_rule.specs.declared.view.View.{View}

-- what the pass knows
abbrev pub view : Seat (Unit {0}) Book → View
view p = p.me.0.view

-- the view with these seats
abbrev pub of_seats : List Held → View
of_seats hs = record { held = hs }

-- the part of the first of these that is the seat of that number
abbrev pub part_among : ℕ → List Held → Option Part
part_among q [] = None
part_among q (h ∷ hs) = if h.seat == q then Some h.part else part_among q hs

-- the part of the seat of that number, if the view has it
abbrev pub part_in : View → ℕ → Option Part
part_in v q = part_among q v.held

-- the part of the seat of that number, or a vacant one
abbrev pub part_of : View → ℕ → Part
part_of v q = unwrap_or (part_in v q) (fresh_part Vacant 0 0)

-- the seat, whose part is now x if it is the one of that number
abbrev pub held_after : ℕ → Part → Held → Held
held_after q x h = record h { part = if h.seat == q then x else h.part }

-- the view in which the part of the seat of that number is x
abbrev pub with_part : ℕ → Part → View → View
with_part q x v = of_seats (map (held_after q x) v.held)

-- the parts of the view's seats are the state's
abbrev pub IsView : View → Core → Type 0
IsView v c = (q : ℕ) (x : Part) → part_in v q ≡ Some x → c.seats q ≡ x

-- the seat isn't among these
abbrev pub NotAmong : ℕ → List Held → Type 0
NotAmong q hs = (h : Held) → h ∈ hs → h.seat ≢ q

-- each seat stands once
abbrev pub EachOnce : List Held → Type 0
EachOnce [] = Unit {0}
EachOnce (h ∷ hs) = NotAmong h.seat hs × EachOnce hs

-- each seat of the view stands once, and has words
pub record IsInOrder (v : View) : Type 0 where
  pub once : EachOnce v.held
  pub seats : (h : Held) → h ∈ v.held → is_seat h.seat ≡ true

-- a seat without words
abbrev pub no_held : Held
no_held = record { seat = 0; part = fresh_part Vacant 0 0 }

-- the first seat of the view, and the last
abbrev pub first_held : View → Held
first_held v = slice_index_or v.held 0 no_held

abbrev pub last_held : View → Held
last_held v = slice_index_or v.held (length v.held - 1) no_held

-- the view that has one seat
abbrev pub one_seat : ℕ → Part → View
one_seat q x = of_seats (record { seat = q; part = x } ∷ [])

-- the view may hand out its last seat: that is a vacant one, and the first is another that isn't
pub record MayGive (v : View) : Type 0 where
  pub several : 2 ≤ length v.held
  pub giver : is_vacant (first_held v).part.place ≡ false
  pub given : is_vacant (last_held v).part.place ≡ true

-- the view may take in the seats of another, or be taken in: its first seat isn't vacant
pub record MayJoin (v : View) : Type 0 where
  pub some_held : 0 < length v.held
  pub taken : is_vacant (first_held v).part.place ≡ false

-- SPLIT. The view without its last seat; and that seat, which is taken now, and has seen what the first one had seen.
abbrev pub left_of : View → View
left_of v = of_seats (take (length v.held - 1) v.held)

abbrev pub taken : Held → Held → Held
taken giver given = record given { part = record given.part { place = Idle; seen = giver.part.seen } }

abbrev pub right_of : View → View
right_of v = of_seats (taken (first_held v) (last_held v) ∷ [])

-- JOIN. The first seat of the view has seen what the first one of the other has seen. Then come the other's seats.
abbrev pub after_join : View → View → View
after_join v w = with_part (first_held v).seat (saw (max (first_held v).part.seen (first_held w).part.seen) (first_held v).part) v

abbrev pub joined : View → View → View
joined v w = of_seats ((after_join v w).held ++ w.held)
