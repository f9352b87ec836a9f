-- What a pass keeps of the steps that it has taken, and how these lead from the table's start to a state.
use Rattle.std.specs.Prelude.{◌≡◌, ℕ, zero, suc, true, List, [], ◌∷◌, ◌++◌, Some}
use Rattle.atomic_table.specs.declared.shared.Seat.{Seat}
use Rattle.erm_machine.specs.declared.event.Kind.{Kind}
use Rattle.erm_machine.specs.declared.event.Kind.TheVariants as kind
use Rattle.erm_machine.specs.Core.{Core, spot_of, word_at}
use Rattle.erm_machine.specs.Sound.{Sound}
use Rattle.erm_machine.specs.Step.{after_event}
use Rattle.erm_machine.specs.Words.{is_seat, state_of}
use Rattle.erm_model.specs.Member.{◌∈◌}
use Rattle.erm_rule.specs.declared.view.Book.{Book}
use Rattle.erm_rule.specs.declared.view.Held.{Held}
use Rattle.erm_rule.specs.declared.view.Past.{Past}
use Rattle.erm_rule.specs.declared.view.Start.{Start}
use Rattle.erm_rule.specs.declared.view.Taken.{Taken}
use Rattle.erm_rule.specs.declared.view.View.{View}
use Rattle.erm_rule.specs.Openings.{no_start, start_core}
use Rattle.erm_rule.specs.Views.{of_seats, first_held, last_held, left_of, right_of, joined, IsView, NotAmong}

-- the pass's view, with the steps that it has taken
abbrev pub book : Seat (Unit {0}) Book → Book
book p = p.me.0

-- the view, and the steps by which it came to be one
abbrev pub view_in : Book → View
view_in b = b.view

-- an event of some seat in a sound state leads from it to another
abbrev pub Passes : Core → Core → Type 0
Passes c d = Sound c × ((seat : ℕ) × (kind : Kind) × (after_event c seat kind ≡ Some d))

-- an event of a seat that the view doesn't have leads from a sound state to another
abbrev pub PassesBy : View → Core → Core → Type 0
PassesBy v c d = Sound c × ((seat : ℕ) × (kind : Kind) × (is_seat seat ≡ true) × NotAmong seat v.held × (after_event c seat kind ≡ Some d))

-- so many events of such seats lead from one state to another, and each state that they leave has the parts of the view
abbrev pub LeadsIn : View → ℕ → Core → Core → Type 0
LeadsIn v zero c d = c ≡ d
LeadsIn v (suc n) c d = (b : Core) × LeadsIn v n c b × IsView v b × PassesBy v b d

-- some events of such seats lead from one state to another, and leave the parts of the view
abbrev pub Leads : View → Core → Core → Type 0
Leads v c d = (n : ℕ) × LeadsIn v n c d

-- The step was taken in some sound state, which had the parts of the view that the pass had then; and events of seats that the pass
-- hasn't had since lead to this state, and leave the parts of the view that it has had since.
pub record WasTaken (m : Taken) (since : View) (c : Core) : Type 0 where
  pub before : Core
  pub sound : Sound before
  pub is_view : IsView m.before before
  pub met : word_at before (spot_of m.seat m.kind) ≡ m.found
  pub after : Core
  pub event : after_event before m.seat m.kind ≡ Some after
  pub leads : Leads since after c

-- The steps of these, the last one first, were taken one after another on the way from the first state to this one, and the pass has
-- had this view since the last of them.
abbrev pub CourseFrom : Core → View → List Taken → Core → Type 0
CourseFrom first v [] c = Leads v first c
CourseFrom first v (m ∷ ms) c = (t : WasTaken m v c) × CourseFrom first m.before ms t.before

-- the steps of the book lead from the table's start to this state
abbrev pub Course : Book → Core → Type 0
Course b c = CourseFrom (start_core b.start) b.view b.taken c

-- the view has a seat
abbrev pub HasSeats : View → Type 0
HasSeats v = (h : Held) × (h ∈ v.held)

-- the book after a step: the view is now this one
abbrev pub noted : Book → ℕ → Kind → ℕ → View → Book
noted b who k found w = record b { view = w; taken = record { seat = who; kind = k; found = found; before = b.view } ∷ b.taken }

-- The book is one of the state: a sound one, in which the seats of its view have its parts, and to which its steps lead.
pub record IsBookOf (b : Book) (c : Core) : Type 0 where
  pub sound : Sound c
  pub is_view : IsView b.view c
  pub course : Course b c

-- so many events, by whatever seats, lead from one state to another
abbrev pub PassesIn : ℕ → Core → Core → Type 0
PassesIn zero c d = c ≡ d
PassesIn (suc n) c d = (b : Core) × PassesIn n c b × Passes b d

-- the second state is the first one, or a later one
abbrev pub IsLater : Core → Core → Type 0
IsLater c d = (n : ℕ) × PassesIn n c d

-- On the way from a state of the book to this one a state was met, the first and the last among them, of which this is so.
pub record WasMet (b : Book) (P : Core → Type 0) (c : Core) : Type 0 where
  pub start : Core
  pub is : IsBookOf b start
  pub state : Core
  pub since : IsLater start state
  pub met : P state
  pub later : IsLater state c

-- between two books such a state was met, whatever state the second is one of
abbrev pub WasSeen : Book → (Core → Type 0) → Book → Type 0
WasSeen b P e = (c : Core) → IsBookOf e c → WasMet b P c

-- the second book comes after the first: each state of it is a state of the first, or later than one
abbrev pub IsAfter : Book → Book → Type 0
IsAfter b e = WasSeen b (λ _. Unit {0}) e

-- The last step to the second book was this one, of that seat, and found this; the book before it comes after the first.
pub record LastFound (b : Book) (who : ℕ) (k : Kind) (found : ℕ) (e : Book) : Type 0 where
  pub middle : Book
  pub goes : IsAfter b middle
  pub is : e ≡ noted middle who k found e.view

-- the book is one of some state
abbrev pub HasState : Book → Type 0
HasState b = (c : Core) × IsBookOf b c

-- between two books a seat's state word was this
abbrev pub WasState : Book → (seat seen : ℕ) → Book → Type 0
WasState b seat seen e = WasSeen b (λ s. state_of (s.seats seat).place ≡ seen) e

-- between two books the log was synced up to this place
abbrev pub WasFlushed : Book → ℕ → Book → Type 0
WasFlushed b place e = WasSeen b (λ s. s.shared.flushed ≡ place) e

-- the book as it is now, for one that takes it in; and that book, without those that it had taken in
abbrev pub past_of : Book → Past
past_of b = record { start = b.start; view = b.view; taken = b.taken }

abbrev pub book_of : Past → Book
book_of m = record { start = m.start; view = m.view; taken = m.taken; past = [] }

-- a state of the book that was taken in was met on the way to this one
pub record WasBook (m : Past) (c : Core) : Type 0 where
  pub state : Core
  pub is : IsBookOf (book_of m) state
  pub later : IsLater state c

-- so it is of each of these
abbrev pub TookIn : List Past → Core → Type 0
TookIn ms c = (m : Past) → m ∈ ms → WasBook m c

-- the first book of a view: no step was taken
abbrev pub new_book : Start → View → Book
new_book start v = record { start = start; view = v; taken = []; past = [] }

-- SPLIT. Both books have the giver's steps, and this one.
abbrev pub left_book : Book → Book
left_book b = noted b (first_held b.view).seat (kind.Split (last_held b.view).seat) 0 (left_of b.view)

abbrev pub right_book : Book → Book
right_book b = noted b (first_held b.view).seat (kind.Split (last_held b.view).seat) 0 (right_of b.view)

-- JOIN. The taker's book has its own steps, and this one; the book taken in is kept as it was, with those that it had taken in.
abbrev pub both_books : Book → Book → Book
both_books a b = record (noted a (first_held a.view).seat (kind.Join (first_held b.view).seat) 0 (joined a.view b.view)) { past = (a.past ++ b.past) ++ past_of b ∷ [] }

abbrev pub spent_book : Book
spent_book = new_book no_start (of_seats [])
