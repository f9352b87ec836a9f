-- The steps of one seat from one book to another, and the state that the steps of a pass with all seats lead to.
use Rattle.std.specs.Prelude.{◌≡◌, ℕ, true, List, [], ◌∷◌, ◌++◌, unwrap_or}
use Rattle.erm_model.specs.RowTransaction.{Law}
use Rattle.erm_machine.specs.declared.event.Event.{Event}
use Rattle.erm_machine.specs.declared.event.Kind.{Kind}
use Rattle.erm_machine.specs.declared.event.Kind.TheVariants as kind
use Rattle.erm_machine.specs.Core.{Core}
use Rattle.erm_machine.specs.Step.{after_event}
use Rattle.erm_machine.specs.Words.{is_seat}
use Rattle.erm_rule.specs.declared.view.Book.{Book}
use Rattle.erm_rule.specs.declared.view.Taken.{Taken}
use Rattle.erm_rule.specs.declared.view.View.{View}
use Rattle.erm_rule.specs.Openings.{start_core}
use Rattle.erm_rule.specs.Steps.{Booked}
use Rattle.erm_rule.specs.Views.{NotAmong}

-- The seat took these steps, the last one first: their kinds, with the words that they found.
abbrev pub Took : Law → ℕ → List (Kind × ℕ) → Book → Book → Type 0
Took law who [] b e = e ≡ b
Took law who (s ∷ steps) b e = (m : Book) × Took law who steps b m × Booked law m who s.0 s.1 e

-- this is so of each step's kind and word
abbrev pub AllSteps : (Kind → ℕ → Type 0) → List (Kind × ℕ) → Type 0
AllSteps P [] = Unit {0}
AllSteps P (s ∷ steps) = P s.0 s.1 × AllSteps P steps

-- the seat took some steps, and of each of them this is so
pub record Went (law : Law) (who : ℕ) (P : Kind → ℕ → Type 0) (b e : Book) : Type 0 where
  pub steps : List (Kind × ℕ)
  pub took : Took law who steps b e
  pub all : AllSteps P steps

-- a load: no word of the table changes
abbrev pub IsLoadStep : Kind → ℕ → Type 0
IsLoadStep (kind.LoadTail purpose) found = Unit {0}
IsLoadStep (kind.LoadBegin seat) found = Unit {0}
IsLoadStep (kind.LoadState seat bound) found = Unit {0}
IsLoadStep (kind.LoadEntry oid) found = Unit {0}
IsLoadStep (kind.LoadCell version w) found = Unit {0}
IsLoadStep (kind.LoadCounter counter) found = Unit {0}
IsLoadStep (kind.LoadReaders version) found = Unit {0}
IsLoadStep (kind.LoadStamp version w) found = Unit {0}
IsLoadStep (kind.LoadRing at) found = Unit {0}
IsLoadStep kind.LoadFlushed found = Unit {0}
IsLoadStep (kind.LoadDetached version) found = Unit {0}
IsLoadStep (kind.LoadBack seat) found = Unit {0}
IsLoadStep k found = ⊥

-- a step of one seat that leaves the log's end and the place flushed
abbrev pub IsStillStep : Kind → ℕ → Type 0
IsStillStep (kind.AddTail size) found = ⊥
IsStillStep (kind.StoreFlushed value) found = ⊥
IsStillStep (kind.Split other) found = ⊥
IsStillStep (kind.Join other) found = ⊥
IsStillStep k found = Unit {0}

-- the events of these steps, the first one first
abbrev pub events_of : ℕ → List (Kind × ℕ) → List Event
events_of who [] = []
events_of who (s ∷ steps) = events_of who steps ++ record { seat = who; kind = s.0 } ∷ []

-- the view has all seats with words
abbrev pub HasAll : View → Type 0
HasAll v = (q : ℕ) → is_seat q ≡ true → NotAmong q v.held → ⊥

-- so it is of the view, and of those before each of these steps
abbrev pub AreWhole : View → List Taken → Type 0
AreWhole v [] = HasAll v
AreWhole v (m ∷ ms) = HasAll v × AreWhole m.before ms

-- the pass has had all seats since the table's start
abbrev pub IsWhole : Book → Type 0
IsWhole b = AreWhole b.view b.taken

-- the state that these steps, the last one first, lead to from a first one
abbrev pub core_in : Core → List Taken → Core
core_in first [] = first
core_in first (m ∷ ms) = unwrap_or (after_event (core_in first ms) m.seat m.kind) (core_in first ms)

-- the state that the book's steps lead to from the table's start
abbrev pub core_of : Book → Core
core_of b = core_in (start_core b.start) b.taken
