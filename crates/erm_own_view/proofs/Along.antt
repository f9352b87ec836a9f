-- What is so of each state of a book, and of each later one.
use Rattle.std.proofs.Common.{◌≡◌, ℕ, ◌≤◌, Bool, true, false, List, [], ◌∷◌, Option, Some, None, refl, sym, ap, ◌∙◌, subst, le_trans}
use Rattle.std.specs.Prelude.{if◌then◌else◌}
use Rattle.std.proofs.lemmas.Option.{same_Some}
use Rattle.erm_model.specs.declared.limits.TheConstants.{SESSIONS, TABLE_CELLS}
use Rattle.erm_model.specs.RowTransaction.{Law}
use Rattle.erm_machine.specs.declared.event.Kind.{Kind}
use Rattle.erm_machine.specs.declared.event.Kind.TheVariants as kind
use Rattle.erm_machine.specs.declared.part.Part.{Part}
use Rattle.erm_machine.specs.declared.place.Place.TheVariants.{Idle, Vacant}
use Rattle.erm_machine.specs.Core.{Core, Shared, is_taken, spot_of, word_at}
use Rattle.erm_machine.specs.Facts.{HasBegun}
use Rattle.erm_machine.specs.Lawful.{opening_rows}
use Rattle.erm_machine.specs.Life.{join, split}
use Rattle.erm_machine.specs.Sound.{Sound}
use Rattle.erm_machine.specs.Step.{after_event, with_part}
use Rattle.erm_core_ring.specs.Begins.{BeginAtEnds}
use Rattle.erm_core_shown.specs.Shown.{NoneElse, shown_of}
use Rattle.erm_core_stays.specs.Staying.{Rises}
use Rattle.erm_core_view.specs.Steps.{ChangesOne, MeetsOne}
use Rattle.erm_core_view.specs.Views.{view_of}
use Rattle.erm_rule.specs.declared.view.Book.{Book}
use Rattle.erm_rule.specs.declared.view.Start.{Start}
use Rattle.erm_rule.specs.Books.{IsAfter, IsBookOf, Passes, past_of}
use Rattle.erm_rule.specs.Openings.{start_core}
use Rattle.erm_rule.specs.Steps.{Booked}
use Rattle.erm_rule.specs.Went.{Took}
use Rattle.erm_rule.proofs.Courses.{joined_later, of_course, onward, past_holds}
use Rattle.erm_world.specs.World.{Opening}
use Rattle.erm_own_view.specs.Own.{WasOf, opening_of}

-- what is so at the table's start, and is kept by every event, is so of each state of a book
pub of_book : (P : Core → Type 0) → ((c d : Core) → Passes c d → P c → P d) → (b : Book) (c : Core) → P (start_core b.start) → IsBookOf b c → P c
of_book P keeps b c at is = of_course P keeps (start_core b.start) b.view b.taken c at is.course

-- what is so of each state of a book, and is kept by every event, is so of each later one
pub of_later : (P : Core → Type 0) → ((c d : Core) → Passes c d → P c → P d) → (b : Book) (c : Core) → ((s : Core) → IsBookOf b s → P s) → WasOf b c → P c
of_later P keeps b c so was =
    past_holds P keeps (past_of b) c (λ s is. so s (record { sound = is.sound; is_view = is.is_view; course = is.course }))
    (record { state = was.state; is = record { sound = was.is.sound; is_view = was.is.is_view; course = was.is.course }; later = was.later })

pub was_itself : (b : Book) (c : Core) → IsBookOf b c → WasOf b c
was_itself b c is = record { state = c; is = is; later = (0, refl) }

-- a state of a later book is a state of the first, or a later one
pub was_before : (b e : Book) (c : Core) → IsAfter b e → WasOf e c → WasOf b c
was_before b e c goes was =
    let met = goes was.state was.is in
    record { state = met.start; is = met.is; later = joined_later met.start was.state c (joined_later met.start met.state was.state met.since met.later) was.later }

-- NOBODY ELSE has had a transaction
module _ (keeps : (c d : Core) (seat : ℕ) (k : Kind) → Sound c → NoneElse c → after_event c seat k ≡ Some d → NoneElse d) where
  none_passes : (c d : Core) → Passes c d → NoneElse c → NoneElse d
  none_passes c d passes none = keeps c d passes.1.0 passes.1.1 passes.0 none passes.1.2

  pub none_of : (b : Book) (c : Core) → NoneElse (start_core b.start) → WasOf b c → NoneElse c
  none_of b c first was = of_later NoneElse none_passes b c (λ s is. of_book NoneElse none_passes b s first is) was

-- TRANSACTIONS BEGIN where ranges end
none_begun : (b : Bool) → HasBegun (if b then Idle else Vacant) → ⊥
none_begun true begun = begun
none_begun false begun = begun

first_begins : (start : Start) → BeginAtEnds (start_core start)
first_begins start seat = record { ends = λ begun. absurd (none_begun (is_taken start.sessions seat) begun) }

module _ (keeps : (c d : Core) (seat : ℕ) (k : Kind) → Sound c → BeginAtEnds c → after_event c seat k ≡ Some d → BeginAtEnds d) where
  pub begins_of : (b : Book) (c : Core) → IsBookOf b c → BeginAtEnds c
  begins_of b c is = of_book BeginAtEnds (λ d e passes begins. keeps d e passes.1.0 passes.1.1 passes.0 begins passes.1.2) b c (first_begins b.start) is

-- THE OPENING stays
abbrev shared_opening : Shared → Opening
shared_opening s = record { rows = opening_rows s; tail = s.opening; run = s.run; first = s.first; cells = s.cell_limit; sessions = SESSIONS; cuts = TABLE_CELLS }

abbrev opening_in : Core → Opening
opening_in c = (shown_of SESSIONS c).opening

part_opening : (c d : Core) (seat : ℕ) (o : Option Part) → with_part c seat o ≡ Some d → opening_in d ≡ opening_in c
part_opening c d seat None e = absurd (cc)
part_opening c d seat (Some y) e = ap (λ (z : Core). shared_opening z.shared) (sym (same_Some _ d e))

split_opening : (c d : Core) (seat other : ℕ) (b : Bool) → (if b then with_part c other (split (c.seats seat) (c.seats other)) else None) ≡ Some d → opening_in d ≡ opening_in c
split_opening c d seat other true e = part_opening c d other (split (c.seats seat) (c.seats other)) e
split_opening c d seat other false e = absurd (cc)

join_opening : (c d : Core) (seat other : ℕ) (b : Bool) → (if b then None else with_part c seat (join (c.seats seat) (c.seats other))) ≡ Some d → opening_in d ≡ opening_in c
join_opening c d seat other true e = absurd (cc)
join_opening c d seat other false e = part_opening c d seat (join (c.seats seat) (c.seats other)) e

module _ (one : (sessions seat : ℕ) (c d : Core) (k : Kind) → Sound c → MeetsOne k → after_event c seat k ≡ Some d → ChangesOne seat k (view_of sessions c) (view_of sessions d)) where
  pub event_opening : (c d : Core) (seat : ℕ) (k : Kind) → Sound c → after_event c seat k ≡ Some d → opening_in d ≡ opening_in c
  event_opening c d seat (kind.Split other) sound e = split_opening c d seat other _ e
  event_opening c d seat (kind.Join other) sound e = join_opening c d seat other _ e
  event_opening c d seat k sound e = ap (λ (o : Opening). record o { cuts = TABLE_CELLS }) (one SESSIONS seat c d k sound tt e).opening

  pub opening_kept : (b : Book) (c : Core) → WasOf b c → opening_in c ≡ opening_of b.start
  opening_kept b c was =
      let P : Core → Type 0 = λ d. opening_in d ≡ opening_of b.start in
      let keeps : (d e : Core) → Passes d e → P d → P e = λ d e passes so. event_opening d e passes.1.0 passes.1.1 passes.0 passes.1.2 ∙ so in
      of_later P keeps b c (λ s is. of_book P keeps b s refl is) was

-- THE LOG comes further
abbrev IsSeen : ℕ → ℕ → Core → Type 0
IsSeen tail flushed c = (tail ≤ c.shared.tail) × (flushed ≤ c.shared.flushed)

module _ (rises : (c d : Core) (seat : ℕ) (k : Kind) → Sound c → after_event c seat k ≡ Some d → Rises c.shared d.shared) where
  seen_passes : (tail flushed : ℕ) (c d : Core) → Passes c d → IsSeen tail flushed c → IsSeen tail flushed d
  seen_passes tail flushed c d passes seen = let up = rises c d passes.1.0 passes.1.1 passes.0 passes.1.2 in (le_trans seen.0 up.tail, le_trans seen.1 up.flushed)

  pub seen_of : (tail flushed : ℕ) (b : Book) (c : Core) → ((s : Core) → IsBookOf b s → IsSeen tail flushed s) → WasOf b c → IsSeen tail flushed c
  seen_of tail flushed b c seen was = of_later (IsSeen tail flushed) (seen_passes tail flushed) b c seen was

-- STEPS of a seat leave the table's start, and a state of the book after them
pub took_start : (law : Law) (who : ℕ) (steps : List (Kind × ℕ)) (b e : Book) → Took law who steps b e → e.start ≡ b.start
took_start law who [] b e same = ap (λ (z : Book). z.start) same
took_start law who (s ∷ steps) b e took = ap (λ (z : Book). z.start) took.2.book_is ∙ took_start law who steps b took.0 took.1

-- WHAT A STEP FOUND, in whatever state it was taken, and every event keeps, is so of each state of the book after it.
pub found_then : (law : Law) (P : Core → Type 0) → ((c d : Core) → Passes c d → P c → P d) → (m : Book) (who : ℕ) (k : Kind) (found : ℕ) (e : Book) → Booked law m who k found e
    → ((c : Core) → IsBookOf m c → word_at c (spot_of who k) ≡ found → P c) → (c : Core) → IsBookOf e c → P c
found_then law P keeps m who k found e booked so c is =
    onward P m who k found e.view (λ d f _ passes at. keeps d f passes at) (λ d f of met event. keeps d f (of.sound, (who, k, event)) (so d of met)) c
    (subst (λ (z : Book). IsBookOf z c) booked.book_is is)

-- the state in which a step was taken
pub state_before : (law : Law) (m : Book) (who : ℕ) (k : Kind) (found : ℕ) (e : Book) (booked : Booked law m who k found e) → IsBookOf m booked.under.told.before
state_before law m who k found e booked = record { sound = booked.under.told.sound; is_view = booked.under.told.is_view; course = booked.course }
