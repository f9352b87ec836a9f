-- Books beside their views, and the steps taken, which go on to lead to the state.
use Rattle.std.proofs.Common.{◌≡◌, ◌≢◌, ℕ, zero, suc, ◌⊎◌, inl, inr, ⊎_elim, List, [], ◌∷◌, ◌++◌, length, map, set, Some, refl, sym, ap, subst}
use mathlib.Core.Option.{some, some-injective, some-ne-none}
use lib.ListN.{get_elem?}
use Rattle.atomic_table.proofs.Lists.{at_set}
use Rattle.erm_machine.specs.declared.event.Kind.{Kind}
use Rattle.erm_machine.specs.Core.{Core, spot_of, word_at}
use Rattle.erm_machine.specs.Sound.{Sound}
use Rattle.erm_machine.specs.Step.{after_event}
use Rattle.erm_model.specs.Member.{◌∈◌}
use Rattle.erm_rule.specs.declared.view.Book.{Book}
use Rattle.erm_rule.specs.declared.view.Past.{Past}
use Rattle.erm_rule.specs.declared.view.Start.{Start}
use Rattle.erm_rule.specs.declared.view.Taken.{Taken}
use Rattle.erm_rule.specs.declared.view.View.{View}
use Rattle.erm_rule.specs.Books.{view_in, Passes, PassesBy, LeadsIn, Leads, WasTaken, CourseFrom, Course, HasSeats, IsBookOf, IsLater, PassesIn, WasMet, WasSeen, IsAfter, LastFound, HasState, WasBook, TookIn, book_of, noted}
use Rattle.erm_model.specs.RowTransaction.{Law}
use Rattle.erm_rule.specs.Steps.{Booked, ToldUnder}
use Rattle.erm_rule.specs.Openings.{start_core}
use Rattle.erm_rule.specs.Views.{IsView}
use Rattle.erm_rule.proofs.Parts.{in_either, split_at, none_there}

-- the views of books, one by one
pub views_at : (books : List Book) (id : ℕ) (b : Book) → get_elem? books id ≡ some b → get_elem? (map view_in books) id ≡ some b.view
views_at [] id b at = absurd (some-ne-none b (sym at))
views_at (x ∷ xs) zero b at = ap (λ (z : Book). some z.view) (some-injective x b at)
views_at (x ∷ xs) (suc id) b at = views_at xs id b at

pub views_set : (books : List Book) (id : ℕ) (b : Book) → map view_in (set books id b) ≡ set (map view_in books) id b.view
views_set [] id b = refl
views_set (x ∷ xs) zero b = refl
views_set (x ∷ xs) (suc id) b = ap (λ (l : List View). x.view ∷ l) (views_set xs id b)

pub views_more : (books : List Book) (b : Book) → map view_in (books ++ b ∷ []) ≡ map view_in books ++ b.view ∷ []
views_more [] b = refl
views_more (x ∷ xs) b = ap (λ (l : List View). x.view ∷ l) (views_more xs b)

pub views_many : (books : List Book) → length (map view_in books) ≡ length books
views_many [] = refl
views_many (x ∷ xs) = ap suc (views_many xs)

-- an event of a seat that the view doesn't have is an event
pub passes_of : (v : View) (c d : Core) → PassesBy v c d → Passes c d
passes_of v c d by = (by.0, (by.1.0, by.1.1, by.1.4))

-- what led to a state leads to the one after an event of a seat that the view doesn't have
pub leads_on : (v : View) (c d e : Core) → IsView v d → PassesBy v d e → Leads v c d → Leads v c e
leads_on v c d e is by leads = (suc leads.0, (d, leads.1, is, by))

pub taken_stays : (m : Taken) (v : View) (c d : Core) → IsView v c → PassesBy v c d → WasTaken m v c → WasTaken m v d
taken_stays m v c d is by t = record {
  before = t.before;
  sound = t.sound;
  is_view = t.is_view;
  met = t.met;
  after = t.after;
  event = t.event;
  leads = leads_on v t.after c d is by t.leads;
}

pub course_stays : (first : Core) (v : View) (ms : List Taken) (c d : Core) → IsView v c → PassesBy v c d → CourseFrom first v ms c → CourseFrom first v ms d
unfolding taken_stays
course_stays first v [] c d is by course = leads_on v first c d is by course
course_stays first v (m ∷ ms) c d is by course = (taken_stays m v c d is by course.0, course.1)

-- a step that is taken now stands before those taken earlier
pub course_more : (first : Core) (ms : List Taken) (c d : Core) (who : ℕ) (kind : Kind) (found : ℕ) (v w : View) → Sound c → IsView v c → word_at c (spot_of who kind) ≡ found → after_event c who kind ≡ Some d →
    CourseFrom first v ms c → CourseFrom first w (record { seat = who; kind = kind; found = found; before = v } ∷ ms) d
course_more first ms c d who kind found v w sound is met event course = (
  record {
    before = c;
    sound = sound;
    is_view = is;
    met = met;
    after = d;
    event = event;
    leads = (0, refl);
  },
  course,
)

-- the book begins at this start, and its steps lead to the state
abbrev pub IsOnCourse : Start → Book → Core → Type 0
IsOnCourse start b c = (b.start ≡ start) × Course b c

-- the courses of all books that have seats, those of all but one, and the views of all
abbrev pub Courses : Start → List Book → Core → Type 0
Courses start books c = (id : ℕ) (b : Book) → get_elem? books id ≡ some b → HasSeats b.view → IsOnCourse start b c

abbrev pub OtherCourses : Start → List Book → ℕ → Core → Type 0
OtherCourses start books own c = (id : ℕ) (b : Book) → id ≢ own → get_elem? books id ≡ some b → HasSeats b.view → IsOnCourse start b c

abbrev pub AreViews : List Book → Core → Type 0
AreViews books c = (id : ℕ) (b : Book) → get_elem? books id ≡ some b → IsView b.view c

-- an event of a seat that no view but one has
abbrev pub PassesOthers : List Book → ℕ → Core → Core → Type 0
PassesOthers books own c d = (id : ℕ) (b : Book) → id ≢ own → get_elem? books id ≡ some b → PassesBy b.view c d

pub courses_stay : (start : Start) (books : List Book) (own : ℕ) (c d : Core) → AreViews books c → PassesOthers books own c d → Courses start books c → OtherCourses start books own d
courses_stay start books own c d are by courses id b ne at seats =
    let old : IsOnCourse start b c = courses id b at seats in (old.0, course_stays (start_core b.start) b.view b.taken c d (are id b at) (by id b ne at) old.1)

-- a changed book's course, beside those of the others
pub courses_own : (start : Start) (books : List Book) (own : ℕ) (b : Book) (c : Core) → (HasSeats b.view → IsOnCourse start b c) → OtherCourses start books own c → Courses start (set books own b) c
courses_own start books own b c course others j e there =
    ⊎_elim
    (λ (t : (j ≡ own) × (b ≡ e)). subst (λ (z : Book). HasSeats z.view → IsOnCourse start z c) t.1 course)
    (λ (t : (j ≢ own) × (get_elem? books j ≡ some e)). others j e t.0 t.1)
    (at_set books own j b e there)

pub courses_set : (start : Start) (books : List Book) (id : ℕ) (b : Book) (c : Core) → (HasSeats b.view → IsOnCourse start b c) → Courses start books c → Courses start (set books id b) c
courses_set start books id b c course courses = courses_own start books id b c course (λ j e _ there. courses j e there)

-- a book that is put behind the others
at_push : (l : List Book) (a b : Book) (j : ℕ) → get_elem? (l ++ a ∷ []) j ≡ some b → (get_elem? l j ≡ some b) ⊎ (a ≡ b)
at_push [] a b zero e = inr (some-injective a b e)
at_push [] a b (suc j) e = absurd (some-ne-none b (sym e))
at_push (x ∷ xs) a b zero e = inl e
at_push (x ∷ xs) a b (suc j) e = at_push xs a b j e

pub courses_push : (start : Start) (books : List Book) (b : Book) (c : Core) → (HasSeats b.view → IsOnCourse start b c) → Courses start books c → Courses start (books ++ b ∷ []) c
courses_push start books b c course courses j e there =
    ⊎_elim (λ (t : get_elem? books j ≡ some e). courses j e t) (λ (t : b ≡ e). subst (λ (z : Book). HasSeats z.view → IsOnCourse start z c) t course) (at_push books b e j there)

-- what is told of a booked step
pub told_of : (law : Law) (b : Book) (seat who : ℕ) (kind : Kind) (found : ℕ) (e : Book) → seat ≡ who → Booked law b seat kind found e → ToldUnder law b.view who kind found e.view
told_of law b seat who kind found e same booked = subst (λ (q : ℕ). ToldUnder law b.view q kind found e.view) same booked.under

-- WHAT IS SO OF EACH STATE OF A BOOK. A state passes to another by one event more.
pub later_on : (c d e : Core) → Passes d e → IsLater c d → IsLater c e
later_on c d e passes later = (suc later.0, (d, later.1, passes))

-- what every event from a state with the view keeps is so of each state to which such events lead
pub led : (P : Core → Type 0) (v : View) → ((c d : Core) → IsView v c → Passes c d → P c → P d) → (n : ℕ) (c d : Core) → LeadsIn v n c d → P c → P d
led P v stays zero c d same at = subst P same at
led P v stays (suc n) c d leads at = stays leads.0 d leads.2 (passes_of v leads.0 d leads.3) (led P v stays n c leads.0 leads.1 at)

-- what is so at the table's start, and is kept by every event, is so of each state to which a course leads
pub of_course : (P : Core → Type 0) → ((c d : Core) → Passes c d → P c → P d) → (first : Core) (v : View) (ms : List Taken) (c : Core) → P first → CourseFrom first v ms c → P c
of_course P keeps first v [] c at course = led P v (λ d e _ passes so. keeps d e passes so) course.0 first c course.1 at
of_course P keeps first v (m ∷ ms) c at course =
    let t = course.0 in
    let before : P t.before = of_course P keeps first m.before ms t.before at course.1 in
    led P v (λ d e _ passes so. keeps d e passes so) t.leads.0 t.after c t.leads.1 (keeps t.before t.after (t.sound, (m.seat, m.kind, t.event)) before)

-- the book before a step is one of the state before it
pub book_before : (b : Book) (who : ℕ) (k : Kind) (found : ℕ) (w : View) (c : Core) → (is : IsBookOf (noted b who k found w) c) → IsBookOf b is.course.0.before
book_before b who k found w c is = record { sound = is.course.0.sound; is_view = is.course.0.is_view; course = is.course.1 }

-- What is so right after a step, whatever state of the book it was taken in, and stays so while the pass has that view, is so of each
-- state of the book after the step.
pub onward : (P : Core → Type 0) (b : Book) (who : ℕ) (k : Kind) (found : ℕ) (w : View) → ((c d : Core) → IsView w c → Passes c d → P c → P d) →
    ((c d : Core) → IsBookOf b c → word_at c (spot_of who k) ≡ found → after_event c who k ≡ Some d → P d) → (c : Core) → IsBookOf (noted b who k found w) c → P c
onward P b who k found w stays begins c is =
    let t = is.course.0 in
    led P w stays t.leads.0 t.after c t.leads.1 (begins t.before t.after (book_before b who k found w c is) t.met t.event)

-- a later state of a later one is later
later_in : (n : ℕ) (b c d : Core) → IsLater b c → PassesIn n c d → IsLater b d
later_in zero b c d first same = subst (λ (z : Core). IsLater b z) same first
later_in (suc n) b c d first leads = later_on b leads.0 d leads.2 (later_in n b c leads.0 first leads.1)

pub joined_later : (b c d : Core) → IsLater b c → IsLater c d → IsLater b d
joined_later b c d first second = later_in second.0 b c d first second.1

-- THE BOOKS TAKEN IN. A state of each was met on the way to a later state too.
pub took_in_stays : (ms : List Past) (c d : Core) → Passes c d → TookIn ms c → TookIn ms d
took_in_stays ms c d passes took m there = let w = took m there in record { state = w.state; is = w.is; later = later_on w.state c d passes w.later }

abbrev pub Pasts : List Book → Core → Type 0
Pasts books c = (id : ℕ) (b : Book) → get_elem? books id ≡ some b → TookIn b.past c

pub pasts_stay : (books : List Book) (c d : Core) → Passes c d → Pasts books c → Pasts books d
pasts_stay books c d passes pasts id b at = took_in_stays b.past c d passes (pasts id b at)

pub pasts_set : (books : List Book) (id : ℕ) (b : Book) (c : Core) → TookIn b.past c → Pasts books c → Pasts (set books id b) c
pasts_set books id b c took pasts j e there =
    ⊎_elim
    (λ (t : (j ≡ id) × (b ≡ e)). subst (λ (z : Book). TookIn z.past c) t.1 took)
    (λ (t : (j ≢ id) × (get_elem? books j ≡ some e)). pasts j e t.1)
    (at_set books id j b e there)

pub pasts_push : (books : List Book) (b : Book) (c : Core) → TookIn b.past c → Pasts books c → Pasts (books ++ b ∷ []) c
pasts_push books b c took pasts j e there =
    ⊎_elim (λ (t : get_elem? books j ≡ some e). pasts j e t) (λ (t : b ≡ e). subst (λ (z : Book). TookIn z.past c) t took) (at_push books b e j there)

-- those of both books, and the second itself
pub took_in_more : (ms ns : List Past) (m : Past) (c : Core) → TookIn ms c → TookIn ns c → WasBook m c → TookIn ((ms ++ ns) ++ m ∷ []) c
took_in_more ms ns m c first second one n there =
    ⊎_elim
    (λ (old : n ∈ (ms ++ ns)). ⊎_elim (λ (t : n ∈ ms). first n t) (λ (t : n ∈ ns). second n t) (in_either ms ns n old))
    (λ (new : n ∈ (m ∷ [])). ⊎_elim (λ (same : m ≡ n). subst (λ (z : Past). WasBook z c) same one) (λ (none : n ∈ []). absurd (none_there n none)) (split_at m n [] new))
    (in_either (ms ++ ns) (m ∷ []) n there)

later_holds : (P : Core → Type 0) → ((c d : Core) → Passes c d → P c → P d) → (n : ℕ) (c d : Core) → PassesIn n c d → P c → P d
later_holds P keeps zero c d same at = subst P same at
later_holds P keeps (suc n) c d leads at = keeps leads.0 d leads.2 (later_holds P keeps n c leads.0 leads.1 at)

-- What is so of each state of a book, and is kept by every event, is so of each state later than one of the book: so of the last
-- state where the book was taken in.
pub past_holds : (P : Core → Type 0) → ((c d : Core) → Passes c d → P c → P d) → (m : Past) (c : Core) → ((s : Core) → IsBookOf (book_of m) s → P s) → WasBook m c → P c
past_holds P keeps m c so w = later_holds P keeps w.later.0 w.state c w.later.1 (so w.state w.is)

-- WHAT WAS SEEN. It stays seen.
pub met_kept : (b : Book) (P : Core → Type 0) (c d : Core) → Passes c d → WasMet b P c → WasMet b P d
met_kept b P c d passes w = record { start = w.start; is = w.is; state = w.state; since = w.since; met = w.met; later = later_on w.state c d passes w.later }

pub seen_kept : (law : Law) (b : Book) (P : Core → Type 0) (e : Book) (who : ℕ) (k : Kind) (found : ℕ) (f : Book) → Booked law e who k found f → WasSeen b P e → WasSeen b P f
seen_kept law b P e who k found f booked seen c is =
    onward (WasMet b P) e who k found f.view (λ d g _ passes w. met_kept b P d g passes w) (λ d g of met event. met_kept b P d g (of.sound, (who, k, event)) (seen d of)) c
    (subst (λ (z : Book). IsBookOf z c) booked.book_is is)

-- what is so of each state in which a step was taken was seen
seen_in : (b : Book) (P : Core → Type 0) (e : Book) (who : ℕ) (k : Kind) (found : ℕ) (f : Book) → f ≡ noted e who k found f.view → IsAfter b e →
    ((c : Core) → IsBookOf e c → word_at c (spot_of who k) ≡ found → P c) → WasSeen b P f
seen_in b P e who k found f noted_is begun so c is =
    onward (WasMet b P) e who k found f.view (λ d g _ passes w. met_kept b P d g passes w)
    (λ d g of met event.
    let w = begun d of in
    record { start = w.start; is = w.is; state = d; since = joined_later w.start w.state d w.since w.later; met = so d of met; later = (1, (d, refl, (of.sound, (who, k, event)))) })
    c (subst (λ (z : Book). IsBookOf z c) noted_is is)

pub seen_then : (law : Law) (b : Book) (P : Core → Type 0) (e : Book) (who : ℕ) (k : Kind) (found : ℕ) (f : Book) → Booked law e who k found f → IsAfter b e →
    ((c : Core) → IsBookOf e c → word_at c (spot_of who k) ≡ found → P c) → WasSeen b P f
seen_then law b P e who k found f booked begun so = seen_in b P e who k found f booked.book_is begun so

-- so it is of the last step
pub last_of : (law : Law) (b e : Book) (who : ℕ) (k : Kind) (found : ℕ) (f : Book) → IsAfter b e → Booked law e who k found f → LastFound b who k found f
last_of law b e who k found f begun booked = record { middle = e; goes = begun; is = booked.book_is }

pub seen_last : (b : Book) (P : Core → Type 0) (who : ℕ) (k : Kind) (found : ℕ) (f : Book) → LastFound b who k found f → ((c : Core) → word_at c (spot_of who k) ≡ found → P c) → WasSeen b P f
seen_last b P who k found f last so = seen_in b P last.middle who k found f last.is last.goes (λ c is met. so c met)

-- a booked step leaves a state of its book
pub state_of_book : (law : Law) (b : Book) (who : ℕ) (k : Kind) (found : ℕ) (e : Book) → Booked law b who k found e → HasState e
state_of_book law b who k found e booked = (booked.under.told.after, record { sound = booked.under.told.sound_after; is_view = booked.under.told.is_view_after; course = booked.course_after })

-- at the start nothing is seen but the state there
pub seen_nothing : (b : Book) → WasSeen b (λ _. Unit {0}) b
seen_nothing b c is = record { start = c; is = is; state = c; since = (0, refl); met = tt; later = (0, refl) }

-- a step goes on, and what goes on goes on
pub goes_step : (law : Law) (b : Book) (who : ℕ) (k : Kind) (found : ℕ) (e : Book) → Booked law b who k found e → IsAfter b e
goes_step law b who k found e booked = seen_kept law b (λ _. Unit {0}) b who k found e booked (seen_nothing b)

-- what was seen before other steps, and after them
pub seen_before : (b : Book) (P : Core → Type 0) (m e : Book) → WasSeen b P m → IsAfter m e → WasSeen b P e
seen_before b P m e seen goes c is =
    let g = goes c is in
    let w = seen g.start g.is in
    record { start = w.start; is = w.is; state = w.state; since = w.since; met = w.met; later = joined_later w.state g.start c w.later (joined_later g.start g.state c g.since g.later) }

pub seen_after : (b m : Book) (P : Core → Type 0) (e : Book) → IsAfter b m → WasSeen m P e → WasSeen b P e
seen_after b m P e goes seen c is =
    let w = seen c is in
    let g = goes w.start w.is in
    record { start = g.start; is = g.is; state = w.state; since = joined_later g.start w.start w.state (joined_later g.start g.state w.start g.since g.later) w.since; met = w.met; later = w.later }

pub goes_both : (b m e : Book) → IsAfter b m → IsAfter m e → IsAfter b e
goes_both b m e first second = seen_before b (λ _. Unit {0}) m e first second

-- what one step met
pub seen_once : (law : Law) (b : Book) (P : Core → Type 0) (who : ℕ) (k : Kind) (found : ℕ) (e : Book) → Booked law b who k found e → ((c : Core) → IsBookOf b c → word_at c (spot_of who k) ≡ found → P c) → WasSeen b P e
seen_once law b P who k found e booked so = seen_then law b P b who k found e booked (seen_nothing b) so
