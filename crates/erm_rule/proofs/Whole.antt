-- A pass that has had all seats since the table's start has one state.
use Rattle.std.proofs.Common.{◌≡◌, ℕ, zero, suc, List, [], ◌∷◌, ◌++◌, Option, Some, unwrap_or, refl, sym, ap, ◌∙◌, subst}
use Rattle.erm_machine.specs.declared.event.Event.{Event}
use Rattle.erm_machine.specs.declared.event.Kind.{Kind}
use Rattle.erm_machine.specs.declared.part.Part.{Part}
use Rattle.erm_machine.specs.Core.{Core, spot_of, word_at}
use Rattle.erm_machine.specs.Step as step
use Rattle.erm_machine.specs.Step.{after_event, core_step, run_from}
use Rattle.erm_model.specs.RowTransaction.{Law}
use Rattle.erm_rule.specs.declared.view.Book.{Book}
use Rattle.erm_rule.specs.declared.view.Taken.{Taken}
use Rattle.erm_rule.specs.declared.view.View.{View}
use Rattle.erm_rule.specs.Books.{LeadsIn, CourseFrom, Course}
use Rattle.erm_rule.specs.Openings.{start_core}
use Rattle.erm_rule.specs.Steps.{Booked}
use Rattle.erm_rule.specs.Views.{held_after, with_part}
use Rattle.erm_rule.specs.Went.{Took, events_of, HasAll, AreWhole, IsWhole, core_in, core_of}
use Rattle.erm_rule.proofs.Parts.{map_in}

-- where the view has all seats, no event is another's
none_leads : (v : View) (n : ℕ) (c d : Core) → HasAll v → LeadsIn v n c d → c ≡ d
none_leads v zero c d all same = same
none_leads v (suc n) c d all leads = let by = leads.3 in absurd (all by.1.0 by.1.2 by.1.3)

state_in : (first : Core) (v : View) (ms : List Taken) (c : Core) → AreWhole v ms → CourseFrom first v ms c → c ≡ core_in first ms
state_in first v [] c whole course = sym (none_leads v course.0 first c whole course.1)
state_in first v (m ∷ ms) c whole course =
    let t = course.0 in
    let before : t.before ≡ core_in first ms = state_in first m.before ms t.before whole.1 course.1 in
    let after : t.after ≡ c = none_leads v t.leads.0 t.after c whole.0 t.leads.1 in
    let event : after_event (core_in first ms) m.seat m.kind ≡ Some t.after = subst (λ (z : Core). after_event z m.seat m.kind ≡ Some t.after) before t.event in
    sym after ∙ sym (ap (λ (o : Option Core). unwrap_or o (core_in first ms)) event)

pub one_state : (b : Book) (c : Core) → IsWhole b → Course b c → c ≡ core_of b
one_state b c whole course = state_in (start_core b.start) b.view b.taken c whole course

-- a step leaves all seats in the view
has_all : (v : View) (ms : List Taken) → AreWhole v ms → HasAll v
has_all v [] whole = whole
has_all v (m ∷ ms) whole = whole.0

has_all_after : (v : View) (who : ℕ) (y : Part) → HasAll v → HasAll (with_part who y v)
has_all_after v who y all q seat none = all q seat (λ h m same. none (held_after who y h) (map_in (held_after who y) v.held h m) same)

pub whole_after : (law : Law) (b : Book) (who : ℕ) (k : Kind) (found : ℕ) (e : Book) → Booked law b who k found e → IsWhole b → IsWhole e
whole_after law b who k found e booked whole =
    let told = booked.under.told in
    let all : HasAll e.view = subst HasAll (sym told.view_is) (has_all_after b.view who told.part (has_all b.view b.taken whole)) in
    subst IsWhole (sym booked.book_is) (all, whole)

-- what a booked step says of the one state: the event leads from that of the book before to that of the book after, and met this word
pub record Leaves (law : Law) (b : Book) (who : ℕ) (k : Kind) (found : ℕ) (e : Book) (booked : Booked law b who k found e) : Type 0 where
  pub before : booked.under.told.before ≡ core_of b
  pub after : booked.under.told.after ≡ core_of e
  pub event : after_event (core_of b) who k ≡ Some (core_of e)
  pub met : word_at (core_of b) (spot_of who k) ≡ found
  pub whole : IsWhole e

pub leaves : (law : Law) (b : Book) (who : ℕ) (k : Kind) (found : ℕ) (e : Book) (booked : Booked law b who k found e) → IsWhole b → Leaves law b who k found e booked
leaves law b who k found e booked whole =
    let told = booked.under.told in
    let later : IsWhole e = whole_after law b who k found e booked whole in
    let before : told.before ≡ core_of b = one_state b told.before whole booked.course in
    let after : told.after ≡ core_of e = one_state e told.after later booked.course_after in
    record {
      before = before;
      after = after;
      event = subst (λ (z : Core). after_event (core_of b) who k ≡ Some z) after (subst (λ (z : Core). after_event z who k ≡ Some told.after) before told.event);
      met = subst (λ (z : Core). word_at z (spot_of who k) ≡ found) before told.met;
      whole = later;
    }

-- steps, one after another, are events of the machine
run_more : (c : Core) (es : List Event) (e : Event) → run_from c (es ++ e ∷ []) ≡ (core_step (run_from c es) e).1
run_more c [] e = refl
run_more c (x ∷ es) e = run_more (core_step c x).1 es e

stepped : (c : Core) (who : ℕ) (k : Kind) (d : Core) → after_event c who k ≡ Some d → (core_step c (record { seat = who; kind = k })).1 ≡ d
stepped c who k d event = ap (λ (o : Option Core). (step.step_to c (step.told k (word_at c (spot_of who k))) o).1) event

pub took_whole : (law : Law) (who : ℕ) (steps : List (Kind × ℕ)) (b e : Book) → Took law who steps b e → IsWhole b → IsWhole e
took_whole law who [] b e same whole = subst IsWhole (sym same) whole
took_whole law who (s ∷ steps) b e took whole = whole_after law took.0 who s.0 s.1 e took.2 (took_whole law who steps b took.0 took.1 whole)

pub took_runs : (law : Law) (who : ℕ) (steps : List (Kind × ℕ)) (b e : Book) → Took law who steps b e → IsWhole b → core_of e ≡ run_from (core_of b) (events_of who steps)
took_runs law who [] b e same whole = ap core_of same
took_runs law who (s ∷ steps) b e took whole =
    let m = took.0 in
    let earlier : core_of m ≡ run_from (core_of b) (events_of who steps) = took_runs law who steps b m took.1 whole in
    let last = leaves law m who s.0 s.1 e took.2 (took_whole law who steps b m took.1 whole) in
    sym (stepped (core_of m) who s.0 (core_of e) last.event)
    ∙ ap (λ (z : Core). (core_step z (record { seat = who; kind = s.0 })).1) earlier
    ∙ sym (run_more (core_of b) (events_of who steps) (record { seat = who; kind = s.0 }))
