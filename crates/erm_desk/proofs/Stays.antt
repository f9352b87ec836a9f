-- What stays while the flush seat takes steps that don't store the place flushed, and others take theirs.
use Rattle.std.proofs.Common.{◌≡◌, ◌≢◌, ℕ, zero, suc, ◌≤◌, ⊎_elim, Bool, cond, List, [], ◌∷◌, Some, sym, ap, ◌∙◌, subst, arith}
use Rattle.std.specs.Prelude.{IsSome}
use Rattle.std.proofs.lemmas.Bool.{cases_eq, ne_eqb}
use Rattle.erm_core_stays.specs.Staying.{StoresFlushed}
use Rattle.erm_core_stays.proofs.Numbers.{rises}
use Rattle.erm_core_stays.proofs.Running.{flushed_by_store, flushed_same}
use Rattle.erm_desk.specs.Known.{IsFlushedTo}
use Rattle.erm_desk.proofs.Lawful.{UnderLaw, booked_under, took_start}
use Rattle.erm_machine.specs.declared.event.Kind.{Kind}
use Rattle.erm_machine.specs.declared.event.Kind.TheVariants as kind
use Rattle.erm_machine.specs.declared.limits.TheConstants.{FLUSH_SEAT}
use Rattle.erm_machine.specs.Core.{Core}
use Rattle.erm_machine.specs.Sound.{Sound}
use Rattle.erm_machine.specs.Step.{after_event}
use Rattle.erm_machine.proofs.Listed.{∈-head}
use Rattle.erm_model.specs.Member.{◌∈◌}
use Rattle.erm_model.specs.RowTransaction.{Law}
use Rattle.erm_model.proofs.Members.{∈-behind}
use Rattle.erm_ring.proofs.Gathering.{has_part}
use Rattle.erm_rule.specs.declared.view.Book.{Book}
use Rattle.erm_rule.specs.declared.view.Held.{Held}
use Rattle.erm_rule.specs.declared.view.Start.{Start}
use Rattle.erm_rule.specs.declared.view.View.{View}
use Rattle.erm_rule.specs.Books.{IsAfter, IsBookOf, IsLater, LeadsIn, PassesBy, PassesIn, noted}
use Rattle.erm_rule.specs.Steps.{Booked}
use Rattle.erm_rule.specs.Views.{part_among, part_in, part_of}
use Rattle.erm_rule.specs.Went.{AllSteps, IsLoadStep, Took}
use Rattle.erm_rule.proofs.Courses.{book_before, goes_both, goes_step, seen_nothing}
use Rattle.erm_rule.proofs.Telling.{changed_here, is_held}

abbrev F : ℕ
F = FLUSH_SEAT

-- OTHERS don't store the place flushed, while the pass has the flush seat
some_among : (who : ℕ) (hs : List Held) → IsSome (part_among who hs) → (h : Held) × (h ∈ hs) × (h.seat ≡ who)
some_among who [] some = absurd (cc)
some_among who (h ∷ hs) some =
    ⊎_elim (λ (here : h.seat ≡ who). (h, ∈-head h hs, here))
    (λ (other : h.seat ≡ who → ⊥).
    let test : part_among who (h ∷ hs) ≡ part_among who hs = ap (λ (t : Bool). cond t (Some h.part) (part_among who hs)) (ne_eqb h.seat who other) in
    let rest = some_among who hs (subst IsSome test some) in (rest.0, ∈-behind h hs rest.0 rest.1, rest.2)) (cases_eq h.seat who)

other_store : (c d : Core) (seat : ℕ) (k : Kind) → Sound c → after_event c seat k ≡ Some d → seat ≢ F → StoresFlushed k → ⊥
other_store c d seat (kind.StoreFlushed value) sound event other stores = other (flushed_by_store c d seat value sound event).0
other_store c d seat k sound event other stores = absurd stores

other_event : (v : View) (c d : Core) → IsSome (part_in v F) → PassesBy v c d → d.shared.flushed ≡ c.shared.flushed
other_event v c d some passes =
    let has = some_among F v.held some in
    let apart : passes.1.0 ≢ F = λ same. passes.1.3 has.0 has.1 (has.2 ∙ sym same) in
    flushed_same c d passes.1.0 passes.1.1 passes.1.4 (other_store c d passes.1.0 passes.1.1 passes.0 passes.1.4 apart)

others_led : (v : View) → IsSome (part_in v F) → (n : ℕ) (c d : Core) → LeadsIn v n c d → d.shared.flushed ≡ c.shared.flushed
others_led v some zero c d same = ap (λ (x : Core). x.shared.flushed) (sym same)
others_led v some (suc n) c d leads = other_event v leads.0 d some leads.3 ∙ others_led v some n c leads.0 leads.1

-- AN OWN STEP
held_step : (law : Law) (b : Book) (k : Kind) (found : ℕ) (e : Book) → Booked law b F k found e → IsSome (part_in b.view F) → IsSome (part_in e.view F)
held_step law b k found e booked some =
    let told = booked.under.told in
    is_held e.view F told.part (changed_here b.view F e.view told.part (part_of b.view F) (has_part b.view some) told.view_is)

step_flushed : (law : Law) (b : Book) (k : Kind) (found : ℕ) (e : Book) (place : ℕ) → Booked law b F k found e → IsSome (part_in e.view F) → (StoresFlushed k → ⊥) → IsFlushedTo b place → IsFlushedTo e place
step_flushed law b k found e place booked some none flushed c is =
    let here : IsBookOf (noted b F k found e.view) c = subst (λ (z : Book). IsBookOf z c) booked.book_is is in
    let t = here.course.0 in
    others_led e.view some t.leads.0 t.after c t.leads.1 ∙ flushed_same t.before t.after F k t.event none ∙ flushed t.before (book_before b F k found e.view c here)

-- STEPS
abbrev pub NoStore : Kind → ℕ → Type 0
NoStore k found = StoresFlushed k → ⊥

load_stores : (k : Kind) (found : ℕ) → IsLoadStep k found → NoStore k found
load_stores (kind.StoreFlushed value) found load = λ _. load
load_stores k found load = λ stores. stores

pub loads_store : (steps : List (Kind × ℕ)) → AllSteps IsLoadStep steps → AllSteps NoStore steps
loads_store [] all = tt
loads_store (s ∷ steps) all = (load_stores s.0 s.1 all.0, loads_store steps all.1)

pub steps_flushed : (law : Law) (steps : List (Kind × ℕ)) (b e : Book) (place : ℕ) → Took law F steps b e → AllSteps NoStore steps → IsSome (part_in b.view F) → IsFlushedTo b place
    → IsFlushedTo e place × IsSome (part_in e.view F)
steps_flushed law [] b e place took all some flushed = (subst (λ (z : Book). IsFlushedTo z place) (sym took) flushed, subst (λ (z : Book). IsSome (part_in z.view F)) (sym took) some)
steps_flushed law (s ∷ steps) b e place took all some flushed =
    let before = steps_flushed law steps b took.0 place took.1 all.1 some flushed in
    let held = held_step law took.0 s.0 s.1 e took.2 before.1 in
    (step_flushed law took.0 s.0 s.1 e place took.2 held all.0 before.0, held)

pub took_goes : (law : Law) (steps : List (Kind × ℕ)) (b e : Book) → Took law F steps b e → IsAfter b e
took_goes law [] b e took = subst (IsAfter b) (sym took) (seen_nothing b)
took_goes law (s ∷ steps) b e took = goes_both b took.0 e (took_goes law steps b took.0 took.1) (goes_step law took.0 F s.0 s.1 e took.2)

pub took_under : (law : Law) (s : Start) (steps : List (Kind × ℕ)) (b e : Book) → UnderLaw law s b → Took law F steps b e → UnderLaw law s e
took_under law s [] b e u took = subst (UnderLaw law s) (sym took) u
took_under law s (k ∷ steps) b e u took = booked_under law s took.0 F k.0 k.1 e took.2 (took_start law F steps b took.0 took.1 ∙ u.start)

pub last_under : (law : Law) (k : Kind × ℕ) (steps : List (Kind × ℕ)) (b e : Book) → Took law F (k ∷ steps) b e → UnderLaw law b.start e
last_under law k steps b e took = booked_under law b.start took.0 F k.0 k.1 e took.2 (took_start law F steps b took.0 took.1)

-- THE END OF THE LOG never falls
tail_in : (n : ℕ) (c d : Core) → PassesIn n c d → c.shared.tail ≤ d.shared.tail
tail_in zero c d same = subst (λ (x : Core). c.shared.tail ≤ x.shared.tail) same (omega arith)
tail_in (suc n) c d passes =
    let before = tail_in n c passes.0 passes.1 in
    let up = (rises passes.0 d passes.2.1.0 passes.2.1.1 passes.2.0 passes.2.1.2).tail in
    omega (arith, before, up)

pub tail_later : (c d : Core) → IsLater c d → c.shared.tail ≤ d.shared.tail
tail_later c d later = tail_in later.0 c d later.1

pub ended_after : (b e : Book) (tail : ℕ) → IsAfter b e → ((c : Core) → IsBookOf b c → tail ≤ c.shared.tail) → (c : Core) → IsBookOf e c → tail ≤ c.shared.tail
ended_after b e tail goes ended c is =
    let w = goes c is in
    let low = ended w.start w.is in
    let one = tail_later w.start w.state w.since in
    let two = tail_later w.state c w.later in
    omega (arith, low, one, two)
