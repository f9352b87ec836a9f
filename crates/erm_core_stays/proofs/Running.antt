-- Runs: what each event keeps, a run keeps.
use Rattle.std.proofs.Common.{◌≡◌, ◌≢◌, ℕ, ◌+◌, ◌%◌, ◌^◌, true, List, [], ◌∷◌, ◌++◌, Option, Some, None, refl, sym, ap, ◌∙◌, subst, eqb-true, ⊎_elim}
use Rattle.erm_model.specs.Member.{◌∈◌}
use Rattle.erm_model.proofs.Members.{none_in_nil, ∈-behind}
use Rattle.erm_machine.specs.declared.event.Answer.{Answer}
use Rattle.erm_machine.specs.declared.event.Counter.{Counter}
use Rattle.erm_machine.specs.declared.event.Counter.TheVariants.{Objects, Cells}
use Rattle.erm_machine.specs.declared.event.Event.{Event}
use Rattle.erm_machine.specs.declared.event.Kind.{Kind}
use Rattle.erm_machine.specs.declared.event.Kind.TheVariants as kind
use Rattle.erm_machine.specs.declared.limits.TheConstants.{FLUSH_SEAT}
use Rattle.erm_machine.specs.declared.part.Flushing.{Flushing}
use Rattle.erm_machine.specs.declared.part.Flushing.TheVariants as flushing
use Rattle.erm_machine.specs.declared.part.Part.{Part}
use Rattle.erm_machine.specs.Core.{Core, Shared, spot_of, word_at}
use Rattle.erm_machine.specs.Flushing.{store_flushed}
use Rattle.erm_machine.specs.Sound.{Sound}
use Rattle.erm_machine.specs.Step.{after_event, run_from, shared_after, step_to, told, with_counter}
use Rattle.erm_machine.specs.Words.{is_flusher}
use Rattle.erm_machine.proofs.Listed.{∈-either, ∈-first, ∈-head}
use Rattle.erm_machine.proofs.QuietKinds.{moves}
use Rattle.erm_core_ring.proofs.Flush.{turning}
use Rattle.erm_core_stays.specs.Runs.{Runs}
use Rattle.erm_core_stays.specs.Staying.{Rises, StoresFlushed}
use Rattle.erm_core_stays.proofs.Numbers.{join_shared, rises, rises_after, rises_refl, split_shared}

-- each event keeps sound
abbrev pub KeepsSound : Type 0
KeepsSound = (c d : Core) (seat : ℕ) (k : Kind) → Sound c → after_event c seat k ≡ Some d → Sound d

-- What is so of a state and the states that one event leads it to is so over a run, where it is of one state and itself, and of one after
-- another.
pub over_run : KeepsSound → (P : Core → Core → Type 0) → ((c : Core) → P c c) → ((b c d : Core) → P b c → P c d → P b d) →
    ((c d : Core) (seat : ℕ) (k : Kind) → Sound c → after_event c seat k ≡ Some d → P c d) → (es : List Event) (c d : Core) → Sound c → Runs es c d → P c d
over_run keeps P same then one [] c d sound run = subst (P c) run (same c)
over_run keeps P same then one (e ∷ es) c d sound run =
    then c run.0 d (one c run.0 e.seat e.kind sound run.1) (over_run keeps P same then one es run.0 d (keeps c run.0 e.seat e.kind sound run.1) run.2)

-- what is so of a sound state and is kept by each event is so at a run's end
pub at_end : KeepsSound → (P : Core → Type 0) → ((c d : Core) (seat : ℕ) (k : Kind) → Sound c → after_event c seat k ≡ Some d → P c → P d) → (es : List Event) (c d : Core) → Sound c → Runs es c d → P c → P d
at_end keeps P one [] c d sound run holds = subst P run holds
at_end keeps P one (e ∷ es) c d sound run holds = at_end keeps P one es run.0 d (keeps c run.0 e.seat e.kind sound run.1) run.2 (one c run.0 e.seat e.kind sound run.1 holds)

pub ends_sound : KeepsSound → (es : List Event) (c d : Core) → Sound c → Runs es c d → Sound d
ends_sound keeps es c d sound run = at_end keeps Sound (λ a b seat k s e _. keeps a b seat k s e) es c d sound run sound

pub behind : (es fs : List Event) (b c d : Core) → Runs es b c → Runs fs c d → Runs (es ++ fs) b d
behind [] fs b c d first second = subst (λ (a : Core). Runs fs a d) (sym first) second
behind (e ∷ es) fs b c d first second = (first.0, first.1, behind es fs first.0 c d first.2 second)

-- steps, of which those that aren't taken change nothing
abbrev pub TakenOf : List Event → Core → Core → Type 0
TakenOf es c d = (taken : List Event) × Runs taken c d × ((e : Event) → e ∈ taken → e ∈ es)

one_step : (c : Core) (e : Event) (a : Answer) (o : Option Core) → after_event c e.seat e.kind ≡ o → TakenOf (e ∷ []) c (step_to c a o).1
one_step c e a None is = ([], refl, λ f m. absurd (none_in_nil f m))
one_step c e a (Some d) is = (e ∷ [], (d, is, refl), λ f m. m)

pub steps : (es : List Event) (c : Core) → TakenOf es c (run_from c es)
steps [] c = ([], refl, λ f m. m)
steps (e ∷ es) c =
    let o = after_event c e.seat e.kind in
    let a = told e.kind (word_at c (spot_of e.seat e.kind)) in
    let first = one_step c e a o refl in
    let rest = steps es (step_to c a o).1 in (
      first.0 ++ rest.0,
      behind first.0 rest.0 c (step_to c a o).1 (run_from (step_to c a o).1 es) first.1 rest.1,
      λ f m. ⊎_elim (λ (here : f ∈ first.0). ∈-first (e ∷ []) es f (first.2 f here)) (λ (later : f ∈ rest.0). ∈-behind e es f (rest.2 f later)) (∈-either first.0 rest.0 f m),
    )

pub run_rises : KeepsSound → (es : List Event) (c d : Core) → Sound c → Runs es c d → Rises c.shared d.shared
run_rises keeps es c d sound run =
    over_run keeps (λ (a b : Core). Rises a.shared b.shared) (λ a. rises_refl a.shared) (λ a b e. rises_after a.shared b.shared e.shared) rises es c d sound run

-- the place flushed
flushed_left : (p : ℕ) (k : Kind) (found : ℕ) (x : Part) (s : Shared) → (StoresFlushed k → ⊥) → (shared_after p k found x s).flushed ≡ s.flushed
flushed_left p (kind.StoreFlushed value) found x s none = absurd (none tt)
flushed_left p (kind.AddCounter counter) found x s none = counter_leaves counter
  where
    counter_leaves : (counter : Counter) → (with_counter counter ((found + 1) % 2 ^ 64) s).flushed ≡ s.flushed
    counter_leaves Objects = refl
    counter_leaves Cells = refl
flushed_left p k found x s none = refl

pub flushed_same : (c d : Core) (p : ℕ) (k : Kind) → after_event c p k ≡ Some d → (StoresFlushed k → ⊥) → d.shared.flushed ≡ c.shared.flushed
flushed_same c d p (kind.Split other) e none = ap (λ (s : Shared). s.flushed) (split_shared c p other d _ e)
flushed_same c d p (kind.Join other) e none = ap (λ (s : Shared). s.flushed) (join_shared c p other d _ e)
flushed_same c d p k e none =
    let m = moves c p k d tt e in
    ap (λ (f : Core). f.shared.flushed) m.is ∙ flushed_left p k (word_at c (spot_of p k)) (c.seats p) c.shared none

store_seat : (c : Core) (sound : Sound c) (p value : ℕ) (fl : Flushing) (y : Part) → (c.seats p).flushing ≡ fl → store_flushed value (c.seats p) fl ≡ Some y → is_flusher p ≡ true
store_seat c sound p value (flushing.Clears next to) y at e = turning c sound p (flushing.Clears next to) (λ (n : flushing.Clears next to ≡ flushing.Still). cc) at
store_seat c sound p value _ y at e = absurd (cc)

pub flushed_by_store : (c d : Core) (p value : ℕ) → Sound c → after_event c p (kind.StoreFlushed value) ≡ Some d → (p ≡ FLUSH_SEAT) × (d.shared.flushed ≡ value)
flushed_by_store c d p value sound e =
    let m = moves c p (kind.StoreFlushed value) d tt e in
    (eqb-true p FLUSH_SEAT (store_seat c sound p value (c.seats p).flushing m.part refl m.after), ap (λ (f : Core). f.shared.flushed) m.is)

pub run_flushed : (es : List Event) (c d : Core) → Runs es c d → ((e : Event) → e ∈ es → StoresFlushed e.kind → ⊥) → d.shared.flushed ≡ c.shared.flushed
run_flushed [] c d run none = ap (λ (f : Core). f.shared.flushed) (sym run)
run_flushed (e ∷ es) c d run none =
    run_flushed es run.0 d run.2 (λ f m. none f (∈-behind e es f m)) ∙ flushed_same c run.0 e.seat e.kind run.1 (none e (∈-head e es))

-- an event of another seat doesn't store it
other_store : (c d : Core) (p : ℕ) (k : Kind) → Sound c → after_event c p k ≡ Some d → p ≢ FLUSH_SEAT → StoresFlushed k → ⊥
other_store c d p (kind.StoreFlushed value) sound e other stores = other (flushed_by_store c d p value sound e).0
other_store c d p k sound e other stores = absurd stores

pub others_flushed : KeepsSound → (es : List Event) (c d : Core) → Sound c → Runs es c d → ((e : Event) → e ∈ es → e.seat ≢ FLUSH_SEAT) → d.shared.flushed ≡ c.shared.flushed
others_flushed keeps [] c d sound run others = ap (λ (f : Core). f.shared.flushed) (sym run)
others_flushed keeps (e ∷ es) c d sound run others =
    others_flushed keeps es run.0 d (keeps c run.0 e.seat e.kind sound run.1) run.2 (λ f m. others f (∈-behind e es f m))
    ∙ flushed_same c run.0 e.seat e.kind run.1 (other_store c run.0 e.seat e.kind sound run.1 (others e (∈-head e es)))
