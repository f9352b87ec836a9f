-- What steps leave of objects' versions and of the tail; and the last step of an install.
use Rattle.std.proofs.Common.{◌≡◌, ℕ, ◌≤◌, Bool, true, false, cond, ◌||◌, length, Option, Some, None, refl, sym, ap, ◌∙◌, subst, arith, length-set}
use Rattle.std.specs.Prelude.{if◌then◌else◌}
use Rattle.std.proofs.lemmas.Bool.{eq-eqb}
use Rattle.std.proofs.lemmas.Option.{same_Some}
use Rattle.erm_machine.specs.declared.event.Kind.{Kind}
use Rattle.erm_machine.specs.declared.event.Kind.TheVariants as kind
use Rattle.erm_machine.specs.declared.part.Part.{Part}
use Rattle.erm_machine.specs.declared.place.Place.{Place}
use Rattle.erm_machine.specs.declared.place.Place.TheVariants.{Decided}
use Rattle.erm_machine.specs.declared.task.Task.{Task}
use Rattle.erm_machine.specs.declared.task.Task.TheVariants as task
use Rattle.erm_machine.specs.Claims.{step_of}
use Rattle.erm_machine.specs.Core.{Core, Object, Shared, spot_of, word_at}
use Rattle.erm_machine.specs.Facts.{over_of}
use Rattle.erm_machine.specs.Seat.{is_decided, is_snapshot, end_of, may_start}
use Rattle.erm_machine.specs.Step.{shared_after}
use Rattle.erm_machine.specs.Words.{put}
use Rattle.erm_machine.proofs.Frames.{at_cases}
use Rattle.erm_machine.proofs.Objects.{same_objects}
use Rattle.erm_machine.proofs.QuietKinds.{keeps_log}

-- kinds that add no version
abbrev pub AddsNone : Kind → Type 0
AddsNone (kind.Install oid head) = ⊥
AddsNone _ = Unit {0}

pub put_many : (f : ℕ → Object) (at : ℕ) (u : Object) (oid : ℕ) → length u.versions ≡ length (f at).versions → length (put f at u oid).versions ≡ length (f oid).versions
put_many f at u oid e = at_cases (λ z. length z.versions ≡ length (f oid).versions) f at u oid (λ same. subst (λ n. length u.versions ≡ length (f n).versions) (sym same) e) (λ _. refl)

-- each object has as many versions as before
pub as_many : (p : ℕ) (k : Kind) (found : ℕ) (x : Part) (s : Shared) (oid : ℕ) → AddsNone k → length ((shared_after p k found x s).objects oid).versions ≡ length (s.objects oid).versions
as_many p (kind.Install at head) found x s oid none = absurd none
as_many p (kind.Claim at seen number) found x s oid none = put_many s.objects at _ oid refl
as_many p (kind.SetReader v) found x s oid none = put_many s.objects v.oid _ oid (length-set (s.objects v.oid).versions v.place _)
as_many p (kind.ClearReader v) found x s oid none = put_many s.objects v.oid _ oid (length-set (s.objects v.oid).versions v.place _)
as_many p (kind.RaiseReader v value) found x s oid none = put_many s.objects v.oid _ oid (length-set (s.objects v.oid).versions v.place _)
as_many p (kind.StoreSucc v value) found x s oid none = put_many s.objects v.oid _ oid (length-set (s.objects v.oid).versions v.place _)
as_many p (kind.StoreOverwriter v value) found x s oid none = put_many s.objects v.oid _ oid (length-set (s.objects v.oid).versions v.place _)
as_many p (kind.SwapLink v) found x s oid none = put_many s.objects v.oid _ oid (length-set (s.objects v.oid).versions v.place _)
as_many p k found x s oid none = ap (λ (f : ℕ → Object). length (f oid).versions) (same_objects p k found x s tt)

-- the tail never falls
pub tail_later : (c : Core) (p : ℕ) (k : Kind) → c.shared.tail ≤ (shared_after p k (word_at c (spot_of p k)) (c.seats p) c.shared).tail
tail_later c p (kind.AddTail size) = omega arith
tail_later c p k = let h = (keeps_log p k (word_at c (spot_of p k)) (c.seats p) c.shared tt).tail in omega (arith, h)

-- where an install has come to its last step, it is that of the claim in hand, of which none before is held
pub record AtLast (pl : Place) (u : Task) (writes ended : ℕ) : Type 0 where
  pub step : step_of u ended ≡ 8
  pub over : over_of pl u writes ≡ ended

pub ends_over : (pl : Place) (raised ended step cleared writes : ℕ) → is_decided pl ≡ true → over_of pl (task.Ends raised ended step cleared) writes ≡ ended
ends_over (Decided tail stamp) raised ended step cleared writes e = refl
ends_over _ raised ended step cleared writes e = absurd (cc)

pub at_last : (pl : Place) (u : Task) (writes : ℕ) (e : ℕ × ℕ × ℕ × ℕ) → is_decided pl ≡ true → end_of u ≡ Some e → e.2 ≡ 8 → AtLast pl u writes e.1
at_last pl (task.Ends raised ended step cleared) writes e decided at last =
    let same = same_Some _ _ at in
    let place : ended ≡ e.1 = ap (λ (f : ℕ × ℕ × ℕ × ℕ). f.1) same in
    let now : step ≡ 8 = ap (λ (f : ℕ × ℕ × ℕ × ℕ). f.2) same ∙ last in
    record {
      step = ap (λ (b : Bool). cond b step 0) (eq-eqb e.1 ended (sym place)) ∙ now;
      over = ends_over pl raised ended step cleared writes decided ∙ place;
    }
at_last pl (task.Copies w) writes e decided at last = absurd (let z : ◌≡◌ {A = ℕ} 0 e.2 = ap (λ (f : ℕ × ℕ × ℕ × ℕ). f.2) (same_Some _ _ at) in omega (arith, z, last))
at_last pl (task.Writes claim w) writes e decided at last = absurd (let z : ◌≡◌ {A = ℕ} 0 e.2 = ap (λ (f : ℕ × ℕ × ℕ × ℕ). f.2) (same_Some _ _ at) in omega (arith, z, last))
at_last pl u writes e decided at last = by_test (may_start u || is_snapshot u) at
  where
    by_test : (b : Bool) → (if b then Some (0, 0, 0, 0) else None) ≡ Some e → AtLast pl u writes e.1
    by_test true h = absurd (let z : ◌≡◌ {A = ℕ} 0 e.2 = ap (λ (f : ℕ × ℕ × ℕ × ℕ). f.2) (same_Some _ _ h) in omega (arith, z, last))
    by_test false h = absurd (cc)

-- the branch that is taken
pub branch_true : (b : Bool) (l r : Option Part) (y : Part) → b ≡ true → (if b then l else r) ≡ Some y → l ≡ Some y
branch_true true l r y is e = e
branch_true false l r y is e = absurd (cc)
