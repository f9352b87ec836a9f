-- A step that is taken leaves less ahead of its seat, where the part to which its guard leads has less ahead.
use Rattle.std.proofs.Common.{◌≡◌, ◌≢◌, ◌⊎◌, ⊎_elim, ℕ, Bool, true, refl, sym, ap, ◌∙◌, subst}
use Rattle.erm_machine.specs.declared.event.Kind.{Kind}
use Rattle.erm_machine.specs.declared.event.Kind.TheVariants as kind
use Rattle.erm_machine.specs.declared.part.Part.{Part}
use Rattle.erm_machine.specs.declared.place.Place.{Place}
use Rattle.erm_machine.specs.declared.task.Task.{Task}
use Rattle.erm_machine.specs.Core.{Core, spot_of, word_at}
use Rattle.erm_machine.specs.Life.{after_clear}
use Rattle.erm_machine.specs.Seat.{when, with_task}
use Rattle.erm_machine.specs.Step.{part_after}
use Rattle.erm_machine.specs.Words.{is_clear, state_of}
use Rattle.erm_machine.proofs.Frames.{put_same}
use Rattle.erm_machine.proofs.Guards.{either_way, when_then}
use Rattle.erm_machine.proofs.QuietKinds.{MeetsOne, moves}
use Rattle.erm_core_calls.specs.Ending.{IsLess, ComesNearer, ahead, ahead_at}
use Rattle.erm_core_calls.specs.Going.{MovesOn}

-- another place, task or back word
abbrev pub Elsewhere : Part → Part → Type 0
Elsewhere x y = (y.place ≢ x.place) ⊎ (y.task ≢ x.task) ⊎ (y.back ≢ x.back)

-- a seat isn't elsewhere than where it is
pub nowhere : (x : Part) → Elsewhere x x → ⊥
nowhere x moved =
    ⊎_elim (λ (f : x.place ≢ x.place). f refl) (λ (rest : (x.task ≢ x.task) ⊎ (x.back ≢ x.back)). ⊎_elim (λ (f : x.task ≢ x.task). f refl) (λ (f : x.back ≢ x.back). f refl) rest) moved

module _ (c : Core) (p : ℕ) where
  abbrev pub Leads : Kind → Bool → Part → Type 0
  Leads k b z = part_after p k (word_at c (spot_of p k)) c.shared (c.seats p) ≡ when b z

  -- by what the step's guard leads to, and that it leads elsewhere
  pub nears : (k : Kind) → MeetsOne k → (m : MovesOn c p k) (b : Bool) (z : Part) → Leads k b z → (b ≡ true → Elsewhere (c.seats p) z → IsLess (ahead z) (ahead (c.seats p))) → ComesNearer c p k m
  nears k one m b z leads less =
      let step = moves c p k m.after one m.taken in
      let part : m.after.seats p ≡ step.part = ap (λ (d : Core). d.seats p) step.is ∙ put_same c.seats p step.part in
      subst (λ (y : Part). IsLess (ahead y) (ahead (c.seats p))) (sym part)
      (when_then (λ y. Elsewhere (c.seats p) y → IsLess (ahead y) (ahead (c.seats p))) b z step.part (sym leads ∙ step.after) less
      (subst (Elsewhere (c.seats p)) part m.moved))

  -- by the place and the task before and the place after
  pub from_to : (pl q : Place) (u : Task) → (c.seats p).place ≡ pl → (c.seats p).task ≡ u → (k : Kind) → MeetsOne k → (m : MovesOn c p k) (b : Bool) (z : Part) → Leads k b z → z.place ≡ q →
      (b ≡ true → IsLess (ahead_at z.current z.back q z.task) (ahead_at (c.seats p).current (c.seats p).back pl u)) → ComesNearer c p k m
  from_to pl q u is at k one m b z leads there less =
      nears k one m b z leads (λ g _.
      subst (λ r. IsLess (ahead_at z.current z.back r z.task) (ahead (c.seats p))) (sym there)
      (subst (λ r. IsLess (ahead_at z.current z.back q z.task) (ahead_at (c.seats p).current (c.seats p).back r (c.seats p).task)) (sym is)
      (subst (λ v. IsLess (ahead_at z.current z.back q z.task) (ahead_at (c.seats p).current (c.seats p).back pl v)) (sym at) (less g))))

  -- by a look, which moves its seat on only where the other one is clear
  pub looks : (other bound : ℕ) (pl : Place) (u v : Task) → (c.seats p).place ≡ pl → (c.seats p).task ≡ u → (m : MovesOn c p (kind.LoadState other bound)) → after_clear other bound (c.seats p) u ≡ v →
      IsLess (ahead_at (c.seats p).current (c.seats p).back pl v) (ahead_at (c.seats p).current (c.seats p).back pl u) → ComesNearer c p (kind.LoadState other bound) m
  looks other bound pl u v is at m leads less =
      let x = c.seats p in
      nears (kind.LoadState other bound) tt m _ _ refl (λ _.
      either_way (λ (w : Task). Elsewhere x (with_task w x) → IsLess (ahead_at x.current x.back x.place w) (ahead x)) (is_clear (state_of (c.seats other).place) bound) (after_clear other bound x x.task) x.task
      (λ _ _.
      subst (λ q. IsLess (ahead_at x.current x.back q (after_clear other bound x x.task)) (ahead_at x.current x.back q x.task)) (sym is)
      (subst (λ w. IsLess (ahead_at x.current x.back pl (after_clear other bound x w)) (ahead_at x.current x.back pl w)) (sym at)
      (subst (λ w. IsLess (ahead_at x.current x.back pl w) (ahead_at x.current x.back pl u)) (sym leads) less)))
      (λ _ moved. absurd (nowhere x moved)))
