-- Steps of a session that the view doesn't show, and what each step of a session leaves.
use Rattle.std.proofs.Common.{◌≡◌, ◌≢◌, ℕ, ⊎_elim, List, Option, Some, None, refl, sym, ap, ◌∙◌, subst, arith, Bool, true, false}
use Rattle.std.proofs.Math.Path.{fun_ext}
use Rattle.std.proofs.lemmas.Bool.{cases_eq}
use Rattle.std.specs.Prelude.{if◌then◌else◌}
use Rattle.erm_model.specs.declared.history.VersionWritten.{VersionWritten}
use Rattle.erm_machine.specs.declared.attempt.Attempt.{Attempt}
use Rattle.erm_machine.specs.declared.event.Kind.{Kind}
use Rattle.erm_machine.specs.declared.limits.TheConstants.{FLUSH_SEAT}
use Rattle.erm_machine.specs.declared.part.Part.{Part}
use Rattle.erm_machine.specs.declared.place.Place.{Place}
use Rattle.erm_machine.specs.declared.place.Place.TheVariants.{Active, Sealed}
use Rattle.erm_machine.specs.Core.{Core}
use Rattle.erm_machine.specs.Sound.{Sound}
use Rattle.erm_machine.specs.Step.{after_event}
use Rattle.erm_machine.specs.declared.task.Task.{Task}
use Rattle.erm_machine.specs.Seat.{is_safe, is_snapshot}
use Rattle.erm_machine.proofs.Frames.{put_other}
use Rattle.erm_machine.proofs.QuietKinds.{moves}
use Rattle.erm_world.specs.World.{GivenUp, Opening, Session, Stand, View}
use Rattle.erm_world.specs.World as world
use Rattle.erm_core_view.specs.Steps.{MeetsOne, drawn_by, flushed_by}
use Rattle.erm_core_view.specs.Views.{pin_of, session_of, stand_of, view_of, work_of}
use Rattle.erm_core_view.proofs.Moved.{changes_one}
use Rattle.erm_core_steps.specs.Steps.{IsUnseen}
use Rattle.erm_core_view.proofs.Moved.{meets_one}

-- a step changes no other seat
pub others_stay : (c d : Core) (seat : ℕ) (k : Kind) → MeetsOne k → after_event c seat k ≡ Some d → (q : ℕ) → q ≢ seat → d.seats q ≡ c.seats q
others_stay c d seat k one e q other =
    let m = moves c seat k d (meets_one k one) e in
    ap (λ (to : Core). to.seats q) m.is ∙ put_other c.seats seat m.part q other

pub same_view : (u v : View) → v.opening ≡ u.opening → v.session ≡ u.session → v.tail ≡ u.tail → v.flushed ≡ u.flushed → v.pinned ≡ u.pinned → v.given_up ≡ u.given_up
    → v.saves ≡ u.saves → v ≡ u
same_view u v opening session tail flushed pinned given saves =
    let made : Opening → (ℕ → Session) → ℕ → ℕ → Option ℕ → View = λ o s t f p. record { opening = o; session = s; tail = t; flushed = f; pinned = p; given_up = v.given_up; saves = v.saves } in
    ap (λ (o : Opening). made o v.session v.tail v.flushed v.pinned) opening ∙ ap (λ (s : ℕ → Session). made u.opening s v.tail v.flushed v.pinned) session
    ∙ ap (λ (t : ℕ). made u.opening u.session t v.flushed v.pinned) tail ∙ ap (λ (f : ℕ). made u.opening u.session u.tail f v.pinned) flushed
    ∙ ap (λ (p : Option ℕ). made u.opening u.session u.tail u.flushed p) pinned ∙ ap (λ (g : ℕ → List GivenUp). let w : View = record u { given_up = g; saves = v.saves } in w) given
    ∙ ap (λ (held : ℕ → List (List VersionWritten)). let w : View = record u { saves = held } in w) saves

-- a seat's pin is told by what its session shows
abbrev pin_from : Stand → Option ℕ
pin_from (world.active w) = Some w.begin
pin_from (world.snapshot s) = Some s.begin
pin_from s = None

pin_if : (b safe : Bool) (t : Attempt)
    → Some t.begin ≡ pin_from (if b then world.snapshot (record { number = t.number; begin = t.begin; is_safe = safe }) else world.active (work_of t))
pin_if true safe t = refl
pin_if false safe t = refl

pin_shown : (pl : Place) (u : Task) (t : Attempt) → pin_of pl t ≡ pin_from (stand_of pl u t)
pin_shown (Active tail) u t = pin_if (is_snapshot u) (is_safe u) t
pin_shown (Sealed tail stamp) u t = refl
pin_shown _ u t = refl

-- a step that its session doesn't show, and that neither draws a range nor stores the place flushed
pub unseen_step : (sessions seat : ℕ) (c d : Core) (k : Kind) → Sound c → MeetsOne k → drawn_by k ≡ 0 → flushed_by k c.shared.flushed ≡ c.shared.flushed
    → after_event c seat k ≡ Some d → session_of (d.seats seat) ≡ session_of (c.seats seat) → IsUnseen sessions seat c d
unseen_step sessions seat c d k sound one none same e own =
    let change = changes_one sessions seat c d k sound one e in
    let others = others_stay c d seat k one e in
    let tail : d.shared.tail ≡ c.shared.tail = (let h = change.tail in omega (arith, h, none)) in
    let flushed : d.shared.flushed ≡ c.shared.flushed = change.flushed ∙ same in
    let opening : (view_of sessions d).opening ≡ (view_of sessions c).opening = change.opening in
    let session : (view_of sessions d).session ≡ (view_of sessions c).session =
    fun_ext (λ q. ⊎_elim
    (λ (here : q ≡ seat). subst (λ n. session_of (d.seats n) ≡ session_of (c.seats n)) (sym here) own)
    (λ (there : q ≡ seat → ⊥). ap session_of (others q there))
    (cases_eq q seat))
    in
    let pin : (x : Part) → pin_of x.place x.current ≡ pin_from (session_of x).stand = λ x. pin_shown x.place x.task x.current in
    let pinned : (view_of sessions d).pinned ≡ (view_of sessions c).pinned =
    pin (d.seats FLUSH_SEAT) ∙ ap (λ (f : ℕ → Session). pin_from (f FLUSH_SEAT).stand) session ∙ sym (pin (c.seats FLUSH_SEAT))
    in
    record { others = others; view = same_view (view_of sessions c) (view_of sessions d) opening session tail flushed pinned refl refl }

pub unseen_none : (sessions seat : ℕ) (c : Core) → IsUnseen sessions seat c c
unseen_none sessions seat c = record { others = λ q other. refl; view = refl }

pub unseen_both : (sessions seat : ℕ) (c d e : Core) → IsUnseen sessions seat c d → IsUnseen sessions seat d e → IsUnseen sessions seat c e
unseen_both sessions seat c d e first second = record {
  others = λ q other. second.others q other ∙ first.others q other;
  view = second.view ∙ first.view;
}
