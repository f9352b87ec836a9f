-- A transaction that stands nowhere before an event begins by it, at the log's end.
use Rattle.std.proofs.Common.{◌≡◌, ℕ, ⊎_elim, Bool, true, false, [], ◌∷◌, ◌++◌, Option, Some, None, refl, sym, ap, ◌∙◌, subst}
use Rattle.std.specs.Prelude.{if◌then◌else◌}
use Rattle.std.proofs.lemmas.Option.{same_Some}
use Rattle.erm_model.specs.Member.{◌∈◌}
use Rattle.erm_model.proofs.Members.{∈-push}
use Rattle.erm_machine.specs.declared.attempt.Attempt.{Attempt}
use Rattle.erm_machine.specs.declared.attempt.Decision.TheVariants.{Abort}
use Rattle.erm_machine.specs.declared.event.Kind.{Kind}
use Rattle.erm_machine.specs.declared.event.Kind.TheVariants as kind
use Rattle.erm_machine.specs.declared.event.TailUse.{TailUse}
use Rattle.erm_machine.specs.declared.event.TailUse.TheVariants as purpose
use Rattle.erm_machine.specs.declared.part.Part.{Part}
use Rattle.erm_machine.specs.declared.place.Place.{Place}
use Rattle.erm_machine.specs.declared.place.Place.TheVariants.{Idle, Begun, Announced, Active, Sealing, Drawn, Sealed, Decided, Leaving}
use Rattle.erm_machine.specs.declared.task.Task.{Task}
use Rattle.erm_machine.specs.declared.task.Task.TheVariants as task
use Rattle.erm_machine.specs.Core.{Core, Shared, spot_of, word_at}
use Rattle.erm_machine.specs.Facts.{all_of}
use Rattle.erm_machine.specs.Life.{add_tail, decide, join, load_begin, load_state, load_tail, load_tail_for_horizon, load_tail_to_begin, split, store_begin, store_state}
use Rattle.erm_machine.specs.Step.{after_event, shared_after, with_part}
use Rattle.erm_machine.specs.Words.{is_flusher, put}
use Rattle.erm_machine.proofs.Backs.{active_begin_then}
use Rattle.erm_machine.proofs.Frames.{each_seat}
use Rattle.erm_machine.proofs.Guards.{either_way, when_then}
use Rattle.erm_machine.proofs.QuietKinds.{Moves, moves, quiet_kind}
use Rattle.erm_core_view.proofs.Parts.{current_stands, over_stands}

-- of a seat's transactions this one was there before, or begins at this place, or is none
pub data IsOld (x : Part) (tail : ℕ) (u : Attempt) : Type 0 where
  was : (t : Attempt) → t ∈ all_of x → u.number ≡ t.number → u.begin ≡ t.begin → IsOld x tail u
  begins : u.begin ≡ tail → IsOld x tail u
  none : u.number ≡ 0 → IsOld x tail u

pub record AllOld (x : Part) (tail : ℕ) (y : Part) : Type 0 where
  pub each : (u : Attempt) → u ∈ all_of y → IsOld x tail u

from_now : (x : Part) (tail : ℕ) (y : Part) → y.over ≡ x.over → IsOld x tail y.current → AllOld x tail y
from_now x tail y over now = record {
  each = λ u m.
      ⊎_elim (λ (before : u ∈ y.over). was u (over_stands x u (subst (λ ts. u ∈ ts) over before)) refl refl) (λ (is : u ≡ y.current). subst (IsOld x tail) (sym is) now)
      (∈-push y.over y.current u m);
}

same : (x : Part) (tail : ℕ) (y : Part) → y.over ≡ x.over → y.current.number ≡ x.current.number → y.current.begin ≡ x.current.begin → AllOld x tail y
same x tail y over number begin = from_now x tail y over (was x.current (current_stands x) number begin)

-- the current one is over
ends : (x : Part) (tail : ℕ) (y : Part) (u : Attempt) → y.over ≡ x.over ++ u ∷ [] → u.number ≡ x.current.number → u.begin ≡ x.current.begin → y.current.number ≡ 0 → AllOld x tail y
ends x tail y u over number begin gone = record {
  each = λ v m.
      ⊎_elim
      (λ (before : v ∈ y.over).
      ⊎_elim (λ (past : v ∈ x.over). was v (over_stands x v past) refl refl)
      (λ (last : v ≡ u). subst (IsOld x tail) (sym last) (was x.current (current_stands x) number begin)) (∈-push x.over u v (subst (λ ts. v ∈ ts) over before)))
      (λ (is : v ≡ y.current). none (ap (λ (t : Attempt). t.number) is ∙ gone)) (∈-push y.over y.current v m);
}

o_begin : (seat found : ℕ) (x : Part) (pl : Place) (y : Part) → load_tail_to_begin seat found x pl ≡ Some y → AllOld x found y
o_begin seat found x Idle y e = when_then (AllOld x found) _ _ y e (λ _. same x found _ refl refl refl)
o_begin seat found x (Announced tail) y e = when_then (AllOld x found) _ _ y e (λ _. from_now x found _ refl (begins refl))
o_begin seat found x _ y e = absurd (cc)

o_horizon : (tail found : ℕ) (x : Part) (t : Task) (y : Part) → load_tail_for_horizon found x t ≡ Some y → AllOld x tail y
o_horizon tail found x (task.Claimed version) y e = when_then (AllOld x tail) _ _ y e (λ _. same x tail _ refl refl refl)
o_horizon tail found x _ y e = absurd (cc)

o_load_tail : (seat : ℕ) (reason : TailUse) (found : ℕ) (x y : Part) → load_tail seat reason found x ≡ Some y → AllOld x found y
o_load_tail seat purpose.Begin found x y e = o_begin seat found x x.place y e
o_load_tail seat purpose.Horizon found x y e = o_horizon found found x x.task y e
o_load_tail seat purpose.Gather found x y e = when_then (AllOld x found) _ _ y e (λ _. same x found _ refl refl refl)

module _ (tail : ℕ) where
  o_add_tail : (seat size found : ℕ) (x : Part) (pl : Place) (y : Part) → add_tail seat size found x pl ≡ Some y → AllOld x tail y
  o_add_tail seat size found x (Sealing at) y e = when_then (AllOld x tail) _ _ y e (λ _. same x tail _ refl refl refl)
  o_add_tail seat size found x _ y e = absurd (cc)

  o_store_begin : (seat value : ℕ) (x : Part) (pl : Place) (y : Part) → store_begin seat value x pl ≡ Some y → AllOld x tail y
  o_store_begin seat value x (Begun at) y e = when_then (AllOld x tail) _ _ y e (λ _. same x tail _ refl refl refl)
  o_store_begin seat value x (Active at) y e =
      active_begin_then (AllOld x tail) seat value at x y e
      (λ _ _.
      either_way (AllOld x tail) (is_flusher seat) _ _ (λ _. from_now x tail _ refl (none refl)) (λ _. ends x tail _ (record x.current { decision = Abort }) refl refl refl refl))
      (λ _ _ _ _. same x tail _ refl refl refl)
  o_store_begin seat value x (Decided at stamp) y e = when_then (AllOld x tail) _ _ y e (λ _. same x tail _ refl refl refl)
  o_store_begin seat value x _ y e = absurd (cc)

  o_store_state : (seat value : ℕ) (x : Part) (pl : Place) (y : Part) → store_state seat value x pl ≡ Some y → AllOld x tail y
  o_store_state seat value x (Active at) y e = when_then (AllOld x tail) _ _ y e (λ _. same x tail _ refl refl refl)
  o_store_state seat value x (Drawn at stamp) y e = when_then (AllOld x tail) _ _ y e (λ _. same x tail _ refl refl refl)
  o_store_state seat value x (Leaving stamp) y e =
      when_then (AllOld x tail) _ _ y e (λ _. ends x tail _ (record x.current { decision = x.current.decision }) refl refl refl refl)
  o_store_state seat value x _ y e = absurd (cc)

  o_load_begin : (seat other found : ℕ) (x : Part) (t : Task) (y : Part) → load_begin seat other found x t ≡ Some y → AllOld x tail y
  o_load_begin seat other found x (task.Horizon version least next) y e = when_then (AllOld x tail) _ _ y e (λ _. same x tail _ refl refl refl)
  o_load_begin seat other found x (task.Surveys next) y e = when_then (AllOld x tail) _ _ y e (λ _. same x tail _ refl refl refl)
  o_load_begin seat other found x _ y e = absurd (cc)

  o_load_state : (seat other bound found : ℕ) (x y : Part) → load_state seat other bound found x ≡ Some y → AllOld x tail y
  o_load_state seat other bound found x y e = when_then (AllOld x tail) _ _ y e (λ _. same x tail _ refl refl refl)

  o_split : (by x y : Part) → split by x ≡ Some y → AllOld x tail y
  o_split by x y e = when_then (AllOld x tail) _ _ y e (λ _. same x tail _ refl refl refl)

  o_join : (x other y : Part) → join x other ≡ Some y → AllOld x tail y
  o_join x other y e = when_then (AllOld x tail) _ _ y e (λ _. same x tail _ refl refl refl)

  o_decide : (at header : ℕ) (x : Part) (pl : Place) (t : Task) (y : Part) → decide at header x pl t ≡ Some y → AllOld x tail y
  o_decide at header x (Sealed from stamp) (task.Fills words) y e = when_then (AllOld x tail) _ _ y e (λ _. same x tail _ refl refl refl)
  o_decide at header x _ _ y e = absurd (cc)

-- so it is of all seats
abbrev EachOld : Core → (ℕ → Part) → Type 0
EachOld c seats = (q : ℕ) → AllOld (c.seats q) c.shared.tail (seats q)

old_from : (c : Core) (p : ℕ) (y : Part) (t : Shared) (d : Core) → AllOld (c.seats p) c.shared.tail y → record { shared = t; seats = put c.seats p y } ≡ d → EachOld c d.seats
old_from c p y t d new is =
    subst (λ (e : Core). EachOld c e.seats) is
    (each_seat (λ q (z : Part). AllOld (c.seats q) c.shared.tail z) c.seats p y new (λ q _. same (c.seats q) c.shared.tail (c.seats q) refl refl refl))

old_moved : (c : Core) (p : ℕ) (k : Kind) (d : Core) → (m : Moves c p k d) → AllOld (c.seats p) c.shared.tail m.part → EachOld c d.seats
old_moved c p k d m new = old_from c p m.part (shared_after p k (word_at c (spot_of p k)) (c.seats p) c.shared) d new (sym m.is)

split_old : (c : Core) (p other : ℕ) (d : Core) → after_event c p (kind.Split other) ≡ Some d → EachOld c d.seats
split_old c p other d e = by_test _ e
  where
    from : (o : Option Part) → split (c.seats p) (c.seats other) ≡ o → with_part c other o ≡ Some d → EachOld c d.seats
    from None at e = absurd (cc)
    from (Some y) at e = old_from c other y c.shared d (o_split c.shared.tail (c.seats p) (c.seats other) y at) (same_Some _ _ e)

    by_test : (b : Bool) → (if b then with_part c other (split (c.seats p) (c.seats other)) else None) ≡ Some d → EachOld c d.seats
    by_test true e = from _ refl e
    by_test false e = absurd (cc)

join_old : (c : Core) (p other : ℕ) (d : Core) → after_event c p (kind.Join other) ≡ Some d → EachOld c d.seats
join_old c p other d e = by_test _ e
  where
    from : (o : Option Part) → join (c.seats p) (c.seats other) ≡ o → with_part c p o ≡ Some d → EachOld c d.seats
    from None at e = absurd (cc)
    from (Some y) at e = old_from c p y c.shared d (o_join c.shared.tail (c.seats p) (c.seats other) y at) (same_Some _ _ e)

    by_test : (b : Bool) → (if b then None else with_part c p (join (c.seats p) (c.seats other))) ≡ Some d → EachOld c d.seats
    by_test true e = absurd (cc)
    by_test false e = from _ refl e

-- Each event leaves it so.
pub all_old : (c d : Core) (p : ℕ) (k : Kind) → after_event c p k ≡ Some d → EachOld c d.seats
all_old c d p (kind.LoadTail reason) e =
    let m = moves c p (kind.LoadTail reason) d tt e in old_moved c p (kind.LoadTail reason) d m (o_load_tail p reason c.shared.tail (c.seats p) m.part m.after)
all_old c d p (kind.AddTail size) e =
    let m = moves c p (kind.AddTail size) d tt e in old_moved c p (kind.AddTail size) d m (o_add_tail c.shared.tail p size c.shared.tail (c.seats p) (c.seats p).place m.part m.after)
all_old c d p (kind.StoreBegin value) e =
    let m = moves c p (kind.StoreBegin value) d tt e in old_moved c p (kind.StoreBegin value) d m (o_store_begin c.shared.tail p value (c.seats p) (c.seats p).place m.part m.after)
all_old c d p (kind.StoreState value) e =
    let m = moves c p (kind.StoreState value) d tt e in old_moved c p (kind.StoreState value) d m (o_store_state c.shared.tail p value (c.seats p) (c.seats p).place m.part m.after)
all_old c d p (kind.LoadBegin other) e =
    let m = moves c p (kind.LoadBegin other) d tt e in
    old_moved c p (kind.LoadBegin other) d m (o_load_begin c.shared.tail p other (word_at c (spot_of p (kind.LoadBegin other))) (c.seats p) (c.seats p).task m.part m.after)
all_old c d p (kind.LoadState other bound) e =
    let m = moves c p (kind.LoadState other bound) d tt e in
    old_moved c p (kind.LoadState other bound) d m (o_load_state c.shared.tail p other bound (word_at c (spot_of p (kind.LoadState other bound))) (c.seats p) m.part m.after)
all_old c d p (kind.Split other) e = split_old c p other d e
all_old c d p (kind.Join other) e = join_old c p other d e
all_old c d p (kind.Decide at header) e =
    let m = moves c p (kind.Decide at header) d tt e in
    old_moved c p (kind.Decide at header) d m (o_decide c.shared.tail at header (c.seats p) (c.seats p).place (c.seats p).task m.part m.after)
all_old c d p k e =
    let m = moves c p k d tt e in
    let steady = (quiet_kind p k (word_at c (spot_of p k)) c.shared (c.seats p) m.part tt m.after).steady in
    old_moved c p k d m (same (c.seats p) c.shared.tail m.part steady.over steady.number steady.begin)
