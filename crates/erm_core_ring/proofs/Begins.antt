-- Each event keeps that transactions begin where ranges end: a begin stamp is the log's end, and ranges stay.
use Rattle.std.proofs.Common.{◌≡◌, ℕ, ◌+◌, ⊎_elim, Bool, true, false, ◌∷◌, [], Option, Some, None, refl, sym, ◌∙◌, subst, inl, inr}
use Rattle.std.specs.Prelude.{if◌then◌else◌}
use Rattle.std.proofs.lemmas.Option.{same_Some}
use Rattle.erm_model.specs.Member.{◌∈◌}
use Rattle.erm_machine.specs.declared.attempt.Decision.TheVariants.{Abort}
use Rattle.erm_machine.specs.declared.event.Counter.{Counter}
use Rattle.erm_machine.specs.declared.event.Counter.TheVariants.{Objects, Cells}
use Rattle.erm_machine.specs.declared.event.Kind.{Kind}
use Rattle.erm_machine.specs.declared.event.Kind.TheVariants as kind
use Rattle.erm_machine.specs.declared.event.TailUse.{TailUse}
use Rattle.erm_machine.specs.declared.event.TailUse.TheVariants as purpose
use Rattle.erm_machine.specs.declared.part.Part.{Part}
use Rattle.erm_machine.specs.declared.place.Place.{Place}
use Rattle.erm_machine.specs.declared.place.Place.TheVariants.{Idle, Begun, Announced, Active, Sealing, Drawn, Sealed, Decided, Leaving}
use Rattle.erm_machine.specs.declared.task.Task.{Task}
use Rattle.erm_machine.specs.declared.task.Task.TheVariants as task
use Rattle.erm_machine.specs.declared.version.Span.{Span}
use Rattle.erm_machine.specs.Core.{Core, Shared, blank, spot_of, word_at}
use Rattle.erm_machine.specs.Facts.{HasBegun}
use Rattle.erm_machine.specs.Life.{load_tail_to_begin, load_tail_for_horizon, add_tail, store_begin, store_state, load_begin, load_state, split, join, decide}
use Rattle.erm_machine.specs.Log.{IsEnd}
use Rattle.erm_machine.specs.Seat.{over, with_current}
use Rattle.erm_machine.specs.Sound.{Sound}
use Rattle.erm_machine.specs.Step.{after_event, shared_after, with_counter, with_part}
use Rattle.erm_machine.specs.Words.{is_flusher, put, refuses}
use Rattle.erm_machine.proofs.Frames.{each_seat}
use Rattle.erm_machine.proofs.Backs.{active_begin_then}
use Rattle.erm_machine.proofs.Guards.{either_way, when_then}
use Rattle.erm_machine.proofs.Listed.{∈-first}
use Rattle.erm_machine.proofs.QuietKinds.{IsQuiet, MeetsOne, Moves, moves, quiet_kind}
use Rattle.erm_core_ring.specs.Begins.{BeginAtEnds, BeginsAtEnd}
use Rattle.erm_core_ring.proofs.Spans.{last_end}

-- where the log begins stays, and so do its ranges
record KeepsRanges (s t : Shared) : Type 0 where
  pub opening : t.opening ≡ s.opening
  pub log : (r : Span) → r ∈ s.log → r ∈ t.log

counter_ranges : (counter : Counter) (n : ℕ) (s : Shared) → KeepsRanges s (with_counter counter n s)
counter_ranges Objects n s = record { opening = refl; log = λ r m. m }
counter_ranges Cells n s = record { opening = refl; log = λ r m. m }

keeps_ranges : (p : ℕ) (k : Kind) (found : ℕ) (x : Part) (s : Shared) → KeepsRanges s (shared_after p k found x s)
keeps_ranges p (kind.AddTail size) found x s =
    record { opening = refl; log = λ r m. ∈-first s.log (record { seat = p; start = found; size = size } ∷ []) r m }
keeps_ranges p (kind.AddCounter counter) found x s = counter_ranges counter _ s
keeps_ranges p _ found x s = record { opening = refl; log = λ r m. m }

end_stays : (s t : Shared) → KeepsRanges s t → (place : ℕ) → IsEnd s place → IsEnd t place
end_stays s t keeps place end =
    ⊎_elim (λ (first : place ≡ s.opening). inl (first ∙ sym keeps.opening))
    (λ (r : (r : Span) × (r ∈ s.log) × (r.start + r.size ≡ place)). inr (r.0, keeps.log r.0 r.1, r.2)) end

begins_stays : (s t : Shared) (x : Part) → KeepsRanges s t → BeginsAtEnd s x → BeginsAtEnd t x
begins_stays s t x keeps at = record { ends = λ begun. end_stays s t keeps x.current.begin (at.ends begun) }

-- a step that leaves the begin stamp, if the seat has one after it
stays : (s : Shared) (x y : Part) → (HasBegun y.place → HasBegun x.place) → y.current.begin ≡ x.current.begin → BeginsAtEnd s x → BeginsAtEnd s y
stays s x y begun begin at = record { ends = λ now. subst (IsEnd s) (sym begin) (at.ends (begun now)) }

-- a place at which it has none
none_at : (s : Shared) (y : Part) → (HasBegun y.place → ⊥) → BeginsAtEnd s y
none_at s y none = record { ends = λ begun. absurd (none begun) }

module _ (s : Shared) (p : ℕ) (x : Part) (at : BeginsAtEnd s x) where
  -- a step that leaves the seat at its place
  calm : (y : Part) → y.place ≡ x.place → y.current.begin ≡ x.current.begin → BeginsAtEnd s y
  calm y place begin = stays s x y (λ h. subst HasBegun place h) begin at

  begins : IsEnd s s.tail → (pl : Place) (y : Part) → load_tail_to_begin p s.tail x pl ≡ Some y → BeginsAtEnd s y
  begins end Idle y e =
      when_then (BeginsAtEnd s) _ _ y e (λ _.
      none_at s _ (either_way (λ (pl : Place). HasBegun pl → ⊥) (refuses p s.tail) Idle (Begun s.tail) (λ _ h. h) (λ _ h. h)))
  begins end (Announced tail) y e = when_then (BeginsAtEnd s) _ _ y e (λ _. record { ends = λ begun. end })
  begins end _ y e = absurd (cc)

  draws : (size found : ℕ) (pl : Place) (y : Part) → x.place ≡ pl → add_tail p size found x pl ≡ Some y → BeginsAtEnd s y
  draws size found (Sealing tail) y is e = when_then (BeginsAtEnd s) _ _ y e (λ _. stays s x _ (λ h. subst HasBegun (sym is) tt) refl at)
  draws size found _ y is e = absurd (cc)

  announces : (value : ℕ) (pl : Place) (y : Part) → x.place ≡ pl → store_begin p value x pl ≡ Some y → BeginsAtEnd s y
  announces value (Begun tail) y is e = when_then (BeginsAtEnd s) _ _ y e (λ _. none_at s _ (λ h. h))
  announces value (Active tail) y is e =
      active_begin_then (BeginsAtEnd s) p value tail x y e
      (λ _ _. either_way (BeginsAtEnd s) (is_flusher p) (with_current blank (record x { place = Idle; task = task.Rest })) (over Abort (record x { place = Idle; task = task.Rest }))
      (λ _. none_at s _ (λ h. h)) (λ _. none_at s _ (λ h. h)))
      (λ _ _ _ _. stays s x _ (λ h. subst HasBegun (sym is) tt) refl at)
  announces value (Decided tail stamp) y is e = when_then (BeginsAtEnd s) _ _ y e (λ _. none_at s _ (λ h. h))
  announces value _ y is e = absurd (cc)

  seals : (value : ℕ) (pl : Place) (y : Part) → x.place ≡ pl → store_state p value x pl ≡ Some y → BeginsAtEnd s y
  seals value (Active tail) y is e = when_then (BeginsAtEnd s) _ _ y e (λ _. stays s x _ (λ h. subst HasBegun (sym is) tt) refl at)
  seals value (Drawn tail stamp) y is e = when_then (BeginsAtEnd s) _ _ y e (λ _. stays s x _ (λ h. subst HasBegun (sym is) tt) refl at)
  seals value (Leaving stamp) y is e = when_then (BeginsAtEnd s) _ _ y e (λ _. none_at s _ (λ h. h))
  seals value _ y is e = absurd (cc)

  decides : (place header : ℕ) (pl : Place) (t : Task) (y : Part) → x.place ≡ pl → decide place header x pl t ≡ Some y → BeginsAtEnd s y
  decides place header (Sealed tail stamp) (task.Fills words) y is e =
      when_then (BeginsAtEnd s) _ _ y e (λ _. stays s x _ (λ h. subst HasBegun (sym is) tt) refl at)
  decides place header _ _ y is e = absurd (cc)

  horizons : (found : ℕ) (t : Task) (y : Part) → load_tail_for_horizon found x t ≡ Some y → BeginsAtEnd s y
  horizons found (task.Claimed version) y e = when_then (BeginsAtEnd s) _ _ y e (λ _. calm _ refl refl)
  horizons found _ y e = absurd (cc)

  loads : (other found : ℕ) (t : Task) (y : Part) → load_begin p other found x t ≡ Some y → BeginsAtEnd s y
  loads other found (task.Horizon version least next) y e = when_then (BeginsAtEnd s) _ _ y e (λ _. calm _ refl refl)
  loads other found (task.Surveys next) y e = when_then (BeginsAtEnd s) _ _ y e (λ _. calm _ refl refl)
  loads other found _ y e = absurd (cc)

  looks : (other bound found : ℕ) (y : Part) → load_state p other bound found x ≡ Some y → BeginsAtEnd s y
  looks other bound found y e = when_then (BeginsAtEnd s) _ _ y e (λ _. calm _ refl refl)

-- a part of one seat changes, and the ranges stay
kept_from : (c : Core) (p : ℕ) (y : Part) (t : Shared) (d : Core) → BeginAtEnds c → KeepsRanges c.shared t → BeginsAtEnd c.shared y
    → record { shared = t; seats = put c.seats p y } ≡ d → BeginAtEnds d
kept_from c p y t d at keeps new is =
    subst BeginAtEnds is
    (each_seat (λ q (z : Part). BeginsAtEnd t z) c.seats p y (begins_stays c.shared t y keeps new) (λ q _. begins_stays c.shared t (c.seats q) keeps (at q)))

kept_moved : (c : Core) (p : ℕ) (k : Kind) (d : Core) → BeginAtEnds c → (m : Moves c p k d) → BeginsAtEnd c.shared m.part → BeginAtEnds d
kept_moved c p k d at m new =
    let found : ℕ = word_at c (spot_of p k) in kept_from c p m.part (shared_after p k found (c.seats p) c.shared) d at (keeps_ranges p k found (c.seats p) c.shared) new (sym m.is)

tail_kept : (c : Core) (p : ℕ) (reason : TailUse) (d : Core) → Sound c → BeginAtEnds c → Moves c p (kind.LoadTail reason) d → BeginAtEnds d
tail_kept c p purpose.Begin d sound at m =
    kept_moved c p (kind.LoadTail purpose.Begin) d at m
    (begins c.shared p (c.seats p) (at p) (last_end c.shared.opening c.shared.tail c.shared.log sound.common.ranges.end_to_end) (c.seats p).place m.part m.after)
tail_kept c p purpose.Horizon d sound at m =
    kept_moved c p (kind.LoadTail purpose.Horizon) d at m (horizons c.shared p (c.seats p) (at p) c.shared.tail (c.seats p).task m.part m.after)
tail_kept c p purpose.Gather d sound at m =
    kept_moved c p (kind.LoadTail purpose.Gather) d at m (when_then (BeginsAtEnd c.shared) _ _ m.part m.after (λ _. calm c.shared p (c.seats p) (at p) _ refl refl))

split_kept : (c : Core) (p other : ℕ) (d : Core) → BeginAtEnds c → after_event c p (kind.Split other) ≡ Some d → BeginAtEnds d
split_kept c p other d at e = by_test _ e
  where
    from : (o : Option Part) → split (c.seats p) (c.seats other) ≡ o → with_part c other o ≡ Some d → BeginAtEnds d
    from None is e = absurd (cc)
    from (Some y) is e =
        kept_from c other y c.shared d at (record { opening = refl; log = λ r m. m })
        (when_then (BeginsAtEnd c.shared) _ _ y is (λ _. none_at c.shared _ (λ h. h))) (same_Some _ _ e)

    by_test : (b : Bool) → (if b then with_part c other (split (c.seats p) (c.seats other)) else None) ≡ Some d → BeginAtEnds d
    by_test true e = from _ refl e
    by_test false e = absurd (cc)

join_kept : (c : Core) (p other : ℕ) (d : Core) → BeginAtEnds c → after_event c p (kind.Join other) ≡ Some d → BeginAtEnds d
join_kept c p other d at e = by_test _ e
  where
    from : (o : Option Part) → join (c.seats p) (c.seats other) ≡ o → with_part c p o ≡ Some d → BeginAtEnds d
    from None is e = absurd (cc)
    from (Some y) is e =
        kept_from c p y c.shared d at (record { opening = refl; log = λ r m. m })
        (when_then (BeginsAtEnd c.shared) _ _ y is (λ _. calm c.shared p (c.seats p) (at p) _ refl refl)) (same_Some _ _ e)

    by_test : (b : Bool) → (if b then None else with_part c p (join (c.seats p) (c.seats other))) ≡ Some d → BeginAtEnds d
    by_test true e = absurd (cc)
    by_test false e = from _ refl e

quiet_kept : (c : Core) (p : ℕ) (k : Kind) (d : Core) → IsQuiet k → MeetsOne k → BeginAtEnds c → after_event c p k ≡ Some d → BeginAtEnds d
quiet_kept c p k d quiet one at e =
    let m = moves c p k d one e in
    let steady = (quiet_kind p k (word_at c (spot_of p k)) c.shared (c.seats p) m.part quiet m.after).steady in
    kept_moved c p k d at m (calm c.shared p (c.seats p) (at p) m.part steady.place steady.begin)

-- Each event keeps that each transaction begins where a range ends.
pub begins_kept : (c : Core) (p : ℕ) (k : Kind) (d : Core) → Sound c → BeginAtEnds c → after_event c p k ≡ Some d → BeginAtEnds d
begins_kept c p (kind.LoadTail reason) d sound at e = tail_kept c p reason d sound at (moves c p (kind.LoadTail reason) d tt e)
begins_kept c p (kind.AddTail size) d sound at e =
    let m = moves c p (kind.AddTail size) d tt e in
    kept_moved c p (kind.AddTail size) d at m (draws c.shared p (c.seats p) (at p) size c.shared.tail (c.seats p).place m.part refl m.after)
begins_kept c p (kind.StoreBegin value) d sound at e =
    let m = moves c p (kind.StoreBegin value) d tt e in
    kept_moved c p (kind.StoreBegin value) d at m (announces c.shared p (c.seats p) (at p) value (c.seats p).place m.part refl m.after)
begins_kept c p (kind.StoreState value) d sound at e =
    let m = moves c p (kind.StoreState value) d tt e in
    kept_moved c p (kind.StoreState value) d at m (seals c.shared p (c.seats p) (at p) value (c.seats p).place m.part refl m.after)
begins_kept c p (kind.LoadBegin other) d sound at e =
    let m = moves c p (kind.LoadBegin other) d tt e in
    kept_moved c p (kind.LoadBegin other) d at m (loads c.shared p (c.seats p) (at p) other (word_at c (spot_of p (kind.LoadBegin other))) (c.seats p).task m.part m.after)
begins_kept c p (kind.LoadState other bound) d sound at e =
    let m = moves c p (kind.LoadState other bound) d tt e in
    kept_moved c p (kind.LoadState other bound) d at m (looks c.shared p (c.seats p) (at p) other bound (word_at c (spot_of p (kind.LoadState other bound))) m.part m.after)
begins_kept c p (kind.Split other) d sound at e = split_kept c p other d at e
begins_kept c p (kind.Join other) d sound at e = join_kept c p other d at e
begins_kept c p (kind.Decide place header) d sound at e =
    let m = moves c p (kind.Decide place header) d tt e in
    kept_moved c p (kind.Decide place header) d at m (decides c.shared p (c.seats p) (at p) place header (c.seats p).place (c.seats p).task m.part refl m.after)
begins_kept c p k d sound at e = quiet_kept c p k d tt tt at e
