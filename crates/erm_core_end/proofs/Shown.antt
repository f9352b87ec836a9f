-- What a sound state shows, whatever its seats are in the middle of, as a world in which all may end.
use Rattle.std.proofs.Common.{◌≡◌, ℕ, zero, suc, ◌+◌, ◌*◌, ◌<◌, ◌≤◌, ⊎_elim, true, false, List, [], ◌∷◌, ◌++◌, map, sum_by, ◌==◌, Some, refl, sym, ap, ◌∙◌, subst, arith}
use Rattle.std.proofs.lemmas.Bool.{cases_lt, eq-eqb}
use Rattle.std.proofs.lemmas.List.{nil_from_length}
use Rattle.std.proofs.lemmas.List.Sums.{sum_by-append, sum_by-cons}
use Rattle.erm_model.specs.declared.limits.TheConstants.{GREATEST_BLOCK}
use Rattle.erm_model.specs.Member.{◌∈◌}
use Rattle.erm_model.proofs.Members.{none_in_nil}
use Rattle.erm_machine.specs.declared.attempt.Attempt.{Attempt}
use Rattle.erm_machine.specs.declared.part.Part.{Part}
use Rattle.erm_machine.specs.declared.place.Place.{Place}
use Rattle.erm_machine.specs.declared.place.Place.TheVariants.{Vacant, Idle, Begun, Announced, Active, Sealing, Drawn, Sealed, Decided, Leaving}
use Rattle.erm_machine.specs.declared.task.Task.{Task}
use Rattle.erm_machine.specs.declared.task.Task.TheVariants as task
use Rattle.erm_machine.specs.declared.version.Span.{Span}
use Rattle.erm_machine.specs.Core.{Core}
use Rattle.erm_machine.specs.Facts.{IsCurrent, IsDecided, all_of}
use Rattle.erm_machine.specs.Lives.{IsPin}
use Rattle.erm_machine.specs.Ranges.{range_at, ranges_of}
use Rattle.erm_machine.specs.Sound.{Sound}
use Rattle.erm_machine.specs.Words.{is_flusher}
use Rattle.erm_machine.proofs.Listed.{∈-cons, ∈-either, ∈-filter_from}
use Rattle.erm_world.specs.World.{Finished, Work, stamp_of}
use Rattle.erm_world.specs.World as world
use Rattle.erm_core_shown.specs.Shown.{HasOnly, ended_as, over_now, shown_of, shown_session, shown_stand}
use Rattle.erm_core_view.specs.Views.{fate_of, finished_of, work_of}
use Rattle.erm_core_view.proofs.Parts.{current_stands, over_stands}
use Rattle.erm_lines_at_once.specs.Ends.{one_below, sealed_below, sealed_in, sealed_upto, stamp_now}
use Rattle.erm_core_end.proofs.Counted.{all_upto, none_upto, of_seat, one_more, reached, starts, upto}
use Rattle.erm_core_end.proofs.Excluded.{IsSkipped, skip_decided, skipped}
use Rattle.erm_core_end.proofs.Sealed.{either_kind, no_range, one_counts, over_counts, range_starts, unpinned}

-- EXCLUDED: a transaction that shows as excluded is one of its seat's, and has drawn its stamp.
pub record IsShownSkipped (x : Part) (w : Work) (stamp succ pred : ℕ) : Type 0 where
  pub is : IsSkipped (all_of x) w stamp succ pred
  pub drawn : 0 < is.attempt.stamp

one_of : (f g : Finished) → f ∈ (g ∷ []) → g ≡ f
one_of f g m = ⊎_elim (λ (e : g ≡ f). e) (λ (none : f ∈ []). absurd (none_in_nil f none)) (∈-cons f g [] m)

decided_now : (t : Attempt) (drawn : ℕ) (w : Work) (stamp succ pred : ℕ) → IsDecided drawn t → record { work = w; fate = world.excluded stamp succ pred } ∈ map finished_of (t ∷ [])
    → IsSkipped (t ∷ []) w stamp succ pred × (0 < t.stamp)
decided_now t drawn w stamp succ pred current m = (skipped (t ∷ []) w stamp succ pred m, subst (λ (n : ℕ). 0 < n) (sym current.stamp_is) current.positive)

now_skipped : (pl : Place) (u : Task) (t : Attempt) (w : Work) (stamp succ pred : ℕ) → IsCurrent pl t → record { work = w; fate = world.excluded stamp succ pred } ∈ over_now (ended_as pl u t) t
    → IsSkipped (t ∷ []) w stamp succ pred × (0 < t.stamp)
now_skipped (Active tail) (task.Ends raised ended step cleared) t w stamp succ pred current m =
    let none = ap (λ (f : Finished). f.fate) (one_of (record { work = w; fate = world.excluded stamp succ pred }) (record { work = work_of t; fate = world.aborts }) m) in
    absurd (cc)
now_skipped (Active tail) u t w stamp succ pred current m = absurd (none_in_nil (record { work = w; fate = world.excluded stamp succ pred }) m)
now_skipped (Decided tail drawn) u t w stamp succ pred current m = decided_now t drawn w stamp succ pred current m
now_skipped (Leaving drawn) u t w stamp succ pred current m = decided_now t drawn w stamp succ pred current m
now_skipped _ u t w stamp succ pred current m = absurd (none_in_nil (record { work = w; fate = world.excluded stamp succ pred }) m)

pub shown_skipped : (c : Core) (seat : ℕ) (w : Work) (stamp succ pred : ℕ) → Sound c → record { work = w; fate = world.excluded stamp succ pred } ∈ (shown_session (c.seats seat)).over
    → IsShownSkipped (c.seats seat) w stamp succ pred
shown_skipped c seat w stamp succ pred sound m =
    let x = c.seats seat in
    ⊎_elim
    (λ (past : record { work = w; fate = world.excluded stamp succ pred } ∈ map finished_of x.over).
    let is = skipped x.over w stamp succ pred past in
    record {
      is = record {
        attempt = is.attempt;
        stands = over_stands x is.attempt is.stands;
        work = is.work;
        skip = is.skip;
        stamp_is = is.stamp_is;
        succ_is = is.succ_is;
        pred_is = is.pred_is;
      };
      drawn = (sound.own seat).lives.drawn is.attempt is.stands (skip_decided is.attempt.decision is.skip).1;
    })
    (λ (now : record { work = w; fate = world.excluded stamp succ pred } ∈ over_now (ended_as x.place x.task x.current) x.current).
    let both = now_skipped x.place x.task x.current w stamp succ pred (sound.own seat).ranges.current now in
    let is = both.0 in
    let same : x.current ≡ is.attempt =
    ⊎_elim (λ (e : x.current ≡ is.attempt). e) (λ (none : is.attempt ∈ []). absurd (none_in_nil is.attempt none)) (∈-cons is.attempt x.current [] is.stands)
    in
    record {
      is = record {
        attempt = is.attempt;
        stands = subst (λ (t : Attempt). t ∈ all_of x) same (current_stands x);
        work = is.work;
        skip = is.skip;
        stamp_is = is.stamp_is;
        succ_is = is.succ_is;
        pred_is = is.pred_is;
      };
      drawn = subst (λ (t : Attempt). 0 < t.stamp) same both.1;
    })
    (∈-either (map finished_of x.over) (over_now (ended_as x.place x.task x.current) x.current) (record { work = w; fate = world.excluded stamp succ pred }) m)

-- SEALED: how many of a list that is over were sealed below a place
abbrev counts : ℕ → List Finished → ℕ
counts bound fs = sum_by (λ f. one_below bound (stamp_of f.fate)) fs

blank_counts : (bound seat n : ℕ) (t : Attempt) → t.stamp ≡ 0 → starts bound (range_at seat t.stamp t.size) ≤ n
blank_counts bound seat n t none = omega (arith, ap (λ (rs : List Span). starts bound rs) (no_range bound seat t.stamp t.size none))

undecided_counts : (bound seat stamp : ℕ) (t : Attempt) → t.stamp ≡ stamp → starts bound (range_at seat t.stamp t.size) ≤ 0 + one_below bound (Some stamp)
undecided_counts bound seat stamp t is = omega (arith, range_starts bound seat t.stamp t.size, ap (λ (n : ℕ). one_below bound (Some n)) is)

decided_counts : (bound seat stamp n : ℕ) (t : Attempt) → IsDecided stamp t → starts bound (range_at seat t.stamp t.size) ≤ counts bound (record { work = work_of t; fate = fate_of t.decision t } ∷ []) + n
decided_counts bound seat stamp n t current =
    let one = one_counts bound seat t current.decision (λ drawn. current.kept) in
    let all = sum_by-cons (λ (f : Finished). one_below bound (stamp_of f.fate)) (finished_of t) [] in
    omega (arith, one, all)

now_counts : (bound seat : ℕ) (pl : Place) (u : Task) (t : Attempt) → IsCurrent pl t
    → starts bound (range_at seat t.stamp t.size) ≤ counts bound (over_now (ended_as pl u t) t) + one_below bound (stamp_now (shown_stand pl u t))
now_counts bound seat Vacant u t cur = blank_counts bound seat _ t (ap (λ (a : Attempt). a.stamp) cur)
now_counts bound seat Idle u t cur = blank_counts bound seat _ t (ap (λ (a : Attempt). a.stamp) cur)
now_counts bound seat (Begun tail) u t cur = blank_counts bound seat _ t (ap (λ (a : Attempt). a.stamp) cur)
now_counts bound seat (Announced tail) u t cur = blank_counts bound seat _ t (ap (λ (a : Attempt). a.stamp) cur)
now_counts bound seat (Active tail) (task.Ends raised ended step cleared) t cur = blank_counts bound seat _ t cur.stamp
now_counts bound seat (Active tail) u t cur = blank_counts bound seat _ t cur.stamp
now_counts bound seat (Sealing tail) u t cur = blank_counts bound seat _ t cur.stamp
now_counts bound seat (Drawn tail stamp) u t cur = undecided_counts bound seat stamp t cur.stamp_is
now_counts bound seat (Sealed tail stamp) u t cur = undecided_counts bound seat stamp t cur.stamp_is
now_counts bound seat (Decided tail stamp) u t cur = decided_counts bound seat stamp _ t cur
now_counts bound seat (Leaving stamp) u t cur = decided_counts bound seat stamp _ t cur

module _ (sessions : ℕ) (c : Core) (sound : Sound c) (only : HasOnly sessions c) where
  own_counts : (bound q : ℕ) → starts bound (of_seat q c.shared.log) ≤ sealed_in bound (shown_session (c.seats q))
  own_counts bound q =
      let x = c.seats q in
      let ranges = (sound.own q).ranges in
      let over = over_counts bound q x.over ranges.decided ranges.kept in
      let now = now_counts bound q x.place x.task x.current ranges.current in
      let both = sum_by-append (λ (r : Span). one_below bound (Some r.start)) (ranges_of q x.over) (range_at q x.current.stamp x.current.size) in
      let shown = sum_by-append (λ (f : Finished). one_below bound (stamp_of f.fate)) (map finished_of x.over) (over_now (ended_as x.place x.task x.current) x.current) in
      omega (arith, ap (λ (rs : List Span). starts bound rs) ranges.ranges, both, shown, over, now)

  upto_counts : (bound n : ℕ) → ((r : Span) → r ∈ c.shared.log → 0 < r.seat) → starts bound (upto n c.shared.log) ≤ sealed_upto n (λ q. shown_session (c.seats q)) bound
  unfolding sealed_upto
  upto_counts bound zero some = omega (arith, none_upto bound c.shared.log some)
  upto_counts bound (suc n) some =
      let before = upto_counts bound n some in
      omega (arith, before, one_more bound n c.shared.log, own_counts bound (suc n))

  -- a seat that is none of a session has drawn nothing
  none_drawn : (q : ℕ) → (0 < q → q ≤ sessions → ⊥) → of_seat q c.shared.log ≡ []
  none_drawn q other =
      let x = c.seats q in
      let own = sound.own q in
      let nothing : x.over ≡ [] → x.current.stamp ≡ 0 → of_seat q c.shared.log ≡ [] = λ over stamp.
      own.ranges.ranges ∙ ap (λ (ts : List Attempt). ranges_of q ts ++ range_at q x.current.stamp x.current.size) over ∙ no_range 0 q x.current.stamp x.current.size stamp in
      ⊎_elim
      (λ (flusher : is_flusher q ≡ true). nothing (nil_from_length x.over (own.lives.pins flusher)) (unpinned x.place x.current (own.lives.pinned flusher) own.ranges.current))
      (λ (plain : is_flusher q ≡ false). nothing (only.unused q other plain) (unpinned x.place x.current (subst IsPin (sym (only.vacant q other plain)) tt) own.ranges.current))
      (either_kind (is_flusher q))

  in_own : (r : Span) → r ∈ c.shared.log → r ∈ of_seat r.seat c.shared.log
  in_own r m = ∈-filter_from (λ (s : Span). s.seat == r.seat) r c.shared.log m (eq-eqb r.seat r.seat refl)

  not_other : (r : Span) → r ∈ c.shared.log → (0 < r.seat → r.seat ≤ sessions → ⊥) → ⊥
  not_other r m other = none_in_nil r (subst (λ (rs : List Span). r ∈ rs) (none_drawn r.seat other) (in_own r m))

  positive_seat : (r : Span) → r ∈ c.shared.log → 0 < r.seat
  positive_seat r m = ⊎_elim (λ (yes : 0 < r.seat). yes) (λ (no : r.seat ≤ 0). absurd (not_other r m (λ positive _. omega (arith, positive, no)))) (cases_lt 0 r.seat)

  few_seats : (r : Span) → r ∈ c.shared.log → r.seat ≤ sessions
  few_seats r m = ⊎_elim (λ (no : sessions < r.seat). absurd (not_other r m (λ _ within. omega (arith, within, no)))) (λ (yes : r.seat ≤ sessions). yes) (cases_lt sessions r.seat)

  -- each place of the log
  pub shown_within : (bound : ℕ) → bound ≤ c.shared.tail → bound ≤ c.shared.opening + GREATEST_BLOCK * sealed_below (shown_of sessions c) bound
  shown_within bound within =
      let reach = reached bound c.shared.opening c.shared.tail c.shared.log sound.common.ranges.end_to_end (λ r m. (sound.common.ranges.sizes r m).1) within in
      let most = upto_counts bound sessions positive_seat in
      omega (arith, reach, all_upto bound sessions c.shared.log few_seats, most)
