-- Each event keeps the ranges.
use Rattle.std.proofs.Common.{◌≡◌, ◌≢◌, ℕ, ◌+◌, ◌*◌, ◌<◌, ◌≤◌, ◌⊎◌, ⊎_elim, Bool, true, false, cond, not, ◌&&◌, eqb, leb, List, [], ◌∷◌, ◌++◌, filter, count_by, Option, Some, None, refl, sym, ap, ◌∙◌, subst, arith}
use Rattle.std.specs.Prelude.{if◌then◌else◌}
use Rattle.std.proofs.lemmas.Bool.{and_parts, cases_lt, leb-true, le-leb}
use Rattle.std.proofs.lemmas.List.Sums.{sum_by_push}
use Rattle.std.proofs.lemmas.Option.{same_Some}
use Rattle.erm_model.specs.Member.{◌∈◌}
use Rattle.erm_model.proofs.Members.{∈-push}
use Rattle.erm_machine.specs.declared.limits.TheConstants.{STOP, ANNOUNCERS, LEAST_BLOCK, GREATEST_BLOCK, SESSIONS}
use Rattle.erm_machine.specs.declared.attempt.Attempt.{Attempt}
use Rattle.erm_machine.specs.declared.event.Kind.{Kind}
use Rattle.erm_machine.specs.declared.event.Kind.TheVariants as kind
use Rattle.erm_machine.specs.declared.event.TailUse.{TailUse}
use Rattle.erm_machine.specs.declared.event.TailUse.TheVariants as purpose
use Rattle.erm_machine.specs.declared.part.Part.{Part}
use Rattle.erm_machine.specs.declared.place.Place.{Place}
use Rattle.erm_machine.specs.declared.place.Place.TheVariants.{Vacant, Idle, Begun, Announced, Active, Sealing, Drawn, Sealed, Decided, Leaving}
use Rattle.erm_machine.specs.declared.task.Task.{Task}
use Rattle.erm_machine.specs.declared.task.Task.TheVariants as task
use Rattle.erm_machine.specs.declared.version.Span.{Span}
use Rattle.erm_machine.specs.Core.{Core, Shared, spot_of, word_at}
use Rattle.erm_machine.specs.Facts.{total, HasBegun, IsCurrent}
use Rattle.erm_machine.specs.Life.{load_tail_for_horizon, add_tail, load_begin, split, join}
use Rattle.erm_machine.specs.Ranges.{EndToEnd, Ranges, OwnRanges, range_at, ranges_of, high, high_of, may_draw}
use Rattle.erm_machine.specs.Sound.{Sound}
use Rattle.erm_machine.specs.Step.{after_event, shared_after, with_part}
use Rattle.erm_machine.specs.Words.{put, is_seat}
use Rattle.erm_machine.proofs.Guards.{when_then}
use Rattle.erm_machine.proofs.Frames.{each_seat, total-put, total_same}
use Rattle.erm_machine.proofs.Quiet.{Steady, steady_same}
use Rattle.erm_machine.proofs.QuietKinds.{SameLog, IsQuiet, MeetsOne, DrawsNone, keeps_log, quiet_kind, Moves, moves}
use Rattle.erm_core_log.proofs.Lists.{end_to_end_push, high_ranges, high_of-is, filter_own, filter_other, total_few}
use Rattle.erm_core_log.proofs.Moved.{begins_own, draws_own, announces_own, seals_own, decides_own, split_own}

-- where a transaction keeps what its seat's place says of it
current_stays : (pl : Place) (t u : Attempt) → u.stamp ≡ t.stamp → u.decision ≡ t.decision → (u ≡ t) ⊎ HasBegun pl → IsCurrent pl t → IsCurrent pl u
current_stays Vacant t u stamp decision same h = ⊎_elim (λ (e : u ≡ t). e ∙ h) (λ (n : ⊥). absurd n) same
current_stays Idle t u stamp decision same h = ⊎_elim (λ (e : u ≡ t). e ∙ h) (λ (n : ⊥). absurd n) same
current_stays (Begun tail) t u stamp decision same h = ⊎_elim (λ (e : u ≡ t). e ∙ h) (λ (n : ⊥). absurd n) same
current_stays (Announced tail) t u stamp decision same h = ⊎_elim (λ (e : u ≡ t). e ∙ h) (λ (n : ⊥). absurd n) same
current_stays (Active tail) t u stamp decision same h = record { stamp = stamp ∙ h.stamp; decision = decision ∙ h.decision }
current_stays (Sealing tail) t u stamp decision same h = record { stamp = stamp ∙ h.stamp; decision = decision ∙ h.decision }
current_stays (Drawn tail c) t u stamp decision same h = record { stamp_is = stamp ∙ h.stamp_is; positive = h.positive; decision = decision ∙ h.decision }
current_stays (Sealed tail c) t u stamp decision same h = record { stamp_is = stamp ∙ h.stamp_is; positive = h.positive; decision = decision ∙ h.decision }
current_stays (Decided tail c) t u stamp decision same h = record { stamp_is = stamp ∙ h.stamp_is; positive = h.positive; decision = λ e. h.decision (sym decision ∙ e); kept = λ e. h.kept (sym decision ∙ e) }
current_stays (Leaving c) t u stamp decision same h = record { stamp_is = stamp ∙ h.stamp_is; positive = h.positive; decision = λ e. h.decision (sym decision ∙ e); kept = λ e. h.kept (sym decision ∙ e) }

-- a seat that stays at its place keeps its ranges
pub steady_own : (s : Shared) (p : ℕ) (x y : Part) → Steady x y → OwnRanges s p x → OwnRanges s p y
steady_own s p x y q own = record {
  seat_of = λ f. q.place ∙ own.seat_of f;
  current = subst (λ pl. IsCurrent pl y.current) (sym q.place) (current_stays x.place x.current y.current q.stamp q.decision q.same own.current);
  decided = λ t m. own.decided t (subst (λ (ts : List Attempt). t ∈ ts) q.over m);
  kept = λ t m. own.kept t (subst (λ (ts : List Attempt). t ∈ ts) q.over m);
  ranges = own.ranges ∙ ap (λ (ts : List Attempt). ranges_of p ts ++ range_at p x.current.stamp x.current.size) (sym q.over)
      ∙ ap (λ n. ranges_of p y.over ++ range_at p n x.current.size) (sym q.stamp) ∙ ap (λ n. ranges_of p y.over ++ range_at p y.current.stamp n) (sym q.size);
  one_high =
      let old = own.one_high in
      let a = ap (λ (ts : List Attempt). count_by (λ (u : Attempt). leb STOP u.stamp) ts) q.over in
      let b = ap high q.stamp in
      let c = ap (λ pl. may_draw p pl) q.place in
      omega (arith, old, a, b, c);
  few = q.few own.few;
  few_reads = q.few_reads own.few_reads;
}

-- what is shared may change elsewhere
pub same_log_own : (s t : Shared) (p : ℕ) (x : Part) → SameLog s t → OwnRanges s p x → OwnRanges t p x
same_log_own s t p x same own = record {
  seat_of = own.seat_of;
  current = own.current;
  decided = own.decided;
  kept = own.kept;
  ranges = ap (λ (rs : List Span). filter (λ (r : Span). eqb r.seat p) rs) same.log ∙ own.ranges;
  one_high = own.one_high;
  few = own.few;
  few_reads = own.few_reads;
}

-- the shared ranges, where no range is drawn: no seat has drawn another high one
pub same_log_shared : (s t : Shared) (seats : ℕ → Part) (p : ℕ) (y : Part) → SameLog s t →
    OwnRanges s p (seats p) → OwnRanges t p y → Ranges s seats → Ranges t (put seats p y)
same_log_shared s t seats p y same old new common =
    let before = high_of-is p s.log (seats p) old.ranges in
    let after = high_of-is p t.log y new.ranges in
    let logs = ap (λ (rs : List Span). high_ranges (filter (λ (r : Span). eqb r.seat p) rs)) same.log in
    let high_same : high_of y ≡ high_of (seats p) = omega (arith, before, after, logs) in
    let sum = total_same high_of ANNOUNCERS seats p y high_same in
    record {
      positive = let h = common.positive in omega (arith, h, same.opening);
      end_to_end = subst (λ n. EndToEnd t.opening t.log n) (sym same.tail)
          (subst (λ (rs : List Span). EndToEnd t.opening rs s.tail) (sym same.log) (subst (λ n. EndToEnd n s.log s.tail) (sym same.opening) common.end_to_end));
      sizes = λ r m. common.sizes r (subst (λ (rs : List Span). r ∈ rs) same.log m);
      bounded = let h = common.bounded in omega (arith, h, sum, same.tail);
      below = let h = common.below in omega (arith, h, same.tail);
    }

-- the shared ranges after one is drawn at the tail
pub drawn_shared : (s : Shared) (seats : ℕ → Part) (p size : ℕ) (y : Part) → p < ANNOUNCERS → (LEAST_BLOCK ≤ size) × (size ≤ GREATEST_BLOCK) →
    ((q : ℕ) → high_of (seats q) ≤ 1) → high_of y ≤ 1 →
    OwnRanges s p (seats p) →
    OwnRanges (record s { tail = s.tail + size; log = s.log ++ record { seat = p; start = s.tail; size = size } ∷ [] }) p y →
    Ranges s seats → Ranges (record s { tail = s.tail + size; log = s.log ++ record { seat = p; start = s.tail; size = size } ∷ [] }) (put seats p y)
drawn_shared s seats p size y within fits few own_few old new common =
    let span : Span = record { seat = p; start = s.tail; size = size } in
    let before = high_of-is p s.log (seats p) old.ranges in
    let after = high_of-is p (s.log ++ span ∷ []) y new.ranges in
    let lists = ap high_ranges (filter_own p s.tail size s.log) in
    let push = high_push (filter (λ (r : Span). eqb r.seat p) s.log) span in
    let high_more : high_of y ≡ high_of (seats p) + high s.tail = omega (arith, before, after, lists, push) in
    let sum = total-put high_of ANNOUNCERS seats p y within in
    let all = total_few ANNOUNCERS (put seats p y) (each_seat (λ _ (z : Part). high_of z ≤ 1) seats p y own_few (λ q _. few q)) in
    let grown : s.tail + size ≤ STOP + GREATEST_BLOCK * (1 + total high_of ANNOUNCERS (put seats p y)) =
    let h = common.bounded in
    ⊎_elim
    (λ (low : s.tail < STOP). let m = fits.1 in omega (arith, low, m))
    (λ (up : STOP ≤ s.tail). let one : high s.tail ≡ 1 = ap (λ (b : Bool). cond b 1 0) (le-leb STOP s.tail up) in let m = fits.1 in omega (arith, h, sum, high_more, one, m))
    (cases_lt s.tail STOP)
    in
    record {
      positive = common.positive;
      end_to_end = end_to_end_push s.opening s.tail s.log span common.end_to_end refl;
      sizes = λ r m. ⊎_elim (λ (there : r ∈ s.log). common.sizes r there) (λ (same : r ≡ span). subst (λ (q : Span). (LEAST_BLOCK ≤ q.size) × (q.size ≤ GREATEST_BLOCK)) (sym same) fits) (∈-push s.log span r m);
      bounded = grown;
      below = omega (arith, grown, all);
    }
  where
    high_push : (rs : List Span) (r : Span) → high_ranges (rs ++ r ∷ []) ≡ high_ranges rs + high r.start
    high_push rs r = sum_by_push (λ (q : Span). cond (leb STOP q.start) 1 0) rs r

-- the other seats' ranges after one is drawn
drawn_other : (s : Shared) (p q size : ℕ) (x : Part) → q ≢ p → OwnRanges s q x →
    OwnRanges (record s { tail = s.tail + size; log = s.log ++ record { seat = p; start = s.tail; size = size } ∷ [] }) q x
drawn_other s p q size x ne own = record {
  seat_of = own.seat_of;
  current = own.current;
  decided = own.decided;
  kept = own.kept;
  ranges = filter_other p q s.tail size s.log (λ e. ne (sym e)) ∙ own.ranges;
  one_high = own.one_high;
  few = own.few;
  few_reads = own.few_reads;
}

-- what the law says of a state
pub record Kept (d : Core) : Type 0 where
  pub shared : Ranges d.shared d.seats
  pub seats : (p : ℕ) → OwnRanges d.shared p (d.seats p)

-- a step that draws no range
kept_from : (c : Core) (p : ℕ) (k : Kind) (d : Core) → Sound c → DrawsNone k → (m : Moves c p k d) →
    OwnRanges c.shared p m.part → Kept d
kept_from c p k d sound none m own =
    let t : Shared = shared_after p k (word_at c (spot_of p k)) (c.seats p) c.shared in
    let same : SameLog c.shared t = keeps_log p k (word_at c (spot_of p k)) (c.seats p) c.shared none in
    let after : OwnRanges t p m.part = same_log_own c.shared t p m.part same own in
    subst Kept (sym m.is) (record {
      shared = same_log_shared c.shared t c.seats p m.part same (sound.own p).ranges after sound.common.ranges;
      seats = each_seat (λ q (z : Part). OwnRanges t q z) c.seats p m.part after (λ q _. same_log_own c.shared t q (c.seats q) same (sound.own q).ranges);
    })

-- a part of one seat changes, and nothing that is shared
kept_part : (c : Core) (p : ℕ) (y : Part) (d : Core) → Sound c → OwnRanges c.shared p y → record c { seats = put c.seats p y } ≡ d → Kept d
kept_part c p y d sound own is =
    let same : SameLog c.shared c.shared = record { opening = refl; tail = refl; log = refl } in
    subst Kept is (record {
      shared = same_log_shared c.shared c.shared c.seats p y same (sound.own p).ranges own sound.common.ranges;
      seats = each_seat (λ q (z : Part). OwnRanges c.shared q z) c.seats p y own (λ q _. (sound.own q).ranges);
    })

-- a step that leaves the seat at its place
steady_kept : (c : Core) (p : ℕ) (k : Kind) (d : Core) → Sound c → DrawsNone k → (m : Moves c p k d) → Steady (c.seats p) m.part → Kept d
steady_kept c p k d sound none m q = kept_from c p k d sound none m (steady_own c.shared p (c.seats p) m.part q (sound.own p).ranges)

-- a tail that is loaded for a horizon, or to gather, is only seen
horizon_steady : (found : ℕ) (x : Part) (t : Task) (y : Part) → load_tail_for_horizon found x t ≡ Some y → Steady x y
horizon_steady found x (task.Claimed version) y e = when_then (Steady x) _ _ y e (λ _. steady_same x _ refl refl refl)
horizon_steady found x _ y e = absurd (cc)

tail_kept : (c : Core) (p : ℕ) (reason : TailUse) (d : Core) → Sound c → Moves c p (kind.LoadTail reason) d → Kept d
tail_kept c p purpose.Begin d sound m =
    kept_from c p (kind.LoadTail purpose.Begin) d sound tt m
    (begins_own c.shared c.seats sound.common.ranges p (c.seats p) (sound.own p).ranges (c.seats p).place m.part refl m.after)
tail_kept c p purpose.Horizon d sound m =
    steady_kept c p (kind.LoadTail purpose.Horizon) d sound tt m (horizon_steady c.shared.tail (c.seats p) (c.seats p).task m.part m.after)
tail_kept c p purpose.Gather d sound m =
    steady_kept c p (kind.LoadTail purpose.Gather) d sound tt m
    (when_then (Steady (c.seats p)) _ _ m.part m.after (λ _. steady_same (c.seats p) _ refl refl refl))

begin_steady : (seat other found : ℕ) (x : Part) (t : Task) (y : Part) → load_begin seat other found x t ≡ Some y → Steady x y
begin_steady seat other found x (task.Horizon version least next) y e = when_then (Steady x) _ _ y e (λ _. steady_same x _ refl refl refl)
begin_steady seat other found x (task.Surveys next) y e = when_then (Steady x) _ _ y e (λ _. steady_same x _ refl refl refl)
begin_steady seat other found x _ y e = absurd (cc)

-- what a draw asks of its size, and of the seat
draw_size : (p size found : ℕ) (x : Part) (pl : Place) (y : Part) → add_tail p size found x pl ≡ Some y → (LEAST_BLOCK ≤ size) × (size ≤ GREATEST_BLOCK) × (p < ANNOUNCERS)
draw_size p size found x (Sealing tail) y e =
    when_then (λ _. (LEAST_BLOCK ≤ size) × (size ≤ GREATEST_BLOCK) × (p < ANNOUNCERS)) _ _ y e (λ g.
    let most = leb-true size GREATEST_BLOCK (and_parts _ _ g).1 in
    let least = leb-true LEAST_BLOCK size (and_parts _ _ (and_parts _ _ g).0).1 in
    let seat = leb-true p SESSIONS (and_parts _ _ (and_parts _ _ (and_parts _ _ g).0).0).1 in
    (omega (arith, least), omega (arith, most), omega (arith, seat)))
draw_size p size found x _ y e = absurd (cc)

draw_kept : (c : Core) (p size : ℕ) (d : Core) → Sound c → Moves c p (kind.AddTail size) d → Kept d
draw_kept c p size d sound m =
    let own = (sound.own p).ranges in
    let fits = draw_size p size c.shared.tail (c.seats p) (c.seats p).place m.part m.after in
    let new = draws_own c.shared c.seats sound.common.ranges p (c.seats p) own size (c.seats p).place m.part refl m.after in
    subst Kept (sym m.is) (record {
      shared = drawn_shared c.shared c.seats p size m.part fits.2 (fits.0, fits.1) (λ q. let h = (sound.own q).ranges.one_high in omega (arith, h)) (let h = new.one_high in omega (arith, h)) own new
          sound.common.ranges;
      seats = each_seat (λ q (z : Part). OwnRanges (shared_after p (kind.AddTail size) c.shared.tail (c.seats p) c.shared) q z) c.seats p m.part new (λ q ne. drawn_other c.shared p q size (c.seats q) ne (sound.own q).ranges);
    })

-- a split, a join
split_kept : (c : Core) (p other : ℕ) (d : Core) → Sound c → after_event c p (kind.Split other) ≡ Some d → Kept d
split_kept c p other d sound e = by_test _ refl e
  where
    from : (o : Option Part) → split (c.seats p) (c.seats other) ≡ o → is_seat other ≡ true → with_part c other o ≡ Some d → Kept d
    from None at seat e = absurd (cc)
    from (Some y) at seat e = kept_part c other y d sound (split_own c.shared c.seats sound.common.ranges other (c.seats other) (sound.own other).ranges (c.seats p) y seat at) (same_Some _ _ e)

    by_test : (b : Bool) → (not (eqb other p) && is_seat other) ≡ b → (if b then with_part c other (split (c.seats p) (c.seats other)) else None) ≡ Some d → Kept d
    by_test true at e = from _ refl (and_parts _ _ at).1 e
    by_test false at e = absurd (cc)

join_kept : (c : Core) (p other : ℕ) (d : Core) → Sound c → after_event c p (kind.Join other) ≡ Some d → Kept d
join_kept c p other d sound e = by_test _ e
  where
    from : (o : Option Part) → join (c.seats p) (c.seats other) ≡ o → with_part c p o ≡ Some d → Kept d
    from None at e = absurd (cc)
    from (Some y) at e =
        kept_part c p y d sound
        (steady_own c.shared p (c.seats p) y (when_then (Steady (c.seats p)) _ _ y at (λ _. steady_same (c.seats p) _ refl refl refl)) (sound.own p).ranges) (same_Some _ _ e)

    by_test : (b : Bool) → (if b then None else with_part c p (join (c.seats p) (c.seats other))) ≡ Some d → Kept d
    by_test true e = absurd (cc)
    by_test false e = from _ refl e

-- a quiet step
quiet_kept : (c : Core) (p : ℕ) (k : Kind) (d : Core) → IsQuiet k → DrawsNone k → MeetsOne k → Sound c → after_event c p k ≡ Some d → Kept d
quiet_kept c p k d quiet none one sound e =
    let m = moves c p k d one e in
    steady_kept c p k d sound none m (quiet_kind p k (word_at c (spot_of p k)) c.shared (c.seats p) m.part quiet m.after).steady

-- Each event keeps the ranges.
pub kept : (c : Core) (p : ℕ) (k : Kind) (d : Core) → Sound c → after_event c p k ≡ Some d → Kept d
kept c p (kind.LoadTail reason) d sound e = tail_kept c p reason d sound (moves c p (kind.LoadTail reason) d tt e)
kept c p (kind.AddTail size) d sound e = draw_kept c p size d sound (moves c p (kind.AddTail size) d tt e)
kept c p (kind.StoreBegin value) d sound e =
    let m = moves c p (kind.StoreBegin value) d tt e in
    kept_from c p (kind.StoreBegin value) d sound tt m
    (announces_own c.shared c.seats sound.common.ranges p (c.seats p) (sound.own p).ranges value (c.seats p).place m.part refl m.after)
kept c p (kind.StoreState value) d sound e =
    let m = moves c p (kind.StoreState value) d tt e in
    kept_from c p (kind.StoreState value) d sound tt m
    (seals_own c.shared c.seats sound.common.ranges p (c.seats p) (sound.own p).ranges value (c.seats p).place m.part refl m.after)
kept c p (kind.LoadBegin other) d sound e =
    let m = moves c p (kind.LoadBegin other) d tt e in
    steady_kept c p (kind.LoadBegin other) d sound tt m (begin_steady p other _ (c.seats p) (c.seats p).task m.part m.after)
kept c p (kind.LoadState other bound) d sound e =
    let m = moves c p (kind.LoadState other bound) d tt e in
    steady_kept c p (kind.LoadState other bound) d sound tt m
    (when_then (Steady (c.seats p)) _ _ m.part m.after (λ _. steady_same (c.seats p) _ refl refl refl))
kept c p (kind.Split other) d sound e = split_kept c p other d sound e
kept c p (kind.Join other) d sound e = join_kept c p other d sound e
kept c p (kind.Decide at header) d sound e =
    let m = moves c p (kind.Decide at header) d tt e in
    kept_from c p (kind.Decide at header) d sound tt m
    (decides_own c.shared c.seats sound.common.ranges p (c.seats p) (sound.own p).ranges at header (c.seats p).place (c.seats p).task m.part refl m.after)
kept c p k d sound e = quiet_kept c p k d tt tt tt sound e
