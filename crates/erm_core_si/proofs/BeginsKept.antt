-- Each event keeps what begins announce.
use Rattle.std.proofs.Common.{◌≡◌, ◌≢◌, ℕ, ◌+◌, ◌<◌, ◌≤◌, ◌⊎◌, ⊎_elim, Bool, true, false, eqb, List, [], ◌∷◌, Option, Some, None, refl, sym, ap, ◌∙◌, subst, inl, inr, arith}
use Rattle.std.specs.Prelude.{if◌then◌else◌}
use Rattle.std.proofs.lemmas.Bool.{and_parts, cases_eq, eqb-true}
use Rattle.std.proofs.lemmas.Option.{same_Some}
use Rattle.erm_machine.specs.declared.limits.TheConstants.{ANNOUNCERS}
use Rattle.erm_machine.specs.declared.attempt.Attempt.{Attempt}
use Rattle.erm_machine.specs.declared.event.Kind.{Kind}
use Rattle.erm_machine.specs.declared.event.Kind.TheVariants as kind
use Rattle.erm_machine.specs.declared.event.TailUse.{TailUse}
use Rattle.erm_machine.specs.declared.event.TailUse.TheVariants as purpose
use Rattle.erm_machine.specs.declared.part.Part.{Part}
use Rattle.erm_machine.specs.declared.place.Place.{Place}
use Rattle.erm_machine.specs.declared.place.Place.TheVariants.{Vacant, Active, Sealing, Drawn, Sealed, Decided}
use Rattle.erm_machine.specs.declared.task.Task.{Task}
use Rattle.erm_machine.specs.declared.task.Task.TheVariants as task
use Rattle.erm_machine.specs.declared.version.VersionAt.{VersionAt}
use Rattle.erm_machine.specs.Begins.{BeginsAt, horizon_of, IsBelowBegin, IsBelowTail, OwnBegins, Begins}
use Rattle.erm_machine.specs.Core.{Core, Shared, spot_of, word_at}
use Rattle.erm_machine.specs.Facts.{HasBegun}
use Rattle.erm_machine.specs.Life.{load_tail_for_horizon, load_begin, lower, after_begin_word, split, join}
use Rattle.erm_machine.specs.Ranges.{EndToEnd}
use Rattle.erm_machine.specs.Sound.{Sound}
use Rattle.erm_machine.specs.Step.{shared_after, after_event, with_part}
use Rattle.erm_machine.specs.Words.{put, begin_of, is_seat}
use Rattle.erm_machine.specs.declared.version.Span.{Span}
use Rattle.erm_machine.proofs.Frames.{each_seat, each_two}
use Rattle.erm_machine.proofs.Guards.{when_then, either_way}
use Rattle.erm_machine.proofs.Quiet.{same_horizon}
use Rattle.erm_machine.proofs.QuietKinds.{MeetsOne, DrawsNone, keeps_log, moves}
use Rattle.erm_core_si.proofs.BeginsMoved.{Paces, KeepsPace, paces, paces_draw, paces_survey, begins_later}

-- what the law says of a state
pub record Kept (d : Core) : Type 0 where
  pub own : (p : ℕ) → OwnBegins d.shared p (d.seats p)
  pub both : (p q : ℕ) → p ≢ q → Begins (d.seats p) q (d.seats q)

-- a horizon that stays, or is dropped
below_begin_kept : (h k : Option (ℕ × ℕ)) (q : ℕ) (pl : Place) (begin : ℕ) → (k ≡ None) ⊎ (k ≡ h) → IsBelowBegin h q pl begin → IsBelowBegin k q pl begin
below_begin_kept h k q pl begin kept b =
    ⊎_elim (λ (none : k ≡ None). subst (λ g. IsBelowBegin g q pl begin) (sym none) tt) (λ (same : k ≡ h). subst (λ g. IsBelowBegin g q pl begin) (sym same) b) kept

below_tail_kept : (h k : Option (ℕ × ℕ)) (now : ℕ) → (k ≡ None) ⊎ (k ≡ h) → IsBelowTail h now → IsBelowTail k now
below_tail_kept h k now kept b =
    ⊎_elim (λ (none : k ≡ None). subst (λ g. IsBelowTail g now) (sym none) tt) (λ (same : k ≡ h). subst (λ g. IsBelowTail g now) (sym same) b) kept

below_tail_later : (h : Option (ℕ × ℕ)) (now later : ℕ) → now ≤ later → IsBelowTail h now → IsBelowTail h later
below_tail_later None now later grows b = tt
below_tail_later (Some h) now later grows b = omega (arith, b, grows)

-- a horizon against a seat that has moved on: a new begin stamp is the tail
below_begin_moved : (h : Option (ℕ × ℕ)) (q now : ℕ) (old new : Place) (old_begin begin : ℕ) → IsBelowTail h now →
    (HasBegun new → (HasBegun old × (begin ≡ old_begin)) ⊎ (begin ≡ now)) → IsBelowBegin h q old old_begin → IsBelowBegin h q new begin
below_begin_moved None q now old new old_begin begin tail moved b = tt
below_begin_moved (Some h) q now old new old_begin begin tail moved b = λ below begun.
    ⊎_elim (λ (same : HasBegun old × (begin ≡ old_begin)). let a = b below same.0 in let e = same.1 in omega (arith, a, e)) (λ (drawn : begin ≡ now). omega (arith, tail, drawn)) (moved begun)

-- what a pace gives the seat itself, and the others
own_paced : (s t : Shared) (p : ℕ) (x y : Part) → s.tail ≤ t.tail → Paces s.tail t.tail x y → OwnBegins s p x → OwnBegins t p y
own_paced s t p x y grows paces own = record {
  begins = paces.begins;
  least = below_tail_later (horizon_of y.task) s.tail t.tail grows (below_tail_kept (horizon_of x.task) (horizon_of y.task) s.tail paces.horizon.kept own.least);
  own = own_horizon (horizon_of y.task) refl;
}
  where
    own_horizon : (h : Option (ℕ × ℕ)) → horizon_of y.task ≡ h → IsBelowBegin h p y.place y.current.begin
    own_horizon None at = tt
    own_horizon (Some h) at = λ below begun.
        ⊎_elim
        (λ (same : HasBegun x.place × (y.current.begin ≡ x.current.begin)).
        let kept : IsBelowBegin (horizon_of y.task) p x.place x.current.begin = below_begin_kept (horizon_of x.task) (horizon_of y.task) p x.place x.current.begin paces.horizon.kept own.own in
        let here : IsBelowBegin (Some h) p x.place x.current.begin = subst (λ g. IsBelowBegin g p x.place x.current.begin) at kept in
        let a = here below same.0 in let e = same.1 in omega (arith, a, e))
        (λ (drawn : (y.current.begin ≡ s.tail) × (horizon_of y.task ≡ None)). let none = drawn.1 in absurd (cc)) (paces.begun begun)

own_stays : (s t : Shared) (p : ℕ) (x : Part) → s.tail ≤ t.tail → OwnBegins s p x → OwnBegins t p x
own_stays s t p x grows own = record {
  begins = begins_later x.place x.current.begin s.tail t.tail grows own.begins;
  least = below_tail_later (horizon_of x.task) s.tail t.tail grows own.least;
  own = own.own;
}

new_eyes : (now later : ℕ) (x y : Part) (q : ℕ) (z : Part) → Paces now later x y → Begins x q z → Begins y q z
new_eyes now later x y q z paces b = record { passed = below_begin_kept (horizon_of x.task) (horizon_of y.task) q z.place z.current.begin paces.horizon.kept b.passed }

on_new : (s : Shared) (later : ℕ) (x y : Part) (p q : ℕ) (z : Part) → OwnBegins s q z → Paces s.tail later x y → Begins z p x → Begins z p y
on_new s later x y p q z own paces b = record {
  passed = below_begin_moved (horizon_of z.task) p s.tail x.place y.place x.current.begin y.current.begin own.least
      (λ begun. ⊎_elim (λ (same : HasBegun x.place × (y.current.begin ≡ x.current.begin)). inl same) (λ (drawn : (y.current.begin ≡ s.tail) × (horizon_of y.task ≡ None)). inr drawn.0) (paces.begun begun))
      b.passed;
}

kept_from : (c : Core) (p : ℕ) (y : Part) (t : Shared) (d : Core) → Sound c → c.shared.tail ≤ t.tail → Paces c.shared.tail t.tail (c.seats p) y →
    record { shared = t; seats = put c.seats p y } ≡ d → Kept d
kept_from c p y t d sound grows paces is =
    subst Kept is (record {
      own = each_seat (λ q (z : Part). OwnBegins t q z) c.seats p y (own_paced c.shared t p (c.seats p) y grows paces (sound.own p).begins)
          (λ q _. own_stays c.shared t q (c.seats q) grows (sound.own q).begins);
      both = each_two Begins c.seats p y
          (λ q ne. new_eyes c.shared.tail t.tail (c.seats p) y q (c.seats q) paces (sound.both p q (λ e. ne (sym e))).begins)
          (λ q ne. on_new c.shared t.tail (c.seats p) y p q (c.seats q) (sound.own q).begins paces (sound.both q p ne).begins)
          (λ q r _ _ ne. (sound.both q r ne).begins);
    })

-- the tail isn't 0
positive_tail : (c : Core) → Sound c → 0 < c.shared.tail
positive_tail c sound = let a = sound.common.ranges.positive in let b = ascends c.shared.opening c.shared.tail c.shared.log sound.common.ranges.end_to_end in omega (arith, a, b)
  where
    ascends : (from to : ℕ) (rs : List Span) → EndToEnd from rs to → from ≤ to
    ascends from to [] e = omega (arith, e)
    ascends from to (r ∷ rs) e = let rest = ascends (from + r.size) to rs e.1 in omega (arith, rest)

-- A cutter's step, which has a new horizon: it is at most the tail, and at most each begin stamp that it has passed.
cut_kept : (c : Core) (p : ℕ) (y : Part) (d : Core) → Sound c → y.place ≡ (c.seats p).place → y.current ≡ (c.seats p).current →
    IsBelowTail (horizon_of y.task) c.shared.tail → ((q : ℕ) → IsBelowBegin (horizon_of y.task) q (c.seats q).place (c.seats q).current.begin) →
    record { shared = c.shared; seats = put c.seats p y } ≡ d → Kept d
cut_kept c p y d sound place current least passed is =
    let begin : y.current.begin ≡ (c.seats p).current.begin = ap (λ (t : Attempt). t.begin) current in
    subst Kept is (record {
      own = each_seat (λ q (z : Part). OwnBegins c.shared q z) c.seats p y
          (record {
            begins = subst (λ pl. BeginsAt pl y.current.begin c.shared.tail) (sym place) (subst (λ n. BeginsAt (c.seats p).place n c.shared.tail) (sym begin) (sound.own p).begins.begins);
            least = least;
            own = subst (λ pl. IsBelowBegin (horizon_of y.task) p pl y.current.begin) (sym place) (subst (λ n. IsBelowBegin (horizon_of y.task) p (c.seats p).place n) (sym begin) (passed p));
          })
          (λ q _. (sound.own q).begins);
      both = each_two Begins c.seats p y
          (λ q _. record { passed = passed q })
          (λ q ne. record {
            passed = subst (λ pl. IsBelowBegin (horizon_of (c.seats q).task) p pl y.current.begin) (sym place)
                (subst (λ n. IsBelowBegin (horizon_of (c.seats q).task) p (c.seats p).place n) (sym begin) (sound.both q p ne).begins.passed);
          })
          (λ q r _ _ ne. (sound.both q r ne).begins);
    })

-- no seat has number 0
none_at_zero : (c : Core) → Sound c → (q : ℕ) → q < 1 → HasBegun (c.seats q).place → ⊥
none_at_zero c sound q low begun =
    let zero_is : q ≡ 0 = omega arith in
    let vacant : (c.seats q).place ≡ Vacant = (sound.own q).ranges.seat_of (subst (λ n. is_seat n ≡ false) (sym zero_is) refl) in
    subst HasBegun vacant begun

horizon_kept : (c : Core) (p : ℕ) (t : Task) (y : Part) (d : Core) → Sound c → load_tail_for_horizon c.shared.tail (c.seats p) t ≡ Some y →
    record { shared = c.shared; seats = put c.seats p y } ≡ d → Kept d
horizon_kept c p (task.Claimed version) y d sound e =
    when_then (λ z. record { shared = c.shared; seats = put c.seats p z } ≡ d → Kept d) _ _ y e
    (λ _ is. cut_kept c p _ d sound refl refl (omega arith) (λ q low begun. absurd (none_at_zero c sound q low begun)) is)
horizon_kept c p _ y d sound e = absurd (cc)

-- a begin stamp is at least the begin word
begin_word_below : (pl : Place) (begin now : ℕ) → HasBegun pl → BeginsAt pl begin now → (0 < begin_of pl) × (begin_of pl ≤ begin)
begin_word_below (Active tail) begin now h b = (b.positive, b.announced)
begin_word_below (Sealing tail) begin now h b = (b.positive, b.announced)
begin_word_below (Drawn tail stamp) begin now h b = (b.is_begin.positive, b.is_begin.announced)
begin_word_below (Sealed tail stamp) begin now h b = (b.is_begin.positive, b.is_begin.announced)
begin_word_below (Decided tail stamp) begin now h b = (b.is_begin.positive, b.is_begin.announced)
begin_word_below _ begin now h b = absurd h

lower-le : (least found : ℕ) → lower least found ≤ least
lower-le least found = grind arith

lower-le-found : (least found : ℕ) → 0 < found → lower least found ≤ found
lower-le-found least found positive = grind arith

-- the horizon after a begin word
after_begin_word-horizon : (P : Option (ℕ × ℕ) → Type 0) (version : VersionAt) (least next : ℕ) → P (Some (least, next)) → P (horizon_of (after_begin_word version least next))
after_begin_word-horizon P version least next h =
    either_way (λ (t : Task). P (horizon_of t)) (eqb next ANNOUNCERS) (task.CutWalks version least) (task.Horizon version least next)
    (λ (e : eqb next ANNOUNCERS ≡ true). subst (λ n. P (Some (least, n))) (eqb-true next ANNOUNCERS e) h) (λ _. h)

begin_word_kept : (c : Core) (p other : ℕ) (t : Task) (y : Part) (d : Core) → Sound c → (c.seats p).task ≡ t →
    load_begin p other (begin_of (c.seats other).place) (c.seats p) t ≡ Some y →
    record { shared = c.shared; seats = put c.seats p y } ≡ d → Kept d
begin_word_kept c p other (task.Horizon version least next) y d sound at e =
    when_then (λ z. record { shared = c.shared; seats = put c.seats p z } ≡ d → Kept d) _ _ y e
    (λ g is.
    let is_next : other ≡ next = eqb-true other next (and_parts _ _ (and_parts _ _ g).0).1 in
    let found = begin_of (c.seats other).place in
    let below : least ≤ c.shared.tail = subst (λ u. IsBelowTail (horizon_of u) c.shared.tail) at (sound.own p).begins.least in
    let less = lower-le least found in
    cut_kept c p _ d sound refl refl
    (after_begin_word-horizon (λ h. IsBelowTail h c.shared.tail) version (lower least found) (next + 1) (omega (arith, below, less)))
    (λ q. after_begin_word-horizon (λ h. IsBelowBegin h q (c.seats q).place (c.seats q).current.begin) version (lower least found) (next + 1)
    (λ low begun.
    ⊎_elim
    (λ (here : q ≡ next).
    let same : q ≡ other = here ∙ sym is_next in
    let word = begin_word_below (c.seats q).place (c.seats q).current.begin c.shared.tail begun (sound.own q).begins.begins in
    let its : begin_of (c.seats q).place ≡ found = ap (λ k. begin_of (c.seats k).place) same in
    let a = word.0 in let b = word.1 in
    let at_most = lower-le-found least found (omega (arith, a, its)) in
    omega (arith, at_most, b, its))
    (λ (there : q ≡ next → ⊥).
    let before : q < next = omega (arith, low, there) in
    let old : least ≤ (c.seats q).current.begin = passed q before begun in
    omega (arith, old, less))
    (cases_eq q next))) is)
  where
    passed : (q : ℕ) → q < next → HasBegun (c.seats q).place → least ≤ (c.seats q).current.begin
    passed q before begun =
        ⊎_elim
        (λ (own : p ≡ q). subst (λ u. IsBelowBegin (horizon_of u) q (c.seats q).place (c.seats q).current.begin) at
        (subst (λ k. IsBelowBegin (horizon_of (c.seats p).task) k (c.seats k).place (c.seats k).current.begin) own (sound.own p).begins.own) before begun)
        (λ (ne : p ≡ q → ⊥). subst (λ u. IsBelowBegin (horizon_of u) q (c.seats q).place (c.seats q).current.begin) at (sound.both p q ne).begins.passed before begun)
        (cases_eq p q)
begin_word_kept c p other (task.Surveys next) y d sound at e = λ is.
    kept_from c p y c.shared d sound (omega arith)
    (paces_survey c.shared.tail (positive_tail c sound) (c.seats p) (sound.own p).begins.begins p other (begin_of (c.seats other).place) next y e) is
begin_word_kept c p other _ y d sound at e = absurd (cc)

-- a split, a join
part_kept : (c : Core) (p : ℕ) (y : Part) (d : Core) → Sound c → Paces c.shared.tail c.shared.tail (c.seats p) y → record c { seats = put c.seats p y } ≡ d → Kept d
part_kept c p y d sound paces is = kept_from c p y c.shared d sound (omega arith) paces is

split_kept : (c : Core) (p other : ℕ) (d : Core) → Sound c → after_event c p (kind.Split other) ≡ Some d → Kept d
split_kept c p other d sound e = by_test _ e
  where
    from : (o : Option Part) → split (c.seats p) (c.seats other) ≡ o → with_part c other o ≡ Some d → Kept d
    from None at e = absurd (cc)
    from (Some y) at e =
        part_kept c other y d sound
        (when_then (Paces c.shared.tail c.shared.tail (c.seats other)) _ _ y at
        (λ _. record { begins = tt; begun = λ (h : ⊥). absurd h; horizon = same_horizon (c.seats other).task })) (same_Some _ _ e)

    by_test : (b : Bool) → (if b then with_part c other (split (c.seats p) (c.seats other)) else None) ≡ Some d → Kept d
    by_test true e = from _ refl e
    by_test false e = absurd (cc)

join_kept : (c : Core) (p other : ℕ) (d : Core) → Sound c → after_event c p (kind.Join other) ≡ Some d → Kept d
join_kept c p other d sound e = by_test _ e
  where
    from : (o : Option Part) → join (c.seats p) (c.seats other) ≡ o → with_part c p o ≡ Some d → Kept d
    from None at e = absurd (cc)
    from (Some y) at e =
        part_kept c p y d sound
        (when_then (Paces c.shared.tail c.shared.tail (c.seats p)) _ _ y at
        (λ _. record { begins = (sound.own p).begins.begins; begun = λ h. inl (h, refl); horizon = same_horizon (c.seats p).task })) (same_Some _ _ e)

    by_test : (b : Bool) → (if b then None else with_part c p (join (c.seats p) (c.seats other))) ≡ Some d → Kept d
    by_test true e = absurd (cc)
    by_test false e = from _ refl e

-- a step that leaves the horizon, or drops it
plain_kept : (c : Core) (p : ℕ) (k : Kind) (d : Core) → KeepsPace k → DrawsNone k → MeetsOne k → Sound c → after_event c p k ≡ Some d → Kept d
plain_kept c p k d pace draws one sound e =
    let m = moves c p k d one e in
    let same = keeps_log p k (word_at c (spot_of p k)) (c.seats p) c.shared draws in
    let tail = same.tail in
    kept_from c p m.part (shared_after p k (word_at c (spot_of p k)) (c.seats p) c.shared) d sound (omega (arith, tail))
    (subst (λ n. Paces c.shared.tail n (c.seats p) m.part) (sym tail) (paces c p k d pace (positive_tail c sound) (sound.own p).begins m)) (sym m.is)

tail_kept : (c : Core) (p : ℕ) (reason : TailUse) (d : Core) → Sound c → after_event c p (kind.LoadTail reason) ≡ Some d → Kept d
tail_kept c p purpose.Begin d sound e = plain_kept c p (kind.LoadTail purpose.Begin) d tt tt tt sound e
tail_kept c p purpose.Horizon d sound e =
    let m = moves c p (kind.LoadTail purpose.Horizon) d tt e in horizon_kept c p (c.seats p).task m.part d sound m.after (sym m.is)
tail_kept c p purpose.Gather d sound e = plain_kept c p (kind.LoadTail purpose.Gather) d tt tt tt sound e

-- Each event keeps what begins announce.
pub kept : (c : Core) (p : ℕ) (k : Kind) (d : Core) → Sound c → after_event c p k ≡ Some d → Kept d
kept c p (kind.LoadTail reason) d sound e = tail_kept c p reason d sound e
kept c p (kind.AddTail size) d sound e =
    let m = moves c p (kind.AddTail size) d tt e in
    kept_from c p m.part (shared_after p (kind.AddTail size) c.shared.tail (c.seats p) c.shared) d sound (omega arith)
    (paces_draw c.shared.tail (positive_tail c sound) (c.seats p) (sound.own p).begins.begins p size (c.seats p).place m.part refl m.after) (sym m.is)
kept c p (kind.LoadBegin other) d sound e =
    let m = moves c p (kind.LoadBegin other) d tt e in begin_word_kept c p other (c.seats p).task m.part d sound refl m.after (sym m.is)
kept c p (kind.Split other) d sound e = split_kept c p other d sound e
kept c p (kind.Join other) d sound e = join_kept c p other d sound e
kept c p k d sound e = plain_kept c p k d tt tt tt sound e
