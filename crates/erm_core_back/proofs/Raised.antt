-- Each event keeps snapshots' begin words at their begin stamps.
use Rattle.std.proofs.Common.{◌≡◌, ℕ, ◌<◌, ⊎_elim, Bool, true, false, Option, Some, None, refl, sym, ap, ◌∙◌, subst, arith}
use Rattle.std.specs.Prelude.{if◌then◌else◌}
use Rattle.std.proofs.lemmas.Option.{same_Some}
use Rattle.erm_machine.specs.declared.event.Kind.{Kind}
use Rattle.erm_machine.specs.declared.event.Kind.TheVariants as kind
use Rattle.erm_machine.specs.declared.event.TailUse.{TailUse}
use Rattle.erm_machine.specs.declared.event.TailUse.TheVariants as purpose
use Rattle.erm_machine.specs.declared.part.Part.{Part}
use Rattle.erm_machine.specs.declared.place.Place.{Place}
use Rattle.erm_machine.specs.declared.place.Place.TheVariants.{Vacant, Idle, Begun, Announced, Active, Sealing, Drawn, Sealed, Decided, Leaving}
use Rattle.erm_machine.specs.declared.task.Task.{Task}
use Rattle.erm_machine.specs.declared.task.Task.TheVariants as task
use Rattle.erm_machine.specs.Back.{OwnRaised, passed_to}
use Rattle.erm_machine.specs.Bounds.{IsBounded}
use Rattle.erm_machine.specs.Core.{Core, Shared, spot_of, word_at}
use Rattle.erm_machine.specs.Life.{load_tail, load_tail_to_begin, load_tail_for_horizon, add_tail, store_begin, store_state, load_begin, load_back, store_back, load_state, split, join, decide}
use Rattle.erm_machine.specs.Seat.{is_vacant}
use Rattle.erm_machine.specs.Sound.{Sound}
use Rattle.erm_machine.specs.Step.{after_event, with_part}
use Rattle.erm_machine.specs.Tasks.{TaskFits}
use Rattle.erm_machine.specs.Words.{begin_of, is_clear, is_flusher, put}
use Rattle.erm_machine.proofs.Backs.{active_begin_then}
use Rattle.erm_machine.proofs.Frames.{each_seat}
use Rattle.erm_machine.proofs.Guards.{either_way, when_then}
use Rattle.erm_machine.proofs.QuietKinds.{IsQuiet, MeetsOne, Moves, moves, quiet_kind}
use Rattle.erm_core_back.proofs.Gazes.{Blind, Faces, Gazes, IsCommon, blind_from, blind_if, look_gazes, watches}
use Rattle.std.proofs.lemmas.Bool.{and_parts}

-- a seat with no snapshot
pub raised_blind : (y : Part) → Blind y.task → OwnRaised y
raised_blind y blind = record { raised = λ some. let none = blind.none in absurd (omega (arith, some, none)) }

raised_rest : (y : Part) → y.task ≡ task.Rest → OwnRaised y
raised_rest y rest = raised_blind y (subst Blind (sym rest) (blind_from task.Rest tt))

vacant_rest : (pl : Place) (x : Part) → is_vacant pl ≡ true → TaskFits pl x.current x.task → x.task ≡ task.Rest
vacant_rest Vacant x at fits = fits
vacant_rest _ x at fits = absurd (cc)

module _ (c : Core) (p : ℕ) (sound : Sound c) where
  abbrev x : Part
  x = c.seats p

  at_task : (pl : Place) → x.place ≡ pl → TaskFits pl x.current x.task
  at_task pl at = subst (λ l. TaskFits l x.current x.task) at (sound.own p).task.fits

  -- a seat with the same begin word and begin stamp, which had a snapshot
  raised_on : (y : Part) → y.place ≡ x.place → y.current.begin ≡ x.current.begin → (0 < passed_to y.task → 0 < passed_to x.task) → OwnRaised y
  raised_on y place begin had = record { raised = λ some. ap begin_of place ∙ (sound.own p).raised.raised (had some) ∙ sym begin }

  raised_same : (y : Part) → y.place ≡ x.place → y.current.begin ≡ x.current.begin → y.task ≡ x.task → OwnRaised y
  raised_same y place begin same = raised_on y place begin (λ some. subst (λ (u : Task). 0 < passed_to u) same some)

  raised_gaze : (y : Part) → y.place ≡ x.place → y.current.begin ≡ x.current.begin → Gazes x x.task y → OwnRaised y
  raised_gaze y place begin gaze =
      ⊎_elim (λ (blind : Blind y.task). raised_blind y blind)
      (λ (faces : Faces x.task y.task × (y.current ≡ x.current)). let same = faces.0.same in raised_on y place begin (λ some. omega (arith, some, same))) gaze

  raised_begin : (pl : Place) (y : Part) → x.place ≡ pl → load_tail_to_begin p c.shared.tail x pl ≡ Some y → OwnRaised y
  raised_begin Idle y at e = when_then OwnRaised _ _ y e (λ _. raised_rest _ (at_task Idle at))
  raised_begin (Announced tail) y at e = when_then OwnRaised _ _ y e (λ _. raised_rest _ refl)
  raised_begin _ y at e = absurd (cc)

  raised_horizon : (t : Task) (y : Part) → load_tail_for_horizon c.shared.tail x t ≡ Some y → OwnRaised y
  raised_horizon (task.Claimed version) y e = when_then OwnRaised _ _ y e (λ _. raised_blind _ (blind_from _ tt))
  raised_horizon _ y e = absurd (cc)

  raised_load_tail : (reason : TailUse) (y : Part) → load_tail p reason c.shared.tail x ≡ Some y → OwnRaised y
  raised_load_tail purpose.Begin y e = raised_begin x.place y refl e
  raised_load_tail purpose.Horizon y e = raised_horizon x.task y e
  raised_load_tail purpose.Gather y e = when_then OwnRaised _ _ y e (λ _. raised_same _ refl refl refl)

  raised_add_tail : (size : ℕ) (pl : Place) (y : Part) → x.place ≡ pl → add_tail p size c.shared.tail x pl ≡ Some y → OwnRaised y
  raised_add_tail size (Sealing tail) y at e = when_then OwnRaised _ _ y e (λ _. raised_rest _ (at_task (Sealing tail) at))
  raised_add_tail size _ y at e = absurd (cc)

  raised_store_begin : (value : ℕ) (pl : Place) (y : Part) → x.place ≡ pl → store_begin p value x pl ≡ Some y → OwnRaised y
  raised_store_begin value (Begun tail) y at e = when_then OwnRaised _ _ y e (λ _. raised_rest _ (at_task (Begun tail) at))
  raised_store_begin value (Active tail) y at e =
      active_begin_then OwnRaised p value tail x y e (λ _ _. either_way OwnRaised (is_flusher p) _ _ (λ _. raised_rest _ refl) (λ _. raised_rest _ refl))
      (λ _ is _ _. record { raised = λ _. is })
  raised_store_begin value (Decided tail stamp) y at e = when_then OwnRaised _ _ y e (λ _. raised_rest _ refl)
  raised_store_begin value _ y at e = absurd (cc)

  raised_store_state : (value : ℕ) (pl : Place) (y : Part) → x.place ≡ pl → store_state p value x pl ≡ Some y → OwnRaised y
  raised_store_state value (Active tail) y at e = when_then OwnRaised _ _ y e (λ _. raised_rest _ refl)
  raised_store_state value (Drawn tail stamp) y at e = when_then OwnRaised _ _ y e (λ _. raised_rest _ (at_task (Drawn tail stamp) at))
  raised_store_state value (Leaving stamp) y at e = when_then OwnRaised _ _ y e (λ _. raised_rest _ (at_task (Leaving stamp) at))
  raised_store_state value _ y at e = absurd (cc)

  -- a snapshot that looks at a session
  looks : (y : Part) (u : Task) (next : ℕ) → x.task ≡ u → passed_to u ≡ next → 0 < next → y.place ≡ x.place → y.current.begin ≡ x.current.begin → OwnRaised y
  looks y u next at count some place begin = let is : passed_to x.task ≡ next = ap passed_to at ∙ count in raised_on y place begin (λ _. omega (arith, is, some))

  raised_load_begin : (other found : ℕ) (t : Task) (y : Part) → x.task ≡ t → load_begin p other found x t ≡ Some y → OwnRaised y
  raised_load_begin other found (task.Horizon version least next) y at e = when_then OwnRaised _ _ y e (λ _. raised_blind _ (search (blind_if, blind_from)))
  raised_load_begin other found (task.Surveys next) y at e =
      when_then OwnRaised _ _ y e (λ _.
      let bounds : IsBounded p x.current (task.Surveys next) = subst (IsBounded p x.current) at (sound.own p).bounds.bounded in
      looks _ (task.Surveys next) next at refl bounds.0 refl refl)
  raised_load_begin other found _ y at e = absurd (cc)

  raised_load_back : (other found : ℕ) (t : Task) (y : Part) → x.task ≡ t → load_back other found x t ≡ Some y → OwnRaised y
  raised_load_back other found (task.Behind next) y at e =
      when_then OwnRaised _ _ y e (λ _.
      let bounds : IsBounded p x.current (task.Behind next) = subst (IsBounded p x.current) at (sound.own p).bounds.bounded in
      looks _ (task.Behind next) next at refl bounds.1 refl refl)
  raised_load_back other found _ y at e = absurd (cc)

  raised_store_back : (value : ℕ) (pl : Place) (y : Part) → store_back value x pl ≡ Some y → OwnRaised y
  raised_store_back value (Decided tail stamp) y e = when_then OwnRaised _ _ y e (λ _. raised_same _ refl refl refl)
  raised_store_back value _ y e = absurd (cc)

  raised_load_state : (other bound found : ℕ) (y : Part) → load_state p other bound found x ≡ Some y → OwnRaised y
  raised_load_state other bound found y e = when_then OwnRaised _ _ y e (λ _. raised_gaze _ refl refl (look_gazes (is_clear found bound) other bound x))

  raised_split : (by y : Part) → split by x ≡ Some y → OwnRaised y
  raised_split by y e = when_then OwnRaised _ _ y e (λ g. raised_rest _ (vacant_rest x.place x (and_parts _ _ g).1 (sound.own p).task.fits))

  raised_join : (other y : Part) → join x other ≡ Some y → OwnRaised y
  raised_join other y e = when_then OwnRaised _ _ y e (λ _. raised_same _ refl refl refl)

  raised_decide : (stamp_at header : ℕ) (pl : Place) (t : Task) (y : Part) → decide stamp_at header x pl t ≡ Some y → OwnRaised y
  raised_decide stamp_at header (Sealed tail stamp) (task.Fills words) y e = when_then OwnRaised _ _ y e (λ _. raised_blind _ (blind_from (task.Ends 0 0 0 0) tt))
  raised_decide stamp_at header _ _ y e = absurd (cc)

-- what the law says of a state
abbrev pub AllRaised : Core → Type 0
AllRaised d = (p : ℕ) → OwnRaised (d.seats p)

kept_from : (c : Core) (p : ℕ) (y : Part) (t : Shared) (d : Core) → Sound c → OwnRaised y → record { shared = t; seats = put c.seats p y } ≡ d → AllRaised d
kept_from c p y t d sound raised is = subst AllRaised is (each_seat (λ _ (z : Part). OwnRaised z) c.seats p y raised (λ q _. (sound.own q).raised))

kept_moves : (c : Core) (p : ℕ) (k : Kind) (d : Core) → Sound c → (m : Moves c p k d) → OwnRaised m.part → AllRaised d
kept_moves c p k d sound m raised = kept_from c p m.part _ d sound raised (sym m.is)

common_kept : (c : Core) (p : ℕ) (k : Kind) (d : Core) → IsCommon k → IsQuiet k → MeetsOne k → Sound c → after_event c p k ≡ Some d → AllRaised d
common_kept c p k d common quiet one sound e =
    let m = moves c p k d one e in
    let found = word_at c (spot_of p k) in
    let steady = (quiet_kind p k found c.shared (c.seats p) m.part quiet m.after).steady in
    kept_moves c p k d sound m (raised_gaze c p sound m.part steady.place steady.begin (watches p k found c.shared (c.seats p) m.part common m.after).gaze)

split_kept : (c : Core) (p other : ℕ) (d : Core) → Sound c → after_event c p (kind.Split other) ≡ Some d → AllRaised d
split_kept c p other d sound e = by_test _ e
  where
    from : (o : Option Part) → split (c.seats p) (c.seats other) ≡ o → with_part c other o ≡ Some d → AllRaised d
    from None at e = absurd (cc)
    from (Some y) at e = kept_from c other y c.shared d sound (raised_split c other sound (c.seats p) y at) (same_Some _ _ e)

    by_test : (b : Bool) → (if b then with_part c other (split (c.seats p) (c.seats other)) else None) ≡ Some d → AllRaised d
    by_test true e = from _ refl e
    by_test false e = absurd (cc)

join_kept : (c : Core) (p other : ℕ) (d : Core) → Sound c → after_event c p (kind.Join other) ≡ Some d → AllRaised d
join_kept c p other d sound e = by_test _ e
  where
    from : (o : Option Part) → join (c.seats p) (c.seats other) ≡ o → with_part c p o ≡ Some d → AllRaised d
    from None at e = absurd (cc)
    from (Some y) at e = kept_from c p y c.shared d sound (raised_join c p sound (c.seats other) y at) (same_Some _ _ e)

    by_test : (b : Bool) → (if b then None else with_part c p (join (c.seats p) (c.seats other))) ≡ Some d → AllRaised d
    by_test true e = absurd (cc)
    by_test false e = from _ refl e

-- Each event keeps them.
pub raised_kept : (c : Core) (p : ℕ) (k : Kind) (d : Core) → Sound c → after_event c p k ≡ Some d → AllRaised d
raised_kept c p (kind.LoadTail reason) d sound e =
    let m = moves c p (kind.LoadTail reason) d tt e in kept_moves c p (kind.LoadTail reason) d sound m (raised_load_tail c p sound reason m.part m.after)
raised_kept c p (kind.AddTail size) d sound e =
    let m = moves c p (kind.AddTail size) d tt e in kept_moves c p (kind.AddTail size) d sound m (raised_add_tail c p sound size (c.seats p).place m.part refl m.after)
raised_kept c p (kind.StoreBegin value) d sound e =
    let m = moves c p (kind.StoreBegin value) d tt e in kept_moves c p (kind.StoreBegin value) d sound m (raised_store_begin c p sound value (c.seats p).place m.part refl m.after)
raised_kept c p (kind.StoreState value) d sound e =
    let m = moves c p (kind.StoreState value) d tt e in kept_moves c p (kind.StoreState value) d sound m (raised_store_state c p sound value (c.seats p).place m.part refl m.after)
raised_kept c p (kind.LoadBegin other) d sound e =
    let m = moves c p (kind.LoadBegin other) d tt e in
    kept_moves c p (kind.LoadBegin other) d sound m (raised_load_begin c p sound other (word_at c (spot_of p (kind.LoadBegin other))) (c.seats p).task m.part refl m.after)
raised_kept c p (kind.LoadState other bound) d sound e =
    let m = moves c p (kind.LoadState other bound) d tt e in
    kept_moves c p (kind.LoadState other bound) d sound m (raised_load_state c p sound other bound (word_at c (spot_of p (kind.LoadState other bound))) m.part m.after)
raised_kept c p (kind.Split other) d sound e = split_kept c p other d sound e
raised_kept c p (kind.Join other) d sound e = join_kept c p other d sound e
raised_kept c p (kind.Decide at header) d sound e =
    let m = moves c p (kind.Decide at header) d tt e in
    kept_moves c p (kind.Decide at header) d sound m (raised_decide c p sound at header (c.seats p).place (c.seats p).task m.part m.after)
raised_kept c p (kind.StoreBack value) d sound e =
    let m = moves c p (kind.StoreBack value) d tt e in kept_moves c p (kind.StoreBack value) d sound m (raised_store_back c p sound value (c.seats p).place m.part m.after)
raised_kept c p (kind.LoadBack other) d sound e =
    let m = moves c p (kind.LoadBack other) d tt e in
    kept_moves c p (kind.LoadBack other) d sound m (raised_load_back c p sound other (word_at c (spot_of p (kind.LoadBack other))) (c.seats p).task m.part refl m.after)
raised_kept c p k d sound e = common_kept c p k d tt tt tt sound e
