-- What a seat's transactions have in order, after each kind of step.
use Rattle.std.proofs.Common.{◌≡◌, ◌≢◌, ℕ, ◌+◌, ◌<◌, ◌≤◌, ⊎_elim, Bool, true, false, ltb, ◌||◌, List, [], ◌∷◌, ◌++◌, get_or, length, Some, refl, sym, ap, ◌∙◌, subst, arith}
use Rattle.std.specs.Prelude.{if◌then◌else◌}
use Rattle.std.proofs.lemmas.Bool.{and_parts, cases_lt}
use Rattle.std.proofs.lemmas.List.{length_push, get_or_push, get_or_append_left}
use Rattle.erm_model.specs.Member.{◌∈◌}
use Rattle.erm_model.proofs.Members.{∈-push}
use Rattle.erm_machine.specs.declared.limits.TheConstants.{LAST_NUMBER}
use Rattle.erm_machine.specs.declared.attempt.Attempt.{Attempt}
use Rattle.erm_machine.specs.declared.attempt.Decision.{Decision}
use Rattle.erm_machine.specs.declared.attempt.Decision.TheVariants.{Abort}
use Rattle.erm_machine.specs.declared.part.Part.{Part}
use Rattle.erm_machine.specs.declared.place.Place.{Place}
use Rattle.erm_machine.specs.declared.place.Place.TheVariants.{Vacant, Idle, Begun, Announced, Active, Sealing, Drawn, Sealed, Decided, Leaving}
use Rattle.erm_machine.specs.declared.task.Task.{Task}
use Rattle.erm_machine.specs.declared.task.Task.TheVariants as task
use Rattle.erm_machine.specs.Begins.{BeginsAt}
use Rattle.erm_machine.specs.Core.{Shared, begun, blank}
use Rattle.erm_machine.specs.Facts.{all_of, IsCurrent}
use Rattle.erm_machine.specs.Life.{next_number, load_tail_to_begin, load_tail_for_horizon, add_tail, store_begin, store_state, load_begin, load_state, split, join, decide}
use Rattle.erm_machine.specs.Lives.{in_progress, IsBeginning, IsPin, OwnLives}
use Rattle.erm_machine.specs.Seat.{has_number, is_vacant, over, with_current, with_range}
use Rattle.erm_machine.specs.Words.{is_flusher, is_session, refuses}
use Rattle.erm_machine.proofs.Backs.{active_begin_then}
use Rattle.erm_machine.proofs.Guards.{when_then, either_way}
use Rattle.erm_core_lives.proofs.LivesLists.{∈-last, ∈-front}

-- what a step leaves where no transaction begins, draws or is over
pub record Stays (p : ℕ) (x y : Part) : Type 0 where
  pub run : y.run ≡ x.run
  pub number : y.number ≡ x.number
  pub over : y.over ≡ x.over
  pub progress : in_progress y.place ≡ in_progress x.place
  pub begin : y.current.begin ≡ x.current.begin
  pub stamp : y.current.stamp ≡ x.current.stamp
  pub current : y.current.number ≡ x.current.number
  pub left : IsBeginning y.place → has_number p y ≡ true
  pub pinned : is_flusher p ≡ true → IsPin y.place

pub stays_lives : (s t : Shared) (p : ℕ) (x y : Part) → t.run ≡ s.run → t.opening ≡ s.opening → Stays p x y → OwnLives s p x → OwnLives t p y
stays_lives s t p x y run opening k own = record {
  run = k.run ∙ own.run ∙ sym run;
  opened = λ u m. let h = own.opened u (subst (λ (ts : List Attempt). u ∈ ts) k.over m) in omega (arith, h, opening);
  opened_now = λ e. let h = own.opened_now (sym k.progress ∙ e) in let b = k.begin in omega (arith, h, opening, b);
  sealed = λ u m drawn.
      ⊎_elim (λ (before : u ∈ y.over). own.sealed u (∈-front x.over x.current u (subst (λ (ts : List Attempt). u ∈ ts) k.over before)) drawn)
      (λ (same : u ≡ y.current).
      let stamp : u.stamp ≡ x.current.stamp = ap (λ (a : Attempt). a.stamp) same ∙ k.stamp in
      let begin : u.begin ≡ x.current.begin = ap (λ (a : Attempt). a.begin) same ∙ k.begin in
      let h = own.sealed x.current (∈-last x.over x.current) (omega (arith, stamp, drawn)) in
      let positive = h.0 in
      let below = h.1 in
      (omega (arith, begin, positive), omega (arith, begin, stamp, below)))
      (∈-push y.over y.current u m);
  drawn = λ u m kept. own.drawn u (subst (λ (ts : List Attempt). u ∈ ts) k.over m) kept;
  earlier = λ u m e. let h = own.earlier u (subst (λ (ts : List Attempt). u ∈ ts) k.over m) (sym k.progress ∙ e) in let b = k.begin in omega (arith, h, b);
  numbers = λ f. subst (λ (ts : List Attempt). (n : ℕ) → n < length ts → (get_or ts n blank).number ≡ n + 1) (sym k.over) (own.numbers f);
  number = λ f.
      let h = own.number f in
      let sizes = ap (λ (ts : List Attempt). length ts) k.over in
      let progress = k.progress in
      let number = k.number in
      omega (arith, h, sizes, progress, number);
  current = λ e. k.current ∙ own.current (sym k.progress ∙ e) ∙ sym k.number;
  left = k.left;
  pins = λ f. ap (λ (ts : List Attempt). length ts) k.over ∙ own.pins f;
  pinned = k.pinned;
}

module _ (s : Shared) (p : ℕ) (x : Part) (own : OwnLives s p x) where
  -- a step that leaves the current transaction but for what doesn't count here, at a place that begins nothing
  stays_at : (y : Part) → y.run ≡ x.run → y.number ≡ x.number → y.over ≡ x.over → in_progress y.place ≡ in_progress x.place → y.current.begin ≡ x.current.begin
      → y.current.stamp ≡ x.current.stamp → y.current.number ≡ x.current.number → (IsBeginning y.place → ⊥) → (is_flusher p ≡ true → IsPin y.place) → OwnLives s p y
  stays_at y run number over progress begin stamp current none pinned =
      stays_lives s s p x y refl refl
      (record { run = run; number = number; over = over; progress = progress; begin = begin; stamp = stamp; current = current; left = λ h. absurd (none h); pinned = pinned }) own

  pinned_at : (pl : Place) → x.place ≡ pl → is_flusher p ≡ true → IsPin pl
  pinned_at pl at f = subst IsPin at (own.pinned f)

  session_at : (pl : Place) → x.place ≡ pl → (IsPin pl → ⊥) → is_flusher p ≡ false
  session_at pl at none = by_test (is_flusher p) refl
    where
      by_test : (b : Bool) → is_flusher p ≡ b → is_flusher p ≡ false
      by_test true e = absurd (none (pinned_at pl at e))
      by_test false e = e

  -- BEGIN. A number is left where the tail is remembered; the begin stamp is the tail.
  pub begins_lives : s.opening ≤ s.tail → ((t : Attempt) → t ∈ all_of x → t.stamp < s.tail) → (pl : Place) (y : Part) → x.place ≡ pl → load_tail_to_begin p s.tail x pl ≡ Some y → OwnLives s p y
  begins_lives opened drawn Idle y at e =
      when_then (OwnLives s p) _ _ y e (λ g.
      either_way (λ (q : Place). OwnLives s p (record x { place = q; seen = s.tail })) (refuses p s.tail) Idle (Begun s.tail)
      (λ _. stays_at (record x { place = Idle; seen = s.tail }) refl refl refl (sym (ap in_progress at)) refl refl refl (λ h. h) (λ _. tt))
      (λ _. stays_lives s s p x (record x { place = Begun s.tail; seen = s.tail }) refl refl
      (record { run = refl; number = refl; over = refl; progress = sym (ap in_progress at); begin = refl; stamp = refl; current = refl; left = λ _. g; pinned = λ _. tt }) own))
  begins_lives opened drawn (Announced tail) y at e =
      when_then (OwnLives s p) _ _ y e (λ _. record {
        run = own.run;
        opened = own.opened;
        opened_now = λ _. opened;
        sealed = λ u m positive.
            ⊎_elim (λ (before : u ∈ x.over). own.sealed u (∈-front x.over x.current u before) positive)
            (λ (same : u ≡ begun (next_number p x.number) s.tail). let none : u.stamp ≡ 0 = ap (λ (a : Attempt). a.stamp) same in absurd (omega (arith, none, positive)))
            (∈-push x.over (begun (next_number p x.number) s.tail) u m);
        drawn = own.drawn;
        earlier = λ u m _. drawn u (∈-front x.over x.current u m);
        numbers = own.numbers;
        number = λ f.
            let next : next_number p x.number ≡ x.number + 1 = ap (λ (b : Bool). if b then x.number else x.number + 1) f in
            let h = own.number f in
            let none : in_progress x.place ≡ 0 = ap in_progress at in
            omega (arith, next, h, none);
        current = λ _. refl;
        left = λ h. absurd h;
        pins = own.pins;
        pinned = λ _. tt;
      })
  begins_lives opened drawn _ y at e = absurd (cc)

  -- SEAL. The commit stamp is the tail.
  pub draws_lives : (size : ℕ) (pl : Place) (y : Part) → x.place ≡ pl → BeginsAt pl x.current.begin s.tail → add_tail p size s.tail x pl ≡ Some y → OwnLives s p y
  draws_lives size (Sealing tail) y at begins e =
      when_then (OwnLives s p) _ _ y e (λ _. record {
        run = own.run;
        opened = own.opened;
        opened_now = λ _. own.opened_now (ap in_progress at);
        sealed = λ u m positive.
            ⊎_elim (λ (before : u ∈ x.over). own.sealed u (∈-front x.over x.current u before) positive)
            (λ (same : u ≡ with_range s.tail size x.current).
            let stamp : u.stamp ≡ s.tail = ap (λ (a : Attempt). a.stamp) same in
            let begin : u.begin ≡ x.current.begin = ap (λ (a : Attempt). a.begin) same in
            let first = begins.positive in
            let announced = begins.announced in
            let past = begins.past in
            (omega (arith, begin, first, announced), omega (arith, begin, stamp, past)))
            (∈-push x.over (with_range s.tail size x.current) u m);
        drawn = own.drawn;
        earlier = λ u m _. own.earlier u m (ap in_progress at);
        numbers = own.numbers;
        number = λ f. let h = own.number f in let now : in_progress x.place ≡ 1 = ap in_progress at in omega (arith, h, now);
        current = λ _. own.current (ap in_progress at);
        left = λ h. absurd h;
        pins = own.pins;
        pinned = λ f. absurd (pinned_at (Sealing tail) at f);
      })
  draws_lives size _ y at begins e = absurd (cc)

  -- one more transaction is over
  over_lives : (d : Decision) (t : Task) → is_flusher p ≡ false → in_progress x.place ≡ 1 → (d ≢ Abort → 0 < x.current.stamp)
      → OwnLives s p (over d (record x { place = Idle; task = t }))
  over_lives d t session now stamped =
      let ended : Attempt = record x.current { decision = d } in
      record {
        run = own.run;
        opened = λ u m.
            ⊎_elim (λ (before : u ∈ x.over). own.opened u before)
            (λ (same : u ≡ ended). let begin : u.begin ≡ x.current.begin = ap (λ (a : Attempt). a.begin) same in let h = own.opened_now now in omega (arith, begin, h))
            (∈-push x.over ended u m);
        opened_now = λ e. absurd (cc);
        sealed = λ u m positive.
            ⊎_elim
            (λ (before : u ∈ (x.over ++ ended ∷ [])).
            ⊎_elim (λ (old : u ∈ x.over). own.sealed u (∈-front x.over x.current u old) positive)
            (λ (same : u ≡ ended).
            let stamp : u.stamp ≡ x.current.stamp = ap (λ (a : Attempt). a.stamp) same in
            let begin : u.begin ≡ x.current.begin = ap (λ (a : Attempt). a.begin) same in
            let h = own.sealed x.current (∈-last x.over x.current) (omega (arith, stamp, positive)) in
            let first = h.0 in
            let below = h.1 in
            (omega (arith, begin, first), omega (arith, begin, stamp, below)))
            (∈-push x.over ended u before))
            (λ (same : u ≡ blank). let none : u.stamp ≡ 0 = ap (λ (a : Attempt). a.stamp) same in absurd (omega (arith, none, positive)))
            (∈-push (x.over ++ ended ∷ []) blank u m);
        drawn = λ u m kept.
            ⊎_elim (λ (before : u ∈ x.over). own.drawn u before kept)
            (λ (same : u ≡ ended).
            let stamp : u.stamp ≡ x.current.stamp = ap (λ (a : Attempt). a.stamp) same in
            let positive = stamped (λ (aborts : d ≡ Abort). kept (ap (λ (a : Attempt). a.decision) same ∙ aborts)) in
            omega (arith, stamp, positive))
            (∈-push x.over ended u m);
        earlier = λ u m e. absurd (cc);
        numbers = λ f k within.
            let size = length_push x.over ended in
            ⊎_elim
            (λ (old : k < length x.over).
            let e : get_or (x.over ++ ended ∷ []) k blank ≡ get_or x.over k blank = get_or_append_left x.over (ended ∷ []) blank k old in
            ap (λ (a : Attempt). a.number) e ∙ own.numbers f k old)
            (λ (past : length x.over ≤ k).
            let e : get_or (x.over ++ ended ∷ []) k blank ≡ ended = get_or_push x.over ended blank k (omega (arith, size, within, past)) in
            let number : (get_or (x.over ++ ended ∷ []) k blank).number ≡ x.current.number = ap (λ (a : Attempt). a.number) e in
            let current = own.current now in
            let h = own.number f in
            omega (arith, number, current, h, now, size, within, past))
            (cases_lt k (length x.over));
        number = λ f. let size = length_push x.over ended in let h = own.number f in omega (arith, size, h, now);
        current = λ e. absurd (cc);
        left = λ h. absurd h;
        pins = λ f. absurd (cc);
        pinned = λ _. tt;
      }

  -- a pin leaves nothing
  dropped_lives : (t : Task) → is_flusher p ≡ true → OwnLives s p (with_current blank (record x { place = Idle; task = t }))
  dropped_lives t flusher = record {
    run = own.run;
    opened = own.opened;
    opened_now = λ e. absurd (cc);
    sealed = λ u m positive.
        ⊎_elim (λ (before : u ∈ x.over). own.sealed u (∈-front x.over x.current u before) positive)
        (λ (same : u ≡ blank). let none : u.stamp ≡ 0 = ap (λ (a : Attempt). a.stamp) same in absurd (omega (arith, none, positive)))
        (∈-push x.over blank u m);
    drawn = own.drawn;
    earlier = λ u m e. absurd (cc);
    numbers = own.numbers;
    number = λ f. absurd (cc);
    current = λ e. absurd (cc);
    left = λ h. absurd h;
    pins = own.pins;
    pinned = λ _. tt;
  }

  -- BEGIN announces; an end clears the begin word
  pub announces_lives : (value : ℕ) (pl : Place) (y : Part) → x.place ≡ pl → store_begin p value x pl ≡ Some y → OwnLives s p y
  announces_lives value (Begun tail) y at e =
      when_then (OwnLives s p) _ _ y e (λ _.
      stays_lives s s p x (record x { place = Announced tail }) refl refl
      (record {
        run = refl;
        number = refl;
        over = refl;
        progress = sym (ap in_progress at);
        begin = refl;
        stamp = refl;
        current = refl;
        left = λ _. own.left (subst IsBeginning (sym at) tt);
        pinned = λ _. tt;
      }) own)
  announces_lives value (Active tail) y at e =
      active_begin_then (OwnLives s p) p value tail x y e
      (λ _ _. either_way (OwnLives s p) (is_flusher p) (with_current blank (record x { place = Idle; task = task.Rest })) (over Abort (record x { place = Idle; task = task.Rest }))
      (λ flusher. dropped_lives task.Rest flusher) (λ session. over_lives Abort task.Rest session (ap in_progress at) (λ ne. absurd (ne refl))))
      (λ _ _ _ _. stays_at _ refl refl refl (sym (ap in_progress at)) refl refl refl (λ h. h) (λ _. tt))
  announces_lives value (Decided tail stamp) y at e =
      when_then (OwnLives s p) _ _ y e (λ _.
      stays_at _ refl refl refl (sym (ap in_progress at)) refl refl refl (λ h. h) (λ f. absurd (pinned_at (Decided tail stamp) at f)))
  announces_lives value _ y at e = absurd (cc)

  -- SEAL stores its state; the last step of a sealed transaction clears it
  pub seals_lives : (value : ℕ) (pl : Place) (y : Part) → x.place ≡ pl → IsCurrent pl x.current → store_state p value x pl ≡ Some y → OwnLives s p y
  seals_lives value (Active tail) y at is e =
      when_then (OwnLives s p) _ _ y e (λ g.
      stays_at _ refl refl refl (sym (ap in_progress at)) refl refl refl (λ h. h) (λ f. absurd (apart (is_flusher p) (no_flusher p (and_parts _ _ (and_parts _ _ g).0).1) f)))
    where
      no_flusher : (q : ℕ) → is_session q ≡ true → is_flusher q ≡ false
      no_flusher q e = grind arith

      apart : (b : Bool) → b ≡ false → b ≡ true → ⊥
      apart b e f = cc
  seals_lives value (Drawn tail stamp) y at is e =
      when_then (OwnLives s p) _ _ y e (λ _.
      stays_at _ refl refl refl (sym (ap in_progress at)) refl refl refl (λ h. h) (λ f. absurd (pinned_at (Drawn tail stamp) at f)))
  seals_lives value (Leaving stamp) y at is e =
      when_then (OwnLives s p) _ _ y e (λ _. over_lives x.current.decision x.task (session_at (Leaving stamp) at (λ h. h)) (ap in_progress at)
      (λ _. let stamped = is.stamp_is in let positive = is.positive in omega (arith, stamped, positive)))
  seals_lives value _ y at is e = absurd (cc)

  pub decides_lives : (place header : ℕ) (pl : Place) (t : Task) (y : Part) → x.place ≡ pl → decide place header x pl t ≡ Some y → OwnLives s p y
  decides_lives place header (Sealed tail stamp) (task.Fills words) y at e =
      when_then (OwnLives s p) _ _ y e (λ _.
      stays_at _ refl refl refl (sym (ap in_progress at)) refl refl refl (λ h. h) (λ f. absurd (pinned_at (Sealed tail stamp) at f)))
  decides_lives place header _ _ y at e = absurd (cc)

  -- a seat that was vacant
  pub split_lives : (by y : Part) → split by x ≡ Some y → OwnLives s p y
  split_lives by y e = when_then (OwnLives s p) _ _ y e (λ g. stays_at _ refl refl refl (sym (none x.place (and_parts _ _ g).1)) refl refl refl (λ h. h) (λ _. tt))
    where
      none : (pl : Place) → is_vacant pl ≡ true → in_progress pl ≡ 0
      none Vacant e = refl
      none _ e = absurd (cc)

  -- the seat stays at its place
  pub calm_lives : (y : Part) → y.run ≡ x.run → y.number ≡ x.number → y.over ≡ x.over → y.place ≡ x.place → y.current.begin ≡ x.current.begin → y.current.stamp ≡ x.current.stamp
      → y.current.number ≡ x.current.number → OwnLives s p y
  calm_lives y run number over place begin stamp current =
      stays_lives s s p x y refl refl
      (record {
        run = run;
        number = number;
        over = over;
        progress = ap in_progress place;
        begin = begin;
        stamp = stamp;
        current = current;
        left = λ h. ap (λ n. is_flusher p || ltb n LAST_NUMBER) number ∙ own.left (subst IsBeginning place h);
        pinned = λ f. subst IsPin (sym place) (own.pinned f);
      }) own

  pub join_lives : (other y : Part) → join x other ≡ Some y → OwnLives s p y
  join_lives other y e = when_then (OwnLives s p) _ _ y e (λ _. calm_lives _ refl refl refl refl refl refl refl)

  pub horizon_lives : (found : ℕ) (t : Task) (y : Part) → load_tail_for_horizon found x t ≡ Some y → OwnLives s p y
  horizon_lives found (task.Claimed version) y e = when_then (OwnLives s p) _ _ y e (λ _. calm_lives _ refl refl refl refl refl refl refl)
  horizon_lives found _ y e = absurd (cc)

  pub load_begin_lives : (other found : ℕ) (t : Task) (y : Part) → load_begin p other found x t ≡ Some y → OwnLives s p y
  load_begin_lives other found (task.Horizon version least next) y e = when_then (OwnLives s p) _ _ y e (λ _. calm_lives _ refl refl refl refl refl refl refl)
  load_begin_lives other found (task.Surveys next) y e = when_then (OwnLives s p) _ _ y e (λ _. calm_lives _ refl refl refl refl refl refl refl)
  load_begin_lives other found _ y e = absurd (cc)

  pub load_state_lives : (other bound found : ℕ) (y : Part) → load_state p other bound found x ≡ Some y → OwnLives s p y
  load_state_lives other bound found y e = when_then (OwnLives s p) _ _ y e (λ _. calm_lives _ refl refl refl refl refl refl refl)
