-- Rows as of the pin: the last version below it, and who may still write one.
use Rattle.std.proofs.Common.{◌≡◌, ◌≢◌, ℕ, zero, suc, ◌+◌, ◌<◌, ◌≤◌, ◌⊎◌, ⊎_elim, Bool, true, false, ◌||◌, cond, eqb, ltb, List, [], ◌∷◌, ◌++◌, length, map, take, get_or, Option, Some, None, IfSome, refl, sym, ap, ◌∙◌, subst, inl, inr, arith}
use Rattle.std.specs.Prelude.{IsSome, if◌then◌else◌, is_some}
use Rattle.std.proofs.lemmas.Bool.{cases_eq, cases_lt, cond-false, cond-true, eq-eqb, eqb-false, eqb-true, le-ltb, lt-ltb, ne_eqb, or_cases, or_left, or_right, or_parts}
use Rattle.std.proofs.lemmas.List.{take_more}
use Rattle.std.proofs.lemmas.Option.{same_Some}
use Rattle.erm_model.specs.declared.history.VersionWritten.{VersionWritten}
use Rattle.erm_model.specs.Member.{◌∈◌}
use Rattle.erm_model.specs.RowTransaction.{Law}
use Rattle.erm_model.proofs.Members.{∈-behind}
use Rattle.erm_machine.specs.declared.attempt.Attempt.{Attempt}
use Rattle.erm_machine.specs.declared.limits.TheConstants.{FLUSH_SEAT, OBJECT_LIMIT}
use Rattle.erm_machine.specs.declared.place.Place.{Place}
use Rattle.erm_machine.specs.declared.place.Place.TheVariants.{Active, Idle, Sealed}
use Rattle.erm_machine.specs.declared.task.Task.{Task}
use Rattle.erm_machine.specs.declared.version.Version.{Version}
use Rattle.erm_machine.specs.Core.{Core, no_version}
use Rattle.erm_machine.specs.Facts.{HoldsBelow, IsCurrent}
use Rattle.erm_machine.specs.Lives.{in_progress}
use Rattle.erm_machine.specs.Words.{is_clear, is_flusher, owner_of, state_of}
use Rattle.erm_machine.proofs.Holders.{owner_holds}
use Rattle.erm_machine.proofs.Listed.{∈-head}
use Rattle.erm_core_turns.specs.Turns.{log_of}
use Rattle.erm_core_turns.proofs.LogIs.{Lists, More}
use Rattle.erm_core_turns.proofs.RowsAt.{IsSeen, newest_shown, pin_is, seen_newest, seen_row}
use Rattle.erm_core_turns.proofs.Undecided.{undecided_are}
use Rattle.erm_core_view.specs.Views.{IsBetween, IsQuiet, pin_of, view_of}
use Rattle.erm_sound.specs.Kept.{SoundUnder}
use Rattle.erm_world.specs.declared.gathered.SeatWait.{SeatWait}
use Rattle.erm_world.specs.Laws.{IsSerializable}
use Rattle.erm_world.specs.Log.{IsRowAt, IsUnwaited, IsWait, Undecided}
use Rattle.erm_world.specs.Works.{is_claimed}
use Rattle.erm_core_steps.specs.Pinned.{IsNewestRow, owner_below, row_below}
use Rattle.erm_core_steps.proofs.Early.{ahead_holds}
use Rattle.erm_core_steps.proofs.Owners.{owner_ahead}
use Rattle.erm_core_turns.proofs.GatherDone.{vacant_unsealed}

abbrev F : ℕ
F = FLUSH_SEAT

-- THE LAST version below the bound, after one more
below_push : (bound : ℕ) (vs : List Version) (v : Version) (row : Option (List ℕ))
    → row_below bound (vs ++ v ∷ []) row ≡ (if ltb v.words.stamp bound then Some v.words.row else row_below bound vs row)
below_push bound [] v row = refl
below_push bound (u ∷ vs) v row = below_push bound vs v (if ltb u.words.stamp bound then Some u.words.row else row)

pub below_more : (bound : ℕ) (vs : List Version) (i : ℕ) (d : Version) (row next : Option (List ℕ)) → i < length vs → row ≡ row_below bound (take i vs) None
    → next ≡ (if ltb (get_or vs i d).words.stamp bound then Some (get_or vs i d).words.row else row) → next ≡ row_below bound (take (i + 1) vs) None
below_more bound vs i d row next within is e =
    let v = get_or vs i d in
    e ∙ ap (λ (r : Option (List ℕ)). let o : Option (List ℕ) = if ltb v.words.stamp bound then Some v.words.row else r in o) is
    ∙ sym (below_push bound (take i vs) v None) ∙ ap (λ (us : List Version). row_below bound us None) (sym (take_more vs i d within))

-- the place of that version
pub record IsLast (bound : ℕ) (vs : List Version) (row : List ℕ) : Type 0 where
  pub place : ℕ
  pub within : place < length vs
  pub below : (get_or vs place no_version).words.stamp < bound
  pub newer : (k : ℕ) → place < k → k < length vs → bound ≤ (get_or vs k no_version).words.stamp
  pub row_is : (get_or vs place no_version).words.row ≡ row

-- one is found, or none lies below the bound
abbrev HasLast : ℕ → List Version → Option (List ℕ) → Type 0
HasLast bound vs found = (row : List ℕ) × (found ≡ Some row) × IsLast bound vs row

abbrev AllAbove : ℕ → List Version → Type 0
AllAbove bound vs = (k : ℕ) → k < length vs → bound ≤ (get_or vs k no_version).words.stamp

last_behind : (bound : ℕ) (v : Version) (vs : List Version) (found : Option (List ℕ)) → HasLast bound vs found → HasLast bound (v ∷ vs) found
last_behind bound v vs found has =
    let at = has.2 in (
      has.0,
      has.1,
      record {
        place = suc at.place;
        within = (let h = at.within in omega (arith, h));
        below = at.below;
        newer = newer at;
        row_is = at.row_is;
      },
    )
  where
    newer : (at : IsLast bound vs has.0) → (k : ℕ) → suc at.place < k → k < length (v ∷ vs) → bound ≤ (get_or (v ∷ vs) k no_version).words.stamp
    newer at zero above within = absurd (omega (arith, above))
    newer at (suc k) above within = at.newer k (omega (arith, above)) (omega (arith, within))

last_here : (bound : ℕ) (v : Version) (vs : List Version) (found : Option (List ℕ)) → AllAbove bound vs → v.words.stamp < bound → found ≡ Some v.words.row → HasLast bound (v ∷ vs) found
last_here bound v vs found above low is =
    (v.words.row, is, record { place = 0; within = omega arith; below = low; newer = newer; row_is = refl })
  where
    newer : (k : ℕ) → 0 < k → k < length (v ∷ vs) → bound ≤ (get_or (v ∷ vs) k no_version).words.stamp
    newer zero some within = absurd (omega (arith, some))
    newer (suc k) some within = above k (omega (arith, within))

none_here : (bound : ℕ) (v : Version) (vs : List Version) → AllAbove bound vs → bound ≤ v.words.stamp → AllAbove bound (v ∷ vs)
none_here bound v vs above high zero within = high
none_here bound v vs above high (suc k) within = above k (omega (arith, within))

last_is : (bound : ℕ) (vs : List Version) (row : Option (List ℕ)) → HasLast bound vs (row_below bound vs row) ⊎ (AllAbove bound vs × (row_below bound vs row ≡ row))
last_is bound [] row = inr ((λ k within. absurd (omega (arith, within))), refl)
last_is bound (v ∷ vs) row =
    let next : Option (List ℕ) = if ltb v.words.stamp bound then Some v.words.row else row in
    ⊎_elim
    (λ (has : HasLast bound vs (row_below bound vs next)). inl (last_behind bound v vs (row_below bound vs next) has))
    (λ (none : AllAbove bound vs × (row_below bound vs next ≡ next)).
    ⊎_elim
    (λ (low : v.words.stamp < bound).
    inl (last_here bound v vs (row_below bound vs next) none.0 low (none.1 ∙ cond-true (ltb v.words.stamp bound) (Some v.words.row) row (lt-ltb v.words.stamp bound low))))
    (λ (high : bound ≤ v.words.stamp).
    inr (none_here bound v vs none.0 high, none.1 ∙ cond-false (ltb v.words.stamp bound) (Some v.words.row) row (le-ltb v.words.stamp bound high)))
    (cases_lt v.words.stamp bound))
    (last_is bound vs next)

-- AN OBJECT whose owner is clear is one of which no range below the bound may still write a version.
none_of : {X : Type 0} (b : Bool) (x : X) → cond b None (Some x) ≡ None → b ≡ true
none_of true x e = refl
none_of false x e = absurd (cc)

clear_not : (stamp bound : ℕ) → 0 < stamp → stamp < bound → is_clear stamp bound ≡ true → ⊥
clear_not stamp bound some low clear = grind arith

drawn_state : (pl : Place) (u : Task) (t : Attempt) → IsBetween pl u → IsCurrent pl t → 0 < t.stamp → state_of pl ≡ t.stamp
drawn_state Idle u t between is some = let none = ap (λ (a : Attempt). a.stamp) is in absurd (omega (arith, none, some))
drawn_state (Active tail) u t between is some = let none = is.stamp in absurd (omega (arith, none, some))
drawn_state (Sealed tail stamp) u t between is some = sym is.stamp_is
drawn_state _ u t between is some = absurd between

-- an object that is claimed is among the objects that are
claimed_among : (claims : List VersionWritten) (oid : ℕ) → is_claimed claims oid ≡ true → oid ∈ map (λ (w : VersionWritten). w.oid) claims
claimed_among [] oid e = absurd (cc)
claimed_among (w ∷ ws) oid e =
    ⊎_elim
    (λ (here : eqb w.oid oid ≡ true). subst (λ n. n ∈ map (λ (v : VersionWritten). v.oid) (w ∷ ws)) (eqb-true w.oid oid here) (∈-head w.oid (map (λ (v : VersionWritten). v.oid) ws)))
    (λ (later : is_claimed ws oid ≡ true). ∈-behind w.oid (map (λ (v : VersionWritten). v.oid) ws) oid (claimed_among ws oid later))
    (or_cases (eqb w.oid oid) (is_claimed ws oid) e)

-- and one that is among the objects that are claimed is claimed
claimed_of : (claims : List VersionWritten) (oid : ℕ) → oid ∈ map (λ (w : VersionWritten). w.oid) claims → is_claimed claims oid ≡ true
claimed_of [] oid (k, is) = absurd (cc)
claimed_of (w ∷ ws) oid (zero, is) = or_left (eqb w.oid oid) (is_claimed ws oid) (eq-eqb w.oid oid (same_Some w.oid oid is))
claimed_of (w ∷ ws) oid (suc k, is) = or_right (eqb w.oid oid) (is_claimed ws oid) (claimed_of ws oid (k, is))

module _ (law : Law) (lists : Lists law) (more : More law) (sessions : ℕ) (c : Core) (under : SoundUnder law c) (quiet : IsQuiet sessions c)
    (is : IsSerializable law (view_of sessions c)) (some : IsSome (pin_of (c.seats F).place (c.seats F).current)) (oid : ℕ) (known : oid < OBJECT_LIMIT) where
  abbrev b : ℕ
  b = (c.seats F).current.begin

  abbrev owner : ℕ
  owner = owner_of (c.shared.objects oid).entry

  abbrev seen : ℕ
  seen = state_of (c.seats owner).place

  -- whoever holds it below the bound owns its entry, and isn't clear
  holder_state : (q : ℕ) → HoldsBelow (c.seats q) oid b → state_of (c.seats q).place ≡ (c.seats q).current.stamp
  holder_state q below =
      let cur = (under.sound.own q).ranges.current in
      let unused : (0 < q → q ≤ sessions → ⊥) → is_flusher q ≡ false → ⊥ = λ none plain. vacant_unsealed (c.seats q).place (c.seats q).current (quiet.others q none plain) cur below.0 in
      ⊎_elim
      (λ (flusher : q ≡ F). drawn_state (c.seats q).place (c.seats q).task (c.seats q).current (quiet.flusher q (eq-eqb q F flusher)).rests cur below.0)
      (λ (other : q ≡ F → ⊥).
      ⊎_elim (λ (above : sessions < q). absurd (unused (λ positive low. absurd (omega (arith, above, low))) (ne_eqb q F other)))
      (λ (within : q ≤ sessions).
      ⊎_elim (λ (e : q ≡ 0). absurd (unused (λ positive low. absurd (omega (arith, e, positive))) (ne_eqb q F other)))
      (λ (ne : q ≡ 0 → ⊥). drawn_state (c.seats q).place (c.seats q).task (c.seats q).current (quiet.between q (omega (arith, ne)) within) cur below.0)
      (cases_eq q 0))
      (cases_lt sessions q))
      (cases_eq q F)

  holder_some : (q : ℕ) → HoldsBelow (c.seats q) oid b → q ≢ 0
  holder_some q below = λ e.
      let plain : is_flusher q ≡ false = ne_eqb q F (λ same. absurd (omega (arith, same, e))) in
      absurd (vacant_unsealed (c.seats q).place (c.seats q).current (quiet.others q (λ positive low. absurd (omega (arith, e, positive))) plain) (under.sound.own q).ranges.current below.0)

  apart : owner_below c oid b ≡ None → (q : ℕ) → F ≢ q → HoldsBelow (c.seats q) oid b → ⊥
  apart none q other below =
      let owns : owner ≡ q = owner_holds c q oid under.sound below.2 in
      let state : seen ≡ (c.seats q).current.stamp = ap (λ n. state_of (c.seats n).place) owns ∙ holder_state q below in
      let first = below.0 in
      let low = below.1 in
      ⊎_elim
      (λ (zero_is : eqb owner 0 ≡ true). holder_some q below (sym owns ∙ eqb-true owner 0 zero_is))
      (λ (clear : is_clear seen b ≡ true). clear_not seen b (omega (arith, state, first)) (omega (arith, state, low)) clear)
      (or_cases (eqb owner 0) (is_clear seen b) (none_of (eqb owner 0 || is_clear seen b) (record { seat = owner; seen = seen }) none))

  -- THE ROW found is the one seen
  seen_last : owner_below c oid b ≡ None → (row : List ℕ) → (at : IsLast b (c.shared.objects oid).versions row) → IsSeen c oid b at.place row
  seen_last none row at = record { known = known; within = at.within; below = at.below; newer = at.newer; row_is = at.row_is; apart = apart none }

  pub last_found : (row : List ℕ) → Some row ≡ row_below b (c.shared.objects oid).versions None → IsLast b (c.shared.objects oid).versions row
  last_found row e =
      ⊎_elim
      (λ (has : HasLast b (c.shared.objects oid).versions (row_below b (c.shared.objects oid).versions None)).
      subst (IsLast b (c.shared.objects oid).versions) (sym (same_Some row has.0 (e ∙ has.1))) has.2)
      (λ (none : AllAbove b (c.shared.objects oid).versions × (row_below b (c.shared.objects oid).versions None ≡ None)). absurd (let no : ◌≡◌ {A = Option (List ℕ)} (Some row) None = e ∙ none.1 in cc))
      (last_is b (c.shared.objects oid).versions None)

  pub row_found : owner_below c oid b ≡ None → (row : List ℕ) → Some row ≡ row_below b (c.shared.objects oid).versions None → IsRowAt (log_of sessions c) oid row
  row_found none row e =
      let at = last_found row e in seen_row law lists more sessions c under quiet is some oid at.place row (seen_last none row at)

  pub newest_found : owner_below c oid b ≡ None → (row : List ℕ) → Some row ≡ row_below b (c.shared.objects oid).versions None
      → IfSome (pin_of (c.seats F).place (c.seats F).current) (IsNewestRow (view_of sessions c) oid row)
  newest_found none row e =
      let at = last_found row e in
      let newest = seen_newest law lists more sessions c under quiet is some oid at.place row (seen_last none row at) in
      subst (λ (o : Option ℕ). IfSome o (IsNewestRow (view_of sessions c) oid row)) (sym (pin_is law lists more sessions c under quiet is some))
      (record { stamp = _; newest = newest_shown law lists more sessions c under quiet is some oid _ row newest })

  -- each object has a version of stamp 0, below each pin
  pub some_found : IsSome (row_below b (c.shared.objects oid).versions None)
  some_found =
      ⊎_elim
      (λ (has : HasLast b (c.shared.objects oid).versions (row_below b (c.shared.objects oid).versions None)). ap is_some has.1)
      (λ (none : AllAbove b (c.shared.objects oid).versions × (row_below b (c.shared.objects oid).versions None ≡ None)).
      let first = none.0 0 (under.sound.common.claims.objects oid known).some in
      let opened = under.sound.common.marks.opened oid known in
      let begun = positive in
      absurd (omega (arith, first, opened, begun)))
      (last_is b (c.shared.objects oid).versions None)
    where
      active_begun : (pl : Place) → pl ≡ (c.seats F).place → IsSome (pin_of pl (c.seats F).current) → c.shared.opening ≤ b
      active_begun (Active tail) e there = (under.sound.own F).lives.opened_now (ap in_progress (sym e))
      active_begun _ e there = absurd (cc)

      positive : 0 < b
      positive = let low = active_begun (c.seats F).place refl some in let behind = quiet.opened in omega (arith, low, behind)

  -- and nobody is waited for
  pub unwaited_found : owner_below c oid b ≡ None → IsUnwaited (log_of sessions c) oid
  unwaited_found none wait waits =
      let sealed = (undecided_are law (view_of sessions c) is wait.seen waits.by).0 waits.undecided in
      let q = waits.by.seat in
      let plain : is_flusher q ≡ false = quiet.few q sealed.session.1 in
      let another : q ≢ F = λ same. let flusher : is_flusher q ≡ true = eq-eqb q F same in cc in
      let claims = claimed_of sealed.work.claims oid (subst (λ (oids : List ℕ). oid ∈ oids) sealed.claims waits.claims) in
      let below = subst (λ (o : Option ℕ). IfSome o (λ place. wait.seen < place)) (pin_is law lists more sessions c under quiet is some) waits.below in
      apart none q (λ same. another (sym same)) (ahead_holds sessions F oid b q wait.seen c under.sound quiet (record {
        session = sealed.session;
        another = another;
        work = sealed.work;
        stand = sealed.stand;
        below = below;
        claims = claims;
      }))

  -- WHO is waited for is sealed below the pin, and has claimed the object
  some_of : {X : Type 0} (p : Bool) (x y : X) → cond p None (Some x) ≡ Some y → (p ≡ false) × (x ≡ y)
  some_of true x y e = absurd (cc)
  some_of false x y e = (refl, same_Some x y e)

  pub wait_found : (wait : SeatWait) → Some wait ≡ owner_below c oid b → IsWait (log_of sessions c) oid wait
  wait_found wait e =
      let found = some_of (eqb owner 0 || is_clear seen b) (record { seat = owner; seen = seen }) wait (sym e) in
      let parts = or_parts (eqb owner 0) (is_clear seen b) found.0 in
      let positive : 0 < owner = (let ne = eqb-false owner 0 parts.0 in omega (arith, ne)) in
      let here = owner_waits positive parts.1 in
      subst (IsWait (log_of sessions c) oid) found.1 here
    where
      owner_waits : 0 < owner → is_clear seen b ≡ false → IsWait (log_of sessions c) oid (record { seat = owner; seen = seen })
      owner_waits positive unclear =
          let no : owner ≢ F = λ same. absurd (flush_clear same unclear) in
          let ahead = owner_ahead sessions F oid owner b c under.sound quiet known positive refl no unclear in
          let u : Undecided = record { seat = owner; claims = map (λ (w : VersionWritten). w.oid) ahead.work.claims } in
          record {
            by = u;
            undecided = (undecided_are law (view_of sessions c) is seen u).1 (record { session = ahead.session; work = ahead.work; stand = ahead.stand; claims = refl });
            seat = refl;
            claims = claimed_among ahead.work.claims oid ahead.claims;
            below = subst (λ (o : Option ℕ). IfSome o (λ place. seen < place)) (sym (pin_is law lists more sessions c under quiet is some)) ahead.below;
          }
        where
          pinned_clear : (pl : Place) (bound : ℕ) → IsSome (pin_of pl (c.seats F).current) → is_clear (state_of pl) bound ≡ true
          pinned_clear (Active tail) bound there = refl
          pinned_clear _ bound there = absurd (cc)

          flush_clear : owner ≡ F → is_clear seen b ≡ false → ⊥
          flush_clear same f =
              let clear : is_clear seen b ≡ true = ap (λ n. is_clear (state_of (c.seats n).place) b) same ∙ pinned_clear (c.seats F).place b some in cc
