-- A transaction that was met as the owner of an object stays one of its session's that has claimed the object, or gave the claim up; and what the own
-- session begins later begins at or above its begin.
use Rattle.std.proofs.Common.{◌≡◌, ℕ, ◌<◌, ◌≤◌, ◌⊎◌, ⊎_elim, inl, inr, false, List, [], ◌∷◌, ◌++◌, map, Some, refl, sym, ap, ◌∙◌, subst, arith}
use Rattle.erm_model.specs.declared.limits.TheConstants.{SESSIONS}
use Rattle.erm_model.specs.Member.{◌∈◌}
use Rattle.erm_model.specs.RowTransaction.{Law}
use Rattle.erm_model.proofs.Members.{∈-push}
use Rattle.erm_machine.specs.declared.attempt.Attempt.{Attempt}
use Rattle.erm_machine.specs.declared.event.Kind.{Kind}
use Rattle.erm_machine.specs.declared.place.Place.{Place}
use Rattle.erm_machine.specs.declared.place.Place.TheVariants.{Active, Announced, Begun, Decided, Drawn, Idle, Leaving, Sealed, Sealing, Vacant}
use Rattle.erm_machine.specs.declared.task.Task.{Task}
use Rattle.erm_machine.specs.declared.task.Task.TheVariants as task
use Rattle.erm_machine.specs.Core.{Core, no_claim}
use Rattle.erm_machine.specs.Facts.{IsCurrent, all_of}
use Rattle.erm_machine.specs.Sound.{Sound}
use Rattle.erm_machine.specs.Step.{after_event}
use Rattle.erm_machine.specs.Words.{is_flusher}
use Rattle.erm_machine.proofs.Listed.{∈-first, ∈-head, ∈-map_from, ∈-second}
use Rattle.erm_core_shown.specs.Shown.{ended_as, given_up_of, over_now, shown_of, shown_stand}
use Rattle.erm_core_shown.proofs.Given.{given_stands}
use Rattle.erm_core_shown.proofs.Parts.{has_shown}
use Rattle.erm_core_stays.specs.Staying.{Continues, IsAmong, Rises}
use Rattle.erm_core_stays.proofs.Commits.{event_continues}
use Rattle.erm_core_steps.proofs.Stored.{claimed_from}
use Rattle.erm_core_view.specs.Views.{fate_of, finished_of, work_of}
use Rattle.erm_core_view.proofs.Snapshots.{IsNewSnapshot, shows_current, snapshots_new}
use Rattle.erm_rule.specs.declared.view.Book.{Book}
use Rattle.erm_rule.specs.Books.{IsAfter, IsBookOf, Passes}
use Rattle.erm_world.specs.World.{Finished, Has, Stand, View, Work}
use Rattle.erm_world.specs.World as world
use Rattle.erm_own_view.specs.Own.{EndsIn}
use Rattle.erm_own_view.specs.Owners.{HasOwner, WasTried}
use Rattle.erm_own_view.proofs.Along.{of_later, was_before}
use Rattle.erm_own_view.proofs.Begins.{IsOld, all_old, begins, none, was}

-- each event keeps it so
module _ (rises : (c d : Core) (q : ℕ) (k : Kind) → Sound c → after_event c q k ≡ Some d → Rises c.shared d.shared) (seat oid other number own : ℕ) (session : is_flusher other ≡ false) where
  abbrev Owned : Core → Type 0
  Owned c = HasOwner c seat oid other number own

  pub owner_passes : (c d : Core) → Passes c d → Owned c → Owned d
  owner_passes c d passes has =
      let sound = passes.0 in
      let event = passes.1.2 in
      let (u, there, on) = event_continues c d passes.1.0 passes.1.1 sound event other has.attempt session has.stands has.begun in
      let up = (rises c d passes.1.0 passes.1.1 sound event).tail in record {
        attempt = u;
        stands = there;
        begun = omega (arith, has.begun, on.number);
        number_is = on.number ∙ has.number_is;
        tried = on.tried oid has.tried;
        past = omega (arith, has.past, up, on.begin);
        later = λ v m more. from u on v more ((all_old c d passes.1.0 passes.1.1 event seat).each v m);
      }
    where
      from : (u : Attempt) → Continues has.attempt u → (v : Attempt) → own < v.number → IsOld (c.seats seat) c.shared.tail v → u.begin ≤ v.begin
      from u on v more (was t m same begin) = omega (arith, has.later t m (omega (arith, more, same)), on.begin, begin)
      from u on v more (begins is) = omega (arith, has.past, on.begin, is)
      from u on v more (none zero) = absurd (omega (arith, more, zero))

-- each transaction of a seat shows, which is one
module _ (sessions : ℕ) (c : Core) (sound : Sound c) (q : ℕ) where
  now_shown : (pl : Place) (u : Task) (t : Attempt) (past : List Finished) → IsNewSnapshot u t → IsCurrent pl t → 0 < t.number
      → world.IsOver (past ++ over_now (ended_as pl u t) t) (work_of t) ⊎ world.IsCurrent (shown_stand pl u t) (work_of t)
  now_shown Vacant u t past new current some = absurd (let no = ap (λ (a : Attempt). a.number) current in omega (arith, some, no))
  now_shown Idle u t past new current some = absurd (let no = ap (λ (a : Attempt). a.number) current in omega (arith, some, no))
  now_shown (Begun tail) u t past new current some = absurd (let no = ap (λ (a : Attempt). a.number) current in omega (arith, some, no))
  now_shown (Announced tail) u t past new current some = absurd (let no = ap (λ (a : Attempt). a.number) current in omega (arith, some, no))
  now_shown (Active tail) (task.Ends raised ended step cleared) t past new current some =
      let g : Finished = record { work = work_of t; fate = world.aborts } in inl (g, ∈-second past (g ∷ []) g (∈-head g []), refl)
  now_shown (Active tail) u t past new current some = inr (shows_current u t new)
  now_shown (Sealing tail) u t past new current some = inr refl
  now_shown (Drawn tail stamp) u t past new current some = inr refl
  now_shown (Sealed tail stamp) u t past new current some = inr refl
  now_shown (Decided tail stamp) u t past new current some =
      let g : Finished = record { work = work_of t; fate = fate_of t.decision t } in inl (g, ∈-second past (g ∷ []) g (∈-head g []), refl)
  now_shown (Leaving stamp) u t past new current some =
      let g : Finished = record { work = work_of t; fate = fate_of t.decision t } in inl (g, ∈-second past (g ∷ []) g (∈-head g []), refl)

  pub shows_one : (t : Attempt) → t ∈ all_of (c.seats q) → 0 < t.number → Has (shown_of sessions c) q (work_of t)
  shows_one t m some =
      let x = c.seats q in
      ⊎_elim
      (λ (past : t ∈ x.over).
      inl (finished_of t, ∈-first (map finished_of x.over) (over_now (ended_as x.place x.task x.current) x.current) (finished_of t) (∈-map_from finished_of x.over t past), refl))
      (λ (is : t ≡ x.current).
      subst (λ (a : Attempt). Has (shown_of sessions c) q (work_of a)) (sym is)
      (now_shown x.place x.task x.current (map finished_of x.over) (snapshots_new c q sound) (sound.own q).ranges.current (subst (λ (a : Attempt). 0 < a.number) is some)))
      (∈-push x.over x.current t m)

-- IN THE END
pub owners_end : ((c d : Core) (q : ℕ) (k : Kind) → Sound c → after_event c q k ≡ Some d → Rises c.shared d.shared) → (law : Law) (seat oid other number own : ℕ) (m e : Book) (v f : View)
    → is_flusher other ≡ false → IsAfter m e → EndsIn law seat e v f → ((c : Core) → IsBookOf m c → HasOwner c seat oid other number own) → WasTried f seat oid other number own
owners_end rises law seat oid other number own m e v f session goes end so =
    let there : HasOwner end.core seat oid other number own =
    of_later (λ (c : Core). HasOwner c seat oid other number own) (owner_passes rises seat oid other number own session) m end.core so (was_before m e end.core goes end.was)
    in
    let t = there.attempt in record {
      work = work_of t;
      has = subst (λ (w : View). Has w other (work_of t)) (sym end.shows) (shows_one SESSIONS end.core end.under.sound other t there.stands there.begun);
      number_is = there.number_is;
      tried =
          ⊎_elim (λ (among : IsAmong t.writes oid). inl (claimed_from t.writes among.0 no_claim oid among.1 among.2))
          (λ (given : oid ∈ t.given_up).
          inr
          (subst (λ (w : View). record { number = number; oid = oid } ∈ w.given_up other) (sym end.shows)
          (subst (λ (n : ℕ). record { number = n; oid = oid } ∈ given_up_of (end.core.seats other)) there.number_is (given_stands (end.core.seats other) t oid there.stands given)))) there.tried;
      begun = λ u has more.
          let at = has_shown SESSIONS end.core seat u end.under.sound (subst (λ (w : View). Has w seat u) end.shows has) in
          let number : at.attempt.number ≡ u.number = ap (λ (w : Work). w.number) at.is in
          let begin : at.attempt.begin ≡ u.begin = ap (λ (w : Work). w.begin) at.is in
          omega (arith, there.later at.attempt at.stands (omega (arith, more, number)), begin);
    }
