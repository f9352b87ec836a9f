-- After all steps of an abort the transaction is over.
use Rattle.std.proofs.Common.{◌≡◌, ℕ, true, false, List, [], ◌∷◌, ◌++◌, length, map, Option, Some, None, refl, sym, ap, ◌∙◌, subst, arith}
use Rattle.std.proofs.lemmas.Bool.{and_from, cond-false, cond-true, eq-eqb}
use Rattle.std.proofs.lemmas.List.{map-append}
use Rattle.erm_machine.specs.declared.attempt.Attempt.{Attempt}
use Rattle.erm_machine.specs.declared.attempt.Decision.TheVariants.{Abort}
use Rattle.erm_machine.specs.declared.attempt.Read.{Read}
use Rattle.erm_machine.specs.declared.event.Event.{Event}
use Rattle.erm_machine.specs.declared.event.Kind.TheVariants as kind
use Rattle.erm_machine.specs.declared.part.Part.{Part}
use Rattle.erm_machine.specs.declared.place.Place.{Place}
use Rattle.erm_machine.specs.declared.place.Place.TheVariants.{Active, Idle}
use Rattle.erm_machine.specs.declared.task.Task.TheVariants as task
use Rattle.erm_machine.specs.Core.{Core, claim_at}
use Rattle.erm_machine.specs.Life.{aborted, has_ended, store_begin}
use Rattle.erm_machine.specs.Seat.{end_of, is_active, over, read_at}
use Rattle.erm_machine.specs.Sound.{Sound}
use Rattle.erm_machine.specs.Step.{after_event, run_from}
use Rattle.erm_machine.specs.Words.{is_flusher, put}
use Rattle.erm_machine.proofs.Frames.{put_same}
use Rattle.erm_world.specs.Calls.{IsDone}
use Rattle.erm_world.specs.World.{Finished, Session, Stand, Work, work_at}
use Rattle.erm_world.specs.World as world
use Rattle.erm_world.proofs.Saves.{becomes_then}
use Rattle.erm_core_view.specs.Steps.{RestsAt, clear_steps, end_steps, release_steps}
use Rattle.erm_core_view.specs.Views.{finished_of, session_of, view_of, work_of}
use Rattle.erm_core_view.proofs.Chained.{goes, run_append, taken}
use Rattle.erm_core_view.proofs.Ends.{Ending, all_cleared, all_released, nothing_ended}
use Rattle.erm_core_view.proofs.Moved.{one_becomes}
use Rattle.erm_core_view.proofs.Shown.{work_active}
use Rattle.erm_core_view.proofs.Snapshots.{IsNewSnapshot}

-- the part after the begin word is cleared
abbrev gone : Part → Part
gone x = over Abort (record x { place = Idle; task = task.Rest })

clears_begin : (seat : ℕ) (x : Part) (place : Place) → is_active place ≡ true → is_flusher seat ≡ false → has_ended x.current (end_of x.task) ≡ true
    → store_begin seat 0 x place ≡ Some (gone x)
clears_begin seat x (Active tail) active session ended =
    cond-true (has_ended x.current (end_of x.task)) (Some (aborted seat (record x { place = Idle; task = task.Rest }))) None ended
    ∙ ap (λ (y : Part). Some y) (cond-false (is_flusher seat) _ (gone x) session)
clears_begin seat x _ active session ended = absurd (cc)

-- what it shows then
gone_shows : (x : Part) (s : Session) → session_of x ≡ s → is_active x.place ≡ true → IsNewSnapshot x.task x.current
    → session_of (gone x) ≡ record { over = s.over ++ record { work = world.work_of s.stand; fate = world.aborts } ∷ []; stand = world.idle }
gone_shows x s same active new =
    let ended : Attempt = record x.current { decision = Abort } in
    let work : work_of x.current ≡ world.work_of s.stand = sym (work_active x.place x.task x.current active new) ∙ ap (λ (r : Session). world.work_of r.stand) same in
    let lists : map finished_of (x.over ++ ended ∷ []) ≡ s.over ++ record { work = world.work_of s.stand; fate = world.aborts } ∷ [] =
    map-append finished_of x.over (ended ∷ []) ∙ ap (λ (fs : List Finished). fs ++ finished_of ended ∷ []) (ap (λ (r : Session). r.over) same)
    ∙ ap (λ (w : Work). s.over ++ record { work = w; fate = world.aborts } ∷ []) work in
    ap (λ (fs : List Finished). record { over = fs; stand = world.idle }) lists

module _ (seat : ℕ) (c : Core) (sound : Sound c) (session : is_flusher seat ≡ false) (active : is_active (c.seats seat).place ≡ true)
    (may : end_of (c.seats seat).task ≡ Some (0, 0, 0, 0)) where
  -- before the last step
  abbrev last : Core
  last = run_from (run_from c (release_steps seat (c.seats seat).current.writes)) (clear_steps seat (c.seats seat).current.reads)

  all_ended : (sessions : ℕ) → Ending sessions seat c sound session active (length (c.seats seat).current.writes) (length (c.seats seat).current.reads) last
  all_ended sessions =
      let t : Attempt = (c.seats seat).current in
      let first = all_released sessions seat c sound session active t.writes 0 c (nothing_ended sessions seat c sound session active may) (omega arith)
      (λ j inside. ap (λ (n : ℕ). claim_at t n) (omega arith)) in
      all_cleared sessions seat c sound session active t.reads 0 (run_from c (release_steps seat t.writes)) first (omega arith)
      (λ j inside. ap (λ (n : ℕ). read_at t n) (omega arith))

  abbrev done : Core
  done = record { shared = last.shared; seats = put last.seats seat (gone (last.seats seat)) }

  still : is_active (last.seats seat).place ≡ true
  still = ap is_active (all_ended 0).place ∙ active

  last_goes : after_event last seat (kind.StoreBegin 0) ≡ Some done
  last_goes =
      let y : Part = last.seats seat in
      let at = all_ended 0 in
      let reads : length (c.seats seat).current.reads ≡ length y.current.reads = ap (λ (rs : List Read). length rs) (sym at.reads) in
      let ended : has_ended y.current (end_of y.task) ≡ true =
      ap (λ (o : Option (ℕ × ℕ × ℕ × ℕ)). has_ended y.current o) at.task ∙ and_from _ _ (eq-eqb _ (length y.current.writes) (sym at.count)) (eq-eqb _ (length y.current.reads) reads) in
      goes last seat (kind.StoreBegin 0) (gone y) tt refl (clears_begin seat y y.place still session ended)

  runs : run_from c (end_steps seat (c.seats seat).current) ≡ done
  runs =
      let t : Attempt = (c.seats seat).current in
      let clears : List Event = record { seat = seat; kind = kind.StoreBegin 0 } ∷ [] in
      run_append (release_steps seat t.writes) (clear_steps seat t.reads ++ clears) c
      ∙ run_append (clear_steps seat t.reads) clears (run_from c (release_steps seat t.writes))
      ∙ taken last done seat (kind.StoreBegin 0) [] last_goes

  pub aborts : (sessions : ℕ) → IsDone (view_of sessions c) seat (work_at (view_of sessions c) seat) world.aborts (view_of sessions (run_from c (end_steps seat (c.seats seat).current)))
  aborts sessions =
      let y : Part = last.seats seat in
      let at = all_ended sessions in
      let s : Session = session_of (c.seats seat) in
      let after : Session = record { over = s.over ++ record { work = world.work_of s.stand; fate = world.aborts } ∷ []; stand = world.idle } in
      let shows : session_of (done.seats seat) ≡ after = ap session_of (put_same last.seats seat (gone y)) ∙ gone_shows y s at.shows.own still at.new in
      subst (λ (d : Core). IsDone (view_of sessions c) seat (work_at (view_of sessions c) seat) world.aborts (view_of sessions d)) (sym runs)
      (becomes_then (view_of sessions c) seat s (view_of sessions last) after (view_of sessions done) (λ active. absurd (cc active)) at.shows
      (one_becomes sessions seat last done (kind.StoreBegin 0) after session tt tt refl refl last_goes shows))

  pub abort_rests : RestsAt seat Idle (run_from c (end_steps seat (c.seats seat).current))
  abort_rests =
      let own = put_same last.seats seat (gone (last.seats seat)) in
      subst (λ (d : Core). RestsAt seat Idle d) (sym runs) (record { place = ap (λ (y : Part). y.place) own; rests = ap (λ (y : Part). y.task) own })
