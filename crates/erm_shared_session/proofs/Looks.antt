-- A look of a session of the word table at the place flushed.
use Rattle.std.proofs.Common.{◌≡◌, ℕ, ◌≤◌, ◌<◌, ◌↔◌, ◌&&◌, true, [], ◌∷◌, map, Some, Result, Ok, Err, IsOk, OnOk, IfErr, refl, sym, ap, ◌∙◌, subst, arith, le_trans}
use Rattle.std.proofs.lemmas.Bool.{and_parts}
use Rattle.erm_model.specs.RowTransaction.{Law}
use Rattle.erm_machine.specs.declared.event.Kind.{Kind}
use Rattle.erm_machine.specs.declared.event.Kind.TheVariants as kind
use Rattle.erm_machine.specs.declared.part.Part.{Part}
use Rattle.erm_machine.specs.declared.task.Task.{Task}
use Rattle.erm_machine.specs.declared.task.Task.TheVariants as task
use Rattle.erm_machine.specs.Core.{Core}
use Rattle.erm_machine.specs.Seat.{is_sealed, with_task}
use Rattle.erm_machine.specs.Settling.{has_room, load_flushed_to_settle, may_settle}
use Rattle.erm_machine.specs.Sound.{Sound}
use Rattle.erm_machine.specs.Step.{after_event}
use Rattle.erm_machine.proofs.Guards.{either_way}
use Rattle.erm_core_stays.specs.Staying.{Rises}
use Rattle.erm_core_view.specs.Views.{finished_of, session_of}
use Rattle.erm_rule.specs.declared.view.Book.{Book}
use Rattle.erm_rule.specs.Books.{IsAfter, IsBookOf, WasFlushed}
use Rattle.erm_rule.specs.Views.{part_in, part_of}
use Rattle.erm_rule.specs.Went.{Took}
use Rattle.erm_rule.proofs.Telling.{part_of-changed}
use Rattle.erm_rule.proofs.Wents.{took_goes}
use Rattle.erm_session.specs.Making.{LooksAtFlushed}
use Rattle.erm_beside.specs.Calls.{Passes}
use Rattle.erm_beside.specs.Later.{IsLater}
use Rattle.erm_lone.proofs.Later.{world_same}
use Rattle.erm_world.specs.declared.stops.NotFlushed.{NotFlushed}
use Rattle.erm_world.specs.World.{Session, Stand, View}
use Rattle.erm_own_view.specs.Own.{own_view}
use Rattle.erm_own_view.proofs.Along.{found_then, state_before, took_start}
use Rattle.erm_own_view.proofs.Own.{own_passes, own_same}
use Rattle.erm_shared_session.specs.Seen.{flushed_after}
use Rattle.erm_shared_session.proofs.Beginning.{one_step}
use Rattle.erm_shared_session.proofs.Own.{stand_same}
use Rattle.erm_shared_session.proofs.Standing.{IsSeen}
use Rattle.erm_core_shown.specs.Shown.{given_up_of}

-- where a settle goes on doesn't show
sealed_shown : (x : Part) (u : Task) → is_sealed x.place ≡ true → session_of (with_task u x) ≡ session_of x
sealed_shown x u sealed =
    ap (λ (st : Stand). let s : Session = record { over = map finished_of x.over; stand = st } in s) (stand_same x.place x.task u x.current x.current sealed refl)

-- a look shows nothing in the session
look_shown : (found : ℕ) (x : Part) → session_of (load_flushed_to_settle found x) ≡ session_of x
look_shown found x =
    either_way (λ (y : Part). session_of y ≡ session_of x) ((is_sealed x.place && may_settle x.task) && has_room found x.current) (with_task (task.Settles 0 0) x) x
    (λ g. sealed_shown x (task.Settles 0 0) (and_parts _ _ (and_parts _ _ g).0).0) (λ _. refl)

look_given : (found : ℕ) (x : Part) → given_up_of (load_flushed_to_settle found x) ≡ given_up_of x
look_given found x =
    either_way (λ (y : Part). given_up_of y ≡ given_up_of x) ((is_sealed x.place && may_settle x.task) && has_room found x.current) (with_task (task.Settles 0 0) x) x (λ _. refl) (λ _. refl)

module _ (law : Law) (seat tail flushed end : ℕ) (b e : Book) (held : part_in b.view seat ≡ Some (part_of b.view seat))
    (rises : (c d : Core) (q : ℕ) (k : Kind) → Sound c → after_event c q k ≡ Some d → Rises c.shared d.shared)
    (seen : (z : Book) → IsAfter b z → IsSeen tail flushed z) where
  abbrev Step : ℕ → Type 0
  Step found = Took law seat ((kind.LoadFlushed, found) ∷ []) b e

  abbrev own : View
  own = own_view seat tail flushed b

  -- the place found lies at or above the one that was seen, and each state after it is synced as far
  pub met : (found : ℕ) → Step found → (flushed ≤ found) × ((c : Core) → IsBookOf e c → found ≤ c.shared.flushed)
  met found took =
      let booked = one_step law seat (kind.LoadFlushed, found) b e took in
      let before = booked.under.told.before in
      let low = (seen b (took_goes law seat [] b b refl) before (state_before law b seat kind.LoadFlushed found e booked)).1 in
      let is : before.shared.flushed ≡ found = booked.under.told.met in (
        omega (arith, low, is),
        found_then law (λ (c : Core). found ≤ c.shared.flushed) (λ c d passes at. le_trans at (rises c d passes.1.0 passes.1.1 passes.0 passes.1.2).flushed) b seat kind.LoadFlushed found e booked
            (λ c of there. let is_there : c.shared.flushed ≡ found = there in omega (arith, is_there)),
      )

  -- what became of a look
  pub record Looked (r : Result (Unit {0}) NotFlushed) : Type 0 where
    pub found : ℕ
    pub took : Step found
    pub more : flushed ≤ flushed_after flushed end r
    pub seen_now : IsSeen tail (flushed_after flushed end r) e
    pub ok : IsOk r ↔ (end ≤ flushed_after flushed end r)
    pub err : IfErr r (λ stop. stop.flushed ≡ flushed_after flushed end r)

  pub looked : (r : Result (Unit {0}) NotFlushed) → OnOk r ((found : ℕ) × (end ≤ found) × Step found) → IfErr r (λ stop. Step stop.flushed)
      → IfErr r (λ stop. WasFlushed b stop.flushed e × (stop.flushed < end)) → Looked r
  looked (Ok done) took none low =
      let at = met took.0 took.2 in
      let goes = took_goes law seat ((kind.LoadFlushed, took.0) ∷ []) b e took.2 in
      let within = took.1 in
      record {
        found = took.0;
        took = took.2;
        more = grind arith;
        seen_now = λ c is. let old = seen e goes c is in let far = at.1 c is in let old_flushed = old.1 in (old.0, grind arith);
        ok = (λ _. grind arith, λ _. refl);
        err = tt;
      }
  looked (Err stop) took none low =
      let at = met stop.flushed none in
      let goes = took_goes law seat ((kind.LoadFlushed, stop.flushed) ∷ []) b e none in
      let less = low.1 in
      record {
        found = stop.flushed;
        took = none;
        more = at.0;
        seen_now = λ c is. ((seen e goes c is).0, at.1 c is);
        ok = (λ is. absurd (cc), λ within. absurd (omega (arith, less, within)));
        err = refl;
      }

  pub look_same : (found : ℕ) → Step found → LooksAtFlushed b.view seat e.view → (then_flushed : ℕ) → flushed ≤ then_flushed
      → Passes seat own (own_view seat tail then_flushed e) × IsLater (own.session seat) ((own_view seat tail then_flushed e).session seat)
  look_same found took looks then_flushed more =
      let x = part_of b.view seat in
      let after : part_of e.view seat ≡ load_flushed_to_settle looks.found x = part_of-changed b.view seat e.view (load_flushed_to_settle looks.found x) x held looks.view_is in
      let start = took_start law seat ((kind.LoadFlushed, found) ∷ []) b e took in
      let now : own_view seat tail then_flushed e ≡ own_view seat tail then_flushed b =
      own_same seat tail then_flushed b e start (ap session_of after ∙ look_shown looks.found x) (ap given_up_of after ∙ look_given looks.found x) in (
        subst (λ (v : View). Passes seat own v) (sym now) (own_passes seat tail flushed tail then_flushed b (omega arith) more),
        subst (λ (v : View). IsLater (own.session seat) (v.session seat)) (sym now) ((world_same own own refl).session seat),
      )
