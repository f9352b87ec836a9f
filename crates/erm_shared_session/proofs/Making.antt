-- A new object of a session of the word table, beside others.
use Rattle.std.proofs.Common.{◌≡◌, ℕ, ◌+◌, ◌≤◌, false, inl, inr, List, [], ◌∷◌, ◌++◌, append-nil, map, Some, Result, Ok, Err, IfOk, IfErr, refl, sym, ap, ◌∙◌, subst, arith, le_trans}
use Rattle.erm_model.specs.declared.limits.TheConstants.{OID_LIMIT, SESSIONS}
use Rattle.erm_model.specs.declared.outcome.Phase.TheVariants as phase
use Rattle.erm_model.specs.declared.row_stop.RowStop.{RowStop}
use Rattle.erm_model.specs.declared.row_stop.RowStop.TheVariants as stop
use Rattle.erm_model.specs.RowTransaction.{Law, asked_make}
use Rattle.erm_machine.specs.declared.attempt.Attempt.{Attempt}
use Rattle.erm_machine.specs.declared.event.Counter.TheVariants.{Objects}
use Rattle.erm_machine.specs.declared.event.Kind.{Kind}
use Rattle.erm_machine.specs.declared.event.Kind.TheVariants as kind
use Rattle.erm_machine.specs.declared.limits.TheConstants.{OBJECT_LIMIT}
use Rattle.erm_machine.specs.declared.place.Place.{Place}
use Rattle.erm_machine.specs.declared.place.Place.TheVariants as place
use Rattle.erm_machine.specs.declared.task.Task.TheVariants as task
use Rattle.erm_machine.specs.Core.{Core, spot_of, word_at}
use Rattle.erm_machine.specs.Seat.{is_snapshot, with_task}
use Rattle.erm_machine.specs.Sound.{Sound}
use Rattle.erm_machine.specs.Step.{after_event}
use Rattle.erm_machine.specs.declared.task.Task.{Task}
use Rattle.erm_core_stays.specs.Staying.{Rises}
use Rattle.erm_core_view.specs.Views.{finished_of, session_of, stand_of}
use Rattle.erm_core_view.proofs.Calm.{plainly}
use Rattle.erm_core_view.proofs.Snapshots.{active_plain, plain_new, shown_work}
use Rattle.erm_rule.specs.declared.view.Book.{Book}
use Rattle.erm_rule.specs.Books.{IsBookOf}
use Rattle.erm_rule.specs.Steps.{Booked}
use Rattle.erm_rule.specs.Views.{part_in, part_of}
use Rattle.erm_rule.specs.Went.{Took}
use Rattle.erm_rule.proofs.Telling.{part_of-changed}
use Rattle.erm_session.specs.Making.{MakesObject, RefusesObject, made_part}
use Rattle.erm_session.specs.Took.{TookNoObject, TookObject}
use Rattle.erm_beside.specs.Calls.{After, NotMadeBeside}
use Rattle.erm_beside.specs.Ends.{MetBeside}
use Rattle.erm_beside.specs.Later.{IsLater}
use Rattle.erm_lone.proofs.Later.{world_goes, world_same}
use Rattle.erm_world.specs.Calls.{AreAllMade, DidMake}
use Rattle.erm_world.specs.Face.{Goes, works}
use Rattle.erm_world.specs.Going.{Extends, found_by}
use Rattle.erm_world.specs.Works.{making}
use Rattle.erm_world.specs.World.{Session, Stand, View, Work, work_at}
use Rattle.erm_world.specs.World as world
use Rattle.erm_own_view.specs.Own.{EndsIn, own_view}
use Rattle.erm_own_view.proofs.Along.{found_then}
use Rattle.erm_own_view.proofs.Own.{own_becomes, own_is, own_passes, own_same}
use Rattle.erm_shared_session.proofs.Beginning.{one_step}
use Rattle.erm_core_shown.specs.Shown.{given_up_of}
use Rattle.erm_core_shown.proofs.Given.{given_stays}

-- the session of a seat that has made an object
made_shown : (pl : Place) (u : Task) (t : Attempt) (oid : ℕ) → world.phase_of (stand_of pl u t) ≡ phase.Active
    → stand_of pl task.Rest (record t { made = t.made ++ oid ∷ [] }) ≡ world.active (making oid (world.work_of (stand_of pl u t)))
made_shown (place.Active tail) u t oid active = ap (λ (w : Work). world.active (making oid w)) (sym (shown_work u t (plain_new u t (active_plain u t active))))
made_shown _ u t oid active = absurd (cc)

-- a seat that shows as active has no snapshot
phase_plain : (pl : Place) (u : Task) (t : Attempt) → world.phase_of (stand_of pl u t) ≡ phase.Active → is_snapshot u ≡ false
phase_plain (place.Active tail) u t active = active_plain u t active
phase_plain _ u t active = absurd (cc)

abbrev makes : ℕ → Session → Session
makes oid r = record { over = r.over; stand = world.active (making oid (world.work_of r.stand)) }

-- a transaction that has made one object more
one_made : (oid : ℕ) (w : Work) → Extends w (making oid w)
one_made oid w = record {
  number = refl;
  begin = refl;
  read = [];
  reads = sym (append-nil w.reads);
  claimed = [];
  claims = sym (append-nil (map found_by w.claims));
  more = oid ∷ [];
  made = refl;
}

module _ (law : Law) (seat tail flushed : ℕ) (b e : Book) (start : e.start ≡ b.start) (held : part_in b.view seat ≡ Some (part_of b.view seat)) where
  abbrev own : View
  own = own_view seat tail flushed b

  abbrev next : View
  next = own_view seat tail flushed e

  -- MADE
  did_make : (oid : ℕ) → world.phase_of (own.session seat).stand ≡ phase.Active → MakesObject b.view seat oid e.view → DidMake own seat oid next
  did_make oid active did =
      let x = part_of b.view seat in
      let same = own_is seat tail flushed b in
      let now : world.phase_of (stand_of x.place x.task x.current) ≡ phase.Active = sym (ap (λ (r : Session). world.phase_of r.stand) same) ∙ active in
      let after : part_of e.view seat ≡ made_part oid x = part_of-changed b.view seat e.view (made_part oid x) x held did.view_is in
      own_becomes seat tail flushed b e (makes oid (own.session seat)) start
      (ap session_of after ∙ ap (λ (st : Stand). let r : Session = record { over = map finished_of x.over; stand = st } in r) (made_shown x.place x.task x.current oid now) ∙ ap (makes oid) (sym same))
      (ap given_up_of after ∙ given_stays x (made_part oid x) refl refl)

  made_later : (oid : ℕ) → (own.session seat).stand ≡ world.active (world.work_of (own.session seat).stand) → DidMake own seat oid next → IsLater (own.session seat) (next.session seat)
  made_later oid stand did =
      let w = work_at own seat in
      let goes : Goes own seat next = record {
        own = works w (making oid w) stand (ap (λ (s : Session). s.over) did.own) (ap (λ (s : Session). s.stand) did.own) (one_made oid w);
        others = did.others;
        opening = did.opening;
        tail = did.tail;
        flushed = did.flushed;
        pinned = did.pinned;
        saves = λ active. refl;
        saves_of_others = λ q other. refl;
      } in
      (world_goes own next seat goes).session seat

  -- what became of a new object
  pub record Made (r : Result ℕ RowStop) : Type 0 where
    pub ok : IfOk r (λ oid. After seat (λ u t. DidMake u seat oid t) own next)
    pub err : IfErr r (λ why. After seat (NotMadeBeside seat why) own next)
    pub later : IsLater (own.session seat) (next.session seat)

  just_above : (drawn : ℕ) (c : Core) → Sound c → c.shared.objects_drawn ≡ drawn → drawn ≤ OID_LIMIT + SESSIONS + 2
  just_above drawn c sound is = let most = sound.common.counters.objects in omega (arith, most, is)

  pub made : (r : Result ℕ RowStop) → world.phase_of (own.session seat).stand ≡ phase.Active → (own.session seat).stand ≡ world.active (world.work_of (own.session seat).stand)
      → IfOk r (λ oid. MakesObject b.view seat oid e.view) → IfErr r (λ why. RefusesObject b.view seat why e.view) → Made r
  made (Ok oid) active stand did refused =
      let makes_it = did_make oid active did in
      record { ok = (own, own_passes seat tail flushed tail flushed b (omega arith) (omega arith), makes_it); err = tt; later = made_later oid stand makes_it }
  made (Err (stop.OidsFull drawn)) active stand did refused =
      let x = part_of b.view seat in
      let after : part_of e.view seat ≡ with_task task.Rest x = part_of-changed b.view seat e.view (with_task task.Rest x) x held refused.view_is in
      let shown : world.phase_of (stand_of x.place x.task x.current) ≡ phase.Active = sym (ap (λ (r : Session). world.phase_of r.stand) (own_is seat tail flushed b)) ∙ active in
      let unseen : session_of (with_task task.Rest x) ≡ session_of x = (plainly x.task x (with_task task.Rest x) (phase_plain x.place x.task x.current shown) refl refl refl refl).same in
      let now : next ≡ own = own_same seat tail flushed b e start (ap session_of after ∙ unseen) (ap given_up_of after) in
      record {
        ok = tt;
        err = (own, own_passes seat tail flushed tail flushed b (omega arith) (omega arith), (now, (refused.all_drawn, just_above drawn refused.state refused.sound refused.counted)));
        later = subst (λ (v : View). IsLater (own.session seat) (v.session seat)) (sym now) ((world_same own own refl).session seat);
      }
  made (Err _) active stand did refused = absurd refused

-- MET. In each state after the refusal all are drawn.
module _ (law : Law) (seat : ℕ) (b e : Book) (rises : (c d : Core) (q : ℕ) (k : Kind) → Sound c → after_event c q k ≡ Some d → Rises c.shared d.shared) where
  drawn_then : (k : Kind) (m : Book) (drawn : ℕ) → Booked law m seat k drawn e → ((c : Core) → word_at c (spot_of seat k) ≡ drawn → c.shared.objects_drawn ≡ drawn) → (c : Core) → IsBookOf e c → drawn ≤ c.shared.objects_drawn
  drawn_then k m drawn booked is_count c is =
      found_then law (λ (d : Core). drawn ≤ d.shared.objects_drawn) (λ d z passes at. le_trans at (rises d z passes.1.0 passes.1.1 passes.0 passes.1.2).objects_drawn) m seat k drawn e booked
      (λ d of met. let count = is_count d met in omega (arith, count)) c is

  all_drawn : (why : RowStop) → TookNoObject law seat why b e → RefusesObject b.view seat why e.view → (drawn : ℕ) → why ≡ stop.OidsFull drawn → (c : Core) → IsBookOf e c → OBJECT_LIMIT ≤ c.shared.objects_drawn
  all_drawn (stop.OidsFull n) (inl took) refused drawn same c is =
      le_trans refused.all_drawn (drawn_then (kind.LoadCounter Objects) b n (one_step law seat (kind.LoadCounter Objects, n) b e took) (λ d met. met) c is)
  all_drawn (stop.OidsFull n) (inr took) refused drawn same c is =
      le_trans refused.all_drawn (drawn_then (kind.AddCounter Objects) took.1.0 n took.1.2 (λ d met. met) c is)
  all_drawn _ took refused drawn same c is = absurd took

  pub met_make : (r : Result ℕ RowStop) (v t : View) (last : View) → ((f : View) → EndsIn law seat e last f → ((c : Core) → IsBookOf e c → OBJECT_LIMIT ≤ c.shared.objects_drawn) → AreAllMade f)
      → IfErr r (λ why. TookNoObject law seat why b e) → IfErr r (λ why. RefusesObject b.view seat why e.view) → IfErr r (λ why. (f : View) → EndsIn law seat e last f → MetBeside f seat asked_make why v t)
  met_make (Ok oid) v t last all took refused = tt
  met_make (Err (stop.OidsFull drawn)) v t last all took refused = λ f end. all f end (all_drawn (stop.OidsFull drawn) took refused drawn refl)
  met_make (Err _) v t last all took refused = absurd refused

  pub steps_of : (r : Result ℕ RowStop) → IfOk r (λ oid. TookObject law seat oid b e) → IfErr r (λ why. TookNoObject law seat why b e) → (steps : List (Kind × ℕ)) × Took law seat steps b e
  steps_of (Ok oid) took none = ((kind.AddCounter Objects, oid) ∷ (kind.LoadCounter Objects, took.0) ∷ [], took.1)
  steps_of (Err (stop.OidsFull drawn)) took (inl one) = ((kind.LoadCounter Objects, drawn) ∷ [], one)
  steps_of (Err (stop.OidsFull drawn)) took (inr two) = ((kind.AddCounter Objects, drawn) ∷ (kind.LoadCounter Objects, two.0) ∷ [], two.1)
  steps_of (Err _) took none = absurd none
