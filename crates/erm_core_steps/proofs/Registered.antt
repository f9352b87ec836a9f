-- A version that was found is registered.
use Rattle.std.proofs.Common.{◌≡◌, ℕ, ◌-◌, ◌<◌, Bool, true, false, ◌||◌, eqb, List, [], ◌∷◌, ◌++◌, length, map, Option, Some, None, get_or, refl, sym, ap, ◌∙◌, subst, arith, length-append}
use Rattle.std.specs.List.{list_any}
use Rattle.std.specs.Prelude.{if◌then◌else◌}
use Rattle.std.proofs.lemmas.Bool.{and_from, lt-ltb, not_from_false}
use Rattle.std.proofs.lemmas.List.{length-map}
use Rattle.std.proofs.Math.Seq.{get_or-append_seam}
use Rattle.erm_model.specs.declared.history.VersionRead.{VersionRead}
use Rattle.erm_machine.specs.declared.attempt.Read.{Read}
use Rattle.erm_machine.specs.declared.event.Kind.TheVariants as kind
use Rattle.erm_machine.specs.declared.limits.TheConstants.{OBJECT_LIMIT, READ_LIMIT}
use Rattle.erm_machine.specs.declared.part.Part.{Part}
use Rattle.erm_machine.specs.declared.task.Task.{Task}
use Rattle.erm_machine.specs.declared.task.Task.TheVariants as task
use Rattle.erm_machine.specs.declared.version.VersionAt.{VersionAt}
use Rattle.erm_machine.specs.Chains.{IsNamed, NamedInHand}
use Rattle.erm_machine.specs.Core.{Core, version_at}
use Rattle.erm_machine.specs.Decided.{read_of}
use Rattle.erm_machine.specs.Reading.{has_read, set_reader}
use Rattle.erm_machine.specs.Seat.{is_active, may_start, no_read, read_at, with_pred, is_snapshot}
use Rattle.erm_machine.specs.Sound.{Sound}
use Rattle.erm_machine.specs.Step.{after_event}
use Rattle.erm_world.specs.Calls.{IsClearOf, Works}
use Rattle.erm_world.specs.World.{IsSession, Session, View, Work}
use Rattle.erm_world.specs.World as world
use Rattle.erm_world.specs.Works.{reading, row_read}
use Rattle.erm_core_calls.proofs.Moving.{met, same_self, stepped, taken}
use Rattle.erm_core_view.specs.Views.{IsQuiet, finished_of, view_of, work_of}
use Rattle.erm_core_view.proofs.Moved.{one_becomes}
use Rattle.erm_core_view.proofs.Shown.{registers, work_active}
use Rattle.erm_core_view.proofs.Snapshots.{plain_new}
use Rattle.erm_core_steps.specs.Reads.{DidRegister, GoesOn, HasRegistered, IsAtWork, finds, in_hand, rates, read_step, stage_of}
use Rattle.erm_core_steps.specs.Steps.{IsTaken}
use Rattle.erm_core_steps.proofs.Aborts.{session_plain}
use Rattle.erm_core_steps.proofs.Early.{found_clear, quiet_since}
use Rattle.erm_core_steps.proofs.Unseen.{others_stay}
use Rattle.erm_core_turns.proofs.Turns.{part_stepped}

-- a walk that is done has found a version
pub record IsFound (oid : ℕ) (t : Task) : Type 0 where
  pub version : VersionAt
  pub stamp : ℕ
  pub head : Option ℕ
  pub is : t ≡ task.Found version stamp head
  pub oid_is : version.oid ≡ oid

pub found_of : (oid : ℕ) (t : Task) → stage_of t ≡ finds oid → read_step t ≡ None → IsFound oid t
found_of oid (task.Found version stamp head) stage done = record { version = version; stamp = stamp; head = head; is = refl; oid_is = cc }
found_of oid (task.Walks version head) stage done = absurd (cc)
found_of oid (task.Passed version) stage done = absurd (cc)
found_of oid _ stage done = absurd (cc)

pub finds_starts : (oid : ℕ) (t : Task) → stage_of t ≡ finds oid → may_start t ≡ true
finds_starts oid (task.Walks version head) stage = refl
finds_starts oid (task.Passed version) stage = refl
finds_starts oid (task.Found version stamp head) stage = refl
finds_starts oid _ stage = absurd (cc)

pub rates_starts : (t : Task) → stage_of t ≡ rates → may_start t ≡ true
rates_starts (task.Registered version) stage = refl
rates_starts (task.Overtaken version overwriter) stage = refl
rates_starts (task.Rated version) stage = refl
rates_starts _ stage = absurd (cc)

-- the part after
abbrev registered : VersionAt → ℕ → List ℕ → Part → Part
registered v stamp row x = record x {
  task = task.Registered v;
  current = record (with_pred stamp x.current) { reads = x.current.reads ++ record { version = v; stamp = stamp; row = row } ∷ [] };
}

module _ (c : Core) (seat oid : ℕ) (sound : Sound c) (at : IsAtWork seat c) (f : IsFound oid (c.seats seat).task)
    (few : length (c.seats seat).current.reads < READ_LIMIT) (unread : has_read oid (c.seats seat).current ≡ false) where
  abbrev row_found : List ℕ
  row_found = (version_at (c.shared.objects f.version.oid) f.version.place).words.row

  known : f.version.oid < OBJECT_LIMIT
  known =
      let named : NamedInHand c.shared (task.Found f.version f.stamp f.head) = subst (NamedInHand c.shared) f.is (sound.own seat).chains.named in
      let is : IsNamed c.shared f.version = named in
      is.object

  register_steps : after_event c seat (kind.SetReader f.version) ≡ Some (stepped c seat (kind.SetReader f.version) (registered f.version f.stamp row_found (c.seats seat)))
  register_steps =
      taken c seat (kind.SetReader f.version) (registered f.version f.stamp row_found (c.seats seat)) tt (lt-ltb f.version.oid OBJECT_LIMIT known)
      (met _ _ _ (ap (set_reader seat f.version (c.shared.objects f.version.oid) (c.seats seat)) f.is)
      (and_from _ _ (and_from _ _ (and_from _ _ (and_from _ _ at.active at.session) (same_self f.version)) (lt-ltb (length (c.seats seat).current.reads) READ_LIMIT few))
      (not_from_false _ (subst (λ n. has_read n (c.seats seat).current ≡ false) (sym f.oid_is) unread))))

  pub register_taken : (v : VersionAt) → v ≡ in_hand (c.seats seat).task → IsTaken c seat (kind.SetReader v)
  register_taken v is = subst (λ (u : VersionAt). IsTaken c seat (kind.SetReader u)) (sym (is ∙ ap in_hand f.is)) (_, register_steps)

  -- the row that the last read has
  last_row : (reads : List Read) (r : Read) → (get_or (reads ++ r ∷ []) (length (reads ++ r ∷ []) - 1) no_read).row ≡ r.row
  last_row reads r =
      let more = length-append reads (r ∷ []) in
      let last : length (reads ++ r ∷ []) - 1 ≡ length reads = omega (arith, more) in
      ap (λ (n : ℕ). (get_or (reads ++ r ∷ []) n no_read).row) last ∙ ap (λ (q : Read). q.row) (get_or-append_seam reads r [] no_read)

  pub register_shows : (sessions : ℕ) (d : Core) (v : VersionAt) (row : List ℕ) → v ≡ in_hand (c.seats seat).task → after_event c seat (kind.SetReader v) ≡ Some d
      → row ≡ (read_at (d.seats seat).current (length (d.seats seat).current.reads - 1)).row → HasRegistered sessions seat oid row c d
  register_shows sessions d v row in_hands e newest =
      let after : after_event c seat (kind.SetReader f.version) ≡ Some d =
      subst (λ (u : VersionAt). after_event c seat (kind.SetReader u) ≡ Some d) (in_hands ∙ ap in_hand f.is) e in
      let x = c.seats seat in
      let is : d.seats seat ≡ registered f.version f.stamp row_found x =
      part_stepped c d seat (kind.SetReader f.version) (registered f.version f.stamp row_found x) register_steps after in
      let row_is : row_found ≡ row =
      sym (last_row x.current.reads (record { version = f.version; stamp = f.stamp; row = row_found }))
      ∙ sym (ap (λ (y : Part). (read_at y.current (length y.current.reads - 1)).row) is) ∙ sym newest in
      let shown = registers seat c d f.version f.version f.stamp f.head at.active f.is after in
      let made : ℕ → List ℕ → Work → Session = λ n r w. record { over = map finished_of x.over; stand = world.active (reading (record { oid = n; stamp = f.stamp; row = r }) w) } in
      let work : world.work_at (view_of sessions c) seat ≡ work_of x.current = work_active x.place x.task x.current at.active (plain_new x.task x.current at.plain) in
      record {
        others = others_stay c d seat (kind.SetReader f.version) tt after;
        stamp = f.stamp;
        shows =
            one_becomes sessions seat c d (kind.SetReader f.version) (made oid row (world.work_at (view_of sessions c) seat)) (session_plain seat at.session) tt tt refl refl after
            (shown ∙ ap (λ n. made n row_found (work_of x.current)) f.oid_is ∙ ap (λ r. made oid r (work_of x.current)) row_is
            ∙ ap (λ (w : Work). made oid row w) (sym work));
        at = record { session = at.session; active = ap (λ (y : Part). is_active y.place) is ∙ at.active; plain = ap (λ (y : Part). is_snapshot y.task) is };
        rated_next = ap (λ (y : Part). stage_of y.task) is;
      }

-- one that has read no row of an object has read no version of it
pub unread_none : (reads : List Read) (oid : ℕ) → row_read (map read_of reads) oid ≡ None → list_any (λ (r : Read). eqb r.version.oid oid) reads ≡ false
unread_none [] oid none = refl
unread_none (r ∷ rs) oid none = unread_first (eqb r.version.oid oid) r.row (row_read (map read_of rs) oid) _ none (λ later. unread_none rs oid later)
  where
    unread_first : (b : Bool) (row : List ℕ) (later : Option (List ℕ)) (c : Bool) → (if b then Some row else later) ≡ None → (later ≡ None → c ≡ false) → (b || c) ≡ false
    unread_first true row later c none f = absurd (cc)
    unread_first false row later c none f = f none

-- what the view shows of a seat that went on
work_stays : (sessions seat : ℕ) (b c : Core) → GoesOn sessions seat b c → work_of (c.seats seat).current ≡ world.work_at (view_of sessions b) seat
work_stays sessions seat b c goes =
    sym (work_active (c.seats seat).place (c.seats seat).task (c.seats seat).current goes.at.active (plain_new (c.seats seat).task (c.seats seat).current goes.at.plain)) ∙ ap (λ (v : View). world.work_at v seat) goes.unseen.view

pub reads_few : (sessions seat : ℕ) (b c : Core) → GoesOn sessions seat b c → length (world.work_at (view_of sessions b) seat).reads < READ_LIMIT
    → length (c.seats seat).current.reads < READ_LIMIT
reads_few sessions seat b c goes few =
    let same : length (map read_of (c.seats seat).current.reads) ≡ length (world.work_at (view_of sessions b) seat).reads = ap (λ (w : Work). length w.reads) (work_stays sessions seat b c goes) in
    omega (arith, same, few, length-map (c.seats seat).current.reads read_of)

pub reads_none : (sessions seat oid : ℕ) (b c : Core) → GoesOn sessions seat b c → row_read (world.work_at (view_of sessions b) seat).reads oid ≡ None
    → has_read oid (c.seats seat).current ≡ false
reads_none sessions seat oid b c goes none =
    unread_none (c.seats seat).current.reads oid (ap (λ (w : Work). row_read w.reads oid) (work_stays sessions seat b c goes) ∙ none)

module _ (sessions seat oid : ℕ) (row : List ℕ) (b c d e : Core) (goes : GoesOn sessions seat b c) (read : HasRegistered sessions seat oid row c d)
    (rated : GoesOn sessions seat d e) where
  -- the whole read
  read_shows : Works (view_of sessions b) seat (reading (record { oid = oid; stamp = read.stamp; row = row }) (world.work_at (view_of sessions b) seat)) (view_of sessions e)
  read_shows =
      let r : VersionRead = record { oid = oid; stamp = read.stamp; row = row } in
      subst (λ (v : View). Works v seat (reading r (world.work_at v seat)) (view_of sessions e)) goes.unseen.view
      (subst (λ (t : View). Works (view_of sessions c) seat (reading r (world.work_at (view_of sessions c) seat)) t) (sym rated.unseen.view) read.shows)

  pub did_register : Sound b → IsQuiet sessions b → Sound c → stage_of (c.seats seat).task ≡ finds oid → read_step (c.seats seat).task ≡ None
      → DidRegister (view_of sessions b) seat oid row (view_of sessions e)
  did_register sound quiet found stage done =
      let f = found_of oid (c.seats seat).task stage done in
      let begins : (c.seats seat).current.begin ≡ (world.work_at (view_of sessions b) seat).begin = ap (λ (w : Work). w.begin) (work_stays sessions seat b c goes) in
      record {
        stamp = read.stamp;
        shows = read_shows;
        clear =
            subst (λ n. IsClearOf (view_of sessions b) seat n (world.work_at (view_of sessions b) seat).begin) f.oid_is
            (found_clear sessions seat b c f.version f.stamp f.head sound quiet found goes f.is begins);
      }

  pub quiet_registered : IsQuiet sessions b → IsSession (view_of sessions b) seat → Sound e → stage_of (e.seats seat).task ≡ stage_of (d.seats seat).task → IsQuiet sessions e
  quiet_registered quiet session sound stage =
      let shows = read_shows in
      quiet_since sessions seat b e quiet session sound (λ q other. rated.unseen.others q other ∙ read.others q other ∙ goes.unseen.others q other) shows.opening shows.tail
      shows.flushed rated.at.active (rates_starts (e.seats seat).task (stage ∙ read.rated_next))
