-- What a registration, a claim and a new object show of the transaction in progress.
use Rattle.std.proofs.Common.{◌≡◌, ℕ, ◌<◌, Bool, true, false, ◌&&◌, eqb, ltb, cond, List, ◌++◌, [], ◌∷◌, Option, Some, map, refl, ap, ◌∙◌, subst, eqb-true}
use Rattle.std.proofs.lemmas.Bool.{and_parts, cond-false, cond-true, eq-eqb, lt-ltb}
use Rattle.std.proofs.lemmas.List.{map-append}
use Rattle.erm_model.specs.declared.history.VersionRead.{VersionRead}
use Rattle.erm_model.specs.declared.history.VersionWritten.{VersionWritten}
use Rattle.erm_machine.specs.declared.attempt.Attempt.{Attempt}
use Rattle.erm_machine.specs.declared.attempt.Claim.{Claim}
use Rattle.erm_machine.specs.declared.attempt.Read.{Read}
use Rattle.erm_machine.specs.declared.event.Counter.TheVariants.{Objects}
use Rattle.erm_machine.specs.declared.event.Kind.TheVariants as kind
use Rattle.erm_machine.specs.declared.limits.TheConstants.{OBJECT_LIMIT}
use Rattle.erm_machine.specs.declared.part.Part.{Part}
use Rattle.erm_machine.specs.declared.place.Place.{Place}
use Rattle.erm_machine.specs.declared.place.Place.TheVariants.{Active}
use Rattle.erm_machine.specs.declared.task.Task.{Task}
use Rattle.erm_machine.specs.declared.task.Task.TheVariants as task
use Rattle.erm_machine.specs.declared.version.VersionAt.{VersionAt}
use Rattle.erm_machine.specs.Core.{Core, Object, version_at}
use Rattle.erm_machine.specs.Decided.{read_of, written_of}
use Rattle.erm_machine.specs.Reading.{add_counter, claim, lost, new_claim, set_reader}
use Rattle.erm_machine.specs.Seat.{is_active, is_snapshot}
use Rattle.erm_machine.specs.Step.{after_event}
use Rattle.erm_machine.proofs.Guards.{when_then}
use Rattle.erm_machine.proofs.QuietKinds.{moves}
use Rattle.erm_world.specs.Works.{claiming, making, reading}
use Rattle.erm_world.specs.World.{Session, Stand, Work}
use Rattle.erm_world.specs.World as world
use Rattle.erm_core_view.specs.Views.{finished_of, session_of, stand_of, work_of}
use Rattle.erm_core_view.proofs.Moved.{own_after}
use Rattle.erm_core_view.proofs.Snapshots.{IsNewSnapshot, shown_work}

-- a seat's session with this transaction in progress
abbrev pub working : Part → Work → Session
working x w = record { over = map finished_of x.over; stand = world.active w }

-- the seat's transaction in progress has become this one
pub record Shows (x : Part) (w : Work) (y : Part) : Type 0 where
  pub shows : session_of y ≡ working x w

pub stands_active : (pl : Place) (u : Task) (t : Attempt) → is_active pl ≡ true → is_snapshot u ≡ false → stand_of pl u t ≡ world.active (work_of t)
stands_active (Active tail) u t e plain = cond-false (is_snapshot u) _ (world.active (work_of t)) plain
stands_active _ u t e plain = absurd (cc)

-- or a snapshot, which has done nothing
pub work_active : (pl : Place) (u : Task) (t : Attempt) → is_active pl ≡ true → IsNewSnapshot u t → world.work_of (stand_of pl u t) ≡ work_of t
work_active (Active tail) u t e new = shown_work u t new
work_active _ u t e new = absurd (cc)

pub shows_work : (x : Part) (w : Work) (y : Part) → y.over ≡ x.over → is_active y.place ≡ true → is_snapshot y.task ≡ false → work_of y.current ≡ w → Shows x w y
shows_work x w y over active plain work =
    let stand : stand_of y.place y.task y.current ≡ world.active w = stands_active y.place y.task y.current active plain ∙ ap (λ (u : Work). world.active u) work in
    let finished : map finished_of y.over ≡ map finished_of x.over = ap (λ (ts : List Attempt). map finished_of ts) over in
    record { shows = cc }

first : (a b : Bool) → (a && b) ≡ true → a ≡ true
first a b h = (and_parts a b h).0

-- the version in hand is read
reader_shows : (seat : ℕ) (v : VersionAt) (o : Object) (x : Part) (at : VersionAt) (stamp : ℕ) (head : Option ℕ) (y : Part) → is_active x.place ≡ true
    → set_reader seat v o x (task.Found at stamp head) ≡ Some y
    → Shows x (reading (record { oid = v.oid; stamp = stamp; row = (version_at o v.place).words.row }) (work_of x.current)) y
reader_shows seat v o x at stamp head y active e =
    let read : Read = record { version = v; stamp = stamp; row = (version_at o v.place).words.row } in
    when_then (Shows x (reading (read_of read) (work_of x.current))) _ _ y e
    (λ _. shows_work x _ _ refl active refl
    (ap (λ (rs : List VersionRead). record (work_of x.current) { reads = rs }) (map-append read_of x.current.reads (read ∷ []))))

-- its object is claimed, where the entry is still the one seen
claim_shows : (seat oid number entry found : ℕ) (o : Object) (x : Part) (at : VersionAt) (stamp : ℕ) (y : Part) → is_active x.place ≡ true → found ≡ entry
    → claim seat oid entry number found o x (task.Found at stamp (Some entry)) ≡ Some y
    → Shows x (claiming (written_of (new_claim at stamp (version_at o at.place).words.row)) (work_of x.current)) y
claim_shows seat oid number entry found o x at stamp y active same e =
    let new : Claim = new_claim at stamp (version_at o at.place).words.row in
    let grown : (cond (eqb found entry) (x.current.writes ++ new ∷ []) x.current.writes) ≡ x.current.writes ++ new ∷ [] =
    cond-true (eqb found entry) (x.current.writes ++ new ∷ []) x.current.writes (eq-eqb found entry same) in
    when_then (Shows x (claiming (written_of new) (work_of x.current))) _ _ y e
    (λ _. shows_work x _ _ refl active
    (ap is_snapshot (cond-true (eqb found entry) (task.Claimed at) (lost seat oid found at o) (eq-eqb found entry same)))
    (ap (λ (ws : List VersionWritten). record (work_of x.current) { claims = ws })
    (ap (λ (ws : List Claim). map written_of ws) grown ∙ map-append written_of x.current.writes (new ∷ []))))

-- an object is claimed under its own number
claims_in_hand : (seat oid number entry found : ℕ) (o : Object) (x : Part) (at : VersionAt) (stamp : ℕ) (y : Part)
    → claim seat oid entry number found o x (task.Found at stamp (Some entry)) ≡ Some y → oid ≡ at.oid
claims_in_hand seat oid number entry found o x at stamp y e =
    when_then (λ _. oid ≡ at.oid) _ _ y e (λ g. eqb-true oid at.oid (and_parts _ _ (first _ _ (first _ _ (first _ _ g)))).1)

pub registers : (seat : ℕ) (c d : Core) (version at : VersionAt) (stamp : ℕ) (head : Option ℕ) → is_active (c.seats seat).place ≡ true
    → (c.seats seat).task ≡ task.Found at stamp head → after_event c seat (kind.SetReader version) ≡ Some d
    → session_of (d.seats seat) ≡ working (c.seats seat) (reading (record {
      oid = version.oid;
      stamp = stamp;
      row = (version_at (c.shared.objects version.oid) version.place).words.row;
    }) (work_of (c.seats seat).current))
registers seat c d version at stamp head active in_hand e =
    let m = moves c seat (kind.SetReader version) d tt e in
    let o = c.shared.objects version.oid in
    let after = subst (λ (t : Task). set_reader seat version o (c.seats seat) t ≡ Some m.part) in_hand m.after in
    ap session_of (own_after c seat (kind.SetReader version) d m) ∙ (reader_shows seat version o (c.seats seat) at stamp head m.part active after).shows

pub claims : (seat oid number : ℕ) (c d : Core) (at : VersionAt) (stamp entry : ℕ) → is_active (c.seats seat).place ≡ true
    → (c.seats seat).task ≡ task.Found at stamp (Some entry) → (c.shared.objects oid).entry ≡ entry → after_event c seat (kind.Claim oid entry number) ≡ Some d
    → session_of (d.seats seat) ≡ working (c.seats seat) (claiming (written_of (new_claim at stamp (version_at (c.shared.objects at.oid) at.place).words.row))
    (work_of (c.seats seat).current))
claims seat oid number c d at stamp entry active in_hand free e =
    let m = moves c seat (kind.Claim oid entry number) d tt e in
    let o = c.shared.objects oid in
    let x = c.seats seat in
    let after = subst (λ (t : Task). claim seat oid entry number o.entry o x t ≡ Some m.part) in_hand m.after in
    let named = claims_in_hand seat oid number entry o.entry o x at stamp m.part after in
    ap session_of (own_after c seat (kind.Claim oid entry number) d m) ∙ (claim_shows seat oid number entry o.entry o x at stamp m.part active free after).shows
    ∙ ap (λ (n : ℕ). working x (claiming (written_of (new_claim at stamp (version_at (c.shared.objects n) at.place).words.row)) (work_of x.current))) named

-- an object below the limit is made
counter_shows : (cells seat found : ℕ) (x : Part) (t : Task) (y : Part) → is_active x.place ≡ true → found < OBJECT_LIMIT → add_counter cells seat Objects found x t ≡ Some y
    → Shows x (making found (work_of x.current)) y
counter_shows cells seat found x task.Numbers y active low e =
    when_then (Shows x (making found (work_of x.current))) _ _ y e
    (λ _. shows_work x _ _ refl active refl
    (ap (λ (ms : List ℕ). record (work_of x.current) { made = ms })
    (cond-true (ltb found OBJECT_LIMIT) (x.current.made ++ found ∷ []) x.current.made (lt-ltb found OBJECT_LIMIT low))))
counter_shows cells seat found x _ y active low e = absurd (cc)

pub makes : (seat : ℕ) (c d : Core) → is_active (c.seats seat).place ≡ true → c.shared.objects_drawn < OBJECT_LIMIT → after_event c seat (kind.AddCounter Objects) ≡ Some d
    → session_of (d.seats seat) ≡ working (c.seats seat) (making c.shared.objects_drawn (work_of (c.seats seat).current))
makes seat c d active low e =
    let m = moves c seat (kind.AddCounter Objects) d tt e in
    ap session_of (own_after c seat (kind.AddCounter Objects) d m)
    ∙ (counter_shows c.shared.cell_limit seat c.shared.objects_drawn (c.seats seat) (c.seats seat).task m.part active low m.after).shows
