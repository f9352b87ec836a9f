-- A claim of a session of the word table that met an owner of the object: whose it is, in each world in which all may end.
use Rattle.std.proofs.Common.{◌≡◌, ◌≢◌, ℕ, zero, suc, ◌<◌, ◌≤◌, ⊎_elim, inl, inr, Bool, true, false, List, [], ◌∷◌, get_or, length, slice_get, Some, refl, sym, ap, ◌∙◌, subst, arith}
use Rattle.std.specs.Prelude.{◌⊎◌, if◌then◌else◌, nat_le, nat_lt}
use Rattle.std.proofs.lemmas.Bool.{and_parts, leb-true, lt-ltb}
use Rattle.erm_model.specs.declared.limits.TheConstants.{SESSIONS}
use Rattle.erm_model.specs.declared.row_stop.RowStop.TheVariants as stop
use Rattle.erm_model.specs.Member.{◌∈◌}
use Rattle.erm_model.specs.RowTransaction.{Law}
use Rattle.erm_model.proofs.Members.{∈-push}
use Rattle.erm_machine.specs.declared.attempt.Attempt.{Attempt}
use Rattle.erm_machine.specs.declared.event.Event.{Event}
use Rattle.erm_machine.specs.declared.event.Kind.{Kind}
use Rattle.erm_machine.specs.declared.event.Kind.TheVariants as kind
use Rattle.erm_machine.specs.declared.limits.TheConstants.{OBJECT_LIMIT}
use Rattle.erm_machine.specs.declared.part.Part.{Part}
use Rattle.erm_machine.specs.declared.place.Place.{Place}
use Rattle.erm_machine.specs.declared.place.Place.TheVariants as place
use Rattle.erm_machine.specs.declared.task.Task.{Task}
use Rattle.erm_machine.specs.declared.task.Task.TheVariants as task
use Rattle.erm_machine.specs.Core.{Core, blank, no_object, opened_object, spot_of, word_at}
use Rattle.erm_machine.specs.Facts.{all_of}
use Rattle.erm_machine.specs.Lives.{in_progress}
use Rattle.erm_machine.specs.Seat.{is_active, with_task}
use Rattle.erm_machine.specs.Sound.{Sound}
use Rattle.erm_machine.specs.declared.version.CellWord.TheVariants as word
use Rattle.erm_machine.specs.Words.{is_flusher, is_seat, is_session, number_of, owner_of}
use Rattle.erm_machine.proofs.Holders.{holds_at}
use Rattle.erm_machine.proofs.QuietKinds.{IsQuiet, quiet_kind}
use Rattle.erm_core_met.proofs.Others.{owner_is}
use Rattle.erm_core_stays.specs.Runs.{Runs}
use Rattle.erm_core_stays.specs.Staying.{IsOwnedBy}
use Rattle.erm_core_view.proofs.Parts.{current_stands}
use Rattle.erm_sound.proofs.OpenedObjects.{opened_ownerless}
use Rattle.erm_rows.specs.Took.{TookMissed, TookNotFree}
use Rattle.erm_rule.specs.declared.view.Book.{Book}
use Rattle.erm_rule.specs.declared.view.Start.{Start}
use Rattle.erm_rule.specs.Books.{IsAfter, IsBookOf}
use Rattle.erm_rule.specs.Openings.{start_core, start_rows}
use Rattle.erm_rule.specs.Steps.{Booked}
use Rattle.erm_rule.specs.Views.{part_in, part_of}
use Rattle.erm_rule.proofs.Telling.{part_of-changed}
use Rattle.erm_rule.proofs.Wents.{went_goes}
use Rattle.erm_cells.specs.Took.{IsEndStep}
use Rattle.erm_beside.specs.Ends.{WasOwned}
use Rattle.erm_session.specs.Calls.{RefusesClaim}
use Rattle.erm_session.specs.Took.{TookClaimStop}
use Rattle.erm_world.specs.World.{IsSession, View}
use Rattle.erm_own_view.specs.Own.{EndsIn}
use Rattle.erm_own_view.specs.Owners.{HasOwner, WasTried}
use Rattle.erm_own_view.proofs.Along.{found_then, of_book, state_before}
use Rattle.erm_own_view.proofs.Owners.{owner_passes}
use Rattle.erm_shared_session.proofs.Beginning.{one_step}
use Rattle.erm_shared_session.proofs.Claiming.{AtWork}
use Rattle.erm_shared_session.proofs.Standing.{Rise}
use Rattle.erm_shared_session.proofs.Tidying.{Held, held_took}

plain : (q : ℕ) → is_session q ≡ true → is_flusher q ≡ false
plain q session = grind (arith, session)

active_progress : (pl : Place) → is_active pl ≡ true → in_progress pl ≡ 1
active_progress (place.Active tail) active = refl
active_progress _ active = absurd (cc)

-- OWNERS are sessions: at the table's start there is none.
abbrev pub OwnersAreSessions : Type 0
OwnersAreSessions = (c d : Core) (es : List Event) (oid owner number : ℕ) → Sound c → Runs es c d → oid < OBJECT_LIMIT → 0 < owner → IsOwnedBy d.shared oid owner number
    → IsOwnedBy c.shared oid owner number ⊎ (is_session owner ≡ true)

abbrev BySession : ℕ → Core → Type 0
BySession oid d = (owner number : ℕ) → 0 < owner → IsOwnedBy d.shared oid owner number → is_session owner ≡ true

first_by : (start : Start) (oid : ℕ) → oid < OBJECT_LIMIT → BySession oid (start_core start)
first_by start oid known owner number some owned =
    let none : owner_of ((start_core start).shared.objects oid).entry ≡ 0 =
    ap (λ (t : Bool). owner_of (if t then opened_object (start_rows start.rows) oid else no_object).entry) (lt-ltb oid OBJECT_LIMIT known) ∙ opened_ownerless oid known
    in
    absurd (omega (arith, some, none, owned.owner_is))

by_session : OwnersAreSessions → (oid : ℕ) → oid < OBJECT_LIMIT → (b : Book) (c : Core) → IsBookOf b c → BySession oid c
by_session law oid known b c is =
    of_book (BySession oid)
    (λ first second passes so owner number some owned.
    ⊎_elim (λ (before : IsOwnedBy first.shared oid owner number). so owner number some before) (λ (session : is_session owner ≡ true). session)
    (law first second (record { seat = passes.1.0; kind = passes.1.1 } ∷ []) oid owner number passes.0 (second, passes.1.2, refl) known some owned))
    b c (first_by b.start oid known) is

-- NUMBERS. The current transaction of a seat has the greatest one.
over_within : (ts : List Attempt) (k : ℕ) (u : Attempt) → slice_get ts k ≡ Some u → (k < length ts) × (get_or ts k blank ≡ u)
over_within [] k u at = cc
over_within (t ∷ ts) zero u at = (omega arith, cc)
over_within (t ∷ ts) (suc k) u at = let rest = over_within ts k u at in (omega (arith, rest.0), rest.1)

greatest : (c : Core) (seat : ℕ) → Sound c → is_flusher seat ≡ false → in_progress (c.seats seat).place ≡ 1 → (u : Attempt) → u ∈ all_of (c.seats seat) → u.number ≤ (c.seats seat).current.number
greatest c seat sound session busy u m =
    let x = c.seats seat in
    let lives = (sound.own seat).lives in
    let number = lives.number session in
    let current = lives.current busy in
    ⊎_elim
    (λ (past : u ∈ x.over).
    let at = over_within x.over past.0 u past.1 in
    let is = lives.numbers session past.0 at.0 in
    omega (arith, is, at.0, number, current, busy, ap (λ (t : Attempt). t.number) at.1))
    (λ (now : u ≡ x.current). omega (arith, ap (λ (t : Attempt). t.number) now)) (∈-push x.over x.current u m)

-- A STEP that met the entry, and left the seat's part but for its task
module _ (law : Law) (seat oid : ℕ) (known : oid < OBJECT_LIMIT) (mine : is_session seat ≡ true) (owners : OwnersAreSessions) (rises : Rise) (k : Kind) (entry : ℕ) (m e : Book) (booked : Booked law m seat k entry e)
    (held : Held seat m) (quiet : IsQuiet k) (spot : (c : Core) → word_at c (spot_of seat k) ≡ (c.shared.objects oid).entry) (x : Part) (t : Task) (after : part_of e.view seat ≡ with_task t x) (active : is_active x.place ≡ true) where
  told_part : booked.under.told.part ≡ with_task t x
  told_part = sym (part_of-changed m.view seat e.view booked.under.told.part (part_of m.view seat) held booked.under.told.view_is) ∙ after

  before_is : booked.under.told.before.seats seat ≡ part_of m.view seat
  before_is = booked.under.told.is_view seat (part_of m.view seat) held

  number_before : (part_of m.view seat).current.number ≡ x.current.number
  number_before =
      let told = booked.under.told in
      let steady = (quiet_kind seat k entry told.before.shared (told.before.seats seat) told.part quiet told.part_is).steady in
      ap (λ (y : Part). y.current.number) (sym before_is) ∙ sym steady.number ∙ ap (λ (y : Part). y.current.number) told_part

  active_before : is_active (part_of m.view seat).place ≡ true
  active_before =
      let told = booked.under.told in
      let steady = (quiet_kind seat k entry told.before.shared (told.before.seats seat) told.part quiet told.part_is).steady in
      ap (λ (y : Part). is_active y.place) (sym before_is) ∙ ap is_active (sym steady.place) ∙ ap (λ (y : Part). is_active y.place) told_part ∙ active

  module _ (other number : ℕ) (seat_is : owner_of entry ≡ other) (number_is : number_of entry ≡ number) (some : 0 < other) where
    owned_at : (c : Core) → word_at c (spot_of seat k) ≡ entry → IsOwnedBy c.shared oid other number
    owned_at c met = let is = sym (spot c) ∙ met in record { owner_is = ap owner_of is ∙ seat_is; number_is = ap number_of is ∙ number_is }

    pub owner_session : is_session other ≡ true
    owner_session = by_session owners oid known m booked.under.told.before (state_before law m seat k entry e booked) other number some (owned_at booked.under.told.before booked.under.told.met)

    owner_there : (c : Core) → IsBookOf m c → word_at c (spot_of seat k) ≡ entry → HasOwner c seat oid other number x.current.number
    owner_there c is met =
        let owned = owned_at c met in
        let own = owner_is c oid other is.sound known some owned.owner_is in
        let holds = holds_at c other oid own.claims in
        let y = c.seats other in
        let lives = (is.sound.own other).lives in
        let busy = own.in_progress in
        let current = lives.current busy in
        let count = lives.number (plain other owner_session) in
        let here : c.seats seat ≡ part_of m.view seat = is.is_view seat (part_of m.view seat) held in
        let progress : in_progress (c.seats seat).place ≡ 1 = ap (λ (z : Part). in_progress z.place) here ∙ active_progress (part_of m.view seat).place active_before in
        record {
          attempt = y.current;
          stands = current_stands y;
          begun = omega (arith, current, count, busy);
          number_is = own.number_is ∙ owned.number_is;
          tried = inl (holds.place, holds.within, holds.oid_is);
          past = ((is.sound.own other).snapshot.past y.current (current_stands y)).past;
          later = λ u there more.
              absurd (let most = greatest c seat is.sound (plain seat mine) progress u there in omega (arith, most, more, ap (λ (z : Part). z.current.number) here, number_before));
        }

    pub owner_then : (c : Core) → IsBookOf e c → HasOwner c seat oid other number x.current.number
    owner_then =
        found_then law (λ (d : Core). HasOwner d seat oid other number x.current.number) (owner_passes rises seat oid other number x.current.number (plain other owner_session)) m seat k entry e booked owner_there

-- THE REFUSAL
abbrev pub EndsHaveOwners : Law → Type 0
EndsHaveOwners law = (seat oid other number own : ℕ) (m e : Book) (v f : View) → is_flusher other ≡ false → IsAfter m e → EndsIn law seat e v f
    → ((c : Core) → IsBookOf m c → HasOwner c seat oid other number own) → WasTried f seat oid other number own

seat_most : (q : ℕ) → is_session q ≡ true → q ≤ SESSIONS
seat_most q session = leb-true q SESSIONS (and_parts (nat_lt 0 q) (nat_le q SESSIONS) session).1

words_some : (q : ℕ) → is_seat q ≡ true → 0 < q
words_some q seat = grind (arith, seat)

module _ (law : Law) (ended : EndsHaveOwners law) (owners : OwnersAreSessions) (rises : Rise) (seat : ℕ) (b e : Book) (held : part_in b.view seat ≡ Some (part_of b.view seat)) (at : AtWork (part_of b.view seat)) (mine : is_session seat ≡ true)
    (oid : ℕ) (known : oid < OBJECT_LIMIT) where
  abbrev part : Part
  part = part_of b.view seat

  -- by the step that met the owner
  by_step : (k : Kind) (entry : ℕ) (m n : Book) → Booked law m seat k entry n → Held seat m → IsQuiet k → ((c : Core) → word_at c (spot_of seat k) ≡ (c.shared.objects oid).entry) → (other number : ℕ)
      → owner_of entry ≡ other → number_of entry ≡ number → (t : Task) → part_of n.view seat ≡ with_task t part → 0 < other → other ≢ seat → IsAfter n e → (v f : View) (place : ℕ) → EndsIn law seat e v f
      → WasOwned f seat oid other number part.current.number place
  by_step k entry m n booked there quiet spot other number seat_is number_is t after some another goes v f place end =
      let session = owner_session law seat oid known mine owners rises k entry m n booked there quiet spot part t after at.active other number seat_is number_is some in
      let was = ended seat oid other number part.current.number n e v f (plain other session) goes end
      (owner_then law seat oid known mine owners rises k entry m n booked there quiet spot part t after at.active other number seat_is number_is some) in
      record {
        session = subst (λ (w : View). IsSession w other) (sym end.shows) (some, seat_most other session);
        another = another;
        work = was.work;
        has = was.has;
        number_is = was.number_is;
        tried = was.tried;
        begun = inr was.begun;
      }

  owned : (other number : ℕ) → RefusesClaim b.view seat oid (stop.Owned other number) e.view → TookClaimStop law seat oid (stop.Owned other number) b e → (v f : View) (place : ℕ) → EndsIn law seat e v f
      → WasOwned f seat oid other number part.current.number place
  owned other number refuses took v f place end =
      let met = took.refused.1 in
      let n = took.between in
      let after = part_of-changed b.view seat n.view (with_task (task.Owned oid other) part) part held met.view_is in
      let some = words_some other met.other.has_words in
      let goes = went_goes law seat IsEndStep n e took.ends in
      ⊎_elim
      (λ (load : TookNotFree law seat oid (stop.Owned other number) b n).
      by_step (kind.LoadEntry oid) load.0 b n (one_step law seat (kind.LoadEntry oid, load.0) b n load.2) held tt (λ c. refl) other number load.1.seat_is load.1.number_is (task.Owned oid other) after some
      met.other.another goes v f place end)
      (λ (missed : TookMissed law seat oid (stop.Owned other number) b n).
      let loads = (kind.LoadCell missed.free.head.version word.Stamp, missed.free.stamp) ∷ (kind.LoadEntry oid, missed.entry) ∷ [] in
      by_step (kind.Claim oid missed.entry missed.number) missed.other.0 missed.at n
      (one_step law seat (kind.Claim oid missed.entry missed.number, missed.other.0) missed.at n missed.other.3) (held_took law seat loads b missed.at held missed.free.head.took) tt (λ c. refl) other number
      missed.other.2.seat_is missed.other.2.number_is (task.Owned oid other) after some met.other.another goes v f place end)
      took.refused.0.1

  -- met, by the number of the own transaction
  pub owned_met : (own : ℕ) → own ≡ part.current.number → (other number : ℕ) → RefusesClaim b.view seat oid (stop.Owned other number) e.view → TookClaimStop law seat oid (stop.Owned other number) b e
      → (v f : View) (place : ℕ) → EndsIn law seat e v f → WasOwned f seat oid other number own place
  owned_met own same other number refuses took v f place end =
      subst (λ (n : ℕ). WasOwned f seat oid other number n place) (sym same) (owned other number refuses took v f place end)
