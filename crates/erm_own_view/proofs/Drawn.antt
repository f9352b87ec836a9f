-- Where all cells are drawn there are as many claims as there are cells more than objects: each claim of a session draws one at most.
use Rattle.std.proofs.Common.{◌≡◌, ℕ, zero, suc, ◌+◌, ◌<◌, ◌≤◌, ◌⊎◌, ⊎_elim, inl, inr, Bool, true, false, List, [], ◌∷◌, length, map, count_by, sum_by, Option, Some, None, refl, sym, ap, ◌∙◌, subst, arith, le_trans}
use Rattle.std.specs.Prelude.{if◌then◌else◌, nat_le, nat_lt}
use Rattle.std.proofs.lemmas.Bool.{and_parts, cases_Bool, cases_eq, cases_lt, leb-true, lt-ltb, ltb-true}
use Rattle.std.proofs.lemmas.List.{length-map}
use Rattle.std.proofs.lemmas.List.Sums.{sum_by-append, sum_by-cons}
use Rattle.std.proofs.lemmas.Option.{same_Some}
use Rattle.erm_model.specs.declared.limits.TheConstants.{OID_LIMIT, SESSIONS, TABLE_CELLS}
use Rattle.erm_model.specs.RowTransaction.{Law}
use Rattle.erm_machine.specs.declared.attempt.Attempt.{Attempt}
use Rattle.erm_machine.specs.declared.event.Counter.TheVariants.{Cells, Objects}
use Rattle.erm_machine.specs.declared.event.Event.{Event}
use Rattle.erm_machine.specs.declared.event.Kind.{Kind}
use Rattle.erm_machine.specs.declared.event.Kind.TheVariants as kind
use Rattle.erm_machine.specs.declared.limits.TheConstants.{OBJECT_LIMIT}
use Rattle.erm_machine.specs.declared.part.Part.{Part}
use Rattle.erm_machine.specs.declared.place.Place.{Place}
use Rattle.erm_machine.specs.declared.place.Place.TheVariants.{Active, Announced, Begun, Decided, Drawn, Idle, Leaving, Sealed, Sealing, Vacant}
use Rattle.erm_machine.specs.declared.task.Task.{Task}
use Rattle.erm_machine.specs.declared.task.Task.TheVariants as task
use Rattle.erm_machine.specs.Cells.{WantsCell}
use Rattle.erm_machine.specs.Claims.{claims_over}
use Rattle.erm_machine.specs.Core.{Core, blank, claim_at, no_object, opened_object, spot_of, word_at}
use Rattle.erm_machine.specs.Decided.{written_of}
use Rattle.erm_machine.specs.Facts.{IsCurrent, over_of}
use Rattle.erm_machine.specs.Life.{join, split}
use Rattle.erm_machine.specs.Reading.{add_counter}
use Rattle.erm_machine.specs.Seat.{is_active, last_claim}
use Rattle.erm_machine.specs.Sound.{Sound}
use Rattle.erm_machine.specs.Step.{after_event, with_part}
use Rattle.erm_machine.specs.Words.{is_seat, is_session, number_of, owner_of, put}
use Rattle.erm_machine.proofs.Frames.{put_other, put_same}
use Rattle.erm_machine.proofs.Guards.{when_then}
use Rattle.erm_machine.proofs.QuietKinds.{moves}
use Rattle.erm_core_cells.proofs.NumbersKept.{LeavesCounters, cells_raised, same_drawn}
use Rattle.erm_core_shown.specs.Shown.{ended_as, over_now, shown_of, shown_session, shown_stand}
use Rattle.erm_core_stays.specs.Runs.{Runs}
use Rattle.erm_core_stays.specs.Staying.{IsOwnedBy, Rises}
use Rattle.erm_core_steps.proofs.Places.{active_at}
use Rattle.erm_core_view.proofs.Moved.{meets_one}
use Rattle.erm_core_view.proofs.Snapshots.{IsNewSnapshot, shown_work, snapshots_new}
use Rattle.erm_core_view.specs.Steps.{MeetsOne}
use Rattle.erm_core_view.specs.Views.{fate_of, finished_of, work_of}
use Rattle.erm_rule.specs.declared.view.Book.{Book}
use Rattle.erm_rule.specs.declared.view.Start.{Start}
use Rattle.erm_rule.specs.Books.{IsBookOf, Passes}
use Rattle.erm_rule.specs.Openings.{start_core, start_rows}
use Rattle.erm_sound.proofs.OpenedObjects.{opened_ownerless}
use Rattle.erm_table_world.specs.Covered.{firm_in, is_firm}
use Rattle.erm_table_world.proofs.Firm.{firm_few, firm_kept, firm_more}
use Rattle.erm_world.specs.Calls.{AreAllDrawn}
use Rattle.erm_world.specs.World.{Finished, View, claims_by_all, claims_in, claims_upto}
use Rattle.erm_world.specs.World as world
use Rattle.erm_own_view.specs.Own.{EndsIn}
use Rattle.erm_own_view.proofs.Along.{of_book, of_later}

-- THE SESSIONS' claims that are there to stay, up to a seat
unfoldable pub firm_upto : ℕ → (ℕ → Part) → ℕ
firm_upto zero seats = 0
firm_upto (suc n) seats = firm_upto n seats + firm_in (seats (suc n))

upto_same : (n : ℕ) (f g : ℕ → Part) → ((q : ℕ) → 0 < q → q ≤ n → firm_in (g q) ≡ firm_in (f q)) → firm_upto n g ≡ firm_upto n f
unfolding firm_upto
upto_same zero f g same = refl
upto_same (suc n) f g same =
    let before = upto_same n f g (λ q some low. same q some (omega (arith, low))) in
    let last = same (suc n) (omega arith) (omega arith) in
    omega (arith, before, last)

upto_put : (n : ℕ) (f : ℕ → Part) (p : ℕ) (y : Part) → 0 < p → p ≤ n → firm_upto n (put f p y) + firm_in (f p) ≡ firm_upto n f + firm_in y
unfolding firm_upto
upto_put zero f p y some low = absurd (omega (arith, some, low))
upto_put (suc n) f p y some low =
    ⊎_elim
    (λ (here : p ≡ suc n).
    let before = upto_same n f (put f p y) (λ q above within. ap firm_in (put_other f p y q (λ same. omega (arith, same, within, here)))) in
    let now : firm_in (put f p y (suc n)) ≡ firm_in y = ap firm_in (subst (λ (m : ℕ). put f p y m ≡ y) here (put_same f p y)) in
    let old : firm_in (f (suc n)) ≡ firm_in (f p) = ap (λ (m : ℕ). firm_in (f m)) (sym here) in
    omega (arith, before, now, old))
    (λ (ne : p ≡ suc n → ⊥).
    let before = upto_put n f p y some (omega (arith, low, ne)) in
    let last : firm_in (put f p y (suc n)) ≡ firm_in (f (suc n)) = ap firm_in (put_other f p y (suc n) (λ same. ne (sym same))) in
    omega (arith, before, last))
    (cases_eq p (suc n))

session_is : (q : ℕ) → 0 < q → q ≤ SESSIONS → is_session q ≡ true
session_is q some low = grind (arith, some, low)

-- THERE ARE as many as cells were drawn from the counter, or can be; and owners of objects are sessions.
pub record Covers (c : Core) : Type 0 where
  pub owners : (oid owner number : ℕ) → oid < OBJECT_LIMIT → 0 < owner → IsOwnedBy c.shared oid owner number → is_session owner ≡ true
  pub covered : (c.shared.cells_drawn ≤ OBJECT_LIMIT + firm_upto SESSIONS c.seats) ⊎ (c.shared.cell_limit ≤ OBJECT_LIMIT + firm_upto SESSIONS c.seats)

abbrev IsCovered : Core → Type 0
IsCovered c = (c.shared.cells_drawn ≤ OBJECT_LIMIT + firm_upto SESSIONS c.seats) ⊎ (c.shared.cell_limit ≤ OBJECT_LIMIT + firm_upto SESSIONS c.seats)

-- where they grow no fewer, and the counter stays
grows : (c d : Core) → firm_upto SESSIONS c.seats ≤ firm_upto SESSIONS d.seats → d.shared.cells_drawn ≡ c.shared.cells_drawn → d.shared.cell_limit ≡ c.shared.cell_limit → IsCovered c → IsCovered d
grows c d more drawn limit covered =
    ⊎_elim (λ (low : c.shared.cells_drawn ≤ OBJECT_LIMIT + firm_upto SESSIONS c.seats). inl (omega (arith, low, more, drawn)))
    (λ (low : c.shared.cell_limit ≤ OBJECT_LIMIT + firm_upto SESSIONS c.seats). inr (omega (arith, low, more, limit))) covered

module _ (c d : Core) (p : ℕ) (sound : Sound c) (covers : Covers c) where
  -- a seat's change: a session's by what it adds, and no other's
  put_more : (y : Part) → (is_session p ≡ true → firm_in (c.seats p) ≤ firm_in y) → firm_upto SESSIONS c.seats ≤ firm_upto SESSIONS (put c.seats p y)
  put_more y less =
      ⊎_elim
      (λ (session : is_session p ≡ true).
      let both = and_parts (nat_lt 0 p) (nat_le p SESSIONS) session in
      let sum = upto_put SESSIONS c.seats p y (ltb-true 0 p both.0) (leb-true p SESSIONS both.1) in
      let more = less session in
      omega (arith, sum, more))
      (λ (other : is_session p ≡ false).
      let same = upto_same SESSIONS c.seats (put c.seats p y) (λ q some low. ap firm_in (put_other c.seats p y q (λ (at : q ≡ p). let is = session_is q some low in absurd (let no : is_session q ≡ false = ap is_session at ∙ other in cc)))) in
      omega (arith, same))
      (cases_Bool (is_session p))

  step_more : (k : Kind) → MeetsOne k → after_event c p k ≡ Some d → firm_upto SESSIONS c.seats ≤ firm_upto SESSIONS d.seats
  step_more k one e =
      let m = moves c p k d (meets_one k one) e in
      let more = put_more m.part (λ session. firm_kept c sound p k (word_at c (spot_of p k)) m.part session one m.after) in
      let is : firm_upto SESSIONS d.seats ≡ firm_upto SESSIONS (put c.seats p m.part) = ap (λ (z : Core). firm_upto SESSIONS z.seats) m.is in
      omega (arith, more, is)

  other_covered : (k : Kind) → LeavesCounters k → MeetsOne k → after_event c p k ≡ Some d → IsCovered d
  other_covered k counters one e =
      let m = moves c p k d (meets_one k one) e in
      let same = same_drawn p k (word_at c (spot_of p k)) (c.seats p) c.shared counters in
      grows c d (step_more k one e) (ap (λ (z : Core). z.shared.cells_drawn) m.is ∙ same.1) (ap (λ (z : Core). z.shared.cell_limit) m.is ∙ same.2) covers.covered

  object_covered : after_event c p (kind.AddCounter Objects) ≡ Some d → IsCovered d
  object_covered e =
      let m = moves c p (kind.AddCounter Objects) d tt e in
      grows c d (step_more (kind.AddCounter Objects) tt e) (ap (λ (z : Core). z.shared.cells_drawn) m.is) (ap (λ (z : Core). z.shared.cell_limit) m.is) covers.covered

  pool_needed : (found : ℕ) (x y : Part) (t : Task) → add_counter c.shared.cell_limit p Cells found x t ≡ Some y → t ≡ task.Pool
  pool_needed found x y task.Pool e = refl
  pool_needed found x y _ e = absurd (cc)

  -- a seat that draws a cell owns an object, and so is a session
  drawer : (c.seats p).task ≡ task.Pool → is_active (c.seats p).place ≡ true → is_session p ≡ true
  drawer at active =
      let x = c.seats p in
      let wants : WantsCell x task.Pool = subst (WantsCell x) at (sound.own p).cells.wants in
      let pl = active_at x.place active in
      let none : claims_over x ≡ 0 =
      ap (λ (q : Place). over_of q x.task (length x.current.writes)) pl.1 ∙ ap (λ (u : Task). over_of (Active pl.0) u (length x.current.writes)) at in
      let last = last_claim x.current in
      let within : last < length x.current.writes = let some = wants.0 in omega (arith, some) in
      let held = (sound.own p).claims.held last within (omega (arith, none)) in
      let fits = (sound.own p).claims.fit last within held in
      ⊎_elim
      (λ (some : 0 < p).
      covers.owners (claim_at x.current last).version.oid p (number_of (c.shared.objects (claim_at x.current last).version.oid).entry) ((sound.own p).claims.objects last within) some
      (record { owner_is = fits.owner; number_is = refl }))
      (λ (low : p ≤ 0).
      let zero_is : p ≡ 0 = omega (arith, low) in
      let vacant : x.place ≡ Vacant = (sound.own p).ranges.seat_of (ap is_seat zero_is) in
      absurd (let no : is_active x.place ≡ false = ap is_active vacant in cc))
      (cases_lt 0 p)

  -- a cell is drawn, or there is none
  cell_covered : after_event c p (kind.AddCounter Cells) ≡ Some d → IsCovered d
  cell_covered e =
      let m = moves c p (kind.AddCounter Cells) d tt e in
      let at = pool_needed c.shared.cells_drawn (c.seats p) m.part (c.seats p).task m.after in
      let pool = subst (λ (t : Task). add_counter c.shared.cell_limit p Cells c.shared.cells_drawn (c.seats p) t ≡ Some m.part) at m.after in
      let active : is_active (c.seats p).place ≡ true = when_then (λ _. is_active (c.seats p).place ≡ true) _ _ m.part pool (λ g. g) in
      let both = and_parts (nat_lt 0 p) (nat_le p SESSIONS) (drawer at active) in
      let is = sym (cells_raised c p m.part d sound (sym m.is)) in
      let sum = upto_put SESSIONS c.seats p m.part (ltb-true 0 p both.0) (leb-true p SESSIONS both.1) in
      let all : firm_upto SESSIONS d.seats ≡ firm_upto SESSIONS (put c.seats p m.part) = ap (λ (z : Core). firm_upto SESSIONS z.seats) is in
      let drawn : d.shared.cells_drawn ≡ c.shared.cells_drawn + 1 = ap (λ (z : Core). z.shared.cells_drawn) is in
      let limit : d.shared.cell_limit ≡ c.shared.cell_limit = ap (λ (z : Core). z.shared.cell_limit) is in
      let kept = step_more (kind.AddCounter Cells) tt e in
      ⊎_elim
      (λ (below : c.shared.cells_drawn < c.shared.cell_limit).
      let more = firm_more c sound p c.shared.cells_drawn m.part at below pool in
      ⊎_elim
      (λ (low : c.shared.cells_drawn ≤ OBJECT_LIMIT + firm_upto SESSIONS c.seats). inl (omega (arith, low, sum, all, drawn, more)))
      (λ (low : c.shared.cell_limit ≤ OBJECT_LIMIT + firm_upto SESSIONS c.seats). inr (omega (arith, low, limit, kept)))
      covers.covered)
      (λ (above : c.shared.cell_limit ≤ c.shared.cells_drawn).
      ⊎_elim
      (λ (low : c.shared.cells_drawn ≤ OBJECT_LIMIT + firm_upto SESSIONS c.seats). inr (omega (arith, low, above, limit, kept)))
      (λ (low : c.shared.cell_limit ≤ OBJECT_LIMIT + firm_upto SESSIONS c.seats). inr (omega (arith, low, limit, kept)))
      covers.covered)
      (cases_lt c.shared.cells_drawn c.shared.cell_limit)

  -- a seat is given away, or taken in
  record Leaves : Type 0 where
    firm : (q : ℕ) → firm_in (d.seats q) ≡ firm_in (c.seats q)
    drawn : d.shared.cells_drawn ≡ c.shared.cells_drawn
    limit : d.shared.cell_limit ≡ c.shared.cell_limit

  put_firm : (n q : ℕ) (y : Part) → firm_in y ≡ firm_in (c.seats n) → firm_in (put c.seats n y q) ≡ firm_in (c.seats q)
  put_firm n q y same =
      ⊎_elim (λ (at : q ≡ n). ap (λ (m : ℕ). firm_in (put c.seats n y m)) at ∙ ap firm_in (put_same c.seats n y) ∙ same ∙ ap (λ (m : ℕ). firm_in (c.seats m)) (sym at))
      (λ (other : q ≡ n → ⊥). ap firm_in (put_other c.seats n y q other)) (cases_eq q n)

  with_leaves : (n : ℕ) (o : Option Part) → ((y : Part) → o ≡ Some y → firm_in y ≡ firm_in (c.seats n)) → with_part c n o ≡ Some d → Leaves
  with_leaves n None keeps e = absurd (cc)
  with_leaves n (Some y) keeps e =
      let is : d ≡ record c { seats = put c.seats n y } = sym (same_Some (record c { seats = put c.seats n y }) d e) in record {
        firm = λ q. ap (λ (z : Core). firm_in (z.seats q)) is ∙ put_firm n q y (keeps y refl);
        drawn = ap (λ (z : Core). z.shared.cells_drawn) is;
        limit = ap (λ (z : Core). z.shared.cell_limit) is;
      }

  split_leaves : (other : ℕ) (b : Bool) → (if b then with_part c other (split (c.seats p) (c.seats other)) else None) ≡ Some d → Leaves
  split_leaves other true e = with_leaves other (split (c.seats p) (c.seats other)) (λ y at. when_then (λ (z : Part). firm_in z ≡ firm_in (c.seats other)) _ _ y at (λ _. refl)) e
  split_leaves other false e = absurd (cc)

  join_leaves : (other : ℕ) (b : Bool) → (if b then None else with_part c p (join (c.seats p) (c.seats other))) ≡ Some d → Leaves
  join_leaves other true e = absurd (cc)
  join_leaves other false e = with_leaves p (join (c.seats p) (c.seats other)) (λ y at. when_then (λ (z : Part). firm_in z ≡ firm_in (c.seats p)) _ _ y at (λ _. refl)) e

  leaves_covered : Leaves → IsCovered d
  leaves_covered leaves =
      let same = upto_same SESSIONS c.seats d.seats (λ q some low. leaves.firm q) in
      grows c d (omega (arith, same)) leaves.drawn leaves.limit covers.covered

  -- each event keeps it so
  event_covered : (k : Kind) → after_event c p k ≡ Some d → IsCovered d
  event_covered (kind.Split other) e = leaves_covered (split_leaves other _ e)
  event_covered (kind.Join other) e = leaves_covered (join_leaves other _ e)
  event_covered (kind.AddCounter Objects) e = object_covered e
  event_covered (kind.AddCounter Cells) e = cell_covered e
  event_covered k e = other_covered k tt tt e

abbrev pub OwnersAreSessions : Type 0
OwnersAreSessions = (c d : Core) (es : List Event) (oid owner number : ℕ) → Sound c → Runs es c d → oid < OBJECT_LIMIT → 0 < owner → IsOwnedBy d.shared oid owner number
    → IsOwnedBy c.shared oid owner number ⊎ (is_session owner ≡ true)

covers_pass : OwnersAreSessions → (c d : Core) → Passes c d → Covers c → Covers d
covers_pass law c d passes covers = record {
  owners = λ oid owner number known some owned.
      ⊎_elim (λ (before : IsOwnedBy c.shared oid owner number). covers.owners oid owner number known some before) (λ (session : is_session owner ≡ true). session)
      (law c d (record { seat = passes.1.0; kind = passes.1.1 } ∷ []) oid owner number passes.0 (d, passes.1.2, refl) known some owned);
  covered = event_covered c d passes.1.0 passes.0 covers passes.1.1 passes.1.2;
}

-- at the table's start no object is owned, and no cell was drawn but those of the objects
first_covers : (start : Start) → Covers (start_core start)
first_covers start = record {
  owners = λ oid owner number known some owned.
      let none : owner_of ((start_core start).shared.objects oid).entry ≡ 0 =
      ap (λ (t : Bool). owner_of (if t then opened_object (start_rows start.rows) oid else no_object).entry) (lt-ltb oid OBJECT_LIMIT known) ∙ opened_ownerless oid known
      in
      absurd (omega (arith, some, none, owned.owner_is));
  covered = inl (omega arith);
}

-- WHAT SHOWS of them
over_claims : (ts : List Attempt) → sum_by (λ (f : Finished). length f.work.claims) (map finished_of ts) ≡ sum_by (λ (t : Attempt). length t.writes) ts
over_claims [] = refl
over_claims (t ∷ ts) =
    let shown = sum_by-cons (λ (f : Finished). length f.work.claims) (finished_of t) (map finished_of ts) in
    let is = sum_by-cons (λ (a : Attempt). length a.writes) t ts in
    let one : length (finished_of t).work.claims ≡ length t.writes = length-map t.writes written_of in
    let rest = over_claims ts in
    omega (arith, shown, is, one, rest)

abbrev claims_of : Finished → ℕ
claims_of f = length f.work.claims

blank_claims : (t : Attempt) → t ≡ blank → count_by is_firm t.writes ≡ 0
blank_claims t none = ap (λ (a : Attempt). count_by is_firm a.writes) none

ended_claims : (t : Attempt) (f : Finished) → f.work ≡ work_of t → count_by is_firm t.writes ≤ sum_by claims_of (f ∷ [])
ended_claims t f same =
    let one = sum_by-cons claims_of f [] in
    let few = firm_few t.writes in
    let all : length f.work.claims ≡ length t.writes = ap (λ (w : world.Work). length w.claims) same ∙ length-map t.writes written_of in
    omega (arith, one, few, all)

stands_claims : (t : Attempt) → count_by is_firm t.writes ≤ length (work_of t).claims
stands_claims t = let few = firm_few t.writes in let all = length-map t.writes written_of in omega (arith, few, all)

now_claims : (pl : Place) (u : Task) (t : Attempt) → IsNewSnapshot u t → IsCurrent pl t → count_by is_firm t.writes ≤ sum_by claims_of (over_now (ended_as pl u t) t) + length (world.work_of (shown_stand pl u t)).claims
now_claims Vacant u t new current = let none = blank_claims t current in omega (arith, none)
now_claims Idle u t new current = let none = blank_claims t current in omega (arith, none)
now_claims (Begun tail) u t new current = let none = blank_claims t current in omega (arith, none)
now_claims (Announced tail) u t new current = let none = blank_claims t current in omega (arith, none)
now_claims (Active tail) (task.Ends raised ended step cleared) t new current = let ends = ended_claims t (record { work = work_of t; fate = world.aborts }) refl in omega (arith, ends)
now_claims (Active tail) u t new current = let stands = stands_claims t in let shown = ap (λ (w : world.Work). length w.claims) (shown_work u t new) in omega (arith, stands, shown)
now_claims (Sealing tail) u t new current = let stands = stands_claims t in omega (arith, stands)
now_claims (Drawn tail stamp) u t new current = let stands = stands_claims t in omega (arith, stands)
now_claims (Sealed tail stamp) u t new current = let stands = stands_claims t in omega (arith, stands)
now_claims (Decided tail stamp) u t new current = let ends = ended_claims t (record { work = work_of t; fate = fate_of t.decision t }) refl in omega (arith, ends)
now_claims (Leaving stamp) u t new current = let ends = ended_claims t (record { work = work_of t; fate = fate_of t.decision t }) refl in omega (arith, ends)

seat_claims : (x : Part) → IsNewSnapshot x.task x.current → IsCurrent x.place x.current → firm_in x ≤ claims_in (shown_session x)
seat_claims x new current =
    let past = over_claims x.over in
    let now = now_claims x.place x.task x.current new current in
    let parts = sum_by-append claims_of (map finished_of x.over) (over_now (ended_as x.place x.task x.current) x.current) in
    omega (arith, past, now, parts)

all_claims : (n : ℕ) (c : Core) → Sound c → firm_upto n c.seats ≤ claims_upto n (λ q. shown_session (c.seats q))
unfolding firm_upto claims_upto
all_claims zero c sound = omega arith
all_claims (suc n) c sound =
    let before = all_claims n c sound in
    let last = seat_claims (c.seats (suc n)) (snapshots_new c (suc n) sound) (sound.own (suc n)).ranges.current in
    omega (arith, before, last)

-- IN THE END
pub all_drawn : OwnersAreSessions → ((c d : Core) (q : ℕ) (k : Kind) → Sound c → after_event c q k ≡ Some d → Rises c.shared d.shared) → (law : Law) (seat : ℕ) (b : Book) (own f : View)
    → EndsIn law seat b own f → ((c : Core) → IsBookOf b c → TABLE_CELLS ≤ c.shared.cells_drawn) → AreAllDrawn f
all_drawn owners rises law seat b own f end drawn =
    let c = end.core in
    let all : TABLE_CELLS ≤ c.shared.cells_drawn =
    of_later (λ (d : Core). TABLE_CELLS ≤ d.shared.cells_drawn) (λ d e passes at. le_trans at (rises d e passes.1.0 passes.1.1 passes.0 passes.1.2).cells_drawn) b c drawn end.was in
    let limit : c.shared.cell_limit ≡ TABLE_CELLS =
    of_later (λ (d : Core). d.shared.cell_limit ≡ TABLE_CELLS) (λ d e passes at. (rises d e passes.1.0 passes.1.1 passes.0 passes.1.2).cell_limit ∙ at) b c
    (λ s is. of_book (λ (d : Core). d.shared.cell_limit ≡ TABLE_CELLS) (λ d e passes at. (rises d e passes.1.0 passes.1.1 passes.0 passes.1.2).cell_limit ∙ at) b s refl is) end.was in
    let covers : Covers c = of_later Covers (covers_pass owners) b c (λ s is. of_book Covers (covers_pass owners) b s (first_covers b.start) is) end.was in
    let shown = all_claims SESSIONS c end.under.sound in
    let most : c.shared.cell_limit ≤ OID_LIMIT + claims_by_all (shown_of SESSIONS c) =
    ⊎_elim (λ (low : c.shared.cells_drawn ≤ OBJECT_LIMIT + firm_upto SESSIONS c.seats). omega (arith, low, all, limit, shown))
    (λ (low : c.shared.cell_limit ≤ OBJECT_LIMIT + firm_upto SESSIONS c.seats). omega (arith, low, shown)) covers.covered in
    subst AreAllDrawn (sym end.shows) most
