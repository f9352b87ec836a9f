-- A session's claim: the seat's part after it, and what the session keeps.
use Rattle.std.proofs.Common.{◌≡◌, ℕ, ◌<◌, ◌≤◌, ⊎_elim, Bool, true, false, List, [], ◌∷◌, ◌++◌, length, map, Some, refl, sym, ap, ◌∙◌, subst, ltb, arith}
use Rattle.std.specs.Prelude.{if◌then◌else◌, IfErr, IfOk, Result, Ok, Err}
use Rattle.std.proofs.lemmas.List.{get_or_push, length-map, length_push, map-append}
use Rattle.erm_cells.specs.Calls.{starts_anew, walked}
use Rattle.erm_cells.proofs.Heads.{has}
use Rattle.erm_ends.specs.Ends.{DidAbort}
use Rattle.erm_machine.specs.declared.attempt.Claim.{Claim}
use Rattle.erm_machine.specs.declared.attempt.Read.{Read}
use Rattle.erm_machine.specs.declared.limits.TheConstants.{WRITE_LIMIT}
use Rattle.erm_machine.specs.declared.part.Part.{Part}
use Rattle.erm_machine.specs.declared.task.Task.{Task}
use Rattle.erm_machine.specs.declared.task.Task.TheVariants as task
use Rattle.erm_machine.specs.declared.version.VersionAt.{VersionAt}
use Rattle.erm_machine.specs.Core.{no_claim}
use Rattle.erm_machine.specs.Reading.{new_claim}
use Rattle.erm_machine.specs.Seat.{is_active, with_task}
use Rattle.erm_model.specs.declared.row_stop.RowStop.{RowStop}
use Rattle.erm_model.specs.declared.row_stop.RowStop.TheVariants as stop
use Rattle.erm_rows.specs.Claims.{claimed_part, filled_claim, given_up_part, DidClaim, DidLackCell, DidMeetNewer, DidMissHead, DidNotClaim, TellsCount, WasCells}
use Rattle.erm_rule.specs.declared.view.Book.{Book}
use Rattle.erm_rule.specs.declared.view.View.{View}
use Rattle.erm_rule.specs.Hands.{IsKnown}
use Rattle.erm_rule.specs.Views.{part_of, with_part}
use Rattle.erm_rule.proofs.Telling.{changed_here, part_of-changed}
use Rattle.erm_session.specs.Calls.{is_end, IsClaimedAt, IsUnclaimed, RefusesClaim}
use Rattle.erm_savepoints.specs.Saves.{KeptSaves}
use Rattle.erm_session.specs.Saves.{AreSaves}
use Rattle.erm_session.proofs.Saved.{ClaimsGo, go_more, saves_more}
use Rattle.erm_session.proofs.Goes.{ends_where, goes_same, same_current, Goes, SameWork}
use Rattle.erm_rows.specs.declared.claiming.Claimed.{Claimed}

-- a call may start where a head's stamp is loaded
starts_walked : (version : VersionAt) (entry stamp : ℕ) (x : Part) → starts_anew (walked version entry stamp x) ≡ true
starts_walked version entry stamp x = by (ltb stamp x.current.begin)
  where
    by : (below : Bool) → starts_anew (if below then task.Found version stamp (Some entry) else task.Passed version) ≡ true
    by true = refl
    by false = refl

module _ (v : View) (who oid : ℕ) (active : is_active (part_of v who).place ≡ true) where
  abbrev x : Part
  x = part_of v who

  -- it was claimed
  module _ (row : List ℕ) (w : View) (did : DidClaim v who oid row w) where
    abbrev claim : Claim
    claim = filled_claim did.fill.own (new_claim did.took.version did.took.stamp did.took.base)

    abbrev y : Part
    y = claimed_part claim did.fill.spare did.cut.found.tail did.filled.readers x

    here : part_of w who ≡ y
    here = part_of-changed v who w y x (has v who active) did.view_is

    pub goes_claimed : Goes x (part_of w who)
    goes_claimed = subst (λ (z : Part). Goes x z) (sym here) (record { place = refl; starts = refl; number = refl; run = refl; current = refl })

    pub rows_claimed : (old new : List (List ℕ)) → old ≡ map (λ (c : Claim). c.row) x.current.writes → new ≡ old ++ row ∷ []
        → new ≡ map (λ (c : Claim). c.row) (part_of w who).current.writes
    rows_claimed old new old_is new_is =
        new_is
        ∙ ap (λ (rs : List (List ℕ)). rs ++ row ∷ []) old_is
        ∙ ap (λ (n : List ℕ). map (λ (c : Claim). c.row) x.current.writes ++ n ∷ []) did.row_is
        ∙ sym (map-append (λ (c : Claim). c.row) x.current.writes (claim ∷ []))
        ∙ ap (λ (z : Part). map (λ (c : Claim). c.row) z.current.writes) (sym here)

    pub rows_stay : (rows : List (List ℕ)) → rows ≡ map (λ (r : Read). r.row) x.current.reads → rows ≡ map (λ (r : Read). r.row) (part_of w who).current.reads
    rows_stay rows is = is ∙ ap (λ (z : Part). map (λ (r : Read). r.row) z.current.reads) (sym here)

    few : length (x.current.writes ++ claim ∷ []) ≤ WRITE_LIMIT
    few = subst (λ (z : Part). length z.current.writes ≤ WRITE_LIMIT) (did.known.is_view who y (changed_here v who w y x (has v who active) did.view_is)) (did.known.sound.own who).ranges.few

    pub few_claimed : length x.current.writes < WRITE_LIMIT
    few_claimed = let more = length_push x.current.writes claim in let most = few in omega (arith, more, most)

    writes_now : (part_of w who).current.writes ≡ x.current.writes ++ claim ∷ []
    writes_now = ap (λ (z : Part). z.current.writes) here

    -- what is kept of its savepoints
    pub saves_claimed : (s : KeptSaves) → AreSaves s x → AreSaves (record s { found = s.found ++ row ∷ []; is_set = s.is_set ++ false ∷ [] }) (part_of w who)
    saves_claimed s is = saves_more s x (part_of w who) claim row writes_now did.row_is refl is

    pub go_claimed : ClaimsGo x.current.writes (part_of w who).current.writes
    go_claimed = go_more x.current.writes (part_of w who).current.writes claim writes_now

    -- there is room for its row
    pub room_claimed : (rows : List (List ℕ)) (room : ℕ) → rows ≡ map (λ (c : Claim). c.row) x.current.writes → WRITE_LIMIT ≤ room → length rows < room
    room_claimed rows room is enough =
        let count = ap (λ (rs : List (List ℕ)). length rs) is in
        let all = length-map x.current.writes (λ (c : Claim). c.row) in
        let more = length_push x.current.writes claim in
        let most = few in
        omega (arith, count, all, more, most, enough)

    -- the place of the newest claim
    pub claimed_last : (rows : List (List ℕ)) (place : ℕ) → rows ≡ map (λ (c : Claim). c.row) x.current.writes → place ≡ length rows → IsClaimedAt (part_of w who) oid place
    claimed_last rows place is at =
        let count : length x.current.writes ≡ place = sym (at ∙ ap (λ (rs : List (List ℕ)). length rs) is ∙ length-map x.current.writes (λ (c : Claim). c.row)) in
        subst (λ (z : Part). IsClaimedAt z oid place) (sym here)
        (record {
          within = let more = length_push x.current.writes claim in omega (arith, more, count);
          oid_is = ap (λ (c : Claim). c.version.oid) (get_or_push x.current.writes claim no_claim place count) ∙ did.took.oid_is;
        })

  -- all but the task is as before
  goes_task : (t : Task) (w : View) → starts_anew t ≡ true → w ≡ with_part who (with_task t x) v → Goes x (part_of w who)
  goes_task t w starts is =
      subst (λ (z : Part). Goes x z) (sym (part_of-changed v who w (with_task t x) x (has v who active) is))
      (record { place = refl; starts = starts; number = refl; run = refl; current = refl })

  lacks : (drawn : ℕ) (w : View) (did : DidLackCell v who oid drawn w) → part_of w who ≡ given_up_part oid did.cut.found.tail did.cut.done.cut x
  lacks drawn w did = part_of-changed v who w (given_up_part oid did.cut.found.tail did.cut.done.cut x) x (has v who active) did.view_is

  -- it is refused
  pub known_unclaimed : IsKnown v → (why : RowStop) (w : View) → DidNotClaim v who oid why w → IsKnown w
  known_unclaimed known stop.WritesFull w did = subst IsKnown (sym did.1) known
  known_unclaimed known (stop.Owned seat number) w did = did.known
  known_unclaimed known (stop.Newer stamp) w did =
      ⊎_elim (λ (newer : DidMeetNewer v who oid stamp w). newer.walk.known) (λ (missed : DidMissHead v who oid stamp w). missed.lost.known) did
  known_unclaimed known (stop.CellsFull drawn) w did = did.none.known
  known_unclaimed known (stop.Excluded succ pred) w did = did.claim.known
  known_unclaimed known _ w did = absurd did

  pub goes_unclaimed : starts_anew x.task ≡ true → (why : RowStop) (w : View) → DidNotClaim v who oid why w → Goes x (part_of w who)
  goes_unclaimed starts stop.WritesFull w did = subst (λ (u : View). Goes x (part_of u who)) (sym did.1) (goes_same x starts)
  goes_unclaimed starts (stop.Owned seat number) w did = goes_task (task.Owned oid seat) w refl did.view_is
  goes_unclaimed starts (stop.Newer stamp) w did =
      ⊎_elim
      (λ (newer : DidMeetNewer v who oid stamp w). goes_task (walked newer.walk.version newer.entry stamp x) w (starts_walked newer.walk.version newer.entry stamp x) newer.walk.view_is)
      (λ (missed : DidMissHead v who oid stamp w). goes_task (task.Passed missed.lost.version) w refl missed.view_is) did
  goes_unclaimed starts (stop.CellsFull drawn) w did =
      subst (λ (z : Part). Goes x z) (sym (lacks drawn w did)) (record { place = refl; starts = refl; number = refl; run = refl; current = refl })
  goes_unclaimed starts (stop.Excluded succ pred) w did = goes_claimed did.row w did.claim
  goes_unclaimed starts _ w did = absurd did

  -- it is claimed or refused
  pub goes_either : starts_anew x.task ≡ true → (result : Result Claimed RowStop) (w : View) → IfOk result (λ claimed. DidClaim v who oid claimed.row w) → IfErr result (λ why. DidNotClaim v who oid why w)
      → Goes x (part_of w who)
  goes_either starts (Ok claimed) w did stopped = goes_claimed claimed.row w did
  goes_either starts (Err why) w did stopped = goes_unclaimed starts why w stopped

  pub same_unclaimed : (why : RowStop) (w : View) → DidNotClaim v who oid why w → is_end why ≡ false → SameWork x (part_of w who)
  same_unclaimed stop.WritesFull w did on = same_current x (part_of w who) (ap (λ (u : View). (part_of u who).current) did.1)
  same_unclaimed (stop.Owned seat number) w did on = absurd (cc)
  same_unclaimed (stop.Newer stamp) w did on = absurd (cc)
  same_unclaimed (stop.CellsFull drawn) w did on = subst (λ (z : Part). SameWork x z) (sym (lacks drawn w did)) (record { same = refl })
  same_unclaimed (stop.Excluded succ pred) w did on = absurd (cc)
  same_unclaimed _ w did on = absurd did

  pub refuses_claim : IsUnclaimed x oid → (why : RowStop) (between w : View) → DidNotClaim v who oid why between → (is_end why ≡ true → DidAbort between who w)
      → (is_end why ≡ false → w ≡ between) → RefusesClaim v who oid why w
  refuses_claim unclaimed why between w did ended stays = record {
    unclaimed = unclaimed;
    refused = ends_where (is_end why) (λ (u : View). DidNotClaim v who oid why u) who between w did ended stays;
  }

-- a refusal after which the transaction goes on leaves the book
pub count_told : (b m e : Book) (why : RowStop) → TellsCount b why m → (is_end why ≡ false → e ≡ m) → TellsCount b why e
count_told b m e (stop.CellsFull drawn) told same = subst (λ (z : Book). WasCells b drawn z) (sym (same refl)) told
count_told b m e _ told same = tt
