-- A write: the object is claimed, and then the row of its claim is set.
use Rattle.std.proofs.Common.{◌≡◌, ◌≢◌, ⊎_elim, ℕ, zero, suc, ◌+◌, ◌<◌, ◌≤◌, Bool, true, false, not, List, [], ◌∷◌, length, map, set, get_or, Some, refl, sym, ap, ◌∙◌, subst, arith}
use Rattle.std.proofs.lemmas.Bool.{cases_lt}
use Rattle.std.proofs.lemmas.List.{get_or-set_other, get_or-set_same, length-append, length-set, map-append}
use Rattle.erm_model.specs.declared.history.VersionWritten.{VersionWritten}
use Rattle.erm_model.specs.declared.limits.TheConstants.{WRITE_LIMIT}
use Rattle.erm_model.specs.declared.outcome.Phase.TheVariants as phase
use Rattle.erm_model.specs.RowTransaction.{Law}
use Rattle.erm_machine.specs.declared.attempt.Claim.{Claim}
use Rattle.erm_machine.specs.declared.event.Kind.{Kind}
use Rattle.erm_machine.specs.declared.event.Kind.TheVariants as kind
use Rattle.erm_machine.specs.declared.part.Part.{Part}
use Rattle.erm_machine.specs.declared.task.Task.{Task}
use Rattle.erm_machine.specs.declared.task.Task.TheVariants as task
use Rattle.erm_machine.specs.declared.version.CellWord.{CellWord}
use Rattle.erm_machine.specs.declared.version.CellWord.TheVariants as word
use Rattle.erm_machine.specs.Core.{Core, claim_at, no_claim}
use Rattle.erm_machine.specs.Decided.{written_of}
use Rattle.erm_machine.specs.Reading.{new_claim, start_row, store_row_word}
use Rattle.erm_machine.specs.Seat.{is_active, may_start}
use Rattle.erm_machine.specs.Step.{after_event}
use Rattle.erm_machine.specs.Settling.{store_active_word, store_cell, store_head_word}
use Rattle.erm_machine.specs.Words.{is_seat, put}
use Rattle.erm_machine.proofs.Frames.{put_other, put_same}
use Rattle.erm_machine.proofs.Guards.{if_then, when_then}
use Rattle.erm_machine.proofs.QuietKinds.{moves}
use Rattle.erm_cells.specs.Placed.{place_of}
use Rattle.erm_cells.specs.Rows.{is_copying, part_with_rows, with_own_row}
use Rattle.erm_cells.specs.Took.{IsStoreStep}
use Rattle.erm_cells.proofs.Took.{row_went}
use Rattle.erm_core_view.specs.Views.{session_of, view_of, work_of}
use Rattle.erm_core_view.proofs.Moved.{own_after}
use Rattle.erm_core_view.proofs.Shown.{shows_work}
use Rattle.erm_core_steps.specs.Claiming.{is_cleared}
use Rattle.erm_core_steps.proofs.Aborts.{no_flusher}
use Rattle.erm_core_steps.proofs.Early.{works_work}
use Rattle.erm_core_steps.proofs.Exchanges.{claims_count}
use Rattle.erm_core_steps.proofs.Quiet.{IsActive}
use Rattle.erm_core_steps.proofs.Stored.{claimed_from}
use Rattle.erm_rows.specs.Claims as rows
use Rattle.erm_rows.specs.Claims.{claimed_part, filled_claim}
use Rattle.erm_rows.specs.Took.{TookClaim}
use Rattle.erm_rule.specs.declared.view.Book.{Book}
use Rattle.erm_rule.specs.declared.view.View as rule
use Rattle.erm_rule.specs.Views.{part_of, with_part}
use Rattle.erm_rule.specs.Went.{AllSteps, Took, core_of}
use Rattle.erm_rule.proofs.Parts.{with_part-again}
use Rattle.erm_session.specs.Calls.{ClaimsObject, HasClaimed, IsClaimedAt, IsUnclaimed, SetsRow, WritesRow}
use Rattle.erm_session.specs.Calls as session_calls
use Rattle.erm_session.specs.Took.{TookWrite}
use Rattle.erm_world.specs.Calls.{DidClaim, DidWrite, Works}
use Rattle.erm_world.specs.Calls as calls
use Rattle.erm_world.specs.Works.{claiming, is_claimed, setting, with_row}
use Rattle.erm_world.specs.World.{IsSession, Session, View, Work, phase_at, work_at}
use Rattle.erm_world.specs.World as world
use Rattle.erm_world.proofs.Saves.{same_by}
use Rattle.erm_table_world.specs.Stands.{IsStateful, StandsAt}
use Rattle.erm_table_world.proofs.Claiming as claiming_of
use Rattle.erm_table_world.proofs.Reading.{at_seat, is_unclaimed, work}
use Rattle.erm_table_world.proofs.Still.{Stayed, becomes}
use Rattle.erm_table_world.proofs.Wholly.{Ran, part_is, part_put, part_set, runs, took_ran}
use Rattle.erm_core_view.proofs.Rows.{hit, miss}

-- STORES leave as many claims as there were.
abbrev pub SameCount : Part → Part → Type 0
SameCount x y = length y.current.writes ≡ length x.current.writes

head_count : (place cell : ℕ) (w : CellWord) (value : ℕ) (x : Part) (t : Task) (y : Part) → store_head_word place cell w value x t ≡ Some y → SameCount x y
head_count place cell w value x (task.Ends raised ended step cleared) y e = when_then (SameCount x) _ _ y e (λ _. length-set x.current.writes place _)
head_count place cell w value x _ y e = absurd (cc)

start_count : (place cell k value : ℕ) (x : Part) (t : Task) (y : Part) → start_row place cell k value x t ≡ Some y → SameCount x y
start_count place cell k value x t y e = when_then (SameCount x) _ _ y e (λ _. length-set x.current.writes place _)

row_count : (place cell k value : ℕ) (x : Part) (t : Task) (y : Part) → store_row_word place cell k value x t ≡ Some y → SameCount x y
row_count place cell k value x (task.Copies w) y e = when_then (SameCount x) _ _ y e (λ _. length-set x.current.writes place _)
row_count place cell k value x (task.Writes claim w) y e = when_then (SameCount x) _ _ y e (λ _. length-set x.current.writes place _)
row_count place cell k value x t y e = start_count place cell k value x t y e

active_count : (place cell : ℕ) (w : CellWord) (value : ℕ) (x y : Part) → store_active_word place cell w value x ≡ Some y → SameCount x y
active_count place cell (word.Row k) value x y e = row_count place cell k value x x.task y e
active_count place cell _ value x y e = absurd (cc)

store_count : (place cell : ℕ) (w : CellWord) (value : ℕ) (x y : Part) → store_cell place cell w value x ≡ Some y → SameCount x y
store_count place cell w value x y e =
    if_then (SameCount x) _ _ _ y e (λ _ h. active_count place cell w value x y h) (λ _ h. head_count place cell w value x x.task y h)

one_count : (seat : ℕ) (k : Kind) (found : ℕ) (c d : Core) → IsStoreStep k found → after_event c seat k ≡ Some d → SameCount (c.seats seat) (d.seats seat)
one_count seat (kind.StoreCell place cell w value) found c d is e =
    let m = moves c seat (kind.StoreCell place cell w value) d tt e in
    ap (λ (y : Part). length y.current.writes) (own_after c seat (kind.StoreCell place cell w value) d m) ∙ store_count place cell w value (c.seats seat) m.part m.after
one_count seat _ found c d is e = absurd is

stores_count : (law : Law) (seat : ℕ) (steps : List (Kind × ℕ)) (b e : Book) → Took law seat steps b e → AllSteps IsStoreStep steps → IsStateful law b
    → SameCount ((core_of b).seats seat) ((core_of e).seats seat)
stores_count law seat [] b e same all state = ap (λ (z : Book). length ((core_of z).seats seat).current.writes) same
stores_count law seat (s ∷ steps) b e took all state =
    let before = stores_count law seat steps b took.0 took.1 all.1 state in
    let run = runs law took.0 seat s.0 s.1 e took.2 (took_ran law 0 seat steps b took.0 took.1 state).state in
    one_count seat s.0 s.1 (core_of took.0) (core_of e) all.0 run.event ∙ before

-- A ROW THAT IS SET shows at its object's claim, and at no other one: the claim at this place is the only one of the object.
abbrev pub IsOnly : List Claim → ℕ → ℕ → Type 0
IsOnly ws place oid = (k : ℕ) → k < length ws → k ≢ place → (get_or ws k no_claim).version.oid ≢ oid

rows_left : (ws : List Claim) (oid : ℕ) (row : List ℕ) → ((k : ℕ) → k < length ws → (get_or ws k no_claim).version.oid ≢ oid)
    → map (with_row oid row) (map written_of ws) ≡ map written_of ws
rows_left [] oid row none = refl
rows_left (w ∷ ws) oid row none =
    let here = miss oid row (written_of w) (none 0 (omega arith)) in
    let rest = rows_left ws oid row (λ k within. none (suc k) (omega (arith, within))) in
    ap (λ (v : VersionWritten). v ∷ map (with_row oid row) (map written_of ws)) here ∙ ap (λ (vs : List VersionWritten). written_of w ∷ vs) rest

-- the claim at a place, and its cell, with these rows
abbrev pub row_claim : List Claim → ℕ → List ℕ → Claim
row_claim ws place row = record (get_or ws place no_claim) { row = row; own = with_own_row row (get_or ws place no_claim).own; is_set = true }

rows_set : (ws : List Claim) (place oid : ℕ) (row : List ℕ) → place < length ws → (get_or ws place no_claim).version.oid ≡ oid → IsOnly ws place oid
    → map written_of (set ws place (row_claim ws place row)) ≡ map (with_row oid row) (map written_of ws)
rows_set [] place oid row within is only = absurd (omega (arith, within))
rows_set (w ∷ ws) zero oid row within is only =
    let here = hit oid row (written_of w) is in
    let rest = rows_left ws oid row (λ k low. only (suc k) (omega (arith, low)) (λ none. omega (arith, none))) in
    ap (λ (v : VersionWritten). v ∷ map written_of ws) (sym here) ∙ ap (λ (vs : List VersionWritten). with_row oid row (written_of w) ∷ vs) (sym rest)
rows_set (w ∷ ws) (suc place) oid row within is only =
    let here = miss oid row (written_of w) (only 0 (omega arith) (λ none. omega (arith, none))) in
    let rest = rows_set ws place oid row (omega (arith, within)) is (λ k low other. only (suc k) (omega (arith, low)) (λ same. other (omega (arith, same)))) in
    ap (λ (v : VersionWritten). v ∷ map written_of (set ws place (row_claim ws place row))) (sym here)
    ∙ ap (λ (vs : List VersionWritten). with_row oid row (written_of w) ∷ vs) rest

-- the claims after it are of different objects, and so were those before
only_one : (ws : List Claim) (place oid : ℕ) (v : Claim) → place < length ws → v.version ≡ (get_or ws place no_claim).version → (get_or ws place no_claim).version.oid ≡ oid
    → ((j k : ℕ) → j < k → k < length (set ws place v) → (get_or (set ws place v) j no_claim).version.oid ≢ (get_or (set ws place v) k no_claim).version.oid) → IsOnly ws place oid
only_one ws place oid v within same is once k low other at =
    let long = length-set ws place v in
    let there : get_or (set ws place v) k no_claim ≡ get_or ws k no_claim = get_or-set_other ws place k v no_claim other in
    let here : get_or (set ws place v) place no_claim ≡ v = get_or-set_same ws place v no_claim within in
    let one : (get_or (set ws place v) k no_claim).version.oid ≡ oid = ap (λ (w : Claim). w.version.oid) there ∙ at in
    let two : (get_or (set ws place v) place no_claim).version.oid ≡ oid = ap (λ (w : Claim). w.version.oid) here ∙ ap (λ n. n.oid) same ∙ is in
    ⊎_elim (λ (less : k < place). once k place less (omega (arith, within, long)) (one ∙ sym two))
    (λ (more : place ≤ k). once place k (omega (arith, more, other)) (omega (arith, low, long)) (two ∙ sym one)) (cases_lt k place)

pub set_shows : (x : Part) (place oid : ℕ) (row : List ℕ) → is_active x.place ≡ true → place < length x.current.writes → (claim_at x.current place).version.oid ≡ oid → IsOnly x.current.writes place oid
    → session_of (part_with_rows place row row true task.Rest x) ≡ record { over = (session_of x).over; stand = world.active (setting oid row (work_of x.current)) }
set_shows x place oid row active within is only =
    let claims : work_of (part_with_rows place row row true task.Rest x).current ≡ setting oid row (work_of x.current) =
    ap (λ (vs : List VersionWritten). record (work_of x.current) { claims = vs }) (rows_set x.current.writes place oid row within is only)
    in
    (shows_work x (setting oid row (work_of x.current)) (part_with_rows place row row true task.Rest x) refl active refl claims).shows

starts_copy : (u : Task) → may_start u ≡ true → is_copying u ≡ false
starts_copy (task.Copies word) e = absurd (cc)
starts_copy _ e = refl

-- the view with this session
abbrev pub with_session : View → ℕ → Session → View
with_session v seat s = record v { session = put v.session seat s }

session_works : (v : View) (seat : ℕ) (w : Work) → phase_at v seat ≡ phase.Active → Works v seat w (with_session v seat (record { over = (v.session seat).over; stand = world.active w }))
session_works v seat w active = record {
  own = put_same v.session seat (record { over = (v.session seat).over; stand = world.active w });
  others = λ q other. put_other v.session seat (record { over = (v.session seat).over; stand = world.active w }) q other;
  opening = refl;
  tail = refl;
  flushed = refl;
  pinned = refl;
  given_up = refl;
  saves = record { own = same_by (world.active w) (v.session seat).stand (v.saves seat) (λ _. active); others = λ q other. refl };
}

module _ (law : Law) (sessions seat : ℕ) (b e : Book) (at : StandsAt law sessions b) (session : IsSession (view_of sessions (core_of b)) seat) (active : phase_at (view_of sessions (core_of b)) seat ≡ phase.Active)
    (seated : is_seat seat ≡ true) (ran : Ran law sessions seat b e) (stayed : Stayed sessions seat (core_of b) (core_of e)) where
  abbrev own : Part
  own = (core_of b).seats seat

  on : IsActive seat (core_of b)
  on = at_seat law sessions seat b e at session active seated

  -- THE ROW OF A CLAIM of a part, which was the seat's
  module _ (x : Part) (place oid : ℕ) (row : List ℕ) (here : is_active x.place ≡ true) (claimed : IsClaimedAt x oid place) (set_is : (core_of e).seats seat ≡ part_with_rows place row row true task.Rest x) where
    only : IsOnly x.current.writes place oid
    only =
        only_one x.current.writes place oid (row_claim x.current.writes place row) claimed.within refl claimed.oid_is
        (subst (λ (ws : List Claim). (j k : ℕ) → j < k → k < length ws → (get_or ws j no_claim).version.oid ≢ (get_or ws k no_claim).version.oid) (ap (λ (y : Part). y.current.writes) set_is)
        (ran.state.sound.sound.own seat).claims.once)

    row_shows : session_of ((core_of e).seats seat) ≡ record { over = (session_of x).over; stand = world.active (setting oid row (work_of x.current)) }
    row_shows = ap session_of set_is ∙ set_shows x place oid row here claimed.within claimed.oid_is only

    row_few : length x.current.writes ≤ WRITE_LIMIT
    row_few =
        let few = (ran.state.sound.sound.own seat).ranges.few in
        let long : length ((core_of e).seats seat).current.writes ≡ length x.current.writes =
        ap (λ (y : Part). length y.current.writes) set_is ∙ length-set x.current.writes place (row_claim x.current.writes place row)
        in
        omega (arith, few, long)

  -- the part after the row was set
  set_part : (x : Part) (cell place : ℕ) (row : List ℕ) → may_start x.task ≡ true → place_of cell x ≡ place
      → e.view ≡ with_part seat (part_with_rows (place_of cell x) row row (not (is_copying x.task)) task.Rest x) b.view → (core_of e).seats seat ≡ part_with_rows place row row true task.Rest x
  set_part x cell place row starts of view =
      part_set law b e seat (part_with_rows (place_of cell x) row row (not (is_copying x.task)) task.Rest x) at.state ran.state seated view
      ∙ ap (λ (n : ℕ). part_with_rows n row row (not (is_copying x.task)) task.Rest x) of
      ∙ ap (λ (t : Bool). part_with_rows place row row (not t) task.Rest x) (starts_copy x.task starts)

  -- A WRITE of an object that was claimed before
  module _ (oid : ℕ) (row : List ℕ) (place : ℕ) (old : List ℕ) (has : HasClaimed (part_of b.view seat) oid old) (claimed : IsClaimedAt (part_of b.view seat) oid place) (sets : SetsRow b.view seat place row e.view) where
    written_before : DidWrite (view_of sessions (core_of b)) seat oid row (view_of sessions (core_of e))
    written_before =
        let x : Part = part_of b.view seat in
        let part : x ≡ own = part_is law b seat at.state seated in
        let same = work law sessions seat b e at session active seated in
        let set = set_part x sets.cell place row (ap (λ (z : Part). may_start z.task) part ∙ on.starts) sets.of sets.stored.view_is in
        let made : Part → Work → Session = λ z w. record { over = (session_of z).over; stand = world.active (setting oid row w) } in
        let shows : session_of ((core_of e).seats seat) ≡ made own (work_at (view_of sessions (core_of b)) seat) =
        row_shows x place oid row (ap (λ (z : Part). is_active z.place) part ∙ on.active) claimed set ∙ ap (λ (z : Part). made z (work_of z.current)) part ∙ ap (λ (w : Work). made own w) (sym same)
        in
        let mine : HasClaimed own oid old = subst (λ (z : Part). HasClaimed z oid old) part has in
        record {
          between = view_of sessions (core_of b);
          claim =
              calls.before refl
              (ap (λ (w : Work). is_claimed w.claims oid) same ∙ claimed_from own.current.writes mine.place no_claim oid mine.claimed.within mine.claimed.oid_is);
          set = becomes law sessions seat b e (made own (work_at (view_of sessions (core_of b)) seat)) (no_flusher seat on.session) ran stayed shows;
        }

  -- A WRITE of an object that is claimed now
  module _ (oid : ℕ) (row : List ℕ) (place : ℕ) (old : List ℕ) (mid : rule.View) (none : IsUnclaimed (part_of b.view seat) oid) (did : rows.DidClaim b.view seat oid old mid) (claimed : IsClaimedAt (part_of mid seat) oid place)
      (sets : SetsRow mid seat place row e.view) where
    abbrev first : Part
    first = part_of b.view seat

    abbrev claim : Claim
    claim = filled_claim did.fill.own (new_claim did.took.version did.took.stamp did.took.base)

    abbrev part : Part
    part = claimed_part claim did.fill.spare did.cut.found.tail did.filled.readers first

    there : part_of mid seat ≡ part
    there = ap (λ (u : rule.View). part_of u seat) did.view_is ∙ part_put law b seat part at.state seated

    set_then : (core_of e).seats seat ≡ part_with_rows place row row true task.Rest part
    set_then =
        let y : Part → Part = λ z. part_with_rows (place_of sets.cell z) row row (not (is_copying z.task)) task.Rest z in
        set_part part sets.cell place row refl (ap (λ (z : Part). place_of sets.cell z) (sym there) ∙ sets.of)
        (sets.stored.view_is ∙ ap (λ (z : Part). with_part seat (y z) mid) there ∙ ap (λ (u : rule.View). with_part seat (y part) u) did.view_is ∙ with_part-again seat part (y part) b.view)

    active_then : is_active part.place ≡ true
    active_then = ap (λ (z : Part). is_active z.place) (part_is law b seat at.state seated) ∙ on.active

    claimed_then : IsClaimedAt part oid place
    claimed_then = subst (λ (z : Part). IsClaimedAt z oid place) there claimed

    abbrev work_then : Work
    work_then = claiming (record { oid = oid; stamp = did.took.stamp; base = did.took.base; row = did.took.base; is_set = false }) (work_at (view_of sessions (core_of b)) seat)

    -- the transaction as it is then
    works_then : work_of part.current ≡ work_then
    works_then =
        let made : ℕ → Work → Work = λ n w. claiming (record { oid = n; stamp = did.took.stamp; base = did.took.base; row = did.took.base; is_set = false }) w in
        ap (λ (vs : List VersionWritten). record (work_of first.current) { claims = vs }) (map-append written_of first.current.writes (claim ∷ []))
        ∙ ap (λ (n : ℕ). made n (work_of first.current)) did.took.oid_is ∙ ap (λ (z : Part). made oid (work_of z.current)) (part_is law b seat at.state seated)
        ∙ ap (λ (w : Work). made oid w) (sym (work law sessions seat b e at session active seated))

    whole : Works (view_of sessions (core_of b)) seat (setting oid row work_then) (view_of sessions (core_of e))
    whole =
        let made : Part → Work → Session = λ z w. record { over = (session_of z).over; stand = world.active (setting oid row w) } in
        becomes law sessions seat b e (made own work_then) (no_flusher seat on.session) ran stayed
        (row_shows part place oid row active_then claimed_then set_then ∙ ap (λ (w : Work). made first w) works_then
        ∙ ap (λ (z : Part). made z work_then) (part_is law b seat at.state seated))

    -- as many claims as before, and one more
    count_then : length part.current.writes ≡ length own.current.writes + 1
    count_then = length-append first.current.writes (claim ∷ []) ∙ ap (λ (z : Part). length z.current.writes + 1) (part_is law b seat at.state seated)

    free_then : is_cleared own.task ≡ false → TookWrite law seat oid row b e → claiming_of.Free law sessions seat b b at session active seated oid
    free_then left took =
        ⊎_elim
        (λ (t : (took.count ≡ 0) × (took.claimed ≡ b)).
        let stores = row_went law seat took.cell row took.claimed e took.stores in
        let state : IsStateful law took.claimed = subst (λ (z : Book). IsStateful law z) (sym t.1) at.state in
        let same = stores_count law seat stores.steps took.claimed e stores.took stores.all state in
        let before : length ((core_of took.claimed).seats seat).current.writes ≡ length own.current.writes = ap (λ (z : Book). length ((core_of z).seats seat).current.writes) t.1 in
        let after : length ((core_of e).seats seat).current.writes ≡ length part.current.writes =
        ap (λ (y : Part). length y.current.writes) set_then ∙ length-set part.current.writes place (row_claim part.current.writes place row)
        in
        let more = count_then in
        absurd (omega (arith, same, before, after, more)))
        (λ (t : TookClaim law seat oid took.count b took.claimed). claiming_of.frees law sessions seat b b at session active seated oid t.entry.entry t.entry.at left t.entry.free)
        took.claim

    written_now : is_cleared own.task ≡ false → TookWrite law seat oid row b e → DidWrite (view_of sessions (core_of b)) seat oid row (view_of sessions (core_of e))
    written_now left took =
        let v : View = view_of sessions (core_of b) in
        let free = free_then left took in
        let few = row_few part place oid row active_then claimed_then set_then in
        let more = count_then in
        let all = claims_count sessions seat (core_of b) v on refl in
        let works = session_works v seat work_then active in
        let mid_view : View = with_session v seat (record { over = (v.session seat).over; stand = world.active work_then }) in
        record {
          between = mid_view;
          claim =
              calls.now did.took.stamp did.took.base (is_unclaimed law sessions seat b e at session active seated oid none) (omega (arith, few, more, all)) free.free free.current works;
          set = subst (λ (u : Work). Works v seat (setting oid row u) (view_of sessions (core_of e))) (sym (works_work v mid_view seat work_then works)) whole;
        }

  pub did_write : (oid : ℕ) (row : List ℕ) → is_cleared own.task ≡ false → WritesRow b.view seat oid row e.view → TookWrite law seat oid row b e
      → DidWrite (view_of sessions (core_of b)) seat oid row (view_of sessions (core_of e))
  did_write oid row left writes took = by_claim writes.claimed
    where
      by_claim : ClaimsObject b.view seat oid writes.between → DidWrite (view_of sessions (core_of b)) seat oid row (view_of sessions (core_of e))
      by_claim (session_calls.before same old has) =
          written_before oid row writes.place old has (subst (λ (u : rule.View). IsClaimedAt (part_of u seat) oid writes.place) same writes.of)
          (subst (λ (u : rule.View). SetsRow u seat writes.place row e.view) same writes.set)
      by_claim (session_calls.now none old did) = written_now oid row writes.place old writes.between none did writes.of writes.set left took
