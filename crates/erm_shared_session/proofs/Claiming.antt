-- What a call leaves of the own view of a session of the word table, where its seat was active, by the seat's part after it; and a claim.
use Rattle.std.proofs.Common.{◌≡◌, ◌≢◌, ℕ, ◌<◌, ◌≤◌, ⊎_elim, Bool, true, false, not, List, [], ◌∷◌, ◌++◌, length, map, Some, refl, sym, ap, ◌∙◌, subst, arith}
use Rattle.std.specs.Prelude.{if◌then◌else◌}
use Rattle.std.proofs.lemmas.Bool.{cases_lt, ne_eqb}
use Rattle.std.proofs.lemmas.List.{length-append, length-map, map-append}
use Rattle.erm_model.specs.declared.history.TransactionRecord.{TransactionRecord}
use Rattle.erm_model.specs.declared.history.VersionWritten.{VersionWritten}
use Rattle.erm_model.specs.declared.limits.TheConstants.{WRITE_LIMIT}
use Rattle.erm_model.specs.declared.outcome.Phase.TheVariants as phase
use Rattle.erm_model.specs.Member.{◌∈◌}
use Rattle.erm_model.proofs.Members.{none_in_nil}
use Rattle.erm_machine.specs.declared.attempt.Claim.{Claim}
use Rattle.erm_machine.specs.declared.attempt.Decision.TheVariants.{Abort}
use Rattle.erm_machine.specs.declared.part.Part.{Part}
use Rattle.erm_machine.specs.declared.task.Task.{Task}
use Rattle.erm_machine.specs.declared.task.Task.TheVariants as task
use Rattle.erm_machine.specs.Core.{claim_at, no_claim}
use Rattle.erm_machine.specs.Decided.{written_of}
use Rattle.erm_machine.specs.Reading.{new_claim}
use Rattle.erm_machine.specs.Seat.{is_active, may_start, is_snapshot}
use Rattle.erm_cells.specs.Placed.{place_of}
use Rattle.erm_cells.specs.Rows.{is_copying, part_with_rows}
use Rattle.erm_core_view.specs.Views.{finished_of, session_of, stand_of, work_of}
use Rattle.erm_core_view.proofs.Shown.{shows_work, work_active, working}
use Rattle.erm_core_view.proofs.Snapshots.{plain_new, starts_plain}
use Rattle.erm_core_steps.proofs.Stored.{claimed_from}
use Rattle.erm_ends.specs.Ends as ends
use Rattle.erm_ends.specs.Ends.{left_part, released_all}
use Rattle.erm_rows.specs.Claims as rows
use Rattle.erm_rows.specs.Claims.{claimed_part, filled_claim}
use Rattle.erm_rule.specs.declared.view.Book.{Book}
use Rattle.erm_rule.specs.declared.view.View as rule
use Rattle.erm_rule.specs.Hands.{IsKnown}
use Rattle.erm_rule.specs.Views.{part_in, part_of}
use Rattle.erm_rule.proofs.Telling.{held_part, part_of-changed}
use Rattle.erm_session.specs.declared.session.Stage.{Stage}
use Rattle.erm_session.specs.declared.session.Stage.TheVariants as stage
use Rattle.erm_session.specs.Calls.{ClaimsObject, IsClaimedAt, IsUnclaimed, SetsRow, WritesRow}
use Rattle.erm_session.specs.Calls as session_calls
use Rattle.erm_session.specs.Session.{StageIs, phase_of}
use Rattle.erm_session.proofs.Listed.{unclaimed}
use Rattle.erm_table_world.proofs.Writing.{IsOnly, set_shows}
use Rattle.erm_beside.specs.Later.{IsLater}
use Rattle.erm_lone.proofs.Later.{world_goes}
use Rattle.erm_world.specs.Calls.{DidClaim, DidWrite, HasNoNewer, IsDone, IsUnowned, Works}
use Rattle.erm_world.specs.Calls as calls
use Rattle.erm_world.specs.Face.{Grows}
use Rattle.erm_world.specs.Laws.{IsCommitOf, TellsCommits}
use Rattle.erm_world.specs.Works.{claiming, is_claimed, setting}
use Rattle.erm_world.specs.World.{Finished, IsCurrent, Session, View, Work, phase_at, work_at}
use Rattle.erm_world.specs.World as world
use Rattle.erm_own_view.specs.Own.{no_session, opening_of, own_view}
use Rattle.erm_own_view.proofs.Own.{own_becomes, own_is, own_same}
use Rattle.erm_shared_session.proofs.Aborting.{aborted_given, aborted_shown, gone}
use Rattle.erm_shared_session.proofs.Standing.{active_held}
use Rattle.erm_table_world.proofs.Sessions.{anew_starts}
use Rattle.erm_core_shown.specs.Shown.{given_up_of}
use Rattle.erm_core_shown.proofs.Given.{given_by, given_stays}

-- THE SEAT at a call: it is active, and a call may start
pub record AtWork (x : Part) : Type 0 where
  pub active : is_active x.place ≡ true
  pub starts : may_start x.task ≡ true

pub at_work : (g : Stage) (x : Part) → phase_of g ≡ phase.Active → StageIs g x → AtWork x
at_work (stage.Active t) x active is = record { active = is.0; starts = anew_starts x.task is.1 }
at_work _ x active is = absurd (cc)

starts_copy : (u : Task) → may_start u ≡ true → is_copying u ≡ false
starts_copy (task.Copies word) e = absurd (cc)
starts_copy _ e = refl

-- each object is claimed once
abbrev ClaimedOnce : Part → Type 0
ClaimedOnce x = (j k : ℕ) → j < k → k < length x.current.writes → (claim_at x.current j).version.oid ≢ (claim_at x.current k).version.oid

only_one : (x : Part) (place oid : ℕ) → ClaimedOnce x → IsClaimedAt x oid place → IsOnly x.current.writes place oid
only_one x place oid once claimed k low other at =
    ⊎_elim (λ (less : k < place). once k place less claimed.within (at ∙ sym claimed.oid_is))
    (λ (more : place ≤ k). once place k (omega (arith, more, other)) low (claimed.oid_is ∙ sym at)) (cases_lt k place)

-- the version that a claim overwrites, of which no row is set yet
abbrev pub found : (oid stamp : ℕ) → List ℕ → VersionWritten
found oid stamp base = record { oid = oid; stamp = stamp; base = base; row = base; is_set = false }

module _ (seat tail flushed : ℕ) (b e : Book) (start : e.start ≡ b.start) (held : part_in b.view seat ≡ Some (part_of b.view seat)) (at : AtWork (part_of b.view seat)) where
  abbrev pub own : View
  own = own_view seat tail flushed b

  abbrev pub next : View
  next = own_view seat tail flushed e

  abbrev pub part : Part
  part = part_of b.view seat

  abbrev pub work : Work
  work = work_of part.current

  -- the session as the own view has it
  own_session : own.session seat ≡ working part work
  own_session = own_is seat tail flushed b ∙ (shows_work part work part refl at.active (starts_plain part.task at.starts) refl).shows

  pub own_work : work_at own seat ≡ work
  own_work = ap (λ (s : Session). world.work_of s.stand) own_session

  own_over : (own.session seat).over ≡ map finished_of part.over
  own_over = ap (λ (s : Session). s.over) own_session

  pub own_active : phase_at own seat ≡ phase.Active
  own_active = ap (λ (s : Session). world.phase_of s.stand) own_session

  -- THE PART after a call: it is active still, with this work, and has given up no claim more
  pub record Leaves (y : Part) (w : Work) : Type 0 where
    pub over : y.over ≡ part.over
    pub active : is_active y.place ≡ true
    pub plain : is_snapshot y.task ≡ false
    pub work_is : work_of y.current ≡ w
    pub given : given_by y.current ≡ given_by part.current

  pub leaves_same : Leaves part work
  leaves_same = record { over = refl; active = at.active; plain = starts_plain part.task at.starts; work_is = refl; given = refl }

  pub session_as : (y : Part) (w : Work) → y.over ≡ part.over → is_active y.place ≡ true → is_snapshot y.task ≡ false → work_of y.current ≡ w → session_of y ≡ working part w
  session_as y w over active plain same = (shows_work part w y over active plain same).shows

  session_then : (y : Part) (w : Work) → Leaves y w → session_of y ≡ working part w
  session_then y w leaves = session_as y w leaves.over leaves.active leaves.plain leaves.work_is

  given_then : (y : Part) (w : Work) → Leaves y w → given_up_of y ≡ given_up_of part
  given_then y w leaves = given_stays part y leaves.over leaves.given

  pub works_now : (y : Part) (w : Work) → Leaves y w → part_of e.view seat ≡ y → Works own seat w next
  works_now y w leaves is =
      own_becomes seat tail flushed b e (record { over = (own.session seat).over; stand = world.active w }) start
      (ap session_of is ∙ session_then y w leaves ∙ ap (λ (fs : List Finished). let s : Session = record { over = fs; stand = world.active w } in s) (sym own_over))
      (ap given_up_of is ∙ given_then y w leaves)

  pub same_now : (y : Part) → Leaves y work → part_of e.view seat ≡ y → next ≡ own
  same_now y leaves is = own_same seat tail flushed b e start (ap session_of is ∙ session_then y work leaves ∙ sym (session_then part work leaves_same)) (ap given_up_of is ∙ given_then y work leaves)

  -- it is held, and is that of the state known
  pub held_then : (m : rule.View) (y : Part) → part_of m seat ≡ y → is_active y.place ≡ true → part_in m seat ≡ Some (part_of m seat)
  held_then m y is active = held_part m seat (active_held (part_of m seat).place (ap (λ (z : Part). is_active z.place) is ∙ active))

  known_part : (m : rule.View) (y : Part) (known : IsKnown m) → part_of m seat ≡ y → is_active y.place ≡ true → known.core.seats seat ≡ y
  known_part m y known is active = known.is_view seat (part_of m seat) (held_then m y is active) ∙ is

  pub few_claims : (m : rule.View) (y : Part) → IsKnown m → part_of m seat ≡ y → is_active y.place ≡ true → length y.current.writes ≤ WRITE_LIMIT
  few_claims m y known is active =
      let few = (known.sound.own seat).ranges.few in
      omega (arith, few, ap (λ (z : Part). length z.current.writes) (known_part m y known is active))

  claimed_once : (m : rule.View) (y : Part) → IsKnown m → part_of m seat ≡ y → is_active y.place ≡ true → ClaimedOnce y
  claimed_once m y known is active = subst ClaimedOnce (known_part m y known is active) (known.sound.own seat).claims.once

  -- and then its transaction was aborted
  pub done_now : (y : Part) (w : Work) (m : rule.View) → Leaves y w → part_of m seat ≡ y → ends.DidAbort m seat e.view → IsDone own seat w world.aborts next
  done_now y w m leaves is aborted =
      let g : Finished = record { work = w; fate = world.aborts } in
      let after : part_of e.view seat ≡ left_part Abort (released_all y) =
      part_of-changed m seat e.view (left_part Abort (released_all (part_of m seat))) (part_of m seat) (held_then m y is leaves.active) aborted.view_is
      ∙ ap (λ (z : Part). left_part Abort (released_all z)) is
      in
      let now : world.phase_of (stand_of y.place y.task y.current) ≡ phase.Active = ap (λ (s : Session). world.phase_of s.stand) (session_then y w leaves) in
      own_becomes seat tail flushed b e (record { over = (own.session seat).over ++ g ∷ []; stand = world.idle }) start
      (ap session_of after ∙ aborted_shown y now ∙ ap gone (session_then y w leaves)
      ∙ ap (λ (fs : List Finished). let s : Session = record { over = fs ++ g ∷ []; stand = world.idle } in s) (sym own_over))
      (ap given_up_of after ∙ aborted_given y ∙ given_then y w leaves)

  -- the own view has no other session
  other_is : (q : ℕ) → q ≢ seat → own.session q ≡ no_session
  other_is q other = ap (λ (t : Bool). if t then session_of part else no_session) (ne_eqb q seat other)

  -- the session in a later state
  pub later_now : Grows (own.session seat) (next.session seat) → IsLater (own.session seat) (next.session seat)
  later_now grows =
      (world_goes own next seat (record {
        own = grows;
        others = λ q other. ap (λ (t : Bool). if t then session_of (part_of e.view seat) else no_session) (ne_eqb q seat other) ∙ sym (other_is q other);
        opening = ap opening_of start;
        tail = refl;
        flushed = refl;
        pinned = refl;
        saves = λ active. refl;
        saves_of_others = λ q other. refl;
      })).session seat

  -- WHAT IS CLAIMED
  pub claims_are : length (work_at own seat).claims ≡ length part.current.writes
  claims_are = ap (λ (w : Work). length w.claims) own_work ∙ length-map part.current.writes written_of

  pub not_claimed : (oid : ℕ) → IsUnclaimed part oid → is_claimed (work_at own seat).claims oid ≡ false
  not_claimed oid none = ap (λ (w : Work). is_claimed w.claims oid) own_work ∙ unclaimed part.current.writes oid none

  unowned : (oid : ℕ) → IsUnowned own seat oid
  unowned oid other number owned = absurd (subst (λ (s : Session). IsCurrent s.stand owned.work) (other_is other owned.another) owned.current)

  none_newer : TellsCommits own → (oid : ℕ) → HasNoNewer own seat oid
  none_newer tells oid stamp newer =
      let one : IsCommitOf own newer.by = tells.only newer.by newer.committed in
      let another : one.seat ≢ seat = λ same. newer.another (ap (λ (t : TransactionRecord). t.seat) one.is ∙ same) in
      let f : Finished = record { work = one.work; fate = world.commits one.stamp one.succ one.pred } in
      absurd (none_in_nil f (subst (λ (s : Session). f ∈ s.over) (other_is one.seat another) one.over))

  -- A CLAIM that was made
  module _ (oid : ℕ) (row : List ℕ) (m : rule.View) (did : rows.DidClaim b.view seat oid row m) where
    abbrev new : Claim
    new = filled_claim did.fill.own (new_claim did.took.version did.took.stamp did.took.base)

    abbrev pub grown : Part
    grown = claimed_part new did.fill.spare did.cut.found.tail did.filled.readers part

    abbrev pub version : VersionWritten
    version = found oid did.took.stamp did.took.base

    pub grown_is : part_of m seat ≡ grown
    grown_is = part_of-changed b.view seat m grown part held did.view_is

    pub grown_leaves : Leaves grown (claiming version work)
    grown_leaves = record {
      over = refl;
      active = at.active;
      plain = refl;
      work_is =
          ap (λ (ws : List VersionWritten). record work { claims = ws }) (map-append written_of part.current.writes (new ∷ []))
          ∙ ap (λ (n : ℕ). claiming (found n did.took.stamp did.took.base) work) did.took.oid_is;
      given = refl;
    }

    pub few_before : length (work_at own seat).claims < WRITE_LIMIT
    few_before =
        let most = few_claims m grown did.known grown_is at.active in
        omega (arith, most, length-append part.current.writes (new ∷ []), claims_are)

  -- CLAIM
  pub did_claim : TellsCommits own → (oid : ℕ) → ClaimsObject b.view seat oid e.view → DidClaim own seat oid next
  did_claim tells oid (session_calls.before same row has) =
      calls.before (same_now part leaves_same (ap (λ (u : rule.View). part_of u seat) same))
      (ap (λ (w : Work). is_claimed w.claims oid) own_work ∙ claimed_from part.current.writes has.place no_claim oid has.claimed.within has.claimed.oid_is)
  did_claim tells oid (session_calls.now none row did) =
      calls.now did.took.stamp did.took.base (not_claimed oid none) (few_before oid row e.view did) (unowned oid) (none_newer tells oid)
      (subst (λ (w : Work). Works own seat (claiming (found oid did.took.stamp did.took.base) w) next) (sym own_work)
      (works_now (grown oid row e.view did) (claiming (found oid did.took.stamp did.took.base) work) (grown_leaves oid row e.view did) (grown_is oid row e.view did)))

  -- WRITE. The row of a claim of this part is set.
  pub sets_now : (oid place : ℕ) (row : List ℕ) (m : rule.View) (y : Part) (w : Work) → IsKnown m → part_of m seat ≡ y → Leaves y w → may_start y.task ≡ true → IsClaimedAt (part_of m seat) oid place
      → SetsRow m seat place row e.view → Works own seat (setting oid row w) next
  sets_now oid place row m y w known is leaves starts claimed sets =
      let there : IsClaimedAt y oid place = subst (λ (z : Part). IsClaimedAt z oid place) is claimed in
      let set : Part = part_with_rows place row row true task.Rest y in
      let shows = set_shows y place oid row leaves.active there.within there.oid_is (only_one y place oid (claimed_once m y known is leaves.active) there) in
      let after : part_of e.view seat ≡ set =
      part_of-changed m seat e.view (part_with_rows (place_of sets.cell (part_of m seat)) row row (not (is_copying (part_of m seat).task)) task.Rest (part_of m seat)) (part_of m seat)
      (held_then m y is leaves.active) sets.stored.view_is
      ∙ ap (λ (n : ℕ). part_with_rows n row row (not (is_copying (part_of m seat).task)) task.Rest (part_of m seat)) sets.of
      ∙ ap (λ (z : Part). part_with_rows place row row (not (is_copying z.task)) task.Rest z) is
      ∙ ap (λ (t : Bool). part_with_rows place row row (not t) task.Rest y) (starts_copy y.task starts)
      in
      works_now set (setting oid row w)
      (record {
        over = leaves.over;
        active = leaves.active;
        plain = refl;
        work_is = sym (work_active set.place set.task set.current leaves.active (plain_new set.task set.current refl)) ∙ ap (λ (s : Session). world.work_of s.stand) shows ∙ ap (setting oid row) leaves.work_is;
        given = leaves.given;
      })
      after

-- A write: its claim first, in the own view in between, and then the row.
module _ (seat tail flushed : ℕ) (b e : Book) (start : e.start ≡ b.start) (held : part_in b.view seat ≡ Some (part_of b.view seat)) (at : AtWork (part_of b.view seat))
    (tells : TellsCommits (own_view seat tail flushed b)) (known : IsKnown b.view) (oid : ℕ) (row : List ℕ) where
  abbrev between : rule.View → View
  between m = own_view seat tail flushed (record b { view = m })

  written : (place : ℕ) (m : rule.View) (y : Part) (w : Work) → IsKnown m → part_of m seat ≡ y → Leaves seat tail flushed b e start held at y w → may_start y.task ≡ true → ClaimsObject b.view seat oid m
      → IsClaimedAt (part_of m seat) oid place → SetsRow m seat place row e.view → DidWrite (own_view seat tail flushed b) seat oid row (own_view seat tail flushed e)
  written place m y w known_then is leaves starts claims claimed sets = record {
    between = between m;
    claim = did_claim seat tail flushed b (record b { view = m }) refl held at tells oid claims;
    set =
        subst (λ (u : Work). Works (own_view seat tail flushed b) seat (setting oid row u) (own_view seat tail flushed e))
        (sym (ap (λ (s : Session). world.work_of s.stand) (own_is seat tail flushed (record b { view = m })) ∙ ap (λ (z : Part). world.work_of (stand_of z.place z.task z.current)) is
        ∙ work_active y.place y.task y.current leaves.active (plain_new y.task y.current leaves.plain) ∙ leaves.work_is))
        (sets_now seat tail flushed b e start held at oid place row m y w known_then is leaves starts claimed sets);
  }

  pub did_write : WritesRow b.view seat oid row e.view → DidWrite (own_view seat tail flushed b) seat oid row (own_view seat tail flushed e)
  did_write writes = by_claim writes.claimed
    where
      by_claim : ClaimsObject b.view seat oid writes.between → DidWrite (own_view seat tail flushed b) seat oid row (own_view seat tail flushed e)
      by_claim (session_calls.before same old has) =
          written writes.place writes.between (part_of b.view seat) (work_of (part_of b.view seat).current) (subst IsKnown (sym same) known) (ap (λ (u : rule.View). part_of u seat) same)
          (leaves_same seat tail flushed b e start held at) at.starts writes.claimed writes.of writes.set
      by_claim (session_calls.now none old did) =
          written writes.place writes.between (grown seat tail flushed b e start held at oid old writes.between did)
          (claiming (version seat tail flushed b e start held at oid old writes.between did) (work_of (part_of b.view seat).current)) did.known
          (grown_is seat tail flushed b e start held at oid old writes.between did) (grown_leaves seat tail flushed b e start held at oid old writes.between did) refl writes.claimed writes.of writes.set
