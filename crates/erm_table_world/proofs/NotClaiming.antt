-- A claim that is refused once its entry was taken: there is no cell, or the exclusion window is closed. And whatever the cause.
use Rattle.std.proofs.Common.{◌≡◌, ⊎_elim, ℕ, ◌+◌, ◌<◌, ◌≤◌, true, false, List, [], ◌∷◌, length, Some, refl, sym, ap, ◌∙◌, subst, arith}
use Rattle.std.proofs.lemmas.Bool.{and_parts, ltb-true}
use Rattle.std.proofs.lemmas.List.{length-map}
use Rattle.erm_model.specs.declared.limits.TheConstants.{OID_LIMIT, SESSIONS, TABLE_CELLS, WRITE_LIMIT}
use Rattle.erm_model.specs.declared.outcome.Phase.TheVariants as phase
use Rattle.erm_model.specs.declared.row_stop.RowStop.{RowStop}
use Rattle.erm_model.specs.declared.row_stop.RowStop.TheVariants as stop
use Rattle.erm_model.specs.RowTransaction.{Law}
use Rattle.erm_machine.specs.declared.event.Counter.TheVariants.{Cells}
use Rattle.erm_machine.specs.declared.event.Kind.TheVariants as kind
use Rattle.erm_machine.specs.declared.limits.TheConstants.{OBJECT_LIMIT}
use Rattle.erm_machine.specs.declared.part.Part.{Part}
use Rattle.erm_machine.specs.declared.task.Task.{Task}
use Rattle.erm_machine.specs.declared.task.Task.TheVariants as task
use Rattle.erm_machine.specs.declared.version.CellWord.TheVariants as word
use Rattle.erm_machine.specs.Core.{Object, spot_of, word_at}
use Rattle.erm_machine.specs.Decided.{written_of}
use Rattle.erm_machine.specs.Reading.{claim}
use Rattle.erm_machine.specs.Seat.{is_active, may_start}
use Rattle.erm_machine.specs.Words.{is_seat}
use Rattle.erm_machine.proofs.Guards.{when_then}
use Rattle.erm_machine.proofs.QuietKinds.{moves}
use Rattle.erm_cells.specs.Calls.{starts_anew}
use Rattle.erm_cells.specs.Took.{IsEndStep}
use Rattle.erm_core_view.specs.Views.{IsQuiet, session_of, view_of, work_of}
use Rattle.erm_core_view.proofs.Shown.{shows_work, work_active}
use Rattle.erm_core_view.proofs.Snapshots.{plain_new, starts_plain}
use Rattle.erm_core_steps.specs.Claiming.{is_cleared}
use Rattle.erm_core_steps.specs.Reads.{IsAtWork}
use Rattle.erm_core_steps.proofs.Aborts.{no_flusher}
use Rattle.erm_core_steps.proofs.Early.{quiet_since, shut_is}
use Rattle.erm_core_steps.proofs.Exchanges.{claim_excluded, claims_count}
use Rattle.erm_core_steps.proofs.Quiet.{IsActive, at_work}
use Rattle.erm_ends.specs.Ends as ends
use Rattle.erm_rows.specs.Claims as rows
use Rattle.erm_rows.specs.Claims.{given_up_part}
use Rattle.erm_rows.specs.Took.{IsClosedIn, TookClaim, TookEntry, TookLack, TookMissed, TookNoCell, TookNotFree}
use Rattle.erm_rows.proofs.Took.{claim_still}
use Rattle.erm_rule.specs.declared.view.Book.{Book}
use Rattle.erm_rule.specs.Views.{part_of}
use Rattle.erm_rule.specs.Went.{IsStillStep, Took, Went, core_of}
use Rattle.erm_session.specs.declared.session.Stage.{Stage}
use Rattle.erm_session.specs.declared.session.Stage.TheVariants as stage
use Rattle.erm_session.specs.Calls.{RefusesClaim}
use Rattle.erm_session.specs.Session.{StageIs, phase_of}
use Rattle.erm_session.specs.Took.{TookClaimStop}
use Rattle.erm_world.specs.Calls.{DidNotClaim}
use Rattle.erm_world.specs.Works.{is_claimed}
use Rattle.erm_world.specs.World.{IsSession, View, Work, claims_by_all, phase_at, work_at}
use Rattle.erm_table_world.specs.Stands.{IsStateful, StandsAt}
use Rattle.erm_table_world.proofs.Aborting.{aborted}
use Rattle.erm_table_world.proofs.Beginning.{took_alone}
use Rattle.erm_table_world.proofs.Claiming as claiming_of
use Rattle.erm_table_world.proofs.Covered.{drawn_claims}
use Rattle.erm_table_world.proofs.Loads.{loads_go}
use Rattle.erm_table_world.proofs.NotReading.{window_closed}
use Rattle.erm_table_world.proofs.Reading.{as_it_was, at_seat, is_unclaimed, same_world}
use Rattle.erm_table_world.proofs.Refusing as refusing
use Rattle.erm_table_world.proofs.Still.{Stayed, went_ran, went_stayed}
use Rattle.erm_table_world.proofs.Taking.{cut_went, entry_went}
use Rattle.erm_table_world.proofs.Wholly.{Ran, part_is, part_set, ran_one, runs}

-- an active session between two calls has found no owner clear
left_anew : (u : Task) → starts_anew u ≡ true → is_cleared u ≡ false
left_anew (task.Cleared oid) e = absurd (cc)
left_anew _ e = refl

pub left_of : (g : Stage) (x : Part) → phase_of g ≡ phase.Active → StageIs g x → is_cleared x.task ≡ false
left_of (stage.Active t) x active is = left_anew x.task is.1
left_of _ x active is = absurd (cc)

-- one more object may be claimed where an exchange is tried
room_needed : (seat oid seen number found : ℕ) (o : Object) (x y : Part) (t : Task) → claim seat oid seen number found o x t ≡ Some y → length x.current.writes < WRITE_LIMIT
room_needed seat oid seen number found o x y (task.Found version stamp (Some entry)) e =
    when_then (λ _. length x.current.writes < WRITE_LIMIT) _ _ y e (λ g. ltb-true (length x.current.writes) WRITE_LIMIT (and_parts _ _ g).1)
room_needed seat oid seen number found o x y _ e = absurd (cc)

-- so many cells were drawn in some state, and no fewer are now
pub record Counted (law : Law) (drawn : ℕ) (e : Book) : Type 0 where
  pub at : Book
  pub state : IsStateful law at
  pub counted : (core_of at).shared.cells_drawn ≡ drawn
  pub rises : (core_of at).shared.cells_drawn ≤ (core_of e).shared.cells_drawn

counted : (law : Law) (sessions seat oid head drawn : ℕ) (b e : Book) → IsStateful law b → TookNoCell law seat oid head drawn b e → Counted law drawn e
counted law sessions seat oid head drawn b e state took =
    ⊎_elim
    (λ (loaded : Took law seat ((kind.LoadCounter Cells, drawn) ∷ []) b took.refused).
    let first = took_alone law seat (kind.LoadCounter Cells, drawn) b took.refused loaded in
    let one = runs law b seat (kind.LoadCounter Cells) drawn took.refused first state in
    let ran = ran_one law sessions seat (kind.LoadCounter Cells) drawn b took.refused first state in
    let then = ran_one law sessions seat (kind.Install oid head) took.word took.refused e took.step ran.state in
    record { at = b; state = state; counted = one.met; rises = let less = ran.drawn in let more = then.drawn in omega (arith, less, more) })
    (λ (raised : (first : ℕ) × Took law seat ((kind.AddCounter Cells, drawn) ∷ (kind.LoadCounter Cells, first) ∷ []) b took.refused).
    let steps = raised.1 in
    let first = took_alone law seat (kind.LoadCounter Cells, raised.0) b steps.0 steps.1 in
    let one = runs law b seat (kind.LoadCounter Cells) raised.0 steps.0 first state in
    let two = runs law steps.0 seat (kind.AddCounter Cells) drawn took.refused steps.2 one.state in
    let ran = ran_one law sessions seat (kind.AddCounter Cells) drawn steps.0 took.refused steps.2 one.state in
    let then = ran_one law sessions seat (kind.Install oid head) took.word took.refused e took.step ran.state in
    record { at = steps.0; state = one.state; counted = two.met; rises = let less = ran.drawn in let more = then.drawn in omega (arith, less, more) })
    took.count

module _ (law : Law) (sessions seat : ℕ) (b : Book) (at : StandsAt law sessions b) (session : IsSession (view_of sessions (core_of b)) seat) (active : phase_at (view_of sessions (core_of b)) seat ≡ phase.Active)
    (seated : is_seat seat ≡ true) (oid : ℕ) (known : oid < OBJECT_LIMIT) (left : is_cleared ((core_of b).seats seat).task ≡ false) where
  on : IsActive seat (core_of b)
  on = at_seat law sessions seat b b at session active seated

  works : IsAtWork seat (core_of b)
  works = at_work on

  full_claims : length (part_of b.view seat).current.writes ≡ length (work_at (view_of sessions (core_of b)) seat).claims
  full_claims = ap (λ (x : Part). length x.current.writes) (part_is law b seat at.state seated) ∙ sym (claims_count sessions seat (core_of b) (view_of sessions (core_of b)) on refl)

  -- where the entry was taken one more object might be claimed
  entry_room : (head : ℕ) (m : Book) → TookEntry law seat oid head b m → length (work_at (view_of sessions (core_of b)) seat).claims < WRITE_LIMIT
  entry_room head m took =
      let n : Book = took.at in
      let steps = took.free.head.took in
      let goes = loads_go law sessions seat ((kind.LoadCell took.free.head.version word.Stamp, took.free.stamp) ∷ (kind.LoadEntry oid, took.entry) ∷ []) b n steps (tt, (tt, tt)) at.state works in
      let one = runs law b seat (kind.LoadEntry oid) took.entry steps.0 (took_alone law seat (kind.LoadEntry oid, took.entry) b steps.0 steps.1) at.state in
      let two = runs law steps.0 seat (kind.LoadCell took.free.head.version word.Stamp) took.free.stamp n steps.2 one.state in
      let run = runs law n seat (kind.Claim oid took.entry took.number) took.entry m took.step two.state in
      let moved = moves (core_of n) seat (kind.Claim oid took.entry took.number) (core_of m) tt run.event in
      let x : Part = (core_of n).seats seat in
      let room = room_needed seat oid took.entry took.number (word_at (core_of n) (spot_of seat (kind.Claim oid took.entry took.number))) ((core_of n).shared.objects oid) x moved.part x.task moved.after in
      let same : length (work_at (view_of sessions (core_of b)) seat).claims ≡ length x.current.writes =
      ap (λ (v : View). length (work_at v seat).claims) (sym goes.unseen.view) ∙ ap (λ (w : Work). length w.claims) (work_active x.place x.task x.current goes.at.active (plain_new x.task x.current goes.at.plain))
      ∙ length-map x.current.writes written_of
      in
      omega (arith, room, same)

  -- A CLAIM THAT LACKS A CELL
  lacks : (drawn : ℕ) (e : Book) → Ran law sessions seat b e → Stayed sessions seat (core_of b) (core_of e) → is_claimed (work_at (view_of sessions (core_of b)) seat).claims oid ≡ false
      → rows.DidLackCell b.view seat oid drawn e.view → TookLack law seat oid drawn b e → DidNotClaim (view_of sessions (core_of b)) seat oid (stop.CellsFull drawn) (view_of sessions (core_of e))
  lacks drawn e ran stayed none did took =
      let y : Part → Part = λ x. given_up_part oid did.cut.found.tail did.cut.done.cut x in
      let set : (core_of e).seats seat ≡ y ((core_of b).seats seat) =
      part_set law b e seat (y (part_of b.view seat)) at.state ran.state seated did.view_is ∙ ap y (part_is law b seat at.state seated)
      in
      let x : Part = (core_of b).seats seat in
      let work : Work = work_of x.current in
      let unseen : session_of (y x) ≡ session_of x = (shows_work x work (y x) refl on.active refl refl).shows ∙ sym (shows_work x work x refl on.active (starts_plain x.task on.starts) refl).shows in
      let same = same_world law sessions seat b e (no_flusher seat on.session) ran stayed (ap session_of set ∙ unseen) in
      let free = claiming_of.frees law sessions seat b b at session active seated oid took.entry.entry took.entry.at left took.entry.free in
      let taken = (went_ran law sessions seat IsStillStep b took.taken (entry_went law seat oid took.head b took.taken took.entry) at.state).state in
      let tidied = (went_ran law sessions seat IsStillStep took.taken took.tidied (cut_went law seat took.count took.taken took.tidied took.cut) taken).state in
      let count = counted law sessions seat oid took.head drawn took.tidied e tidied took.none in
      let quiet : IsQuiet sessions (core_of e) =
      quiet_since sessions seat (core_of b) (core_of e) at.quiet session ran.state.sound.sound ran.others ran.opening stayed.tail stayed.flushed
      (ap (λ (x : Part). is_active x.place) set ∙ on.active) (ap (λ (x : Part). may_start x.task) set)
      in
      let full : TABLE_CELLS ≤ drawn = did.none.none.all_drawn in
      let limit = at.state.limit in
      let limit_then = count.state.limit in
      let limit_now = ran.state.limit in
      let met = count.counted in
      let rises = count.rises in
      let most = count.state.sound.sound.common.counters.cells in
      let above : (core_of b).shared.cell_limit ≤ drawn = omega (arith, full, limit) in
      let just : drawn ≤ (core_of b).shared.cell_limit + SESSIONS + 2 = omega (arith, most, met, limit, limit_then) in
      let all = drawn_claims sessions (core_of e) ran.state.sound.sound quiet (ran.covered on.session at.covered) (omega (arith, full, limit_now, met, rises)) in (
        (none, entry_room took.head took.taken took.entry),
        same,
        free.free,
        free.current,
        (above, just),
        subst (λ (v : View). v.opening.cells ≤ OID_LIMIT + claims_by_all v) same all,
      )

  -- A CLAIM AFTER WHICH THE TRANSACTION IS EXCLUDED
  excluded : (succ pred count : ℕ) (row : List ℕ) (m e : Book) → is_claimed (work_at (view_of sessions (core_of b)) seat).claims oid ≡ false → TookClaim law seat oid count b m
      → rows.DidClaim b.view seat oid row m.view → IsClosedIn m.view seat succ pred → Went law seat IsEndStep m e → ends.DidAbort m.view seat e.view
      → DidNotClaim (view_of sessions (core_of b)) seat oid (stop.Excluded succ pred) (view_of sessions (core_of e))
  excluded succ pred count row m e none took did closed went ended =
      let still = claim_still law seat oid count b m took in
      let ran = went_ran law sessions seat IsStillStep b m still at.state in
      let stayed = went_stayed law sessions seat b m still at.state in
      let c = claiming_of.claims law sessions seat b m at session active seated oid row ran stayed did in
      let free = claiming_of.frees law sessions seat b m at session active seated oid took.entry.entry took.entry.at left took.entry.free in
      let quiet : IsQuiet sessions (core_of m) =
      quiet_since sessions seat (core_of b) (core_of m) at.quiet session ran.state.sound.sound ran.others ran.opening stayed.tail stayed.flushed c.at_work c.starts
      in
      let window = closed (core_of m) ran.state.sound.sound ran.state.is_view in
      let shut =
      shut_is sessions seat succ pred (core_of m) ran.state.sound.sound quiet (record { session = on.session; active = c.at_work; starts = c.starts })
      (window_closed ((core_of m).seats seat).current succ pred window.positive window.closed window.succ_is window.pred_is)
      in
      let over = aborted law sessions seat m e ran.state on.session seated c.at_work went ended in
      claim_excluded (view_of sessions (core_of b)) (view_of sessions (core_of m)) (view_of sessions (core_of e)) seat oid c.stamp c.base (stop.Excluded succ pred) (none, c.few) free.free free.current
      c.shows (over, shut)

  -- whatever the cause
  pub not_claim : (why : RowStop) (e : Book) → Ran law sessions seat b e → Stayed sessions seat (core_of b) (core_of e) → RefusesClaim b.view seat oid why e.view → TookClaimStop law seat oid why b e
      → DidNotClaim (view_of sessions (core_of b)) seat oid why (view_of sessions (core_of e))
  not_claim stop.WritesFull e ran stayed refuses took = (
    as_it_was law sessions seat b e at session active seated ran stayed refuses.refused.1,
    is_unclaimed law sessions seat b b at session active seated oid refuses.unclaimed,
    sym full_claims ∙ refuses.refused.0,
  )
  not_claim (stop.Owned other number) e ran stayed refuses took =
      let few = took.refused.0.0 in
      let all = full_claims in
      let met = took.refused.1.other in
      ⊎_elim
      (λ (t : TookNotFree law seat oid (stop.Owned other number) b took.between).
      refusing.owned law sessions seat b at session active seated oid known other number took.between e met.has_words met.another
      (is_unclaimed law sessions seat b b at session active seated oid refuses.unclaimed) (omega (arith, few, all)) t took.ends took.aborted)
      (λ (t : TookMissed law seat oid (stop.Owned other number) b took.between).
      absurd (refusing.missed_never law sessions seat b at session active seated oid known (stop.Owned other number) took.between t))
      took.refused.0.1
  not_claim (stop.Newer stamp) e ran stayed refuses took =
      let few = took.refused.0.0 in
      let all = full_claims in
      ⊎_elim
      (λ (t : TookNotFree law seat oid (stop.Newer stamp) b took.between).
      refusing.newer law sessions seat b at session active seated oid known stamp took.between e left (is_unclaimed law sessions seat b b at session active seated oid refuses.unclaimed)
      (omega (arith, few, all)) t took.ends took.aborted)
      (λ (t : TookMissed law seat oid (stop.Newer stamp) b took.between).
      absurd (refusing.missed_never law sessions seat b at session active seated oid known (stop.Newer stamp) took.between t))
      took.refused.0.1
  not_claim (stop.CellsFull drawn) e ran stayed refuses took =
      lacks drawn e ran stayed (is_unclaimed law sessions seat b b at session active seated oid refuses.unclaimed) took.1 took.0
  not_claim (stop.Excluded succ pred) e ran stayed refuses took =
      excluded succ pred took.refused.0.0 took.refused.1.row took.between e (is_unclaimed law sessions seat b b at session active seated oid refuses.unclaimed) took.refused.0.1
      took.refused.1.claim took.refused.0.2 took.ends took.aborted
  not_claim (stop.NotYet other seen) e ran stayed refuses took = absurd refuses.refused
  not_claim stop.ReadsFull e ran stayed refuses took = absurd refuses.refused
  not_claim (stop.OidsFull drawn) e ran stayed refuses took = absurd refuses.refused
  not_claim stop.Memory e ran stayed refuses took = absurd refuses.refused
