-- A claim that is refused: whoever owns the object, or has committed a newer version. The exchange of an entry never fails here.
use Rattle.std.proofs.Common.{◌≡◌, ◌≢◌, ℕ, ◌<◌, true, false, List, [], ◌∷◌, length, sym, ap, ◌∙◌, subst, arith}
use Rattle.erm_model.specs.declared.limits.TheConstants.{WRITE_LIMIT}
use Rattle.erm_model.specs.declared.outcome.Phase.TheVariants as phase
use Rattle.erm_model.specs.declared.row_stop.RowStop.{RowStop}
use Rattle.erm_model.specs.declared.row_stop.RowStop.TheVariants as stop
use Rattle.erm_model.specs.RowTransaction.{Law}
use Rattle.erm_machine.specs.declared.event.Kind.{Kind}
use Rattle.erm_machine.specs.declared.event.Kind.TheVariants as kind
use Rattle.erm_machine.specs.declared.limits.TheConstants.{OBJECT_LIMIT}
use Rattle.erm_machine.specs.declared.part.Part.{Part}
use Rattle.erm_machine.specs.declared.version.CellWord.TheVariants as word
use Rattle.erm_machine.specs.Core.{Core, Shared}
use Rattle.erm_machine.specs.Seat.{may_start}
use Rattle.erm_machine.specs.Words.{is_seat, number_of, owner_of}
use Rattle.erm_cells.specs.Took.{IsEndStep}
use Rattle.erm_core_view.specs.Views.{view_of}
use Rattle.erm_core_steps.specs.Claiming.{is_cleared}
use Rattle.erm_core_steps.specs.Reads.{IsAtWork}
use Rattle.erm_core_steps.proofs.Early.{quiet_goes}
use Rattle.erm_core_steps.proofs.Exchanges.{has_head, head_newer}
use Rattle.erm_core_steps.proofs.Quiet.{IsActive, at_work}
use Rattle.erm_core_steps.proofs.Unowned.{owner_owned, unowned}
use Rattle.erm_ends.specs.Ends as ends
use Rattle.erm_rows.specs.Took.{TookMissed, TookNotFree, TookOther, begin_in}
use Rattle.erm_rule.specs.declared.view.Book.{Book}
use Rattle.erm_rule.specs.Went.{IsLoadStep, Took, Went, core_of}
use Rattle.erm_world.specs.Calls.{DidAbort, DidNotClaim, IsNewer, IsOwned}
use Rattle.erm_world.specs.Works.{is_claimed}
use Rattle.erm_world.specs.World.{IsSession, View, Work, phase_at, work_at}
use Rattle.erm_table_world.specs.Stands.{IsStateful, StandsAt}
use Rattle.erm_table_world.proofs.Aborting.{aborted}
use Rattle.erm_table_world.proofs.Beginning.{took_alone}
use Rattle.erm_table_world.proofs.Claiming.{in_hand_is}
use Rattle.erm_table_world.proofs.Loads.{loads_go, went_go}
use Rattle.erm_table_world.proofs.Reading.{at_seat, work}
use Rattle.erm_table_world.proofs.Still.{went_ran}
use Rattle.erm_table_world.proofs.Wholly.{part_is, runs, took_ran}
use Rattle.erm_table_world.proofs.TurnRows.{loads_same}
use Rattle.erm_table_world.proofs.NotReading.{seat_some}

module _ (law : Law) (sessions seat : ℕ) (b : Book) (at : StandsAt law sessions b) (session : IsSession (view_of sessions (core_of b)) seat) (active : phase_at (view_of sessions (core_of b)) seat ≡ phase.Active)
    (seated : is_seat seat ≡ true) (oid : ℕ) (known : oid < OBJECT_LIMIT) where
  on : IsActive seat (core_of b)
  on = at_seat law sessions seat b b at session active seated

  works : IsAtWork seat (core_of b)
  works = at_work on

  -- the end of the transaction after loads
  ended : (m e : Book) → Went law seat IsLoadStep b m → Went law seat IsEndStep m e → ends.DidAbort m.view seat e.view → DidAbort (view_of sessions (core_of b)) seat (view_of sessions (core_of e))
  ended m e loads went did =
      let goes = went_go law sessions seat b m loads at.state works in
      let state = (went_ran law sessions seat IsLoadStep b m loads at.state).state in
      subst (λ (v : View). DidAbort v seat (view_of sessions (core_of e))) goes.unseen.view (aborted law sessions seat m e state on.session seated goes.at.active went did)

  pub owned : (other number : ℕ) (m e : Book) → is_seat other ≡ true → other ≢ seat → is_claimed (work_at (view_of sessions (core_of b)) seat).claims oid ≡ false
      → length (work_at (view_of sessions (core_of b)) seat).claims < WRITE_LIMIT → TookNotFree law seat oid (stop.Owned other number) b m → Went law seat IsEndStep m e
      → ends.DidAbort m.view seat e.view → DidNotClaim (view_of sessions (core_of b)) seat oid (stop.Owned other number) (view_of sessions (core_of e))
  owned other number m e words another none few took went did =
      let entry = took.0 in
      let run = runs law b seat (kind.LoadEntry oid) entry m (took_alone law seat (kind.LoadEntry oid, entry) b m took.2) at.state in
      let is =
      owner_owned sessions seat oid other (core_of b) at.state.sound.sound at.quiet known (seat_some other words) (ap owner_of run.met ∙ took.1.seat_is) another
      in (
        (none, few),
        ended m e (record { steps = (kind.LoadEntry oid, entry) ∷ []; took = took.2; all = (tt, tt) }) went did,
        subst (λ (n : ℕ). IsOwned (view_of sessions (core_of b)) seat oid other n) (ap number_of run.met ∙ took.1.number_is) is,
      )

  pub newer : (stamp : ℕ) (m e : Book) → is_cleared ((core_of b).seats seat).task ≡ false → is_claimed (work_at (view_of sessions (core_of b)) seat).claims oid ≡ false
      → length (work_at (view_of sessions (core_of b)) seat).claims < WRITE_LIMIT → TookNotFree law seat oid (stop.Newer stamp) b m → Went law seat IsEndStep m e
      → ends.DidAbort m.view seat e.view → DidNotClaim (view_of sessions (core_of b)) seat oid (stop.Newer stamp) (view_of sessions (core_of e))
  newer stamp m e left none few took went did =
      let entry = took.0 in
      let head_took = took.2 in
      let steps = head_took.took in
      let c : Core = core_of steps.0 in
      let first = took_alone law seat (kind.LoadEntry oid, entry) b steps.0 steps.1 in
      let one = runs law b seat (kind.LoadEntry oid) entry steps.0 first at.state in
      let two = runs law steps.0 seat (kind.LoadCell head_took.version word.Stamp) stamp m steps.2 one.state in
      let goes = loads_go law sessions seat ((kind.LoadEntry oid, entry) ∷ []) b steps.0 steps.1 (tt, tt) at.state works in
      let head = has_head (core_of b) c seat oid entry works on.starts left one.event (sym one.met) head_took.unowned in
      let hand = in_hand_is c (core_of m) seat head_took.version head.version _ goes.at.active head.is two.event in
      let begins : may_start (c.seats seat).task ≡ true = ap may_start head.is in
      let quiet = quiet_goes sessions seat (core_of b) c at.quiet session one.state.sound.sound goes begins in
      let begin : begin_in b seat ≡ (work_at (view_of sessions c) seat).begin =
      ap (λ (x : Part). x.current.begin) (part_is law b seat at.state seated) ∙ ap (λ (w : Work). w.begin) (sym (work law sessions seat b b at session active seated))
      ∙ ap (λ (v : View). (work_at v seat).begin) (sym goes.unseen.view)
      in
      let low = took.1 in
      let is =
      head_newer sessions seat oid entry stamp c head_took.version one.state.sound.sound quiet (record { session = goes.at.session; active = goes.at.active; starts = begins }) head hand
      (sym two.met) (omega (arith, low, begin))
      in (
        (none, few),
        ended m e (record { steps = (kind.LoadCell head_took.version word.Stamp, stamp) ∷ (kind.LoadEntry oid, entry) ∷ []; took = steps; all = (tt, (tt, tt)) }) went did,
        unowned sessions seat oid (core_of b) at.state.sound.sound at.quiet (ap owner_of one.met ∙ head_took.unowned),
        subst (λ (v : View). IsNewer v seat oid stamp) goes.unseen.view is,
      )

  -- the entry that was seen still stands
  met_again : (entry found number : ℕ) (h m : Book) → ((core_of b).shared.objects oid).entry ≡ entry → (core_of h).shared ≡ (core_of b).shared → IsStateful law h
      → Took law seat ((kind.Claim oid entry number, found) ∷ []) h m → found ≡ entry
  met_again entry found number h m seen same state took =
      let run = runs law h seat (kind.Claim oid entry number) found m (took_alone law seat (kind.Claim oid entry number, found) h m took) state in
      sym run.met ∙ ap (λ (s : Shared). (s.objects oid).entry) same ∙ seen

  other_never : (entry number : ℕ) (why : RowStop) (h m : Book) → ((core_of b).shared.objects oid).entry ≡ entry → (core_of h).shared ≡ (core_of b).shared → IsStateful law h
      → TookOther law seat oid entry number why h m → ⊥
  other_never entry number (stop.Owned other owner) h m seen same state took = took.1 (met_again entry took.0 number h m seen same state took.3)
  other_never entry number (stop.Newer stamp) h m seen same state took = took.1 (met_again entry took.0 number h took.4.0 seen same state took.4.1)
  other_never entry number _ h m seen same state took = took

  pub missed_never : (why : RowStop) (m : Book) → TookMissed law seat oid why b m → ⊥
  missed_never why m took =
      let h : Book = took.at in
      let head = took.free.head in
      let steps = head.took in
      let one = runs law b seat (kind.LoadEntry oid) took.entry steps.0 (took_alone law seat (kind.LoadEntry oid, took.entry) b steps.0 steps.1) at.state in
      let loads : List (Kind × ℕ) = (kind.LoadCell head.version word.Stamp, took.free.stamp) ∷ (kind.LoadEntry oid, took.entry) ∷ [] in
      let same = loads_same law seat loads b h steps (tt, (tt, tt)) at.state in
      let state = (took_ran law sessions seat loads b h steps at.state).state in
      other_never took.entry took.number why h m one.met same state took.other
