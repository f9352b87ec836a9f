-- What a claim and a write of a session of the word table leave of its own view, where they are answered and where they are refused.
use Rattle.std.proofs.Common.{◌≡◌, ℕ, ◌<◌, ⊎_elim, inl, inr, Some, List, [], ◌∷◌, length, refl, sym, ap, ◌∙◌, subst, arith, false, ltb}
use Rattle.std.proofs.lemmas.List.{length-append}
use Rattle.erm_model.specs.declared.limits.TheConstants.{WRITE_LIMIT}
use Rattle.erm_model.specs.declared.row_stop.RowStop.{RowStop}
use Rattle.erm_model.specs.declared.row_stop.RowStop.TheVariants as stop
use Rattle.erm_model.specs.Member.{◌∈◌}
use Rattle.erm_model.specs.RowTransaction.{Law, asked_claim, did_claim, did_write}
use Rattle.erm_machine.specs.declared.part.Part.{Part}
use Rattle.erm_machine.specs.declared.task.Task.{Task}
use Rattle.erm_machine.specs.declared.task.Task.TheVariants as task
use Rattle.erm_machine.specs.Reading.{new_claim}
use Rattle.erm_machine.specs.Seat.{with_task, is_snapshot}
use Rattle.erm_cells.specs.Calls.{taken_part, walked}
use Rattle.erm_core_shown.specs.Shown.{given_up_of}
use Rattle.erm_core_shown.proofs.Given.{given_more}
use Rattle.erm_core_view.specs.Views.{session_of}
use Rattle.erm_core_view.proofs.Snapshots.{starts_plain}
use Rattle.erm_core_view.proofs.Calm.{plain_if}
use Rattle.erm_ends.specs.Ends as ends
use Rattle.erm_rows.specs.Claims as rows
use Rattle.erm_rows.specs.Claims.{given_up_part}
use Rattle.erm_rule.specs.declared.view.Book.{Book}
use Rattle.erm_rule.specs.declared.view.View as rule
use Rattle.erm_rule.specs.Hands.{IsKnown}
use Rattle.erm_rule.specs.Views.{part_in, part_of, with_part}
use Rattle.erm_rule.proofs.Telling.{part_of-changed}
use Rattle.erm_session.specs.Calls.{ClaimsObject, IsUnclaimed, RefusesClaim, WritesRow}
use Rattle.erm_session.specs.Took.{TookClaimStop}
use Rattle.erm_beside.specs.Calls.{After, NotClaimedBeside}
use Rattle.erm_beside.specs.Later.{IsLater}
use Rattle.erm_beside.proofs.Txns.{stopped_after, went_after}
use Rattle.erm_world.specs.Calls.{DidClaim, DidWrite, IsDone, MayClaim}
use Rattle.erm_world.specs.Laws.{TellsCommits}
use Rattle.erm_world.specs.Works.{claiming}
use Rattle.erm_world.specs.World.{GivenUp, View, Work, work_at}
use Rattle.erm_world.specs.World as world
use Rattle.erm_own_view.specs.Own.{own_view}
use Rattle.erm_own_view.proofs.Own.{own_given, own_given_is, own_gives, own_passes}
use Rattle.erm_shared_session.proofs.Claiming as claiming_of
use Rattle.erm_shared_session.proofs.Claiming.{AtWork, Leaves}

module _ (law : Law) (seat tail flushed : ℕ) (b e : Book) (start : e.start ≡ b.start) (held : part_in b.view seat ≡ Some (part_of b.view seat)) (at : AtWork (part_of b.view seat)) where
  abbrev own : View
  own = own_view seat tail flushed b

  abbrev next : View
  next = own_view seat tail flushed e

  abbrev part : Part
  part = part_of b.view seat

  may_claim : (oid : ℕ) → IsUnclaimed part oid → length part.current.writes < WRITE_LIMIT → MayClaim (work_at own seat) oid
  may_claim oid none few = (claiming_of.not_claimed seat tail flushed b e start held at oid none, omega (arith, few, claiming_of.claims_are seat tail flushed b e start held at))

  -- the transaction ended as it was, the seat's call having left this task
  ended : (t : Task) (m : rule.View) → is_snapshot t ≡ false → m ≡ with_part seat (with_task t part) b.view → ends.DidAbort m seat e.view → IsDone own seat (work_at own seat) world.aborts next
  ended t m plain is aborted =
      let leaves : Leaves seat tail flushed b e start held at (with_task t part) (claiming_of.work seat tail flushed b e start held at) = record { over = refl; active = at.active; plain = plain; work_is = refl; given = refl } in
      subst (λ (w : Work). IsDone own seat w world.aborts next) (sym (claiming_of.own_work seat tail flushed b e start held at))
      (claiming_of.done_now seat tail flushed b e start held at (with_task t part) (claiming_of.work seat tail flushed b e start held at) m leaves (part_of-changed b.view seat m (with_task t part) part held is) aborted)

  newer : (oid stamp : ℕ) (m : rule.View) → rows.DidNotClaim b.view seat oid (stop.Newer stamp) m → ends.DidAbort m seat e.view → IsDone own seat (work_at own seat) world.aborts next
  newer oid stamp m did aborted =
      ⊎_elim (λ (met : rows.DidMeetNewer b.view seat oid stamp m). ended (walked met.walk.version met.entry stamp part) m (plain_if (ltb stamp part.current.begin) (task.Found met.walk.version stamp (Some met.entry)) (task.Passed met.walk.version) refl refl) met.walk.view_is aborted)
      (λ (met : rows.DidMissHead b.view seat oid stamp m). ended (task.Passed met.lost.version) m refl met.view_is aborted) did

  -- without a cell the claim was given up, and the transaction is as it was but for that
  lacks : (oid drawn : ℕ) → IsUnclaimed part oid → rows.DidLackCell b.view seat oid drawn e.view → NotClaimedBeside seat oid (stop.CellsFull drawn) own next
  lacks oid drawn none did =
      let taken : Part = taken_part did.took.version did.took.stamp did.took.base part in
      let most = claiming_of.few_claims seat tail flushed b e start held at did.taken taken did.took.known (part_of-changed b.view seat did.taken taken part held did.took.view_is) at.active in
      let left : Part = given_up_part oid did.cut.found.tail did.cut.done.cut part in
      let after : part_of e.view seat ≡ left = part_of-changed b.view seat e.view left part held did.view_is in
      let before : (x : GivenUp) → x ∈ given_up_of part → x ∈ own.given_up seat = λ x m. subst (λ (gs : List GivenUp). x ∈ gs) (sym (own_given_is seat (given_up_of part))) m in
      let number : part.current.number ≡ (work_at own seat).number = sym (ap (λ (w : Work). w.number) (claiming_of.own_work seat tail flushed b e start held at)) in (
        may_claim oid none (omega (arith, most, length-append part.current.writes (new_claim did.took.version did.took.stamp did.took.base ∷ []))),
        record {
          given = own_given seat (given_up_of (part_of e.view seat));
          is =
              own_gives seat tail flushed b e start
              (ap session_of after ∙ claiming_of.session_as seat tail flushed b e start held at left (claiming_of.work seat tail flushed b e start held at) refl at.active refl refl
              ∙ sym (claiming_of.session_as seat tail flushed b e start held at part (claiming_of.work seat tail flushed b e start held at) refl at.active (starts_plain part.task at.starts) refl));
          only = λ x m.
              ⊎_elim (λ (old : x ∈ given_up_of part). inl (before x old))
              (λ (new : x ≡ record { number = part.current.number; oid = oid }). inr (new ∙ ap (λ (n : ℕ). let g : GivenUp = record { number = n; oid = oid } in g) number))
              (given_more part left oid refl refl refl x (subst (λ (gs : List GivenUp). x ∈ gs) (own_given_is seat (given_up_of (part_of e.view seat)) ∙ ap given_up_of after) m));
        },
      )

  -- the window was closed after the claim
  excluded : (oid succ pred : ℕ) (m : rule.View) → IsUnclaimed part oid → rows.DidClaimExcluded b.view seat oid succ pred m → ends.DidAbort m seat e.view → NotClaimedBeside seat oid (stop.Excluded succ pred) own next
  excluded oid succ pred m none did aborted =
      let version = claiming_of.version seat tail flushed b e start held at oid did.row m did.claim in
      let done = claiming_of.done_now seat tail flushed b e start held at (claiming_of.grown seat tail flushed b e start held at oid did.row m did.claim)
      (claiming version (claiming_of.work seat tail flushed b e start held at)) m (claiming_of.grown_leaves seat tail flushed b e start held at oid did.row m did.claim)
      (claiming_of.grown_is seat tail flushed b e start held at oid did.row m did.claim) aborted in (
        (claiming_of.not_claimed seat tail flushed b e start held at oid none, claiming_of.few_before seat tail flushed b e start held at oid did.row m did.claim),
        (version, refl, subst (λ (w : Work). IsDone own seat (claiming version w) world.aborts next) (sym (claiming_of.own_work seat tail flushed b e start held at)) done),
      )

  -- REFUSED
  pub refused : (oid : ℕ) (why : RowStop) → RefusesClaim b.view seat oid why e.view → TookClaimStop law seat oid why b e → NotClaimedBeside seat oid why own next
  refused oid stop.WritesFull refuses took = (
    claiming_of.same_now seat tail flushed b e start held at part (claiming_of.leaves_same seat tail flushed b e start held at) (ap (λ (u : rule.View). part_of u seat) refuses.refused.1),
    claiming_of.not_claimed seat tail flushed b e start held at oid refuses.unclaimed,
    claiming_of.claims_are seat tail flushed b e start held at ∙ refuses.refused.0,
  )
  refused oid (stop.Owned other number) refuses took = (
    may_claim oid refuses.unclaimed took.refused.0.0,
    ended (task.Owned oid other) refuses.refused.between refl refuses.refused.refused.view_is refuses.refused.aborted,
  )
  refused oid (stop.Newer stamp) refuses took = (
    may_claim oid refuses.unclaimed took.refused.0.0,
    newer oid stamp refuses.refused.between refuses.refused.refused refuses.refused.aborted,
  )
  refused oid (stop.CellsFull drawn) refuses took = lacks oid drawn refuses.unclaimed refuses.refused
  refused oid (stop.Excluded succ pred) refuses took = excluded oid succ pred refuses.refused.between refuses.unclaimed refuses.refused.refused refuses.refused.aborted
  refused oid (stop.NotYet other seen) refuses took = absurd refuses.refused
  refused oid stop.ReadsFull refuses took = absurd refuses.refused
  refused oid (stop.OidsFull drawn) refuses took = absurd refuses.refused
  refused oid stop.Memory refuses took = absurd refuses.refused

  pub refused_later : (oid : ℕ) (why : RowStop) → RefusesClaim b.view seat oid why e.view → TookClaimStop law seat oid why b e → IsLater (own.session seat) (next.session seat)
  refused_later oid why refuses took =
      let did : After seat (NotClaimedBeside seat oid why) own next = (own, own_passes seat tail flushed tail flushed b (omega arith) (omega arith), refused oid why refuses took) in
      claiming_of.later_now seat tail flushed b e start held at (stopped_after seat (asked_claim oid) why own next (claiming_of.own_active seat tail flushed b e start held at) did).goes.own

  -- ANSWERED. The own part of the call, and the session in a later state.
  pub record Returned (Did : Type 0) : Type 0 where
    pub did : Did
    pub later : IsLater (own.session seat) (next.session seat)

  pub claim_answered : TellsCommits own → (oid : ℕ) → ClaimsObject b.view seat oid e.view → Returned (After seat (λ u t. DidClaim u seat oid t) own next)
  claim_answered tells oid claims =
      let did : After seat (λ u t. DidClaim u seat oid t) own next = (own, own_passes seat tail flushed tail flushed b (omega arith) (omega arith), claiming_of.did_claim seat tail flushed b e start held at tells oid claims) in record {
        did = did;
        later = claiming_of.later_now seat tail flushed b e start held at (went_after law seat (did_claim oid) own next (claiming_of.own_active seat tail flushed b e start held at) did).goes.own;
      }

  pub write_answered : TellsCommits own → IsKnown b.view → (oid : ℕ) (row : List ℕ) → WritesRow b.view seat oid row e.view → Returned (After seat (λ u t. DidWrite u seat oid row t) own next)
  write_answered tells known oid row writes =
      let did : After seat (λ u t. DidWrite u seat oid row t) own next =
      (own, own_passes seat tail flushed tail flushed b (omega arith) (omega arith), claiming_of.did_write seat tail flushed b e start held at tells known oid row writes) in record {
        did = did;
        later = claiming_of.later_now seat tail flushed b e start held at (went_after law seat (did_write oid row) own next (claiming_of.own_active seat tail flushed b e start held at) did).goes.own;
      }
