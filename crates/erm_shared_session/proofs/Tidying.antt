-- What a tidy of a session of the word table returns: the chain of an object that is claimed, or is now, was cut; and how many cells that freed.
use Rattle.std.proofs.Common.{◌≡◌, ℕ, ◌<◌, ◌≤◌, ⊎_elim, true, List, [], ◌∷◌, length, Result, Ok, Err, IfOk, Some, refl, sym, ap, ◌∙◌, subst, arith}
use Rattle.std.proofs.lemmas.List.{length-append}
use Rattle.erm_model.specs.declared.limits.TheConstants.{TABLE_CELLS}
use Rattle.erm_model.specs.declared.row_stop.RowStop.{RowStop}
use Rattle.erm_model.specs.RowTransaction.{Law, did_claim}
use Rattle.erm_machine.specs.declared.task.Task.TheVariants as task
use Rattle.erm_machine.specs.declared.event.Kind.{Kind}
use Rattle.erm_machine.specs.declared.limits.TheConstants.{ANNOUNCERS}
use Rattle.erm_machine.specs.declared.part.Part.{Part}
use Rattle.erm_machine.specs.Core.{Core, no_claim}
use Rattle.erm_machine.specs.Sound.{Sound}
use Rattle.erm_machine.specs.Words.{is_session}
use Rattle.erm_core_steps.proofs.Stored.{claimed_from}
use Rattle.erm_rows.specs.Claims.{DidCutChain, tidied_part}
use Rattle.erm_rows.specs.Tidies.{TookTidy}
use Rattle.erm_rows.specs.Took.{TookClaim}
use Rattle.erm_rule.specs.declared.view.Book.{Book}
use Rattle.erm_rule.specs.declared.view.View as rule
use Rattle.erm_rule.specs.Views.{part_in, part_of}
use Rattle.erm_rule.specs.Went.{Took}
use Rattle.erm_rule.proofs.Telling.{changed_here, part_of-changed}
use Rattle.erm_session.specs.Calls.{IsUnclaimed, TidiesObject, again_tidied, now_claimed}
use Rattle.erm_session.specs.Took.{TookAnyClaim, TookAnyTidy}
use Rattle.erm_table_world.proofs.Taking.{entry_went}
use Rattle.erm_beside.specs.Calls.{After}
use Rattle.erm_beside.proofs.Txns.{went_after}
use Rattle.erm_world.specs.Calls.{DidClaim}
use Rattle.erm_world.specs.Calls as calls
use Rattle.erm_world.specs.Laws.{TellsCommits}
use Rattle.erm_world.specs.Works.{is_claimed}
use Rattle.erm_world.specs.World.{View, Work}
use Rattle.erm_own_view.specs.Own.{own_view}
use Rattle.erm_own_view.proofs.Own.{own_passes}
use Rattle.erm_shared_session.proofs.Claiming as claiming_of
use Rattle.erm_shared_session.proofs.Claiming.{AtWork, Leaves}
use Rattle.erm_shared_session.proofs.Claimed.{Returned}
use Rattle.erm_core_view.proofs.Calm.{plain_if}

-- THE SEAT'S PART is in the view
abbrev pub Held : ℕ → Book → Type 0
Held seat z = part_in z.view seat ≡ Some (part_of z.view seat)

-- and stays there after steps of the seat
pub held_took : (law : Law) (seat : ℕ) (steps : List (Kind × ℕ)) (b e : Book) → Held seat b → Took law seat steps b e → Held seat e
held_took law seat [] b e held same = subst (Held seat) (sym same) held
held_took law seat (s ∷ steps) b e held took =
    let before = held_took law seat steps b took.0 held took.1 in
    let told = took.2.under.told in
    changed_here took.0.view seat e.view told.part (part_of took.0.view seat) before told.view_is
    ∙ ap (λ (x : Part). Some x) (sym (part_of-changed took.0.view seat e.view told.part (part_of took.0.view seat) before told.view_is))

low_seat : (p : ℕ) → is_session p ≡ true → p < ANNOUNCERS
low_seat p session = grind (arith, session)

-- no seat has more spare cells than there are
abbrev pub SparesFit : Type 0
SparesFit = (c : Core) (p : ℕ) → Sound c → c.shared.cell_limit ≡ TABLE_CELLS → p < ANNOUNCERS → length (c.seats p).spare ≤ TABLE_CELLS

module _ (fit : SparesFit) (seat : ℕ) (session : is_session seat ≡ true) where
  -- the cells that were cut off are among the seat's spare ones
  cut_few : (count : ℕ) (v w : rule.View) → part_in v seat ≡ Some (part_of v seat) → DidCutChain v seat count w → count ≤ TABLE_CELLS
  cut_few count v w held did =
      let y : Part = tidied_part did.found.tail did.done.cut (part_of v seat) in
      let here : did.known.core.seats seat ≡ y = did.known.is_view seat y (changed_here v seat w y (part_of v seat) held did.view_is) in
      let few = fit did.known.core seat did.known.sound did.known.limit (low_seat seat session) in
      omega (arith, few, ap (λ (z : Part). length z.spare) here, length-append (part_of v seat).spare did.done.cut, did.done.count_is)

  any_few : (law : Law) (oid count : ℕ) (b e : Book) → Held seat b → TookAnyTidy law seat oid count b e → count ≤ TABLE_CELLS
  any_few law oid count b e held took =
      ⊎_elim
      (λ (tidied : TookTidy law seat oid count b e).
      let told = tidied.step.under.told in
      let now : Held seat tidied.at =
      changed_here b.view seat tidied.at.view told.part (part_of b.view seat) held told.view_is
      ∙ ap (λ (x : Part). Some x) (sym (part_of-changed b.view seat tidied.at.view told.part (part_of b.view seat) held told.view_is))
      in
      cut_few count tidied.at.view e.view now tidied.cut.did)
      (λ (claims : IsUnclaimed (part_of b.view seat) oid × TookAnyClaim law seat oid count b e).
      ⊎_elim (λ (none : (count ≡ 0) × (e ≡ b)). omega (arith, none.0))
      (λ (claim : TookClaim law seat oid count b e).
      let went = entry_went law seat oid claim.head b claim.taken claim.entry in
      cut_few count claim.taken.view claim.tidied.view (held_took law seat went.steps b claim.taken held went.took) claim.cut.did) claims.1) took

  -- the same of what a call returned
  pub tidied_few : (law : Law) (oid : ℕ) (b e : Book) → Held seat b → (r : Result ℕ RowStop) → IfOk r (λ cut. TookAnyTidy law seat oid cut b e) → IfOk r (λ cut. cut ≤ TABLE_CELLS)
  tidied_few law oid b e held (Ok cut) took = any_few law oid cut b e held took
  tidied_few law oid b e held (Err why) took = tt

module _ (law : Law) (seat tail flushed : ℕ) (b e : Book) (start : e.start ≡ b.start) (held : part_in b.view seat ≡ Some (part_of b.view seat)) (at : AtWork (part_of b.view seat)) where
  abbrev own : View
  own = own_view seat tail flushed b

  abbrev next : View
  next = own_view seat tail flushed e

  abbrev part : Part
  part = part_of b.view seat

  did_tidy : TellsCommits own → (oid count : ℕ) → TidiesObject b.view seat oid count e.view → DidClaim own seat oid next
  did_tidy tells oid count (again_tidied has did) =
      let y : Part = tidied_part did.cut.found.tail did.cut.done.cut part in
      let leaves : Leaves seat tail flushed b e start held at y (claiming_of.work seat tail flushed b e start held at) = record { over = refl; active = at.active; plain = plain_if _ task.Draws task.Rest refl refl; work_is = refl; given = refl } in
      calls.before (claiming_of.same_now seat tail flushed b e start held at y leaves (part_of-changed b.view seat e.view y part held did.view_is))
      (ap (λ (w : Work). is_claimed w.claims oid) (claiming_of.own_work seat tail flushed b e start held at) ∙ claimed_from part.current.writes has.0 no_claim oid has.1 has.2)
  did_tidy tells oid count (now_claimed none claims) = claiming_of.did_claim seat tail flushed b e start held at tells oid claims

  pub tidy_answered : TellsCommits own → (oid count : ℕ) → TidiesObject b.view seat oid count e.view → Returned law seat tail flushed b e start held at (After seat (λ u t. DidClaim u seat oid t) own next)
  tidy_answered tells oid count tidies =
      let did : After seat (λ u t. DidClaim u seat oid t) own next = (own, own_passes seat tail flushed tail flushed b (omega arith) (omega arith), did_tidy tells oid count tidies) in record {
        did = did;
        later = claiming_of.later_now seat tail flushed b e start held at (went_after law seat (did_claim oid) own next (claiming_of.own_active seat tail flushed b e start held at) did).goes.own;
      }
