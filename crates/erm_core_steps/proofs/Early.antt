-- A state after steps of one session, and the early test.
use Rattle.std.proofs.Common.{◌≡◌, ◌≢◌, ℕ, ◌<◌, ◌≤◌, ◌⊎◌, ⊎_elim, Bool, true, false, ◌&&◌, eqb, leb, ltb, List, [], ◌∷◌, ◌++◌, filter, length, map, Option, Some, None, refl, sym, ap, ◌∙◌, subst, inl, inr, arith}
use Rattle.std.specs.Prelude.{if◌then◌else◌, is_none, not, nat_lt}
use Rattle.std.proofs.lemmas.Bool.{and_parts, cases_Bool, cases_eq, leb-true, ltb-true, or_cases, eqb-true}
use Rattle.erm_model.specs.declared.history.TransactionRecord.{TransactionRecord}
use Rattle.erm_model.specs.declared.history.VersionWritten.{VersionWritten}
use Rattle.erm_model.specs.History.{History, OverwritesFrom, OverwritesReadOf, ReadsFrom}
use Rattle.erm_model.specs.Member.{◌∈◌}
use Rattle.erm_machine.specs.declared.attempt.Attempt.{Attempt}
use Rattle.erm_machine.specs.declared.attempt.Claim.{Claim}
use Rattle.erm_machine.specs.declared.part.Part.{Part}
use Rattle.erm_machine.specs.declared.place.Place.{Place}
use Rattle.erm_machine.specs.declared.place.Place.TheVariants.{Active, Sealed}
use Rattle.erm_machine.specs.declared.task.Task.{Task}
use Rattle.erm_machine.specs.declared.task.Task.TheVariants as task
use Rattle.erm_machine.specs.declared.version.VersionAt.{VersionAt}
use Rattle.erm_machine.specs.Core.{Core}
use Rattle.erm_machine.specs.Decided.{MayCommit, RunningFits, counted, written_of}
use Rattle.erm_machine.specs.Decided as machine
use Rattle.erm_machine.specs.Facts.{Holds, HoldsBelow, IsCurrent, over_of}
use Rattle.erm_machine.specs.Seat.{is_active, may_start}
use Rattle.erm_machine.specs.Snapshot.{NoneInHand}
use Rattle.erm_machine.specs.Sound.{Sound}
use Rattle.erm_machine.proofs.Holders.{holds_from, stands_at}
use Rattle.erm_machine.proofs.Listed.{∈-filter, ∈-map, ∈-map_from}
use Rattle.erm_model.proofs.Members.{∈-behind}
use Rattle.erm_world.specs.Calls.{Becomes, DidAbort, IsAhead, IsClearOf, IsDone, IsShut, Works}
use Rattle.erm_world.specs.World.{Finished, IsSession, Opening, Session, View, Work, history_of, history_upto, work_at}
use Rattle.erm_world.specs.World as world
use Rattle.erm_world.specs.Works.{is_claimed}
use Rattle.erm_world.proofs.Saves.{becomes_then}
use Rattle.erm_core_view.specs.Views.{IsBetween, IsQuiet, stand_of, view_of, work_of}
use Rattle.erm_core_view.proofs.Commits.{has_the_history}
use Rattle.erm_core_view.proofs.Shown.{work_active}
use Rattle.erm_core_steps.specs.Reads.{GoesOn, closed_window}
use Rattle.erm_core_steps.proofs.Aborts.{unsealed}
use Rattle.erm_core_steps.proofs.Histories.{history_same}
use Rattle.erm_core_steps.proofs.Quiet.{IsActive, quiet_after}
use Rattle.erm_core_view.proofs.Claimed.{settles_with_all}
use Rattle.erm_core_view.proofs.Snapshots.{never_sealed, starts_new}
use Rattle.erm_core_steps.proofs.Places.{active_between}

-- a state after steps of one session that is active, where a call may start, is one between two calls
pub quiet_since : (sessions seat : ℕ) (b d : Core) → IsQuiet sessions b → IsSession (view_of sessions b) seat → Sound d → ((q : ℕ) → q ≢ seat → d.seats q ≡ b.seats q)
    → (view_of sessions d).opening ≡ (view_of sessions b).opening → (view_of sessions d).tail ≡ (view_of sessions b).tail
    → (view_of sessions d).flushed ≡ (view_of sessions b).flushed → is_active (d.seats seat).place ≡ true → may_start (d.seats seat).task ≡ true → IsQuiet sessions d
quiet_since sessions seat b d quiet session sound others opened tail flushed active starts =
    let current = unsealed (d.seats seat).place (d.seats seat).current active (sound.own seat).ranges.current in
    let stamp = current.stamp in
    let opening : d.shared.opening ≡ b.shared.opening = ap (λ (o : Opening). o.tail) opened in
    let low = quiet.flushed.0 in
    let high = quiet.flushed.1 in
    quiet_after sessions seat b d quiet session others opening (active_between (d.seats seat).place (d.seats seat).task active starts)
    (λ some. absurd (omega (arith, some, stamp))) (omega (arith, opening, flushed, low), omega (arith, tail, flushed, high))

pub quiet_goes : (sessions seat : ℕ) (b d : Core) → IsQuiet sessions b → IsSession (view_of sessions b) seat → Sound d → GoesOn sessions seat b d
    → may_start (d.seats seat).task ≡ true → IsQuiet sessions d
quiet_goes sessions seat b d quiet session sound goes starts =
    quiet_since sessions seat b d quiet session sound goes.unseen.others (ap (λ (v : View). v.opening) goes.unseen.view) (ap (λ (v : View). v.tail) goes.unseen.view)
    (ap (λ (v : View). v.flushed) goes.unseen.view) goes.at.active starts

-- ONE THAT IS AHEAD holds its claims below the bound.
claims_listed : (ws : List Claim) (oid : ℕ) → is_claimed (map written_of ws) oid ≡ true → (w : Claim) × (w ∈ ws) × (w.version.oid ≡ oid)
claims_listed [] oid e = absurd (cc)
claims_listed (w ∷ ws) oid e =
    ⊎_elim
    (λ (here : eqb w.version.oid oid ≡ true). (w, (0, refl), eqb-true w.version.oid oid here))
    (λ (there : is_claimed (map written_of ws) oid ≡ true). let r = claims_listed ws oid there in (r.0, ∈-behind w ws r.0 r.1, r.2))
    (or_cases (eqb w.version.oid oid) (is_claimed (map written_of ws) oid) e)

-- a claim of a transaction none of whose claims is over is held
pub claimed_holds : (oid other : ℕ) (c : Core) → Sound c → over_of (c.seats other).place (c.seats other).task (length (c.seats other).current.writes) ≡ 0
    → is_claimed (work_of (c.seats other).current).claims oid ≡ true → Holds (c.seats other) oid
claimed_holds oid other c sound none claimed =
    let x = c.seats other in
    let w = claims_listed x.current.writes oid claimed in
    let at = stands_at x.current w.0 w.1 in
    holds_from c other oid
    (record {
      place = at.place;
      within = at.within;
      held = (sound.own other).claims.held at.place at.within (omega (arith, none));
      oid_is = ap (λ (v : Claim). v.version.oid) at.is ∙ w.2;
    })

pub record SealedPart (pl : Place) (t : Attempt) (u : Task) (w : Work) (seen : ℕ) : Type 0 where
  pub stamp : t.stamp ≡ seen
  pub positive : 0 < seen
  pub none_over : over_of pl u (length t.writes) ≡ 0
  pub work : work_of t ≡ w

sealed_part : (pl : Place) (t : Attempt) (u : Task) (w : Work) (seen : ℕ) → stand_of pl u t ≡ world.sealed w seen → IsBetween pl u → IsCurrent pl t → SealedPart pl t u w seen
sealed_part (Active tail) t u w seen e between is = absurd (never_sealed u t w seen e)
sealed_part (Sealed tail stamp) t u w seen e between is =
    let same : stamp ≡ seen = cc in
    let works : work_of t ≡ w = cc in
    record {
      stamp = is.stamp_is ∙ same;
      positive = subst (λ n. 0 < n) same is.positive;
      none_over = settles_with_all tail stamp u (length t.writes) between;
      work = works;
    }
sealed_part _ t u w seen e between is = absurd (cc)

pub ahead_holds : (sessions seat oid bound other seen : ℕ) (c : Core) → Sound c → IsQuiet sessions c → IsAhead (view_of sessions c) seat oid bound other seen
    → HoldsBelow (c.seats other) oid bound
ahead_holds sessions seat oid bound other seen c sound quiet ahead =
    let x = c.seats other in
    let sealed = sealed_part x.place x.current x.task ahead.work seen ahead.stand (quiet.between other ahead.session.0 ahead.session.1) (sound.own other).ranges.current in
    let stamp = sealed.stamp in
    let positive = sealed.positive in
    let below = ahead.below in (
      omega (arith, stamp, positive),
      omega (arith, stamp, below),
      claimed_holds oid other c sound sealed.none_over (ap (λ (w : Work). is_claimed w.claims oid) sealed.work ∙ ahead.claims),
    )

-- so nobody is, where a version was found
pub found_clear : (sessions seat : ℕ) (b c : Core) (v : VersionAt) (stamp : ℕ) (head : Option ℕ) → Sound b → IsQuiet sessions b → Sound c → GoesOn sessions seat b c
    → (c.seats seat).task ≡ task.Found v stamp head → (c.seats seat).current.begin ≡ (work_at (view_of sessions b) seat).begin
    → IsClearOf (view_of sessions b) seat v.oid (work_at (view_of sessions b) seat).begin
found_clear sessions seat b c v stamp head sound quiet after goes is begins other seen ahead =
    let another = ahead.another in
    let holds = ahead_holds sessions seat v.oid (work_at (view_of sessions b) seat).begin other seen b sound quiet ahead in
    let here : HoldsBelow (c.seats other) v.oid (c.seats seat).current.begin =
    subst (λ (n : ℕ). HoldsBelow (c.seats other) v.oid n) (sym begins)
    (subst (λ (x : Part). HoldsBelow x v.oid (work_at (view_of sessions b) seat).begin) (sym (goes.unseen.others other another)) holds)
    in
    let none : NoneInHand (c.seats seat).current.begin (task.Found v stamp head) other (c.seats other) =
    subst (λ (u : Task). NoneInHand (c.seats seat).current.begin u other (c.seats other)) is (after.both seat other (λ same. another (sym same))).snapshot.in_hand
    in
    none here

-- THE EARLY TEST. A window that is closed is so by commits.
pub record IsClosed (t : Attempt) (succ pred : ℕ) : Type 0 where
  pub some : 0 < t.succ
  pub closed : t.succ ≤ t.pred
  pub succ_is : t.succ ≡ succ
  pub pred_is : t.pred ≡ pred

pub closed_is : (t : Attempt) (succ pred : ℕ) → closed_window t ≡ Some (succ, pred) → IsClosed t succ pred
closed_is t succ pred e =
    ⊎_elim
    (λ (shut : (ltb 0 t.succ && leb t.succ t.pred) ≡ true).
    let parts = and_parts (ltb 0 t.succ) (leb t.succ t.pred) shut in
    let both : (t.succ, t.pred) ≡ (succ, pred) = pair_of _ (t.succ, t.pred) (succ, pred) shut e in
    record {
      some = ltb-true 0 t.succ parts.0;
      closed = leb-true t.succ t.pred parts.1;
      succ_is = ap (λ (p : ℕ × ℕ). p.0) both;
      pred_is = ap (λ (p : ℕ × ℕ). p.1) both;
    })
    (λ (open_still : (ltb 0 t.succ && leb t.succ t.pred) ≡ false). absurd (none_of _ (t.succ, t.pred) (succ, pred) open_still e))
    (cases_Bool (ltb 0 t.succ && leb t.succ t.pred))
  where
    pair_of : (b : Bool) (p q : ℕ × ℕ) → b ≡ true → (if b then Some p else None) ≡ Some q → p ≡ q
    pair_of true p q is e = cc
    pair_of false p q is e = absurd (cc)

    none_of : (b : Bool) (p q : ℕ × ℕ) → b ≡ false → (if b then Some p else None) ≡ Some q → ⊥
    none_of true p q is e = absurd (cc)
    none_of false p q is e = absurd (cc)

may_commit : (pl : Place) (u : Task) → is_active pl ≡ true → may_start u ≡ true → MayCommit pl u
may_commit (Active tail) (task.Ends raised ended step cleared) e starts = absurd (cc)
may_commit (Active tail) u e starts = tt
may_commit _ u e starts = absurd (cc)

-- claims that count are among the transaction's
counted_in : (b : Bool) (t : Attempt) (w : VersionWritten) → w ∈ map written_of (if b then t.writes else filter (λ c. not (is_none c.own)) t.writes) → w ∈ map written_of t.writes
counted_in true t w m = m
counted_in false t w m =
    let c = ∈-map written_of (filter (λ c. not (is_none c.own)) t.writes) w m in
    subst (λ (v : VersionWritten). v ∈ map written_of t.writes) c.2 (∈-map_from written_of t.writes c.0 (∈-filter (λ (d : Claim). not (is_none d.own)) c.0 t.writes c.1).0)

-- what counts for those counts for all
counts_all : (seat : ℕ) (t : Attempt) (u : TransactionRecord)
    → (ReadsFrom (machine.record_of seat (counted t)) u ⊎ OverwritesFrom (machine.record_of seat (counted t)) u ⊎ OverwritesReadOf (machine.record_of seat (counted t)) u)
    → (ReadsFrom (world.record_of seat (work_of t) 0 0 0) u ⊎ OverwritesFrom (world.record_of seat (work_of t) 0 0 0) u ⊎ OverwritesReadOf (world.record_of seat (work_of t) 0 0 0) u)
counts_all seat t u counts =
    ⊎_elim
    (λ (reads : ReadsFrom (machine.record_of seat (counted t)) u). inl reads)
    (λ (more : OverwritesFrom (machine.record_of seat (counted t)) u ⊎ OverwritesReadOf (machine.record_of seat (counted t)) u).
    inr (⊎_elim
    (λ (over : OverwritesFrom (machine.record_of seat (counted t)) u). inl (over.0, counted_in (nat_lt 0 t.stamp) t over.0 over.1, over.2, over.3))
    (λ (read : OverwritesReadOf (machine.record_of seat (counted t)) u).
    let over = read.2 in inr (read.0, read.1, (over.0, counted_in (nat_lt 0 t.stamp) t over.0 over.1, over.2, over.3)))
    more))
    counts

pub shut_is : (sessions seat succ pred : ℕ) (c : Core) → Sound c → IsQuiet sessions c → IsActive seat c → closed_window (c.seats seat).current ≡ Some (succ, pred)
    → IsShut (view_of sessions c) seat (work_at (view_of sessions c) seat) succ pred
shut_is sessions seat succ pred c sound quiet at e =
    let x = c.seats seat in
    let closed = closed_is x.current succ pred e in
    let current = unsealed x.place x.current at.active (sound.own seat).ranges.current in
    let runs : RunningFits (machine.history_of c.seats) c.shared.tail seat x = sound.common.decided.running seat current.decision (may_commit x.place x.task at.active at.starts) in
    let stamp = current.stamp in
    let some = closed.some in
    let below = closed.closed in
    let history = has_the_history sessions c sound quiet in
    let succ_is = closed.succ_is in
    let pred_is = closed.pred_is in
    subst (λ (w : Work). IsShut (view_of sessions c) seat w succ pred) (sym (work_active x.place x.task x.current at.active (starts_new x.task x.current at.starts)))
    (⊎_elim
    (λ (own : x.current.succ ≡ x.current.stamp). absurd (omega (arith, own, stamp, some)))
    (λ (over : (u : TransactionRecord) × (u ∈ machine.history_of c.seats) × (u.stamp < machine.bound_of c.shared.tail x.current) × OverwritesReadOf u (machine.record_of seat x.current) × (x.current.succ ≡ u.succ)).
    ⊎_elim
    (λ (none : x.current.pred ≡ 0). absurd (omega (arith, none, some, below)))
    (λ (before : (u : TransactionRecord) × (u ∈ machine.history_of c.seats) × (u.stamp < machine.bound_of c.shared.tail x.current) × (x.current.pred ≡ u.stamp)
    × (ReadsFrom (machine.record_of seat (counted x.current)) u ⊎ OverwritesFrom (machine.record_of seat (counted x.current)) u
    ⊎ OverwritesReadOf (machine.record_of seat (counted x.current)) u)).
    record {
      over = over.0;
      over_committed = subst (λ (h : History). over.0 ∈ h) (sym history) over.1;
      overwrites = over.3;
      succ_is = sym over.4 ∙ succ_is;
      before = before.0;
      before_committed = subst (λ (h : History). before.0 ∈ h) (sym history) before.1;
      counts = counts_all seat x.current before.0 before.4;
      pred_is = sym before.3 ∙ pred_is;
      closed = omega (arith, below, succ_is, pred_is);
    })
    runs.pred_attained)
    runs.succ_attained)

-- A CALL THAT ENDS the transaction, after another one that went on.
pub works_history : (v t : View) (seat : ℕ) (w : Work) → Works v seat w t → history_of t ≡ history_of v
works_history v t seat w works =
    ap (λ (o : Opening). history_upto o.sessions t.session) works.opening
    ∙ history_same v.opening.sessions v.session t.session (λ q above within.
    ⊎_elim
    (λ (here : q ≡ seat). subst (λ (n : ℕ). (t.session n).over ≡ (v.session n).over) (sym here) (ap (λ (s : Session). s.over) works.own))
    (λ (there : q ≡ seat → ⊥). ap (λ (s : Session). s.over) (works.others q there))
    (cases_eq q seat))

pub works_work : (v t : View) (seat : ℕ) (w : Work) → Works v seat w t → work_at t seat ≡ w
works_work v t seat w works = ap (λ (s : Session). world.work_of s.stand) works.own

pub shut_before : (v t : View) (seat : ℕ) (w : Work) (succ pred : ℕ) → Works v seat w t → IsShut t seat (work_at t seat) succ pred → IsShut v seat w succ pred
shut_before v t seat w succ pred works shut =
    let here : IsShut t seat w succ pred = subst (λ (u : Work). IsShut t seat u succ pred) (works_work v t seat w works) shut in
    let history = works_history v t seat w works in
    record {
      over = here.over;
      over_committed = subst (λ (h : History). here.over ∈ h) history here.over_committed;
      overwrites = here.overwrites;
      succ_is = here.succ_is;
      before = here.before;
      before_committed = subst (λ (h : History). here.before ∈ h) history here.before_committed;
      counts = here.counts;
      pred_is = here.pred_is;
      closed = here.closed;
    }

pub done_before : (v t u : View) (seat : ℕ) (w : Work) → Works v seat w t → DidAbort t seat u → IsDone v seat w world.aborts u
done_before v t u seat w works done =
    let over : (t.session seat).over ≡ (v.session seat).over = ap (λ (s : Session). s.over) works.own in
    let ended : List Finished → Work → Session = λ fs x. record { over = fs ++ record { work = x; fate = world.aborts } ∷ []; stand = world.idle } in
    becomes_then v seat (record { over = (v.session seat).over; stand = world.active w }) t (ended (v.session seat).over w) u (λ active. absurd (cc active)) works
    (subst (λ (s : Session). Becomes t seat s u)
    (ap (λ (fs : List Finished). ended fs (work_at t seat)) over ∙ ap (λ (x : Work). ended (v.session seat).over x) (works_work v t seat w works)) done)

pub works_phase : (v t : View) (seat : ℕ) (w : Work) → Works v seat w t → (t.session seat).stand ≡ world.active w
works_phase v t seat w works = ap (λ (s : Session). s.stand) works.own
