-- A row is stored, word after word.
use Rattle.std.proofs.Common.{◌≡◌, ◌≢◌, ℕ, zero, suc, ◌+◌, ◌<◌, ◌≤◌, Bool, true, false, ◌||◌, eqb, List, [], ◌∷◌, length, map, take, drop, get_or, Some, refl, sym, ap, ◌∙◌, subst, arith, length-set, get_or-set_same, add-one, drop-cons}
use Rattle.std.proofs.lemmas.Bool.{cond-false, eq-eqb, ne_eqb, or_left, or_right}
use Rattle.std.proofs.lemmas.List.{drop_all, map-append, take_more}
use Rattle.erm_model.specs.declared.TheConstants.{ROW_WORDS}
use Rattle.erm_model.specs.declared.history.VersionWritten.{VersionWritten}
use Rattle.erm_machine.specs.declared.attempt.Claim.{Claim}
use Rattle.erm_machine.specs.declared.event.Kind.TheVariants as kind
use Rattle.erm_machine.specs.declared.part.Part.{Part}
use Rattle.erm_machine.specs.declared.task.Task.{Task}
use Rattle.erm_machine.specs.declared.task.Task.TheVariants as task
use Rattle.erm_machine.specs.declared.version.CellWord.TheVariants as word
use Rattle.erm_machine.specs.Claims.{claims_over}
use Rattle.erm_machine.specs.Core.{Core, claim_at, no_claim}
use Rattle.erm_machine.specs.Decided.{written_of}
use Rattle.erm_machine.specs.Facts.{over_of}
use Rattle.erm_machine.specs.Seat.{is_active, is_own, may_start, is_snapshot}
use Rattle.erm_machine.specs.Sound.{Sound}
use Rattle.erm_machine.specs.Step.{after_event, run_from}
use Rattle.erm_machine.proofs.Frames.{put_same}
use Rattle.erm_machine.proofs.Guards.{either_way}
use Rattle.erm_model.specs.declared.outcome.Phase.TheVariants as phase
use Rattle.erm_world.specs.Calls.{DidClaim, Works, before, now}
use Rattle.erm_world.specs.World.{Finished, IsSession, Session, View, Work, phase_at, work_at}
use Rattle.erm_world.specs.World as world
use Rattle.erm_world.specs.Works.{claiming, is_claimed, setting}
use Rattle.erm_world.proofs.Saves.{works_then}
use Rattle.erm_core_calls.specs.Going.{own_at}
use Rattle.erm_core_calls.proofs.GoesClaims.{claim_cell}
use Rattle.erm_core_view.specs.Steps.{MayWrite, stores_from}
use Rattle.erm_core_view.proofs.Chained as chained
use Rattle.erm_core_view.specs.Views.{IsQuiet, view_of}
use Rattle.erm_core_view.proofs.Rows.{Ready, after_one, after_word, claim_then, goes_one, ready_first, still_own, writes, writes_rest}
use Rattle.erm_core_steps.specs.Claiming.{IsStoring, StandsAt}
use Rattle.erm_core_steps.specs.Reads.{closed_window}
use Rattle.erm_core_steps.specs.Steps.{IsTaken}
use Rattle.erm_core_steps.proofs.Early.{quiet_since, works_work}
use Rattle.erm_core_steps.proofs.Quiet.{IsActive}
use Rattle.erm_core_steps.proofs.Readings.{still_active, still_session}
use Rattle.erm_core_turns.proofs.Turns.{one_after}
use Rattle.erm_core_steps.proofs.Rows.{claimed-push}
use Rattle.erm_core_view.proofs.Claimed.{starts_with_all}
use Rattle.erm_core_view.proofs.Snapshots.{starts_between, starts_plain}
use Rattle.erm_core_cells.proofs.CellsCalls.{starts_bare}
use Rattle.erm_core_steps.proofs.Places.{active_at}

-- THE CLAIM of an object stands among the transaction's.
pub unclaimed_more : (ws : List Claim) (i : ℕ) (d : Claim) (oid : ℕ) → i < length ws → is_claimed (map written_of (take i ws)) oid ≡ false
    → ((get_or ws i d).version.oid ≡ oid → ⊥) → is_claimed (map written_of (take (i + 1) ws)) oid ≡ false
unclaimed_more ws i d oid within none other =
    let c = get_or ws i d in
    ap (λ (us : List Claim). is_claimed (map written_of us) oid) (take_more ws i d within)
    ∙ ap (λ (us : List VersionWritten). is_claimed us oid) (map-append written_of (take i ws) (c ∷ [])) ∙ claimed-push (map written_of (take i ws)) (written_of c) oid
    ∙ ap (λ (b : Bool). b || (eqb c.version.oid oid || false)) none ∙ ap (λ (b : Bool). b || false) (ne_eqb c.version.oid oid other)

pub claimed_from : (ws : List Claim) (i : ℕ) (d : Claim) (oid : ℕ) → i < length ws → (get_or ws i d).version.oid ≡ oid → is_claimed (map written_of ws) oid ≡ true
claimed_from [] i d oid within here = absurd (omega arith)
claimed_from (w ∷ ws) zero d oid within here = or_left (eqb w.version.oid oid) _ (eq-eqb w.version.oid oid here)
claimed_from (w ∷ ws) (suc i) d oid within here = or_right (eqb w.version.oid oid) _ (claimed_from ws i d oid (omega arith) here)

-- WORD BY WORD
module _ (seat place cell k value : ℕ) (c : Core) (s : IsStoring seat place cell k c) (below : k < 16) where
  ready : Ready place k (c.seats seat).task
  ready = ready_at k (c.seats seat).task s.starts s.goes_on below
    where
      ready_at : (n : ℕ) (t : Task) → (n ≡ 0 → may_start t ≡ true) → (0 < n → n < 16 → t ≡ task.Writes place n) → n < 16 → Ready place n t
      ready_at zero t starts goes low = ready_first place t (starts refl)
      ready_at (suc n) t starts goes low = subst (λ (u : Task). Ready place (suc n) u) (sym (goes (omega arith) low)) (refl, refl)

  one : after_event c seat (kind.StoreCell place cell (word.Row k) value) ≡ Some (after_one seat place k value c (c.seats seat))
  one = goes_one seat place cell k value c (c.seats seat) refl s.at.active ready below s.within s.own

  pub store_taken : IsTaken c seat (kind.StoreCell place cell (word.Row k) value)
  store_taken = (after_one seat place k value c (c.seats seat), one)

  pub store_next : (d : Core) → after_event c seat (kind.StoreCell place cell (word.Row k) value) ≡ Some d → IsStoring seat place cell (k + 1) d
  store_next d e =
      let x = c.seats seat in
      let w = claim_at x.current place in
      let y = after_word place k value x in
      let is : d.seats seat ≡ y = ap (λ (to : Core). to.seats seat) (one_after c d (after_one seat place k value c x) seat (kind.StoreCell place cell (word.Row k) value) one e) ∙ put_same c.seats seat y in
      let here = get_or-set_same x.current.writes place (claim_then k value w) no_claim s.within in
      record {
        at = record {
          session = s.at.session;
          active = ap (λ (z : Part). is_active z.place) is ∙ s.at.active;
          plain = ap (λ (z : Part). is_snapshot z.task) is ∙ either_way (λ (u : Task). is_snapshot u ≡ false) (eqb (k + 1) 16) task.Rest (task.Writes place (k + 1)) (λ _. refl) (λ _. refl);
        };
        within = let n = length-set x.current.writes place (claim_then k value w) in let m = ap (λ (z : Part). length z.current.writes) is in let h = s.within in omega (arith, n, m, h);
        own =
            ap (λ (z : Part). is_own cell (claim_at z.current place).own) is ∙ ap (λ (u : Claim). is_own cell u.own) here ∙ still_own cell k value w.own s.own;
        starts = λ none. absurd (omega (arith, none));
        goes_on = λ some more.
            ap (λ (z : Part). z.task) is
            ∙ cond-false (eqb (k + 1) 16) task.Rest (task.Writes place (k + 1)) (ne_eqb (k + 1) 16 (λ (last : k + 1 ≡ 16). omega (arith, last, more)));
      }

  -- the window known so far stays
  pub store_window : (d : Core) → after_event c seat (kind.StoreCell place cell (word.Row k) value) ≡ Some d
      → closed_window (d.seats seat).current ≡ closed_window (c.seats seat).current
  store_window d e =
      let x = c.seats seat in
      let y = after_word place k value x in
      let is : d.seats seat ≡ y = ap (λ (to : Core). to.seats seat) (one_after c d (after_one seat place k value c x) seat (kind.StoreCell place cell (word.Row k) value) one e) ∙ put_same c.seats seat y in
      ap (λ (z : Part). closed_window z.current) is

  pub store_run : (d : Core) (row : List ℕ) → after_event c seat (kind.StoreCell place cell (word.Row k) value) ≡ Some d → k < length row → get_or row k 0 ≡ value
      → run_from c (stores_from seat place cell k (drop k row)) ≡ run_from d (stores_from seat place cell (k + 1) (drop (k + 1) row))
  store_run d row e within is =
      let rest = drop (k + 1) row in
      let front : drop k row ≡ value ∷ rest = drop-first k row within ∙ ap (λ (v : ℕ). v ∷ rest) is in
      ap (λ (vs : List ℕ). run_from c (stores_from seat place cell k vs)) front
      ∙ chained.taken c d seat (kind.StoreCell place cell (word.Row k) value) (stores_from seat place cell (k + 1) rest) e
    where
      drop-first : (i : ℕ) (vs : List ℕ) → i < length vs → drop i vs ≡ get_or vs i 0 ∷ drop (i + 1) vs
      drop-first i vs inside = rw (add-one, drop-cons vs i 0)

-- a claim that has its own cell may be written, and starts at its first word
pub may_write : (seat oid place : ℕ) (c : Core) → Sound c → IsActive seat c → StandsAt (c.seats seat).current.writes oid place
    → MayWrite (c.seats seat) place (own_at (c.seats seat).current place)
may_write seat oid place c sound at stands =
    let x = c.seats seat in
    let pl = active_at x.place at.active in
    let none : claims_over x ≡ 0 = ap (λ q. over_of q x.task (length x.current.writes)) pl.1 ∙ starts_with_all pl.0 x.task (length x.current.writes) (starts_between x.task at.starts) in
    record {
      active = at.active;
      starts = at.starts;
      claimed = stands.within;
      own = claim_cell c seat sound x.task place refl (starts_bare x.task at.starts) stands.within (omega (arith, none));
    }

pub storing_first : (seat place cell : ℕ) (c : Core) → IsActive seat c → MayWrite (c.seats seat) place cell → IsStoring seat place cell 0 c
storing_first seat place cell c at may = record {
  at = record { session = at.session; active = at.active; plain = starts_plain (c.seats seat).task at.starts };
  within = may.claimed;
  own = may.own;
  starts = λ _. may.starts;
  goes_on = λ some low. absurd (omega (arith, some));
}

-- AFTER A CLAIM the object is claimed, and the transaction goes on.
pub claim_session : (v t : View) (seat oid : ℕ) → DidClaim v seat oid t → IsSession v seat → IsSession t seat
claim_session v t seat oid (before same claimed) session = subst (λ (u : View). IsSession u seat) (sym same) session
claim_session v t seat oid (now stamp base none few free current works) session = still_session v t seat _ works session

pub claim_active : (v t : View) (seat oid : ℕ) → DidClaim v seat oid t → phase_at v seat ≡ phase.Active → phase_at t seat ≡ phase.Active
claim_active v t seat oid (before same claimed) active = subst (λ (u : View). phase_at u seat ≡ phase.Active) (sym same) active
claim_active v t seat oid (now stamp base none few free current works) active = still_active v t seat _ works

pub claim_claims : (v t : View) (seat oid : ℕ) → DidClaim v seat oid t → is_claimed (work_at t seat).claims oid ≡ true
claim_claims v t seat oid (before same claimed) = subst (λ (u : View). is_claimed (work_at u seat).claims oid ≡ true) (sym same) claimed
claim_claims v t seat oid (now stamp base none few free current works) =
    let c : VersionWritten = record { oid = oid; stamp = stamp; base = base; row = base; is_set = false } in
    ap (λ (w : Work). is_claimed w.claims oid) (works_work v t seat (claiming c (work_at v seat)) works)
    ∙ claimed-push (work_at v seat).claims c oid ∙ or_right (is_claimed (work_at v seat).claims oid) (eqb oid oid || false) (or_left (eqb oid oid) false (eq-eqb oid oid refl))

-- a row that is set after the claim
pub claim_then_set : (v between t : View) (seat oid : ℕ) (w : Work) → DidClaim v seat oid between → Works between seat w t → Works v seat w t
claim_then_set v between t seat oid w (before same claimed) set_it = subst (λ (u : View). Works u seat w t) same set_it
claim_then_set v between t seat oid w (now stamp base none few free current works) set_it =
    works_then v between t seat (claiming (record { oid = oid; stamp = stamp; base = base; row = base; is_set = false }) (work_at v seat)) w works set_it

-- AFTER ALL WORDS the session is between calls.
pub quiet_stored : (sessions seat place cell : ℕ) (row : List ℕ) (b d : Core) → Sound b → Sound d → IsQuiet sessions b → IsSession (view_of sessions b) seat
    → MayWrite (b.seats seat) place cell → length row ≡ ROW_WORDS → ((q : ℕ) → q ≢ seat → d.seats q ≡ b.seats q) → run_from b (stores_from seat place cell 0 row) ≡ d
    → IsQuiet sessions d
quiet_stored sessions seat place cell row b d sound after quiet session may words others is =
    let shows = writes sessions seat place cell row b sound may words in
    let rests = writes_rest seat place cell row b may words in
    let active : is_active (d.seats seat).place ≡ true =
    ap (λ (to : Core). is_active (to.seats seat).place) (sym is) ∙ ap is_active rests.place ∙ may.active
    in
    let starts : may_start (d.seats seat).task ≡ true = ap (λ (to : Core). may_start (to.seats seat).task) (sym is) ∙ ap may_start rests.rests in
    let shown : view_of sessions d ≡ view_of sessions (run_from b (stores_from seat place cell 0 row)) = ap (λ (to : Core). view_of sessions to) (sym is) in
    quiet_since sessions seat b d quiet session after others (ap (λ (v : View). v.opening) shown ∙ shows.opening) (ap (λ (v : View). v.tail) shown ∙ shows.tail)
    (ap (λ (v : View). v.flushed) shown ∙ shows.flushed) active starts

pub stored_all : (seat place cell k : ℕ) (row : List ℕ) (b c : Core) → run_from b (stores_from seat place cell 0 row) ≡ run_from c (stores_from seat place cell k (drop k row))
    → length row ≤ k → run_from b (stores_from seat place cell 0 row) ≡ c
stored_all seat place cell k row b c runs all = runs ∙ ap (λ (vs : List ℕ). run_from c (stores_from seat place cell k vs)) (drop_all k row all)

pub stored_shows : (sessions seat oid place cell : ℕ) (row : List ℕ) (b d : Core) → Sound b → MayWrite (b.seats seat) place cell → length row ≡ ROW_WORDS
    → StandsAt (b.seats seat).current.writes oid place → run_from b (stores_from seat place cell 0 row) ≡ d
    → Works (view_of sessions b) seat (setting oid row (work_at (view_of sessions b) seat)) (view_of sessions d)
stored_shows sessions seat oid place cell row b d sound may words stands is =
    subst (λ (to : Core). Works (view_of sessions b) seat (setting oid row (work_at (view_of sessions b) seat)) (view_of sessions to)) is
    (subst (λ (n : ℕ). Works (view_of sessions b) seat (setting n row (work_at (view_of sessions b) seat)) (view_of sessions (run_from b (stores_from seat place cell 0 row)))) stands.oid_is
    (writes sessions seat place cell row b sound may words))
