-- How many of a seat's claims are there to stay: those of its transactions that are over, and of the current one those that have their
-- cells, or are over. No step of a session makes them fewer, and the draw of a cell makes them one more.
use Rattle.std.proofs.Common.{◌≡◌, ℕ, suc, ◌+◌, ◌<◌, ◌≤◌, ◌⊎◌, ⊎_elim, inl, inr, Bool, true, false, not, ◌||◌, cond, ltb, List, [], ◌∷◌, ◌++◌, length, get_or, set, count_by, sum_by, is_none, Some, refl, sym, ap, ◌∙◌, subst, arith}
use Rattle.std.specs.Prelude.{if◌then◌else◌}
use Rattle.std.proofs.lemmas.Bool.{cond-true, lt-ltb}
use Rattle.std.proofs.lemmas.List.Sums.{sum_by-cons, sum_by_push}
use Rattle.erm_machine.specs.declared.attempt.Attempt.{Attempt}
use Rattle.erm_machine.specs.declared.attempt.Claim.{Claim}
use Rattle.erm_machine.specs.declared.attempt.OwnCell.{OwnCell}
use Rattle.erm_machine.specs.declared.event.Counter.TheVariants.{Cells}
use Rattle.erm_machine.specs.declared.event.Kind.{Kind}
use Rattle.erm_machine.specs.declared.event.Kind.TheVariants as kind
use Rattle.erm_machine.specs.declared.event.TailUse.{TailUse}
use Rattle.erm_machine.specs.declared.event.TailUse.TheVariants as purpose
use Rattle.erm_machine.specs.declared.part.Part.{Part}
use Rattle.erm_machine.specs.declared.place.Place.{Place}
use Rattle.erm_machine.specs.declared.place.Place.TheVariants.{Active, Announced, Begun, Decided, Drawn, Idle, Leaving, Sealed, Sealing}
use Rattle.erm_machine.specs.declared.task.Task.{Task}
use Rattle.erm_machine.specs.declared.task.Task.TheVariants as task
use Rattle.erm_machine.specs.Cells.{WantsCell}
use Rattle.erm_machine.specs.Claims.{claims_over}
use Rattle.erm_machine.specs.Core.{Core, claim_at, no_claim}
use Rattle.erm_machine.specs.Facts.{IsCurrent, over_of}
use Rattle.erm_machine.specs.Life.{add_tail, decide, load_begin, load_state, load_tail, load_tail_for_horizon, load_tail_to_begin, store_begin, store_state}
use Rattle.erm_machine.specs.Reading.{add_counter, with_cell}
use Rattle.erm_machine.specs.Seat.{is_active, last_claim}
use Rattle.erm_machine.specs.Sound.{Sound}
use Rattle.erm_machine.specs.Step.{part_after}
use Rattle.erm_machine.specs.Tasks.{TaskFits}
use Rattle.erm_machine.specs.Words.{blank_cell, is_flusher, is_session}
use Rattle.erm_machine.proofs.Backs.{active_begin_then}
use Rattle.erm_machine.proofs.Guards.{either_way, when_then}
use Rattle.erm_machine.proofs.QuietKinds.{quiet_kind}
use Rattle.erm_core_cells.proofs.CellsCounts.{count_set}
use Rattle.erm_core_stays.specs.Staying.{IsFirm}
use Rattle.erm_core_stays.proofs.Growing.{GivesUp, WritesStay, growing_kind}
use Rattle.erm_core_steps.proofs.Aborts.{session_plain}
use Rattle.erm_core_steps.proofs.Places.{active_at}
use Rattle.erm_core_view.specs.Steps.{MeetsOne}
use Rattle.erm_table_world.specs.Covered.{firm_in, is_firm}

either_false : (b c : Bool) → (not b || not c) ≡ true → (b ≡ false) ⊎ (c ≡ false)
either_false true true e = absurd (cc)
either_false true false e = inr refl
either_false false c e = inl refl

true_either : (b c : Bool) → (b ≡ false) ⊎ (c ≡ false) → (not b || not c) ≡ true
true_either true true some = ⊎_elim (λ e. absurd (cc)) (λ e. absurd (cc)) some
true_either true false some = refl
true_either false c some = refl

firm_from : (w : Claim) → is_firm w ≡ true → IsFirm w
firm_from w e = either_false w.held (is_none w.own) e

firm_is : (w : Claim) → IsFirm w → is_firm w ≡ true
firm_is w firm = true_either w.held (is_none w.own) firm

cond_low : (b c : Bool) → (b ≡ true → c ≡ true) → cond b 1 0 ≤ cond c 1 0
cond_low true c f = subst (λ (z : Bool). 1 ≤ cond z 1 0) (sym (f refl)) (omega arith)
cond_low false c f = omega arith

cond_one : (b : Bool) → cond b 1 0 ≤ 1
cond_one true = omega arith
cond_one false = omega arith

module _ {X : Type 0} (q : X → Bool) (d : X) where
  -- what passes a test at a place of the first list does so at the same place of the second
  count_places : (xs ys : List X) → ((k : ℕ) → k < length xs → q (get_or xs k d) ≡ true → (k < length ys) × (q (get_or ys k d) ≡ true)) → count_by q xs ≤ count_by q ys
  count_places [] ys stay = omega arith
  count_places (x ∷ xs) [] stay =
      let first : count_by q (x ∷ xs) ≡ cond (q x) 1 0 + count_by q xs = sum_by-cons (λ (z : X). cond (q z) 1 0) x xs in
      let rest = count_places xs [] (λ k within e. absurd (let h = (stay (suc k) (omega (arith, within)) e).0 in omega (arith, h))) in
      let here = cond_low (q x) false (λ e. absurd (let h = (stay 0 (omega arith) e).0 in omega (arith, h))) in
      omega (arith, first, rest, here)
  count_places (x ∷ xs) (y ∷ ys) stay =
      let first : count_by q (x ∷ xs) ≡ cond (q x) 1 0 + count_by q xs = sum_by-cons (λ (z : X). cond (q z) 1 0) x xs in
      let second : count_by q (y ∷ ys) ≡ cond (q y) 1 0 + count_by q ys = sum_by-cons (λ (z : X). cond (q z) 1 0) y ys in
      let rest = count_places xs ys (λ k within e. let h = stay (suc k) (omega (arith, within)) e in (let low = h.0 in omega (arith, low), h.1)) in
      let here = cond_low (q x) (q y) (λ e. (stay 0 (omega arith) e).1) in
      omega (arith, first, second, rest, here)

  count_few : (xs : List X) → count_by q xs ≤ length xs
  count_few [] = omega arith
  count_few (x ∷ xs) =
      let first : count_by q (x ∷ xs) ≡ cond (q x) 1 0 + count_by q xs = sum_by-cons (λ (z : X). cond (q z) 1 0) x xs in
      let rest = count_few xs in
      let here = cond_one (q x) in
      omega (arith, first, rest, here)

pub firm_few : (ws : List Claim) → count_by is_firm ws ≤ length ws
firm_few ws = count_few is_firm no_claim ws

firm_stay : (ws vs : List Claim) → WritesStay ws vs → count_by is_firm ws ≤ count_by is_firm vs
firm_stay ws vs stays =
    count_places is_firm no_claim ws vs (λ k within e.
    let there = stays.stay k within (firm_from (get_or ws k no_claim) e) in
    (there.within, firm_is (get_or vs k no_claim) there.firm))

-- STEPS that leave the seat at its place
quiet_firm : (x y : Part) → y.over ≡ x.over → WritesStay x.current.writes y.current.writes → firm_in x ≤ firm_in y
quiet_firm x y over stays =
    let past : sum_by (λ (t : Attempt). length t.writes) y.over ≡ sum_by (λ (t : Attempt). length t.writes) x.over =
    ap (λ (ts : List Attempt). sum_by (λ (t : Attempt). length t.writes) ts) over
    in
    let now = firm_stay x.current.writes y.current.writes stays in
    omega (arith, past, now)

-- a transaction that is over leaves all its claims
over_firm : (x : Part) (u : Attempt) → u.writes ≡ x.current.writes → firm_in x ≤ sum_by (λ (t : Attempt). length t.writes) (x.over ++ u ∷ []) + 0
over_firm x u same =
    let more = sum_by_push (λ (t : Attempt). length t.writes) x.over u in
    let long : length u.writes ≡ length x.current.writes = ap (λ (ws : List Claim). length ws) same in
    let few = firm_few x.current.writes in
    omega (arith, more, long, few)

-- STEPS that move a seat on
f_begin : (seat found : ℕ) (x : Part) (pl : Place) (y : Part) → IsCurrent pl x.current → load_tail_to_begin seat found x pl ≡ Some y → firm_in x ≤ firm_in y
f_begin seat found x Idle y cur e = when_then (λ (z : Part). firm_in x ≤ firm_in z) _ _ y e (λ _. omega arith)
f_begin seat found x (Announced tail) y cur e =
    when_then (λ (z : Part). firm_in x ≤ firm_in z) _ _ y e (λ _.
    let none : count_by is_firm x.current.writes ≡ 0 = ap (λ (t : Attempt). count_by is_firm t.writes) cur in
    omega (arith, none))
f_begin seat found x _ y cur e = absurd (cc)

f_horizon : (found : ℕ) (x : Part) (t : Task) (y : Part) → load_tail_for_horizon found x t ≡ Some y → firm_in x ≤ firm_in y
f_horizon found x (task.Claimed version) y e = when_then (λ (z : Part). firm_in x ≤ firm_in z) _ _ y e (λ _. omega arith)
f_horizon found x _ y e = absurd (cc)

f_load_tail : (seat : ℕ) (reason : TailUse) (found : ℕ) (x y : Part) → IsCurrent x.place x.current → load_tail seat reason found x ≡ Some y → firm_in x ≤ firm_in y
f_load_tail seat purpose.Begin found x y cur e = f_begin seat found x x.place y cur e
f_load_tail seat purpose.Horizon found x y cur e = f_horizon found x x.task y e
f_load_tail seat purpose.Gather found x y cur e = when_then (λ (z : Part). firm_in x ≤ firm_in z) _ _ y e (λ _. omega arith)

f_add_tail : (seat size found : ℕ) (x : Part) (pl : Place) (y : Part) → add_tail seat size found x pl ≡ Some y → firm_in x ≤ firm_in y
f_add_tail seat size found x (Sealing tail) y e = when_then (λ (z : Part). firm_in x ≤ firm_in z) _ _ y e (λ _. omega arith)
f_add_tail seat size found x _ y e = absurd (cc)

f_store_begin : (seat value : ℕ) (x : Part) (pl : Place) (y : Part) → is_flusher seat ≡ false → store_begin seat value x pl ≡ Some y → firm_in x ≤ firm_in y
f_store_begin seat value x (Begun tail) y session e = when_then (λ (z : Part). firm_in x ≤ firm_in z) _ _ y e (λ _. omega arith)
f_store_begin seat value x (Active tail) y session e =
    active_begin_then (λ (z : Part). firm_in x ≤ firm_in z) seat value tail x y e (λ _ _.
    either_way (λ (z : Part). firm_in x ≤ firm_in z) (is_flusher seat) _ _ (λ (flusher : is_flusher seat ≡ true). absurd (cc)) (λ _. over_firm x _ refl))
    (λ _ _ _ _. omega arith)
f_store_begin seat value x (Decided tail stamp) y session e = when_then (λ (z : Part). firm_in x ≤ firm_in z) _ _ y e (λ _. omega arith)
f_store_begin seat value x _ y session e = absurd (cc)

f_store_state : (seat value : ℕ) (x : Part) (pl : Place) (y : Part) → store_state seat value x pl ≡ Some y → firm_in x ≤ firm_in y
f_store_state seat value x (Active tail) y e = when_then (λ (z : Part). firm_in x ≤ firm_in z) _ _ y e (λ _. omega arith)
f_store_state seat value x (Drawn tail stamp) y e = when_then (λ (z : Part). firm_in x ≤ firm_in z) _ _ y e (λ _. omega arith)
f_store_state seat value x (Leaving stamp) y e = when_then (λ (z : Part). firm_in x ≤ firm_in z) _ _ y e (λ _. over_firm x _ refl)
f_store_state seat value x _ y e = absurd (cc)

f_load_begin : (seat other found : ℕ) (x : Part) (t : Task) (y : Part) → load_begin seat other found x t ≡ Some y → firm_in x ≤ firm_in y
f_load_begin seat other found x (task.Horizon version least next) y e = when_then (λ (z : Part). firm_in x ≤ firm_in z) _ _ y e (λ _. omega arith)
f_load_begin seat other found x (task.Surveys next) y e = when_then (λ (z : Part). firm_in x ≤ firm_in z) _ _ y e (λ _. omega arith)
f_load_begin seat other found x _ y e = absurd (cc)

f_load_state : (seat other bound found : ℕ) (x y : Part) → load_state seat other bound found x ≡ Some y → firm_in x ≤ firm_in y
f_load_state seat other bound found x y e = when_then (λ (z : Part). firm_in x ≤ firm_in z) _ _ y e (λ _. omega arith)

f_decide : (at header : ℕ) (x : Part) (pl : Place) (t : Task) (y : Part) → decide at header x pl t ≡ Some y → firm_in x ≤ firm_in y
f_decide at header x (Sealed tail stamp) (task.Fills words) y e = when_then (λ (z : Part). firm_in x ≤ firm_in z) _ _ y e (λ _. omega arith)
f_decide at header x _ _ y e = absurd (cc)

-- A CLAIM WITHOUT A CELL is the newest one, which is held, and so isn't there to stay.
module _ (c : Core) (sound : Sound c) (p : ℕ) where
  newest_bare : is_active (c.seats p).place ≡ true → ((tail : ℕ) → over_of (Active tail) (c.seats p).task (length (c.seats p).current.writes) ≡ 0)
      → 0 < length (c.seats p).current.writes → is_none (claim_at (c.seats p).current (last_claim (c.seats p).current)).own ≡ true
      → is_firm (claim_at (c.seats p).current (last_claim (c.seats p).current)) ≡ false
  newest_bare active begins some bare =
      let x = c.seats p in
      let pl = active_at x.place active in
      let none : claims_over x ≡ 0 = ap (λ (q : Place). over_of q x.task (length x.current.writes)) pl.1 ∙ begins pl.0 in
      let held : (claim_at x.current (last_claim x.current)).held ≡ true = (sound.own p).claims.held (last_claim x.current) (omega (arith, some)) (omega (arith, none)) in
      ap (λ (b : Bool). not b || not (is_none (claim_at x.current (last_claim x.current)).own)) held ∙ ap not bare

  refused_active : (pl : Place) (t : Attempt) → TaskFits pl t task.Refused → is_active pl ≡ true
  refused_active (Active tail) t fits = refl
  refused_active (Sealed tail stamp) t fits = absurd fits
  refused_active (Decided tail stamp) t fits = absurd fits
  refused_active _ t fits = absurd (cc)

  gives_up : GivesUp (c.seats p)
  gives_up at firm =
      let x = c.seats p in
      let wants : WantsCell x task.Refused = subst (WantsCell x) at (sound.own p).cells.wants in
      let active = refused_active x.place x.current (subst (TaskFits x.place x.current) at (sound.own p).task.fits) in
      let bare = newest_bare active (λ tail. ap (λ (u : Task). over_of (Active tail) u (length x.current.writes)) at) wants.0 wants.1 in
      let is = firm_is (claim_at x.current (last_claim x.current)) firm in
      absurd (cc)

  -- no step of a session makes them fewer
  pub firm_kept : (k : Kind) (found : ℕ) (y : Part) → is_session p ≡ true → MeetsOne k → part_after p k found c.shared (c.seats p) ≡ Some y → firm_in (c.seats p) ≤ firm_in y
  firm_kept (kind.LoadTail reason) found y session one e = f_load_tail p reason found (c.seats p) y (sound.own p).ranges.current e
  firm_kept (kind.AddTail size) found y session one e = f_add_tail p size found (c.seats p) (c.seats p).place y e
  firm_kept (kind.StoreBegin value) found y session one e = f_store_begin p value (c.seats p) (c.seats p).place y (session_plain p session) e
  firm_kept (kind.StoreState value) found y session one e = f_store_state p value (c.seats p) (c.seats p).place y e
  firm_kept (kind.LoadBegin other) found y session one e = f_load_begin p other found (c.seats p) (c.seats p).task y e
  firm_kept (kind.LoadState other bound) found y session one e = f_load_state p other bound found (c.seats p) y e
  firm_kept (kind.Split other) found y session one e = absurd one
  firm_kept (kind.Join other) found y session one e = absurd one
  firm_kept (kind.Decide at header) found y session one e = f_decide at header (c.seats p) (c.seats p).place (c.seats p).task y e
  firm_kept k found y session one e =
      quiet_firm (c.seats p) y (quiet_kind p k found c.shared (c.seats p) y tt e).steady.over (growing_kind p k found c.shared (c.seats p) y gives_up tt e).tries.claims

  -- a cell that is drawn below the limit makes them one more
  pub firm_more : (found : ℕ) (y : Part) → (c.seats p).task ≡ task.Pool → found < c.shared.cell_limit → add_counter c.shared.cell_limit p Cells found (c.seats p) task.Pool ≡ Some y
      → firm_in (c.seats p) + 1 ≤ firm_in y
  firm_more found y at less e =
      when_then (λ (z : Part). firm_in (c.seats p) + 1 ≤ firm_in z) _ _ y e (λ active.
      let x = c.seats p in
      let wants : WantsCell x task.Pool = subst (WantsCell x) at (sound.own p).cells.wants in
      let some = wants.0 in
      let own : OwnCell = record { cell = found; words = blank_cell } in
      let v : Claim = record (claim_at x.current (last_claim x.current)) { own = Some own } in
      let old = newest_bare active (λ tail. ap (λ (u : Task). over_of (Active tail) u (length x.current.writes)) at) wants.0 wants.1 in
      let old_none : ◌≡◌ {A = ℕ} (cond (is_firm (claim_at x.current (last_claim x.current))) 1 0) 0 = ap (λ (b : Bool). cond b 1 0) old in
      let new_one : ◌≡◌ {A = ℕ} (cond (is_firm v) 1 0) 1 = ap (λ (b : Bool). cond b 1 0) (firm_is v (inr refl)) in
      let sum = count_set is_firm x.current.writes (last_claim x.current) v no_claim (omega (arith, some)) in
      let now : count_by is_firm (if ltb found c.shared.cell_limit then (with_cell own x.current).writes else x.current.writes) ≡ count_by is_firm (set x.current.writes (last_claim x.current) v) =
      ap (λ (ws : List Claim). count_by is_firm ws) (cond-true (ltb found c.shared.cell_limit) (with_cell own x.current).writes x.current.writes (lt-ltb found c.shared.cell_limit less))
      in
      omega (arith, sum, old_none, new_one, now))
