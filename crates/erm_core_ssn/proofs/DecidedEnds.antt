-- Steps that change what a transaction writes, and its end.
use Rattle.std.proofs.Common.{◌≡◌, ℕ, ◌+◌, ◌-◌, ◌<◌, ◌≤◌, ◌⊎◌, ⊎_elim, inl, inr, Bool, true, false, ◌||◌, not, is_none, eqb, List, [], ◌∷◌, ◌++◌, length, set, get_or, take, Option, Some, None, refl, sym, ap, ◌∙◌, subst, arith, length-set, get_or-set_same, get_or-set_other}
use Rattle.std.specs.Prelude.{if◌then◌else◌}
use Rattle.std.proofs.lemmas.Bool.{and_parts, cases_eq}
use Rattle.std.proofs.lemmas.List.{get_or-take, length-take, get_or_append_left, length_push}
use Rattle.std.proofs.lemmas.Option.{same_Some}
use Rattle.erm_machine.specs.declared.attempt.Attempt.{Attempt}
use Rattle.erm_machine.specs.declared.attempt.Claim.{Claim}
use Rattle.erm_machine.specs.declared.attempt.OwnCell.{OwnCell}
use Rattle.erm_machine.specs.declared.part.Part.{Part}
use Rattle.erm_machine.specs.declared.place.Place.{Place}
use Rattle.erm_machine.specs.declared.place.Place.TheVariants.{Active, Decided}
use Rattle.erm_machine.specs.declared.task.Task.{Task}
use Rattle.erm_machine.specs.declared.task.Task.TheVariants as task
use Rattle.erm_machine.specs.declared.version.CellWord.{CellWord}
use Rattle.erm_machine.specs.declared.version.CellWord.TheVariants as word
use Rattle.erm_machine.specs.declared.version.VersionAt.{VersionAt}
use Rattle.erm_machine.specs.Cells.{WantsCell}
use Rattle.erm_machine.specs.Core.{Core, Object, claim_at, no_claim, version_at}
use Rattle.erm_machine.specs.Decided.{bare, history_of, MarkInHand, NoneReadsLeft, MayCommit, writes_passed, writes_rated}
use Rattle.erm_machine.specs.Reading.{new_claim, claim, with_own_word, start_row, store_row_word, unset}
use Rattle.erm_machine.specs.Seat.{end_of, may_start, is_active, is_decided, last_claim}
use Rattle.erm_machine.specs.Settling.{store_head_word, store_active_word, store_cell, install_claim, adds_version, install_new, release_old, unclaim, without_newest, install, clear_reader}
use Rattle.erm_machine.specs.Sound.{Sound}
use Rattle.erm_machine.specs.Tasks.{TaskFits}
use Rattle.erm_machine.proofs.Backs.{rest_is}
use Rattle.erm_machine.proofs.Guards.{when_then, if_then}
use Rattle.erm_core_ssn.proofs.DecidedSteady.{Leaves}
use Rattle.erm_core_ssn.proofs.DecidedActive.{has_cell, Claims, active_moves}
use Rattle.erm_core_ssn.proofs.DecidedBuild.{NotEnds, starts_not_ends, active_fits, works, ends}
use Rattle.erm_core_ssn.proofs.DecidedCalm.{IsFree, free_from, free_if, plain_of, free_entered, same_writes, first, head_word_leaves}

-- claims of which one is changed, on its version and with its cell
pub claims_set : (t u : Attempt) (at : ℕ) (w : Claim) → u.writes ≡ set t.writes at w → (has_cell (claim_at t at) ≡ true → has_cell w ≡ true) → w.version ≡ (claim_at t at).version → w.stamp ≡ (claim_at t at).stamp → Claims t u
claims_set t u at w is cell version stamp = record {
  at = λ k within has.
      let many = length-set t.writes at w in
      let l = ap (λ (ws : List Claim). length ws) is in
      ⊎_elim
      (λ (here : k ≡ at).
      let new : claim_at u k ≡ w = ap (λ (ws : List Claim). get_or ws k no_claim) is ∙ (ap (λ n. get_or (set t.writes at w) n no_claim) here ∙ get_or-set_same t.writes at w no_claim (omega (arith, within, here))) in (
        k,
        omega (arith, within, many, l),
        ap has_cell new ∙ cell (subst (λ n. has_cell (claim_at t n) ≡ true) here has),
        ap (λ (v : Claim). v.version.oid) new ∙ (ap (λ (v : VersionAt). v.oid) version ∙ ap (λ n. (claim_at t n).version.oid) (sym here)),
        ap (λ (v : Claim). v.stamp) new ∙ (stamp ∙ ap (λ n. (claim_at t n).stamp) (sym here)),
      ))
      (λ (there : k ≡ at → ⊥).
      let old : claim_at u k ≡ claim_at t k = ap (λ (ws : List Claim). get_or ws k no_claim) is ∙ get_or-set_other t.writes at k w no_claim there in
      (k, omega (arith, within, many, l), ap has_cell old ∙ has, ap (λ (v : Claim). v.version.oid) old, ap (λ (v : Claim). v.stamp) old))
      (cases_eq k at);
}

-- claims that stay
pub claims_same : (t u : Attempt) → u.writes ≡ t.writes → Claims t u
claims_same t u is = record {
  at = λ k within has.
      let old : claim_at u k ≡ claim_at t k = ap (λ (ws : List Claim). get_or ws k no_claim) is in
      (k, subst (λ (ws : List Claim). k < length ws) (sym is) within, ap has_cell old ∙ has, ap (λ (v : Claim). v.version.oid) old, ap (λ (v : Claim). v.stamp) old);
}

-- claims with one more
claims_push : (t u : Attempt) (w : Claim) → u.writes ≡ t.writes ++ w ∷ [] → Claims t u
claims_push t u w is = record {
  at = λ k within has.
      let many = length_push t.writes w in
      let l = ap (λ (ws : List Claim). length ws) is in
      let old : claim_at u k ≡ claim_at t k = ap (λ (ws : List Claim). get_or ws k no_claim) is ∙ get_or_append_left t.writes (w ∷ []) no_claim k within in
      (k, omega (arith, within, many, l), ap has_cell old ∙ has, ap (λ (v : Claim). v.version.oid) old, ap (λ (v : Claim). v.stamp) old);
}

-- the newest claim is dropped, which has no cell
claims_take : (t u : Attempt) → u.writes ≡ take (last_claim t) t.writes → is_none (claim_at t (last_claim t)).own ≡ true → Claims t u
claims_take t u is none = record {
  at = λ k within has.
      let many = length-take (last_claim t) t.writes in
      let l = ap (λ (ws : List Claim). length ws) is in
      let ne : k ≡ last_claim t → ⊥ = λ (same : k ≡ last_claim t).
      let n : is_none (claim_at t k).own ≡ true = subst (λ j. is_none (claim_at t j).own ≡ true) (sym same) none in
      no_cell (is_none (claim_at t k).own) n has
      in
      let less : k < last_claim t = below k (length t.writes) within ne in
      let old : claim_at u k ≡ claim_at t k = ap (λ (ws : List Claim). get_or ws k no_claim) is ∙ get_or-take (last_claim t) t.writes k no_claim less in
      (k, omega (arith, within, less, many, l), ap has_cell old ∙ has, ap (λ (v : Claim). v.version.oid) old, ap (λ (v : Claim). v.stamp) old);
}
  where
    no_cell : (b : Bool) → b ≡ true → not b ≡ true → ⊥
    no_cell true e f = absurd (cc)
    no_cell false e f = absurd (cc)

    below : (k n : ℕ) → k < n → (k ≡ n - 1 → ⊥) → k < n - 1
    below k n within ne = omega (arith, within, ne)

own_word_cell : (w : CellWord) (value : ℕ) (o : Option OwnCell) → not (is_none o) ≡ true → not (is_none (with_own_word w value o)) ≡ true
own_word_cell w value None h = h
own_word_cell w value (Some own) h = refl

-- a decided transaction's task is its end
decided_ends : (tail stamp : ℕ) (a : Attempt) (t : Task) (e : ℕ × ℕ × ℕ × ℕ) → end_of t ≡ Some e → TaskFits (Decided tail stamp) a t → t ≡ task.Ends e.0 e.1 e.2 e.3
decided_ends tail stamp a (task.Ends r n s l) e is fits = ap (λ (f : ℕ × ℕ × ℕ × ℕ). task.Ends f.0 f.1 f.2 f.3) (same_Some _ _ is)
decided_ends tail stamp a t e is fits = absurd fits

-- an end goes on, or an active transaction's begins
ends_or_active : (l : Place) (a : Attempt) (t : Task) (e : ℕ × ℕ × ℕ × ℕ) → end_of t ≡ Some e → (is_decided l || is_active l) ≡ true → TaskFits l a t →
    (t ≡ task.Ends e.0 e.1 e.2 e.3) ⊎ (is_active l ≡ true)
ends_or_active (Active tail) a t e is g fits = inr refl
ends_or_active (Decided tail stamp) a t e is g fits = inl (decided_ends tail stamp a t e is fits)
ends_or_active _ a t e is g fits = absurd (cc)

module _ (c : Core) (p : ℕ) (sound : Sound c) where
  -- an active transaction's claims change
  pub writes_leaves : (y : Part) → is_active (c.seats p).place ≡ true → NotEnds (c.seats p).task → y.over ≡ (c.seats p).over → y.current.decision ≡ (c.seats p).current.decision →
      y.current.stamp ≡ (c.seats p).current.stamp → y.current.succ ≡ (c.seats p).current.succ → y.current.pred ≡ (c.seats p).current.pred → y.current.reads ≡ (c.seats p).current.reads →
      Claims (c.seats p).current y.current → IsFree y.task → Leaves c p y
  writes_leaves y active on over decision stamp succ pred reads claims free =
      let plain = plain_of y.task free.plain in
      works c p sound y active over decision stamp (plain.mark c.shared y.current) plain.passed plain.writes (λ q. plain.left y q (c.seats q))
      (λ _. active_moves (history_of c.seats) c.shared.tail (c.seats p).current y.current succ pred reads claims (active_fits c p sound active on))

  -- an end begins, or goes on
  pub ending : (y : Part) (t : Task) (e : ℕ × ℕ × ℕ × ℕ) (raised ended step cleared : ℕ) → (c.seats p).task ≡ t → end_of t ≡ Some e →
      (is_decided (c.seats p).place || is_active (c.seats p).place) ≡ true → y.task ≡ task.Ends raised ended step cleared → e.3 ≤ cleared → y.place ≡ (c.seats p).place → y.over ≡ (c.seats p).over →
      y.current.decision ≡ (c.seats p).current.decision → y.current.stamp ≡ (c.seats p).current.stamp → y.current.reads ≡ (c.seats p).current.reads → bare (c.seats p).current ≡ bare y.current → Leaves c p y
  ending y t e raised ended step cleared at is where_it now more place over decision stamp reads whole =
      let fits : TaskFits (c.seats p).place (c.seats p).current t = subst (λ (u : Task). TaskFits (c.seats p).place (c.seats p).current u) at (sound.own p).task.fits in
      ⊎_elim
      (λ (goes_on : t ≡ task.Ends e.0 e.1 e.2 e.3). ends c p sound y e.0 e.1 e.2 e.3 raised ended step cleared (at ∙ goes_on) now more place over where_it decision reads whole)
      (λ (active : is_active (c.seats p).place ≡ true).
      works c p sound y active over decision stamp
      (subst (λ (u : Task). MarkInHand c.shared y.current u) (sym now) tt)
      (λ n. subst (λ (u : Task). writes_passed u n ≡ 0) (sym now) refl)
      (λ n. subst (λ (u : Task). writes_rated u n ≡ 0) (sym now) refl)
      (λ q. subst (λ (u : Task). NoneReadsLeft y u q (c.seats q)) (sym now) tt)
      (λ may. absurd (no_commit (c.seats p).place active
      (subst (λ (u : Task). MayCommit (c.seats p).place u) now (subst (λ (l : Place). MayCommit l y.task) place may)))))
      (ends_or_active (c.seats p).place (c.seats p).current t e is where_it fits)
    where
      no_commit : (l : Place) → is_active l ≡ true → MayCommit l (task.Ends raised ended step cleared) → ⊥
      no_commit (Active tail) g may = may
      no_commit _ g may = absurd (cc)

  pub clear_leaves : (v : VersionAt) (e : Option (ℕ × ℕ × ℕ × ℕ)) (y : Part) → end_of (c.seats p).task ≡ e → clear_reader v (c.seats p) e ≡ Some y → Leaves c p y
  clear_leaves v None y is h = absurd (cc)
  clear_leaves v (Some e) y is h =
      when_then (Leaves c p) _ _ y h (λ g.
      let here : (is_decided (c.seats p).place || is_active (c.seats p).place) ≡ true = first _ _ (first _ _ (first _ _ (first _ _ g))) in
      ending _ (c.seats p).task e e.0 e.1 e.2 (e.3 + 1) refl is here refl (omega arith) refl refl refl refl refl refl)

  or_left : (a b : Bool) → a ≡ true → (a || b) ≡ true
  or_left true b e = refl
  or_left false b e = absurd (cc)

  install_claim_leaves : (oid head : ℕ) (e : Option (ℕ × ℕ × ℕ × ℕ)) (y : Part) → end_of (c.seats p).task ≡ e → install_claim oid head (c.seats p) e ≡ Some y → Leaves c p y
  install_claim_leaves oid head None y is h = absurd (cc)
  install_claim_leaves oid head (Some e) y is h =
      if_then (Leaves c p) (adds_version (c.seats p)) (install_new oid head (c.seats p) e) (release_old oid head (c.seats p) e) y h
      (λ adds g. when_then (Leaves c p) _ _ y g (λ _.
      ending _ (c.seats p).task e e.0 (e.1 + 1) 0 e.3 refl is (or_left (is_decided (c.seats p).place) (is_active (c.seats p).place) (first _ _ adds)) refl (omega arith) refl refl refl refl refl
      (same_writes (c.seats p).current e.1 _ refl)))
      (λ _ g. when_then (Leaves c p) _ _ y g (λ b.
      let here : (is_decided (c.seats p).place || is_active (c.seats p).place) ≡ true = first _ _ (first _ _ (first _ _ b)) in
      ending _ (c.seats p).task e e.0 (e.1 + 1) 0 e.3 refl is here refl (omega arith) refl refl refl refl refl (same_writes (c.seats p).current e.1 _ refl)))

  wants : (t : Task) → (c.seats p).task ≡ t → WantsCell (c.seats p) t
  wants t at = subst (λ (u : Task). WantsCell (c.seats p) u) at (sound.own p).cells.wants

  unclaim_leaves : (oid head : ℕ) (y : Part) → (c.seats p).task ≡ task.Refused → unclaim oid head (c.seats p) ≡ Some y → Leaves c p y
  unclaim_leaves oid head y at e =
      when_then (Leaves c p) _ _ y e (λ g.
      let active : is_active (c.seats p).place ≡ true = first _ _ (first _ _ (first _ _ g)) in
      writes_leaves _ active (subst NotEnds (sym at) tt) refl refl refl refl refl refl
      (claims_take (c.seats p).current (without_newest (c.seats p).current) refl (wants task.Refused at).1) (free_from _ tt))

  pub install_leaves : (oid head : ℕ) (t : Task) (y : Part) → (c.seats p).task ≡ t → install oid head (c.seats p) t ≡ Some y → Leaves c p y
  install_leaves oid head task.Refused y at e = unclaim_leaves oid head y at e
  install_leaves oid head t y at e = install_claim_leaves oid head (end_of t) y (ap end_of at) e

  -- words of a row
  start_row_leaves : (place cell k value : ℕ) (t : Task) (y : Part) → is_active (c.seats p).place ≡ true → (c.seats p).task ≡ t → start_row place cell k value (c.seats p) t ≡ Some y → Leaves c p y
  start_row_leaves place cell k value t y active at e =
      when_then (Leaves c p) _ _ y e (λ g.
      let starts : may_start t ≡ true = first _ _ (first _ _ (first _ _ g)) in
      writes_leaves _ active (subst NotEnds (sym at) (starts_not_ends t starts)) refl refl refl refl refl refl
      (claims_set (c.seats p).current _ place _ refl (own_word_cell (word.Row k) value (claim_at (c.seats p).current place).own) refl refl) (free_from _ tt))

  row_word_leaves : (place cell k value : ℕ) (t : Task) (y : Part) → is_active (c.seats p).place ≡ true → (c.seats p).task ≡ t → store_row_word place cell k value (c.seats p) t ≡ Some y → Leaves c p y
  row_word_leaves place cell k value (task.Copies w) y active at e =
      when_then (Leaves c p) _ _ y e (λ _.
      writes_leaves _ active (subst NotEnds (sym at) tt) refl refl refl refl refl refl
      (claims_set (c.seats p).current _ place _ refl (own_word_cell (word.Row k) value (claim_at (c.seats p).current place).own) refl refl) (search (free_if, free_from)))
  row_word_leaves place cell k value (task.Writes claim w) y active at e =
      when_then (Leaves c p) _ _ y e (λ _.
      writes_leaves _ active (subst NotEnds (sym at) tt) refl refl refl refl refl refl
      (claims_set (c.seats p).current _ place _ refl (own_word_cell (word.Row k) value (claim_at (c.seats p).current place).own) refl refl) (search (free_if, free_from)))
  row_word_leaves place cell k value t y active at e = start_row_leaves place cell k value t y active at e

  active_word_leaves : (place cell : ℕ) (w : CellWord) (value : ℕ) (y : Part) → is_active (c.seats p).place ≡ true → store_active_word place cell w value (c.seats p) ≡ Some y → Leaves c p y
  active_word_leaves place cell (word.Row k) value y active e = row_word_leaves place cell k value (c.seats p).task y active refl e
  active_word_leaves place cell _ value y active e = absurd (cc)

  pub store_cell_leaves : (place cell : ℕ) (w : CellWord) (value : ℕ) (y : Part) → store_cell place cell w value (c.seats p) ≡ Some y → Leaves c p y
  store_cell_leaves place cell w value y e =
      if_then (Leaves c p) (is_active (c.seats p).place) (store_active_word place cell w value (c.seats p)) (store_head_word place cell w value (c.seats p) (c.seats p).task) y e
      (λ active h. active_word_leaves place cell w value y active h) (λ _ h. head_word_leaves c p sound place cell w value (c.seats p).task y refl h)

  -- a row is undone
  pub unset_leaves : (place : ℕ) (y : Part) → unset place (c.seats p) ≡ Some y → Leaves c p y
  unset_leaves place y e =
      when_then (Leaves c p) _ _ y e (λ g.
      let tests = and_parts _ _ (first _ _ (first _ _ g)) in
      let rest = rest_is (c.seats p).task tests.1 in
      writes_leaves _ tests.0 (subst NotEnds (sym rest) tt) refl refl refl refl refl refl
      (claims_set (c.seats p).current _ place _ refl (λ h. h) refl refl) (subst IsFree (sym rest) (free_from task.Rest tt)))

  -- a claim
  claimed_by : (b : Bool) (t : Attempt) (w : Claim) → Claims t (record t { writes = if b then t.writes ++ w ∷ [] else t.writes })
  claimed_by true t w = claims_push t _ w refl
  claimed_by false t w = claims_same t _ refl

  pub claim_leaves : (oid seen number found : ℕ) (o : Object) (t : Task) (y : Part) → (c.seats p).task ≡ t → claim p oid seen number found o (c.seats p) t ≡ Some y → Leaves c p y
  claim_leaves oid seen number found o (task.Found version stamp (Some entry)) y at e =
      when_then (Leaves c p) _ _ y e (λ g.
      let active : is_active (c.seats p).place ≡ true = first _ _ (first _ _ (first _ _ (first _ _ (first _ _ g)))) in
      writes_leaves _ active (subst NotEnds (sym at) tt) refl refl refl refl refl refl
      (claimed_by (eqb found seen) (c.seats p).current (new_claim version stamp (version_at o version.place).words.row)) (search (free_if, free_from, free_entered)))
  claim_leaves oid seen number found o _ y at e = absurd (cc)
