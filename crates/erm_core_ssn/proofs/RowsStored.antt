-- Steps that give a claim its cell, and that store words into it.
use Rattle.std.proofs.Common.{◌≡◌, ◌≢◌, ℕ, ◌+◌, ◌-◌, ◌<◌, ◌≤◌, ◌⊎◌, ⊎_elim, Bool, true, false, cond, eqb, List, length, get_or, set, take, Option, Some, None, is_none, refl, sym, ap, ◌∙◌, subst, inl, arith, eqb-true, length-set, get_or-set_same}
use Rattle.std.specs.Prelude.{if◌then◌else◌}
use Rattle.std.proofs.lemmas.Bool.{and_parts, eq-eqb, ne_eqb, ltb-true, cases_lt}
use Rattle.std.proofs.lemmas.List.{get_or_past, set-get_or}
use Rattle.std.proofs.lemmas.Option.{same_Some}
use Rattle.erm_model.specs.Member.{◌∈◌}
use Rattle.erm_model.proofs.Members.{∈-at}
use Rattle.erm_machine.specs.declared.attempt.Attempt.{Attempt}
use Rattle.erm_machine.specs.declared.attempt.Claim.{Claim}
use Rattle.erm_machine.specs.declared.attempt.Decision.TheVariants.{Commit}
use Rattle.erm_machine.specs.declared.attempt.OwnCell.{OwnCell}
use Rattle.erm_machine.specs.declared.event.Counter.{Counter}
use Rattle.erm_machine.specs.declared.event.Counter.TheVariants.{Objects, Cells}
use Rattle.erm_machine.specs.declared.part.Part.{Part}
use Rattle.erm_machine.specs.declared.place.Place.{Place}
use Rattle.erm_machine.specs.declared.place.Place.TheVariants.{Active}
use Rattle.erm_machine.specs.declared.task.Task.{Task}
use Rattle.erm_machine.specs.declared.task.Task.TheVariants as task
use Rattle.erm_machine.specs.declared.version.Cell.{Cell}
use Rattle.erm_machine.specs.declared.version.CellWord.{CellWord}
use Rattle.erm_machine.specs.declared.version.CellWord.TheVariants as word
use Rattle.erm_machine.specs.declared.version.VersionAt.{VersionAt}
use Rattle.erm_machine.specs.Cells.{WantsCell}
use Rattle.erm_machine.specs.Claims.{claims_over}
use Rattle.erm_machine.specs.Core.{Shared, claim_at, no_claim}
use Rattle.erm_machine.specs.Facts.{IsCurrent, over_of}
use Rattle.erm_machine.specs.Reading.{with_own_word, load_active_stamp, add_counter, start_row, store_row_word, unset}
use Rattle.erm_machine.specs.Seat.{is_active, is_sealed, is_own, last_claim}
use Rattle.erm_machine.specs.Settling.{head_word, load_settled_stamp, load_stamp, store_head_word, store_active_word, store_cell}
use Rattle.erm_machine.specs.Tasks.{TaskFits}
use Rattle.erm_machine.specs.Words.{blank_cell, set_word}
use Rattle.erm_machine.specs.Written.{copied, copied_at, CellFits, Copying, OwnWritten}
use Rattle.erm_machine.proofs.Backs.{HasBase, has_base_is, rest_is}
use Rattle.erm_machine.proofs.Guards.{when_then, if_then, either_way}
use Rattle.erm_core_ssn.proofs.MarksLists.{∈-take}
use Rattle.erm_core_ssn.proofs.RowsLists.{front_set, front_more}
use Rattle.erm_core_ssn.proofs.RowsSteps.{ClaimOk, ok_at, cell_less, Goes, goes_own, at_less, sets_own}
use Rattle.erm_core_ssn.proofs.RowsGoes.{IsFull, full_from, full_if, copied_full, not_copying, Step, step_full, step_ends, start_full, goes_full, goes_current, goes_settled_stamp}

-- what is known of a seat before its step
pub record Given (x : Part) : Type 0 where
  pub current : IsCurrent x.place x.current
  pub fits : TaskFits x.place x.current x.task
  pub wants : WantsCell x x.task
  pub held : (k : ℕ) → k < length x.current.writes → claims_over x ≤ k → (claim_at x.current k).held ≡ true

pub active_undecided : (p : Place) (t : Attempt) → IsCurrent p t → is_active p ≡ true → t.decision ≢ Commit
active_undecided (Active tail) t cur e = λ c. let u = cur.decision in absurd (cc)
active_undecided _ t cur e = absurd (cc)

-- where no end is in progress no claim is over
abbrev pub NoEnd : Task → Type 0
NoEnd (task.Ends raised ended step cleared) = ⊥
NoEnd _ = Unit {0}

pub none_over : (p : Place) (t : Task) (n : ℕ) → is_active p ≡ true → NoEnd t → over_of p t n ≡ 0
none_over (Active tail) (task.Ends raised ended step cleared) n e f = absurd f
none_over (Active tail) t n e f = refl
none_over _ t n e f = absurd (cc)

-- the claims stay, where the task was this one
pub goes_at : (r : Shared) (x : Part) (t : Task) (y : Part) → x.task ≡ t → Goes x t y → OwnWritten r x → OwnWritten r y
goes_at r x t y at g old = goes_own r x y (subst (λ u. Goes x u y) (sym at) g) old

copied_fetched : (p : Place) → copied p task.Fetched ≡ 0
copied_fetched (Active tail) = refl
copied_fetched _ = refl

copied_copies : (p : Place) (w : ℕ) → copied p (task.Copies w) ≡ w
copied_copies (Active tail) w = refl
copied_copies _ w = refl

none_is : {X : Type 0} (o : Option X) → is_none o ≡ true → o ≡ None
none_is None e = refl
none_is (Some v) e = absurd (cc)

-- a cell for the newest claim, of which nothing is copied yet
cell_ok : (r : Shared) (t : Attempt) (n : ℕ) (w : Claim) (own : OwnCell) → length own.words.row ≡ 16 → ClaimOk r t n w → ClaimOk r t 0 (record w { own = Some own })
cell_ok r t n w own size ok = record {
  cell = λ o e. subst (λ u. CellFits 0 (record w { own = Some own }) u) (same_Some _ _ e) (record { size = size; row = refl });
  bare = λ _ e. absurd (cc);
  rows = record { size = ok.rows.size; base = ok.rows.base; kept = ok.rows.kept };
  first = ok.first;
  installed = ok.installed;
}

-- the place of the newest claim, and others
place_here : (k l n : ℕ) → k ≡ l → cond (eqb k l) n 16 ≡ n
place_here k l n e = ap (λ b. cond b n 16) (eq-eqb k l e)

place_other : (k l n : ℕ) → k ≢ l → cond (eqb k l) n 16 ≡ 16
place_other k l n ne = ap (λ b. cond b n 16) (ne_eqb k l ne)

last_set : (ws : List Claim) (k : ℕ) (w : Claim) → length (set ws k w) - 1 ≡ length ws - 1
last_set ws k w = ap (λ n. n - 1) (length-set ws k w)

-- the newest claim gets a cell
record Gives (x y : Part) (own : OwnCell) : Type 0 where
  pub over : y.over ≡ x.over
  pub spare : (o : OwnCell) → o ∈ y.spare → (o ∈ x.spare) ⊎ (length o.words.row ≡ 16)
  pub writes : y.current.writes ≡ set x.current.writes (last_claim x.current) (record (claim_at x.current (last_claim x.current)) { own = Some own })
  pub begin : y.current.begin ≡ x.current.begin
  pub decision : y.current.decision ≡ x.current.decision
  pub stamp : y.current.stamp ≡ x.current.stamp
  pub none : copied y.place y.task ≡ 0

gives_own : (r : Shared) (x y : Part) (own : OwnCell) → 0 < length x.current.writes → is_none (claim_at x.current (last_claim x.current)).own ≡ true
    → (claim_at x.current (last_claim x.current)).held ≡ true → length own.words.row ≡ 16 → Gives x y own → OwnWritten r x → OwnWritten r y
gives_own r x y own some bare held size g old =
    sets_own r x y at w (record {
      over = g.over;
      spare = g.spare;
      writes = g.writes;
      begin = g.begin;
      decision = g.decision;
      stamp = g.stamp;
      here = λ within.
          let here : ClaimOk r x.current 0 w = cell_ok r x.current (copied_at x at) (claim_at x.current at) own size (ok_at r x old at within) in
          let b = g.begin in
          subst (λ n. ClaimOk r y.current n w) (sym (place_here at (last_claim y.current) (copied y.place y.task) (sym last) ∙ g.none))
          (record {
            cell = here.cell;
            bare = here.bare;
            rows = here.rows;
            first = let f = here.first in omega (arith, f, b);
            installed = λ c h. here.installed (sym g.decision ∙ c) h;
          });
      less = λ k ne.
          let other : k ≢ last_claim y.current = λ e. ne (e ∙ last) in
          let a = place_other k (last_claim y.current) (copied y.place y.task) other in
          let b = place_other k at (copied x.place x.task) ne in
          omega (arith, a, b);
      copying = λ _.
          ap (λ (ws : List Claim). (get_or ws (length ws - 1) no_claim).is_set) g.writes
          ∙ ap (λ n. (get_or (set x.current.writes at w) n no_claim).is_set) (last_set x.current.writes at w)
          ∙ ap (λ (v : Claim). v.is_set) (get_or-set_same x.current.writes at w no_claim (omega (arith, some)))
          ∙ old.bare at (omega (arith, some)) held (none_is _ bare);
    }) old
  where
    at : ℕ
    at = last_claim x.current

    w : Claim
    w = record (claim_at x.current (last_claim x.current)) { own = Some own }

    last : last_claim y.current ≡ last_claim x.current
    last = ap (λ (ws : List Claim). length ws - 1) g.writes ∙ last_set x.current.writes (last_claim x.current) w

-- the newest claim of an active seat that wants a cell is held
last_held : (x : Part) (t : Task) → Given x → x.task ≡ t → is_active x.place ≡ true → NoEnd t → 0 < length x.current.writes → (claim_at x.current (last_claim x.current)).held ≡ true
last_held x t given at active none some =
    let over = ap (λ u. over_of x.place u (length x.current.writes)) at ∙ none_over x.place t (length x.current.writes) active none in
    given.held (last_claim x.current) (omega (arith, some)) (omega (arith, over))

-- a cell is drawn for the newest claim, or refused
drawn_own : (r : Shared) (x : Part) (b : Bool) (own : OwnCell) → Given x → x.task ≡ task.Pool → is_active x.place ≡ true → length own.words.row ≡ 16 → OwnWritten r x
    → OwnWritten r (record x {
      task = if b then task.Fetched else task.Refused;
      current = record x.current {
        writes = if b then set x.current.writes (last_claim x.current) (record (claim_at x.current (last_claim x.current)) { own = Some own }) else x.current.writes;
      };
    })
drawn_own r x true own given at active size old =
    let wants : WantsCell x task.Pool = subst (λ u. WantsCell x u) at given.wants in
    gives_own r x _ own wants.0 wants.1 (last_held x task.Pool given at active tt wants.0) size
    (record { over = refl; spare = λ o m. inl m; writes = refl; begin = refl; decision = refl; stamp = refl; none = copied_fetched x.place }) old
drawn_own r x false own given at active size old =
    goes_at r x task.Pool _ at (goes_current x task.Pool task.Refused x.current refl refl refl refl (step_full x.place task.Pool task.Refused (full_from _ tt) (full_from _ tt))) old

pub add_counter_own : (cells : ℕ) (r : Shared) (seat : ℕ) (n : Counter) (found : ℕ) (x : Part) (t : Task) (y : Part) → Given x → x.task ≡ t → add_counter cells seat n found x t ≡ Some y → OwnWritten r x → OwnWritten r y
add_counter_own cells r seat Objects found x task.Numbers y given at e old =
    when_then (OwnWritten r) _ _ y e (λ _.
    goes_at r x task.Numbers _ at (goes_current x task.Numbers task.Rest _ refl refl refl refl (step_full x.place task.Numbers task.Rest (full_from _ tt) (full_from _ tt))) old)
add_counter_own cells r seat Cells found x task.Pool y given at e old =
    when_then (OwnWritten r) _ _ y e (λ active. drawn_own r x _ (record { cell = found; words = blank_cell }) given at active refl old)
add_counter_own cells r seat Objects found x _ y given at e old = absurd (cc)
add_counter_own cells r seat Cells found x _ y given at e old = absurd (cc)

-- the spare cell that is last
last_spare : (os : List OwnCell) (d : OwnCell) → 0 < length os → get_or os (length os - 1) d ∈ os
last_spare os d some = ∈-at os (length os - 1) d (omega (arith, some))

active_stamp_own : (r : Shared) (found : ℕ) (v : VersionAt) (w : CellWord) (x : Part) (t : Task) (y : Part) → Given x → x.task ≡ t → is_active x.place ≡ true → load_active_stamp found v w x t ≡ Some y
    → OwnWritten r x → OwnWritten r y
active_stamp_own r found v word.Overwriter x (task.Registered version) y given at active e old =
    when_then (OwnWritten r) _ _ y e (λ _. goes_at r x (task.Registered version) _ at (goes_full x (task.Registered version) _ tt (search (full_if, full_from))) old)
active_stamp_own r found v word.OverwriterSucc x (task.Overtaken version overwriter) y given at active e old =
    when_then (OwnWritten r) _ _ y e (λ _.
    goes_at r x (task.Overtaken version overwriter) _ at
    (goes_current x (task.Overtaken version overwriter) (task.Rated version) _ refl refl refl refl (step_full x.place _ _ (full_from _ tt) (full_from _ tt))) old)
active_stamp_own r found v word.ReaderStamp x task.Draws y given at active e old =
    when_then (OwnWritten r) _ _ y e (λ g.
    let wants : WantsCell x task.Draws = subst (λ u. WantsCell x u) at given.wants in
    let own : OwnCell = get_or x.spare (length x.spare - 1) (record { cell = 0; words = blank_cell }) in
    let size : length own.words.row ≡ 16 = old.spare own (last_spare x.spare _ (ltb-true _ _ (and_parts _ _ g).1)) in
    gives_own r x _ own wants.0 wants.1 (last_held x task.Draws given at active tt wants.0) size
    (record { over = refl; spare = λ o m. inl (∈-take _ x.spare o m); writes = refl; begin = refl; decision = refl; stamp = refl; none = copied_copies x.place 0 }) old)
active_stamp_own r found v word.ReaderStamp x task.Fetched y given at active e old =
    when_then (OwnWritten r) _ _ y e (λ _.
    goes_at r x task.Fetched _ at
    (goes_current x task.Fetched (task.Copies 0) _ refl refl refl refl (record { copied = let h = copied_copies x.place 0 in omega (arith, h); copying = λ h. h })) old)
active_stamp_own r found v _ x _ y given at active e old = absurd (cc)

pub load_stamp_own : (r : Shared) (found : ℕ) (v : VersionAt) (w : CellWord) (x : Part) (y : Part) → Given x → load_stamp found v w x ≡ Some y → OwnWritten r x → OwnWritten r y
load_stamp_own r found v w x y given e old =
    if_then (OwnWritten r) _ _ _ y e (λ active h. active_stamp_own r found v w x x.task y given refl active h old)
    (λ _ rest. if_then (OwnWritten r) (is_sealed x.place) (load_settled_stamp found v w x x.task) None y rest (λ _ h. goes_own r x y (goes_settled_stamp found v w x x.task y h) old) (λ _ h. absurd (cc)))

-- a word of a row is stored into the claim's row and into its cell
row_cell : (m n k value : ℕ) (w after : Claim) (o : Option OwnCell) (u : OwnCell) → after.row ≡ set w.row k value
    → ((row : List ℕ) → length row ≡ 16 → take n row ≡ take n w.row → take m (set row k value) ≡ take m (set w.row k value))
    → ((own : OwnCell) → o ≡ Some own → CellFits n w own) → with_own_word (word.Row k) value o ≡ Some u → CellFits m after u
row_cell m n k value w after None u is front fits e = absurd (cc)
row_cell m n k value w after (Some own) u is front fits e =
    let f = fits own refl in
    let g : CellFits m after (record own { words = set_word (word.Row k) value own.words }) = record {
      size = length-set own.words.row k value ∙ f.size;
      row = front own.words.row f.size f.row ∙ ap (take m) (sym is);
    } in
    subst (λ v. CellFits m after v) (same_Some _ _ e) g

-- a cell stays a cell
still_some : (w : CellWord) (value cell : ℕ) (o : Option OwnCell) → is_own cell o ≡ true → with_own_word w value o ≡ None → ⊥
still_some w value cell None own e = absurd (cc)
still_some w value cell (Some o) own e = cc

-- a write stores a word
written_ok : (r : Shared) (t : Attempt) (n k value cell : ℕ) (w : Claim) → is_own cell w.own ≡ true → t.decision ≢ Commit → ClaimOk r t n w
    → ClaimOk r t n (record w { row = set w.row k value; own = with_own_word (word.Row k) value w.own; is_set = true })
written_ok r t n k value cell w own undecided ok = record {
  cell = λ u e. row_cell n n k value w _ w.own u refl (λ row size same. front_set n row w.row k value same) ok.cell e;
  bare = λ _ e. absurd (still_some (word.Row k) value cell w.own own e);
  rows = record { size = length-set w.row k value ∙ ok.rows.size; base = ok.rows.base; kept = λ e. absurd (cc) };
  first = ok.first;
  installed = λ c _. absurd (undecided c);
}

-- a word of the row of the version overwritten is copied
copied_ok : (r : Shared) (t : Attempt) (n value : ℕ) (w : Claim) → n < 16 → value ≡ get_or w.base n 0 → w.is_set ≡ false → t.decision ≢ Commit → ClaimOk r t n w
    → ClaimOk r t (n + 1) (record w { row = set w.row n value; own = with_own_word (word.Row n) value w.own; is_set = false })
copied_ok r t n value w low value_is unset undecided ok = record {
  cell = λ u e. row_cell (n + 1) n n value w _ w.own u refl
      (λ row size same. front_more n row w.row value (omega (arith, size, low)) (let s = ok.rows.size in omega (arith, s, low)) same) ok.cell e;
  bare = λ _ _. refl;
  rows = record {
    size = length-set w.row n value ∙ ok.rows.size;
    base = ok.rows.base;
    kept = λ _. ap (λ row. set row n value) (ok.rows.kept unset) ∙ ap (λ v. set w.base n v) value_is ∙ set-get_or w.base n 0;
  };
  first = ok.first;
  installed = λ c _. absurd (undecided c);
}

-- one claim's words change, at a place where the task goes on as full
set_full : (r : Shared) (x : Part) (t u : Task) (at : ℕ) (w : Claim) → x.task ≡ t → IsFull t → IsFull u
    → (at < length x.current.writes → ClaimOk r x.current (copied_at x at) w) → OwnWritten r x
    → OwnWritten r (record x { task = u; current = record x.current { writes = set x.current.writes at w } })
set_full r x t u at w is f g ok old =
    sets_own r x (record x { task = u; current = record x.current { writes = set x.current.writes at w } }) at w (record {
      over = refl;
      spare = λ o m. inl m;
      writes = refl;
      begin = refl;
      decision = refl;
      stamp = refl;
      here = λ within.
          let h = ok within in
          let before : copied_at x at ≡ 16 = full_at x at (subst IsFull (sym is) f) in
          let after : cond (eqb at (length (set x.current.writes at w) - 1)) (copied x.place u) 16 ≡ 16 =
          either_way (λ (n : ℕ). n ≡ 16) (eqb at (length (set x.current.writes at w) - 1)) (copied x.place u) 16 (λ _. copied_full x.place u g.full) (λ _. refl) in
          let k : ClaimOk r x.current 16 w = subst (λ n. ClaimOk r x.current n w) before h in
          subst (λ n. ClaimOk r (record x.current { writes = set x.current.writes at w }) n w) (sym after)
          (record { cell = k.cell; bare = k.bare; rows = k.rows; first = k.first; installed = k.installed });
      less = λ k ne.
          let before : copied_at x k ≡ 16 = full_at x k (subst IsFull (sym is) f) in
          let after : cond (eqb k (length (set x.current.writes at w) - 1)) (copied x.place u) 16 ≡ 16 =
          either_way (λ (n : ℕ). n ≡ 16) (eqb k (length (set x.current.writes at w) - 1)) (copied x.place u) 16 (λ _. copied_full x.place u g.full) (λ _. refl) in
          omega (arith, before, after);
      copying = λ h. absurd (not_copying u g.full h);
    }) old
  where
    full_at : (x : Part) (k : ℕ) → IsFull x.task → copied_at x k ≡ 16
    full_at x k f = either_way (λ (n : ℕ). n ≡ 16) (eqb k (last_claim x.current)) (copied x.place x.task) 16 (λ _. copied_full x.place x.task f.full) (λ _. refl)

start_row_own : (r : Shared) (place cell k value : ℕ) (x : Part) (t : Task) (y : Part) → Given x → x.task ≡ t → is_active x.place ≡ true → start_row place cell k value x t ≡ Some y
    → OwnWritten r x → OwnWritten r y
start_row_own r place cell k value x t y given at active e old =
    when_then (OwnWritten r) _ _ y e (λ g.
    let g1 = and_parts _ _ g in
    let g2 = and_parts _ _ g1.0 in
    let g3 = and_parts _ _ g2.0 in
    set_full r x t (task.Writes place 1) place _ at (start_full t g3.0) (full_from _ tt)
    (λ within. written_ok r x.current (copied_at x place) k value cell (claim_at x.current place) g2.1 (active_undecided x.place x.current given.current active) (ok_at r x old place within)) old)

-- the task after a copied word
copied_next : (p : Place) (w : ℕ) → copied p (if (eqb (w + 1) 16) then task.Rest else task.Copies (w + 1)) ≡ w + 1
copied_next p w =
    either_way (λ u. copied p u ≡ w + 1) (eqb (w + 1) 16) task.Rest (task.Copies (w + 1)) (λ e. copied_full p task.Rest tt ∙ sym (eqb-true (w + 1) 16 e)) (λ _. copied_copies p (w + 1))

copy_row_own : (r : Shared) (place cell k value w : ℕ) (x : Part) → Given x → x.task ≡ task.Copies w → is_active x.place ≡ true
    → place ≡ last_claim x.current → k ≡ w → k < 16 → value ≡ get_or (claim_at x.current place).base k 0 → place < length x.current.writes → OwnWritten r x
    → OwnWritten r (record x {
      task = if (eqb (w + 1) 16) then task.Rest else task.Copies (w + 1);
      current = record x.current {
        writes = set x.current.writes place
            (record (claim_at x.current place) {
              row = set (claim_at x.current place).row k value;
              own = with_own_word (word.Row k) value (claim_at x.current place).own;
              is_set = false;
            });
      };
    })
copy_row_own r place cell k value w x given at active is_last is_word low value_is within old =
    sets_own r x _ place _ (record {
      over = refl;
      spare = λ o m. inl m;
      writes = refl;
      begin = refl;
      decision = refl;
      stamp = refl;
      here = λ _.
          let c : ClaimOk r x.current w (claim_at x.current place) = subst (λ n. ClaimOk r x.current n (claim_at x.current place)) before (ok_at r x old place within) in
          let d : ClaimOk r x.current (w + 1) after = copied_from c in
          subst (λ n. ClaimOk r (record x.current { writes = set x.current.writes place after }) n after) (sym now)
          (record { cell = d.cell; bare = d.bare; rows = d.rows; first = d.first; installed = d.installed });
      less = λ j ne.
          let a = place_other j (length (set x.current.writes place after) - 1) (copied x.place (if (eqb (w + 1) 16) then task.Rest else task.Copies (w + 1))) (λ e. ne (e ∙ last)) in
          let b = place_other j (last_claim x.current) (copied x.place x.task) (λ e. ne (e ∙ sym is_last)) in
          omega (arith, a, b);
      copying = λ _. ap (λ n. (get_or (set x.current.writes place after) n no_claim).is_set) last
          ∙ ap (λ (v : Claim). v.is_set) (get_or-set_same x.current.writes place after no_claim within);
    }) old
  where
    after : Claim
    after = record (claim_at x.current place) {
      row = set (claim_at x.current place).row k value;
      own = with_own_word (word.Row k) value (claim_at x.current place).own;
      is_set = false;
    }

    last : length (set x.current.writes place after) - 1 ≡ place
    last = last_set x.current.writes place after ∙ sym is_last

    before : copied_at x place ≡ w
    before = place_here place (last_claim x.current) (copied x.place x.task) is_last ∙ ap (copied x.place) at ∙ copied_copies x.place w

    now : cond (eqb place (length (set x.current.writes place after) - 1)) (copied x.place (if (eqb (w + 1) 16) then task.Rest else task.Copies (w + 1))) 16 ≡ w + 1
    now = place_here place (length (set x.current.writes place after) - 1) _ (sym last) ∙ copied_next x.place w

    unset : (claim_at x.current place).is_set ≡ false
    unset = ap (λ n. (claim_at x.current n).is_set) is_last ∙ old.copying (subst Copying (sym at) tt)

    copied_from : ClaimOk r x.current w (claim_at x.current place) → ClaimOk r x.current (w + 1) after
    copied_from c =
        subst
        (λ n. ClaimOk r x.current (w + 1)
        (record (claim_at x.current place) { row = set (claim_at x.current place).row n value; own = with_own_word (word.Row n) value (claim_at x.current place).own; is_set = false }))
        (sym is_word)
        (copied_ok r x.current w value (claim_at x.current place) (omega (arith, low, is_word)) (value_is ∙ ap (λ n. get_or (claim_at x.current place).base n 0) is_word) unset
        (active_undecided x.place x.current given.current active) c)

-- what is stored at a place where no claim is changes nothing: a claim that has a cell is one
own_within : (x : Part) (place cell : ℕ) → is_own cell (claim_at x.current place).own ≡ true → place < length x.current.writes
own_within x place cell e =
    ⊎_elim
    (λ (low : place < length x.current.writes). low)
    (λ (high : length x.current.writes ≤ place).
    let none : is_own cell None ≡ true = subst (λ (w : Claim). is_own cell w.own ≡ true) (get_or_past x.current.writes place no_claim high) e in absurd (cc))
    (cases_lt place (length x.current.writes))

row_word_own : (r : Shared) (place cell k value : ℕ) (x : Part) (t : Task) (y : Part) → Given x → x.task ≡ t → is_active x.place ≡ true → store_row_word place cell k value x t ≡ Some y
    → OwnWritten r x → OwnWritten r y
row_word_own r place cell k value x (task.Copies w) y given at active e old =
    when_then (OwnWritten r) _ _ y e (λ g.
    let g1 = and_parts _ _ g in
    let g2 = and_parts _ _ g1.0 in
    let g3 = and_parts _ _ g2.0 in
    let g4 = and_parts _ _ g3.0 in
    copy_row_own r place cell k value w x given at active (eqb-true _ _ g4.0) (eqb-true _ _ g3.1) (ltb-true _ _ g2.1) (eqb-true _ _ g1.1) (own_within x place cell g4.1) old)
row_word_own r place cell k value x (task.Writes claim w) y given at active e old =
    when_then (OwnWritten r) _ _ y e (λ g.
    let own : is_own cell (claim_at x.current place).own ≡ true = (and_parts _ _ (and_parts _ _ (and_parts _ _ g).0).0).1 in
    set_full r x (task.Writes claim w) (if (eqb (w + 1) 16) then task.Rest else task.Writes claim (w + 1)) place _ at (full_from _ tt) (full_if (eqb (w + 1) 16) task.Rest (task.Writes claim (w + 1)) (full_from task.Rest tt) (full_from (task.Writes claim (w + 1)) tt))
    (λ within. written_ok r x.current (copied_at x place) k value cell (claim_at x.current place) own (active_undecided x.place x.current given.current active) (ok_at r x old place within)) old)
row_word_own r place cell k value x t y given at active e old = start_row_own r place cell k value x t y given at active e old

active_word_own : (r : Shared) (place cell : ℕ) (w : CellWord) (value : ℕ) (x : Part) (y : Part) → Given x → is_active x.place ≡ true → store_active_word place cell w value x ≡ Some y
    → OwnWritten r x → OwnWritten r y
active_word_own r place cell (word.Row k) value x y given active e old = row_word_own r place cell k value x x.task y given refl active e old
active_word_own r place cell _ value x y given active e old = absurd (cc)

-- a row that is that of the version overwritten again is as if no write had set it
unset_ok : (r : Shared) (t : Attempt) (n : ℕ) (w : Claim) → HasBase w.base w.own → t.decision ≢ Commit → ClaimOk r t n w → ClaimOk r t n (record w { row = w.base; is_set = false })
unset_ok r t n w has undecided ok = record {
  cell = λ own e.
      let same : has.own ≡ own = same_Some _ _ (sym has.is ∙ e) in
      record { size = (ok.cell own e).size; row = ap (λ (o : OwnCell). take n o.words.row) (sym same) ∙ ap (take n) has.row };
  bare = λ _ _. refl;
  rows = record { size = ap (λ (row : List ℕ). length row) (sym has.row) ∙ (ok.cell has.own has.is).size; base = ok.rows.base; kept = λ _. refl };
  first = ok.first;
  installed = λ c _. absurd (undecided c);
}

pub unset_own : (r : Shared) (place : ℕ) (x y : Part) → Given x → unset place x ≡ Some y → OwnWritten r x → OwnWritten r y
unset_own r place x y given e old =
    when_then (OwnWritten r) _ _ y e (λ g.
    let all = and_parts _ _ g in
    let tests = and_parts _ _ (and_parts _ _ all.0).0 in
    let full = subst IsFull (sym (rest_is x.task tests.1)) (full_from task.Rest tt) in
    set_full r x x.task x.task place _ refl full full
    (λ within.
    unset_ok r x.current (copied_at x place) (claim_at x.current place) (has_base_is (claim_at x.current place).base (claim_at x.current place).own all.1)
    (active_undecided x.place x.current given.current tests.0) (ok_at r x old place within)) old)

-- words before the row leave it
head_stays : (step : ℕ) (w : CellWord) (value : ℕ) (c : Cell) → head_word step w ≡ true → (set_word w value c).row ≡ c.row
head_stays step (word.Row k) value c e = absurd (cc)
head_stays step word.Stamp value c e = refl
head_stays step word.Link value c e = refl
head_stays step word.Readers value c e = refl
head_stays step word.ReaderStamp value c e = refl
head_stays step word.Overwriter value c e = refl
head_stays step word.OverwriterSucc value c e = refl

head_cell : (n step : ℕ) (w : CellWord) (value : ℕ) (v after : Claim) (o : Option OwnCell) (u : OwnCell) → head_word step w ≡ true → after.row ≡ v.row
    → ((own : OwnCell) → o ≡ Some own → CellFits n v own) → with_own_word w value o ≡ Some u → CellFits n after u
head_cell n step w value v after None u head is fits e = absurd (cc)
head_cell n step w value v after (Some own) u head is fits e =
    let f = fits own refl in
    let row = head_stays step w value own.words head in
    let g : CellFits n after (record own { words = set_word w value own.words }) = record {
      size = ap (λ (ws : List ℕ). length ws) row ∙ f.size;
      row = ap (take n) row ∙ f.row ∙ ap (take n) (sym is);
    } in
    subst (λ z. CellFits n after z) (same_Some _ _ e) g

still_none : (w : CellWord) (value : ℕ) (o : Option OwnCell) → with_own_word w value o ≡ None → o ≡ None
still_none w value None e = refl
still_none w value (Some own) e = absurd (cc)

head_ok : (r : Shared) (t : Attempt) (n step : ℕ) (w : CellWord) (value : ℕ) (v : Claim) → head_word step w ≡ true → ClaimOk r t n v → ClaimOk r t n (record v { own = with_own_word w value v.own })
head_ok r t n step w value v head ok = record {
  cell = λ u e. head_cell n step w value v _ v.own u head refl ok.cell e;
  bare = λ held e. ok.bare held (still_none w value v.own e);
  rows = record { size = ok.rows.size; base = ok.rows.base; kept = ok.rows.kept };
  first = ok.first;
  installed = ok.installed;
}

-- one claim changes in the middle of an end
pub set_ends : (r : Shared) (x : Part) (spare : List OwnCell) (t u : Task) (at : ℕ) (w : Claim) → x.task ≡ t → Step x.place t u → (Copying u → ⊥)
    → ((o : OwnCell) → o ∈ spare → (o ∈ x.spare) ⊎ (length o.words.row ≡ 16))
    → (at < length x.current.writes → ClaimOk r x.current (copied_at x at) w) → OwnWritten r x
    → OwnWritten r (record x { task = u; current = record x.current { writes = set x.current.writes at w }; spare = spare })
set_ends r x spare t u at w is step uncopied spares ok old =
    sets_own r x (record x { task = u; current = record x.current { writes = set x.current.writes at w }; spare = spare }) at w (record {
      over = refl;
      spare = spares;
      writes = refl;
      begin = refl;
      decision = refl;
      stamp = refl;
      here = λ within.
          let h = ok within in
          record {
            cell = λ o e. cell_less _ (copied_at x at) w o (less at) (h.cell o e);
            bare = h.bare;
            rows = h.rows;
            first = h.first;
            installed = h.installed;
          };
      less = λ k _. less k;
      copying = λ h. absurd (uncopied h);
    }) old
  where
    less : (k : ℕ) → cond (eqb k (length (set x.current.writes at w) - 1)) (copied x.place u) 16 ≤ copied_at x k
    less k =
        subst (λ n. cond (eqb k n) (copied x.place u) 16 ≤ copied_at x k) (sym (last_set x.current.writes at w))
        (at_less (eqb k (last_claim x.current)) (copied x.place u) (copied x.place x.task) (subst (λ v. copied x.place u ≤ copied x.place v) (sym is) step.copied))

head_word_own : (r : Shared) (place cell : ℕ) (w : CellWord) (value : ℕ) (x : Part) (t : Task) (y : Part) → x.task ≡ t → store_head_word place cell w value x t ≡ Some y → OwnWritten r x → OwnWritten r y
head_word_own r place cell w value x (task.Ends raised ended step cleared) y at e old =
    when_then (OwnWritten r) _ _ y e (λ g.
    let head = (and_parts _ _ (and_parts _ _ (and_parts _ _ g).0).0).1 in
    set_ends r x x.spare (task.Ends raised ended step cleared) (task.Ends raised ended (step + 1) cleared) place _ at (step_ends x.place _ _ _ _ _ _ _ _) (λ h. h) (λ o m. inl m)
    (λ within. head_ok r x.current (copied_at x place) step w value (claim_at x.current place) head (ok_at r x old place within)) old)
head_word_own r place cell w value x _ y at e old = absurd (cc)

pub store_cell_own : (r : Shared) (place cell : ℕ) (w : CellWord) (value : ℕ) (x : Part) (y : Part) → Given x → store_cell place cell w value x ≡ Some y → OwnWritten r x → OwnWritten r y
store_cell_own r place cell w value x y given e old =
    if_then (OwnWritten r) _ _ _ y e (λ active h. active_word_own r place cell w value x y given active h old) (λ _ h. head_word_own r place cell w value x x.task y refl h old)
