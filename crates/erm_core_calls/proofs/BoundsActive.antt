-- How far a call may have come: the steps of an active transaction.
use Rattle.std.proofs.Common.{◌≡◌, ℕ, ◌+◌, ◌<◌, Bool, true, false, eqb, ltb, length, Some, None, refl, sym, subst, arith, length-set}
use Rattle.std.specs.Prelude.{if◌then◌else◌}
use Rattle.std.proofs.lemmas.Bool.{eqb-false, ltb-true}
use Rattle.erm_model.specs.declared.TheConstants.{ROW_WORDS}
use Rattle.erm_machine.specs.declared.attempt.Attempt.{Attempt}
use Rattle.erm_machine.specs.declared.attempt.Claim.{Claim}
use Rattle.erm_machine.specs.declared.event.Counter.{Counter}
use Rattle.erm_machine.specs.declared.event.Counter.TheVariants.{Objects, Cells}
use Rattle.erm_machine.specs.declared.part.Part.{Part}
use Rattle.erm_machine.specs.declared.task.Task.{Task}
use Rattle.erm_machine.specs.declared.task.Task.TheVariants as task
use Rattle.erm_machine.specs.declared.version.CellWord.{CellWord}
use Rattle.erm_machine.specs.declared.version.CellWord.TheVariants as word
use Rattle.erm_machine.specs.declared.version.VersionAt.{VersionAt}
use Rattle.erm_machine.specs.Bounds.{IsBounded, OwnBounds}
use Rattle.erm_machine.specs.Core.{Object}
use Rattle.erm_machine.specs.Reading.{head_version, entered, lost, after_cut, detached, load_entry, claim, set_reader, load_walked_stamp, load_walked_link, load_cell, swap_link, load_detached, load_counter, add_counter, load_active_stamp, start_row, store_row_word, unset}
use Rattle.erm_machine.specs.Seat.{is_active}
use Rattle.erm_machine.specs.Settling.{store_active_word, unclaim}
use Rattle.erm_machine.specs.Tasks.{OwnTask}
use Rattle.erm_machine.specs.Words.{is_seat, owner_of}
use Rattle.erm_machine.proofs.Backs.{entry_then, rest_is}
use Rattle.erm_machine.proofs.Guards.{when_then, if_then, either_way}
use Rattle.erm_core_calls.proofs.BoundsFrames.{first, second, positive_of, Ready, ready_active, Bound, bound_if, bound_from, goes_on, task_on}

after_cut_bound : (p : ℕ) (t : Attempt) (x : Part) → Bound p t (after_cut x)
after_cut_bound p t x = search (bound_if, bound_from)

detached_bound : (p : ℕ) (t : Attempt) (found : ℕ) (v : VersionAt) (x : Part) → Bound p t (detached found v x)
detached_bound p t found v x = search (bound_if, bound_from, after_cut_bound)

-- an owner of the entry that is found is another seat that has words
entered_bound : (p oid entry : ℕ) (o : Object) (t : Attempt) → (0 < owner_of entry → is_seat (owner_of entry) ≡ true) → Bound p t (entered p oid entry o)
entered_bound p oid entry o t words =
    either_way (Bound p t) (eqb (owner_of entry) 0) (task.Walks (head_version oid entry o) (Some entry)) _ (λ _. search (bound_from))
    (λ some. either_way (Bound p t) (eqb (owner_of entry) p) (task.Claimed (head_version oid entry o)) (task.Owned oid (owner_of entry)) (λ _. search (bound_from))
    (λ other. bound_from p t (task.Owned oid (owner_of entry)) (record { another = eqb-false (owner_of entry) p other; has_words = words (positive_of (owner_of entry) some) }) tt))

-- an entry exchanged, or another one found
claimed_bound : (p oid found : ℕ) (b : Bool) (v : VersionAt) (o : Object) (t : Attempt) → (0 < owner_of found → is_seat (owner_of found) ≡ true) →
    Bound p t (if b then task.Claimed v else lost p oid found v o)
claimed_bound p oid found b v o t words =
    either_way (Bound p t) b (task.Claimed v) (lost p oid found v o) (λ _. search (bound_from))
    (λ _. either_way (Bound p t) _ (task.Passed (head_version oid found o)) (entered p oid found o) (λ _. search (bound_from)) (λ _. entered_bound p oid found o t words))

module _ (p : ℕ) (x : Part) (own : OwnBounds p x) (fits : OwnTask x) where
  -- one that is active has stored no word
  active : is_active x.place ≡ true → Ready p x
  active at = ready_active p x own fits at

  pub b_load_entry : (oid found : ℕ) (o : Object) (t : Task) (y : Part) → (0 < owner_of found → is_seat (owner_of found) ≡ true) → load_entry p oid found o x t ≡ Some y → OwnBounds p y
  b_load_entry oid found o (task.Cleared cleared) y words e =
      when_then (OwnBounds p) _ _ y e (λ g. task_on p x _ (active g) (either_way (Bound p x.current) (eqb oid cleared) (task.Walks (head_version oid found o) None) (entered p oid found o) (λ _. search (bound_from)) (λ _. entered_bound p oid found o x.current words)))
  b_load_entry oid found o t y words e =
      entry_then (OwnBounds p) p oid found o x t y e
      (λ _ at. task_on p x _ (active at) (search (bound_from)))
      (λ g. task_on p x _ (active (first _ _ g)) (entered_bound p oid found o x.current words))

  pub b_claim : (oid seen number found : ℕ) (o : Object) (t : Task) (y : Part) → (0 < owner_of found → is_seat (owner_of found) ≡ true) → claim p oid seen number found o x t ≡ Some y → OwnBounds p y
  b_claim oid seen number found o (task.Found version stamp (Some entry)) y words e =
      when_then (OwnBounds p) _ _ y e (λ g.
      goes_on p x _ _ x.spare (active (first _ _ (first _ _ (first _ _ (first _ _ (first _ _ g)))))) refl refl refl
      (claimed_bound p oid found _ _ o _ words))
  b_claim oid seen number found o _ y words e = absurd (cc)

  pub b_set_reader : (v : VersionAt) (o : Object) (t : Task) (y : Part) → set_reader p v o x t ≡ Some y → OwnBounds p y
  b_set_reader v o (task.Found version stamp head) y e =
      when_then (OwnBounds p) _ _ y e (λ g. goes_on p x _ _ x.spare (active (first _ _ (first _ _ (first _ _ (first _ _ g))))) refl refl refl (search (bound_from)))
  b_set_reader v o _ y e = absurd (cc)

  b_walked_stamp : (found : ℕ) (v : VersionAt) (t : Task) (y : Part) → is_active x.place ≡ true → load_walked_stamp found v x t ≡ Some y → OwnBounds p y
  b_walked_stamp found v (task.Walks version head) y at e = when_then (OwnBounds p) _ _ y e (λ _. task_on p x _ (active at) (search (bound_if, bound_from)))
  b_walked_stamp found v (task.CutWalks version horizon) y at e = when_then (OwnBounds p) _ _ y e (λ _. task_on p x _ (active at) (search (bound_if, bound_from)))
  b_walked_stamp found v (task.SafeWalks version) y at e = when_then (OwnBounds p) _ _ y e (λ _. task_on p x _ (active at) (search (bound_if, bound_from)))
  b_walked_stamp found v (task.Passed version) y at e = when_then (OwnBounds p) _ _ y e (λ _. task_on p x _ (active at) (search (bound_from)))
  b_walked_stamp found v _ y at e = absurd (cc)

  b_walked_link : (found : ℕ) (v : VersionAt) (t : Task) (y : Part) → is_active x.place ≡ true → load_walked_link found v x t ≡ Some y → OwnBounds p y
  b_walked_link found v (task.Passed version) y at e = when_then (OwnBounds p) _ _ y e (λ _. task_on p x _ (active at) (search (bound_from)))
  b_walked_link found v (task.SafePassed version) y at e = when_then (OwnBounds p) _ _ y e (λ _. task_on p x _ (active at) (search (bound_from)))
  b_walked_link found v (task.CutPassed version horizon) y at e =
      when_then (OwnBounds p) _ _ y e (λ _. task_on p x _ (active at) (search (bound_if, bound_from, after_cut_bound)))
  b_walked_link found v _ y at e = absurd (cc)

  pub b_load_cell : (found : ℕ) (v : VersionAt) (w : CellWord) (y : Part) → load_cell found v w x ≡ Some y → OwnBounds p y
  b_load_cell found v word.Stamp y e = if_then (OwnBounds p) (is_active x.place) (load_walked_stamp found v x x.task) None y e (λ at h. b_walked_stamp found v x.task y at h) (λ _ h. absurd (cc))
  b_load_cell found v word.Link y e = if_then (OwnBounds p) (is_active x.place) (load_walked_link found v x x.task) None y e (λ at h. b_walked_link found v x.task y at h) (λ _ h. absurd (cc))
  b_load_cell found v (word.Row k) y e = when_then (OwnBounds p) _ _ y e (λ _. own)
  b_load_cell found v _ y e = absurd (cc)

  pub b_swap_link : (found : ℕ) (v : VersionAt) (o : Object) (t : Task) (y : Part) → swap_link found v o x t ≡ Some y → OwnBounds p y
  b_swap_link found v o (task.CutFound version horizon) y e = when_then (OwnBounds p) _ _ y e (λ g. goes_on p x _ x.current _ (active (first _ _ g)) refl refl refl (detached_bound p x.current found version x))
  b_swap_link found v o _ y e = absurd (cc)

  pub b_load_detached : (found : ℕ) (v : VersionAt) (t : Task) (y : Part) → load_detached found v x t ≡ Some y → OwnBounds p y
  b_load_detached found v (task.Detaches version) y e = when_then (OwnBounds p) _ _ y e (λ g. task_on p x _ (active (first _ _ g)) (detached_bound p x.current found version x))
  b_load_detached found v _ y e = absurd (cc)

  pub b_load_counter : (cells : ℕ) (c : Counter) (found : ℕ) (t : Task) (y : Part) → load_counter cells c found x t ≡ Some y → OwnBounds p y
  b_load_counter cells Objects found t y e = when_then (OwnBounds p) _ _ y e (λ g. task_on p x _ (active (first _ _ g)) (search (bound_if, bound_from)))
  b_load_counter cells Cells found task.Draws y e = when_then (OwnBounds p) _ _ y e (λ g. task_on p x _ (active (first _ _ g)) (search (bound_if, bound_from)))
  b_load_counter cells Cells found _ y e = absurd (cc)

  pub b_add_counter : (cells : ℕ) (c : Counter) (found : ℕ) (t : Task) (y : Part) → add_counter cells p c found x t ≡ Some y → OwnBounds p y
  b_add_counter cells Objects found task.Numbers y e = when_then (OwnBounds p) _ _ y e (λ g. goes_on p x _ _ x.spare (active (first _ _ g)) refl refl refl (search (bound_from)))
  b_add_counter cells Cells found task.Pool y e =
      when_then (OwnBounds p) _ _ y e (λ g. goes_on p x _ _ x.spare (active g) refl refl refl (search (bound_if, bound_from)))
  b_add_counter cells Objects found _ y e = absurd (cc)
  b_add_counter cells Cells found _ y e = absurd (cc)

  -- a claim that is rated is one of its transaction's
  pub b_active_stamp : (found : ℕ) (v : VersionAt) (w : CellWord) (t : Task) (y : Part) → (t ≡ task.Draws → 0 < length x.current.writes) → (t ≡ task.Fetched → 0 < length x.current.writes) →
      is_active x.place ≡ true → load_active_stamp found v w x t ≡ Some y → OwnBounds p y
  b_active_stamp found v word.Overwriter (task.Registered version) y draws fetched at e = when_then (OwnBounds p) _ _ y e (λ _. task_on p x _ (active at) (search (bound_if, bound_from)))
  b_active_stamp found v word.OverwriterSucc (task.Overtaken version overwriter) y draws fetched at e = when_then (OwnBounds p) _ _ y e (λ _. goes_on p x _ _ x.spare (active at) refl refl refl (search (bound_from)))
  b_active_stamp found v word.ReaderStamp task.Draws y draws fetched at e =
      when_then (OwnBounds p) _ _ y e (λ _. goes_on p x _ _ _ (active at) refl refl refl (bound_from p _ _ (let some = draws refl in omega (arith, some, length-set {A = Claim}), omega arith) tt))
  b_active_stamp found v word.ReaderStamp task.Fetched y draws fetched at e =
      when_then (OwnBounds p) _ _ y e (λ _. goes_on p x _ _ x.spare (active at) refl refl refl (bound_from p _ _ (fetched refl, omega arith) tt))
  b_active_stamp found v _ _ y draws fetched at e = absurd (cc)

  b_start_row : (place cell k value : ℕ) (t : Task) (y : Part) → is_active x.place ≡ true → start_row place cell k value x t ≡ Some y → OwnBounds p y
  b_start_row place cell k value t y at e =
      when_then (OwnBounds p) _ _ y e (λ g.
      let within : place < length x.current.writes = ltb-true place (length x.current.writes) (second _ (ltb place (length x.current.writes)) (first _ _ (first _ _ g))) in
      goes_on p x _ _ x.spare (active at) refl refl refl (bound_from p _ _ (omega (arith, within, length-set {A = Claim}), omega arith) tt))

  -- the next word of a row, or none
  word_below : (w : ℕ) → w < 16 → eqb (w + 1) 16 ≡ false → w + 1 < ROW_WORDS
  word_below w low e = let ne = eqb-false (w + 1) 16 e in grind arith

  b_row_word : (place cell k value : ℕ) (t : Task) (y : Part) → x.task ≡ t → is_active x.place ≡ true → store_row_word place cell k value x t ≡ Some y → OwnBounds p y
  b_row_word place cell k value (task.Copies w) y is at e =
      when_then (OwnBounds p) _ _ y e (λ g.
      let old : IsBounded p x.current (task.Copies w) = subst (IsBounded p x.current) is own.bounded in
      let some = old.0 in
      let low = old.1 in
      goes_on p x _ _ x.spare (active at) refl refl refl
      (either_way (Bound p _) (eqb (w + 1) 16) _ _ (λ _. bound_from p _ _ tt tt)
      (λ more. bound_from p _ _ (omega (arith, some, length-set {A = Claim}), word_below w (omega (arith, low)) more) tt)))
  b_row_word place cell k value (task.Writes claim w) y is at e =
      when_then (OwnBounds p) _ _ y e (λ g.
      let old : IsBounded p x.current (task.Writes claim w) = subst (IsBounded p x.current) is own.bounded in
      let some = old.0 in
      let low = old.1 in
      goes_on p x _ _ x.spare (active at) refl refl refl
      (either_way (Bound p _) (eqb (w + 1) 16) _ _ (λ _. bound_from p _ _ tt tt)
      (λ more. bound_from p _ _ (omega (arith, some, length-set {A = Claim}), word_below w (omega (arith, low)) more) tt)))
  b_row_word place cell k value t y is at e = b_start_row place cell k value t y at e

  pub b_active_word : (place cell : ℕ) (w : CellWord) (value : ℕ) (y : Part) → is_active x.place ≡ true → store_active_word place cell w value x ≡ Some y → OwnBounds p y
  b_active_word place cell (word.Row k) value y at e = b_row_word place cell k value x.task y refl at e
  b_active_word place cell _ value y at e = absurd (cc)

  pub b_unset : (place : ℕ) (y : Part) → unset place x ≡ Some y → OwnBounds p y
  b_unset place y e =
      when_then (OwnBounds p) _ _ y e (λ g.
      let tests = first _ _ (first _ _ g) in
      goes_on p x x.task _ x.spare (active (first _ _ tests)) refl refl refl (subst (Bound p _) (sym (rest_is x.task (second _ _ tests))) (bound_from p _ task.Rest tt tt)))

  pub b_unclaim : (oid head : ℕ) (y : Part) → unclaim oid head x ≡ Some y → OwnBounds p y
  b_unclaim oid head y e = when_then (OwnBounds p) _ _ y e (λ g. goes_on p x _ _ x.spare (active (first _ _ (first _ _ (first _ _ g)))) refl refl refl (search (bound_from)))
