-- Steps that leave what counts of a seat's transactions, and of its call in progress.
use Rattle.std.proofs.Common.{◌≡◌, ℕ, ◌+◌, Bool, true, false, ◌&&◌, ◌||◌, List, set, Some, None, refl, sym, ap, subst, arith}
use Rattle.std.specs.Prelude.{if◌then◌else◌}
use Rattle.std.proofs.lemmas.Bool.{and_parts}
use Rattle.erm_model.specs.declared.history.VersionWritten.{VersionWritten}
use Rattle.erm_machine.specs.declared.attempt.Attempt.{Attempt}
use Rattle.erm_machine.specs.declared.attempt.Claim.{Claim}
use Rattle.erm_machine.specs.declared.event.Counter.{Counter}
use Rattle.erm_machine.specs.declared.event.Counter.TheVariants.{Objects, Cells}
use Rattle.erm_machine.specs.declared.part.Flushing.{Flushing}
use Rattle.erm_machine.specs.declared.part.Flushing.TheVariants as flushing
use Rattle.erm_machine.specs.declared.part.Part.{Part}
use Rattle.erm_machine.specs.declared.place.Place.{Place}
use Rattle.erm_machine.specs.declared.place.Place.TheVariants.{Decided}
use Rattle.erm_machine.specs.declared.task.Task.{Task}
use Rattle.erm_machine.specs.declared.task.Task.TheVariants as task
use Rattle.erm_machine.specs.declared.version.CellWord.{CellWord}
use Rattle.erm_machine.specs.declared.version.CellWord.TheVariants as word
use Rattle.erm_machine.specs.declared.version.VersionAt.{VersionAt}
use Rattle.erm_machine.specs.Core.{Core, Object, claim_at, no_claim}
use Rattle.erm_machine.specs.Decided.{bare, written_of}
use Rattle.erm_machine.specs.Life.{load_tail_to_gather, load_tail_for_horizon, load_begin, load_back, store_back, after_passed}
use Rattle.erm_machine.specs.Reading.{load_entry, entered, load_walked_stamp, load_walked_link, load_cell, after_cut, detached, swap_link, load_detached, load_counter}
use Rattle.erm_machine.specs.Seat.{is_active, is_decided}
use Rattle.erm_machine.specs.Settling.{raise_reader, store_head_word, mark_overwritten, store_succ, store_overwriter}
use Rattle.erm_machine.specs.Flushing.{gathered_word, load_ring, clear_ring, store_flushed}
use Rattle.erm_machine.specs.Sound.{Sound}
use Rattle.erm_machine.proofs.Backs.{entry_then}
use Rattle.erm_machine.proofs.Guards.{when_then, if_then, either_way}
use Rattle.erm_core_ssn.proofs.DecidedSteady.{Leaves}
use Rattle.erm_core_ssn.proofs.DecidedBuild.{NotEnds, starts_not_ends, safe_not_ends, Plain, map_set, stays, to_plain, ends}

-- tasks with nothing in hand and nothing passed
abbrev pub IsPlain : Task → Type 0
IsPlain (task.Registered version) = ⊥
IsPlain (task.Overtaken version overwriter) = ⊥
IsPlain (task.Rated version) = ⊥
IsPlain task.Fetched = ⊥
IsPlain (task.Settles reads writes) = ⊥
IsPlain (task.ReadOwned read owner) = ⊥
IsPlain (task.ReadClear read) = ⊥
IsPlain (task.ReadOvertaken read overwriter) = ⊥
IsPlain (task.ReadersLeft write bits) = ⊥
IsPlain (task.WriteClear write) = ⊥
IsPlain (task.WriteMade write) = ⊥
IsPlain (task.Fills words) = ⊥
IsPlain (task.Ends raised ended step cleared) = ⊥
IsPlain _ = Unit {0}

pub record IsFree (t : Task) : Type 0 where
  pub plain : IsPlain t

pub free_from : (t : Task) → IsPlain t → IsFree t
free_from t h = record { plain = h }

pub free_if : (b : Bool) (t u : Task) → IsFree t → IsFree u → IsFree (if b then t else u)
free_if b t u f g = either_way IsFree b t u (λ _. f) (λ _. g)

pub plain_of : (t : Task) → IsPlain t → Plain t
plain_of (task.Registered version) h = absurd h
plain_of (task.Overtaken version overwriter) h = absurd h
plain_of (task.Rated version) h = absurd h
plain_of task.Fetched h = absurd h
plain_of (task.Settles reads writes) h = absurd h
plain_of (task.ReadOwned read owner) h = absurd h
plain_of (task.ReadClear read) h = absurd h
plain_of (task.ReadOvertaken read overwriter) h = absurd h
plain_of (task.ReadersLeft write bits) h = absurd h
plain_of (task.WriteClear write) h = absurd h
plain_of (task.WriteMade write) h = absurd h
plain_of (task.Fills words) h = absurd h
plain_of (task.Ends raised ended step cleared) h = absurd h
plain_of _ h = record { mark = λ _ _. tt; passed = λ _. refl; writes = λ _. refl; reads = λ _. refl; left = λ _ _ _. tt; goes_on = tt }

-- an entry that was loaded
pub free_entered : (p oid entry : ℕ) (o : Object) → IsFree (entered p oid entry o)
free_entered p oid entry o = search (free_if, free_from)

pub free_after_cut : (x : Part) → IsFree (after_cut x)
free_after_cut x = search (free_if, free_from)

free_detached : (found : ℕ) (v : VersionAt) (x : Part) → IsFree (detached found v x)
free_detached found v x = search (free_if, free_from, free_after_cut)

free_after_passed : (next : ℕ) → IsFree (after_passed next)
free_after_passed next = search (free_if, free_from)

-- a claim is over, or a word of its cell is stored: the history's words of it stay
pub same_writes : (t : Attempt) (k : ℕ) (w : Claim) → written_of w ≡ written_of (claim_at t k) → bare t ≡ bare (record t { writes = set t.writes k w })
same_writes t k w e = ap (λ (ws : List VersionWritten). record (bare t) { writes = ws }) (sym (map_set written_of t.writes k w no_claim e))

pub first : (a b : Bool) → (a && b) ≡ true → a ≡ true
first a b h = (and_parts a b h).0

module _ (c : Core) (p : ℕ) (sound : Sound c) where
  -- from a task that isn't an end to one with nothing in hand
  pub free_step : (y : Part) → y.over ≡ (c.seats p).over → y.current ≡ (c.seats p).current → y.place ≡ (c.seats p).place → NotEnds (c.seats p).task → IsFree y.task → Leaves c p y
  free_step y over current place on free = to_plain c p sound y y.task over current place refl on (plain_of y.task free.plain)

  on_from : (t : Task) → (c.seats p).task ≡ t → NotEnds t → NotEnds (c.seats p).task
  on_from t at h = subst NotEnds (sym at) h

  pub horizon_leaves : (found : ℕ) (t : Task) (y : Part) → (c.seats p).task ≡ t → load_tail_for_horizon found (c.seats p) t ≡ Some y → Leaves c p y
  horizon_leaves found (task.Claimed version) y at e = when_then (Leaves c p) _ _ y e (λ _. free_step _ refl refl refl (on_from _ at tt) (free_from _ tt))
  horizon_leaves found _ y at e = absurd (cc)

  pub gather_leaves : (found : ℕ) (y : Part) → load_tail_to_gather p found (c.seats p) ≡ Some y → Leaves c p y
  gather_leaves found y e = when_then (Leaves c p) _ _ y e (λ _. stays c p sound _ refl refl refl refl)

  pub begin_word_leaves : (other found : ℕ) (t : Task) (y : Part) → (c.seats p).task ≡ t → load_begin p other found (c.seats p) t ≡ Some y → Leaves c p y
  begin_word_leaves other found (task.Horizon version least next) y at e =
      when_then (Leaves c p) _ _ y e (λ _. free_step _ refl refl refl (on_from _ at tt) (search (free_if, free_from)))
  begin_word_leaves other found (task.Surveys next) y at e =
      when_then (Leaves c p) _ _ y e (λ _. free_step _ refl refl refl (on_from _ at tt) (search (free_if, free_from, free_after_passed)))
  begin_word_leaves other found _ y at e = absurd (cc)

  pub back_word_leaves : (other found : ℕ) (t : Task) (y : Part) → (c.seats p).task ≡ t → load_back other found (c.seats p) t ≡ Some y → Leaves c p y
  back_word_leaves other found (task.Behind next) y at e =
      when_then (Leaves c p) _ _ y e (λ _. free_step _ refl refl refl (on_from _ at tt) (search (free_if, free_from, free_after_passed)))
  back_word_leaves other found _ y at e = absurd (cc)

  pub store_back_leaves : (value : ℕ) (pl : Place) (y : Part) → store_back value (c.seats p) pl ≡ Some y → Leaves c p y
  store_back_leaves value (Decided tail stamp) y e = when_then (Leaves c p) _ _ y e (λ _. stays c p sound _ refl refl refl refl)
  store_back_leaves value _ y e = absurd (cc)

  pub load_entry_leaves : (oid found : ℕ) (o : Object) (t : Task) (y : Part) → (c.seats p).task ≡ t → load_entry p oid found o (c.seats p) t ≡ Some y → Leaves c p y
  load_entry_leaves oid found o (task.Cleared cleared) y at e =
      when_then (Leaves c p) _ _ y e (λ _. free_step _ refl refl refl (on_from _ at tt) (search (free_if, free_from, free_entered)))
  load_entry_leaves oid found o t y at e =
      entry_then (Leaves c p) p oid found o (c.seats p) t y e
      (λ safe _. free_step _ refl refl refl (on_from t at (safe_not_ends t safe)) (free_from _ tt))
      (λ g. free_step _ refl refl refl (on_from t at (starts_not_ends t (and_parts _ _ g).1)) (free_entered p oid found o))

  walked_stamp_leaves : (found : ℕ) (v : VersionAt) (t : Task) (y : Part) → (c.seats p).task ≡ t → load_walked_stamp found v (c.seats p) t ≡ Some y → Leaves c p y
  walked_stamp_leaves found v (task.Walks version head) y at e = when_then (Leaves c p) _ _ y e (λ _. free_step _ refl refl refl (on_from _ at tt) (search (free_if, free_from)))
  walked_stamp_leaves found v (task.CutWalks version horizon) y at e = when_then (Leaves c p) _ _ y e (λ _. free_step _ refl refl refl (on_from _ at tt) (search (free_if, free_from)))
  walked_stamp_leaves found v (task.SafeWalks version) y at e = when_then (Leaves c p) _ _ y e (λ _. free_step _ refl refl refl (on_from _ at tt) (search (free_if, free_from)))
  walked_stamp_leaves found v (task.Passed version) y at e = when_then (Leaves c p) _ _ y e (λ _. free_step _ refl refl refl (on_from _ at tt) (free_from _ tt))
  walked_stamp_leaves found v _ y at e = absurd (cc)

  walked_link_leaves : (found : ℕ) (v : VersionAt) (t : Task) (y : Part) → (c.seats p).task ≡ t → load_walked_link found v (c.seats p) t ≡ Some y → Leaves c p y
  walked_link_leaves found v (task.Passed version) y at e = when_then (Leaves c p) _ _ y e (λ _. free_step _ refl refl refl (on_from _ at tt) (free_from _ tt))
  walked_link_leaves found v (task.SafePassed version) y at e = when_then (Leaves c p) _ _ y e (λ _. free_step _ refl refl refl (on_from _ at tt) (free_from _ tt))
  walked_link_leaves found v (task.CutPassed version horizon) y at e =
      when_then (Leaves c p) _ _ y e (λ _. free_step _ refl refl refl (on_from _ at tt) (search (free_if, free_from, free_after_cut)))
  walked_link_leaves found v _ y at e = absurd (cc)

  pub load_cell_leaves : (found : ℕ) (v : VersionAt) (w : CellWord) (y : Part) → load_cell found v w (c.seats p) ≡ Some y → Leaves c p y
  load_cell_leaves found v word.Stamp y e =
      if_then (Leaves c p) (is_active (c.seats p).place) (load_walked_stamp found v (c.seats p) (c.seats p).task) None y e (λ _ h. walked_stamp_leaves found v (c.seats p).task y refl h) (λ _ h. absurd (cc))
  load_cell_leaves found v word.Link y e =
      if_then (Leaves c p) (is_active (c.seats p).place) (load_walked_link found v (c.seats p) (c.seats p).task) None y e (λ _ h. walked_link_leaves found v (c.seats p).task y refl h) (λ _ h. absurd (cc))
  load_cell_leaves found v (word.Row k) y e = when_then (Leaves c p) _ _ y e (λ _. stays c p sound _ refl refl refl refl)
  load_cell_leaves found v _ y e = absurd (cc)

  pub swap_link_leaves : (found : ℕ) (v : VersionAt) (o : Object) (t : Task) (y : Part) → (c.seats p).task ≡ t → swap_link found v o (c.seats p) t ≡ Some y → Leaves c p y
  swap_link_leaves found v o (task.CutFound version horizon) y at e =
      when_then (Leaves c p) _ _ y e (λ _. free_step _ refl refl refl (on_from _ at tt) (free_detached found version (c.seats p)))
  swap_link_leaves found v o _ y at e = absurd (cc)

  pub detached_leaves : (found : ℕ) (v : VersionAt) (t : Task) (y : Part) → (c.seats p).task ≡ t → load_detached found v (c.seats p) t ≡ Some y → Leaves c p y
  detached_leaves found v (task.Detaches version) y at e =
      when_then (Leaves c p) _ _ y e (λ _. free_step _ refl refl refl (on_from _ at tt) (free_detached found version (c.seats p)))
  detached_leaves found v _ y at e = absurd (cc)

  pub load_counter_leaves : (cells : ℕ) (n : Counter) (found : ℕ) (t : Task) (y : Part) → (c.seats p).task ≡ t → load_counter cells n found (c.seats p) t ≡ Some y → Leaves c p y
  load_counter_leaves cells Objects found t y at e =
      when_then (Leaves c p) _ _ y e (λ g. free_step _ refl refl refl (on_from t at (starts_not_ends t (and_parts _ _ g).1)) (search (free_if, free_from)))
  load_counter_leaves cells Cells found task.Draws y at e = when_then (Leaves c p) _ _ y e (λ _. free_step _ refl refl refl (on_from _ at tt) (search (free_if, free_from)))
  load_counter_leaves cells Cells found _ y at e = absurd (cc)

  -- ends
  or_left : (a b : Bool) → a ≡ true → (a || b) ≡ true
  or_left true b e = refl
  or_left false b e = absurd (cc)

  pub raise_leaves : (v : VersionAt) (value : ℕ) (t : Task) (y : Part) → (c.seats p).task ≡ t → raise_reader v value (c.seats p) t ≡ Some y → Leaves c p y
  raise_leaves v value (task.Ends raised ended step cleared) y at e =
      when_then (Leaves c p) _ _ y e (λ g.
      let decided : is_decided (c.seats p).place ≡ true = first _ _ (first _ _ (first _ _ (first _ _ g))) in
      ends c p sound _ raised ended step cleared (raised + 1) ended step cleared at refl (omega arith) refl refl (or_left (is_decided (c.seats p).place) (is_active (c.seats p).place) decided) refl refl refl)
  raise_leaves v value _ y at e = absurd (cc)

  mark_leaves : (nth : ℕ) (v : VersionAt) (value wanted : ℕ) (t : Task) (y : Part) → (c.seats p).task ≡ t → mark_overwritten nth v value wanted (c.seats p) t ≡ Some y → Leaves c p y
  mark_leaves nth v value wanted (task.Ends raised ended step cleared) y at e =
      when_then (Leaves c p) _ _ y e (λ g.
      let decided : is_decided (c.seats p).place ≡ true = first _ _ (first _ _ (first _ _ (first _ _ (first _ _ (first _ _ g))))) in
      ends c p sound _ raised ended step cleared raised ended (step + 1) cleared at refl (omega arith) refl refl (or_left (is_decided (c.seats p).place) (is_active (c.seats p).place) decided) refl refl refl)
  mark_leaves nth v value wanted _ y at e = absurd (cc)

  pub store_succ_leaves : (v : VersionAt) (value : ℕ) (y : Part) → store_succ v value (c.seats p) ≡ Some y → Leaves c p y
  store_succ_leaves v value y e = mark_leaves 6 v value (c.seats p).current.succ (c.seats p).task y refl e

  pub store_overwriter_leaves : (v : VersionAt) (value : ℕ) (y : Part) → store_overwriter v value (c.seats p) ≡ Some y → Leaves c p y
  store_overwriter_leaves v value y e = mark_leaves 7 v value (c.seats p).current.stamp (c.seats p).task y refl e

  pub head_word_leaves : (place cell : ℕ) (w : CellWord) (value : ℕ) (t : Task) (y : Part) → (c.seats p).task ≡ t → store_head_word place cell w value (c.seats p) t ≡ Some y → Leaves c p y
  head_word_leaves place cell w value (task.Ends raised ended step cleared) y at e =
      when_then (Leaves c p) _ _ y e (λ g.
      let decided : is_decided (c.seats p).place ≡ true = first _ _ (first _ _ (first _ _ (first _ _ (first _ _ (first _ _ (first _ _ (first _ _ g))))))) in
      ends c p sound _ raised ended step cleared raised ended (step + 1) cleared at refl (omega arith) refl refl (or_left (is_decided (c.seats p).place) (is_active (c.seats p).place) decided) refl refl
      (same_writes (c.seats p).current place _ refl))
  head_word_leaves place cell w value _ y at e = absurd (cc)

  -- the flush seat's steps

  pub clear_ring_leaves : (at : ℕ) (f : Flushing) (y : Part) → clear_ring at (c.seats p) f ≡ Some y → Leaves c p y
  clear_ring_leaves at (flushing.Gathers tail from block next end) y e = when_then (Leaves c p) _ _ y e (λ _. stays c p sound _ refl refl refl refl)
  clear_ring_leaves at (flushing.Clears next to) y e = when_then (Leaves c p) _ _ y e (λ _. stays c p sound _ refl refl refl refl)
  clear_ring_leaves at _ y e = absurd (cc)

  pub store_flushed_leaves : (value : ℕ) (f : Flushing) (y : Part) → store_flushed value (c.seats p) f ≡ Some y → Leaves c p y
  store_flushed_leaves value (flushing.Clears next to) y e = when_then (Leaves c p) _ _ y e (λ _. stays c p sound _ refl refl refl refl)
  store_flushed_leaves value _ y e = absurd (cc)

  gathered_leaves : (tail from block next end : ℕ) → Leaves c p (gathered_word tail from block next end (c.seats p))
  gathered_leaves tail from block next end = either_way (Leaves c p) _ _ _ (λ _. stays c p sound _ refl refl refl refl) (λ _. stays c p sound _ refl refl refl refl)

  leaves_if : (b : Bool) (l r : Part) → Leaves c p l → Leaves c p r → Leaves c p (if b then l else r)
  leaves_if b l r f g = either_way (Leaves c p) b l r (λ _. f) (λ _. g)

  leaves_same : Leaves c p (c.seats p)
  leaves_same = stays c p sound (c.seats p) refl refl refl refl

  pub load_ring_leaves : (at found : ℕ) (f : Flushing) (y : Part) → load_ring at found (c.seats p) f ≡ Some y → Leaves c p y
  load_ring_leaves at found (flushing.Gathers tail from block next end) y e =
      when_then (Leaves c p) _ _ y e (λ _. search (leaves_if, gathered_leaves, leaves_same))
  load_ring_leaves at found _ y e = absurd (cc)
