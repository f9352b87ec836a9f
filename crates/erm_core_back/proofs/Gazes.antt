-- What a quiet step leaves of whom its seat has passed, and of the successor stamp of a transaction that is decided.
use Rattle.std.proofs.Common.{◌≡◌, ℕ, ◌⊎◌, Bool, true, Option, Some, None, refl, sym, ◌∙◌, ap, subst, inl, inr}
use Rattle.std.specs.Prelude.{if◌then◌else◌}
use Rattle.std.proofs.lemmas.Bool.{and_parts}
use Rattle.erm_machine.specs.declared.attempt.Attempt.{Attempt}
use Rattle.erm_machine.specs.declared.event.Counter.{Counter}
use Rattle.erm_machine.specs.declared.event.Counter.TheVariants.{Objects, Cells}
use Rattle.erm_machine.specs.declared.event.Kind.{Kind}
use Rattle.erm_machine.specs.declared.event.Kind.TheVariants as kind
use Rattle.erm_machine.specs.declared.part.Flushing.{Flushing}
use Rattle.erm_machine.specs.declared.part.Flushing.TheVariants as flushing
use Rattle.erm_machine.specs.declared.part.Part.{Part}
use Rattle.erm_machine.specs.declared.place.Place.{Place}
use Rattle.erm_machine.specs.declared.place.Place.TheVariants.{Active, Sealed}
use Rattle.erm_machine.specs.declared.task.Task.{Task}
use Rattle.erm_machine.specs.declared.task.Task.TheVariants as task
use Rattle.erm_machine.specs.declared.version.CellWord.{CellWord}
use Rattle.erm_machine.specs.declared.version.CellWord.TheVariants as word
use Rattle.erm_machine.specs.declared.version.VersionAt.{VersionAt}
use Rattle.erm_machine.specs.Back.{IsBehind, passed_to}
use Rattle.erm_machine.specs.Core.{Object, Shared}
use Rattle.erm_machine.specs.Flushing.{load_flushed, gathered_word, load_ring, clear_ring, store_flushed}
use Rattle.erm_machine.specs.Life.{after_clear}
use Rattle.erm_machine.specs.Reading.{entered, lost, after_cut, detached, load_entry, claim, set_reader, load_walked_stamp, load_walked_link, load_cell, swap_link, load_detached, load_counter, add_counter, load_active_stamp, start_row, store_row_word, unset}
use Rattle.erm_machine.specs.Seat.{end_of, is_active, is_safe, is_sealed}
use Rattle.erm_machine.specs.Settling.{load_flushed_to_settle, load_read_entry, load_readers, load_settled_stamp, load_stamp, filled, store_ring, raise_reader, store_head_word, store_active_word, store_cell, mark_overwritten, install_claim, adds_version, install_new, release_old, unclaim, install, clear_reader}
use Rattle.erm_machine.specs.Step.{part_after}
use Rattle.erm_machine.proofs.Backs.{entry_then, rest_is, safe_passed}
use Rattle.erm_machine.proofs.Guards.{when_then, some_then, if_then, either_way, unless_some}

-- tasks of no snapshot
abbrev pub IsPlain : Task → Type 0
IsPlain (task.Surveys next) = ⊥
IsPlain (task.Behind next) = ⊥
IsPlain task.Safe = ⊥
IsPlain (task.SafeWalks version) = ⊥
IsPlain (task.SafePassed version) = ⊥
IsPlain (task.SafeFound version) = ⊥
IsPlain _ = Unit {0}

-- a task in which nobody is passed
pub record Blind (u : Task) : Type 0 where
  pub none : passed_to u ≡ 0
  pub behind : (q : ℕ) → IsBehind u q → ⊥

pub blind_from : (u : Task) → IsPlain u → Blind u
blind_from (task.Surveys next) p = absurd p
blind_from (task.Behind next) p = absurd p
blind_from task.Safe p = absurd p
blind_from (task.SafeWalks version) p = absurd p
blind_from (task.SafePassed version) p = absurd p
blind_from (task.SafeFound version) p = absurd p
blind_from _ p = record { none = refl; behind = λ q h. h }

pub blind_if : (b : Bool) (t u : Task) → Blind t → Blind u → Blind (if b then t else u)
blind_if b t u f g = either_way Blind b t u (λ _. f) (λ _. g)

-- a task in which those are passed that were in another
pub record Faces (t u : Task) : Type 0 where
  pub same : passed_to u ≡ passed_to t
  pub behind : (q : ℕ) → IsBehind u q → IsBehind t q

pub faces_same : (t : Task) → Faces t t
faces_same t = record { same = refl; behind = λ q h. h }

-- the seat has passed nobody any more, or those whom it had, with the same transaction
abbrev pub Gazes : Part → Task → Part → Type 0
Gazes x t y = Blind y.task ⊎ (Faces t y.task × (y.current ≡ x.current))

-- places of a transaction that isn't decided, at which stamps are loaded
abbrev pub IsRunning : Place → Type 0
IsRunning (Active tail) = Unit {0}
IsRunning (Sealed tail stamp) = Unit {0}
IsRunning _ = ⊥

running_active : (p : Place) → is_active p ≡ true → IsRunning p
running_active (Active tail) e = tt
running_active _ e = absurd (cc)

running_sealed : (p : Place) → is_sealed p ≡ true → IsRunning p
running_sealed (Sealed tail stamp) e = tt
running_sealed _ e = absurd (cc)

-- what such a step leaves, of a seat whose task was t
pub record Watches (x : Part) (t : Task) (y : Part) : Type 0 where
  pub back : y.back ≡ x.back
  pub succ : (y.current.succ ≡ x.current.succ) ⊎ IsRunning x.place
  pub gaze : Gazes x t y

-- the task alone changes
to_plain : (x : Part) (t u : Task) → Blind u → Watches x t (record x { task = u })
to_plain x t u b = record { back = refl; succ = inl refl; gaze = inl b }

to_facing : (x : Part) (t u : Task) → Faces t u → Watches x t (record x { task = u })
to_facing x t u f = record { back = refl; succ = inl refl; gaze = inr (f, refl) }

-- the transaction changes too
working : (x : Part) (t : Task) (y : Part) → y.back ≡ x.back → (y.current.succ ≡ x.current.succ) ⊎ IsRunning x.place → Blind y.task → Watches x t y
working x t y back succ b = record { back = back; succ = succ; gaze = inl b }

-- task and transaction stay
stays : (x y : Part) → y.back ≡ x.back → y.task ≡ x.task → y.current ≡ x.current → Watches x x.task y
stays x y back task current = record {
  back = back;
  succ = inl (ap (λ (t : Attempt). t.succ) current);
  gaze = inr (subst (λ (u : Task). Faces x.task u) (sym task) (faces_same x.task), current);
}

stays_refl : (x : Part) → Watches x x.task x
stays_refl x = stays x x refl refl refl

entered_blind : (seat oid entry : ℕ) (o : Object) → Blind (entered seat oid entry o)
entered_blind seat oid entry o = search (blind_if, blind_from)

lost_blind : (seat oid entry : ℕ) (v : VersionAt) (o : Object) → Blind (lost seat oid entry v o)
lost_blind seat oid entry v o = search (blind_if, blind_from, entered_blind)

after_cut_blind : (x : Part) → Blind (after_cut x)
after_cut_blind x = search (blind_if, blind_from)

detached_blind : (found : ℕ) (v : VersionAt) (x : Part) → Blind (detached found v x)
detached_blind found v x = search (blind_if, blind_from, after_cut_blind)

safe_faces : (t : Task) (version : VersionAt) → is_safe t ≡ true → Faces t (task.SafeWalks version)
safe_faces t version safe = record { same = sym (safe_passed t safe); behind = λ q h. absurd h }

w_load_entry : (seat oid found : ℕ) (o : Object) (x : Part) (t : Task) (y : Part) → load_entry seat oid found o x t ≡ Some y → Watches x t y
w_load_entry seat oid found o x (task.Cleared cleared) y e =
    when_then (Watches x _) _ _ y e (λ _. to_plain x _ _ (search (blind_if, blind_from, entered_blind)))
w_load_entry seat oid found o x t y e =
    entry_then (Watches x t) seat oid found o x t y e (λ safe _. to_facing x t _ (safe_faces t _ safe)) (λ _. to_plain x _ _ (entered_blind seat oid found o))

w_claim : (seat oid seen number found : ℕ) (o : Object) (x : Part) (t : Task) (y : Part) → claim seat oid seen number found o x t ≡ Some y → Watches x t y
w_claim seat oid seen number found o x (task.Found version stamp (Some entry)) y e =
    when_then (Watches x _) _ _ y e (λ _. working x _ _ refl (inl refl) (search (blind_if, blind_from, lost_blind)))
w_claim seat oid seen number found o x _ y e = absurd (cc)

w_set_reader : (seat : ℕ) (v : VersionAt) (o : Object) (x : Part) (t : Task) (y : Part) → set_reader seat v o x t ≡ Some y → Watches x t y
w_set_reader seat v o x (task.Found version stamp head) y e = when_then (Watches x _) _ _ y e (λ _. working x _ _ refl (inl refl) (blind_from _ tt))
w_set_reader seat v o x _ y e = absurd (cc)

faces_if : (t : Task) (b : Bool) (u v : Task) → Faces t u → Faces t v → Faces t (if b then u else v)
faces_if t b u v f g = either_way (Faces t) b u v (λ _. f) (λ _. g)

-- from one version of a safe read to the next
safe_on : (t u : Task) → is_safe t ≡ true → is_safe u ≡ true → ((q : ℕ) → IsBehind u q → ⊥) → Faces t u
safe_on t u from to behind = record { same = safe_passed u to ∙ sym (safe_passed t from); behind = λ q h. absurd (behind q h) }

w_walked_stamp : (found : ℕ) (v : VersionAt) (x : Part) (t : Task) (y : Part) → load_walked_stamp found v x t ≡ Some y → Watches x t y
w_walked_stamp found v x (task.Walks version head) y e = when_then (Watches x _) _ _ y e (λ _. to_plain x _ _ (search (blind_if, blind_from)))
w_walked_stamp found v x (task.CutWalks version horizon) y e = when_then (Watches x _) _ _ y e (λ _. to_plain x _ _ (search (blind_if, blind_from)))
w_walked_stamp found v x (task.SafeWalks version) y e =
    when_then (Watches x _) _ _ y e (λ _.
    to_facing x _ _
    (faces_if (task.SafeWalks version) _ (task.SafeFound version) (task.SafePassed version) (safe_on (task.SafeWalks version) (task.SafeFound version) refl refl (λ q h. h))
    (safe_on (task.SafeWalks version) (task.SafePassed version) refl refl (λ q h. h))))
w_walked_stamp found v x (task.Passed version) y e = when_then (Watches x _) _ _ y e (λ _. to_plain x _ _ (blind_from _ tt))
w_walked_stamp found v x _ y e = absurd (cc)

w_walked_link : (found : ℕ) (v : VersionAt) (x : Part) (t : Task) (y : Part) → load_walked_link found v x t ≡ Some y → Watches x t y
w_walked_link found v x (task.Passed version) y e = when_then (Watches x _) _ _ y e (λ _. to_plain x _ _ (blind_from _ tt))
w_walked_link found v x (task.SafePassed version) y e =
    when_then (Watches x _) _ _ y e (λ _. to_facing x _ _ (safe_on (task.SafePassed version) (task.SafeWalks _) refl refl (λ q h. h)))
w_walked_link found v x (task.CutPassed version horizon) y e =
    when_then (Watches x _) _ _ y e (λ _. to_plain x _ _ (search (blind_if, blind_from, after_cut_blind)))
w_walked_link found v x _ y e = absurd (cc)

w_load_cell : (found : ℕ) (v : VersionAt) (w : CellWord) (x : Part) (y : Part) → load_cell found v w x ≡ Some y → Watches x x.task y
w_load_cell found v word.Stamp x y e =
    if_then (Watches x x.task) (is_active x.place) (load_walked_stamp found v x x.task) None y e (λ _ h. w_walked_stamp found v x x.task y h) (λ _ h. absurd (cc))
w_load_cell found v word.Link x y e =
    if_then (Watches x x.task) (is_active x.place) (load_walked_link found v x x.task) None y e (λ _ h. w_walked_link found v x x.task y h) (λ _ h. absurd (cc))
w_load_cell found v (word.Row k) x y e = when_then (Watches x x.task) _ _ y e (λ _. stays_refl x)
w_load_cell found v _ x y e = absurd (cc)

w_swap_link : (found : ℕ) (v : VersionAt) (o : Object) (x : Part) (t : Task) (y : Part) → swap_link found v o x t ≡ Some y → Watches x t y
w_swap_link found v o x (task.CutFound version horizon) y e =
    when_then (Watches x _) _ _ y e (λ _. working x _ _ refl (inl refl) (detached_blind found version x))
w_swap_link found v o x _ y e = absurd (cc)

w_load_detached : (found : ℕ) (v : VersionAt) (x : Part) (t : Task) (y : Part) → load_detached found v x t ≡ Some y → Watches x t y
w_load_detached found v x (task.Detaches version) y e = when_then (Watches x _) _ _ y e (λ _. to_plain x _ _ (detached_blind found version x))
w_load_detached found v x _ y e = absurd (cc)

w_load_counter : (cells : ℕ) (n : Counter) (found : ℕ) (x : Part) (t : Task) (y : Part) → load_counter cells n found x t ≡ Some y → Watches x t y
w_load_counter cells Objects found x t y e = when_then (Watches x _) _ _ y e (λ _. to_plain x _ _ (search (blind_if, blind_from)))
w_load_counter cells Cells found x task.Draws y e = when_then (Watches x _) _ _ y e (λ _. to_plain x _ _ (search (blind_if, blind_from)))
w_load_counter cells Cells found x _ y e = absurd (cc)

w_add_counter : (cells seat : ℕ) (n : Counter) (found : ℕ) (x : Part) (t : Task) (y : Part) → add_counter cells seat n found x t ≡ Some y → Watches x t y
w_add_counter cells seat Objects found x task.Numbers y e = when_then (Watches x _) _ _ y e (λ _. working x _ _ refl (inl refl) (blind_from _ tt))
w_add_counter cells seat Cells found x task.Pool y e = when_then (Watches x _) _ _ y e (λ _. working x _ _ refl (inl refl) (search (blind_if, blind_from)))
w_add_counter cells seat Objects found x _ y e = absurd (cc)
w_add_counter cells seat Cells found x _ y e = absurd (cc)

-- stamps that count for running numbers
w_active_stamp : (found : ℕ) (v : VersionAt) (w : CellWord) (x : Part) (t : Task) (y : Part) → IsRunning x.place → load_active_stamp found v w x t ≡ Some y → Watches x t y
w_active_stamp found v word.Overwriter x (task.Registered version) y at e = when_then (Watches x _) _ _ y e (λ _. to_plain x _ _ (search (blind_if, blind_from)))
w_active_stamp found v word.OverwriterSucc x (task.Overtaken version overwriter) y at e =
    when_then (Watches x _) _ _ y e (λ _. working x _ _ refl (inr at) (blind_from _ tt))
w_active_stamp found v word.ReaderStamp x task.Draws y at e = when_then (Watches x _) _ _ y e (λ _. working x _ _ refl (inr at) (blind_from _ tt))
w_active_stamp found v word.ReaderStamp x task.Fetched y at e = when_then (Watches x _) _ _ y e (λ _. working x _ _ refl (inr at) (blind_from _ tt))
w_active_stamp found v _ x _ y at e = absurd (cc)

w_settled_stamp : (found : ℕ) (v : VersionAt) (w : CellWord) (x : Part) (t : Task) (y : Part) → IsRunning x.place → load_settled_stamp found v w x t ≡ Some y → Watches x t y
w_settled_stamp found v word.Overwriter x (task.ReadClear read) y at e = when_then (Watches x _) _ _ y e (λ _. to_plain x _ _ (search (blind_if, blind_from)))
w_settled_stamp found v word.OverwriterSucc x (task.ReadOvertaken read overwriter) y at e =
    when_then (Watches x _) _ _ y e (λ _. working x _ _ refl (inr at) (blind_from _ tt))
w_settled_stamp found v word.Stamp x (task.WriteClear write) y at e = when_then (Watches x _) _ _ y e (λ _. working x _ _ refl (inr at) (blind_from _ tt))
w_settled_stamp found v word.ReaderStamp x (task.WriteMade write) y at e = when_then (Watches x _) _ _ y e (λ _. working x _ _ refl (inr at) (blind_from _ tt))
w_settled_stamp found v _ x _ y at e = absurd (cc)

w_load_stamp : (found : ℕ) (v : VersionAt) (w : CellWord) (x : Part) (y : Part) → load_stamp found v w x ≡ Some y → Watches x x.task y
w_load_stamp found v w x y e =
    if_then (Watches x x.task) _ _ _ y e (λ at h. w_active_stamp found v w x x.task y (running_active x.place at) h)
    (λ _ rest.
    if_then (Watches x x.task) (is_sealed x.place) (load_settled_stamp found v w x x.task) None y rest
    (λ at h. w_settled_stamp found v w x x.task y (running_sealed x.place at) h) (λ _ h. absurd (cc)))

w_read_entry : (seat oid found : ℕ) (x : Part) (t : Task) (y : Part) → load_read_entry seat oid found x t ≡ Some y → Watches x t y
w_read_entry seat oid found x (task.Settles reads writes) y e = when_then (Watches x _) _ _ y e (λ _. to_plain x _ _ (search (blind_if, blind_from)))
w_read_entry seat oid found x _ y e = absurd (cc)

w_load_readers : (seat : ℕ) (v : VersionAt) (found : ℕ) (x : Part) (t : Task) (y : Part) → load_readers seat v found x t ≡ Some y → Watches x t y
w_load_readers seat v found x (task.Settles reads writes) y e = when_then (Watches x _) _ _ y e (λ _. to_plain x _ _ (search (blind_if, blind_from)))
w_load_readers seat v found x _ y e = absurd (cc)

w_store_ring : (at value : ℕ) (x : Part) (t : Task) (o : Option ℕ) (y : Part) → store_ring at value x o ≡ Some y → Watches x t y
w_store_ring at value x t None y e = absurd (cc)
w_store_ring at value x t (Some words) y e = when_then (Watches x _) _ _ y e (λ _. working x _ _ refl (inl refl) (blind_from _ tt))

-- steps of an end
w_raise_reader : (v : VersionAt) (value : ℕ) (x : Part) (t : Task) (y : Part) → raise_reader v value x t ≡ Some y → Watches x t y
w_raise_reader v value x (task.Ends raised ended step cleared) y e = when_then (Watches x _) _ _ y e (λ _. to_plain x _ _ (blind_from _ tt))
w_raise_reader v value x _ y e = absurd (cc)

w_mark : (nth : ℕ) (v : VersionAt) (value wanted : ℕ) (x : Part) (t : Task) (y : Part) → mark_overwritten nth v value wanted x t ≡ Some y → Watches x t y
w_mark nth v value wanted x (task.Ends raised ended step cleared) y e = when_then (Watches x _) _ _ y e (λ _. to_plain x _ _ (blind_from _ tt))
w_mark nth v value wanted x _ y e = absurd (cc)

w_head_word : (place cell : ℕ) (w : CellWord) (value : ℕ) (x : Part) (t : Task) (y : Part) → store_head_word place cell w value x t ≡ Some y → Watches x t y
w_head_word place cell w value x (task.Ends raised ended step cleared) y e =
    when_then (Watches x _) _ _ y e (λ _. working x _ _ refl (inl refl) (blind_from _ tt))
w_head_word place cell w value x _ y e = absurd (cc)

w_start_row : (place cell k value : ℕ) (x : Part) (t : Task) (y : Part) → start_row place cell k value x t ≡ Some y → Watches x t y
w_start_row place cell k value x t y e = when_then (Watches x _) _ _ y e (λ _. working x _ _ refl (inl refl) (blind_from _ tt))

w_row_word : (place cell k value : ℕ) (x : Part) (t : Task) (y : Part) → store_row_word place cell k value x t ≡ Some y → Watches x t y
w_row_word place cell k value x (task.Copies w) y e = when_then (Watches x _) _ _ y e (λ _. working x _ _ refl (inl refl) (search (blind_if, blind_from)))
w_row_word place cell k value x (task.Writes claim w) y e = when_then (Watches x _) _ _ y e (λ _. working x _ _ refl (inl refl) (search (blind_if, blind_from)))
w_row_word place cell k value x t y e = w_start_row place cell k value x t y e

w_active_word : (place cell : ℕ) (w : CellWord) (value : ℕ) (x : Part) (y : Part) → store_active_word place cell w value x ≡ Some y → Watches x x.task y
w_active_word place cell (word.Row k) value x y e = w_row_word place cell k value x x.task y e
w_active_word place cell _ value x y e = absurd (cc)

w_store_cell : (place cell : ℕ) (w : CellWord) (value : ℕ) (x : Part) (y : Part) → store_cell place cell w value x ≡ Some y → Watches x x.task y
w_store_cell place cell w value x y e =
    if_then (Watches x x.task) _ _ _ y e (λ _ h. w_active_word place cell w value x y h) (λ _ h. w_head_word place cell w value x x.task y h)

w_unclaim : (oid head : ℕ) (x : Part) (t : Task) (y : Part) → unclaim oid head x ≡ Some y → Watches x t y
w_unclaim oid head x t y e = when_then (Watches x t) _ _ y e (λ _. working x t _ refl (inl refl) (blind_from _ tt))

w_install_claim : (oid head : ℕ) (x : Part) (t : Task) (o : Option (ℕ × ℕ × ℕ × ℕ)) (y : Part) → install_claim oid head x o ≡ Some y → Watches x t y
w_install_claim oid head x t None y e = absurd (cc)
w_install_claim oid head x t (Some n) y e =
    if_then (Watches x t) (adds_version x) (install_new oid head x n) (release_old oid head x n) y e
    (λ _ h. when_then (Watches x t) _ _ y h (λ _. working x t _ refl (inl refl) (blind_from _ tt)))
    (λ _ h. when_then (Watches x t) _ _ y h (λ _. working x t _ refl (inl refl) (blind_from _ tt)))

w_install : (oid head : ℕ) (x : Part) (t : Task) (y : Part) → install oid head x t ≡ Some y → Watches x t y
w_install oid head x task.Refused y e = w_unclaim oid head x _ y e
w_install oid head x t y e = w_install_claim oid head x t (end_of t) y e

w_clear_reader : (v : VersionAt) (x : Part) (t : Task) (o : Option (ℕ × ℕ × ℕ × ℕ)) (y : Part) → clear_reader v x o ≡ Some y → Watches x t y
w_clear_reader v x t None y e = absurd (cc)
w_clear_reader v x t (Some n) y e = when_then (Watches x t) _ _ y e (λ _. to_plain x t _ (blind_from _ tt))

-- steps of the flush seat, and the begin of a settle
w_to_settle : (found : ℕ) (x : Part) → Watches x x.task (load_flushed_to_settle found x)
w_to_settle found x = either_way (Watches x x.task) _ _ _ (λ _. to_plain x _ _ (blind_from (task.Settles 0 0) tt)) (λ _. stays_refl x)

w_load_flushed : (found : ℕ) (x : Part) (f : Flushing) (y : Part) → load_flushed found x f ≡ Some y → Watches x x.task y
w_load_flushed found x (flushing.Tail tail) y e = some_then (Watches x x.task) _ y e (stays x _ refl refl refl)
w_load_flushed found x _ y e = when_then (Watches x x.task) _ _ y e (λ _. w_to_settle found x)

w_flushing : (x : Part) (f : Flushing) (to : ℕ) → Watches x x.task (record x { flushing = f; gathered_to = to })
w_flushing x f to = stays x _ refl refl refl

w_if : (x : Part) (t : Task) (b : Bool) (l r : Part) → Watches x t l → Watches x t r → Watches x t (if b then l else r)
w_if x t b l r f g = either_way (Watches x t) b l r (λ _. f) (λ _. g)

w_gathered : (tail from block next end : ℕ) (x : Part) → Watches x x.task (gathered_word tail from block next end x)
w_gathered tail from block next end x = either_way (Watches x x.task) _ _ _ (λ _. w_flushing x _ _) (λ _. w_flushing x _ _)

w_load_ring : (at found : ℕ) (x : Part) (f : Flushing) (y : Part) → load_ring at found x f ≡ Some y → Watches x x.task y
w_load_ring at found x (flushing.Gathers tail from block next end) y e =
    when_then (Watches x x.task) _ _ y e (λ _. search (w_if, w_gathered, stays_refl))
w_load_ring at found x _ y e = absurd (cc)

w_clear_ring : (at : ℕ) (x : Part) (f : Flushing) (y : Part) → clear_ring at x f ≡ Some y → Watches x x.task y
w_clear_ring at x (flushing.Gathers tail from block next end) y e = when_then (Watches x x.task) _ _ y e (λ _. w_flushing x _ _)
w_clear_ring at x (flushing.Clears next to) y e = when_then (Watches x x.task) _ _ y e (λ _. w_flushing x _ _)
w_clear_ring at x _ y e = absurd (cc)

w_store_flushed : (value : ℕ) (x : Part) (f : Flushing) (y : Part) → store_flushed value x f ≡ Some y → Watches x x.task y
w_store_flushed value x (flushing.Clears next to) y e = when_then (Watches x x.task) _ _ y e (λ _. w_flushing x _ _)
w_store_flushed value x _ y e = absurd (cc)

w_unset : (place : ℕ) (x y : Part) → unset place x ≡ Some y → Watches x x.task y
w_unset place x y e =
    when_then (Watches x x.task) _ _ y e (λ g.
    let rest = (and_parts _ _ (and_parts _ _ (and_parts _ _ g).0).0).1 in
    working x x.task _ refl (inl refl) (subst Blind (sym (rest_is x.task rest)) (blind_from task.Rest tt)))

-- quiet kinds that store and load no back word
abbrev pub IsCommon : Kind → Type 0
IsCommon (kind.LoadTail purpose) = ⊥
IsCommon (kind.AddTail size) = ⊥
IsCommon (kind.StoreBegin value) = ⊥
IsCommon (kind.StoreState value) = ⊥
IsCommon (kind.LoadBegin other) = ⊥
IsCommon (kind.LoadState other bound) = ⊥
IsCommon (kind.Split other) = ⊥
IsCommon (kind.Join other) = ⊥
IsCommon (kind.Decide at header) = ⊥
IsCommon (kind.StoreBack value) = ⊥
IsCommon (kind.LoadBack other) = ⊥
IsCommon _ = Unit {0}

pub watches : (p : ℕ) (k : Kind) (found : ℕ) (s : Shared) (x y : Part) → IsCommon k → part_after p k found s x ≡ Some y → Watches x x.task y
watches p (kind.LoadTail purpose) found s x y q e = absurd q
watches p (kind.AddTail size) found s x y q e = absurd q
watches p (kind.StoreBegin value) found s x y q e = absurd q
watches p (kind.StoreState value) found s x y q e = absurd q
watches p (kind.LoadBegin other) found s x y q e = absurd q
watches p (kind.LoadState other bound) found s x y q e = absurd q
watches p (kind.Split other) found s x y q e = absurd q
watches p (kind.Join other) found s x y q e = absurd q
watches p (kind.Decide at header) found s x y q e = absurd q
watches p (kind.StoreBack value) found s x y q e = absurd q
watches p (kind.LoadBack other) found s x y q e = absurd q
watches p (kind.LoadEntry oid) found s x y q e =
    if_then (Watches x x.task) (is_sealed x.place) (load_read_entry p oid found x x.task) (load_entry p oid found (s.objects oid) x x.task) y e
    (λ _ h. w_read_entry p oid found x x.task y h) (λ _ h. w_load_entry p oid found (s.objects oid) x x.task y h)
watches p (kind.Claim oid seen number) found s x y q e = w_claim p oid seen number found (s.objects oid) x x.task y e
watches p (kind.Install oid head) found s x y q e = w_install oid head x x.task y e
watches p (kind.LoadCell v w) found s x y q e = w_load_cell found v w x y (unless_some _ _ y e)
watches p (kind.StoreCell place cell w value) found s x y q e = w_store_cell place cell w value x y e
watches p (kind.LoadCounter counter) found s x y q e = w_load_counter _ counter found x x.task y e
watches p (kind.AddCounter counter) found s x y q e = w_add_counter _ p counter found x x.task y e
watches p (kind.SetReader v) found s x y q e = w_set_reader p v (s.objects v.oid) x x.task y e
watches p (kind.ClearReader v) found s x y q e = w_clear_reader v x x.task (end_of x.task) y e
watches p (kind.LoadReaders v) found s x y q e = w_load_readers p v found x x.task y e
watches p (kind.LoadStamp v w) found s x y q e = w_load_stamp found v w x y e
watches p (kind.RaiseReader v value) found s x y q e = w_raise_reader v value x x.task y e
watches p (kind.StoreSucc v value) found s x y q e = w_mark 6 v value x.current.succ x x.task y e
watches p (kind.StoreOverwriter v value) found s x y q e = w_mark 7 v value x.current.stamp x x.task y e
watches p (kind.StoreRing at value) found s x y q e = w_store_ring at value x x.task (filled x.current x.task) y e
watches p (kind.LoadRing at) found s x y q e = w_load_ring at found x x.flushing y e
watches p (kind.ClearRing at) found s x y q e = w_clear_ring at x x.flushing y e
watches p (kind.StoreFlushed value) found s x y q e = w_store_flushed value x x.flushing y e
watches p kind.LoadFlushed found s x y q e = w_load_flushed found x x.flushing y e
watches p (kind.SwapLink v) found s x y q e = w_swap_link found v (s.objects v.oid) x x.task y e
watches p (kind.LoadDetached v) found s x y q e = w_load_detached found v x x.task y e
watches p (kind.Unset place) found s x y q e = w_unset place x y e

-- a look leaves the task as it was, or in a read or a settle
look_turns : (other bound : ℕ) (x : Part) (t : Task) → Blind (after_clear other bound x t) ⊎ Faces t (after_clear other bound x t)
look_turns other bound x (task.Owned oid owner) = inl (search (blind_if, blind_from))
look_turns other bound x (task.ReadOwned read owner) = inl (search (blind_if, blind_from))
look_turns other bound x (task.ReadersLeft write bits) = inl (search (blind_if, blind_from))
look_turns other bound x t = inr (faces_same _)

pub look_gazes : (b : Bool) (other bound : ℕ) (x : Part) → Gazes x x.task (record x { task = if b then after_clear other bound x x.task else x.task })
look_gazes b other bound x =
    elim (either_way (λ (u : Task). Blind u ⊎ Faces x.task u) b (after_clear other bound x x.task) x.task (λ _. look_turns other bound x x.task) (λ _. inr (faces_same x.task))) [
      | inl blind ↦ inl blind
      | inr faces ↦ inr (faces, refl)
    ]
