-- Steps that leave the log as it is: the words of the seat's block, what it has gathered, and whether its settle has found room.
use Rattle.std.proofs.Common.{◌≡◌, ℕ, Bool, true, false, Option, Some, None, refl, subst, ◌&&◌, ◌||◌}
use Rattle.std.proofs.lemmas.Bool.{and_parts}
use Rattle.erm_machine.specs.declared.event.Counter.{Counter}
use Rattle.erm_machine.specs.declared.event.Counter.TheVariants.{Objects, Cells}
use Rattle.erm_machine.specs.declared.event.Kind.{Kind}
use Rattle.erm_machine.specs.declared.event.Kind.TheVariants as kind
use Rattle.erm_machine.specs.declared.part.Part.{Part}
use Rattle.erm_machine.specs.declared.place.Place.{Place}
use Rattle.erm_machine.specs.declared.place.Place.TheVariants.{Active, Sealed, Decided, Leaving}
use Rattle.erm_machine.specs.declared.task.Task.{Task}
use Rattle.erm_machine.specs.declared.task.Task.TheVariants as task
use Rattle.erm_machine.specs.declared.version.CellWord.{CellWord}
use Rattle.erm_machine.specs.declared.version.CellWord.TheVariants as word
use Rattle.erm_machine.specs.declared.version.VersionAt.{VersionAt}
use Rattle.erm_machine.specs.Core.{Object, Shared}
use Rattle.erm_machine.specs.Life.{after_clear, load_back, store_back}
use Rattle.erm_machine.specs.Log.{HasRoom}
use Rattle.erm_machine.specs.Reading.{load_entry, claim, set_reader, load_walked_stamp, load_walked_link, load_cell, swap_link, load_detached, load_counter, add_counter, load_active_stamp, start_row, store_row_word, unset}
use Rattle.erm_machine.specs.Seat.{end_of, is_active, is_decided, is_sealed}
use Rattle.erm_machine.specs.Settling.{load_read_entry, load_readers, load_settled_stamp, load_stamp, raise_reader, store_head_word, store_active_word, store_cell, mark_overwritten, install_claim, adds_version, install_new, release_old, unclaim, install, clear_reader}
use Rattle.erm_machine.specs.Step.{part_after}
use Rattle.erm_machine.proofs.Backs.{entry_then}
use Rattle.erm_machine.proofs.Guards.{when_then, if_then, unless_some}
use Rattle.erm_machine.proofs.QuietKinds.{IsQuiet}

-- what a step, whose task was t, leaves of the log
pub record Stays (x : Part) (t : Task) (y : Part) : Type 0 where
  pub header : y.current.header ≡ x.current.header
  pub block : y.current.block ≡ x.current.block
  pub flushing : y.flushing ≡ x.flushing
  pub gathered_to : y.gathered_to ≡ x.gathered_to
  pub room : HasRoom y.place y.task → HasRoom x.place t

-- a task of a call in progress
abbrev pub InCall : Task → Type 0
InCall task.Rest = ⊥
InCall t = Unit {0}

-- where there is room in one task of a place there is in each task of a call
pub room_past : (p : Place) (u t : Task) → InCall t → HasRoom p u → HasRoom p t
room_past (Sealed tail stamp) u task.Rest past h = absurd past
room_past (Sealed tail stamp) u _ past h = tt
room_past (Decided tail stamp) u t past h = tt
room_past (Leaving stamp) u t past h = tt
room_past p u t past h = absurd h

-- an active seat looks for no room; a decided one has it
room_active : (p : Place) (u : Task) → is_active p ≡ true → HasRoom p u → ⊥
room_active (Active tail) u e h = h
room_active _ u e h = absurd (cc)

room_ending : (p : Place) (u t : Task) → (is_decided p || is_active p) ≡ true → HasRoom p u → HasRoom p t
room_ending (Active tail) u t e h = absurd h
room_ending (Decided tail stamp) u t e h = tt
room_ending _ u t e h = absurd (cc)

module _ (x : Part) (t : Task) (y : Part) (place : y.place ≡ x.place) (header : y.current.header ≡ x.current.header) (block : y.current.block ≡ x.current.block)
    (flushing : y.flushing ≡ x.flushing) (gathered_to : y.gathered_to ≡ x.gathered_to) where
  stays_by : ((p : Place) → y.place ≡ p → x.place ≡ p → HasRoom p y.task → HasRoom p t) → Stays x t y
  stays_by room = record {
    header = header;
    block = block;
    flushing = flushing;
    gathered_to = gathered_to;
    room = λ h. room x.place place refl (subst (λ p. HasRoom p y.task) place h);
  }

  -- a step of a call in progress, one of an active seat, one of an end
  pub past : InCall t → Stays x t y
  past i = stays_by (λ p _ _ h. room_past p y.task t i h)

  pub acts : is_active x.place ≡ true → Stays x t y
  acts a = stays_by (λ p _ at h. absurd (room_active p y.task (subst (λ q. is_active q ≡ true) at a) h))

  pub ends : (is_decided x.place || is_active x.place) ≡ true → Stays x t y
  ends a = stays_by (λ p _ at h. room_ending p y.task t (subst (λ q. (is_decided q || is_active q) ≡ true) at a) h)

pub still : (x : Part) → Stays x x.task x
still x = record { header = refl; block = refl; flushing = refl; gathered_to = refl; room = λ h. h }

-- the first part of a test; the first of two
first : (a b : Bool) → (a && b) ≡ true → a ≡ true
first a b h = (and_parts a b h).0

either : (a b : Bool) → a ≡ true → (a || b) ≡ true
either true b h = refl
either false b h = absurd (cc)

-- a look leaves a seat between calls where it is
pub looked : (other bound : ℕ) (x : Part) (t : Task) (p : Place) → HasRoom p (after_clear other bound x t) → HasRoom p t
looked other bound x task.Rest p h = h
looked other bound x t p h = room_past p _ t tt h

s_load_entry : (seat oid found : ℕ) (o : Object) (x : Part) (t : Task) (y : Part) → load_entry seat oid found o x t ≡ Some y → Stays x t y
s_load_entry seat oid found o x (task.Cleared cleared) y e = when_then (Stays x _) _ _ y e (λ _. past x _ _ refl refl refl refl refl tt)
s_load_entry seat oid found o x t y e =
    entry_then (Stays x t) seat oid found o x t y e (λ _ active. acts x t _ refl refl refl refl refl active) (λ g. acts x t _ refl refl refl refl refl (first _ _ g))

s_claim : (seat oid seen number found : ℕ) (o : Object) (x : Part) (t : Task) (y : Part) → claim seat oid seen number found o x t ≡ Some y → Stays x t y
s_claim seat oid seen number found o x (task.Found version stamp (Some entry)) y e =
    when_then (Stays x _) _ _ y e (λ g. acts x _ _ refl refl refl refl refl (first _ _ (first _ _ (first _ _ (first _ _ (first _ _ g))))))
s_claim seat oid seen number found o x _ y e = absurd (cc)

s_set_reader : (seat : ℕ) (v : VersionAt) (o : Object) (x : Part) (t : Task) (y : Part) → set_reader seat v o x t ≡ Some y → Stays x t y
s_set_reader seat v o x (task.Found version stamp head) y e =
    when_then (Stays x _) _ _ y e (λ g. acts x _ _ refl refl refl refl refl (first _ _ (first _ _ (first _ _ (first _ _ g)))))
s_set_reader seat v o x _ y e = absurd (cc)

s_walked_stamp : (found : ℕ) (v : VersionAt) (x : Part) (t : Task) (y : Part) → load_walked_stamp found v x t ≡ Some y → Stays x t y
s_walked_stamp found v x (task.Walks version head) y e = when_then (Stays x _) _ _ y e (λ _. past x _ _ refl refl refl refl refl tt)
s_walked_stamp found v x (task.CutWalks version horizon) y e = when_then (Stays x _) _ _ y e (λ _. past x _ _ refl refl refl refl refl tt)
s_walked_stamp found v x (task.SafeWalks version) y e = when_then (Stays x _) _ _ y e (λ _. past x _ _ refl refl refl refl refl tt)
s_walked_stamp found v x (task.Passed version) y e = when_then (Stays x _) _ _ y e (λ _. past x _ _ refl refl refl refl refl tt)
s_walked_stamp found v x _ y e = absurd (cc)

s_walked_link : (found : ℕ) (v : VersionAt) (x : Part) (t : Task) (y : Part) → load_walked_link found v x t ≡ Some y → Stays x t y
s_walked_link found v x (task.Passed version) y e = when_then (Stays x _) _ _ y e (λ _. past x _ _ refl refl refl refl refl tt)
s_walked_link found v x (task.SafePassed version) y e = when_then (Stays x _) _ _ y e (λ _. past x _ _ refl refl refl refl refl tt)
s_walked_link found v x (task.CutPassed version horizon) y e = when_then (Stays x _) _ _ y e (λ _. past x _ _ refl refl refl refl refl tt)
s_walked_link found v x _ y e = absurd (cc)

s_load_cell : (found : ℕ) (v : VersionAt) (w : CellWord) (x : Part) (y : Part) → load_cell found v w x ≡ Some y → Stays x x.task y
s_load_cell found v word.Stamp x y e =
    if_then (Stays x _) (is_active x.place) (load_walked_stamp found v x x.task) None y e (λ _ h. s_walked_stamp found v x x.task y h) (λ _ h. absurd (cc))
s_load_cell found v word.Link x y e =
    if_then (Stays x _) (is_active x.place) (load_walked_link found v x x.task) None y e (λ _ h. s_walked_link found v x x.task y h) (λ _ h. absurd (cc))
s_load_cell found v (word.Row k) x y e = when_then (Stays x _) _ _ y e (λ _. still x)
s_load_cell found v _ x y e = absurd (cc)

s_swap_link : (found : ℕ) (v : VersionAt) (o : Object) (x : Part) (t : Task) (y : Part) → swap_link found v o x t ≡ Some y → Stays x t y
s_swap_link found v o x (task.CutFound version horizon) y e = when_then (Stays x _) _ _ y e (λ _. past x _ _ refl refl refl refl refl tt)
s_swap_link found v o x _ y e = absurd (cc)

s_load_detached : (found : ℕ) (v : VersionAt) (x : Part) (t : Task) (y : Part) → load_detached found v x t ≡ Some y → Stays x t y
s_load_detached found v x (task.Detaches version) y e = when_then (Stays x _) _ _ y e (λ _. past x _ _ refl refl refl refl refl tt)
s_load_detached found v x _ y e = absurd (cc)

s_store_back : (value : ℕ) (x : Part) (p : Place) (y : Part) → store_back value x p ≡ Some y → Stays x x.task y
s_store_back value x (Decided tail stamp) y e =
    when_then (Stays x x.task) _ _ y e (λ _. record { header = refl; block = refl; flushing = refl; gathered_to = refl; room = λ h. h })
s_store_back value x _ y e = absurd (cc)

s_load_back : (other found : ℕ) (x : Part) (t : Task) (y : Part) → load_back other found x t ≡ Some y → Stays x t y
s_load_back other found x (task.Behind next) y e = when_then (Stays x _) _ _ y e (λ _. past x _ _ refl refl refl refl refl tt)
s_load_back other found x _ y e = absurd (cc)

s_unset : (place : ℕ) (x y : Part) → unset place x ≡ Some y → Stays x x.task y
s_unset place x y e = when_then (Stays x x.task) _ _ y e (λ g. acts x _ _ refl refl refl refl refl (first _ _ (first _ _ (first _ _ g))))

s_load_counter : (cells : ℕ) (c : Counter) (found : ℕ) (x : Part) (t : Task) (y : Part) → load_counter cells c found x t ≡ Some y → Stays x t y
s_load_counter cells Objects found x t y e = when_then (Stays x t) _ _ y e (λ g. acts x _ _ refl refl refl refl refl (first _ _ g))
s_load_counter cells Cells found x task.Draws y e = when_then (Stays x _) _ _ y e (λ _. past x _ _ refl refl refl refl refl tt)
s_load_counter cells Cells found x _ y e = absurd (cc)

s_add_counter : (cells : ℕ) (seat : ℕ) (c : Counter) (found : ℕ) (x : Part) (t : Task) (y : Part) → add_counter cells seat c found x t ≡ Some y → Stays x t y
s_add_counter cells seat Objects found x task.Numbers y e = when_then (Stays x _) _ _ y e (λ g. acts x _ _ refl refl refl refl refl (first _ _ g))
s_add_counter cells seat Cells found x task.Pool y e = when_then (Stays x _) _ _ y e (λ g. acts x _ _ refl refl refl refl refl g)
s_add_counter cells seat Objects found x _ y e = absurd (cc)
s_add_counter cells seat Cells found x _ y e = absurd (cc)

s_active_stamp : (found : ℕ) (v : VersionAt) (w : CellWord) (x : Part) (t : Task) (y : Part) → is_active x.place ≡ true → load_active_stamp found v w x t ≡ Some y → Stays x t y
s_active_stamp found v word.Overwriter x (task.Registered version) y b e = when_then (Stays x _) _ _ y e (λ _. past x _ _ refl refl refl refl refl tt)
s_active_stamp found v word.OverwriterSucc x (task.Overtaken version overwriter) y b e = when_then (Stays x _) _ _ y e (λ _. acts x _ _ refl refl refl refl refl b)
s_active_stamp found v word.ReaderStamp x task.Draws y b e = when_then (Stays x _) _ _ y e (λ _. acts x _ _ refl refl refl refl refl b)
s_active_stamp found v word.ReaderStamp x task.Fetched y b e = when_then (Stays x _) _ _ y e (λ _. acts x _ _ refl refl refl refl refl b)
s_active_stamp found v _ x _ y b e = absurd (cc)

s_settled_stamp : (found : ℕ) (v : VersionAt) (w : CellWord) (x : Part) (t : Task) (y : Part) → load_settled_stamp found v w x t ≡ Some y → Stays x t y
s_settled_stamp found v word.Overwriter x (task.ReadClear read) y e = when_then (Stays x _) _ _ y e (λ _. past x _ _ refl refl refl refl refl tt)
s_settled_stamp found v word.OverwriterSucc x (task.ReadOvertaken read overwriter) y e = when_then (Stays x _) _ _ y e (λ _. past x _ _ refl refl refl refl refl tt)
s_settled_stamp found v word.Stamp x (task.WriteClear write) y e = when_then (Stays x _) _ _ y e (λ _. past x _ _ refl refl refl refl refl tt)
s_settled_stamp found v word.ReaderStamp x (task.WriteMade write) y e = when_then (Stays x _) _ _ y e (λ _. past x _ _ refl refl refl refl refl tt)
s_settled_stamp found v _ x _ y e = absurd (cc)

s_load_stamp : (found : ℕ) (v : VersionAt) (w : CellWord) (x : Part) (y : Part) → load_stamp found v w x ≡ Some y → Stays x x.task y
s_load_stamp found v w x y e =
    if_then (Stays x _) _ _ _ y e (λ active h. s_active_stamp found v w x x.task y active h)
    (λ _ rest. if_then (Stays x _) (is_sealed x.place) (load_settled_stamp found v w x x.task) None y rest (λ _ h. s_settled_stamp found v w x x.task y h) (λ _ h. absurd (cc)))

s_load_read_entry : (seat oid found : ℕ) (x : Part) (t : Task) (y : Part) → load_read_entry seat oid found x t ≡ Some y → Stays x t y
s_load_read_entry seat oid found x (task.Settles reads writes) y e = when_then (Stays x _) _ _ y e (λ _. past x _ _ refl refl refl refl refl tt)
s_load_read_entry seat oid found x _ y e = absurd (cc)

s_load_readers : (seat : ℕ) (v : VersionAt) (found : ℕ) (x : Part) (t : Task) (y : Part) → load_readers seat v found x t ≡ Some y → Stays x t y
s_load_readers seat v found x (task.Settles reads writes) y e = when_then (Stays x _) _ _ y e (λ _. past x _ _ refl refl refl refl refl tt)
s_load_readers seat v found x _ y e = absurd (cc)

s_raise_reader : (v : VersionAt) (value : ℕ) (x : Part) (t : Task) (y : Part) → raise_reader v value x t ≡ Some y → Stays x t y
s_raise_reader v value x (task.Ends raised ended step cleared) y e = when_then (Stays x _) _ _ y e (λ _. past x _ _ refl refl refl refl refl tt)
s_raise_reader v value x _ y e = absurd (cc)

s_mark : (nth : ℕ) (v : VersionAt) (value wanted : ℕ) (x : Part) (t : Task) (y : Part) → mark_overwritten nth v value wanted x t ≡ Some y → Stays x t y
s_mark nth v value wanted x (task.Ends raised ended step cleared) y e = when_then (Stays x _) _ _ y e (λ _. past x _ _ refl refl refl refl refl tt)
s_mark nth v value wanted x _ y e = absurd (cc)

s_head_word : (place cell : ℕ) (w : CellWord) (value : ℕ) (x : Part) (t : Task) (y : Part) → store_head_word place cell w value x t ≡ Some y → Stays x t y
s_head_word place cell w value x (task.Ends raised ended step cleared) y e = when_then (Stays x _) _ _ y e (λ _. past x _ _ refl refl refl refl refl tt)
s_head_word place cell w value x _ y e = absurd (cc)

s_start_row : (place cell k value : ℕ) (x : Part) (t : Task) (y : Part) → is_active x.place ≡ true → start_row place cell k value x t ≡ Some y → Stays x t y
s_start_row place cell k value x t y b e = when_then (Stays x _) _ _ y e (λ _. acts x _ _ refl refl refl refl refl b)

s_row_word : (place cell k value : ℕ) (x : Part) (t : Task) (y : Part) → is_active x.place ≡ true → store_row_word place cell k value x t ≡ Some y → Stays x t y
s_row_word place cell k value x (task.Copies w) y b e = when_then (Stays x _) _ _ y e (λ _. acts x _ _ refl refl refl refl refl b)
s_row_word place cell k value x (task.Writes claim w) y b e = when_then (Stays x _) _ _ y e (λ _. acts x _ _ refl refl refl refl refl b)
s_row_word place cell k value x t y b e = s_start_row place cell k value x t y b e

s_active_word : (place cell : ℕ) (w : CellWord) (value : ℕ) (x : Part) (y : Part) → is_active x.place ≡ true → store_active_word place cell w value x ≡ Some y → Stays x x.task y
s_active_word place cell (word.Row k) value x y b e = s_row_word place cell k value x x.task y b e
s_active_word place cell _ value x y b e = absurd (cc)

s_store_cell : (place cell : ℕ) (w : CellWord) (value : ℕ) (x : Part) (y : Part) → store_cell place cell w value x ≡ Some y → Stays x x.task y
s_store_cell place cell w value x y e =
    if_then (Stays x _) _ _ _ y e (λ active h. s_active_word place cell w value x y active h) (λ _ h. s_head_word place cell w value x x.task y h)

s_unclaim : (oid head : ℕ) (x : Part) (t : Task) (y : Part) → unclaim oid head x ≡ Some y → Stays x t y
s_unclaim oid head x t y e = when_then (Stays x t) _ _ y e (λ g. acts x _ _ refl refl refl refl refl (first _ _ (first _ _ (first _ _ g))))

s_install_claim : (oid head : ℕ) (x : Part) (t : Task) (e : Option (ℕ × ℕ × ℕ × ℕ)) (y : Part) → install_claim oid head x e ≡ Some y → Stays x t y
s_install_claim oid head x t None y e = absurd (cc)
s_install_claim oid head x t (Some c) y e =
    if_then (Stays x t) (adds_version x) (install_new oid head x c) (release_old oid head x c) y e
    (λ adds h. when_then (Stays x t) _ _ y h (λ _. ends x _ _ refl refl refl refl refl (either (is_decided x.place) (is_active x.place) (first _ _ adds))))
    (λ _ h. when_then (Stays x t) _ _ y h (λ g. ends x _ _ refl refl refl refl refl (first _ _ (first _ _ (first _ _ g)))))

s_install_other : (oid head : ℕ) (x : Part) (t : Task) (y : Part) → install_claim oid head x (end_of t) ≡ Some y → Stays x t y
s_install_other oid head x t y e = s_install_claim oid head x t (end_of t) y e

s_install : (oid head : ℕ) (x : Part) (t : Task) (y : Part) → install oid head x t ≡ Some y → Stays x t y
s_install oid head x task.Refused y e = s_unclaim oid head x _ y e
s_install oid head x t y e = s_install_other oid head x t y e

s_clear_reader : (v : VersionAt) (x : Part) (t : Task) (e : Option (ℕ × ℕ × ℕ × ℕ)) (y : Part) → clear_reader v x e ≡ Some y → Stays x t y
s_clear_reader v x t None y e = absurd (cc)
s_clear_reader v x t (Some c) y e = when_then (Stays x t) _ _ y e (λ g. ends x _ _ refl refl refl refl refl (first _ _ (first _ _ (first _ _ (first _ _ g)))))

-- kinds that leave the log as it is, and the seat at its place
abbrev pub IsAside : Kind → Type 0
IsAside (kind.StoreRing at value) = ⊥
IsAside (kind.LoadRing at) = ⊥
IsAside (kind.ClearRing at) = ⊥
IsAside (kind.StoreFlushed value) = ⊥
IsAside kind.LoadFlushed = ⊥
IsAside k = IsQuiet k

pub stays_kind : (p : ℕ) (k : Kind) (found : ℕ) (s : Shared) (x y : Part) → IsAside k → part_after p k found s x ≡ Some y → Stays x x.task y
stays_kind p (kind.LoadTail reason) found s x y q e = absurd q
stays_kind p (kind.AddTail size) found s x y q e = absurd q
stays_kind p (kind.StoreBegin value) found s x y q e = absurd q
stays_kind p (kind.StoreState value) found s x y q e = absurd q
stays_kind p (kind.LoadBegin other) found s x y q e = absurd q
stays_kind p (kind.LoadState other bound) found s x y q e = absurd q
stays_kind p (kind.Split other) found s x y q e = absurd q
stays_kind p (kind.Join other) found s x y q e = absurd q
stays_kind p (kind.LoadEntry oid) found s x y q e =
    if_then (Stays x x.task) (is_sealed x.place) (load_read_entry p oid found x x.task) (load_entry p oid found (s.objects oid) x x.task) y e
    (λ _ h. s_load_read_entry p oid found x x.task y h) (λ _ h. s_load_entry p oid found (s.objects oid) x x.task y h)
stays_kind p (kind.Claim oid seen number) found s x y q e = s_claim p oid seen number found (s.objects oid) x x.task y e
stays_kind p (kind.Install oid head) found s x y q e = s_install oid head x x.task y e
stays_kind p (kind.LoadCell v w) found s x y q e = s_load_cell found v w x y (unless_some _ _ y e)
stays_kind p (kind.StoreCell place cell w value) found s x y q e = s_store_cell place cell w value x y e
stays_kind p (kind.LoadCounter counter) found s x y q e = s_load_counter _ counter found x x.task y e
stays_kind p (kind.AddCounter counter) found s x y q e = s_add_counter _ p counter found x x.task y e
stays_kind p (kind.SetReader v) found s x y q e = s_set_reader p v (s.objects v.oid) x x.task y e
stays_kind p (kind.ClearReader v) found s x y q e = s_clear_reader v x x.task (end_of x.task) y e
stays_kind p (kind.LoadReaders v) found s x y q e = s_load_readers p v found x x.task y e
stays_kind p (kind.LoadStamp v w) found s x y q e = s_load_stamp found v w x y e
stays_kind p (kind.RaiseReader v value) found s x y q e = s_raise_reader v value x x.task y e
stays_kind p (kind.StoreSucc v value) found s x y q e = s_mark 6 v value x.current.succ x x.task y e
stays_kind p (kind.StoreOverwriter v value) found s x y q e = s_mark 7 v value x.current.stamp x x.task y e
stays_kind p (kind.StoreRing at value) found s x y q e = absurd q
stays_kind p (kind.Decide at header) found s x y q e = absurd q
stays_kind p (kind.LoadRing at) found s x y q e = absurd q
stays_kind p (kind.ClearRing at) found s x y q e = absurd q
stays_kind p (kind.StoreFlushed value) found s x y q e = absurd q
stays_kind p kind.LoadFlushed found s x y q e = absurd q
stays_kind p (kind.SwapLink v) found s x y q e = s_swap_link found v (s.objects v.oid) x x.task y e
stays_kind p (kind.LoadDetached v) found s x y q e = s_load_detached found v x x.task y e
stays_kind p (kind.StoreBack value) found s x y q e = s_store_back value x x.place y e
stays_kind p (kind.LoadBack other) found s x y q e = s_load_back other found x x.task y e
stays_kind p (kind.Unset place) found s x y q e = s_unset place x y e
