-- What steps leave of a seat that stays at its place: the run that it writes, its number, and the reads, writes' rows and
-- objects made of a transaction that isn't active any more.
use Rattle.std.proofs.Common.{◌≡◌, ℕ, ◌⊎◌, Bool, true, Option, Some, None, map, refl, ap, inl, inr, ◌&&◌}
use Rattle.std.specs.Prelude.{if◌then◌else◌}
use Rattle.std.proofs.lemmas.Bool.{and_parts}
use Rattle.std.proofs.Math.Seq.{map-set_same}
use Rattle.erm_machine.specs.declared.attempt.Attempt.{Attempt}
use Rattle.erm_machine.specs.declared.attempt.Claim.{Claim}
use Rattle.erm_machine.specs.declared.event.Counter.{Counter}
use Rattle.erm_machine.specs.declared.event.Counter.TheVariants.{Objects, Cells}
use Rattle.erm_machine.specs.declared.event.Kind.{Kind}
use Rattle.erm_machine.specs.declared.event.Kind.TheVariants as kind
use Rattle.erm_machine.specs.declared.part.Flushing.{Flushing}
use Rattle.erm_machine.specs.declared.part.Flushing.TheVariants as flushing
use Rattle.erm_machine.specs.declared.part.Part.{Part}
use Rattle.erm_machine.specs.declared.place.Place.{Place}
use Rattle.erm_machine.specs.declared.place.Place.TheVariants.{Decided}
use Rattle.erm_machine.specs.declared.task.Task.{Task}
use Rattle.erm_machine.specs.declared.task.Task.TheVariants as task
use Rattle.erm_machine.specs.declared.version.CellWord.{CellWord}
use Rattle.erm_machine.specs.declared.version.CellWord.TheVariants as word
use Rattle.erm_machine.specs.declared.version.VersionAt.{VersionAt}
use Rattle.erm_machine.specs.Core.{Object, Shared, claim_at, no_claim}
use Rattle.erm_machine.specs.Decided.{written_of}
use Rattle.erm_machine.specs.Flushing.{load_flushed, gathered_word, load_ring, clear_ring, store_flushed}
use Rattle.erm_machine.specs.Life.{load_back, store_back}
use Rattle.erm_machine.specs.Reading.{load_entry, claim, set_reader, load_walked_stamp, load_walked_link, load_cell, swap_link, load_detached, load_counter, add_counter, load_active_stamp, start_row, store_row_word, unset}
use Rattle.erm_machine.specs.Seat.{end_of, is_active, is_sealed, with_claim}
use Rattle.erm_machine.specs.Settling.{load_flushed_to_settle, load_read_entry, load_readers, load_settled_stamp, load_stamp, store_ring, raise_reader, store_head_word, store_active_word, store_cell, mark_overwritten, install_claim, adds_version, install_new, release_old, unclaim, install, clear_reader, filled}
use Rattle.erm_machine.specs.Step.{part_after}
use Rattle.erm_machine.proofs.Backs.{entry_then}
use Rattle.erm_machine.proofs.Guards.{when_then, some_then, if_then, either_way, unless_some}
use Rattle.erm_machine.proofs.QuietKinds.{IsQuiet}

-- two transactions have the same reads, objects made, and claims but for their own cells
pub record SameRecord (t u : Attempt) : Type 0 where
  pub reads : u.reads ≡ t.reads
  pub writes : map written_of u.writes ≡ map written_of t.writes
  pub made : u.made ≡ t.made

-- two transactions have the same successor stamp, and the same words of a block
pub record SameWords (t u : Attempt) : Type 0 where
  pub succ : u.succ ≡ t.succ
  pub header : u.header ≡ t.header
  pub block : u.block ≡ t.block

-- at this place a transaction isn't decided yet, or these are the same
abbrev pub KeepsWords : Place → Attempt → Attempt → Type 0
KeepsWords p t u = (is_active p ≡ true) ⊎ (is_sealed p ≡ true) ⊎ SameWords t u

pub record Lasting (x y : Part) : Type 0 where
  pub run : y.run ≡ x.run
  pub number : y.number ≡ x.number
  pub current : (is_active x.place ≡ true) ⊎ SameRecord x.current y.current
  pub words : KeepsWords x.place x.current y.current

pub same_record : (t u : Attempt) → u ≡ t → SameRecord t u
same_record t u e = record { reads = ap (λ (a : Attempt). a.reads) e; writes = ap (λ (a : Attempt). map written_of a.writes) e; made = ap (λ (a : Attempt). a.made) e }

same_words : (t u : Attempt) → u ≡ t → SameWords t u
same_words t u e = record { succ = ap (λ (a : Attempt). a.succ) e; header = ap (λ (a : Attempt). a.header) e; block = ap (λ (a : Attempt). a.block) e }

-- the transaction stays; it is active; it settles; it changes elsewhere
pub lasts : (x y : Part) → y.run ≡ x.run → y.number ≡ x.number → y.current ≡ x.current → Lasting x y
lasts x y run number current =
    record { run = run; number = number; current = inr (same_record x.current y.current current); words = inr (inr (same_words x.current y.current current)) }

works : (x y : Part) → y.run ≡ x.run → y.number ≡ x.number → is_active x.place ≡ true → Lasting x y
works x y run number active = record { run = run; number = number; current = inl active; words = inl active }

settles : (x y : Part) → y.run ≡ x.run → y.number ≡ x.number → is_sealed x.place ≡ true → SameRecord x.current y.current → Lasting x y
settles x y run number sealed same = record { run = run; number = number; current = inr same; words = inr (inl sealed) }

touches : (x y : Part) → y.run ≡ x.run → y.number ≡ x.number → SameRecord x.current y.current → SameWords x.current y.current → Lasting x y
touches x y run number same words = record { run = run; number = number; current = inr same; words = inr (inr words) }

-- a change of its claims alone
no_words : (t u : Attempt) → u.succ ≡ t.succ → u.header ≡ t.header → u.block ≡ t.block → SameWords t u
no_words t u succ header block = record { succ = succ; header = header; block = block }

-- a claim changes in its own cell, or is over
with_claim_same : (t : Attempt) (place : ℕ) (w : Claim) → written_of w ≡ written_of (claim_at t place) → SameRecord t (with_claim place w t)
with_claim_same t place w e = record { reads = refl; writes = map-set_same written_of t.writes place w no_claim e; made = refl }

-- the first part of a test
first : (a b : Bool) → (a && b) ≡ true → a ≡ true
first a b h = (and_parts a b h).0

l_load_entry : (seat oid found : ℕ) (o : Object) (x : Part) (t : Task) (y : Part) → load_entry seat oid found o x t ≡ Some y → Lasting x y
l_load_entry seat oid found o x (task.Cleared cleared) y e = when_then (Lasting x) _ _ y e (λ _. lasts x _ refl refl refl)
l_load_entry seat oid found o x t y e =
    entry_then (Lasting x) seat oid found o x t y e (λ _ _. lasts x _ refl refl refl) (λ _. lasts x _ refl refl refl)

l_claim : (seat oid seen number found : ℕ) (o : Object) (x : Part) (t : Task) (y : Part) → claim seat oid seen number found o x t ≡ Some y → Lasting x y
l_claim seat oid seen number found o x (task.Found version stamp (Some entry)) y e =
    when_then (Lasting x) _ _ y e (λ g. works x _ refl refl (first _ _ (first _ _ (first _ _ (first _ _ (first _ _ g))))))
l_claim seat oid seen number found o x _ y e = absurd (cc)

l_set_reader : (seat : ℕ) (v : VersionAt) (o : Object) (x : Part) (t : Task) (y : Part) → set_reader seat v o x t ≡ Some y → Lasting x y
l_set_reader seat v o x (task.Found version stamp head) y e =
    when_then (Lasting x) _ _ y e (λ g. works x _ refl refl (first _ _ (first _ _ (first _ _ (first _ _ g)))))
l_set_reader seat v o x _ y e = absurd (cc)

l_walked_stamp : (found : ℕ) (v : VersionAt) (x : Part) (t : Task) (y : Part) → load_walked_stamp found v x t ≡ Some y → Lasting x y
l_walked_stamp found v x (task.Walks version head) y e = when_then (Lasting x) _ _ y e (λ _. lasts x _ refl refl refl)
l_walked_stamp found v x (task.CutWalks version horizon) y e = when_then (Lasting x) _ _ y e (λ _. lasts x _ refl refl refl)
l_walked_stamp found v x (task.SafeWalks version) y e = when_then (Lasting x) _ _ y e (λ _. lasts x _ refl refl refl)
l_walked_stamp found v x (task.Passed version) y e = when_then (Lasting x) _ _ y e (λ _. lasts x _ refl refl refl)
l_walked_stamp found v x _ y e = absurd (cc)

l_walked_link : (found : ℕ) (v : VersionAt) (x : Part) (t : Task) (y : Part) → load_walked_link found v x t ≡ Some y → Lasting x y
l_walked_link found v x (task.Passed version) y e = when_then (Lasting x) _ _ y e (λ _. lasts x _ refl refl refl)
l_walked_link found v x (task.SafePassed version) y e = when_then (Lasting x) _ _ y e (λ _. lasts x _ refl refl refl)
l_walked_link found v x (task.CutPassed version horizon) y e = when_then (Lasting x) _ _ y e (λ _. lasts x _ refl refl refl)
l_walked_link found v x _ y e = absurd (cc)

l_load_cell : (found : ℕ) (v : VersionAt) (w : CellWord) (x : Part) (y : Part) → load_cell found v w x ≡ Some y → Lasting x y
l_load_cell found v word.Stamp x y e =
    if_then (Lasting x) (is_active x.place) (load_walked_stamp found v x x.task) None y e (λ _ h. l_walked_stamp found v x x.task y h) (λ _ h. absurd (cc))
l_load_cell found v word.Link x y e =
    if_then (Lasting x) (is_active x.place) (load_walked_link found v x x.task) None y e (λ _ h. l_walked_link found v x x.task y h) (λ _ h. absurd (cc))
l_load_cell found v (word.Row k) x y e = when_then (Lasting x) _ _ y e (λ _. lasts x x refl refl refl)
l_load_cell found v _ x y e = absurd (cc)

l_swap_link : (found : ℕ) (v : VersionAt) (o : Object) (x : Part) (t : Task) (y : Part) → swap_link found v o x t ≡ Some y → Lasting x y
l_swap_link found v o x (task.CutFound version horizon) y e = when_then (Lasting x) _ _ y e (λ _. lasts x _ refl refl refl)
l_swap_link found v o x _ y e = absurd (cc)

l_load_detached : (found : ℕ) (v : VersionAt) (x : Part) (t : Task) (y : Part) → load_detached found v x t ≡ Some y → Lasting x y
l_load_detached found v x (task.Detaches version) y e = when_then (Lasting x) _ _ y e (λ _. lasts x _ refl refl refl)
l_load_detached found v x _ y e = absurd (cc)

l_load_counter : (cells : ℕ) (c : Counter) (found : ℕ) (x : Part) (t : Task) (y : Part) → load_counter cells c found x t ≡ Some y → Lasting x y
l_load_counter cells Objects found x t y e = when_then (Lasting x) _ _ y e (λ _. lasts x _ refl refl refl)
l_load_counter cells Cells found x task.Draws y e = when_then (Lasting x) _ _ y e (λ _. lasts x _ refl refl refl)
l_load_counter cells Cells found x _ y e = absurd (cc)

l_add_counter : (cells : ℕ) (seat : ℕ) (c : Counter) (found : ℕ) (x : Part) (t : Task) (y : Part) → add_counter cells seat c found x t ≡ Some y → Lasting x y
l_add_counter cells seat Objects found x task.Numbers y e = when_then (Lasting x) _ _ y e (λ g. works x _ refl refl (first _ _ g))
l_add_counter cells seat Cells found x task.Pool y e = when_then (Lasting x) _ _ y e (λ g. works x _ refl refl g)
l_add_counter cells seat Objects found x _ y e = absurd (cc)
l_add_counter cells seat Cells found x _ y e = absurd (cc)

l_active_stamp : (found : ℕ) (v : VersionAt) (w : CellWord) (x : Part) (t : Task) (y : Part) → is_active x.place ≡ true → load_active_stamp found v w x t ≡ Some y → Lasting x y
l_active_stamp found v word.Overwriter x (task.Registered version) y b e = when_then (Lasting x) _ _ y e (λ _. lasts x _ refl refl refl)
l_active_stamp found v word.OverwriterSucc x (task.Overtaken version overwriter) y b e = when_then (Lasting x) _ _ y e (λ _. works x _ refl refl b)
l_active_stamp found v word.ReaderStamp x task.Draws y b e = when_then (Lasting x) _ _ y e (λ _. works x _ refl refl b)
l_active_stamp found v word.ReaderStamp x task.Fetched y b e = when_then (Lasting x) _ _ y e (λ _. works x _ refl refl b)
l_active_stamp found v _ x _ y b e = absurd (cc)

-- what counts for the exclusion window is no part of the reads and writes
plainly : (t : Attempt) (u : Attempt) → u.reads ≡ t.reads → u.writes ≡ t.writes → u.made ≡ t.made → SameRecord t u
plainly t u reads writes made = record { reads = reads; writes = ap (λ ws. map written_of ws) writes; made = made }

l_settled_stamp : (found : ℕ) (v : VersionAt) (w : CellWord) (x : Part) (t : Task) (y : Part) → is_sealed x.place ≡ true → load_settled_stamp found v w x t ≡ Some y → Lasting x y
l_settled_stamp found v word.Overwriter x (task.ReadClear read) y b e = when_then (Lasting x) _ _ y e (λ _. lasts x _ refl refl refl)
l_settled_stamp found v word.OverwriterSucc x (task.ReadOvertaken read overwriter) y b e = when_then (Lasting x) _ _ y e (λ _. settles x _ refl refl b (plainly x.current _ refl refl refl))
l_settled_stamp found v word.Stamp x (task.WriteClear write) y b e = when_then (Lasting x) _ _ y e (λ _. settles x _ refl refl b (plainly x.current _ refl refl refl))
l_settled_stamp found v word.ReaderStamp x (task.WriteMade write) y b e = when_then (Lasting x) _ _ y e (λ _. settles x _ refl refl b (plainly x.current _ refl refl refl))
l_settled_stamp found v _ x _ y b e = absurd (cc)

l_load_stamp : (found : ℕ) (v : VersionAt) (w : CellWord) (x : Part) (y : Part) → load_stamp found v w x ≡ Some y → Lasting x y
l_load_stamp found v w x y e =
    if_then (Lasting x) _ _ _ y e (λ active h. l_active_stamp found v w x x.task y active h)
    (λ _ rest. if_then (Lasting x) (is_sealed x.place) (load_settled_stamp found v w x x.task) None y rest (λ sealed h. l_settled_stamp found v w x x.task y sealed h) (λ _ h. absurd (cc)))

l_load_read_entry : (seat oid found : ℕ) (x : Part) (t : Task) (y : Part) → load_read_entry seat oid found x t ≡ Some y → Lasting x y
l_load_read_entry seat oid found x (task.Settles reads writes) y e = when_then (Lasting x) _ _ y e (λ _. lasts x _ refl refl refl)
l_load_read_entry seat oid found x _ y e = absurd (cc)

l_load_readers : (seat : ℕ) (v : VersionAt) (found : ℕ) (x : Part) (t : Task) (y : Part) → load_readers seat v found x t ≡ Some y → Lasting x y
l_load_readers seat v found x (task.Settles reads writes) y e = when_then (Lasting x) _ _ y e (λ _. lasts x _ refl refl refl)
l_load_readers seat v found x _ y e = absurd (cc)

l_store_ring : (at value : ℕ) (x : Part) (o : Option ℕ) (y : Part) → store_ring at value x o ≡ Some y → Lasting x y
l_store_ring at value x None y e = absurd (cc)
l_store_ring at value x (Some words) y e =
    when_then (Lasting x) _ _ y e (λ g. settles x _ refl refl (first _ _ (first _ _ (first _ _ (first _ _ g)))) (plainly x.current _ refl refl refl))

l_raise_reader : (v : VersionAt) (value : ℕ) (x : Part) (t : Task) (y : Part) → raise_reader v value x t ≡ Some y → Lasting x y
l_raise_reader v value x (task.Ends raised ended step cleared) y e = when_then (Lasting x) _ _ y e (λ _. lasts x _ refl refl refl)
l_raise_reader v value x _ y e = absurd (cc)

l_mark : (nth : ℕ) (v : VersionAt) (value wanted : ℕ) (x : Part) (t : Task) (y : Part) → mark_overwritten nth v value wanted x t ≡ Some y → Lasting x y
l_mark nth v value wanted x (task.Ends raised ended step cleared) y e = when_then (Lasting x) _ _ y e (λ _. lasts x _ refl refl refl)
l_mark nth v value wanted x _ y e = absurd (cc)

l_head_word : (place cell : ℕ) (w : CellWord) (value : ℕ) (x : Part) (t : Task) (y : Part) → store_head_word place cell w value x t ≡ Some y → Lasting x y
l_head_word place cell w value x (task.Ends raised ended step cleared) y e = when_then (Lasting x) _ _ y e (λ _. touches x _ refl refl (with_claim_same x.current place _ refl) (no_words x.current _ refl refl refl))
l_head_word place cell w value x _ y e = absurd (cc)

l_start_row : (place cell k value : ℕ) (x : Part) (t : Task) (y : Part) → is_active x.place ≡ true → start_row place cell k value x t ≡ Some y → Lasting x y
l_start_row place cell k value x t y b e = when_then (Lasting x) _ _ y e (λ _. works x _ refl refl b)

l_row_word : (place cell k value : ℕ) (x : Part) (t : Task) (y : Part) → is_active x.place ≡ true → store_row_word place cell k value x t ≡ Some y → Lasting x y
l_row_word place cell k value x (task.Copies w) y b e = when_then (Lasting x) _ _ y e (λ _. works x _ refl refl b)
l_row_word place cell k value x (task.Writes claim w) y b e = when_then (Lasting x) _ _ y e (λ _. works x _ refl refl b)
l_row_word place cell k value x t y b e = l_start_row place cell k value x t y b e

l_active_word : (place cell : ℕ) (w : CellWord) (value : ℕ) (x : Part) (y : Part) → is_active x.place ≡ true → store_active_word place cell w value x ≡ Some y → Lasting x y
l_active_word place cell (word.Row k) value x y b e = l_row_word place cell k value x x.task y b e
l_active_word place cell _ value x y b e = absurd (cc)

l_store_cell : (place cell : ℕ) (w : CellWord) (value : ℕ) (x : Part) (y : Part) → store_cell place cell w value x ≡ Some y → Lasting x y
l_store_cell place cell w value x y e =
    if_then (Lasting x) _ _ _ y e (λ active h. l_active_word place cell w value x y active h) (λ _ h. l_head_word place cell w value x x.task y h)

l_unclaim : (oid head : ℕ) (x : Part) (y : Part) → unclaim oid head x ≡ Some y → Lasting x y
l_unclaim oid head x y e = when_then (Lasting x) _ _ y e (λ g. works x _ refl refl (first _ _ (first _ _ (first _ _ g))))

l_install_claim : (oid head : ℕ) (x : Part) (e : Option (ℕ × ℕ × ℕ × ℕ)) (y : Part) → install_claim oid head x e ≡ Some y → Lasting x y
l_install_claim oid head x None y e = absurd (cc)
l_install_claim oid head x (Some c) y e =
    if_then (Lasting x) (adds_version x) (install_new oid head x c) (release_old oid head x c) y e
    (λ _ h. when_then (Lasting x) _ _ y h (λ _. touches x _ refl refl (with_claim_same x.current c.1 _ refl) (no_words x.current _ refl refl refl)))
    (λ _ h. when_then (Lasting x) _ _ y h (λ _. touches x _ refl refl (with_claim_same x.current c.1 _ refl) (no_words x.current _ refl refl refl)))

l_install_other : (oid head : ℕ) (x : Part) (t : Task) (y : Part) → install_claim oid head x (end_of t) ≡ Some y → Lasting x y
l_install_other oid head x t y e = l_install_claim oid head x (end_of t) y e

l_install : (oid head : ℕ) (x : Part) (t : Task) (y : Part) → install oid head x t ≡ Some y → Lasting x y
l_install oid head x task.Refused y e = l_unclaim oid head x y e
l_install oid head x t y e = l_install_other oid head x t y e

l_clear_reader : (v : VersionAt) (x : Part) (e : Option (ℕ × ℕ × ℕ × ℕ)) (y : Part) → clear_reader v x e ≡ Some y → Lasting x y
l_clear_reader v x None y e = absurd (cc)
l_clear_reader v x (Some c) y e = when_then (Lasting x) _ _ y e (λ _. lasts x _ refl refl refl)

l_to_settle : (found : ℕ) (x : Part) → Lasting x (load_flushed_to_settle found x)
l_to_settle found x = either_way (Lasting x) _ _ _ (λ _. lasts x (record x { task = task.Settles 0 0 }) refl refl refl) (λ _. lasts x x refl refl refl)

l_load_flushed : (found : ℕ) (x : Part) (f : Flushing) (y : Part) → load_flushed found x f ≡ Some y → Lasting x y
l_load_flushed found x (flushing.Tail tail) y e = some_then (Lasting x) _ y e (lasts x _ refl refl refl)
l_load_flushed found x _ y e = when_then (Lasting x) _ _ y e (λ _. l_to_settle found x)

l_if : (x : Part) (b : Bool) (l r : Part) → Lasting x l → Lasting x r → Lasting x (if b then l else r)
l_if x b l r f g = either_way (Lasting x) b l r (λ _. f) (λ _. g)

-- the flush seat's own fields change
l_flushing : (x : Part) (f : Flushing) (to : ℕ) → Lasting x (record x { flushing = f; gathered_to = to })
l_flushing x f to = lasts x _ refl refl refl

l_gathered : (tail from block next end : ℕ) (x : Part) → Lasting x (gathered_word tail from block next end x)
l_gathered tail from block next end x = either_way (Lasting x) _ _ _ (λ _. l_flushing x _ _) (λ _. l_flushing x _ _)

l_load_ring : (at found : ℕ) (x : Part) (f : Flushing) (y : Part) → load_ring at found x f ≡ Some y → Lasting x y
l_load_ring at found x (flushing.Gathers tail from block next end) y e =
    when_then (Lasting x) _ _ y e (λ _. l_if x _ _ _ (l_gathered tail from block next end x) (l_if x _ _ _ (lasts x x refl refl refl) (l_gathered tail from next next _ x)))
l_load_ring at found x _ y e = absurd (cc)

l_clear_ring : (at : ℕ) (x : Part) (f : Flushing) (y : Part) → clear_ring at x f ≡ Some y → Lasting x y
l_clear_ring at x (flushing.Gathers tail from block next end) y e = when_then (Lasting x) _ _ y e (λ _. lasts x _ refl refl refl)
l_clear_ring at x (flushing.Clears next to) y e = when_then (Lasting x) _ _ y e (λ _. lasts x _ refl refl refl)
l_clear_ring at x _ y e = absurd (cc)

l_store_flushed : (value : ℕ) (x : Part) (f : Flushing) (y : Part) → store_flushed value x f ≡ Some y → Lasting x y
l_store_flushed value x (flushing.Clears next to) y e = when_then (Lasting x) _ _ y e (λ _. lasts x _ refl refl refl)
l_store_flushed value x _ y e = absurd (cc)

l_store_back : (value : ℕ) (x : Part) (p : Place) (y : Part) → store_back value x p ≡ Some y → Lasting x y
l_store_back value x (Decided tail stamp) y e = when_then (Lasting x) _ _ y e (λ _. lasts x _ refl refl refl)
l_store_back value x _ y e = absurd (cc)

l_load_back : (other found : ℕ) (x : Part) (t : Task) (y : Part) → load_back other found x t ≡ Some y → Lasting x y
l_load_back other found x (task.Behind next) y e = when_then (Lasting x) _ _ y e (λ _. lasts x _ refl refl refl)
l_load_back other found x _ y e = absurd (cc)

l_unset : (place : ℕ) (x y : Part) → unset place x ≡ Some y → Lasting x y
l_unset place x y e = when_then (Lasting x) _ _ y e (λ g. works x _ refl refl (first _ _ (first _ _ (first _ _ g))))

pub lasting_kind : (p : ℕ) (k : Kind) (found : ℕ) (s : Shared) (x y : Part) → IsQuiet k → part_after p k found s x ≡ Some y → Lasting x y
lasting_kind p (kind.LoadTail reason) found s x y q e = absurd q
lasting_kind p (kind.AddTail size) found s x y q e = absurd q
lasting_kind p (kind.StoreBegin value) found s x y q e = absurd q
lasting_kind p (kind.StoreState value) found s x y q e = absurd q
lasting_kind p (kind.LoadBegin other) found s x y q e = absurd q
lasting_kind p (kind.LoadState other bound) found s x y q e = absurd q
lasting_kind p (kind.Split other) found s x y q e = absurd q
lasting_kind p (kind.Join other) found s x y q e = absurd q
lasting_kind p (kind.LoadEntry oid) found s x y q e =
    if_then (Lasting x) (is_sealed x.place) (load_read_entry p oid found x x.task) (load_entry p oid found (s.objects oid) x x.task) y e
    (λ _ h. l_load_read_entry p oid found x x.task y h) (λ _ h. l_load_entry p oid found (s.objects oid) x x.task y h)
lasting_kind p (kind.Claim oid seen number) found s x y q e = l_claim p oid seen number found (s.objects oid) x x.task y e
lasting_kind p (kind.Install oid head) found s x y q e = l_install oid head x x.task y e
lasting_kind p (kind.LoadCell v w) found s x y q e = l_load_cell found v w x y (unless_some _ _ y e)
lasting_kind p (kind.StoreCell place cell w value) found s x y q e = l_store_cell place cell w value x y e
lasting_kind p (kind.LoadCounter counter) found s x y q e = l_load_counter _ counter found x x.task y e
lasting_kind p (kind.AddCounter counter) found s x y q e = l_add_counter _ p counter found x x.task y e
lasting_kind p (kind.SetReader v) found s x y q e = l_set_reader p v (s.objects v.oid) x x.task y e
lasting_kind p (kind.ClearReader v) found s x y q e = l_clear_reader v x (end_of x.task) y e
lasting_kind p (kind.LoadReaders v) found s x y q e = l_load_readers p v found x x.task y e
lasting_kind p (kind.LoadStamp v w) found s x y q e = l_load_stamp found v w x y e
lasting_kind p (kind.RaiseReader v value) found s x y q e = l_raise_reader v value x x.task y e
lasting_kind p (kind.StoreSucc v value) found s x y q e = l_mark 6 v value x.current.succ x x.task y e
lasting_kind p (kind.StoreOverwriter v value) found s x y q e = l_mark 7 v value x.current.stamp x x.task y e
lasting_kind p (kind.StoreRing at value) found s x y q e = l_store_ring at value x (filled x.current x.task) y e
lasting_kind p (kind.Decide at header) found s x y q e = absurd q
lasting_kind p (kind.LoadRing at) found s x y q e = l_load_ring at found x x.flushing y e
lasting_kind p (kind.ClearRing at) found s x y q e = l_clear_ring at x x.flushing y e
lasting_kind p (kind.StoreFlushed value) found s x y q e = l_store_flushed value x x.flushing y e
lasting_kind p kind.LoadFlushed found s x y q e = l_load_flushed found x x.flushing y e
lasting_kind p (kind.SwapLink v) found s x y q e = l_swap_link found v (s.objects v.oid) x x.task y e
lasting_kind p (kind.LoadDetached v) found s x y q e = l_load_detached found v x x.task y e
lasting_kind p (kind.StoreBack value) found s x y q e = l_store_back value x x.place y e
lasting_kind p (kind.LoadBack other) found s x y q e = l_load_back other found x x.task y e
lasting_kind p (kind.Unset place) found s x y q e = l_unset place x y e
