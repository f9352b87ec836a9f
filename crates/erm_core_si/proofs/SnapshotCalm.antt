-- Calm steps: those after which what was read is as before, and the task has no version in hand or is as before.
use Rattle.std.proofs.Common.{◌≡◌, ℕ, ◌⊎◌, Bool, true, false, ◌&&◌, ltb, Option, Some, None, refl, ap, inl, inr}
use Rattle.std.specs.Prelude.{if◌then◌else◌}
use Rattle.std.proofs.lemmas.Bool.{and_parts}
use Rattle.erm_model.specs.Member.{◌∈◌}
use Rattle.erm_machine.specs.declared.attempt.Attempt.{Attempt}
use Rattle.erm_machine.specs.declared.attempt.Claim.{Claim}
use Rattle.erm_machine.specs.declared.attempt.OwnCell.{OwnCell}
use Rattle.erm_machine.specs.declared.event.Counter.{Counter}
use Rattle.erm_machine.specs.declared.event.Counter.TheVariants.{Objects, Cells}
use Rattle.erm_machine.specs.declared.part.Flushing.{Flushing}
use Rattle.erm_machine.specs.declared.part.Flushing.TheVariants as flushing
use Rattle.erm_machine.specs.declared.part.Part.{Part}
use Rattle.erm_machine.specs.declared.place.Place.{Place}
use Rattle.erm_machine.specs.declared.place.Place.TheVariants.{Sealed, Decided}
use Rattle.erm_machine.specs.declared.task.Task.{Task}
use Rattle.erm_machine.specs.declared.task.Task.TheVariants as task
use Rattle.erm_machine.specs.declared.version.CellWord.{CellWord}
use Rattle.erm_machine.specs.declared.version.CellWord.TheVariants as word
use Rattle.erm_machine.specs.declared.version.VersionAt.{VersionAt}
use Rattle.erm_machine.specs.Core.{Object}
use Rattle.erm_machine.specs.Facts.{IsCurrent}
use Rattle.erm_machine.specs.Seat.{end_of, last_claim}
use Rattle.erm_machine.specs.Life.{load_tail_to_gather, load_tail_for_horizon, after_passed, load_begin, load_back, store_back, decide, split, join}
use Rattle.erm_machine.specs.Reading.{with_cell, after_cut, detached, swap_link, load_detached, load_counter, add_counter, load_active_stamp, start_row, store_row_word, unset}
use Rattle.erm_machine.specs.Settling.{load_flushed_to_settle, raise_reader, store_head_word, store_active_word, store_cell, mark_overwritten, store_succ, store_overwriter, install_claim, adds_version, install_new, release_old, unclaim, install, clear_reader}
use Rattle.erm_machine.specs.Flushing.{load_flushed, gathered_word, load_ring, clear_ring, store_flushed}
use Rattle.erm_machine.proofs.Guards.{when_then, some_then, if_then, either_way}
use Rattle.erm_core_si.proofs.SnapshotClaims.{ClaimedIn, claimed_in, claimed_set}
use Rattle.erm_core_si.proofs.SnapshotLists.{∈-take}
use Rattle.erm_core_si.proofs.SnapshotSame.{Free, free_if, free_from, KeepsClaims, Same, keeps_same, keeps_unsealed, keeps_set, active_unsealed}

-- a calm step of a seat whose task was t
pub record Calm (x : Part) (t : Task) (y : Part) : Type 0 where
  pub same : Same x y
  pub task : Free y.task ⊎ (y.task ≡ t)

-- the transactions stay
pub same_current : (x y : Part) → y.over ≡ x.over → y.current ≡ x.current → Same x y
same_current x y over current = record {
  over = over;
  begin = ap (λ (t : Attempt). t.begin) current;
  stamp = ap (λ (t : Attempt). t.stamp) current;
  reads = ap (λ (t : Attempt). t.reads) current;
  claims = keeps_same x y (ap (λ (t : Attempt). t.writes) current);
}

pub calm_to : (x : Part) (t : Task) (y : Part) → y.over ≡ x.over → y.current ≡ x.current → Free y.task → Calm x t y
calm_to x t y over current free = record { same = same_current x y over current; task = inl free }

pub calm_stay : (x : Part) (t : Task) (y : Part) → y.over ≡ x.over → y.current ≡ x.current → y.task ≡ t → Calm x t y
calm_stay x t y over current task = record { same = same_current x y over current; task = inr task }

pub calm_task : (x : Part) (t u : Task) → Free u → Calm x t (record x { task = u })
calm_task x t u f = calm_to x t _ refl refl f

-- the current transaction changes in what it writes
pub calm_current : (x : Part) (t : Task) (y : Part) → y.over ≡ x.over → y.current.begin ≡ x.current.begin → y.current.stamp ≡ x.current.stamp → y.current.reads ≡ x.current.reads →
    KeepsClaims x y → Free y.task → Calm x t y
calm_current x t y over begin stamp reads claims free = record { same = record { over = over; begin = begin; stamp = stamp; reads = reads; claims = claims }; task = inl free }

pub calm_horizon : (found : ℕ) (x : Part) (t : Task) (y : Part) → load_tail_for_horizon found x t ≡ Some y → Calm x t y
calm_horizon found x (task.Claimed version) y e = when_then (Calm x _) _ _ y e (λ _. calm_to x _ _ refl refl (free_from _ tt tt))
calm_horizon found x _ y e = absurd (cc)

pub calm_gather : (p found : ℕ) (x : Part) (y : Part) → load_tail_to_gather p found x ≡ Some y → Calm x x.task y
calm_gather p found x y e = when_then (Calm x x.task) _ _ y e (λ _. calm_stay x x.task _ refl refl refl)

after_passed_free : (next : ℕ) → Free (after_passed next)
after_passed_free next = search (free_if, free_from)

pub calm_load_begin : (p other found : ℕ) (x : Part) (t : Task) (y : Part) → load_begin p other found x t ≡ Some y → Calm x t y
calm_load_begin p other found x (task.Horizon version least next) y e =
    when_then (Calm x _) _ _ y e (λ _. calm_task x _ _ (search (free_if, free_from)))
calm_load_begin p other found x (task.Surveys next) y e =
    when_then (Calm x _) _ _ y e (λ _. calm_task x _ _ (search (free_if, free_from, after_passed_free)))
calm_load_begin p other found x _ y e = absurd (cc)

pub calm_load_back : (other found : ℕ) (x : Part) (t : Task) (y : Part) → load_back other found x t ≡ Some y → Calm x t y
calm_load_back other found x (task.Behind next) y e =
    when_then (Calm x _) _ _ y e (λ _. calm_task x _ _ (search (free_if, free_from, after_passed_free)))
calm_load_back other found x _ y e = absurd (cc)

pub calm_store_back : (value : ℕ) (x : Part) (pl : Place) (y : Part) → store_back value x pl ≡ Some y → Calm x x.task y
calm_store_back value x (Decided tail stamp) y e = when_then (Calm x x.task) _ _ y e (λ _. calm_stay x x.task _ refl refl refl)
calm_store_back value x _ y e = absurd (cc)

pub calm_decide : (at header : ℕ) (x : Part) (pl : Place) (t : Task) (y : Part) → decide at header x pl t ≡ Some y → Calm x t y
calm_decide at header x (Sealed tail stamp) (task.Fills words) y e =
    when_then (Calm x _) _ _ y e (λ _. calm_current x _ _ refl refl refl refl (keeps_same x _ refl) (free_from _ tt tt))
calm_decide at header x _ _ y e = absurd (cc)

pub calm_split : (x other y : Part) → split x other ≡ Some y → Calm other other.task y
calm_split x other y e = when_then (Calm other other.task) _ _ y e (λ _. calm_stay other other.task _ refl refl refl)

pub calm_join : (x other y : Part) → join x other ≡ Some y → Calm x x.task y
calm_join x other y e = when_then (Calm x x.task) _ _ y e (λ _. calm_stay x x.task _ refl refl refl)

pub after_cut_free : (x : Part) → Free (after_cut x)
after_cut_free x = search (free_if, free_from)

detached_free : (found : ℕ) (v : VersionAt) (x : Part) → Free (detached found v x)
detached_free found v x = search (free_if, free_from, after_cut_free)

pub calm_swap_link : (found : ℕ) (v : VersionAt) (o : Object) (x : Part) (t : Task) (y : Part) → swap_link found v o x t ≡ Some y → Calm x t y
calm_swap_link found v o x (task.CutFound version horizon) y e =
    when_then (Calm x _) _ _ y e (λ _. calm_to x _ _ refl refl (detached_free found version x))
calm_swap_link found v o x _ y e = absurd (cc)

pub calm_load_detached : (found : ℕ) (v : VersionAt) (x : Part) (t : Task) (y : Part) → load_detached found v x t ≡ Some y → Calm x t y
calm_load_detached found v x (task.Detaches version) y e = when_then (Calm x _) _ _ y e (λ _. calm_task x _ _ (detached_free found version x))
calm_load_detached found v x _ y e = absurd (cc)

pub calm_load_counter : (cells : ℕ) (n : Counter) (found : ℕ) (x : Part) (t : Task) (y : Part) → load_counter cells n found x t ≡ Some y → Calm x t y
calm_load_counter cells Objects found x t y e = when_then (Calm x _) _ _ y e (λ _. calm_task x _ _ (search (free_if, free_from)))
calm_load_counter cells Cells found x task.Draws y e = when_then (Calm x _) _ _ y e (λ _. calm_task x _ _ (search (free_if, free_from)))
calm_load_counter cells Cells found x _ y e = absurd (cc)

-- a cell drawn goes to the newest claim
pool_known : (b : Bool) (t : Attempt) (own : OwnCell) (w : Claim) → w ∈ (if b then (with_cell own t).writes else t.writes) → ClaimedIn t w
pool_known true t own w m = claimed_set t (last_claim t) _ refl w m
pool_known false t own w m = claimed_in t w m

pub calm_add_counter : (cells : ℕ) (p : ℕ) (n : Counter) (found : ℕ) (x : Part) (t : Task) (y : Part) → IsCurrent x.place x.current → add_counter cells p n found x t ≡ Some y → Calm x t y
calm_add_counter cells p Objects found x task.Numbers y cur e =
    when_then (Calm x _) _ _ y e (λ _. calm_current x _ _ refl refl refl refl (keeps_same x _ refl) (free_from _ tt tt))
calm_add_counter cells p Cells found x task.Pool y cur e =
    when_then (Calm x _) _ _ y e (λ g. calm_current x _ _ refl refl refl refl (keeps_unsealed x _ (active_unsealed x.place x.current cur g) (pool_known (ltb found cells) x.current _)) (search (free_if, free_from)))
calm_add_counter cells p Objects found x _ y cur e = absurd (cc)
calm_add_counter cells p Cells found x _ y cur e = absurd (cc)

pub calm_raise_reader : (v : VersionAt) (value : ℕ) (x : Part) (t : Task) (y : Part) → raise_reader v value x t ≡ Some y → Calm x t y
calm_raise_reader v value x (task.Ends raised ended step cleared) y e = when_then (Calm x _) _ _ y e (λ _. calm_task x _ _ (free_from _ tt tt))
calm_raise_reader v value x _ y e = absurd (cc)

calm_mark : (nth : ℕ) (v : VersionAt) (value wanted : ℕ) (x : Part) (t : Task) (y : Part) → mark_overwritten nth v value wanted x t ≡ Some y → Calm x t y
calm_mark nth v value wanted x (task.Ends raised ended step cleared) y e = when_then (Calm x _) _ _ y e (λ _. calm_task x _ _ (free_from _ tt tt))
calm_mark nth v value wanted x _ y e = absurd (cc)

pub calm_store_succ : (v : VersionAt) (value : ℕ) (x : Part) (y : Part) → store_succ v value x ≡ Some y → Calm x x.task y
calm_store_succ v value x y e = calm_mark 6 v value x.current.succ x x.task y e

pub calm_store_overwriter : (v : VersionAt) (value : ℕ) (x : Part) (y : Part) → store_overwriter v value x ≡ Some y → Calm x x.task y
calm_store_overwriter v value x y e = calm_mark 7 v value x.current.stamp x x.task y e

-- a word is stored into the own cell of a claim
calm_head_word : (place cell : ℕ) (w : CellWord) (value : ℕ) (x : Part) (t : Task) (y : Part) → store_head_word place cell w value x t ≡ Some y → Calm x t y
calm_head_word place cell w value x (task.Ends raised ended step cleared) y e =
    when_then (Calm x _) _ _ y e (λ _. calm_current x _ _ refl refl refl refl (keeps_set x _ place _ refl refl (λ h. h)) (free_from _ tt tt))
calm_head_word place cell w value x _ y e = absurd (cc)

calm_start_row : (place cell k value : ℕ) (x : Part) (t : Task) (y : Part) → start_row place cell k value x t ≡ Some y → Calm x t y
calm_start_row place cell k value x t y e =
    when_then (Calm x _) _ _ y e (λ _. calm_current x _ _ refl refl refl refl (keeps_set x _ place _ refl refl (λ h. h)) (free_from _ tt tt))

calm_row_word : (place cell k value : ℕ) (x : Part) (t : Task) (y : Part) → store_row_word place cell k value x t ≡ Some y → Calm x t y
calm_row_word place cell k value x (task.Copies w) y e =
    when_then (Calm x _) _ _ y e (λ _. calm_current x _ _ refl refl refl refl (keeps_set x _ place _ refl refl (λ h. h)) (search (free_if, free_from)))
calm_row_word place cell k value x (task.Writes claim w) y e =
    when_then (Calm x _) _ _ y e (λ _. calm_current x _ _ refl refl refl refl (keeps_set x _ place _ refl refl (λ h. h)) (search (free_if, free_from)))
calm_row_word place cell k value x _ y e = calm_start_row place cell k value x _ y e

calm_active_word : (place cell : ℕ) (w : CellWord) (value : ℕ) (x : Part) (y : Part) → store_active_word place cell w value x ≡ Some y → Calm x x.task y
calm_active_word place cell (word.Row k) value x y e = calm_row_word place cell k value x x.task y e
calm_active_word place cell _ value x y e = absurd (cc)

pub calm_store_cell : (place cell : ℕ) (w : CellWord) (value : ℕ) (x : Part) (y : Part) → store_cell place cell w value x ≡ Some y → Calm x x.task y
calm_store_cell place cell w value x y e =
    if_then (Calm x x.task) _ _ _ y e (λ _ h. calm_active_word place cell w value x y h) (λ _ h. calm_head_word place cell w value x x.task y h)

-- claims that are over
first : (a b : Bool) → (a && b) ≡ true → a ≡ true
first a b h = (and_parts a b h).0

calm_unclaim : (oid head : ℕ) (x : Part) (t : Task) (y : Part) → IsCurrent x.place x.current → unclaim oid head x ≡ Some y → Calm x t y
calm_unclaim oid head x t y cur e =
    when_then (Calm x _) _ _ y e (λ g. calm_current x _ _ refl refl refl refl (keeps_unsealed x _ (active_unsealed x.place x.current cur (first _ _ (first _ _ (first _ _ g))))
    (λ w m. claimed_in x.current w (∈-take (last_claim x.current) x.current.writes w m))) (free_from _ tt tt))

calm_install_claim : (oid head : ℕ) (x : Part) (t : Task) (e : Option (ℕ × ℕ × ℕ × ℕ)) (y : Part) → install_claim oid head x e ≡ Some y → Calm x t y
calm_install_claim oid head x t None y e = absurd (cc)
calm_install_claim oid head x t (Some c) y e =
    if_then (Calm x t) (adds_version x) (install_new oid head x c) (release_old oid head x c) y e
    (λ _ h. when_then (Calm x t) _ _ y h (λ _. calm_current x t _ refl refl refl refl (keeps_set x _ c.1 _ refl refl (λ (no : false ≡ true). absurd (cc))) (free_from _ tt tt)))
    (λ _ h. when_then (Calm x t) _ _ y h (λ _. calm_current x t _ refl refl refl refl (keeps_set x _ c.1 _ refl refl (λ (no : false ≡ true). absurd (cc))) (free_from _ tt tt)))

pub calm_install : (oid head : ℕ) (x : Part) (t : Task) (y : Part) → IsCurrent x.place x.current → install oid head x t ≡ Some y → Calm x t y
calm_install oid head x task.Refused y cur e = calm_unclaim oid head x _ y cur e
calm_install oid head x t y cur e = calm_install_claim oid head x t (end_of t) y e

pub calm_clear_reader : (v : VersionAt) (x : Part) (t : Task) (e : Option (ℕ × ℕ × ℕ × ℕ)) (y : Part) → clear_reader v x e ≡ Some y → Calm x t y
calm_clear_reader v x t None y e = absurd (cc)
calm_clear_reader v x t (Some c) y e = when_then (Calm x _) _ _ y e (λ _. calm_task x _ _ (free_from _ tt tt))

-- a read is rated; a claim gets its cell
pub calm_active_stamp : (found : ℕ) (v : VersionAt) (w : CellWord) (x : Part) (t : Task) (y : Part) → load_active_stamp found v w x t ≡ Some y → Calm x t y
calm_active_stamp found v word.Overwriter x (task.Registered version) y e =
    when_then (Calm x _) _ _ y e (λ _. calm_task x _ _ (search (free_if, free_from)))
calm_active_stamp found v word.OverwriterSucc x (task.Overtaken version overwriter) y e =
    when_then (Calm x _) _ _ y e (λ _. calm_current x _ _ refl refl refl refl (keeps_same x _ refl) (free_from _ tt tt))
calm_active_stamp found v word.ReaderStamp x task.Draws y e =
    when_then (Calm x _) _ _ y e (λ _. calm_current x _ _ refl refl refl refl (keeps_set x _ (last_claim x.current) _ refl refl (λ h. h)) (free_from _ tt tt))
calm_active_stamp found v word.ReaderStamp x task.Fetched y e =
    when_then (Calm x _) _ _ y e (λ _. calm_current x _ _ refl refl refl refl (keeps_same x _ refl) (free_from _ tt tt))
calm_active_stamp found v _ x _ y e = absurd (cc)

-- the flush seat's own fields change; a settle begins
calm_to_settle : (found : ℕ) (x : Part) → Calm x x.task (load_flushed_to_settle found x)
calm_to_settle found x = either_way (Calm x x.task) _ _ _ (λ _. calm_task x _ _ (free_from (task.Settles 0 0) tt refl)) (λ _. calm_stay x x.task x refl refl refl)

pub calm_load_flushed : (found : ℕ) (x : Part) (f : Flushing) (y : Part) → load_flushed found x f ≡ Some y → Calm x x.task y
calm_load_flushed found x (flushing.Tail tail) y e = some_then (Calm x x.task) _ y e (calm_stay x x.task _ refl refl refl)
calm_load_flushed found x _ y e = when_then (Calm x x.task) _ _ y e (λ _. calm_to_settle found x)

calm_flushing : (x : Part) (f : Flushing) (to : ℕ) → Calm x x.task (record x { flushing = f; gathered_to = to })
calm_flushing x f to = calm_stay x x.task _ refl refl refl

calm_if : (x : Part) (t : Task) (b : Bool) (l r : Part) → Calm x t l → Calm x t r → Calm x t (if b then l else r)
calm_if x t b l r f g = either_way (Calm x t) b l r (λ _. f) (λ _. g)

calm_gathered : (tail from block next end : ℕ) (x : Part) → Calm x x.task (gathered_word tail from block next end x)
calm_gathered tail from block next end x = either_way (Calm x x.task) _ _ _ (λ _. calm_flushing x _ _) (λ _. calm_flushing x _ _)

calm_refl : (x : Part) → Calm x x.task x
calm_refl x = calm_stay x x.task x refl refl refl

pub calm_load_ring : (at found : ℕ) (x : Part) (f : Flushing) (y : Part) → load_ring at found x f ≡ Some y → Calm x x.task y
calm_load_ring at found x (flushing.Gathers tail from block next end) y e =
    when_then (Calm x x.task) _ _ y e (λ _. search (calm_if, calm_gathered, calm_refl))
calm_load_ring at found x _ y e = absurd (cc)

pub calm_clear_ring : (at : ℕ) (x : Part) (f : Flushing) (y : Part) → clear_ring at x f ≡ Some y → Calm x x.task y
calm_clear_ring at x (flushing.Gathers tail from block next end) y e = when_then (Calm x x.task) _ _ y e (λ _. calm_stay x x.task _ refl refl refl)
calm_clear_ring at x (flushing.Clears next to) y e = when_then (Calm x x.task) _ _ y e (λ _. calm_stay x x.task _ refl refl refl)
calm_clear_ring at x _ y e = absurd (cc)

pub calm_store_flushed : (value : ℕ) (x : Part) (f : Flushing) (y : Part) → store_flushed value x f ≡ Some y → Calm x x.task y
calm_store_flushed value x (flushing.Clears next to) y e = when_then (Calm x x.task) _ _ y e (λ _. calm_stay x x.task _ refl refl refl)
calm_store_flushed value x _ y e = absurd (cc)

-- the row of a claim is that of the version overwritten again
pub calm_unset : (place : ℕ) (x y : Part) → unset place x ≡ Some y → Calm x x.task y
calm_unset place x y e =
    when_then (Calm x x.task) _ _ y e (λ _. record {
      same = record { over = refl; begin = refl; stamp = refl; reads = refl; claims = keeps_set x _ place _ refl refl (λ h. h) };
      task = inr refl;
    })
