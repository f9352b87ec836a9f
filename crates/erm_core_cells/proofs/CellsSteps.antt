-- All kinds of steps leave the objects made, and the seat's cells, but those on counters, releases of entries, and swaps of links.
use Rattle.std.proofs.Common.{◌≡◌, ℕ, ◌<◌, true, [], length, Some, None, refl}
use Rattle.erm_machine.specs.declared.event.Kind.{Kind}
use Rattle.erm_machine.specs.declared.event.Kind.TheVariants as kind
use Rattle.erm_machine.specs.declared.part.Part.{Part}
use Rattle.erm_machine.specs.Cells.{WantsCell}
use Rattle.erm_machine.specs.Core.{Shared, claim_at}
use Rattle.erm_machine.specs.Facts.{IsCurrent, over_of}
use Rattle.erm_machine.specs.Reading.{load_entry}
use Rattle.erm_machine.specs.Seat.{end_of, is_sealed}
use Rattle.erm_machine.specs.Settling.{load_read_entry, filled}
use Rattle.erm_machine.specs.Step.{part_after}
use Rattle.erm_machine.specs.Tasks.{TaskFits}
use Rattle.erm_machine.specs.Words.{is_flusher}
use Rattle.erm_machine.proofs.Guards.{if_then, unless_some}
use Rattle.erm_core_cells.proofs.CellsCalls.{Cutting, load_entry_leaves, claim_leaves, set_reader_leaves, load_cell_leaves, load_detached_leaves, load_stamp_leaves, load_read_entry_leaves, load_readers_leaves, store_ring_leaves, raise_reader_leaves, store_succ_leaves, store_overwriter_leaves, store_cell_leaves, unset_leaves, clear_reader_leaves, load_flushed_leaves}
use Rattle.erm_core_cells.proofs.CellsLeaves.{Leaves}
use Rattle.erm_core_cells.proofs.CellsLife.{load_tail_leaves, add_tail_leaves, store_begin_leaves, store_state_leaves, load_begin_leaves, load_back_leaves, store_back_leaves, load_state_leaves, decide_leaves}
use Rattle.erm_core_cells.proofs.CellsDisk.{load_ring_leaves, clear_ring_leaves, store_flushed_leaves}

-- what a seat's step is given: what the seat's place and task say
pub record Given (p : ℕ) (x : Part) : Type 0 where
  pub current : IsCurrent x.place x.current
  pub fits : TaskFits x.place x.current x.task
  pub wants : WantsCell x x.task
  pub cutting : Cutting x x.task
  pub none : (k : ℕ) → k < length x.current.writes → k < over_of x.place x.task (length x.current.writes) → (claim_at x.current k).own ≡ None
  pub unmade : is_flusher p ≡ true → x.current.made ≡ []

-- kinds that change neither a counter, nor an object's list of versions, nor a seat's cells
abbrev pub LeavesAll : Kind → Type 0
LeavesAll (kind.Split other) = ⊥
LeavesAll (kind.Join other) = ⊥
LeavesAll (kind.LoadCounter counter) = ⊥
LeavesAll (kind.AddCounter counter) = ⊥
LeavesAll (kind.Install oid head) = ⊥
LeavesAll (kind.SwapLink v) = ⊥
LeavesAll _ = Unit {0}

pub leaves : (p : ℕ) (k : Kind) (found : ℕ) (s : Shared) (x y : Part) → LeavesAll k → Given p x → part_after p k found s x ≡ Some y → Leaves x x.task y
leaves p (kind.LoadTail reason) found s x y q g e = load_tail_leaves p reason found x y g.current e
leaves p (kind.AddTail size) found s x y q g e = add_tail_leaves p size found x x.place y e
leaves p (kind.StoreBegin value) found s x y q g e = store_begin_leaves p value x x.place x.task y refl refl g.unmade g.none e
leaves p (kind.StoreState value) found s x y q g e = store_state_leaves p value x x.place y refl g.fits g.none e
leaves p (kind.LoadBegin other) found s x y q g e = load_begin_leaves p other found x x.task y e
leaves p (kind.LoadState other bound) found s x y q g e = load_state_leaves p other bound found x y e
leaves p (kind.Split other) found s x y q g e = absurd q
leaves p (kind.Join other) found s x y q g e = absurd q
leaves p (kind.LoadEntry oid) found s x y q g e =
    if_then (Leaves x x.task) (is_sealed x.place) (load_read_entry p oid found x x.task) (load_entry p oid found (s.objects oid) x x.task) y e
    (λ _ h. load_read_entry_leaves p oid found x x.task y h) (λ _ h. load_entry_leaves p oid found (s.objects oid) x x.task y h)
leaves p (kind.Claim oid seen number) found s x y q g e = claim_leaves p oid seen number found (s.objects oid) x x.task y e
leaves p (kind.Install oid head) found s x y q g e = absurd q
leaves p (kind.LoadCell v w) found s x y q g e = load_cell_leaves found v w x y g.cutting (unless_some _ _ y e)
leaves p (kind.StoreCell place cell w value) found s x y q g e = store_cell_leaves place cell w value x y e
leaves p (kind.LoadCounter counter) found s x y q g e = absurd q
leaves p (kind.AddCounter counter) found s x y q g e = absurd q
leaves p (kind.SetReader v) found s x y q g e = set_reader_leaves p v (s.objects v.oid) x x.task y e
leaves p (kind.ClearReader v) found s x y q g e = clear_reader_leaves v x x.task (end_of x.task) y refl e
leaves p (kind.LoadReaders v) found s x y q g e = load_readers_leaves p v found x x.task y e
leaves p (kind.LoadStamp v w) found s x y q g e = load_stamp_leaves found v w x y g.wants e
leaves p (kind.RaiseReader v value) found s x y q g e = raise_reader_leaves v value x x.task y e
leaves p (kind.StoreSucc v value) found s x y q g e = store_succ_leaves v value x y e
leaves p (kind.StoreOverwriter v value) found s x y q g e = store_overwriter_leaves v value x y e
leaves p (kind.StoreRing at value) found s x y q g e = store_ring_leaves at value x x.task (filled x.current x.task) y refl e
leaves p (kind.Decide at header) found s x y q g e = decide_leaves at header x x.place x.task y e
leaves p (kind.LoadRing at) found s x y q g e = load_ring_leaves at found x x.flushing y e
leaves p (kind.ClearRing at) found s x y q g e = clear_ring_leaves at x x.flushing y e
leaves p (kind.StoreFlushed value) found s x y q g e = store_flushed_leaves value x x.flushing y e
leaves p kind.LoadFlushed found s x y q g e = load_flushed_leaves found x x.flushing y e
leaves p (kind.SwapLink v) found s x y q g e = absurd q
leaves p (kind.LoadDetached v) found s x y q g e = load_detached_leaves found v x x.task y g.cutting e
leaves p (kind.StoreBack value) found s x y q g e = store_back_leaves value x x.place y e
leaves p (kind.LoadBack other) found s x y q g e = load_back_leaves other found x x.task y e
leaves p (kind.Unset place) found s x y q g e = unset_leaves place x y e
