-- Each event keeps what was read.
use Rattle.std.proofs.Common.{◌≡◌, ℕ, Bool, true, false, Option, Some, None, refl, arith}
use Rattle.std.specs.Prelude.{if◌then◌else◌}
use Rattle.std.proofs.lemmas.Option.{same_Some}
use Rattle.erm_machine.specs.declared.event.Kind.{Kind}
use Rattle.erm_machine.specs.declared.event.Kind.TheVariants as kind
use Rattle.erm_machine.specs.declared.part.Part.{Part}
use Rattle.erm_machine.specs.declared.version.CellWord.{CellWord}
use Rattle.erm_machine.specs.declared.version.VersionAt.{VersionAt}
use Rattle.erm_machine.specs.Core.{Core, Shared}
use Rattle.erm_machine.specs.Life.{split, join}
use Rattle.erm_machine.specs.Reading.{load_entry, load_active_stamp}
use Rattle.erm_machine.specs.Seat.{is_active, is_sealed, end_of}
use Rattle.erm_machine.specs.Settling.{load_read_entry, load_settled_stamp, load_stamp}
use Rattle.erm_machine.specs.Sound.{Sound}
use Rattle.erm_machine.specs.Step.{after_event, with_part}
use Rattle.erm_machine.specs.Words.{put, begin_of}
use Rattle.erm_machine.proofs.Guards.{if_then, unless_some}
use Rattle.erm_machine.proofs.Objects.{extends_refl}
use Rattle.erm_machine.proofs.QuietKinds.{MeetsOne, Moves, moves}
use Rattle.erm_core_si.proofs.SnapshotSteps.{Kept, Grown, kept_from}
use Rattle.erm_core_si.proofs.SnapshotCalm.{calm_load_begin, calm_load_back, calm_store_back, calm_unset, calm_decide, calm_split, calm_join, calm_swap_link, calm_load_detached, calm_load_counter, calm_add_counter, calm_active_stamp, calm_raise_reader, calm_store_succ, calm_store_overwriter, calm_store_cell, calm_install, calm_clear_reader, calm_load_flushed, calm_load_ring, calm_clear_ring, calm_store_flushed}
use Rattle.erm_core_si.proofs.SnapshotLeft.{Left, left_calm, kept_moves}
use Rattle.erm_core_si.proofs.SnapshotLooks.{look_left}
use Rattle.erm_core_si.proofs.SnapshotMoved.{load_tail_left, add_tail_left, store_begin_left, store_state_left}
use Rattle.erm_core_si.proofs.SnapshotReads.{load_entry_left, load_cell_left, claim_left}
use Rattle.erm_core_si.proofs.SnapshotRegistered.{set_reader_left}
use Rattle.erm_core_si.proofs.SnapshotSettles.{read_entry_left, readers_left, settled_stamp_left, store_ring_left}

-- a stamp is loaded, of a read or in settle
stamp_left : (c : Core) (p found : ℕ) (v : VersionAt) (w : CellWord) (y : Part) → Sound c → load_stamp found v w (c.seats p) ≡ Some y → Left c p y
stamp_left c p found v w y sound e =
    if_then (Left c p) (is_active (c.seats p).place) (load_active_stamp found v w (c.seats p) (c.seats p).task)
    (if is_sealed (c.seats p).place then load_settled_stamp found v w (c.seats p) (c.seats p).task else None) y e
    (λ _ h. left_calm c p y sound (calm_active_stamp found v w (c.seats p) (c.seats p).task y h))
    (λ _ rest. if_then (Left c p) (is_sealed (c.seats p).place) (load_settled_stamp found v w (c.seats p) (c.seats p).task) None y rest
    (λ _ h. settled_stamp_left c p sound found v w (c.seats p).task y refl h) (λ _ h. absurd (cc)))

-- what each step that meets one word leaves
left_of : (c : Core) (p : ℕ) (k : Kind) (d : Core) → Sound c → (m : Moves c p k d) → Left c p m.part
left_of c p (kind.LoadTail reason) d sound m = load_tail_left c p sound reason m.part m.after
left_of c p (kind.AddTail size) d sound m = add_tail_left c p sound size (c.seats p).place m.part refl m.after
left_of c p (kind.StoreBegin value) d sound m = store_begin_left c p sound value (c.seats p).place m.part refl m.after
left_of c p (kind.StoreState value) d sound m = store_state_left c p sound value (c.seats p).place m.part refl m.after
left_of c p (kind.LoadBegin other) d sound m = left_calm c p m.part sound (calm_load_begin p other (begin_of (c.seats other).place) (c.seats p) (c.seats p).task m.part m.after)
left_of c p (kind.LoadState other bound) d sound m = look_left c p other bound sound m.part m.after
left_of c p (kind.Split other) d sound m = absurd (let e = m.after in cc)
left_of c p (kind.Join other) d sound m = absurd (let e = m.after in cc)
left_of c p (kind.LoadEntry oid) d sound m =
    if_then (Left c p) (is_sealed (c.seats p).place) (load_read_entry p oid (c.shared.objects oid).entry (c.seats p) (c.seats p).task)
    (load_entry p oid (c.shared.objects oid).entry (c.shared.objects oid) (c.seats p) (c.seats p).task) m.part m.after
    (λ _ h. read_entry_left c p sound oid (c.seats p).task m.part refl h) (λ _ h. load_entry_left c p sound oid (c.seats p).task m.part refl h)
left_of c p (kind.Claim oid seen number) d sound m = claim_left c p sound oid seen number (c.seats p).task m.part refl m.after
left_of c p (kind.Install oid head) d sound m = left_calm c p m.part sound (calm_install oid head (c.seats p) (c.seats p).task m.part (sound.own p).ranges.current m.after)
left_of c p (kind.LoadCell v w) d sound m = load_cell_left c p sound v w m.part (unless_some _ _ m.part m.after)
left_of c p (kind.StoreCell place cell w value) d sound m = left_calm c p m.part sound (calm_store_cell place cell w value (c.seats p) m.part m.after)
left_of c p (kind.LoadCounter counter) d sound m = left_calm c p m.part sound (calm_load_counter _ counter _ (c.seats p) (c.seats p).task m.part m.after)
left_of c p (kind.AddCounter counter) d sound m = left_calm c p m.part sound (calm_add_counter _ p counter _ (c.seats p) (c.seats p).task m.part (sound.own p).ranges.current m.after)
left_of c p (kind.SetReader v) d sound m = set_reader_left c p v (c.seats p).task m.part sound refl m.after
left_of c p (kind.ClearReader v) d sound m = left_calm c p m.part sound (calm_clear_reader v (c.seats p) (c.seats p).task (end_of (c.seats p).task) m.part m.after)
left_of c p (kind.LoadReaders v) d sound m = readers_left c p sound v _ (c.seats p).task m.part refl m.after
left_of c p (kind.LoadStamp v w) d sound m = stamp_left c p _ v w m.part sound m.after
left_of c p (kind.RaiseReader v value) d sound m = left_calm c p m.part sound (calm_raise_reader v value (c.seats p) (c.seats p).task m.part m.after)
left_of c p (kind.StoreSucc v value) d sound m = left_calm c p m.part sound (calm_store_succ v value (c.seats p) m.part m.after)
left_of c p (kind.StoreOverwriter v value) d sound m = left_calm c p m.part sound (calm_store_overwriter v value (c.seats p) m.part m.after)
left_of c p (kind.StoreRing at value) d sound m = store_ring_left c p sound at value (c.seats p).task m.part refl m.after
left_of c p (kind.Decide at header) d sound m = left_calm c p m.part sound (calm_decide at header (c.seats p) (c.seats p).place (c.seats p).task m.part m.after)
left_of c p (kind.LoadRing at) d sound m = left_calm c p m.part sound (calm_load_ring at _ (c.seats p) (c.seats p).flushing m.part m.after)
left_of c p (kind.ClearRing at) d sound m = left_calm c p m.part sound (calm_clear_ring at (c.seats p) (c.seats p).flushing m.part m.after)
left_of c p (kind.StoreFlushed value) d sound m = left_calm c p m.part sound (calm_store_flushed value (c.seats p) (c.seats p).flushing m.part m.after)
left_of c p kind.LoadFlushed d sound m = left_calm c p m.part sound (calm_load_flushed c.shared.flushed (c.seats p) (c.seats p).flushing m.part m.after)
left_of c p (kind.SwapLink v) d sound m = left_calm c p m.part sound (calm_swap_link _ v (c.shared.objects v.oid) (c.seats p) (c.seats p).task m.part m.after)
left_of c p (kind.LoadDetached v) d sound m = left_calm c p m.part sound (calm_load_detached _ v (c.seats p) (c.seats p).task m.part m.after)
left_of c p (kind.StoreBack value) d sound m = left_calm c p m.part sound (calm_store_back value (c.seats p) (c.seats p).place m.part m.after)
left_of c p (kind.LoadBack other) d sound m = left_calm c p m.part sound (calm_load_back other (c.seats other).back (c.seats p) (c.seats p).task m.part m.after)
left_of c p (kind.Unset place) d sound m = left_calm c p m.part sound (calm_unset place (c.seats p) m.part m.after)

-- a split, a join: nothing that is shared changes
same_grown : (s : Shared) (x : Part) → Grown s s x
same_grown s x = record { tail = omega arith; extends = λ oid. extends_refl (s.objects oid); new = λ oid k late within. absurd (omega (arith, late, within)) }

part_kept : (c : Core) (p : ℕ) (y : Part) (d : Core) → Sound c → Left c p y → record c { seats = put c.seats p y } ≡ d → Kept d
part_kept c p y d sound left is = kept_from c p y c.shared d sound (same_grown c.shared (c.seats p)) left.covers left.recalls left.claims left.hand left.settle is

split_kept : (c : Core) (p other : ℕ) (d : Core) → Sound c → after_event c p (kind.Split other) ≡ Some d → Kept d
split_kept c p other d sound e = by_test _ e
  where
    from : (o : Option Part) → split (c.seats p) (c.seats other) ≡ o → with_part c other o ≡ Some d → Kept d
    from None at e = absurd (cc)
    from (Some y) at e = part_kept c other y d sound (left_calm c other y sound (calm_split (c.seats p) (c.seats other) y at)) (same_Some _ _ e)

    by_test : (b : Bool) → (if b then with_part c other (split (c.seats p) (c.seats other)) else None) ≡ Some d → Kept d
    by_test true e = from _ refl e
    by_test false e = absurd (cc)

join_kept : (c : Core) (p other : ℕ) (d : Core) → Sound c → after_event c p (kind.Join other) ≡ Some d → Kept d
join_kept c p other d sound e = by_test _ e
  where
    from : (o : Option Part) → join (c.seats p) (c.seats other) ≡ o → with_part c p o ≡ Some d → Kept d
    from None at e = absurd (cc)
    from (Some y) at e = part_kept c p y d sound (left_calm c p y sound (calm_join (c.seats p) (c.seats other) y at)) (same_Some _ _ e)

    by_test : (b : Bool) → (if b then None else with_part c p (join (c.seats p) (c.seats other))) ≡ Some d → Kept d
    by_test true e = absurd (cc)
    by_test false e = from _ refl e

plain_kept : (c : Core) (p : ℕ) (k : Kind) (d : Core) → MeetsOne k → Sound c → after_event c p k ≡ Some d → Kept d
plain_kept c p k d one sound e = let m = moves c p k d one e in kept_moves c p k d sound m (left_of c p k d sound m)

-- Each event keeps what was read.
pub kept : (c : Core) (p : ℕ) (k : Kind) (d : Core) → Sound c → after_event c p k ≡ Some d → Kept d
kept c p (kind.Split other) d sound e = split_kept c p other d sound e
kept c p (kind.Join other) d sound e = join_kept c p other d sound e
kept c p k d sound e = plain_kept c p k d tt sound e
