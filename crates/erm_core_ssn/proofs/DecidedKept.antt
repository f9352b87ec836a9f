-- Each event keeps what is decided and what runs.
use Rattle.std.proofs.Common.{◌≡◌, ℕ, Bool, true, false, Option, Some, None, refl, sym, arith}
use Rattle.std.specs.Prelude.{if◌then◌else◌}
use Rattle.std.proofs.lemmas.Option.{same_Some}
use Rattle.erm_machine.specs.declared.event.Kind.{Kind}
use Rattle.erm_machine.specs.declared.event.Kind.TheVariants as kind
use Rattle.erm_machine.specs.declared.part.Part.{Part}
use Rattle.erm_machine.specs.declared.place.Place.{Place}
use Rattle.erm_machine.specs.declared.place.Place.TheVariants.{Sealed}
use Rattle.erm_machine.specs.declared.task.Task.{Task}
use Rattle.erm_machine.specs.declared.task.Task.TheVariants as task
use Rattle.erm_machine.specs.declared.version.CellWord.{CellWord}
use Rattle.erm_machine.specs.declared.version.VersionAt.{VersionAt}
use Rattle.erm_machine.specs.Core.{Core, spot_of, word_at}
use Rattle.erm_machine.specs.Life.{split, join, decide}
use Rattle.erm_machine.specs.Reading.{load_entry, load_active_stamp}
use Rattle.erm_machine.specs.Seat.{is_active, is_sealed, end_of}
use Rattle.erm_machine.specs.Settling.{load_read_entry, load_settled_stamp, load_stamp}
use Rattle.erm_machine.specs.Sound.{Sound}
use Rattle.erm_machine.specs.Step.{after_event, with_part, with_ring, shared_after}
use Rattle.erm_machine.specs.Words.{put, begin_of}
use Rattle.erm_machine.proofs.Versions.{tail_later}
use Rattle.erm_machine.proofs.Guards.{when_then, if_then, unless_some}
use Rattle.erm_machine.proofs.QuietKinds.{MeetsOne, Moves, moves}
use Rattle.erm_core_ssn.proofs.DecidedCalm.{begin_word_leaves, back_word_leaves, store_back_leaves, load_entry_leaves, load_cell_leaves, swap_link_leaves, detached_leaves, load_counter_leaves, raise_leaves, store_succ_leaves, store_overwriter_leaves, clear_ring_leaves, store_flushed_leaves, load_ring_leaves}
use Rattle.erm_core_ssn.proofs.DecidedCommits.{decide_kept}
use Rattle.erm_core_ssn.proofs.DecidedDrawn.{add_tail_left}
use Rattle.erm_core_ssn.proofs.DecidedEnds.{clear_leaves, install_leaves, store_cell_leaves, unset_leaves, claim_leaves}
use Rattle.erm_core_ssn.proofs.DecidedFrames.{Kept}
use Rattle.erm_core_ssn.proofs.DecidedLeft.{kept_from}
use Rattle.erm_core_ssn.proofs.DecidedLooks.{readers_leaves, look_leaves}
use Rattle.erm_core_ssn.proofs.DecidedMarks.{keeps_marks}
use Rattle.erm_core_ssn.proofs.DecidedMoved.{load_tail_leaves, store_begin_leaves, store_state_leaves, split_leaves, join_leaves}
use Rattle.erm_core_ssn.proofs.DecidedReads.{active_stamp_leaves, add_counter_leaves, set_reader_leaves}
use Rattle.erm_core_ssn.proofs.DecidedSettles.{read_entry_leaves, load_flushed_leaves, store_ring_leaves}
use Rattle.erm_core_ssn.proofs.DecidedStamps.{settled_stamp_leaves}
use Rattle.erm_core_ssn.proofs.DecidedSteady.{Leaves, left_from}

-- a stamp is loaded, of a read or in settle
stamp_leaves : (c : Core) (p : ℕ) (v : VersionAt) (w : CellWord) (y : Part) → Sound c → load_stamp (word_at c (spot_of p (kind.LoadStamp v w))) v w (c.seats p) ≡ Some y → Leaves c p y
stamp_leaves c p v w y sound e =
    let found = word_at c (spot_of p (kind.LoadStamp v w)) in
    if_then (Leaves c p) (is_active (c.seats p).place) (load_active_stamp found v w (c.seats p) (c.seats p).task)
    (if is_sealed (c.seats p).place then load_settled_stamp found v w (c.seats p) (c.seats p).task else None) y e
    (λ active h. active_stamp_leaves c p sound found v w (c.seats p).task y active refl refl h)
    (λ _ more. if_then (Leaves c p) (is_sealed (c.seats p).place) (load_settled_stamp found v w (c.seats p) (c.seats p).task) None y more
    (λ sealed h. settled_stamp_leaves c p sound found v w (c.seats p).task y sealed refl refl h) (λ _ h. absurd (cc)))

-- kinds that draw no range and decide nothing
abbrev pub Plainly : Kind → Type 0
Plainly (kind.AddTail size) = ⊥
Plainly (kind.Decide at header) = ⊥
Plainly (kind.Split other) = ⊥
Plainly (kind.Join other) = ⊥
Plainly _ = Unit {0}

leaves_of : (c : Core) (p : ℕ) (k : Kind) (d : Core) → Plainly k → Sound c → (m : Moves c p k d) → Leaves c p m.part
leaves_of c p (kind.AddTail size) d plain sound m = absurd plain
leaves_of c p (kind.Decide at header) d plain sound m = absurd plain
leaves_of c p (kind.Split other) d plain sound m = absurd plain
leaves_of c p (kind.Join other) d plain sound m = absurd plain
leaves_of c p (kind.LoadTail reason) d plain sound m = load_tail_leaves c p sound reason c.shared.tail m.part m.after
leaves_of c p (kind.StoreBegin value) d plain sound m = store_begin_leaves c p sound value (c.seats p).place m.part refl m.after
leaves_of c p (kind.StoreState value) d plain sound m = store_state_leaves c p sound value (c.seats p).place m.part refl m.after
leaves_of c p (kind.LoadBegin other) d plain sound m = begin_word_leaves c p sound other (begin_of (c.seats other).place) (c.seats p).task m.part refl m.after
leaves_of c p (kind.LoadState other bound) d plain sound m = look_leaves c p sound other bound m.part m.after
leaves_of c p (kind.LoadEntry oid) d plain sound m =
    if_then (Leaves c p) (is_sealed (c.seats p).place) (load_read_entry p oid (c.shared.objects oid).entry (c.seats p) (c.seats p).task)
    (load_entry p oid (c.shared.objects oid).entry (c.shared.objects oid) (c.seats p) (c.seats p).task) m.part m.after
    (λ _ h. read_entry_leaves c p sound oid (c.shared.objects oid).entry (c.seats p).task m.part refl h)
    (λ _ h. load_entry_leaves c p sound oid (c.shared.objects oid).entry (c.shared.objects oid) (c.seats p).task m.part refl h)
leaves_of c p (kind.Claim oid seen number) d plain sound m = claim_leaves c p sound oid seen number (c.shared.objects oid).entry (c.shared.objects oid) (c.seats p).task m.part refl m.after
leaves_of c p (kind.Install oid head) d plain sound m = install_leaves c p sound oid head (c.seats p).task m.part refl m.after
leaves_of c p (kind.LoadCell v w) d plain sound m = load_cell_leaves c p sound _ v w m.part (unless_some _ _ m.part m.after)
leaves_of c p (kind.StoreCell place cell w value) d plain sound m = store_cell_leaves c p sound place cell w value m.part m.after
leaves_of c p (kind.LoadCounter counter) d plain sound m = load_counter_leaves c p sound c.shared.cell_limit counter _ (c.seats p).task m.part refl m.after
leaves_of c p (kind.AddCounter counter) d plain sound m = add_counter_leaves c p sound c.shared.cell_limit counter _ (c.seats p).task m.part refl m.after
leaves_of c p (kind.SetReader v) d plain sound m = set_reader_leaves c p sound v (c.seats p).task m.part refl m.after
leaves_of c p (kind.ClearReader v) d plain sound m = clear_leaves c p sound v (end_of (c.seats p).task) m.part refl m.after
leaves_of c p (kind.LoadReaders v) d plain sound m = readers_leaves c p sound (word_at c (spot_of p (kind.LoadReaders v))) v (c.seats p).task m.part refl refl m.after
leaves_of c p (kind.LoadStamp v w) d plain sound m = stamp_leaves c p v w m.part sound m.after
leaves_of c p (kind.RaiseReader v value) d plain sound m = raise_leaves c p sound v value (c.seats p).task m.part refl m.after
leaves_of c p (kind.StoreSucc v value) d plain sound m = store_succ_leaves c p sound v value m.part m.after
leaves_of c p (kind.StoreOverwriter v value) d plain sound m = store_overwriter_leaves c p sound v value m.part m.after
leaves_of c p (kind.StoreRing at value) d plain sound m = store_ring_leaves c p sound at value (c.seats p).task m.part refl m.after
leaves_of c p (kind.LoadRing at) d plain sound m = load_ring_leaves c p sound at _ (c.seats p).flushing m.part m.after
leaves_of c p (kind.ClearRing at) d plain sound m = clear_ring_leaves c p sound at (c.seats p).flushing m.part m.after
leaves_of c p (kind.StoreFlushed value) d plain sound m = store_flushed_leaves c p sound value (c.seats p).flushing m.part m.after
leaves_of c p kind.LoadFlushed d plain sound m = load_flushed_leaves c p sound c.shared.flushed (c.seats p).flushing m.part m.after
leaves_of c p (kind.SwapLink v) d plain sound m = swap_link_leaves c p sound _ v (c.shared.objects v.oid) (c.seats p).task m.part refl m.after
leaves_of c p (kind.LoadDetached v) d plain sound m = detached_leaves c p sound _ v (c.seats p).task m.part refl m.after
leaves_of c p (kind.StoreBack value) d plain sound m = store_back_leaves c p sound value (c.seats p).place m.part m.after
leaves_of c p (kind.LoadBack other) d plain sound m = back_word_leaves c p sound other _ (c.seats p).task m.part refl m.after
leaves_of c p (kind.Unset place) d plain sound m = unset_leaves c p sound place m.part m.after

plain_kept : (c : Core) (p : ℕ) (k : Kind) (d : Core) → Plainly k → Sound c → Moves c p k d → Kept d
plain_kept c p k d plain sound m =
    let t = shared_after p k (word_at c (spot_of p k)) (c.seats p) c.shared in
    kept_from c t p m.part sound (left_from c t p m.part (tail_later c p k) (keeps_marks c p k d sound m) (leaves_of c p k d plain sound m)) d (sym m.is)

drawn_kept : (c : Core) (p size : ℕ) (d : Core) → Sound c → Moves c p (kind.AddTail size) d → Kept d
drawn_kept c p size d sound m =
    let t = shared_after p (kind.AddTail size) c.shared.tail (c.seats p) c.shared in
    kept_from c t p m.part sound (add_tail_left c t p size sound refl (keeps_marks c p (kind.AddTail size) d sound m) (c.seats p).place m.part refl m.after) d (sym m.is)

decided_kept : (c : Core) (p at header : ℕ) (d : Core) → Sound c → Moves c p (kind.Decide at header) d → Kept d
decided_kept c p at header d sound m = by_place (c.seats p).place (c.seats p).task refl refl m.after
  where
    by_place : (pl : Place) (t : Task) → (c.seats p).place ≡ pl → (c.seats p).task ≡ t → decide at header (c.seats p) pl t ≡ Some m.part → Kept d
    by_place (Sealed tail stamp) (task.Fills words) place now e =
        when_then (λ y. record { shared = with_ring at header c.shared; seats = put c.seats p y } ≡ d → Kept d) _ _ m.part e
        (λ _ is. decide_kept c p tail stamp words header at sound (record { place = place; task = now }) d is) (sym m.is)
    by_place _ _ place now e = absurd (cc)

-- a split, a join: nothing that is shared changes
part_kept : (c : Core) (p : ℕ) (y : Part) (d : Core) → Sound c → Leaves c p y → record c { seats = put c.seats p y } ≡ d → Kept d
part_kept c p y d sound leaves is =
    kept_from c c.shared p y sound (left_from c c.shared p y (omega arith) (record { kept = λ oid place mark e _. e }) leaves) d is

split_kept : (c : Core) (p other : ℕ) (d : Core) → Sound c → after_event c p (kind.Split other) ≡ Some d → Kept d
split_kept c p other d sound e = by_test _ e
  where
    from : (o : Option Part) → split (c.seats p) (c.seats other) ≡ o → with_part c other o ≡ Some d → Kept d
    from None at e = absurd (cc)
    from (Some y) at e = part_kept c other y d sound (split_leaves c other sound (c.seats p) y at) (same_Some _ _ e)

    by_test : (b : Bool) → (if b then with_part c other (split (c.seats p) (c.seats other)) else None) ≡ Some d → Kept d
    by_test true e = from _ refl e
    by_test false e = absurd (cc)

join_kept : (c : Core) (p other : ℕ) (d : Core) → Sound c → after_event c p (kind.Join other) ≡ Some d → Kept d
join_kept c p other d sound e = by_test _ e
  where
    from : (o : Option Part) → join (c.seats p) (c.seats other) ≡ o → with_part c p o ≡ Some d → Kept d
    from None at e = absurd (cc)
    from (Some y) at e = part_kept c p y d sound (join_leaves c p sound (c.seats other) y at) (same_Some _ _ e)

    by_test : (b : Bool) → (if b then None else with_part c p (join (c.seats p) (c.seats other))) ≡ Some d → Kept d
    by_test true e = absurd (cc)
    by_test false e = from _ refl e

moved_kept : (c : Core) (p : ℕ) (k : Kind) (d : Core) → MeetsOne k → Plainly k → Sound c → after_event c p k ≡ Some d → Kept d
moved_kept c p k d one plain sound e = plain_kept c p k d plain sound (moves c p k d one e)

-- Each event keeps what is decided and what runs.
pub kept : (c : Core) (p : ℕ) (k : Kind) (d : Core) → Sound c → after_event c p k ≡ Some d → Kept d
kept c p (kind.Split other) d sound e = split_kept c p other d sound e
kept c p (kind.Join other) d sound e = join_kept c p other d sound e
kept c p (kind.AddTail size) d sound e = drawn_kept c p size d sound (moves c p (kind.AddTail size) d tt e)
kept c p (kind.Decide at header) d sound e = decided_kept c p at header d sound (moves c p (kind.Decide at header) d tt e)
kept c p k d sound e = moved_kept c p k d tt tt sound e
