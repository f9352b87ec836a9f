-- Each event keeps the rows of claims, of cells and of versions.
use Rattle.std.proofs.Common.{◌≡◌, ℕ, ◌<◌, ◌≤◌, Bool, true, false, ltb, length, Option, Some, None, refl, sym, ap, ◌∙◌, subst, arith}
use Rattle.std.specs.Prelude.{if◌then◌else◌}
use Rattle.std.proofs.lemmas.Bool.{ltb-true}
use Rattle.std.proofs.lemmas.Option.{same_Some}
use Rattle.erm_machine.specs.declared.limits.TheConstants.{OBJECT_LIMIT}
use Rattle.erm_machine.specs.declared.event.Kind.{Kind}
use Rattle.erm_machine.specs.declared.event.Kind.TheVariants as kind
use Rattle.erm_machine.specs.declared.part.Part.{Part}
use Rattle.erm_machine.specs.declared.version.Version.{Version}
use Rattle.erm_machine.specs.declared.version.VersionAt.{VersionAt}
use Rattle.erm_machine.specs.Core.{Core, Object, Shared, spot_of, word_at, version_at}
use Rattle.erm_machine.specs.Life.{split, join}
use Rattle.erm_machine.specs.Reading.{load_entry}
use Rattle.erm_machine.specs.Seat.{is_sealed, end_of}
use Rattle.erm_machine.specs.Settling.{load_read_entry}
use Rattle.erm_machine.specs.Sound.{Sound}
use Rattle.erm_machine.specs.Step.{installed, added, shared_after, after_event, with_part}
use Rattle.erm_machine.specs.Words.{put, begin_of, state_of}
use Rattle.erm_machine.specs.Written.{OwnWritten}
use Rattle.erm_machine.proofs.Versions.{AddsNone, as_many}
use Rattle.erm_machine.proofs.Frames.{at_cases}
use Rattle.erm_machine.proofs.Guards.{if_then, unless_some}
use Rattle.erm_machine.proofs.Objects.{Extends, extends, extends_refl, at_push-new, length_installed}
use Rattle.erm_machine.proofs.QuietKinds.{MeetsOne, Moves, moves}
use Rattle.erm_core_ssn.proofs.RowsSteps.{Kept, goes_own, kept_from}
use Rattle.erm_core_ssn.proofs.RowsGoes.{goes_load_begin, goes_load_back, goes_store_back, goes_load_state, goes_join, goes_load_entry, goes_set_reader, goes_load_cell, goes_load_detached, goes_load_counter, goes_load_read_entry, goes_load_readers, goes_store_ring, goes_raise_reader, goes_store_succ, goes_store_overwriter, goes_clear_reader, goes_load_flushed, goes_load_ring, goes_clear_ring, goes_store_flushed}
use Rattle.erm_core_ssn.proofs.RowsStored.{Given, add_counter_own, load_stamp_own, store_cell_own, unset_own}
use Rattle.erm_core_ssn.proofs.RowsMoved.{load_tail_own, add_tail_own, store_begin_own, store_state_own, decide_own, split_own}
use Rattle.erm_core_ssn.proofs.RowsInstalled.{install_own, added_left, added_size, claim_own, swap_own}

-- each new version's row has 16 words
abbrev Sized : Object → Object → Type 0
Sized o u = (k : ℕ) → length o.versions ≤ k → k < length u.versions → length (version_at u k).words.row ≡ 16

sized_installed : (head : ℕ) (v : Option Version) (o : Object) → ((w : Version) → v ≡ Some w → length w.words.row ≡ 16) → Sized o (installed head v o)
sized_installed head None o size k late within = absurd (omega (arith, late, within))
sized_installed head (Some v) o size k late within =
    let many = length_installed head v o in
    ap (λ (w : Version). length w.words.row) (at_push-new head v o k (omega (arith, many, late, within))) ∙ size v refl

sized : (c : Core) (p : ℕ) (k : Kind) (d : Core) → Sound c → (m : Moves c p k d) → (oid : ℕ)
    → Sized (c.shared.objects oid) ((shared_after p k (word_at c (spot_of p k)) (c.seats p) c.shared).objects oid)
sized c p (kind.Install oid head) d sound m at =
    at_cases (Sized (c.shared.objects at)) c.shared.objects oid (installed head (added head (c.seats p) (end_of (c.seats p).task)) (c.shared.objects oid)) at
    (λ same. subst (λ n. Sized (c.shared.objects n) (installed head (added head (c.seats p) (end_of (c.seats p).task)) (c.shared.objects oid))) (sym same)
    (sized_installed head (added head (c.seats p) (end_of (c.seats p).task)) (c.shared.objects oid) (added_size c p oid head sound (c.seats p).task m.part refl m.after)))
    (λ _ k late within. absurd (omega (arith, late, within)))
sized c p k d sound m at = λ j late within. absurd (let h = as_many p k (word_at c (spot_of p k)) (c.seats p) c.shared at tt in omega (arith, late, within, h))

given : (c : Core) (p : ℕ) → Sound c → Given (c.seats p)
given c p sound = record {
  current = (sound.own p).ranges.current;
  fits = (sound.own p).task.fits;
  wants = (sound.own p).cells.wants;
  held = (sound.own p).claims.held;
}

-- an object that a step names is below the limit
known_from : (b : Bool) (o : Option Core) (d : Core) → (if b then o else None) ≡ Some d → b ≡ true
known_from true o d e = refl
known_from false o d e = absurd (cc)

swap_known : (c : Core) (p : ℕ) (v : VersionAt) (d : Core) → after_event c p (kind.SwapLink v) ≡ Some d → v.oid < OBJECT_LIMIT
swap_known c p v d e = ltb-true v.oid OBJECT_LIMIT (known_from (ltb v.oid OBJECT_LIMIT) _ d e)

-- kinds in which a seat's claims stay, or a word of a cell is stored
plain_own : (c : Core) (p : ℕ) (k : Kind) (d : Core) (r : Shared) → AddsNone k → Sound c → (m : Moves c p k d) → after_event c p k ≡ Some d
    → r ≡ shared_after p k (word_at c (spot_of p k)) (c.seats p) c.shared → OwnWritten r (c.seats p) → OwnWritten r m.part
plain_own c p (kind.LoadTail reason) d r none sound m e is old = load_tail_own c p r sound reason m.part m.after old
plain_own c p (kind.AddTail size) d r none sound m e is old = add_tail_own c p r sound size (c.seats p).place m.part refl m.after old
plain_own c p (kind.StoreBegin value) d r none sound m e is old = store_begin_own c p r sound value (c.seats p).place m.part refl m.after old
plain_own c p (kind.StoreState value) d r none sound m e is old = store_state_own c p r sound value (c.seats p).place m.part refl m.after old
plain_own c p (kind.LoadBegin other) d r none sound m e is old = goes_own r (c.seats p) m.part (goes_load_begin p other (begin_of (c.seats other).place) (c.seats p) (c.seats p).task m.part m.after) old
plain_own c p (kind.LoadState other bound) d r none sound m e is old = goes_own r (c.seats p) m.part (goes_load_state p other bound (state_of (c.seats other).place) (c.seats p) m.part m.after) old
plain_own c p (kind.Split other) d r none sound m e is old = absurd (let f = m.after in cc)
plain_own c p (kind.Join other) d r none sound m e is old = absurd (let f = m.after in cc)
plain_own c p (kind.LoadEntry oid) d r none sound m e is old =
    if_then (OwnWritten r) (is_sealed (c.seats p).place) (load_read_entry p oid (c.shared.objects oid).entry (c.seats p) (c.seats p).task)
    (load_entry p oid (c.shared.objects oid).entry (c.shared.objects oid) (c.seats p) (c.seats p).task) m.part m.after
    (λ _ h. goes_own r (c.seats p) m.part (goes_load_read_entry p oid (c.shared.objects oid).entry (c.seats p) (c.seats p).task m.part h) old)
    (λ _ h. goes_own r (c.seats p) m.part (goes_load_entry p oid (c.shared.objects oid).entry (c.shared.objects oid) (c.seats p) (c.seats p).task m.part h) old)
plain_own c p (kind.Claim oid seen number) d r none sound m e is old =
    claim_own c p r sound
    (λ at. subst (λ (t : Shared). Extends (c.shared.objects at) (t.objects at)) (sym is) (extends p (kind.Claim oid seen number) (word_at c (spot_of p (kind.Claim oid seen number))) (c.seats p) c.shared at))
    oid seen number (c.seats p).task m.part refl m.after old
plain_own c p (kind.Install oid head) d r none sound m e is old = absurd none
plain_own c p (kind.LoadCell v w) d r none sound m e is old = goes_own r (c.seats p) m.part (goes_load_cell _ v w (c.seats p) m.part (unless_some _ _ m.part m.after)) old
plain_own c p (kind.StoreCell place cell w value) d r none sound m e is old = store_cell_own r place cell w value (c.seats p) m.part (given c p sound) m.after old
plain_own c p (kind.LoadCounter counter) d r none sound m e is old = goes_own r (c.seats p) m.part (goes_load_counter _ counter _ (c.seats p) (c.seats p).task m.part m.after) old
plain_own c p (kind.AddCounter counter) d r none sound m e is old = add_counter_own _ r p counter _ (c.seats p) (c.seats p).task m.part (given c p sound) refl m.after old
plain_own c p (kind.SetReader v) d r none sound m e is old = goes_own r (c.seats p) m.part (goes_set_reader p v (c.shared.objects v.oid) (c.seats p) (c.seats p).task m.part m.after) old
plain_own c p (kind.ClearReader v) d r none sound m e is old =
    goes_own r (c.seats p) m.part (goes_clear_reader v (c.seats p) (c.seats p).task (end_of (c.seats p).task) m.part (sound.own p).task.fits m.after) old
plain_own c p (kind.LoadReaders v) d r none sound m e is old = goes_own r (c.seats p) m.part (goes_load_readers p v _ (c.seats p) (c.seats p).task m.part m.after) old
plain_own c p (kind.LoadStamp v w) d r none sound m e is old = load_stamp_own r _ v w (c.seats p) m.part (given c p sound) m.after old
plain_own c p (kind.RaiseReader v value) d r none sound m e is old = goes_own r (c.seats p) m.part (goes_raise_reader v value (c.seats p) (c.seats p).task m.part m.after) old
plain_own c p (kind.StoreSucc v value) d r none sound m e is old = goes_own r (c.seats p) m.part (goes_store_succ v value (c.seats p) m.part m.after) old
plain_own c p (kind.StoreOverwriter v value) d r none sound m e is old = goes_own r (c.seats p) m.part (goes_store_overwriter v value (c.seats p) m.part m.after) old
plain_own c p (kind.StoreRing at value) d r none sound m e is old = goes_own r (c.seats p) m.part (goes_store_ring at value (c.seats p) (c.seats p).task m.part m.after) old
plain_own c p (kind.Decide at header) d r none sound m e is old = decide_own c p r sound at header (c.seats p).place (c.seats p).task m.part refl refl m.after old
plain_own c p (kind.LoadRing at) d r none sound m e is old = goes_own r (c.seats p) m.part (goes_load_ring at _ (c.seats p) (c.seats p).flushing m.part m.after) old
plain_own c p (kind.ClearRing at) d r none sound m e is old = goes_own r (c.seats p) m.part (goes_clear_ring at (c.seats p) (c.seats p).flushing m.part m.after) old
plain_own c p (kind.StoreFlushed value) d r none sound m e is old = goes_own r (c.seats p) m.part (goes_store_flushed value (c.seats p) (c.seats p).flushing m.part m.after) old
plain_own c p kind.LoadFlushed d r none sound m e is old = goes_own r (c.seats p) m.part (goes_load_flushed c.shared.flushed (c.seats p) (c.seats p).flushing m.part m.after) old
plain_own c p (kind.SwapLink v) d r none sound m e is old =
    swap_own c p r sound
    (λ at. subst (λ (t : Shared). Extends (c.shared.objects at) (t.objects at)) (sym is) (extends p (kind.SwapLink v) (word_at c (spot_of p (kind.SwapLink v))) (c.seats p) c.shared at))
    _ v (c.seats p).task m.part (swap_known c p v d e) refl m.after old
plain_own c p (kind.LoadDetached v) d r none sound m e is old = goes_own r (c.seats p) m.part (goes_load_detached _ v (c.seats p) (c.seats p).task m.part m.after) old
plain_own c p (kind.StoreBack value) d r none sound m e is old = goes_own r (c.seats p) m.part (goes_store_back value (c.seats p) (c.seats p).place m.part m.after) old
plain_own c p (kind.LoadBack other) d r none sound m e is old = goes_own r (c.seats p) m.part (goes_load_back other _ (c.seats p) (c.seats p).task m.part m.after) old
plain_own c p (kind.Unset place) d r none sound m e is old = unset_own r place (c.seats p) m.part (given c p sound) m.after old

step_kept : (c : Core) (p : ℕ) (k : Kind) (d : Core) → Sound c → (m : Moves c p k d)
    → (OwnWritten (shared_after p k (word_at c (spot_of p k)) (c.seats p) c.shared) (c.seats p) → OwnWritten (shared_after p k (word_at c (spot_of p k)) (c.seats p) c.shared) m.part) → Kept d
step_kept c p k d sound m own =
    kept_from c p m.part (shared_after p k (word_at c (spot_of p k)) (c.seats p) c.shared) d sound (extends p k (word_at c (spot_of p k)) (c.seats p) c.shared) (sized c p k d sound m) own (sym m.is)

plain_kept : (c : Core) (p : ℕ) (k : Kind) (d : Core) → MeetsOne k → AddsNone k → Sound c → after_event c p k ≡ Some d → Kept d
plain_kept c p k d one none sound e =
    let m = moves c p k d one e in
    step_kept c p k d sound m (plain_own c p k d (shared_after p k (word_at c (spot_of p k)) (c.seats p) c.shared) none sound m e refl)

-- a split, a join: nothing that is shared changes
part_kept : (c : Core) (p : ℕ) (y : Part) (d : Core) → Sound c → (OwnWritten c.shared (c.seats p) → OwnWritten c.shared y) → record c { seats = put c.seats p y } ≡ d → Kept d
part_kept c p y d sound own is =
    kept_from c p y c.shared d sound (λ oid. extends_refl (c.shared.objects oid)) (λ oid k late within. absurd (omega (arith, late, within))) own is

split_kept : (c : Core) (p other : ℕ) (d : Core) → Sound c → after_event c p (kind.Split other) ≡ Some d → Kept d
split_kept c p other d sound e = by_test _ e
  where
    from : (o : Option Part) → split (c.seats p) (c.seats other) ≡ o → with_part c other o ≡ Some d → Kept d
    from None at e = absurd (cc)
    from (Some y) at e = part_kept c other y d sound (split_own c other c.shared sound (c.seats p) y at) (same_Some _ _ e)

    by_test : (b : Bool) → (if b then with_part c other (split (c.seats p) (c.seats other)) else None) ≡ Some d → Kept d
    by_test true e = from _ refl e
    by_test false e = absurd (cc)

join_kept : (c : Core) (p other : ℕ) (d : Core) → Sound c → after_event c p (kind.Join other) ≡ Some d → Kept d
join_kept c p other d sound e = by_test _ e
  where
    from : (o : Option Part) → join (c.seats p) (c.seats other) ≡ o → with_part c p o ≡ Some d → Kept d
    from None at e = absurd (cc)
    from (Some y) at e = part_kept c p y d sound (goes_own c.shared (c.seats p) y (goes_join (c.seats p) (c.seats other) y at)) (same_Some _ _ e)

    by_test : (b : Bool) → (if b then None else with_part c p (join (c.seats p) (c.seats other))) ≡ Some d → Kept d
    by_test true e = absurd (cc)
    by_test false e = from _ refl e

-- Each event keeps the rows of claims, of cells and of versions.
pub kept : (c : Core) (p : ℕ) (k : Kind) (d : Core) → Sound c → after_event c p k ≡ Some d → Kept d
kept c p (kind.Split other) d sound e = split_kept c p other d sound e
kept c p (kind.Join other) d sound e = join_kept c p other d sound e
kept c p (kind.Install oid head) d sound e =
    let m = moves c p (kind.Install oid head) d tt e in
    step_kept c p (kind.Install oid head) d sound m
    (install_own (shared_after p (kind.Install oid head) (word_at c (spot_of p (kind.Install oid head))) (c.seats p) c.shared) oid head (c.seats p) (c.seats p).task m.part (given c p sound) refl
    (λ n is i adds. added_left c p oid head sound (c.seats p).task n refl is i adds) m.after)
kept c p k d sound e = plain_kept c p k d tt tt sound e
