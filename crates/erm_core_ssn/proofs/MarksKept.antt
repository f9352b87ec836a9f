-- Each event keeps the facts on marks.
use Rattle.std.proofs.Common.{◌≡◌, ℕ, Bool, true, false, length, Option, Some, None, refl, sym, ap, ◌∙◌, subst, arith}
use Rattle.std.specs.Prelude.{if◌then◌else◌}
use Rattle.std.proofs.lemmas.Bool.{and_parts, eqb-true, ltb-true}
use Rattle.std.proofs.lemmas.Option.{same_Some}
use Rattle.erm_machine.specs.declared.event.Kind.{Kind}
use Rattle.erm_machine.specs.declared.event.Kind.TheVariants as kind
use Rattle.erm_machine.specs.declared.part.Part.{Part}
use Rattle.erm_machine.specs.declared.task.Task.{Task}
use Rattle.erm_machine.specs.declared.task.Task.TheVariants as task
use Rattle.erm_machine.specs.declared.version.CellWord.TheVariants as word
use Rattle.erm_machine.specs.declared.version.VersionAt.{VersionAt}
use Rattle.erm_machine.specs.Claims.{claims_over}
use Rattle.erm_machine.specs.Core.{Core, spot_of, word_at, newest, claim_at, version_at}
use Rattle.erm_machine.specs.Facts.{over_of}
use Rattle.erm_machine.specs.Life.{split, join}
use Rattle.erm_machine.specs.Reading.{load_entry}
use Rattle.erm_machine.specs.Seat.{is_sealed, is_decided}
use Rattle.erm_machine.specs.Settling.{load_read_entry, mark_overwritten}
use Rattle.erm_machine.specs.Sound.{Sound}
use Rattle.erm_machine.specs.Step.{shared_after, after_event, with_part}
use Rattle.erm_machine.specs.Words.{put, set_word}
use Rattle.erm_machine.proofs.Guards.{when_then, if_then, unless_some}
use Rattle.erm_machine.proofs.Objects.{extends}
use Rattle.erm_machine.proofs.QuietKinds.{Moves, MeetsOne, moves}
use Rattle.erm_core_ssn.proofs.MarksCalm.{s_load_begin, s_load_back, s_store_back, s_unset, s_load_state, s_split, s_join, s_load_entry, s_load_read_entry, s_set_reader, s_load_cell, s_swap_link, s_load_detached, s_load_counter, s_add_counter, s_raise_reader, s_store_succ, s_store_overwriter, s_store_cell, s_clear_reader, s_load_readers, s_load_stamp, s_store_ring, s_load_flushed, s_load_ring, s_clear_ring, s_store_flushed}
use Rattle.erm_machine.proofs.Versions.{AddsNone, ends_over}
use Rattle.erm_core_ssn.proofs.MarksGrown.{grown_kind, grown_refl, made_none, made_refl, succ_put, succ_newest}
use Rattle.erm_core_ssn.proofs.MarksInstalled.{left_kept, install_kept}
use Rattle.erm_core_ssn.proofs.MarksMoved.{left_calm, load_tail_left, add_tail_left, store_begin_left, store_state_left, decide_left, claim_left}
use Rattle.erm_core_ssn.proofs.MarksSame.{Left, Same}
use Rattle.erm_core_ssn.proofs.MarksSteps.{Kept, Grown}

-- what each step leaves that meets one word and adds no version
left_of : (c : Core) (p : ℕ) (k : Kind) (d : Core) → Sound c → AddsNone k → (m : Moves c p k d) → Left c.shared (c.seats p) m.part
left_of c p (kind.Install oid head) d sound none m = absurd none
left_of c p (kind.LoadTail reason) d sound none m = load_tail_left c p sound reason c.shared.tail m.part m.after
left_of c p (kind.AddTail size) d sound none m = add_tail_left c p sound size c.shared.tail (c.seats p).place m.part refl m.after
left_of c p (kind.StoreBegin value) d sound none m = store_begin_left c p sound value (c.seats p).place m.part refl m.after
left_of c p (kind.StoreState value) d sound none m = store_state_left c p sound value (c.seats p).place m.part refl m.after
left_of c p (kind.Decide at header) d sound none m = decide_left c p sound at header (c.seats p).place (c.seats p).task m.part refl refl m.after
left_of c p (kind.Claim oid seen number) d sound none m = claim_left c p sound oid seen number (c.shared.objects oid).entry (c.seats p).task m.part refl m.after
left_of c p (kind.LoadBegin other) d sound none m = left_calm c p sound m.part (s_load_begin p other (word_at c (spot_of p (kind.LoadBegin other))) (c.seats p) (c.seats p).task m.part m.after)
left_of c p (kind.LoadState other bound) d sound none m =
    left_calm c p sound m.part (s_load_state p other bound (word_at c (spot_of p (kind.LoadState other bound))) (c.seats p) m.part m.after)
left_of c p (kind.Split other) d sound none m = absurd (let e = m.after in cc)
left_of c p (kind.Join other) d sound none m = absurd (let e = m.after in cc)
left_of c p (kind.LoadEntry oid) d sound none m =
    left_calm c p sound m.part
    (if_then (Same (c.seats p)) (is_sealed (c.seats p).place) (load_read_entry p oid (c.shared.objects oid).entry (c.seats p) (c.seats p).task)
    (load_entry p oid (c.shared.objects oid).entry (c.shared.objects oid) (c.seats p) (c.seats p).task) m.part m.after
    (λ _ h. s_load_read_entry p oid (c.shared.objects oid).entry (c.seats p) (c.seats p).task m.part h)
    (λ _ h. s_load_entry p oid (c.shared.objects oid).entry (c.shared.objects oid) (c.seats p) (c.seats p).task m.part h))
left_of c p (kind.LoadCell v w) d sound none m = left_calm c p sound m.part (s_load_cell (word_at c (spot_of p (kind.LoadCell v w))) v w (c.seats p) m.part (unless_some _ _ m.part m.after))
left_of c p (kind.StoreCell place cell w value) d sound none m = left_calm c p sound m.part (s_store_cell place cell w value (c.seats p) m.part m.after)
left_of c p (kind.LoadCounter counter) d sound none m =
    left_calm c p sound m.part (s_load_counter _ counter (word_at c (spot_of p (kind.LoadCounter counter))) (c.seats p) (c.seats p).task m.part m.after)
left_of c p (kind.AddCounter counter) d sound none m =
    left_calm c p sound m.part (s_add_counter _ p counter (word_at c (spot_of p (kind.AddCounter counter))) (c.seats p) (c.seats p).task m.part (sound.own p).ranges.current m.after)
left_of c p (kind.SetReader v) d sound none m = left_calm c p sound m.part (s_set_reader p v (c.shared.objects v.oid) (c.seats p) (c.seats p).task m.part m.after)
left_of c p (kind.ClearReader v) d sound none m = left_calm c p sound m.part (s_clear_reader v (c.seats p) m.part m.after)
left_of c p (kind.LoadReaders v) d sound none m =
    left_calm c p sound m.part (s_load_readers p v (word_at c (spot_of p (kind.LoadReaders v))) (c.seats p) (c.seats p).task m.part m.after)
left_of c p (kind.LoadStamp v w) d sound none m =
    left_calm c p sound m.part (s_load_stamp (word_at c (spot_of p (kind.LoadStamp v w))) v w (c.seats p) m.part (sound.own p).ranges.current m.after)
left_of c p (kind.RaiseReader v value) d sound none m = left_calm c p sound m.part (s_raise_reader v value (c.seats p) (c.seats p).task m.part m.after)
left_of c p (kind.StoreSucc v value) d sound none m = left_calm c p sound m.part (s_store_succ v value (c.seats p) m.part m.after)
left_of c p (kind.StoreOverwriter v value) d sound none m = left_calm c p sound m.part (s_store_overwriter v value (c.seats p) m.part m.after)
left_of c p (kind.StoreRing at value) d sound none m = left_calm c p sound m.part (s_store_ring at value (c.seats p) (c.seats p).task m.part m.after)
left_of c p (kind.LoadRing at) d sound none m = left_calm c p sound m.part (s_load_ring at (word_at c (spot_of p (kind.LoadRing at))) (c.seats p) (c.seats p).flushing m.part m.after)
left_of c p (kind.ClearRing at) d sound none m = left_calm c p sound m.part (s_clear_ring at (c.seats p) (c.seats p).flushing m.part m.after)
left_of c p (kind.StoreFlushed value) d sound none m = left_calm c p sound m.part (s_store_flushed value (c.seats p) (c.seats p).flushing m.part m.after)
left_of c p kind.LoadFlushed d sound none m = left_calm c p sound m.part (s_load_flushed c.shared.flushed (c.seats p) (c.seats p).flushing m.part m.after)
left_of c p (kind.SwapLink v) d sound none m =
    left_calm c p sound m.part (s_swap_link (word_at c (spot_of p (kind.SwapLink v))) v (c.shared.objects v.oid) (c.seats p) (c.seats p).task m.part m.after)
left_of c p (kind.LoadDetached v) d sound none m =
    left_calm c p sound m.part (s_load_detached (word_at c (spot_of p (kind.LoadDetached v))) v (c.seats p) (c.seats p).task m.part m.after)
left_of c p (kind.StoreBack value) d sound none m = left_calm c p sound m.part (s_store_back value (c.seats p) (c.seats p).place m.part m.after)
left_of c p (kind.LoadBack other) d sound none m =
    left_calm c p sound m.part (s_load_back other (word_at c (spot_of p (kind.LoadBack other))) (c.seats p) (c.seats p).task m.part m.after)
left_of c p (kind.Unset place) d sound none m = left_calm c p sound m.part (s_unset place (c.seats p) m.part m.after)

-- the version whose successor stamp is stored is the newest: an install in progress overwrites it
marked_newest : (c : Core) (p : ℕ) (v : VersionAt) (nth value wanted : ℕ) (u : Task) (y : Part) → Sound c → (c.seats p).task ≡ u
    → mark_overwritten nth v value wanted (c.seats p) u ≡ Some y → v.place ≡ newest (c.shared.objects v.oid)
marked_newest c p v nth value wanted (task.Ends raised ended step cleared) y sound at e =
    when_then (λ _. v.place ≡ newest (c.shared.objects v.oid)) _ _ y e (λ g.
    let parts = and_parts _ _ (and_parts _ _ g).0 in
    let tests = and_parts _ _ (and_parts _ _ parts.0).0 in
    let within = ltb-true _ _ tests.1 in
    let decided : is_decided (c.seats p).place ≡ true = (and_parts _ _ (and_parts _ _ tests.0).0).0 in
    let names = and_parts _ _ (and_parts _ _ parts.1).0 in
    let is_oid : v.oid ≡ (claim_at (c.seats p).current ended).version.oid = eqb-true _ _ names.0 in
    let is_place : v.place ≡ (claim_at (c.seats p).current ended).version.place = eqb-true _ _ names.1 in
    let over : claims_over (c.seats p) ≡ ended =
    ap (λ t. over_of (c.seats p).place t (length (c.seats p).current.writes)) at ∙ ends_over (c.seats p).place raised ended step cleared (length (c.seats p).current.writes) decided in
    let held = (sound.own p).claims.held ended within (omega (arith, over)) in
    is_place ∙ subst (λ k. (claim_at (c.seats p).current ended).version.place ≡ newest (c.shared.objects k)) (sym is_oid) ((sound.own p).claims.fit ended within held).place)
marked_newest c p v nth value wanted _ y sound at e = absurd (cc)

grown_succ : (c : Core) (p : ℕ) (v : VersionAt) (value : ℕ) (d : Core) → Sound c → (m : Moves c p (kind.StoreSucc v value) d)
    → Grown c.shared (shared_after p (kind.StoreSucc v value) (word_at c (spot_of p (kind.StoreSucc v value))) (c.seats p) c.shared)
grown_succ c p v value d sound m = record {
  extends = extends p (kind.StoreSucc v value) (word_at c (spot_of p (kind.StoreSucc v value))) (c.seats p) c.shared;
  succ = succ_put c.shared.objects v.oid _
      (succ_newest (c.shared.objects v.oid) v.place (set_word word.OverwriterSucc value (version_at (c.shared.objects v.oid) v.place).words)
      (marked_newest c p v 6 value (c.seats p).current.succ (c.seats p).task m.part sound refl m.after));
}

grown : (c : Core) (p : ℕ) (k : Kind) (d : Core) → Sound c → (m : Moves c p k d) → Grown c.shared (shared_after p k (word_at c (spot_of p k)) (c.seats p) c.shared)
grown c p (kind.StoreSucc v value) d sound m = grown_succ c p v value d sound m
grown c p k d sound m = grown_kind p k (word_at c (spot_of p k)) (c.seats p) c.shared tt

plain_kept : (c : Core) (p : ℕ) (k : Kind) (d : Core) → AddsNone k → MeetsOne k → Sound c → after_event c p k ≡ Some d → Kept d
plain_kept c p k d none one sound e =
    let m = moves c p k d one e in
    left_kept c p m.part (shared_after p k (word_at c (spot_of p k)) (c.seats p) c.shared) d sound (grown c p k d sound m)
    (made_none p k (word_at c (spot_of p k)) (c.seats p) c.shared (put c.seats p m.part) none) (left_of c p k d sound none m) (sym m.is)

-- a split, a join: nothing that is shared changes
part_kept : (c : Core) (p : ℕ) (y : Part) (d : Core) → Sound c → Same (c.seats p) y → record c { seats = put c.seats p y } ≡ d → Kept d
part_kept c p y d sound same is =
    left_kept c p y c.shared d sound (grown_refl c.shared) (made_refl c.shared (put c.seats p y)) (left_calm c p sound y same) is

split_kept : (c : Core) (p other : ℕ) (d : Core) → Sound c → after_event c p (kind.Split other) ≡ Some d → Kept d
split_kept c p other d sound e = by_test _ e
  where
    from : (o : Option Part) → split (c.seats p) (c.seats other) ≡ o → with_part c other o ≡ Some d → Kept d
    from None at e = absurd (cc)
    from (Some y) at e = part_kept c other y d sound (s_split (c.seats p) (c.seats other) y at) (same_Some _ _ e)

    by_test : (b : Bool) → (if b then with_part c other (split (c.seats p) (c.seats other)) else None) ≡ Some d → Kept d
    by_test true e = from _ refl e
    by_test false e = absurd (cc)

join_kept : (c : Core) (p other : ℕ) (d : Core) → Sound c → after_event c p (kind.Join other) ≡ Some d → Kept d
join_kept c p other d sound e = by_test _ e
  where
    from : (o : Option Part) → join (c.seats p) (c.seats other) ≡ o → with_part c p o ≡ Some d → Kept d
    from None at e = absurd (cc)
    from (Some y) at e = part_kept c p y d sound (s_join (c.seats p) (c.seats other) y at) (same_Some _ _ e)

    by_test : (b : Bool) → (if b then None else with_part c p (join (c.seats p) (c.seats other))) ≡ Some d → Kept d
    by_test true e = absurd (cc)
    by_test false e = from _ refl e

-- Each event keeps the facts on marks.
pub kept : (c : Core) (p : ℕ) (k : Kind) (d : Core) → Sound c → after_event c p k ≡ Some d → Kept d
kept c p (kind.Split other) d sound e = split_kept c p other d sound e
kept c p (kind.Join other) d sound e = join_kept c p other d sound e
kept c p (kind.Install oid head) d sound e = install_kept c p oid head d sound (moves c p (kind.Install oid head) d tt e)
kept c p k d sound e = plain_kept c p k d tt tt sound e
