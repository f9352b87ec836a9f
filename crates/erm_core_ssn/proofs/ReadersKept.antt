-- Each event keeps the facts on readers.
use Rattle.std.proofs.Common.{◌≡◌, ℕ, Bool, true, false, Option, Some, None, refl, sym}
use Rattle.std.specs.Prelude.{if◌then◌else◌}
use Rattle.std.proofs.lemmas.Option.{same_Some}
use Rattle.erm_machine.specs.declared.event.Kind.{Kind}
use Rattle.erm_machine.specs.declared.event.Kind.TheVariants as kind
use Rattle.erm_machine.specs.declared.part.Part.{Part}
use Rattle.erm_machine.specs.Core.{Core, Shared, spot_of, word_at}
use Rattle.erm_machine.specs.Life.{split, join}
use Rattle.erm_machine.specs.Readers.{OwnReaders}
use Rattle.erm_machine.specs.Sound.{Sound}
use Rattle.erm_machine.specs.Step.{shared_after, after_event, with_part}
use Rattle.erm_machine.specs.Words.{put, state_of}
use Rattle.erm_machine.proofs.Objects.{extends, extends_refl}
use Rattle.erm_machine.proofs.QuietKinds.{IsQuiet, quiet_kind, MeetsOne, Moves, moves}
use Rattle.erm_core_ssn.proofs.ReadersSteps.{Kept, Left, own_stays, kept_from}
use Rattle.erm_core_ssn.proofs.ReadersGrown.{Gentle, gentle_refl, gentle_grown, gentle_bits, Leaves, gentle, gentle_install}
use Rattle.erm_core_ssn.proofs.ReadersWords.{rebit_grown, set_others, clear_others, raised_grown, raised_bits}
use Rattle.erm_core_ssn.proofs.ReadersCalm.{IsCalm, calm_kind}
use Rattle.erm_core_ssn.proofs.ReadersOwn.{left_calm}
use Rattle.erm_core_ssn.proofs.ReadersMoved.{load_tail_left, add_tail_left, store_begin_left, store_state_left, load_begin_left, look_left, decide_left, split_left, join_left}
use Rattle.erm_core_ssn.proofs.ReadersRegistered.{set_reader_left}
use Rattle.erm_core_ssn.proofs.ReadersCleared.{clear_reader_left, clear_seat, raised_by, raise_reader_left}

-- what is shared after a step
abbrev after : Core → ℕ → Kind → Shared
after c p k = shared_after p k (word_at c (spot_of p k)) (c.seats p) c.shared

-- a step that leaves the words of readers
gentle_kept : (c : Core) (p : ℕ) (k : Kind) (d : Core) → Sound c → (m : Moves c p k d) → ((oid : ℕ) → Gentle (c.shared.objects oid) ((after c p k).objects oid)) →
    (OwnReaders (after c p k) p (c.seats p) → Left c (after c p k) p m.part) → Kept d
gentle_kept c p k d sound m gentle left =
    let g = gentle_grown c.shared (after c p k) (c.seats p) (extends p k (word_at c (spot_of p k)) (c.seats p) c.shared) gentle in
    let bits = gentle_bits c.shared (after c p k) gentle in
    kept_from c p m.part (after c p k) d sound g (λ q _. bits q) (left (own_stays c (after c p k) (c.seats p) p sound g (bits p))) (sym m.is)

leaves_kept : (c : Core) (p : ℕ) (k : Kind) (d : Core) → Leaves k → Sound c → (m : Moves c p k d) → (OwnReaders (after c p k) p (c.seats p) → Left c (after c p k) p m.part) → Kept d
leaves_kept c p k d leaves sound m left = gentle_kept c p k d sound m (gentle p k (word_at c (spot_of p k)) (c.seats p) c.shared leaves) left

-- a calm step of a seat that stays at its place
calm_left : (c : Core) (t : Shared) (p : ℕ) (k : Kind) (d : Core) → IsQuiet k → IsCalm k → (m : Moves c p k d) → OwnReaders t p (c.seats p) → Left c t p m.part
calm_left c t p k d quiet calm m o =
    left_calm c t p m.part o (quiet_kind p k (word_at c (spot_of p k)) c.shared (c.seats p) m.part quiet m.after).steady
    (calm_kind p k (word_at c (spot_of p k)) c.shared (c.seats p) m.part calm m.after)

moved_kept : (c : Core) (p : ℕ) (k : Kind) (d : Core) → Sound c → (m : Moves c p k d) → Kept d
moved_kept c p (kind.SetReader v) d sound m =
    kept_from c p m.part (after c p (kind.SetReader v)) d sound (rebit_grown c.shared v _ (c.seats p)) (set_others c.shared v p) (set_reader_left c p v (c.seats p).task m.part sound refl m.after) (sym m.is)
moved_kept c p (kind.ClearReader v) d sound m =
    kept_from c p m.part (after c p (kind.ClearReader v)) d sound (rebit_grown c.shared v _ (c.seats p)) (λ q ne. clear_others c.shared v p q (clear_seat c p v m.part sound m.after) ne)
    (clear_reader_left c p v m.part sound m.after) (sym m.is)
moved_kept c p (kind.RaiseReader v value) d sound m =
    let by = raised_by c p v value (c.seats p).task m.part m.after in
    kept_from c p m.part (after c p (kind.RaiseReader v value)) d sound (raised_grown c.shared v value (c.seats p) by) (λ q _. raised_bits c.shared v value (c.seats p) by q)
    (raise_reader_left c p v value sound by (c.seats p).task m.part refl m.after) (sym m.is)
moved_kept c p (kind.Install oid head) d sound m =
    gentle_kept c p (kind.Install oid head) d sound m (gentle_install c p oid head m.part (word_at c (spot_of p (kind.Install oid head))) sound m.after) (calm_left c _ p (kind.Install oid head) d tt tt m)
moved_kept c p (kind.LoadTail reason) d sound m = leaves_kept c p (kind.LoadTail reason) d tt sound m (λ o. load_tail_left c p sound _ o reason _ m.part m.after)
moved_kept c p (kind.AddTail size) d sound m = leaves_kept c p (kind.AddTail size) d tt sound m (λ o. add_tail_left c p sound _ o size _ (c.seats p).place m.part refl m.after)
moved_kept c p (kind.StoreBegin value) d sound m = leaves_kept c p (kind.StoreBegin value) d tt sound m (λ o. store_begin_left c p sound _ o value (c.seats p).place m.part refl m.after)
moved_kept c p (kind.StoreState value) d sound m = leaves_kept c p (kind.StoreState value) d tt sound m (λ o. store_state_left c p sound _ o value (c.seats p).place m.part refl m.after)
moved_kept c p (kind.LoadBegin other) d sound m = leaves_kept c p (kind.LoadBegin other) d tt sound m (λ o. load_begin_left c p sound _ o other _ (c.seats p).task m.part refl m.after)
moved_kept c p (kind.LoadState other bound) d sound m = leaves_kept c p (kind.LoadState other bound) d tt sound m (λ o. look_left c p sound _ o other bound (state_of (c.seats other).place) m.part m.after)
moved_kept c p (kind.Decide at header) d sound m = leaves_kept c p (kind.Decide at header) d tt sound m (λ o. decide_left c p sound _ o at header (c.seats p).place (c.seats p).task m.part refl refl m.after)
moved_kept c p (kind.Split other) d sound m = absurd (let e = m.after in cc)
moved_kept c p (kind.Join other) d sound m = absurd (let e = m.after in cc)
moved_kept c p k d sound m = leaves_kept c p k d tt sound m (calm_left c _ p k d tt tt m)

-- a split, a join: nothing that is shared changes
part_kept : (c : Core) (p : ℕ) (y : Part) (d : Core) → Sound c → (OwnReaders c.shared p (c.seats p) → Left c c.shared p y) → record c { seats = put c.seats p y } ≡ d → Kept d
part_kept c p y d sound left is =
    let gentle : (oid : ℕ) → Gentle (c.shared.objects oid) (c.shared.objects oid) = λ oid. gentle_refl (c.shared.objects oid) in
    kept_from c p y c.shared d sound (gentle_grown c.shared c.shared (c.seats p) (λ oid. extends_refl (c.shared.objects oid)) gentle) (λ q _. gentle_bits c.shared c.shared gentle q)
    (left (sound.own p).readers) is

split_kept : (c : Core) (p other : ℕ) (d : Core) → Sound c → after_event c p (kind.Split other) ≡ Some d → Kept d
split_kept c p other d sound e = by_test _ e
  where
    from : (o : Option Part) → split (c.seats p) (c.seats other) ≡ o → with_part c other o ≡ Some d → Kept d
    from None at e = absurd (cc)
    from (Some y) at e = part_kept c other y d sound (λ o. split_left c other sound c.shared o (c.seats p) y at) (same_Some _ _ e)

    by_test : (b : Bool) → (if b then with_part c other (split (c.seats p) (c.seats other)) else None) ≡ Some d → Kept d
    by_test true e = from _ refl e
    by_test false e = absurd (cc)

join_kept : (c : Core) (p other : ℕ) (d : Core) → Sound c → after_event c p (kind.Join other) ≡ Some d → Kept d
join_kept c p other d sound e = by_test _ e
  where
    from : (o : Option Part) → join (c.seats p) (c.seats other) ≡ o → with_part c p o ≡ Some d → Kept d
    from None at e = absurd (cc)
    from (Some y) at e = part_kept c p y d sound (λ o. join_left c p sound c.shared o (c.seats other) y at) (same_Some _ _ e)

    by_test : (b : Bool) → (if b then None else with_part c p (join (c.seats p) (c.seats other))) ≡ Some d → Kept d
    by_test true e = absurd (cc)
    by_test false e = from _ refl e

plain_kept : (c : Core) (p : ℕ) (k : Kind) (d : Core) → MeetsOne k → Sound c → after_event c p k ≡ Some d → Kept d
plain_kept c p k d one sound e = moved_kept c p k d sound (moves c p k d one e)

-- Each event keeps the facts on readers.
pub kept : (c : Core) (p : ℕ) (k : Kind) (d : Core) → Sound c → after_event c p k ≡ Some d → Kept d
kept c p (kind.Split other) d sound e = split_kept c p other d sound e
kept c p (kind.Join other) d sound e = join_kept c p other d sound e
kept c p k d sound e = plain_kept c p k d tt sound e
