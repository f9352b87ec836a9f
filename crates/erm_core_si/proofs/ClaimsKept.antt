-- Each event keeps the facts on claims.
use Rattle.std.proofs.Common.{◌≡◌, ℕ, Bool, true, false, max, Option, Some, None, refl, sym, ap, inl, arith}
use Rattle.std.specs.Prelude.{if◌then◌else◌}
use Rattle.std.proofs.lemmas.Option.{same_Some}
use Rattle.erm_machine.specs.declared.event.Kind.{Kind}
use Rattle.erm_machine.specs.declared.event.Kind.TheVariants as kind
use Rattle.erm_machine.specs.declared.event.TailUse.{TailUse}
use Rattle.erm_machine.specs.declared.event.TailUse.TheVariants as purpose
use Rattle.erm_machine.specs.declared.part.Part.{Part}
use Rattle.erm_machine.specs.declared.version.CellWord.TheVariants as word
use Rattle.erm_machine.specs.Cells.{WantsCell}
use Rattle.erm_machine.specs.Claims.{OwnClaims}
use Rattle.erm_machine.specs.Core.{Core, Object, Shared, spot_of, word_at}
use Rattle.erm_machine.specs.Life.{split, join}
use Rattle.erm_machine.specs.Reading.{load_entry}
use Rattle.erm_machine.specs.Seat.{is_sealed}
use Rattle.erm_machine.specs.Settling.{load_read_entry}
use Rattle.erm_machine.specs.Sound.{Sound}
use Rattle.erm_machine.specs.Step.{part_after, shared_after, after_event, with_part}
use Rattle.erm_machine.specs.Words.{with_bit, without_bit}
use Rattle.erm_machine.proofs.Guards.{if_then, unless_some}
use Rattle.erm_machine.proofs.Objects.{same_objects}
use Rattle.erm_machine.proofs.QuietKinds.{DrawsNone, MeetsOne, Moves, keeps_log, moves}
use Rattle.erm_core_si.proofs.ClaimsGentle.{g_horizon, g_gather, g_load_begin, g_load_back, g_store_back, g_load_state, g_load_entry, g_load_read_entry, g_set_reader, g_load_cell, g_swap_link, g_load_detached, g_load_counter, g_load_readers, g_store_ring, g_raise_reader, g_clear_reader, g_load_flushed, g_load_ring, g_clear_ring, g_store_flushed}
use Rattle.erm_core_si.proofs.ClaimsInstalled.{install_kept}
use Rattle.erm_core_si.proofs.ClaimsMarked.{succ_kept, mark_kept}
use Rattle.erm_core_si.proofs.ClaimsObjects.{Alike, alike_refl, alike_same, alike_put, alike_word}
use Rattle.erm_core_si.proofs.ClaimsOwn.{Kept, kept_alike}
use Rattle.erm_core_si.proofs.ClaimsPlaces.{begins_own, draws_own, announces_own, seals_own, decides_own, splits_own, joins_own}
use Rattle.erm_core_si.proofs.ClaimsRefilled.{Soft, soft_own, s_add_counter, s_load_stamp, s_store_cell, s_unset}
use Rattle.erm_core_si.proofs.ClaimsTaken.{taken_kept}

-- kinds that change nothing of an object that the facts on claims see
abbrev IsMild : Kind → Type 0
IsMild (kind.Claim oid seen number) = ⊥
IsMild (kind.Install oid head) = ⊥
IsMild (kind.StoreSucc v value) = ⊥
IsMild (kind.StoreOverwriter v value) = ⊥
IsMild _ = Unit {0}

alike_kind : (p : ℕ) (k : Kind) (found : ℕ) (x : Part) (s : Shared) → IsMild k → (oid : ℕ) → Alike (s.objects oid) ((shared_after p k found x s).objects oid)
alike_kind p (kind.Claim at seen number) found x s q oid = absurd q
alike_kind p (kind.Install at head) found x s q oid = absurd q
alike_kind p (kind.StoreSucc v value) found x s q oid = absurd q
alike_kind p (kind.StoreOverwriter v value) found x s q oid = absurd q
alike_kind p (kind.SetReader v) found x s q oid = alike_put s.objects v.oid _ (alike_word (s.objects v.oid) v.place word.Readers (with_bit found p) tt) oid
alike_kind p (kind.ClearReader v) found x s q oid = alike_put s.objects v.oid _ (alike_word (s.objects v.oid) v.place word.Readers (without_bit found p) tt) oid
alike_kind p (kind.RaiseReader v value) found x s q oid = alike_put s.objects v.oid _ (alike_word (s.objects v.oid) v.place word.ReaderStamp (max found value) tt) oid
alike_kind p (kind.SwapLink v) found x s q oid =
    let a = alike_word (s.objects v.oid) v.place word.Link 0 tt in
    alike_put s.objects v.oid _
    (record { entry = a.entry; many = a.many; stamp = a.stamp; row = a.row; cell = a.cell; overwriter = a.overwriter; succ = a.succ }) oid
alike_kind p k found x s q oid = alike_same (s.objects oid) ((shared_after p k found x s).objects oid) (ap (λ (f : ℕ → Object). f oid) (same_objects p k found x s tt))

-- kinds that leave the seat at its place, and change at most the own cell and the row of one claim
abbrev IsSoft : Kind → Type 0
IsSoft (kind.LoadTail purpose.Begin) = ⊥
IsSoft (kind.AddTail size) = ⊥
IsSoft (kind.StoreBegin value) = ⊥
IsSoft (kind.StoreState value) = ⊥
IsSoft (kind.Split other) = ⊥
IsSoft (kind.Join other) = ⊥
IsSoft (kind.Claim oid seen number) = ⊥
IsSoft (kind.Install oid head) = ⊥
IsSoft (kind.StoreSucc v value) = ⊥
IsSoft (kind.StoreOverwriter v value) = ⊥
IsSoft (kind.Decide at header) = ⊥
IsSoft _ = Unit {0}

soft_kind : (p : ℕ) (k : Kind) (found : ℕ) (s : Shared) (x y : Part) → IsSoft k → WantsCell x x.task → part_after p k found s x ≡ Some y → Soft x x.task y
soft_kind p (kind.LoadTail purpose.Begin) found s x y q wants e = absurd q
soft_kind p (kind.LoadTail purpose.Horizon) found s x y q wants e = inl (g_horizon found x x.task y e)
soft_kind p (kind.LoadTail purpose.Gather) found s x y q wants e = inl (g_gather p found x y e)
soft_kind p (kind.AddTail size) found s x y q wants e = absurd q
soft_kind p (kind.StoreBegin value) found s x y q wants e = absurd q
soft_kind p (kind.StoreState value) found s x y q wants e = absurd q
soft_kind p (kind.LoadBegin other) found s x y q wants e = inl (g_load_begin p other found x x.task y e)
soft_kind p (kind.LoadState other bound) found s x y q wants e = inl (g_load_state p other bound found x y e)
soft_kind p (kind.Split other) found s x y q wants e = absurd q
soft_kind p (kind.Join other) found s x y q wants e = absurd q
soft_kind p (kind.LoadEntry oid) found s x y q wants e =
    if_then (Soft x x.task) (is_sealed x.place) (load_read_entry p oid found x x.task) (load_entry p oid found (s.objects oid) x x.task) y e
    (λ _ h. inl (g_load_read_entry p oid found x x.task y h)) (λ _ h. inl (g_load_entry p oid found (s.objects oid) x x.task y h))
soft_kind p (kind.Claim oid seen number) found s x y q wants e = absurd q
soft_kind p (kind.Install oid head) found s x y q wants e = absurd q
soft_kind p (kind.LoadCell v w) found s x y q wants e = inl (g_load_cell found v w x y (unless_some _ _ y e))
soft_kind p (kind.StoreCell place cell w value) found s x y q wants e = s_store_cell place cell w value x y e
soft_kind p (kind.LoadCounter counter) found s x y q wants e = inl (g_load_counter _ counter found x x.task y e)
soft_kind p (kind.AddCounter counter) found s x y q wants e = s_add_counter _ p counter found x x.task y wants e
soft_kind p (kind.SetReader v) found s x y q wants e = inl (g_set_reader p v (s.objects v.oid) x x.task y e)
soft_kind p (kind.ClearReader v) found s x y q wants e = inl (g_clear_reader v x x.task y e)
soft_kind p (kind.LoadReaders v) found s x y q wants e = inl (g_load_readers p v found x x.task y e)
soft_kind p (kind.LoadStamp v w) found s x y q wants e = s_load_stamp found v w x y wants e
soft_kind p (kind.RaiseReader v value) found s x y q wants e = inl (g_raise_reader v value x x.task y e)
soft_kind p (kind.StoreSucc v value) found s x y q wants e = absurd q
soft_kind p (kind.StoreOverwriter v value) found s x y q wants e = absurd q
soft_kind p (kind.StoreRing at value) found s x y q wants e = inl (g_store_ring at value x x.task y e)
soft_kind p (kind.Decide at header) found s x y q wants e = absurd q
soft_kind p (kind.LoadRing at) found s x y q wants e = inl (g_load_ring at found x x.flushing y e)
soft_kind p (kind.ClearRing at) found s x y q wants e = inl (g_clear_ring at x x.flushing y e)
soft_kind p (kind.StoreFlushed value) found s x y q wants e = inl (g_store_flushed value x x.flushing y e)
soft_kind p kind.LoadFlushed found s x y q wants e = inl (g_load_flushed found x x.flushing y e)
soft_kind p (kind.SwapLink v) found s x y q wants e = inl (g_swap_link found v (s.objects v.oid) x x.task y e)
soft_kind p (kind.LoadDetached v) found s x y q wants e = inl (g_load_detached found v x x.task y e)
soft_kind p (kind.StoreBack value) found s x y q wants e = inl (g_store_back value x x.place y e)
soft_kind p (kind.LoadBack other) found s x y q wants e = inl (g_load_back other found x x.task y e)
soft_kind p (kind.Unset place) found s x y q wants e = s_unset place x y e

-- a step that draws no range and leaves the objects alike
mild_kept : (c : Core) (p : ℕ) (k : Kind) (d : Core) → IsMild k → DrawsNone k → Sound c → (m : Moves c p k d)
    → OwnClaims (shared_after p k (word_at c (spot_of p k)) (c.seats p) c.shared) p m.part → Kept d
mild_kept c p k d mild draws sound m own =
    let same = keeps_log p k (word_at c (spot_of p k)) (c.seats p) c.shared draws in
    let tail = same.tail in
    kept_alike c p m.part (shared_after p k (word_at c (spot_of p k)) (c.seats p) c.shared) d sound (omega (arith, tail))
    (alike_kind p k (word_at c (spot_of p k)) (c.seats p) c.shared mild) own (sym m.is)

soft_kept : (c : Core) (p : ℕ) (k : Kind) (d : Core) → IsSoft k → IsMild k → DrawsNone k → MeetsOne k → Sound c → after_event c p k ≡ Some d → Kept d
soft_kept c p k d soft mild draws one sound e =
    let m = moves c p k d one e in
    mild_kept c p k d mild draws sound m
    (soft_own c.shared (shared_after p k (word_at c (spot_of p k)) (c.seats p) c.shared) p (c.seats p) m.part
    (alike_kind p k (word_at c (spot_of p k)) (c.seats p) c.shared mild)
    (soft_kind p k (word_at c (spot_of p k)) c.shared (c.seats p) m.part soft (sound.own p).cells.wants m.after) (sound.own p).claims)

tail_kept : (c : Core) (p : ℕ) (reason : TailUse) (d : Core) → Sound c → after_event c p (kind.LoadTail reason) ≡ Some d → Kept d
tail_kept c p purpose.Begin d sound e =
    let m = moves c p (kind.LoadTail purpose.Begin) d tt e in
    mild_kept c p (kind.LoadTail purpose.Begin) d tt tt sound m
    (begins_own c.shared c.shared p (c.seats p) (λ oid. alike_refl (c.shared.objects oid)) (sound.own p).ranges.current (sound.own p).task.fits (sound.own p).claims
    p c.shared.tail (c.seats p).place m.part refl m.after)
tail_kept c p purpose.Horizon d sound e = soft_kept c p (kind.LoadTail purpose.Horizon) d tt tt tt tt sound e
tail_kept c p purpose.Gather d sound e = soft_kept c p (kind.LoadTail purpose.Gather) d tt tt tt tt sound e

-- SEAL draws a range
draw_kept : (c : Core) (p size : ℕ) (d : Core) → Sound c → Moves c p (kind.AddTail size) d → Kept d
draw_kept c p size d sound m =
    let alike = alike_kind p (kind.AddTail size) c.shared.tail (c.seats p) c.shared tt in
    kept_alike c p m.part (shared_after p (kind.AddTail size) c.shared.tail (c.seats p) c.shared) d sound (omega arith) alike
    (draws_own c.shared (shared_after p (kind.AddTail size) c.shared.tail (c.seats p) c.shared) p (c.seats p) alike
    (sound.own p).ranges.current (sound.own p).task.fits (sound.own p).claims p size c.shared.tail (c.seats p).place m.part refl m.after)
    (sym m.is)

-- a split, a join
split_kept : (c : Core) (p other : ℕ) (d : Core) → Sound c → after_event c p (kind.Split other) ≡ Some d → Kept d
split_kept c p other d sound e = by_test _ e
  where
    from : (o : Option Part) → split (c.seats p) (c.seats other) ≡ o → with_part c other o ≡ Some d → Kept d
    from None at e = absurd (cc)
    from (Some y) at e =
        kept_alike c other y c.shared d sound (omega arith) (λ oid. alike_refl (c.shared.objects oid))
        (splits_own c.shared c.shared other (c.seats other) (λ oid. alike_refl (c.shared.objects oid)) (sound.own other).ranges.current (sound.own other).task.fits
        (sound.own other).claims (c.seats p) y at)
        (same_Some _ _ e)

    by_test : (b : Bool) → (if b then with_part c other (split (c.seats p) (c.seats other)) else None) ≡ Some d → Kept d
    by_test true e = from _ refl e
    by_test false e = absurd (cc)

join_kept : (c : Core) (p other : ℕ) (d : Core) → Sound c → after_event c p (kind.Join other) ≡ Some d → Kept d
join_kept c p other d sound e = by_test _ e
  where
    from : (o : Option Part) → join (c.seats p) (c.seats other) ≡ o → with_part c p o ≡ Some d → Kept d
    from None at e = absurd (cc)
    from (Some y) at e =
        kept_alike c p y c.shared d sound (omega arith) (λ oid. alike_refl (c.shared.objects oid))
        (joins_own c.shared c.shared p (c.seats p) (λ oid. alike_refl (c.shared.objects oid)) (sound.own p).ranges.current (sound.own p).task.fits
        (sound.own p).claims (c.seats other) y at)
        (same_Some _ _ e)

    by_test : (b : Bool) → (if b then None else with_part c p (join (c.seats p) (c.seats other))) ≡ Some d → Kept d
    by_test true e = absurd (cc)
    by_test false e = from _ refl e

-- Each event keeps the facts on claims.
pub kept : (c : Core) (p : ℕ) (k : Kind) (d : Core) → Sound c → after_event c p k ≡ Some d → Kept d
kept c p (kind.LoadTail reason) d sound e = tail_kept c p reason d sound e
kept c p (kind.AddTail size) d sound e = draw_kept c p size d sound (moves c p (kind.AddTail size) d tt e)
kept c p (kind.StoreBegin value) d sound e =
    let m = moves c p (kind.StoreBegin value) d tt e in
    mild_kept c p (kind.StoreBegin value) d tt tt sound m
    (announces_own c.shared c.shared p (c.seats p) (λ oid. alike_refl (c.shared.objects oid)) (sound.own p).ranges.current (sound.own p).task.fits (sound.own p).claims
    p value (c.seats p).place m.part refl m.after)
kept c p (kind.StoreState value) d sound e =
    let m = moves c p (kind.StoreState value) d tt e in
    mild_kept c p (kind.StoreState value) d tt tt sound m
    (seals_own c.shared c.shared p (c.seats p) (λ oid. alike_refl (c.shared.objects oid)) (sound.own p).ranges.current (sound.own p).task.fits (sound.own p).claims
    p value (c.seats p).place m.part refl m.after)
kept c p (kind.Decide at header) d sound e =
    let m = moves c p (kind.Decide at header) d tt e in
    let alike = alike_kind p (kind.Decide at header) (word_at c (spot_of p (kind.Decide at header))) (c.seats p) c.shared tt in
    mild_kept c p (kind.Decide at header) d tt tt sound m
    (decides_own c.shared (shared_after p (kind.Decide at header) (word_at c (spot_of p (kind.Decide at header))) (c.seats p) c.shared) p (c.seats p) alike
    (sound.own p).ranges.current (sound.own p).task.fits (sound.own p).claims
    at header (c.seats p).place (c.seats p).task m.part refl refl m.after)
kept c p (kind.Split other) d sound e = split_kept c p other d sound e
kept c p (kind.Join other) d sound e = join_kept c p other d sound e
kept c p (kind.Claim oid seen number) d sound e = taken_kept c p oid seen number d sound (moves c p (kind.Claim oid seen number) d tt e)
kept c p (kind.Install oid head) d sound e = install_kept c p oid head d sound (moves c p (kind.Install oid head) d tt e)
kept c p (kind.StoreSucc v value) d sound e = succ_kept c p v value d sound (moves c p (kind.StoreSucc v value) d tt e)
kept c p (kind.StoreOverwriter v value) d sound e = mark_kept c p v value d sound (moves c p (kind.StoreOverwriter v value) d tt e)
kept c p k d sound e = soft_kept c p k d tt tt tt tt sound e
