-- How far a call may have come: the steps of settle, and of an end.
use Rattle.std.proofs.Common.{◌≡◌, ℕ, ◌+◌, ◌<◌, ◌≤◌, Bool, true, false, not, ◌&&◌, ◌||◌, eqb, ltb, List, length, Option, Some, None, refl, sym, ap, ◌∙◌, subst, arith, length-set}
use Rattle.std.specs.Prelude.{if◌then◌else◌}
use Rattle.std.specs.Int.{bit_at}
use Rattle.std.proofs.lemmas.Bool.{eqb-true, eqb-false, ltb-true}
use Rattle.std.proofs.lemmas.List.{length_push}
use Rattle.std.proofs.lemmas.Option.{same_Some}
use Rattle.erm_machine.specs.declared.attempt.Attempt.{Attempt}
use Rattle.erm_machine.specs.declared.attempt.Claim.{Claim}
use Rattle.erm_machine.specs.declared.attempt.OwnCell.{OwnCell}
use Rattle.erm_machine.specs.declared.part.Part.{Part}
use Rattle.erm_machine.specs.declared.place.Place.{Place}
use Rattle.erm_machine.specs.declared.place.Place.TheVariants.{Active, Sealed, Decided}
use Rattle.erm_machine.specs.declared.task.Task.{Task}
use Rattle.erm_machine.specs.declared.task.Task.TheVariants as task
use Rattle.erm_machine.specs.declared.version.CellWord.{CellWord}
use Rattle.erm_machine.specs.declared.version.CellWord.TheVariants as word
use Rattle.erm_machine.specs.declared.version.VersionAt.{VersionAt}
use Rattle.erm_machine.specs.Bounds.{IsOther, IsBounded, words_stored, OwnBounds}
use Rattle.erm_machine.specs.Core.{claim_at}
use Rattle.erm_machine.specs.Seat.{end_of, may_start, is_active, is_sealed, is_snapshot, is_decided, read_at, same_version}
use Rattle.erm_machine.specs.Settling.{may_settle, load_flushed_to_settle, load_read_entry, load_readers, load_settled_stamp, filled, store_ring, raise_reader, installs, store_head_word, mark_overwritten, install_claim, adds_version, install_new, release_old, clear_reader}
use Rattle.erm_machine.specs.Tasks.{OwnTask}
use Rattle.erm_machine.specs.Words.{is_seat, owner_of, without_bit}
use Rattle.erm_machine.proofs.Guards.{when_then, if_then, either_way}
use Rattle.erm_core_calls.proofs.BoundsFrames.{first, second, positive_of, FillsNone, none_stored, early_sealed, unfilled, Ready, ready_sealed, Bound, bound_from, goes_on, task_on}

-- settle may begin where no word is stored
settle_fills : (u : Task) → may_settle u ≡ true → FillsNone u
settle_fills (task.Fills words) e = absurd (cc)
settle_fills _ e = tt

-- what an end has come to
ends_stored : (pl : Place) (u v : Task) (size n : ℕ) → (is_decided pl || is_active pl) ≡ true → (is_active pl ≡ true → FillsNone u) → FillsNone v → n ≡ words_stored pl u size → n ≡ words_stored pl v size
ends_stored (Active tail) u v size n at none after is = is ∙ none_stored (Active tail) u size tt (none refl) ∙ sym (none_stored (Active tail) v size tt after)
ends_stored (Decided tail stamp) u v size n at none after is = is
ends_stored _ u v size n at none after is = absurd (cc)

fills_stored : (pl : Place) (n size : ℕ) → is_sealed pl ≡ true → words_stored pl (task.Fills n) size ≡ n
fills_stored (Sealed tail stamp) n size at = refl
fills_stored _ n size at = absurd (cc)

none_of : (b : Bool) (words : ℕ) → ◌≡◌ {A = Option ℕ} (if b then Some 0 else None) (Some words) → 0 ≡ words
none_of true words e = same_Some 0 words e
none_of false words e = absurd (cc)

decided_too : (pl : Place) → is_decided pl ≡ true → (is_decided pl || is_active pl) ≡ true
decided_too (Decided tail stamp) at = refl
decided_too _ at = absurd (cc)

-- how far an end has come
record Within (t : Attempt) (e : ℕ × ℕ × ℕ × ℕ) : Type 0 where
  pub raised : e.0 ≤ length t.reads
  pub ended : e.1 ≤ length t.writes
  pub cleared : e.3 ≤ length t.reads

within_start : (t : Attempt) (b : Bool) (e : ℕ × ℕ × ℕ × ℕ) → ◌≡◌ {A = Option (ℕ × ℕ × ℕ × ℕ)} (if b then Some (0, 0, 0, 0) else None) (Some e) → Within t e
within_start t true e h = subst (Within t) (same_Some _ _ h) (record { raised = omega arith; ended = omega arith; cleared = omega arith })
within_start t false e h = absurd (cc)

within_end : (p : ℕ) (t : Attempt) (u : Task) (e : ℕ × ℕ × ℕ × ℕ) → end_of u ≡ Some e → IsBounded p t u → Within t e
within_end p t (task.Ends raised ended step cleared) e h b = subst (Within t) (same_Some _ _ h) (record { raised = b.0; ended = b.1; cleared = b.2 })
within_end p t (task.Copies w) e h b = within_start t true e h
within_end p t (task.Writes claim w) e h b = within_start t true e h
within_end p t u e h b = within_start t (may_start u || is_snapshot u) e h

module _ (p : ℕ) (x : Part) (own : OwnBounds p x) (fits : OwnTask x) where
  -- what is known of the task at hand
  at_task : (t : Task) → x.task ≡ t → IsBounded p x.current t
  at_task t is = subst (IsBounded p x.current) is own.bounded

  settled : (t : Task) → is_sealed x.place ≡ true → x.task ≡ t → FillsNone t → Ready p x
  settled t at is none = ready_sealed p x t own at is none

  pub b_to_settle : (found : ℕ) → OwnBounds p (load_flushed_to_settle found x)
  b_to_settle found = either_way (OwnBounds p) _ _ _
      (λ g. task_on p x _ (settled x.task (first _ _ (first _ _ g)) refl (settle_fills x.task (second _ _ (first _ _ g))))
      (bound_from p x.current (task.Settles 0 0) (omega arith, omega arith, λ (some : 0 < 0). absurd (omega arith)) tt))
      (λ _. own)

  pub b_load_read_entry : (oid found : ℕ) (t : Task) (y : Part) → x.task ≡ t →
      ((read : ℕ) → read < length x.current.reads → oid ≡ (read_at x.current read).version.oid → 0 < owner_of found → is_seat (owner_of found) ≡ true) → load_read_entry p oid found x t ≡ Some y → OwnBounds p y
  b_load_read_entry oid found (task.Settles reads writes) y is words e =
      when_then (OwnBounds p) _ _ y e (λ g.
      let within : reads < length x.current.reads = ltb-true reads (length x.current.reads) (second _ _ (first _ _ g)) in
      let same : oid ≡ (read_at x.current reads).version.oid = eqb-true oid (read_at x.current reads).version.oid (second _ _ g) in
      task_on p x _ (settled _ (first _ _ (first _ _ g)) is tt)
      (either_way (Bound p x.current) _ (task.ReadOwned reads (owner_of found)) (task.ReadClear reads)
      (λ h. bound_from p x.current (task.ReadOwned reads (owner_of found)) (
        within,
        record {
          another = eqb-false (owner_of found) p (not_is _ (second _ _ h));
          has_words = words reads within same (positive_of (owner_of found) (not_is _ (second _ _ (first _ _ h))));
        },
      ) tt)
      (λ _. bound_from p x.current (task.ReadClear reads) within tt)))
    where
      not_is : (b : Bool) → not b ≡ true → b ≡ false
      not_is true e = absurd (cc)
      not_is false e = refl
  b_load_read_entry oid found _ y is words e = absurd (cc)

  pub b_load_readers : (v : VersionAt) (found : ℕ) (t : Task) (y : Part) → x.task ≡ t →
      ((write : ℕ) → write < length x.current.writes → same_version v (claim_at x.current write).version ≡ true → is_sealed x.place ≡ true → (q : ℕ) → bit_at (without_bit found p) q ≡ 1 → IsOther p q) →
      load_readers p v found x t ≡ Some y → OwnBounds p y
  b_load_readers v found (task.Settles reads writes) y is others e =
      when_then (OwnBounds p) _ _ y e (λ g.
      let within : writes < length x.current.writes = ltb-true writes (length x.current.writes) (second _ _ (first _ _ g)) in
      let at = first _ _ (first _ _ (first _ _ g)) in
      task_on p x _ (settled _ at is tt)
      (either_way (Bound p x.current) (eqb (without_bit found p) 0) (task.WriteClear writes) (task.ReadersLeft writes (without_bit found p))
      (λ _. bound_from p x.current (task.WriteClear writes) within tt)
      (λ some. bound_from p x.current (task.ReadersLeft writes (without_bit found p)) (within, positive_of (without_bit found p) some, others writes within (second _ _ g) at) tt)))
  b_load_readers v found _ y is others e = absurd (cc)

  pub b_settled_stamp : (found : ℕ) (v : VersionAt) (w : CellWord) (t : Task) (y : Part) → x.task ≡ t → is_sealed x.place ≡ true → load_settled_stamp found v w x t ≡ Some y → OwnBounds p y
  b_settled_stamp found v word.Overwriter (task.ReadClear read) y is at e =
      when_then (OwnBounds p) _ _ y e (λ g.
      let within : read < length x.current.reads = at_task (task.ReadClear read) is in
      task_on p x _ (settled _ at is tt)
      (either_way (Bound p x.current) _ (task.ReadOvertaken read found) (task.Settles (read + 1) 0)
      (λ _. bound_from p x.current (task.ReadOvertaken read found) within tt)
      (λ _. bound_from p x.current (task.Settles (read + 1) 0) (omega (arith, within), omega arith, λ (some : 0 < 0). absurd (omega arith)) tt)))
  b_settled_stamp found v word.OverwriterSucc (task.ReadOvertaken read overwriter) y is at e =
      when_then (OwnBounds p) _ _ y e (λ g.
      let within : read < length x.current.reads = at_task (task.ReadOvertaken read overwriter) is in
      goes_on p x _ _ x.spare (settled _ at is tt) refl refl refl
      (bound_from p _ (task.Settles (read + 1) 0) (omega (arith, within), omega arith, λ (some : 0 < 0). absurd (omega arith)) tt))
  b_settled_stamp found v word.Stamp (task.WriteClear write) y is at e =
      when_then (OwnBounds p) _ _ y e (λ g.
      let within : write < length x.current.writes = at_task (task.WriteClear write) is in
      goes_on p x _ _ x.spare (settled _ at is tt) refl refl refl (bound_from p _ (task.WriteMade write) within tt))
  b_settled_stamp found v word.ReaderStamp (task.WriteMade write) y is at e =
      when_then (OwnBounds p) _ _ y e (λ g.
      let within : write < length x.current.writes = at_task (task.WriteMade write) is in
      goes_on p x _ _ x.spare (settled _ at is tt) refl refl refl
      (bound_from p _ (task.Settles (length x.current.reads) (write + 1)) (omega arith, omega (arith, within), λ _. refl) tt))
  b_settled_stamp found v _ _ y is at e = absurd (cc)

  -- one more word of the block
  filled_so : (t : Task) (words : ℕ) → filled x.current t ≡ Some words → length x.current.block ≡ words_stored x.place t x.current.size → is_sealed x.place ≡ true → length x.current.block ≡ words
  filled_so (task.Settles reads writes) words f stored at = stored ∙ none_stored x.place (task.Settles reads writes) x.current.size (early_sealed x.place at) tt ∙ none_of (eqb reads (length x.current.reads) && eqb writes (length x.current.writes)) words f
  filled_so (task.Fills n) words f stored at = stored ∙ fills_stored x.place n x.current.size at ∙ same_Some n words f
  filled_so _ words f stored at = absurd (cc)

  pub b_store_ring : (at value : ℕ) (o : Option ℕ) (y : Part) → filled x.current x.task ≡ o → store_ring at value x o ≡ Some y → OwnBounds p y
  b_store_ring at value None y is e = absurd (cc)
  b_store_ring at value (Some words) y is e =
      when_then (OwnBounds p) _ _ y e (λ g.
      let sealed = first _ _ (first _ _ (first _ _ (first _ _ g))) in
      let more : words + 1 < x.current.size = ltb-true (words + 1) x.current.size (second _ _ g) in
      let so = filled_so x.task words is own.stored sealed in
      record {
        bounded = more;
        stored = length_push x.current.block value ∙ ap (λ n. n + 1) so ∙ sym (fills_stored x.place (words + 1) x.current.size sealed);
        blocks = own.blocks;
        begin_seen = own.begin_seen;
        stamp_seen = own.stamp_seen;
      })

  -- one that is active has stored no word
  unfilled_here : is_active x.place ≡ true → FillsNone x.task
  unfilled_here at = unfilled x.task x.current x.place at fits.fits

  -- a step of an end
  ends : (t : Attempt) (u : Task) (spare : List OwnCell) → (is_decided x.place || is_active x.place) ≡ true → t.begin ≡ x.current.begin → t.stamp ≡ x.current.stamp → t.size ≡ x.current.size → t.block ≡ x.current.block →
      Bound p t u → OwnBounds p (record x { task = u; current = t; spare = spare })
  ends t u spare at begin stamp size block b = record {
    bounded = b.bounded;
    stored = ap length block ∙ ends_stored x.place x.task u x.current.size (length x.current.block) at unfilled_here b.unfilled own.stored ∙ ap (words_stored x.place u) (sym size);
    blocks = own.blocks;
    begin_seen = let h = own.begin_seen in omega (arith, h, begin);
    stamp_seen = let h = own.stamp_seen in omega (arith, h, stamp);
  }

  pub b_raise_reader : (v : VersionAt) (value : ℕ) (t : Task) (y : Part) → x.task ≡ t → raise_reader v value x t ≡ Some y → OwnBounds p y
  b_raise_reader v value (task.Ends raised ended step cleared) y is e =
      when_then (OwnBounds p) _ _ y e (λ g.
      let old = at_task (task.Ends raised ended step cleared) is in
      let at : is_decided x.place ≡ true = first _ _ (first _ _ (first _ _ (first _ _ g))) in
      let more : raised < length x.current.reads = ltb-true raised (length x.current.reads) (second _ (ltb raised (length x.current.reads)) (first _ _ (first _ _ g))) in
      ends x.current _ x.spare (decided_too x.place at) refl refl refl refl
      (bound_from p x.current (task.Ends (raised + 1) ended step cleared) (omega (arith, more), old.1, old.2) tt))
  b_raise_reader v value _ y is e = absurd (cc)

  b_installs : (raised ended step : ℕ) → installs raised ended step x ≡ true → (is_decided x.place || is_active x.place) ≡ true
  b_installs raised ended step g = let at : is_decided x.place ≡ true = first _ _ (first _ _ (first _ _ g)) in decided_too x.place at

  pub b_mark : (nth : ℕ) (v : VersionAt) (value wanted : ℕ) (t : Task) (y : Part) → x.task ≡ t → mark_overwritten nth v value wanted x t ≡ Some y → OwnBounds p y
  b_mark nth v value wanted (task.Ends raised ended step cleared) y is e =
      when_then (OwnBounds p) _ _ y e (λ g.
      let old = at_task (task.Ends raised ended step cleared) is in
      ends x.current _ x.spare (b_installs raised ended step (first _ _ (first _ _ (first _ _ g)))) refl refl refl refl
      (bound_from p x.current (task.Ends raised ended (step + 1) cleared) old tt))
  b_mark nth v value wanted _ y is e = absurd (cc)

  pub b_head_word : (place cell : ℕ) (w : CellWord) (value : ℕ) (t : Task) (y : Part) → x.task ≡ t → store_head_word place cell w value x t ≡ Some y → OwnBounds p y
  b_head_word place cell w value (task.Ends raised ended step cleared) y is e =
      when_then (OwnBounds p) _ _ y e (λ g.
      let old = at_task (task.Ends raised ended step cleared) is in
      let within = old.1 in
      ends _ _ x.spare (b_installs raised ended step (first _ _ (first _ _ (first _ _ (first _ _ (first _ _ g)))))) refl refl refl refl
      (bound_from p _ (task.Ends raised ended (step + 1) cleared) (old.0, omega (arith, within, length-set {A = Claim}), old.2) tt))
  b_head_word place cell w value _ y is e = absurd (cc)

  pub b_install_claim : (oid head : ℕ) (o : Option (ℕ × ℕ × ℕ × ℕ)) (y : Part) → end_of x.task ≡ o → install_claim oid head x o ≡ Some y → OwnBounds p y
  b_install_claim oid head None y is e = absurd (cc)
  b_install_claim oid head (Some n) y is e =
      let old = within_end p x.current x.task n is own.bounded in
      let raised = old.raised in
      let cleared = old.cleared in
      if_then (OwnBounds p) (adds_version x) (install_new oid head x n) (release_old oid head x n) y e
      (λ commits h. when_then (OwnBounds p) _ _ y h (λ g.
      let more : n.1 < length x.current.writes = ltb-true n.1 (length x.current.writes) (second _ (ltb n.1 (length x.current.writes)) (first _ _ (first _ _ (first _ _ g)))) in
      let at : is_decided x.place ≡ true = first _ _ commits in
      ends _ _ x.spare (decided_too x.place at) refl refl refl refl
      (bound_from p _ (task.Ends n.0 (n.1 + 1) 0 n.3) (raised, omega (arith, more, length-set {A = Claim}), cleared) tt)))
      (λ _ h. when_then (OwnBounds p) _ _ y h (λ g.
      let more : n.1 < length x.current.writes = ltb-true n.1 (length x.current.writes) (second _ (ltb n.1 (length x.current.writes)) (first _ _ (first _ _ g))) in
      ends _ _ _ (first _ _ (first _ _ (first _ _ g))) refl refl refl refl
      (bound_from p _ (task.Ends n.0 (n.1 + 1) 0 n.3) (raised, omega (arith, more, length-set {A = Claim}), cleared) tt)))

  pub b_clear_reader : (v : VersionAt) (o : Option (ℕ × ℕ × ℕ × ℕ)) (y : Part) → end_of x.task ≡ o → clear_reader v x o ≡ Some y → OwnBounds p y
  b_clear_reader v None y is e = absurd (cc)
  b_clear_reader v (Some n) y is e =
      let old = within_end p x.current x.task n is own.bounded in
      when_then (OwnBounds p) _ _ y e (λ g.
      let more : n.3 < length x.current.reads = ltb-true n.3 (length x.current.reads) (second _ (ltb n.3 (length x.current.reads)) (first _ _ (first _ _ g))) in
      ends x.current _ x.spare (first _ _ (first _ _ (first _ _ (first _ _ g)))) refl refl refl refl
      (bound_from p x.current (task.Ends n.0 n.1 n.2 (n.3 + 1)) (old.raised, old.ended, omega (arith, more)) tt))
