-- What each step of a settle leads to.
use Rattle.std.proofs.Common.{◌≡◌, ℕ, ◌+◌, ◌<◌, Bool, true, false, length, Some, None, refl, sym, ap, ◌∙◌, subst}
use Rattle.std.specs.Prelude.{if◌then◌else◌, ◌&&◌, not, nat_lt}
use Rattle.std.proofs.lemmas.Bool.{eq-eqb, lt-ltb}
use Rattle.erm_machine.specs.declared.event.Kind.TheVariants as kind
use Rattle.erm_machine.specs.declared.part.Flushing.{Flushing}
use Rattle.erm_machine.specs.declared.part.Flushing.TheVariants.{Still}
use Rattle.erm_machine.specs.declared.part.Part.{Part}
use Rattle.erm_machine.specs.declared.place.Place.{Place}
use Rattle.erm_machine.specs.declared.place.Place.TheVariants.{Sealed}
use Rattle.erm_machine.specs.declared.task.Task.{Task}
use Rattle.erm_machine.specs.declared.task.Task.TheVariants as task
use Rattle.erm_machine.specs.declared.version.CellWord.{CellWord}
use Rattle.erm_machine.specs.declared.version.CellWord.TheVariants as word
use Rattle.erm_machine.specs.declared.version.VersionAt.{VersionAt}
use Rattle.erm_machine.specs.Core.{Core, Shared, claim_at}
use Rattle.erm_machine.specs.Flushing.{load_flushed}
use Rattle.erm_machine.specs.Lives.{IsPin}
use Rattle.erm_machine.specs.Reading.{load_active_stamp, load_entry}
use Rattle.erm_machine.specs.Seat.{is_active, is_sealed, is_vacant, read_at, with_pred, with_succ, with_task}
use Rattle.erm_machine.specs.Settling.{has_room, load_flushed_to_settle, load_read_entry, load_readers, load_settled_stamp, load_stamp, may_settle}
use Rattle.erm_machine.specs.Sound.{Sound}
use Rattle.erm_machine.specs.Step.{part_after}
use Rattle.erm_machine.specs.Words.{is_flusher, owner_of, without_bit}
use Rattle.erm_core_calls.proofs.Moving.{same_self}
use Rattle.erm_cells.proofs.Views.{when_true, both, first_branch, other_branch}
use Rattle.erm_precommit.specs.Settle.{has_other_owner, readers_task}
use Rattle.erm_precommit.proofs.Standing.{sealed_inactive, sealed_taken}

-- only the flush seat gathers, and it seals nothing
sealed_not_pin : (pl : Place) → is_sealed pl ≡ true → IsPin pl → ⊥
sealed_not_pin (Sealed tail stamp) e pin = pin
sealed_not_pin _ e pin = absurd (cc)

still_by : (b : Bool) (c : Core) (who : ℕ) → is_flusher who ≡ b → Sound c → is_sealed (c.seats who).place ≡ true → (c.seats who).flushing ≡ Still
still_by true c who at sound sealed = absurd (sealed_not_pin (c.seats who).place sealed ((sound.own who).lives.pinned at))
still_by false c who at sound sealed = (sound.own who).log.still at

pub still_seat : (c : Core) (who : ℕ) (x : Part) → Sound c → c.seats who ≡ x → is_sealed x.place ≡ true → x.flushing ≡ Still
still_seat c who x sound is sealed =
    subst (λ (z : Part). z.flushing ≡ Still) is (still_by (is_flusher who) c who refl sound (subst (λ (z : Part). is_sealed z.place ≡ true) (sym is) sealed))

-- the task once the entry of a version read is loaded, and once its overwriter's stamp is
abbrev pub head_task : ℕ → Part → ℕ → ℕ → Task
head_task who x place entry = if has_other_owner entry (read_at x.current place).version.cell who then task.ReadOwned place (owner_of entry) else task.ReadClear place

abbrev pub overtaken_task : Part → ℕ → ℕ → Task
overtaken_task x place found = if nat_lt 0 found && nat_lt found x.current.stamp then task.ReadOvertaken place found else task.Settles (place + 1) 0

module _ (who : ℕ) (x : Part) (sealed : is_sealed x.place ≡ true) where
  -- the place flushed
  settles_if : (found : ℕ) (b : Bool) → has_room found x.current ≡ b → may_settle x.task ≡ true → load_flushed_to_settle found x ≡ (if b then with_task (task.Settles 0 0) x else x)
  settles_if found b room may =
      ap (λ (t : Bool). if t && may_settle x.task && has_room found x.current then with_task (task.Settles 0 0) x else x) sealed
      ∙ ap (λ (t : Bool). if true && t && has_room found x.current then with_task (task.Settles 0 0) x else x) may
      ∙ ap (λ (t : Bool). if true && true && t then with_task (task.Settles 0 0) x else x) room

  pub after_flushed : (found : ℕ) (s : Shared) (b : Bool) → x.flushing ≡ Still → has_room found x.current ≡ b → may_settle x.task ≡ true
      → part_after who kind.LoadFlushed found s x ≡ Some (if b then with_task (task.Settles 0 0) x else x)
  after_flushed found s b still room may =
      subst (λ (f : Flushing). load_flushed found x f ≡ Some (if b then with_task (task.Settles 0 0) x else x)) (sym still)
      (when_true (not (is_vacant x.place)) (load_flushed_to_settle found x) (ap not (sealed_taken x.place sealed)) ∙ ap (λ (z : Part). Some z) (settles_if found b room may))

  -- the entry of a version read
  pub after_entry : (place oid found : ℕ) (s : Shared) → x.task ≡ task.Settles place 0 → place < length x.current.reads → oid ≡ (read_at x.current place).version.oid
      → part_after who (kind.LoadEntry oid) found s x ≡ Some (with_task (head_task who x place found) x)
  after_entry place oid found s at within is =
      first_branch (is_sealed x.place) (load_read_entry who oid found x x.task) (load_entry who oid found (s.objects oid) x x.task) (Some (with_task (head_task who x place found) x)) sealed
      (subst (λ (t : Task). load_read_entry who oid found x t ≡ Some (with_task (head_task who x place found) x)) (sym at)
      (when_true _ (with_task (head_task who x place found) x) (both _ _ (both _ _ sealed (lt-ltb place (length x.current.reads) within)) (eq-eqb oid (read_at x.current place).version.oid is))))

  -- stamps
  settled_stamp : (found : ℕ) (u : VersionAt) (w : CellWord) (y : Part) → load_settled_stamp found u w x x.task ≡ Some y → load_stamp found u w x ≡ Some y
  settled_stamp found u w y e =
      other_branch (is_active x.place) (load_active_stamp found u w x x.task) (if is_sealed x.place then load_settled_stamp found u w x x.task else None) (Some y) (sealed_inactive x.place sealed)
      (first_branch (is_sealed x.place) (load_settled_stamp found u w x x.task) None (Some y) sealed e)

  pub after_overwriter : (place found : ℕ) (s : Shared) → x.task ≡ task.ReadClear place → place < length x.current.reads
      → part_after who (kind.LoadStamp (read_at x.current place).version word.Overwriter) found s x ≡ Some (with_task (overtaken_task x place found) x)
  after_overwriter place found s at within =
      settled_stamp found (read_at x.current place).version word.Overwriter (with_task (overtaken_task x place found) x)
      (subst (λ (t : Task). load_settled_stamp found (read_at x.current place).version word.Overwriter x t ≡ Some (with_task (overtaken_task x place found) x)) (sym at)
      (when_true _ (with_task (overtaken_task x place found) x) (both _ _ (same_self (read_at x.current place).version) (lt-ltb place (length x.current.reads) within))))

  abbrev pub succ_part : ℕ → ℕ → ℕ → Part
  succ_part place overwriter found = record x { task = task.Settles (place + 1) 0; current = with_succ found overwriter x.current }

  pub after_succ : (place overwriter found : ℕ) (s : Shared) → x.task ≡ task.ReadOvertaken place overwriter → place < length x.current.reads
      → part_after who (kind.LoadStamp (read_at x.current place).version word.OverwriterSucc) found s x ≡ Some (succ_part place overwriter found)
  after_succ place overwriter found s at within =
      settled_stamp found (read_at x.current place).version word.OverwriterSucc (succ_part place overwriter found)
      (subst (λ (t : Task). load_settled_stamp found (read_at x.current place).version word.OverwriterSucc x t ≡ Some (succ_part place overwriter found)) (sym at)
      (when_true _ (succ_part place overwriter found) (both _ _ (same_self (read_at x.current place).version) (lt-ltb place (length x.current.reads) within))))

  pub after_readers : (place found : ℕ) (s : Shared) → x.task ≡ task.Settles (length x.current.reads) place → place < length x.current.writes
      → part_after who (kind.LoadReaders (claim_at x.current place).version) found s x ≡ Some (with_task (readers_task place (without_bit found who)) x)
  after_readers place found s at within =
      subst (λ (t : Task). load_readers who (claim_at x.current place).version found x t ≡ Some (with_task (readers_task place (without_bit found who)) x)) (sym at)
      (when_true _ (with_task (readers_task place (without_bit found who)) x)
      (both _ _ (both _ _ (both _ _ sealed (eq-eqb (length x.current.reads) (length x.current.reads) refl)) (lt-ltb place (length x.current.writes) within)) (same_self (claim_at x.current place).version)))

  abbrev pub creator_part : ℕ → ℕ → Part
  creator_part place found = record x { task = task.WriteMade place; current = with_pred found x.current }

  pub after_creator : (place found : ℕ) (s : Shared) → x.task ≡ task.WriteClear place
      → part_after who (kind.LoadStamp (claim_at x.current place).version word.Stamp) found s x ≡ Some (creator_part place found)
  after_creator place found s at =
      settled_stamp found (claim_at x.current place).version word.Stamp (creator_part place found)
      (subst (λ (t : Task). load_settled_stamp found (claim_at x.current place).version word.Stamp x t ≡ Some (creator_part place found)) (sym at)
      (when_true _ (creator_part place found) (same_self (claim_at x.current place).version)))

  abbrev pub readers_part : ℕ → ℕ → Part
  readers_part place found = record x { task = task.Settles (length x.current.reads) (place + 1); current = with_pred found x.current }

  pub after_reader_stamp : (place found : ℕ) (s : Shared) → x.task ≡ task.WriteMade place → place < length x.current.writes
      → part_after who (kind.LoadStamp (claim_at x.current place).version word.ReaderStamp) found s x ≡ Some (readers_part place found)
  after_reader_stamp place found s at within =
      settled_stamp found (claim_at x.current place).version word.ReaderStamp (readers_part place found)
      (subst (λ (t : Task). load_settled_stamp found (claim_at x.current place).version word.ReaderStamp x t ≡ Some (readers_part place found)) (sym at)
      (when_true _ (readers_part place found) (both _ _ (same_self (claim_at x.current place).version) (lt-ltb place (length x.current.writes) within))))
