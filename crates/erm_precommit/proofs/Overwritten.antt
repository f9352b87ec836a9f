-- The steps on a version overwritten.
use Rattle.std.proofs.Common.{◌≡◌, ℕ, ◌+◌, ◌<◌, length, max, refl, sym, ap, ◌∙◌, subst}
use Rattle.std.specs.Int.{bit_at}
use Rattle.erm_machine.specs.declared.event.Kind.TheVariants as kind
use Rattle.erm_machine.specs.declared.limits.TheConstants.{OBJECT_LIMIT}
use Rattle.erm_machine.specs.declared.part.Part.{Part}
use Rattle.erm_machine.specs.declared.task.Task.{Task}
use Rattle.erm_machine.specs.declared.task.Task.TheVariants as task
use Rattle.erm_machine.specs.declared.version.CellWord.TheVariants as word
use Rattle.erm_machine.specs.declared.version.VersionAt.{VersionAt}
use Rattle.erm_machine.specs.Core.{claim_at, spot_of, word_at}
use Rattle.erm_machine.specs.Seat.{with_task}
use Rattle.erm_machine.specs.Words.{without_bit}
use Rattle.erm_core_calls.proofs.Bits.{bit_left}
use Rattle.erm_rule.specs.declared.view.View.{View}
use Rattle.erm_rule.specs.Steps.{Ready, Told}
use Rattle.erm_rule.specs.Views.{part_of}
use Rattle.erm_cells.specs.Hands.{rated_at, rated_version, readers_kind, settled_by, settled_claim, stamp_kind}
use Rattle.erm_cells.proofs.Views.{ready_at}
use Rattle.erm_precommit.specs.declared.pre.KeptClaim.{KeptClaim}
use Rattle.erm_precommit.specs.declared.pre.Pre.{Pre}
use Rattle.erm_precommit.specs.Pre.{claim_kept, IsPre}
use Rattle.erm_precommit.specs.Settle.{readers_task, task_of, HasRead, Stands, WentOn}
use Rattle.erm_precommit.proofs.Standing.{has, stays, went, comes_to, stands_with, step_leads, pre_same, pre_with, claim_object, bounded, Leads}
use Rattle.erm_precommit.proofs.Looks.{may_readers}
use Rattle.erm_precommit.proofs.Steps.{after_readers, after_creator, after_reader_stamp, creator_part, readers_part}

-- a predecessor's stamp that was found, in the transaction kept
pred_as : (pre : Pre) (x : Part) → IsPre pre x → (found : ℕ) (new : Pre) → new ≡ record pre { pred = max pre.pred found } → new ≡ record pre { succ = x.current.succ; pred = max x.current.pred found }
pred_as pre x is found new e =
    e ∙ ap (λ (n : ℕ). record pre { pred = max n found }) is.pred ∙ ap (λ (n : ℕ). record pre { succ = n; pred = max x.current.pred found }) is.succ

module _ (pre : Pre) (v : View) (who : ℕ) (stands : Stands pre v who) (place : ℕ) (claim : KeptClaim) (claim_is : claim ≡ claim_kept pre place) where
  abbrev x : Part
  x = part_of v who

  cell_of : place < length x.current.writes → (claim_at x.current place).version.cell ≡ claim.overwritten
  cell_of within = sym (ap (λ (k : KeptClaim). k.overwritten) claim_is ∙ (stands.kept.claims place within).overwritten)

  -- the reader bits
  module _ (at : task_of v who ≡ task.Settles (length pre.reads.value.items) place) (within : place < length pre.claims.value.items) where
    inside : place < length x.current.writes
    inside = subst (λ (n : ℕ). place < n) stands.kept.claim_count within

    here : x.task ≡ task.Settles (length x.current.reads) place
    here = at ∙ ap (λ (n : ℕ). task.Settles n place) stands.kept.read_count

    version_is : settled_claim x ≡ (claim_at x.current place).version
    version_is = ap (λ (t : Task). (claim_at x.current (settled_by t)).version) here

    pub readers_object : (settled_claim x).oid < OBJECT_LIMIT
    readers_object = subst (λ (u : VersionAt). u.oid < OBJECT_LIMIT) (sym version_is) (claim_object v who stands.sealed stands.known place inside)

    pub readers_cell : (settled_claim x).cell ≡ claim.overwritten
    readers_cell = ap (λ (u : VersionAt). u.cell) version_is ∙ cell_of inside

    pub readers_ready : Ready v who (readers_kind x)
    readers_ready =
        subst (λ (u : VersionAt). Ready v who (kind.LoadReaders u)) (sym version_is)
        (ready_at v who (kind.LoadReaders (claim_at x.current place).version) x (has v who stands.sealed)
        (λ c. with_task (readers_task place (without_bit (word_at c (spot_of who (kind.LoadReaders (claim_at x.current place).version))) who)) x)
        (λ c sound. after_readers who x stands.sealed place (word_at c (spot_of who (kind.LoadReaders (claim_at x.current place).version))) c.shared here inside))

    module _ (found : ℕ) (w : View) (told : Told v who (readers_kind x) found w) where
      loaded : Told v who (kind.LoadReaders (claim_at x.current place).version) found w
      loaded = subst (λ (u : VersionAt). Told v who (kind.LoadReaders u) found w) version_is told

      leads : Leads v who (readers_task place (without_bit found who)) x.current.succ x.current.succ_from x.current.pred x.clear w
      leads =
          step_leads v who stands.sealed (kind.LoadReaders (claim_at x.current place).version) found w (readers_task place (without_bit found who)) x.current.succ x.current.succ_from x.current.pred loaded
          (after_readers who x stands.sealed place found loaded.before.shared here inside)

      pub readers_went : WentOn v who w
      readers_went = went v who stands.sealed _ _ _ _ _ w leads

      pub readers_stands : Stands pre w who
      readers_stands = stands_with v who stands.sealed _ _ _ _ _ w leads (may_readers place (without_bit found who)) pre (pre_same pre x (readers_task place (without_bit found who)) x.current.succ_from x.clear stands.kept)

      pub readers_left : (left : ℕ) → left ≡ without_bit found who → task_of w who ≡ readers_task place left
      readers_left left is = comes_to v who stands.sealed _ _ _ _ _ w leads ∙ ap (λ (n : ℕ). readers_task place n) (sym is)

      pub readers_are : (left : ℕ) → left ≡ without_bit found who → (q : ℕ) → bit_at left q ≡ 1 → HasRead v who place q
      readers_are left is q one = record {
        within = inside;
        came = v;
        went = stays v who stands.sealed stands.known;
        core = loaded.before;
        sound = loaded.sound;
        is_view = loaded.is_view;
        bit_is = ap (λ (n : ℕ). bit_at n q) loaded.met ∙ bit_left found who q (ap (λ (n : ℕ). bit_at n q) (sym is) ∙ one);
      }

  -- the creator's stamp
  module _ (at : task_of v who ≡ task.WriteClear place) where
    clear_within : place < length x.current.writes
    clear_within = bounded v who stands.sealed stands.known (task.WriteClear place) at

    clear_version : rated_version x ≡ (claim_at x.current place).version
    clear_version = ap (λ (t : Task). rated_at x t) at

    pub creator_object : (rated_version x).oid < OBJECT_LIMIT
    creator_object = subst (λ (u : VersionAt). u.oid < OBJECT_LIMIT) (sym clear_version) (claim_object v who stands.sealed stands.known place clear_within)

    pub creator_cell : (rated_version x).cell ≡ claim.overwritten
    creator_cell = ap (λ (u : VersionAt). u.cell) clear_version ∙ cell_of clear_within

    pub creator_ready : Ready v who (stamp_kind x word.Stamp)
    creator_ready =
        subst (λ (u : VersionAt). Ready v who (kind.LoadStamp u word.Stamp)) (sym clear_version)
        (ready_at v who (kind.LoadStamp (claim_at x.current place).version word.Stamp) x (has v who stands.sealed)
        (λ c. creator_part who x stands.sealed place (word_at c (spot_of who (kind.LoadStamp (claim_at x.current place).version word.Stamp))))
        (λ c sound. after_creator who x stands.sealed place (word_at c (spot_of who (kind.LoadStamp (claim_at x.current place).version word.Stamp))) c.shared at))

    module _ (found : ℕ) (w : View) (told : Told v who (stamp_kind x word.Stamp) found w) where
      creator_told : Told v who (kind.LoadStamp (claim_at x.current place).version word.Stamp) found w
      creator_told = subst (λ (u : VersionAt). Told v who (kind.LoadStamp u word.Stamp) found w) clear_version told

      creator_leads : Leads v who (task.WriteMade place) x.current.succ x.current.succ_from (max x.current.pred found) x.clear w
      creator_leads =
          step_leads v who stands.sealed (kind.LoadStamp (claim_at x.current place).version word.Stamp) found w (task.WriteMade place) x.current.succ x.current.succ_from (max x.current.pred found) creator_told
          (after_creator who x stands.sealed place found creator_told.before.shared at)

      pub creator_went : WentOn v who w
      creator_went = went v who stands.sealed _ _ _ _ _ w creator_leads

      pub creator_made : task_of w who ≡ task.WriteMade place
      creator_made = comes_to v who stands.sealed _ _ _ _ _ w creator_leads

      pub creator_stands : (new : Pre) → new ≡ record pre { pred = max pre.pred found } → Stands new w who
      creator_stands new e =
          stands_with v who stands.sealed _ _ _ _ _ w creator_leads refl new
          (pre_with pre new x (task.WriteMade place) x.current.succ x.current.succ_from (max x.current.pred found) x.clear stands.kept (pred_as pre x stands.kept found new e))

  -- the reader stamp
  module _ (at : task_of v who ≡ task.WriteMade place) where
    made_within : place < length x.current.writes
    made_within = bounded v who stands.sealed stands.known (task.WriteMade place) at

    made_version : rated_version x ≡ (claim_at x.current place).version
    made_version = ap (λ (t : Task). rated_at x t) at

    pub made_object : (rated_version x).oid < OBJECT_LIMIT
    made_object = subst (λ (u : VersionAt). u.oid < OBJECT_LIMIT) (sym made_version) (claim_object v who stands.sealed stands.known place made_within)

    pub made_cell : (rated_version x).cell ≡ claim.overwritten
    made_cell = ap (λ (u : VersionAt). u.cell) made_version ∙ cell_of made_within

    pub made_ready : Ready v who (stamp_kind x word.ReaderStamp)
    made_ready =
        subst (λ (u : VersionAt). Ready v who (kind.LoadStamp u word.ReaderStamp)) (sym made_version)
        (ready_at v who (kind.LoadStamp (claim_at x.current place).version word.ReaderStamp) x (has v who stands.sealed)
        (λ c. readers_part who x stands.sealed place (word_at c (spot_of who (kind.LoadStamp (claim_at x.current place).version word.ReaderStamp))))
        (λ c sound. after_reader_stamp who x stands.sealed place (word_at c (spot_of who (kind.LoadStamp (claim_at x.current place).version word.ReaderStamp))) c.shared at made_within))

    module _ (found : ℕ) (w : View) (told : Told v who (stamp_kind x word.ReaderStamp) found w) where
      made_told : Told v who (kind.LoadStamp (claim_at x.current place).version word.ReaderStamp) found w
      made_told = subst (λ (u : VersionAt). Told v who (kind.LoadStamp u word.ReaderStamp) found w) made_version told

      made_leads : Leads v who (task.Settles (length x.current.reads) (place + 1)) x.current.succ x.current.succ_from (max x.current.pred found) x.clear w
      made_leads =
          step_leads v who stands.sealed (kind.LoadStamp (claim_at x.current place).version word.ReaderStamp) found w (task.Settles (length x.current.reads) (place + 1)) x.current.succ x.current.succ_from (max x.current.pred found) made_told
          (after_reader_stamp who x stands.sealed place found made_told.before.shared at made_within)

      pub made_went : WentOn v who w
      made_went = went v who stands.sealed _ _ _ _ _ w made_leads

      pub made_passed : (new : Pre) → new ≡ record pre { pred = max pre.pred found } → task_of w who ≡ task.Settles (length new.reads.value.items) (place + 1)
      made_passed new e =
          comes_to v who stands.sealed _ _ _ _ _ w made_leads ∙ ap (λ (n : ℕ). task.Settles n (place + 1)) (sym stands.kept.read_count ∙ sym (ap (λ (t : Pre). length t.reads.value.items) e))

      pub made_stands : (new : Pre) → new ≡ record pre { pred = max pre.pred found } → Stands new w who
      made_stands new e =
          stands_with v who stands.sealed _ _ _ _ _ w made_leads refl new
          (pre_with pre new x (task.Settles (length x.current.reads) (place + 1)) x.current.succ x.current.succ_from (max x.current.pred found) x.clear stands.kept (pred_as pre x stands.kept found new e))
