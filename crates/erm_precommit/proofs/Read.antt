-- The steps on a version read.
use Rattle.std.proofs.Common.{◌≡◌, ℕ, ◌+◌, ◌<◌, Bool, true, false, eqb, length, refl, sym, ap, ◌∙◌, subst}
use Rattle.std.specs.Prelude.{if◌then◌else◌, ◌&&◌, ◌||◌, nat_lt}
use Rattle.std.proofs.lemmas.Bool.{and_parts, eqb-true}
use Rattle.erm_machine.specs.declared.event.Kind.TheVariants as kind
use Rattle.erm_machine.specs.declared.limits.TheConstants.{OBJECT_LIMIT}
use Rattle.erm_machine.specs.declared.part.Part.{Part}
use Rattle.erm_machine.specs.declared.task.Task.{Task}
use Rattle.erm_machine.specs.declared.task.Task.TheVariants as task
use Rattle.erm_machine.specs.declared.version.CellWord.TheVariants as word
use Rattle.erm_machine.specs.declared.version.VersionAt.{VersionAt}
use Rattle.erm_machine.specs.Core.{spot_of, word_at}
use Rattle.erm_machine.specs.Seat.{is_least, read_at, with_task}
use Rattle.erm_machine.specs.Words.{head_of, owner_of}
use Rattle.erm_rule.specs.declared.view.View.{View}
use Rattle.erm_rule.specs.Steps.{Ready, Told}
use Rattle.erm_rule.specs.Views.{part_of}
use Rattle.erm_cells.specs.Hands.{rated_at, rated_version, stamp_kind}
use Rattle.erm_cells.proofs.Views.{ready_at}
use Rattle.erm_precommit.specs.declared.pre.KeptRead.{KeptRead}
use Rattle.erm_precommit.specs.declared.pre.Pre.{Pre}
use Rattle.erm_precommit.specs.Pre.{read_kept}
use Rattle.erm_precommit.specs.Settle.{has_other_owner, task_of, OwnsRead, Stands, WentOn}
use Rattle.erm_precommit.proofs.Standing.{has, stays, went, comes_to, stands_with, step_leads, may_either, pre_same, pre_with, read_object, bounded, Leads}
use Rattle.erm_precommit.proofs.Steps.{after_entry, after_overwriter, after_succ, head_task, overtaken_task, succ_part}

pub pick : {X : Type 0} (b : Bool) (l r : X) → b ≡ true → (if b then l else r) ≡ l
pick true l r e = refl
pick false l r e = absurd (cc)

pub skip : {X : Type 0} (b : Bool) (l r : X) → b ≡ false → (if b then l else r) ≡ r
skip true l r e = absurd (cc)
skip false l r e = refl

module _ (pre : Pre) (v : View) (who : ℕ) (stands : Stands pre v who) (place : ℕ) (read : KeptRead) (read_is : read ≡ read_kept pre place) where
  abbrev x : Part
  x = part_of v who

  -- the entry
  module _ (at : task_of v who ≡ task.Settles place 0) (within : place < length pre.reads.value.items) where
    inside : place < length x.current.reads
    inside = subst (λ (n : ℕ). place < n) stands.kept.read_count within

    oid_is : read.oid ≡ (read_at x.current place).version.oid
    oid_is = ap (λ (r : KeptRead). r.oid) read_is ∙ (stands.kept.reads place inside).oid

    cell_is : read.cell ≡ (read_at x.current place).version.cell
    cell_is = ap (λ (r : KeptRead). r.cell) read_is ∙ (stands.kept.reads place inside).cell

    pub head_object : read.oid < OBJECT_LIMIT
    head_object = subst (λ (n : ℕ). n < OBJECT_LIMIT) (sym oid_is) (read_object v who stands.sealed stands.known place inside)

    pub head_ready : Ready v who (kind.LoadEntry read.oid)
    head_ready =
        ready_at v who (kind.LoadEntry read.oid) x (has v who stands.sealed) (λ c. with_task (head_task who x place (c.shared.objects read.oid).entry) x)
        (λ c sound. after_entry who x stands.sealed place read.oid (c.shared.objects read.oid).entry c.shared at inside oid_is)

    module _ (entry : ℕ) (w : View) (told : Told v who (kind.LoadEntry read.oid) entry w) where
      leads : Leads v who (head_task who x place entry) x.current.succ x.current.succ_from x.current.pred x.clear w
      leads =
          step_leads v who stands.sealed (kind.LoadEntry read.oid) entry w (head_task who x place entry) x.current.succ x.current.succ_from x.current.pred told
          (after_entry who x stands.sealed place read.oid entry told.before.shared at inside oid_is)

      pub head_went : WentOn v who w
      head_went = went v who stands.sealed _ _ _ _ _ w leads

      pub head_stands : Stands pre w who
      head_stands = stands_with v who stands.sealed _ _ _ _ _ w leads (may_either (has_other_owner entry (read_at x.current place).version.cell who) (task.ReadOwned place (owner_of entry)) (task.ReadClear place) refl refl) pre (pre_same pre x (head_task who x place entry) x.current.succ_from x.clear stands.kept)

      task_is : (b : Bool) → has_other_owner entry read.cell who ≡ b → task_of w who ≡ (if b then task.ReadOwned place (owner_of entry) else task.ReadClear place)
      task_is b is =
          comes_to v who stands.sealed _ _ _ _ _ w leads
          ∙ ap (λ (t : Bool). if t then task.ReadOwned place (owner_of entry) else task.ReadClear place) (ap (λ (n : ℕ). has_other_owner entry n who) (sym cell_is) ∙ is)

      pub head_owned : (owner : ℕ) → (has_other_owner entry read.cell who ≡ true) × (owner ≡ owner_of entry) → task_of w who ≡ task.ReadOwned place owner
      head_owned owner is = task_is true is.0 ∙ ap (λ (n : ℕ). task.ReadOwned place n) (sym is.1)

      pub head_clear : has_other_owner entry read.cell who ≡ false → task_of w who ≡ task.ReadClear place
      head_clear is = task_is false is

      pub head_owner : (owner : ℕ) → (has_other_owner entry read.cell who ≡ true) × (owner ≡ owner_of entry) → OwnsRead v who place owner
      head_owner owner is =
          let same : (told.before.shared.objects (read_at x.current place).version.oid).entry ≡ entry = ap (λ (n : ℕ). (told.before.shared.objects n).entry) (sym oid_is) ∙ told.met in
          record {
            within = inside;
            came = v;
            went = stays v who stands.sealed stands.known;
            core = told.before;
            sound = told.sound;
            is_view = told.is_view;
            head_is = ap head_of same ∙ eqb-true (head_of entry) read.cell (and_parts _ _ (and_parts _ _ is.0).0).0 ∙ cell_is;
            owner_is = ap owner_of same ∙ sym is.1;
          }

  -- the overwriter's stamp
  module _ (at : task_of v who ≡ task.ReadClear place) where
    clear_within : place < length x.current.reads
    clear_within = bounded v who stands.sealed stands.known (task.ReadClear place) at

    clear_version : rated_version x ≡ (read_at x.current place).version
    clear_version = ap (λ (t : Task). rated_at x t) at

    pub clear_object : (rated_version x).oid < OBJECT_LIMIT
    clear_object = subst (λ (u : VersionAt). u.oid < OBJECT_LIMIT) (sym clear_version) (read_object v who stands.sealed stands.known place clear_within)

    pub clear_cell : (rated_version x).cell ≡ read.cell
    clear_cell = ap (λ (u : VersionAt). u.cell) clear_version ∙ sym (ap (λ (r : KeptRead). r.cell) read_is ∙ (stands.kept.reads place clear_within).cell)

    pub clear_ready : Ready v who (stamp_kind x word.Overwriter)
    clear_ready =
        subst (λ (u : VersionAt). Ready v who (kind.LoadStamp u word.Overwriter)) (sym clear_version)
        (ready_at v who (kind.LoadStamp (read_at x.current place).version word.Overwriter) x (has v who stands.sealed)
        (λ c. with_task (overtaken_task x place (word_at c (spot_of who (kind.LoadStamp (read_at x.current place).version word.Overwriter)))) x)
        (λ c sound. after_overwriter who x stands.sealed place (word_at c (spot_of who (kind.LoadStamp (read_at x.current place).version word.Overwriter))) c.shared at clear_within))

    module _ (found : ℕ) (w : View) (told : Told v who (stamp_kind x word.Overwriter) found w) where
      loaded : Told v who (kind.LoadStamp (read_at x.current place).version word.Overwriter) found w
      loaded = subst (λ (u : VersionAt). Told v who (kind.LoadStamp u word.Overwriter) found w) clear_version told

      clear_leads : Leads v who (overtaken_task x place found) x.current.succ x.current.succ_from x.current.pred x.clear w
      clear_leads =
          step_leads v who stands.sealed (kind.LoadStamp (read_at x.current place).version word.Overwriter) found w (overtaken_task x place found) x.current.succ x.current.succ_from x.current.pred loaded
          (after_overwriter who x stands.sealed place found loaded.before.shared at clear_within)

      pub clear_went : WentOn v who w
      clear_went = went v who stands.sealed _ _ _ _ _ w clear_leads

      pub clear_stands : Stands pre w who
      clear_stands = stands_with v who stands.sealed _ _ _ _ _ w clear_leads (may_either (nat_lt 0 found && nat_lt found x.current.stamp) (task.ReadOvertaken place found) (task.Settles (place + 1) 0) refl refl) pre (pre_same pre x (overtaken_task x place found) x.current.succ_from x.clear stands.kept)

      -- whether it counts, by the stamp kept
      counts_is : (b : Bool) → (nat_lt 0 found && nat_lt found pre.stamp) ≡ b → task_of w who ≡ (if b then task.ReadOvertaken place found else task.Settles (place + 1) 0)
      counts_is b is =
          comes_to v who stands.sealed _ _ _ _ _ w clear_leads
          ∙ ap (λ (t : Bool). if t then task.ReadOvertaken place found else task.Settles (place + 1) 0) (ap (λ (n : ℕ). nat_lt 0 found && nat_lt found n) (sym stands.kept.stamp) ∙ is)

      pub clear_counts : (nat_lt 0 found && nat_lt found pre.stamp) ≡ true → (overwriter : ℕ) × (task_of w who ≡ task.ReadOvertaken place overwriter)
      clear_counts is = (found, counts_is true is)

      pub clear_passed : (nat_lt 0 found && nat_lt found pre.stamp) ≡ false → task_of w who ≡ task.Settles (place + 1) 0
      clear_passed is = counts_is false is

  -- the overwriter's successor stamp
  module _ (taken : (overwriter : ℕ) × (task_of v who ≡ task.ReadOvertaken place overwriter)) where
    succ_within : place < length x.current.reads
    succ_within = bounded v who stands.sealed stands.known (task.ReadOvertaken place taken.0) taken.1

    succ_version : rated_version x ≡ (read_at x.current place).version
    succ_version = ap (λ (t : Task). rated_at x t) taken.1

    pub succ_object : (rated_version x).oid < OBJECT_LIMIT
    succ_object = subst (λ (u : VersionAt). u.oid < OBJECT_LIMIT) (sym succ_version) (read_object v who stands.sealed stands.known place succ_within)

    pub succ_cell : (rated_version x).cell ≡ read.cell
    succ_cell = ap (λ (u : VersionAt). u.cell) succ_version ∙ sym (ap (λ (r : KeptRead). r.cell) read_is ∙ (stands.kept.reads place succ_within).cell)

    pub succ_ready : Ready v who (stamp_kind x word.OverwriterSucc)
    succ_ready =
        subst (λ (u : VersionAt). Ready v who (kind.LoadStamp u word.OverwriterSucc)) (sym succ_version)
        (ready_at v who (kind.LoadStamp (read_at x.current place).version word.OverwriterSucc) x (has v who stands.sealed)
        (λ c. succ_part who x stands.sealed place taken.0 (word_at c (spot_of who (kind.LoadStamp (read_at x.current place).version word.OverwriterSucc))))
        (λ c sound. after_succ who x stands.sealed place taken.0 (word_at c (spot_of who (kind.LoadStamp (read_at x.current place).version word.OverwriterSucc))) c.shared taken.1 succ_within))

    module _ (found : ℕ) (w : View) (told : Told v who (stamp_kind x word.OverwriterSucc) found w) where
      succ_told : Told v who (kind.LoadStamp (read_at x.current place).version word.OverwriterSucc) found w
      succ_told = subst (λ (u : VersionAt). Told v who (kind.LoadStamp u word.OverwriterSucc) found w) succ_version told

      abbrev new_succ : ℕ
      new_succ = if is_least found x.current then found else x.current.succ

      abbrev new_from : ℕ
      new_from = if is_least found x.current then taken.0 else x.current.succ_from

      succ_leads : Leads v who (task.Settles (place + 1) 0) new_succ new_from x.current.pred x.clear w
      succ_leads =
          step_leads v who stands.sealed (kind.LoadStamp (read_at x.current place).version word.OverwriterSucc) found w (task.Settles (place + 1) 0) new_succ new_from x.current.pred succ_told
          (after_succ who x stands.sealed place taken.0 found succ_told.before.shared taken.1 succ_within)

      pub succ_went : WentOn v who w
      succ_went = went v who stands.sealed _ _ _ _ _ w succ_leads

      pub succ_passed : task_of w who ≡ task.Settles (place + 1) 0
      succ_passed = comes_to v who stands.sealed _ _ _ _ _ w succ_leads

      kept_as : (new : Pre) → new ≡ record pre { succ = if eqb pre.succ 0 || nat_lt found pre.succ then found else pre.succ } → new ≡ record pre { succ = new_succ; pred = x.current.pred }
      kept_as new e =
          e ∙ ap (λ (n : ℕ). record pre { succ = if eqb n 0 || nat_lt found n then found else n }) stands.kept.succ ∙ ap (λ (n : ℕ). record pre { succ = new_succ; pred = n }) stands.kept.pred

      pub succ_stands : (new : Pre) → new ≡ record pre { succ = if eqb pre.succ 0 || nat_lt found pre.succ then found else pre.succ } → Stands new w who
      succ_stands new e =
          stands_with v who stands.sealed _ _ _ _ _ w succ_leads refl new (pre_with pre new x (task.Settles (place + 1) 0) new_succ new_from x.current.pred x.clear stands.kept (kept_as new e))
