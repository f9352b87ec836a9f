-- What a disk tells where a checkpoint is taken, as far as it tells.
use Rattle.std.proofs.Common.{◌≡◌, ℕ, ◌<◌, ◌≤◌, ◌⊎◌, ◌↔◌, ◌++◌, List, [], length, take, Option, Some, None, IfSome, Result, Ok, Err, OnErr, OnOk, true, false, refl, sym, ap, ◌∙◌, subst, inl, inr}
use Rattle.std.specs.Result.{is_err}
use Rattle.std.proofs.lemmas.List.{take_at}
use Rattle.erm_model.specs.declared.limits.TheConstants.{LAST_RUN, LOG_END}
use Rattle.erm_model.specs.Rows.{Rows, rows_of}
use Rattle.erm_model.specs.RowTransaction.{SameRows}
use Rattle.erm_record.specs.Stored.{stored_length}
use Rattle.erm_flush.specs.Turns.{GoesOn, HoldsFrom, IsReady, WritesFrom}
use Rattle.erm_outside.specs.declared.disk.File.{File}
use Rattle.erm_outside.specs.Disk.{Step, Tells}
use Rattle.erm_world.specs.Log.{IsLog, Log, Start}
use Rattle.erm_ckpt.specs.declared.slot.Slot.{Slot}
use Rattle.erm_ckpt.specs.declared.slot.Slots.{Slots}
use Rattle.erm_ckpt.specs.declared.slot.TheConstants.{LOG_START}
use Rattle.erm_ckpt.specs.Checkpoint.{IsCheckpoint, IsSlot, checkpoint_of, rows_of_checkpoint}
use Rattle.erm_ckpt.specs.Slots.{next_first, other_of, put_slot, removal_end}
use Rattle.erm_checkpoint.specs.Phases.{MaySave}
use Rattle.erm_checkpoint.specs.Saved.{AreRowsAt, slot_bytes}
use Rattle.erm_checkpoint.specs.Steps.{SavesAll, SavesPart}
use Rattle.erm_checkpoint.specs.Taken.{HoldsLog, HoldsLogFrom, state_at, Takes, TakesAll}
use Rattle.erm_checkpoint.proofs.Taken.{flushed_holds, may_save, saved_holds}

-- a buffer that was filled whole
pub whole : {X : Type 0} (now rows items : List X) (n size : ℕ) → now ≡ take n (rows ++ items) → length rows ≡ size → n ≡ size → now ≡ rows
whole now rows items n size cut long same = cut ∙ take_at rows items n (long ∙ sym same)

pub was_err : {T E : Type 0} (r : Result T E) (P : Type 0) → is_err r ≡ true → OnErr r P → P
was_err (Ok x) P bad p = absurd (cc)
was_err (Err e) P bad p = p

pub was_ok : {T E : Type 0} (r : Result T E) (P : Type 0) → is_err r ≡ false → OnOk r P → P
was_ok (Ok x) P fine p = p
was_ok (Err e) P fine p = absurd (cc)

-- what is so where the rows as of a pin were read
pub record AtPin (sound : Rows → Type 0) (log : Log) (slot : Slot) (slots : Slots) (rows : List (List ℕ)) : Type 0 where
  pub is : IsLog sound log
  pub begin : LOG_START < log.opened.at
  pub high : log.opened.at ≤ LOG_END
  pub stamp : slot.stamp ≡ log.flushed
  pub run : slot.run ≡ log.opened.run
  pub run_low : 1 ≤ slot.run
  pub run_high : slot.run ≤ LAST_RUN
  pub first : slot.first ≡ next_first slots
  pub pinned : log.pinned ≡ Some slot.stamp
  pub read : AreRowsAt log rows
  pub is_checkpoint : IsSlot slot → IsCheckpoint (checkpoint_of slot rows)
  pub same : SameRows (rows_of_checkpoint (checkpoint_of slot rows)) (rows_of rows)

pub at_pin : (sound : Rows → Type 0) (l m n : Log) (slot : Slot) (slots : Slots) (rows read : List (List ℕ)) → GoesOn l m → n ≡ m → m.flushed ≡ m.tail → l.pinned ≡ Some slot.stamp
    → slot.stamp ≡ l.tail → slot.run ≡ l.opened.run → 1 ≤ slot.run → slot.run ≤ LAST_RUN → slot.first ≡ next_first slots → LOG_START < l.opened.at → l.opened.at ≤ LOG_END
    → IsLog sound n → AreRowsAt m read → rows ≡ read → (IsSlot slot → IsCheckpoint (checkpoint_of slot rows)) → SameRows (rows_of_checkpoint (checkpoint_of slot rows)) (rows_of rows)
    → AtPin sound n slot slots rows
at_pin sound l m n slot slots rows read on same flushed pinned stamp run run_low run_high first begin high is reads rows_are is_checkpoint has =
    let opened : n.opened ≡ l.opened = ap (λ (x : Log). x.opened) same ∙ ap (λ (x : Log). x.opened) on.log in
    record {
      is = is;
      begin = subst (λ (s : Start). LOG_START < s.at) (sym opened) begin;
      high = subst (λ (s : Start). s.at ≤ LOG_END) (sym opened) high;
      stamp = stamp ∙ sym (ap (λ (x : Log). x.tail) on.log) ∙ sym flushed ∙ sym (ap (λ (x : Log). x.flushed) same);
      run = run ∙ sym (ap (λ (s : Start). s.run) opened);
      run_low = run_low;
      run_high = run_high;
      first = first;
      pinned = ap (λ (x : Log). x.pinned) same ∙ ap (λ (x : Log). x.pinned) on.log ∙ pinned;
      read = subst (AreRowsAt n) (sym rows_are) (subst (λ (x : Log). AreRowsAt x read) (sym same) reads);
      is_checkpoint = is_checkpoint;
      same = has;
    }

module _
    (short : (row : List ℕ) → stored_length row ≤ length row) (sound : Rows → Type 0) (respects : (a b : Rows) → SameRows a b → sound a ↔ sound b) where
  pub told_holds : (l m : Log) (slots : Slots) (before after : Option (List Step)) → IfSome before (HoldsLog sound l slots) → Tells (HoldsFrom sound l.flushed m) before after → IfSome after (IsReady m)
      → GoesOn l m → IsLog sound m → LOG_START < m.opened.at → IfSome after (HoldsLog sound m slots)
  told_holds l m slots None after held from ready on is begin = subst (λ (x : Option (List Step)). IfSome x (HoldsLog sound m slots)) (sym from) tt
  told_holds l m slots (Some old) after held (mid, told, from) ready on is begin =
      let here : IsReady m mid = subst (λ (x : Option (List Step)). IfSome x (IsReady m)) told ready in
      subst (λ (x : Option (List Step)). IfSome x (HoldsLog sound m slots)) (sym told) (flushed_holds short sound respects l m slots old mid held from here on is begin)

  may_at : (log : Log) (slots : Slots) (slot : Slot) (rows : List (List ℕ)) (steps : List Step) (h : HoldsLog sound log slots steps) → AtPin sound log slot slots rows
      → MaySave sound (state_at log h.front) [] [] h.pair (checkpoint_of slot rows) steps
  may_at log slots slot rows steps h p =
      may_save short sound respects log slots slot rows steps h p.is p.begin p.high p.stamp p.run p.run_low p.run_high p.first p.pinned p.read p.is_checkpoint p.same

  pub told_takes : (place : ℕ) (m : Log) (slots : Slots) (slot : Slot) (rows : List (List ℕ)) (before mid after : Option (List Step)) → Tells (WritesFrom sound place m) before mid
      → IfSome mid (HoldsLog sound m slots) → AtPin sound m slot slots rows
      → Tells (λ old new. SavesPart (other_of slots) (slot_bytes slot rows) 0 (removal_end slots) old new ⊎ SavesAll (other_of slots) (slot_bytes slot rows) 0 (removal_end slots) old new) mid after
      → Tells (Takes sound place m slots slot) before after
  told_takes place m slots slot rows None mid after writes held p saves =
      subst (λ (x : Option (List Step)). Tells (λ old new. SavesPart (other_of slots) (slot_bytes slot rows) 0 (removal_end slots) old new ⊎ SavesAll (other_of slots) (slot_bytes slot rows) 0 (removal_end slots) old new) x after) writes saves
  told_takes place m slots slot rows (Some old) mid after (steps, told, writes) held p saves =
      let h : HoldsLog sound m slots steps = subst (λ (x : Option (List Step)). IfSome x (HoldsLog sound m slots)) told held in
      let here = subst (λ (x : Option (List Step)). Tells (λ old new. SavesPart (other_of slots) (slot_bytes slot rows) 0 (removal_end slots) old new ⊎ SavesAll (other_of slots) (slot_bytes slot rows) 0 (removal_end slots) old new) x after) told saves in (
        here.0,
        here.1,
        record {
          mid = steps;
          flushes = writes;
          saves = inr (record {
            holds = h;
            checkpoint = checkpoint_of slot rows;
            slot_is = refl;
            may = may_at m slots slot rows steps h p;
            saves = subst (λ (file : File). SavesPart file (slot_bytes slot rows) 0 (removal_end slots) steps here.0 ⊎ SavesAll file (slot_bytes slot rows) 0 (removal_end slots) steps here.0)
                (ap other_of h.names) here.2;
          });
        },
      )

  pub told_takes_all : (place : ℕ) (m : Log) (slots : Slots) (slot : Slot) (rows : List (List ℕ)) (before mid after : Option (List Step)) → Tells (WritesFrom sound place m) before mid
      → IfSome mid (HoldsLog sound m slots) → AtPin sound m slot slots rows → Tells (SavesAll (other_of slots) (slot_bytes slot rows) 0 (removal_end slots)) mid after
      → Tells (TakesAll sound place m slots slot) before after
  told_takes_all place m slots slot rows None mid after writes held p saves =
      subst (λ (x : Option (List Step)). Tells (SavesAll (other_of slots) (slot_bytes slot rows) 0 (removal_end slots)) x after) writes saves
  told_takes_all place m slots slot rows (Some old) mid after (steps, told, writes) held p saves =
      let h : HoldsLog sound m slots steps = subst (λ (x : Option (List Step)). IfSome x (HoldsLog sound m slots)) told held in
      let here = subst (λ (x : Option (List Step)). Tells (SavesAll (other_of slots) (slot_bytes slot rows) 0 (removal_end slots)) x after) told saves in (
        here.0,
        here.1,
        record {
          mid = steps;
          flushes = writes;
          holds = h;
          checkpoint = checkpoint_of slot rows;
          slot_is = refl;
          may = may_at m slots slot rows steps h p;
          saves = subst (λ (file : File). SavesAll file (slot_bytes slot rows) 0 (removal_end slots) steps here.0) (ap other_of h.names) here.2;
        },
      )

  pub told_lasts : (m : Log) (slots : Slots) (slot : Slot) (rows : List (List ℕ)) (mid after : Option (List Step)) → IfSome mid (HoldsLog sound m slots) → AtPin sound m slot slots rows
      → Tells (SavesAll (other_of slots) (slot_bytes slot rows) 0 (removal_end slots)) mid after → IfSome after (HoldsLogFrom sound m (put_slot slots slot) slot.stamp)
  told_lasts m slots slot rows None after held p saves = subst (λ (x : Option (List Step)). IfSome x (HoldsLogFrom sound m (put_slot slots slot) slot.stamp)) (sym saves) tt
  told_lasts m slots slot rows (Some steps) after h p (new, told, all) =
      subst (λ (x : Option (List Step)). IfSome x (HoldsLogFrom sound m (put_slot slots slot) slot.stamp)) (sym told)
      (saved_holds short sound respects m slots (checkpoint_of slot rows) steps new h (may_at m slots slot rows steps h p) p.stamp
      (subst (λ (file : File). SavesAll file (slot_bytes slot rows) 0 (removal_end slots) steps new) (ap other_of h.names) all))

pub told_part : (P Q : List Step → List Step → Type 0) (before after : Option (List Step)) → Tells P before after → Tells (λ old new. P old new ⊎ Q old new) before after
told_part P Q None after told = told
told_part P Q (Some old) after (new, told, p) = (new, told, inl p)

pub told_all : (P Q : List Step → List Step → Type 0) (before after : Option (List Step)) → Tells Q before after → Tells (λ old new. P old new ⊎ Q old new) before after
told_all P Q None after told = told
told_all P Q (Some old) after (new, told, q) = (new, told, inr q)
