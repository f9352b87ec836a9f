-- A desk that was just set up.
use Rattle.std.proofs.Common.{◌≡◌, ℕ, ◌^◌, ◌<◌, false, List, [], ◌∷◌, ◌++◌, Option, Some, None, IfSome, refl, subst, arith}
use Rattle.erm_block.specs.declared.block.Block.{Block}
use Rattle.erm_checkpoint.specs.Taken.{state_at}
use Rattle.erm_ckpt.specs.declared.slot.TheConstants.{LOG_START}
use Rattle.erm_crash.specs.Kept.{KeepsBlocks}
use Rattle.erm_core_turns.proofs.Blocks.{flushed_upto}
use Rattle.erm_gathered.proofs.Lasting.{has_none}
use Rattle.erm_model.specs.RowTransaction.{Law}
use Rattle.erm_outside.specs.Disk.{Step}
use Rattle.erm_pin.specs.Pins.{IsUnpinned}
use Rattle.erm_ring.specs.Turns.{MayGather}
use Rattle.erm_rule.specs.declared.view.Book.{Book}
use Rattle.erm_rule.specs.declared.view.Start.{Start}
use Rattle.erm_rule.specs.Views.{MayJoin}
use Rattle.erm_world.specs.Log.{IsLog}
use Rattle.erm_desk.specs.Desk.{IsDesk, IsHeld, KeepsFronts, WritesSince}
use Rattle.erm_desk.specs.Known.{IsFlushedTo, KnowsBlocks, flushed_log, opened_at}
use Rattle.erm_desk.proofs.Meeting.{meets_still}
use Rattle.erm_desk.proofs.Since.{Begins, all_held}
use Rattle.erm_desk.proofs.Telling.{tells_still}

none_front : (front rest : List Block) → [] ≡ front ++ rest → front ≡ []
none_front [] rest same = refl
none_front (b ∷ bs) rest same = absurd (cc)

module _ (law : Law) (begins : Begins law) (o : Start) where
  fronts_now : (now : List Step) → IsHeld law o [] now → KeepsFronts law o [] now now
  fronts_now now (slots, held) =
      let since = begins (flushed_log o []) slots now held in
      subst (λ (bs : List Block). KeepsBlocks law.meets (state_at (flushed_log o []) []) bs o.tail now now) (none_front since.front since.rest since.split) since.moments

  keeps_now : (told : Option (List Step)) → IfSome told (IsHeld law o []) → IfSome told (λ now. IfSome told (λ old. KeepsFronts law o [] old now))
  keeps_now None held = tt
  keeps_now (Some now) held = fronts_now now held

  writes_now : (told : Option (List Step)) → IfSome told (λ now. IfSome told (λ old. WritesSince o [] old now))
  writes_now None = tt
  writes_now (Some now) = ([], refl, tt)

  pub begun : (b : Book) (told : Option (List Step)) (faults : ℕ) → LOG_START < o.tail → o.tail < 2 ^ 61 → MayGather b.view → MayJoin b.view → b.start ≡ o → IsFlushedTo b o.tail
      → IsUnpinned b.view → law.meets (opened_at o).rows → IfSome told (IsHeld law o []) → IsDesk law o told faults (record { book = b; told = told; faults = faults; failed = false })
  begun b told faults behind low may joins start flushed unpinned meets held =
      let log : IsLog law.meets (flushed_log o []) = record {
        opening = meets;
        chain = tt;
        one_run = λ k d within. absurd (omega (arith, within));
        flushed = record { front = []; rest = []; split = refl; behind = refl };
        within = omega arith;
        places = omega (arith, low);
        decided = λ place below. refl;
        pinned = tt;
      } in
      let knows : KnowsBlocks law o b [] = record { start = start; log = log; whole = λ c is. has_none o.tail c } in
      record {
        behind = behind;
        may = may;
        joins = joins;
        blocks = [];
        knows = knows;
        flushed = flushed;
        tail = o.tail;
        pin = None;
        end = record {
          is_log = log;
          pin = unpinned;
          ended = λ c is. let within = (flushed_upto c is.sound).within in let at = flushed c is in omega (arith, within, at);
        };
        tried = [];
        knows_all = knows;
        keeps = keeps_now told held;
        writes = writes_now told;
        onward = tells_still told;
        since = all_held law begins o told told [] [] held (writes_now told);
        holds = λ _. (refl, held);
        meets = λ _. meets_still law o told;
        sound = λ _. refl;
        rose = λ failed. absurd (cc);
      }
