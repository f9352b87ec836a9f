-- The cells that a swap of a link cuts off, in whatever state of a book it was taken.
use Rattle.std.proofs.Common.{◌≡◌, ◌≢◌, ℕ, Bool, true, false, List, ◌++◌, length, Option, Some, None, sym, ap, ◌∙◌, subst}
use Rattle.std.specs.Prelude.{if◌then◌else◌, nat_lt}
use Rattle.std.proofs.lemmas.List.{append_cancel_left}
use Rattle.std.proofs.lemmas.Option.{same_Some}
use Rattle.erm_machine.specs.declared.attempt.OwnCell.{OwnCell}
use Rattle.erm_machine.specs.declared.event.Kind.{Kind}
use Rattle.erm_machine.specs.declared.limits.TheConstants.{OBJECT_LIMIT}
use Rattle.erm_machine.specs.declared.part.Part.{Part}
use Rattle.erm_machine.specs.Core.{Core, spot_of, word_at}
use Rattle.erm_machine.specs.Reading.{cut_off}
use Rattle.erm_machine.specs.Seat.{is_active}
use Rattle.erm_machine.specs.Step.{after_event, moved, part_after}
use Rattle.erm_machine.proofs.Frames.{put_same}
use Rattle.erm_model.specs.RowTransaction.{Law}
use Rattle.erm_rule.specs.declared.view.Book.{Book}
use Rattle.erm_rule.specs.Books.{IsBookOf}
use Rattle.erm_rule.specs.Hands.{IsKnown, in_hand}
use Rattle.erm_rule.specs.Steps.{Booked, Told}
use Rattle.erm_rule.specs.Views.{IsView, part_in, part_of}
use Rattle.erm_rule.specs.Went.{Went, IsLoadStep}
use Rattle.erm_rule.proofs.Telling.{changed_here, part_of-changed}
use Rattle.erm_rule.proofs.Wents.{went_none, went_step}
use Rattle.erm_cells.specs.Hands.{detached_kind, swap_kind}
use Rattle.erm_cells.proofs.Heads.{has}
use Rattle.erm_cut.specs.Calls.{IsFoundCut}
use Rattle.erm_cut.specs.Took.{AreBehind, TookDetach}
use Rattle.erm_cut.proofs.OffChain as off
use Rattle.erm_cut.proofs.OffChain.{IsDetaching}

-- the seat's part after its step
part_left : (c d : Core) (who : ℕ) (k : Kind) (known : Bool) (o : Option Part) (y : Part) → (if known then moved who k (word_at c (spot_of who k)) c o else None) ≡ Some d → o ≡ Some y → d.seats who ≡ y
part_left c d who k true (Some z) y e at = ap (λ (s : Core). s.seats who) (sym (same_Some _ d e)) ∙ put_same c.seats who z ∙ same_Some z y at
part_left c d who k true None y e at = absurd (cc)
part_left c d who k false o y e at = absurd (cc)

-- a link was swapped, and then loads
pub record HasSwapTaken (law : Law) (who : ℕ) (b e : Book) : Type 0 where
  pub swapped : Book
  pub link : ℕ
  pub swap : Booked law b who (swap_kind (part_of b.view who)) link swapped
  pub cut : List OwnCell
  pub cells : (c d : Core) → IsBookOf b c → IsBookOf swapped d → after_event c who (swap_kind (part_of b.view who)) ≡ Some d → AreBehind (in_hand (part_of b.view who).task) cut c
  pub spare : (part_of e.view who).spare ≡ (part_of b.view who).spare ++ cut
  pub loads : Went law who IsLoadStep swapped e

module _ (law : Law) (who : ℕ) (b : Book) (active : is_active (part_of b.view who).place ≡ true) where
  abbrev x : Part
  x = part_of b.view who

  module _ (cell : ℕ) (known : IsKnown b.view) (at : IsFoundCut (part_of b.view who).task cell) (link : ℕ) (e : Book) (booked : Booked law b who (swap_kind (part_of b.view who)) link e) where
    abbrev told : Told b.view who (swap_kind (part_of b.view who)) link e.view
    told = booked.under.told

    abbrev cut : List OwnCell
    cut = cut_off (in_hand x.task).place (told.before.shared.objects (in_hand x.task).oid)

    abbrev swapped : ℕ → List OwnCell → Part
    swapped n cells = off.swapped_part b.view who active cell known at n cells

    after_is : part_in e.view who ≡ Some (swapped link cut)
    after_is = changed_here b.view who e.view (swapped link cut) x (has b.view who active) (off.swapped_is b.view who active cell known at link e.view told)

    behind : (c d : Core) → IsView b.view c → IsView e.view d → after_event c who (swap_kind x) ≡ Some d → AreBehind (in_hand x.task) cut c
    behind c d is since event =
        let same : c.seats who ≡ x = is who x (has b.view who active) in
        let n : ℕ = word_at c (spot_of who (swap_kind x)) in
        let others : List OwnCell = cut_off (in_hand x.task).place (c.shared.objects (in_hand x.task).oid) in
        let part : part_after who (swap_kind x) n c.shared (c.seats who) ≡ Some (swapped n others) =
        subst (λ (z : Part). part_after who (swap_kind x) n c.shared z ≡ Some (swapped n others)) (sym same) (off.after_swap b.view who active cell known at n c.shared)
        in
        let left : d.seats who ≡ swapped n others = part_left c d who (swap_kind x) (nat_lt (in_hand x.task).oid OBJECT_LIMIT) _ (swapped n others) event part in
        append_cancel_left x.spare cut others (ap (λ (z : Part). z.spare) (sym (since who (swapped link cut) after_is) ∙ left))

    pub swap_taken : HasSwapTaken law who b e
    swap_taken = record {
      swapped = e;
      link = link;
      swap = booked;
      cut = cut;
      cells = λ c d of since event. behind c d of.is_view since.is_view event;
      spare = ap (λ (z : Part). z.spare) (part_of-changed b.view who e.view (swapped link cut) x (has b.view who active) (off.swapped_is b.view who active cell known at link e.view told));
      loads = went_none law who IsLoadStep e;
    }

  module _ (link count : ℕ) (cells : List ℕ) (m : Book) (walk : IsDetaching b.view who link count cells m.view) (so : HasSwapTaken law who b m) where
    pub swap_goes_on : link ≢ 0 → (found : ℕ) (e : Book) → Booked law m who (detached_kind (part_of m.view who)) found e → HasSwapTaken law who b e
    swap_goes_on some found e booked = record {
      swapped = so.swapped;
      link = so.link;
      swap = so.swap;
      cut = so.cut;
      cells = so.cells;
      spare = off.same_spare b.view who active link count cells m.view walk some found e.view booked.under.told ∙ so.spare;
      loads = went_step law who IsLoadStep so.swapped m e _ found so.loads tt booked;
    }

    pub took_detach : link ≡ 0 → TookDetach law who count b m
    took_detach none =
        let here : x.spare ++ walk.cut ≡ x.spare ++ so.cut = sym (ap (λ (z : Part). z.spare) (off.here_is b.view who active link count cells m.view walk)) ∙ so.spare in
        record {
          swapped = so.swapped;
          link = so.link;
          swap = so.swap;
          cut = so.cut;
          count_is = off.all_cut b.view who active link count cells m.view walk none ∙ ap (λ (l : List OwnCell). length l) (append_cancel_left x.spare walk.cut so.cut here);
          cells = so.cells;
          spare = so.spare;
          loads = so.loads;
        }
