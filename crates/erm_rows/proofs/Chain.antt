-- The cut of a claimed object's chain: the horizon, and the cut.
use Rattle.std.proofs.Common.{◌≡◌, ℕ, true, List, refl, sym, ap, ◌∙◌, subst}
use Rattle.erm_machine.specs.declared.part.Part.{Part}
use Rattle.erm_machine.specs.declared.task.Task.{Task}
use Rattle.erm_machine.specs.declared.task.Task.TheVariants as task
use Rattle.erm_machine.specs.Seat.{is_active}
use Rattle.erm_rule.specs.declared.view.View.{View}
use Rattle.erm_rule.specs.Hands.{in_hand}
use Rattle.erm_rule.specs.Views.{part_of, with_part}
use Rattle.erm_rule.proofs.Parts.{with_part-again}
use Rattle.erm_rule.proofs.Telling.{part_of-changed}
use Rattle.erm_cells.specs.Spare.{SpareIs}
use Rattle.erm_cells.proofs.Heads.{has}
use Rattle.erm_cut.specs.Calls.{cut_part, DidCut, DidHorizon, IsAtCut, IsClaimed}
use Rattle.erm_rows.specs.Claims.{DidCutChain, IsClaimedHead}

pub head_claimed : (t : Task) (head : ℕ) → IsClaimedHead t head → IsClaimed t
head_claimed (task.Claimed version) head is = tt
head_claimed _ head is = absurd is

head_cell : (t : Task) (head : ℕ) → IsClaimedHead t head → (in_hand t).cell ≡ head
head_cell (task.Claimed version) head is = is
head_cell _ head is = absurd is

module _ (v : View) (who head : ℕ) (active : is_active (part_of v who).place ≡ true) (claimed : IsClaimedHead (part_of v who).task head) (horizon : ℕ) (walks : View)
    (found : DidHorizon v who horizon walks) where
  abbrev x : Part
  x = part_of v who

  abbrev b : Part
  b = record x { task = task.CutWalks (in_hand x.task) horizon; seen = found.tail }

  b_is : part_of walks who ≡ b
  b_is = part_of-changed v who walks b x (has v who active) found.view_is

  pub active_there : is_active (part_of walks who).place ≡ true
  active_there = ap (λ (z : Part). is_active z.place) b_is ∙ active

  pub at_head : IsAtCut (part_of walks who).task head horizon
  at_head = subst (λ (z : Part). IsAtCut z.task head horizon) (sym b_is) (head_cell x.task head claimed, refl)

  pub spare_there : (cells : List ℕ) → SpareIs cells x → SpareIs cells (part_of walks who)
  spare_there cells is = subst (λ (z : Part). SpareIs cells z) (sym b_is) is

  pub did_cut_chain : (count : ℕ) (w : View) → DidCut walks who horizon count w → DidCutChain v who count w
  did_cut_chain count w done = record {
    horizon = horizon;
    walks = walks;
    found = found;
    done = done;
    view_is =
        done.view_is
        ∙ ap (λ (z : Part). with_part who (cut_part done.cut z) walks) b_is
        ∙ ap (λ (t : View). with_part who (cut_part done.cut b) t) found.view_is
        ∙ with_part-again who b (cut_part done.cut b) v;
    known = done.known;
  }
