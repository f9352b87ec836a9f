-- The loads of a horizon, one after another.
use Rattle.std.proofs.Common.{◌≡◌, ℕ, ◌+◌, ◌<◌, ◌≤◌, ⊎_elim, true, List, [], ◌∷◌, ◌++◌, length, get_or, Some, refl, sym, ap, ◌∙◌, subst, eqb, arith, length-append}
use Rattle.std.proofs.lemmas.Bool.{cases_eq, eq-eqb, ne_eqb, lt-ltb}
use Rattle.std.proofs.lemmas.List.{get_or_append_left}
use Rattle.std.proofs.Math.Seq.{get_or-append_seam}
use Rattle.erm_machine.specs.declared.event.Kind.TheVariants as kind
use Rattle.erm_machine.specs.declared.event.TailUse.TheVariants as purpose
use Rattle.erm_machine.specs.declared.limits.TheConstants.{ANNOUNCERS}
use Rattle.erm_machine.specs.declared.part.Part.{Part}
use Rattle.erm_machine.specs.declared.task.Task.{Task}
use Rattle.erm_machine.specs.declared.task.Task.TheVariants as task
use Rattle.erm_machine.specs.Core.{Shared}
use Rattle.erm_machine.specs.Life.{load_begin, load_tail_for_horizon, lower}
use Rattle.erm_machine.specs.Seat.{is_active}
use Rattle.erm_machine.specs.Step.{part_after}
use Rattle.erm_machine.specs.Words.{begin_of, is_seat}
use Rattle.erm_rule.specs.declared.view.View.{View}
use Rattle.erm_rule.specs.Hands.{in_hand}
use Rattle.erm_rule.specs.Steps.{Ready, Told}
use Rattle.erm_rule.specs.Views.{part_in, part_of, IsView}
use Rattle.erm_rule.proofs.Numbered.{known_after}
use Rattle.erm_rule.proofs.Telling.{changed_here}
use Rattle.erm_cells.proofs.Heads.{has}
use Rattle.erm_cells.proofs.Views.{when_true, both, refuse, ready_at, told_is, told_next}
use Rattle.erm_cut.specs.Calls.{IsClaimed, FindsBegin, least_of, looking_part, HasLoaded}

-- the least with one more
least_of-more : (least : ℕ) (words : List ℕ) (found : ℕ) → least_of least (words ++ found ∷ []) ≡ lower (least_of least words) found
least_of-more least [] found = refl
least_of-more least (word ∷ words) found = least_of-more (lower least word) words found

-- a seat of the loop has words
pub seat_here : (seat : ℕ) → 1 ≤ seat → seat < ANNOUNCERS → is_seat seat ≡ true
seat_here seat low high = grind arith

claimed_is : (t : Task) → IsClaimed t → t ≡ task.Claimed (in_hand t)
claimed_is (task.Claimed version) h = refl
claimed_is _ h = absurd h

module _ (v : View) (who : ℕ) (active : is_active (part_of v who).place ≡ true) (claimed : IsClaimed (part_of v who).task) where
  abbrev x : Part
  x = part_of v who

  -- the tail
  after_tail : (tail : ℕ) (s : Shared) → part_after who (kind.LoadTail purpose.Horizon) tail s x ≡ Some (looking_part tail tail 1 x)
  after_tail tail s =
      subst (λ (t : Task). load_tail_for_horizon tail x t ≡ Some (looking_part tail tail 1 x)) (sym (claimed_is x.task claimed))
      (when_true (is_active x.place) (looking_part tail tail 1 x) active)

  pub ready_tail : Ready v who (kind.LoadTail purpose.Horizon)
  ready_tail = ready_at v who (kind.LoadTail purpose.Horizon) x (has v who active) (λ c. looking_part c.shared.tail c.shared.tail 1 x) (λ c sound. after_tail c.shared.tail c.shared)

  pub tail_loaded : (tail : ℕ) (w : View) → Told v who (kind.LoadTail purpose.Horizon) tail w → HasLoaded v who 1 tail w
  tail_loaded tail w told = record {
    tail = tail;
    begins = [];
    found = record { core = told.before; sound = told.sound; is_view = told.is_view; tail_is = told.met };
    count = refl;
    loaded = λ k h. absurd (omega (arith, h));
    least_is = refl;
    view_is = told_is v who (kind.LoadTail purpose.Horizon) tail w x (looking_part tail tail 1 x) (has v who active) told (after_tail tail told.before.shared);
    known = known_after v who (kind.LoadTail purpose.Horizon) tail w told;
  }

  -- a begin word
  module _ (next least : ℕ) (u : View) (so_far : HasLoaded v who next least u) (here : next < ANNOUNCERS) where
    abbrev looking : Part
    looking = looking_part so_far.tail least next x

    looks : looking.task ≡ task.Horizon (in_hand x.task) least next
    looks = refuse (eqb next ANNOUNCERS) _ _ (ne_eqb next ANNOUNCERS (λ same. absurd (omega (arith, same, here))))

    after_begin : (found : ℕ) (s : Shared) → part_after who (kind.LoadBegin next) found s looking ≡ Some (looking_part so_far.tail (lower least found) (next + 1) x)
    after_begin found s =
        subst (λ (t : Task). load_begin who next found looking t ≡ Some (looking_part so_far.tail (lower least found) (next + 1) x)) (sym looks)
        (when_true _ (looking_part so_far.tail (lower least found) (next + 1) x) (both _ _ (both _ _ active (eq-eqb next next refl)) (lt-ltb next ANNOUNCERS here)))

    pub has_looking : part_in u who ≡ Some looking
    has_looking = changed_here v who u looking x (has v who active) so_far.view_is

    pub ready_begin : Ready u who (kind.LoadBegin next)
    ready_begin =
        ready_at u who (kind.LoadBegin next) looking has_looking (λ c. looking_part so_far.tail (lower least (begin_of (c.seats next).place)) (next + 1) x)
        (λ c sound. after_begin (begin_of (c.seats next).place) c.shared)

    module _ (found : ℕ) (w : View) (told : Told u who (kind.LoadBegin next) found w) where
      finds : FindsBegin v who next found
      finds = record {
        core = told.before;
        sound = told.sound;
        part = looking;
        is_view = subst (λ (z : View). IsView z told.before) so_far.view_is told.is_view;
        begin_is = told.met;
      }

      finds_at : (k : ℕ) → k < length (so_far.begins ++ found ∷ []) → FindsBegin v who (k + 1) (get_or (so_far.begins ++ found ∷ []) k 0)
      finds_at k h =
          ⊎_elim
          (λ (last : k ≡ length so_far.begins).
          let at : get_or (so_far.begins ++ found ∷ []) k 0 ≡ found = ap (λ n. get_or (so_far.begins ++ found ∷ []) n 0) last ∙ get_or-append_seam so_far.begins found [] 0 in
          let seat : k + 1 ≡ next = ap (λ n. n + 1) last ∙ so_far.count in
          subst (λ n. FindsBegin v who n (get_or (so_far.begins ++ found ∷ []) k 0)) (sym seat) (subst (λ n. FindsBegin v who next n) (sym at) finds))
          (λ (ne : k ≡ length so_far.begins → ⊥).
          let before : k < length so_far.begins = let size = length-append so_far.begins (found ∷ []) in omega (arith, size, h, ne) in
          subst (λ n. FindsBegin v who (k + 1) n) (sym (get_or_append_left so_far.begins (found ∷ []) 0 k before)) (so_far.loaded k before))
          (cases_eq k (length so_far.begins))

      pub begin_loaded : HasLoaded v who (next + 1) (lower least found) w
      begin_loaded = record {
        tail = so_far.tail;
        begins = so_far.begins ++ found ∷ [];
        found = so_far.found;
        count = let size = length-append so_far.begins (found ∷ []) in let count = so_far.count in omega (arith, size, count);
        loaded = finds_at;
        least_is = ap (λ n. lower n found) so_far.least_is ∙ sym (least_of-more so_far.tail so_far.begins found);
        view_is = told_next v who (kind.LoadBegin next) found u w looking x (looking_part so_far.tail (lower least found) (next + 1) x) (has v who active) so_far.view_is told (after_begin found told.before.shared);
        known = known_after u who (kind.LoadBegin next) found w told;
      }
