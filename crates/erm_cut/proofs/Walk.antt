-- The walk to the place of a cut: the stamp of the version in hand is loaded, and its link where that isn't below the horizon.
use Rattle.std.proofs.Common.{◌≡◌, ◌≢◌, ℕ, ◌-◌, ◌%◌, ◌^◌, ◌<◌, ◌≤◌, ⊎_elim, Bool, true, length, Some, None, refl, sym, ap, ◌∙◌, subst, eqb, ltb, arith}
use Rattle.std.specs.Prelude.{if◌then◌else◌}
use Rattle.std.proofs.lemmas.Bool.{cases_eq, eq-eqb, ne_eqb, lt-ltb, le-ltb}
use Rattle.erm_machine.specs.declared.event.Kind.TheVariants as kind
use Rattle.erm_machine.specs.declared.limits.TheConstants.{OBJECT_LIMIT}
use Rattle.erm_machine.specs.declared.part.Part.{Part}
use Rattle.erm_machine.specs.declared.task.Task.{Task}
use Rattle.erm_machine.specs.declared.task.Task.TheVariants as task
use Rattle.erm_machine.specs.declared.version.CellWord.TheVariants as word
use Rattle.erm_machine.specs.declared.version.VersionAt.{VersionAt}
use Rattle.erm_machine.specs.Chains.{IsNamed, NamedInHand, IsAttached, CutInHand}
use Rattle.erm_machine.specs.Core.{Shared, spot_of, word_at, version_at}
use Rattle.erm_machine.specs.Reading.{after_cut, older, load_walked_stamp, load_walked_link}
use Rattle.erm_machine.specs.Seat.{with_task, is_active, same_version}
use Rattle.erm_machine.specs.Snapshot.{NewerFrom}
use Rattle.erm_machine.specs.Step.{part_after}
use Rattle.erm_rule.specs.declared.view.View.{View}
use Rattle.erm_rule.specs.Hands.{IsKnown, in_hand, walk_kind}
use Rattle.erm_rule.specs.Newest.{NewestInHand}
use Rattle.erm_rule.specs.Steps.{Ready, Told}
use Rattle.erm_rule.specs.Views.{part_in, part_of, with_part, IsView}
use Rattle.erm_rule.proofs.Numbered.{known_after}
use Rattle.erm_rule.proofs.Parts.{with_part-same}
use Rattle.erm_rule.proofs.Telling.{changed_here, part_of-changed}
use Rattle.erm_cells.proofs.Heads.{has}
use Rattle.erm_cells.proofs.Views.{when_true, both, first_branch, ready_at, told_next}
use Rattle.erm_cut.specs.Calls.{IsAtCut, IsFrom, DidFindCut, DidFindNone}

pub same_self : (v : VersionAt) → same_version v v ≡ true
same_self v = both _ _ (both _ _ (eq-eqb v.oid v.oid refl) (eq-eqb v.place v.place refl)) (eq-eqb v.cell v.cell refl)

-- The walk is at a version in this cell.
pub record IsWalking (v : View) (who horizon cell : ℕ) (w : View) : Type 0 where
  pub version : VersionAt
  pub cell_is : version.cell ≡ cell
  pub from : IsFrom (in_hand (part_of v who).task) version
  pub view_is : w ≡ with_part who (with_task (task.CutWalks version horizon) (part_of v who)) v
  pub known : IsKnown w

-- the task at the walk's start
at_cut_is : (t : Task) (cell horizon : ℕ) → IsAtCut t cell horizon → t ≡ task.CutWalks (in_hand t) horizon
at_cut_is (task.CutWalks version bound) cell horizon h = ap (λ n. task.CutWalks version n) h.1
at_cut_is _ cell horizon h = absurd h

at_cut_cell : (t : Task) (cell horizon : ℕ) → IsAtCut t cell horizon → (in_hand t).cell ≡ cell
at_cut_cell (task.CutWalks version bound) cell horizon h = h.0
at_cut_cell _ cell horizon h = absurd h

-- the head of a chain isn't the oldest version where its link isn't 0
positive : (cut place : ℕ) → cut ≤ place → (place ≡ cut → ⊥) → 0 < place
positive cut place le ne = omega (arith, le, ne)

module _ (v : View) (who : ℕ) (active : is_active (part_of v who).place ≡ true) (horizon : ℕ) where
  abbrev x : Part
  x = part_of v who

  pub starts_walking : (cell : ℕ) → IsKnown v → IsAtCut x.task cell horizon → IsWalking v who horizon cell v
  starts_walking cell known at = record {
    version = in_hand x.task;
    cell_is = at_cut_cell x.task cell horizon at;
    from = record { oid_is = refl; older = omega arith };
    view_is = sym (with_part-same who x v known.in_order (has v who active)) ∙ ap (λ (t : Task). with_part who (with_task t x) v) (at_cut_is x.task cell horizon at);
    known = known;
  }

  module _ (cell : ℕ) (u : View) (at : IsWalking v who horizon cell u) where
    abbrev version : VersionAt
    version = at.version

    abbrev walks : Part
    walks = with_task (task.CutWalks version horizon) x

    pub has_walks : part_in u who ≡ Some walks
    has_walks = changed_here v who u walks x (has v who active) at.view_is

    walks_is : part_of u who ≡ walks
    walks_is = part_of-changed v who u walks x (has v who active) at.view_is

    -- how far the walk may go
    pub left_is : (in_hand (part_of u who).task).place ≡ version.place
    left_is = ap (λ (z : Part). (in_hand z.task).place) walks_is

    named : IsNamed at.known.core.shared version
    named = subst (λ (z : Part). NamedInHand at.known.core.shared z.task) (at.known.is_view who walks has_walks) (at.known.sound.own who).chains.named

    pub object_walked : (in_hand (part_of u who).task).oid < OBJECT_LIMIT
    object_walked = subst (λ (z : Part). (in_hand z.task).oid < OBJECT_LIMIT) (sym walks_is) named.object

    pub cell_walked : (in_hand (part_of u who).task).cell ≡ cell
    cell_walked = ap (λ (z : Part). (in_hand z.task).cell) walks_is ∙ at.cell_is

    -- the stamp
    abbrev stamped : Bool → Part
    stamped low = with_task (if low then task.CutFound version horizon else task.CutPassed version horizon) x

    after_stamp : (found : ℕ) (s : Shared) → part_after who (kind.LoadCell version word.Stamp) found s walks ≡ Some (stamped (ltb found horizon))
    after_stamp found s =
        first_branch (is_active x.place) (load_walked_stamp found version walks walks.task) None _ active
        (when_true (same_version version version) (stamped (ltb found horizon)) (same_self version))

    pub ready_stamp : Ready u who (walk_kind (part_of u who) word.Stamp)
    ready_stamp =
        subst (λ (z : Part). Ready u who (walk_kind z word.Stamp)) (sym walks_is)
        (ready_at u who (kind.LoadCell version word.Stamp) walks has_walks (λ c. stamped (ltb (word_at c (spot_of who (kind.LoadCell version word.Stamp))) horizon))
        (λ c sound. after_stamp (word_at c (spot_of who (kind.LoadCell version word.Stamp))) c.shared))

    module _ (stamp : ℕ) (w : View) (told : Told u who (walk_kind (part_of u who) word.Stamp) stamp w) where
      told_stamp : Told u who (kind.LoadCell version word.Stamp) stamp w
      told_stamp = subst (λ (z : Part). Told u who (walk_kind z word.Stamp) stamp w) walks_is told

      stamped_is : w ≡ with_part who (stamped (ltb stamp horizon)) v
      stamped_is =
          told_next v who (kind.LoadCell version word.Stamp) stamp u w walks x (stamped (ltb stamp horizon)) (has v who active) at.view_is told_stamp (after_stamp stamp told_stamp.before.shared)

      known_stamped : IsKnown w
      known_stamped = known_after u who (kind.LoadCell version word.Stamp) stamp w told_stamp

      pub did_find : stamp < horizon → DidFindCut v who horizon cell w
      did_find low = record {
        version = version;
        cell_is = at.cell_is;
        from = at.from;
        view_is = stamped_is ∙ ap (λ (b : Bool). with_part who (stamped b) v) (lt-ltb stamp horizon low);
        known = known_stamped;
        newest =
            let is = stamped_is ∙ ap (λ (b : Bool). with_part who (stamped b) v) (lt-ltb stamp horizon low) in
            subst (λ (z : Part). NewestInHand known_stamped.core.shared z.task)
            (known_stamped.is_view who (stamped true) (changed_here v who w (stamped true) x (has v who active) is)) (known_stamped.cuts who);
      }

      -- the link
      module _ (high : horizon ≤ stamp) where
        abbrev passed : Part
        passed = with_task (task.CutPassed version horizon) x

        passed_is : w ≡ with_part who passed v
        passed_is = stamped_is ∙ ap (λ (b : Bool). with_part who (stamped b) v) (le-ltb stamp horizon high)

        pub has_passed : part_in w who ≡ Some passed
        has_passed = changed_here v who w passed x (has v who active) passed_is

        part_passed : part_of w who ≡ passed
        part_passed = part_of-changed v who w passed x (has v who active) passed_is

        pub known_passed : IsKnown w
        known_passed = known_stamped

        named_passed : IsNamed known_stamped.core.shared version
        named_passed = subst (λ (z : Part). NamedInHand known_stamped.core.shared z.task) (known_stamped.is_view who passed has_passed) (known_stamped.sound.own who).chains.named

        pub object_passed : (in_hand (part_of w who).task).oid < OBJECT_LIMIT
        object_passed = subst (λ (z : Part). (in_hand z.task).oid < OBJECT_LIMIT) (sym part_passed) named_passed.object

        pub cell_passed : (in_hand (part_of w who).task).cell ≡ cell
        cell_passed = ap (λ (z : Part). (in_hand z.task).cell) part_passed ∙ at.cell_is

        abbrev linked : ℕ → Bool → Part
        linked found last = with_task (if last then after_cut x else task.CutWalks (older version found) horizon) x

        after_link : (found : ℕ) (s : Shared) → part_after who (kind.LoadCell version word.Link) found s passed ≡ Some (linked found (eqb found 0))
        after_link found s =
            first_branch (is_active x.place) (load_walked_link found version passed passed.task) None _ active
            (when_true (same_version version version) (linked found (eqb found 0)) (same_self version))

        pub ready_link : Ready w who (walk_kind (part_of w who) word.Link)
        ready_link =
            subst (λ (z : Part). Ready w who (walk_kind z word.Link)) (sym part_passed)
            (ready_at w who (kind.LoadCell version word.Link) passed has_passed
            (λ c. linked (word_at c (spot_of who (kind.LoadCell version word.Link))) (eqb (word_at c (spot_of who (kind.LoadCell version word.Link))) 0))
            (λ c sound. after_link (word_at c (spot_of who (kind.LoadCell version word.Link))) c.shared))

        module _ (link : ℕ) (end : View) (told_any : Told w who (walk_kind (part_of w who) word.Link) link end) where
          told_link : Told w who (kind.LoadCell version word.Link) link end
          told_link = subst (λ (z : Part). Told w who (walk_kind z word.Link) link end) part_passed told_any

          linked_is : end ≡ with_part who (linked link (eqb link 0)) v
          linked_is =
              told_next v who (kind.LoadCell version word.Link) link w end passed x (linked link (eqb link 0)) (has v who active) passed_is told_link (after_link link told_link.before.shared)

          known_linked : IsKnown end
          known_linked = known_after w who (kind.LoadCell version word.Link) link end told_link

          -- an older version is there
          before : told_link.before.seats who ≡ passed
          before = told_link.is_view who passed has_passed

          attached : IsAttached told_link.before.shared passed version
          attached = subst (λ (z : Part). CutInHand told_link.before.shared z z.task) before (told_link.sound.own who).chains.cut

          named_before : IsNamed told_link.before.shared version
          named_before = subst (λ (z : Part). NamedInHand told_link.before.shared z.task) before (told_link.sound.own who).chains.named

          pub not_oldest : link ≢ 0 → 0 < version.place
          not_oldest some =
              positive _ version.place attached.attached
              (λ (same : version.place ≡ (told_link.before.shared.objects version.oid).cut).
              some
              (sym told_link.met
              ∙ ap (λ n. (version_at (told_link.before.shared.objects version.oid) n).words.link) same
              ∙ (told_link.sound.common.chains.linked version.oid named_before.object).oldest))

          -- or it is the oldest
          is_oldest : link ≡ 0 → version.place ≡ (told_link.before.shared.objects version.oid).cut
          is_oldest zero =
              ⊎_elim (λ (same : version.place ≡ (told_link.before.shared.objects version.oid).cut). same)
              (λ (ne : version.place ≡ (told_link.before.shared.objects version.oid).cut → ⊥).
              let low = attached.attached in
              let names = (told_link.sound.common.chains.linked version.oid named_before.object).older version.place (omega (arith, low, ne)) named_before.within in
              let met : (version_at (told_link.before.shared.objects version.oid) version.place).words.link ≡ link = told_link.met in
              absurd (omega (arith, names, met, zero)))
              (cases_eq version.place (told_link.before.shared.objects version.oid).cut)

          -- no version from the one passed on is below the horizon
          passed_over : NewerFrom (told_link.before.shared.objects version.oid) version.place horizon
              × (horizon ≤ (version_at (told_link.before.shared.objects version.oid) version.place).words.stamp)
          passed_over = subst (λ (z : Part). NewestInHand told_link.before.shared z.task) before (told_link.cuts who)

          none_low : (k : ℕ) → version.place ≤ k → k < length (told_link.before.shared.objects version.oid).versions
              → horizon ≤ (version_at (told_link.before.shared.objects version.oid) k).words.stamp
          none_low k from within =
              ⊎_elim
              (λ (same : k ≡ version.place).
              subst (λ n. horizon ≤ (version_at (told_link.before.shared.objects version.oid) n).words.stamp) (sym same) passed_over.1)
              (λ (ne : k ≡ version.place → ⊥). passed_over.0 k (omega (arith, from, ne)) within) (cases_eq k version.place)

          pub did_find_none : link ≡ 0 → DidFindNone v who horizon end
          did_find_none zero = record {
            passed = record {
              version = version;
              from = at.from;
              core = told_link.before;
              sound = told_link.sound;
              is_view = subst (λ (t : View). IsView t told_link.before) passed_is told_link.is_view;
              oldest = is_oldest zero;
              none_below = λ k attached_too within. let place = is_oldest zero in none_low k (omega (arith, attached_too, place)) within;
            };
            view_is = linked_is ∙ ap (λ (b : Bool). with_part who (linked link b) v) (eq-eqb link 0 zero);
            known = known_linked;
          }

          goes_is : link ≢ 0 → end ≡ with_part who (with_task (task.CutWalks (older version link) horizon) x) v
          goes_is some = linked_is ∙ ap (λ (b : Bool). with_part who (linked link b) v) (ne_eqb link 0 some)

          pub goes_less : link ≢ 0 → (in_hand (part_of end who).task).place < (in_hand (part_of u who).task).place
          goes_less some =
              let now : (in_hand (part_of end who).task).place ≡ version.place - 1 =
              ap (λ (z : Part). (in_hand z.task).place) (part_of-changed v who end (with_task (task.CutWalks (older version link) horizon) x) x (has v who active) (goes_is some)) in
              let was = left_is in
              let above = not_oldest some in
              omega (arith, now, was, above)

          pub goes_on : (next : ℕ) → link ≢ 0 → next ≡ (link - 1) % 2 ^ 32 → IsWalking v who horizon next end
          goes_on next some is = record {
            version = older version link;
            cell_is = sym is;
            from = record { oid_is = at.from.oid_is; older = let le = at.from.older in omega (arith, le) };
            view_is = goes_is some;
            known = known_linked;
          }
