-- A safe snapshot's walk: the stamp of the version in hand is loaded, and where it isn't below the begin stamp its link.
use Rattle.std.proofs.Common.{◌≡◌, ℕ, ◌-◌, ◌%◌, ◌^◌, ◌<◌, ◌≤◌, Bool, true, Option, Some, None, is_some, refl, sym, ap, ◌∙◌, subst, ltb, arith}
use Rattle.std.specs.Prelude.{if◌then◌else◌}
use Rattle.std.proofs.lemmas.Bool.{le-ltb, lt-ltb}
use Rattle.erm_machine.specs.declared.event.Kind.TheVariants as kind
use Rattle.erm_machine.specs.declared.limits.TheConstants.{OBJECT_LIMIT}
use Rattle.erm_machine.specs.declared.part.Part.{Part}
use Rattle.erm_machine.specs.declared.task.Task.{Task}
use Rattle.erm_machine.specs.declared.task.Task.TheVariants as task
use Rattle.erm_machine.specs.declared.version.CellWord.TheVariants as word
use Rattle.erm_machine.specs.declared.version.VersionAt.{VersionAt}
use Rattle.erm_machine.specs.Chains.{IsNamed, NamedInHand}
use Rattle.erm_machine.specs.Core.{Core, Shared, spot_of, version_at, word_at}
use Rattle.erm_machine.specs.Facts.{HasBegun}
use Rattle.erm_machine.specs.Reading.{load_walked_link, load_walked_stamp, older}
use Rattle.erm_machine.specs.Seat.{with_task, is_active, same_version}
use Rattle.erm_machine.specs.Snapshot.{InHand}
use Rattle.erm_machine.specs.Sound.{Own, Sound}
use Rattle.erm_machine.specs.Step.{part_after}
use Rattle.erm_machine.proofs.Holders.{begun_attached}
use Rattle.erm_machine.proofs.QuietKinds.{begun_active}
use Rattle.erm_rule.specs.declared.view.View.{View}
use Rattle.erm_rule.specs.Hands.{IsKnown, in_hand, walk_kind}
use Rattle.erm_rule.specs.Steps.{Ready, Told}
use Rattle.erm_rule.specs.Views.{part_in, part_of, with_part}
use Rattle.erm_rule.proofs.Parts.{with_part-same}
use Rattle.erm_rule.proofs.Telling.{changed_here, part_of-changed, ready_by}
use Rattle.erm_cells.proofs.After.{after_known}
use Rattle.erm_cells.proofs.Heads.{has, same_self}
use Rattle.erm_cells.proofs.Views.{when_true, both, first_branch, ready_at, told_next}
use Rattle.erm_safe_reads.specs.Calls.{DidReachSafe, IsSafeWalking}

-- the version in hand
record WasWalking (t : Task) (cell : ℕ) : Type 0 where
  pub version : VersionAt
  pub is : t ≡ task.SafeWalks version
  pub cell_is : version.cell ≡ cell

was_walking : (t : Task) (cell : ℕ) → IsSafeWalking t cell → WasWalking t cell
was_walking (task.SafeWalks version) cell h = record { version = version; is = refl; cell_is = h }
was_walking _ cell h = absurd h

-- the walk has come to a version in this cell
pub record WalksOn (v : View) (who cell : ℕ) (w : View) : Type 0 where
  pub version : VersionAt
  pub oid_is : version.oid ≡ (in_hand (part_of v who).task).oid
  pub cell_is : version.cell ≡ cell
  pub view_is : w ≡ with_part who (with_task (task.SafeWalks version) (part_of v who)) v
  pub known : IsKnown w

-- what a sound state with these parts says of the seat
pub own_in : (v : View) (who : ℕ) (x : Part) (known : IsKnown v) → part_in v who ≡ Some x → Own known.core.shared who x
own_in v who x known has = subst (λ (z : Part). Own known.core.shared who z) (known.is_view who x has) (known.sound.own who)

impossible : (s b : ℕ) → s < b → b ≤ s → ⊥
impossible s b lt le = omega (arith, lt, le)

-- A version whose stamp isn't below the begin stamp has an older one in its chain: its link isn't 0.
module _ (c : Core) (p : ℕ) (sound : Sound c) (active : is_active (c.seats p).place ≡ true) (u : VersionAt) (at : (c.seats p).task ≡ task.SafePassed u) where
  begun : HasBegun (c.seats p).place
  begun = begun_active (c.seats p).place active

  named : IsNamed c.shared u
  named = subst (λ (t : Task). NamedInHand c.shared t) at (sound.own p).chains.named

  hand : InHand c.shared (c.seats p).current.begin (task.SafePassed u)
  hand = subst (λ (t : Task). InHand c.shared (c.seats p).current.begin t) at (sound.own p).snapshot.in_hand

  above : (c.shared.objects u.oid).cut < u.place
  above =
      let cut = (c.shared.objects u.oid).cut in
      let attached : cut ≤ u.place = begun_attached c p u.oid u.place sound named.object begun hand.0 in
      let below : (version_at (c.shared.objects u.oid) cut).words.stamp < (c.seats p).current.begin = (sound.own p).attached.below u.oid named.object begun in
      let not_cut : cut ≡ u.place → ⊥ = λ same. impossible _ _ (subst (λ (n : ℕ). (version_at (c.shared.objects u.oid) n).words.stamp < (c.seats p).current.begin) same below) hand.1 in
      omega (arith, attached, not_cut)

  pub place_above : 0 < u.place
  place_above = omega (arith, above)

  pub link_above : 0 < (version_at (c.shared.objects u.oid) u.place).words.link
  link_above = let is = (sound.common.chains.linked u.oid named.object).older u.place above named.within in omega (arith, is)

module _ (v : View) (who begin : ℕ) (active : is_active (part_of v who).place ≡ true) (begin_is : (part_of v who).current.begin ≡ begin) where
  abbrev x : Part
  x = part_of v who

  pub starts : (cell : ℕ) → IsKnown v → IsSafeWalking (part_of v who).task cell → WalksOn v who cell v
  starts cell known walks =
      let was = was_walking x.task cell walks in
      record {
        version = was.version;
        oid_is = ap (λ (t : Task). (in_hand t).oid) (sym was.is);
        cell_is = was.cell_is;
        view_is = sym (with_part-same who x v known.in_order (has v who active)) ∙ ap (λ (t : Task). with_part who (with_task t x) v) was.is;
        known = known;
      }

  module _ (cell : ℕ) (w : View) (on : WalksOn v who cell w) where
    abbrev a : Part
    a = with_task (task.SafeWalks on.version) x

    pub has_walking : part_in w who ≡ Some a
    has_walking = changed_here v who w a x (has v who active) on.view_is

    a_is : part_of w who ≡ a
    a_is = part_of-changed v who w a x (has v who active) on.view_is

    pub object_walked : (in_hand (part_of w who).task).oid < OBJECT_LIMIT
    object_walked = subst (λ (z : Part). (in_hand z.task).oid < OBJECT_LIMIT) (sym a_is) (own_in w who a on.known has_walking).chains.named.object

    pub cell_walked : (in_hand (part_of w who).task).cell ≡ cell
    cell_walked = ap (λ (z : Part). (in_hand z.task).cell) a_is ∙ on.cell_is

    -- the stamp
    abbrev found_or_passed : ℕ → Bool → Part
    found_or_passed stamp below = with_task (if below then task.SafeFound on.version else task.SafePassed on.version) x

    after_stamp : (stamp : ℕ) (s : Shared) → part_after who (kind.LoadCell on.version word.Stamp) stamp s a ≡ Some (found_or_passed stamp (ltb stamp x.current.begin))
    after_stamp stamp s =
        first_branch (is_active x.place) (load_walked_stamp stamp on.version a a.task) None _ active
        (when_true (same_version on.version on.version) (found_or_passed stamp (ltb stamp x.current.begin)) (same_self on.version))

    pub ready_stamp : Ready w who (walk_kind (part_of w who) word.Stamp)
    ready_stamp =
        subst (λ (z : Part). Ready w who (walk_kind z word.Stamp)) (sym a_is)
        (ready_at w who (kind.LoadCell on.version word.Stamp) a has_walking
        (λ c. found_or_passed (word_at c (spot_of who (kind.LoadCell on.version word.Stamp))) (ltb (word_at c (spot_of who (kind.LoadCell on.version word.Stamp))) x.current.begin))
        (λ c sound. after_stamp (word_at c (spot_of who (kind.LoadCell on.version word.Stamp))) c.shared))

    module _ (stamp : ℕ) (w1 : View) (first : Told w who (walk_kind (part_of w who) word.Stamp) stamp w1) where
      told1 : Told w who (kind.LoadCell on.version word.Stamp) stamp w1
      told1 = subst (λ (z : Part). Told w who (walk_kind z word.Stamp) stamp w1) a_is first

      loaded_is : w1 ≡ with_part who (found_or_passed stamp (ltb stamp x.current.begin)) v
      loaded_is =
          told_next v who (kind.LoadCell on.version word.Stamp) stamp w w1 a x (found_or_passed stamp (ltb stamp x.current.begin)) (has v who active) on.view_is told1
          (after_stamp stamp told1.before.shared)

      known1 : IsKnown w1
      known1 = after_known w who (kind.LoadCell on.version word.Stamp) stamp w1 told1

      -- it is below the begin stamp
      pub did_reach : stamp < begin → DidReachSafe v who cell w1
      did_reach low =
          let b : Part = found_or_passed stamp true in
          let below : ltb stamp x.current.begin ≡ true = lt-ltb _ _ (subst (λ (n : ℕ). stamp < n) (sym begin_is) low) in
          let is : w1 ≡ with_part who b v = loaded_is ∙ ap (λ (t : Bool). with_part who (found_or_passed stamp t) v) below in
          record {
            version = on.version;
            oid_is = on.oid_is;
            cell_is = on.cell_is;
            view_is = is;
            known = known1;
          }

      -- it isn't: the link
      module _ (high : begin ≤ stamp) where
        abbrev b : Part
        b = with_task (task.SafePassed on.version) x

        passed_is : w1 ≡ with_part who b v
        passed_is = loaded_is ∙ ap (λ (t : Bool). with_part who (found_or_passed stamp t) v) (le-ltb stamp x.current.begin (subst (λ (n : ℕ). n ≤ stamp) (sym begin_is) high))

        pub has_passed : part_in w1 who ≡ Some b
        has_passed = changed_here v who w1 b x (has v who active) passed_is

        b_is : part_of w1 who ≡ b
        b_is = part_of-changed v who w1 b x (has v who active) passed_is

        pub known_passed : IsKnown w1
        known_passed = known1

        pub object_passed : (in_hand (part_of w1 who).task).oid < OBJECT_LIMIT
        object_passed = subst (λ (z : Part). (in_hand z.task).oid < OBJECT_LIMIT) (sym b_is) (own_in w1 who b known1 has_passed).chains.named.object

        pub cell_passed : (in_hand (part_of w1 who).task).cell ≡ cell
        cell_passed = ap (λ (z : Part). (in_hand z.task).cell) b_is ∙ on.cell_is

        abbrev next : ℕ → Part
        next link = with_task (task.SafeWalks (older on.version link)) x

        after_link : (link : ℕ) (s : Shared) → 0 < link → 0 < on.version.place → part_after who (kind.LoadCell on.version word.Link) link s b ≡ Some (next link)
        after_link link s some above =
            first_branch (is_active x.place) (load_walked_link link on.version b b.task) None _ active
            (when_true _ (next link) (both _ _ (both _ _ (same_self on.version) (lt-ltb _ _ some)) (lt-ltb _ _ above)))

        -- in each sound state with the seat's part
        active_in : (c : Core) → c.seats who ≡ b → is_active (c.seats who).place ≡ true
        active_in c is = ap (λ (z : Part). is_active z.place) is ∙ active

        task_in : (c : Core) → c.seats who ≡ b → (c.seats who).task ≡ task.SafePassed on.version
        task_in c is = ap (λ (z : Part). z.task) is

        pub ready_link : Ready w1 who (walk_kind (part_of w1 who) word.Link)
        ready_link =
            subst (λ (z : Part). Ready w1 who (walk_kind z word.Link)) (sym b_is)
            (ready_by w1 who (kind.LoadCell on.version word.Link) b has_passed
            (λ c sound is.
            ap (λ (o : Option Part). is_some o)
            (after_link (word_at c (spot_of who (kind.LoadCell on.version word.Link))) c.shared (link_above c who sound (active_in c is) on.version (task_in c is))
            (place_above c who sound (active_in c is) on.version (task_in c is)))))

        module _ (link : ℕ) (w2 : View) (second : Told w1 who (walk_kind (part_of w1 who) word.Link) link w2) where
          told2 : Told w1 who (kind.LoadCell on.version word.Link) link w2
          told2 = subst (λ (z : Part). Told w1 who (walk_kind z word.Link) link w2) b_is second

          seat_is : told2.before.seats who ≡ b
          seat_is = told2.is_view who b has_passed

          place_positive : 0 < on.version.place
          place_positive = place_above told2.before who told2.sound (active_in told2.before seat_is) on.version (task_in told2.before seat_is)

          pub link_positive : 0 < link
          link_positive = subst (λ (n : ℕ). 0 < n) told2.met (link_above told2.before who told2.sound (active_in told2.before seat_is) on.version (task_in told2.before seat_is))

          next_is : w2 ≡ with_part who (next link) v
          next_is = told_next v who (kind.LoadCell on.version word.Link) link w1 w2 b x (next link) (has v who active) passed_is told2 (after_link link told2.before.shared link_positive place_positive)

          pub walks_on : (to : ℕ) → to ≡ (link - 1) % 2 ^ 32 → WalksOn v who to w2
          walks_on to to_is = record {
            version = older on.version link;
            oid_is = on.oid_is;
            cell_is = sym to_is;
            view_is = next_is;
            known = after_known w1 who (kind.LoadCell on.version word.Link) link w2 told2;
          }

          pub falls : (in_hand (part_of w2 who).task).place < (in_hand (part_of w who).task).place
          falls =
              let here : (in_hand (part_of w2 who).task).place ≡ on.version.place - 1 =
              ap (λ (z : Part). (in_hand z.task).place) (part_of-changed v who w2 (next link) x (has v who active) next_is) in
              let was : (in_hand (part_of w who).task).place ≡ on.version.place = ap (λ (z : Part). (in_hand z.task).place) a_is in
              omega (arith, here, was, place_positive)
