-- The swap of a link, and the walk over the versions cut off.
use Rattle.std.proofs.Common.{◌≡◌, ◌≢◌, ℕ, suc, ◌+◌, ◌-◌, ◌%◌, ◌^◌, ◌<◌, ◌≤◌, true, List, [], ◌∷◌, ◌++◌, length, drop, take, reverse, Some, refl, sym, ap, ◌∙◌, subst, eqb, arith, append_assoc, length-append}
use Rattle.std.proofs.lemmas.Bool.{eq-eqb, ne_eqb}
use Rattle.std.proofs.lemmas.List.{append-nil, length-drop, length-map, length-reverse, map-append, reverse-append, reverse-reverse}
use Rattle.std.proofs.lemmas.Option.{same_Some}
use Rattle.std.proofs.Math.Seq.{drop-append_seam, drop-cons, drop-length, take-append_seam}
use Rattle.erm_model.specs.Member.{◌∈◌}
use Rattle.erm_model.specs.declared.limits.TheConstants.{TABLE_CELLS}
use Rattle.erm_model.proofs.Members.{∈-at}
use Rattle.erm_machine.specs.declared.attempt.OwnCell.{OwnCell}
use Rattle.erm_machine.specs.declared.event.Kind.TheVariants as kind
use Rattle.erm_machine.specs.declared.limits.TheConstants.{ANNOUNCERS, OBJECT_LIMIT}
use Rattle.erm_machine.specs.declared.part.Part.{Part}
use Rattle.erm_machine.specs.declared.task.Task.{Task}
use Rattle.erm_machine.specs.declared.task.Task.TheVariants as task
use Rattle.erm_machine.specs.declared.version.VersionAt.{VersionAt}
use Rattle.erm_machine.specs.Chains.{IsNamed, NamedInHand, IsAttached, IsDetached, IsSpare, CutInHand}
use Rattle.erm_machine.specs.Core.{Core, Object, Shared, spot_of, word_at, version_at}
use Rattle.erm_machine.specs.Reading.{after_cut, cut_off, detached, older, swap_link, load_detached}
use Rattle.erm_machine.specs.Seat.{is_active}
use Rattle.erm_machine.specs.Snapshot.{NewerFrom}
use Rattle.erm_machine.specs.Step.{part_after}
use Rattle.erm_machine.specs.Words.{is_seat}
use Rattle.erm_machine.proofs.Frames.{put_same}
use Rattle.erm_rule.specs.declared.view.View.{View}
use Rattle.erm_rule.specs.Hands.{IsKnown, in_hand}
use Rattle.erm_rule.specs.Newest.{NewestInHand}
use Rattle.erm_rule.specs.Steps.{Ready, Told}
use Rattle.erm_rule.specs.Views.{part_in, part_of, with_part}
use Rattle.erm_rule.proofs.Allowed.{of_seat}
use Rattle.erm_rule.proofs.Found.{next, event_is}
use Rattle.erm_rule.proofs.Numbered.{known_after}
use Rattle.erm_rule.proofs.Parts.{found_among, in_other}
use Rattle.erm_rule.proofs.Telling.{changed_here, part_of-changed}
use Rattle.erm_cells.specs.Hands.{detached_kind, swap_kind}
use Rattle.erm_cells.proofs.Heads.{has}
use Rattle.erm_cells.proofs.Views.{when_true, both, refuse, choose, ready_at, told_is, told_next}
use Rattle.erm_cells.proofs.Walking.{known_object}
use Rattle.erm_cells.specs.Spare.{SpareIs}
use Rattle.erm_cut.specs.Calls.{IsFoundCut, cut_part, HasSwapped, DidDetach}
use Rattle.erm_cut.proofs.Walk.{same_self}
use Rattle.erm_cut.proofs.Newest.{cut_behind, stamp_stays, newer_stays}
use Rattle.erm_cut.proofs.Named.{no_cell, cell_at, link_to, AreLinked, link_positive, link_none, link_names, are_linked, first_link}
use Rattle.erm_cells.proofs.Spares.{spares_fit}
use Rattle.erm_cut.proofs.SpareCells.{numbers, times, same_cell, once}

-- the version and the horizon at which a chain is to be cut
pub record FoundCut (t : Task) (cell : ℕ) : Type 0 where
  pub horizon : ℕ
  pub is : t ≡ task.CutFound (in_hand t) horizon
  pub cell_is : (in_hand t).cell ≡ cell

pub found_cut : (t : Task) (cell : ℕ) → IsFoundCut t cell → FoundCut t cell
found_cut (task.CutFound version horizon) cell h = record { horizon = horizon; is = refl; cell_is = h }
found_cut _ cell h = absurd h

-- a seat of a view that is one of a sound state has words
seat_of : (v : View) (who : ℕ) (x : Part) → IsKnown v → part_in v who ≡ Some x → who < ANNOUNCERS
seat_of v who x known there = let h = found_among who v.held x there in of_seat who (ap is_seat (sym h.2) ∙ known.in_order.seats h.0 h.1)

-- LISTS. One more cell is put behind those that were walked over.
one_more : (front cells : List ℕ) (cut : List OwnCell) (k cell : ℕ) → cells ≡ front ++ reverse (numbers (drop (suc k) cut)) → k < length cut → cell ≡ (cell_at cut k).cell
    → cells ++ cell ∷ [] ≡ front ++ reverse (numbers (drop k cut))
one_more front cells cut k cell is within named =
    ap (λ l. l ++ cell ∷ []) is
    ∙ append_assoc front (reverse (numbers (drop (suc k) cut))) (cell ∷ [])
    ∙ ap (λ n. front ++ (reverse (numbers (drop (suc k) cut)) ++ n ∷ [])) named
    ∙ ap (λ l. front ++ l) (sym (reverse-append ((cell_at cut k).cell ∷ []) (numbers (drop (suc k) cut))))
    ∙ ap (λ l. front ++ reverse (numbers l)) (sym (drop-cons cut k no_cell within))

-- the end of a list, turned round twice
turned : (front back cells : List ℕ) (n : ℕ) → cells ≡ front ++ reverse back → n ≡ length back → take (length cells - n) cells ++ reverse (drop (length cells - n) cells) ≡ front ++ back
turned front back cells n is size =
    let all : length cells ≡ length front + length back =
    ap (λ (l : List ℕ). length l) is ∙ length-append front (reverse back) ∙ ap (λ m. length front + m) (length-reverse back) in
    let at : length cells - n ≡ length front = omega (arith, all, size) in
    ap (λ m. take m cells ++ reverse (drop m cells)) at
    ∙ ap (λ l. take (length front) l ++ reverse (drop (length front) l)) is
    ∙ halves
  where
    halves : take (length front) (front ++ reverse back) ++ reverse (drop (length front) (front ++ reverse back)) ≡ front ++ back
    halves =
        ap (λ l. l ++ reverse (drop (length front) (front ++ reverse back))) (take-append_seam front (reverse back))
        ∙ ap (λ l. front ++ reverse l) (drop-append_seam front (reverse back))
        ∙ ap (λ l. front ++ l) (reverse-reverse back)

-- The walk is at the end of so many of the cells cut off, `left`: the link in hand names the last of these. Those behind were put into
-- the list, so many, the newest first.
pub record IsDetaching (v : View) (who link count : ℕ) (cells : List ℕ) (w : View) : Type 0 where
  pub cut : List OwnCell
  pub linked : AreLinked cut
  pub horizon : ℕ
  pub swapped : HasSwapped v who (in_hand (part_of v who).task) horizon cut
  pub left : ℕ
  pub within : left ≤ length cut
  pub link_is : link ≡ link_to cut left
  pub count_is : count + left ≡ length cut
  pub cells_are : cells ≡ numbers (part_of v who).spare ++ reverse (numbers (drop left cut))
  pub at : VersionAt
  pub view_is : w ≡ with_part who (record (part_of v who) { task = detached link at (part_of v who); spare = (part_of v who).spare ++ cut }) v
  pub known : IsKnown w

module _ (v : View) (who : ℕ) (active : is_active (part_of v who).place ≡ true) where
  abbrev x : Part
  x = part_of v who

  -- THE SWAP
  module _ (cell : ℕ) (known : IsKnown v) (at : IsFoundCut (part_of v who).task cell) where
    abbrev pub version : VersionAt
    version = in_hand x.task

    found : FoundCut x.task cell
    found = found_cut x.task cell at

    abbrev pub swapped_part : ℕ → List OwnCell → Part
    swapped_part link cut = record x { task = detached link version x; spare = x.spare ++ cut }

    named : IsNamed known.core.shared version
    named =
        subst (λ (t : Task). NamedInHand known.core.shared t) found.is
        (subst (λ (z : Part). NamedInHand known.core.shared z.task) (known.is_view who x (has v who active)) (known.sound.own who).chains.named)

    pub object_found : (in_hand (part_of v who).task).oid < OBJECT_LIMIT
    object_found = named.object

    pub cell_found : (in_hand (part_of v who).task).cell ≡ cell
    cell_found = found.cell_is

    pub after_swap : (link : ℕ) (s : Shared) → part_after who (swap_kind x) link s x ≡ Some (swapped_part link (cut_off version.place (s.objects version.oid)))
    after_swap link s =
        subst (λ (t : Task). swap_link link version (s.objects version.oid) x t ≡ Some (swapped_part link (cut_off version.place (s.objects version.oid)))) (sym found.is)
        (when_true _ (swapped_part link (cut_off version.place (s.objects version.oid))) (both _ _ active (same_self version)))

    pub ready_swap : Ready v who (swap_kind (part_of v who))
    ready_swap =
        ready_at v who (swap_kind x) x (has v who active) (λ c. swapped_part (word_at c (spot_of who (swap_kind x))) (cut_off version.place (c.shared.objects version.oid)))
        (λ c sound. after_swap (word_at c (spot_of who (swap_kind x))) c.shared)

    module _ (link : ℕ) (w : View) (told : Told v who (swap_kind (part_of v who)) link w) where
      abbrev pub o : Object
      o = told.before.shared.objects version.oid

      before : told.before.seats who ≡ x
      before = told.is_view who x (has v who active)

      attached : IsAttached told.before.shared x version × ((version_at o version.place).words.stamp < found.horizon)
      attached =
          subst (λ (t : Task). CutInHand told.before.shared x t) found.is
          (subst (λ (z : Part). CutInHand told.before.shared z z.task) before (told.sound.own who).chains.cut)

      named_before : IsNamed told.before.shared version
      named_before =
          subst (λ (t : Task). NamedInHand told.before.shared t) found.is
          (subst (λ (z : Part). NamedInHand told.before.shared z.task) before (told.sound.own who).chains.named)

      -- the version is the oldest that is attached afterwards
      after_is : next told.before who (swap_kind x) told.part ≡ told.after
      after_is =
          let part = subst (λ (n : ℕ). part_after who (swap_kind x) n told.before.shared (told.before.seats who) ≡ Some told.part) (sym told.met) told.part_is in
          same_Some _ _ (sym (event_is told.before who (swap_kind x) told.part (known_object version.oid named_before.object) part) ∙ told.event)

      object_after : told.after.shared.objects version.oid ≡ cut_behind o version.place
      object_after = ap (λ (c : Core). c.shared.objects version.oid) (sym after_is) ∙ put_same told.before.shared.objects version.oid (cut_behind o version.place)

      oldest : (told.after.shared.objects version.oid).cut ≡ version.place
      oldest = ap (λ (z : Object). z.cut) object_after

      -- and the newest below the horizon, before and after
      newest : NewerFrom o version.place found.horizon
      newest =
          subst (λ (t : Task). NewestInHand told.before.shared t) found.is
          (subst (λ (z : Part). NewestInHand told.before.shared z.task) before (told.cuts who))

      below_after : (version_at (told.after.shared.objects version.oid) version.place).words.stamp < found.horizon
      below_after =
          subst (λ (z : Object). (version_at z version.place).words.stamp < found.horizon) (sym object_after)
          (subst (λ n. n < found.horizon) (sym (stamp_stays o version.place version.place)) attached.1)

      newest_after : NewerFrom (told.after.shared.objects version.oid) version.place found.horizon
      newest_after = subst (λ (z : Object). NewerFrom z version.place found.horizon) (sym object_after) (newer_stays o version.place found.horizon newest)

      has_swapped : HasSwapped v who version found.horizon (cut_off version.place o)
      has_swapped = record {
        task_is = found.is;
        before = told.before;
        sound = told.sound;
        is_view = told.is_view;
        below = attached.1;
        newest = newest;
        cells_are = refl;
        after = told.after;
        event = told.event;
        sound_after = told.sound_after;
        oldest = oldest;
        below_after = below_after;
        newest_after = newest_after;
      }

      pub swapped_is : w ≡ with_part who (swapped_part link (cut_off version.place o)) v
      swapped_is = told_is v who (swap_kind x) link w x (swapped_part link (cut_off version.place o)) (has v who active) told (after_swap link told.before.shared)

      pub starts_detaching : (cells : List ℕ) → SpareIs cells x → IsDetaching v who link 0 cells w
      starts_detaching cells spare =
          let chain = told.sound.common.chains.linked version.oid named_before.object in
          let small = (told.sound.common.claims.objects version.oid named_before.object).cells in
          let cut : List OwnCell = cut_off version.place o in
          record {
            cut = cut_off version.place o;
            linked = are_linked o version.place chain small attached.0.attached named_before.within;
            horizon = found.horizon;
            swapped = has_swapped;
            left = length (cut_off version.place o);
            within = omega arith;
            link_is = sym told.met ∙ first_link o version.place chain small attached.0.attached named_before.within;
            count_is = omega arith;
            cells_are = spare ∙ sym (append-nil (numbers x.spare)) ∙ ap (λ (l : List OwnCell). numbers x.spare ++ reverse (numbers l)) (sym (drop-length (cut_off version.place o)));
            at = version;
            view_is = swapped_is;
            known = known_after v who (swap_kind x) link w told;
          }

  -- THE WALK
  module _ (link count : ℕ) (cells : List ℕ) (u : View) (walk : IsDetaching v who link count cells u) where
    abbrev here_part : Part
    here_part = record x { task = detached link walk.at x; spare = x.spare ++ walk.cut }

    has_here : part_in u who ≡ Some here_part
    has_here = changed_here v who u here_part x (has v who active) walk.view_is

    pub here_is : part_of u who ≡ here_part
    here_is = part_of-changed v who u here_part x (has v who active) walk.view_is

    pub held_here : part_in u who ≡ Some here_part
    held_here = has_here

    spare_few : length (x.spare ++ walk.cut) ≤ TABLE_CELLS
    spare_few =
        subst (λ (z : Part). length z.spare ≤ TABLE_CELLS) (walk.known.is_view who here_part has_here)
        (spares_fit walk.known.core who walk.known.sound walk.known.limit (seat_of u who here_part walk.known has_here))

    cells_count : length cells ≡ length x.spare + count
    cells_count =
        let a = ap (λ (l : List ℕ). length l) walk.cells_are in
        let b = length-append (numbers x.spare) (reverse (numbers (drop walk.left walk.cut))) in
        let d = length-map x.spare (λ (own : OwnCell). own.cell) in
        let e = length-reverse (numbers (drop walk.left walk.cut)) in
        let f = length-map (drop walk.left walk.cut) (λ (own : OwnCell). own.cell) in
        let g = length-drop walk.left walk.cut in
        let h = walk.count_is in
        omega (arith, a, b, d, e, f, g, h)

    pub count_within : count ≤ length cells
    count_within = let size = cells_count in omega (arith, size)

    module _ (some : link ≢ 0) where
      abbrev hand : VersionAt
      hand = older walk.at link

      left_some : 0 < walk.left
      left_some = link_positive walk.cut walk.left link walk.link_is some

      detaches : here_part.task ≡ task.Detaches hand
      detaches = refuse (eqb link 0) (after_cut x) (task.Detaches hand) (ne_eqb link 0 some)

      pub room : length cells < TABLE_CELLS
      room =
          let few = spare_few in
          let size = length-append x.spare walk.cut in
          let all = cells_count in
          let is = walk.count_is in
          let left = left_some in
          omega (arith, few, size, all, is, left)

      pub count_room : count < TABLE_CELLS
      count_room = let size = cells_count in let few = room in omega (arith, size, few)

      hand_is : in_hand (part_of u who).task ≡ hand
      hand_is = ap (λ (z : Part). in_hand z.task) here_is ∙ ap in_hand detaches

      named_here : IsNamed walk.known.core.shared hand
      named_here =
          subst (λ (t : Task). NamedInHand walk.known.core.shared t) detaches
          (subst (λ (z : Part). NamedInHand walk.known.core.shared z.task) (walk.known.is_view who here_part has_here) (walk.known.sound.own who).chains.named)

      pub object_here : (in_hand (part_of u who).task).oid < OBJECT_LIMIT
      object_here = subst (λ (z : VersionAt). z.oid < OBJECT_LIMIT) (sym hand_is) named_here.object

      pub cell_here : (cell : ℕ) → cell ≡ (link - 1) % 2 ^ 32 → (in_hand (part_of u who).task).cell ≡ cell
      cell_here cell is = ap (λ (z : VersionAt). z.cell) hand_is ∙ sym is

      abbrev next_part : ℕ → Part
      next_part found = record x { task = detached found hand x; spare = x.spare ++ walk.cut }

      after_detached : (found : ℕ) (s : Shared) → part_after who (kind.LoadDetached hand) found s here_part ≡ Some (next_part found)
      after_detached found s =
          subst (λ (t : Task). load_detached found hand here_part t ≡ Some (next_part found)) (sym detaches)
          (when_true _ (next_part found) (both _ _ active (same_self hand)))

      pub ready_detached : Ready u who (detached_kind (part_of u who))
      ready_detached =
          subst (λ (z : VersionAt). Ready u who (kind.LoadDetached z)) (sym hand_is)
          (ready_at u who (kind.LoadDetached hand) here_part has_here (λ c. next_part (word_at c (spot_of who (kind.LoadDetached hand))))
          (λ c sound. after_detached (word_at c (spot_of who (kind.LoadDetached hand))) c.shared))

      module _ (found : ℕ) (w : View) (told_any : Told u who (detached_kind (part_of u who)) found w) where
        told : Told u who (kind.LoadDetached hand) found w
        told = subst (λ (z : VersionAt). Told u who (kind.LoadDetached z) found w) hand_is told_any

        before_is : told.before.seats who ≡ here_part
        before_is = told.is_view who here_part has_here

        off : IsDetached told.before.shared here_part hand
        off =
            subst (λ (t : Task). CutInHand told.before.shared here_part t) detaches
            (subst (λ (z : Part). CutInHand told.before.shared z z.task) before_is (told.sound.own who).chains.cut)

        named_there : IsNamed told.before.shared hand
        named_there =
            subst (λ (t : Task). NamedInHand told.before.shared t) detaches
            (subst (λ (z : Part). NamedInHand told.before.shared z.task) before_is (told.sound.own who).chains.named)

        there : IsSpare told.before.shared here_part hand.oid hand.place
        there = off.spare hand.place off.below (omega arith)

        abbrev last : ℕ
        last = walk.left - 1

        last_within : last < length walk.cut
        last_within = let some_left = left_some in let within = walk.within in omega (arith, some_left, within)

        named_cell : (link - 1) % 2 ^ 32 ≡ (cell_at walk.cut last).cell
        named_cell = link_names walk.cut walk.left link walk.link_is left_some walk.within walk.linked

        stands : cell_at walk.cut last ∈ here_part.spare
        stands = in_other x.spare walk.cut (cell_at walk.cut last) (∈-at walk.cut last no_cell last_within)

        few : (n : ℕ) → times n here_part.spare ≤ 1
        few n = subst (λ (z : Part). times n z.spare ≤ 1) before_is (once told.before who told.sound (seat_of u who here_part walk.known has_here) n)

        -- the cell in hand is the last of those left
        is_last : there.own ≡ cell_at walk.cut last
        is_last =
            same_cell (cell_at walk.cut last).cell here_part.spare there.own (cell_at walk.cut last) (few (cell_at walk.cut last).cell) there.spare stands
            (there.cell ∙ named_there.cell ∙ named_cell) refl

        found_is : found ≡ link_to walk.cut last
        found_is = sym told.met ∙ sym there.link ∙ ap (λ (z : OwnCell). z.words.link) is_last ∙ walk.linked.links last last_within

        next_is : w ≡ with_part who (next_part found) v
        next_is = told_next v who (kind.LoadDetached hand) found u w here_part x (next_part found) (has v who active) walk.view_is told (after_detached found told.before.shared)

        pub same_spare : (part_of w who).spare ≡ (part_of u who).spare
        same_spare = ap (λ (z : Part). z.spare) (part_of-changed v who w (next_part found) x (has v who active) next_is) ∙ sym (ap (λ (z : Part). z.spare) here_is)

        pub detaches_next : (cell : ℕ) (more : List ℕ) → cell ≡ (link - 1) % 2 ^ 32 → more ≡ cells ++ cell ∷ [] → IsDetaching v who found (count + 1) more w
        detaches_next cell more is pushed =
            let back : suc last ≡ walk.left = let some_left = left_some in omega (arith, some_left) in
            record {
              cut = walk.cut;
              linked = walk.linked;
              horizon = walk.horizon;
              swapped = walk.swapped;
              left = last;
              within = let within = walk.within in omega (arith, within);
              link_is = found_is;
              count_is = let all = walk.count_is in omega (arith, all, back);
              cells_are =
                  pushed
                  ∙ one_more (numbers x.spare) cells walk.cut last cell (walk.cells_are ∙ ap (λ n. numbers x.spare ++ reverse (numbers (drop n walk.cut))) (sym back)) last_within (is ∙ named_cell);
              at = hand;
              view_is = next_is;
              known = known_after u who (kind.LoadDetached hand) found w told;
            }

    -- THE END
    module _ (none : link ≡ 0) where
      left_none : walk.left ≡ 0
      left_none = link_none walk.cut walk.left link walk.link_is none

      pub all_cut : count ≡ length walk.cut
      all_cut = let all = walk.count_is in let left = left_none in omega (arith, all, left)

      ended : here_part ≡ cut_part walk.cut x
      ended = ap (λ (t : Task). record x { task = t; spare = x.spare ++ walk.cut }) (choose (eqb link 0) (after_cut x) (task.Detaches (older walk.at link)) (eq-eqb link 0 none))

      pub did_detach : DidDetach v who count u
      did_detach = record {
        version = in_hand x.task;
        horizon = walk.horizon;
        cut = walk.cut;
        swapped = walk.swapped;
        count_is = all_cut;
        view_is = walk.view_is ∙ ap (λ (z : Part). with_part who z v) ended;
        known = walk.known;
      }

      pub spare_is : (turned_cells : List ℕ) → turned_cells ≡ take (length cells - count) cells ++ reverse (drop (length cells - count) cells) → SpareIs turned_cells (part_of u who)
      spare_is turned_cells is =
          let all : cells ≡ numbers x.spare ++ reverse (numbers walk.cut) = walk.cells_are ∙ ap (λ n. numbers x.spare ++ reverse (numbers (drop n walk.cut))) left_none in
          let size : count ≡ length (numbers walk.cut) = all_cut ∙ sym (length-map walk.cut (λ (own : OwnCell). own.cell)) in
          is
          ∙ turned (numbers x.spare) (numbers walk.cut) cells count all size
          ∙ sym (map-append (λ (own : OwnCell). own.cell) x.spare walk.cut)
          ∙ ap (λ (z : Part). numbers z.spare) (sym here_is)

-- one more step is one less to take
pub one_less : (count : ℕ) → count < TABLE_CELLS → TABLE_CELLS - (count + 1) < TABLE_CELLS - count
one_less count few = omega (arith, few)
