-- Steps of a read and of a claim.
use Rattle.std.proofs.Common.{◌≡◌, ◌≢◌, ℕ, ◌<◌, ◌≤◌, ⊎_elim, Bool, true, false, ◌&&◌, eqb, ltb, List, [], ◌∷◌, ◌++◌, Option, Some, None, length, refl, sym, ap, ◌∙◌, subst, arith}
use Rattle.std.specs.Prelude.{if◌then◌else◌, not}
use Rattle.std.proofs.lemmas.Bool.{and_parts, cases_eq, eqb-false, eqb-true, ltb-true, ltb-false, not-true}
use Rattle.erm_machine.specs.declared.limits.TheConstants.{OBJECT_LIMIT}
use Rattle.erm_model.specs.Member.{◌∈◌}
use Rattle.erm_model.proofs.Members.{∈-push}
use Rattle.erm_machine.specs.declared.attempt.Claim.{Claim}
use Rattle.erm_machine.specs.declared.part.Part.{Part}
use Rattle.erm_machine.specs.declared.task.Task.{Task}
use Rattle.erm_machine.specs.declared.task.Task.TheVariants as task
use Rattle.erm_machine.specs.declared.version.CellWord.{CellWord}
use Rattle.erm_machine.specs.declared.version.CellWord.TheVariants as word
use Rattle.erm_machine.specs.declared.version.VersionAt.{VersionAt}
use Rattle.erm_machine.specs.Chains.{NamedInHand}
use Rattle.erm_machine.specs.Core.{Core, newest, version_at}
use Rattle.erm_machine.specs.Facts.{HoldsBelow}
use Rattle.erm_machine.specs.Reading.{head_version, older, entered, lost, load_entry, new_claim, claim, load_walked_stamp, load_walked_link, load_cell}
use Rattle.erm_machine.specs.Seat.{is_active, is_safe, same_version}
use Rattle.erm_machine.specs.Snapshot.{InHand, NewerFrom, NoneInHand}
use Rattle.erm_machine.specs.Sound.{Sound}
use Rattle.erm_machine.specs.Words.{cell_word, head_of, owner_of}
use Rattle.erm_machine.proofs.Backs.{entry_then}
use Rattle.erm_machine.proofs.Guards.{when_then, if_then, either_way}
use Rattle.erm_core_si.proofs.SnapshotSteps.{Hand, Stays}
use Rattle.erm_core_si.proofs.SnapshotClaims.{claimed_in, stays_now, claiming_now}
use Rattle.erm_core_si.proofs.SnapshotSame.{free_if, free_from, covers_none, active_unsealed, recalls_stay, Unsettled, unsettled, free_hand}
use Rattle.erm_core_si.proofs.SnapshotCalm.{calm_task, calm_stay, after_cut_free}
use Rattle.erm_core_si.proofs.SnapshotSafe.{nobody_holds}
use Rattle.erm_core_si.proofs.SnapshotLeft.{Left, left_calm, left_task, same_place, hand_entered, unowned, unsettled_entered, unsettled_lost}

first : (a b : Bool) → (a && b) ≡ true → a ≡ true
first a b h = (and_parts a b h).0

module _ (c : Core) (p : ℕ) (sound : Sound c) where
  -- what is known of the version in hand
  pub in_hand : (t : Task) → (c.seats p).task ≡ t → InHand c.shared (c.seats p).current.begin t
  in_hand t at = subst (InHand c.shared (c.seats p).current.begin) at (sound.own p).snapshot.in_hand

  pub named : (t : Task) → (c.seats p).task ≡ t → NamedInHand c.shared t
  named t at = subst (NamedInHand c.shared) at (sound.own p).chains.named

  pub none_in_hand : (t : Task) → (c.seats p).task ≡ t → (q : ℕ) → q ≢ p → NoneInHand (c.seats p).current.begin t q (c.seats q)
  none_in_hand t at q ne = subst (λ (u : Task). NoneInHand (c.seats p).current.begin u q (c.seats q)) at (sound.both p q (λ e. ne (sym e))).snapshot.in_hand

  -- an entry is loaded once more, after its owner was found clear
  hand_again : (oid cleared : ℕ) → (c.seats p).task ≡ task.Cleared cleared → oid ≡ cleared →
      Hand c p (c.seats p).current.begin (task.Walks (head_version oid (c.shared.objects oid).entry (c.shared.objects oid)) None)
  hand_again oid cleared at same = record {
    in_hand = λ k above within. absurd (omega (arith, above, within));
    within = tt;
    none = λ q ne h. none_in_hand (task.Cleared cleared) at q ne (subst (λ n. HoldsBelow (c.seats q) n (c.seats p).current.begin) same h);
  }

  -- a safe snapshot has the head in hand, whoever owns the entry
  hand_safe : (oid : ℕ) → is_safe (c.seats p).task ≡ true → Hand c p (c.seats p).current.begin (task.SafeWalks (head_version oid (c.shared.objects oid).entry (c.shared.objects oid)))
  hand_safe oid safe = record {
    in_hand = λ k above within. absurd (omega (arith, above, within));
    within = tt;
    none = λ q ne h. nobody_holds c p sound safe q ne oid h;
  }

  pub load_entry_left : (oid : ℕ) (t : Task) (y : Part) → (c.seats p).task ≡ t →
      load_entry p oid (c.shared.objects oid).entry (c.shared.objects oid) (c.seats p) t ≡ Some y → Left c p y
  load_entry_left oid (task.Cleared cleared) y at e =
      when_then (Left c p) _ _ y e (λ _.
      either_way (λ (u : Task). Left c p (record (c.seats p) { task = u })) (eqb oid cleared) (task.Walks (head_version oid (c.shared.objects oid).entry (c.shared.objects oid)) None)
      (entered p oid (c.shared.objects oid).entry (c.shared.objects oid))
      (λ same. left_task c p _ sound (hand_again oid cleared at (eqb-true oid cleared same)) tt)
      (λ _. left_task c p _ sound (hand_entered c p (c.seats p).current.begin oid sound) (unsettled_entered p oid (c.shared.objects oid).entry (c.shared.objects oid))))
  load_entry_left oid t y at e =
      entry_then (Left c p) p oid (c.shared.objects oid).entry (c.shared.objects oid) (c.seats p) t y e
      (λ safe _. left_task c p _ sound (hand_safe oid (subst (λ (u : Task). is_safe u ≡ true) (sym at) safe)) tt)
      (λ _. left_task c p _ sound (hand_entered c p (c.seats p).current.begin oid sound) (unsettled_entered p oid (c.shared.objects oid).entry (c.shared.objects oid)))

  -- the stamp of the version in hand
  same_stamp : (v w : VersionAt) → same_version v w ≡ true → cell_word word.Stamp (version_at (c.shared.objects v.oid) v.place).words ≡ (version_at (c.shared.objects w.oid) w.place).words.stamp
  same_stamp v w e = let s = same_place v w e in let oid = s.0 in let place = s.1 in cc

  hand_found : (version : VersionAt) (head : Option ℕ) (found : ℕ) → (c.seats p).task ≡ task.Walks version head → (version_at (c.shared.objects version.oid) version.place).words.stamp ≡ found →
      found < (c.seats p).current.begin → Hand c p (c.seats p).current.begin (task.Found version found head)
  hand_found version head found at is low = record {
    in_hand = record {
      within = (named (task.Walks version head) at).within;
      stamp_is = is;
      below = low;
      newer = in_hand (task.Walks version head) at;
    };
    within = tt;
    none = none_in_hand (task.Walks version head) at;
  }

  hand_passed : (version : VersionAt) (head : Option ℕ) (found : ℕ) → (c.seats p).task ≡ task.Walks version head → (version_at (c.shared.objects version.oid) version.place).words.stamp ≡ found →
      (c.seats p).current.begin ≤ found → Hand c p (c.seats p).current.begin (task.Passed version)
  hand_passed version head found at is high = record {
    in_hand = (in_hand (task.Walks version head) at, omega (arith, is, high));
    within = (named (task.Walks version head) at).within;
    none = none_in_hand (task.Walks version head) at;
  }

  -- the same of a safe snapshot
  hand_safe_found : (version : VersionAt) → (c.seats p).task ≡ task.SafeWalks version → (version_at (c.shared.objects version.oid) version.place).words.stamp < (c.seats p).current.begin →
      Hand c p (c.seats p).current.begin (task.SafeFound version)
  hand_safe_found version at low = record {
    in_hand = record {
      within = (named (task.SafeWalks version) at).within;
      stamp_is = refl;
      below = low;
      newer = in_hand (task.SafeWalks version) at;
    };
    within = tt;
    none = none_in_hand (task.SafeWalks version) at;
  }

  hand_safe_passed : (version : VersionAt) → (c.seats p).task ≡ task.SafeWalks version → (c.seats p).current.begin ≤ (version_at (c.shared.objects version.oid) version.place).words.stamp →
      Hand c p (c.seats p).current.begin (task.SafePassed version)
  hand_safe_passed version at high = record {
    in_hand = (in_hand (task.SafeWalks version) at, high);
    within = (named (task.SafeWalks version) at).within;
    none = none_in_hand (task.SafeWalks version) at;
  }

  walked_stamp_left : (v : VersionAt) (t : Task) (y : Part) → (c.seats p).task ≡ t →
      load_walked_stamp (cell_word word.Stamp (version_at (c.shared.objects v.oid) v.place).words) v (c.seats p) t ≡ Some y → Left c p y
  walked_stamp_left v (task.Walks version head) y at e =
      let found = cell_word word.Stamp (version_at (c.shared.objects v.oid) v.place).words in
      when_then (Left c p) _ _ y e (λ g.
      either_way (λ (u : Task). Left c p (record (c.seats p) { task = u })) (ltb found (c.seats p).current.begin) (task.Found version found head) (task.Passed version)
      (λ low. left_task c p _ sound (hand_found version head found at (sym (same_stamp v version g)) (ltb-true found (c.seats p).current.begin low)) tt)
      (λ high. left_task c p _ sound (hand_passed version head found at (sym (same_stamp v version g)) (ltb-false found (c.seats p).current.begin high)) tt))
  walked_stamp_left v (task.CutWalks version horizon) y at e =
      when_then (Left c p) _ _ y e (λ _. left_calm c p _ sound (calm_task (c.seats p) (c.seats p).task _ (search (free_if, free_from))))
  walked_stamp_left v (task.SafeWalks version) y at e =
      let found = cell_word word.Stamp (version_at (c.shared.objects v.oid) v.place).words in
      when_then (Left c p) _ _ y e (λ g.
      let same = same_stamp v version g in
      either_way (λ (u : Task). Left c p (record (c.seats p) { task = u })) (ltb found (c.seats p).current.begin) (task.SafeFound version) (task.SafePassed version)
      (λ low. let below = ltb-true found (c.seats p).current.begin low in left_task c p _ sound (hand_safe_found version at (omega (arith, below, same))) tt)
      (λ high. let above = ltb-false found (c.seats p).current.begin high in left_task c p _ sound (hand_safe_passed version at (omega (arith, above, same))) tt))
  walked_stamp_left v (task.Passed version) y at e =
      when_then (Left c p) _ _ y e (λ _. left_task c p _ sound (record {
        in_hand = in_hand (task.Passed version) at;
        within = (named (task.Passed version) at).within;
        none = none_in_hand (task.Passed version) at;
      }) tt)
  walked_stamp_left v _ y at e = absurd (cc)

  -- the link of a version that was passed
  hand_older : (version : VersionAt) (found : ℕ) → (c.seats p).task ≡ task.Passed version → 0 < version.place → Hand c p (c.seats p).current.begin (task.Walks (older version found) None)
  hand_older version found at positive =
      let h = in_hand (task.Passed version) at in
      let here = h.1 in
      record {
        in_hand = λ k above within. ⊎_elim
            (λ (same : k ≡ version.place). subst (λ n. (c.seats p).current.begin ≤ (version_at (c.shared.objects version.oid) n).words.stamp) (sym same) here)
            (λ (other : k ≡ version.place → ⊥). h.0 k (omega (arith, above, positive, other)) within)
            (cases_eq k version.place);
        within = tt;
        none = none_in_hand (task.Passed version) at;
      }

  hand_safe_older : (version : VersionAt) (found : ℕ) → (c.seats p).task ≡ task.SafePassed version → 0 < version.place → Hand c p (c.seats p).current.begin (task.SafeWalks (older version found))
  hand_safe_older version found at positive =
      let h = in_hand (task.SafePassed version) at in
      let here = h.1 in
      record {
        in_hand = λ k above within. ⊎_elim
            (λ (same : k ≡ version.place). subst (λ n. (c.seats p).current.begin ≤ (version_at (c.shared.objects version.oid) n).words.stamp) (sym same) here)
            (λ (other : k ≡ version.place → ⊥). h.0 k (omega (arith, above, positive, other)) within)
            (cases_eq k version.place);
        within = tt;
        none = none_in_hand (task.SafePassed version) at;
      }

  walked_link_left : (found : ℕ) (v : VersionAt) (t : Task) (y : Part) → (c.seats p).task ≡ t → load_walked_link found v (c.seats p) t ≡ Some y → Left c p y
  walked_link_left found v (task.Passed version) y at e =
      when_then (Left c p) _ _ y e (λ g. left_task c p _ sound (hand_older version found at (ltb-true 0 version.place (and_parts _ _ g).1)) tt)
  walked_link_left found v (task.SafePassed version) y at e =
      when_then (Left c p) _ _ y e (λ g. left_task c p _ sound (hand_safe_older version found at (ltb-true 0 version.place (and_parts _ _ g).1)) tt)
  walked_link_left found v (task.CutPassed version horizon) y at e =
      when_then (Left c p) _ _ y e (λ _. left_calm c p _ sound (calm_task (c.seats p) (c.seats p).task _ (search (free_if, free_from, after_cut_free))))
  walked_link_left found v _ y at e = absurd (cc)

  pub load_cell_left : (v : VersionAt) (w : CellWord) (y : Part) → load_cell (cell_word w (version_at (c.shared.objects v.oid) v.place).words) v w (c.seats p) ≡ Some y → Left c p y
  load_cell_left v word.Stamp y e =
      if_then (Left c p) (is_active (c.seats p).place) (load_walked_stamp (cell_word word.Stamp (version_at (c.shared.objects v.oid) v.place).words) v (c.seats p) (c.seats p).task) None y e
      (λ _ h. walked_stamp_left v (c.seats p).task y refl h) (λ _ h. absurd (cc))
  load_cell_left v word.Link y e =
      if_then (Left c p) (is_active (c.seats p).place) (load_walked_link (cell_word word.Link (version_at (c.shared.objects v.oid) v.place).words) v (c.seats p) (c.seats p).task) None y e
      (λ _ h. walked_link_left (cell_word word.Link (version_at (c.shared.objects v.oid) v.place).words) v (c.seats p).task y refl h) (λ _ h. absurd (cc))
  load_cell_left v (word.Row k) y e = when_then (Left c p) _ _ y e (λ _. left_calm c p (c.seats p) sound (calm_stay (c.seats p) (c.seats p).task (c.seats p) refl refl refl))
  load_cell_left v _ y e = absurd (cc)

  -- the version in hand may be claimed
  may_claim : (version : VersionAt) (stamp : ℕ) (head : Option ℕ) (base : List ℕ) → (c.seats p).task ≡ task.Found version stamp head →
      Stays c p (c.seats p).current.begin (new_claim version stamp base)
  may_claim version stamp head base at = record {
    newer = (in_hand (task.Found version stamp head) at).newer;
    apart = none_in_hand (task.Found version stamp head) at;
  }

  -- another version is the head by now: it is newer than the one in hand
  became_newer : (version : VersionAt) (stamp oid : ℕ) (head : Option ℕ) → (c.seats p).task ≡ task.Found version stamp head → oid ≡ version.oid →
      head_of (c.shared.objects oid).entry ≢ version.cell → (newest (c.shared.objects oid) < length (c.shared.objects oid).versions)
      × ((c.seats p).current.begin ≤ (version_at (c.shared.objects oid) (newest (c.shared.objects oid))).words.stamp)
  became_newer version stamp oid head at is other =
      let o = c.shared.objects oid in
      let n = named (task.Found version stamp head) at in
      let known : oid < OBJECT_LIMIT = subst (λ (k : ℕ). k < OBJECT_LIMIT) (sym is) n.object in
      let some = (sound.common.claims.objects oid known).some in
      let within : version.place < length o.versions = subst (λ (k : ℕ). version.place < length (c.shared.objects k).versions) (sym is) n.within in
      let later : version.place ≢ newest o = λ same. other
      ((sound.common.claims.objects oid known).head ∙ ap (λ (k : ℕ). (version_at o k).cell) (sym same)
      ∙ ap (λ (k : ℕ). (version_at (c.shared.objects k) version.place).cell) is ∙ n.cell) in
      let newer : NewerFrom o version.place (c.seats p).current.begin =
      subst (λ (k : ℕ). NewerFrom (c.shared.objects k) version.place (c.seats p).current.begin) (sym is) (in_hand (task.Found version stamp head) at).newer in
      let low : newest o < length o.versions = omega (arith, some) in
      (low, newer (newest o) (omega (arith, within, later, some)) low)

  hand_lost : (version : VersionAt) (stamp oid : ℕ) (head : Option ℕ) → (c.seats p).task ≡ task.Found version stamp head → oid ≡ version.oid →
      Hand c p (c.seats p).current.begin (lost p oid (c.shared.objects oid).entry version (c.shared.objects oid))
  hand_lost version stamp oid head at is =
      let o = c.shared.objects oid in
      either_way (Hand c p (c.seats p).current.begin) (eqb (owner_of o.entry) 0 && not (eqb (head_of o.entry) version.cell)) (task.Passed (head_version oid o.entry o)) (entered p oid o.entry o)
      (λ g.
      let none = eqb-true (owner_of o.entry) 0 (and_parts _ _ g).0 in
      let newer = became_newer version stamp oid head at is (eqb-false (head_of o.entry) version.cell (not-true _ (and_parts _ _ g).1)) in
      record {
        in_hand = (λ k above within. absurd (omega (arith, above, within)), newer.1);
        within = newer.0;
        none = λ q _ h. unowned c q oid sound none h.2;
      })
      (λ _. hand_entered c p (c.seats p).current.begin oid sound)

  -- one claim more, or none
  stays_gained : (b : Bool) (new : Claim) → Stays c p (c.seats p).current.begin new → (w : Claim) →
      w ∈ (if b then (c.seats p).current.writes ++ new ∷ [] else (c.seats p).current.writes) → Stays c p (c.seats p).current.begin w
  stays_gained true new may w m =
      ⊎_elim (λ (old : w ∈ (c.seats p).current.writes). stays_now c p w sound (claimed_in (c.seats p).current w old))
      (λ (is : w ≡ new). subst (λ (v : Claim). Stays c p (c.seats p).current.begin v) (sym is) may)
      (∈-push (c.seats p).current.writes new w m)
  stays_gained false new may w m = stays_now c p w sound (claimed_in (c.seats p).current w m)

  -- the exchange of a claim
  pub claim_left : (oid seen number : ℕ) (t : Task) (y : Part) → (c.seats p).task ≡ t →
      claim p oid seen number (c.shared.objects oid).entry (c.shared.objects oid) (c.seats p) t ≡ Some y → Left c p y
  claim_left oid seen number (task.Found version stamp (Some entry)) y at e =
      when_then (Left c p) _ _ y e (λ g.
      let unsealed = active_unsealed (c.seats p).place (c.seats p).current (sound.own p).ranges.current (first _ _ (first _ _ (first _ _ (first _ _ (first _ _ g))))) in
      record {
        covers = covers_none c.shared.tail (c.seats p) _ unsealed;
        recalls = recalls_stay c p _ sound refl refl refl refl;
        claims = claiming_now c p _ sound refl refl
            (stays_gained (eqb (c.shared.objects oid).entry seen) _ (may_claim version stamp (Some entry) (version_at (c.shared.objects oid) version.place).words.row at));
        hand = either_way (Hand c p (c.seats p).current.begin) (eqb (c.shared.objects oid).entry seen) (task.Claimed version) (lost p oid (c.shared.objects oid).entry version (c.shared.objects oid))
            (λ _. free_hand c p (c.seats p).current.begin _ (free_from _ tt tt))
            (λ _. hand_lost version stamp oid (Some entry) at (eqb-true _ _ (and_parts _ _ (first _ _ (first _ _ (first _ _ g)))).1));
        settle = unsettled c p _ (either_way Unsettled (eqb (c.shared.objects oid).entry seen) (task.Claimed version) (lost p oid (c.shared.objects oid).entry version (c.shared.objects oid))
            (λ _. tt) (λ _. unsettled_lost p oid (c.shared.objects oid).entry version (c.shared.objects oid)));
      })
  claim_left oid seen number _ y at e = absurd (cc)
