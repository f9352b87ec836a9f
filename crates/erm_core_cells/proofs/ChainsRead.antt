-- Steps that load words: the version that is in hand afterwards has the cell that its name says, and that of a cut is attached.
use Rattle.std.proofs.Common.{◌≡◌, ◌≢◌, ℕ, ◌+◌, ◌-◌, ◌%◌, ◌^◌, ◌<◌, ◌≤◌, ⊎_elim, Bool, true, false, List, length, Some, None, refl, sym, ap, ◌∙◌, subst, arith}
use Rattle.std.specs.Prelude.{if◌then◌else◌}
use Rattle.std.proofs.lemmas.Bool.{and_parts, cases_eq, cases_lt, eqb-true, eqb-false, ltb-true}
use Rattle.erm_model.specs.Member.{◌∈◌}
use Rattle.erm_machine.specs.declared.attempt.OwnCell.{OwnCell}
use Rattle.erm_machine.specs.declared.event.Kind.TheVariants as kind
use Rattle.erm_machine.specs.declared.limits.TheConstants.{OBJECT_LIMIT}
use Rattle.erm_machine.specs.declared.part.Part.{Part}
use Rattle.erm_machine.specs.declared.task.Task.{Task}
use Rattle.erm_machine.specs.declared.task.Task.TheVariants as task
use Rattle.erm_machine.specs.declared.version.CellWord.{CellWord}
use Rattle.erm_machine.specs.declared.version.CellWord.TheVariants as word
use Rattle.erm_machine.specs.declared.version.VersionAt.{VersionAt}
use Rattle.erm_machine.specs.Chains.{IsNamed, NamedInHand, IsAttached, IsDetached, CutInHand, HeadInHand, OwnChains}
use Rattle.erm_machine.specs.Core.{Core, Object, Shared, spot_of, word_at, version_at}
use Rattle.erm_machine.specs.Facts.{Holds, HasBegun}
use Rattle.erm_machine.specs.Life.{load_tail_for_horizon, after_begin_word, after_passed, after_survey, load_begin, after_clear, load_state}
use Rattle.erm_machine.specs.Reading.{head_version, older, entered, lost, after_cut, detached, load_entry, load_walked_stamp, load_walked_link, load_cell, load_detached, load_active_stamp}
use Rattle.erm_machine.specs.Seat.{is_active, is_sealed}
use Rattle.erm_machine.specs.Settling.{load_settled_stamp, load_stamp}
use Rattle.erm_machine.specs.Snapshot.{InHand}
use Rattle.erm_machine.specs.Sound.{Sound}
use Rattle.erm_machine.specs.Words.{owner_of, is_clear}
use Rattle.erm_machine.proofs.Backs.{entry_then}
use Rattle.erm_machine.proofs.Guards.{when_then, if_then, either_way}
use Rattle.erm_machine.proofs.QuietKinds.{begun_active}
use Rattle.erm_core_cells.proofs.ChainsFrames.{grows_refl, cut_kept, same_name}
use Rattle.erm_core_cells.proofs.ChainsStays.{Bare, bare_if, bare_from, bare_chains, s_settled_stamp, Stays}

-- what a seat has in hand in this call
pub record Hand (s : Shared) (x : Part) (t : Task) : Type 0 where
  pub named : NamedInHand s t
  pub cut : CutInHand s x t
  pub head : HeadInHand s t

pub hand_of : (s : Shared) (x : Part) (t : Task) → x.task ≡ t → OwnChains s x → Hand s x t
hand_of s x t at own = subst (Hand s x) at (record { named = own.named; cut = own.cut; head = own.head })

pub hand_moved : (s : Shared) (x y : Part) (t : Task) → ((oid : ℕ) → Holds x oid → Holds y oid) → ((own : OwnCell) → own ∈ x.spare → own ∈ y.spare) → Hand s x t → Hand s y t
hand_moved s x y t holds spares h = record {
  named = h.named;
  cut = cut_kept s s x y holds spares (λ oid _. grows_refl (s.objects oid)) t h.named h.cut;
  head = h.head;
}

-- the call alone changes
pub with_hand : (s : Shared) (x : Part) (t : Task) → Hand s x t → OwnChains s (record x { task = t })
with_hand s x t h = let m = hand_moved s x (record x { task = t }) t (λ _ g. g) (λ _ m. m) h in record { named = m.named; cut = m.cut; head = m.head }

pub bare_hand : (s : Shared) (x : Part) (t : Task) → Bare t → Hand s x t
bare_hand s x t b = let own = bare_chains s (record x { task = t }) b in hand_moved s (record x { task = t }) x t (λ _ g. g) (λ _ m. m) (record { named = own.named; cut = own.cut; head = own.head })

pub hand_if : (s : Shared) (x : Part) (b : Bool) (t u : Task) → (b ≡ true → Hand s x t) → (b ≡ false → Hand s x u) → Hand s x (if b then t else u)
hand_if s x b t u f g = either_way (Hand s x) b t u f g

after_cut_bare : (x : Part) → Bare (after_cut x)
after_cut_bare x = search (bare_if, bare_from)

pub after_cut_hand : (s : Shared) (x : Part) → Hand s x (after_cut x)
after_cut_hand s x = bare_hand s x (after_cut x) (after_cut_bare x)

-- a link spells the cell of the next older version
spelled : (cell link : ℕ) → cell < 2 ^ 24 → link ≡ cell + 1 → cell ≡ (link - 1) % 2 ^ 32
spelled cell link few is = small cell (link - 1) few (omega arith)
  where
    small : (a b : ℕ) → a < 2 ^ 24 → b ≡ a → a ≡ b % 2 ^ 32
    small a b few same = omega arith

-- stamps ascend: a version with a greater stamp than another is newer
newer_by_stamp : (o : Object) (i j : ℕ) → ((m n : ℕ) → m < n → n < length o.versions → (version_at o m).words.stamp < (version_at o n).words.stamp) →
    i < length o.versions → (version_at o i).words.stamp < (version_at o j).words.stamp → i < j
newer_by_stamp o i j ascend within less =
    ⊎_elim (λ (lt : i < j). lt)
    (λ (le : j ≤ i).
    ⊎_elim (λ (same : j ≡ i). let e = ap (λ n. (version_at o n).words.stamp) same in absurd (omega (arith, e, less)))
    (λ (ne : j ≡ i → ⊥). let a = ascend j i (omega (arith, le, ne)) within in absurd (omega (arith, a, less))) (cases_eq j i))
    (cases_lt i j)

-- the next older version, where the link names its cell
older_named : (c : Core) (v : VersionAt) (link : ℕ) → Sound c → IsNamed c.shared v → 0 < v.place →
    link ≡ (version_at (c.shared.objects v.oid) (v.place - 1)).cell + 1 → IsNamed c.shared (older v link)
older_named c v link sound n positive is =
    let within = n.within in
    let before : v.place - 1 < length (c.shared.objects v.oid).versions = omega (arith, within) in
    record {
      object = n.object;
      within = before;
      cell = spelled _ link ((sound.common.claims.objects v.oid n.object).cells (v.place - 1) before) is;
    }

-- CUT: the tail, and the begin words
pub horizon_hand : (s : Shared) (found : ℕ) (x : Part) (t : Task) (y : Part) → Hand s x t → load_tail_for_horizon found x t ≡ Some y → OwnChains s y
horizon_hand s found x (task.Claimed version) y h e =
    when_then (OwnChains s) _ _ y e (λ _.
    let m = hand_moved s x _ (task.Horizon version found 1) (λ _ g. g) (λ _ m. m) (record { named = h.named; cut = h.cut; head = tt }) in
    record { named = m.named; cut = m.cut; head = tt })
horizon_hand s found x _ y h e = absurd (cc)

begin_word_hand : (s : Shared) (x : Part) (version : VersionAt) (least next : ℕ) → IsNamed s version → IsAttached s x version → Hand s x (after_begin_word version least next)
begin_word_hand s x version least next n a =
    hand_if s x _ (task.CutWalks version least) (task.Horizon version least next) (λ _. record { named = n; cut = a; head = tt }) (λ _. record { named = n; cut = a; head = tt })

after_passed_bare : (next : ℕ) → Bare (after_passed next)
after_passed_bare next = search (bare_if, bare_from)

after_survey_bare : (seat begin found next : ℕ) → Bare (after_survey seat begin found next)
after_survey_bare seat begin found next = search (bare_if, bare_from, after_passed_bare)

pub load_begin_hand : (s : Shared) (seat other found : ℕ) (x : Part) (t : Task) (y : Part) → Hand s x t → load_begin seat other found x t ≡ Some y → OwnChains s y
load_begin_hand s seat other found x (task.Horizon version least next) y h e =
    when_then (OwnChains s) _ _ y e (λ _. with_hand s x _ (begin_word_hand s x version _ _ h.named h.cut))
load_begin_hand s seat other found x (task.Surveys next) y h e =
    when_then (OwnChains s) _ _ y e (λ _. with_hand s x _ (bare_hand s x _ (after_survey_bare seat x.current.begin found next)))
load_begin_hand s seat other found x _ y h e = absurd (cc)

-- LOOK
clear_hand : (s : Shared) (other bound : ℕ) (x : Part) (t : Task) → Hand s x t → Hand s x (after_clear other bound x t)
clear_hand s other bound x (task.Owned oid owner) h =
    hand_if s x _ (task.Cleared oid) (task.Owned oid owner) (λ _. record { named = h.named; cut = tt; head = tt }) (λ _. h)
clear_hand s other bound x (task.ReadOwned read owner) h = bare_hand s x _ (search (bare_if, bare_from))
clear_hand s other bound x (task.ReadersLeft write bits) h = bare_hand s x _ (search (bare_if, bare_from))
clear_hand s other bound x _ h = h

pub load_state_hand : (s : Shared) (seat other bound found : ℕ) (x : Part) (y : Part) → OwnChains s x → load_state seat other bound found x ≡ Some y → OwnChains s y
load_state_hand s seat other bound found x y own e =
    when_then (OwnChains s) _ _ y e (λ _.
    let h = hand_of s x x.task refl own in
    let after = hand_if s x (is_clear found bound) (after_clear other bound x x.task) x.task (λ _. clear_hand s other bound x x.task h) (λ _. h) in
    let m = hand_moved s x _ (if is_clear found bound then after_clear other bound x x.task else x.task) (λ _ g. g) (λ _ m. m) after in
    record { named = m.named; cut = m.cut; head = m.head })

-- a stamp of the version in hand that counts for the exclusion window
pub active_stamp_hand : (s : Shared) (found : ℕ) (v : VersionAt) (w : CellWord) (x : Part) (t : Task) (y : Part) → Hand s x t → load_active_stamp found v w x t ≡ Some y → OwnChains s y
active_stamp_hand s found v word.Overwriter x (task.Registered version) y h e =
    when_then (OwnChains s) _ _ y e (λ _. with_hand s x _
    (hand_if s x _ (task.Rated version) (task.Overtaken version found) (λ _. record { named = h.named; cut = tt; head = tt }) (λ _. record { named = h.named; cut = tt; head = tt })))
active_stamp_hand s found v word.OverwriterSucc x (task.Overtaken version overwriter) y h e =
    when_then (OwnChains s) _ _ y e (λ _. record { named = h.named; cut = tt; head = tt })
active_stamp_hand s found v word.ReaderStamp x task.Draws y h e = when_then (OwnChains s) _ _ y e (λ _. record { named = tt; cut = tt; head = tt })
active_stamp_hand s found v word.ReaderStamp x task.Fetched y h e = when_then (OwnChains s) _ _ y e (λ _. record { named = tt; cut = tt; head = tt })
active_stamp_hand s found v _ x _ y h e = absurd (cc)

-- where the call, the claims and the spare cells stay, or no version is in hand any more
pub stays_hand : (s : Shared) (x y : Part) → OwnChains s x → Stays x y → OwnChains s y
stays_hand s x y own st =
    ⊎_elim (λ (b : Bare y.task). bare_chains s y b)
    (λ (same : (y.task ≡ x.task) × (y.current.writes ≡ x.current.writes) × (y.spare ≡ x.spare)).
    let h = hand_moved s x y y.task (λ oid (g : Holds x oid). (g.0, subst (λ ws. g.0 ∈ ws) (sym same.1) g.1, g.2, g.3))
    (λ own m. subst (λ (owns : List OwnCell). own ∈ owns) (sym same.2) m) (hand_of s x y.task (sym same.0) own) in
    record { named = h.named; cut = h.cut; head = h.head }) st.stays

pub load_stamp_hand : (s : Shared) (found : ℕ) (v : VersionAt) (w : CellWord) (x : Part) (y : Part) → OwnChains s x → load_stamp found v w x ≡ Some y → OwnChains s y
load_stamp_hand s found v w x y own e =
    if_then (OwnChains s) _ _ _ y e (λ _ f. active_stamp_hand s found v w x x.task y (hand_of s x x.task refl own) f)
    (λ _ rest. if_then (OwnChains s) (is_sealed x.place) (load_settled_stamp found v w x x.task) None y rest (λ _ f. stays_hand s x y own (s_settled_stamp found v w x x.task y f)) (λ _ f. absurd (cc)))

module _ (c : Core) (p : ℕ) (sound : Sound c) where
  -- the head that an entry names
  head_named : (oid : ℕ) → oid < OBJECT_LIMIT → IsNamed c.shared (head_version oid (c.shared.objects oid).entry (c.shared.objects oid))
  head_named oid known =
      let fits = sound.common.claims.objects oid known in
      record { object = known; within = let some = fits.some in omega (arith, some); cell = sym fits.head }

  pub entered_hand : (oid : ℕ) → oid < OBJECT_LIMIT → Hand c.shared (c.seats p) (entered p oid (c.shared.objects oid).entry (c.shared.objects oid))
  entered_hand oid known =
      let o = c.shared.objects oid in
      hand_if c.shared (c.seats p) _ (task.Walks (head_version oid o.entry o) (Some o.entry)) _
      (λ none. record { named = head_named oid known; cut = tt; head = (eqb-true _ _ none, refl, λ _. refl) })
      (λ some. hand_if c.shared (c.seats p) _ (task.Claimed (head_version oid o.entry o)) (task.Owned oid (owner_of o.entry))
      (λ own.
      let is : owner_of o.entry ≡ p = eqb-true _ _ own in
      let ne : owner_of o.entry ≢ 0 = eqb-false _ _ some in
      record {
        named = head_named oid known;
        cut = record {
          claimed = (sound.own p).claims.owned oid (positive p (owner_of o.entry) is ne) known is;
          attached = let a = (sound.common.chains.linked oid known).attached in omega (arith, a);
        };
        head = tt;
      })
      (λ _. record { named = known; cut = tt; head = tt }))
    where
      positive : (p owner : ℕ) → owner ≡ p → owner ≢ 0 → 0 < p
      positive p owner is ne = omega (arith, is, ne)

  pub lost_hand : (oid : ℕ) (v : VersionAt) → oid < OBJECT_LIMIT → Hand c.shared (c.seats p) (lost p oid (c.shared.objects oid).entry v (c.shared.objects oid))
  lost_hand oid v known =
      let o = c.shared.objects oid in
      hand_if c.shared (c.seats p) _ (task.Passed (head_version oid o.entry o)) (entered p oid o.entry o)
      (λ _. record { named = head_named oid known; cut = tt; head = tt }) (λ _. entered_hand oid known)

  pub load_entry_hand : (oid : ℕ) (t : Task) (y : Part) → oid < OBJECT_LIMIT → load_entry p oid (c.shared.objects oid).entry (c.shared.objects oid) (c.seats p) t ≡ Some y → OwnChains c.shared y
  load_entry_hand oid (task.Cleared cleared) y known e =
      when_then (OwnChains c.shared) _ _ y e (λ _. with_hand c.shared (c.seats p) _
      (hand_if c.shared (c.seats p) _ (task.Walks (head_version oid (c.shared.objects oid).entry (c.shared.objects oid)) None) _
      (λ _. record { named = head_named oid known; cut = tt; head = tt }) (λ _. entered_hand oid known)))
  load_entry_hand oid t y known e =
      entry_then (OwnChains c.shared) p oid (c.shared.objects oid).entry (c.shared.objects oid) (c.seats p) t y e
      (λ _ _. with_hand c.shared (c.seats p) _ (record { named = head_named oid known; cut = tt; head = tt }))
      (λ _. with_hand c.shared (c.seats p) _ (entered_hand oid known))

  abbrev pub stamp_of : VersionAt → ℕ
  stamp_of v = (version_at (c.shared.objects v.oid) v.place).words.stamp

  abbrev pub link_of : VersionAt → ℕ
  link_of v = (version_at (c.shared.objects v.oid) v.place).words.link

  -- READ, CUT: the stamp of the version in hand
  walked_stamp_hand : (v : VersionAt) (t : Task) (y : Part) → (c.seats p).task ≡ t → load_walked_stamp (stamp_of v) v (c.seats p) t ≡ Some y → OwnChains c.shared y
  walked_stamp_hand v (task.Walks version head) y at e =
      let h = hand_of c.shared (c.seats p) (task.Walks version head) at (sound.own p).chains in
      when_then (OwnChains c.shared) _ _ y e (λ _. with_hand c.shared (c.seats p) _
      (hand_if c.shared (c.seats p) _ (task.Found version (stamp_of v) head) (task.Passed version)
      (λ _. record { named = h.named; cut = tt; head = h.head }) (λ _. record { named = h.named; cut = tt; head = tt })))
  walked_stamp_hand v (task.CutWalks version horizon) y at e =
      let h = hand_of c.shared (c.seats p) (task.CutWalks version horizon) at (sound.own p).chains in
      when_then (OwnChains c.shared) _ _ y e (λ g. with_hand c.shared (c.seats p) _
      (hand_if c.shared (c.seats p) _ (task.CutFound version horizon) (task.CutPassed version horizon)
      (λ below. record { named = h.named; cut = (h.cut, subst (λ n. stamp_of n < horizon) (same_name v version g) (ltb-true _ _ below)); head = tt })
      (λ _. record { named = h.named; cut = h.cut; head = tt })))
  walked_stamp_hand v (task.SafeWalks version) y at e =
      let h = hand_of c.shared (c.seats p) (task.SafeWalks version) at (sound.own p).chains in
      when_then (OwnChains c.shared) _ _ y e (λ _. with_hand c.shared (c.seats p) _
      (hand_if c.shared (c.seats p) _ (task.SafeFound version) (task.SafePassed version)
      (λ _. record { named = h.named; cut = tt; head = tt }) (λ _. record { named = h.named; cut = tt; head = tt })))
  walked_stamp_hand v (task.Passed version) y at e =
      let h = hand_of c.shared (c.seats p) (task.Passed version) at (sound.own p).chains in
      when_then (OwnChains c.shared) _ _ y e (λ _. with_hand c.shared (c.seats p) (task.Passed version) (record { named = h.named; cut = tt; head = tt }))
  walked_stamp_hand v _ y at e = absurd (cc)

  -- a version that a read has passed, whose stamp isn't below the begin stamp, isn't the oldest one attached
  passed_above : (version : VersionAt) → (c.seats p).current.begin ≤ stamp_of version → HasBegun (c.seats p).place → IsNamed c.shared version
      → (c.shared.objects version.oid).cut < version.place
  passed_above version above begun n =
      let below = (sound.own p).attached.below version.oid n.object begun in
      newer_by_stamp (c.shared.objects version.oid) (c.shared.objects version.oid).cut version.place (sound.common.claims.objects version.oid n.object).ascend
      (sound.common.chains.linked version.oid n.object).attached (omega (arith, above, below))

  -- the link of an attached version that isn't the oldest
  link_names : (version : VersionAt) → IsNamed c.shared version → (c.shared.objects version.oid).cut < version.place →
      link_of version ≡ (version_at (c.shared.objects version.oid) (version.place - 1)).cell + 1
  link_names version n above = (sound.common.chains.linked version.oid n.object).older version.place above n.within

  pub older_hand : (v version : VersionAt) → v ≡ version → IsNamed c.shared version → (c.shared.objects version.oid).cut < version.place → IsNamed c.shared (older version (link_of v))
  older_hand v version same n above =
      older_named c version (link_of v) sound n (omega (arith, above)) (subst (λ w. link_of w ≡ (version_at (c.shared.objects version.oid) (version.place - 1)).cell + 1) (sym same) (link_names version n above))

  -- a version that is attached and whose link isn't 0 isn't the oldest
  pub linked_above : (version : VersionAt) → IsNamed c.shared version → (c.shared.objects version.oid).cut ≤ version.place → link_of version ≢ 0 → (c.shared.objects version.oid).cut < version.place
  linked_above version n attached some =
      ⊎_elim (λ (same : (c.shared.objects version.oid).cut ≡ version.place).
      absurd (some (ap (λ k. (version_at (c.shared.objects version.oid) k).words.link) (sym same) ∙ (sound.common.chains.linked version.oid n.object).oldest)))
      (λ (ne : (c.shared.objects version.oid).cut ≡ version.place → ⊥). omega (arith, attached, ne)) (cases_eq (c.shared.objects version.oid).cut version.place)

  walked_link_hand : (v : VersionAt) (t : Task) (y : Part) → HasBegun (c.seats p).place → (c.seats p).task ≡ t → load_walked_link (link_of v) v (c.seats p) t ≡ Some y → OwnChains c.shared y
  walked_link_hand v (task.Passed version) y begun at e =
      let h = hand_of c.shared (c.seats p) (task.Passed version) at (sound.own p).chains in
      let in_hand : InHand c.shared (c.seats p).current.begin (task.Passed version) = subst (InHand c.shared (c.seats p).current.begin) at (sound.own p).snapshot.in_hand in
      when_then (OwnChains c.shared) _ _ y e (λ g. with_hand c.shared (c.seats p) (task.Walks (older version (link_of v)) None)
      (record { named = older_hand v version (same_name v version (and_parts _ _ (and_parts _ _ g).0).0) h.named (passed_above version in_hand.1 begun h.named); cut = tt; head = tt }))
  walked_link_hand v (task.SafePassed version) y begun at e =
      let h = hand_of c.shared (c.seats p) (task.SafePassed version) at (sound.own p).chains in
      let in_hand : InHand c.shared (c.seats p).current.begin (task.SafePassed version) = subst (InHand c.shared (c.seats p).current.begin) at (sound.own p).snapshot.in_hand in
      when_then (OwnChains c.shared) _ _ y e (λ g. with_hand c.shared (c.seats p) (task.SafeWalks (older version (link_of v)))
      (record { named = older_hand v version (same_name v version (and_parts _ _ (and_parts _ _ g).0).0) h.named (passed_above version in_hand.1 begun h.named); cut = tt; head = tt }))
  walked_link_hand v (task.CutPassed version horizon) y begun at e =
      let h = hand_of c.shared (c.seats p) (task.CutPassed version horizon) at (sound.own p).chains in
      when_then (OwnChains c.shared) _ _ y e (λ g. with_hand c.shared (c.seats p) _
      (hand_if c.shared (c.seats p) _ (after_cut (c.seats p)) (task.CutWalks (older version (link_of v)) horizon)
      (λ _. after_cut_hand c.shared (c.seats p))
      (λ some.
      let same = same_name v version g in
      let above = linked_above version h.named h.cut.attached (subst (λ w. link_of w ≢ 0) same (eqb-false _ _ some)) in
      record { named = older_hand v version same h.named above; cut = record { claimed = h.cut.claimed; attached = omega (arith, above) }; head = tt })))
  walked_link_hand v _ y begun at e = absurd (cc)

  pub load_cell_hand : (v : VersionAt) (w : CellWord) (y : Part) → load_cell (word_at c (spot_of p (kind.LoadCell v w))) v w (c.seats p) ≡ Some y → OwnChains c.shared y
  load_cell_hand v word.Stamp y e =
      if_then (OwnChains c.shared) (is_active (c.seats p).place) (load_walked_stamp (stamp_of v) v (c.seats p) (c.seats p).task) None y e
      (λ _ f. walked_stamp_hand v (c.seats p).task y refl f) (λ _ f. absurd (cc))
  load_cell_hand v word.Link y e =
      if_then (OwnChains c.shared) (is_active (c.seats p).place) (load_walked_link (link_of v) v (c.seats p) (c.seats p).task) None y e
      (λ active f. walked_link_hand v (c.seats p).task y (begun_active (c.seats p).place active) refl f) (λ _ f. absurd (cc))
  load_cell_hand v (word.Row k) y e = when_then (OwnChains c.shared) _ _ y e (λ _. (sound.own p).chains)
  load_cell_hand v _ y e = absurd (cc)

  -- CUT: the link of a version that was cut off
  detached_hand : (v version : VersionAt) → v ≡ version → IsNamed c.shared version → IsDetached c.shared (c.seats p) version → Hand c.shared (c.seats p) (detached (link_of v) version (c.seats p))
  detached_hand v version same n d =
      hand_if c.shared (c.seats p) _ (after_cut (c.seats p)) (task.Detaches (older version (link_of v))) (λ _. after_cut_hand c.shared (c.seats p))
      (λ none.
      let o = c.shared.objects version.oid in
      let some : link_of version ≢ 0 = subst (λ w. link_of w ≢ 0) same (eqb-false _ _ none) in
      let below = d.below in
      let above : d.last < version.place =
      ⊎_elim (λ (is : d.last ≡ version.place). absurd (some (ap (λ k. (version_at o k).words.link) (sym is) ∙ d.ends)))
      (λ (ne : d.last ≡ version.place → ⊥). omega (arith, below, ne)) (cases_eq d.last version.place) in
      let link : link_of v ≡ (version_at o (version.place - 1)).cell + 1 =
      subst (λ w. link_of w ≡ (version_at o (version.place - 1)).cell + 1) (sym same) (d.links version.place above (omega arith)) in
      record {
        named = older_named c version (link_of v) sound n (omega (arith, above)) link;
        cut = record {
          claimed = d.claimed;
          last = d.last;
          below = omega (arith, above);
          links = λ k from to. d.links k from (omega (arith, to, above));
          ends = d.ends;
          off = let off = d.off in omega (arith, off);
          spare = λ k from upto. d.spare k from (omega (arith, upto));
        };
        head = tt;
      })

  pub load_detached_hand : (v : VersionAt) (t : Task) (y : Part) → (c.seats p).task ≡ t → load_detached (link_of v) v (c.seats p) t ≡ Some y → OwnChains c.shared y
  load_detached_hand v (task.Detaches version) y at e =
      let h = hand_of c.shared (c.seats p) (task.Detaches version) at (sound.own p).chains in
      when_then (OwnChains c.shared) _ _ y e (λ g. with_hand c.shared (c.seats p) _ (detached_hand v version (same_name v version (and_parts _ _ g).1) h.named h.cut))
  load_detached_hand v _ y at e = absurd (cc)
