-- A cut: the version whose link is swapped becomes the oldest one attached.
use Rattle.std.proofs.Common.{◌≡◌, ◌≢◌, ℕ, ◌+◌, ◌-◌, ◌<◌, ◌≤◌, ⊎_elim, length, drop, take, get_or, ◌++◌, length-take, refl, sym, ap, ◌∙◌, subst, arith, get_or-set_same, get_or-set_other}
use Rattle.std.proofs.lemmas.Bool.{cases_eq, eqb-false}
use Rattle.std.proofs.lemmas.List.{get_or-drop, get_or-take, length-drop}
use Rattle.erm_model.specs.Member.{◌∈◌}
use Rattle.erm_model.proofs.Members.{∈-at}
use Rattle.erm_machine.specs.declared.event.Kind.TheVariants as kind
use Rattle.erm_machine.specs.declared.limits.TheConstants.{OBJECT_LIMIT}
use Rattle.erm_machine.specs.declared.part.Part.{Part}
use Rattle.erm_machine.specs.declared.place.Place.TheVariants.{Vacant}
use Rattle.erm_machine.specs.declared.task.Task.TheVariants as task
use Rattle.erm_machine.specs.declared.version.CellWord.TheVariants as word
use Rattle.erm_machine.specs.declared.version.Version.{Version}
use Rattle.erm_machine.specs.declared.version.VersionAt.{VersionAt}
use Rattle.erm_machine.specs.Begins.{horizon_of, IsBelowBegin}
use Rattle.erm_machine.specs.Chains.{LinksFrom, Linked, IsSpare, OwnChains}
use Rattle.erm_machine.specs.Core.{Core, Object, Shared, no_version, version_at, with_version}
use Rattle.erm_machine.specs.Facts.{Holds, HasBegun}
use Rattle.erm_machine.specs.Reading.{older, after_cut, detached, cut_off}
use Rattle.erm_machine.specs.Sound.{Sound}
use Rattle.erm_machine.specs.Step.{with_object}
use Rattle.erm_machine.specs.Words.{set_word}
use Rattle.erm_machine.proofs.Frames.{put_same, put_other}
use Rattle.erm_machine.proofs.Holders.{held_once}
use Rattle.erm_machine.proofs.Listed.{∈-map_from, ∈-second}
use Rattle.erm_machine.proofs.Objects.{Extends, extends}
use Rattle.erm_core_cells.proofs.ChainsCells.{seat_within}
use Rattle.erm_core_cells.proofs.ChainsFrames.{Grows, grows_refl, name_kept, named_kept, cut_kept, head_kept, heads_after, long_word}
use Rattle.erm_core_cells.proofs.ChainsRead.{Hand, hand_of, hand_if, after_cut_hand, older_hand, linked_above, link_of}

-- the object as a cut at this place leaves it
abbrev pub cut_at : Object → ℕ → Object
cut_at o place = record (with_version o place (set_word word.Link 0 (version_at o place).words)) { cut = place }

module _ (o : Object) (place : ℕ) (within : place < length o.versions) where
  cut_version : version_at (cut_at o place) place ≡ record (version_at o place) { words = set_word word.Link 0 (version_at o place).words }
  cut_version = get_or-set_same o.versions place (record (version_at o place) { words = set_word word.Link 0 (version_at o place).words }) no_version within

  cut_other : (k : ℕ) → k ≢ place → version_at (cut_at o place) k ≡ version_at o k
  cut_other k other = get_or-set_other o.versions place k (record (version_at o place) { words = set_word word.Link 0 (version_at o place).words }) no_version other

  cut_cell : (k : ℕ) → (version_at (cut_at o place) k).cell ≡ (version_at o k).cell
  cut_cell k =
      ⊎_elim (λ (same : k ≡ place). subst (λ n. (version_at (cut_at o place) n).cell ≡ (version_at o n).cell) (sym same) (ap (λ (v : Version). v.cell) cut_version))
      (λ (other : k ≡ place → ⊥). ap (λ (v : Version). v.cell) (cut_other k other)) (cases_eq k place)

  cut_stamp : (version_at (cut_at o place) place).words.stamp ≡ (version_at o place).words.stamp
  cut_stamp = ap (λ (v : Version). v.words.stamp) cut_version

  linked_cut : o.cut ≤ place → Linked o → Linked (cut_at o place)
  linked_cut attached linked =
      let long = long_word o place (set_word word.Link 0 (version_at o place).words) in
      record {
        attached = omega (arith, within, long);
        older = λ k above below.
            let link = ap (λ (v : Version). v.words.link) (cut_other k (λ same. absurd (omega (arith, same, above)))) in
            let cell = cut_cell (k - 1) in
            let was = linked.older k (omega (arith, attached, above)) (omega (arith, below, long)) in
            omega (arith, link, cell, was);
        oldest = ap (λ (v : Version). v.words.link) cut_version;
      }

  -- the links of those that are cut off, and the last one's
  detached_links : o.cut < place → Linked o → LinksFrom (cut_at o place) o.cut (place - 1 + 1)
  detached_links above linked k from to =
      let link = ap (λ (v : Version). v.words.link) (cut_other k (λ same. absurd (omega (arith, same, to, above)))) in
      let cell = cut_cell (k - 1) in
      let was = linked.older k from (omega (arith, to, above, within)) in
      omega (arith, link, cell, was)

  detached_ends : o.cut < place → Linked o → (version_at (cut_at o place) o.cut).words.link ≡ 0
  detached_ends above linked = ap (λ (v : Version). v.words.link) (cut_other o.cut (λ same. absurd (omega (arith, same, above)))) ∙ linked.oldest

  -- the cell of each version from the cut before to the new one is among those cut off
  cell_cut_off : (k : ℕ) → o.cut ≤ k → k < place → record { cell = (version_at o k).cell; words = (version_at o k).words } ∈ cut_off place o
  cell_cut_off k from below =
      let off = drop o.cut (take place o.versions) in
      let sizes = length-drop o.cut (take place o.versions) in
      let size = length-take place o.versions in
      let inside : k - o.cut < length off = omega (arith, sizes, size, within, from, below) in
      let back : o.cut + (k - o.cut) ≡ k = omega (arith, from) in
      let is : get_or off (k - o.cut) no_version ≡ version_at o k =
      get_or-drop o.cut (take place o.versions) (k - o.cut) no_version ∙ ap (λ n. get_or (take place o.versions) n no_version) back ∙ get_or-take place o.versions k no_version below in
      ∈-map_from (λ (v : Version). record { cell = v.cell; words = v.words }) off (version_at o k) (subst (λ (v : Version). v ∈ off) is (∈-at off (k - o.cut) no_version inside))

module _ (c : Core) (p : ℕ) (v : VersionAt) (horizon : ℕ) (sound : Sound c) (at : (c.seats p).task ≡ task.CutFound v horizon) where
  abbrev pub after : Shared
  after = with_object v.oid (cut_at (c.shared.objects v.oid) v.place) c.shared

  hand : Hand c.shared (c.seats p) (task.CutFound v horizon)
  hand = hand_of c.shared (c.seats p) (task.CutFound v horizon) at (sound.own p).chains

  here : after.objects v.oid ≡ cut_at (c.shared.objects v.oid) v.place
  here = put_same c.shared.objects v.oid (cut_at (c.shared.objects v.oid) v.place)

  there : (oid : ℕ) → oid ≢ v.oid → after.objects oid ≡ c.shared.objects oid
  there oid other = put_other c.shared.objects v.oid (cut_at (c.shared.objects v.oid) v.place) oid other

  pub linked_after : (oid : ℕ) → oid < OBJECT_LIMIT → Linked (after.objects oid)
  linked_after oid known =
      ⊎_elim
      (λ (same : oid ≡ v.oid). subst (λ n. Linked (after.objects n)) (sym same) (subst Linked (sym here)
      (linked_cut (c.shared.objects v.oid) v.place hand.named.within hand.cut.0.attached (sound.common.chains.linked v.oid hand.named.object))))
      (λ (other : oid ≡ v.oid → ⊥). subst Linked (sym (there oid other)) (sound.common.chains.linked oid known)) (cases_eq oid v.oid)

  -- the horizon is at most each begin stamp
  horizon_below : (q : ℕ) → HasBegun (c.seats q).place → horizon ≤ (c.seats q).current.begin
  horizon_below q begun =
      ⊎_elim
      (λ (own : p ≡ q). passes (subst (λ k. IsBelowBegin (horizon_of (c.seats p).task) k (c.seats k).place (c.seats k).current.begin) own (sound.own p).begins.own))
      (λ (ne : p ≡ q → ⊥). passes (sound.both p q ne).begins.passed) (cases_eq p q)
    where
      passes : IsBelowBegin (horizon_of (c.seats p).task) q (c.seats q).place (c.seats q).current.begin → horizon ≤ (c.seats q).current.begin
      passes b =
          let taken : (c.seats q).place ≢ Vacant = λ (vacant : (c.seats q).place ≡ Vacant). absurd (subst HasBegun vacant begun) in
          subst (λ u. IsBelowBegin (horizon_of u) q (c.seats q).place (c.seats q).current.begin) at b (seat_within c sound q taken) begun

  pub below_after : (q oid : ℕ) → oid < OBJECT_LIMIT → HasBegun (c.seats q).place → (version_at (after.objects oid) (after.objects oid).cut).words.stamp < (c.seats q).current.begin
  below_after q oid known begun =
      ⊎_elim
      (λ (same : oid ≡ v.oid).
      let stamp = cut_stamp (c.shared.objects v.oid) v.place hand.named.within in
      let below = hand.cut.1 in
      let least = horizon_below q begun in
      let cut : (version_at (cut_at (c.shared.objects v.oid) v.place) v.place).words.stamp < (c.seats q).current.begin = omega (arith, stamp, below, least) in
      subst (λ n. (version_at (after.objects n) (after.objects n).cut).words.stamp < (c.seats q).current.begin) (sym same)
      (subst (λ (o : Object). (version_at o o.cut).words.stamp < (c.seats q).current.begin) (sym here) cut))
      (λ (other : oid ≡ v.oid → ⊥). subst (λ (o : Object). (version_at o o.cut).words.stamp < (c.seats q).current.begin) (sym (there oid other)) ((sound.own q).attached.below oid known begun))
      (cases_eq oid v.oid)

  named_after : (oid : ℕ) → Extends (c.shared.objects oid) (after.objects oid)
  named_after oid = extends p (kind.SwapLink v) 0 (c.seats p) c.shared oid

  -- the seat's part, where the cells cut off are spare ones
  abbrev pub with_cut_off : Part
  with_cut_off = record (c.seats p) { spare = (c.seats p).spare ++ cut_off v.place (c.shared.objects v.oid) }

  spare_after : (k : ℕ) → (c.shared.objects v.oid).cut ≤ k → k < v.place → IsSpare after with_cut_off v.oid k
  spare_after k from below =
      let o = c.shared.objects v.oid in
      let same = cut_other o v.place hand.named.within k (λ at. absurd (omega (arith, at, below))) in
      record {
        own = record { cell = (version_at o k).cell; words = (version_at o k).words };
        spare = ∈-second (c.seats p).spare (cut_off v.place o) _ (cell_cut_off o v.place hand.named.within k from below);
        cell = subst (λ (u : Object). (version_at o k).cell ≡ (version_at u k).cell) (sym here) (sym (ap (λ (u : Version). u.cell) same));
        link = subst (λ (u : Object). (version_at o k).words.link ≡ (version_at u k).words.link) (sym here) (sym (ap (λ (u : Version). u.words.link) same));
      }

  -- the version that the seat has in hand next: the newest one that it has cut off
  pub hand_after : Hand after with_cut_off (detached (link_of c p sound v) v (c.seats p))
  hand_after =
      hand_if after with_cut_off _ (after_cut (c.seats p)) (task.Detaches (older v (link_of c p sound v))) (λ _. after_cut_hand after with_cut_off)
      (λ some.
      let linked = sound.common.chains.linked v.oid hand.named.object in
      let within = hand.named.within in
      let above = linked_above c p sound v hand.named hand.cut.0.attached (eqb-false _ _ some) in
      record {
        named = name_kept c.shared after named_after (older v (link_of c p sound v)) (older_hand c p sound v v refl hand.named above);
        cut = record {
          claimed = hand.cut.0.claimed;
          last = (c.shared.objects v.oid).cut;
          below = omega (arith, above);
          links = subst (λ (o : Object). LinksFrom o (c.shared.objects v.oid).cut (v.place - 1 + 1)) (sym here) (detached_links (c.shared.objects v.oid) v.place within above linked);
          ends = subst (λ (o : Object). (version_at o (c.shared.objects v.oid).cut).words.link ≡ 0) (sym here) (detached_ends (c.shared.objects v.oid) v.place within above linked);
          off = subst (λ (o : Object). v.place - 1 < o.cut) (sym here) (let less : v.place - 1 < v.place = omega (arith, above) in less);
          spare = λ k from upto. spare_after k from (omega (arith, upto, above));
        };
        head = tt;
      })

  -- what other seats have in hand: a cutter's object isn't theirs
  pub others_after : (q : ℕ) → q ≢ p → OwnChains after (c.seats q)
  others_after q other =
      let x = c.seats q in
      let own = (sound.own q).chains in
      record {
        named = named_kept c.shared after named_after x.task own.named;
        cut = cut_kept c.shared after x x (λ _ h. h) (λ _ m. m) (λ oid h. apart oid h) x.task own.named own.cut;
        head = head_kept c.shared after (λ oid. heads_after p (kind.SwapLink v) 0 (c.seats p) c.shared tt oid) x.task own.head;
      }
    where
      apart : (oid : ℕ) → Holds (c.seats q) oid → Grows (c.shared.objects oid) (after.objects oid)
      apart oid h =
          ⊎_elim
          (λ (same : oid ≡ v.oid). absurd (other (held_once c q p v.oid sound (subst (Holds (c.seats q)) same h) hand.cut.0.claimed)))
          (λ (ne : oid ≡ v.oid → ⊥). subst (Grows (c.shared.objects oid)) (sym (there oid ne)) (grows_refl (c.shared.objects oid))) (cases_eq oid v.oid)
