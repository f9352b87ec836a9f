-- The word that a step meets is where its kind says: a version met is attached, or its cell is a spare one, and a cell that is
-- stored into is the claim's own. That follows from the step's guard, in a sound state.
use Rattle.std.proofs.Common.{◌≡◌, ℕ, ◌-◌, ◌<◌, ◌≤◌, true, ◌||◌, [], ◌∷◌, length, inl, inr, Option, Some, None, refl, sym, ap, ◌∙◌, subst, arith}
use Rattle.std.specs.Prelude.{IfSome}
use Rattle.std.proofs.lemmas.Bool.{and_parts, or_cases, ltb-true}
use Rattle.erm_layout.specs.Spots.{word_of_spot}
use Rattle.erm_model.specs.Member.{◌∈◌}
use Rattle.erm_model.proofs.Members.{∈-at}
use Rattle.erm_machine.specs.declared.limits.TheConstants.{ANNOUNCERS}
use Rattle.erm_machine.specs.declared.attempt.OwnCell.{OwnCell}
use Rattle.erm_machine.specs.declared.event.Kind.{Kind}
use Rattle.erm_machine.specs.declared.event.Kind.TheVariants as kind
use Rattle.erm_machine.specs.declared.part.Part.{Part}
use Rattle.erm_machine.specs.declared.place.Place.{Place}
use Rattle.erm_machine.specs.declared.place.Place.TheVariants.{Active, Leaving}
use Rattle.erm_machine.specs.declared.task.Task.{Task}
use Rattle.erm_machine.specs.declared.task.Task.TheVariants as task
use Rattle.erm_machine.specs.declared.version.Cell.{Cell}
use Rattle.erm_machine.specs.declared.version.CellWord.{CellWord}
use Rattle.erm_machine.specs.declared.version.CellWord.TheVariants as word
use Rattle.erm_machine.specs.declared.version.VersionAt.{VersionAt}
use Rattle.erm_machine.specs.Bounds.{IsBounded}
use Rattle.erm_machine.specs.Cells.{WantsCell}
use Rattle.erm_machine.specs.Chains.{IsNamed, NamedInHand, CutInHand}
use Rattle.erm_machine.specs.Core.{Core, Shared, Spot, tail_word, flushed_word, counter_word, begin_word, state_word, back_word, entry_word, version_word, own_word, ring_word, no_word, spot_of, word_at, version_at, newest, claim_at, own_words}
use Rattle.erm_machine.specs.Decided.{MarkInHand, IsRead}
use Rattle.erm_machine.specs.Facts.{HasBegun, over_of, all_of}
use Rattle.erm_machine.specs.Reading.{set_reader, may_load_row, may_copy_row, load_walked_stamp, load_walked_link, load_cell, swap_link, load_detached, load_active_stamp}
use Rattle.erm_machine.specs.Seat.{is_own, is_active, is_sealed, is_decided, end_of, last_claim, read_at, same_version, no_read}
use Rattle.erm_machine.specs.Settling.{load_readers, load_settled_stamp, load_stamp, raise_reader, installs, mark_overwritten, clear_reader}
use Rattle.erm_machine.specs.Snapshot.{InHand, NewerFrom}
use Rattle.erm_machine.specs.Sound.{Sound}
use Rattle.erm_machine.specs.Step.{part_after}
use Rattle.erm_machine.specs.Words.{cell_word}
use Rattle.erm_machine.proofs.Guards.{when_then, if_then, unless_some}
use Rattle.erm_machine.proofs.Holders.{begun_attached}
use Rattle.erm_machine.proofs.Listed.{∈-head, ∈-second}
use Rattle.erm_machine.proofs.QuietKinds.{begun_active, begun_sealed, begun_decided}
use Rattle.erm_core_cells.proofs.ChainsFrames.{same_name}
use Rattle.erm_rule.specs.Cells.{word_in, CellsAre, IsTold}
use Rattle.erm_rule.proofs.OnePlace.{IsLive, live_drawn, own_drawn, spare_counts}
use Rattle.erm_rule.proofs.Stored.{own_of, stores}

-- the word of a spot is where the spot says
abbrev pub Lives : Core → Spot → Type 0
Lives c (version_word v w) = IsLive c.shared v
Lives c (own_word seat claim cell w) = (seat < ANNOUNCERS) × (is_own cell (claim_at (c.seats seat).current claim).own ≡ true)
Lives c _ = Unit {0}

-- so the word of the table is what the state says of the spot
pub is_met : (c : Core) (cells : ℕ → Cell) → CellsAre c cells → (spot : Spot) → Lives c spot → IfSome (word_of_spot spot) (λ u. word_in c cells u ≡ word_at c spot)
is_met c cells are tail_word live = refl
is_met c cells are flushed_word live = refl
is_met c cells are (counter_word counter) live = refl
is_met c cells are (begin_word seat) live = refl
is_met c cells are (state_word seat) live = refl
is_met c cells are (back_word seat) live = refl
is_met c cells are (entry_word oid) live = refl
is_met c cells are (version_word v w) live =
    ap (λ (n : ℕ). cell_word w (cells n)) (sym live.cell) ∙ ap (cell_word w) ((are.objects v.oid live.object).are v.place live.attached live.within)
is_met c cells are (own_word seat claim cell w) live =
    let o = own_of cell (claim_at (c.seats seat).current claim).own live.1 in
    ap (λ (n : ℕ). cell_word w (cells n)) (sym o.cell_is) ∙ ap (cell_word w) ((are.seats seat live.0).owns claim o.own o.is) ∙ sym (ap (λ (q : Option OwnCell). cell_word w (own_words q)) o.is)
is_met c cells are (ring_word at) live = refl
is_met c cells are no_word live = tt

-- a version's cell is one of the seat's spare ones, and has the version's link
pub record IsOff (c : Core) (p : ℕ) (v : VersionAt) : Type 0 where
  pub seat : p < ANNOUNCERS
  pub own : OwnCell
  pub spare : own ∈ (c.seats p).spare
  pub cell : own.cell ≡ v.cell
  pub link : own.words.link ≡ (version_at (c.shared.objects v.oid) v.place).words.link

-- the word that a step of this kind meets is where the kind says, or is the link of a version cut off
abbrev pub Meets : Core → ℕ → Kind → Type 0
Meets c p (kind.LoadDetached v) = IsOff c p v
Meets c p k = Lives c (spot_of p k)

-- so the word of the table is what the state says of the word that is met
pub is_as_met : (c : Core) (p : ℕ) (cells : ℕ → Cell) → CellsAre c cells → (k : Kind) → Meets c p k → IfSome (word_of_spot (spot_of p k)) (λ u. word_in c cells u ≡ word_at c (spot_of p k))
is_as_met c p cells are (kind.LoadDetached v) off =
    ap (λ (n : ℕ). cell_word word.Link (cells n)) (sym off.cell) ∙ ap (cell_word word.Link) ((are.seats p off.seat).spares off.own off.spare) ∙ off.link
is_as_met c p cells are k meets = is_met c cells are (spot_of p k) meets

-- the version of a spot, if it is a version's
abbrev version_of : Spot → VersionAt → VersionAt
version_of (version_word v w) u = v
version_of _ u = u

-- and the cell of the version that is met was drawn
pub met_drawn : (c : Core) (p : ℕ) → Sound c → (k : Kind) → Meets c p k → (u : VersionAt) (w : CellWord) → spot_of p k ≡ version_word u w → u.cell < c.shared.cell_limit
met_drawn c p sound (kind.LoadDetached v) off u w is =
    let cell : off.own.cell ≡ u.cell = off.cell ∙ ap (λ (t : Spot). (version_of t u).cell) is in
    subst (λ (n : ℕ). n < c.shared.cell_limit) cell
    (own_drawn c.shared c.seats sound.common.cells off.own.cell p off.seat (spare_counts off.own.cell (c.seats p) off.own off.spare refl)).1
met_drawn c p sound k meets u w is = (live_drawn c.shared c.seats sound.common.cells u (subst (Lives c) is meets)).1

-- how many claims are over, of a seat that has begun
over_at : (pl : Place) (t : Task) (n : ℕ) → HasBegun pl → over_of pl t n ≡ over_of (Active 0) t n
over_at (Leaving stamp) t n begun = absurd begun
over_at _ t n begun = refl

begun_ending : (pl : Place) → (is_decided pl || is_active pl) ≡ true → HasBegun pl
begun_ending pl e = elim (or_cases (is_decided pl) (is_active pl) e) [ inl d ↦ begun_decided pl d | inr a ↦ begun_active pl a ]

live_as : (s : Shared) (v w : VersionAt) → same_version v w ≡ true → IsLive s w → IsLive s v
live_as s v w e live = subst (λ (u : VersionAt). IsLive s u) (sym (same_name v w e)) live

module _ (c : Core) (p : ℕ) (sound : Sound c) where
  -- the seat that steps, and what it steps on
  abbrev x : Part
  x = c.seats p

  abbrev s : Shared
  s = c.shared

  live_attached : (v : VersionAt) → IsNamed s v → (s.objects v.oid).cut ≤ v.place → IsLive s v
  live_attached v named attached = record { object = named.object; attached = attached; within = named.within; cell = named.cell }

  live_newer : (v : VersionAt) → IsNamed s v → HasBegun x.place → NewerFrom (s.objects v.oid) v.place x.current.begin → IsLive s v
  live_newer v named begun newer = live_attached v named (begun_attached c p v.oid v.place sound named.object begun newer)

  now_in : x.current ∈ all_of x
  now_in = ∈-second x.over (x.current ∷ []) x.current (∈-head x.current [])

  -- what is read is attached, while the transaction has begun
  read_live : (k : ℕ) → k < length x.current.reads → HasBegun x.place → IsLive s (read_at x.current k).version
  read_live k within begun =
      let fits = (sound.own p).snapshot.reads x.current (read_at x.current k) now_in (∈-at x.current.reads k no_read within) in
      live_newer (read_at x.current k).version fits.named begun fits.newest.newer

  -- what a claim overwrites is attached, while it isn't over
  claim_live : (k : ℕ) (t : Task) → x.task ≡ t → HasBegun x.place → k < length x.current.writes → over_of (Active 0) t (length x.current.writes) ≤ k → IsLive s (claim_at x.current k).version
  claim_live k t at begun within later =
      let w = claim_at x.current k in
      let o = s.objects w.version.oid in
      let n : over_of x.place x.task (length x.current.writes) ≡ over_of (Active 0) t (length x.current.writes) =
      over_at x.place x.task (length x.current.writes) begun ∙ ap (λ u. over_of (Active 0) u (length x.current.writes)) at in
      let claims = (sound.own p).claims in
      let held = claims.held k within (at_most _ _ k n later) in
      let fits = claims.fit k within held in
      let known = claims.objects k within in
      let chain = (sound.common.chains.linked w.version.oid known).attached in
      let place : w.version.place ≡ newest o = fits.place in
      record {
        object = known;
        attached = low _ _ _ place chain;
        within = below _ _ _ place chain;
        cell = ap (λ m. (version_at o m).cell) place ∙ sym (sound.common.claims.objects w.version.oid known).head ∙ sym fits.cell;
      }
    where
      at_most : (m n k : ℕ) → m ≡ n → n ≤ k → m ≤ k
      at_most m n k e le = omega (arith, e, le)

      low : (place cut size : ℕ) → place ≡ size - 1 → cut < size → cut ≤ place
      low place cut size e lt = omega (arith, e, lt)

      below : (place cut size : ℕ) → place ≡ size - 1 → cut < size → place < size
      below place cut size e lt = omega (arith, e, lt)

  -- READ, CUT
  walked_stamp_live : (found : ℕ) (v : VersionAt) (t : Task) (y : Part) → HasBegun x.place → NamedInHand s t → CutInHand s x t → InHand s x.current.begin t
      → load_walked_stamp found v x t ≡ Some y → IsLive s v
  walked_stamp_live found v (task.Walks version head) y begun named cut hand e =
      when_then (λ _. IsLive s v) _ _ y e (λ g. live_as s v version g (live_newer version named begun hand))
  walked_stamp_live found v (task.CutWalks version horizon) y begun named cut hand e =
      when_then (λ _. IsLive s v) _ _ y e (λ g. live_as s v version g (live_attached version named cut.attached))
  walked_stamp_live found v (task.SafeWalks version) y begun named cut hand e =
      when_then (λ _. IsLive s v) _ _ y e (λ g. live_as s v version g (live_newer version named begun hand))
  walked_stamp_live found v (task.Passed version) y begun named cut hand e =
      when_then (λ _. IsLive s v) _ _ y e (λ g. live_as s v version g (live_newer version named begun hand.0))
  walked_stamp_live found v _ y begun named cut hand e = absurd (cc)

  walked_link_live : (found : ℕ) (v : VersionAt) (t : Task) (y : Part) → HasBegun x.place → NamedInHand s t → CutInHand s x t → InHand s x.current.begin t
      → load_walked_link found v x t ≡ Some y → IsLive s v
  walked_link_live found v (task.Passed version) y begun named cut hand e =
      when_then (λ _. IsLive s v) _ _ y e (λ g. live_as s v version (and_parts _ _ (and_parts _ _ g).0).0 (live_newer version named begun hand.0))
  walked_link_live found v (task.SafePassed version) y begun named cut hand e =
      when_then (λ _. IsLive s v) _ _ y e (λ g. live_as s v version (and_parts _ _ (and_parts _ _ g).0).0 (live_newer version named begun hand.0))
  walked_link_live found v (task.CutPassed version horizon) y begun named cut hand e =
      when_then (λ _. IsLive s v) _ _ y e (λ g. live_as s v version g (live_attached version named cut.attached))
  walked_link_live found v _ y begun named cut hand e = absurd (cc)

  is_read_live : (v : VersionAt) → IsRead x.current v → HasBegun x.place → IsLive s v
  is_read_live v r begun = subst (λ (u : VersionAt). IsLive s u) r.2 (read_live r.0 r.1 begun)

  last_live : (t : Task) → x.task ≡ t → HasBegun x.place → 0 < length x.current.writes → over_of (Active 0) t (length x.current.writes) ≡ 0 → IsLive s (claim_at x.current (last_claim x.current)).version
  last_live t at begun some none = claim_live (last_claim x.current) t at begun (last (length x.current.writes) some) (least _ _ none)
    where
      last : (n : ℕ) → 0 < n → n - 1 < n
      last n h = omega (arith, h)

      least : (m n : ℕ) → m ≡ 0 → m ≤ n
      least m n e = omega (arith, e)

  -- a row is loaded of the version in hand, or to be copied
  row_live : (v : VersionAt) (t : Task) → HasBegun x.place → NamedInHand s t → InHand s x.current.begin t → MarkInHand s x.current t → may_load_row v t ≡ true → IsLive s v
  row_live v (task.Found version stamp head) begun named hand mark g = live_as s v version g (live_newer version named begun hand.newer)
  row_live v (task.Registered version) begun named hand mark g = live_as s v version g (is_read_live version mark begun)
  row_live v (task.Overtaken version overwriter) begun named hand mark g = live_as s v version g (is_read_live version mark.2 begun)
  row_live v (task.Rated version) begun named hand mark g = live_as s v version g (is_read_live version mark begun)
  row_live v (task.SafeFound version) begun named hand mark g = live_as s v version g (live_newer version named begun hand.newer)
  row_live v _ begun named hand mark g = absurd (cc)

  copied_live : (v : VersionAt) (t : Task) → x.task ≡ t → HasBegun x.place → IsBounded p x.current t → may_copy_row v x t ≡ true → IsLive s v
  copied_live v (task.Copies w) at begun bounded g = live_as s v _ g (last_live (task.Copies w) at begun bounded.0 refl)
  copied_live v _ at begun bounded g = absurd (cc)

  cell_live : (found : ℕ) (v : VersionAt) (w : CellWord) (y : Part) → load_cell found v w x ≡ Some y → IsLive s v
  cell_live found v word.Stamp y e =
      if_then (λ _. IsLive s v) (is_active x.place) (load_walked_stamp found v x x.task) None y e
      (λ active h. walked_stamp_live found v x.task y (begun_active x.place active) (sound.own p).chains.named (sound.own p).chains.cut (sound.own p).snapshot.in_hand h) (λ _ h. absurd (cc))
  cell_live found v word.Link y e =
      if_then (λ _. IsLive s v) (is_active x.place) (load_walked_link found v x x.task) None y e
      (λ active h. walked_link_live found v x.task y (begun_active x.place active) (sound.own p).chains.named (sound.own p).chains.cut (sound.own p).snapshot.in_hand h) (λ _ h. absurd (cc))
  cell_live found v (word.Row k) y e =
      when_then (λ _. IsLive s v) _ _ y e (λ g.
      let parts = and_parts _ _ g in
      let begun = begun_active x.place parts.0 in
      elim (or_cases (may_load_row v x.task) (may_copy_row v x x.task) parts.1) [
        | inl loaded ↦ row_live v x.task begun (sound.own p).chains.named (sound.own p).snapshot.in_hand (sound.own p).decided.in_hand loaded
        | inr copied ↦ copied_live v x.task refl begun (sound.own p).bounds.bounded copied
      ])
  cell_live found v _ y e = absurd (cc)

  reader_live : (v : VersionAt) (t : Task) (y : Part) → NamedInHand s t → InHand s x.current.begin t → set_reader p v (s.objects v.oid) x t ≡ Some y → IsLive s v
  reader_live v (task.Found version stamp head) y named hand e =
      when_then (λ _. IsLive s v) _ _ y e (λ g.
      let rest = and_parts _ _ (and_parts _ _ (and_parts _ _ g).0).0 in
      live_as s v version rest.1 (live_newer version named (begun_active x.place (and_parts _ _ rest.0).0) hand.newer))
  reader_live v _ y named hand e = absurd (cc)

  swap_live : (found : ℕ) (v : VersionAt) (t : Task) (y : Part) → NamedInHand s t → CutInHand s x t → swap_link found v (s.objects v.oid) x t ≡ Some y → IsLive s v
  swap_live found v (task.CutFound version horizon) y named cut e =
      when_then (λ _. IsLive s v) _ _ y e (λ g. live_as s v version (and_parts _ _ g).1 (live_attached version named cut.0.attached))
  swap_live found v _ y named cut e = absurd (cc)

  detached_off : (found : ℕ) (v : VersionAt) (t : Task) (y : Part) → p < ANNOUNCERS → NamedInHand s t → CutInHand s x t → load_detached found v x t ≡ Some y → IsOff c p v
  detached_off found v (task.Detaches version) y seat named cut e =
      when_then (λ _. IsOff c p v) _ _ y e (λ g.
      let off = cut.spare version.place cut.below (omega arith) in
      subst (IsOff c p) (sym (same_name v version (and_parts _ _ g).1))
      (record { seat = seat; own = off.own; spare = off.spare; cell = off.cell ∙ named.cell; link = off.link }))
  detached_off found v _ y seat named cut e = absurd (cc)

  active_stamp_live : (found : ℕ) (v : VersionAt) (w : CellWord) (t : Task) (y : Part) → x.task ≡ t → HasBegun x.place → MarkInHand s x.current t → WantsCell x t
      → load_active_stamp found v w x t ≡ Some y → IsLive s v
  active_stamp_live found v word.Overwriter (task.Registered version) y at begun mark wants e =
      when_then (λ _. IsLive s v) _ _ y e (λ g. live_as s v version g (is_read_live version mark begun))
  active_stamp_live found v word.OverwriterSucc (task.Overtaken version overwriter) y at begun mark wants e =
      when_then (λ _. IsLive s v) _ _ y e (λ g. live_as s v version g (is_read_live version mark.2 begun))
  active_stamp_live found v word.ReaderStamp task.Draws y at begun mark wants e =
      when_then (λ _. IsLive s v) _ _ y e (λ g. live_as s v _ (and_parts _ _ g).0 (last_live task.Draws at begun wants.0 refl))
  active_stamp_live found v word.ReaderStamp task.Fetched y at begun mark wants e =
      when_then (λ _. IsLive s v) _ _ y e (λ g. live_as s v _ g (last_live task.Fetched at begun mark.0 refl))
  active_stamp_live found v _ _ y at begun mark wants e = absurd (cc)

  -- SETTLE
  settled_stamp_live : (found : ℕ) (v : VersionAt) (w : CellWord) (t : Task) (y : Part) → x.task ≡ t → HasBegun x.place → IsBounded p x.current t
      → load_settled_stamp found v w x t ≡ Some y → IsLive s v
  settled_stamp_live found v word.Overwriter (task.ReadClear read) y at begun bounded e =
      when_then (λ _. IsLive s v) _ _ y e (λ g. live_as s v _ (and_parts _ _ g).0 (read_live read bounded begun))
  settled_stamp_live found v word.OverwriterSucc (task.ReadOvertaken read overwriter) y at begun bounded e =
      when_then (λ _. IsLive s v) _ _ y e (λ g. live_as s v _ (and_parts _ _ g).0 (read_live read bounded begun))
  settled_stamp_live found v word.Stamp (task.WriteClear write) y at begun bounded e =
      when_then (λ _. IsLive s v) _ _ y e (λ g. live_as s v _ g (claim_live write (task.WriteClear write) at begun bounded (omega arith)))
  settled_stamp_live found v word.ReaderStamp (task.WriteMade write) y at begun bounded e =
      when_then (λ _. IsLive s v) _ _ y e (λ g. live_as s v _ (and_parts _ _ g).0 (claim_live write (task.WriteMade write) at begun bounded (omega arith)))
  settled_stamp_live found v _ _ y at begun bounded e = absurd (cc)

  stamp_live : (found : ℕ) (v : VersionAt) (w : CellWord) (y : Part) → load_stamp found v w x ≡ Some y → IsLive s v
  stamp_live found v w y e =
      if_then (λ _. IsLive s v) _ _ _ y e
      (λ active h. active_stamp_live found v w x.task y refl (begun_active x.place active) (sound.own p).decided.in_hand (sound.own p).cells.wants h)
      (λ _ rest. if_then (λ _. IsLive s v) (is_sealed x.place) (load_settled_stamp found v w x x.task) None y rest
      (λ sealed h. settled_stamp_live found v w x.task y refl (begun_sealed x.place sealed) (sound.own p).bounds.bounded h) (λ _ h. absurd (cc)))

  readers_live : (found : ℕ) (v : VersionAt) (t : Task) (y : Part) → x.task ≡ t → load_readers p v found x t ≡ Some y → IsLive s v
  readers_live found v (task.Settles reads writes) y at e =
      when_then (λ _. IsLive s v) _ _ y e (λ g.
      let first = and_parts _ _ g in
      let second = and_parts _ _ first.0 in
      live_as s v _ first.1 (claim_live writes (task.Settles reads writes) at (begun_sealed x.place (and_parts _ _ second.0).0) (ltb-true _ _ second.1) (omega arith)))
  readers_live found v _ y at e = absurd (cc)

  -- END
  raise_live : (v : VersionAt) (value : ℕ) (t : Task) (y : Part) → raise_reader v value x t ≡ Some y → IsLive s v
  raise_live v value (task.Ends raised ended step cleared) y e =
      when_then (λ _. IsLive s v) _ _ y e (λ g.
      let same = and_parts _ _ (and_parts _ _ g).0 in
      let low = and_parts _ _ same.0 in
      live_as s v _ same.1 (read_live raised (ltb-true _ _ low.1) (begun_decided x.place (and_parts _ _ low.0).0)))
  raise_live v value _ y e = absurd (cc)

  mark_live : (nth : ℕ) (v : VersionAt) (value wanted : ℕ) (t : Task) (y : Part) → x.task ≡ t → mark_overwritten nth v value wanted x t ≡ Some y → IsLive s v
  mark_live nth v value wanted (task.Ends raised ended step cleared) y at e =
      when_then (λ _. IsLive s v) _ _ y e (λ g.
      let same = and_parts _ _ (and_parts _ _ g).0 in
      let ready : installs raised ended step x ≡ true = (and_parts _ _ same.0).0 in
      let low = and_parts _ _ ready in
      live_as s v _ same.1
      (claim_live ended (task.Ends raised ended step cleared) at (begun_decided x.place (and_parts _ _ (and_parts _ _ low.0).0).0) (ltb-true ended (length x.current.writes) low.1) (omega arith)))
  mark_live nth v value wanted _ y at e = absurd (cc)

  clear_live : (v : VersionAt) (o : Option (ℕ × ℕ × ℕ × ℕ)) (y : Part) → clear_reader v x o ≡ Some y → IsLive s v
  clear_live v None y e = absurd (cc)
  clear_live v (Some i) y e =
      when_then (λ _. IsLive s v) _ _ y e (λ g.
      let same = and_parts _ _ g in
      let low = and_parts _ _ (and_parts _ _ same.0).0 in
      live_as s v _ same.1 (read_live i.3 (ltb-true _ _ low.1) (begun_ending x.place (and_parts _ _ low.0).0)))

  pub lives : (k : Kind) (found : ℕ) (y : Part) → p < ANNOUNCERS → IsTold k → part_after p k found s x ≡ Some y → Meets c p k
  lives (kind.Split other) found y seat told e = absurd told
  lives (kind.Join other) found y seat told e = absurd told
  lives (kind.LoadCell v w) found y seat told e = cell_live found v w y (unless_some _ _ y e)
  lives (kind.StoreCell place cell w value) found y seat told e = (seat, (stores place cell w value x y e).own)
  lives (kind.SetReader v) found y seat told e = reader_live v x.task y (sound.own p).chains.named (sound.own p).snapshot.in_hand e
  lives (kind.ClearReader v) found y seat told e = clear_live v (end_of x.task) y e
  lives (kind.LoadReaders v) found y seat told e = readers_live found v x.task y refl e
  lives (kind.LoadStamp v w) found y seat told e = stamp_live found v w y e
  lives (kind.RaiseReader v value) found y seat told e = raise_live v value x.task y e
  lives (kind.StoreSucc v value) found y seat told e = mark_live 6 v value x.current.succ x.task y refl e
  lives (kind.StoreOverwriter v value) found y seat told e = mark_live 7 v value x.current.stamp x.task y refl e
  lives (kind.SwapLink v) found y seat told e = swap_live found v x.task y (sound.own p).chains.named (sound.own p).chains.cut e
  lives (kind.LoadDetached v) found y seat told e = detached_off found v x.task y seat (sound.own p).chains.named (sound.own p).chains.cut e
  lives _ found y seat told e = tt
