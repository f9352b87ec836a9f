-- Each event keeps chains, the versions in hand, and what is attached.
use Rattle.std.proofs.Common.{◌≡◌, ◌≢◌, ℕ, ◌<◌, ⊎_elim, Bool, true, false, ◌++◌, length, Option, Some, None, refl, sym, ap, subst, inl, inr, arith}
use Rattle.std.specs.Prelude.{if◌then◌else◌, ◌==◌}
use Rattle.std.proofs.lemmas.Bool.{and_parts, ltb-true}
use Rattle.std.proofs.lemmas.Option.{same_Some}
use Rattle.erm_machine.specs.declared.event.Kind.{Kind}
use Rattle.erm_machine.specs.declared.event.Kind.TheVariants as kind
use Rattle.erm_machine.specs.declared.event.TailUse.{TailUse}
use Rattle.erm_machine.specs.declared.event.TailUse.TheVariants as purpose
use Rattle.erm_machine.specs.declared.limits.TheConstants.{OBJECT_LIMIT}
use Rattle.erm_machine.specs.declared.part.Part.{Part}
use Rattle.erm_machine.specs.declared.place.Place.{Place}
use Rattle.erm_machine.specs.declared.place.Place.TheVariants.{Vacant}
use Rattle.erm_machine.specs.declared.task.Task.{Task}
use Rattle.erm_machine.specs.declared.task.Task.TheVariants as task
use Rattle.erm_machine.specs.declared.version.VersionAt.{VersionAt}
use Rattle.erm_machine.specs.Attached.{OwnAttached}
use Rattle.erm_machine.specs.Chains.{Linked, Chains, HeadInHand, OwnChains}
use Rattle.erm_machine.specs.Core.{Core, Object, Shared, spot_of, word_at, version_at}
use Rattle.erm_machine.specs.Facts.{HasBegun}
use Rattle.erm_machine.specs.Life.{split, join}
use Rattle.erm_machine.specs.Reading.{load_entry, swap_link, cut_off, detached}
use Rattle.erm_machine.specs.Seat.{end_of, is_sealed, is_vacant}
use Rattle.erm_machine.specs.Settling.{load_read_entry}
use Rattle.erm_machine.specs.Sound.{Sound}
use Rattle.erm_machine.specs.Step.{shared_after, after_event, with_part, with_object, is_known, installed, added}
use Rattle.erm_machine.specs.Tasks.{TaskFits}
use Rattle.erm_machine.specs.Words.{put, claimed}
use Rattle.erm_machine.proofs.Frames.{at_cases, each_seat}
use Rattle.erm_machine.proofs.Guards.{when_then, if_then, unless_some}
use Rattle.erm_machine.proofs.Objects.{Extends, extends}
use Rattle.erm_machine.proofs.QuietKinds.{MeetsOne, Moves, moves}
use Rattle.erm_core_cells.proofs.ChainsClaim.{claim_hand, claim_session, set_reader_hand}
use Rattle.erm_core_cells.proofs.ChainsCut.{linked_after, below_after, with_cut_off, hand_after, others_after, after, cut_at}
use Rattle.erm_core_cells.proofs.ChainsFrames.{Grows, grows_refl, CutsNone, grows_after, KeepsHeads, heads_after, put_object, linked_kept, named_kept, cut_kept, head_kept, same_name}
use Rattle.erm_core_cells.proofs.ChainsHeads.{head_attached, heads_put, session_owner, claim_fits, linked_installed, installed_fits}
use Rattle.erm_core_cells.proofs.ChainsInstalls.{install_outcome}
use Rattle.erm_core_cells.proofs.ChainsRead.{Hand, hand_of, hand_moved, stays_hand, horizon_hand, load_begin_hand, load_state_hand, load_stamp_hand, load_entry_hand, load_cell_hand, load_detached_hand, link_of}
use Rattle.erm_core_cells.proofs.ChainsStays.{IsBare, Bare, bare_chains, s_load_read_entry, over_install, KeepsHand, stays_kind, Starts, starts_kind}

-- what the law says of a state
pub record Kept (d : Core) : Type 0 where
  pub chains : Chains d.shared
  pub own : (q : ℕ) → OwnChains d.shared (d.seats q)
  pub attached : (q : ℕ) → OwnAttached d.shared (d.seats q)

kept_from : (c : Core) (p : ℕ) (y : Part) (t : Shared) (d : Core) → ((oid : ℕ) → oid < OBJECT_LIMIT → Linked (t.objects oid)) →
    OwnChains t y → ((q : ℕ) → q ≢ p → OwnChains t (c.seats q)) → OwnAttached t y → ((q : ℕ) → q ≢ p → OwnAttached t (c.seats q)) →
    record { shared = t; seats = put c.seats p y } ≡ d → Kept d
kept_from c p y t d linked mine others below below_others is =
    subst Kept is (record {
      chains = record { linked = linked };
      own = each_seat (λ _ (z : Part). OwnChains t z) c.seats p y mine others;
      attached = each_seat (λ _ (z : Part). OwnAttached t z) c.seats p y below below_others;
    })

-- a begin stamp stays, or is the tail; the oldest version attached stays
below_kept : (c : Core) (p : ℕ) (t : Shared) (y : Part) → Sound c → ((oid : ℕ) → Grows (c.shared.objects oid) (t.objects oid)) → Starts c.shared.tail (c.seats p) y → OwnAttached t y
below_kept c p t y sound g starts = record {
  below = λ oid known begun.
      let o = c.shared.objects oid in
      let within = (sound.common.chains.linked oid known).attached in
      let stamp = (g oid).stamp o.cut within in
      let cut = ap (λ n. (version_at (t.objects oid) n).words.stamp) (g oid).cut in
      ⊎_elim
      (λ (same : HasBegun (c.seats p).place × (y.current.begin ≡ (c.seats p).current.begin)).
      let old = (sound.own p).attached.below oid known same.0 in let begin = same.1 in omega (arith, stamp, cut, old, begin))
      (λ (new : y.current.begin ≡ c.shared.tail).
      let old = (sound.common.claims.objects oid known).below o.cut within in omega (arith, stamp, cut, old, new)) (starts.starts begun);
}

same_start : (c : Core) (q : ℕ) → Starts c.shared.tail (c.seats q) (c.seats q)
same_start c q = record { starts = λ begun. inl (begun, refl) }

-- what others have in hand, where no chain is cut
other_kept : (c : Core) (t : Shared) (q : ℕ) → Sound c → ((oid : ℕ) → Grows (c.shared.objects oid) (t.objects oid)) → ((oid : ℕ) → Extends (c.shared.objects oid) (t.objects oid)) →
    HeadInHand t (c.seats q).task → OwnChains t (c.seats q)
other_kept c t q sound g e head =
    let own = (sound.own q).chains in
    record {
      named = named_kept c.shared t e (c.seats q).task own.named;
      cut = cut_kept c.shared t (c.seats q) (c.seats q) (λ _ h. h) (λ _ m. m) (λ oid _. g oid) (c.seats q).task own.named own.cut;
      head = head;
    }

-- a step that cuts no chain, and changes no entry: the seat's own hand over what was shared before
plain_kept : (c : Core) (p : ℕ) (k : Kind) (d : Core) → CutsNone k → KeepsHeads k → Sound c → (m : Moves c p k d) → OwnChains c.shared m.part → Kept d
plain_kept c p k d none heads sound m mine =
    let found = word_at c (spot_of p k) in
    let t = shared_after p k found (c.seats p) c.shared in
    let g = grows_after p k found (c.seats p) c.shared none in
    let e = extends p k found (c.seats p) c.shared in
    let h = heads_after p k found (c.seats p) c.shared heads in
    kept_from c p m.part t d
    (λ oid known. linked_kept (c.shared.objects oid) (t.objects oid) (g oid) (h oid).as_long (sound.common.chains.linked oid known))
    (record {
      named = named_kept c.shared t e m.part.task mine.named;
      cut = cut_kept c.shared t m.part m.part (λ _ u. u) (λ _ u. u) (λ oid _. g oid) m.part.task mine.named mine.cut;
      head = head_kept c.shared t h m.part.task mine.head;
    })
    (λ q _. other_kept c t q sound g e (head_kept c.shared t h (c.seats q).task (sound.own q).chains.head))
    (below_kept c p t m.part sound g (starts_kind p k c m.part m.after))
    (λ q _. below_kept c q t (c.seats q) sound g (same_start c q))
    (sym m.is)

-- where the call, the claims and the spare cells stay, or no version is in hand any more
steady_kept : (c : Core) (p : ℕ) (k : Kind) (d : Core) → CutsNone k → KeepsHeads k → KeepsHand k → MeetsOne k → Sound c → after_event c p k ≡ Some d → Kept d
steady_kept c p k d none heads keeps one sound e =
    let m = moves c p k d one e in
    plain_kept c p k d none heads sound m
    (stays_hand c.shared (c.seats p) m.part (sound.own p).chains (stays_kind p k (word_at c (spot_of p k)) c.shared (c.seats p) m.part keeps (sound.own p).task m.after))

-- the object that is named is one below the limit
known_of : (b : Bool) (o : Option Core) (d : Core) → (if b then o else None) ≡ Some d → b ≡ true
known_of true o d e = refl
known_of false o d e = absurd (cc)

entry_kept : (c : Core) (p oid : ℕ) (d : Core) → Sound c → after_event c p (kind.LoadEntry oid) ≡ Some d → Kept d
entry_kept c p oid d sound e =
    let m = moves c p (kind.LoadEntry oid) d tt e in
    let known : oid < OBJECT_LIMIT = ltb-true _ _ (known_of (is_known (kind.LoadEntry oid)) _ d e) in
    plain_kept c p (kind.LoadEntry oid) d tt tt sound m
    (if_then (OwnChains c.shared) (is_sealed (c.seats p).place) (load_read_entry p oid (c.shared.objects oid).entry (c.seats p) (c.seats p).task)
    (load_entry p oid (c.shared.objects oid).entry (c.shared.objects oid) (c.seats p) (c.seats p).task) m.part m.after
    (λ _ h. stays_hand c.shared (c.seats p) m.part (sound.own p).chains (s_load_read_entry p oid (c.shared.objects oid).entry (c.seats p) (c.seats p).task m.part h))
    (λ _ h. load_entry_hand c p sound oid (c.seats p).task m.part known h))

-- CLAIM: the exchange
claim_kept : (c : Core) (p oid seen number : ℕ) (d : Core) → Sound c → after_event c p (kind.Claim oid seen number) ≡ Some d → Kept d
claim_kept c p oid seen number d sound e =
    let k = kind.Claim oid seen number in
    let m = moves c p k d tt e in
    let known : oid < OBJECT_LIMIT = ltb-true _ _ (known_of (is_known k) _ d e) in
    let o = c.shared.objects oid in
    let t = shared_after p k o.entry (c.seats p) c.shared in
    let g = grows_after p k o.entry (c.seats p) c.shared tt in
    let x = extends p k o.entry (c.seats p) c.shared in
    let session = claim_session p oid seen number o.entry o (c.seats p) (c.seats p).task m.part m.after in
    kept_from c p m.part t d
    (λ at below. linked_kept (c.shared.objects at) (t.objects at) (g at)
    (put_object (λ (a b : Object). length b.versions ≡ length a.versions) c.shared.objects oid _ (λ _. refl) refl at) (sound.common.chains.linked at below))
    (claim_hand c p oid seen number sound known (c.seats p).task m.part refl m.after)
    (λ q _. other_kept c t q sound g x
    (heads_put c.shared oid _ (claim_fits o (o.entry == seen) (claimed seen p number) (λ _. session_owner seen p number session))
    (c.seats q).task (sound.own q).chains.named (head_attached c q (c.seats q).task sound refl (sound.own q).chains.named) (sound.own q).chains.head))
    (below_kept c p t m.part sound g (starts_kind p k c m.part m.after))
    (λ q _. below_kept c q t (c.seats q) sound g (same_start c q))
    (sym m.is)

-- END: an entry is stored without an owner
install_kept : (c : Core) (p oid head : ℕ) (d : Core) → Sound c → after_event c p (kind.Install oid head) ≡ Some d → Kept d
install_kept c p oid head d sound e =
    let k = kind.Install oid head in
    let m = moves c p k d tt e in
    let known : oid < OBJECT_LIMIT = ltb-true _ _ (known_of (is_known k) _ d e) in
    let out = install_outcome c p oid head sound m.part m.after in
    let w = installed head (added head (c.seats p) (end_of (c.seats p).task)) (c.shared.objects oid) in
    let found = (c.shared.objects oid).entry in
    let t = shared_after p k found (c.seats p) c.shared in
    let g = grows_after p k found (c.seats p) c.shared tt in
    let x = extends p k found (c.seats p) c.shared in
    kept_from c p m.part t d
    (λ at below. at_cases Linked c.shared.objects oid w at (λ _. linked_installed c p oid head sound known out) (λ _. sound.common.chains.linked at below))
    (bare_chains t m.part (over_install oid head (c.seats p) (c.seats p).task m.part m.after))
    (λ q _. other_kept c t q sound g x
    (heads_put c.shared oid w (installed_fits c p oid head sound known out)
    (c.seats q).task (sound.own q).chains.named (head_attached c q (c.seats q).task sound refl (sound.own q).chains.named) (sound.own q).chains.head))
    (below_kept c p t m.part sound g (starts_kind p k c m.part m.after))
    (λ q _. below_kept c q t (c.seats q) sound g (same_start c q))
    (sym m.is)

-- CUT: the link is swapped
swap_kept : (c : Core) (p : ℕ) (sound : Sound c) (v : VersionAt) (t : Task) (y : Part) (d : Core) → (c.seats p).task ≡ t →
    swap_link (link_of c p sound v) v (c.shared.objects v.oid) (c.seats p) t ≡ Some y →
    record { shared = with_object v.oid (cut_at (c.shared.objects v.oid) v.place) c.shared; seats = put c.seats p y } ≡ d → Kept d
swap_kept c p sound v (task.CutFound version horizon) y d at e =
    when_then (λ z. record { shared = with_object v.oid (cut_at (c.shared.objects v.oid) v.place) c.shared; seats = put c.seats p z } ≡ d → Kept d) _ _ y e
    (λ g is.
    let x = c.seats p in
    let same : v ≡ version = same_name v version (and_parts _ _ g).1 in
    let found : x.task ≡ task.CutFound v horizon = subst (λ n. x.task ≡ task.CutFound n horizon) (sym same) at in
    let t = after c p v horizon sound found in
    let in_hand = λ (n : VersionAt). record x { task = detached (link_of c p sound v) n x; spare = x.spare ++ cut_off n.place (c.shared.objects v.oid) } in
    let h = hand_moved t (with_cut_off c p v horizon sound found) (in_hand v) (detached (link_of c p sound v) v x) (λ _ u. u) (λ _ u. u) (hand_after c p v horizon sound found) in
    let mine : OwnChains t (in_hand v) = record { named = h.named; cut = h.cut; head = h.head } in
    kept_from c p (in_hand version) t d (linked_after c p v horizon sound found) (subst (λ n. OwnChains t (in_hand n)) same mine)
    (others_after c p v horizon sound found)
    (record { below = λ oid known begun. below_after c p v horizon sound found p oid known begun })
    (λ q _. record { below = λ oid known begun. below_after c p v horizon sound found q oid known begun }) is)
swap_kept c p sound v _ y d at e = absurd (cc)

-- a split, a join: what is shared stays
part_kept : (c : Core) (p : ℕ) (y : Part) (d : Core) → Sound c → OwnChains c.shared y → Starts c.shared.tail (c.seats p) y → record c { seats = put c.seats p y } ≡ d → Kept d
part_kept c p y d sound mine starts is =
    kept_from c p y c.shared d sound.common.chains.linked mine (λ q _. (sound.own q).chains)
    (below_kept c p c.shared y sound (λ oid. grows_refl (c.shared.objects oid)) starts) (λ q _. (sound.own q).attached) is

split_kept : (c : Core) (p other : ℕ) (d : Core) → Sound c → after_event c p (kind.Split other) ≡ Some d → Kept d
split_kept c p other d sound e = by_test _ e
  where
    rests : (x : Part) → is_vacant x.place ≡ true → TaskFits x.place x.current x.task → Bare x.task
    rests x at fits = rests_at x.place at fits
      where
        rests_at : (pl : Place) → is_vacant pl ≡ true → TaskFits pl x.current x.task → Bare x.task
        rests_at Vacant at fits = record { bare = subst IsBare (sym fits) tt }
        rests_at _ at fits = absurd (cc)

    from : (o : Option Part) → split (c.seats p) (c.seats other) ≡ o → with_part c other o ≡ Some d → Kept d
    from None at e = absurd (cc)
    from (Some y) at e =
        when_then (λ z. record c { seats = put c.seats other z } ≡ d → Kept d) _ _ y at
        (λ g is. part_kept c other _ d sound (bare_chains c.shared _ (rests (c.seats other) (and_parts _ _ g).1 (sound.own other).task.fits))
        (record { starts = λ (h : ⊥). absurd h }) is) (same_Some _ _ e)

    by_test : (b : Bool) → (if b then with_part c other (split (c.seats p) (c.seats other)) else None) ≡ Some d → Kept d
    by_test true e = from _ refl e
    by_test false e = absurd (cc)

join_kept : (c : Core) (p other : ℕ) (d : Core) → Sound c → after_event c p (kind.Join other) ≡ Some d → Kept d
join_kept c p other d sound e = by_test _ e
  where
    from : (o : Option Part) → join (c.seats p) (c.seats other) ≡ o → with_part c p o ≡ Some d → Kept d
    from None at e = absurd (cc)
    from (Some y) at e =
        when_then (λ z. record c { seats = put c.seats p z } ≡ d → Kept d) _ _ y at
        (λ g is. part_kept c p _ d sound (stays_hand c.shared (c.seats p) _ (sound.own p).chains (record { stays = inr (refl, refl, refl) }))
        (record { starts = λ h. inl (h, refl) }) is) (same_Some _ _ e)

    by_test : (b : Bool) → (if b then None else with_part c p (join (c.seats p) (c.seats other))) ≡ Some d → Kept d
    by_test true e = absurd (cc)
    by_test false e = from _ refl e

tail_kept : (c : Core) (p : ℕ) (reason : TailUse) (d : Core) → Sound c → after_event c p (kind.LoadTail reason) ≡ Some d → Kept d
tail_kept c p purpose.Begin d sound e = steady_kept c p (kind.LoadTail purpose.Begin) d tt tt tt tt sound e
tail_kept c p purpose.Horizon d sound e =
    let m = moves c p (kind.LoadTail purpose.Horizon) d tt e in
    plain_kept c p (kind.LoadTail purpose.Horizon) d tt tt sound m
    (horizon_hand c.shared c.shared.tail (c.seats p) (c.seats p).task m.part (hand_of c.shared (c.seats p) (c.seats p).task refl (sound.own p).chains) m.after)
tail_kept c p purpose.Gather d sound e = steady_kept c p (kind.LoadTail purpose.Gather) d tt tt tt tt sound e

own_hand : (c : Core) (p : ℕ) → Sound c → Hand c.shared (c.seats p) (c.seats p).task
own_hand c p sound = hand_of c.shared (c.seats p) (c.seats p).task refl (sound.own p).chains

-- Each event keeps chains.
pub kept : (c : Core) (p : ℕ) (k : Kind) (d : Core) → Sound c → after_event c p k ≡ Some d → Kept d
kept c p (kind.LoadTail reason) d sound e = tail_kept c p reason d sound e
kept c p (kind.LoadBegin other) d sound e =
    let m = moves c p (kind.LoadBegin other) d tt e in
    plain_kept c p (kind.LoadBegin other) d tt tt sound m
    (load_begin_hand c.shared p other (word_at c (spot_of p (kind.LoadBegin other))) (c.seats p) (c.seats p).task m.part (own_hand c p sound) m.after)
kept c p (kind.LoadState other bound) d sound e =
    let m = moves c p (kind.LoadState other bound) d tt e in
    plain_kept c p (kind.LoadState other bound) d tt tt sound m
    (load_state_hand c.shared p other bound (word_at c (spot_of p (kind.LoadState other bound))) (c.seats p) m.part (sound.own p).chains m.after)
kept c p (kind.Split other) d sound e = split_kept c p other d sound e
kept c p (kind.Join other) d sound e = join_kept c p other d sound e
kept c p (kind.LoadEntry oid) d sound e = entry_kept c p oid d sound e
kept c p (kind.Claim oid seen number) d sound e = claim_kept c p oid seen number d sound e
kept c p (kind.Install oid head) d sound e = install_kept c p oid head d sound e
kept c p (kind.LoadCell v w) d sound e =
    let m = moves c p (kind.LoadCell v w) d tt e in
    plain_kept c p (kind.LoadCell v w) d tt tt sound m (load_cell_hand c p sound v w m.part (unless_some _ _ m.part m.after))
kept c p (kind.SetReader v) d sound e =
    let m = moves c p (kind.SetReader v) d tt e in
    plain_kept c p (kind.SetReader v) d tt tt sound m
    (set_reader_hand c.shared p v (c.shared.objects v.oid) (c.seats p) (c.seats p).task m.part (own_hand c p sound) m.after)
kept c p (kind.LoadStamp v w) d sound e =
    let m = moves c p (kind.LoadStamp v w) d tt e in
    plain_kept c p (kind.LoadStamp v w) d tt tt sound m
    (load_stamp_hand c.shared (word_at c (spot_of p (kind.LoadStamp v w))) v w (c.seats p) m.part (sound.own p).chains m.after)
kept c p (kind.SwapLink v) d sound e =
    let m = moves c p (kind.SwapLink v) d tt e in swap_kept c p sound v (c.seats p).task m.part d refl m.after (sym m.is)
kept c p (kind.LoadDetached v) d sound e =
    let m = moves c p (kind.LoadDetached v) d tt e in
    plain_kept c p (kind.LoadDetached v) d tt tt sound m (load_detached_hand c p sound v (c.seats p).task m.part refl m.after)
kept c p k d sound e = steady_kept c p k d tt tt tt tt sound e
