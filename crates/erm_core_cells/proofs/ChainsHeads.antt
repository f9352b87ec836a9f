-- The versions in hand of other seats against a claim and an install: an entry that was loaded without an owner isn't stored
-- again while its head is another version.
use Rattle.std.proofs.Common.{◌≡◌, ◌≢◌, ℕ, ◌+◌, ◌-◌, ◌*◌, ◌/◌, ◌%◌, ◌^◌, ◌<◌, ◌≤◌, ◌⊎◌, ⊎_elim, Bool, true, false, length, Option, Some, None, refl, sym, ap, ◌∙◌, subst, arith}
use Rattle.std.specs.Prelude.{if◌then◌else◌}
use Rattle.std.proofs.lemmas.Bool.{and_parts, cases_lt, leb-true, ltb-true}
use Rattle.erm_machine.specs.declared.limits.TheConstants.{MOST_CELLS, OBJECT_LIMIT}
use Rattle.erm_machine.specs.declared.task.Task.{Task}
use Rattle.erm_machine.specs.declared.task.Task.TheVariants as task
use Rattle.erm_machine.specs.declared.version.Version.{Version}
use Rattle.erm_machine.specs.declared.version.VersionAt.{VersionAt}
use Rattle.erm_machine.specs.Chains.{Linked, IsNamed, NamedInHand, IsHead, HeadInHand}
use Rattle.erm_machine.specs.Core.{Core, Object, Shared, version_at, newest, claim_at, own_words}
use Rattle.erm_machine.specs.Seat.{end_of}
use Rattle.erm_machine.specs.Snapshot.{InHand}
use Rattle.erm_machine.specs.Sound.{Sound}
use Rattle.erm_machine.specs.Step.{with_object, installed, added}
use Rattle.erm_machine.specs.Words.{put, claimed, head_of, owner_of, is_session}
use Rattle.erm_machine.proofs.Frames.{at_cases}
use Rattle.erm_machine.proofs.Holders.{Works, works_begun, begun_attached}
use Rattle.erm_machine.proofs.Objects.{at_push-old, at_push-new, length_installed}
use Rattle.erm_core_cells.proofs.ChainsCells.{same_place, own_small, own_in_no_chain, seat_within}
use Rattle.erm_core_cells.proofs.ChainsInstalls.{Ends, Adds, Releases}

-- the version in hand of a read is attached
abbrev pub HeadAttached : Shared → Task → Type 0
HeadAttached s (task.Walks version head) = (s.objects version.oid).cut ≤ version.place
HeadAttached s (task.Found version stamp head) = (s.objects version.oid).cut ≤ version.place
HeadAttached s _ = Unit {0}

pub head_attached : (c : Core) (q : ℕ) (u : Task) → Sound c → (c.seats q).task ≡ u → NamedInHand c.shared u → HeadAttached c.shared u
head_attached c q (task.Walks version head) sound at n =
    let in_hand : InHand c.shared (c.seats q).current.begin (task.Walks version head) = subst (InHand c.shared (c.seats q).current.begin) at (sound.own q).snapshot.in_hand in
    begun_attached c q version.oid version.place sound n.object (works_begun c q sound (subst Works (sym at) tt)) in_hand
head_attached c q (task.Found version stamp head) sound at n =
    let in_hand : InHand c.shared (c.seats q).current.begin (task.Found version stamp head) = subst (InHand c.shared (c.seats q).current.begin) at (sound.own q).snapshot.in_hand in
    begun_attached c q version.oid version.place sound n.object (works_begun c q sound (subst Works (sym at) tt)) in_hand.newer
head_attached c q _ sound at n = tt

-- a version in hand with the entry whose head it is
pub record HeadAt (o : Object) (v : VersionAt) (entry : ℕ) : Type 0 where
  pub within : v.place < length o.versions
  pub cell : (version_at o v.place).cell ≡ v.cell
  pub attached : o.cut ≤ v.place
  pub is_head : IsHead o v (Some entry)

-- one object is changed
module _ (s : Shared) (at : ℕ) (w : Object) (fits : (v : VersionAt) (entry : ℕ) → HeadAt (s.objects at) v entry → IsHead w v (Some entry)) where
  head_put : (v : VersionAt) (head : Option ℕ) → IsNamed s v → (s.objects v.oid).cut ≤ v.place → IsHead (s.objects v.oid) v head → IsHead (put s.objects at w v.oid) v head
  head_put v None n a h = tt
  head_put v (Some entry) n a h =
      at_cases (λ z. IsHead z v (Some entry)) s.objects at w v.oid
      (λ same. fits v entry (subst (λ k. HeadAt (s.objects k) v entry) same (record { within = n.within; cell = n.cell; attached = a; is_head = h }))) (λ _. h)

  pub heads_put : (u : Task) → NamedInHand s u → HeadAttached s u → HeadInHand s u → HeadInHand (with_object at w s) u
  heads_put (task.Walks version head) n a h = head_put version head n a h
  heads_put (task.Found version stamp head) n a h = head_put version head n a h
  heads_put _ n a h = tt

-- a claimed entry has an owner
claimed_owner : (entry seat number : ℕ) → 0 < seat → seat < 2 ^ 8 → owner_of (claimed entry seat number) ≡ seat
claimed_owner entry seat number positive few = spelled (entry % 2 ^ 24) seat number (omega arith) few
  where
    quotient : (h s n : ℕ) → h < 2 ^ 24 → (h + s * 2 ^ 24 + n * 2 ^ 32) / 2 ^ 24 ≡ s + n * 2 ^ 8
    quotient h s n low = omega arith

    spelled : (h s n : ℕ) → h < 2 ^ 24 → s < 2 ^ 8 → (h + s * 2 ^ 24 + n * 2 ^ 32) / 2 ^ 24 % 2 ^ 8 ≡ s
    spelled h s n low few = let q = quotient h s n low in omega (arith, q)

pub session_owner : (entry seat number : ℕ) → is_session seat ≡ true → owner_of (claimed entry seat number) ≢ 0
session_owner entry seat number is none =
    let parts = and_parts _ _ is in
    let positive = ltb-true 0 seat parts.0 in
    let few = leb-true seat _ parts.1 in
    let owner = claimed_owner entry seat number positive (omega (arith, few)) in
    absurd (omega (arith, positive, owner, none))

-- CLAIM: an entry that gets an owner
pub claim_fits : (o : Object) (b : Bool) (new : ℕ) → (b ≡ true → owner_of new ≢ 0) → (v : VersionAt) (entry : ℕ) → HeadAt o v entry →
    IsHead (record o { entry = if b then new else o.entry }) v (Some entry)
claim_fits o true new owned v entry h = (h.is_head.0, h.is_head.1, λ same. absurd (owned refl (ap owner_of same ∙ h.is_head.0)))
claim_fits o false new owned v entry h = h.is_head

low_same : (n : ℕ) → n < MOST_CELLS → head_of n ≡ n
low_same n low = omega arith

head_twice : (n : ℕ) → head_of (head_of n) ≡ head_of n
head_twice n = omega arith

module _ (c : Core) (p oid head : ℕ) (sound : Sound c) (known : oid < OBJECT_LIMIT) where
  -- the claim that is ended overwrites the newest version
  old_head : (claim : ℕ) → Ends c p oid claim → (claim_at (c.seats p).current claim).version.cell ≡ head_of (c.shared.objects oid).entry
  old_head claim e =
      subst (λ n. (claim_at (c.seats p).current claim).version.cell ≡ head_of (c.shared.objects n).entry) (sym e.oid_is)
      ((sound.own p).claims.fit claim e.within e.held).cell

  newest_cell : (claim : ℕ) → Ends c p oid claim → (claim_at (c.seats p).current claim).version.cell ≡ (version_at (c.shared.objects oid) (newest (c.shared.objects oid))).cell
  newest_cell claim e = old_head claim e ∙ (sound.common.claims.objects oid known).head

  -- END: the new head's cell is in no chain yet
  adds_fits : Adds c p oid head → (v : VersionAt) (entry : ℕ) → HeadAt (c.shared.objects oid) v entry →
      IsHead (installed head (added head (c.seats p) (end_of (c.seats p).task)) (c.shared.objects oid)) v (Some entry)
  adds_fits a v entry h =
      subst (λ new. IsHead (installed head new (c.shared.objects oid)) v (Some entry)) (sym a.is_added) (
        h.is_head.0,
        h.is_head.1,
        λ (same : head ≡ entry).
            let seat = seat_within c sound p a.ends.taken in
            let small = own_small c sound p a.claim head seat a.ends.within a.own in
            absurd (own_in_no_chain c sound p a.claim head oid v.place seat a.ends.within a.own known h.attached h.within
            (h.cell ∙ h.is_head.1 ∙ ap head_of (sym same) ∙ low_same head (let limit = sound.common.counters.limit in omega (arith, small, limit)))),
      )

  -- END: the old head is the newest version's cell
  releases_fits : Releases c p oid head → (v : VersionAt) (entry : ℕ) → HeadAt (c.shared.objects oid) v entry →
      IsHead (installed head (added head (c.seats p) (end_of (c.seats p).task)) (c.shared.objects oid)) v (Some entry)
  releases_fits r v entry h =
      subst (λ new. IsHead (installed head new (c.shared.objects oid)) v (Some entry)) (sym r.none_added) (
        h.is_head.0,
        h.is_head.1,
        λ (same : head ≡ entry).
            let o = c.shared.objects oid in
            let linked = sound.common.chains.linked oid known in
            let attached = linked.attached in
            let is_cell : head ≡ head_of o.entry = r.cell ∙ old_head r.claim r.ends in
            let twice : head_of head ≡ head = ap head_of is_cell ∙ head_twice o.entry ∙ sym is_cell in
            same_place c sound oid v.place (newest o) known h.attached (omega (arith, attached)) h.within (omega (arith, attached))
            (h.cell ∙ h.is_head.1 ∙ ap head_of (sym same) ∙ twice ∙ is_cell ∙ (sound.common.claims.objects oid known).head),
      )

  -- the new version's link names the newest one's cell
  new_link : (a : Adds c p oid head) → (own_words (claim_at (c.seats p).current a.claim).own).link ≡ (version_at (c.shared.objects oid) (newest (c.shared.objects oid))).cell + 1
  new_link a =
      let step = a.step in
      ((sound.own p).claims.install a.claim a.ends.within a.ends.held).link (omega (arith, step)) ∙ ap (λ n. n + 1) (newest_cell a.claim a.ends)

-- the links of an object to which a version is added
linked_pushed : (o : Object) (head : ℕ) (v : Version) → v.words.link ≡ (version_at o (newest o)).cell + 1 → Linked o → Linked (installed head (Some v) o)
linked_pushed o head v link linked =
    let attached = linked.attached in
    let long = length_installed head v o in
    record {
      attached = omega (arith, attached, long);
      older = λ k above below.
          ⊎_elim
          (λ (old : k < length o.versions).
          let at_k = ap (λ (n : Version). n.words.link) (at_push-old head v o k old) in
          let before = ap (λ (n : Version). n.cell) (at_push-old head v o (k - 1) (omega (arith, old))) in
          let was = linked.older k above old in
          omega (arith, at_k, before, was))
          (λ (new : length o.versions ≤ k).
          let at_end : k ≡ length o.versions = omega (arith, new, below, long) in
          let at_k = ap (λ (n : Version). n.words.link) (at_push-new head v o k at_end) in
          let before = ap (λ (n : Version). n.cell) (at_push-old head v o (k - 1) (omega (arith, at_end, attached))) in
          let same = ap (λ n. (version_at o (n - 1)).cell) at_end in
          omega (arith, at_k, before, same, link)) (cases_lt k (length o.versions));
      oldest = ap (λ (n : Version). n.words.link) (at_push-old head v o o.cut attached) ∙ linked.oldest;
    }

pub linked_installed : (c : Core) (p oid head : ℕ) → Sound c → oid < OBJECT_LIMIT → Adds c p oid head ⊎ Releases c p oid head →
    Linked (installed head (added head (c.seats p) (end_of (c.seats p).task)) (c.shared.objects oid))
linked_installed c p oid head sound known out =
    ⊎_elim
    (λ (a : Adds c p oid head). subst (λ new. Linked (installed head new (c.shared.objects oid))) (sym a.is_added)
    (linked_pushed (c.shared.objects oid) head _ (new_link c p oid head sound known a) (sound.common.chains.linked oid known)))
    (λ (r : Releases c p oid head). subst (λ new. Linked (installed head new (c.shared.objects oid))) (sym r.none_added)
    (let linked = sound.common.chains.linked oid known in record { attached = linked.attached; older = linked.older; oldest = linked.oldest })) out

pub installed_fits : (c : Core) (p oid head : ℕ) → Sound c → oid < OBJECT_LIMIT → Adds c p oid head ⊎ Releases c p oid head →
    (v : VersionAt) (entry : ℕ) → HeadAt (c.shared.objects oid) v entry → IsHead (installed head (added head (c.seats p) (end_of (c.seats p).task)) (c.shared.objects oid)) v (Some entry)
installed_fits c p oid head sound known out =
    ⊎_elim (λ (a : Adds c p oid head). adds_fits c p oid head sound known a) (λ (r : Releases c p oid head). releases_fits c p oid head sound known r) out
