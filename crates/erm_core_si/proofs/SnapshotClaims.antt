-- Claims: those that stood before stay as they were, and the one of a version in hand is as the read was.
use Rattle.std.proofs.Common.{◌≡◌, ℕ, ◌<◌, ⊎_elim, List, [], ◌∷◌, ◌++◌, length, set, refl, sym, ap, ◌∙◌, subst}
use Rattle.erm_model.specs.Member.{◌∈◌}
use Rattle.erm_model.proofs.Members.{∈-push, none_in_nil}
use Rattle.erm_machine.specs.declared.attempt.Attempt.{Attempt}
use Rattle.erm_machine.specs.declared.attempt.Claim.{Claim}
use Rattle.erm_machine.specs.declared.attempt.Decision.{Decision}
use Rattle.erm_machine.specs.declared.part.Part.{Part}
use Rattle.erm_machine.specs.declared.version.VersionAt.{VersionAt}
use Rattle.erm_machine.specs.Core.{Core, claim_at}
use Rattle.erm_machine.specs.Facts.{all_of, HoldsBelow}
use Rattle.erm_machine.specs.Snapshot.{NewerFrom}
use Rattle.erm_machine.specs.Sound.{Sound}
use Rattle.erm_machine.proofs.Holders.{stands_in}
use Rattle.erm_core_si.proofs.SnapshotLists.{∈-front, ∈-set}
use Rattle.erm_core_si.proofs.SnapshotSteps.{Stays, Claiming, current_stands}

-- a transaction has a claim on the same version
pub record ClaimedIn (t : Attempt) (w : Claim) : Type 0 where
  pub claim : Claim
  pub stands : claim ∈ t.writes
  pub version : claim.version ≡ w.version

pub claimed_in : (t : Attempt) (w : Claim) → w ∈ t.writes → ClaimedIn t w
claimed_in t w m = record { claim = w; stands = m; version = refl }

-- the same claims; claims of which one is changed
pub claimed_same : (t : Attempt) (ws : List Claim) → ws ≡ t.writes → (w : Claim) → w ∈ ws → ClaimedIn t w
claimed_same t ws e w m = claimed_in t w (subst (λ (vs : List Claim). w ∈ vs) e m)

pub claimed_set : (t : Attempt) (place : ℕ) (v : Claim) → v.version ≡ (claim_at t place).version → (w : Claim) → w ∈ set t.writes place v → ClaimedIn t w
claimed_set t place v version w m =
    ⊎_elim
    (λ (old : w ∈ t.writes). claimed_in t w old)
    (λ (new : (w ≡ v) × (place < length t.writes)). record {
      claim = claim_at t place;
      stands = stands_in t place new.1;
      version = sym version ∙ ap (λ (u : Claim). u.version) (sym new.0);
    })
    (∈-set t.writes place v w m)

-- a claim that stood before, of a transaction that the seat had before
pub stays_before : (c : Core) (p begin : ℕ) (t : Attempt) (w : Claim) → Sound c → t ∈ all_of (c.seats p) → begin ≡ t.begin → ClaimedIn t w → Stays c p begin w
stays_before c p begin t w sound stands begin_is known = record {
  newer = subst (λ k. NewerFrom (c.shared.objects w.version.oid) w.version.place k) (sym begin_is)
      (subst (λ (v : VersionAt). NewerFrom (c.shared.objects v.oid) v.place t.begin) known.version ((sound.own p).snapshot.claims t known.claim stands known.stands));
  apart = λ q ne h.
      (sound.both p q (λ e. ne (sym e))).snapshot.claims t known.claim stands known.stands
      (subst (λ (v : VersionAt). HoldsBelow (c.seats q) v.oid t.begin) (sym known.version) (subst (λ k. HoldsBelow (c.seats q) w.version.oid k) begin_is h));
}

-- those of the transactions that are over, and of the current one
pub claiming_from : (c : Core) (p : ℕ) (y : Part) → ((u : Attempt) (w : Claim) → u ∈ y.over → w ∈ u.writes → Stays c p u.begin w)
    → ((w : Claim) → w ∈ y.current.writes → Stays c p y.current.begin w) → Claiming c p y
claiming_from c p y over now = record {
  each = λ u w m n. ⊎_elim
      (λ (before : u ∈ y.over). over u w before n)
      (λ (is : u ≡ y.current). subst (λ (t : Attempt). Stays c p t.begin w) (sym is) (now w (subst (λ (t : Attempt). w ∈ t.writes) is n)))
      (∈-push y.over y.current u m);
}

-- the transactions that are over stay
over_stays : (c : Core) (p : ℕ) (y : Part) → Sound c → y.over ≡ (c.seats p).over → (u : Attempt) (w : Claim) → u ∈ y.over → w ∈ u.writes → Stays c p u.begin w
over_stays c p y sound over u w m n =
    stays_before c p u.begin u w sound (∈-front (c.seats p).over (c.seats p).current u (subst (λ (ts : List Attempt). u ∈ ts) over m)) refl (claimed_in u w n)

-- the current transaction's claims stood before, or may be made
pub claiming_now : (c : Core) (p : ℕ) (y : Part) → Sound c → y.over ≡ (c.seats p).over → y.current.begin ≡ (c.seats p).current.begin
    → ((w : Claim) → w ∈ y.current.writes → Stays c p (c.seats p).current.begin w) → Claiming c p y
claiming_now c p y sound over begin now =
    claiming_from c p y (over_stays c p y sound over) (λ w m. subst (λ k. Stays c p k w) (sym begin) (now w m))

pub stays_now : (c : Core) (p : ℕ) (w : Claim) → Sound c → ClaimedIn (c.seats p).current w → Stays c p (c.seats p).current.begin w
stays_now c p w sound known = stays_before c p (c.seats p).current.begin (c.seats p).current w sound (current_stands (c.seats p)) refl known

pub claiming_known : (c : Core) (p : ℕ) (y : Part) → Sound c → y.over ≡ (c.seats p).over → y.current.begin ≡ (c.seats p).current.begin
    → ((w : Claim) → w ∈ y.current.writes → ClaimedIn (c.seats p).current w) → Claiming c p y
claiming_known c p y sound over begin known = claiming_now c p y sound over begin (λ w m. stays_now c p w sound (known w m))

-- the current transaction has claimed nothing yet
none_now : (c : Core) (p : ℕ) (y : Part) → y.current.writes ≡ [] → (w : Claim) → w ∈ y.current.writes → Stays c p y.current.begin w
none_now c p y none w m = absurd (none_in_nil w (subst (λ (ws : List Claim). w ∈ ws) none m))

pub claiming_begun : (c : Core) (p : ℕ) (y : Part) → Sound c → y.over ≡ (c.seats p).over → y.current.writes ≡ [] → Claiming c p y
claiming_begun c p y sound over none = claiming_from c p y (over_stays c p y sound over) (none_now c p y none)

-- the current transaction is over
pub claiming_over : (c : Core) (p : ℕ) (y : Part) (decision : Decision) → Sound c → y.over ≡ (c.seats p).over ++ record (c.seats p).current { decision = decision } ∷ []
    → y.current.writes ≡ [] → Claiming c p y
claiming_over c p y decision sound over none =
    claiming_from c p y
    (λ u w m n. ⊎_elim
    (λ (old : u ∈ (c.seats p).over). stays_before c p u.begin u w sound (∈-front (c.seats p).over (c.seats p).current u old) refl (claimed_in u w n))
    (λ (last : u ≡ record (c.seats p).current { decision = decision }).
    stays_before c p u.begin (c.seats p).current w sound (current_stands (c.seats p)) (ap (λ (t : Attempt). t.begin) last)
    (claimed_in (c.seats p).current w (subst (λ (t : Attempt). w ∈ t.writes) last n)))
    (∈-push (c.seats p).over (record (c.seats p).current { decision = decision }) u (subst (λ (ts : List Attempt). u ∈ ts) over m)))
    (none_now c p y none)
