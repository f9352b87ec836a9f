-- From whom a stamp that is loaded comes, and how it changes a running number.
use Rattle.std.proofs.Common.{◌≡◌, ℕ, ◌<◌, ◌≤◌, ◌⊎◌, ⊎_elim, Bool, true, false, ◌||◌, eqb, ltb, cond, max, length, refl, sym, ap, ◌∙◌, subst, inl, inr, arith}
use Rattle.std.proofs.lemmas.Bool.{and_parts, eqb-true, cases_lt, ltb-true}
use Rattle.erm_model.specs.declared.history.TransactionRecord.{TransactionRecord}
use Rattle.erm_model.specs.declared.history.VersionRead.{VersionRead}
use Rattle.erm_model.specs.History.{Makes}
use Rattle.erm_model.specs.Member.{◌∈◌}
use Rattle.erm_machine.specs.declared.limits.TheConstants.{OBJECT_LIMIT}
use Rattle.erm_machine.specs.declared.attempt.Attempt.{Attempt}
use Rattle.erm_machine.specs.declared.attempt.Claim.{Claim}
use Rattle.erm_machine.specs.declared.version.VersionAt.{VersionAt}
use Rattle.erm_machine.specs.Core.{Core, claim_at, version_at}
use Rattle.erm_machine.specs.Decided.{history_of}
use Rattle.erm_machine.specs.Readers.{HasRead}
use Rattle.erm_machine.specs.Seat.{same_version, is_least}
use Rattle.erm_machine.specs.Sound.{Sound}
use Rattle.erm_machine.proofs.Holders.{stands_in}
use Rattle.erm_machine.proofs.Histories.{history_has}
use Rattle.erm_core_ssn.proofs.DecidedVersions.{current_stands, SeatsLow, Maker, claim_stamp, made_by, read_by}

-- two names that are one
version_of : (oid place cell : ℕ) → VersionAt
version_of oid place cell = record { oid = oid; place = place; cell = cell }

pub same_is : (v w : VersionAt) → same_version v w ≡ true → v ≡ w
unfolding version_of
same_is v w e =
    let all = and_parts _ _ e in
    let both = and_parts _ _ all.0 in
    let oid = eqb-true v.oid w.oid both.0 in
    let place = eqb-true v.place w.place both.1 in
    let cell = eqb-true v.cell w.cell all.1 in
    ap (λ n. version_of n v.place v.cell) oid ∙ (ap (λ n. version_of w.oid n v.cell) place ∙ ap (λ n. version_of w.oid w.place n) cell)

-- the least successor stamp after one more is found
pub record Picked (t : Attempt) (found succ : ℕ) : Type 0 where
  pub most : succ ≤ found
  pub below : 0 < t.succ → succ ≤ t.succ
  pub either : (succ ≡ found) ⊎ ((succ ≡ t.succ) × (0 < t.succ))

pub picks : (t : Attempt) (found : ℕ) → Picked t found (cond (is_least found t) found t.succ)
picks t found = by_tests (eqb t.succ 0) (ltb found t.succ) refl refl
  where
    by_tests : (a b : Bool) → eqb t.succ 0 ≡ a → ltb found t.succ ≡ b → Picked t found (cond (a || b) found t.succ)
    by_tests true b e f = record { most = omega arith; below = λ positive. absurd (let z = eqb-true t.succ 0 e in omega (arith, z, positive)); either = inl refl }
    by_tests false true e f = record { most = omega arith; below = λ _. let h = ltb-true found t.succ f in omega (arith, h); either = inl refl }
    by_tests false false e f = record {
      most = not_less found t.succ f;
      below = λ _. omega arith;
      either = inr (refl, not_zero t.succ e);
    }
      where
        not_less : (m n : ℕ) → ltb m n ≡ false → n ≤ m
        not_less m n h = grind arith

        not_zero : (n : ℕ) → eqb n 0 ≡ false → 0 < n
        not_zero n h = grind arith

-- the greater of two numbers
pub greater : (m n : ℕ) → ((max m n ≡ m) × (n ≤ m)) ⊎ ((max m n ≡ n) × (m ≤ n))
greater m n = ⊎_elim (λ (less : m < n). inr (omega (arith, less), omega (arith, less))) (λ (most : n ≤ m). inl (omega (arith, most), most)) (cases_lt m n)

pub seats_low : (c : Core) → Sound c → SeatsLow c
seats_low c sound = record { low = sound.common.decided.seats_of }

-- stamps of the history lie below the tail
pub below_tail : (c : Core) → Sound c → (u : TransactionRecord) → u ∈ history_of c.seats → u.stamp < c.shared.tail
below_tail c sound u m =
    let r = history_has c.seats u m in
    let h = (sound.own r.seat).decided.drawn r.attempt r.stands in
    let e = ap (λ (w : TransactionRecord). w.stamp) r.is in
    omega (arith, h, e)

-- a commit made the version that a claim overwrites, or has read it
abbrev pub From : Claim → TransactionRecord → Type 0
From w u = ((w.stamp ≡ u.stamp) × Makes u w.version.oid) ⊎ ((r : VersionRead) × (r ∈ u.reads) × (r.oid ≡ w.version.oid) × (r.stamp ≡ w.stamp))

-- a stamp is 0 or that of such a commit
abbrev pub IsFrom : Core → Claim → ℕ → Type 0
IsFrom c w found = (found ≡ 0) ⊎ ((u : TransactionRecord) × (u ∈ history_of c.seats) × (found ≡ u.stamp) × From w u)

module _ (c : Core) (p k : ℕ) (sound : Sound c) (within : k < length (c.seats p).current.writes) where
  -- the version that a claim overwrites
  claim_known : (claim_at (c.seats p).current k).version.oid < OBJECT_LIMIT
  claim_known = (sound.own p).claims.objects k within

  place_within : (claim_at (c.seats p).current k).version.place < length (c.shared.objects (claim_at (c.seats p).current k).version.oid).versions
  place_within = ((sound.own p).marks.written (c.seats p).current (claim_at (c.seats p).current k) (current_stands (c.seats p)) (stands_in (c.seats p).current k within)).within

  pub claim_is : (claim_at (c.seats p).current k).stamp
      ≡ (version_at (c.shared.objects (claim_at (c.seats p).current k).version.oid) (claim_at (c.seats p).current k).version.place).words.stamp
  claim_is = claim_stamp c sound p (c.seats p).current (claim_at (c.seats p).current k) _ _ (current_stands (c.seats p)) (stands_in (c.seats p).current k within) refl refl

  -- the creator's stamp
  pub stamp_from : IsFrom c (claim_at (c.seats p).current k) (claim_at (c.seats p).current k).stamp
  stamp_from =
      let w = claim_at (c.seats p).current k in
      ⊎_elim
      (λ (none : (version_at (c.shared.objects w.version.oid) w.version.place).words.stamp ≡ 0). inl (claim_is ∙ none))
      (λ (m : Maker c w.version.oid (version_at (c.shared.objects w.version.oid) w.version.place).words.stamp).
      inr (m.commit, m.stands, claim_is ∙ sym m.stamp_is, inl (claim_is ∙ sym m.stamp_is, m.makes)))
      (made_by c sound (seats_low c sound) w.version.oid w.version.place claim_known place_within)

  -- the reader stamp
  pub reader_from : (found : ℕ) → found ≡ (version_at (c.shared.objects (claim_at (c.seats p).current k).version.oid) (claim_at (c.seats p).current k).version.place).words.reader_stamp →
      IsFrom c (claim_at (c.seats p).current k) found
  reader_from found is =
      let w = claim_at (c.seats p).current k in
      ⊎_elim
      (λ (own : (version_at (c.shared.objects w.version.oid) w.version.place).words.reader_stamp ≡ (version_at (c.shared.objects w.version.oid) w.version.place).words.stamp).
      subst (λ n. IsFrom c w n) (claim_is ∙ (sym own ∙ sym is)) stamp_from)
      (λ (read : HasRead c.seats w.version (version_at (c.shared.objects w.version.oid) w.version.place).words.reader_stamp).
      let r = read_by c sound (seats_low c sound) w.version _ read in
      inr (r.commit, r.stands, is ∙ sym r.stamp_is, inr (r.read, r.reads, r.oid_is, r.version_is ∙ sym claim_is)))
      (sound.common.readers.attained w.version claim_known place_within)

  -- the reader stamp is at least the creator's
  pub reader_least : (found : ℕ) → found ≡ (version_at (c.shared.objects (claim_at (c.seats p).current k).version.oid) (claim_at (c.seats p).current k).version.place).words.reader_stamp →
      (claim_at (c.seats p).current k).stamp ≤ found
  reader_least found is =
      let w = claim_at (c.seats p).current k in
      let h = sound.common.readers.least w.version.oid w.version.place claim_known place_within in
      let e = claim_is in
      omega (arith, h, e, is)
