-- A version is registered as read.
use Rattle.std.proofs.Common.{◌≡◌, ◌≢◌, ℕ, ◌⊎◌, ⊎_elim, true, [], ◌∷◌, ◌++◌, Option, Some, refl, sym, ap, ◌∙◌, subst, inl, inr, arith}
use Rattle.std.proofs.lemmas.Bool.{and_parts, eqb-true}
use Rattle.erm_model.specs.Member.{◌∈◌}
use Rattle.erm_model.proofs.Members.{∈-push}
use Rattle.erm_machine.specs.declared.attempt.Attempt.{Attempt}
use Rattle.erm_machine.specs.declared.attempt.Read.{Read}
use Rattle.erm_machine.specs.declared.part.Part.{Part}
use Rattle.erm_machine.specs.declared.task.Task.{Task}
use Rattle.erm_machine.specs.declared.task.Task.TheVariants as task
use Rattle.erm_machine.specs.declared.version.VersionAt.{VersionAt}
use Rattle.erm_machine.specs.Chains.{IsNamed}
use Rattle.erm_machine.specs.Core.{Core, version_at}
use Rattle.erm_machine.specs.Facts.{all_of, HoldsBelow}
use Rattle.erm_machine.specs.Reading.{set_reader}
use Rattle.erm_machine.specs.Seat.{same_version, with_pred}
use Rattle.erm_machine.specs.Snapshot.{OwnSnapshot, IsNewestAt, ReadFits}
use Rattle.erm_machine.specs.Sound.{Sound}
use Rattle.erm_machine.proofs.Guards.{when_then}
use Rattle.erm_core_si.proofs.SnapshotLists.{∈-last, ∈-front}
use Rattle.erm_core_si.proofs.SnapshotSteps.{Recalls}
use Rattle.erm_core_si.proofs.SnapshotClaims.{claimed_same, claiming_known}
use Rattle.erm_core_si.proofs.SnapshotSame.{free_from, free_hand, unsettled}
use Rattle.erm_core_si.proofs.SnapshotLeft.{Left}
use Rattle.erm_core_si.proofs.SnapshotReads.{in_hand, named, none_in_hand}

-- two names that are one
version_of : (oid place cell : ℕ) → VersionAt
version_of oid place cell = record { oid = oid; place = place; cell = cell }

pub same_is : (v w : VersionAt) → same_version v w ≡ true → v ≡ w
unfolding version_of
same_is v w e =
    let all = and_parts _ _ e in
    let both = and_parts _ _ all.0 in
    let oid = eqb-true v.oid w.oid both.0 in
    let place = eqb-true v.place w.place both.1 in
    let cell = eqb-true v.cell w.cell all.1 in
    ap (λ n. version_of n v.place v.cell) oid ∙ (ap (λ n. version_of w.oid n v.cell) place ∙ ap (λ n. version_of w.oid w.place n) cell)

-- a read that the current transaction may gain
record MayRead (c : Core) (p : ℕ) (new : Read) : Type 0 where
  pub fits : ReadFits c.shared (c.seats p).current.begin new
  pub apart : (q : ℕ) → q ≢ p → HoldsBelow (c.seats q) new.version.oid (c.seats p).current.begin → ⊥

-- a transaction of a seat whose current one has gained a read
record Gained (x : Part) (new : Read) (u : Attempt) : Type 0 where
  pub attempt : Attempt
  pub stands : attempt ∈ all_of x
  pub begin : u.begin ≡ attempt.begin
  pub reads : (r : Read) → r ∈ u.reads → (r ∈ attempt.reads) ⊎ ((r ≡ new) × (u.begin ≡ x.current.begin))

gains : (x y : Part) (new : Read) → y.over ≡ x.over → y.current.begin ≡ x.current.begin → y.current.reads ≡ x.current.reads ++ new ∷ [] → (u : Attempt) → u ∈ all_of y → Gained x new u
gains x y new over begin reads u m =
    ⊎_elim
    (λ (before : u ∈ y.over). record {
      attempt = u;
      stands = ∈-front x.over x.current u (subst (λ ts. u ∈ ts) over before);
      begin = refl;
      reads = λ r n. inl n;
    })
    (λ (now : u ≡ y.current). record {
      attempt = x.current;
      stands = ∈-last x.over x.current;
      begin = ap (λ (t : Attempt). t.begin) now ∙ begin;
      reads = λ r n. ⊎_elim (λ (old : r ∈ x.current.reads). inl old) (λ (same : r ≡ new). inr (same, ap (λ (t : Attempt). t.begin) now ∙ begin))
          (∈-push x.current.reads new r (subst (λ rs. r ∈ rs) reads (subst (λ (t : Attempt). r ∈ t.reads) now n)));
    })
    (∈-push y.over y.current u m)

recalls_gained : (c : Core) (p : ℕ) (y : Part) (new : Read) → Sound c → y.current.stamp ≡ (c.seats p).current.stamp → MayRead c p new →
    ((u : Attempt) → u ∈ all_of y → Gained (c.seats p) new u) → Recalls c p y
recalls_gained c p y new sound stamp may from = record {
  past = λ u m. let g = from u m in let a = (old.past g.attempt g.stands).past in let e = g.begin in omega (arith, a, e);
  drawn = λ u m positive. let g = from u m in let a = (old.past g.attempt g.stands).drawn_later (omega (arith, positive, stamp)) in let e = g.begin in omega (arith, a, e, stamp);
  late = λ u m positive. let g = from u m in let a = (old.past g.attempt g.stands).drawn_later positive in let e = g.begin in omega (arith, a, e);
  reads = λ u r m n.
      let g = from u m in
      ⊎_elim (λ (before : r ∈ g.attempt.reads). subst (λ k. ReadFits c.shared k r) (sym g.begin) (old.reads g.attempt r g.stands before))
      (λ (now : (r ≡ new) × (u.begin ≡ (c.seats p).current.begin)). subst (λ k. ReadFits c.shared k r) (sym now.1) (subst (ReadFits c.shared (c.seats p).current.begin) (sym now.0) may.fits))
      (g.reads r n);
  apart = λ u r m n q ne h.
      let g = from u m in
      ⊎_elim (λ (before : r ∈ g.attempt.reads). (sound.both p q (λ e. ne (sym e))).snapshot.reads g.attempt r g.stands before (subst (λ k. HoldsBelow (c.seats q) r.version.oid k) g.begin h))
      (λ (now : (r ≡ new) × (u.begin ≡ (c.seats p).current.begin)).
      may.apart q ne (subst (λ (b : Read). HoldsBelow (c.seats q) b.version.oid (c.seats p).current.begin) now.0 (subst (λ k. HoldsBelow (c.seats q) r.version.oid k) now.1 h)))
      (g.reads r n);
}
  where
    old : OwnSnapshot c.shared (c.seats p)
    old = (sound.own p).snapshot

-- the version in hand may be read
may_read : (c : Core) (p : ℕ) (v found : VersionAt) (stamp : ℕ) (head : Option ℕ) → Sound c → (c.seats p).task ≡ task.Found found stamp head → found ≡ v →
    MayRead c p (record { version = v; stamp = stamp; row = (version_at (c.shared.objects v.oid) v.place).words.row })
may_read c p v found stamp head sound at same = record {
  fits = record {
    named = subst (IsNamed c.shared) same (named c p sound (task.Found found stamp head) at);
    newest = subst (λ (w : VersionAt). IsNewestAt (c.shared.objects w.oid) w.place (c.seats p).current.begin stamp) same (in_hand c p sound (task.Found found stamp head) at);
    row = refl;
  };
  apart = λ q ne h. none_in_hand c p sound (task.Found found stamp head) at q ne (subst (λ (w : VersionAt). HoldsBelow (c.seats q) w.oid (c.seats p).current.begin) (sym same) h);
}

pub set_reader_left : (c : Core) (p : ℕ) (v : VersionAt) (t : Task) (y : Part) → Sound c → (c.seats p).task ≡ t → set_reader p v (c.shared.objects v.oid) (c.seats p) t ≡ Some y → Left c p y
set_reader_left c p v (task.Found found stamp head) y sound at e =
    when_then (Left c p) _ _ y e (λ g.
    let same : found ≡ v = sym (same_is v found (and_parts _ _ (and_parts _ _ (and_parts _ _ g).0).0).1) in
    let new : Read = record { version = v; stamp = stamp; row = (version_at (c.shared.objects v.oid) v.place).words.row } in
    let after : Part = record (c.seats p) { task = task.Registered v; current = record (with_pred stamp (c.seats p).current) { reads = (c.seats p).current.reads ++ new ∷ [] } } in
    record {
      covers = record {
        stamp = λ _ _. refl;
        claims = λ _ _ w m held. record { claim = w; stands = m; held = held; version = refl };
      };
      recalls = recalls_gained c p _ new sound refl (may_read c p v found stamp head sound at same) (gains (c.seats p) after new refl refl refl);
      claims = claiming_known c p after sound refl refl (claimed_same (c.seats p).current (c.seats p).current.writes refl);
      hand = free_hand c p (c.seats p).current.begin _ (free_from _ tt tt);
      settle = unsettled c p _ tt;
    })
set_reader_left c p v _ y sound at e = absurd (cc)
