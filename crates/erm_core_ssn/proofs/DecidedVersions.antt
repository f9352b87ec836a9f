-- Which commits made, overwrote and read the versions of a sound state.
use Rattle.std.proofs.Common.{◌≡◌, ℕ, zero, suc, ◌+◌, ◌<◌, ◌≤◌, ◌⊎◌, ⊎_elim, [], ◌∷◌, length, refl, sym, ap, ◌∙◌, subst, inl, inr, arith}
use Rattle.std.proofs.lemmas.Bool.{cases_eq, cases_lt}
use Rattle.erm_model.specs.declared.history.TransactionRecord.{TransactionRecord}
use Rattle.erm_model.specs.declared.history.VersionRead.{VersionRead}
use Rattle.erm_model.specs.History.{Makes, Overwrites}
use Rattle.erm_model.specs.Member.{◌∈◌}
use Rattle.erm_machine.specs.declared.limits.TheConstants.{ANNOUNCERS, OBJECT_LIMIT}
use Rattle.erm_machine.specs.declared.attempt.Attempt.{Attempt}
use Rattle.erm_machine.specs.declared.attempt.Claim.{Claim}
use Rattle.erm_machine.specs.declared.attempt.Read.{Read}
use Rattle.erm_machine.specs.declared.attempt.Decision.TheVariants.{Commit}
use Rattle.erm_machine.specs.declared.part.Part.{Part}
use Rattle.erm_machine.specs.declared.place.Place.{Place}
use Rattle.erm_machine.specs.declared.place.Place.TheVariants.{Vacant, Idle, Begun, Announced, Active, Sealing, Drawn, Sealed, Decided, Leaving}
use Rattle.erm_machine.specs.declared.task.Task.{Task}
use Rattle.erm_machine.specs.declared.task.Task.TheVariants as task
use Rattle.erm_machine.specs.declared.version.VersionAt.{VersionAt}
use Rattle.erm_machine.specs.Claims.{ObjectFits, InstallFits, step_of}
use Rattle.erm_machine.specs.Core.{Core, Object, version_at, newest, claim_at}
use Rattle.erm_machine.specs.Decided.{read_of, written_of, record_of, history_of}
use Rattle.erm_machine.specs.Facts.{all_of}
use Rattle.erm_machine.specs.Marks.{HasOverwritten}
use Rattle.erm_machine.specs.Readers.{HasRead}
use Rattle.erm_machine.specs.Sound.{Sound}
use Rattle.erm_machine.specs.Tasks.{TaskFits}
use Rattle.erm_machine.specs.Words.{owner_of}
use Rattle.erm_machine.proofs.Holders.{held_claim, stands_in}
use Rattle.erm_machine.proofs.Histories.{in_history}
use Rattle.erm_machine.proofs.Listed.{∈-head, ∈-map_from, ∈-second}

-- the current transaction is one of all
pub current_stands : (x : Part) → x.current ∈ all_of x
current_stands x = ∈-second x.over (x.current ∷ []) x.current (∈-head x.current [])

-- commits are of seats with words
pub record SeatsLow (c : Core) : Type 0 where
  pub low : (q : ℕ) (t : Attempt) → t ∈ all_of (c.seats q) → t.decision ≡ Commit → q < ANNOUNCERS

-- two places of an object with one stamp are one
pub one_place : (now : ℕ) (o : Object) (i j : ℕ) → ObjectFits now o → i < length o.versions → j < length o.versions →
    (version_at o i).words.stamp ≡ (version_at o j).words.stamp → i ≡ j
one_place now o i j fits a b e =
    ⊎_elim
    (λ (less : i < j). absurd (let h = fits.ascend i j less b in omega (arith, h, e)))
    (λ (most : j ≤ i).
    ⊎_elim
    (λ (more : j < i). absurd (let h = fits.ascend j i more a in omega (arith, h, e)))
    (λ (least : i ≤ j). omega (arith, most, least))
    (cases_lt j i))
    (cases_lt i j)

-- a commit that overwrote the version at a place, with its stamps
pub record Overwriter (c : Core) (oid place stamp succ : ℕ) : Type 0 where
  pub commit : TransactionRecord
  pub stands : commit ∈ history_of c.seats
  pub stamp_is : commit.stamp ≡ stamp
  pub succ_is : commit.succ ≡ succ
  pub overwrites : Overwrites commit oid (version_at (c.shared.objects oid) place).words.stamp
  pub makes : Makes commit oid

-- a commit that made a version with this stamp
pub record Maker (c : Core) (oid stamp : ℕ) : Type 0 where
  pub commit : TransactionRecord
  pub stands : commit ∈ history_of c.seats
  pub stamp_is : commit.stamp ≡ stamp
  pub makes : Makes commit oid

-- a commit with this stamp that read a version
pub record Reader (c : Core) (v : VersionAt) (stamp : ℕ) : Type 0 where
  pub commit : TransactionRecord
  pub stands : commit ∈ history_of c.seats
  pub stamp_is : commit.stamp ≡ stamp
  pub read : VersionRead
  pub reads : read ∈ commit.reads
  pub oid_is : read.oid ≡ v.oid
  pub version_is : read.stamp ≡ (version_at (c.shared.objects v.oid) v.place).words.stamp

-- only a commit takes steps of an install
committing : (pl : Place) (t : Attempt) (u : Task) (k : ℕ) → TaskFits pl t u → 0 < step_of u k → t.decision ≡ Commit
committing pl t (task.Ends raised ended step cleared) k fits positive = at_place pl (some k ended step positive) fits
  where
    some : (k ended step : ℕ) → 0 < step_of (task.Ends raised ended step cleared) k → 0 < step
    some k ended step positive = grind arith

    at_place : (pl : Place) → 0 < step → TaskFits pl t (task.Ends raised ended step cleared) → t.decision ≡ Commit
    at_place (Active tail) taken fits = absurd (let z = fits.1 in omega (arith, z, taken))
    at_place (Sealed tail stamp) taken fits = absurd fits
    at_place (Decided tail stamp) taken fits = (fits.1 taken).0
    at_place Vacant taken fits = absurd (cc)
    at_place Idle taken fits = absurd (cc)
    at_place (Begun tail) taken fits = absurd (cc)
    at_place (Announced tail) taken fits = absurd (cc)
    at_place (Sealing tail) taken fits = absurd (cc)
    at_place (Drawn tail stamp) taken fits = absurd (cc)
    at_place (Leaving stamp) taken fits = absurd (cc)
committing pl t _ k fits positive = absurd (omega (arith, positive))

module _ (c : Core) (sound : Sound c) where
  -- the stamp of a version that a transaction has claimed
  pub claim_stamp : (q : ℕ) (t : Attempt) (w : Claim) (oid place : ℕ) → t ∈ all_of (c.seats q) → w ∈ t.writes → w.version.oid ≡ oid → w.version.place ≡ place →
      w.stamp ≡ (version_at (c.shared.objects oid) place).words.stamp
  claim_stamp q t w oid place m n is at =
      let old = (sound.own q).marks.written t w m n in
      sym (subst (λ n. (version_at (c.shared.objects n) place).words.stamp ≡ w.stamp) is
      (subst (λ k. (version_at (c.shared.objects w.version.oid) k).words.stamp ≡ w.stamp) at old.stamp))

  -- the stamp of a version that a transaction has read
  pub read_stamp : (q : ℕ) (t : Attempt) (r : Read) (oid place : ℕ) → t ∈ all_of (c.seats q) → r ∈ t.reads → r.version.oid ≡ oid → r.version.place ≡ place →
      r.stamp ≡ (version_at (c.shared.objects oid) place).words.stamp
  read_stamp q t r oid place m n is at =
      let old = (sound.own q).snapshot.reads t r m n in
      sym (subst (λ n. (version_at (c.shared.objects n) place).words.stamp ≡ r.stamp) is
      (subst (λ k. (version_at (c.shared.objects r.version.oid) k).words.stamp ≡ r.stamp) at old.newest.stamp_is))

  -- a claim and a read of one object with one stamp are of one version
  pub claim_of_read : (p q : ℕ) (t u : Attempt) (w : Claim) (r : Read) → t ∈ all_of (c.seats p) → u ∈ all_of (c.seats q) → w ∈ t.writes → r ∈ u.reads →
      w.version.oid ≡ r.version.oid → w.stamp ≡ r.stamp → w.version.place ≡ r.version.place
  claim_of_read p q t u w r m n mw nr oid stamp =
      let written = (sound.own p).marks.written t w m mw in
      let read = (sound.own q).snapshot.reads u r n nr in
      let o = c.shared.objects r.version.oid in
      let at : (version_at o w.version.place).words.stamp ≡ w.stamp = subst (λ k. (version_at (c.shared.objects k) w.version.place).words.stamp ≡ w.stamp) oid written.stamp in
      let within : w.version.place < length o.versions = subst (λ k. w.version.place < length (c.shared.objects k).versions) oid written.within in
      one_place c.shared.tail o w.version.place r.version.place (sound.common.claims.objects r.version.oid read.named.object) within read.newest.within
      (at ∙ (stamp ∙ sym read.newest.stamp_is))

module _ (c : Core) (sound : Sound c) (seats : SeatsLow c) where
  overwriter_from : (oid place stamp succ : ℕ) → HasOverwritten c.seats oid place stamp succ → Overwriter c oid place stamp succ
  overwriter_from oid place stamp succ h =
      let q = h.0 in
      let t = h.1 in
      let w = h.2 in
      record {
        commit = record_of q t;
        stands = in_history c.seats q t (seats.low q t h.3 h.4) h.3 h.4;
        stamp_is = h.5;
        succ_is = h.6;
        overwrites = (written_of w, ∈-map_from written_of t.writes w h.7, h.8, claim_stamp c sound q t w oid place h.3 h.7 h.8 h.9);
        makes = (written_of w, ∈-map_from written_of t.writes w h.7, h.8);
      }

  -- the version of a claim that its seat still holds: the marks are those of its commit
  marked_newest : (oid place mark owner : ℕ) → oid < OBJECT_LIMIT → place ≡ newest (c.shared.objects oid) → (version_at (c.shared.objects oid) place).words.overwriter ≡ mark → 0 < mark →
      owner_of (c.shared.objects oid).entry ≡ owner → 0 < owner → HasOverwritten c.seats oid place mark (version_at (c.shared.objects oid) place).words.overwriter_succ
  marked_newest oid place mark owner known last is positive owned seat =
      let held = held_claim c owner oid sound ((sound.own owner).claims.owned oid seat known owned) in
      let k = held.at.place in
      let x = c.seats owner in
      let w = claim_at x.current k in
      let at : w.version.place ≡ place = held.fits.place ∙ sym last in
      let install = subst (λ n. InstallFits x.current (c.shared.objects n) w (step_of x.task k)) held.at.oid_is ((sound.own owner).claims.install k held.at.within held.at.held) in
      ⊎_elim
      (λ (early : step_of x.task k < 8). absurd (let none = subst (λ n. (version_at (c.shared.objects oid) n).words.overwriter ≡ 0) at (install.no_mark early) in omega (arith, none, is, positive)))
      (λ (late : 8 ≤ step_of x.task k).
      let succ = subst (λ n. (version_at (c.shared.objects oid) n).words.overwriter_succ ≡ x.current.succ) at (install.succ (omega (arith, late))) in
      let stamp = subst (λ n. (version_at (c.shared.objects oid) n).words.overwriter ≡ x.current.stamp) at (install.mark (omega (arith, late))) in
      (owner, x.current, w, current_stands x, committing x.place x.current x.task k (sound.own owner).task.fits (omega (arith, late)), sym stamp ∙ is, sym succ, stands_in x.current k held.at.within, held.at.oid_is, at))
      (cases_lt (step_of x.task k) 8)

  -- a mark that isn't 0 is that of a commit that overwrote the version
  pub marked_by : (oid place mark : ℕ) → oid < OBJECT_LIMIT → place < length (c.shared.objects oid).versions → (version_at (c.shared.objects oid) place).words.overwriter ≡ mark → 0 < mark →
      Overwriter c oid place mark (version_at (c.shared.objects oid) place).words.overwriter_succ
  marked_by oid place mark known within is positive =
      let o = c.shared.objects oid in
      let fits = sound.common.claims.objects oid known in
      ⊎_elim
      (λ (next : place + 1 < length o.versions).
      subst (λ n. Overwriter c oid place n (version_at o place).words.overwriter_succ) (sym (fits.marked place next) ∙ is)
      (overwriter_from oid place (version_at o (place + 1)).words.stamp (version_at o place).words.overwriter_succ (sound.common.marks.made oid place known next)))
      (λ (none : length o.versions ≤ place + 1).
      let last : place ≡ newest o = omega (arith, none, within) in
      ⊎_elim
      (λ (free : owner_of o.entry ≡ 0). absurd (let z = subst (λ n. (version_at o n).words.overwriter ≡ 0) (sym last) (fits.unmarked free) in omega (arith, z, is, positive)))
      (λ (owned : owner_of o.entry ≡ 0 → ⊥).
      overwriter_from oid place mark (version_at o place).words.overwriter_succ
      (marked_newest oid place mark (owner_of o.entry) known last is positive refl (not_zero (owner_of o.entry) owned)))
      (cases_eq (owner_of o.entry) 0))
      (cases_lt (place + 1) (length o.versions))
    where
      not_zero : (n : ℕ) → (n ≡ 0 → ⊥) → 0 < n
      not_zero n f = omega (arith, f)

  -- a version is the opening's, or a commit made it
  pub made_by : (oid place : ℕ) → oid < OBJECT_LIMIT → place < length (c.shared.objects oid).versions →
      ((version_at (c.shared.objects oid) place).words.stamp ≡ 0) ⊎ Maker c oid (version_at (c.shared.objects oid) place).words.stamp
  made_by oid zero known within = inl (sound.common.marks.opened oid known)
  made_by oid (suc place) known within =
      let same : place + 1 ≡ suc place = omega arith in
      let next : place + 1 < length (c.shared.objects oid).versions = omega (arith, within) in
      let o = overwriter_from oid place (version_at (c.shared.objects oid) (place + 1)).words.stamp (version_at (c.shared.objects oid) place).words.overwriter_succ (sound.common.marks.made oid place known next) in
      inr (record {
        commit = o.commit;
        stands = o.stands;
        stamp_is = o.stamp_is ∙ ap (λ n. (version_at (c.shared.objects oid) n).words.stamp) same;
        makes = o.makes;
      })

  -- a committed reader
  pub read_by : (v : VersionAt) (stamp : ℕ) → HasRead c.seats v stamp → Reader c v stamp
  read_by v stamp h =
      let q = h.0 in
      let t = h.1 in
      let r = h.2 in
      record {
        commit = record_of q t;
        stands = in_history c.seats q t (seats.low q t h.3 h.4) h.3 h.4;
        stamp_is = h.5;
        read = read_of r;
        reads = ∈-map_from read_of t.reads r h.6;
        oid_is = h.7;
        version_is = read_stamp c sound q t r v.oid v.place h.3 h.6 h.7 h.8;
      }
