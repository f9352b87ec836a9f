-- Two transactions that touch one object have lines of one table.
use Rattle.std.proofs.Common.{◌≡◌, ℕ, zero, suc, ◌<◌, ◌≤◌, ◌⊎◌, ◌==◌, true, false, Bool, cond, ◌||◌, List, [], ◌∷◌, Option, Some, is_some, slice_get, IfSome, inl, inr, refl, ap, subst, arith, eq-eqb}
use Rattle.erm_model.specs.declared.history.TransactionRecord.{TransactionRecord}
use Rattle.erm_model.specs.declared.history.VersionRead.{VersionRead}
use Rattle.erm_model.specs.declared.history.VersionWritten.{VersionWritten}
use Rattle.erm_model.specs.History.{History, IsNewestBelow, IsSnapshot, OverwritesFrom, OverwritesNewest, OverwritesReadOf, ReadsFrom}
use Rattle.erm_model.specs.Member.{◌∈◌}
use Rattle.erm_model.specs.Rows.{Rows}
use Rattle.erm_world.specs.Works.{is_claimed, row_read}
use Rattle.erm_world.specs.World.{Work, bare}
use Rattle.erm_maps.proofs.Histories.{work_in}
use Rattle.erm_good_report.specs.Causes.{CommitsBeside, HasNoWindow, NamesTable, OverwritesBeside, WritesTable}
use Rattle.erm_good_report.specs.Transactions.{Commits, Transaction}
use Rattle.erm_causes.specs.Touched.{IsClosedBy, Touches}

-- a version that was read is that of an object read, and one overwritten that of an object claimed
pub read_at : (rs : List VersionRead) (k : ℕ) (r : VersionRead) → slice_get rs k ≡ Some r → is_some (row_read rs r.oid) ≡ true
read_at [] k r at = cc
read_at (d ∷ rs) zero r at =
    let same : d ≡ r = cc in
    ap (λ (b : Bool). is_some (cond b (Some d.row) (row_read rs r.oid))) (eq-eqb d.oid r.oid (ap (λ (x : VersionRead). x.oid) same))
read_at (d ∷ rs) (suc k) r at = either_read (d.oid == r.oid) d.row (row_read rs r.oid) (read_at rs k r at)
  where
    either_read : (b : Bool) (row : List ℕ) (rest : Option (List ℕ)) → is_some rest ≡ true → is_some (cond b (Some row) rest) ≡ true
    either_read true row rest is = refl
    either_read false row rest is = is

pub claimed_at : (cs : List VersionWritten) (k : ℕ) (c : VersionWritten) → slice_get cs k ≡ Some c → is_claimed cs c.oid ≡ true
claimed_at [] k c at = cc
claimed_at (d ∷ cs) zero c at =
    let same : d ≡ c = cc in ap (λ (b : Bool). b || is_claimed cs c.oid) (eq-eqb d.oid c.oid (ap (λ (x : VersionWritten). x.oid) same))
claimed_at (d ∷ cs) (suc k) c at = either_claimed (d.oid == c.oid) (is_claimed cs c.oid) (claimed_at cs k c at)
  where
    either_claimed : (b rest : Bool) → rest ≡ true → (b || rest) ≡ true
    either_claimed true rest is = refl
    either_claimed false rest is = is

-- a transaction told, of a commit of the history
pub record ToldCommit (table : ℕ → ℕ) (told : List Transaction) (u : TransactionRecord) : Type 0 where
  pub by : Transaction
  pub of : by ∈ told
  pub session : by.session ≡ u.seat
  pub ending : by.ending ≡ Commits u.stamp u.succ u.pred
  pub touches : Touches table by (work_in u)

pub writes_name : (t : Transaction) (k : ℕ) → WritesTable t k → NamesTable t k
writes_name t k writes = record { line = writes.line; of = writes.of; names = writes.names }

module _ (table : ℕ → ℕ) (told : List Transaction) (t : Transaction) (w : Work) (touches : Touches table t w) where
  reads_name : (r : VersionRead) → r ∈ w.reads → NamesTable t (table r.oid)
  reads_name r within = touches.reads r.oid (read_at w.reads within.0 r within.1)

  claims_write : (c : VersionWritten) → c ∈ w.claims → WritesTable t (table c.oid)
  claims_write c within = touches.claims c.oid (claimed_at w.claims within.0 c within.1)

  -- a commit that overwrote what was read
  pub overwrites_beside : (u : TransactionRecord) (commit : ToldCommit table told u) (bound : Option ℕ) → OverwritesReadOf u (bare w) → t.begin ≤ u.stamp → IfSome bound (λ stamp. u.stamp < stamp)
      → OverwritesBeside commit.by t bound u.succ
  overwrites_beside u commit bound (r, read, (c, wrote, at, stamp)) after before = record {
    own = u.stamp;
    pred = u.pred;
    ending = commit.ending;
    after = after;
    before = before;
    table = table r.oid;
    line = subst (λ (k : ℕ). WritesTable commit.by k) (ap table at) (commit.touches.claims c.oid (claimed_at u.writes wrote.0 c wrote.1));
    other = reads_name r read;
  }

  -- one that made what was read or overwritten, or read what was overwritten
  pub commits_beside : (u : TransactionRecord) (commit : ToldCommit table told u) → ReadsFrom (bare w) u ⊎ OverwritesFrom (bare w) u ⊎ OverwritesReadOf (bare w) u
      → CommitsBeside commit.by t u.stamp
  commits_beside u commit (inl (r, read, stamp, (c, wrote, at))) =
      let made : WritesTable commit.by (table r.oid) = subst (λ (k : ℕ). WritesTable commit.by k) (ap table at) (commit.touches.claims c.oid (claimed_at u.writes wrote.0 c wrote.1)) in
      record {
        succ = u.succ;
        pred = u.pred;
        ending = commit.ending;
        table = table r.oid;
        line = writes_name commit.by (table r.oid) made;
        other = reads_name r read;
        writes = inl made;
      }
  commits_beside u commit (inr (inl (d, wrote, stamp, (c, made, at)))) = record {
    succ = u.succ;
    pred = u.pred;
    ending = commit.ending;
    table = table d.oid;
    line = writes_name commit.by (table d.oid) (subst (λ (k : ℕ). WritesTable commit.by k) (ap table at) (commit.touches.claims c.oid (claimed_at u.writes made.0 c made.1)));
    other = writes_name t (table d.oid) (claims_write d wrote);
    writes = inr (claims_write d wrote);
  }
  commits_beside u commit (inr (inr (r, read, (d, wrote, at, stamp)))) =
      let over : WritesTable t (table r.oid) = subst (λ (k : ℕ). WritesTable t k) (ap table at) (claims_write d wrote) in
      record {
        succ = u.succ;
        pred = u.pred;
        ending = commit.ending;
        table = table r.oid;
        line = commit.touches.reads r.oid (read_at u.reads read.0 r read.1);
        other = writes_name t (table r.oid) over;
        writes = inr over;
      }

  -- a commit that overwrote what a transaction read lies at or above its begin
  module _ (h : History) (opening : Rows) (snapshots : IsSnapshot h opening) (reads : (r : VersionRead) → r ∈ w.reads → IsNewestBelow h opening r.oid w.begin r.stamp r.row) where
    pub overwrites_after : (u : TransactionRecord) → u ∈ h → OverwritesReadOf u (bare w) → w.begin ≤ u.stamp
    overwrites_after u within (r, read, (c, wrote, at, stamp)) =
        let newest = reads r read in
        let over : OverwritesNewest h opening u c = (snapshots u within).writes c wrote in
        let later : c.stamp < u.stamp = over.newest.below in
        elim (lt_or_le u.stamp w.begin) as (λ _. w.begin ≤ u.stamp) [
          | inl less ↦ absurd (omega (arith, newest.newest u within (c, wrote, at) less, later, stamp))
          | inr most ↦ most
        ]
      where
        lt_or_le : (a b : ℕ) → (a < b) ⊎ (b ≤ a)
        lt_or_le a zero = inr (omega arith)
        lt_or_le zero (suc b) = inl (omega arith)
        lt_or_le (suc a) (suc b) = elim (lt_or_le a b) [ inl less ↦ inl (omega (arith, less)) | inr most ↦ inr (omega (arith, most)) ]

    -- one whose window was closed shows the causes, of which is so what is so of each commit
    pub shows_closed_by : (P : Transaction → Type 0) → ((u : TransactionRecord) → u ∈ h → (commit : ToldCommit table told u) × P commit.by) → t.begin ≡ w.begin → (stamp : Option ℕ) (succ pred : ℕ)
        → IsClosedBy h w stamp succ pred → (shut : HasNoWindow told t stamp succ pred) × P shut.after × P shut.before
    shows_closed_by P commits begin stamp succ pred closed =
        let found = commits closed.after closed.after_in in
        let other = commits closed.before closed.before_in in
        let after = found.0 in
        let before = other.0 in (
          record {
            closed = closed.closed;
            after = after.by;
            after_in = after.of;
            succ_cause = subst (λ (n : ℕ). OverwritesBeside after.by t stamp n) closed.succ_is
                (overwrites_beside closed.after after stamp closed.overwrites (omega (arith, begin, overwrites_after closed.after closed.after_in closed.overwrites)) closed.after_below);
            before = before.by;
            before_in = before.of;
            pred_cause = subst (λ (n : ℕ). CommitsBeside before.by t n) closed.pred_is (commits_beside closed.before before closed.counts);
            below = closed.before_below;
          },
          found.1,
          other.1,
        )

    pub shows_closed : ((u : TransactionRecord) → u ∈ h → ToldCommit table told u) → t.begin ≡ w.begin → (stamp : Option ℕ) (succ pred : ℕ) → IsClosedBy h w stamp succ pred
        → HasNoWindow told t stamp succ pred
    shows_closed commits begin stamp succ pred closed = (shows_closed_by (λ u. Unit {0}) (λ u within. (commits u within, tt)) begin stamp succ pred closed).0
