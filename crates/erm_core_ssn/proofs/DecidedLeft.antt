-- What a step that decides nothing leaves makes the law hold of the state after.
use Rattle.std.proofs.Common.{◌≡◌, ◌≢◌, ℕ, ◌<◌, ◌≤◌, ◌⊎◌, ⊎_elim, length, refl, sym, ap, ◌∙◌, subst, arith}
use Rattle.erm_model.specs.declared.history.TransactionRecord.{TransactionRecord}
use Rattle.erm_model.specs.History.{OverwritesReadOf, ReadsFrom, OverwritesFrom}
use Rattle.erm_model.specs.Member.{◌∈◌}
use Rattle.erm_machine.specs.declared.limits.TheConstants.{ANNOUNCERS}
use Rattle.erm_machine.specs.declared.attempt.Attempt.{Attempt}
use Rattle.erm_machine.specs.declared.attempt.Decision.TheVariants.{Undecided, Commit}
use Rattle.erm_machine.specs.declared.part.Part.{Part}
use Rattle.erm_machine.specs.declared.task.Task.{Task}
use Rattle.erm_machine.specs.declared.task.Task.TheVariants as task
use Rattle.erm_machine.specs.declared.version.VersionAt.{VersionAt}
use Rattle.erm_machine.specs.Core.{Core, Shared, claim_at, version_at}
use Rattle.erm_machine.specs.Decided.{bare, record_of, history_of, IsOpen, DecisionFits, RunningFits, MarkInHand, Decided, OwnDecided, DecidedApart, Reading, NoneReadsLeft, writes_passed, MayCommit}
use Rattle.erm_machine.specs.Facts.{all_of}
use Rattle.erm_machine.specs.Seat.{read_at}
use Rattle.erm_machine.specs.Sound.{Sound}
use Rattle.erm_machine.specs.Words.{put}
use Rattle.erm_machine.proofs.Frames.{at_cases, each_seat, each_two}
use Rattle.erm_machine.proofs.Histories.{history_from}
use Rattle.erm_core_ssn.proofs.DecidedVersions.{current_stands}
use Rattle.erm_core_ssn.proofs.DecidedFrames.{Kept, Old, Comes, shape, Within, fits_same, fits_moves, running_later}

-- a mark that isn't 0 stays
pub record KeepsMarks (s t : Shared) : Type 0 where
  pub kept : (oid place mark : ℕ) → (version_at (s.objects oid) place).words.overwriter ≡ mark → 0 < mark → (version_at (t.objects oid) place).words.overwriter ≡ mark

-- what a step that decides nothing leaves
pub record Left (c : Core) (t : Shared) (p : ℕ) (y : Part) : Type 0 where
  pub tail : c.shared.tail ≤ t.tail
  pub marks : KeepsMarks c.shared t
  pub comes : (u : Attempt) → u ∈ all_of y → Comes c.shared.tail (c.seats p) u
  pub forth : (v : Attempt) → v ∈ all_of (c.seats p) → v.decision ≡ Commit → Old y v
  pub drawn : (u : Attempt) → u ∈ all_of y → u.stamp < t.tail
  pub earlier : (u : Attempt) → u ∈ y.over → 0 < y.current.stamp → u.stamp < y.current.stamp
  pub in_hand : MarkInHand t y.current y.task
  pub opens : IsOpen y.current → (y.current.stamp ≡ c.shared.tail) ⊎ (IsOpen (c.seats p).current × (shape (c.seats p).current ≡ shape y.current))
  pub reading : (v : VersionAt) (bound : ℕ) → bound ≤ c.shared.tail → Reading y v bound → Reading (c.seats p) v bound
  pub passed : (q : ℕ) → q ≢ p → (k : ℕ) → k < writes_passed y.task (length y.current.writes) → k < length y.current.writes
      → Reading (c.seats q) (claim_at y.current k).version y.current.stamp → ⊥
  pub left : (q : ℕ) → q ≢ p → NoneReadsLeft y y.task q (c.seats q)
  pub running : y.current.decision ≡ Undecided → MayCommit y.place y.task → RunningFits (history_of c.seats) t.tail p y

-- one transaction would count for another, in the history's words
abbrev pub CountsIn : TransactionRecord → TransactionRecord → Type 0
CountsIn r s = (s.stamp < r.stamp) × (OverwritesReadOf s r ⊎ ReadsFrom r s ⊎ OverwritesFrom r s ⊎ OverwritesReadOf r s)

-- the mark of a version in hand stays
pub mark_stays : (s t : Shared) (a : Attempt) (u : Task) → KeepsMarks s t → MarkInHand s a u → MarkInHand t a u
mark_stays s t a (task.Overtaken v mark) keeps h = (keeps.kept v.oid v.place mark h.0 h.1, h.1, h.2)
mark_stays s t a (task.ReadOvertaken read mark) keeps h =
    (keeps.kept (read_at a read).version.oid (read_at a read).version.place mark h.0 h.1, h.1, h.2)
mark_stays s t a (task.Registered v) keeps h = h
mark_stays s t a (task.Rated v) keeps h = h
mark_stays s t a task.Fetched keeps h = h
mark_stays s t a _ keeps h = tt

module _ (c : Core) (t : Shared) (p : ℕ) (y : Part) (sound : Sound c) (left : Left c t p y) where
  into : Within (history_of c.seats) (history_of (put c.seats p y))
  into u m = history_from c.seats (put c.seats p y) u m (λ q v n commit.
      at_cases (λ z. (w : Attempt) × (w ∈ all_of z) × (w.decision ≡ Commit) × (record_of q w ≡ record_of q v)) c.seats p y q
      (λ same.
      let o = left.forth v (subst (λ k. v ∈ all_of (c.seats k)) same n) commit in
      (o.attempt, o.stands, o.decision ∙ commit, ap (λ (r : TransactionRecord). record r { seat = q }) o.whole))
      (λ _. (v, n, commit, refl)))

  back : Within (history_of (put c.seats p y)) (history_of c.seats)
  back u m = history_from (put c.seats p y) c.seats u m (λ q.
      at_cases (λ z. (v : Attempt) → v ∈ all_of z → v.decision ≡ Commit → (w : Attempt) × (w ∈ all_of (c.seats q)) × (w.decision ≡ Commit) × (record_of q w ≡ record_of q v)) c.seats p y q
      (λ same v n commit.
      let o = (left.comes v n).commit commit in
      (o.attempt, subst (λ k. o.attempt ∈ all_of (c.seats k)) (sym same) o.stands, o.decision ∙ commit, ap (λ (r : TransactionRecord). record r { seat = q }) o.whole))
      (λ _ v n commit. (v, n, commit, refl)))

  stamp_of : (v u : Attempt) → bare v ≡ bare u → v.stamp ≡ u.stamp
  stamp_of v u e = ap (λ (r : TransactionRecord). r.stamp) e

  shared_kept : Decided t (put c.seats p y)
  shared_kept = record {
    seats_of = each_seat (λ q z. (u : Attempt) → u ∈ all_of z → u.decision ≡ Commit → q < ANNOUNCERS) c.seats p y
        (λ u m commit. let o = (left.comes u m).commit commit in sound.common.decided.seats_of p o.attempt o.stands (o.decision ∙ commit))
        (λ q _. sound.common.decided.seats_of q);
    decided = each_seat (λ q z. (u : Attempt) → u ∈ all_of z → 0 < u.stamp → u.decision ≢ Undecided → DecisionFits (history_of (put c.seats p y)) q u) c.seats p y
        (λ u m positive decided.
        let o = (left.comes u m).decided positive decided in
        let e = stamp_of o.attempt u o.whole in
        fits_same (history_of c.seats) (history_of (put c.seats p y)) p u into back
        (fits_moves (history_of c.seats) p o.attempt u o.decision o.whole
        (sound.common.decided.decided p o.attempt o.stands (omega (arith, e, positive)) (λ un. decided (sym o.decision ∙ un)))))
        (λ q _ u m positive decided. fits_same (history_of c.seats) (history_of (put c.seats p y)) q u into back (sound.common.decided.decided q u m positive decided));
    running = each_seat (λ q z. z.current.decision ≡ Undecided → MayCommit z.place z.task → RunningFits (history_of (put c.seats p y)) t.tail q z) c.seats p y
        (λ un may. running_later (history_of c.seats) (history_of (put c.seats p y)) t.tail t.tail p y (omega arith) into back (left.running un may))
        (λ q _ un may. running_later (history_of c.seats) (history_of (put c.seats p y)) c.shared.tail t.tail q (c.seats q) left.tail into back (sound.common.decided.running q un may));
  }

  own_new : OwnDecided t y
  own_new = record {
    drawn = left.drawn;
    earlier = left.earlier;
    positive = λ u m commit.
        let o = (left.comes u m).commit commit in
        let e = stamp_of o.attempt u o.whole in
        let h = (sound.own p).decided.positive o.attempt o.stands (o.decision ∙ commit) in
        omega (arith, e, h);
    in_hand = left.in_hand;
  }

  own_other : (q : ℕ) → q ≢ p → OwnDecided t (c.seats q)
  own_other q ne =
      let old = (sound.own q).decided in
      record {
        drawn = λ u m. let h = old.drawn u m in let g = left.tail in omega (arith, h, g);
        earlier = old.earlier;
        positive = old.positive;
        in_hand = mark_stays c.shared t (c.seats q).current (c.seats q).task left.marks old.in_hand;
      }

  new_eyes : (q : ℕ) → q ≢ p → DecidedApart y q (c.seats q)
  new_eyes q ne =
      let old = (sound.both p q (λ e. ne (sym e))).decided in
      record {
        apart = λ u v m n positive e.
            ⊎_elim
            (λ (at : u.stamp ≡ c.shared.tail). let h = (sound.own q).decided.drawn v n in omega (arith, at, e, h))
            (λ (w : (v : Attempt) × (v ∈ all_of (c.seats p)) × (v.stamp ≡ u.stamp)). let s = w.2 in old.apart w.0 v w.1 n (omega (arith, s, positive)) (s ∙ e))
            ((left.comes u m).stamp positive);
        decided = λ u m positive decided drawn count.
            let o = (left.comes u m).decided positive decided in
            let s = stamp_of o.attempt u o.whole in
            old.decided o.attempt o.stands (omega (arith, s, positive)) (λ un. decided (sym o.decision ∙ un)) drawn
            (subst (λ (r : TransactionRecord). CountsIn r (bare (c.seats q).current)) (sym o.whole) count);
        passed = left.passed q ne;
        left = left.left q ne;
      }

  left_by : (q : ℕ) (u : Task) → (c.seats q).current.stamp ≤ c.shared.tail → NoneReadsLeft (c.seats q) u p (c.seats p) → NoneReadsLeft (c.seats q) u p y
  left_by q (task.ReadersLeft write bits) past none = λ bit reads. none bit (left.reading (claim_at (c.seats q).current write).version (c.seats q).current.stamp past reads)
  left_by q _ past none = tt

  on_new : (q : ℕ) → q ≢ p → DecidedApart (c.seats q) p y
  on_new q ne =
      let old = (sound.both q p ne).decided in
      let low = (sound.own q).decided.drawn (c.seats q).current (current_stands (c.seats q)) in
      let past : (c.seats q).current.stamp ≤ c.shared.tail = omega (arith, low) in
      record {
        apart = λ u v m n positive e.
            ⊎_elim
            (λ (at : v.stamp ≡ c.shared.tail). let h = (sound.own q).decided.drawn u m in omega (arith, at, e, h))
            (λ (w : (x : Attempt) × (x ∈ all_of (c.seats p)) × (x.stamp ≡ v.stamp)). old.apart u w.0 m w.1 positive (e ∙ sym w.2))
            ((left.comes v n).stamp (omega (arith, e, positive)));
        decided = λ u m positive decided drawn count.
            ⊎_elim
            (λ (at : y.current.stamp ≡ c.shared.tail). let h = (sound.own q).decided.drawn u m in let l = count.0 in omega (arith, at, l, h))
            (λ (was : IsOpen (c.seats p).current × (shape (c.seats p).current ≡ shape y.current)).
            old.decided u m positive decided was.0 (subst (λ (r : TransactionRecord). CountsIn (bare u) r) (sym was.1) count))
            (left.opens drawn);
        passed = λ k a b reads. old.passed k a b (left.reading (claim_at (c.seats q).current k).version (c.seats q).current.stamp past reads);
        left = left_by q (c.seats q).task past old.left;
      }

  pub kept_from : (d : Core) → record { shared = t; seats = put c.seats p y } ≡ d → Kept d
  kept_from d is =
      subst Kept is (record {
        shared = shared_kept;
        own = each_seat (λ _ (z : Part). OwnDecided t z) c.seats p y own_new own_other;
        both = each_two DecidedApart c.seats p y new_eyes on_new (λ q r _ _ ne. (sound.both q r ne).decided);
      })
