-- The state after a decision.
use Rattle.std.proofs.Common.{◌≡◌, ◌≢◌, ℕ, ◌<◌, ◌⊎◌, ⊎_elim, [], ◌∷◌, length, refl, sym, ap, ◌∙◌, subst, inl, inr, arith}
use Rattle.erm_model.specs.declared.history.TransactionRecord.{TransactionRecord}
use Rattle.erm_model.specs.declared.history.VersionRead.{VersionRead}
use Rattle.erm_model.specs.declared.history.VersionWritten.{VersionWritten}
use Rattle.erm_model.specs.History.{Overwrites, OverwritesReadOf, ReadsFrom, OverwritesFrom}
use Rattle.erm_model.specs.Member.{◌∈◌}
use Rattle.erm_model.proofs.Members.{∈-push, ∈-at}
use Rattle.erm_machine.specs.declared.limits.TheConstants.{ANNOUNCERS}
use Rattle.erm_machine.specs.declared.attempt.Attempt.{Attempt}
use Rattle.erm_machine.specs.declared.attempt.Decision.TheVariants.{Undecided, Commit}
use Rattle.erm_machine.specs.declared.part.Part.{Part}
use Rattle.erm_machine.specs.declared.place.Place.{Place}
use Rattle.erm_machine.specs.declared.place.Place.TheVariants.{Vacant, Sealed, Decided}
use Rattle.erm_machine.specs.declared.task.Task.{Task}
use Rattle.erm_machine.specs.declared.task.Task.TheVariants as task
use Rattle.erm_machine.specs.declared.version.VersionAt.{VersionAt}
use Rattle.erm_machine.specs.Core.{Core, claim_at}
use Rattle.erm_machine.specs.Decided.{bare, record_of, history_of, reads_rated, writes_rated, MayCount, IsOpen, DecisionFits, RunningFits, OwnDecided, DecidedApart, Reading, NoneReadsLeft, writes_passed, MayCommit}
use Rattle.erm_machine.specs.Facts.{all_of, IsCurrent}
use Rattle.erm_machine.specs.Seat.{read_at, no_read, decision_of}
use Rattle.erm_machine.specs.Snapshot.{passed_of}
use Rattle.erm_machine.specs.Sound.{Sound}
use Rattle.erm_machine.specs.Step.{with_ring}
use Rattle.erm_machine.specs.Words.{put}
use Rattle.erm_machine.proofs.Frames.{at_cases, each_seat, each_two}
use Rattle.erm_machine.proofs.Holders.{held_once, stands_in}
use Rattle.erm_machine.proofs.Histories.{history_from, history_has, in_history}
use Rattle.erm_machine.proofs.Listed.{∈-first}
use Rattle.erm_core_ssn.proofs.DecidedVersions.{current_stands}
use Rattle.erm_core_ssn.proofs.DecidedFrames.{Kept, Within}
use Rattle.erm_core_ssn.proofs.DecidedOpen.{read_place, claim_place, none_over, open_held, overwriting, reading, not_made}
use Rattle.erm_core_ssn.proofs.DecidedDecide.{WithOne, fits_more, rated_passed, rated_writes, all_counted, bound_own, decides, decides_not, not_vacant}

-- the seat is about to decide
pub record Ready (x : Part) (tail stamp words : ℕ) : Type 0 where
  pub place : x.place ≡ Sealed tail stamp
  pub task : x.task ≡ task.Fills words

module _ (c : Core) (p tail stamp words header at : ℕ) (sound : Sound c) (ready : Ready (c.seats p) tail stamp words) where
  abbrev own : Attempt
  own = (c.seats p).current

  abbrev decided : Attempt
  decided = record (c.seats p).current { decision = decision_of (c.seats p).current; header = header }

  abbrev part : Part
  part = record (c.seats p) { place = Decided tail stamp; task = task.Ends 0 0 0 0; current = record (c.seats p).current { decision = decision_of (c.seats p).current; header = header } }

  abbrev after : ℕ → Part
  after = put c.seats p (record (c.seats p) { place = Decided tail stamp; task = task.Ends 0 0 0 0; current = record (c.seats p).current { decision = decision_of (c.seats p).current; header = header } })

  opened : IsOpen own
  opened =
      let cur = subst (λ (l : Place). IsCurrent l (c.seats p).current) ready.place (sound.own p).ranges.current in
      let e = cur.stamp_is in
      let h = cur.positive in
      (omega (arith, e, h), cur.decision)

  low : p < ANNOUNCERS
  low = not_vacant c p sound (λ (e : (c.seats p).place ≡ Vacant). let z = ready.place in cc)

  -- a transaction of the seat before, and after
  was : (v : Attempt) → v ∈ all_of (c.seats p) → (v ∈ (c.seats p).over) ⊎ (v ≡ own)
  was v m = ∈-push (c.seats p).over (c.seats p).current v m

  is_now : (v : Attempt) → v ∈ all_of part → (v ∈ (c.seats p).over) ⊎ (v ≡ decided)
  is_now v m = ∈-push (c.seats p).over (record (c.seats p).current { decision = decision_of (c.seats p).current; header = header }) v m

  over_stands : (v : Attempt) → v ∈ (c.seats p).over → v ∈ all_of (c.seats p)
  over_stands v m = ∈-first (c.seats p).over ((c.seats p).current ∷ []) v m

  over_now : (v : Attempt) → v ∈ (c.seats p).over → v ∈ all_of part
  over_now v m = ∈-first (c.seats p).over ((record (c.seats p).current { decision = decision_of (c.seats p).current; header = header }) ∷ []) v m

  -- the history
  into : Within (history_of c.seats) (history_of after)
  into u m = history_from c.seats after u m (λ q v n commit.
      at_cases (λ z. (w : Attempt) × (w ∈ all_of z) × (w.decision ≡ Commit) × (record_of q w ≡ record_of q v)) c.seats p part q
      (λ same. (
        v,
        ⊎_elim (λ (before : v ∈ (c.seats p).over). over_now v before)
            (λ (now : v ≡ (c.seats p).current). absurd (let un = opened.1 in let e = ap (λ (w : Attempt). w.decision) now in cc))
            (was v (subst (λ k. v ∈ all_of (c.seats k)) same n)),
        commit,
        refl,
      ))
      (λ _. (v, n, commit, refl)))

  back : WithOne (history_of c.seats) (record_of p own) (history_of after)
  back u m =
      let r = history_has after u m in
      from r.seat r.attempt r.below r.stands r.commit r.is
    where
      from : (q : ℕ) (v : Attempt) → q < ANNOUNCERS → v ∈ all_of (after q) → v.decision ≡ Commit → record_of q v ≡ u → (u ∈ history_of c.seats) ⊎ (u ≡ record_of p (c.seats p).current)
      from q v below n commit is =
          (at_cases (λ z. v ∈ all_of z → (u ∈ history_of c.seats) ⊎ (u ≡ record_of p (c.seats p).current)) c.seats p part q
          (λ same n. ⊎_elim
          (λ (before : v ∈ (c.seats p).over). inl (subst (λ w. w ∈ history_of c.seats) is (subst (λ k. record_of k v ∈ history_of c.seats) (sym same) (in_history c.seats p v low (over_stands v before) commit))))
          (λ (now : v ≡ decided). inr (sym is ∙ (ap (λ k. record_of k v) same ∙ ap (λ w. record_of p w) now)))
          (is_now v n))
          (λ _ n. inl (subst (λ w. w ∈ history_of c.seats) is (in_history c.seats q v below n commit)))) n

  -- claims, reads and bits of the deciding transaction against another open one
  no_count : (q : ℕ) → q ≢ p → IsOpen (c.seats q).current → MayCount own (c.seats q).current → ⊥
  no_count q ne h count = ⊎_elim overwrote (λ rest. ⊎_elim read (λ more. ⊎_elim wrote readers more) rest) count.1
    where
      z : Attempt
      z = (c.seats q).current

      all_reads : (k : ℕ) → k < length own.reads → k < passed_of (c.seats p).task (length own.reads)
      all_reads k within = subst (λ (u : Task). k < passed_of u (length (c.seats p).current.reads)) (sym ready.task) within

      all_writes : (k : ℕ) → k < length own.writes → k < writes_passed (c.seats p).task (length own.writes)
      all_writes k within = subst (λ (u : Task). k < writes_passed u (length (c.seats p).current.writes)) (sym ready.task) within

      overwrote : OverwritesReadOf (bare (c.seats q).current) (bare own) → ⊥
      overwrote o =
          let r = read_place own o.0 o.1 in
          let over = subst (λ (v : VersionRead). Overwrites (bare (c.seats q).current) v.oid v.stamp) (sym r.is) o.2 in
          (sound.both p q (λ e. ne (sym e))).snapshot.passed r.place (all_reads r.place r.within) r.within (overwriting c sound q p r.place own.stamp h count.0 r.within over)

      read : ReadsFrom (bare own) (bare (c.seats q).current) → ⊥
      read o =
          let r = read_place own o.0 o.1 in
          not_made c sound q p (read_at own r.place) h (∈-at own.reads r.place no_read r.within) (ap (λ (v : VersionRead). v.stamp) r.is ∙ o.2)
          (o.3.0, o.3.1, o.3.2 ∙ sym (ap (λ (v : VersionRead). v.oid) r.is))

      wrote : OverwritesFrom (bare own) (bare (c.seats q).current) → ⊥
      wrote o =
          let w = claim_place own o.0 o.1 in
          let v = claim_place (c.seats q).current o.3.0 o.3.1 in
          let oid : (claim_at (c.seats q).current v.place).version.oid ≡ o.0.oid = ap (λ (n : VersionWritten). n.oid) v.is ∙ o.3.2 in
          ne (sym (held_once c p q o.0.oid sound
          (claim_at own w.place, stands_in own w.place w.within, open_held c sound p w.place opened w.within, ap (λ (n : VersionWritten). n.oid) w.is)
          (claim_at (c.seats q).current v.place, stands_in (c.seats q).current v.place v.within, open_held c sound q v.place h v.within, oid)))

      readers : OverwritesReadOf (bare own) (bare (c.seats q).current) → ⊥
      readers o =
          let w = claim_place own o.2.0 o.2.1 in
          let oid : o.0.oid ≡ (claim_at own w.place).version.oid = sym o.2.2 ∙ sym (ap (λ (n : VersionWritten). n.oid) w.is) in
          let stamp : o.0.stamp ≡ (claim_at own w.place).stamp = sym o.2.3 ∙ sym (ap (λ (n : VersionWritten). n.stamp) w.is) in
          (sound.both p q (λ e. ne (sym e))).decided.passed w.place (all_writes w.place w.within) w.within
          (reading c sound q p w.place own.stamp h count.0 w.within (o.0, o.1, oid, stamp))

  -- the numbers of the deciding transaction
  running : RunningFits (history_of c.seats) c.shared.tail p (c.seats p)
  running = sound.common.decided.running p opened.1 (subst (λ (l : Place). MayCommit l (c.seats p).task) (sym ready.place) tt)

  not_own : (u : TransactionRecord) → u.stamp < own.stamp → (u ∈ history_of c.seats) ⊎ (u ≡ record_of p own) → u ∈ history_of c.seats
  not_own u less m = ⊎_elim (λ (old : u ∈ history_of c.seats). old) (λ (new : u ≡ record_of p own). absurd (let e = ap (λ (r : TransactionRecord). r.stamp) new in omega (arith, e, less))) m

  fits_now : DecisionFits (history_of after) p decided
  fits_now = record {
    succ = record {
      at_most_own = (running.succ_own opened.0).1;
      at_most_each = λ u counts.
          let r = read_place own counts.2.0 counts.2.1 in
          running.succ_least u (not_own u counts.1 (back u counts.0)) counts.1 (
            r.place,
            subst (λ (t : Task). r.place < reads_rated t (length (c.seats p).current.reads)) (sym ready.task) r.within,
            r.within,
            subst (λ (v : VersionRead). Overwrites u v.oid v.stamp) (sym r.is) counts.2.2,
          );
      attained = ⊎_elim (λ e. inl e)
          (λ each. inr (each.0, (into each.0 each.1, subst (λ n. each.0.stamp < n) (bound_own c.shared.tail own opened.0) each.2, each.3), each.4))
          running.succ_attained;
    };
    pred = record {
      at_least_each = λ u counts.
          let m = not_own u counts.1 (back u counts.0) in
          ⊎_elim
          (λ (from : ReadsFrom (record_of p own) u).
          let r = read_place own from.0 from.1 in
          let e : (read_at own r.place).stamp ≡ u.stamp = ap (λ (v : VersionRead). v.stamp) r.is ∙ from.2 in
          let h = running.pred_reads r.place r.within in omega (arith, e, h))
          (λ rest. ⊎_elim
          (λ (from : OverwritesFrom (record_of p own) u).
          let w = claim_place own from.0 from.1 in
          let e : (claim_at own w.place).stamp ≡ u.stamp = ap (λ (v : VersionWritten). v.stamp) w.is ∙ from.2 in
          let h = running.pred_writes w.place (subst (λ (t : Task). w.place < writes_rated t (length (c.seats p).current.writes)) (sym ready.task) w.within) w.within in omega (arith, e, h))
          (λ (over : OverwritesReadOf (record_of p own) u).
          let w = claim_place own over.2.0 over.2.1 in
          let oid : over.0.oid ≡ (claim_at own w.place).version.oid = sym over.2.2 ∙ sym (ap (λ (v : VersionWritten). v.oid) w.is) in
          let stamp : over.0.stamp ≡ (claim_at own w.place).stamp = sym over.2.3 ∙ sym (ap (λ (v : VersionWritten). v.stamp) w.is) in
          running.pred_readers u m counts.1
          (w.place, subst (λ (t : Task). w.place < writes_rated t (length (c.seats p).current.writes)) (sym ready.task) w.within, w.within, (over.0, over.1, oid, stamp)))
          rest)
          counts.2;
      attained = ⊎_elim (λ e. inl e)
          (λ each. inr (
            each.0,
            (
              into each.0 each.1,
              subst (λ n. each.0.stamp < n) (bound_own c.shared.tail own opened.0) each.2,
              subst (λ (t : Attempt). ReadsFrom (record_of p t) each.0 ⊎ OverwritesFrom (record_of p t) each.0 ⊎ OverwritesReadOf (record_of p t) each.0) (all_counted own opened.0) each.4,
            ),
            each.3,
          ))
          running.pred_attained;
    };
    window = decides own;
  }

  -- the law after the decision
  others_fit : (q : ℕ) → q ≢ p → (v : Attempt) → v ∈ all_of (c.seats q) → 0 < v.stamp → v.decision ≢ Undecided → DecisionFits (history_of after) q v
  others_fit q ne v m positive is =
      fits_more (history_of c.seats) (history_of after) (record_of p own) q v into back
      (λ count. (sound.both q p ne).decided.decided v m positive is opened count) (sound.common.decided.decided q v m positive is)

  own_fit : (v : Attempt) → v ∈ all_of part → 0 < v.stamp → DecisionFits (history_of after) p v
  own_fit v m positive =
      ⊎_elim
      (λ (before : v ∈ (c.seats p).over).
      let less = (sound.own p).decided.earlier v before opened.0 in
      fits_more (history_of c.seats) (history_of after) (record_of p own) p v into back
      (λ count. let l = count.0 in omega (arith, l, less))
      (sound.common.decided.decided p v (over_stands v before) positive (over_decided v before)))
      (λ (now : v ≡ decided). subst (λ w. DecisionFits (history_of after) p w) (sym now) fits_now)
      (is_now v m)
    where
      over_decided : (v : Attempt) → v ∈ (c.seats p).over → v.decision ≢ Undecided
      over_decided v m = (sound.own p).ranges.decided v m

  runs_on : (q : ℕ) → q ≢ p → (c.seats q).current.decision ≡ Undecided → MayCommit (c.seats q).place (c.seats q).task → RunningFits (history_of after) c.shared.tail q (c.seats q)
  runs_on q ne un may =
      let f = sound.common.decided.running q un may in
      record {
        succ_least = λ u m less over.
            ⊎_elim
            (λ (old : u ∈ history_of c.seats). f.succ_least u old less over)
            (λ (new : u ≡ record_of p own).
            absurd ((sound.both q p ne).snapshot.passed over.0 (rated_passed (c.seats q).task (length (c.seats q).current.reads) over.0 over.1) over.2
            (overwriting c sound p q over.0 (c.seats q).current.stamp opened (subst (λ (r : TransactionRecord). r.stamp < (c.seats q).current.stamp) new less) over.2
            (subst (λ (r : TransactionRecord). Overwrites r (read_at (c.seats q).current over.0).version.oid (read_at (c.seats q).current over.0).stamp) new over.3))))
            (back u m);
        succ_own = f.succ_own;
        succ_attained = ⊎_elim (λ e. inl e) (λ each. inr (each.0, into each.0 each.1, each.2, each.3, each.4)) f.succ_attained;
        pred_readers = λ u m less has.
            ⊎_elim
            (λ (old : u ∈ history_of c.seats). f.pred_readers u old less has)
            (λ (new : u ≡ record_of p own).
            absurd ((sound.both q p ne).decided.passed has.0 (rated_writes (c.seats q).task (length (c.seats q).current.writes) has.0 has.1) has.2
            (reading c sound p q has.0 (c.seats q).current.stamp opened (subst (λ (r : TransactionRecord). r.stamp < (c.seats q).current.stamp) new less) has.2
            (subst (λ (r : TransactionRecord). (b : VersionRead) × (b ∈ r.reads) × (b.oid ≡ (claim_at (c.seats q).current has.0).version.oid) × (b.stamp ≡ (claim_at (c.seats q).current has.0).stamp)) new has.3))))
            (back u m);
        pred_reads = f.pred_reads;
        pred_writes = f.pred_writes;
        pred_attained = ⊎_elim (λ e. inl e) (λ each. inr (each.0, into each.0 each.1, each.2, each.3, each.4)) f.pred_attained;
      }

  -- what stands among the seat's transactions has the stamp of one that stood there
  stamp_was : (v : Attempt) → v ∈ all_of part → (w : Attempt) × (w ∈ all_of (c.seats p)) × (w.stamp ≡ v.stamp)
  stamp_was v m =
      ⊎_elim
      (λ (before : v ∈ (c.seats p).over). (v, over_stands v before, refl))
      (λ (now : v ≡ decided). (own, current_stands (c.seats p), sym (ap (λ (w : Attempt). w.stamp) now)))
      (is_now v m)

  undecided_not : decided.decision ≡ Undecided → ⊥
  undecided_not e = decides_not own e

  apart_now : (q : ℕ) → q ≢ p → DecidedApart part q (c.seats q)
  apart_now q ne =
      let old = (sound.both p q (λ e. ne (sym e))).decided in
      record {
        apart = λ u v m n positive e. let w = stamp_was u m in let s = w.2 in old.apart w.0 v w.1 n (omega (arith, s, positive)) (s ∙ e);
        decided = λ u m positive is drawn count.
            ⊎_elim
            (λ (before : u ∈ (c.seats p).over). old.decided u (over_stands u before) positive is drawn count)
            (λ (now : u ≡ decided). no_count q ne drawn (subst (λ w. MayCount w (c.seats q).current) now count))
            (is_now u m);
        passed = λ k a b reads. omega (arith, a);
        left = tt;
      }

  reads_now : (v : VersionAt) (bound : ℕ) → Reading part v bound → Reading (c.seats p) v bound
  reads_now v bound h =
      let z = (none_over c sound p (length (c.seats p).current.reads) opened).bits in
      (h.0, h.1, (h.2.0, omega (arith, z), h.2.2, h.2.3, h.2.4))

  left_now : (q : ℕ) (u : Task) → NoneReadsLeft (c.seats q) u p (c.seats p) → NoneReadsLeft (c.seats q) u p part
  left_now q (task.ReadersLeft write bits) none = λ bit reads. none bit (reads_now (claim_at (c.seats q).current write).version (c.seats q).current.stamp reads)
  left_now q _ none = tt

  apart_then : (q : ℕ) → q ≢ p → DecidedApart (c.seats q) p part
  apart_then q ne =
      let old = (sound.both q p ne).decided in
      record {
        apart = λ u v m n positive e. let w = stamp_was v n in old.apart u w.0 m w.1 positive (e ∙ sym w.2);
        decided = λ u m positive is drawn count. undecided_not drawn.1;
        passed = λ k a b reads. old.passed k a b (reads_now (claim_at (c.seats q).current k).version (c.seats q).current.stamp reads);
        left = left_now q (c.seats q).task old.left;
      }

  own_kept : OwnDecided (with_ring at header c.shared) part
  own_kept =
      let old = (sound.own p).decided in
      record {
        drawn = λ u m. let w = stamp_was u m in let h = old.drawn w.0 w.1 in let s = w.2 in omega (arith, h, s);
        earlier = old.earlier;
        positive = λ u m commit. ⊎_elim (λ (before : u ∈ (c.seats p).over). old.positive u (over_stands u before) commit)
            (λ (now : u ≡ decided). let e = ap (λ (w : Attempt). w.stamp) now in let h = opened.0 in omega (arith, e, h)) (is_now u m);
        in_hand = tt;
      }

  other_kept : (q : ℕ) → OwnDecided (with_ring at header c.shared) (c.seats q)
  other_kept q = let old = (sound.own q).decided in record { drawn = old.drawn; earlier = old.earlier; positive = old.positive; in_hand = old.in_hand }

  pub decide_kept : (d : Core) → record { shared = with_ring at header c.shared; seats = put c.seats p part } ≡ d → Kept d
  decide_kept d is =
      subst Kept is (record {
        shared = record {
          seats_of = each_seat (λ q z. (u : Attempt) → u ∈ all_of z → u.decision ≡ Commit → q < ANNOUNCERS) c.seats p part (λ _ _ _. low) (λ q _. sound.common.decided.seats_of q);
          decided = each_seat (λ q z. (u : Attempt) → u ∈ all_of z → 0 < u.stamp → u.decision ≢ Undecided → DecisionFits (history_of after) q u) c.seats p part
              (λ u m positive _. own_fit u m positive) others_fit;
          running = each_seat (λ q z. z.current.decision ≡ Undecided → MayCommit z.place z.task → RunningFits (history_of after) c.shared.tail q z) c.seats p part
              (λ un _. absurd (undecided_not un)) runs_on;
        };
        own = each_seat (λ _ (z : Part). OwnDecided (with_ring at header c.shared) z) c.seats p part own_kept (λ q _. other_kept q);
        both = each_two DecidedApart c.seats p part apart_now apart_then (λ q r _ _ ne. (sound.both q r ne).decided);
      })
