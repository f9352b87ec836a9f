-- A seal draws its range: its start is above all stamps.
use Rattle.std.proofs.Common.{◌≡◌, ℕ, ◌+◌, ◌<◌, ◌≤◌, ⊎_elim, cond, [], ◌∷◌, length, Some, refl, sym, ap, ◌∙◌, subst, inl, inr, arith}
use Rattle.std.proofs.lemmas.Bool.{and_parts, leb-true}
use Rattle.erm_model.specs.Member.{◌∈◌}
use Rattle.erm_model.proofs.Members.{∈-push}
use Rattle.erm_machine.specs.declared.attempt.Attempt.{Attempt}
use Rattle.erm_machine.specs.declared.attempt.Decision.TheVariants.{Undecided, Commit}
use Rattle.erm_machine.specs.declared.limits.TheConstants.{LEAST_BLOCK}
use Rattle.erm_machine.specs.declared.part.Part.{Part}
use Rattle.erm_machine.specs.declared.place.Place.{Place}
use Rattle.erm_machine.specs.declared.place.Place.TheVariants.{Sealing, Drawn}
use Rattle.erm_machine.specs.declared.task.Task.{Task}
use Rattle.erm_machine.specs.declared.task.Task.TheVariants as task
use Rattle.erm_machine.specs.Begins.{BeginsAt}
use Rattle.erm_machine.specs.Core.{Core, Shared, claim_at}
use Rattle.erm_machine.specs.Decided.{record_of, written_of, history_of, bound_of, reads_rated, writes_rated, RunningFits, MarkInHand, NoneReadsLeft}
use Rattle.erm_machine.specs.Facts.{IsCurrent}
use Rattle.erm_machine.specs.Life.{add_tail}
use Rattle.erm_machine.specs.Seat.{is_least, with_range, saw}
use Rattle.erm_machine.specs.Sound.{Sound}
use Rattle.erm_machine.specs.Tasks.{TaskFits}
use Rattle.erm_machine.proofs.Guards.{when_then}
use Rattle.erm_machine.proofs.Holders.{stands_in}
use Rattle.erm_machine.proofs.Listed.{∈-first, ∈-map_from}
use Rattle.erm_core_ssn.proofs.DecidedDecide.{all_counted, bound_own}
use Rattle.erm_core_ssn.proofs.DecidedFrames.{Old, Comes}
use Rattle.erm_core_ssn.proofs.DecidedLeft.{KeepsMarks, Left}
use Rattle.erm_core_ssn.proofs.DecidedActive.{ActiveFits, Counts, active_from}
use Rattle.erm_core_ssn.proofs.DecidedBuild.{NotEnds, Passing, none_passing, runs_now}
use Rattle.erm_core_ssn.proofs.DecidedWitness.{picks}

-- a transaction that isn't decided is no commit
undecided_not : (t : Attempt) → t.decision ≡ Undecided → t.decision ≡ Commit → ⊥
undecided_not t un commit = cc

-- the numbers of a transaction as its stamp is drawn, which is above all that count
drawn_fits : (c : Core) (p now size then : ℕ) (x : Part) → 0 < now → x.task ≡ task.Rest → ActiveFits (history_of c.seats) now x.current → x.current.stamp ≡ 0 →
    RunningFits (history_of c.seats) then p (record x { current = with_range now size x.current })
drawn_fits c p now size then x positive rest f none =
    let t = x.current in
    let u = with_range now size t in
    let pick = picks t now in
    let unread : reads_rated x.task (length t.reads) ≡ 0 = ap (λ (v : Task). reads_rated v (length t.reads)) rest in
    let unwritten : writes_rated x.task (length t.writes) ≡ 0 = ap (λ (v : Task). writes_rated v (length t.writes)) rest in
    let bound : bound_of then u ≡ now = bound_own then u positive in
    record {
      succ_least = λ v m low over. absurd (let a = over.1 in omega (arith, a, unread));
      succ_own = λ _. (
        ⊎_elim
            (λ (new : cond (is_least now t) now t.succ ≡ now). positive_by (cond (is_least now t) now t.succ) now new positive)
            (λ (old : (cond (is_least now t) now t.succ ≡ t.succ) × (0 < t.succ)). positive_by (cond (is_least now t) now t.succ) t.succ old.0 old.1)
            pick.either,
        pick.most,
      );
      succ_attained = ⊎_elim
          (λ (new : cond (is_least now t) now t.succ ≡ now). inl new)
          (λ (old : (cond (is_least now t) now t.succ ≡ t.succ) × (0 < t.succ)).
          ⊎_elim (λ (zero : t.succ ≡ 0). absurd (let a = old.1 in omega (arith, a, zero)))
          (λ each. inr (each.0, each.1, subst (λ n. each.0.stamp < n) (sym bound) each.2, each.3, old.0 ∙ each.4)) f.succ)
          pick.either;
      pred_readers = λ v m low has. absurd (let a = has.1 in omega (arith, a, unwritten));
      pred_reads = f.reads;
      pred_writes = λ k low _. absurd (omega (arith, low, unwritten));
      pred_attained = ⊎_elim (λ zero. inl zero)
          (λ each. inr (
            each.0,
            each.1,
            subst (λ n. each.0.stamp < n) (sym bound) each.2,
            each.3,
            subst (λ (a : Attempt). Counts (record_of p a) each.0) (sym (all_counted u positive))
                (⊎_elim (λ read. inl read)
                (λ more. inr (⊎_elim
                (λ made. inl (written_of (claim_at t made.0), ∈-map_from written_of t.writes (claim_at t made.0) (stands_in t made.0 made.1), made.3, made.4))
                (λ has. inr (has.3.0, has.3.1, (written_of (claim_at t has.0), ∈-map_from written_of t.writes (claim_at t has.0) (stands_in t has.0 has.1), sym has.3.2, sym has.3.3)))
                more))
                each.4),
          ))
          f.pred;
    }
  where
    positive_by : (a b : ℕ) → a ≡ b → 0 < b → 0 < a
    positive_by a b e h = omega (arith, e, h)

module _ (c : Core) (t : Shared) (p size : ℕ) (sound : Sound c) (more : t.tail ≡ c.shared.tail + size) (marks : KeepsMarks c.shared t) where
  drawn_left : (tail : ℕ) → (c.seats p).place ≡ Sealing tail → 0 < size →
      Left c t p (saw c.shared.tail (record (c.seats p) { place = Drawn tail c.shared.tail; current = with_range c.shared.tail size (c.seats p).current }))
  drawn_left tail at some =
      let x = c.seats p in
      let u = with_range c.shared.tail size x.current in
      let cur = subst (λ (l : Place). IsCurrent l (c.seats p).current) at (sound.own p).ranges.current in
      let begins = subst (λ (l : Place). BeginsAt l (c.seats p).current.begin c.shared.tail) at (sound.own p).begins.begins in
      let rest : (c.seats p).task ≡ task.Rest = subst (λ (l : Place). TaskFits l (c.seats p).current (c.seats p).task) at (sound.own p).task.fits in
      let positive : 0 < c.shared.tail = (let a = begins.positive in let b = begins.announced in let d = begins.past in omega (arith, a, b, d)) in
      let fits = active_from (history_of c.seats) c.shared.tail p x cur.stamp (runs_now c p sound cur.decision (subst NotEnds (sym rest) tt)) in
      let below : (w : Attempt) → w ∈ (c.seats p).over → w.stamp < c.shared.tail = λ w m. (sound.own p).decided.drawn w (∈-first (c.seats p).over ((c.seats p).current ∷ []) w m) in
      record {
        tail = omega (arith, more);
        marks = marks;
        comes = λ w m. ⊎_elim (λ before. comes_old w before) (λ (now : w ≡ u). subst (λ a. Comes c.shared.tail (c.seats p) a) (sym now) (comes_new u cur.decision refl)) (∈-push (c.seats p).over u w m);
        forth = λ w m commit. ⊎_elim
            (λ (before : w ∈ (c.seats p).over). record { attempt = w; stands = ∈-first (c.seats p).over (u ∷ []) w before; decision = refl; whole = refl })
            (λ (now : w ≡ (c.seats p).current). absurd (undecided_not w (ap (λ (a : Attempt). a.decision) now ∙ cur.decision) commit))
            (∈-push (c.seats p).over (c.seats p).current w m);
        drawn = λ w m. ⊎_elim
            (λ before. let h = below w before in omega (arith, h, more))
            (λ (now : w ≡ u). let s = ap (λ (a : Attempt). a.stamp) now in under w.stamp s)
            (∈-push (c.seats p).over u w m);
        earlier = λ w m _. below w m;
        in_hand = subst (λ (v : Task). MarkInHand t u v) (sym rest) tt;
        opens = λ _. inl refl;
        reading = λ v bound past h. absurd (let low = h.1 in too_low bound past low);
        passed = λ q _. subst (λ (v : Task). Passing (c.seats q) v u) (sym rest) (none_passing (c.seats q) task.Rest u (λ _. refl));
        left = λ q _. subst (λ (v : Task). NoneReadsLeft (saw c.shared.tail (record (c.seats p) { place = Drawn tail c.shared.tail; current = with_range c.shared.tail size (c.seats p).current })) v q (c.seats q)) (sym rest) tt;
        running = λ _ _. running_seen (drawn_fits c p c.shared.tail size t.tail x positive rest fits cur.stamp);
      }
    where
      under : (n : ℕ) → n ≡ c.shared.tail → n < t.tail
      under n e = omega (arith, e, more, some)

      too_low : (bound : ℕ) → bound ≤ c.shared.tail → c.shared.tail < bound → ⊥
      too_low bound a b = omega (arith, a, b)

      comes_old : (w : Attempt) → w ∈ (c.seats p).over → Comes c.shared.tail (c.seats p) w
      comes_old w m =
          let o : Old (c.seats p) w = record { attempt = w; stands = ∈-first (c.seats p).over ((c.seats p).current ∷ []) w m; decision = refl; whole = refl } in
          record { commit = λ _. o; decided = λ _ _. o; stamp = λ _. inr (w, ∈-first (c.seats p).over ((c.seats p).current ∷ []) w m, refl) }

      comes_new : (u : Attempt) → u.decision ≡ Undecided → u.stamp ≡ c.shared.tail → Comes c.shared.tail (c.seats p) u
      comes_new u un e = record { commit = λ commit. absurd (undecided_not u un commit); decided = λ _ ne. absurd (ne un); stamp = λ _. inl e }

      running_seen : RunningFits (history_of c.seats) t.tail p (record (c.seats p) { current = with_range c.shared.tail size (c.seats p).current }) →
          RunningFits (history_of c.seats) t.tail p (saw c.shared.tail (record (c.seats p) { place = Drawn tail c.shared.tail; current = with_range c.shared.tail size (c.seats p).current }))
      running_seen f = record {
        succ_least = f.succ_least;
        succ_own = f.succ_own;
        succ_attained = f.succ_attained;
        pred_readers = f.pred_readers;
        pred_reads = f.pred_reads;
        pred_writes = f.pred_writes;
        pred_attained = f.pred_attained;
      }

  pub add_tail_left : (pl : Place) (y : Part) → (c.seats p).place ≡ pl → add_tail p size c.shared.tail (c.seats p) pl ≡ Some y → Left c t p y
  add_tail_left (Sealing tail) y at e =
      when_then (Left c t p) _ _ y e (λ g.
      let least = leb-true LEAST_BLOCK size (and_parts _ _ (and_parts _ _ g).0).1 in
      drawn_left tail at (omega (arith, least)))
  add_tail_left _ y at e = absurd (cc)
