-- Steps after which a seat's transactions are those that it had.
use Rattle.std.proofs.Common.{◌≡◌, ◌≢◌, ℕ, ◌<◌, ◌≤◌, ◌⊎◌, ⊎_elim, List, [], ◌∷◌, length, get_or, refl, sym, ap, ◌∙◌, subst, inr, arith}
use Rattle.erm_model.specs.Member.{◌∈◌}
use Rattle.erm_model.proofs.Members.{∈-push}
use Rattle.erm_machine.specs.declared.attempt.Attempt.{Attempt}
use Rattle.erm_machine.specs.declared.attempt.Read.{Read}
use Rattle.erm_machine.specs.declared.attempt.Decision.TheVariants.{Undecided, Commit}
use Rattle.erm_machine.specs.declared.part.Part.{Part}
use Rattle.erm_machine.specs.declared.version.VersionAt.{VersionAt}
use Rattle.erm_machine.specs.Core.{Core, Shared, claim_at}
use Rattle.erm_machine.specs.Decided.{bare, history_of, IsOpen, RunningFits, MarkInHand, Reading, NoneReadsLeft, writes_passed, MayCommit}
use Rattle.erm_machine.specs.Facts.{all_of}
use Rattle.erm_machine.specs.Readers.{cleared}
use Rattle.erm_machine.specs.Seat.{no_read}
use Rattle.erm_machine.specs.Sound.{Sound}
use Rattle.erm_machine.proofs.Listed.{∈-first}
use Rattle.erm_core_ssn.proofs.DecidedVersions.{current_stands}
use Rattle.erm_core_ssn.proofs.DecidedFrames.{Old, Comes, shape, running_later}
use Rattle.erm_core_ssn.proofs.DecidedLeft.{KeepsMarks, Left, mark_stays}

-- the transactions that are over stay, and the current one as far as others see it
pub record Steady (x y : Part) : Type 0 where
  pub over : y.over ≡ x.over
  pub decision : y.current.decision ≡ x.current.decision
  pub stamp : y.current.stamp ≡ x.current.stamp
  pub whole : x.current.decision ≢ Undecided → bare x.current ≡ bare y.current
  pub ranged : 0 < x.current.stamp → shape x.current ≡ shape y.current
  pub reads : 0 < x.current.stamp → y.current.reads ≡ x.current.reads
  pub cleared_more : 0 < x.current.stamp → cleared x ≤ cleared y

-- what a step leaves of its seat's part, where it draws and decides nothing
pub record Leaves (c : Core) (p : ℕ) (y : Part) : Type 0 where
  pub comes : (u : Attempt) → u ∈ all_of y → Comes c.shared.tail (c.seats p) u
  pub forth : (v : Attempt) → v ∈ all_of (c.seats p) → v.decision ≡ Commit → Old y v
  pub drawn : (u : Attempt) → u ∈ all_of y → u.stamp < c.shared.tail
  pub earlier : (u : Attempt) → u ∈ y.over → 0 < y.current.stamp → u.stamp < y.current.stamp
  pub in_hand : MarkInHand c.shared y.current y.task
  pub opens : IsOpen y.current → (y.current.stamp ≡ c.shared.tail) ⊎ (IsOpen (c.seats p).current × (shape (c.seats p).current ≡ shape y.current))
  pub reading : (v : VersionAt) (bound : ℕ) → bound ≤ c.shared.tail → Reading y v bound → Reading (c.seats p) v bound
  pub passed : (q : ℕ) → q ≢ p → (k : ℕ) → k < writes_passed y.task (length y.current.writes) → k < length y.current.writes
      → Reading (c.seats q) (claim_at y.current k).version y.current.stamp → ⊥
  pub left : (q : ℕ) → q ≢ p → NoneReadsLeft y y.task q (c.seats q)
  pub running : y.current.decision ≡ Undecided → MayCommit y.place y.task → RunningFits (history_of c.seats) c.shared.tail p y

pub left_from : (c : Core) (t : Shared) (p : ℕ) (y : Part) → c.shared.tail ≤ t.tail → KeepsMarks c.shared t → Leaves c p y → Left c t p y
left_from c t p y tail marks l = record {
  tail = tail;
  marks = marks;
  comes = l.comes;
  forth = l.forth;
  drawn = λ u m. let h = l.drawn u m in omega (arith, h, tail);
  earlier = l.earlier;
  in_hand = mark_stays c.shared t y.current y.task marks l.in_hand;
  opens = l.opens;
  reading = l.reading;
  passed = l.passed;
  left = l.left;
  running = λ un may. running_later (history_of c.seats) (history_of c.seats) c.shared.tail t.tail p y tail (λ u m. m) (λ u m. m) (l.running un may);
}

-- a read of a version, from a place on
abbrev pub ReadsIn : List Read → ℕ → VersionAt → Type 0
ReadsIn rs from v = (k : ℕ) × (from ≤ k) × (k < length rs) × ((get_or rs k no_read).version.oid ≡ v.oid) × ((get_or rs k no_read).version.place ≡ v.place)

module _ (c : Core) (p : ℕ) (y : Part) (sound : Sound c) (steady : Steady (c.seats p) y) where
  is_decided : (v : Attempt) → v.decision ≡ Commit → v.decision ≢ Undecided
  is_decided v commit un = cc

  old_current : y.current.decision ≢ Undecided → Old (c.seats p) y.current
  old_current ne = record {
    attempt = (c.seats p).current;
    stands = current_stands (c.seats p);
    decision = sym steady.decision;
    whole = steady.whole (λ un. ne (steady.decision ∙ un));
  }

  old_over : (u : Attempt) → u ∈ y.over → Old (c.seats p) u
  old_over u m = record {
    attempt = u;
    stands = ∈-first (c.seats p).over ((c.seats p).current ∷ []) u (subst (λ (ts : List Attempt). u ∈ ts) steady.over m);
    decision = refl;
    whole = refl;
  }

  comes_current : Comes c.shared.tail (c.seats p) y.current
  comes_current = record {
    commit = λ commit. old_current (is_decided y.current commit);
    decided = λ _ ne. old_current ne;
    stamp = λ _. inr ((c.seats p).current, current_stands (c.seats p), sym steady.stamp);
  }

  comes : (u : Attempt) → u ∈ all_of y → Comes c.shared.tail (c.seats p) u
  unfolding old_over
  comes u m =
      ⊎_elim
      (λ (before : u ∈ y.over).
      let o = old_over u before in
      record { commit = λ _. o; decided = λ _ _. o; stamp = λ _. inr (u, o.stands, refl) })
      (λ (now : u ≡ y.current). subst (λ w. Comes c.shared.tail (c.seats p) w) (sym now) comes_current)
      (∈-push y.over y.current u m)

  forth : (v : Attempt) → v ∈ all_of (c.seats p) → v.decision ≡ Commit → Old y v
  forth v m commit =
      ⊎_elim
      (λ (before : v ∈ (c.seats p).over). record {
        attempt = v;
        stands = ∈-first y.over (y.current ∷ []) v (subst (λ (ts : List Attempt). v ∈ ts) (sym steady.over) before);
        decision = refl;
        whole = refl;
      })
      (λ (now : v ≡ (c.seats p).current).
      let e = ap (λ (w : Attempt). w.decision) now in
      record {
        attempt = y.current;
        stands = current_stands y;
        decision = steady.decision ∙ sym e;
        whole = sym (steady.whole (is_decided (c.seats p).current (sym e ∙ commit))) ∙ ap bare (sym now);
      })
      (∈-push (c.seats p).over (c.seats p).current v m)

  drawn : (u : Attempt) → u ∈ all_of y → u.stamp < c.shared.tail
  unfolding old_over
  drawn u m =
      ⊎_elim
      (λ (before : u ∈ y.over). (sound.own p).decided.drawn u (old_over u before).stands)
      (λ (now : u ≡ y.current).
      let e = ap (λ (w : Attempt). w.stamp) now in
      let s = steady.stamp in
      let h = (sound.own p).decided.drawn (c.seats p).current (current_stands (c.seats p)) in
      omega (arith, e, s, h))
      (∈-push y.over y.current u m)

  positive_before : 0 < y.current.stamp → 0 < (c.seats p).current.stamp
  positive_before h = let s = steady.stamp in omega (arith, s, h)

  reading : (v : VersionAt) (bound : ℕ) → bound ≤ c.shared.tail → Reading y v bound → Reading (c.seats p) v bound
  reading v bound past h =
      let s = steady.stamp in
      let less = h.1 in
      let before = positive_before h.0 in
      let more = steady.cleared_more before in
      let moved : ReadsIn (c.seats p).current.reads (cleared y) v = subst (λ (rs : List Read). ReadsIn rs (cleared y) v) (steady.reads before) h.2 in
      let later = moved.1 in
      (before, omega (arith, s, less), (moved.0, omega (arith, later, more), moved.2, moved.3, moved.4))

  pub steady_leaves : MarkInHand c.shared y.current y.task →
      ((q : ℕ) → q ≢ p → (k : ℕ) → k < writes_passed y.task (length y.current.writes) → k < length y.current.writes → Reading (c.seats q) (claim_at y.current k).version y.current.stamp → ⊥) →
      ((q : ℕ) → q ≢ p → NoneReadsLeft y y.task q (c.seats q)) →
      (y.current.decision ≡ Undecided → MayCommit y.place y.task → RunningFits (history_of c.seats) c.shared.tail p y) → Leaves c p y
  steady_leaves in_hand passed left running = record {
    comes = comes;
    forth = forth;
    drawn = drawn;
    earlier = λ u m positive.
        let h = (sound.own p).decided.earlier u (subst (λ (ts : List Attempt). u ∈ ts) steady.over m) (positive_before positive) in
        let s = steady.stamp in
        omega (arith, h, s);
    in_hand = in_hand;
    opens = λ h. inr ((positive_before h.0, sym steady.decision ∙ h.1), steady.ranged (positive_before h.0));
    reading = reading;
    passed = passed;
    left = left;
    running = running;
  }
