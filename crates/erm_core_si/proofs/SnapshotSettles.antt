-- Steps of settle: which versions read it has passed.
use Rattle.std.proofs.Common.{◌≡◌, ◌≢◌, ℕ, ◌+◌, ◌<◌, ⊎_elim, Bool, true, false, not, ◌&&◌, eqb, ltb, length, Option, Some, None, refl, sym, ap, ◌∙◌, subst, arith}
use Rattle.std.specs.Prelude.{if◌then◌else◌}
use Rattle.std.proofs.lemmas.Bool.{and_parts, cases_eq, eqb-true, eq-eqb, ne_eqb, ltb-true}
use Rattle.erm_model.specs.Member.{◌∈◌}
use Rattle.erm_model.proofs.Members.{∈-at}
use Rattle.erm_machine.specs.declared.attempt.Claim.{Claim}
use Rattle.erm_machine.specs.declared.part.Part.{Part}
use Rattle.erm_machine.specs.declared.task.Task.{Task}
use Rattle.erm_machine.specs.declared.task.Task.TheVariants as task
use Rattle.erm_machine.specs.declared.version.CellWord.{CellWord}
use Rattle.erm_machine.specs.declared.version.CellWord.TheVariants as word
use Rattle.erm_machine.specs.declared.version.VersionAt.{VersionAt}
use Rattle.erm_machine.specs.Chains.{IsNamed}
use Rattle.erm_machine.specs.Claims.{ClaimFits}
use Rattle.erm_machine.specs.Core.{Core, version_at, newest}
use Rattle.erm_machine.specs.Seat.{read_at, no_read}
use Rattle.erm_machine.specs.Settling.{load_read_entry, load_readers, load_settled_stamp, filled, store_ring}
use Rattle.erm_machine.specs.Snapshot.{Overwriting, passed_of, NoneLeft}
use Rattle.erm_machine.specs.Sound.{Sound}
use Rattle.erm_machine.specs.Words.{head_of, owner_of, without_bit}
use Rattle.erm_machine.proofs.Guards.{when_then, either_way}
use Rattle.erm_machine.proofs.Holders.{stands_at}
use Rattle.erm_core_si.proofs.SnapshotSteps.{Hand, current_stands}
use Rattle.erm_core_si.proofs.SnapshotSame.{Same, keeps_same, over_same}
use Rattle.erm_core_si.proofs.SnapshotCalm.{same_current}
use Rattle.erm_core_si.proofs.SnapshotLeft.{Left, left_same, zero_holds}

-- no range of another seat below the own stamp overwrites one of the first so many versions read
pub record PassedAt (c : Core) (p n : ℕ) : Type 0 where
  pub none : (q : ℕ) → q ≢ p → (k : ℕ) → k < n → k < length (c.seats p).current.reads
      → Overwriting (c.seats q) (read_at (c.seats p).current k).version (c.seats p).current.stamp → ⊥

pub passed_now : (c : Core) (p : ℕ) (t : Task) → Sound c → (c.seats p).task ≡ t → PassedAt c p (passed_of t (length (c.seats p).current.reads))
passed_now c p t sound at = record {
  none = λ q ne k a b h. (sound.both p q (λ e. ne (sym e))).snapshot.passed k (subst (λ (u : Task). k < passed_of u (length (c.seats p).current.reads)) (sym at) a) b h;
}

-- the transactions stay as they were in what settle reads
pub left_settles : (c : Core) (p : ℕ) (y : Part) → Sound c → Same (c.seats p) y → Hand c p y.current.begin y.task → PassedAt c p (passed_of y.task (length y.current.reads)) →
    ((q : ℕ) → q ≢ p → NoneLeft y y.task q (c.seats q)) → Left c p y
left_settles c p y sound same hand passed left =
    left_same c p y sound same hand (record {
      passed = λ q ne k a b h. passed.none q ne k a (let e = ap (λ rs. length rs) same.reads in omega (arith, b, e)) (over_same (c.seats p) y (c.seats q) k same.reads same.stamp h);
      left = left;
    })

-- who overwrites a version
pub claim_fits : (c : Core) (q : ℕ) (w : Claim) → Sound c → w ∈ (c.seats q).current.writes → w.held ≡ true →
    ClaimFits q (c.seats q).current.number (c.seats q).current.begin (c.shared.objects w.version.oid) w
claim_fits c q w sound m held =
    let at = stands_at (c.seats q).current w m in
    subst (λ (u : Claim). ClaimFits q (c.seats q).current.number (c.seats q).current.begin (c.shared.objects u.version.oid) u) at.is
    ((sound.own q).claims.fit at.place at.within (ap (λ (u : Claim). u.held) at.is ∙ held))

-- a version that a seat's claim overwrites is its object's head, and the entry is that seat's
pub record Overwritten (c : Core) (q : ℕ) (v : VersionAt) : Type 0 where
  pub head : head_of (c.shared.objects v.oid).entry ≡ v.cell
  pub owner : owner_of (c.shared.objects v.oid).entry ≡ q
  pub positive : q ≢ 0

pub overwritten : (c : Core) (q : ℕ) (v : VersionAt) (bound : ℕ) → Sound c → IsNamed c.shared v → Overwriting (c.seats q) v bound → Overwritten c q v
overwritten c q v bound sound named h =
    let w = h.2.0 in
    let fits = subst (λ n. ClaimFits q (c.seats q).current.number (c.seats q).current.begin (c.shared.objects n) w) h.2.3 (claim_fits c q w sound h.2.1 h.2.2) in
    let object = sound.common.claims.objects v.oid named.object in
    let place : newest (c.shared.objects v.oid) ≡ v.place = sym fits.place ∙ h.2.4 in
    record {
      head = object.head ∙ (ap (λ n. (version_at (c.shared.objects v.oid) n).cell) place ∙ named.cell);
      owner = fits.owner;
      positive = λ zero. zero_holds c q sound zero w h.2.1;
    }

-- the version read at a place
pub read_named : (c : Core) (p k : ℕ) → Sound c → k < length (c.seats p).current.reads → IsNamed c.shared (read_at (c.seats p).current k).version
read_named c p k sound within =
    ((sound.own p).snapshot.reads (c.seats p).current (read_at (c.seats p).current k) (current_stands (c.seats p)) (∈-at (c.seats p).current.reads k no_read within)).named

tests : (a b d : Bool) → a ≡ true → b ≡ false → d ≡ false → (a && not b && not d) ≡ true
tests true false false e f g = refl
tests _ _ _ e f g = absurd (cc)

-- one more version is passed
pub passed_more : (c : Core) (p n : ℕ) → PassedAt c p n → ((q : ℕ) → q ≢ p → n < length (c.seats p).current.reads → Overwriting (c.seats q) (read_at (c.seats p).current n).version (c.seats p).current.stamp → ⊥) →
    PassedAt c p (n + 1)
passed_more c p n old here = record {
  none = λ q ne k a b h.
      ⊎_elim
      (λ (same : k ≡ n). here q ne (subst (λ m. m < length (c.seats p).current.reads) same b) (subst (λ m. Overwriting (c.seats q) (read_at (c.seats p).current m).version (c.seats p).current.stamp) same h))
      (λ (other : k ≡ n → ⊥). old.none q ne k (omega (arith, a, other)) b h)
      (cases_eq k n);
}

module _ (c : Core) (p : ℕ) (sound : Sound c) where
  -- the entry of a version read
  entry_clear : (reads : ℕ) (found : ℕ) → found ≡ (c.shared.objects (read_at (c.seats p).current reads).version.oid).entry →
      ((eqb (head_of found) (read_at (c.seats p).current reads).version.cell) && not (eqb (owner_of found) 0) && not (eqb (owner_of found) p)) ≡ false →
      (q : ℕ) → q ≢ p → reads < length (c.seats p).current.reads → Overwriting (c.seats q) (read_at (c.seats p).current reads).version (c.seats p).current.stamp → ⊥
  entry_clear reads found is clear q ne within h =
      let over = overwritten c q (read_at (c.seats p).current reads).version (c.seats p).current.stamp sound (read_named c p reads sound within) h in
      let owner : owner_of found ≡ q = ap owner_of is ∙ over.owner in
      let all = tests _ _ _ (eq-eqb _ _ (ap head_of is ∙ over.head)) (ne_eqb _ _ (λ zero. over.positive (sym owner ∙ zero))) (ne_eqb _ _ (λ own. ne (sym owner ∙ own))) in
      absurd (cc)

  pub read_entry_left : (oid : ℕ) (t : Task) (y : Part) → (c.seats p).task ≡ t → load_read_entry p oid (c.shared.objects oid).entry (c.seats p) t ≡ Some y → Left c p y
  read_entry_left oid (task.Settles reads writes) y at e =
      let found = (c.shared.objects oid).entry in
      let x = c.seats p in
      when_then (Left c p) _ _ y e (λ g.
      let same : oid ≡ (read_at x.current reads).version.oid = eqb-true _ _ (and_parts _ _ g).1 in
      let is : found ≡ (c.shared.objects (read_at x.current reads).version.oid).entry = ap (λ n. (c.shared.objects n).entry) same in
      let old = passed_now c p (task.Settles reads writes) sound at in
      either_way (λ (u : Task). Left c p (record x { task = u }))
      ((eqb (head_of found) (read_at x.current reads).version.cell) && not (eqb (owner_of found) 0) && not (eqb (owner_of found) p))
      (task.ReadOwned reads (owner_of found)) (task.ReadClear reads)
      (λ _. left_settles c p _ sound (same_current x _ refl refl) (record { in_hand = tt; within = tt; none = λ _ _. tt }) old
      (λ q ne other h.
      let over = overwritten c q (read_at x.current reads).version x.current.stamp sound (read_named c p reads sound (ltb-true _ _ (and_parts _ _ (and_parts _ _ g).0).1)) h in
      other (sym (ap owner_of is ∙ over.owner))))
      (λ clear. left_settles c p _ sound (same_current x _ refl refl) (record { in_hand = tt; within = tt; none = λ _ _. tt })
      (passed_more c p reads old (entry_clear reads found is clear)) (λ _ _. tt)))
  read_entry_left oid _ y at e = absurd (cc)

  -- all versions read are passed
  passed_all : (reads : ℕ) → reads ≡ length (c.seats p).current.reads → PassedAt c p reads → PassedAt c p (length (c.seats p).current.reads)
  passed_all reads e old = subst (PassedAt c p) e old

  -- the readers of a version overwritten
  pub readers_left : (v : VersionAt) (found : ℕ) (t : Task) (y : Part) → (c.seats p).task ≡ t → load_readers p v found (c.seats p) t ≡ Some y → Left c p y
  readers_left v found (task.Settles reads writes) y at e =
      let x = c.seats p in
      when_then (Left c p) _ _ y e (λ g.
      let all = passed_all reads (eqb-true _ _ (and_parts _ _ (and_parts _ _ (and_parts _ _ g).0).0).1) (passed_now c p (task.Settles reads writes) sound at) in
      either_way (λ (u : Task). Left c p (record x { task = u })) (eqb (without_bit found p) 0) (task.WriteClear writes) (task.ReadersLeft writes (without_bit found p))
      (λ _. left_settles c p _ sound (same_current x _ refl refl) (record { in_hand = tt; within = tt; none = λ _ _. tt }) all (λ _ _. tt))
      (λ _. left_settles c p _ sound (same_current x _ refl refl) (record { in_hand = tt; within = tt; none = λ _ _. tt }) all (λ _ _. tt)))
  readers_left v found _ y at e = absurd (cc)

  -- the stamps of versions read and overwritten
  pub settled_stamp_left : (found : ℕ) (v : VersionAt) (w : CellWord) (t : Task) (y : Part) → (c.seats p).task ≡ t → load_settled_stamp found v w (c.seats p) t ≡ Some y → Left c p y
  settled_stamp_left found v word.Overwriter (task.ReadClear read) y at e =
      let x = c.seats p in
      when_then (Left c p) _ _ y e (λ _.
      either_way (λ (u : Task). Left c p (record x { task = u })) (ltb 0 found && ltb found x.current.stamp) (task.ReadOvertaken read found) (task.Settles (read + 1) 0)
      (λ _. left_settles c p _ sound (same_current x _ refl refl) (record { in_hand = tt; within = tt; none = λ _ _. tt }) (passed_now c p (task.ReadClear read) sound at) (λ _ _. tt))
      (λ _. left_settles c p _ sound (same_current x _ refl refl) (record { in_hand = tt; within = tt; none = λ _ _. tt }) (passed_now c p (task.ReadClear read) sound at) (λ _ _. tt)))
  settled_stamp_left found v word.OverwriterSucc (task.ReadOvertaken read overwriter) y at e =
      when_then (Left c p) _ _ y e (λ _.
      left_settles c p _ sound (record { over = refl; begin = refl; stamp = refl; reads = refl; claims = keeps_same (c.seats p) _ refl }) (record { in_hand = tt; within = tt; none = λ _ _. tt })
      (passed_now c p (task.ReadOvertaken read overwriter) sound at) (λ _ _. tt))
  settled_stamp_left found v word.Stamp (task.WriteClear write) y at e =
      when_then (Left c p) _ _ y e (λ _.
      left_settles c p _ sound (record { over = refl; begin = refl; stamp = refl; reads = refl; claims = keeps_same (c.seats p) _ refl }) (record { in_hand = tt; within = tt; none = λ _ _. tt })
      (passed_now c p (task.WriteClear write) sound at) (λ _ _. tt))
  settled_stamp_left found v word.ReaderStamp (task.WriteMade write) y at e =
      when_then (Left c p) _ _ y e (λ _.
      left_settles c p _ sound (record { over = refl; begin = refl; stamp = refl; reads = refl; claims = keeps_same (c.seats p) _ refl }) (record { in_hand = tt; within = tt; none = λ _ _. tt })
      (passed_now c p (task.WriteMade write) sound at) (λ _ _. tt))
  settled_stamp_left found v _ _ y at e = absurd (cc)

  -- the words of the block
  fills_left : (at value : ℕ) (o : Option ℕ) (y : Part) → PassedAt c p (length (c.seats p).current.reads) → store_ring at value (c.seats p) o ≡ Some y → Left c p y
  fills_left at value None y all e = absurd (cc)
  fills_left at value (Some words) y all e =
      when_then (Left c p) _ _ y e (λ _.
      left_settles c p _ sound (record { over = refl; begin = refl; stamp = refl; reads = refl; claims = keeps_same (c.seats p) _ refl }) (record { in_hand = tt; within = tt; none = λ _ _. tt }) all (λ _ _. tt))

  pub store_ring_left : (at value : ℕ) (t : Task) (y : Part) → (c.seats p).task ≡ t → store_ring at value (c.seats p) (filled (c.seats p).current t) ≡ Some y → Left c p y
  store_ring_left at value (task.Settles reads writes) y is e = by_test _ refl e
    where
      by_test : (b : Bool) → (eqb reads (length (c.seats p).current.reads) && eqb writes (length (c.seats p).current.writes)) ≡ b →
          store_ring at value (c.seats p) (if b then Some 0 else None) ≡ Some y → Left c p y
      by_test true g h = fills_left at value (Some 0) y (passed_all reads (eqb-true _ _ (and_parts _ _ g).0) (passed_now c p (task.Settles reads writes) sound is)) h
      by_test false g h = absurd (cc)
  store_ring_left at value (task.Fills words) y is e = fills_left at value (Some words) y (passed_now c p (task.Fills words) sound is) e
  store_ring_left at value _ y is e = absurd (cc)
