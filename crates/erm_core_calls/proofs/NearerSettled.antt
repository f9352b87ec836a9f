-- Settle comes nearer to its end.
use Rattle.std.proofs.Common.{◌≡◌, ◌≢◌, ℕ, ◌+◌, ◌<◌, ◌≤◌, ⊎_elim, Bool, true, false, eqb, ltb, leb, length, Some, None, refl, ap, ◌∙◌, arith}
use Rattle.std.specs.Int.{w64, bit_not, trailing_zeros}
use Rattle.std.specs.Prelude.{if◌then◌else◌, nat_lt, ◌^◌, ◌&&◌}
use Rattle.std.proofs.lemmas.Bool.{and_from, cases_lt, eq-eqb, le-leb, ltb-true, cond-true}
use Rattle.std.proofs.lemmas.Nat.{and_le_l}
use Rattle.erm_machine.specs.declared.attempt.Attempt.{Attempt}
use Rattle.erm_machine.specs.declared.event.Kind.{Kind}
use Rattle.erm_machine.specs.declared.event.Kind.TheVariants as kind
use Rattle.erm_machine.specs.declared.part.Part.{Part}
use Rattle.erm_machine.specs.declared.place.Place.TheVariants.{Sealed, Decided}
use Rattle.erm_machine.specs.declared.task.Task.{Task}
use Rattle.erm_machine.specs.declared.task.Task.TheVariants as task
use Rattle.erm_machine.specs.declared.version.CellWord.TheVariants as word
use Rattle.erm_machine.specs.Core.{Core, version_at}
use Rattle.erm_machine.specs.Life.{decide}
use Rattle.erm_machine.specs.Seat.{is_active, is_sealed, read_at}
use Rattle.erm_machine.specs.Settling.{filled, load_read_entry, load_readers, load_settled_stamp, store_ring}
use Rattle.erm_machine.specs.Sound.{Sound}
use Rattle.erm_machine.specs.Words.{owner_of, is_least_bit, without_bit}
use Rattle.erm_machine.proofs.Guards.{either_way}
use Rattle.erm_machine.proofs.QuietKinds.{MeetsOne}
use Rattle.erm_core_calls.specs.Ending.{Ahead, IsLess, ComesNearer, ahead_sealed, fewer_stages, less_left}
use Rattle.erm_core_calls.specs.Going.{MovesOn, Written, next_passing, next_settle, next_word, overwrites}
use Rattle.erm_core_calls.proofs.Bits.{least_bit}
use Rattle.erm_core_calls.proofs.BoundsFrames.{second}
use Rattle.erm_core_calls.proofs.GoesActive.{bound_at}
use Rattle.erm_core_calls.proofs.GoesSettled.{fewer}
use Rattle.erm_core_calls.proofs.Moving.{below_way, branch, other_branch}
use Rattle.erm_core_calls.proofs.Nearer.{Leads, from_to, looks}
use Rattle.erm_core_calls.proofs.Seats.{seat_low}

-- less, where it isn't more nor the same
less_of : (m n : ℕ) → m ≤ n → m ≢ n → m < n
less_of m n le ne = grind arith

module _ (c : Core) (p : ℕ) (sound : Sound c) (tail stamp : ℕ) (pl : (c.seats p).place ≡ Sealed tail stamp) where
  sealed : is_sealed (c.seats p).place ≡ true
  sealed = ap is_sealed pl

  not_active : is_active (c.seats p).place ≡ false
  not_active = ap is_active pl

  -- a step that leaves the seat sealed
  stays : (u : Task) → (c.seats p).task ≡ u → (k : Kind) → MeetsOne k → (m : MovesOn c p k) (b : Bool) (z : Part) → Leads c p k b z → z.place ≡ Sealed tail stamp →
      (b ≡ true → IsLess (ahead_sealed z.current z.task) (ahead_sealed (c.seats p).current u)) → ComesNearer c p k m
  stays u at k one m b z leads there less = from_to c p (Sealed tail stamp) (Sealed tail stamp) u pl at k one m b z leads there less

  -- what lies ahead at either of two tasks
  either : (t : Attempt) (a : Ahead) (b : Bool) (u v : Task) → IsLess (ahead_sealed t u) a → IsLess (ahead_sealed t v) a → IsLess (ahead_sealed t (if b then u else v)) a
  either t a b u v f g = either_way (λ (w : Task). IsLess (ahead_sealed t w) a) b u v (λ _. f) (λ _. g)

  -- the next word of the block
  stores : (b : Written) (n : ℕ) (u : Task) → (c.seats p).task ≡ u → filled (c.seats p).current u ≡ Some n → (n + 1 < (c.seats p).current.size → IsLess (ahead_sealed (c.seats p).current (task.Fills (n + 1))) (ahead_sealed (c.seats p).current u)) →
      (m : MovesOn c p (next_word b (c.seats p).current n)) → ComesNearer c p (next_word b (c.seats p).current n) m
  stores b n u at so less m =
      let start = (c.seats p).current.stamp in
      let value = b.word n in
      stays u at (next_word b (c.seats p).current n) tt m _ _
      (ap (λ v. store_ring (start + 1 + n) value (c.seats p) (filled (c.seats p).current v)) at ∙ ap (store_ring (start + 1 + n) value (c.seats p)) so) pl
      (λ g. less (ltb-true (n + 1) (c.seats p).current.size (second _ (ltb (n + 1) (c.seats p).current.size) g)))

  -- the next version read
  passes_read : (r w : ℕ) → (c.seats p).task ≡ task.Settles r w → r < length (c.seats p).current.reads → (m : MovesOn c p (kind.LoadEntry (read_at (c.seats p).current r).version.oid)) →
      ComesNearer c p (kind.LoadEntry (read_at (c.seats p).current r).version.oid) m
  passes_read r w at within m =
      let oid = (read_at (c.seats p).current r).version.oid in
      let entry = (c.shared.objects oid).entry in
      let bound = bound_at c p sound (task.Settles r w) at in
      let none : w ≡ 0 = none_yet w r (length (c.seats p).current.reads) within bound.2 in
      stays (task.Settles r w) at (kind.LoadEntry oid) tt m _ _ (branch _ _ _ _ sealed (ap (load_read_entry p oid entry (c.seats p)) at)) pl
      (λ _. either (c.seats p).current _ _ (task.ReadOwned r (owner_of entry)) (task.ReadClear r) (fewer_stages (omega (arith, within, none))) (fewer_stages (omega (arith, within, none))))
    where
      none_yet : (w r n : ℕ) → r < n → (0 < w → r ≡ n) → w ≡ 0
      none_yet w r n within passed =
          ⊎_elim (λ (some : 0 < w). let same = passed some in absurd (omega (arith, within, same))) (λ (none : w ≤ 0). omega (arith, none)) (cases_lt 0 w)

  -- the next version overwritten
  passes_write : (r w : ℕ) → (c.seats p).task ≡ task.Settles r w → w < length (c.seats p).current.writes → (m : MovesOn c p (kind.LoadReaders (overwrites (c.seats p).current w))) →
      ComesNearer c p (kind.LoadReaders (overwrites (c.seats p).current w)) m
  passes_write r w at within m =
      let v = overwrites (c.seats p).current w in
      let bits = (version_at (c.shared.objects v.oid) v.place).words.readers in
      stays (task.Settles r w) at (kind.LoadReaders v) tt m _ _ (ap (load_readers p v bits (c.seats p)) at) pl
      (λ _. either (c.seats p).current _ _ (task.WriteClear w) (task.ReadersLeft w (without_bit bits p)) (fewer_stages (omega (arith, within))) (fewer_stages (omega (arith, within))))

  pub n_settles : (b : Written) (r w : ℕ) → (c.seats p).task ≡ task.Settles r w → (m : MovesOn c p (next_passing b (c.seats p).current r w)) → ComesNearer c p (next_passing b (c.seats p).current r w) m
  n_settles b r w at =
      let bound = bound_at c p sound (task.Settles r w) at in
      let all_reads = bound.0 in
      let all_writes = bound.1 in
      let t = (c.seats p).current in
      below_way (λ k. (m : MovesOn c p k) → ComesNearer c p k m) r (length t.reads) (kind.LoadEntry (read_at t r).version.oid)
      (if nat_lt w (length t.writes) then kind.LoadReaders (overwrites t w) else next_word b t 0)
      (passes_read r w at)
      (λ (no_reads : length t.reads ≤ r).
      below_way (λ k. (m : MovesOn c p k) → ComesNearer c p k m) w (length t.writes) (kind.LoadReaders (overwrites t w)) (next_word b t 0)
      (passes_write r w at)
      (λ (no_writes : length t.writes ≤ w).
      let passed = and_from (eqb r (length t.reads)) (eqb w (length t.writes)) (eq-eqb r (length t.reads) (omega (arith, no_reads, all_reads))) (eq-eqb w (length t.writes) (omega (arith, no_writes, all_writes))) in
      stores b 0 (task.Settles r w) at (cond-true _ (Some 0) None passed) (λ _. fewer_stages (omega arith))))

  pub n_read_owned : (read owner : ℕ) → (c.seats p).task ≡ task.ReadOwned read owner → (m : MovesOn c p (kind.LoadState owner (c.seats p).current.stamp)) →
      ComesNearer c p (kind.LoadState owner (c.seats p).current.stamp) m
  n_read_owned read owner at m =
      let start = (c.seats p).current.stamp in
      looks c p owner start (Sealed tail stamp) (task.ReadOwned read owner) (task.ReadClear read) pl at m
      (cond-true (eqb owner owner && leb start start) (task.ReadClear read) (task.ReadOwned read owner) (and_from _ _ (eq-eqb owner owner refl) (le-leb start start (omega arith)))) (fewer_stages (omega arith))

  pub n_read_clear : (read : ℕ) → (c.seats p).task ≡ task.ReadClear read → (m : MovesOn c p (kind.LoadStamp (read_at (c.seats p).current read).version word.Overwriter)) →
      ComesNearer c p (kind.LoadStamp (read_at (c.seats p).current read).version word.Overwriter) m
  n_read_clear read at m =
      let v = (read_at (c.seats p).current read).version in
      let found = (version_at (c.shared.objects v.oid) v.place).words.overwriter in
      stays (task.ReadClear read) at (kind.LoadStamp v word.Overwriter) tt m _ _
      (other_branch _ _ _ _ not_active (branch _ _ _ _ sealed (ap (load_settled_stamp found v word.Overwriter (c.seats p)) at))) pl
      (λ _. either (c.seats p).current _ _ (task.ReadOvertaken read found) (task.Settles (read + 1) 0) (fewer_stages (omega arith)) (fewer_stages (omega arith)))

  pub n_read_overtaken : (read overwriter : ℕ) → (c.seats p).task ≡ task.ReadOvertaken read overwriter → (m : MovesOn c p (kind.LoadStamp (read_at (c.seats p).current read).version word.OverwriterSucc)) →
      ComesNearer c p (kind.LoadStamp (read_at (c.seats p).current read).version word.OverwriterSucc) m
  n_read_overtaken read overwriter at m =
      let v = (read_at (c.seats p).current read).version in
      stays (task.ReadOvertaken read overwriter) at (kind.LoadStamp v word.OverwriterSucc) tt m _ _
      (other_branch _ _ _ _ not_active (branch _ _ _ _ sealed (ap (load_settled_stamp _ v word.OverwriterSucc (c.seats p)) at))) pl
      (λ _. fewer_stages (omega arith))

  -- one bit less
  pub n_readers_left : (write bits : ℕ) → (c.seats p).task ≡ task.ReadersLeft write bits → (m : MovesOn c p (kind.LoadState (trailing_zeros w64 bits) (c.seats p).current.stamp)) →
      ComesNearer c p (kind.LoadState (trailing_zeros w64 bits) (c.seats p).current.stamp) m
  n_readers_left write bits at m =
      let bound = bound_at c p sound (task.ReadersLeft write bits) at in
      let start = (c.seats p).current.stamp in
      let least = least_bit bits bound.1 (λ q one. seat_low q (bound.2 q one).has_words) in
      let q = trailing_zeros w64 bits in
      let left = without_bit bits q in
      let less : left < bits = less_of left bits (and_le_l bits (bit_not w64 (2 ^ q))) (fewer bits q (seat_low q (bound.2 q least.set).has_words) least.set) in
      looks c p q start (Sealed tail stamp) (task.ReadersLeft write bits) (if eqb left 0 then task.WriteClear write else task.ReadersLeft write left) pl at m
      (cond-true (is_least_bit bits q && leb start start) (if eqb left 0 then task.WriteClear write else task.ReadersLeft write left) (task.ReadersLeft write bits) (and_from _ _ least.least (le-leb start start (omega arith))))
      (either (c.seats p).current _ _ (task.WriteClear write) (task.ReadersLeft write left) (fewer_stages (omega arith)) (less_left refl less))

  pub n_write_clear : (write : ℕ) → (c.seats p).task ≡ task.WriteClear write → (m : MovesOn c p (kind.LoadStamp (overwrites (c.seats p).current write) word.Stamp)) →
      ComesNearer c p (kind.LoadStamp (overwrites (c.seats p).current write) word.Stamp) m
  n_write_clear write at m =
      let v = overwrites (c.seats p).current write in
      stays (task.WriteClear write) at (kind.LoadStamp v word.Stamp) tt m _ _
      (other_branch _ _ _ _ not_active (branch _ _ _ _ sealed (ap (load_settled_stamp _ v word.Stamp (c.seats p)) at))) pl (λ _. fewer_stages (omega arith))

  pub n_write_made : (write : ℕ) → (c.seats p).task ≡ task.WriteMade write → (m : MovesOn c p (kind.LoadStamp (overwrites (c.seats p).current write) word.ReaderStamp)) →
      ComesNearer c p (kind.LoadStamp (overwrites (c.seats p).current write) word.ReaderStamp) m
  n_write_made write at m =
      let v = overwrites (c.seats p).current write in
      stays (task.WriteMade write) at (kind.LoadStamp v word.ReaderStamp) tt m _ _
      (other_branch _ _ _ _ not_active (branch _ _ _ _ sealed (ap (load_settled_stamp _ v word.ReaderStamp (c.seats p)) at))) pl (λ _. fewer_stages (omega arith))

  pub n_fills : (b : Written) (n : ℕ) → (c.seats p).task ≡ task.Fills n → (m : MovesOn c p (next_settle b (c.seats p).current (task.Fills n))) → ComesNearer c p (next_settle b (c.seats p).current (task.Fills n)) m
  n_fills b n at =
      let t = (c.seats p).current in
      below_way (λ k. (m : MovesOn c p k) → ComesNearer c p k m) (n + 1) t.size (next_word b t n) (kind.Decide t.stamp b.header)
      (λ _. stores b n (task.Fills n) at refl (λ (room : n + 1 < t.size). less_left refl (omega (arith, room))))
      (λ _ m.
      from_to c p (Sealed tail stamp) (Decided tail stamp) (task.Fills n) pl at (kind.Decide t.stamp b.header) tt m _ _
      (ap (λ q. decide t.stamp b.header (c.seats p) q (c.seats p).task) pl ∙ ap (decide t.stamp b.header (c.seats p) (Sealed tail stamp)) at) refl (λ _. fewer_stages (omega arith)))
