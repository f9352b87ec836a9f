-- A settle goes on by loads: what it has found of the version that it is at still stands after each of them.
use Rattle.std.proofs.Common.{◌≡◌, ℕ, ◌+◌, true, false, ◌&&◌, not, eqb, ltb, leb, length, Some, refl, sym, ap, ◌∙◌, subst, eqb-true}
use Rattle.std.specs.Int.{bit_at}
use Rattle.std.specs.Prelude.{if◌then◌else◌}
use Rattle.std.proofs.lemmas.Bool.{and_parts, cond-false}
use Rattle.erm_machine.specs.declared.attempt.Attempt.{Attempt}
use Rattle.erm_machine.specs.declared.event.Counter.TheVariants.{Cells, Objects}
use Rattle.erm_machine.specs.declared.event.Kind.{Kind}
use Rattle.erm_machine.specs.declared.event.Kind.TheVariants as kind
use Rattle.erm_machine.specs.declared.event.TailUse.TheVariants as purpose
use Rattle.erm_machine.specs.declared.part.Flushing.{Flushing}
use Rattle.erm_machine.specs.declared.part.Flushing.TheVariants as flushing
use Rattle.erm_machine.specs.declared.part.Part.{Part}
use Rattle.erm_machine.specs.declared.place.Place.{Place}
use Rattle.erm_machine.specs.declared.place.Place.TheVariants.{Sealed}
use Rattle.erm_machine.specs.declared.task.Task.{Task}
use Rattle.erm_machine.specs.declared.task.Task.TheVariants as task
use Rattle.erm_machine.specs.declared.version.CellWord.{CellWord}
use Rattle.erm_machine.specs.declared.version.CellWord.TheVariants as word
use Rattle.erm_machine.specs.declared.version.VersionAt.{VersionAt}
use Rattle.erm_machine.specs.Core.{Core, Shared, claim_at, spot_of, version_at, word_at}
use Rattle.erm_machine.specs.Flushing.{gathered_word, size_of, load_flushed, load_ring}
use Rattle.erm_machine.specs.Life.{after_clear, load_back, load_begin, load_state, load_tail_for_horizon, load_tail_to_begin, load_tail_to_gather}
use Rattle.erm_machine.specs.Reading.{load_cell, load_counter, load_detached}
use Rattle.erm_machine.specs.Seat.{is_active, is_sealed, read_at, same_version, with_task}
use Rattle.erm_machine.specs.Settling.{has_room, load_read_entry, load_readers, load_settled_stamp, load_stamp, may_settle}
use Rattle.erm_machine.specs.Step.{part_after}
use Rattle.erm_machine.specs.Words.{head_of, is_clear, is_least_bit, owner_of, without_bit}
use Rattle.erm_machine.proofs.Guards.{either_way, if_then, some_then, unless_some, when_then}
use Rattle.erm_core_calls.proofs.Bits.{bit_left}
use Rattle.erm_core_steps.specs.Settles.{IsPassing, Stays, is_passing}
use Rattle.erm_core_steps.specs.Steps.{LoadsWord}
use Rattle.erm_core_steps.proofs.Places.{sealed_inactive}

-- The part after a step that passes versions.
pub record Next (s : Shared) (x y : Part) : Type 0 where
  pub place : y.place ≡ x.place
  pub size : y.current.size ≡ x.current.size
  pub passing : is_passing y.task ≡ true
  pub stays : Stays s y.current y.task

-- a look that finds the other seat not clear leaves the call where it is
pub look_stays : (x : Part) (seat other bound found : ℕ) (y : Part) → is_clear found bound ≡ false → load_state seat other bound found x ≡ Some y → (y.task ≡ x.task) × (y.current ≡ x.current)
look_stays x seat other bound found y none e =
    when_then (λ y. (y.task ≡ x.task) × (y.current ≡ x.current)) _ _ y e (λ _. (cond-false (is_clear found bound) (after_clear other bound x x.task) x.task none, refl))

not_active : (pl : Place) → is_sealed pl ≡ true → is_active pl ≡ true → ⊥
not_active pl sealed active = let off = sealed_inactive pl sealed in absurd (cc)

module _ (s : Shared) (x : Part) (passes : IsPassing s x) where
  -- the call is now there
  record Good (t : Task) : Type 0 where
    passing : is_passing t ≡ true
    stays : Stays s x.current t

  good : (t : Task) → is_passing t ≡ true → Stays s x.current t → Good t
  good t p u = record { passing = p; stays = u }

  there : (t : Task) → Good t → Next s x (with_task t x)
  there t g = record { place = refl; size = refl; passing = g.passing; stays = g.stays }

  -- a seat whose call is where it was
  same_next : (y : Part) → y.place ≡ x.place → y.current ≡ x.current → y.task ≡ x.task → Next s x y
  same_next y place current at = record {
    place = place;
    size = ap (λ (t : Attempt). t.size) current;
    passing = ap is_passing at ∙ passes.passing;
    stays = subst (λ (t : Attempt). Stays s t y.task) (sym current) (subst (λ (u : Task). Stays s x.current u) (sym at) passes.stays);
  }

  entry_next : (seat oid : ℕ) (y : Part) (u : Task) → load_read_entry seat oid (s.objects oid).entry x u ≡ Some y → Next s x y
  entry_next seat oid y (task.Settles r w) e =
      let v = (read_at x.current r).version in
      let found = (s.objects oid).entry in
      when_then (Next s x) _ _ y e (λ g.
      let same : oid ≡ v.oid = eqb-true oid v.oid (and_parts (is_sealed x.place && ltb r (length x.current.reads)) (eqb oid v.oid) g).1 in
      there _ (either_way Good ((eqb (head_of found) v.cell && not (eqb (owner_of found) 0)) && not (eqb (owner_of found) seat)) (task.ReadOwned r (owner_of found)) (task.ReadClear r)
      (λ t. good (task.ReadOwned r (owner_of found)) refl (record {
        owner_is = ap (λ (n : ℕ). owner_of (s.objects n).entry) (sym same);
        head =
            ap (λ (n : ℕ). head_of (s.objects n).entry) (sym same)
            ∙ eqb-true (head_of found) v.cell (and_parts (eqb (head_of found) v.cell) (not (eqb (owner_of found) 0)) (and_parts _ (not (eqb (owner_of found) seat)) t).0).0;
      }))
      (λ _. good (task.ReadClear r) refl tt)))
  entry_next seat oid y _ e = absurd (cc)

  readers_next : (seat : ℕ) (v : VersionAt) (y : Part) (u : Task) → load_readers seat v (version_at (s.objects v.oid) v.place).words.readers x u ≡ Some y → Next s x y
  readers_next seat v y (task.Settles r w) e =
      let c = (claim_at x.current w).version in
      let found = (version_at (s.objects v.oid) v.place).words.readers in
      when_then (Next s x) _ _ y e (λ g.
      let same = (and_parts ((is_sealed x.place && eqb r (length x.current.reads)) && ltb w (length x.current.writes)) (same_version v c) g).1 in
      let two = (and_parts (eqb v.oid c.oid && eqb v.place c.place) (eqb v.cell c.cell) same).0 in
      let oid : v.oid ≡ c.oid = eqb-true v.oid c.oid (and_parts (eqb v.oid c.oid) (eqb v.place c.place) two).0 in
      let place : v.place ≡ c.place = eqb-true v.place c.place (and_parts (eqb v.oid c.oid) (eqb v.place c.place) two).1 in
      let is : found ≡ (version_at (s.objects c.oid) c.place).words.readers =
      ap (λ (n : ℕ). (version_at (s.objects n) v.place).words.readers) oid ∙ ap (λ (n : ℕ). (version_at (s.objects c.oid) n).words.readers) place
      in
      there _ (either_way Good (eqb (without_bit found seat) 0) (task.WriteClear w) (task.ReadersLeft w (without_bit found seat))
      (λ _. good (task.WriteClear w) refl tt)
      (λ _. good (task.ReadersLeft w (without_bit found seat)) refl (λ q one. ap (λ (n : ℕ). bit_at n q) (sym is) ∙ bit_left found seat q one))))
  readers_next seat v y _ e = absurd (cc)

  settled_next : (found : ℕ) (v : VersionAt) (w : CellWord) (y : Part) (u : Task) → load_settled_stamp found v w x u ≡ Some y → Next s x y
  settled_next found v word.Overwriter y (task.ReadClear read) e =
      when_then (Next s x) _ _ y e (λ _.
      there _ (either_way Good (ltb 0 found && ltb found x.current.stamp) (task.ReadOvertaken read found) (task.Settles (read + 1) 0)
      (λ _. good (task.ReadOvertaken read found) refl tt) (λ _. good (task.Settles (read + 1) 0) refl tt)))
  settled_next found v word.OverwriterSucc y (task.ReadOvertaken read overwriter) e = when_then (Next s x) _ _ y e (λ _. record { place = refl; size = refl; passing = refl; stays = tt })
  settled_next found v word.Stamp y (task.WriteClear write) e = when_then (Next s x) _ _ y e (λ _. record { place = refl; size = refl; passing = refl; stays = tt })
  settled_next found v word.ReaderStamp y (task.WriteMade write) e = when_then (Next s x) _ _ y e (λ _. record { place = refl; size = refl; passing = refl; stays = tt })
  settled_next found v _ y _ e = absurd (cc)

  stamp_next : (found : ℕ) (v : VersionAt) (w : CellWord) (y : Part) → load_stamp found v w x ≡ Some y → Next s x y
  stamp_next found v w y e =
      if_then (Next s x) (is_active x.place) _ _ y e
      (λ act _. absurd (not_active x.place passes.sealed act))
      (λ _ e2. if_then (Next s x) (is_sealed x.place) _ _ y e2 (λ _ e3. settled_next found v w y x.task e3) (λ off _. absurd (let on = passes.sealed in cc)))

  cleared : (other bound : ℕ) (u : Task) → is_passing u ≡ true → Stays s x.current u → Good (after_clear other bound x u)
  cleared other bound (task.Owned oid owner) p h = absurd (cc)
  cleared other bound (task.ReadOwned read owner) p h =
      either_way Good (eqb other owner && leb x.current.stamp bound) (task.ReadClear read) (task.ReadOwned read owner)
      (λ _. good (task.ReadClear read) refl tt) (λ _. good (task.ReadOwned read owner) refl h)
  cleared other bound (task.ReadersLeft write bits) p h =
      either_way Good (is_least_bit bits other && leb x.current.stamp bound) (if eqb (without_bit bits other) 0 then task.WriteClear write else task.ReadersLeft write (without_bit bits other)) (task.ReadersLeft write bits)
      (λ _. either_way Good (eqb (without_bit bits other) 0) (task.WriteClear write) (task.ReadersLeft write (without_bit bits other))
      (λ _. good (task.WriteClear write) refl tt)
      (λ _. good (task.ReadersLeft write (without_bit bits other)) refl (λ q one. h q (bit_left bits other q one))))
      (λ _. good (task.ReadersLeft write bits) refl h)
  cleared other bound u p h = good u p h

  look_next : (seat other bound found : ℕ) (y : Part) → load_state seat other bound found x ≡ Some y → Next s x y
  look_next seat other bound found y e =
      when_then (Next s x) _ _ y e (λ _.
      let g = either_way Good (is_clear found bound) (after_clear other bound x x.task) x.task (λ _. cleared other bound x.task passes.passing passes.stays) (λ _. good x.task passes.passing passes.stays) in
      record { place = refl; size = refl; passing = g.passing; stays = g.stays })

  flushed_next : (found : ℕ) (y : Part) (f : Flushing) → load_flushed found x f ≡ Some y → Next s x y
  flushed_next found y (flushing.Tail tail) e = some_then (Next s x) _ y e (same_next _ refl refl refl)
  flushed_next found y _ e =
      when_then (Next s x) _ _ y e (λ _.
      either_way (Next s x) ((is_sealed x.place && may_settle x.task) && has_room found x.current) (with_task (task.Settles 0 0) x) x
      (λ _. there (task.Settles 0 0) (good (task.Settles 0 0) refl tt)) (λ _. same_next x refl refl refl))

  gathered : (tail from block next end : ℕ) → Next s x (gathered_word tail from block next end x)
  gathered tail from block next end = either_way (Next s x) (eqb (next + 1) end) _ _ (λ _. same_next _ refl refl refl) (λ _. same_next _ refl refl refl)

  ring_next : (at found : ℕ) (y : Part) (f : Flushing) → load_ring at found x f ≡ Some y → Next s x y
  ring_next at found y (flushing.Gathers tail from block next end) e =
      when_then (Next s x) _ _ y e (λ _.
      either_way (Next s x) (ltb next end) (gathered_word tail from block next end x) _ (λ _. gathered tail from block next end)
      (λ _. either_way (Next s x) (eqb found 0) x _ (λ _. same_next x refl refl refl) (λ _. gathered tail from next next (next + size_of found))))
  ring_next at found y _ e = absurd (cc)

  no_begin : (seat found : ℕ) (y : Part) (pl : Place) → is_sealed pl ≡ true → load_tail_to_begin seat found x pl ≡ Some y → Next s x y
  no_begin seat found y (Sealed tail stamp) sealed e = absurd (cc)
  no_begin seat found y _ sealed e = absurd (cc)

  no_horizon : (found : ℕ) (y : Part) (u : Task) → is_passing u ≡ true → load_tail_for_horizon found x u ≡ Some y → Next s x y
  no_horizon found y (task.Claimed version) p e = absurd (cc)
  no_horizon found y _ p e = absurd (cc)

  no_begin_word : (seat other found : ℕ) (y : Part) (u : Task) → is_passing u ≡ true → load_begin seat other found x u ≡ Some y → Next s x y
  no_begin_word seat other found y (task.Horizon version least next) p e = absurd (cc)
  no_begin_word seat other found y (task.Surveys next) p e = absurd (cc)
  no_begin_word seat other found y _ p e = absurd (cc)

  no_back_word : (other found : ℕ) (y : Part) (u : Task) → is_passing u ≡ true → load_back other found x u ≡ Some y → Next s x y
  no_back_word other found y (task.Behind next) p e = absurd (cc)
  no_back_word other found y _ p e = absurd (cc)

  no_detached : (found : ℕ) (v : VersionAt) (y : Part) (u : Task) → is_passing u ≡ true → load_detached found v x u ≡ Some y → Next s x y
  no_detached found v y (task.Detaches version) p e = absurd (cc)
  no_detached found v y _ p e = absurd (cc)

  no_cells : (cells found : ℕ) (y : Part) (u : Task) → is_passing u ≡ true → load_counter cells Cells found x u ≡ Some y → Next s x y
  no_cells cells found y task.Draws p e = absurd (cc)
  no_cells cells found y _ p e = absurd (cc)

  gather_next : (seat found : ℕ) (y : Part) → load_tail_to_gather seat found x ≡ Some y → Next s x y
  gather_next seat found y e = when_then (Next s x) _ _ y e (λ _. same_next _ refl refl refl)

  no_cell : (found : ℕ) (v : VersionAt) (w : CellWord) (y : Part) → load_cell found v w x ≡ Some y → Next s x y
  no_cell found v word.Stamp y e = if_then (Next s x) (is_active x.place) _ _ y e (λ act _. absurd (not_active x.place passes.sealed act)) (λ _ none. absurd (cc))
  no_cell found v word.Link y e = if_then (Next s x) (is_active x.place) _ _ y e (λ act _. absurd (not_active x.place passes.sealed act)) (λ _ none. absurd (cc))
  no_cell found v (word.Row k) y e = when_then (Next s x) _ _ y e (λ g. absurd (not_active x.place passes.sealed (and_parts (is_active x.place) _ g).0))
  no_cell found v _ y e = absurd (cc)

-- each load leaves a settle passing
pub load_next : (c : Core) (seat : ℕ) (k : Kind) (y : Part) → LoadsWord k → IsPassing c.shared (c.seats seat)
    → part_after seat k (word_at c (spot_of seat k)) c.shared (c.seats seat) ≡ Some y → Next c.shared (c.seats seat) y
load_next c seat (kind.LoadTail purpose.Begin) y is passes e = no_begin c.shared (c.seats seat) passes seat c.shared.tail y (c.seats seat).place passes.sealed e
load_next c seat (kind.LoadTail purpose.Horizon) y is passes e = no_horizon c.shared (c.seats seat) passes c.shared.tail y (c.seats seat).task passes.passing e
load_next c seat (kind.LoadTail purpose.Gather) y is passes e = gather_next c.shared (c.seats seat) passes seat c.shared.tail y e
load_next c seat (kind.LoadBegin q) y is passes e = no_begin_word c.shared (c.seats seat) passes seat q _ y (c.seats seat).task passes.passing e
load_next c seat (kind.LoadState q bound) y is passes e = look_next c.shared (c.seats seat) passes seat q bound (word_at c (spot_of seat (kind.LoadState q bound))) y e
load_next c seat (kind.LoadEntry oid) y is passes e =
    if_then (Next c.shared (c.seats seat)) (is_sealed (c.seats seat).place) _ _ y e (λ _ e2. entry_next c.shared (c.seats seat) passes seat oid y (c.seats seat).task e2)
    (λ off _. absurd (let on = passes.sealed in cc))
load_next c seat (kind.LoadCell v w) y is passes e = no_cell c.shared (c.seats seat) passes _ v w y (unless_some _ _ y e)
load_next c seat (kind.LoadCounter Objects) y is passes e =
    when_then (Next c.shared (c.seats seat)) _ _ y e (λ g. absurd (not_active (c.seats seat).place passes.sealed (and_parts (is_active (c.seats seat).place) _ g).0))
load_next c seat (kind.LoadCounter Cells) y is passes e = no_cells c.shared (c.seats seat) passes _ _ y (c.seats seat).task passes.passing e
load_next c seat (kind.LoadReaders v) y is passes e = readers_next c.shared (c.seats seat) passes seat v y (c.seats seat).task e
load_next c seat (kind.LoadStamp v w) y is passes e = stamp_next c.shared (c.seats seat) passes (word_at c (spot_of seat (kind.LoadStamp v w))) v w y e
load_next c seat (kind.LoadRing at) y is passes e = ring_next c.shared (c.seats seat) passes at _ y (c.seats seat).flushing e
load_next c seat kind.LoadFlushed y is passes e = flushed_next c.shared (c.seats seat) passes _ y (c.seats seat).flushing e
load_next c seat (kind.LoadDetached v) y is passes e = no_detached c.shared (c.seats seat) passes _ v y (c.seats seat).task passes.passing e
load_next c seat (kind.LoadBack q) y is passes e = no_back_word c.shared (c.seats seat) passes q _ y (c.seats seat).task passes.passing e
load_next c seat _ y is passes e = absurd is
