-- Whom a settle waits for: the first version that isn't ready, in the order in which they are passed.
use Rattle.std.proofs.Common.{◌≡◌, ◌≢◌, ⊎_elim, ℕ, zero, suc, ◌+◌, ◌<◌, ◌≤◌, true, false, List, [], ◌∷◌, ◌++◌, drop, get_or, length, map, take, refl, sym, ap, ◌∙◌, subst, arith}
use Rattle.std.specs.Int.{w64, bit_at, trailing_zeros}
use Rattle.std.proofs.lemmas.Bool.{and_parts, cases_Bool, cases_eq, cases_lt, eqb-true}
use Rattle.std.proofs.Math.Seq.{take-length}
use Rattle.std.proofs.lemmas.Nat.Bits.{bit_at-trailing_zeros}
use Rattle.erm_model.specs.declared.history.VersionRead.{VersionRead}
use Rattle.erm_model.specs.declared.history.VersionWritten.{VersionWritten}
use Rattle.erm_model.specs.Member.{◌∈◌}
use Rattle.erm_model.proofs.Members.{none_in_nil, ∈-at}
use Rattle.erm_machine.specs.declared.attempt.Attempt.{Attempt}
use Rattle.erm_machine.specs.declared.attempt.Claim.{Claim}
use Rattle.erm_machine.specs.declared.attempt.Read.{Read}
use Rattle.erm_machine.specs.declared.part.Part.{Part}
use Rattle.erm_machine.specs.declared.place.Place.{Place}
use Rattle.erm_machine.specs.declared.place.Place.TheVariants.{Active, Announced, Begun, Idle, Sealed, Vacant}
use Rattle.erm_machine.specs.declared.task.Task.{Task}
use Rattle.erm_machine.specs.declared.task.Task.TheVariants as task
use Rattle.erm_machine.specs.declared.limits.TheConstants.{OBJECT_LIMIT}
use Rattle.erm_machine.specs.Claims.{ClaimFits, ObjectFits}
use Rattle.erm_machine.specs.Core.{Core, Object, claim_at, newest, no_claim, version_at}
use Rattle.erm_machine.specs.Decided.{NoneReadsLeft, Reading, read_of, written_of, writes_passed}
use Rattle.erm_machine.specs.Facts.{IsCurrent, over_of}
use Rattle.erm_machine.specs.Lives.{IsPin, in_progress}
use Rattle.erm_machine.specs.Readers.{cleared_of}
use Rattle.erm_machine.specs.Seat.{is_sealed, no_read, read_at}
use Rattle.erm_machine.specs.Snapshot.{ReadFits, passed_of}
use Rattle.erm_machine.specs.Sound.{Sound}
use Rattle.erm_machine.specs.Tasks.{InSettle, TaskFits}
use Rattle.erm_machine.specs.Words.{is_clear, is_flusher, state_of}
use Rattle.erm_machine.proofs.Holders.{begun_attached, held_claim, stands_at, stands_in}
use Rattle.erm_machine.proofs.Listed.{∈-cons, ∈-map, ∈-map_from}
use Rattle.erm_machine.proofs.QuietKinds.{begun_sealed}
use Rattle.erm_core_calls.proofs.Bits.{least_bit}
use Rattle.erm_core_calls.proofs.GoesActive.{bound_at}
use Rattle.erm_core_calls.proofs.Seats.{last_member, seat_low}
use Rattle.erm_core_cells.proofs.ChainsCells.{same_place}
use Rattle.erm_world.specs.declared.stops.Wait.TheVariants as wait
use Rattle.erm_world.specs.Calls.{AreReady, IsClaimReady, IsInTheWay, IsReadReady, IsSealedBelow, MayHaveRead, MayOverwrite, has_read, overwrites}
use Rattle.erm_world.specs.World.{IsSession, Work}
use Rattle.erm_world.specs.World as world
use Rattle.erm_core_view.specs.Views.{IsBetween, IsQuiet, stand_of, view_of, work_of}
use Rattle.erm_core_view.proofs.Snapshots.{never_sealed}
use Rattle.erm_core_steps.specs.Settles.{AreReaders, HasPassed, IsOwnedHead, IsPassing, IsWaiting, Stays, at_owner, at_reader}
use Rattle.erm_core_steps.proofs.Weights.{word_from_bits}
use Rattle.erm_core_steps.proofs.Owners.{below_unclear}
use Rattle.erm_core_steps.proofs.Places.{sealed_drawn}

-- the lists before and behind a place
parted : {X Y : Type 0} (f : X → Y) (xs : List X) (k : ℕ) (d : X) → k < length xs → map f xs ≡ map f (take k xs) ++ f (get_or xs k d) ∷ map f (drop (suc k) xs)
parted f [] k d within = absurd (omega (arith, within))
parted f (x ∷ xs) zero d within = refl
parted f (x ∷ xs) (suc k) d within = ap (λ ys. f x ∷ ys) (parted f xs k d (omega (arith, within)))

-- an element before a place stands at a place before it
record Before {X Y : Type 0} (f : X → Y) (xs : List X) (k : ℕ) (d : X) (y : Y) : Type 0 where
  place : ℕ
  low : place < k
  within : place < length xs
  is : f (get_or xs place d) ≡ y

before : {X Y : Type 0} (f : X → Y) (xs : List X) (k : ℕ) (d : X) (y : Y) → y ∈ map f (take k xs) → Before f xs k d y
before f xs zero d y m = absurd (none_in_nil y m)
before f [] (suc k) d y m = absurd (none_in_nil y m)
before f (x ∷ xs) (suc k) d y m =
    ⊎_elim
    (λ (here : f x ≡ y). record { place = 0; low = omega arith; within = omega arith; is = here })
    (λ (later : y ∈ map f (take k xs)).
    let r = before f xs k d y later in
    record { place = suc r.place; low = (let h = r.low in omega (arith, h)); within = (let h = r.within in omega (arith, h)); is = r.is })
    (∈-cons y (f x) (map f (take k xs)) m)

-- versions of one object with one stamp are one
one_stamp : (now : ℕ) (o : Object) (i j : ℕ) → ObjectFits now o → i < length o.versions → j < length o.versions → (version_at o i).words.stamp ≡ (version_at o j).words.stamp → i ≡ j
one_stamp now o i j fits low high same =
    ⊎_elim
    (λ (less : i < j). absurd (let h = fits.ascend i j less high in omega (arith, h, same)))
    (λ (le : j ≤ i).
    ⊎_elim (λ (e : i ≡ j). e) (λ (ne : i ≡ j → ⊥). absurd (let h = fits.ascend j i (omega (arith, le, ne)) low in omega (arith, h, same))) (cases_eq i j))
    (cases_lt i j)

pub same_sealed : (u w : Work) (s t : ℕ) → world.sealed u s ≡ world.sealed w t → (u ≡ w) × (s ≡ t)
same_sealed u w s t e = (cc, cc)

-- A seat whose session is sealed.
record SealedAt (x : Part) (work : Work) (seen : ℕ) : Type 0 where
  work_is : work_of x.current ≡ work
  stamp_is : x.current.stamp ≡ seen
  place : is_sealed x.place ≡ true

module _ (sessions : ℕ) (c : Core) (sound : Sound c) (quiet : IsQuiet sessions c) where
  sealed_at : (x : Part) (pl : Place) (work : Work) (seen : ℕ) → x.place ≡ pl → IsCurrent pl x.current → stand_of pl x.task x.current ≡ world.sealed work seen → SealedAt x work seen
  sealed_at x (Active tail) work seen at is e = absurd (never_sealed x.task x.current work seen e)
  sealed_at x (Sealed tail stamp) work seen at is e =
      let both = same_sealed (work_of x.current) work stamp seen e in
      record { work_is = both.0; stamp_is = is.stamp_is ∙ both.1; place = ap is_sealed at }
  sealed_at x _ work seen at is e = absurd (cc)

  sealed_seat : (q seen : ℕ) (work : Work) → stand_of (c.seats q).place (c.seats q).task (c.seats q).current ≡ world.sealed work seen → SealedAt (c.seats q) work seen
  sealed_seat q seen work e = sealed_at (c.seats q) (c.seats q).place work seen refl (sound.own q).ranges.current e

  drawn : (q : ℕ) → is_sealed (c.seats q).place ≡ true → 0 < (c.seats q).current.stamp
  drawn q e = sealed_drawn (c.seats q).place (c.seats q).current e (sound.own q).ranges.current

  settles_at : (pl : Place) (t : Attempt) (u : Task) → is_sealed pl ≡ true → TaskFits pl t u → InSettle u
  settles_at (Sealed tail stamp) t u e f = f
  settles_at _ t u e f = absurd (cc)

  none_over : (pl : Place) (u : Task) (n : ℕ) → is_sealed pl ≡ true → InSettle u → over_of pl u n ≡ 0
  none_over (Sealed tail stamp) (task.Ends raised ended step cleared) n e f = absurd f
  none_over (Sealed tail stamp) u n e f = refl
  none_over _ u n e f = absurd (cc)

  none_cleared : (pl : Place) (u : Task) (n : ℕ) → is_sealed pl ≡ true → InSettle u → cleared_of pl u n ≡ 0
  none_cleared (Sealed tail stamp) (task.Ends raised ended step cleared) n e f = absurd f
  none_cleared (Sealed tail stamp) u n e f = refl
  none_cleared _ u n e f = absurd (cc)

  -- a claim of a sealed transaction is held, and fits its object
  held : (q k : ℕ) → is_sealed (c.seats q).place ≡ true → k < length (c.seats q).current.writes → (claim_at (c.seats q).current k).held ≡ true
  held q k e within =
      let none = none_over (c.seats q).place (c.seats q).task (length (c.seats q).current.writes) e (settles_at (c.seats q).place (c.seats q).current (c.seats q).task e (sound.own q).task.fits) in
      (sound.own q).claims.held k within (omega (arith, none))

  fit : (q k : ℕ) → is_sealed (c.seats q).place ≡ true → k < length (c.seats q).current.writes
      → ClaimFits q (c.seats q).current.number (c.seats q).current.begin (c.shared.objects (claim_at (c.seats q).current k).version.oid) (claim_at (c.seats q).current k)
  fit q k e within = (sound.own q).claims.fit k within (held q k e within)

  read_fits : (q k : ℕ) → k < length (c.seats q).current.reads → ReadFits c.shared (c.seats q).current.begin (read_at (c.seats q).current k)
  read_fits q k within = (sound.own q).snapshot.reads (c.seats q).current (read_at (c.seats q).current k) (last_member (c.seats q).over (c.seats q).current) (∈-at (c.seats q).current.reads k no_read within)

  object_fits : (oid : ℕ) → oid < OBJECT_LIMIT → ObjectFits c.shared.tail (c.shared.objects oid)
  object_fits oid known = sound.common.claims.objects oid known

  newest_within : (oid place : ℕ) → oid < OBJECT_LIMIT → place ≡ newest (c.shared.objects oid) → place < length (c.shared.objects oid).versions
  newest_within oid place known is = let some = (object_fits oid known).some in omega (arith, some, is)

  claim_within : (q k : ℕ) → is_sealed (c.seats q).place ≡ true → k < length (c.seats q).current.writes
      → (claim_at (c.seats q).current k).version.place < length (c.shared.objects (claim_at (c.seats q).current k).version.oid).versions
  claim_within q k e within =
      newest_within (claim_at (c.seats q).current k).version.oid (claim_at (c.seats q).current k).version.place ((sound.own q).claims.objects k within) (fit q k e within).place

  -- a claim and a read of one object and one stamp are of one version
  meet : (p j q k : ℕ) → is_sealed (c.seats q).place ≡ true → j < length (c.seats p).current.reads → k < length (c.seats q).current.writes
      → (read_at (c.seats p).current j).version.oid ≡ (claim_at (c.seats q).current k).version.oid → (read_at (c.seats p).current j).stamp ≡ (claim_at (c.seats q).current k).stamp
      → (read_at (c.seats p).current j).version.place ≡ (claim_at (c.seats q).current k).version.place
  meet p j q k e read claim oid stamp =
      let r = read_at (c.seats p).current j in
      let w = claim_at (c.seats q).current k in
      let fits = read_fits p j read in
      let newest_is = fits.newest in
      let stamp_there : (version_at (c.shared.objects w.version.oid) r.version.place).words.stamp ≡ r.stamp = subst (λ n. (version_at (c.shared.objects n) r.version.place).words.stamp ≡ r.stamp) oid newest_is.stamp_is in
      let within_there : r.version.place < length (c.shared.objects w.version.oid).versions = subst (λ n. r.version.place < length (c.shared.objects n).versions) oid newest_is.within in
      one_stamp c.shared.tail (c.shared.objects w.version.oid) r.version.place w.version.place (object_fits w.version.oid ((sound.own q).claims.objects k claim)) within_there (claim_within q k e claim)
      (stamp_there ∙ stamp ∙ (fit q k e claim).stamp)

  -- the own seat, which passes versions
  module _ (seat : ℕ) (own : is_sealed (c.seats seat).place ≡ true) where
    abbrev x : Part
    x = c.seats seat

    -- a version read that is passed is ready
    read_ready : (j : ℕ) → j < passed_of x.task (length x.current.reads) → j < length x.current.reads → IsReadReady (view_of sessions c) seat x.current.stamp (read_of (read_at x.current j))
    read_ready j passed within other seen may =
        let y = sealed_seat other seen may.work may.is.stand in
        let m : may.claim ∈ map written_of (c.seats other).current.writes = subst (λ (w : Work). may.claim ∈ w.claims) (sym y.work_is) may.claimed in
        let from = ∈-map written_of (c.seats other).current.writes may.claim m in
        let at = stands_at (c.seats other).current from.0 from.1 in
        let w = claim_at (c.seats other).current at.place in
        let same : written_of w ≡ may.claim = ap written_of at.is ∙ from.2 in
        let oid : w.version.oid ≡ (read_at x.current j).version.oid = ap (λ (v : VersionWritten). v.oid) same ∙ may.oid in
        let stamp : w.stamp ≡ (read_at x.current j).stamp = ap (λ (v : VersionWritten). v.stamp) same ∙ may.stamp in
        let low = may.is.below in
        let stamped = y.stamp_is in
        (sound.both seat other (λ e. may.is.another (sym e))).snapshot.passed j passed within (
          drawn other y.place,
          omega (arith, low, stamped),
          (
            w,
            stands_in (c.seats other).current at.place at.within,
            held other at.place y.place at.within,
            oid,
            sym (meet seat j other at.place y.place within at.within (sym oid) (sym stamp)),
          ),
        )

    -- one that has read the version of a claim
    reads_it : (k : ℕ) → k < length x.current.writes → (other seen : ℕ) → MayHaveRead (view_of sessions c) seat x.current.stamp (written_of (claim_at x.current k)) other seen
        → Reading (c.seats other) (claim_at x.current k).version x.current.stamp
    reads_it k within other seen may =
        let y = sealed_seat other seen may.work may.is.stand in
        let m : may.read ∈ map read_of (c.seats other).current.reads = subst (λ (w : Work). may.read ∈ w.reads) (sym y.work_is) may.reads in
        let from = before read_of (c.seats other).current.reads (length (c.seats other).current.reads) no_read may.read
        (subst (λ (rs : List Read). may.read ∈ map read_of rs) (sym (take-length (c.seats other).current.reads)) m) in
        let r = read_at (c.seats other).current from.place in
        let oid : r.version.oid ≡ (claim_at x.current k).version.oid = ap (λ (v : VersionRead). v.oid) from.is ∙ may.oid in
        let stamp : r.stamp ≡ (claim_at x.current k).stamp = ap (λ (v : VersionRead). v.stamp) from.is ∙ may.stamp in
        let low = may.is.below in
        let stamped = y.stamp_is in
        let none = none_cleared (c.seats other).place (c.seats other).task (length (c.seats other).current.reads) y.place
        (settles_at (c.seats other).place (c.seats other).current (c.seats other).task y.place (sound.own other).task.fits) in
        (drawn other y.place, omega (arith, low, stamped), (from.place, omega (arith, none), from.within, oid, meet other from.place seat k own from.within within oid stamp))

    -- a version overwritten that is passed is ready
    claim_ready : (j upto : ℕ) → j < writes_passed x.task (length x.current.writes) → j < length x.current.writes → IsClaimReady (view_of sessions c) seat x.current.stamp upto (written_of (claim_at x.current j))
    claim_ready j upto passed within other seen low may =
        (sound.both seat other (λ e. may.is.another (sym e))).decided.passed j passed within (reads_it j within other seen may)

    -- all versions read are ready once those overwritten are looked at
    reads_ready : (k : ℕ) → k ≤ passed_of x.task (length x.current.reads) → (q : VersionRead) → q ∈ map read_of (take k x.current.reads) → IsReadReady (view_of sessions c) seat x.current.stamp q
    reads_ready k passed q m =
        let from = before read_of x.current.reads k no_read q m in
        let low = from.low in
        subst (λ (r : VersionRead). IsReadReady (view_of sessions c) seat x.current.stamp r) from.is (read_ready from.place (omega (arith, low, passed)) from.within)

    claims_ready : (k upto : ℕ) → k ≤ writes_passed x.task (length x.current.writes) → (d : VersionWritten) → d ∈ map written_of (take k x.current.writes) → IsClaimReady (view_of sessions c) seat x.current.stamp upto d
    claims_ready k upto passed d m =
        let from = before written_of x.current.writes k no_claim d m in
        let low = from.low in
        subst (λ (w : VersionWritten). IsClaimReady (view_of sessions c) seat x.current.stamp upto w) from.is (claim_ready from.place upto (omega (arith, low, passed)) from.within)

    -- A seat that isn't clear is a session's, and its transaction is sealed below.
    module _ (other : ℕ) (another : other ≢ seat) (waits : is_clear (state_of (c.seats other).place) x.current.stamp ≡ false) where
      abbrev y : Part
      y = c.seats other

      not_zero : state_of y.place ≡ 0 → ⊥
      not_zero none = absurd (let clear : is_clear (state_of y.place) x.current.stamp ≡ true = ap (λ n. is_clear n x.current.stamp) none in cc)

      pin_zero : (pl : Place) → IsPin pl → state_of pl ≡ 0
      pin_zero Vacant e = refl
      pin_zero Idle e = refl
      pin_zero (Begun tail) e = refl
      pin_zero (Announced tail) e = refl
      pin_zero (Active tail) e = refl
      pin_zero _ e = absurd e

      in_world : (0 < other → other ≤ sessions → ⊥) → ⊥
      in_world none =
          ⊎_elim
          (λ (flusher : is_flusher other ≡ true). not_zero (pin_zero y.place ((sound.own other).lives.pinned flusher)))
          (λ (plain : is_flusher other ≡ false). not_zero (ap state_of (quiet.others other none plain)))
          (cases_Bool (is_flusher other))

      session : IsSession (view_of sessions c) other
      session =
          ⊎_elim
          (λ (some : 0 < other).
          ⊎_elim (λ (above : sessions < other). absurd (in_world (λ _ low. omega (arith, low, above)))) (λ (low : other ≤ sessions). (some, low)) (cases_lt sessions other))
          (λ (none : other ≤ 0). absurd (in_world (λ some _. omega (arith, none, some))))
          (cases_lt 0 other)

      high_stamp : is_sealed y.place ≡ true → in_progress y.place ≡ 1 → 1 < y.current.stamp
      high_stamp e busy =
          let begun = (sound.own other).lives.opened_now busy in
          let up = ((sound.own other).lives.sealed y.current (last_member y.over y.current) (drawn other e)).1 in
          let behind = quiet.opened in
          omega (arith, begun, up, behind)

      is_below_at : (pl : Place) → y.place ≡ pl → IsBetween pl y.task → IsSealedBelow (view_of sessions c) seat x.current.stamp other (state_of pl) (work_of y.current)
      is_below_at Idle at e = absurd (not_zero (ap state_of at))
      is_below_at (Active tail) at e = absurd (not_zero (ap state_of at))
      is_below_at (Sealed tail stamp) at e =
          let current : IsCurrent (Sealed tail stamp) y.current = subst (λ pl. IsCurrent pl y.current) at (sound.own other).ranges.current in
          let own_stamp = current.stamp_is in
          let high = high_stamp (ap is_sealed at) (ap in_progress at) in
          record {
            session = session;
            another = another;
            stand = ap (λ (pl : Place). stand_of pl y.task y.current) at;
            below = below_unclear stamp x.current.stamp (omega (arith, own_stamp, high)) (subst (λ pl. is_clear (state_of pl) x.current.stamp ≡ false) at waits);
          }
      is_below_at _ at e = absurd e

      is_below : IsSealedBelow (view_of sessions c) seat x.current.stamp other (state_of y.place) (work_of y.current)
      is_below = is_below_at y.place refl (quiet.between other session.0 session.1)

      -- the owner of the entry of a version read that is the head
      overwrites_it : (read : ℕ) → read < length x.current.reads → IsOwnedHead c.shared (read_at x.current read).version other
          → MayOverwrite (view_of sessions c) seat x.current.stamp (read_of (read_at x.current read)) other (state_of y.place)
      overwrites_it read within head =
          let r = read_at x.current read in
          let oid = r.version.oid in
          let o = c.shared.objects oid in
          let fits = read_fits seat read within in
          let known = fits.named.object in
          let h = (sound.own other).claims.owned oid session.0 known head.owner_is in
          let hc = held_claim c other oid sound h in
          let w = claim_at y.current hc.at.place in
          let chain = (sound.common.chains.linked oid known).attached in
          let cells : (version_at o r.version.place).cell ≡ (version_at o (newest o)).cell = fits.named.cell ∙ sym head.head ∙ (object_fits oid known).head in
          let newest_is : r.version.place ≡ newest o =
          same_place c sound oid r.version.place (newest o) known (begun_attached c seat oid r.version.place sound known (begun_sealed x.place own) fits.newest.newer)
          (omega (arith, chain)) fits.named.within (newest_within oid (newest o) known refl) cells in
          record {
            work = work_of y.current;
            is = is_below;
            claim = written_of w;
            claimed = ∈-map_from written_of y.current.writes w (stands_in y.current hc.at.place hc.at.within);
            oid = hc.at.oid_is;
            stamp = hc.fits.stamp ∙ ap (λ n. (version_at o n).words.stamp) (hc.fits.place ∙ sym newest_is) ∙ fits.newest.stamp_is;
          }

      -- a reader of the version overwritten
      has_read_it : (write : ℕ) → write < length x.current.writes
          → bit_at (version_at (c.shared.objects (claim_at x.current write).version.oid) (claim_at x.current write).version.place).words.readers other ≡ 1
          → MayHaveRead (view_of sessions c) seat x.current.stamp (written_of (claim_at x.current write)) other (state_of y.place)
      has_read_it write within one =
          let w = claim_at x.current write in
          let known = (sound.own seat).claims.objects write within in
          let at = (sound.own other).readers.only w.version.oid w.version.place known (claim_within seat write own within) one in
          let k = at.0 in
          let low = at.2 in
          let oid = at.3 in
          let place = at.4 in
          let r = read_at y.current k in
          let same : (version_at (c.shared.objects r.version.oid) r.version.place).words.stamp ≡ (version_at (c.shared.objects w.version.oid) w.version.place).words.stamp =
          ap (λ n. (version_at (c.shared.objects n) r.version.place).words.stamp) oid ∙ ap (λ n. (version_at (c.shared.objects w.version.oid) n).words.stamp) place in
          record {
            work = work_of y.current;
            is = is_below;
            read = read_of r;
            reads = ∈-map_from read_of y.current.reads r (∈-at y.current.reads k no_read low);
            oid = oid;
            stamp = sym (read_fits other k low).newest.stamp_is ∙ same ∙ sym (fit seat write own within).stamp;
          }

  -- of one that has passed all its versions nobody is in the way
  pub all_ready : (seat : ℕ) → is_sealed (c.seats seat).place ≡ true → HasPassed (c.seats seat)
      → AreReady (view_of sessions c) seat (work_of (c.seats seat).current) (c.seats seat).current.stamp
  all_ready seat own passed =
      let x = c.seats seat in
      let reads = x.current.reads in
      let writes = x.current.writes in
      let read : passed_of x.task (length reads) ≡ length reads = ap (λ u. passed_of u (length reads)) passed in
      let written : writes_passed x.task (length writes) ≡ length writes = ap (λ u. writes_passed u (length writes)) passed in (
        λ r m. reads_ready seat own (length reads) (omega (arith, read)) r (subst (λ (rs : List Read). r ∈ map read_of rs) (sym (take-length reads)) m),
        λ d m. claims_ready seat own (length writes) (sessions + 1) (omega (arith, written)) d (subst (λ (ws : List Claim). d ∈ map written_of ws) (sym (take-length writes)) m),
      )

  -- whom a settle waits for is in the way
  pub in_the_way : (seat other seen : ℕ) → IsPassing c.shared (c.seats seat) → IsWaiting c seat (wait.Seat other seen)
      → IsInTheWay (view_of sessions c) seat (work_of (c.seats seat).current) (c.seats seat).current.stamp other seen
  in_the_way seat other seen passing (at_owner read at, seen_is, waits) =
      let x = c.seats seat in
      let reads = x.current.reads in
      let bounded = bound_at c seat sound (task.ReadOwned read other) at in
      let another = bounded.1.another in
      let clear : is_clear (state_of (c.seats other).place) x.current.stamp ≡ false = subst (λ n. is_clear n x.current.stamp ≡ false) seen_is waits in
      let head : IsOwnedHead c.shared (read_at x.current read).version other = subst (Stays c.shared x.current) at passing.stays in
      let come : passed_of x.task (length reads) ≡ read = ap (λ u. passed_of u (length reads)) at in
      subst (λ n. IsInTheWay (view_of sessions c) seat (work_of x.current) x.current.stamp other n) (sym seen_is)
      (overwrites (map read_of (take read reads)) (map read_of (drop (suc read) reads)) (read_of (read_at x.current read)) (parted read_of reads read no_read bounded.0)
      (reads_ready seat passing.sealed read (omega (arith, come))) (overwrites_it seat passing.sealed other another clear read bounded.0 head))
  in_the_way seat other seen passing (at_reader write bits at least, seen_is, waits) =
      let x = c.seats seat in
      let reads = x.current.reads in
      let writes = x.current.writes in
      let bounded = bound_at c seat sound (task.ReadersLeft write bits) at in
      let set = (least_bit bits bounded.1 (λ q one. seat_low q (bounded.2 q one).has_words)).set in
      let is : trailing_zeros w64 bits ≡ other = eqb-true (trailing_zeros w64 bits) other (and_parts _ _ least).0 in
      let one : bit_at bits other ≡ 1 = subst (λ n. bit_at bits n ≡ 1) is set in
      let another = (bounded.2 other one).another in
      let clear : is_clear (state_of (c.seats other).place) x.current.stamp ≡ false = subst (λ n. is_clear n x.current.stamp ≡ false) seen_is waits in
      let readers : AreReaders c.shared (claim_at x.current write).version bits = subst (Stays c.shared x.current) at passing.stays in
      let all : passed_of x.task (length reads) ≡ length reads = ap (λ u. passed_of u (length reads)) at in
      let come : writes_passed x.task (length writes) ≡ write = ap (λ u. writes_passed u (length writes)) at in
      let word = word_from_bits bits (λ q set. let h = seat_low q (bounded.2 q set).has_words in omega (arith, h)) in
      let none : (q : ℕ) → q < other → bit_at bits q ≡ 0 = λ q low. (bit_at-trailing_zeros w64 bits bounded.1 word).2 q (omega (arith, low, is)) in
      subst (λ n. IsInTheWay (view_of sessions c) seat (work_of x.current) x.current.stamp other n) (sym seen_is)
      (has_read (map written_of (take write writes)) (map written_of (drop (suc write) writes)) (written_of (claim_at x.current write)) (parted written_of writes write no_claim bounded.0)
      (λ q m. reads_ready seat passing.sealed (length reads) (omega (arith, all)) q (subst (λ (rs : List Read). q ∈ map read_of rs) (sym (take-length reads)) m))
      (claims_ready seat passing.sealed write (sessions + 1) (omega (arith, come)))
      (λ q seen low may.
      let left : NoneReadsLeft x (task.ReadersLeft write bits) q (c.seats q) = subst (λ u. NoneReadsLeft x u q (c.seats q)) at (sound.both seat q (λ e. may.is.another (sym e))).decided.left in
      left (none q low) (reads_it seat passing.sealed write bounded.0 q seen may))
      (has_read_it seat passing.sealed other another clear write bounded.0 (readers other one)))
