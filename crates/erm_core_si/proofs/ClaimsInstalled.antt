-- An install adds a version, or the entry is released with its old head.
use Rattle.std.proofs.Common.{◌≡◌, ℕ, zero, suc, ◌+◌, ◌^◌, ◌<◌, ◌≤◌, ⊎_elim, Bool, true, false, ◌&&◌, ◌||◌, cond, eqb, ltb, leb, List, [], ◌∷◌, count_by, length, get_or, Option, Some, None, refl, sym, ap, ◌∙◌, subst, arith}
use Rattle.std.specs.Prelude.{if◌then◌else◌}
use Rattle.std.proofs.lemmas.Bool.{and_parts, cases_lt, eqb-true, ltb-true, leb-true, or_cases}
use Rattle.std.proofs.lemmas.List.Sums.{sum_by-cons}
use Rattle.erm_machine.specs.declared.limits.TheConstants.{ANNOUNCERS, FLUSH_SEAT, OBJECT_LIMIT, SESSIONS}
use Rattle.erm_machine.specs.declared.attempt.Attempt.{Attempt}
use Rattle.erm_machine.specs.declared.attempt.Claim.{Claim}
use Rattle.erm_machine.specs.declared.attempt.Decision.TheVariants.{Commit}
use Rattle.erm_machine.specs.declared.event.Kind.TheVariants as kind
use Rattle.erm_machine.specs.declared.part.Part.{Part}
use Rattle.erm_machine.specs.declared.place.Place.{Place}
use Rattle.erm_machine.specs.declared.place.Place.TheVariants.{Vacant, Active, Decided}
use Rattle.erm_machine.specs.declared.task.Task.{Task}
use Rattle.erm_machine.specs.declared.task.Task.TheVariants as task
use Rattle.erm_machine.specs.declared.version.Version.{Version}
use Rattle.erm_machine.specs.Begins.{BeginsAt}
use Rattle.erm_machine.specs.Cells.{own_times, chain_times}
use Rattle.erm_machine.specs.Claims.{ObjectFits, ClaimFits, InstallFits, claims_over, step_of}
use Rattle.erm_machine.specs.Core.{Core, Object, claim_at, no_claim, newest, version_at, own_words}
use Rattle.erm_machine.specs.Facts.{Holds, IsCurrent, total}
use Rattle.erm_machine.specs.Seat.{end_of, is_active, is_decided, is_commit, is_own, last_claim}
use Rattle.erm_machine.specs.Settling.{adds_version, install_new, release_old, install_claim, unclaim, install}
use Rattle.erm_machine.specs.Sound.{Sound}
use Rattle.erm_machine.specs.Step.{with_object, installed, added}
use Rattle.erm_machine.specs.Tasks.{TaskFits}
use Rattle.erm_machine.specs.Words.{put, owner_of, is_seat, is_session, is_flusher}
use Rattle.erm_machine.proofs.Frames.{put_same, put_other, total_at}
use Rattle.erm_machine.proofs.Guards.{when_then, either_way}
use Rattle.erm_machine.proofs.QuietKinds.{Moves}
use Rattle.erm_core_si.proofs.ClaimsObjects.{alike_same, plain_owner, newest_within, object_released, object_installed}
use Rattle.erm_core_si.proofs.ClaimsOwn.{holds_claim, Kept}
use Rattle.erm_core_si.proofs.ClaimsGentle.{NoEnd, no_end, NotLeaving, over_known, EndsAt, ends_at}
use Rattle.erm_core_si.proofs.ClaimsRefilled.{step_here, active_stays, decided_stays, own_within}
use Rattle.erm_core_si.proofs.ClaimsOver.{ended_own, drops_own, freed_kept}

one_of : (b : Bool) (n : ℕ) → b ≡ true → cond b n 0 ≡ n
one_of b n e = ap (λ (t : Bool). cond t n 0) e

-- a test that is met somewhere is counted
counted : {X : Type 0} (test : X → Bool) (xs : List X) (k : ℕ) (d : X) → k < length xs → test (get_or xs k d) ≡ true → 0 < count_by test xs
counted test [] k d low e = absurd (omega arith)
counted test (x ∷ xs) zero d low e =
    let here : count_by test (x ∷ xs) ≡ cond (test x) 1 0 + count_by test xs = sum_by-cons (λ y. cond (test y) 1 0) x xs in
    let one = one_of (test x) 1 e in
    omega (arith, here, one)
counted test (x ∷ xs) (suc k) d low e =
    let here : count_by test (x ∷ xs) ≡ cond (test x) 1 0 + count_by test xs = sum_by-cons (λ y. cond (test y) 1 0) x xs in
    let rest = counted test xs k d (omega (arith, low)) e in
    omega (arith, here, rest)

-- a sum that isn't 0 where it is 1 only under two tests
second_test : (a b cell drawn limit : ℕ) → a + b ≡ cond (ltb cell drawn && ltb cell limit) 1 0 → 0 < b → cell < limit
second_test a b cell drawn limit e positive = by_test (ltb cell drawn && ltb cell limit) refl e
  where
    by_test : (t : Bool) → (ltb cell drawn && ltb cell limit) ≡ t → a + b ≡ cond t 1 0 → cell < limit
    by_test true test f = ltb-true cell limit (and_parts _ _ test).1
    by_test false test f = absurd (omega (arith, f, positive))

-- a seat that isn't vacant is one of the seats
seat_low : (c : Core) (p : ℕ) → Sound c → ((c.seats p).place ≡ Vacant → ⊥) → p < ANNOUNCERS
seat_low c p sound taken = by_test (is_seat p) refl
  where
    low : (q : ℕ) → is_seat q ≡ true → q < ANNOUNCERS
    low q e =
        ⊎_elim
        (λ (session : is_session q ≡ true). let h = leb-true q SESSIONS (and_parts (ltb 0 q) (leb q SESSIONS) session).1 in omega (arith, h))
        (λ (flusher : is_flusher q ≡ true). let h = eqb-true q FLUSH_SEAT flusher in omega (arith, h))
        (or_cases (is_session q) (is_flusher q) e)

    by_test : (b : Bool) → is_seat p ≡ b → p < ANNOUNCERS
    by_test true e = low p e
    by_test false e = absurd (taken ((sound.own p).ranges.seat_of e))

-- an own cell is one of the cells
own_low : (c : Core) (p cell k : ℕ) → Sound c → ((c.seats p).place ≡ Vacant → ⊥) → is_own cell (claim_at (c.seats p).current k).own ≡ true → cell < c.shared.cell_limit
own_low c p cell k sound taken own =
    let once = sound.common.cells.once cell in
    let mine : 0 < count_by (λ (w : Claim). is_own cell w.own) (c.seats p).current.writes =
    counted (λ (w : Claim). is_own cell w.own) (c.seats p).current.writes k no_claim (own_within cell (c.seats p).current k own) own in
    let all : own_times cell (c.seats p) ≤ total (own_times cell) ANNOUNCERS c.seats = total_at (own_times cell) ANNOUNCERS c.seats p (seat_low c p sound taken) in
    second_test (total (chain_times cell) OBJECT_LIMIT c.shared.objects) (total (own_times cell) ANNOUNCERS c.seats) cell c.shared.cells_drawn c.shared.cell_limit once
    (let parts : 0 < own_times cell (c.seats p) = omega (arith, mine) in omega (arith, parts, all))

-- the begin stamp of a decided transaction is at most its commit stamp, which lies below the tail
decided_stamp : (pl : Place) (t : Attempt) (now : ℕ) → is_decided pl ≡ true → BeginsAt pl t.begin now → IsCurrent pl t → (t.begin ≤ t.stamp) × (t.stamp < now)
decided_stamp (Decided tail stamp) t now e b cur = let h = b.sealed in let k = b.drawn in let s = cur.stamp_is in (omega (arith, h, s), omega (arith, k, s))
decided_stamp _ t now e b cur = absurd (cc)

pub decided_taken : (pl : Place) → is_decided pl ≡ true → pl ≡ Vacant → ⊥
decided_taken pl e vacant = let no : is_decided Vacant ≡ true = subst (λ q. is_decided q ≡ true) vacant e in absurd (cc)

-- the version in an own cell whose install is at its last step fits behind the newest one
added_fits : (c : Core) (p oid head k : ℕ) → Sound c → is_decided (c.seats p).place ≡ true → k < length (c.seats p).current.writes → claims_over (c.seats p) ≤ k
    → step_of (c.seats p).task k ≡ 8 → oid ≡ (claim_at (c.seats p).current k).version.oid → is_own head (claim_at (c.seats p).current k).own ≡ true
    → ObjectFits c.shared.tail (installed head (Some (record { cell = head; words = own_words (claim_at (c.seats p).current k).own })) (c.shared.objects oid))
added_fits c p oid head k sound decided within waits eight is_oid own =
    object_installed c.shared.tail o head (record { cell = head; words = own_words w.own }) (let h = low in let limit = sound.common.counters.limit in omega (arith, h, limit)) refl
    (let a = newest_is in let f = fit.first in let b = stamps.0 in let s = own_stamp in omega (arith, a, f, b, s))
    (let b = stamps.1 in let s = own_stamp in omega (arith, b, s))
    (ap (λ n. (version_at o n).words.overwriter) (sym fit.place) ∙ done.mark (omega arith) ∙ sym own_stamp)
    (done.unmarked (omega arith))
    (done.unset (omega arith))
    old
  where
    o : Object
    o = c.shared.objects oid

    w : Claim
    w = claim_at (c.seats p).current k

    held : w.held ≡ true
    held = (sound.own p).claims.held k within waits

    fit : ClaimFits p (c.seats p).current.number (c.seats p).current.begin o w
    fit = subst (λ n. ClaimFits p (c.seats p).current.number (c.seats p).current.begin (c.shared.objects n) w) (sym is_oid) ((sound.own p).claims.fit k within held)

    done : InstallFits (c.seats p).current o w 8
    done = subst (λ n. InstallFits (c.seats p).current (c.shared.objects n) w 8) (sym is_oid)
        (subst (λ n. InstallFits (c.seats p).current (c.shared.objects w.version.oid) w n) eight ((sound.own p).claims.install k within held))

    old : ObjectFits c.shared.tail o
    old = sound.common.claims.objects oid (let h = (sound.own p).claims.objects k within in omega (arith, h, is_oid))

    stamps : ((c.seats p).current.begin ≤ (c.seats p).current.stamp) × ((c.seats p).current.stamp < c.shared.tail)
    stamps = decided_stamp (c.seats p).place (c.seats p).current c.shared.tail decided (sound.own p).begins.begins (sound.own p).ranges.current

    newest_is : (version_at o (newest o)).words.stamp ≡ w.stamp
    newest_is = ap (λ n. (version_at o n).words.stamp) (sym fit.place) ∙ sym fit.stamp

    own_stamp : (own_words w.own).stamp ≡ (c.seats p).current.stamp
    own_stamp = done.stamp (omega arith)

    low : head < c.shared.cell_limit
    low = own_low c p head k sound (decided_taken (c.seats p).place decided) own

-- COMMIT: the version is installed
install_new_kept : (c : Core) (p oid head : ℕ) (d : Core) (n : ℕ × ℕ × ℕ × ℕ) (y : Part) → Sound c → EndsAt (c.seats p).task (Some n)
    → install_new oid head (c.seats p) n ≡ Some y
    → record {
      shared = with_object oid (installed head (Some (record { cell = head; words = own_words (claim_at (c.seats p).current n.1).own })) (c.shared.objects oid)) c.shared;
      seats = put c.seats p y;
    } ≡ d
    → Kept d
install_new_kept c p oid head d n y sound at e =
    when_then
    (λ z. record {
      shared = with_object oid (installed head (Some (record { cell = head; words = own_words (claim_at (c.seats p).current n.1).own })) (c.shared.objects oid)) c.shared;
      seats = put c.seats p z;
    } ≡ d → Kept d) _ _ y e
    (λ g is.
    let x = c.seats p in
    let g1 = and_parts _ _ g in
    let g2 = and_parts _ _ g1.0 in
    let g3 = and_parts _ _ g2.0 in
    let g4 = and_parts _ _ g3.0 in
    let decided : is_decided x.place ≡ true = (and_parts _ _ (and_parts _ _ g4.0).0).0 in
    let within : n.1 < length x.current.writes = ltb-true n.1 (length x.current.writes) g4.1 in
    let is_oid : oid ≡ (claim_at x.current n.1).version.oid = eqb-true oid _ g2.1 in
    let eight : n.2 ≡ 8 = eqb-true n.2 8 g3.1 in
    let stays = decided_stays x.place decided in
    let over_was : claims_over x ≡ n.1 = over_known x.place x.task (length x.current.writes) stays ∙ at.0 in
    let step_is : step_of x.task n.1 ≡ 8 = at.1 n.1 ∙ step_here n.0 n.1 n.2 n.3 n.1 refl ∙ eight in
    let low : head < c.shared.cell_limit = own_low c p head n.1 sound (decided_taken x.place decided) g1.1 in
    let limit = sound.common.counters.limit in
    let short : head < 2 ^ 24 = omega (arith, low, limit) in
    let v : Version = record { cell = head; words = own_words (claim_at x.current n.1).own } in
    let u = installed head (Some v) (c.shared.objects oid) in
    let there : put c.shared.objects oid u (claim_at x.current n.1).version.oid ≡ u = ap (λ m. put c.shared.objects oid u m) (sym is_oid) ∙ put_same c.shared.objects oid u in
    freed_kept c p _ d oid head u sound
    (subst (λ m. Holds x m) (sym is_oid) (holds_claim x n.1 within ((sound.own p).claims.held n.1 within (omega (arith, over_was)))))
    short refl
    (added_fits c p oid head n.1 sound decided within (omega (arith, over_was)) step_is is_oid g1.1)
    (ended_own c.shared (with_object oid u c.shared) p x _ n (record {
      within = within;
      writes = refl;
      number = refl;
      begin = refl;
      from = stays;
      place = refl;
      old = at.0;
      steps = at.1;
      task_is = refl;
      objects = λ o ne. alike_same (c.shared.objects o) (put c.shared.objects oid u o) (put_other c.shared.objects oid u o (λ same. ne (same ∙ is_oid)));
      unowned = ap (λ (z : Object). owner_of z.entry) there ∙ plain_owner head short;
    }) (sound.own p).claims)
    is)

-- an install in progress has come to the version overwritten only where the transaction commits
release_step : (pl : Place) (t : Attempt) (u : Task) → TaskFits pl t u → (is_decided pl || is_active pl) ≡ true → (is_decided pl && is_commit t.decision) ≡ false → (k : ℕ) → step_of u k < 7
release_step (Active tail) t (task.Ends raised ended step cleared) fits e f k =
    let z = fits.1 in either_way (λ n. n < 7) (eqb k ended) step 0 (λ _. omega (arith, z)) (λ _. omega arith)
release_step (Active tail) t _ fits e f k = omega arith
release_step (Decided tail stamp) t (task.Ends raised ended step cleared) fits e f k =
    either_way (λ n. n < 7) (eqb k ended) step 0
    (λ _.
    ⊎_elim
    (λ (some : 0 < step). let commits : is_commit Commit ≡ false = subst (λ n. is_commit n ≡ false) (fits.1 some).0 f in absurd (cc))
    (λ (none : step ≤ 0). omega (arith, none)) (cases_lt 0 step))
    (λ _. omega arith)
release_step (Decided tail stamp) t _ fits e f k = absurd fits
release_step _ t u fits e f k = absurd (cc)

ending_stays : (pl : Place) → (is_decided pl || is_active pl) ≡ true → NotLeaving pl
ending_stays (Active tail) e = tt
ending_stays (Decided tail stamp) e = tt
ending_stays _ e = absurd (cc)

-- an entry that is released with its old head fits
pub record Released (c : Core) (oid head : ℕ) : Type 0 where
  pub short : head < 2 ^ 24
  pub fits : ObjectFits c.shared.tail (record (c.shared.objects oid) { entry = head })

released_fits : (c : Core) (p oid head k : ℕ) → Sound c → k < length (c.seats p).current.writes → claims_over (c.seats p) ≤ k → step_of (c.seats p).task k < 7
    → oid ≡ (claim_at (c.seats p).current k).version.oid → head ≡ (claim_at (c.seats p).current k).version.cell → Released c oid head
released_fits c p oid head k sound within waits early is_oid is_head = record {
  short = let h = old.cells (newest o) (newest_within c.shared.tail o old) in let e = head_is in omega (arith, h, e);
  fits = object_released c.shared.tail o head head_is (ap (λ n. (version_at o n).words.overwriter) (sym fit.place) ∙ done.no_mark (omega (arith, early)))
      (ap (λ n. (version_at o n).words.overwriter_succ) (sym fit.place) ∙ done.no_succ early) old;
}
  where
    o : Object
    o = c.shared.objects oid

    w : Claim
    w = claim_at (c.seats p).current k

    held : w.held ≡ true
    held = (sound.own p).claims.held k within waits

    fit : ClaimFits p (c.seats p).current.number (c.seats p).current.begin o w
    fit = subst (λ n. ClaimFits p (c.seats p).current.number (c.seats p).current.begin (c.shared.objects n) w) (sym is_oid) ((sound.own p).claims.fit k within held)

    done : InstallFits (c.seats p).current o w (step_of (c.seats p).task k)
    done = subst (λ n. InstallFits (c.seats p).current (c.shared.objects n) w (step_of (c.seats p).task k)) (sym is_oid) ((sound.own p).claims.install k within held)

    old : ObjectFits c.shared.tail o
    old = sound.common.claims.objects oid (let h = (sound.own p).claims.objects k within in omega (arith, h, is_oid))

    head_is : head ≡ (version_at o (newest o)).cell
    head_is = is_head ∙ fit.cell ∙ old.head

-- ABORT, SKIP: the entry is released
release_kept : (c : Core) (p oid head : ℕ) (d : Core) (n : ℕ × ℕ × ℕ × ℕ) (y : Part) → Sound c → EndsAt (c.seats p).task (Some n) → adds_version (c.seats p) ≡ false
    → release_old oid head (c.seats p) n ≡ Some y
    → record { shared = with_object oid (record (c.shared.objects oid) { entry = head }) c.shared; seats = put c.seats p y } ≡ d
    → Kept d
release_kept c p oid head d n y sound at skips e =
    when_then
    (λ z. record { shared = with_object oid (record (c.shared.objects oid) { entry = head }) c.shared; seats = put c.seats p z } ≡ d → Kept d) _ _ y e
    (λ g is.
    let x = c.seats p in
    let g1 = and_parts _ _ g in
    let g2 = and_parts _ _ g1.0 in
    let g3 = and_parts _ _ g2.0 in
    let within : n.1 < length x.current.writes = ltb-true n.1 (length x.current.writes) g3.1 in
    let is_oid : oid ≡ (claim_at x.current n.1).version.oid = eqb-true oid _ g2.1 in
    let is_head : head ≡ (claim_at x.current n.1).version.cell = eqb-true head _ g1.1 in
    let stays = ending_stays x.place g3.0 in
    let over_was : claims_over x ≡ n.1 = over_known x.place x.task (length x.current.writes) stays ∙ at.0 in
    let early : step_of x.task n.1 < 7 = release_step x.place x.current x.task (sound.own p).task.fits g3.0 skips n.1 in
    let waits : claims_over x ≤ n.1 = omega (arith, over_was) in
    let released = released_fits c p oid head n.1 sound within waits early is_oid is_head in
    let u = record (c.shared.objects oid) { entry = head } in
    let there : put c.shared.objects oid u (claim_at x.current n.1).version.oid ≡ u = ap (λ m. put c.shared.objects oid u m) (sym is_oid) ∙ put_same c.shared.objects oid u in
    freed_kept c p _ d oid head u sound
    (subst (λ m. Holds x m) (sym is_oid) (holds_claim x n.1 within ((sound.own p).claims.held n.1 within waits)))
    released.short refl released.fits
    (ended_own c.shared (with_object oid u c.shared) p x _ n (record {
      within = within;
      writes = refl;
      number = refl;
      begin = refl;
      from = stays;
      place = refl;
      old = at.0;
      steps = at.1;
      task_is = refl;
      objects = λ o ne. alike_same (c.shared.objects o) (put c.shared.objects oid u o) (put_other c.shared.objects oid u o (λ same. ne (same ∙ is_oid)));
      unowned = ap (λ (z : Object). owner_of z.entry) there ∙ plain_owner head released.short;
    }) (sound.own p).claims)
    is)

-- CLAIM: without a cell the claim is dropped
unclaim_kept : (c : Core) (p oid head : ℕ) (d : Core) (y : Part) → Sound c → (c.seats p).task ≡ task.Refused → unclaim oid head (c.seats p) ≡ Some y
    → record { shared = with_object oid (record (c.shared.objects oid) { entry = head }) c.shared; seats = put c.seats p y } ≡ d
    → Kept d
unclaim_kept c p oid head d y sound at e =
    when_then
    (λ z. record { shared = with_object oid (record (c.shared.objects oid) { entry = head }) c.shared; seats = put c.seats p z } ≡ d → Kept d) _ _ y e
    (λ g is.
    let x = c.seats p in
    let g1 = and_parts _ _ g in
    let g2 = and_parts _ _ g1.0 in
    let g3 = and_parts _ _ g2.0 in
    let some : 0 < length x.current.writes = ltb-true 0 (length x.current.writes) g3.1 in
    let within : last_claim x.current < length x.current.writes = omega (arith, some) in
    let is_oid : oid ≡ (claim_at x.current (last_claim x.current)).version.oid = eqb-true oid _ g2.1 in
    let is_head : head ≡ (claim_at x.current (last_claim x.current)).version.cell = eqb-true head _ g1.1 in
    let stays = active_stays x.place g3.0 in
    let none : NoEnd x.task = subst NoEnd (sym at) (no_end _ tt) in
    let over_was : claims_over x ≡ 0 = over_known x.place x.task (length x.current.writes) stays ∙ none.ended in
    let step_is = none.step (last_claim x.current) in
    let early : step_of x.task (last_claim x.current) < 7 = omega (arith, step_is) in
    let waits : claims_over x ≤ last_claim x.current = omega (arith, over_was) in
    let released = released_fits c p oid head (last_claim x.current) sound within waits early is_oid is_head in
    let u = record (c.shared.objects oid) { entry = head } in
    let there : put c.shared.objects oid u (claim_at x.current (last_claim x.current)).version.oid ≡ u =
    ap (λ m. put c.shared.objects oid u m) (sym is_oid) ∙ put_same c.shared.objects oid u in
    freed_kept c p _ d oid head u sound
    (subst (λ m. Holds x m) (sym is_oid) (holds_claim x (last_claim x.current) within ((sound.own p).claims.held (last_claim x.current) within waits)))
    released.short refl released.fits
    (drops_own c.shared (with_object oid u c.shared) p x _ (record {
      some = some;
      writes = refl;
      number = refl;
      begin = refl;
      from = stays;
      place = refl;
      old = none;
      new = no_end _ tt;
      objects = λ o ne. alike_same (c.shared.objects o) (put c.shared.objects oid u o) (put_other c.shared.objects oid u o (λ same. ne (same ∙ is_oid)));
      unowned = ap (λ (z : Object). owner_of z.entry) there ∙ plain_owner head released.short;
    }) (sound.own p).claims)
    is)

-- an end's install, or its release
over_kept : (c : Core) (p oid head : ℕ) (d : Core) (o : Option (ℕ × ℕ × ℕ × ℕ)) (y : Part) → Sound c → EndsAt (c.seats p).task o
    → install_claim oid head (c.seats p) o ≡ Some y
    → record { shared = with_object oid (installed head (added head (c.seats p) o) (c.shared.objects oid)) c.shared; seats = put c.seats p y } ≡ d
    → Kept d
over_kept c p oid head d None y sound at e is = absurd (cc)
over_kept c p oid head d (Some n) y sound at e is = by_test (adds_version (c.seats p)) refl e is
  where
    by_test : (b : Bool) → adds_version (c.seats p) ≡ b → (if b then install_new oid head (c.seats p) n else release_old oid head (c.seats p) n) ≡ Some y
        → record {
          shared = with_object oid
              (installed head (if b then Some (record { cell = head; words = own_words (claim_at (c.seats p).current n.1).own }) else None) (c.shared.objects oid)) c.shared;
          seats = put c.seats p y;
        } ≡ d
        → Kept d
    by_test true commits e is = install_new_kept c p oid head d n y sound at e is
    by_test false skips e is = release_kept c p oid head d n y sound at skips e is

by_task : (c : Core) (p oid head : ℕ) (d : Core) (t : Task) (y : Part) → Sound c → (c.seats p).task ≡ t → install oid head (c.seats p) t ≡ Some y
    → record { shared = with_object oid (installed head (added head (c.seats p) (end_of t)) (c.shared.objects oid)) c.shared; seats = put c.seats p y } ≡ d
    → Kept d
by_task c p oid head d task.Refused y sound at e is = unclaim_kept c p oid head d y sound at e is
by_task c p oid head d t y sound at e is = over_kept c p oid head d (end_of t) y sound (subst (λ u. EndsAt u (end_of t)) (sym at) (ends_at t)) e is

pub install_kept : (c : Core) (p oid head : ℕ) (d : Core) → Sound c → Moves c p (kind.Install oid head) d → Kept d
install_kept c p oid head d sound m = by_task c p oid head d (c.seats p).task m.part sound refl m.after (sym m.is)
