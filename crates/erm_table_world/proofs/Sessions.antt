-- Sessions beside the pass: where they stand, and that they stand between two calls.
use Rattle.std.specs.Vec.{with_item}
use Rattle.std.proofs.lemmas.Bool.{cases_eq, cases_lt, or_left}
use Rattle.std.proofs.lemmas.List.{get_or-set_other, get_or-set_same, get_or_append_left, get_or_push, length-append, length-set, set-get_or}
use Rattle.std.proofs.Common.{◌≡◌, ◌≢◌, ℕ, ◌+◌, ◌-◌, ◌<◌, ◌≤◌, ⊎_elim, true, ◌||◌, List, [], ◌∷◌, ◌++◌, length, get_or, set, IfSome, refl, sym, ap, ◌∙◌, subst, arith}
use Rattle.atomic_table.specs.declared.shared.Seat.{Seat}
use Rattle.erm_model.specs.declared.outcome.Phase.TheVariants as phase
use Rattle.erm_model.specs.RowTransaction.{Law}
use Rattle.erm_machine.specs.declared.attempt.Attempt.{Attempt}
use Rattle.erm_machine.specs.declared.part.Part.{Part}
use Rattle.erm_machine.specs.declared.limits.TheConstants.{FLUSH_SEAT}
use Rattle.erm_machine.specs.declared.place.Place.{Place}
use Rattle.erm_machine.specs.declared.place.Place.TheVariants.{Active, Idle, Sealed}
use Rattle.erm_machine.specs.declared.task.Task.{Task}
use Rattle.erm_machine.specs.declared.task.Task.TheVariants as task
use Rattle.erm_machine.specs.Core.{Core, fresh_part}
use Rattle.erm_machine.specs.Facts.{IsCurrent}
use Rattle.erm_machine.specs.Seat.{is_active, is_safe, is_sealed, may_start}
use Rattle.erm_machine.specs.Tasks.{TaskFits}
use Rattle.erm_cells.specs.Calls.{starts_anew}
use Rattle.erm_core_view.specs.Views.{IsBetween, IsQuiet, is_standing, pin_of, shown_by, stand_of, view_of, work_of}
use Rattle.erm_core_view.proofs.Snapshots.{shown_safe, starts_shows}
use Rattle.erm_machine.specs.Words.{is_flusher, is_seat, is_session}
use Rattle.erm_core_steps.proofs.Aborts.{no_flusher}
use Rattle.erm_core_steps.proofs.Quiet.{quiet_after, session_of_few}
use Rattle.erm_core_steps.proofs.Stamps.{size_shown}
use Rattle.erm_rule.specs.declared.view.Book.{Book}
use Rattle.erm_rule.specs.Books.{book}
use Rattle.erm_rule.specs.Hands.{IsKnown}
use Rattle.erm_rule.specs.Steps.{Fits}
use Rattle.erm_rule.specs.Views.{part_of, view}
use Rattle.erm_rule.specs.Went.{IsStillStep, Went, core_of}
use Rattle.erm_session.specs.declared.session.Session.{Session}
use Rattle.erm_session.specs.declared.session.Stage.{Stage}
use Rattle.erm_session.specs.declared.session.Stage.TheVariants as stage
use Rattle.erm_session.specs.Session.{IsSession, StageIs, phase_of, rests_safe}
use Rattle.erm_session.proofs.Snapshots.{rests_is_safe}
use Rattle.erm_world.specs.World.{Opening, size_of}
use Rattle.erm_world.specs.World as world
use Rattle.erm_table_world.specs.declared.table_world.TableWorld.{TableWorld}
use Rattle.erm_table_world.specs.Stands.{AreNew, AreSessions, IsSessionAt, IsStateful, Stands, table_view}
use Rattle.erm_table_world.proofs.Still.{Stayed, went_ran, went_stayed}
use Rattle.erm_table_world.proofs.Wholly.{Ran, known_of, part_is}
use Rattle.erm_core_steps.proofs.Places.{active_between, sealed_between}

active_phase : (pl : Place) (u : Task) (t : Attempt) → is_active pl ≡ true → may_start u ≡ true → phase.Active ≡ world.phase_of (stand_of pl u t)
active_phase (Active tail) u t e starts = sym (ap world.phase_of (starts_shows u t starts))
active_phase _ u t e starts = absurd (cc)

sealed_phase : (pl : Place) (u : Task) (t : Attempt) → is_sealed pl ≡ true → phase.Sealed ≡ world.phase_of (stand_of pl u t)
sealed_phase (Sealed tail stamp) u t e = refl
sealed_phase _ u t e = absurd (cc)

pending_phase : (pl : Place) (u : Task) (t : Attempt) (next : ℕ) → is_active pl ≡ true → u ≡ task.Surveys next → phase.Pending ≡ world.phase_of (stand_of pl u t)
pending_phase (Active tail) u t next e at = sym (ap (λ (v : Task). world.phase_of (shown_by v t)) at)
pending_phase _ u t next e at = absurd (cc)

safe_phase : (pl : Place) (u : Task) (t : Attempt) → is_active pl ≡ true → is_safe u ≡ true → phase.Safe ≡ world.phase_of (stand_of pl u t)
safe_phase (Active tail) u t e safe = sym (ap world.phase_of (shown_safe u t safe))
safe_phase _ u t e safe = absurd (cc)

pub anew_starts : (u : Task) → starts_anew u ≡ true → may_start u ≡ true
anew_starts (task.Cleared oid) e = refl
anew_starts _ e = e

-- a session is in the phase that the view shows
pub phase_shown : (g : Stage) (x : Part) → StageIs g x → phase_of g ≡ world.phase_of (stand_of x.place x.task x.current)
phase_shown stage.Idle x is = sym (ap (λ (p : Place). world.phase_of (stand_of p x.task x.current)) is)
phase_shown (stage.Active t) x is = active_phase x.place x.task x.current is.0 (anew_starts x.task is.1)
phase_shown (stage.Sealed t) x is = sealed_phase x.place x.task x.current is.0
phase_shown (stage.Pending begin next) x is = pending_phase x.place x.task x.current next is.0 is.1
phase_shown (stage.Safe begin) x is = safe_phase x.place x.task x.current is.0 (rests_is_safe x.task is.1)

-- it stands between two calls
idle_between : (pl : Place) (t : Attempt) (u : Task) → pl ≡ Idle → TaskFits pl t u → IsBetween pl u
idle_between Idle t u e fits = fits
idle_between _ t u e fits = absurd (cc)

pending_between : (pl : Place) (u : Task) (next : ℕ) → is_active pl ≡ true → u ≡ task.Surveys next → IsBetween pl u
pending_between (Active tail) u next e at = subst (λ (v : Task). may_start v || is_standing v ≡ true) (sym at) refl
pending_between _ u next e at = absurd (cc)

rests_stands : (u : Task) → rests_safe u ≡ true → may_start u || is_standing u ≡ true
rests_stands task.Safe e = refl
rests_stands (task.SafeFound version) e = refl
rests_stands _ e = absurd (cc)

safe_between : (pl : Place) (u : Task) → is_active pl ≡ true → rests_safe u ≡ true → IsBetween pl u
safe_between (Active tail) u e rests = rests_stands u rests
safe_between _ u e rests = absurd (cc)

pub stage_between : (g : Stage) (x : Part) → StageIs g x → TaskFits x.place x.current x.task → IsBetween x.place x.task
stage_between stage.Idle x is fits = idle_between x.place x.current x.task is fits
stage_between (stage.Active t) x is fits = active_between x.place x.task is.0 (anew_starts x.task is.1)
stage_between (stage.Sealed t) x is fits = sealed_between x.place x.task is.0 is.1
stage_between (stage.Pending begin next) x is fits = pending_between x.place x.task next is.0 is.1
stage_between (stage.Safe begin) x is fits = safe_between x.place x.task is.0 is.1

-- the range of a sealed one is of its block's size, and one that isn't sealed has none
idle_none : (pl : Place) (t : Attempt) → pl ≡ Idle → IsCurrent pl t → t.stamp ≡ 0
idle_none Idle t e current = ap (λ (a : Attempt). a.stamp) current
idle_none _ t e current = absurd (cc)

active_none : (pl : Place) (t : Attempt) → is_active pl ≡ true → IsCurrent pl t → t.stamp ≡ 0
active_none (Active tail) t e current = current.stamp
active_none _ t e current = absurd (cc)

pub stage_sized : (g : Stage) (x : Part) → StageIs g x → IsCurrent x.place x.current → 0 < x.current.stamp → x.current.size ≡ size_of (work_of x.current)
stage_sized stage.Idle x is current some = absurd (let none = idle_none x.place x.current is current in omega (arith, none, some))
stage_sized (stage.Active t) x is current some = absurd (let none = active_none x.place x.current is.0 current in omega (arith, none, some))
stage_sized (stage.Sealed t) x is current some = is.4 ∙ sym (size_shown x.current)
stage_sized (stage.Pending begin next) x is current some = absurd (let none = active_none x.place x.current is.0 current in omega (arith, none, some))
stage_sized (stage.Safe begin) x is current some = absurd (let none = active_none x.place x.current is.0 current in omega (arith, none, some))

-- So the state after steps of a session is one between two calls, where the session stands so.
pub quiet_now : (law : Law) (sessions who : ℕ) (b e : Book) (s : Session) → IsQuiet sessions (core_of b) → world.IsSession (view_of sessions (core_of b)) who → Ran law sessions who b e
    → IsSession s ((core_of e).seats who) → ((core_of b).shared.opening ≤ (core_of e).shared.flushed) × ((core_of e).shared.flushed ≤ (core_of e).shared.tail) → IsQuiet sessions (core_of e)
quiet_now law sessions who b e s quiet session ran is within =
    let own = ran.state.sound.sound.own who in
    let opening : (core_of e).shared.opening ≡ (core_of b).shared.opening = ap (λ (o : Opening). o.tail) ran.opening in
    quiet_after sessions who (core_of b) (core_of e) quiet session ran.others opening (stage_between s.stage ((core_of e).seats who) is.kept.stage own.task.fits)
    (stage_sized s.stage ((core_of e).seats who) is.kept.stage own.ranges.current) (let low = within.0 in omega (arith, opening, low), within.1)

pub quiet_still : (law : Law) (sessions who : ℕ) (b e : Book) (s : Session) → IsQuiet sessions (core_of b) → world.IsSession (view_of sessions (core_of b)) who → Ran law sessions who b e
    → Stayed sessions who (core_of b) (core_of e) → IsSession s ((core_of e).seats who) → IsQuiet sessions (core_of e)
quiet_still law sessions who b e s quiet session ran stayed is =
    let low = quiet.flushed.0 in
    let high = quiet.flushed.1 in
    let tail = stayed.tail in
    let flushed = stayed.flushed in
    quiet_now law sessions who b e s quiet session ran is (omega (arith, low, flushed), omega (arith, high, tail, flushed))

-- the sessions after a call of one of them
pub sessions_after : (ss : List Session) (who : ℕ) (s : Session) (c d : Core) → 0 < who → AreSessions ss c → ((q : ℕ) → q ≢ who → d.seats q ≡ c.seats q) → IsSessionAt s who d → AreSessions (set ss (who - 1) s) d
sessions_after ss who s c d some all others own k e within =
    let place : ℕ = who - 1 in
    let next : who ≡ place + 1 = omega (arith, some) in
    let long : length (set ss place s) ≡ length ss = length-set ss place s in
    let low : k < length ss = omega (arith, within, long) in
    ⊎_elim
    (λ (same : k ≡ place).
    let here : get_or (set ss place s) place e ≡ s = get_or-set_same ss place s e (omega (arith, low, same)) in
    subst (λ (n : ℕ). IsSessionAt (get_or (set ss place s) n e) (n + 1) d) (sym same)
    (subst (λ (z : Session). IsSessionAt z (place + 1) d) (sym here) (subst (λ (n : ℕ). IsSessionAt s n d) next own)))
    (λ (ne : k ≡ place → ⊥).
    let old = all k e low in
    let there : d.seats (k + 1) ≡ c.seats (k + 1) = others (k + 1) (λ at. ne (omega (arith, at, some))) in
    subst (λ (z : Session). IsSessionAt z (k + 1) d) (sym (get_or-set_other ss place k s e ne))
    (let stands : IsSessionAt (get_or ss k e) (k + 1) d = record { seat_is = old.seat_is; is = subst (IsSession (get_or ss k e)) (sym there) old.is } in stands))
    (cases_eq k place)

-- the session of a seat, where a call of it begins
pub record Here {L : Type 0} (law : Law) (w : TableWorld L) (who : ℕ) (s : Session) : Type 0 where
  pub seat : s.seat ≡ who
  pub session : is_session who ≡ true
  pub seated : is_seat who ≡ true
  pub is : IsSession s ((core_of (book w.pass)).seats who)
  pub stands : IsSession s (part_of (view w.pass) s.seat)
  pub part : part_of (view w.pass) s.seat ≡ (core_of (book w.pass)).seats who
  pub phase : phase_of s.stage ≡ world.phase_at (table_view w) who
  pub known : IsKnown (view w.pass)

pub here : {L : Type 0} (law : Law) (w : TableWorld L) (who : ℕ) (s : Session) → Stands law w → world.IsSession (table_view w) who → s ≡ get_or w.sessions.items (who - 1) s → Here law w who s
here law w who s stands session at =
    let some = session.0 in
    let low = session.1 in
    let count = stands.count in
    let b : Book = book w.pass in
    let seat_session : is_session who ≡ true = session_of_few w.count who (core_of b) stands.at.quiet session.0 session.1 in
    let seated : is_seat who ≡ true = or_left (is_session who) (is_flusher who) seat_session in
    let all = stands.sessions (who - 1) s (omega (arith, some, low, count)) in
    let own : IsSessionAt s who (core_of b) =
    subst (λ (n : ℕ). IsSessionAt s n (core_of b)) (omega (arith, some)) (subst (λ (z : Session). IsSessionAt z (who - 1 + 1) (core_of b)) (sym at) all)
    in
    let part : part_of (view w.pass) who ≡ (core_of b).seats who = part_is law b who stands.at.state seated in
    let part_at : part_of (view w.pass) s.seat ≡ (core_of b).seats who = ap (λ (n : ℕ). part_of (view w.pass) n) own.seat_is ∙ part in
    record {
      seat = own.seat_is;
      session = seat_session;
      seated = seated;
      is = own.is;
      stands = subst (IsSession s) (sym part_at) own.is;
      part = part_at;
      phase = phase_shown s.stage ((core_of b).seats who) own.is.kept.stage;
      known = known_of law b stands.at.state;
    }

-- the world after a call of a session
abbrev pub after_call : {L : Type 0} → TableWorld L → ℕ → Seat (Unit {0}) Book → Session → TableWorld L
after_call w who pass s = record w { pass = pass; sessions = with_item w.sessions (who - 1) s }

pub record Called {L : Type 0} (law : Law) (w : TableWorld L) (who : ℕ) (pass : Seat (Unit {0}) Book) (s : Session) : Type 0 where
  pub fits : Fits w.table.words.shared.table_id pass
  pub ran : Ran law w.count who (book w.pass) (book pass)
  pub quiet : IsQuiet w.count (core_of (book pass))
  pub seat : s.seat ≡ who
  pub is : IsSession s ((core_of (book pass)).seats who)

pub called : {L : Type 0} (law : Law) (w : TableWorld L) (who : ℕ) (pass : Seat (Unit {0}) Book) (s : Session) → Stands law w → world.IsSession (table_view w) who → Called law w who pass s → Stands law (after_call w who pass s)
called law w who pass s stands session call = record {
  fits = call.fits;
  at = record { state = call.ran.state; quiet = call.quiet; covered = call.ran.covered (session_of_few w.count who (core_of (book w.pass)) stands.at.quiet session.0 session.1) stands.at.covered; starts = ap (λ (x : Part). starts_anew x.task) (call.ran.others FLUSH_SEAT (λ same. no_flusher who (session_of_few w.count who (core_of (book w.pass)) stands.at.quiet session.0 session.1) (sym same))) ∙ stands.at.starts };
  count = length-set w.sessions.items (who - 1) s ∙ stands.count;
  sessions =
      sessions_after w.sessions.items who s (core_of (book w.pass)) (core_of (book pass)) session.0 stands.sessions call.ran.others
      (record { seat_is = call.seat; is = call.is });
  pin = subst (λ (x : Part). IfSome (pin_of x.place x.current) (λ place. w.pin ≡ place)) (sym (call.ran.others FLUSH_SEAT (λ same. no_flusher who (session_of_few w.count who (core_of (book w.pass)) stands.at.quiet session.0 session.1) (sym same)))) stands.pin;
}

-- the own session after the call, where it is that of the view
pub is_now : (law : Law) (e : Book) (who seat : ℕ) (s : Session) → IsStateful law e → is_seat who ≡ true → seat ≡ who → IsSession s (part_of e.view seat) → IsSession s ((core_of e).seats who)
is_now law e who seat s state seated same is =
    subst (IsSession s) (ap (λ (n : ℕ). part_of e.view n) same ∙ part_is law e who state seated) is

-- one more session of a seat that has done nothing
pub new_more : (run : ℕ) (ss : List Session) (s : Session) → AreNew run ss → s.seat ≡ length ss + 1 → ((tail : ℕ) → IsSession s (fresh_part Idle run tail)) → AreNew run (ss ++ s ∷ [])
new_more run ss s all seat new k d within =
    let long : length (ss ++ s ∷ []) ≡ length ss + length (s ∷ []) = length-append ss (s ∷ []) in
    ⊎_elim
    (λ (below : k < length ss).
    subst (λ (z : Session). (z.seat ≡ k + 1) × ((tail : ℕ) → IsSession z (fresh_part Idle run tail))) (sym (get_or_append_left ss (s ∷ []) d k below)) (all k d below))
    (λ (above : length ss ≤ k).
    let last : k ≡ length ss = omega (arith, within, long, above) in
    subst (λ (z : Session). (z.seat ≡ k + 1) × ((tail : ℕ) → IsSession z (fresh_part Idle run tail)))
    (sym (get_or_push ss s d k (sym last))) (omega (arith, seat, last), new))
    (cases_lt k (length ss))

-- a call that leaves what its session keeps
pub called_same : {L : Type 0} (law : Law) (w : TableWorld L) (who : ℕ) (pass : Seat (Unit {0}) Book) (s : Session) → Stands law w → world.IsSession (table_view w) who
    → s ≡ get_or w.sessions.items (who - 1) s → Called law w who pass s → Stands law (record w { pass = pass })
called_same law w who pass s stands session at call =
    let after = called law w who pass s stands session call in
    let same : set w.sessions.items (who - 1) s ≡ w.sessions.items =
    ap (λ (z : Session). set w.sessions.items (who - 1) z) at ∙ set-get_or w.sessions.items (who - 1) s
    in
    record {
      fits = after.fits;
      at = after.at;
      count = stands.count;
      sessions = subst (λ (ss : List Session). AreSessions ss (core_of (book pass))) same after.sessions;
      pin = after.pin;
    }

-- A CALL of steps that leave the log's end and the place flushed
pub record StillCall {L : Type 0} (law : Law) (w : TableWorld L) (who : ℕ) (pass : Seat (Unit {0}) Book) (t : Session) : Type 0 where
  pub ran : Ran law w.count who (book w.pass) (book pass)
  pub stayed : Stayed w.count who (core_of (book w.pass)) (core_of (book pass))
  pub stands : Stands law (after_call w who pass t)

pub still_call : {L : Type 0} (law : Law) (w : TableWorld L) (who : ℕ) (s t : Session) (pass : Seat (Unit {0}) Book) → Stands law w → world.IsSession (table_view w) who
    → s ≡ get_or w.sessions.items (who - 1) s → Fits w.table.words.shared.table_id pass → t.seat ≡ s.seat → IsSession t (part_of (view pass) s.seat)
    → Went law s.seat IsStillStep (book w.pass) (book pass) → StillCall law w who pass t
still_call law w who s t pass stands session same fits seat is steps =
    let at = here law w who s stands session same in
    let b : Book = book w.pass in
    let e : Book = book pass in
    let went = subst (λ (n : ℕ). Went law n IsStillStep b e) at.seat steps in
    let ran = went_ran law w.count who IsStillStep b e went stands.at.state in
    let stayed = went_stayed law w.count who b e went stands.at.state in
    let now = is_now law e who s.seat t ran.state at.seated at.seat is in
    record {
      ran = ran;
      stayed = stayed;
      stands =
          called law w who pass t stands session
          (record { fits = fits; ran = ran; quiet = quiet_still law w.count who b e t stands.at.quiet session ran stayed now; seat = seat ∙ at.seat; is = now });
    }
