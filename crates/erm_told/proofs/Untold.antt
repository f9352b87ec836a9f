-- A commit that waits draws its stamp at its line: what the lines before it tell lies below, and what those behind it tell above.
use Rattle.std.proofs.Common.{◌≡◌, ℕ, zero, suc, ◌+◌, ◌<◌, ◌≤◌, List, [], ◌∷◌, ◌++◌, take, drop, slice_get, IfSome, Option, Some, None, refl, sym, ap, ◌∙◌, subst, ⊎_elim, arith}
use Rattle.erm_model.specs.declared.limits.TheConstants.{LEAST_BLOCK}
use Rattle.erm_model.specs.Member.{◌∈◌}
use Rattle.erm_model.proofs.Members.{∈-behind}
use Rattle.erm_report.specs.declared.answer.Answer.{Answer}
use Rattle.erm_report.specs.declared.answer.Answer.TheVariants as answer
use Rattle.erm_script.specs.declared.script.Command.{Command}
use Rattle.erm_script.specs.declared.script.Command.TheVariants as command
use Rattle.erm_script.specs.declared.script.ScriptLine.{ScriptLine}
use Rattle.erm_world.specs.World.{IsSession, Session, Stand, View, phase_at, work_at, work_of}
use Rattle.erm_world.specs.World as world
use Rattle.erm_good_report.specs.Phases.{Closed, FitsRefusal, need_of, refusal_in, refusal_of}
use Rattle.erm_good_report.specs.Stamps.{DrawsUntold, IsWait, LiesAbove, LiesBelow, begin_told, place_told, stamp_drawn}
use Rattle.erm_good_report.specs.Transactions.{Said, Transaction, progress_of, said_of, stamp_of}
use Rattle.erm_good_report.proofs.Phases.{phase_refuses}
use Rattle.erm_good_report.proofs.Places.{Place, place_at, said_by}
use Rattle.erm_lines.specs.Answers.{DidAsked, DidCommit, DidDecide, DidIn, DidLine, DidOfSnapshot}
use Rattle.erm_lines.specs.Executions.{AreClosed, DidLog, DidLogLine, DidMove, IsCourse, line_moves, move_of}
use Rattle.erm_lines.specs.Laws.{ExecutionsGoOn, ExecutionsTell}
use Rattle.erm_lines.specs.Told.{TellsNow, TellsWork}
use Rattle.erm_lines.proofs.Moved.{moved}
use Rattle.erm_lines.proofs.Watched.{in_phase}
use Rattle.erm_told.proofs.Drawing.{commit_fits}
use Rattle.erm_told.proofs.Ended.{opening_is, reported, stamp_later}
use Rattle.erm_told.proofs.Endings.{if_told}
use Rattle.erm_told.proofs.Executed.{still_session}
use Rattle.erm_told.proofs.Runs.{AtLine, executed_both}
use Rattle.erm_told.proofs.Sealing.{line_tells, there as line_there}
use Rattle.erm_told.proofs.Timing.{Earlier, Later, all_earlier, all_later}

-- PLACES of a report, before and behind one of them
taken : (script : List ScriptLine) (answers : List Answer) (i j : ℕ) (s : Said) → j < i → slice_get (said_of script answers) j ≡ Some s → s ∈ said_of (take i script) (take i answers)
taken [] answers i j s before at = absurd (cc)
taken (l ∷ script) [] i j s before at = absurd (cc)
taken (l ∷ script) (a ∷ answers) zero j s before at = absurd (omega (arith, before))
taken (l ∷ script) (a ∷ answers) (suc i) zero s before at = (zero, at)
taken (l ∷ script) (a ∷ answers) (suc i) (suc j) s before at =
    ∈-behind (said_by l a) (said_of (take i script) (take i answers)) s (taken script answers i j s (omega (arith, before)) at)

left : (script : List ScriptLine) (answers : List Answer) (i j : ℕ) (s : Said) → i < j → slice_get (said_of script answers) j ≡ Some s → s ∈ said_of (drop (suc i) script) (drop (suc i) answers)
left [] answers i j s behind at = absurd (cc)
left (l ∷ script) [] i j s behind at = absurd (cc)
left (l ∷ script) (a ∷ answers) i zero s behind at = absurd (omega (arith, behind))
left (l ∷ script) (a ∷ answers) zero (suc j) s behind at = (j, at)
left (l ∷ script) (a ∷ answers) (suc i) (suc j) s behind at = left script answers i j s (omega (arith, behind)) at

-- THE COMMIT. A wait is no refusal by the phase: it was sealed, and stays so.
no_refusal : (a : Answer) → IsWait a → refusal_in a ≡ None
no_refusal (answer.WaitSeat seat seen) waits = refl
no_refusal (answer.WaitRing flushed) waits = refl
no_refusal a waits = absurd waits

wait_still : (v : View) (seat : ℕ) (a : Answer) (t : View) → IsWait a → DidDecide v seat a t → t ≡ v
wait_still v seat (answer.WaitSeat other seen) t waits did = did.0
wait_still v seat (answer.WaitRing flushed) t waits did = did.0
wait_still v seat a t waits did = absurd waits

asked_did : (v : View) (seat : ℕ) (c : Command) (a : Answer) (t : View) (refusal : Option Answer) → refusal_of (phase_at v seat) c ≡ refusal → FitsRefusal refusal c a → refusal_in a ≡ None
    → DidAsked refusal v seat c a t → DidIn (phase_at v seat) v seat c a t
asked_did v seat c a t None is fits none did = did
asked_did v seat c a t (Some r) is fits none did =
    let kind : refusal_in a ≡ Some a = subst (λ (x : Answer). refusal_in x ≡ Some x) (sym fits) (phase_refuses (need_of c) (phase_at v seat) r is) in
    let both : None ≡ Some a = sym none ∙ kind in
    absurd (cc)

-- a snapshot's commit doesn't wait
never_waits : (v : View) (seat : ℕ) (a : Answer) (t : View) → IsWait a → DidOfSnapshot v seat command.Commit a t → ⊥
never_waits v seat (answer.WaitSeat other seen) t waits did = did
never_waits v seat (answer.WaitRing flushed) t waits did = did
never_waits v seat a t waits did = waits

commit_by : (v : View) (l : ScriptLine) (a : Answer) (t : View) → l.command ≡ command.Commit → IsWait a → DidMove v (move_of l a) t → IsSession v l.session × DidCommit v l.session a t
commit_by v l a t asks waits did =
    ⊎_elim
    (λ (of_session : DidLine v l a t).
    let by = asked_did v l.session l.command a t (refusal_of (phase_at v l.session) l.command) refl of_session.fits (no_refusal a waits) of_session.did in (
      of_session.session,
      in_phase (DidCommit v l.session a t) v t l.session command.Commit a (λ plain did. did) (λ rests did. absurd (never_waits v l.session a t waits did))
          (subst (λ (c : Command). DidIn (phase_at v l.session) v l.session c a t) asks by),
    ))
    (λ (of_log : DidLogLine v l a t). absurd (subst (λ (c : Command). DidLog v c a t) asks of_log.did))
    (moved v l a t did)

-- the transaction that the lines before tell is the session's
tells_work : (seat : ℕ) (t : Transaction) (stand : Stand) → TellsNow seat (Some t) stand → TellsWork seat t (work_of stand)
tells_work seat t world.idle tells = absurd tells
tells_work seat t (world.active w) tells = tells.0.work
tells_work seat t (world.sealed w stamp) tells = tells.0.work
tells_work seat t (world.snapshot s) tells = absurd tells

-- the stamp that is told of it later is the end of the log before the line, and the block goes behind it
pub record Drawn (stamp m n : ℕ) : Type 0 where
  pub begins : stamp ≡ m
  pub fits : stamp + LEAST_BLOCK ≤ n

told_then : (o : Option ℕ) (P : ℕ → Type 0) (n : ℕ) → IfSome o P → o ≡ Some n → P n
told_then o P n is some = subst (λ (x : Option ℕ). IfSome x P) some is

module _ (tell : ExecutionsTell) (go : ExecutionsGoOn) (v t : View) (script : List ScriptLine) (answers : List Answer) (run : IsCourse v script answers t)
    (closed : List Closed) (are : AreClosed run.closing closed) (i stamp : ℕ)
    (drawn : DrawsUntold (reported tell go v t script answers run closed are) (said_of script answers) i stamp) where
  pub place : Place script answers i drawn.line
  place = place_at script answers i drawn.line drawn.at

  abbrev pub there : AtLine v script answers run.between i place.line place.given
  there = line_there tell go v t script answers run closed are i place.line place.given place.at place.answered

  pub asks : place.line.command ≡ command.Commit
  asks = the_command (ap (λ (s : Said). s.asked) place.is ∙ drawn.asks)
    where
      the_command : Some place.line.command ≡ Some command.Commit → place.line.command ≡ command.Commit
      the_command is = cc

  waits : IsWait place.given
  waits = subst IsWait (sym (ap (λ (s : Said). s.answer) place.is)) drawn.waits

  opening_before : there.before.opening ≡ v.opening
  opening_before = (go v there.before (line_moves (take i script) (take i answers)) there.start).0

  pub drawn_there : Drawn stamp there.before.tail there.after.tail
  drawn_there =
      let l = place.line in
      let seat = l.session in
      let both = commit_by there.before l place.given there.after asks waits there.did in
      let did = both.1 in
      let work = work_at there.before seat in
      let session : IsSession v seat = still_session there.before v seat (sym opening_before) both.0 in
      let still : there.after ≡ did.between = wait_still did.between seat place.given there.after waits did.decided in
      let stand : (there.after.session seat).stand ≡ world.sealed work did.stamp =
      ap (λ (x : View). (x.session seat).stand) still ∙ ap (λ (s : Session). s.stand) did.sealed.own in
      let rest = line_moves (drop (suc i) script) (drop (suc i) answers) in
      let onward = go there.after t (rest ++ run.closing) (executed_both rest run.closing there.after run.between t there.rest run.closes) in
      let opening_after : there.after.opening ≡ v.opening = sym onward.0 ∙ opening_is tell go v t script answers run closed are in
      let own_session : drawn.line.session ≡ seat = ap (λ (s : Said). s.session) (sym place.is) in
      let tells = line_tells tell go v t script answers run closed are i l place.given place.at place.answered seat session in
      let current : (progress_of seat (take i (said_of script answers))).current ≡ Some drawn.own =
      subst (λ (q : ℕ). (progress_of q (take i (said_of script answers))).current ≡ Some drawn.own) own_session drawn.current in
      let own = tells_work seat drawn.own (there.before.session seat).stand (subst (λ (o : Option Transaction). TellsNow seat o (there.before.session seat).stand) current tells.0.now) in
      let told = stamp_later tell go v t script answers run closed are seat (still_session v t seat (opening_is tell go v t script answers run closed are) session) (there.after.session seat)
      (onward.2 seat (still_session v there.after seat opening_after session)) work did.stamp stand drawn.whole drawn.of (drawn.same.0 ∙ own.session) (drawn.same.1 ∙ own.number) in
      let same : stamp ≡ did.stamp = told_then (stamp_of drawn.whole) (λ n. n ≡ did.stamp) stamp told drawn.told in
      record { begins = same ∙ did.sealed.stamp_is; fits = omega (arith, same, commit_fits there.before seat place.given there.after did) }

  pub untold_below : (j : ℕ) (s : Said) → j < i → slice_get (said_of script answers) j ≡ Some s → LiesBelow s stamp
  untold_below j s before at =
      let earlier : Earlier there.before.tail s = all_earlier go (take i script) (take i answers) v there.before there.start s (taken script answers i j s before at) in record {
        begin = if_told (begin_told s.answer) (λ begin. begin ≤ stamp) (λ begin told. omega (arith, earlier.begin begin told, drawn_there.begins));
        place = if_told (place_told s.answer) (λ place. place ≤ stamp) (λ place told. omega (arith, earlier.placed place told, drawn_there.begins));
        drawn = if_told (stamp_drawn s.asked s.answer) (λ first. first + LEAST_BLOCK ≤ stamp) (λ first told. omega (arith, earlier.drawn first told, drawn_there.begins));
      }

  pub untold_above : (j : ℕ) (s : Said) → i < j → slice_get (said_of script answers) j ≡ Some s → LiesAbove s stamp
  untold_above j s behind at =
      let later : Later there.after.tail s = all_later go (drop (suc i) script) (drop (suc i) answers) there.after run.between there.rest s (left script answers i j s behind at) in record {
        begin = if_told (begin_told s.answer) (λ begin. stamp + LEAST_BLOCK ≤ begin) (λ begin told. omega (arith, later.begin begin told, drawn_there.fits));
        drawn = if_told (stamp_drawn s.asked s.answer) (λ next. stamp + LEAST_BLOCK ≤ next) (λ next told. omega (arith, later.drawn next told, drawn_there.fits));
      }
