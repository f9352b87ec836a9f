-- What the report of an execution at once tells of its sessions: their transactions, their phases, and which of them are closed.
use Rattle.std.proofs.Common.{◌≡◌, ◌≢◌, ◌⊎◌, ℕ, zero, suc, ◌==◌, ◌<◌, Bool, true, not, cond, List, [], ◌∷◌, ◌++◌, map, take, drop, filter, fold, slice_get, Option, Some, None, refl, sym, ap, ◌∙◌, subst, inl, inr, ⊎_elim, eq-eqb, ne_eqb, arith, ◌≤◌, le_trans}
use Rattle.std.specs.List.{range_with_len}
use Rattle.std.proofs.lemmas.Bool.{cases_eq}
use Rattle.erm_model.specs.declared.outcome.Phase.{Phase}
use Rattle.erm_model.specs.declared.outcome.Phase.TheVariants.{Idle, Active, Sealed, Pending, Safe}
use Rattle.erm_model.specs.Member.{◌∈◌}
use Rattle.erm_model.specs.Run.{Step}
use Rattle.erm_model.proofs.Members.{none_in_nil, ∈-behind}
use Rattle.erm_machine.proofs.Listed.{∈-cons, ∈-filter, ∈-filter_from, ∈-head, ∈-map, ∈-map_from}
use Rattle.erm_report.specs.declared.answer.Answer.{Answer}
use Rattle.erm_script.specs.declared.script.Command.{Command}
use Rattle.erm_script.specs.declared.script.Command.TheVariants as command
use Rattle.erm_script.specs.declared.script.ScriptLine.{ScriptLine}
use Rattle.erm_world.specs.Going.{Extends}
use Rattle.erm_world.specs.World.{IsSession, Opening, Session, View, Work, phase_at}
use Rattle.erm_world.specs.World as world
use Rattle.erm_maps.specs.Runs.{IsAnswered}
use Rattle.erm_good_report.specs.GoodReport.{places_of}
use Rattle.erm_good_report.specs.Phases.{Closed, Closes, ClosesAgree, FitsPhase, FitsSnapshot, is_idle, phase_after, phase_of}
use Rattle.erm_good_report.specs.Transactions.{Progress, Said, heard, nothing, progress_of, said_of}
use Rattle.erm_lines.specs.Executions.{Move, close, flush, line, line_moves, log, move_as, move_of, said_in}
use Rattle.erm_lines.specs.Told.{Continues, Tells}
use Rattle.erm_lines.proofs.Keeping.{NoneRuns}
use Rattle.erm_beside.specs.Calls.{Passes}
use Rattle.erm_told.proofs.Closing.{close_said, found_closed}
use Rattle.erm_told.proofs.Executed.{Knows, hears, knows_start, knows_still, still_session, turns}
use Rattle.erm_told.proofs.Going.{continues_itself, continues_then}
use Rattle.erm_told.proofs.Pairs.{Pairs, pairs_of}
use Rattle.erm_told.proofs.Ranges.{in_range, in_range_from, pairs_filter, pairs_map, pairs_range, same_list}
use Rattle.erm_told.proofs.Runs.{said_both, said_first, said_lines}
use Rattle.erm_lines_at_once.specs.Answers.{DidEndBeside, DidLineBeside}
use Rattle.erm_lines_at_once.specs.Executions.{DidOwn, IsOwnRun, IsRunAtOnce, all_moves, is_own}
use Rattle.erm_lines_at_once.specs.Laws.{RunsAtOnceCloseSessions}
use Rattle.erm_lines_at_once.specs.Parts.{IsRunInPart, RunsInPartHavePhases, RunsInPartTell}
use Rattle.erm_lines_at_once.proofs.Parts.{in_part}
use Rattle.erm_told_at_once.proofs.Lines.{turns_end, turns_line}
use Rattle.erm_told_at_once.proofs.Phases.{line_looks}
use Rattle.erm_told_at_once.proofs.Turns.{Onward, Turns, onward_itself, onward_passes, onward_then}

-- a session that has no transaction yet
pub first_known : (seat : ℕ) (v : View) → v.session seat ≡ record { over = []; stand = world.idle } → Knows seat nothing Idle v
first_known seat v is = knows_start v seat is

-- a move of this session, or of another
abbrev pub OwnOr : ℕ → ℕ → Option Command → Answer → View → View → Type 0
OwnOr seat at asked a v t = ((at ≡ seat) × Turns seat asked a v t) ⊎ ((at ≢ seat) × (t ≡ v))

knows_step : (seat at : ℕ) (asked : Option Command) (a : Answer) (p : Progress) (phase : Phase) (v t : View) → OwnOr seat at asked a v t → Knows seat p phase v
    → Knows seat (cond (at == seat) (heard seat asked a p) p) (cond (at == seat) (phase_after asked a phase) phase) t
knows_step seat at asked a p phase v t (inl (is, turn)) knows =
    subst (λ (b : Bool). Knows seat (cond b (heard seat asked a p) p) (cond b (phase_after asked a phase) phase) t) (sym (eq-eqb at seat is)) (record {
      told = turn.took.tells p knows.told;
      phase_is = ap (λ (x : Phase). phase_after asked a x) knows.phase_is ∙ turn.took.phase;
    })
knows_step seat at asked a p phase v t (inr (another, is)) knows =
    subst (λ (b : Bool). Knows seat (cond b (heard seat asked a p) p) (cond b (phase_after asked a phase) phase) t) (sym (ne_eqb at seat another))
    (knows_still seat p phase v t (ap (λ (u : View). u.session seat) is) (ap (λ (u : View). u.saves seat) is) knows)

-- the session went on, in a log that did
pub record OwnGoes (seat : ℕ) (v t : View) : Type 0 where
  pub onward : Onward v t
  pub goes : Continues (v.session seat) (t.session seat)

goes_passes : (seat : ℕ) (v t : View) → Passes seat v t → OwnGoes seat v t
goes_passes seat v t passes = record { onward = onward_passes seat v t passes; goes = continues_itself (v.session seat) (t.session seat) passes.own }

goes_step : (seat at : ℕ) (asked : Option Command) (a : Answer) (v t : View) → OwnOr seat at asked a v t → OwnGoes seat v t
goes_step seat at asked a v t (inl (is, turn)) = record { onward = turn.onward; goes = turn.took.goes }
goes_step seat at asked a v t (inr (another, is)) = goes_same v t is
  where
    goes_same : (v t : View) → t ≡ v → OwnGoes seat v t
    goes_same v t is = record {
      onward = subst (λ (u : View). Onward v u) (sym is) (onward_itself v);
      goes = continues_itself (v.session seat) (t.session seat) (ap (λ (u : View). u.session seat) is);
    }

pub own_goes_then : (seat : ℕ) (v u t : View) → OwnGoes seat v u → OwnGoes seat u t → OwnGoes seat v t
own_goes_then seat v u t first second = record {
  onward = onward_then v u t first.onward second.onward;
  goes = continues_then (v.session seat) (u.session seat) (t.session seat) first.goes second.goes;
}

-- nothing happened
pub passes_itself : (seat : ℕ) (v : View) → Passes seat v v
passes_itself seat v = record { own = refl; opening = refl; tail = omega arith; flushed = omega arith; given_up = refl; saves = refl }

-- moves in two parts
pub own_split : (f : View) (seat : ℕ) (xs ys : List Move) (v t : View) → IsOwnRun f seat v (xs ++ ys) t → (u : View) × IsOwnRun f seat v xs u × IsOwnRun f seat u ys t
own_split f seat [] ys v t run = (v, passes_itself seat v, run)
own_split f seat (move ∷ xs) ys v t (u, w, passes, did, rest) =
    let (m, first, second) = own_split f seat xs ys w t rest in (m, (u, w, passes, did, first), second)

-- THE MOVE OF A LINE is its session's own
own_as : (f : View) (seat : ℕ) (l : ScriptLine) (a : Answer) (v t : View) (c : Command) → l.session ≡ seat → DidOwn (is_own seat (move_as c l a)) f seat (move_as c l a) v t → DidLineBeside f l a v t
own_as f seat l a v t command.Flush is did = absurd (subst (λ (b : Bool). DidOwn b f seat (log l a) v t) (eq-eqb l.session seat is) did)
own_as f seat l a v t command.Checkpoint is did = absurd (subst (λ (b : Bool). DidOwn b f seat (log l a) v t) (eq-eqb l.session seat is) did)
own_as f seat l a v t c is did = (subst (λ (b : Bool). DidOwn b f seat (line l a) v t) (eq-eqb l.session seat is) did).1

pub own_line : (f : View) (seat : ℕ) (l : ScriptLine) (a : Answer) (v t : View) → l.session ≡ seat → DidOwn (is_own seat (move_of l a)) f seat (move_of l a) v t → DidLineBeside f l a v t
own_line f seat l a v t is did = own_as f seat l a v t l.command is did

other_as : (f : View) (seat : ℕ) (l : ScriptLine) (a : Answer) (v t : View) (c : Command) → l.session ≢ seat → DidOwn (is_own seat (move_as c l a)) f seat (move_as c l a) v t → t ≡ v
other_as f seat l a v t command.Flush another did = subst (λ (b : Bool). DidOwn b f seat (log l a) v t) (ne_eqb l.session seat another) did
other_as f seat l a v t command.Checkpoint another did = subst (λ (b : Bool). DidOwn b f seat (log l a) v t) (ne_eqb l.session seat another) did
other_as f seat l a v t c another did = subst (λ (b : Bool). DidOwn b f seat (line l a) v t) (ne_eqb l.session seat another) did

pub other_line : (f : View) (seat : ℕ) (l : ScriptLine) (a : Answer) (v t : View) → l.session ≢ seat → DidOwn (is_own seat (move_of l a)) f seat (move_of l a) v t → t ≡ v
other_line f seat l a v t another did = other_as f seat l a v t l.command another did

own_close : (f : View) (seat at : ℕ) (a : Answer) (v t : View) → at ≡ seat → DidOwn (is_own seat (close at a)) f seat (close at a) v t → DidEndBeside at a v t
own_close f seat at a v t is did = (subst (λ (b : Bool). DidOwn b f seat (close at a) v t) (eq-eqb at seat is) did).1

other_close : (f : View) (seat at : ℕ) (a : Answer) (v t : View) → at ≢ seat → DidOwn (is_own seat (close at a)) f seat (close at a) v t → t ≡ v
other_close f seat at a v t another did = subst (λ (b : Bool). DidOwn b f seat (close at a) v t) (ne_eqb at seat another) did

-- the moves of sessions that are closed
abbrev pub close_of : Closed → Move
close_of c = close c.session c.answer

-- A session that isn't closed stays as it was.
not_closed : (f : View) (seat : ℕ) (cs : List Closed) (u t : View) → IsOwnRun f seat u (map close_of cs) t → ((c : Closed) → c ∈ cs → c.session ≢ seat) → t.session seat ≡ u.session seat
not_closed f seat [] u t passes none = passes.own
not_closed f seat (c ∷ cs) u t (x, w, passes, did, rest) none =
    not_closed f seat cs w t rest (λ d m. none d (∈-behind c cs d m))
    ∙ ap (λ (y : View). y.session seat) (other_close f seat c.session c.answer x w (none c (∈-head c cs)) did) ∙ passes.own

-- one that is was closed as it says, where the lines left it
pub is_closed : (f : View) (seat : ℕ) (cs : List Closed) (u t : View) (c : Closed) → Pairs (λ (a b : Closed). a.session < b.session) cs → IsOwnRun f seat u (map close_of cs) t → c ∈ cs → c.session ≡ seat
    → Closes (phase_at u seat) c.answer
is_closed f seat [] u t c ascend own m same = absurd (none_in_nil c m)
is_closed f seat (d ∷ cs) u t c ascend (x, w, passes, did, rest) m same =
    ⊎_elim
    (λ (here : d ≡ c).
    let mine : d.session ≡ seat = ap (λ (e : Closed). e.session) here ∙ same in
    let ends = own_close f seat d.session d.answer x w mine did in
    subst (λ (e : Closed). Closes (phase_at u seat) e.answer) here
    (subst (λ (s : Session). Closes (world.phase_of s.stand) d.answer) (ap x.session mine ∙ passes.own) ends.fits))
    (λ (later : c ∈ cs).
    let another : d.session ≢ seat = λ is. omega (arith, ascend.0 c later, is, same) in
    let stays : w.session seat ≡ u.session seat = ap (λ (y : View). y.session seat) (other_close f seat d.session d.answer x w another did) ∙ passes.own in
    subst (λ (s : Session). Closes (world.phase_of s.stand) c.answer) stays (is_closed f seat cs w t c ascend.1 rest later same))
    (∈-cons c d cs m)

closes_say : (cs : List Closed) → said_in (map close_of cs) ≡ map close_said cs
closes_say [] = refl
closes_say (c ∷ cs) = ap (λ (said : List Said). close_said c ∷ said) (closes_say cs)

pub all_say : (script : List ScriptLine) (answers : List Answer) (cs : List Closed) → said_in (all_moves script answers cs) ≡ places_of script answers cs
all_say script answers cs =
    said_both (line_moves script answers) (map close_of cs)
    ∙ ap (λ (first : List Said). first ++ said_in (map close_of cs)) (said_lines script answers)
    ∙ ap (λ (second : List Said). said_of script answers ++ second) (closes_say cs)

-- THE OWN LINE at a place of the script: the views in which it was run, and the moves before and behind it
pub record OwnAt (f : View) (seat : ℕ) (v : View) (script : List ScriptLine) (answers : List Answer) (t : View) (i : ℕ) (l : ScriptLine) (a : Answer) : Type 0 where
  pub before : View
  pub after : View
  pub start : IsOwnRun f seat v (line_moves (take i script) (take i answers)) before
  pub did : DidLineBeside f l a before after
  pub rest : IsOwnRun f seat after (line_moves (drop (suc i) script) (drop (suc i) answers)) t

pub own_at : (f : View) (seat : ℕ) (script : List ScriptLine) (answers : List Answer) (v t : View) (i : ℕ) (l : ScriptLine) (a : Answer) → l.session ≡ seat
    → IsOwnRun f seat v (line_moves script answers) t → slice_get script i ≡ Some l → slice_get answers i ≡ Some a → OwnAt f seat v script answers t i l a
own_at f seat [] answers v t i l a own run at answered = absurd (cc)
own_at f seat (k ∷ script) [] v t i l a own run at answered = absurd (cc)
own_at f seat (k ∷ script) (b ∷ answers) v t zero l a own (u, w, passes, did, rest) at answered =
    let line_is : k ≡ l = the_line k l at in
    let answer_is : b ≡ a = the_answer b a answered in record {
      before = u;
      after = w;
      start = passes;
      did = own_line f seat l a u w own
          (subst (λ (x : ScriptLine). DidOwn (is_own seat (move_of x a)) f seat (move_of x a) u w) line_is
          (subst (λ (x : Answer). DidOwn (is_own seat (move_of k x)) f seat (move_of k x) u w) answer_is did));
      rest = rest;
    }
  where
    the_line : (x y : ScriptLine) → Some x ≡ Some y → x ≡ y
    the_line x y is = cc

    the_answer : (x y : Answer) → Some x ≡ Some y → x ≡ y
    the_answer x y is = cc
own_at f seat (k ∷ script) (b ∷ answers) v t (suc i) l a own (u, w, passes, did, rest) at answered =
    let later = own_at f seat script answers w t i l a own rest at answered in record {
      before = later.before;
      after = later.after;
      start = (u, w, passes, did, later.start);
      did = later.did;
      rest = later.rest;
    }

-- a line of a session's own part, in which the session stands as the answers before it tell
pub record LineThere (f : View) (script : List ScriptLine) (answers : List Answer) (i : ℕ) (l : ScriptLine) (a : Answer) : Type 0 where
  pub before : View
  pub after : View
  pub did : DidLineBeside f l a before after
  pub knows : Knows l.session (progress_of l.session (take i (said_of script answers))) (phase_of l.session (take i (said_of script answers))) before
  pub within : after.tail ≤ f.tail
  pub goes : Continues (after.session l.session) (f.session l.session)

module _ (runs : NoneRuns) (stay : (w u : Work) (steps : List Step) → Extends w u → IsAnswered w steps → IsAnswered u steps) where
  line_or : (f : View) (seat : ℕ) (l : ScriptLine) (a : Answer) (v t : View) → DidOwn (is_own seat (line l a)) f seat (line l a) v t → OwnOr seat l.session (Some l.command) a v t
  line_or f seat l a v t did = elim (cases_eq l.session seat) as (λ _. OwnOr seat l.session (Some l.command) a v t) [
    | inl is ↦
        let own = subst (λ (b : Bool). DidOwn b f seat (line l a) v t) (eq-eqb l.session seat is) did in
        inl (is, subst (λ (q : ℕ). Turns q (Some l.command) a v t) is (turns_line runs stay f l a v t own.1))
    | inr another ↦ inr (another, subst (λ (b : Bool). DidOwn b f seat (line l a) v t) (ne_eqb l.session seat another) did)
  ]

  log_or : (f : View) (seat : ℕ) (l : ScriptLine) (a : Answer) (v t : View) → DidOwn (is_own seat (log l a)) f seat (log l a) v t → OwnOr seat l.session (Some l.command) a v t
  log_or f seat l a v t did = elim (cases_eq l.session seat) as (λ _. OwnOr seat l.session (Some l.command) a v t) [
    | inl is ↦ absurd (subst (λ (b : Bool). DidOwn b f seat (log l a) v t) (eq-eqb l.session seat is) did)
    | inr another ↦ inr (another, subst (λ (b : Bool). DidOwn b f seat (log l a) v t) (ne_eqb l.session seat another) did)
  ]

  close_or : (f : View) (seat at : ℕ) (a : Answer) (v t : View) → DidOwn (is_own seat (close at a)) f seat (close at a) v t → OwnOr seat at None a v t
  close_or f seat at a v t did = elim (cases_eq at seat) as (λ _. OwnOr seat at None a v t) [
    | inl is ↦ inl (is, subst (λ (q : ℕ). Turns q None a v t) is (turns_end at a v t (own_close f seat at a v t is did)))
    | inr another ↦ inr (another, other_close f seat at a v t another did)
  ]

  pub knows_own : (f : View) (seat : ℕ) (moves : List Move) (p : Progress) (phase : Phase) (v t : View) → IsOwnRun f seat v moves t → Knows seat p phase v
      → Knows seat (fold (hears seat) p (said_in moves)) (fold (turns seat) phase (said_in moves)) t
  knows_own f seat [] p phase v t passes knows = knows_still seat p phase v t passes.own passes.saves knows
  knows_own f seat (line l a ∷ moves) p phase v t (u, w, passes, did, rest) knows =
      let s : Said = record { session = l.session; asked = Some l.command; answer = a } in
      knows_own f seat moves (hears seat p s) (turns seat phase s) w t rest
      (knows_step seat l.session (Some l.command) a p phase u w (line_or f seat l a u w did) (knows_still seat p phase v u passes.own passes.saves knows))
  knows_own f seat (log l a ∷ moves) p phase v t (u, w, passes, did, rest) knows =
      let s : Said = record { session = l.session; asked = Some l.command; answer = a } in
      knows_own f seat moves (hears seat p s) (turns seat phase s) w t rest
      (knows_step seat l.session (Some l.command) a p phase u w (log_or f seat l a u w did) (knows_still seat p phase v u passes.own passes.saves knows))
  knows_own f seat (close at a ∷ moves) p phase v t (u, w, passes, did, rest) knows =
      let s : Said = record { session = at; asked = None; answer = a } in
      knows_own f seat moves (hears seat p s) (turns seat phase s) w t rest
      (knows_step seat at None a p phase u w (close_or f seat at a u w did) (knows_still seat p phase v u passes.own passes.saves knows))
  knows_own f seat (flush ∷ moves) p phase v t (u, w, passes, did, rest) knows =
      knows_own f seat moves p phase w t rest (knows_still seat p phase u w (ap (λ (x : View). x.session seat) did) (ap (λ (x : View). x.saves seat) did) (knows_still seat p phase v u passes.own passes.saves knows))

  pub own_goes : (f : View) (seat : ℕ) (moves : List Move) (v t : View) → IsOwnRun f seat v moves t → OwnGoes seat v t
  own_goes f seat [] v t passes = goes_passes seat v t passes
  own_goes f seat (line l a ∷ moves) v t (u, w, passes, did, rest) =
      own_goes_then seat v u t (goes_passes seat v u passes)
      (own_goes_then seat u w t (goes_step seat l.session (Some l.command) a u w (line_or f seat l a u w did)) (own_goes f seat moves w t rest))
  own_goes f seat (log l a ∷ moves) v t (u, w, passes, did, rest) =
      own_goes_then seat v u t (goes_passes seat v u passes)
      (own_goes_then seat u w t (goes_step seat l.session (Some l.command) a u w (log_or f seat l a u w did)) (own_goes f seat moves w t rest))
  own_goes f seat (close at a ∷ moves) v t (u, w, passes, did, rest) =
      own_goes_then seat v u t (goes_passes seat v u passes)
      (own_goes_then seat u w t (goes_step seat at None a u w (close_or f seat at a u w did)) (own_goes f seat moves w t rest))
  own_goes f seat (flush ∷ moves) v t (u, w, passes, did, rest) =
      own_goes_then seat v u t (goes_passes seat v u passes)
      (own_goes f seat moves u t (subst (λ (x : View). IsOwnRun f seat x moves t) did rest))

  -- THE LINES TOLD.
  module _ (v f : View) (whole script : List ScriptLine) (answers : List Answer) (closed : List Closed) (run : IsRunInPart v whole script answers closed f) where
    pub at_first : (seat : ℕ) → IsSession v seat → Knows seat nothing Idle v
    at_first seat session = first_known seat v (run.opened.idle seat session)

    pub tells : (seat : ℕ) → IsSession v seat → Tells seat (progress_of seat (places_of script answers closed)) (f.session seat)
    tells seat session =
        let part = run.own seat session in
        let known = knows_own f seat (all_moves script answers closed) nothing Idle v part.last part.run (at_first seat session) in
        subst (λ (s : Session). Tells seat (progress_of seat (places_of script answers closed)) s) part.ends
        (subst (λ (said : List Said). Tells seat (progress_of seat said) (part.last.session seat)) (all_say script answers closed) known.told.tells)

    -- a session's own part up to the end of the lines, and then what closes it
    pub own_lines : (seat : ℕ) (session : IsSession v seat) → (u : View) × IsOwnRun f seat v (line_moves script answers) u × IsOwnRun f seat u (map close_of closed) (run.own seat session).last
    own_lines seat session = own_split f seat (line_moves script answers) (map close_of closed) v (run.own seat session).last (run.own seat session).run

    -- what the lines leave of a session's phase
    phase_before : (seat : ℕ) (session : IsSession v seat) → phase_of seat (said_of script answers) ≡ phase_at (own_lines seat session).0 seat
    phase_before seat session =
        let lines = own_lines seat session in
        ap (λ (said : List Said). phase_of seat said) (sym (said_lines script answers))
        ∙ (knows_own f seat (line_moves script answers) nothing Idle v lines.0 lines.1 (at_first seat session)).phase_is

    -- Each line stands where its session's earlier answers leave it.
    pub line_there : (i : ℕ) (l : ScriptLine) (a : Answer) → slice_get script i ≡ Some l → slice_get answers i ≡ Some a → LineThere f script answers i l a
    line_there i l a at answered =
        let session = run.named l (i, at) in
        let lines = own_lines l.session session in
        let there = own_at f l.session script answers v lines.0 i l a refl lines.1 at answered in
        let rest = own_goes f l.session (line_moves (drop (suc i) script) (drop (suc i) answers)) there.after lines.0 there.rest in
        let closing = own_goes f l.session (map close_of closed) lines.0 (run.own l.session session).last lines.2 in
        let all = own_goes_then l.session there.after lines.0 (run.own l.session session).last rest closing in record {
          before = there.before;
          after = there.after;
          did = there.did;
          knows = subst (λ (said : List Said). Knows l.session (progress_of l.session said) (phase_of l.session said) there.before) (said_first i script answers)
              (knows_own f l.session (line_moves (take i script) (take i answers)) nothing Idle v there.before there.start (at_first l.session session));
          within = le_trans all.onward.tail (run.own l.session session).within.0;
          goes = subst (λ (s : Session). Continues (there.after.session l.session) s) (run.own l.session session).ends all.goes;
        }

    pub line_fits : (i : ℕ) (l : ScriptLine) (a : Answer) → slice_get script i ≡ Some l → slice_get answers i ≡ Some a
        → FitsPhase (phase_of l.session (take i (said_of script answers))) l.command a
    line_fits i l a at answered =
        let there = line_there i l a at answered in
        subst (λ (x : Phase). FitsPhase x l.command a) (sym there.knows.phase_is) there.did.fits

    line_watched : (i : ℕ) (l : ScriptLine) (a : Answer) → slice_get script i ≡ Some l → slice_get answers i ≡ Some a
        → FitsSnapshot (phase_of l.session (take i (said_of script answers))) l.command a
    line_watched i l a at answered =
        let there = line_there i l a at answered in
        subst (λ (x : Phase). FitsSnapshot x l.command a) (sym there.knows.phase_is) (line_looks f l a there.before there.after there.did)

  -- THE SESSIONS CLOSED, of a whole execution.
  module _ (v f : View) (script : List ScriptLine) (answers : List Answer) (closed : List Closed) (run : IsRunAtOnce v script answers closed f) where
    abbrev lines_of : (seat : ℕ) (session : IsSession v seat) → (u : View) × IsOwnRun f seat v (line_moves script answers) u × IsOwnRun f seat u (map close_of closed) (run.own seat session).last
    lines_of seat session = own_lines v f script script answers closed (in_part v f script answers closed run) seat session

    phase_left : (seat : ℕ) (session : IsSession v seat) → phase_of seat (said_of script answers) ≡ phase_at (lines_of seat session).0 seat
    phase_left seat session = phase_before v f script script answers closed (in_part v f script answers closed run) seat session

    ascending : Pairs (λ (a b : Closed). a.session < b.session) closed
    ascending = pairs_of (λ (a b : Closed). a.session < b.session) closed run.ascend

    fits_at : (c : Closed) → c ∈ closed → Closes (phase_of c.session (said_of script answers)) c.answer
    fits_at c m =
        let session = run.sessions c m in
        let lines = lines_of c.session session in
        subst (λ (phase : Phase). Closes phase c.answer) (sym (phase_left c.session session))
        (is_closed f c.session closed lines.0 (run.own c.session session).last c ascending lines.2 m refl)

    -- a session is closed where it isn't idle
    abbrev is_left : ℕ → Bool
    is_left s = not (is_idle (phase_of s (said_of script answers)))

    closes_left : (phase : Phase) (a : Answer) → Closes phase a → not (is_idle phase) ≡ true
    closes_left Idle a fits = absurd fits
    closes_left Active a fits = refl
    closes_left Sealed a fits = refl
    closes_left Pending a fits = refl
    closes_left Safe a fits = refl

    idle_left : (phase : Phase) → phase ≡ Idle → not (is_idle phase) ≡ true → ⊥
    idle_left Idle is left = cc
    idle_left Active is left = cc
    idle_left Sealed is left = cc
    idle_left Pending is left = cc
    idle_left Safe is left = cc

    closed_are_left : (s : ℕ) → s ∈ map (λ (c : Closed). c.session) closed → s ∈ filter is_left (range_with_len 1 v.opening.sessions)
    closed_are_left s m =
        let c = ∈-map (λ (c : Closed). c.session) closed s m in
        let session = run.sessions c.0 c.1 in
        subst (λ (x : ℕ). x ∈ filter is_left (range_with_len 1 v.opening.sessions)) c.2
        (∈-filter_from is_left c.0.session (range_with_len 1 v.opening.sessions)
        (in_range_from 1 v.opening.sessions c.0.session session.0 (omega (arith, session.1)))
        (closes_left (phase_of c.0.session (said_of script answers)) c.0.answer (fits_at c.0 c.1)))

    idle_before : (s : ℕ) (session : IsSession v s) → ((c : Closed) → c ∈ closed → c.session ≢ s) → phase_of s (said_of script answers) ≡ Idle
    idle_before s session none =
        let lines = lines_of s session in
        let part = run.own s session in
        phase_left s session
        ∙ ap (λ (x : Session). world.phase_of x.stand) (sym (not_closed f s closed lines.0 part.last lines.2 none) ∙ part.ends)
        ∙ run.idle s (still_session v f s run.opening session)

    left_are_closed : (s : ℕ) → s ∈ filter is_left (range_with_len 1 v.opening.sessions) → s ∈ map (λ (c : Closed). c.session) closed
    left_are_closed s m =
        let kept = ∈-filter is_left s (range_with_len 1 v.opening.sessions) m in
        let bounds = in_range 1 v.opening.sessions s kept.0 in
        let session : IsSession v s = (bounds.0, omega (arith, bounds.1)) in
        ⊎_elim
        (λ (found : (c : Closed) × (c ∈ closed) × (c.session ≡ s)).
        subst (λ (x : ℕ). x ∈ map (λ (c : Closed). c.session) closed) found.2 (∈-map_from (λ (c : Closed). c.session) closed found.0 found.1))
        (λ (none : (c : Closed) → c ∈ closed → c.session ≢ s).
        absurd (idle_left (phase_of s (said_of script answers)) (idle_before s session none) kept.1))
        (found_closed s closed)

    pub closes_agree : ClosesAgree v.opening.sessions (said_of script answers) closed
    closes_agree = record {
      each =
          same_list (map (λ (c : Closed). c.session) closed) (filter is_left (range_with_len 1 v.opening.sessions))
          (pairs_map (λ (c : Closed). c.session) (λ (a b : ℕ). a < b) closed ascending)
          (pairs_filter (λ (a b : ℕ). a < b) is_left (range_with_len 1 v.opening.sessions) (pairs_range 1 v.opening.sessions)) closed_are_left left_are_closed;
      fits = fits_at;
    }

  pub runs_tell : RunsInPartTell
  runs_tell v f whole part answers closed run seat session = tells v f whole part answers closed run seat session

  pub phases : RunsInPartHavePhases
  phases v f whole part answers closed opening run of = record { fits = line_fits v f whole part answers closed run; snapshots = line_watched v f whole part answers closed run }

  pub runs_close : RunsAtOnceCloseSessions
  runs_close v f script answers closed run = closes_agree v f script answers closed run
