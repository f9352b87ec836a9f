-- What moves in turn tell, and how sessions go on by them.
use Rattle.std.proofs.Common.{◌≡◌, ◌≢◌, ℕ, ◌==◌, ◌≤◌, Bool, cond, List, [], ◌∷◌, length, Option, Some, None, refl, sym, ap, ◌∙◌, subst, inl, inr, fold, eq-eqb, ne_eqb, le_trans}
use Rattle.std.proofs.lemmas.Bool.{cases_eq}
use Rattle.erm_model.specs.declared.outcome.Phase.{Phase}
use Rattle.erm_model.specs.declared.outcome.Phase.TheVariants.{Idle}
use Rattle.erm_model.specs.Run.{Step}
use Rattle.erm_report.specs.declared.answer.Answer.{Answer}
use Rattle.erm_script.specs.declared.script.Command.{Command}
use Rattle.erm_world.specs.Going.{Extends}
use Rattle.erm_world.specs.World.{IsSession, Opening, Session, View, Work, phase_at, phase_of, work_at, work_of}
use Rattle.erm_world.specs.World as world
use Rattle.erm_maps.specs.Runs.{IsAnswered, IsRunOf, Kept}
use Rattle.erm_good_report.specs.Phases.{phase_after}
use Rattle.erm_good_report.specs.Transactions.{Progress, Said, heard, nothing, steps_of}
use Rattle.erm_lines.specs.Executions.{DidFlush, IsExecution, Move, close, flush, line, log, said_in}
use Rattle.erm_lines.specs.Laws.{ExecutionsGoOn, ExecutionsHold, ExecutionsTell}
use Rattle.erm_lines.specs.Told.{Continues, Tells}
use Rattle.erm_lines.proofs.Keeping.{NoneRuns}
use Rattle.erm_lines.proofs.Moved.{log_flushes, log_of_none}
use Rattle.erm_lines.proofs.Saved.{kept_is}
use Rattle.erm_told.proofs.Going.{continues_itself, continues_then}
use Rattle.erm_told.proofs.Lines.{turn_end, turn_line}
use Rattle.erm_told.proofs.Turns.{TellsAt, Turn, same_tail}

-- what a session has told after one more place
abbrev pub hears : ℕ → Progress → Said → Progress
hears seat p s = cond (s.session == seat) (heard seat s.asked s.answer p) p

abbrev pub turns : ℕ → Phase → Said → Phase
turns seat phase s = cond (s.session == seat) (phase_after s.asked s.answer phase) phase

-- what was told of a session, and its phase
pub record Knows (seat : ℕ) (p : Progress) (phase : Phase) (v : View) : Type 0 where
  pub told : TellsAt seat p v
  pub phase_is : phase ≡ phase_at v seat

-- a session that is the same, with its savepoints
pub told_same : (seat : ℕ) (p : Progress) (v t : View) → t.session seat ≡ v.session seat → t.saves seat ≡ v.saves seat → TellsAt seat p v → TellsAt seat p t
told_same seat p v t is saves told = record {
  tells = subst (λ (s : Session). Tells seat p s) (sym is) told.tells;
  runs = λ one at active. let by = told.runs one at (sym (ap (λ (s : Session). phase_of s.stand) is) ∙ active) in record {
    run = subst (λ (k : Kept). IsRunOf k (steps_of one)) (sym (kept_is (work_at t seat) (work_at v seat) (t.saves seat) (v.saves seat) (ap (λ (s : Session). work_of s.stand) is) saves)) by.run;
    held = by.held ∙ ap length (sym saves);
  };
}

pub knows_still : (seat : ℕ) (p : Progress) (phase : Phase) (v t : View) → t.session seat ≡ v.session seat → t.saves seat ≡ v.saves seat → Knows seat p phase v → Knows seat p phase t
knows_still seat p phase v t is saves knows = record {
  told = told_same seat p v t is saves knows.told;
  phase_is = knows.phase_is ∙ sym (ap (λ (s : Session). phase_of s.stand) is);
}

-- a turn of some session
pub knows_turn : (seat at : ℕ) (asked : Option Command) (a : Answer) (p : Progress) (phase : Phase) (v t : View) → Turn v at asked a t → Knows seat p phase v
    → Knows seat (cond (at == seat) (heard seat asked a p) p) (cond (at == seat) (phase_after asked a phase) phase) t
knows_turn seat at asked a p phase v t turn knows = elim (cases_eq at seat) as (λ _. Knows seat (cond (at == seat) (heard seat asked a p) p) (cond (at == seat) (phase_after asked a phase) phase) t) [
  | inl is ↦
      subst (λ (b : Bool). Knows seat (cond b (heard seat asked a p) p) (cond b (phase_after asked a phase) phase) t) (sym (eq-eqb at seat is))
      (own (subst (λ (q : ℕ). Turn v q asked a t) is turn))
  | inr another ↦
      subst (λ (b : Bool). Knows seat (cond b (heard seat asked a p) p) (cond b (phase_after asked a phase) phase) t) (sym (ne_eqb at seat another))
      (knows_still seat p phase v t (turn.others seat (λ e. another (sym e))) (turn.saves seat (λ e. another (sym e))) knows)
]
  where
    own : Turn v seat asked a t → Knows seat (heard seat asked a p) (phase_after asked a phase) t
    own its = record {
      told = its.tells p knows.told;
      phase_is = ap (λ (x : Phase). phase_after asked a x) knows.phase_is ∙ its.phase;
    }

-- a line of another session, or of none, which left this one
pub knows_logged : (seat at : ℕ) (asked : Option Command) (a : Answer) (p : Progress) (phase : Phase) (v t : View) → at ≢ seat → t.session seat ≡ v.session seat → t.saves seat ≡ v.saves seat → Knows seat p phase v
    → Knows seat (cond (at == seat) (heard seat asked a p) p) (cond (at == seat) (phase_after asked a phase) phase) t
knows_logged seat at asked a p phase v t another is saves knows =
    subst (λ (b : Bool). Knows seat (cond b (heard seat asked a p) p) (cond b (phase_after asked a phase) phase) t) (sym (ne_eqb at seat another))
    (knows_still seat p phase v t is saves knows)

-- a session of a world that was opened so is one of it still
pub still_session : (v t : View) (seat : ℕ) → t.opening ≡ v.opening → IsSession v seat → IsSession t seat
still_session v t seat is session = (session.0, subst (λ (o : Opening). seat ≤ o.sessions) (sym is) session.1)

-- what was told of one that was just opened
pub knows_start : (v : View) (seat : ℕ) → v.session seat ≡ record { over = []; stand = world.idle } → Knows seat nothing Idle v
knows_start v seat idle =
    record {
      told = record { tells = subst (λ (s : Session). Tells seat nothing s) (sym idle) (record { over = (refl, refl); now = tt; watched = tt }); runs = λ one is active. absurd (cc) };
      phase_is = sym (ap (λ (s : Session). phase_of s.stand) idle);
    }

-- a session that has a turn goes on, and another one stays
goes_turn : (seat at : ℕ) (asked : Option Command) (a : Answer) (v t : View) → Turn v at asked a t → Continues (v.session seat) (t.session seat)
goes_turn seat at asked a v t turn = elim (cases_eq at seat) as (λ _. Continues (v.session seat) (t.session seat)) [
  | inl is ↦ subst (λ (q : ℕ). Continues (v.session q) (t.session q)) is turn.goes
  | inr another ↦ continues_itself (v.session seat) (t.session seat) (turn.others seat (λ e. another (sym e)))
]

-- what all moves do
record AllGo (v t : View) : Type 0 where
  opening : t.opening ≡ v.opening
  tail : v.tail ≤ t.tail
  session : (seat : ℕ) → IsSession v seat → Continues (v.session seat) (t.session seat)

goes_turns : (at : ℕ) (asked : Option Command) (a : Answer) (v t : View) → Turn v at asked a t → AllGo v t
goes_turns at asked a v t turn = record { opening = turn.opening; tail = turn.tail; session = λ seat session. goes_turn seat at asked a v t turn }

goes_flush : (v t : View) → DidFlush v t → AllGo v t
goes_flush v t did = record {
  opening = did.opening;
  tail = same_tail v.tail t.tail did.tail;
  session = λ seat session. continues_itself (v.session seat) (t.session seat) (did.session seat session);
}

goes_then : (v u t : View) → AllGo v u → AllGo u t → AllGo v t
goes_then v u t first second = record {
  opening = second.opening ∙ first.opening;
  tail = le_trans first.tail second.tail;
  session = λ seat session. continues_then (v.session seat) (u.session seat) (t.session seat) (first.session seat session)
      (second.session seat (still_session v u seat first.opening session));
}

goes_itself : (v t : View) → t ≡ v → AllGo v t
goes_itself v t is = record {
  opening = ap (λ (u : View). u.opening) is;
  tail = same_tail v.tail t.tail (ap (λ (u : View). u.tail) is);
  session = λ seat session. continues_itself (v.session seat) (t.session seat) (ap (λ (u : View). u.session seat) is);
}

module _ (runs : NoneRuns) (stay : (w u : Work) (steps : List Step) → Extends w u → IsAnswered w steps → IsAnswered u steps) where
  knows_all : (seat : ℕ) (moves : List Move) (p : Progress) (phase : Phase) (v t : View) → IsSession v seat → IsExecution v moves t → Knows seat p phase v
      → Knows seat (fold (hears seat) p (said_in moves)) (fold (turns seat) phase (said_in moves)) t
  knows_all seat [] p phase v t session is knows = subst (λ (u : View). Knows seat p phase u) (sym is) knows
  knows_all seat (line l a ∷ moves) p phase v t session (u, did, lawful, rest) knows =
      let s : Said = record { session = l.session; asked = Some l.command; answer = a } in
      let turn = turn_line runs stay v l a u did in
      knows_all seat moves (hears seat p s) (turns seat phase s) u t (still_session v u seat turn.opening session) rest
      (knows_turn seat l.session (Some l.command) a p phase v u turn knows)
  knows_all seat (log l a ∷ moves) p phase v t session (u, did, lawful, rest) knows =
      let did_flush = log_flushes v u l a did in
      knows_all seat moves (hears seat p (record { session = l.session; asked = Some l.command; answer = a })) (turns seat phase (record { session = l.session; asked = Some l.command; answer = a }))
      u t (still_session v u seat did_flush.opening session) rest
      (knows_logged seat l.session (Some l.command) a p phase v u (log_of_none v u l a seat did session.0) (did_flush.session seat session) (did_flush.saves seat session) knows)
  knows_all seat (close at a ∷ moves) p phase v t session (u, did, lawful, rest) knows =
      let s : Said = record { session = at; asked = None; answer = a } in
      let turn = turn_end v at a u did in
      knows_all seat moves (hears seat p s) (turns seat phase s) u t (still_session v u seat turn.opening session) rest
      (knows_turn seat at None a p phase v u turn knows)
  knows_all seat (flush ∷ moves) p phase v t session (u, did, lawful, rest) knows =
      knows_all seat moves p phase u t (still_session v u seat did.opening session) rest (knows_still seat p phase v u (did.session seat session) (did.saves seat session) knows)

  pub executions_tell : ExecutionsTell
  executions_tell v t moves opened executed seat session =
      let known = knows_all seat moves nothing Idle v t session executed (knows_start v seat (opened.idle seat session)) in
      (known.told.tells, known.phase_is)

  pub executions_hold : ExecutionsHold
  executions_hold v t moves opened executed seat session own is active =
      ((knows_all seat moves nothing Idle v t session executed (knows_start v seat (opened.idle seat session))).told.runs own is active).held

  goes_all : (moves : List Move) (v t : View) → IsExecution v moves t → AllGo v t
  goes_all [] v t is = goes_itself v t is
  goes_all (line l a ∷ moves) v t (u, did, lawful, rest) =
      goes_then v u t (goes_turns l.session (Some l.command) a v u (turn_line runs stay v l a u did)) (goes_all moves u t rest)
  goes_all (log l a ∷ moves) v t (u, did, lawful, rest) = goes_then v u t (goes_flush v u (log_flushes v u l a did)) (goes_all moves u t rest)
  goes_all (close at a ∷ moves) v t (u, did, lawful, rest) = goes_then v u t (goes_turns at None a v u (turn_end v at a u did)) (goes_all moves u t rest)
  goes_all (flush ∷ moves) v t (u, did, lawful, rest) = goes_then v u t (goes_flush v u did) (goes_all moves u t rest)

  pub executions_go : ExecutionsGoOn
  executions_go v t moves executed = let goes = goes_all moves v t executed in (goes.opening, goes.tail, goes.session)
