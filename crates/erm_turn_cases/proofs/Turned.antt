-- Turns of sessions, as the runs of each of them beside the others.
use Rattle.std.proofs.Common.{◌≡◌, ◌≢◌, ℕ, ◌≤◌, Bool, true, false, List, [], ◌∷◌, inl, inr, refl, sym, subst}
use Rattle.std.proofs.lemmas.Bool.Decides.{eqb_tells}
use Rattle.erm_node.specs.Sound.{sound_law}
use Rattle.erm_world.specs.Laws.{IsSerializable}
use Rattle.erm_world.specs.World.{IsSession, Opening, View}
use Rattle.erm_report.specs.declared.answer.Answer.{Answer}
use Rattle.erm_script.specs.declared.script.ScriptLine.{ScriptLine}
use Rattle.erm_lines.specs.Executions.{Move, close, flush, line, log}
use Rattle.erm_beside.specs.Calls.{Passes}
use Rattle.erm_lone.specs.Later.{IsLaterWorld}
use Rattle.erm_lone.specs.Within.{world_itself}
use Rattle.erm_lone.proofs.Later.{world_then}
use Rattle.erm_lone.proofs.Moves.{rests}
use Rattle.erm_safe_world.specs.Moves.{MovesOn}
use Rattle.erm_lines_at_once.specs.Executions.{DidOwn, IsOwnRun}
use Rattle.erm_turn_cases.specs.Turns.{AreTurns, IsTurn, TurnsAreOwnRuns}

-- the world in which turns end is a later one
turned_later : (moves : List Move) (v t : View) → AreTurns v moves t → IsLaterWorld v t
turned_later [] v t is = subst (λ (u : View). IsLaterWorld v u) (sym is) (world_itself v)
turned_later (line l a ∷ moves) v t (u, turn, rest) = world_then v u t turn.later (turned_later moves u t rest)
turned_later (log l a ∷ moves) v t is = absurd is
turned_later (close seat a ∷ moves) v t is = absurd is
turned_later (flush ∷ moves) v t is = absurd is

-- to which the first one moved on, as a world does by calls one after another
module _ (stays : (v t : View) → t ≡ v → MovesOn v t) (goes_on : (v t u : View) → MovesOn v t → MovesOn t u → MovesOn v u) where
  pub turned_moves : (moves : List Move) (v t : View) → AreTurns v moves t → MovesOn v t
  turned_moves [] v t is = stays v t is
  turned_moves (line l a ∷ moves) v t (u, turn, rest) = goes_on v u t turn.moves (turned_moves moves u t rest)
  turned_moves (log l a ∷ moves) v t is = absurd is
  turned_moves (close seat a ∷ moves) v t is = absurd is
  turned_moves (flush ∷ moves) v t is = absurd is

-- one turn, of the session or of another one
module _ (t : View) (holds : IsSerializable sound_law t) (v u : View) (l : ScriptLine) (a : Answer) (turn : IsTurn sound_law v l a u) (later : IsLaterWorld u t) (on : MovesOn u t) (seat : ℕ) where
  own_turn : l.session ≡ seat → (w : View) × (x : View) × Passes seat v w × DidOwn true t seat (line l a) w x × (x ≡ u)
  own_turn is =
      let session : IsSession u l.session = (turn.session.0, subst (λ (o : Opening). l.session ≤ o.sessions) (sym turn.later.opening) turn.session.1) in
      (v, u, rests seat v, (is, turn.did t (session, later, holds, on)), refl)

  other_turn : l.session ≢ seat → (w : View) × (x : View) × Passes seat v w × DidOwn false t seat (line l a) w x × (x ≡ u)
  other_turn another =
      let stands = turn.others seat (λ is. another (sym is)) in
      (u, u, record { own = stands.0; opening = turn.later.opening; tail = turn.later.tail; flushed = turn.later.flushed; given_up = stands.1; saves = stands.2 }, refl, refl)

module _ (stays : (v t : View) → t ≡ v → MovesOn v t) (goes_on : (v t u : View) → MovesOn v t → MovesOn t u → MovesOn v u) where
  own_runs : (moves : List Move) (v t : View) → AreTurns v moves t → IsSerializable sound_law t → (seat : ℕ) → IsOwnRun t seat v moves t
  own_runs [] v t is holds seat = subst (λ (u : View). Passes seat v u) (sym is) (rests seat v)
  own_runs (line l a ∷ moves) v t (u, turn, rest) holds seat =
      let later = turned_later moves u t rest in
      let on = turned_moves stays goes_on moves u t rest in
      elim (eqb_tells l.session seat) as (λ _. IsOwnRun t seat v (line l a ∷ moves) t) [
        | inl here ↦
            let one = own_turn t holds v u l a turn later on seat here.1 in
            (one.0, one.1, one.2, subst (λ (b : Bool). DidOwn b t seat (line l a) one.0 one.1) (sym here.0) one.3, subst (λ (x : View). IsOwnRun t seat x moves t) (sym one.4) (own_runs moves u t rest holds seat))
        | inr there ↦
            let one = other_turn t holds v u l a turn later on seat there.1 in
            (one.0, one.1, one.2, subst (λ (b : Bool). DidOwn b t seat (line l a) one.0 one.1) (sym there.0) one.3, subst (λ (x : View). IsOwnRun t seat x moves t) (sym one.4) (own_runs moves u t rest holds seat))
      ]
  own_runs (log l a ∷ moves) v t is holds seat = absurd is
  own_runs (close at a ∷ moves) v t is holds seat = absurd is
  own_runs (flush ∷ moves) v t is holds seat = absurd is

  pub own_runs_of_turns : TurnsAreOwnRuns
  own_runs_of_turns v t moves turns holds seat = own_runs moves v t turns holds seat
