-- Places of a session's own run: a line of it, with what is before it and what comes behind it, also one that is before another.
use Rattle.std.proofs.Common.{◌≡◌, ℕ, zero, suc, ◌<◌, ◌≤◌, Bool, List, [], ◌∷◌, ◌++◌, take, drop, slice_get, take-take, Some, refl, sym, ap, ◌∙◌, subst, inl, inr, eq-eqb, arith}
use Rattle.std.proofs.lemmas.Bool.{cases_eq}
use Rattle.erm_model.specs.declared.outcome.Phase.TheVariants.{Idle}
use Rattle.erm_model.specs.Run.{Step}
use Rattle.erm_model.proofs.Members.{none_in_nil}
use Rattle.erm_report.specs.declared.answer.Answer.{Answer}
use Rattle.erm_script.specs.declared.script.ScriptLine.{ScriptLine}
use Rattle.erm_world.specs.Going.{Extends}
use Rattle.erm_world.specs.World.{IsSession, Session, View, Work}
use Rattle.erm_world.specs.World as world
use Rattle.erm_maps.specs.Runs.{IsAnswered}
use Rattle.erm_good_report.specs.Phases.{phase_of}
use Rattle.erm_good_report.specs.Transactions.{Said, nothing, progress_of, said_of}
use Rattle.erm_lines.specs.Executions.{IsOpened, Move, line, line_moves, move_of, said_in}
use Rattle.erm_lines.specs.Told.{Continues}
use Rattle.erm_lines.proofs.Keeping.{NoneRuns}
use Rattle.erm_beside.specs.Onward.{passes_then}
use Rattle.erm_told.proofs.Executed.{Knows}
use Rattle.erm_told.proofs.Runs.{said_first, said_lines}
use Rattle.erm_lines_at_once.specs.Answers.{DidLineBeside}
use Rattle.erm_lines_at_once.specs.Executions.{DidOwn, IsOwnRun, is_own}
use Rattle.erm_told_at_once.proofs.Drawing.{Drew, DrawsBeside, HasDrawn, LieBelow, lie_passes, line_drew}
use Rattle.erm_told_at_once.proofs.Runs.{OwnAt, OwnGoes, knows_own, other_line, own_at, own_goes, own_line, passes_itself}

-- ONE LINE, of this session or of another
pub record StepsOn (f : View) (seat : ℕ) (l : ScriptLine) (a : Answer) (v w : View) : Type 0 where
  pub below : LieBelow seat w
  pub up : v.tail ≤ w.tail
  pub draws : l.session ≡ seat → DrawsBeside f seat v.tail w (Some l.command) a

pub steps_on : (f : View) (seat : ℕ) (l : ScriptLine) (a : Answer) (u w : View) → LieBelow seat u → DidOwn (is_own seat (move_of l a)) f seat (move_of l a) u w → StepsOn f seat l a u w
steps_on f seat l a u w below did = elim (cases_eq l.session seat) as (λ _. StepsOn f seat l a u w) [
  | inl is ↦
      let drew : Drew f l.session (Some l.command) a u w =
      line_drew f l a u w (subst (λ (q : ℕ). LieBelow q u) (sym is) below) (own_line f seat l a u w is did) in record {
        below = subst (λ (q : ℕ). LieBelow q w) is drew.below;
        up = drew.up;
        draws = λ same. subst (λ (q : ℕ). DrawsBeside f q u.tail w (Some l.command) a) is drew.draws;
      }
  | inr another ↦
      let is : w ≡ u = other_line f seat l a u w another did in record {
        below = subst (λ (x : View). LieBelow seat x) (sym is) below;
        up = omega (arith, ap (λ (x : View). x.tail) is);
        draws = λ same. absurd (another same);
      }
]

-- lines in turn leave the session's stamps below
pub lines_lie : (f : View) (seat : ℕ) (script : List ScriptLine) (answers : List Answer) (v t : View) → LieBelow seat v → IsOwnRun f seat v (line_moves script answers) t → LieBelow seat t
lines_lie f seat [] answers v t below passes = lie_passes seat v t passes below
lines_lie f seat (l ∷ script) [] v t below passes = lie_passes seat v t passes below
lines_lie f seat (l ∷ script) (a ∷ answers) v t below (u, w, passes, did, rest) =
    lines_lie f seat script answers w t (steps_on f seat l a u w (lie_passes seat v u passes below) did).below rest

-- a world that was just opened has drawn none
pub none_drawn : (v : View) (seat : ℕ) → IsOpened v → IsSession v seat → LieBelow seat v
none_drawn v seat opened session stamp has = absurd (from (subst (λ (s : Session). HasDrawn s stamp) (opened.idle seat session) has))
  where
    from : HasDrawn (record { over = []; stand = world.idle }) stamp → ⊥
    from (inl (g, m, stamped)) = none_in_nil g m
    from (inr (w, sealed)) = cc

-- MOVES in turn, and more
pub own_append : (f : View) (seat : ℕ) (xs ys : List Move) (v u t : View) → IsOwnRun f seat v xs u → IsOwnRun f seat u ys t → IsOwnRun f seat v (xs ++ ys) t
own_append f seat [] [] v u t passes second = passes_then seat seat v u t refl passes second
own_append f seat [] (move ∷ ys) v u t passes (x, w, onward, did, rest) = (x, w, passes_then seat seat v u x refl passes onward, did, rest)
own_append f seat (move ∷ xs) ys v u t (x, w, passes, did, rest) second = (x, w, passes, did, own_append f seat xs ys w u t rest second)

-- a line of the session as a move of it
pub own_step : (f : View) (seat : ℕ) (l : ScriptLine) (a : Answer) (v t : View) → l.session ≡ seat → DidLineBeside f l a v t → DidOwn (is_own seat (line l a)) f seat (line l a) v t
own_step f seat l a v t own did = subst (λ (b : Bool). DidOwn b f seat (line l a) v t) (sym (eq-eqb l.session seat own)) (own, did)

-- A LINE of the session, with the moves before it, which said this, and those behind it, to where all end
pub record OwnPlace (v f : View) (seat : ℕ) (said : List Said) (l : ScriptLine) (a : Answer) : Type 0 where
  pub before : View
  pub after : View
  pub own : l.session ≡ seat
  pub moves : List Move
  pub start : IsOwnRun f seat v moves before
  pub says : said_in moves ≡ said
  pub lies : LieBelow seat before
  pub did : DidLineBeside f l a before after
  pub more : List Move
  pub last : View
  pub onward : IsOwnRun f seat after more last
  pub ends : last.session seat ≡ f.session seat
  pub within : last.tail ≤ f.tail

-- LISTS, cut in front of a place
get_taken : {X : Type 0} (xs : List X) (i j : ℕ) (x : X) → i < j → slice_get xs i ≡ Some x → slice_get (take j xs) i ≡ Some x
get_taken [] i j x less at = absurd (cc)
get_taken (y ∷ ys) i zero x less at = absurd (omega (arith, less))
get_taken (y ∷ ys) zero (suc j) x less at = at
get_taken (y ∷ ys) (suc i) (suc j) x less at = get_taken ys i j x (omega (arith, less)) at

said_taken : (j : ℕ) (script : List ScriptLine) (answers : List Answer) → said_of (take j script) (take j answers) ≡ take j (said_of script answers)
said_taken j script answers = sym (said_lines (take j script) (take j answers)) ∙ said_first j script answers

-- the lines of a session, and then what closes it
module _ (v f : View) (seat : ℕ) (script : List ScriptLine) (answers : List Answer) (u last : View) (closing : List Move) (closes : IsOwnRun f seat u closing last)
    (ends : last.session seat ≡ f.session seat) (within : last.tail ≤ f.tail) (none : LieBelow seat v) where
  abbrev behind : ℕ → List Move
  behind i = line_moves (drop (suc i) script) (drop (suc i) answers) ++ closing

  pub behind_run : (i : ℕ) (l : ScriptLine) (a : Answer) (there : OwnAt f seat v script answers u i l a) → IsOwnRun f seat there.after (behind i) last
  behind_run i l a there = own_append f seat (line_moves (drop (suc i) script) (drop (suc i) answers)) closing there.after u last there.rest closes

  abbrev pub at_place : (i : ℕ) (l : ScriptLine) (a : Answer) → l.session ≡ seat → OwnAt f seat v script answers u i l a → OwnPlace v f seat (take i (said_of script answers)) l a
  at_place i l a own there = record {
    before = there.before;
    after = there.after;
    own = own;
    moves = line_moves (take i script) (take i answers);
    start = there.start;
    says = said_first i script answers;
    lies = lines_lie f seat (take i script) (take i answers) v there.before none there.start;
    did = there.did;
    more = behind i;
    last = last;
    onward = behind_run i l a there;
    ends = ends;
    within = within;
  }

  -- one that is before it
  module _ (runs : NoneRuns) (stay : (w u : Work) (steps : List Step) → Extends w u → IsAnswered w steps → IsAnswered u steps) where
    pub earlier_place : (i : ℕ) (l : ScriptLine) (a : Answer) → l.session ≡ seat → (there : OwnAt f seat v script answers u i l a) → (j : ℕ) (k : ScriptLine) (b : Answer) → k.session ≡ seat
        → slice_get script j ≡ Some k → slice_get answers j ≡ Some b → j < i → (x : OwnPlace v f seat (take j (said_of script answers)) k b) × OwnGoes seat x.after there.before
    earlier_place i l a own there j k b its at answered less =
        let first = own_at f seat (take i script) (take i answers) v there.before j k b its there.start (get_taken script j i k less at) (get_taken answers j i b less answered) in
        let between = line_moves (drop (suc j) (take i script)) (drop (suc j) (take i answers)) in (
          record {
            before = first.before;
            after = first.after;
            own = its;
            moves = line_moves (take j (take i script)) (take j (take i answers));
            start = first.start;
            says = said_first j (take i script) (take i answers) ∙ ap (λ (said : List Said). take j said) (said_taken i script answers) ∙ take-take j i (said_of script answers) (omega (arith, less));
            lies = lines_lie f seat (take j (take i script)) (take j (take i answers)) v first.before none first.start;
            did = first.did;
            more = between ++ line l a ∷ behind i;
            last = last;
            onward = own_append f seat between (line l a ∷ behind i) first.after there.before last first.rest
                (there.before, there.after, passes_itself seat there.before, own_step f seat l a there.before there.after own there.did, behind_run i l a there);
            ends = ends;
            within = within;
          },
          own_goes runs stay f seat between first.after there.before first.rest,
        )

-- AT A PLACE: what its line draws, what was told of the session before it, and how the session goes on behind it
module _ (v f : View) (seat : ℕ) (said : List Said) (l : ScriptLine) (a : Answer) (x : OwnPlace v f seat said l a) where
  pub place_drew : Drew f seat (Some l.command) a x.before x.after
  place_drew = subst (λ (q : ℕ). Drew f q (Some l.command) a x.before x.after) x.own
      (line_drew f l a x.before x.after (subst (λ (q : ℕ). LieBelow q x.before) (sym x.own) x.lies) x.did)

  module _ (runs : NoneRuns) (stay : (w u : Work) (steps : List Step) → Extends w u → IsAnswered w steps → IsAnswered u steps) where
    pub place_knows : Knows seat nothing Idle v → Knows seat (progress_of seat said) (phase_of seat said) x.before
    place_knows first =
        subst (λ (list : List Said). Knows seat (progress_of seat list) (phase_of seat list) x.before) x.says
        (knows_own runs stay f seat x.moves nothing Idle v x.before x.start first)

    place_goes : OwnGoes seat x.after x.last
    place_goes = own_goes runs stay f seat x.more x.after x.last x.onward

    pub place_ends : Continues (x.after.session seat) (f.session seat)
    place_ends = subst (λ (s : Session). Continues (x.after.session seat) s) x.ends place_goes.goes

    pub place_within : x.after.tail ≤ f.tail
    place_within = let onward = place_goes.onward.tail in let within = x.within in omega (arith, onward, within)
