-- A session whose memory ran out in a line: its transaction may have gone on there, and it is given up.
use Rattle.std.proofs.Common.{◌≡◌, ℕ, ◌<◌, ◌++◌, List, [], ◌∷◌, length, map, Result, Ok, Err, IfErr, append-nil, refl, sym, ap, ◌∙◌, subst}
use Rattle.erm_model.specs.declared.outcome.Phase.{Phase}
use Rattle.erm_model.specs.declared.outcome.Phase.TheVariants.{Active, Idle, Sealed, Pending, Safe}
use Rattle.erm_report.specs.declared.answer.Answer.{Answer}
use Rattle.erm_script.specs.declared.script.ScriptLine.{ScriptLine}
use Rattle.erm_world.specs.Face.{Grows, ends, same, works}
use Rattle.erm_world.specs.Going.{Extends, found_by}
use Rattle.erm_world.specs.Snapshots.{snapshot_not_active}
use Rattle.erm_world.specs.World.{Finished, Session, Stand, View, Work, phase_at, phase_of, work_of}
use Rattle.erm_world.specs.World as world
use Rattle.erm_lines.specs.Executions.{line_moves}
use Rattle.erm_beside.specs.Laws.{IsWithin}
use Rattle.erm_lines_at_once.specs.Executions.{IsOwnRun}
use Rattle.erm_worker.specs.Work.{GaveUp, RanShort, WasGivenUp, aborted, stayed}

-- what is so is so where memory ran out
pub on_err : {T E : Type 0} (r : Result T E) (P : Type 0) → P → IfErr r (λ _. P)
on_err (Ok x) P is = tt
on_err (Err e) P is = is

-- IN A LINE, behind those answered
pub short_there : (f : View) (seat mid : ℕ) (lines : List ScriptLine) (answers : List Answer) (v u t : View) → mid ≡ seat → length answers < length lines
    → IsOwnRun f seat v (line_moves lines answers) u → IsWithin mid u f → Grows (u.session mid) (t.session mid) → RanShort Grows f seat lines answers v t
short_there f seat mid lines answers v u t is fewer run within grows = record {
  last = u;
  run = run;
  fewer = fewer;
  within = (within.tail, within.flushed);
  went = subst (λ (q : ℕ). Grows (u.session q) (t.session q)) is grows;
}

-- GIVEN UP. A work extends itself.
itself : (w : Work) → Extends w w
itself w = record {
  number = refl;
  begin = refl;
  read = [];
  reads = sym (append-nil w.reads);
  claimed = [];
  claims = sym (append-nil (map found_by w.claims));
  more = [];
  made = sym (append-nil w.made);
}

now_active : (stand : Stand) → phase_of stand ≡ Active → stand ≡ world.active (work_of stand)
now_active world.idle active = cc
now_active (world.active w) active = refl
now_active (world.sealed w stamp) active = cc
now_active (world.snapshot s) active = absurd (snapshot_not_active s active)

-- an abort of what had gone on
module _ (s u t : Session) (did : t ≡ record { over = u.over ++ record { work = work_of u.stand; fate = world.aborts } ∷ []; stand = world.idle }) (active : phase_of u.stand ≡ Active) where
  ended_so : (w : Work) → s.stand ≡ world.active w → u.over ≡ s.over → Extends w (work_of u.stand) → WasGivenUp s t
  ended_so w is over goes = aborted w (work_of u.stand) is goes (did ∙ ap (λ (fs : List Finished). record { over = fs ++ record { work = work_of u.stand; fate = world.aborts } ∷ []; stand = world.idle }) over)

  aborted_then : Grows s u → WasGivenUp s t
  aborted_then (same is) =
      let at : s.stand ≡ world.active (work_of u.stand) = sym (ap (λ (x : Session). x.stand) is) ∙ now_active u.stand active in
      ended_so (work_of u.stand) at (ap (λ (x : Session). x.over) is) (itself (work_of u.stand))
  aborted_then (works w x is over stand goes) = ended_so w is over (subst (λ (st : Stand). Extends w (work_of st)) (sym stand) goes)
  aborted_then (ends w x is over stand goes) = absurd (let no = ap phase_of stand in cc)

-- nothing more was done
stayed_then : (s u t : Session) → t ≡ u → (phase_of u.stand ≡ Active → ⊥) → Grows s u → WasGivenUp s t
stayed_then s u t is inactive (same e) = stayed (is ∙ e)
stayed_then s u t is inactive (works w x at over stand goes) = absurd (inactive (ap phase_of stand))
stayed_then s u t is inactive (ends w x at over stand goes) = aborted w x at goes (is ∙ (λ i. record { over = over i; stand = stand i }))

given_by : (seat : ℕ) (s : Session) (u t : View) (phase : Phase) → phase_at u seat ≡ phase → Grows s (u.session seat) → GaveUp phase seat u t → WasGivenUp s (t.session seat)
given_by seat s u t Active is grows (x, passes, did) =
    let active : phase_of (x.session seat).stand ≡ Active = ap (λ (y : Session). phase_of y.stand) passes.own ∙ is in
    aborted_then s (x.session seat) (t.session seat) did.own active (subst (λ (y : Session). Grows s y) (sym passes.own) grows)
given_by seat s u t Idle is grows gave = stayed_then s (u.session seat) (t.session seat) (ap (λ (x : View). x.session seat) gave) (λ active. cc) grows
given_by seat s u t Sealed is grows gave = stayed_then s (u.session seat) (t.session seat) (ap (λ (x : View). x.session seat) gave) (λ active. cc) grows
given_by seat s u t Pending is grows gave = stayed_then s (u.session seat) (t.session seat) (ap (λ (x : View). x.session seat) gave) (λ active. cc) grows
given_by seat s u t Safe is grows gave = stayed_then s (u.session seat) (t.session seat) (ap (λ (x : View). x.session seat) gave) (λ active. cc) grows

pub given_up_short : (f : View) (seat : ℕ) (lines : List ScriptLine) (answers : List Answer) (v u t : View) → RanShort Grows f seat lines answers v u → GaveUp (phase_at u seat) seat u t
    → RanShort WasGivenUp f seat lines answers v t
given_up_short f seat lines answers v u t short gave = record {
  last = short.last;
  run = short.run;
  fewer = short.fewer;
  within = short.within;
  went = given_by seat (short.last.session seat) u t (phase_at u seat) refl short.went gave;
}
