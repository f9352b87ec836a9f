-- Calls of a session's transaction that were answered in turn.
use Rattle.std.proofs.Common.{◌≡◌, ℕ, List, [], ◌∷◌, ◌++◌, refl, sym, ap, ◌∙◌, subst}
use Rattle.erm_model.specs.declared.outcome.Phase.TheVariants.{Active}
use Rattle.erm_model.specs.RowTransaction.{Event}
use Rattle.erm_node.specs.Sound.{sound_law}
use Rattle.erm_world.specs.Face.{Goes, Grows, ends, same, works}
use Rattle.erm_world.specs.Going.{Extends}
use Rattle.erm_world.specs.Onward.{extends_then, goes_itself, goes_then}
use Rattle.erm_world.specs.Snapshots.{snapshot_not_active}
use Rattle.erm_world.specs.World.{Finished, Session, Stand, View, Work, phase_at, phase_of, work_at, work_of}
use Rattle.erm_world.specs.World as world
use Rattle.erm_world.proofs.Txns.{went}
use Rattle.erm_lines.specs.Operations.{Ran}
use Rattle.erm_told.proofs.Going.{extends_itself}

-- a session where it is active
pub active_in : (stand : Stand) → phase_of stand ≡ Active → stand ≡ world.active (work_of stand)
active_in world.idle active = cc
active_in (world.active w) active = refl
active_in (world.sealed w stamp) active = cc
active_in (world.snapshot s) active = absurd (snapshot_not_active s active)

-- an active session isn't idle, and what it has is its work
pub not_idle : (stand : Stand) (w : Work) (P : Type 0) → stand ≡ world.active w → stand ≡ world.idle → P
not_idle stand w P active idle = let at = ap phase_of (sym active ∙ idle) in absurd (cc)

pub its_work : (stand : Stand) (w u : Work) → stand ≡ world.active w → stand ≡ world.active u → w ≡ u
its_work stand w u first second = ap work_of (sym first ∙ second)

-- the session is active still, with a work that has gone on
pub record GoesOn (v : View) (seat : ℕ) (t : View) : Type 0 where
  pub work : Work
  pub stand : (t.session seat).stand ≡ world.active work
  pub more : Extends (work_at v seat) work
  pub goes : Goes v seat t

pub ran_on : (v : View) (seat : ℕ) (events : List Event) (t : View) → phase_at v seat ≡ Active → Ran v seat events t → GoesOn v seat t
ran_on v seat [] t active is = record {
  work = work_at v seat;
  stand = ap (λ (u : View). (u.session seat).stand) is ∙ active_in (v.session seat).stand active;
  more = extends_itself (work_at v seat);
  goes = subst (λ (u : View). Goes v seat u) (sym is) (goes_itself v seat);
}
ran_on v seat (event ∷ events) t active (u, answered, rest) =
    let first = went sound_law v seat event u active answered in
    let second = ran_on u seat events t (ap phase_of first.stand) rest in record {
      work = second.work;
      stand = second.stand;
      more = extends_then (work_at v seat) first.work second.work first.more (subst (λ (w : Work). Extends w second.work) (ap work_of first.stand) second.more);
      goes = goes_then v u t seat seat refl first.goes second.goes;
    }

-- what is over is so still
pub over_still : (s t : Session) (u : Work) → Grows s t → t.stand ≡ world.active u → t.over ≡ s.over
over_still s t u (same is) active = ap (λ (r : Session). r.over) is
over_still s t u (works w x before over after more) active = over
over_still s t u (ends w x before over after more) active = not_idle t.stand u (t.over ≡ s.over) active after

-- one that is idle afterwards was aborted
pub over_then : (s t : Session) (w : Work) → Grows s t → s.stand ≡ world.active w → t.stand ≡ world.idle
    → (u : Work) × Extends w u × (t.over ≡ s.over ++ record { work = u; fate = world.aborts } ∷ [])
over_then s t w (same is) before idle =
    not_idle t.stand w ((u : Work) × Extends w u × (t.over ≡ s.over ++ record { work = u; fate = world.aborts } ∷ [])) (ap (λ (r : Session). r.stand) is ∙ before) idle
over_then s t w (works x u was over after more) before idle =
    not_idle t.stand u ((y : Work) × Extends w y × (t.over ≡ s.over ++ record { work = y; fate = world.aborts } ∷ [])) after idle
over_then s t w (ends x u was over after more) before idle =
    (u, subst (λ (y : Work). Extends y u) (its_work s.stand x w was before) more, over)

-- and its savepoints are those that it had
pub ran_saves : (v : View) (seat : ℕ) (events : List Event) (t : View) → phase_at v seat ≡ Active → Ran v seat events t → t.saves seat ≡ v.saves seat
ran_saves v seat [] t active is = ap (λ (u : View). u.saves seat) is
ran_saves v seat (event ∷ events) t active (u, answered, rest) =
    let first = went sound_law v seat event u active answered in ran_saves u seat events t (ap phase_of first.stand) rest ∙ first.goes.saves (ap phase_of first.stand)
