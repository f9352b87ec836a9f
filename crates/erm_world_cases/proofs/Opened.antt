-- A world that opens on rows of zeros.
use Rattle.std.proofs.Common.{◌≡◌, ◌<◌, ◌≤◌, Result, Ok, Err, IfOk, sym, subst, arith, ap, ◌∙◌, refl, zero, suc, inl, inr, ℕ, Bool, true, false, if◌then◌else◌, List, [], get_or, replicate}
use Rattle.std.proofs.lemmas.Bool.{cases_lt}
use Rattle.erm_model.specs.declared.TheConstants.{ROW_WORDS}
use Rattle.erm_model.specs.declared.limits.TheConstants.{OID_LIMIT, TABLES}
use Rattle.erm_model.specs.declared.outcome.Phase.TheVariants.{Active}
use Rattle.erm_model.specs.Rows.{Rows, rows_of}
use Rattle.erm_machine.specs.declared.place.Place.TheVariants.{Idle, Vacant}
use Rattle.erm_machine.specs.declared.task.Task.TheVariants as task
use Rattle.erm_machine.specs.Core.{Core, blank, is_taken, opening_state}
use Rattle.erm_core_view.specs.Views.{stand_of, view_of}
use Rattle.erm_node.specs.Sound.{IsSound, reached}
use Rattle.erm_world.specs.World.{phase_at, phase_of}
use Rattle.erm_core.specs.Cores.{core_of}
use Rattle.erm_plain.specs.Stands.{plain_view}
use Rattle.erm_plain.specs.declared.plain.Plain.{Plain}
use Rattle.erm_world_cases.specs.Sessions.{AllRun}

get_or-zeros : (n t : ℕ) (row : List ℕ) → t < n → get_or (replicate n row) t [] ≡ row
get_or-zeros zero t row below = absurd (omega (arith, below))
get_or-zeros (suc n) zero row below = refl
get_or-zeros (suc n) (suc t) row below = get_or-zeros n t row (omega (arith, below))

-- no object that may be made is reached
pub new_unreached : ((rows : Rows) (x : ℕ) → IsSound rows → TABLES ≤ x → rows x ≡ replicate ROW_WORDS 0 → reached rows x ≡ 0)
    → (n : ℕ) (rows : List (List ℕ)) → n ≡ OID_LIMIT → rows ≡ replicate n (replicate ROW_WORDS 0) → IsSound (rows_of rows)
    → (x : ℕ) → TABLES ≤ x → reached (rows_of rows) x ≡ 0
new_unreached zeros n rows size is sound x above = elim (cases_lt x OID_LIMIT) as (λ _. reached (rows_of rows) x ≡ 0) [
  | inl below ↦ zeros (rows_of rows) x sound above (ap (λ (list : List (List ℕ)). get_or list x []) is ∙ get_or-zeros n x (replicate ROW_WORDS 0) (omega (arith, below, size)))
  | inr over ↦ sound.bounded x over
]

-- no session is active at first
never : (b : Bool) → phase_of (stand_of (if b then Idle else Vacant) task.Rest blank) ≡ Active → ⊥
never true active = cc
never false active = cc

opened_idle : (sessions : ℕ) (rows : Rows) (tail run first cells : ℕ) (c : Core) → c ≡ opening_state sessions rows tail run first cells → (n seat : ℕ) → phase_at (view_of n c) seat ≡ Active → ⊥
opened_idle sessions rows tail run first cells c is n seat =
    subst (λ (at : Core). phase_at (view_of n at) seat ≡ Active → ⊥) (sym is) (λ active. never (is_taken sessions seat) active)

pub opened_in : {L E : Type 0} (r : Result (Plain L) E) (sessions : ℕ) (rows : Rows) (tail run first cells : ℕ) → IfOk r (λ p. core_of p.lists.state ≡ opening_state sessions rows tail run first cells)
    → IfOk r (λ p. AllRun (plain_view p))
opened_in (Ok p) sessions rows tail run first cells is = λ seat session active. absurd (opened_idle sessions rows tail run first cells (core_of p.lists.state) is p.lists.sessions seat active)
opened_in (Err e) sessions rows tail run first cells is = tt

-- and the first has committed nothing
pub over_in : {L E : Type 0} (r : Result (Plain L) E) (sessions : ℕ) (rows : Rows) (tail run first cells : ℕ) → IfOk r (λ p. core_of p.lists.state ≡ opening_state sessions rows tail run first cells)
    → IfOk r (λ p. ((plain_view p).session 1).over ≡ [])
over_in (Ok p) sessions rows tail run first cells is = ap (λ (c : Core). ((view_of p.lists.sessions c).session 1).over) is
over_in (Err e) sessions rows tail run first cells is = tt
