-- How many parts and closed sessions there are of works.
use Rattle.std.proofs.Common.{◌≡◌, ℕ, ◌+◌, ◌≤◌, List, [], ◌∷◌, Vec, length, map, Option, Some, None, sym, ap, ◌∙◌, arith}
use Rattle.std.specs.declared.alloc.Global.{Global}
use Rattle.std.proofs.lemmas.List.{length-map}
use Rattle.erm_report.specs.declared.answer.Answer.{Answer}
use Rattle.erm_good_report.specs.Phases.{Closed}
use Rattle.erm_summary.specs.declared.told.ClosedSession.{ClosedSession}
use Rattle.erm_summary.specs.Told.{closed_of}
use Rattle.erm_joined.specs.Merged.{closes_from}
use Rattle.erm_run_at_once.specs.Ran.{answers_of, closes_of}
use Rattle.erm_run_beside.specs.declared.work.SessionWork.{SessionWork}

-- as many parts as works
pub as_many : (parts : List (Vec Answer Global)) (works : List SessionWork) → map (λ p. p.items) parts ≡ answers_of works → length parts ≡ length works
as_many parts works same =
    sym (length-map parts (λ (p : Vec Answer Global). p.items)) ∙ ap (λ (xs : List (List Answer)). length xs) same ∙ length-map works (λ (w : SessionWork). w.answers.items)

few_from : (seat : ℕ) (closed : List (Option Answer)) → length (closes_from seat closed) ≤ length closed
few_from seat [] = omega arith
few_from seat (None ∷ closed) = let rest = few_from (seat + 1) closed in omega (arith, rest)
few_from seat (Some a ∷ closed) = let rest = few_from (seat + 1) closed in omega (arith, rest)

-- no more sessions closed than works
pub few_closed : (closed : List ClosedSession) (works : List SessionWork) → map closed_of closed ≡ closes_from 1 (closes_of works) → length closed ≤ length works
few_closed closed works same =
    let long = length-map closed closed_of in
    let is = ap (λ (xs : List Closed). length xs) same in
    let few = few_from 1 (closes_of works) in
    let many = length-map works (λ (w : SessionWork). w.closed) in
    omega (arith, long, is, few, many)
