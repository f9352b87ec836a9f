-- A session takes a number with a line of its own at most, and none where it is closed: so its next one is no greater than the lines are many, and one.
use Rattle.std.proofs.Common.{◌≡◌, ℕ, zero, suc, ◌+◌, ◌≤◌, ◌==◌, Bool, true, false, cond, List, [], ◌∷◌, length, map, fold, None, refl, sym, subst, arith}
use Rattle.std.proofs.lemmas.List.Sums.{fold-append}
use Rattle.erm_model.specs.declared.outcome.Phase.{Phase}
use Rattle.erm_model.specs.Member.{◌∈◌}
use Rattle.erm_report.specs.declared.answer.Answer.{Answer}
use Rattle.erm_script.specs.declared.script.ScriptLine.{ScriptLine}
use Rattle.erm_good_report.specs.GoodReport.{places_of}
use Rattle.erm_good_report.specs.Phases.{Closed, Closes}
use Rattle.erm_good_report.specs.Transactions.{Progress, heard, next_number, nothing, progress_of, said_of}
use Rattle.erm_told.proofs.Closing.{close_said}
use Rattle.erm_told.proofs.Executed.{hears}
use Rattle.erm_causes_at_once.proofs.Numbers.{closes_none, numbers_in, places_few}

few_said : (script : List ScriptLine) (answers : List Answer) → length (said_of script answers) ≤ length script
few_said [] answers = omega arith
few_said (l ∷ ls) [] = omega arith
few_said (l ∷ ls) (a ∷ answers) = let rest = few_said ls answers in omega (arith, rest)

module _ (phases : ℕ → Phase) where
  all_close : (seat : ℕ) (closed : List Closed) (p : Progress) → ((c : Closed) → c ∈ closed → Closes (phases c.session) c.answer) → numbers_in (fold (hears seat) p (map close_said closed)) ≤ numbers_in p
  all_close seat [] p fits = omega arith
  all_close seat (c ∷ closed) p fits =
      let rest = all_close seat closed (cond (c.session == seat) (heard seat None c.answer p) p) (λ d m. fits d (suc m.0, m.1)) in
      omega (arith, rest, step (c.session == seat))
    where
      step : (b : Bool) → numbers_in (cond b (heard seat None c.answer p) p) ≤ numbers_in p
      step true = let none = closes_none seat (phases c.session) c.answer p (fits c (zero, refl)) in omega (arith, none)
      step false = omega arith

  pub next_few : (script : List ScriptLine) (answers : List Answer) (closed : List Closed) → ((c : Closed) → c ∈ closed → Closes (phases c.session) c.answer)
      → (session : ℕ) → next_number (progress_of session (places_of script answers closed)) ≤ length script + 1
  next_few script answers closed fits session =
      let said = said_of script answers in
      let both : progress_of session (places_of script answers closed) ≡ fold (hears session) (fold (hears session) nothing said) (map close_said closed) =
      fold-append (hears session) nothing said (map close_said closed) in
      let lines = places_few session said nothing in
      let closings = all_close session closed (fold (hears session) nothing said) fits in
      subst (λ (p : Progress). next_number p ≤ length script + 1) (sym both) (omega (arith, lines, closings, few_said script answers))
