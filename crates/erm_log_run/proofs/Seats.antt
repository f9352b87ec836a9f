-- Sessions that were closed, by their seats.
use Rattle.std.proofs.Common.{⊎_elim, ◌≡◌, ◌≢◌, ℕ, ◌+◌, ◌-◌, ◌<◌, Bool, true, false, eqb, List, [], ◌∷◌, ◌++◌, length, slice_index_or, take, Option, Some, None, sym, ap, ◌∙◌, subst, arith}
use Rattle.std.specs.Prelude.{if◌then◌else◌, zero, suc}
use Rattle.std.proofs.lemmas.Bool.Decides.{eqb_tells}
use Rattle.std.proofs.lemmas.List.{length-take, take_more}
use Rattle.erm_model.specs.Member.{◌∈◌}
use Rattle.erm_model.proofs.Members.{none_in_nil, ∈-behind}
use Rattle.erm_machine.proofs.Listed.{∈-cons, ∈-head}
use Rattle.erm_report.specs.declared.answer.Answer.{Answer}
use Rattle.erm_world.specs.World.{View}
use Rattle.erm_good_report.specs.Phases.{Closed}
use Rattle.erm_lines.specs.Executions.{AreClosed, Move, close, closed_in, flush, line, log}
use Rattle.erm_told.proofs.Pairs.{Pairs, all_pairs}
use Rattle.erm_log_run.specs.Closing.{IsClosing, closes_from, end_of}

-- one more end
pub closes_more : (seat : ℕ) (ends more : List (Option Answer)) → closes_from seat (ends ++ more) ≡ closes_from seat ends ++ closes_from (seat + length ends) more
closes_more seat [] more = ap (λ (s : ℕ). closes_from s more) (omega arith)
closes_more seat (None ∷ ends) more = closes_more (seat + 1) ends more ∙ ap (λ (s : ℕ). closes_from (seat + 1) ends ++ closes_from s more) (omega arith)
closes_more seat (Some a ∷ ends) more = ap (λ (cs : List Closed). record { session = seat; answer = a } ∷ cs) (closes_more (seat + 1) ends more ∙ ap (λ (s : ℕ). closes_from (seat + 1) ends ++ closes_from s more) (omega arith))

-- a session that is in the list ended so
pub in_closes : (seat : ℕ) (ends : List (Option Answer)) (c : Closed) → c ∈ closes_from seat ends
    → (k : ℕ) × (k < length ends) × (c.session ≡ seat + k) × (slice_index_or ends k None ≡ Some c.answer)
in_closes seat [] c m = absurd (none_in_nil c m)
in_closes seat (None ∷ ends) c m = let rest = in_closes (seat + 1) ends c m in let k = rest.0 in let few = rest.1 in let is = rest.2 in (suc k, omega (arith, few), omega (arith, is), rest.3)
in_closes seat (Some a ∷ ends) c m = ⊎_elim
    (λ (here : record { session = seat; answer = a } ≡ c). (0, omega arith, (let is = ap (λ (x : Closed). x.session) here in omega (arith, is)), ap (λ (x : Closed). Some x.answer) here))
    (λ (there : c ∈ closes_from (seat + 1) ends). let rest = in_closes (seat + 1) ends c there in let k = rest.0 in let few = rest.1 in let is = rest.2 in (suc k, omega (arith, few), omega (arith, is), rest.3))
    (∈-cons c (record { session = seat; answer = a }) (closes_from (seat + 1) ends) m)

-- one that ended so is in the list
pub closes_in : (seat : ℕ) (ends : List (Option Answer)) (k : ℕ) (c : Closed) → k < length ends → c.session ≡ seat + k → slice_index_or ends k None ≡ Some c.answer → c ∈ closes_from seat ends
closes_in seat [] k c few is ended = absurd (omega (arith, few))
closes_in seat (None ∷ ends) zero c few is ended = absurd (let no : None ≡ Some c.answer = ended in cc)
closes_in seat (Some a ∷ ends) zero c few is ended = subst (λ (x : Closed). x ∈ (record { session = seat; answer = a } ∷ closes_from (seat + 1) ends)) (same c is ended) (∈-head (record { session = seat; answer = a }) (closes_from (seat + 1) ends))
  where
    made : ℕ → Answer → Closed
    made session answer = record { session = session; answer = answer }

    the_answer : (b : Answer) → Some a ≡ Some b → a ≡ b
    the_answer b is = cc

    same : (c : Closed) → c.session ≡ seat + 0 → Some a ≡ Some c.answer → made seat a ≡ c
    same c is ended = let at : seat ≡ c.session = omega (arith, is) in ap (λ (m : ℕ). made m a) at ∙ ap (made c.session) (the_answer c.answer ended)
closes_in seat (None ∷ ends) (suc k) c few is ended = closes_in (seat + 1) ends k c (omega (arith, few)) (omega (arith, is)) ended
closes_in seat (Some a ∷ ends) (suc k) c few is ended = ∈-behind (record { session = seat; answer = a }) (closes_from (seat + 1) ends) c (closes_in (seat + 1) ends k c (omega (arith, few)) (omega (arith, is)) ended)

-- they ascend by seat
ascending : (seat : ℕ) (ends : List (Option Answer)) → Pairs (λ (a b : Closed). a.session < b.session) (closes_from seat ends)
ascending seat [] = tt
ascending seat (None ∷ ends) = ascending (seat + 1) ends
ascending seat (Some a ∷ ends) = ((λ c m. let at = in_closes (seat + 1) ends c m in let is = at.2 in omega (arith, is)), ascending (seat + 1) ends)

-- a close of a session is among the moves
ended_in : (moves : List Move) (seat : ℕ) (a : Answer) → end_of moves seat ≡ Some a → ◌∈◌ {X = Closed} (record { session = seat; answer = a }) (closed_in moves)
ended_in [] seat a is = absurd (let no : None ≡ Some a = is in cc)
ended_in (line l b ∷ moves) seat a is = ended_in moves seat a is
ended_in (log l b ∷ moves) seat a is = ended_in moves seat a is
ended_in (flush ∷ moves) seat a is = ended_in moves seat a is
ended_in (close other b ∷ moves) seat a is = ⊎_elim
    (λ (here : (eqb other seat ≡ true) × (other ≡ seat)).
    let b_is : Some b ≡ Some a = sym (ap (λ (t : Bool). if t then Some b else end_of moves seat) here.0) ∙ is in
    subst (λ (x : Closed). x ∈ (record { session = other; answer = b } ∷ closed_in moves)) (same other here.1 b b_is) (∈-head (record { session = other; answer = b }) (closed_in moves)))
    (λ (there : (eqb other seat ≡ false) × (other ≢ seat)).
    ∈-behind (record { session = other; answer = b }) (closed_in moves) (record { session = seat; answer = a })
    (ended_in moves seat a (sym (ap (λ (t : Bool). if t then Some b else end_of moves seat) there.0) ∙ is)))
    (eqb_tells other seat)
  where
    same : (other : ℕ) → other ≡ seat → (b : Answer) → Some b ≡ Some a → ◌≡◌ {A = Closed} (record { session = other; answer = b }) (record { session = seat; answer = a })
    same other is b ended = cc

-- the list has just the sessions closed
pub are_closed : (v t : View) (n : ℕ) (ends : List (Option Answer)) (is : IsClosing v n ends t) → AreClosed is.closing (closes_from 1 ends)
are_closed v t n ends is = record {
  ascend = all_pairs (λ (a b : Closed). a.session < b.session) (closes_from 1 ends) (ascending 1 ends);
  only = λ c m.
      let at = in_closes 1 ends c m in
      let k = at.0 in
      let many = is.many in
      let few = at.1 in
      let session : k + 1 ≡ c.session = (let s = at.2 in omega (arith, s)) in
      ended_in is.closing c.session c.answer (sym (ap (end_of is.closing) session) ∙ sym (is.noted k (omega (arith, few, many))) ∙ at.3);
  all = λ c m.
      let told = is.told c m in
      let positive = told.1 in
      let few = told.2 in
      let many = is.many in
      let k = pred c.session in
      let session : k + 1 ≡ c.session = pred_is c.session positive in
      closes_in 1 ends k c (omega (arith, session, few, many)) (omega (arith, session)) (is.noted k (omega (arith, session, few)) ∙ ap (end_of is.closing) session ∙ told.0);
}
  where
    pred : ℕ → ℕ
    pred m = m - 1

    pred_is : (m : ℕ) → 0 < m → (m - 1) + 1 ≡ m
    pred_is m positive = omega (arith, positive)

-- one place more
pub closes_step : (ends : List (Option Answer)) (place : ℕ) (e : Option Answer) → place < length ends → slice_index_or ends place None ≡ e
    → closes_from 1 (take (place + 1) ends) ≡ closes_from 1 (take place ends) ++ closes_from (place + 1) (e ∷ [])
closes_step ends place e few is =
    let longer : take (place + 1) ends ≡ take place ends ++ e ∷ [] = take_more ends place None few ∙ ap (λ (x : Option Answer). take place ends ++ x ∷ []) is in
    let size : length (take place ends) ≡ place = (let s = length-take place ends in omega (arith, s, few)) in
    ap (closes_from 1) longer ∙ closes_more 1 (take place ends) (e ∷ []) ∙ ap (λ (s : ℕ). closes_from 1 (take place ends) ++ closes_from s (e ∷ [])) (omega (arith, size))
