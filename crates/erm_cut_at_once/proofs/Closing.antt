-- The sessions that count as closed behind an execution that was cut off, and the moves that close them.
use Rattle.std.proofs.Common.{◌≡◌, ◌≢◌, ℕ, zero, suc, ◌<◌, ◌≤◌, Bool, true, false, cond, List, [], ◌∷◌, ◌++◌, map, fold, inl, inr, refl, sym, ap, ◌∙◌, subst, eq-eqb, ne_eqb, arith, le_trans}
use Rattle.std.proofs.lemmas.Bool.{cases_eq}
use Rattle.std.proofs.lemmas.List.{append_assoc, map-append}
use Rattle.std.proofs.lemmas.List.Sums.{fold-append}
use Rattle.erm_report.specs.declared.answer.Answer.{Answer}
use Rattle.erm_report.specs.declared.answer.Answer.TheVariants as answer
use Rattle.erm_script.specs.declared.script.ScriptLine.{ScriptLine}
use Rattle.erm_world.specs.World.{View}
use Rattle.erm_good_report.specs.GoodReport.{places_of}
use Rattle.erm_good_report.specs.Phases.{Closed}
use Rattle.erm_good_report.specs.Transactions.{Aborts, Progress, Said, ended, nothing, progress_of, said_of}
use Rattle.erm_lines.specs.Executions.{Move, close, line_moves}
use Rattle.erm_beside.specs.Calls.{Passes}
use Rattle.erm_lines_at_once.specs.Executions.{DidOwn, IsOwnRun, all_moves}
use Rattle.erm_told.proofs.Closing.{close_said}
use Rattle.erm_told.proofs.Executed.{hears}
use Rattle.erm_told_at_once.proofs.Runs.{close_of}
use Rattle.erm_limits_at_once.proofs.Chained.{passes_itself}
use Rattle.erm_cut_at_once.proofs.Left.{ClosedBy}

-- others went on, and then went on
passes_then : (seat : ℕ) (v u t : View) → Passes seat v u → Passes seat u t → Passes seat v t
passes_then seat v u t first second = record {
  own = second.own ∙ first.own;
  opening = second.opening ∙ first.opening;
  tail = le_trans first.tail second.tail;
  flushed = le_trans first.flushed second.flushed;
  given_up = second.given_up ∙ first.given_up;
  saves = second.saves ∙ first.saves;
}

own_after : (f : View) (seat : ℕ) (ms : List Move) (v u t : View) → Passes seat v u → IsOwnRun f seat u ms t → IsOwnRun f seat v ms t
own_after f seat [] v u t passes run = passes_then seat v u t passes run
own_after f seat (m ∷ ms) v u t passes (x, y, first, did, rest) = (x, y, passes_then seat v u x passes first, did, rest)

-- one run behind another
pub own_join : (f : View) (seat : ℕ) (xs ys : List Move) (v u t : View) → IsOwnRun f seat v xs u → IsOwnRun f seat u ys t → IsOwnRun f seat v (xs ++ ys) t
own_join f seat [] ys v u t passes run = own_after f seat ys v u t passes run
own_join f seat (m ∷ xs) ys v u t (x, y, passes, did, rest) run = (x, y, passes, did, own_join f seat xs ys y u t rest run)

-- whether a session was closed, where it was by an abort
abbrev one_gone : ℕ → Bool → List Closed
one_gone seat gone = cond gone (record { session = seat; answer = answer.Aborted } ∷ []) []

-- those of the sessions up to a number
abbrev pub gones : (ℕ → Bool) → ℕ → List Closed
gones gone zero = []
gones gone (suc n) = gones gone n ++ one_gone (suc n) (gone (suc n))

-- THE MOVES of a session among them
one_skips : (f : View) (seat at : ℕ) (b : Bool) (v : View) → at ≢ seat → IsOwnRun f seat v (map close_of (one_gone at b)) v
one_skips f seat at false v other = passes_itself seat v
one_skips f seat at true v other =
    (v, v, passes_itself seat v, subst (λ (b : Bool). DidOwn b f seat (close at answer.Aborted) v v) (sym (ne_eqb at seat other)) refl, passes_itself seat v)

one_closes : (f : View) (seat : ℕ) (b : Bool) (v t : View) → ClosedBy b seat v t → IsOwnRun f seat v (map close_of (one_gone seat b)) t
one_closes f seat false v t same = subst (λ (x : View). Passes seat v x) (sym same) (passes_itself seat v)
one_closes f seat true v t did =
    (v, t, passes_itself seat v, subst (λ (b : Bool). DidOwn b f seat (close seat answer.Aborted) v t) (sym (eq-eqb seat seat refl)) (refl, did), passes_itself seat t)

module _ (gone : ℕ → Bool) (f : View) (seat : ℕ) where
  skips : (n : ℕ) (v : View) → n < seat → IsOwnRun f seat v (map close_of (gones gone n)) v
  skips zero v below = passes_itself seat v
  skips (suc n) v below =
      subst (λ (ms : List Move). IsOwnRun f seat v ms v) (sym (map-append close_of (gones gone n) (one_gone (suc n) (gone (suc n)))))
      (own_join f seat (map close_of (gones gone n)) (map close_of (one_gone (suc n) (gone (suc n)))) v v v (skips n v (omega (arith, below)))
      (one_skips f seat (suc n) (gone (suc n)) v (λ is. omega (arith, is, below))))

  pub closes : (n : ℕ) (v t : View) → 0 < seat → seat ≤ n → ClosedBy (gone seat) seat v t → IsOwnRun f seat v (map close_of (gones gone n)) t
  closes zero v t some within did = absurd (omega (arith, some, within))
  closes (suc n) v t some within did =
      subst (λ (ms : List Move). IsOwnRun f seat v ms t) (sym (map-append close_of (gones gone n) (one_gone (suc n) (gone (suc n)))))
      (elim (cases_eq seat (suc n)) as (λ _. IsOwnRun f seat v (map close_of (gones gone n) ++ map close_of (one_gone (suc n) (gone (suc n)))) t) [
        | inl same ↦
            own_join f seat (map close_of (gones gone n)) (map close_of (one_gone (suc n) (gone (suc n)))) v v t (skips n v (omega (arith, same)))
            (subst (λ (q : ℕ). IsOwnRun f seat v (map close_of (one_gone q (gone q))) t) same (one_closes f seat (gone seat) v t did))
        | inr other ↦
            own_join f seat (map close_of (gones gone n)) (map close_of (one_gone (suc n) (gone (suc n)))) v t t (closes n v t some (omega (arith, within, other)) did)
            (one_skips f seat (suc n) (gone (suc n)) t (λ is. other (sym is)))
      ])

-- all moves, with theirs
pub moves_with : (script : List ScriptLine) (answers : List Answer) (closed more : List Closed) → all_moves script answers (closed ++ more) ≡ all_moves script answers closed ++ map close_of more
moves_with script answers closed more =
    ap (λ (ms : List Move). line_moves script answers ++ ms) (map-append close_of closed more)
    ∙ sym (append_assoc (line_moves script answers) (map close_of closed) (map close_of more))

-- WHAT IS TOLD of them
pub places_with : (script : List ScriptLine) (answers : List Answer) (closed more : List Closed) → places_of script answers (closed ++ more) ≡ places_of script answers closed ++ map close_said more
places_with script answers closed more =
    ap (λ (said : List Said). said_of script answers ++ said) (map-append close_said closed more)
    ∙ sym (append_assoc (said_of script answers) (map close_said closed) (map close_said more))

abbrev pub closed_progress : Bool → Progress → Progress
closed_progress gone p = cond gone (ended Aborts p) p

one_skipped : (seat at : ℕ) (b : Bool) (p : Progress) → at ≢ seat → fold (hears seat) p (map close_said (one_gone at b)) ≡ p
one_skipped seat at false p other = refl
one_skipped seat at true p other = ap (λ (b : Bool). cond b (ended Aborts p) p) (ne_eqb at seat other)

one_told : (seat : ℕ) (b : Bool) (p : Progress) → fold (hears seat) p (map close_said (one_gone seat b)) ≡ closed_progress b p
one_told seat false p = refl
one_told seat true p = ap (λ (b : Bool). cond b (ended Aborts p) p) (eq-eqb seat seat refl)

module _ (gone : ℕ → Bool) (seat : ℕ) (p : Progress) where
  told_then : (n : ℕ) → fold (hears seat) p (map close_said (gones gone (suc n))) ≡ fold (hears seat) (fold (hears seat) p (map close_said (gones gone n))) (map close_said (one_gone (suc n) (gone (suc n))))
  told_then n =
      ap (λ (said : List Said). fold (hears seat) p said) (map-append close_said (gones gone n) (one_gone (suc n) (gone (suc n))))
      ∙ fold-append (hears seat) p (map close_said (gones gone n)) (map close_said (one_gone (suc n) (gone (suc n))))

  skipped : (n : ℕ) → n < seat → fold (hears seat) p (map close_said (gones gone n)) ≡ p
  skipped zero below = refl
  skipped (suc n) below =
      told_then n ∙ ap (λ (q : Progress). fold (hears seat) q (map close_said (one_gone (suc n) (gone (suc n))))) (skipped n (omega (arith, below)))
      ∙ one_skipped seat (suc n) (gone (suc n)) p (λ is. omega (arith, is, below))

  pub told_closed : (n : ℕ) → 0 < seat → seat ≤ n → fold (hears seat) p (map close_said (gones gone n)) ≡ closed_progress (gone seat) p
  told_closed zero some within = absurd (omega (arith, some, within))
  told_closed (suc n) some within = elim (cases_eq seat (suc n)) as (λ _. fold (hears seat) p (map close_said (gones gone (suc n))) ≡ closed_progress (gone seat) p) [
    | inl same ↦
        told_then n ∙ ap (λ (q : Progress). fold (hears seat) q (map close_said (one_gone (suc n) (gone (suc n))))) (skipped n (omega (arith, same)))
        ∙ subst (λ (q : ℕ). fold (hears seat) p (map close_said (one_gone q (gone q))) ≡ closed_progress (gone seat) p) same (one_told seat (gone seat) p)
    | inr other ↦
        told_then n ∙ ap (λ (q : Progress). fold (hears seat) q (map close_said (one_gone (suc n) (gone (suc n))))) (told_closed n some (omega (arith, within, other)))
        ∙ one_skipped seat (suc n) (gone (suc n)) (closed_progress (gone seat) p) (λ is. other (sym is))
  ]

pub progress_with : (gone : ℕ → Bool) (seat n : ℕ) (script : List ScriptLine) (answers : List Answer) (closed : List Closed) → 0 < seat → seat ≤ n
    → progress_of seat (places_of script answers (closed ++ gones gone n)) ≡ closed_progress (gone seat) (progress_of seat (places_of script answers closed))
progress_with gone seat n script answers closed some within =
    ap (λ (said : List Said). progress_of seat said) (places_with script answers closed (gones gone n))
    ∙ fold-append (hears seat) nothing (places_of script answers closed) (map close_said (gones gone n))
    ∙ told_closed gone seat (progress_of seat (places_of script answers closed)) n some within
