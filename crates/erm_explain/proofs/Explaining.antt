-- One cause more.
use Rattle.std.proofs.Common.{◌≡◌, ℕ, zero, suc, ◌+◌, ◌<◌, List, [], ◌∷◌, ◌++◌, length, slice_get, Some, refl, sym, ap, ◌∙◌, subst, inl, inr, arith}
use Rattle.std.proofs.lemmas.Bool.{cases_eq}
use Rattle.erm_report.specs.declared.answer.Answer.{Answer}
use Rattle.erm_script.specs.declared.script.ScriptLine.{ScriptLine}
use Rattle.erm_explain.specs.declared.cause.Cause.{Cause}
use Rattle.erm_explain.specs.Named.{IsCause, IsItself}

at_front : {X : Type 0} (xs ys : List X) (k : ℕ) (x : X) → slice_get xs k ≡ Some x → slice_get (xs ++ ys) k ≡ Some x
at_front [] ys k x at = absurd (cc)
at_front (z ∷ xs) ys zero x at = at
at_front (z ∷ xs) ys (suc k) x at = at_front xs ys k x at

at_end : {X : Type 0} (xs : List X) (x : X) → slice_get (xs ++ x ∷ []) (length xs) ≡ Some x
at_end [] x = refl
at_end (z ∷ xs) x = at_end xs x

-- each answer below a place has its cause
abbrev pub Each : List ScriptLine → List Answer → List Cause → ℕ → Type 0
Each script answers causes place = (i : ℕ) (l : ScriptLine) (a : Answer) → i < place → slice_get script i ≡ Some l → slice_get answers i ≡ Some a
    → (cause : Cause) × (slice_get causes i ≡ Some cause) × IsItself a cause × IsCause script answers i l a cause

pub each_more : (script : List ScriptLine) (answers : List Answer) (causes after : List Cause) (place : ℕ) (line : ScriptLine) (answer : Answer) (cause : Cause) → length causes ≡ place → after ≡ causes ++ cause ∷ []
    → slice_get script place ≡ Some line → slice_get answers place ≡ Some answer → IsItself answer cause → IsCause script answers place line answer cause → Each script answers causes place → Each script answers after (place + 1)
each_more script answers causes after place line answer cause count is at told itself here each i l a lt at_i told_i = elim (cases_eq i place) as (λ _. (c : Cause) × (slice_get after i ≡ Some c) × IsItself a c × IsCause script answers i l a c) [
  | inl same ↦
      let line_is : Some line ≡ Some l = sym at ∙ ap (slice_get script) (sym same) ∙ at_i in
      let answer_is : Some answer ≡ Some a = sym told ∙ ap (slice_get answers) (sym same) ∙ told_i in
      let l_is : line ≡ l = cc in
      let a_is : answer ≡ a = cc in (
        cause,
        ap (λ (xs : List Cause). slice_get xs i) is ∙ ap (slice_get (causes ++ cause ∷ [])) (same ∙ sym count) ∙ at_end causes cause,
        subst (λ (b : Answer). IsItself b cause) a_is itself,
        subst (λ (k : ℕ). IsCause script answers k l a cause) (sym same)
            (subst (λ (b : Answer). IsCause script answers place l b cause) a_is (subst (λ (m : ScriptLine). IsCause script answers place m answer cause) l_is here)),
      )
  | inr other ↦
      let old = each i l a (omega (arith, lt, other)) at_i told_i in
      (old.0, ap (λ (xs : List Cause). slice_get xs i) is ∙ at_front causes (cause ∷ []) i old.0 old.1, old.2, old.3)
]
