-- Places in the books are of the lines of their transactions.
use Rattle.std.proofs.Common.{◌≡◌, ℕ, ◌<◌, List, [], ◌∷◌, ◌++◌, length, get_or, get_or-set_other, get_or-set_same, set, Option, Some, None, sym, ap, ◌∙◌, subst, inl, inr}
use Rattle.std.proofs.lemmas.Bool.{cases_eq}
use Rattle.erm_model.specs.Member.{◌∈◌}
use Rattle.erm_model.proofs.Members.{∈-push}
use Rattle.erm_report.specs.declared.answer.Answer.{Answer}
use Rattle.erm_script.specs.declared.script.ScriptLine.{ScriptLine}
use Rattle.erm_explain.specs.declared.books.Books.{Books}
use Rattle.erm_explain.specs.declared.told.Told.{Told}
use Rattle.erm_explain.specs.Books.{ArePlaced, ArePlacesOf, IsPlaceOf}

-- a transaction with one place more
pub places_more : (script : List ScriptLine) (answers : List Answer) (told after : Told) (place : ℕ) → after.session ≡ told.session → after.number ≡ told.number
    → after.lines.items ≡ told.lines.items ++ place ∷ [] → ArePlacesOf script answers told → IsPlaceOf script answers told.session told.number place
    → ArePlacesOf script answers after
places_more script answers told after place session number lines old new k m =
    subst (λ (s : ℕ). IsPlaceOf script answers s after.number k) (sym session)
    (subst (λ (n : ℕ). IsPlaceOf script answers told.session n k) (sym number)
    (elim (∈-push told.lines.items place k (subst (λ (xs : List ℕ). k ∈ xs) lines m)) as (λ _. IsPlaceOf script answers told.session told.number k) [
      | inl here ↦ old k here
      | inr last ↦ subst (λ (p : ℕ). IsPlaceOf script answers told.session told.number p) (sym last) new
    ]))

-- a session's current transaction is another one
pub current_placed : (script : List ScriptLine) (answers : List Answer) (old : Books) (current : List (Option Told)) (session : ℕ) (after : Option Told)
    → session < length old.current.items → current ≡ set old.current.items session after
    → ((t : Told) → after ≡ Some t → ArePlacesOf script answers t) → ArePlaced script answers old
    → (s : ℕ) (t : Told) → get_or current s None ≡ Some t → ArePlacesOf script answers t
current_placed script answers old current session after within is places placed s t at = elim (cases_eq s session) as (λ _. ArePlacesOf script answers t) [
  | inl same ↦
      places t (
      sym (get_or-set_same old.current.items session after None within) ∙ ap (λ (x : List (Option Told)). get_or x session None) (sym is)
      ∙ ap (λ (i : ℕ). get_or current i None) (sym same) ∙ at)
  | inr other ↦
      placed.current s t (sym (get_or-set_other old.current.items session s after None other) ∙ ap (λ (x : List (Option Told)). get_or x s None) (sym is) ∙ at)
]

-- one more is over
pub over_placed : (script : List ScriptLine) (answers : List Answer) (old : Books) (over : List Told) (after : Told)
    → over ≡ old.over.items ++ after ∷ [] → ArePlacesOf script answers after → ArePlaced script answers old
    → (t : Told) → t ∈ over → ArePlacesOf script answers t
over_placed script answers old over after is places placed t m = elim (∈-push old.over.items after t (subst (λ (xs : List Told). t ∈ xs) is m)) as (λ _. ArePlacesOf script answers t) [
  | inl here ↦ placed.over t here
  | inr last ↦ subst (λ (u : Told). ArePlacesOf script answers u) (sym last) places
]
