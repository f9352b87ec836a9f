-- What the books have after one line more.
use Rattle.std.proofs.Common.{◌≡◌, ℕ, zero, suc, ◌+◌, ◌<◌, ◌==◌, Bool, true, false, cond, List, [], ◌∷◌, ◌++◌, take, slice_get, Some, refl, sym, ap, ◌∙◌, subst, ne_eqb, arith}
use Rattle.std.proofs.lemmas.Bool.{eqb-true}
use Rattle.std.specs.Prelude.{Result, Ok, Err, OnOk}
use Rattle.std.proofs.lemmas.List.Sums.{fold-append}
use Rattle.erm_report.specs.declared.answer.Answer.{Answer}
use Rattle.erm_script.specs.declared.script.ScriptLine.{ScriptLine}
use Rattle.erm_good_report.specs.Transactions.{Progress, Said, heard, nothing, progress_of, said_of}
use Rattle.erm_explain.specs.declared.books.Books.{Books}
use Rattle.erm_explain.specs.Books.{HasProgress, Hears, KeepsPlaces}
use Rattle.erm_explain.specs.ByBooks.{HasTold}

-- a line with its answer
abbrev pub said_by : ScriptLine → Answer → Said
said_by l a = record { session = l.session; asked = Some l.command; answer = a }

pub said_next : (script : List ScriptLine) (answers : List Answer) (k : ℕ) (l : ScriptLine) (a : Answer) → slice_get script k ≡ Some l → slice_get answers k ≡ Some a
    → take (k + 1) (said_of script answers) ≡ take k (said_of script answers) ++ said_by l a ∷ []
said_next [] answers k l a at told = absurd (cc)
said_next (m ∷ ms) [] k l a at told = absurd (cc)
said_next (m ∷ ms) (b ∷ bs) zero l a at told = let same : m ≡ l = cc in let alike : b ≡ a = cc in ap (λ (x : ScriptLine). said_by x b ∷ []) same ∙ ap (λ (x : Answer). said_by l x ∷ []) alike
said_next (m ∷ ms) (b ∷ bs) (suc k) l a at told =
    let more : suc k + 1 ≡ suc (k + 1) = omega arith in
    ap (λ (n : ℕ). take n (said_by m b ∷ said_of ms bs)) more ∙ ap (λ (xs : List Said). said_by m b ∷ xs) (said_next ms bs k l a at told)

-- a session's progress with one line more
pub progress_next : (s : ℕ) (script : List ScriptLine) (answers : List Answer) (k : ℕ) (l : ScriptLine) (a : Answer) → slice_get script k ≡ Some l → slice_get answers k ≡ Some a
    → progress_of s (take (k + 1) (said_of script answers))
    ≡ cond (l.session == s) (heard s (Some l.command) a (progress_of s (take k (said_of script answers)))) (progress_of s (take k (said_of script answers)))
progress_next s script answers k l a at told =
    ap (progress_of s) (said_next script answers k l a at told)
    ∙ fold-append (λ p x. cond (x.session == s) (heard s x.asked x.answer p) p) nothing (take k (said_of script answers)) (said_by l a ∷ [])

-- the same session, or another
heard_same : (session s : ℕ) (l : ScriptLine) (a : Answer) (p : Progress) (b : Bool) → session == s ≡ b → cond b (heard session (Some l.command) a p) p ≡ cond b (heard s (Some l.command) a p) p
heard_same session s l a p true e = ap (λ (q : ℕ). heard q (Some l.command) a p) (eqb-true session s e)
heard_same session s l a p false e = refl

-- a line that names no session
pub told_alone : (script : List ScriptLine) (answers : List Answer) (place : ℕ) (books : Books) (l : ScriptLine) (a : Answer) → l.session ≡ 0 → slice_get script place ≡ Some l → slice_get answers place ≡ Some a
    → HasTold script answers place books → HasTold script answers (place + 1) books
told_alone script answers place books l a alone at told has = record {
  progress = λ s some.
      subst (λ (p : Progress). HasProgress script answers books s p)
      (sym (progress_next s script answers place l a at told
      ∙ ap (λ (b : Bool). cond b (heard s (Some l.command) a (progress_of s (take place (said_of script answers)))) (progress_of s (take place (said_of script answers))))
      (ne_eqb l.session s (λ e. let z : 0 ≡ s = sym alone ∙ e in absurd (omega (arith, some, z))))))
      (has.progress s some);
  none = has.none;
  placed = has.placed;
}

-- a session's line
pub told_heard : (script : List ScriptLine) (answers : List Answer) (place : ℕ) (old new : Books) (l : ScriptLine) (a : Answer) → 0 < l.session → slice_get script place ≡ Some l → slice_get answers place ≡ Some a
    → Hears l place a old new → KeepsPlaces l place a old new → HasTold script answers place old → HasTold script answers (place + 1) new
told_heard script answers place old new l a some at told hears keeps has = record {
  progress = λ s is.
      let p = progress_of s (take place (said_of script answers)) in
      subst (λ (q : Progress). HasProgress script answers new s q)
      (heard_same l.session s l a p (l.session == s) refl ∙ sym (progress_next s script answers place l a at told))
      (hears script answers at told s p (has.progress s is));
  none =
      subst (λ (b : Bool). HasProgress script answers new 0 (cond b (heard l.session (Some l.command) a nothing) nothing)) (ne_eqb l.session 0 (λ e. absurd (omega (arith, some, e))))
      (hears script answers at told 0 nothing has.none);
  placed = keeps script answers at told (has.progress l.session some) has.placed;
}

-- what an `Ok` ensures, by two things that it ensures
pub on_both : {A E : Type 0} (r : Result A E) (P Q R : Type 0) → (P → Q → R) → OnOk r P → OnOk r Q → OnOk r R
on_both (Ok x) P Q R both p q = both p q
on_both (Err e) P Q R both p q = tt
