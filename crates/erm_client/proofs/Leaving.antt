-- What a refusal leaves in progress.
use Rattle.std.proofs.Common.{◌≡◌, ℕ, List, ◌++◌, Option, Some, None, append-nil, option_map, refl, sym, ap, ◌∙◌, subst}
use Rattle.std.proofs.lemmas.List.Elements.{filter_map-append}
use Rattle.erm_client.proofs.Dealt.{dealt_answered}
use Rattle.erm_client.proofs.Telling.{answers_refuse}
use Rattle.erm_client.specs.Dealings.{IsAt, IsSafeAt, dealings_of}
use Rattle.erm_client.specs.declared.refusal.Refusal.{Refusal}
use Rattle.erm_client.specs.declared.refusal.Refusal.TheVariants as refusal
use Rattle.erm_client.specs.declared.transcript.Transcript.{Transcript}
use Rattle.erm_client.specs.Laws.{EndingRefusalsEnd, OtherRefusalsLeave}
use Rattle.erm_client.specs.Refusals.{IsByAnswer, IsEnding, refusal_told}
use Rattle.erm_good_report.specs.Transactions.{Progress, Snapshot, Transaction, heard, looks_of, reply_in, step_of, steps_of, with_line, with_look}
use Rattle.erm_model.specs.Run.{Step}
use Rattle.erm_report.specs.declared.answer.Answer.{Answer}
use Rattle.erm_report.specs.declared.answer.Answer.TheVariants as answer
use Rattle.erm_script.specs.declared.script.Command.{Command}
use Rattle.erm_told.proofs.Steps.{line_added, none_replied, steps_with}

-- a refusal that ends it is by an answer
ends_by : (why : Refusal) → IsEnding why → IsByAnswer why
ends_by refusal.Ended ends = tt
ends_by (refusal.Unsafe seat stamp) ends = tt
ends_by (refusal.Owned seat number) ends = tt
ends_by (refusal.Newer stamp) ends = tt
ends_by (refusal.Excluded succ pred) ends = tt
ends_by why ends = absurd ends

ends_so : (a : Answer) (why : Refusal) → refusal_told a ≡ Some why → (x : Refusal) → refusal_told a ≡ Some x → IsEnding why → IsEnding x
ends_so a why is x told ends = subst (λ (y : Refusal). IsEnding y) (same (sym is ∙ told)) ends
  where
    same : Some why ≡ Some x → why ≡ x
    same e = cc

-- ENDED
abbrev AreNone : Progress → Type 0
AreNone q = (q.current ≡ None) × (q.snapshot ≡ None)

ended : (seat : ℕ) (asked : Command) (a : Answer) (p : Progress) (why : Refusal) → refusal_told a ≡ Some why → IsEnding why → AreNone (heard seat (Some asked) a p)
ended seat asked answer.Ended p why is ends = (refl, refl)
ended seat asked (answer.Unsafe other stamp) p why is ends = (refl, refl)
ended seat asked (answer.Owned other number) p why is ends = (refl, refl)
ended seat asked (answer.Newer stamp) p why is ends = (refl, refl)
ended seat asked (answer.ExcludedEarly succ pred) p why is ends = (refl, refl)
ended seat asked (answer.Excluded stamp succ pred) p why is ends = (refl, refl)
ended seat asked answer.NotIdle p why is ends = absurd (ends_so answer.NotIdle why is refusal.NotIdle refl ends)
ended seat asked answer.NoTransaction p why is ends = absurd (ends_so answer.NoTransaction why is refusal.NoTransaction refl ends)
ended seat asked answer.IsSealed p why is ends = absurd (ends_so answer.IsSealed why is refusal.IsSealed refl ends)
ended seat asked answer.ReadOnly p why is ends = absurd (ends_so answer.ReadOnly why is refusal.ReadOnly refl ends)
ended seat asked answer.NotSafe p why is ends = absurd (ends_so answer.NotSafe why is refusal.NotSafe refl ends)
ended seat asked (answer.LogEnd tail) p why is ends = absurd (ends_so (answer.LogEnd tail) why is (refusal.LogEnd tail) refl ends)
ended seat asked answer.NumbersEnd p why is ends = absurd (ends_so answer.NumbersEnd why is refusal.NumbersEnd refl ends)
ended seat asked answer.ReadsFull p why is ends = absurd (ends_so answer.ReadsFull why is refusal.ReadsFull refl ends)
ended seat asked answer.WritesFull p why is ends = absurd (ends_so answer.WritesFull why is refusal.WritesFull refl ends)
ended seat asked (answer.CellsFull drawn) p why is ends = absurd (ends_so (answer.CellsFull drawn) why is (refusal.CellsFull drawn) refl ends)
ended seat asked (answer.OidsFull drawn) p why is ends = absurd (ends_so (answer.OidsFull drawn) why is (refusal.OidsFull drawn) refl ends)
ended seat asked answer.NoReceipt p why is ends = absurd (ends_so answer.NoReceipt why is refusal.NoReceipt refl ends)
ended seat asked a p why is ends = absurd (none why is)
  where
    none : (x : Refusal) → None ≡ Some x → ⊥
    none x e = cc

pub ending_end : EndingRefusalsEnd
ending_end c d asked why ok ends refused =
    let it = answers_refuse c d asked why (ends_by why ends) refused in
    let dealt = dealt_answered c d asked it.0 ok it.1 in
    let none = ended c.seat asked it.0 (dealings_of c) why it.2 ends in
    record { no_transaction = ap (λ (p : Progress). p.current) dealt ∙ none.0; no_snapshot = ap (λ (p : Progress). p.snapshot) dealt ∙ none.1 }

-- LEFT AS IT WAS
unanswered : (asked : Command) (a : Answer) → reply_in a ≡ None → (s : Snapshot) → looks_of (with_look (Some asked) a s) ≡ looks_of s
unanswered asked a none s =
    filter_map-append step_of s.lines (line_added (Some asked) a) ∙ ap (λ (xs : List Step). looks_of s ++ xs) (none_replied asked a none) ∙ append-nil (looks_of s)

-- from one transcript to another, whose session has gone on so, or has stayed
module _ (c d : Transcript) (asked : Command) (a : Answer) where
  abbrev Leaves : Type 0
  Leaves = (steps : List Step) → (IsAt c steps → IsAt d steps) × ((begin : ℕ) → IsSafeAt c begin steps → IsSafeAt d begin steps)

  stays : dealings_of d ≡ dealings_of c → Leaves
  stays same steps = (
    λ (at : IsAt c steps). record {
      current = at.current;
      is = ap (λ (p : Progress). p.current) same ∙ at.is;
      steps_are = at.steps_are;
      alone = ap (λ (p : Progress). p.snapshot) same ∙ at.alone;
    },
    λ begin at. record { current = at.current; is = ap (λ (p : Progress). p.snapshot) same ∙ at.is; begin_is = at.begin_is; steps_are = at.steps_are },
  )

  goes : reply_in a ≡ None → (look : (dealings_of d).snapshot ≡ option_map (with_look (Some asked) a) (dealings_of c).snapshot)
      → (dealings_of d).current ≡ option_map (with_line (Some asked) a) (dealings_of c).current → Leaves
  goes none look line steps = (
    λ (at : IsAt c steps). record {
      current = with_line (Some asked) a at.current;
      is = line ∙ ap (λ (o : Option Transaction). option_map (with_line (Some asked) a) o) at.is;
      steps_are = steps_with (Some asked) a at.current ∙ ap (λ (xs : List Step). steps_of at.current ++ xs) (none_replied asked a none) ∙ append-nil (steps_of at.current) ∙ at.steps_are;
      alone = look ∙ ap (λ (o : Option Snapshot). option_map (with_look (Some asked) a) o) at.alone;
    },
    λ begin at. record {
      current = with_look (Some asked) a at.current;
      is = look ∙ ap (λ (o : Option Snapshot). option_map (with_look (Some asked) a) o) at.is;
      begin_is = at.begin_is;
      steps_are = unanswered asked a none at.current ∙ at.steps_are;
    },
  )

leaves : (c d : Transcript) (asked : Command) (a : Answer) (why : Refusal) → dealings_of d ≡ heard c.seat (Some asked) a (dealings_of c) → refusal_told a ≡ Some why → (IsEnding why → ⊥)
    → (steps : List Step) → (IsAt c steps → IsAt d steps) × ((begin : ℕ) → IsSafeAt c begin steps → IsSafeAt d begin steps)
leaves c d asked answer.NotIdle why dealt is other = stays c d asked answer.NotIdle dealt
leaves c d asked answer.NoTransaction why dealt is other = stays c d asked answer.NoTransaction dealt
leaves c d asked answer.IsSealed why dealt is other = stays c d asked answer.IsSealed dealt
leaves c d asked answer.ReadOnly why dealt is other = stays c d asked answer.ReadOnly dealt
leaves c d asked answer.NotSafe why dealt is other = stays c d asked answer.NotSafe dealt
leaves c d asked (answer.LogEnd tail) why dealt is other = goes c d asked (answer.LogEnd tail) refl (ap (λ (p : Progress). p.snapshot) dealt) (ap (λ (p : Progress). p.current) dealt)
leaves c d asked answer.NumbersEnd why dealt is other = goes c d asked answer.NumbersEnd refl (ap (λ (p : Progress). p.snapshot) dealt) (ap (λ (p : Progress). p.current) dealt)
leaves c d asked answer.ReadsFull why dealt is other = goes c d asked answer.ReadsFull refl (ap (λ (p : Progress). p.snapshot) dealt) (ap (λ (p : Progress). p.current) dealt)
leaves c d asked answer.WritesFull why dealt is other = goes c d asked answer.WritesFull refl (ap (λ (p : Progress). p.snapshot) dealt) (ap (λ (p : Progress). p.current) dealt)
leaves c d asked (answer.CellsFull drawn) why dealt is other =
    goes c d asked (answer.CellsFull drawn) refl (ap (λ (p : Progress). p.snapshot) dealt) (ap (λ (p : Progress). p.current) dealt)
leaves c d asked (answer.OidsFull drawn) why dealt is other =
    goes c d asked (answer.OidsFull drawn) refl (ap (λ (p : Progress). p.snapshot) dealt) (ap (λ (p : Progress). p.current) dealt)
leaves c d asked answer.NoReceipt why dealt is other = goes c d asked answer.NoReceipt refl (ap (λ (p : Progress). p.snapshot) dealt) (ap (λ (p : Progress). p.current) dealt)
leaves c d asked answer.Ended why dealt is other = absurd (other (ends_so answer.Ended refusal.Ended refl why is tt))
leaves c d asked (answer.Unsafe seat stamp) why dealt is other = absurd (other (ends_so (answer.Unsafe seat stamp) (refusal.Unsafe seat stamp) refl why is tt))
leaves c d asked (answer.Owned seat number) why dealt is other = absurd (other (ends_so (answer.Owned seat number) (refusal.Owned seat number) refl why is tt))
leaves c d asked (answer.Newer stamp) why dealt is other = absurd (other (ends_so (answer.Newer stamp) (refusal.Newer stamp) refl why is tt))
leaves c d asked (answer.ExcludedEarly succ pred) why dealt is other = absurd (other (ends_so (answer.ExcludedEarly succ pred) (refusal.Excluded succ pred) refl why is tt))
leaves c d asked (answer.Excluded stamp succ pred) why dealt is other = absurd (other (ends_so (answer.Excluded stamp succ pred) (refusal.Excluded succ pred) refl why is tt))
leaves c d asked a why dealt is other = absurd (none why is)
  where
    none : (x : Refusal) → None ≡ Some x → ⊥
    none x e = cc

pub others_leave : OtherRefusalsLeave
others_leave c d asked why ok by other refused =
    let it = answers_refuse c d asked why by refused in
    leaves c d asked it.0 why (dealt_answered c d asked it.0 ok it.1) it.2 other
