-- The sessions of a script, each with its lines, its answers and its closing.
use Rattle.std.proofs.Common.{◌≡◌, ◌≢◌, ℕ, ◌+◌, ◌-◌, ◌<◌, ◌≤◌, List, [], length, slice_index_or, Option, Some, inl, inr, sym, ap, ◌∙◌, subst, arith}
use Rattle.std.specs.List.{slice_get}
use Rattle.std.proofs.lemmas.Option.{get_or_from_slice_get, slice_get_cases, slice_get_within}
use Rattle.erm_model.specs.Member.{◌∈◌}
use Rattle.erm_report.specs.declared.answer.Answer.{Answer}
use Rattle.erm_script.specs.declared.script.ScriptLine.{ScriptLine}
use Rattle.erm_world.specs.World.{IsSession, View}
use Rattle.erm_worker.specs.Laws.{IsAtEnd}
use Rattle.erm_threads.specs.Parts.{own_lines}
use Rattle.erm_joined.specs.Merged.{AreFirst, counts_of}
use Rattle.erm_works.specs.Works.{CompleteWorksAreAll, Did, DidSo, HaveDone, IsSplit, WorksAreFirst}

-- what stands at a place of one list stands there in another that is no shorter
pub at_place : {X : Type 0} (xs : List X) (k n : ℕ) → k < n → length xs ≡ n → (P : Type 0) → ((x : X) → slice_get xs k ≡ Some x → P) → P
at_place xs k n few many P one = elim (slice_get_cases xs k).1 [
  | inl it ↦ one it.0 it.2
  | inr past ↦ absurd (let least = past.0 in omega (arith, least, few, many))
]

-- how many answers the session of a place has
pub count_of : (answers : List (List Answer)) (k : ℕ) (own : List Answer) → slice_get answers k ≡ Some own → counts_of answers (k + 1) ≡ length own
count_of answers k own at =
    let place : k + 1 - 1 ≡ k = omega arith in
    ap (λ (i : ℕ). length (slice_index_or answers i [])) place ∙ ap (λ (xs : List Answer). length xs) (get_or_from_slice_get answers k own [] at)

module _ {So : Did} (v f : View) (script : List ScriptLine) (parts : List (List ScriptLine)) (answers : List (List Answer)) (closed : List (Option Answer)) (split : IsSplit v script parts)
    (works : HaveDone So v f parts answers closed) where
  -- a seat is that of a place in each list, or behind them all
  pub by_place : (s : ℕ) → 0 < s → (P : Type 0)
      → ((k : ℕ) (lines : List ScriptLine) (own : List Answer) (end : Option Answer) → k + 1 ≡ s → slice_get parts k ≡ Some lines → slice_get answers k ≡ Some own
      → slice_get closed k ≡ Some end → P)
      → (length parts < s → P) → P
  by_place s above P one none = elim (slice_get_cases parts (s - 1)).1 [
    | inl it ↦
        at_place answers (s - 1) (length parts) it.1 works.as_many.0 P (λ own own_at.
        at_place closed (s - 1) (length parts) it.1 works.as_many.1 P (λ end end_at. one (s - 1) it.0 own end (omega (arith, above)) it.2 own_at end_at))
    | inr past ↦ none (let least = past.0 in omega (arith, least, above))
  ]

  -- of the script's lines the session of a place has its own
  pub own_session : (k : ℕ) (lines : List ScriptLine) (own : List Answer) (end : Option Answer) → slice_get parts k ≡ Some lines → slice_get answers k ≡ Some own → slice_get closed k ≡ Some end
      → DidSo So f (k + 1) v (own_lines (k + 1) script) own end
  own_session k lines own end lines_at own_at end_at =
      subst (λ (ls : List ScriptLine). DidSo So f (k + 1) v ls own end) (split.own k lines lines_at) (works.each k lines own end lines_at own_at end_at)

  -- a session without a part stands at once as where all ended, and no line is its own
  pub stays : (s : ℕ) → IsSession v s → length parts < s → IsAtEnd f s v
  stays s session behind =
      let same = works.others s session behind in record { own = sym same.0; given_up = sym same.1; tail = works.beyond.tail; flushed = works.beyond.flushed }

  pub not_its : (s : ℕ) → length parts < s → (l : ScriptLine) → l ∈ script → l.session ≢ s
  not_its s behind l m is = let high = (split.seats l m).1 in omega (arith, high, is, behind)

  -- the world in which all ended has the same sessions
  pub of_first : (s : ℕ) → IsSession f s → IsSession v s
  of_first s session = (session.0, subst (λ (n : ℕ). s ≤ n) (ap (λ (o : _). o.sessions) works.beyond.opening) session.1)

  pub is_session : (s : ℕ) → 0 < s → s ≤ length parts → IsSession v s
  is_session s low high = let most = split.sessions in (omega (arith, low), omega (arith, high, most))

-- MERGED. The answers are to first lines, and to all where each work is complete.
pub so_first : {So : Did} (v f : View) (script : List ScriptLine) (parts : List (List ScriptLine)) (answers : List (List Answer)) (closed : List (Option Answer)) → IsSplit v script parts
    → HaveDone So v f parts answers closed → AreFirst script answers
so_first v f script parts answers closed split works k own at =
    let few = slice_get_within answers k own at in
    let many = works.as_many.0 in
    let within : k < length parts = omega (arith, few, many) in
    at_place parts k (length answers) few (sym many) (length own ≤ length (own_lines (k + 1) script)) (λ lines lines_at.
    at_place closed k (length parts) within works.as_many.1 (length own ≤ length (own_lines (k + 1) script)) (λ end end_at.
    (own_session v f script parts answers closed split works k lines own end lines_at at end_at).most))

pub are_first : WorksAreFirst
are_first v f script parts answers closed split works = so_first v f script parts answers closed split works

pub are_all : CompleteWorksAreAll
are_all v f script parts answers closed split works complete k own at =
    at_place parts k (length answers) (slice_get_within answers k own at) (sym works.as_many.0) (length own ≡ length (own_lines (k + 1) script)) (λ lines lines_at.
    (complete k lines own lines_at at).0 ∙ ap (λ (ls : List ScriptLine). length ls) (split.own k lines lines_at))
