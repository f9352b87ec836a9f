-- The sessions that a run so far closed, listed by seat.
use Rattle.std.proofs.Common.{◌≡◌, ◌≢◌, ◌⊎◌, ◌<◌, ◌≤◌, List, [], ◌∷◌, sym, ap, ◌∙◌, subst, inl, inr, ⊎_elim, arith}
use Rattle.std.proofs.lemmas.Bool.{cases_lt}
use Rattle.erm_model.specs.declared.outcome.Phase.{Phase}
use Rattle.erm_model.specs.Member.{◌∈◌}
use Rattle.erm_model.proofs.Members.{none_in_nil, ∈-behind}
use Rattle.erm_machine.proofs.Listed.{∈-cons, ∈-head}
use Rattle.erm_world.specs.World.{IsSession, phase_at}
use Rattle.erm_good_report.specs.Phases.{Closed, Closes, phase_of}
use Rattle.erm_good_report.specs.Transactions.{Said, said_of}
use Rattle.erm_lines.specs.Executions.{IsLast, closed_in, line_moves}
use Rattle.erm_lines.specs.Laws.{ExecutionsGoOn, ExecutionsTell}
use Rattle.erm_told.proofs.Closing.{AreLast, IsClosing, are_last, closed_once, closes_fit}
use Rattle.erm_told.proofs.Executed.{still_session}
use Rattle.erm_told.proofs.Pairs.{Pairs, all_of, all_pairs}
use Rattle.erm_told.proofs.Runs.{said_lines}
use Rattle.erm_told_crash.specs.Laws.{CoursesClose}

abbrev Ascend : List Closed → Type 0
Ascend closed = Pairs (λ (a b : Closed). a.session < b.session) closed

abbrev Apart : List Closed → Type 0
Apart closed = Pairs (λ (a b : Closed). a.session ≢ b.session) closed

-- a list with one more, at its place
record HasPut (c : Closed) (xs : List Closed) : Type 0 where
  list : List Closed
  ascend : Ascend list
  only : (d : Closed) → d ∈ list → (c ≡ d) ⊎ (d ∈ xs)
  first : c ∈ list
  all : (d : Closed) → d ∈ xs → d ∈ list

put_before : (c x : Closed) (xs : List Closed) → Ascend (x ∷ xs) → c.session < x.session → HasPut c (x ∷ xs)
put_before c x xs ascend less = record {
  list = c ∷ x ∷ xs;
  ascend = (
    λ d m. ⊎_elim (λ (here : x ≡ d). subst (λ (y : Closed). c.session < y.session) here less)
        (λ (later : d ∈ xs). omega (arith, less, ascend.0 d later)) (∈-cons d x xs m),
    ascend,
  );
  only = λ d m. ∈-cons d c (x ∷ xs) m;
  first = ∈-head c (x ∷ xs);
  all = λ d m. ∈-behind c (x ∷ xs) d m;
}

put_behind : (c x : Closed) (xs : List Closed) → Ascend (x ∷ xs) → x.session < c.session → HasPut c xs → HasPut c (x ∷ xs)
put_behind c x xs ascend less put = record {
  list = x ∷ put.list;
  ascend = (
    λ d m. ⊎_elim (λ (own : c ≡ d). subst (λ (y : Closed). x.session < y.session) own less) (λ (later : d ∈ xs). ascend.0 d later) (put.only d m),
    put.ascend,
  );
  only = λ d m. ⊎_elim (λ (here : x ≡ d). inr (subst (λ (y : Closed). y ∈ (x ∷ xs)) here (∈-head x xs)))
      (λ (later : d ∈ put.list). ⊎_elim (λ (own : c ≡ d). inl own) (λ (there : d ∈ xs). inr (∈-behind x xs d there)) (put.only d later))
      (∈-cons d x put.list m);
  first = ∈-behind x put.list c put.first;
  all = λ d m. ⊎_elim (λ (here : x ≡ d). subst (λ (y : Closed). y ∈ (x ∷ put.list)) here (∈-head x put.list))
      (λ (later : d ∈ xs). ∈-behind x put.list d (put.all d later)) (∈-cons d x xs m);
}

put : (c : Closed) (xs : List Closed) → Ascend xs → ((d : Closed) → d ∈ xs → c.session ≢ d.session) → HasPut c xs
put c [] ascend apart = record {
  list = c ∷ [];
  ascend = (λ d m. absurd (none_in_nil d m), tt);
  only = λ d m. ∈-cons d c [] m;
  first = ∈-head c [];
  all = λ d m. absurd (none_in_nil d m);
}
put c (x ∷ xs) ascend apart =
    ⊎_elim (λ (less : c.session < x.session). put_before c x xs ascend less)
    (λ (most : x.session ≤ c.session).
    put_behind c x xs ascend (omega (arith, most, apart x (∈-head x xs))) (put c xs ascend.1 (λ d m. apart d (∈-behind x xs d m))))
    (cases_lt c.session x.session)

-- the same elements, by seat
record IsSorted (xs : List Closed) : Type 0 where
  list : List Closed
  ascend : Ascend list
  only : (d : Closed) → d ∈ list → d ∈ xs
  all : (d : Closed) → d ∈ xs → d ∈ list

sorted : (xs : List Closed) → Apart xs → IsSorted xs
sorted [] apart = record { list = []; ascend = tt; only = λ d m. m; all = λ d m. m }
sorted (x ∷ xs) apart =
    let rest = sorted xs apart.1 in
    let all = put x rest.list rest.ascend (λ d m. apart.0 d (rest.only d m)) in record {
      list = all.list;
      ascend = all.ascend;
      only = λ d m. ⊎_elim (λ (here : x ≡ d). subst (λ (y : Closed). y ∈ (x ∷ xs)) here (∈-head x xs))
          (λ (later : d ∈ rest.list). ∈-behind x xs d (rest.only d later)) (all.only d m);
      all = λ d m. ⊎_elim (λ (here : x ≡ d). subst (λ (y : Closed). y ∈ all.list) here all.first)
          (λ (later : d ∈ xs). all.all d (rest.all d later)) (∈-cons d x xs m);
    }

module _ (tell : ExecutionsTell) (go : ExecutionsGoOn) where
  pub courses_close : CoursesClose
  courses_close v t script answers course = (
    closes.list,
    record { ascend = all_pairs (λ (a b : Closed). a.session < b.session) closes.list closes.ascend; only = closes.only; all = closes.all },
    λ c m. ((session c m).0, (session c m).1, fits c m),
  )
    where
      last_moves : AreLast course.closing
      last_moves = are_last course.closing (λ move m. all_of IsLast course.closing course.last move m)

      closes : IsSorted (closed_in course.closing)
      closes = sorted (closed_in course.closing) (closed_once course.closing course.between t last_moves course.closes)

      at : (c : Closed) → c ∈ closes.list → IsClosing course.between c
      at c m = closes_fit course.closing course.between t last_moves course.closes c (closes.only c m)

      session : (c : Closed) → c ∈ closes.list → IsSession v c.session
      session c m = still_session course.between v c.session (sym (go v course.between (line_moves script answers) course.lines).0) (at c m).session

      phase : (c : Closed) → c ∈ closes.list → phase_of c.session (said_of script answers) ≡ phase_at course.between c.session
      phase c m =
          ap (λ (said : List Said). phase_of c.session said) (sym (said_lines script answers))
          ∙ (tell v course.between (line_moves script answers) course.opened course.lines c.session (session c m)).1

      fits : (c : Closed) → c ∈ closes.list → Closes (phase_of c.session (said_of script answers)) c.answer
      fits c m = subst (λ (x : Phase). Closes x c.answer) (sym (phase c m)) (at c m).fits
