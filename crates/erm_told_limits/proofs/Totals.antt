-- Sums over the sessions of a world, where one of them goes on.
use Rattle.std.proofs.Common.{◌≡◌, ◌≢◌, ℕ, zero, suc, ◌+◌, ◌<◌, ◌≤◌, List, [], ◌∷◌, ◌++◌, length, sum_by, cond, eqb, refl, sym, ap, ◌∙◌, inl, inr, arith}
use Rattle.std.proofs.lemmas.Bool.{cases_eq}
use Rattle.std.proofs.lemmas.List.{length-append}
use Rattle.std.proofs.lemmas.List.Concat.{length-flat_map}
use Rattle.std.proofs.lemmas.List.Sums.{sum_by-append, sum_by-cons}
use Rattle.std.specs.List.{flat_map}
use Rattle.erm_model.specs.Lawful.{times_made}
use Rattle.erm_world.specs.World.{Finished, IsSession, Session, View, Work, claims_by_all, claims_in, claims_upto, made_by_all, made_in, made_upto, work_of}
use Rattle.erm_world.specs.World as world
use Rattle.erm_lines.specs.Executions.{DidFlush}
use Rattle.erm_told_limits.proofs.Moved.{Turned, mades_in}

-- the sum over the sessions up to a number
unfoldable pub total_upto : (Session → ℕ) → ℕ → (ℕ → Session) → ℕ
total_upto F zero session = 0
total_upto F (suc n) session = total_upto F n session + F (session (suc n))

module _ (F : Session → ℕ) where
  total_same : (n : ℕ) (f g : ℕ → Session) (seat : ℕ) → n < seat → ((q : ℕ) → q ≢ seat → g q ≡ f q) → total_upto F n g ≡ total_upto F n f
  unfolding total_upto
  total_same zero f g seat below others = refl
  total_same (suc n) f g seat below others =
      omega (arith, total_same n f g seat (omega arith) others, ap F (others (suc n) (λ is. omega (arith, is))))

  pub total_turned : (n : ℕ) (f g : ℕ → Session) (seat : ℕ) → 0 < seat → seat ≤ n → ((q : ℕ) → q ≢ seat → g q ≡ f q) → total_upto F n g + F (f seat) ≡ total_upto F n f + F (g seat)
  unfolding total_upto
  total_turned zero f g seat above within others = absurd (omega arith)
  total_turned (suc n) f g seat above within others = elim (cases_eq seat (suc n)) [
    | inl is ↦ omega (arith, total_same n f g seat (omega arith) others, ap (λ (q : ℕ). F (f q)) is, ap (λ (q : ℕ). F (g q)) is)
    | inr another ↦ omega (arith, total_turned n f g seat above (omega arith) others, ap F (others (suc n) (λ is. another (sym is))))
  ]

  pub total_zero : (n : ℕ) (f : ℕ → Session) → ((q : ℕ) → 0 < q → q ≤ n → F (f q) ≡ 0) → total_upto F n f ≡ 0
  unfolding total_upto
  total_zero zero f none = refl
  total_zero (suc n) f none = let last = none (suc n) (omega arith) (omega arith) in omega (arith, total_zero n f (λ q above within. none q above (omega (arith, within))), last)

  pub total_kept : (n : ℕ) (f g : ℕ → Session) → ((q : ℕ) → 0 < q → q ≤ n → g q ≡ f q) → total_upto F n g ≡ total_upto F n f
  unfolding total_upto
  total_kept zero f g same = refl
  total_kept (suc n) f g same = omega (arith, total_kept n f g (λ q above within. same q above (omega (arith, within))), ap F (same (suc n) (omega arith) (omega arith)))

claims_total : (n : ℕ) (session : ℕ → Session) → claims_upto n session ≡ total_upto claims_in n session
unfolding claims_upto total_upto
claims_total zero session = refl
claims_total (suc n) session = omega (arith, claims_total n session)

made_total : (n : ℕ) (session : ℕ → Session) (x : ℕ) → made_upto n session x ≡ total_upto (λ s. made_in s x) n session
unfolding made_upto total_upto
made_total zero session x = refl
made_total (suc n) session x = omega (arith, made_total n session x)

-- how many objects all transactions have made
abbrev pub mades_by_all : View → ℕ
mades_by_all v = total_upto mades_in v.opening.sessions v.session

module _ (P : ℕ → Type 0) (m k o : ℕ) (v : View) (seat : ℕ) (t : View) (session : IsSession v seat) (turned : Turned P m k o v seat t) where
  one_turned : (F : Session → ℕ) → total_upto F t.opening.sessions t.session + F (v.session seat) ≡ total_upto F v.opening.sessions v.session + F (t.session seat)
  one_turned F =
      let same : total_upto F t.opening.sessions t.session ≡ total_upto F v.opening.sessions t.session = ap (λ (o : world.Opening). total_upto F o.sessions t.session) turned.opening in
      let one = total_turned F v.opening.sessions v.session t.session seat session.0 session.1 turned.others in
      omega (arith, same, one)

  pub mades_turned : mades_by_all t ≤ mades_by_all v + m
  mades_turned = omega (arith, one_turned mades_in, turned.own.mades)

  pub claims_turned : claims_by_all t ≤ claims_by_all v + k
  claims_turned = omega (arith, one_turned claims_in, turned.own.claims, claims_total t.opening.sessions t.session, claims_total v.opening.sessions v.session)

  pub made_turned : (x : ℕ) → made_by_all v x ≤ made_by_all t x
  made_turned x =
      let one = one_turned (λ s. made_in s x) in
      let more = turned.own.made x in
      omega (arith, one, more, made_total t.opening.sessions t.session x, made_total v.opening.sessions v.session x)

-- where the sessions stay
module _ (v t : View) (did : DidFlush v t) where
  all_kept : (F : Session → ℕ) → total_upto F t.opening.sessions t.session ≡ total_upto F v.opening.sessions v.session
  all_kept F =
      ap (λ (o : world.Opening). total_upto F o.sessions t.session) did.opening
      ∙ total_kept F v.opening.sessions v.session t.session (λ q above within. did.session q (above, within))

  pub mades_kept : mades_by_all t ≡ mades_by_all v
  mades_kept = all_kept mades_in

  pub claims_kept : claims_by_all t ≡ claims_by_all v
  claims_kept = omega (arith, all_kept claims_in, claims_total t.opening.sessions t.session, claims_total v.opening.sessions v.session)

  pub made_kept : (x : ℕ) → made_by_all t x ≡ made_by_all v x
  made_kept x = omega (arith, all_kept (λ s. made_in s x), made_total t.opening.sessions t.session x, made_total v.opening.sessions v.session x)

-- where no transaction was yet
pub claims_none : (v : View) → ((q : ℕ) → 0 < q → q ≤ v.opening.sessions → claims_in (v.session q) ≡ 0) → claims_by_all v ≡ 0
claims_none v none = claims_total v.opening.sessions v.session ∙ total_zero claims_in v.opening.sessions v.session none

-- the objects that all transactions have made
made_list : Session → List ℕ
made_list s = flat_map (λ (f : Finished). f.work.made) s.over ++ (work_of s.stand).made

all_upto : ℕ → (ℕ → Session) → List ℕ
all_upto zero session = []
all_upto (suc n) session = all_upto n session ++ made_list (session (suc n))

pub all_made : View → List ℕ
all_made v = all_upto v.opening.sessions v.session

times_over : (over : List Finished) (x : ℕ) → times_made (flat_map (λ (f : Finished). f.work.made) over) x ≡ sum_by (λ (f : Finished). times_made f.work.made x) over
times_over [] x = refl
times_over (f ∷ over) x =
    sum_by-append (λ (oid : ℕ). cond (eqb oid x) 1 0) f.work.made (flat_map (λ (g : Finished). g.work.made) over)
    ∙ ap (λ n. times_made f.work.made x + n) (times_over over x)
    ∙ sym (sum_by-cons (λ (g : Finished). times_made g.work.made x) f over)

times_list : (s : Session) (x : ℕ) → times_made (made_list s) x ≡ made_in s x
unfolding made_list
times_list s x = sum_by-append (λ (oid : ℕ). cond (eqb oid x) 1 0) (flat_map (λ (f : Finished). f.work.made) s.over) (work_of s.stand).made ∙ ap (λ n. n + times_made (work_of s.stand).made x) (times_over s.over x)

times_upto : (n : ℕ) (session : ℕ → Session) (x : ℕ) → times_made (all_upto n session) x ≡ made_upto n session x
unfolding all_upto made_upto
times_upto zero session x = refl
times_upto (suc n) session x =
    let parts = sum_by-append (λ (oid : ℕ). cond (eqb oid x) 1 0) (all_upto n session) (made_list (session (suc n))) in
    omega (arith, parts, times_upto n session x, times_list (session (suc n)) x)

length_list : (s : Session) → length (made_list s) ≡ mades_in s
unfolding made_list
length_list s =
    omega (arith, length-append (flat_map (λ (f : Finished). f.work.made) s.over) (work_of s.stand).made, length-flat_map (λ (f : Finished). f.work.made) s.over)

length_upto : (n : ℕ) (session : ℕ → Session) → length (all_upto n session) ≡ total_upto mades_in n session
unfolding all_upto total_upto
length_upto zero session = refl
length_upto (suc n) session = omega (arith, length-append (all_upto n session) (made_list (session (suc n))), length_upto n session, length_list (session (suc n)))

pub times_all : (v : View) (x : ℕ) → times_made (all_made v) x ≡ made_by_all v x
unfolding all_made
times_all v x = times_upto v.opening.sessions v.session x

pub length_all : (v : View) → length (all_made v) ≡ mades_by_all v
unfolding all_made
length_all v = length_upto v.opening.sessions v.session
