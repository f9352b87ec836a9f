-- How often the transactions of a world made an object, where one session goes on.
use Rattle.std.proofs.Common.{◌≡◌, ◌≢◌, ℕ, zero, suc, ◌+◌, ◌<◌, ◌≤◌, List, [], ◌∷◌, ◌++◌, sum_by, inl, inr, refl, sym, ap, arith}
use Rattle.std.proofs.lemmas.Bool.{cases_eq}
use Rattle.std.proofs.lemmas.List.Sums.{sum_by_push}
use Rattle.erm_model.specs.Lawful.{times_made}
use Rattle.erm_world.specs.Calls.{IsDone}
use Rattle.erm_world.specs.World.{Fate, Finished, IsSession, Session, Stand, View, Work, made_by_all, made_in, made_upto, work_at, work_of}
use Rattle.erm_world.specs.World as world

-- below a session nothing changes
made_same : (n : ℕ) (f g : ℕ → Session) (seat x : ℕ) → n < seat → ((q : ℕ) → q ≢ seat → g q ≡ f q) → made_upto n g x ≡ made_upto n f x
unfolding made_upto
made_same zero f g seat x below others = refl
made_same (suc n) f g seat x below others =
    omega (arith, made_same n f g seat x (omega arith) others, ap (λ (s : Session). made_in s x) (others (suc n) (λ is. omega (arith, is))))

made_turned : (n : ℕ) (f g : ℕ → Session) (seat x : ℕ) → 0 < seat → seat ≤ n → ((q : ℕ) → q ≢ seat → g q ≡ f q)
    → made_upto n g x + made_in (f seat) x ≡ made_upto n f x + made_in (g seat) x
unfolding made_upto
made_turned zero f g seat x above within others = absurd (omega arith)
made_turned (suc n) f g seat x above within others = elim (cases_eq seat (suc n)) [
  | inl is ↦ omega (arith, made_same n f g seat x (omega arith) others, ap (λ (q : ℕ). made_in (f q) x) is, ap (λ (q : ℕ). made_in (g q) x) is)
  | inr another ↦
      omega (arith, made_turned n f g seat x above (omega arith) others, ap (λ (s : Session). made_in s x) (others (suc n) (λ is. another (sym is))))
]

-- what one session made more is made more by all
pub made_by_one : (v t : View) (seat x : ℕ) → IsSession v seat → ((q : ℕ) → q ≢ seat → t.session q ≡ v.session q) → t.opening ≡ v.opening
    → made_by_all t x + made_in (v.session seat) x ≡ made_by_all v x + made_in (t.session seat) x
made_by_one v t seat x session others opening =
    let same : made_by_all t x ≡ made_upto v.opening.sessions t.session x = ap (λ (o : world.Opening). made_upto o.sessions t.session x) opening in
    omega (arith, same, made_turned v.opening.sessions v.session t.session seat x session.0 session.1 others)

pub made_within : (n : ℕ) (session : ℕ → Session) (seat x : ℕ) → 0 < seat → seat ≤ n → made_in (session seat) x ≤ made_upto n session x
unfolding made_upto
made_within zero session seat x above within = absurd (omega arith)
made_within (suc n) session seat x above within = elim (cases_eq seat (suc n)) [
  | inl is ↦ omega (arith, ap (λ (q : ℕ). made_in (session q) x) is)
  | inr another ↦ omega (arith, made_within n session seat x above (omega arith))
]

-- a transaction that is over made what it made
pub made_over : (over : List Finished) (w : Work) (fate : Fate) (x : ℕ)
    → made_in (record { over = over ++ record { work = w; fate = fate } ∷ []; stand = world.idle }) x ≡ sum_by (λ f. times_made f.work.made x) over + times_made w.made x
made_over over w fate x =
    omega (arith, sum_by_push (λ (f : Finished). times_made f.work.made x) over (record { work = w; fate = fate }))

pub made_done : (v t : View) (seat : ℕ) (w : Work) (fate : Fate) (x : ℕ) → IsDone v seat w fate t
    → made_in (t.session seat) x + times_made (work_at v seat).made x ≡ made_in (v.session seat) x + times_made w.made x
made_done v t seat w fate x done =
    omega (arith, ap (λ (s : Session). made_in s x) done.own, made_over (v.session seat).over w fate x)
