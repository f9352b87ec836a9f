-- How a session goes on by a line: how much more its transactions have made and claimed, and what they have read.
use Rattle.std.proofs.Common.{◌≡◌, ◌≢◌, ℕ, ◌+◌, ◌≤◌, ◌⊎◌, true, List, [], ◌∷◌, ◌++◌, length, sum_by, is_some, refl, sym, ap, ◌∙◌, subst, inl, inr, arith}
use Rattle.std.proofs.lemmas.List.{length-append}
use Rattle.std.proofs.lemmas.List.Sums.{sum_by_push}
use Rattle.erm_model.specs.Lawful.{times_made}
use Rattle.erm_world.specs.Works.{row_read}
use Rattle.erm_world.specs.World.{Fate, Finished, Session, View, Work, begun, claims_in, made_in, work_at, work_of}
use Rattle.erm_world.specs.World as world
use Rattle.erm_told_limits.proofs.Grown.{Grew, grew_nothing, grew_then, grew_within, nothing_apart}

-- how many objects a session's transactions have made, over and in progress
abbrev pub mades_in : Session → ℕ
mades_in s = sum_by (λ f. length f.work.made) s.over + length (work_of s.stand).made

-- A session has gone on: its transactions have made at most so many objects more, and claimed so many, at most so many are over, and it read what is so.
pub record Moved (P : ℕ → Type 0) (m k o : ℕ) (s t : Session) : Type 0 where
  pub mades : mades_in t ≤ mades_in s + m
  pub claims : claims_in t ≤ claims_in s + k
  pub made : (x : ℕ) → made_in s x ≤ made_in t x
  pub over : length t.over ≤ length s.over + o
  pub now : Grew (work_of s.stand) (work_of t.stand) m k
  pub reads : (x : ℕ) → is_some (row_read (work_of t.stand).reads x) ≡ true → (is_some (row_read (work_of s.stand).reads x) ≡ true) ⊎ P x

-- its transaction in progress has
pub moved_on : (P : ℕ → Type 0) (m k : ℕ) (s t : Session) → t.over ≡ s.over → Grew (work_of s.stand) (work_of t.stand) m k
    → ((x : ℕ) → times_made (work_of s.stand).made x ≤ times_made (work_of t.stand).made x)
    → ((x : ℕ) → is_some (row_read (work_of t.stand).reads x) ≡ true → (is_some (row_read (work_of s.stand).reads x) ≡ true) ⊎ P x) → Moved P m k 0 s t
moved_on P m k s t over grew more reads =
    let a : sum_by (λ f. length f.work.made) t.over ≡ sum_by (λ f. length f.work.made) s.over = ap (λ (fs : List Finished). sum_by (λ f. length f.work.made) fs) over in
    let b : sum_by (λ f. length f.work.claims) t.over ≡ sum_by (λ f. length f.work.claims) s.over = ap (λ (fs : List Finished). sum_by (λ f. length f.work.claims) fs) over in
    record {
      mades = omega (arith, a, grew.made);
      claims = omega (arith, b, grew.claimed);
      made = λ x.
          let c : sum_by (λ f. times_made f.work.made x) t.over ≡ sum_by (λ f. times_made f.work.made x) s.over = ap (λ (fs : List Finished). sum_by (λ f. times_made f.work.made x) fs) over in
          let d = more x in
          omega (arith, c, d);
      over = omega (arith, ap length over);
      now = grew;
      reads = reads;
    }

pub moved_nothing : (P : ℕ → Type 0) (s t : Session) → t ≡ s → Moved P 0 0 0 s t
moved_nothing P s t is =
    subst (λ (x : Session). Moved P 0 0 0 s x) (sym is) (moved_on P 0 0 s s refl (grew_nothing (work_of s.stand)) (λ x. omega arith) (λ x read. inl read))

-- it is over with this work
pub moved_out : (P : ℕ → Type 0) (m k : ℕ) (s t : Session) (w : Work) (fate : Fate) → t ≡ record { over = s.over ++ record { work = w; fate = fate } ∷ []; stand = world.idle }
    → length w.made ≤ length (work_of s.stand).made + m → length w.claims ≤ length (work_of s.stand).claims + k
    → ((x : ℕ) → times_made (work_of s.stand).made x ≤ times_made w.made x) → Moved P m k 1 s t
moved_out P m k s t w fate is made claimed more =
    let f : Finished = record { work = w; fate = fate } in
    let end : Session = record { over = s.over ++ f ∷ []; stand = world.idle } in
    let a = sum_by_push (λ (g : Finished). length g.work.made) s.over f in
    let b = sum_by_push (λ (g : Finished). length g.work.claims) s.over f in
    subst (λ (x : Session). Moved P m k 1 s x) (sym is)
    (record {
      mades = omega (arith, a, made);
      claims = omega (arith, b, claimed);
      made = λ x. let c = sum_by_push (λ (g : Finished). times_made g.work.made x) s.over f in let d = more x in omega (arith, c, d);
      over = omega (arith, length-append s.over (f ∷ []));
      now = record { made = omega arith; claimed = omega arith; few = λ few. omega arith; apart = λ apart. nothing_apart };
      reads = λ x read. absurd (cc);
    })

pub moved_then : (P : ℕ → Type 0) (m k o n l p : ℕ) (s t u : Session) → Moved P m k o s t → Moved P n l p t u → Moved P (m + n) (k + l) (o + p) s u
moved_then P m k o n l p s t u first second = record {
  mades = omega (arith, first.mades, second.mades);
  claims = omega (arith, first.claims, second.claims);
  made = λ x. let a = first.made x in let b = second.made x in omega (arith, a, b);
  over = omega (arith, first.over, second.over);
  now = grew_then (work_of s.stand) (work_of t.stand) (work_of u.stand) m k n l first.now second.now;
  reads = λ x read. elim (second.reads x read) [ inl before ↦ first.reads x before | inr new ↦ inr new ];
}

pub moved_within : (P : ℕ → Type 0) (m k o n l p : ℕ) (s t : Session) → m ≤ n → k ≤ l → o ≤ p → Moved P m k o s t → Moved P n l p s t
moved_within P m k o n l p s t less fewer within moved = record {
  mades = omega (arith, moved.mades, less);
  claims = omega (arith, moved.claims, fewer);
  made = moved.made;
  over = omega (arith, moved.over, within);
  now = grew_within (work_of s.stand) (work_of t.stand) m k n l less fewer moved.now;
  reads = moved.reads;
}

-- one session of a world has gone on so
pub record Turned (P : ℕ → Type 0) (m k o : ℕ) (v : View) (seat : ℕ) (t : View) : Type 0 where
  pub own : Moved P m k o (v.session seat) (t.session seat)
  pub others : (q : ℕ) → q ≢ seat → t.session q ≡ v.session q
  pub saves : (q : ℕ) → q ≢ seat → t.saves q ≡ v.saves q
  pub opening : t.opening ≡ v.opening

pub turned_nothing : (P : ℕ → Type 0) (v : View) (seat : ℕ) (t : View) → t ≡ v → Turned P 0 0 0 v seat t
turned_nothing P v seat t is = record {
  own = moved_nothing P (v.session seat) (t.session seat) (ap (λ (x : View). x.session seat) is);
  others = λ q another. ap (λ (x : View). x.session q) is;
  saves = λ q another. ap (λ (x : View). x.saves q) is;
  opening = ap (λ (x : View). x.opening) is;
}

pub turned_then : (P : ℕ → Type 0) (m k o n l p : ℕ) (v : View) (seat : ℕ) (t u : View) → Turned P m k o v seat t → Turned P n l p t seat u → Turned P (m + n) (k + l) (o + p) v seat u
turned_then P m k o n l p v seat t u first second = record {
  own = moved_then P m k o n l p (v.session seat) (t.session seat) (u.session seat) first.own second.own;
  others = λ q another. second.others q another ∙ first.others q another;
  saves = λ q another. second.saves q another ∙ first.saves q another;
  opening = second.opening ∙ first.opening;
}

pub turned_within : (P : ℕ → Type 0) (m k o n l p : ℕ) (v : View) (seat : ℕ) (t : View) → m ≤ n → k ≤ l → o ≤ p → Turned P m k o v seat t → Turned P n l p v seat t
turned_within P m k o n l p v seat t less fewer within turned = record {
  own = moved_within P m k o n l p (v.session seat) (t.session seat) less fewer within turned.own;
  others = turned.others;
  saves = turned.saves;
  opening = turned.opening;
}
