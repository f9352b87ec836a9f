-- Of the commits that made versions of an object one made the newest.
use Rattle.std.proofs.Common.{ℕ, ◌≤◌, ◌⊎◌, [], ◌∷◌, inl, inr, sym, ap, subst, arith}
use Rattle.std.proofs.lemmas.Bool.{cases_lt}
use Rattle.erm_model.specs.declared.history.TransactionRecord.{TransactionRecord}
use Rattle.erm_model.specs.History.{History, Makes}
use Rattle.erm_model.specs.Member.{◌∈◌}
use Rattle.erm_model.proofs.Members.{none_in_nil, ∈-behind}
use Rattle.erm_machine.proofs.Listed.{∈-cons, ∈-head}
use Rattle.erm_world.specs.Works.{is_claimed}
use Rattle.erm_tight.proofs.Found.{claimed_in, makes_claimed}
use Rattle.erm_tight.proofs.Went.{true_or_not}

pub record IsNewestMaker (h : History) (x : ℕ) : Type 0 where
  pub by : TransactionRecord
  pub within : by ∈ h
  pub makes : Makes by x
  pub newest : (u : TransactionRecord) → u ∈ h → Makes u x → u.stamp ≤ by.stamp

abbrev pub HasNoMaker : History → ℕ → Type 0
HasNoMaker h x = (u : TransactionRecord) → u ∈ h → Makes u x → ⊥

module _ (t : TransactionRecord) (h : History) (x : ℕ) where
  maker_behind : (m : IsNewestMaker h x) → (Makes t x → t.stamp ≤ m.by.stamp) → IsNewestMaker (t ∷ h) x
  maker_behind m less = record {
    by = m.by;
    within = ∈-behind t h m.by m.within;
    makes = m.makes;
    newest = λ u within makes. elim (∈-cons u t h within) as (λ _. u.stamp ≤ m.by.stamp) [
      | inl here ↦ let first = less (subst (λ (r : TransactionRecord). Makes r x) (sym here) makes) in omega (arith, first, ap (λ (r : TransactionRecord). r.stamp) here)
      | inr later ↦ m.newest u later makes
    ];
  }

  maker_here : Makes t x → ((u : TransactionRecord) → u ∈ h → Makes u x → u.stamp ≤ t.stamp) → IsNewestMaker (t ∷ h) x
  maker_here makes less = record {
    by = t;
    within = ∈-head t h;
    makes = makes;
    newest = λ u within also. elim (∈-cons u t h within) as (λ _. u.stamp ≤ t.stamp) [
      | inl here ↦ omega (arith, ap (λ (r : TransactionRecord). r.stamp) here)
      | inr later ↦ less u later also
    ];
  }

  newest_then : HasNoMaker h x ⊎ IsNewestMaker h x → (Makes t x) ⊎ (Makes t x → ⊥) → HasNoMaker (t ∷ h) x ⊎ IsNewestMaker (t ∷ h) x
  newest_then (inl none) (inl makes) = inr (maker_here makes (λ u within also. absurd (none u within also)))
  newest_then (inl none) (inr not) = inl (λ u within makes. elim (∈-cons u t h within) as (λ _. ⊥) [
    | inl here ↦ not (subst (λ (r : TransactionRecord). Makes r x) (sym here) makes)
    | inr later ↦ none u later makes
  ])
  newest_then (inr m) (inr not) = inr (maker_behind m (λ makes. absurd (not makes)))
  newest_then (inr m) (inl makes) = elim (cases_lt m.by.stamp t.stamp) as (λ _. HasNoMaker (t ∷ h) x ⊎ IsNewestMaker (t ∷ h) x) [
    | inl less ↦ inr (maker_here makes (λ u within also. omega (arith, m.newest u within also, less)))
    | inr not_less ↦ inr (maker_behind m (λ also. not_less))
  ]

makes_or_not : (t : TransactionRecord) (x : ℕ) → Makes t x ⊎ (Makes t x → ⊥)
makes_or_not t x = elim (true_or_not (is_claimed t.writes x)) as (λ _. Makes t x ⊎ (Makes t x → ⊥)) [
  | inl claimed ↦ inl (claimed_in t.writes x claimed)
  | inr not ↦ inr (λ makes. not (makes_claimed t x makes))
]

pub newest_maker : (h : History) (x : ℕ) → HasNoMaker h x ⊎ IsNewestMaker h x
newest_maker [] x = inl (λ u within makes. none_in_nil u within)
newest_maker (t ∷ h) x = newest_then t h x (newest_maker h x) (makes_or_not t x)
