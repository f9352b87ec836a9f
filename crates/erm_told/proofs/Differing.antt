-- Commits told have different stamps.
use Rattle.std.proofs.Common.{⊎_elim, ◌≡◌, ◌≢◌, ℕ, zero, suc, List, [], ◌∷◌, Option, Some, None, refl, sym, ap, ◌∙◌, subst}
use Rattle.std.specs.List.{AllPairs}
use Rattle.erm_model.specs.Committed.{Committed, rank_of}
use Rattle.erm_model.specs.Member.{◌∈◌}
use Rattle.erm_model.specs.SerialOrder.{StampsDiffer}
use Rattle.erm_model.proofs.Members.{none_in_nil, ∈-behind}
use Rattle.erm_machine.proofs.Listed.{∈-cons, ∈-head}
use Rattle.erm_good_report.specs.Stamps.{Told}
use Rattle.erm_good_report.specs.Transactions.{Ending, Unfinished, Commits, Excludes, Aborts, Transaction, committed_as, committed_of, history_of, stamp_of}
use Rattle.erm_told.proofs.Pairs.{Pairs, pairs_of}

-- two transactions have different stamps, where they have them
abbrev pub Differ : Transaction → Transaction → Type 0
Differ t u = Told (λ a b. a ≢ b) (stamp_of t) (stamp_of u)

-- a commit has its stamp
stamp_told : (t : Transaction) (e : Ending) (c : Committed) → t.ending ≡ e → committed_as e t ≡ Some c → stamp_of t ≡ Some c.stamp
stamp_told t Unfinished c at is = absurd (let no : None ≡ Some c = is in cc)
stamp_told t (Commits stamp succ pred) c at is =
    ap (λ (e : Ending). stamp_of (record t { ending = e })) at ∙ ap (λ (o : Option Committed). stamp_in o) is
  where
    stamp_in : Option Committed → Option ℕ
    stamp_in None = None
    stamp_in (Some d) = Some d.stamp
stamp_told t (Excludes stamp succ pred) c at is = absurd (let no : None ≡ Some c = is in cc)
stamp_told t Aborts c at is = absurd (let no : None ≡ Some c = is in cc)

-- a commit in the history is that of a transaction
pub of_history : (ts : List Transaction) (c : Committed) → c ∈ history_of ts → (u : Transaction) × (u ∈ ts) × (committed_of u ≡ Some c)
of_history [] c m = absurd (none_in_nil c m)
of_history (t ∷ ts) c m = by_commit (λ there. of_history ts c there) (committed_of t) refl m
  where
    kept : Option Committed → List Committed → List Committed
    kept None cs = cs
    kept (Some d) cs = d ∷ cs

    later : (u : Transaction) × (u ∈ ts) × (committed_of u ≡ Some c) → (u : Transaction) × (u ∈ (t ∷ ts)) × (committed_of u ≡ Some c)
    later (u, there, is) = (u, ∈-behind t ts u there, is)

    by_commit : (c ∈ history_of ts → (u : Transaction) × (u ∈ ts) × (committed_of u ≡ Some c)) → (o : Option Committed) → o ≡ committed_of t → c ∈ history_of (t ∷ ts) → (u : Transaction) × (u ∈ (t ∷ ts)) × (committed_of u ≡ Some c)
    by_commit before None e m = later (before (subst (λ (cs : List Committed). c ∈ cs) (shorter e) m))
      where
        shorter : None ≡ committed_of t → history_of (t ∷ ts) ≡ history_of ts
        shorter e = ap (λ (o : Option Committed). kept o (history_of ts)) (sym e)
    by_commit before (Some d) e m = ⊎_elim
        (λ (here : d ≡ c). (t, ∈-head t ts, sym e ∙ ap (λ (x : Committed). Some x) here))
        (λ (there : c ∈ history_of ts). later (before there))
        (∈-cons c d (history_of ts) (subst (λ (cs : List Committed). c ∈ cs) (ap (λ (o : Option Committed). kept o (history_of ts)) (sym e)) m))

differing : (ts : List Transaction) → Pairs Differ ts → Pairs (λ (a b : Committed). a.stamp ≢ b.stamp) (history_of ts)
differing [] pairs = tt
differing (t ∷ ts) pairs = by_commit (differing ts pairs.1) (committed_of t) refl
  where
    kept : Option Committed → List Committed → List Committed
    kept None cs = cs
    kept (Some d) cs = d ∷ cs

    told_differ : (o p : Option ℕ) (a b : ℕ) → Told (λ m n. m ≢ n) o p → o ≡ Some a → p ≡ Some b → a ≢ b
    told_differ o p a b told one other =
        subst (λ (q : Option ℕ). Told (λ m n. m ≢ n) (Some a) q) other (subst (λ (q : Option ℕ). Told (λ m n. m ≢ n) q p) one told)

    by_commit : Pairs (λ (a b : Committed). a.stamp ≢ b.stamp) (history_of ts) → (o : Option Committed) → o ≡ committed_of t → Pairs (λ (a b : Committed). a.stamp ≢ b.stamp) (history_of (t ∷ ts))
    by_commit rest None e = subst (λ (x : Option Committed). Pairs (λ (a b : Committed). a.stamp ≢ b.stamp) (kept x (history_of ts))) e rest
    by_commit rest (Some d) e = subst (λ (x : Option Committed). Pairs (λ (a b : Committed). a.stamp ≢ b.stamp) (kept x (history_of ts))) e (
      (λ c m. let from = of_history ts c m in
          told_differ (stamp_of t) (stamp_of from.0) d.stamp c.stamp (pairs.0 from.0 from.1) (stamp_told t t.ending d refl (sym e)) (stamp_told from.0 from.0.ending c refl from.2)),
      rest,
    )

differ_at : (cs : List Committed) → Pairs (λ (a b : Committed). a.stamp ≢ b.stamp) cs → StampsDiffer rank_of cs
differ_at [] pairs i j a b at_i at_j same = absurd (let no : None ≡ Some a = at_i in cc)
differ_at (c ∷ cs) pairs zero zero a b at_i at_j same = refl
differ_at (c ∷ cs) pairs zero (suc j) a b at_i at_j same = absurd (subst (λ (x : Committed). x.stamp ≢ b.stamp) (the_first c a at_i) (pairs.0 b (j, at_j)) same)
  where
    the_first : (c a : Committed) → Some c ≡ Some a → c ≡ a
    the_first c a is = cc
differ_at (c ∷ cs) pairs (suc i) zero a b at_i at_j same = absurd (subst (λ (x : Committed). x.stamp ≢ a.stamp) (the_first c b at_j) (pairs.0 a (i, at_i)) (sym same))
  where
    the_first : (c a : Committed) → Some c ≡ Some a → c ≡ a
    the_first c a is = cc
differ_at (c ∷ cs) pairs (suc i) (suc j) a b at_i at_j same = ap suc (differ_at cs pairs.1 i j a b at_i at_j same)

-- commits of transactions whose stamps differ have different stamps
pub stamps_differ : (ts : List Transaction) → AllPairs Differ ts → StampsDiffer rank_of (history_of ts)
stamps_differ ts all = differ_at (history_of ts) (differing ts (pairs_of Differ ts all))
