-- What is so of each transaction that committed is so of each commit, by its operations, and the other way round.
use Rattle.std.proofs.Common.{◌≡◌, ℕ, zero, suc, List, [], ◌∷◌, Option, Some, None, inl, inr, refl, sym, ap, ◌∙◌, subst}
use Rattle.std.specs.List.{cons_option}
use Rattle.erm_client.proofs.Joined.{in_either}
use Rattle.erm_client.specs.Dealings.{AllCommitted, commits_told, dealings_of}
use Rattle.erm_client.specs.declared.transcript.Transcript.{Transcript}
use Rattle.erm_client.specs.Stretches.{Went}
use Rattle.erm_good_report.specs.Transactions.{Commits, Ending, Transaction, committed_as, history_of, steps_of}
use Rattle.erm_good_report.specs.Transactions as dealt
use Rattle.erm_model.proofs.Members.{none_in_nil, ∈-behind}
use Rattle.erm_model.specs.Committed.{Committed}
use Rattle.erm_model.specs.Member.{◌∈◌}
use Rattle.erm_model.specs.Run.{Step}

-- the commit that a transaction is
abbrev pub commit_by : ℕ → ℕ → ℕ → Transaction → Committed
commit_by stamp succ pred t = record { session = t.session; number = t.number; begin = t.begin; stamp = stamp; succ = succ; pred = pred; steps = steps_of t }

in_cons : (o : Option Committed) (xs : List Committed) (x : Committed) → x ∈ xs → x ∈ cons_option o xs
in_cons None xs x there = there
in_cons (Some y) xs x there = ∈-behind y xs x there

-- each that committed is a commit
pub in_history : (over : List Transaction) (t : Transaction) (stamp succ pred : ℕ) → t ∈ over → t.ending ≡ Commits stamp succ pred → commit_by stamp succ pred t ∈ history_of over
in_history [] t stamp succ pred there is = absurd (none_in_nil t there)
in_history (u ∷ over) t stamp succ pred (zero, at) is =
    let same : u ≡ t = cc in
    let ends : u.ending ≡ Commits stamp succ pred = ap (λ (x : Transaction). x.ending) same ∙ is in
    subst (λ (x : Transaction). commit_by stamp succ pred x ∈ history_of (u ∷ over)) same
    (subst (λ (e : Ending). commit_by stamp succ pred u ∈ cons_option (committed_as e u) (history_of over)) (sym ends) (zero, refl))
in_history (u ∷ over) t stamp succ pred (suc k, at) is =
    in_cons (committed_as u.ending u) (history_of over) (commit_by stamp succ pred t) (in_history over t stamp succ pred (k, at) is)

-- and each commit is one that committed
pub record IsOneOf (over : List Transaction) (x : Committed) : Type 0 where
  pub of : Transaction
  pub there : of ∈ over
  pub stamp : ℕ
  pub succ : ℕ
  pub pred : ℕ
  pub commits : of.ending ≡ Commits stamp succ pred
  pub same : commit_by stamp succ pred of ≡ x

behind : (u : Transaction) (over : List Transaction) (x : Committed) → IsOneOf over x → IsOneOf (u ∷ over) x
behind u over x one = record { of = one.of; there = ∈-behind u over one.of one.there; stamp = one.stamp; succ = one.succ; pred = one.pred; commits = one.commits; same = one.same }

one_of : (u : Transaction) (over : List Transaction) (x : Committed) (e : Ending) → u.ending ≡ e → ((y : Committed) → y ∈ history_of over → IsOneOf over y)
    → x ∈ cons_option (committed_as e u) (history_of over) → IsOneOf (u ∷ over) x
one_of u over x (Commits stamp succ pred) is others (zero, at) =
    let same : commit_by stamp succ pred u ≡ x = cc in
    record { of = u; there = (zero, refl); stamp = stamp; succ = succ; pred = pred; commits = is; same = same }
one_of u over x (Commits stamp succ pred) is others (suc k, at) = behind u over x (others x (k, at))
one_of u over x (dealt.Excludes stamp succ pred) is others inside = behind u over x (others x inside)
one_of u over x dealt.Aborts is others inside = behind u over x (others x inside)
one_of u over x dealt.Unfinished is others inside = behind u over x (others x inside)

pub from_history : (over : List Transaction) (x : Committed) → x ∈ history_of over → IsOneOf over x
from_history [] x there = absurd (none_in_nil x there)
from_history (u ∷ over) x there = one_of u over x u.ending refl (from_history over) there

module _ (Kind : List Step → Type 0) where
  pub each_told : (c : Transcript) → AllCommitted Kind c → (x : Committed) → x ∈ commits_told c → Kind x.steps
  each_told c all x there =
      let one = from_history (dealings_of c).over x there in
      subst (λ (y : Committed). Kind y.steps) one.same (all one.of one.stamp one.succ one.pred one.there one.commits)

  pub all_told : (c : Transcript) → ((x : Committed) → x ∈ commits_told c → Kind x.steps) → AllCommitted Kind c
  all_told c each t stamp succ pred there commits = each (commit_by stamp succ pred t) (in_history (dealings_of c).over t stamp succ pred there commits)

  -- of a kind they stay where those in between are
  pub all_went : {n : ℕ} {xs ss : List Committed} {c d : Transcript} → Went n xs ss c d → ((x : Committed) → x ∈ xs → Kind x.steps) → AllCommitted Kind c → AllCommitted Kind d
  all_went {xs = xs} {c = c} {d = d} went are all =
      all_told d (λ x there. elim (in_either (commits_told c) xs x (subst (λ (l : List Committed). x ∈ l) went.commits_are there)) as (λ _. Kind x.steps) [
        | inl before ↦ each_told c all x before
        | inr now ↦ are x now
      ])

  pub all_still : {n : ℕ} {ss : List Committed} {c d : Transcript} → Went n [] ss c d → AllCommitted Kind c → AllCommitted Kind d
  all_still went all = all_went went (λ x there. absurd (none_in_nil x there)) all

  pub all_one : {n : ℕ} {x : Committed} {ss : List Committed} {c d : Transcript} → Went n (x ∷ []) ss c d → Kind x.steps → AllCommitted Kind c → AllCommitted Kind d
  all_one {x = x} went is all = all_went went (λ y there. subst (λ (z : Committed). Kind z.steps) (only y there) is) all
    where
      only : (y : Committed) → y ∈ (x ∷ []) → x ≡ y
      only y (zero, at) = cc
      only y (suc k, at) = absurd (none_in_nil y (k, at))
