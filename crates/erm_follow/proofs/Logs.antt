-- Commits and safe stamps of a log that goes on.
use Rattle.std.proofs.Common.{◌≡◌, ℕ, ◌<◌, ◌≤◌, ◌⊎◌, ⊎_elim, inl, inr, Bool, true, false, cond, nat_lt, nat_le, List, [], ◌∷◌, ◌++◌, length, Some, refl, sym, ap, ◌∙◌, subst, arith}
use Rattle.std.specs.List.{slice_get}
use Rattle.std.proofs.lemmas.Bool.Decides.{nat_tests}
use Rattle.erm_model.specs.declared.history.Commit.{Commit}
use Rattle.erm_model.specs.Member.{◌∈◌}
use Rattle.erm_model.specs.SerialOrder.{Rank, ComesBefore, StampsDiffer, rank_of_commit}
use Rattle.erm_model.proofs.Members.{∈-behind, slice_get-push}
use Rattle.erm_machine.proofs.Listed.{∈-head, ∈-either}
use Rattle.erm_core_ssn.proofs.Orders.{Ascends}
use Rattle.erm_follow.specs.declared.seen.Seen.{Seen}
use Rattle.erm_follow.specs.declared.seen.Seen.TheVariants as seen
use Rattle.erm_follow.specs.Follow.{greatest}
use Rattle.erm_follow.specs.Given.{commits_of, greatest_of}

pub commits_of-append : (log more : List Seen) → commits_of (log ++ more) ≡ commits_of log ++ commits_of more
commits_of-append [] more = refl
commits_of-append (seen.Commit c ∷ log) more = ap (λ l. c ∷ l) (commits_of-append log more)
commits_of-append (seen.Safe b ∷ log) more = commits_of-append log more

pub greatest_of-push : (base safe : ℕ) (log : List Seen) (s : Seen) → greatest_of base safe (log ++ s ∷ []) ≡ greatest base (greatest_of base safe log) s
greatest_of-push base safe [] s = refl
greatest_of-push base safe (t ∷ log) s = greatest_of-push base (greatest base safe t) log s

-- a safe stamp only raises the greatest
pub greatest-least : (base safe : ℕ) (s : Seen) → safe ≤ greatest base safe s
greatest-least base safe (seen.Commit c) = omega arith
greatest-least base safe (seen.Safe b) = grind (arith, nat_tests)

one_greatest : (base safe : ℕ) (s : Seen) → (greatest base safe s ≡ safe) ⊎ (seen.Safe (greatest base safe s) ≡ s)
one_greatest base safe (seen.Commit c) = inl refl
one_greatest base safe (seen.Safe b) = either_of (nat_le base b) (nat_lt safe b)
  where
    either_of : (p q : Bool) → (cond p (cond q b safe) safe ≡ safe) ⊎ (seen.Safe (cond p (cond q b safe) safe) ≡ seen.Safe b)
    either_of true true = inr refl
    either_of true false = inl refl
    either_of false q = inl refl

-- the greatest safe stamp is that before, or stands in the log
pub greatest_there : (base safe : ℕ) (log : List Seen) → (greatest_of base safe log ≡ safe) ⊎ (seen.Safe (greatest_of base safe log) ∈ log)
greatest_there base safe [] = inl refl
greatest_there base safe (s ∷ log) =
    ⊎_elim
    (λ (same : greatest_of base (greatest base safe s) log ≡ greatest base safe s).
    ⊎_elim
    (λ (kept : greatest base safe s ≡ safe). inl (same ∙ kept))
    (λ (is : seen.Safe (greatest base safe s) ≡ s).
    inr (subst (λ v. v ∈ (s ∷ log)) (sym is ∙ ap (λ n. seen.Safe n) (sym same)) (∈-head s log)))
    (one_greatest base safe s))
    (λ (there : seen.Safe (greatest_of base (greatest base safe s) log) ∈ log). inr (∈-behind s log _ there))
    (greatest_there base (greatest base safe s) log)

-- a stamp above all others differs from them
pub differs-push : (xs : List Commit) (c : Commit) → StampsDiffer rank_of_commit xs → ((d : Commit) → d ∈ xs → d.stamp < c.stamp) → StampsDiffer rank_of_commit (xs ++ c ∷ [])
differs-push xs c differ low i j a b at_i at_j same =
    ⊎_elim
    (λ (first : (i < length xs) × (slice_get xs i ≡ Some a)).
    ⊎_elim
    (λ (second : (j < length xs) × (slice_get xs j ≡ Some b)). differ i j a b first.1 second.1 same)
    (λ (last : (j ≡ length xs) × (c ≡ b)).
    let less = low a (i, first.1) in
    let is : c.stamp ≡ b.stamp = ap (λ (v : Commit). v.stamp) last.1 in
    absurd (omega (arith, less, is, same)))
    (slice_get-push xs c b j at_j))
    (λ (last : (i ≡ length xs) × (c ≡ a)).
    ⊎_elim
    (λ (second : (j < length xs) × (slice_get xs j ≡ Some b)).
    let less = low b (j, second.1) in
    let is : c.stamp ≡ a.stamp = ap (λ (v : Commit). v.stamp) last.1 in
    absurd (omega (arith, less, is, same)))
    (λ (other : (j ≡ length xs) × (c ≡ b)). omega (arith, last.0, other.0))
    (slice_get-push xs c b j at_j))
    (slice_get-push xs c a i at_i)

-- two lists in order, each element of the one before each of the other
pub Ascends-append : {X : Type 0} (rank : X → Rank) (xs ys : List X) → Ascends rank xs → Ascends rank ys → ((x y : X) → x ∈ xs → y ∈ ys → ComesBefore (rank x) (rank y)) → Ascends rank (xs ++ ys)
Ascends-append rank [] ys one other before = other
Ascends-append {X} rank (x ∷ xs) ys one other before = (
  (λ z there.
      ⊎_elim
      (λ (h : z ∈ xs). one.0 z h)
      (λ (h : z ∈ ys). before x z (∈-head x xs) h)
      (∈-either xs ys z there)),
  Ascends-append rank xs ys one.1 other (λ a b at_a at_b. before a b (∈-behind x xs a at_a) at_b),
)
