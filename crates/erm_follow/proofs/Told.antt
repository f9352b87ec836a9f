-- A follower that has told what is due goes on to have told it.
use Rattle.std.proofs.Common.{◌≡◌, ℕ, ◌<◌, ◌≤◌, ◌⊎◌, ⊎_elim, inl, inr, List, [], ◌∷◌, ◌++◌, refl, sym, ap, ◌∙◌, subst, arith}
use Rattle.erm_model.specs.declared.history.Commit.{Commit}
use Rattle.erm_model.specs.Member.{◌∈◌}
use Rattle.erm_model.specs.SerialOrder.{ComesBefore, StampsDiffer, rank_of_commit}
use Rattle.erm_model.proofs.Members.{none_in_nil, ∈-behind, ∈-push}
use Rattle.erm_machine.proofs.Listed.{∈-cons, ∈-head, ∈-either, ∈-first, ∈-second}
use Rattle.erm_core_ssn.proofs.Orders.{Ascends-from_AllPairs}
use Rattle.erm_core_ssn.proofs.OneOrder.{AllPairs-from_Ascends}
use Rattle.erm_follow.specs.declared.seen.Seen.{Seen}
use Rattle.erm_follow.specs.declared.seen.Seen.TheVariants as seen
use Rattle.erm_follow.specs.Follow.{Followed, GivesNext, MayTake, IsInOrder, greatest, heard, start}
use Rattle.erm_follow.specs.Given.{HasGiven, commits_of}
use Rattle.erm_follow.proofs.Logs.{commits_of-append, greatest_of-push, greatest-least, differs-push, Ascends-append}

pub begins : (base : ℕ) → HasGiven base [] [] (start base)
begins base = record {
  from = refl;
  whole = refl;
  safe = refl;
  order = λ i j d before within. absurd (omega arith);
  given = λ c there. absurd (none_in_nil c there);
  all = λ c there low. absurd (none_in_nil c there);
  waits = λ c there. absurd (none_in_nil c there);
  rest = λ c there high. absurd (none_in_nil c there);
  within = λ c there. absurd (none_in_nil c there);
  clean = λ c there breaks. absurd (none_in_nil c there);
  differ = λ i j a b at_i at_j same. absurd (none_in_nil a (i, at_i));
}

low_or_high : (n m : ℕ) → (n < m) ⊎ (m ≤ n)
low_or_high n m = grind arith

pub before_all : (a b : Commit) (bound : ℕ) → a.succ ≤ a.stamp → a.stamp < bound → bound ≤ b.succ → ComesBefore (rank_of_commit a) (rank_of_commit b)
before_all a b bound within low high = inl (omega (arith, within, low, high))

-- what is heard with one more item stands in the log with it, and the other way round
pub heard_of : (log : List Seen) (waiting : List Commit) (s : Seen) → ((c : Commit) → c ∈ waiting → c ∈ commits_of log) → (c : Commit) → c ∈ heard s waiting → c ∈ commits_of (log ++ s ∷ [])
heard_of log waiting (seen.Commit d) waits c there =
    subst (λ l. c ∈ l) (sym (commits_of-append log (seen.Commit d ∷ [])))
    (⊎_elim
    (λ (e : d ≡ c). subst (λ v. v ∈ (commits_of log ++ d ∷ [])) e (∈-second (commits_of log) (d ∷ []) d (∈-head d [])))
    (λ (h : c ∈ waiting). ∈-first (commits_of log) (d ∷ []) c (waits c h))
    (∈-cons c d waiting there))
heard_of log waiting (seen.Safe b) waits c there =
    subst (λ l. c ∈ l) (sym (commits_of-append log (seen.Safe b ∷ []))) (∈-first (commits_of log) [] c (waits c there))

log_of : (log : List Seen) (waiting : List Commit) (s : Seen) (c : Commit) → c ∈ commits_of (log ++ s ∷ []) → (c ∈ commits_of log) ⊎ (c ∈ heard s waiting)
log_of log waiting (seen.Commit d) c there =
    ⊎_elim
    (λ (h : c ∈ commits_of log). inl h)
    (λ (e : c ≡ d). inr (subst (λ v. v ∈ (d ∷ waiting)) (sym e) (∈-head d waiting)))
    (∈-push (commits_of log) d c (subst (λ l. c ∈ l) (commits_of-append log (seen.Commit d ∷ [])) there))
log_of log waiting (seen.Safe b) c there =
    ⊎_elim
    (λ (h : c ∈ commits_of log). inl h)
    (λ (h : c ∈ []). absurd (none_in_nil c h))
    (∈-either (commits_of log) [] c (subst (λ l. c ∈ l) (commits_of-append log (seen.Safe b ∷ [])) there))

old_log : (log : List Seen) (s : Seen) (c : Commit) → c ∈ commits_of log → c ∈ commits_of (log ++ s ∷ [])
old_log log s c there =
    subst (λ l. c ∈ l) (sym (commits_of-append log (s ∷ []))) (∈-first (commits_of log) (commits_of (s ∷ [])) c there)

module _ (base : ℕ) (log : List Seen) (lines new : List Commit) (f g : Followed) (s : Seen) (has : HasGiven base log lines f) (may : MayTake f s) (next : GivesNext f s new g) where
  raised : f.safe ≤ g.safe
  raised = subst (λ n. f.safe ≤ n) (sym next.safe) (greatest-least f.base f.safe s)

  -- a commit heard has a successor stamp at or above the safe stamp so far
  high_in : (s : Seen) → MayTake f s → (h : GivesNext f s new g) → (c : Commit) → c ∈ heard s f.waiting → f.safe ≤ c.succ
  high_in (seen.Commit d) may h c there =
      ⊎_elim
      (λ (e : d ≡ c).
      let at : f.safe ≤ c.stamp = subst (λ (v : Commit). f.safe ≤ v.stamp) e may.2 in
      ⊎_elim
      (λ (low : c.succ < f.safe).
      absurd (h.clean c there (subst (λ n. n ≤ c.stamp) (sym h.safe) at, subst (λ n. c.succ < n) (sym h.safe) low)))
      (λ (high : f.safe ≤ c.succ). high)
      (low_or_high c.succ f.safe))
      (λ (k : c ∈ f.waiting). of_waiting c k)
      (∈-cons c d f.waiting there)
    where
      of_waiting : (c : Commit) → c ∈ f.waiting → f.safe ≤ c.succ
      of_waiting c k =
          let of = has.waits c k in
          ⊎_elim
          (λ (low : c.succ < f.safe). absurd (has.clean c of.0 (of.1, low)))
          (λ (high : f.safe ≤ c.succ). high)
          (low_or_high c.succ f.safe)
  high_in (seen.Safe b) may h c there =
      let of = has.waits c there in
      ⊎_elim
      (λ (low : c.succ < f.safe). absurd (has.clean c of.0 (of.1, low)))
      (λ (high : f.safe ≤ c.succ). high)
      (low_or_high c.succ f.safe)

  low_in : (c : Commit) → c ∈ lines → (c.succ ≤ c.stamp) × (c.stamp < f.safe)
  low_in c there = let of = has.given c there in (has.within c of.0, of.1)

  heard_there : (c : Commit) → c ∈ heard s f.waiting → c ∈ commits_of (log ++ s ∷ [])
  heard_there = heard_of log f.waiting s (λ c there. (has.waits c there).0)

  -- each commit of the log was told, or is heard
  told_or_heard : (c : Commit) → c ∈ commits_of (log ++ s ∷ []) → (c ∈ lines) ⊎ (c ∈ heard s f.waiting)
  told_or_heard c there =
      ⊎_elim
      (λ (h : c ∈ commits_of log).
      ⊎_elim
      (λ (low : c.stamp < f.safe). inl (has.all c h low))
      (λ (high : f.safe ≤ c.stamp). inr (waiting_heard s c (has.rest c h high)))
      (low_or_high c.stamp f.safe))
      (λ (h : c ∈ heard s f.waiting). inr h)
      (log_of log f.waiting s c there)
    where
      waiting_heard : (s : Seen) (c : Commit) → c ∈ f.waiting → c ∈ heard s f.waiting
      waiting_heard (seen.Commit d) c h = ∈-behind d f.waiting c h
      waiting_heard (seen.Safe b) c h = h

  in_order : IsInOrder (lines ++ new)
  in_order =
      AllPairs-from_Ascends rank_of_commit (lines ++ new)
      (Ascends-append rank_of_commit lines new (Ascends-from_AllPairs rank_of_commit lines has.order) (Ascends-from_AllPairs rank_of_commit new next.order)
      (λ a b at_a at_b.
      let low = low_in a at_a in
      before_all a b f.safe low.0 low.1 (high_in s may next b (next.given b at_b).0)))

  within_heard : (s : Seen) → MayTake f s → (c : Commit) → c ∈ heard s f.waiting → c.succ ≤ c.stamp
  within_heard (seen.Commit d) may c there =
      ⊎_elim
      (λ (e : d ≡ c). subst (λ (v : Commit). v.succ ≤ v.stamp) e may.1)
      (λ (h : c ∈ f.waiting). has.within c (has.waits c h).0)
      (∈-cons c d f.waiting there)
  within_heard (seen.Safe b) may c there = has.within c (has.waits c there).0

  differs : (s : Seen) → MayTake f s → StampsDiffer rank_of_commit (commits_of (log ++ s ∷ []))
  differs (seen.Commit d) may =
      subst (λ l. StampsDiffer rank_of_commit l) (sym (commits_of-append log (seen.Commit d ∷ [])))
      (differs-push (commits_of log) d has.differ (λ c there.
      ⊎_elim
      (λ (low : c.stamp < f.safe). omega (arith, low, may.2))
      (λ (high : f.safe ≤ c.stamp). may.0 c (has.rest c there high))
      (low_or_high c.stamp f.safe)))
  differs (seen.Safe b) may =
      subst (λ l. StampsDiffer rank_of_commit l) (sym (commits_of-append log (seen.Safe b ∷ []) ∙ append-nil (commits_of log))) has.differ
    where
      append-nil : (xs : List Commit) → xs ++ [] ≡ xs
      append-nil [] = refl
      append-nil (x ∷ xs) = ap (λ l. x ∷ l) (append-nil xs)

  pub goes_on : HasGiven base (log ++ s ∷ []) (lines ++ new) g
  goes_on = record {
    from = next.base ∙ has.from;
    whole = next.still;
    safe = next.safe ∙ ap (λ b. greatest b f.safe s) has.from ∙ ap (λ n. greatest base n s) has.safe ∙ sym (greatest_of-push base 0 log s);
    order = in_order;
    given = λ c there.
        ⊎_elim
        (λ (h : c ∈ lines). let of = has.given c h in (old_log log s c of.0, omega (arith, of.1, raised)))
        (λ (h : c ∈ new). let of = next.given c h in (heard_there c of.0, of.1))
        (∈-either lines new c there);
    all = λ c there low.
        ⊎_elim
        (λ (h : c ∈ lines). ∈-first lines new c h)
        (λ (h : c ∈ heard s f.waiting). ∈-second lines new c (next.all c h low))
        (told_or_heard c there);
    waits = λ c there. let of = next.waits c there in (heard_there c of.0, of.1);
    rest = λ c there high.
        ⊎_elim
        (λ (h : c ∈ lines). absurd (omega (arith, (low_in c h).1, raised, high)))
        (λ (h : c ∈ heard s f.waiting). next.rest c h high)
        (told_or_heard c there);
    within = λ c there.
        ⊎_elim
        (λ (h : c ∈ lines). (low_in c h).0)
        (λ (h : c ∈ heard s f.waiting). within_heard s may c h)
        (told_or_heard c there);
    clean = λ c there breaks.
        ⊎_elim
        (λ (h : c ∈ lines). absurd (omega (arith, (low_in c h).1, raised, breaks.0)))
        (λ (h : c ∈ heard s f.waiting). next.clean c h breaks)
        (told_or_heard c there);
    differ = differs s may;
  }
