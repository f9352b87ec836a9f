-- Where a stream is bad, replicating ends at once.
use Rattle.std.proofs.Common.{◌≡◌, ℕ, zero, suc, ◌+◌, ◌<◌, ◌≤◌, ◌⊎◌, inl, inr, List, [], ◌∷◌, ◌++◌, length, Option, Some, refl, sym, ap, ◌∙◌, subst, arith, append_assoc, length-append}
use Rattle.erm_follow_run.specs.Ends.{TookAll, TookFront, Ways}
use Rattle.erm_replica_rows.specs.Replica.{IsBadAt}
use Rattle.erm_replica_run.specs.Ends.{EndsNear, ReplicaEnds, TellsWhole}
use Rattle.erm_replica_run.specs.Texts.{IsGood, IsGoodBut}

lt_or_le : (a b : ℕ) → (a < b) ⊎ (b ≤ a)
lt_or_le a zero = inr (omega arith)
lt_or_le zero (suc b) = inl (omega arith)
lt_or_le (suc a) (suc b) = elim (lt_or_le a b) [ inl less ↦ inl (omega (arith, less)) | inr most ↦ inr (omega (arith, most)) ]

-- of two fronts of a list the longer has the shorter in front
longer_front : (front more other rest : List ℕ) → front ++ more ≡ other ++ rest → length front ≤ length other → (mid : List ℕ) × (other ≡ front ++ mid)
longer_front [] more other rest same le = (other, refl)
longer_front (x ∷ front) more [] rest same le = absurd (omega (arith, le))
longer_front (x ∷ front) more (y ∷ other) rest same le =
    let head : y ≡ x = cc in
    let tail : front ++ more ≡ other ++ rest = cc in
    let found = longer_front front more other rest tail (omega (arith, le)) in
    (found.0, λ i. head i ∷ found.1 i)

module _ (stays : (bytes more : List ℕ) (place : ℕ) → IsBadAt bytes place → IsBadAt (bytes ++ more) place) (front more : List ℕ) (place : ℕ) (bad : IsBadAt front place) where
  -- good bytes are fewer than those that are bad
  good_is_short : (other rest : List ℕ) → front ++ more ≡ other ++ rest → IsGood other → length other < length front
  good_is_short other rest same good =
      elim (lt_or_le (length other) (length front)) [
        | inl less ↦ less
        | inr most ↦ let found = longer_front front more other rest same most in
            absurd (good place (subst (λ (bytes : List ℕ). IsBadAt bytes place) (sym found.1) (stays front found.0 place bad)))
      ]

  module _ (a : Ways) (left : a.left_before ≡ Some (front ++ more)) where
    cut : (bytes : List ℕ) → TookFront bytes a.left_before a.left_after → (rest : List ℕ) × (front ++ more ≡ bytes ++ rest)
    cut bytes took =
        let here : TookFront bytes (Some (front ++ more)) a.left_after = subst (λ (o : Option (List ℕ)). TookFront bytes o a.left_after) left took in
        (here.0, here.1)

    near_good : (bytes : List ℕ) → TookFront bytes a.left_before a.left_after → IsGood bytes → EndsNear front a
    near_good bytes took good =
        let rest = cut bytes took in
        let short = good_is_short bytes rest.0 rest.1 good in
        (bytes, took, omega (arith, short))

    near_but : (bytes : List ℕ) → TookFront bytes a.left_before a.left_after → IsGoodBut 4096 bytes → EndsNear front a
    near_but bytes took but =
        let rest = cut bytes took in
        let same : front ++ more ≡ but.earlier ++ (but.last ++ rest.0) = rest.1 ∙ ap (λ (xs : List ℕ). xs ++ rest.0) but.bytes_are ∙ append_assoc but.earlier but.last rest.0 in
        let short = good_is_short but.earlier (but.last ++ rest.0) same but.good in
        let count : length bytes ≡ length but.earlier + length but.last = ap (λ (xs : List ℕ). length xs) but.bytes_are ∙ length-append but.earlier but.last in
        (bytes, took, omega (arith, short, count, but.few))

    not_whole : (text : List ℕ) → TellsWhole a text → ⊥
    not_whole text whole =
        let here : TookAll whole.bytes (Some (front ++ more)) a.left_after = subst (λ (o : Option (List ℕ)). TookAll whole.bytes o a.left_after) left whole.all in
        whole.tells.good place (subst (λ (bytes : List ℕ). IsBadAt bytes place) here.0 (stays front more place bad))

    near : (status : ℕ) → ReplicaEnds status a → (status ≡ 0) ⊎ (status ≡ 4) ⊎ (status ≡ 5) ⊎ (status ≡ 8) ⊎ (status ≡ 9) ⊎ (status ≡ 11) → EndsNear front a
    near status ends (inl e) = absurd (not_whole (ends.success e).0 (ends.success e).1)
    near status ends (inr (inl e)) = let line = (ends.read_fault e).1 in near_good line.0 line.1.front line.1.good
    near status ends (inr (inr (inl e))) = let told = (ends.sink_fault e).1 in absurd (not_whole told.0 told.1)
    near status ends (inr (inr (inr (inl e)))) = let starved = ends.no_memory e in near_but starved.bytes starved.front starved.before
    near status ends (inr (inr (inr (inr (inl e))))) = let long = ends.too_long e in near_good long.0 long.2.front long.2.good
    near status ends (inr (inr (inr (inr (inr e))))) = let told = ends.bad e in near_but told.bytes told.front told.before

    pub ends_near : (status : ℕ) → ReplicaEnds status a → EndsNear front a
    ends_near status ends = near status ends ends.known
