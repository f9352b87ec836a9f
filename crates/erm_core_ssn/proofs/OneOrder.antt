-- The serial order of a list: there is one where stamps differ, and there is at most one.
use Rattle.std.proofs.Common.{◌≡◌, zero, suc, ◌⊎◌, ⊎_elim, List, [], ◌∷◌, get_or, AllPairs, IsPermutation, refl, sym, ◌∙◌, subst, arith}
use Rattle.std.proofs.lemmas.Option.{slice_get-get_or}
use Rattle.std.proofs.lemmas.List.Sorted.{IsPermutation-sym, IsPermutation-refl, IsPermutation-trans, IsPermutation-cons, IsPermutation-middle}
use Rattle.erm_model.specs.Member.{◌∈◌}
use Rattle.erm_model.specs.SerialOrder.{Rank, ComesBefore, IsSerialOrder}
use Rattle.erm_model.proofs.Members.{none_in_nil, ∈-behind}
use Rattle.erm_machine.proofs.Listed.{∈-cons, ∈-head}
use Rattle.erm_core_ssn.proofs.Members.{∈-permutation, TellsApart, TellsApart-tail, TellsApart-head}
use Rattle.erm_core_ssn.proofs.Orders.{ComesBefore-trans, ComesBefore-asym, Ascends, Ascends-from_AllPairs}

never_before_itself : (a : Rank) → ComesBefore a a → ⊥
never_before_itself a before = ComesBefore-asym a a before before

module _ {X : Type 0} (rank : X → Rank) where
  -- the first elements of two lists with the same elements are one
  same_head : (a b : X) (xs ys : List X) → Ascends rank (a ∷ xs) → Ascends rank (b ∷ ys) → a ∈ (b ∷ ys) → b ∈ (a ∷ xs) → a ≡ b
  same_head a b xs ys one other a_there b_there =
      ⊎_elim
      (λ (e : b ≡ a). sym e)
      (λ (a_later : a ∈ ys).
      ⊎_elim
      (λ (e : a ≡ b). e)
      (λ (b_later : b ∈ xs). absurd (ComesBefore-asym (rank a) (rank b) (one.0 b b_later) (other.0 a a_later)))
      (∈-cons b a xs b_there))
      (∈-cons a b ys a_there)

  -- what stands behind the first element of the one stands behind the first of the other
  later : (a b : X) (xs ys : List X) → a ≡ b → Ascends rank (a ∷ xs) → ((x : X) → x ∈ (a ∷ xs) → x ∈ (b ∷ ys)) → (x : X) → x ∈ xs → x ∈ ys
  later a b xs ys same one within x there =
      ⊎_elim
      (λ (e : b ≡ x). absurd (never_before_itself (rank a) (subst (λ v. ComesBefore (rank a) (rank v)) (sym (same ∙ e)) (one.0 x there))))
      (λ (h : x ∈ ys). h)
      (∈-cons x b ys (within x (∈-behind a xs x there)))

  pub Ascends-once : (xs ys : List X) → Ascends rank xs → Ascends rank ys → ((x : X) → x ∈ xs → x ∈ ys) → ((x : X) → x ∈ ys → x ∈ xs) → xs ≡ ys
  Ascends-once [] [] one other there back = refl
  Ascends-once [] (b ∷ ys) one other there back = absurd (none_in_nil b (back b (∈-head b ys)))
  Ascends-once (a ∷ xs) [] one other there back = absurd (none_in_nil a (there a (∈-head a xs)))
  Ascends-once (a ∷ xs) (b ∷ ys) one other there back =
      let same = same_head a b xs ys one other (there a (∈-head a xs)) (back b (∈-head b ys)) in
      let rest = Ascends-once xs ys one.1 other.1 (later a b xs ys same one there) (later b a ys xs (sym same) other back) in
      cc

  pub one_order : (xs one other : List X) → IsSerialOrder rank xs one → IsSerialOrder rank xs other → one ≡ other
  one_order xs one other first second =
      Ascends-once one other (Ascends-from_AllPairs rank one first.ascends) (Ascends-from_AllPairs rank other second.ascends)
      (λ x there. ∈-permutation x xs other second.same (∈-permutation x one xs (IsPermutation-sym xs one first.same) there))
      (λ x there. ∈-permutation x xs one first.same (∈-permutation x other xs (IsPermutation-sym xs other second.same) there))

  -- places of a list in the serial order
  pub AllPairs-from_Ascends : (xs : List X) → Ascends rank xs → AllPairs (λ a b. ComesBefore (rank a) (rank b)) xs
  AllPairs-from_Ascends [] ascends i j d before within = absurd (omega arith)
  AllPairs-from_Ascends (x ∷ xs) ascends zero zero d before within = absurd (omega arith)
  AllPairs-from_Ascends (x ∷ xs) ascends zero (suc j) d before within =
      ascends.0 (get_or xs j d) (j, slice_get-get_or xs j d (omega arith))
  AllPairs-from_Ascends (x ∷ xs) ascends (suc i) zero d before within = absurd (omega arith)
  AllPairs-from_Ascends (x ∷ xs) ascends (suc i) (suc j) d before within =
      AllPairs-from_Ascends xs ascends.1 i j d (omega arith) (omega arith)

  -- of two ranks with different stamps one comes before the other
  one_before : (a b : Rank) → (a.stamp ≡ b.stamp → ⊥) → ComesBefore a b ⊎ ComesBefore b a
  one_before a b differ = grind arith

  -- an element takes its place in a list that ascends
  takes_place : (x : X) (ys : List X) → Ascends rank ys → ((y : X) → y ∈ ys → (rank x).stamp ≡ (rank y).stamp → ⊥) → (zs : List X) × IsPermutation (x ∷ ys) zs × Ascends rank zs
  takes_place x [] ascends differ = (x ∷ [], IsPermutation-refl (x ∷ []), ((λ y there. absurd (none_in_nil y there)), tt))
  takes_place x (y ∷ ys) ascends differ =
      let placed = takes_place x ys ascends.1 (λ z there. differ z (∈-behind y ys z there)) in
      ⊎_elim
      (λ (before : ComesBefore (rank x) (rank y)).
      let each : (z : X) → z ∈ (y ∷ ys) → ComesBefore (rank x) (rank z) = λ z there.
      ⊎_elim
      (λ (e : y ≡ z). subst (λ v. ComesBefore (rank x) (rank v)) e before)
      (λ (h : z ∈ ys). ComesBefore-trans (rank x) (rank y) (rank z) before (ascends.0 z h))
      (∈-cons z y ys there)
      in
      (x ∷ (y ∷ ys), IsPermutation-refl (x ∷ (y ∷ ys)), (each, ascends)))
      (λ (after : ComesBefore (rank y) (rank x)).
      let each : (z : X) → z ∈ placed.0 → ComesBefore (rank y) (rank z) = λ z there.
      ⊎_elim
      (λ (e : x ≡ z). subst (λ v. ComesBefore (rank y) (rank v)) e after)
      (λ (h : z ∈ ys). ascends.0 z h)
      (∈-cons z x ys (∈-permutation z placed.0 (x ∷ ys) (IsPermutation-sym (x ∷ ys) placed.0 placed.1) there))
      in
      (y ∷ placed.0, IsPermutation-trans (x ∷ (y ∷ ys)) (y ∷ (x ∷ ys)) (y ∷ placed.0) (IsPermutation-middle (x ∷ []) y ys) (IsPermutation-cons y (x ∷ ys) placed.0 placed.1), (each, placed.2)))
      (one_before (rank x) (rank y) (differ y (∈-head y ys)))

  ascending_order : (xs : List X) → TellsApart (λ x. (rank x).stamp) xs → (ys : List X) × IsPermutation xs ys × Ascends rank ys
  ascending_order [] apart = ([], IsPermutation-refl [], tt)
  ascending_order (x ∷ xs) apart =
      let order = ascending_order xs (TellsApart-tail (λ x. (rank x).stamp) x xs apart) in
      let placed = takes_place x order.0 order.2 (λ y there. TellsApart-head (λ x. (rank x).stamp) x xs apart y (∈-permutation y order.0 xs (IsPermutation-sym xs order.0 order.1) there)) in
      (placed.0, IsPermutation-trans (x ∷ xs) (x ∷ order.0) placed.0 (IsPermutation-cons x xs order.0 order.1) placed.1, placed.2)

  pub some_order : (xs : List X) → TellsApart (λ x. (rank x).stamp) xs → (order : List X) × IsSerialOrder rank xs order
  some_order xs apart =
      let order = ascending_order xs apart in
      (order.0, record { same = order.1; ascends = AllPairs-from_Ascends order.0 order.2 })
