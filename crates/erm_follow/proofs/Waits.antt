-- Turns that are kept in order: which stand there with one more, and which lie below a bound.
use Rattle.std.proofs.Common.{◌≡◌, ℕ, zero, suc, ◌<◌, ◌≤◌, ◌⊎◌, ⊎_elim, inl, inr, Bool, true, false, cond, nat_lt, List, [], ◌∷◌, length, get_or, drop, refl, sym, ap, ◌∙◌, subst, arith}
use Rattle.std.specs.List.{take_while}
use Rattle.std.specs.List.Sorted.{IsStrictlySortedBy}
use Rattle.std.specs.BTreeSet.{insert_key}
use Rattle.std.specs.declared.cmp.Ordering.{Ordering}
use Rattle.std.specs.declared.cmp.Ordering.TheVariants.{Less, Equal, Greater}
use Rattle.std.specs.Ordering.{nat_cmp, ordering_then, match_ordering}
use Rattle.std.proofs.lemmas.Bool.Decides.{nat_tests}
use Rattle.std.proofs.lemmas.Bool.{ltb-true}
use Rattle.std.proofs.lemmas.List.Sums.{take_while-cons}
use Rattle.std.proofs.lemmas.Map.Keys.{Less-from_sorted, sorted_tail}
use Rattle.std.proofs.lemmas.Option.{get_or_from_slice_get, slice_get_within}
use Rattle.erm_model.specs.Member.{◌∈◌}
use Rattle.erm_model.specs.SerialOrder.{Rank, ComesBefore, rank_of_commit}
use Rattle.erm_model.proofs.Members.{none_in_nil, ∈-behind}
use Rattle.erm_machine.proofs.Listed.{∈-cons, ∈-head, ∈-map}
use Rattle.erm_core_ssn.proofs.Orders.{Ascends}
use Rattle.erm_follow.specs.declared.turn.Turn.{Turn}
use Rattle.erm_follow.specs.Waiting.{commit_of, commits_of_turns}

-- turns ascend by successor stamp, then descend by commit stamp
abbrev pub turn_cmp : Turn → Turn → Ordering
turn_cmp a b = ordering_then (nat_cmp a.succ b.succ) (ordering_then (nat_cmp b.stamp.0 a.stamp.0) (ordering_then (nat_cmp a.seat b.seat) (nat_cmp a.number b.number)))

abbrev pub rank_of_turn : Turn → Rank
rank_of_turn t = rank_of_commit (commit_of t)

-- what an order of two turns says of their ranks
before_from_less : (a b : Turn) → turn_cmp a b ≡ Less → (a.stamp.0 ≡ b.stamp.0 → ⊥) → ComesBefore (rank_of_turn a) (rank_of_turn b)
before_from_less a b less differ = grind (arith, nat_tests)

not_equal : (a b : Turn) → turn_cmp a b ≡ Equal → b.stamp.0 < a.stamp.0 → ⊥
not_equal a b equal less = grind (arith, nat_tests)

-- ---- with one more turn
inserted : (t x y : Turn) (ys more : List Turn) (o : Ordering) → ((x ∈ more) → (x ≡ t) ⊎ (x ∈ ys)) → x ∈ match_ordering o (t ∷ y ∷ ys) (y ∷ ys) (y ∷ more) → (x ≡ t) ⊎ (x ∈ (y ∷ ys))
inserted t x y ys more Less behind there =
    ⊎_elim (λ (e : t ≡ x). inl (sym e)) (λ (h : x ∈ (y ∷ ys)). inr h) (∈-cons x t (y ∷ ys) there)
inserted t x y ys more Equal behind there = inr there
inserted t x y ys more Greater behind there =
    ⊎_elim
    (λ (e : y ≡ x). inr (subst (λ v. v ∈ (y ∷ ys)) e (∈-head y ys)))
    (λ (h : x ∈ more). ⊎_elim (λ (e : x ≡ t). inl e) (λ (k : x ∈ ys). inr (∈-behind y ys x k)) (behind h))
    (∈-cons x y more there)

-- what stands in turns with one more is the one more, or stood there
pub in_inserted : (t x : Turn) (turns : List Turn) → x ∈ insert_key turn_cmp turns t → (x ≡ t) ⊎ (x ∈ turns)
in_inserted t x [] there =
    ⊎_elim (λ (e : t ≡ x). inl (sym e)) (λ (h : x ∈ []). absurd (none_in_nil x h)) (∈-cons x t [] there)
in_inserted t x (y ∷ ys) there =
    inserted t x y ys (insert_key turn_cmp ys t) (turn_cmp t y) (in_inserted t x ys) there

inserts : (t x y : Turn) (ys more : List Turn) (o : Ordering) → (o ≡ Equal → ⊥) → ((x ≡ t) ⊎ (x ∈ ys) → x ∈ more) → (x ≡ t) ⊎ (x ∈ (y ∷ ys)) → x ∈ match_ordering o (t ∷ y ∷ ys) (y ∷ ys) (y ∷ more)
inserts t x y ys more Less differ behind which =
    ⊎_elim (λ (e : x ≡ t). subst (λ v. v ∈ (t ∷ y ∷ ys)) (sym e) (∈-head t (y ∷ ys))) (λ (h : x ∈ (y ∷ ys)). ∈-behind t (y ∷ ys) x h) which
inserts t x y ys more Equal differ behind which = absurd (differ refl)
inserts t x y ys more Greater differ behind which =
    ⊎_elim
    (λ (e : x ≡ t). ∈-behind y more x (behind (inl e)))
    (λ (h : x ∈ (y ∷ ys)).
    ⊎_elim
    (λ (e : y ≡ x). subst (λ v. v ∈ (y ∷ more)) e (∈-head y more))
    (λ (k : x ∈ ys). ∈-behind y more x (behind (inr k)))
    (∈-cons x y ys h))
    which

-- and both stand there, where the one more has a greater stamp than all
pub inserted_in : (t x : Turn) (turns : List Turn) → ((y : Turn) → y ∈ turns → y.stamp.0 < t.stamp.0) → (x ≡ t) ⊎ (x ∈ turns) → x ∈ insert_key turn_cmp turns t
inserted_in t x [] less which =
    ⊎_elim (λ (e : x ≡ t). subst (λ v. v ∈ (t ∷ [])) (sym e) (∈-head t [])) (λ (h : x ∈ []). absurd (none_in_nil x h)) which
inserted_in t x (y ∷ ys) less which =
    inserts t x y ys (insert_key turn_cmp ys t) (turn_cmp t y) (λ equal. not_equal t y equal (less y (∈-head y ys)))
    (inserted_in t x ys (λ z there. less z (∈-behind y ys z there))) which

-- ---- in the serial order
pub ascends_from_sorted : (turns : List Turn) → IsStrictlySortedBy turn_cmp turns → ((s t : Turn) → s ∈ turns → t ∈ turns → s.stamp.0 ≡ t.stamp.0 → s ≡ t) → Ascends rank_of_turn turns
ascends_from_sorted [] sorted apart = tt
ascends_from_sorted (x ∷ xs) sorted apart = (
  (λ y there.
      let within = slice_get_within xs there.0 y there.1 in
      let less : turn_cmp x (get_or xs there.0 x) ≡ Less = Less-from_sorted turn_cmp (x ∷ xs) zero (suc there.0) x sorted (omega arith) (omega (arith, within)) in
      let at : get_or xs there.0 x ≡ y = get_or_from_slice_get xs there.0 y x there.1 in
      let before : turn_cmp x y ≡ Less = subst (λ v. turn_cmp x v ≡ Less) at less in
      before_from_less x y before (λ same.
      let one : x ≡ y = apart x y (∈-head x xs) (∈-behind x xs y there) same in
      never_less x y one before)),
  ascends_from_sorted xs (sorted_tail turn_cmp x xs sorted) (λ s t at_s at_t. apart s t (∈-behind x xs s at_s) (∈-behind x xs t at_t)),
)
  where
    self_less : (x : Turn) → turn_cmp x x ≡ Less → ⊥
    self_less x less = grind (arith, nat_tests)

    never_less : (x y : Turn) → x ≡ y → turn_cmp x y ≡ Less → ⊥
    never_less x y one less = let e : turn_cmp x x ≡ Less = subst (λ v. turn_cmp x v ≡ Less) (sym one) less in self_less x e

module _ (bound : ℕ) where
  abbrev pub is_below : Turn → Bool
  is_below t = nat_lt t.succ bound

  abbrev pub due : List Turn → List Turn
  due turns = take_while is_below turns

  abbrev pub left : List Turn → List Turn
  left turns = drop (length (due turns)) turns

  due-true : (x : Turn) (xs : List Turn) → is_below x ≡ true → due (x ∷ xs) ≡ x ∷ due xs
  due-true x xs low = take_while-cons is_below x xs ∙ ap (λ b. cond b (x ∷ due xs) []) low

  due-false : (x : Turn) (xs : List Turn) → is_below x ≡ false → due (x ∷ xs) ≡ []
  due-false x xs high = take_while-cons is_below x xs ∙ ap (λ b. cond b (x ∷ due xs) []) high

  either : (b : Bool) → (b ≡ true) ⊎ (b ≡ false)
  either true = inl refl
  either false = inr refl

  not_below : (x : Turn) → is_below x ≡ false → bound ≤ x.succ
  not_below x high = grind (arith, nat_tests)

  -- the turns due are turns below the bound
  pub in_due : (x : Turn) (turns : List Turn) → x ∈ due turns → (x ∈ turns) × (x.succ < bound)
  in_due x [] there = absurd (none_in_nil x there)
  in_due x (y ∷ ys) there =
      ⊎_elim
      (λ (low : is_below y ≡ true).
      let in_both : x ∈ (y ∷ due ys) = subst (λ l. x ∈ l) (due-true y ys low) there in
      ⊎_elim
      (λ (e : y ≡ x). (subst (λ v. v ∈ (y ∷ ys)) e (∈-head y ys), subst (λ (v : Turn). v.succ < bound) e (ltb-true y.succ bound low)))
      (λ (h : x ∈ due ys). let found = in_due x ys h in (∈-behind y ys x found.0, found.1))
      (∈-cons x y (due ys) in_both))
      (λ (high : is_below y ≡ false). absurd (none_in_nil x (subst (λ l. x ∈ l) (due-false y ys high) there)))
      (either (is_below y))

  behind_high : (x y : Turn) (ys : List Turn) → Ascends rank_of_turn (y ∷ ys) → bound ≤ y.succ → x ∈ (y ∷ ys) → bound ≤ x.succ
  behind_high x y ys ascends high there =
      ⊎_elim
      (λ (e : y ≡ x). subst (λ (v : Turn). bound ≤ v.succ) e high)
      (λ (h : x ∈ ys). upto y x (ascends.0 x h) high)
      (∈-cons x y ys there)
    where
      upto : (y x : Turn) → ComesBefore (rank_of_turn y) (rank_of_turn x) → bound ≤ y.succ → bound ≤ x.succ
      upto y x before high = grind arith

  -- each turn below the bound is due
  pub due_in : (x : Turn) (turns : List Turn) → Ascends rank_of_turn turns → x ∈ turns → x.succ < bound → x ∈ due turns
  due_in x [] ascends there low = absurd (none_in_nil x there)
  due_in x (y ∷ ys) ascends there low =
      ⊎_elim
      (λ (under : is_below y ≡ true).
      subst (λ l. x ∈ l) (sym (due-true y ys under))
      (⊎_elim
      (λ (e : y ≡ x). subst (λ v. v ∈ (y ∷ due ys)) e (∈-head y (due ys)))
      (λ (h : x ∈ ys). ∈-behind y (due ys) x (due_in x ys ascends.1 h low))
      (∈-cons x y ys there)))
      (λ (high : is_below y ≡ false). absurd (omega (arith, low, behind_high x y ys ascends (not_below y high) there)))
      (either (is_below y))

  -- the others are left
  pub in_left : (x : Turn) (turns : List Turn) → Ascends rank_of_turn turns → x ∈ left turns → (x ∈ turns) × (bound ≤ x.succ)
  in_left x [] ascends there = absurd (none_in_nil x there)
  in_left x (y ∷ ys) ascends there =
      ⊎_elim
      (λ (low : is_below y ≡ true).
      let behind : x ∈ left ys = subst (λ l. x ∈ drop (length l) (y ∷ ys)) (due-true y ys low) there in
      let found = in_left x ys ascends.1 behind in
      (∈-behind y ys x found.0, found.1))
      (λ (high : is_below y ≡ false).
      let whole : x ∈ (y ∷ ys) = subst (λ l. x ∈ drop (length l) (y ∷ ys)) (due-false y ys high) there in
      (whole, behind_high x y ys ascends (not_below y high) whole))
      (either (is_below y))

  pub left_in : (x : Turn) (turns : List Turn) → x ∈ turns → bound ≤ x.succ → x ∈ left turns
  left_in x [] there high = absurd (none_in_nil x there)
  left_in x (y ∷ ys) there high =
      ⊎_elim
      (λ (low : is_below y ≡ true).
      subst (λ l. x ∈ drop (length l) (y ∷ ys)) (sym (due-true y ys low))
      (⊎_elim
      (λ (e : y ≡ x). let less : x.succ < bound = subst (λ (v : Turn). v.succ < bound) e (ltb-true y.succ bound low) in absurd (omega (arith, less, high)))
      (λ (h : x ∈ ys). left_in x ys h high)
      (∈-cons x y ys there)))
      (λ (above : is_below y ≡ false).
      subst (λ l. x ∈ drop (length l) (y ∷ ys)) (sym (due-false y ys above)) there)
      (either (is_below y))

  pub ascends_due : (turns : List Turn) → Ascends rank_of_turn turns → Ascends rank_of_turn (due turns)
  ascends_due [] ascends = tt
  ascends_due (y ∷ ys) ascends =
      ⊎_elim
      (λ (low : is_below y ≡ true).
      subst (λ l. Ascends rank_of_turn l) (sym (due-true y ys low)) ((λ x there. ascends.0 x (in_due x ys there).0), ascends_due ys ascends.1))
      (λ (high : is_below y ≡ false). subst (λ l. Ascends rank_of_turn l) (sym (due-false y ys high)) tt)
      (either (is_below y))

-- commits ascend where their turns do
pub ascends_commits : (turns : List Turn) → Ascends rank_of_turn turns → Ascends rank_of_commit (commits_of_turns turns)
ascends_commits [] ascends = tt
ascends_commits (t ∷ turns) ascends = (
  (λ c there.
      let found = ∈-map commit_of turns c there in
      subst (λ v. ComesBefore (rank_of_turn t) (rank_of_commit v)) found.2 (ascends.0 found.0 found.1)),
  ascends_commits turns ascends.1,
)
