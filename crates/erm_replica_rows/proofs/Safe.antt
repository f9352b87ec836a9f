-- The greatest safe stamp that parts name.
use Rattle.std.proofs.Common.{◌≡◌, ℕ, zero, suc, ◌≤◌, ◌⊎◌, List, [], ◌∷◌, ◌++◌, Option, None, Some, refl, sym, ap, ◌∙◌, arith, inl, inr}
use Rattle.std.specs.List.{slice_get}
use Rattle.erm_model.specs.Member.{◌∈◌}
use Rattle.erm_model.proofs.Members.{none_in_nil, ∈-push}
use Rattle.erm_block.specs.declared.block.Block.{Block}
use Rattle.erm_ckpt.specs.Checkpoint.{Checkpoint}
use Rattle.erm_replica.specs.Stream.{Part}
use Rattle.erm_replica.specs.Stream.Part.{base, block}
use Rattle.erm_replica_rows.specs.Moving.{IsAbove, IsPassed}
use Rattle.erm_replica_rows.specs.Replica.{IsSafeOf, Names, safe_in}

at_left : {X : Type 0} (xs ys : List X) (x : X) (k : ℕ) → slice_get xs k ≡ Some x → x ∈ (xs ++ ys)
at_left [] ys x k e = absurd (cc)
at_left (z ∷ xs) ys x zero e = (zero, e)
at_left (z ∷ xs) ys x (suc k) e = let later = at_left xs ys x k e in (suc later.0, later.1)

pub in_front : {X : Type 0} (xs ys : List X) (x : X) → x ∈ xs → x ∈ (xs ++ ys)
in_front xs ys x m = at_left xs ys x m.0 m.1

pub in_last : {X : Type 0} (xs : List X) (x : X) → x ∈ (xs ++ x ∷ [])
in_last [] x = (zero, refl)
in_last (z ∷ xs) x = let later = in_last xs x in (suc later.0, later.1)

-- ---- with one part more

-- a block that is read brings no checkpoint
old_base : (parts : List Part) (b : Block) (c : Checkpoint) → base c ∈ (parts ++ block b ∷ []) → base c ∈ parts
old_base parts b c m = elim (∈-push parts (block b) (base c) m) [ inl before ↦ before | inr same ↦ absurd (cc) ]

names_more : (parts : List Part) (b : Block) (stamp : ℕ) → Names parts stamp → Names (parts ++ block b ∷ []) stamp
names_more parts b stamp names = record {
  part = names.part;
  there = in_front parts (block b ∷ []) names.part names.there;
  named = names.named;
  above = λ c m. names.above c (old_base parts b c m);
}

-- what is named then was named before, or by the block
names_before : (parts : List Part) (b : Block) (stamp : ℕ) → Names (parts ++ block b ∷ []) stamp → Names parts stamp ⊎ (safe_in (block b) ≡ Some stamp)
names_before parts b stamp names = elim (∈-push parts (block b) names.part names.there) [
  | inl before ↦ inl (record {
    part = names.part;
    there = before;
    named = names.named;
    above = λ c m. names.above c (in_front parts (block b ∷ []) (base c) m);
  })
  | inr same ↦ inr (sym (ap safe_in same) ∙ names.named)
]

same_stamp : (x y : ℕ) (o : Option ℕ) → o ≡ Some x → o ≡ Some y → x ≡ y
same_stamp x y o p q = cc

not_named : (x : ℕ) (o : Option ℕ) → o ≡ None → o ≡ Some x → ⊥
not_named x o p q = cc

pub safe_base : (c : Checkpoint) (safe : Option ℕ) → IsSafeOf [] safe → IsSafeOf (base c ∷ []) safe
safe_base c None is = λ stamp names. elim (∈-push [] (base c) names.part names.there) [
  | inl before ↦ none_in_nil names.part before
  | inr same ↦ not_named stamp None refl (ap safe_in (sym same) ∙ names.named)
]
safe_base c (Some safe) is = absurd (none_in_nil is.0.part is.0.there)

-- a block that names none, or one that is left out
pub safe_stays : (parts : List Part) (b : Block) (safe : Option ℕ) → IsSafeOf parts safe
    → ((stamp : ℕ) → safe_in (block b) ≡ Some stamp → Names (parts ++ block b ∷ []) stamp → IsPassed safe stamp)
    → IsSafeOf (parts ++ block b ∷ []) safe
safe_stays parts b None is passed = λ stamp names. elim (names_before parts b stamp names) [
  | inl before ↦ is stamp before
  | inr named ↦ passed stamp named names
]
safe_stays parts b (Some safe) is passed = (
  names_more parts b safe is.0,
  λ stamp names. elim (names_before parts b stamp names) [
    | inl before ↦ is.1 stamp before
    | inr named ↦ passed stamp named names
  ],
)

below_all : (parts : List Part) (safe : Option ℕ) (stamp low : ℕ) → IsSafeOf parts safe → IsAbove safe stamp → Names parts low → low ≤ stamp
below_all parts None stamp low is above names = absurd (is low names)
below_all parts (Some safe) stamp low is above names = omega (arith, is.1 low names, above)

pub safe_rises : (parts : List Part) (b : Block) (safe : Option ℕ) (stamp : ℕ) → IsSafeOf parts safe → IsAbove safe stamp → safe_in (block b) ≡ Some stamp
    → ((c : Checkpoint) → base c ∈ parts → c.slot.stamp ≤ stamp) → IsSafeOf (parts ++ block b ∷ []) (Some stamp)
safe_rises parts b safe stamp is above named from = (
  record {
    part = block b;
    there = in_last parts (block b);
    named = named;
    above = λ c m. from c (old_base parts b c m);
  },
  λ low names. elim (names_before parts b low names) [
    | inl before ↦ below_all parts safe stamp low is above before
    | inr same ↦ omega (arith, same_stamp low stamp (safe_in (block b)) same named)
  ],
)

-- ---- there is one

pub one_safe : (parts : List Part) (a b : Option ℕ) → IsSafeOf parts a → IsSafeOf parts b → a ≡ b
one_safe parts None None p q = refl
one_safe parts None (Some b) p q = absurd (p b q.0)
one_safe parts (Some a) None p q = absurd (q a p.0)
one_safe parts (Some a) (Some b) p q = let same : a ≡ b = omega (arith, q.1 a p.0, p.1 b q.0) in ap (λ (x : ℕ). Some x) same

-- ---- the checkpoint

pub base_more : (parts : List Part) (b : Block) (at : ℕ) → ((c : Checkpoint) → base c ∈ parts → at ≡ c.slot.stamp) → (c : Checkpoint) → base c ∈ (parts ++ block b ∷ []) → at ≡ c.slot.stamp
base_more parts b at is c m = is c (old_base parts b c m)

pub base_first : (d : Checkpoint) (at : ℕ) → at ≡ d.slot.stamp → (c : Checkpoint) → base c ∈ (base d ∷ []) → at ≡ c.slot.stamp
base_first d at is c m = elim (∈-push [] (base d) (base c) m) [
  | inl before ↦ absurd (none_in_nil (base c) before)
  | inr same ↦ let e : c ≡ d = cc in is ∙ ap (λ (x : Checkpoint). x.slot.stamp) (sym e)
]
