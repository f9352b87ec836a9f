-- An operation has one reply on a database map.
use Rattle.std.proofs.Common.{zero, suc, ◌≡◌, ℕ, ◌<◌, ◌≤◌, ◌^◌, ◌⊎◌, get_or, inl, inr, List, [], ◌∷◌, Option, Some, None, refl, sym, ap, ◌∙◌, subst, ⊎_elim, arith}
use Rattle.std.specs.List.{All, AllPairs}
use Rattle.std.proofs.lemmas.Bool.{cases_lt}
use Rattle.std.proofs.lemmas.Option.{get_or_from_slice_get, slice_get_within}
use Rattle.erm_model.specs.declared.operation.Op.{Op}
use Rattle.erm_model.specs.declared.operation.Op.TheVariants.{Get, Put, Del, Next, Scan, Save, Back}
use Rattle.erm_model.specs.declared.operation.Reply.{Reply}
use Rattle.erm_model.specs.declared.operation.Reply.TheVariants as reply
use Rattle.erm_model.specs.Database.{Database, value_at, AreFound, IsNextAt}
use Rattle.erm_model.specs.Member.{◌∈◌}
use Rattle.erm_model.specs.Run.{Saving, Step, after, after_all, begins, IsReplyOn, RunsFrom, RunsAll, ops_of, RepliesAreDetermined}
use Rattle.erm_model.proofs.Members.{none_in_nil, ∈-behind}

-- of two next keys, neither is below the other
not_below : (m : Database) (table from : ℕ) (f g : ℕ × List ℕ) → IsNextAt m table from (Some f) → IsNextAt m table from (Some g) → g.0 ≤ f.0
not_below m table from f g a b = ⊎_elim (λ less.
    let none : value_at m table f.0 ≡ None = b.3 f.0 a.0 less in
    let some : value_at m table f.0 ≡ Some f.1 = a.2 in
    let apart : ⊥ = cc in
    absurd apart) (λ le. le) (cases_lt f.0 g.0)

-- the next key is the only one
pub IsNextAt-unique : (m : Database) (table from : ℕ) (x y : Option (ℕ × List ℕ)) → IsNextAt m table from x → IsNextAt m table from y → x ≡ y
IsNextAt-unique m table from None None a b = refl
IsNextAt-unique m table from None (Some g) a b = let none = a g.0 b.0 b.1 in let some = b.2 in cc
IsNextAt-unique m table from (Some f) None a b = let none = b f.0 a.0 a.1 in let some = a.2 in cc
IsNextAt-unique m table from (Some f) (Some g) a b =
    let same : f.0 ≡ g.0 = omega (arith, not_below m table from f g a b, not_below m table from g f b a) in
    let value : f.1 ≡ g.1 = (let first = a.2 in let second = b.2 in cc) in
    ap Some (λ i. (same i, value i))

-- a pair of a list has what all have
all_at : {X : Type 0} (P : X → Type 0) (xs : List X) (x : X) → All P xs → x ∈ xs → P x
all_at P xs x all (k, at) = subst P (get_or_from_slice_get xs k x x at) (all k x (slice_get_within xs k x at))

-- in an ascending list each one behind the first is greater
behind : (x : ℕ × List ℕ) (xs : List (ℕ × List ℕ)) (z : ℕ × List ℕ) → AllPairs (λ a b. a.0 < b.0) (x ∷ xs) → z ∈ xs → x.0 < z.0
behind x xs z ascend (k, at) =
    let less : x.0 < (get_or xs k x).0 = ascend zero (suc k) x (omega arith) (omega (arith, slice_get_within xs k z at)) in
    subst (λ (p : ℕ × List ℕ). x.0 < p.0) (get_or_from_slice_get xs k z x at) less

tail_ascends : (x : ℕ × List ℕ) (xs : List (ℕ × List ℕ)) → AllPairs (λ a b. a.0 < b.0) (x ∷ xs) → AllPairs (λ a b. a.0 < b.0) xs
tail_ascends x xs ascend = λ i j d less inside. ascend (suc i) (suc j) d (omega arith) (omega arith)

first_or_behind : {X : Type 0} (x : X) (xs : List X) (z : X) → z ∈ (x ∷ xs) → (z ≡ x) ⊎ (z ∈ xs)
first_or_behind x xs z (zero, at) = inl (cc)
first_or_behind x xs z (suc k, at) = inr (k, at)

-- one that stands in both lists, and is not the first of the one, stands behind the first of the other
kept_behind : (x : ℕ × List ℕ) (xs ys : List (ℕ × List ℕ)) → AllPairs (λ a b. a.0 < b.0) (x ∷ xs) → ((z : ℕ × List ℕ) → z ∈ (x ∷ xs) → z ∈ (x ∷ ys)) → (z : ℕ × List ℕ) → z ∈ xs → z ∈ ys
kept_behind x xs ys ascend into z m = elim (first_or_behind x ys z (into z (∈-behind x xs z m))) [
  | inl same ↦ absurd (omega (arith, behind x xs z ascend m, ap (λ (p : ℕ × List ℕ). p.0) same))
  | inr there ↦ there
]

-- ascending lists with the same pairs are one
same_pairs : (xs ys : List (ℕ × List ℕ)) → AllPairs (λ a b. a.0 < b.0) xs → AllPairs (λ a b. a.0 < b.0) ys → ((z : ℕ × List ℕ) → z ∈ xs → z ∈ ys) → ((z : ℕ × List ℕ) → z ∈ ys → z ∈ xs) → xs ≡ ys
same_pairs [] [] a b into from = refl
same_pairs [] (y ∷ ys) a b into from = absurd (none_in_nil y (from y (0, refl)))
same_pairs (x ∷ xs) [] a b into from = absurd (none_in_nil x (into x (0, refl)))
same_pairs (x ∷ xs) (y ∷ ys) a b into from =
    let first : x ≡ y = elim (first_or_behind y ys x (into x (0, refl))) [
      | inl same ↦ same
      | inr later ↦ elim (first_or_behind x xs y (from y (0, refl))) [
        | inl same ↦ sym same
        | inr after ↦ absurd (omega (arith, behind y ys x b later, behind x xs y a after))
      ]
    ] in
    let rest : xs ≡ ys = same_pairs xs ys (tail_ascends x xs a) (tail_ascends y ys b)
    (kept_behind x xs ys a (λ z m. subst (λ (p : ℕ × List ℕ). z ∈ (p ∷ ys)) (sym first) (into z m)))
    (kept_behind y ys xs b (λ z m. subst (λ (p : ℕ × List ℕ). z ∈ (p ∷ xs)) first (from z m))) in
    λ i. first i ∷ rest i

abbrev IsFound : Database → ℕ → ℕ → ℕ → ℕ × List ℕ → Type 0
IsFound m table low high pair = (low ≤ pair.0) × (pair.0 ≤ high) × (pair.0 < 2 ^ 64) × (value_at m table pair.0 ≡ Some pair.1)

-- what a scan finds is one list
pub AreFound-unique : (m : Database) (table low high : ℕ) (xs ys : List (ℕ × List ℕ)) → AreFound m table low high xs → AreFound m table low high ys → xs ≡ ys
AreFound-unique m table low high xs ys a b = same_pairs xs ys a.ascend b.ascend
    (λ z found. let is = all_at (IsFound m table low high) xs z a.within found in b.all z.0 z.1 is.0 is.1 is.2 is.3)
    (λ z found. let is = all_at (IsFound m table low high) ys z b.within found in a.all z.0 z.1 is.0 is.1 is.2 is.3)

-- the reply is the only one
pub IsReplyOn-unique : (m : Database) (op : Op) (r s : Reply) → IsReplyOn m op r → IsReplyOn m op s → r ≡ s
IsReplyOn-unique m (Get table key) r s a b = a ∙ sym b
IsReplyOn-unique m (Put table key value) r s a b = a ∙ sym b
IsReplyOn-unique m (Del table key) r s a b = a ∙ sym b
IsReplyOn-unique m (Next table from) r s a b = a.1 ∙ ap reply.Pair (IsNextAt-unique m table from a.0 b.0 a.2 b.2) ∙ sym b.1
IsReplyOn-unique m (Scan table low high) r s a b = a.1 ∙ ap reply.Found (AreFound-unique m table low high a.0 b.0 a.2 b.2) ∙ sym b.1
IsReplyOn-unique m Save r s a b = a ∙ sym b
IsReplyOn-unique m (Back n) r s a b = a ∙ sym b

-- steps from one state that do the same operations are answered the same
pub RunsFrom-unique : (s : Saving Database) (xs ys : List Step) → ops_of xs ≡ ops_of ys → RunsFrom s xs → RunsFrom s ys → xs ≡ ys
RunsFrom-unique s [] [] same a b = refl
RunsFrom-unique s [] (y ∷ ys) same a b = cc
RunsFrom-unique s (x ∷ xs) [] same a b = cc
RunsFrom-unique s (x ∷ xs) (y ∷ ys) same a b =
    let op : x.op ≡ y.op = cc in
    let rest : ops_of xs ≡ ops_of ys = cc in
    let told : IsReplyOn s.now y.op x.reply = subst (λ (o : Op). IsReplyOn s.now o x.reply) op a.0 in
    let reply = IsReplyOn-unique s.now y.op x.reply y.reply told b.0 in
    let later : RunsFrom (after y.op s) xs = subst (λ (o : Op). RunsFrom (after o s) xs) op a.1 in
    let tail = RunsFrom-unique (after y.op s) xs ys rest later b.1 in
    λ i. record { op = op i; reply = reply i } ∷ tail i

pub replies_determined : RepliesAreDetermined
replies_determined m xs ys same a b = RunsFrom-unique (begins m) xs ys same a b

-- transactions one after another end at one database map
pub RunsAll-unique : (m n k : Database) (transactions : List (List Step)) → RunsAll m transactions n → RunsAll m transactions k → n ≡ k
RunsAll-unique m n k [] a b = a ∙ sym b
RunsAll-unique m n k (steps ∷ transactions) a b = RunsAll-unique (after_all (ops_of steps) m) n k transactions a.1 b.1
