-- Replays of transactions, one transaction at a time.
use Rattle.std.proofs.Common.{◌≡◌, ℕ, zero, suc, ◌+◌, ◌<◌, get_or, slice_index_or, take, List, [], ◌∷◌, ◌++◌, length, Vec, refl, sym, ap, ◌∙◌, subst, arith}
use Rattle.std.specs.declared.alloc.Global.{Global}
use Rattle.std.proofs.lemmas.List.{map-append, take-map, take_more}
use Rattle.std.proofs.Math.Seq.{take-length}
use Rattle.erm_model.specs.declared.operation.Op.{Op}
use Rattle.erm_model.specs.declared.operation.Reply.{Reply}
use Rattle.erm_model.specs.Database.{Database}
use Rattle.erm_model.specs.Run.{after_all, RunsOne, RunsAll, ops_of, steps_of}
use Rattle.erm_model.proofs.InTurn.{in_turn-append}
use Rattle.erm_model.proofs.Runs.{RunsAll-push, ops_of-steps_of}
use Rattle.erm_audit.specs.Replay.{lists_of, AnswersEach, IsDoneInPart, after_each, steps_of_each}

-- one more vector is one more list
lists_of-push : {X : Type 0} (vs : List (Vec X Global)) (v : Vec X Global) → lists_of (vs ++ v ∷ []) ≡ lists_of vs ++ v.items ∷ []
lists_of-push vs v = map-append (λ v. v.items) vs (v ∷ [])

-- one more transaction with its replies
AnswersEach-push : (transactions : List (List Op)) (replies : List (List Reply)) (ops : List Op) (r : List Reply) → AnswersEach transactions replies → length r ≡ length ops → AnswersEach (transactions ++ ops ∷ []) (replies ++ r ∷ [])
AnswersEach-push transactions replies ops r same count =
    let left = map-append length replies (r ∷ []) in
    let right = map-append length transactions (ops ∷ []) in
    cc

steps_of_each-push : (transactions : List (List Op)) (replies : List (List Reply)) (ops : List Op) (r : List Reply) → AnswersEach transactions replies → steps_of_each (transactions ++ ops ∷ []) (replies ++ r ∷ []) ≡ steps_of_each transactions replies ++ steps_of ops r ∷ []
steps_of_each-push [] [] ops r same = refl
steps_of_each-push [] (s ∷ replies) ops r same = cc
steps_of_each-push (os ∷ transactions) [] ops r same = cc
steps_of_each-push (os ∷ transactions) (s ∷ replies) ops r same =
    let rest : AnswersEach transactions replies = cc in
    ap (λ more. steps_of os s ∷ more) (steps_of_each-push transactions replies ops r rest)

-- one transaction more
after_each-push : (transactions : List (List Op)) (ops : List Op) (m : Database) → after_each (transactions ++ ops ∷ []) m ≡ after_all ops (after_each transactions m)
after_each-push transactions ops m = in_turn-append after_all transactions (ops ∷ []) m

lists_of-take : {X : Type 0} (n : ℕ) (vs : List (Vec X Global)) → lists_of (take n vs) ≡ take n (lists_of vs)
lists_of-take n vs = sym (take-map (λ v. v.items) n vs)

-- the operations of one transaction
ops_at : (vs : List (Vec Op Global)) (i : ℕ) (v : Vec Op Global) → i < length vs → v ≡ get_or vs i v → slice_index_or (lists_of vs) i [] ≡ v.items
ops_at [] i v within is = absurd (omega arith)
ops_at (w ∷ vs) zero v within is = ap (λ (x : Vec Op Global). x.items) (sym is)
ops_at (w ∷ vs) (suc i) v within is = ops_at vs i v (omega arith) is

-- nothing is done
pub none_done : (m : Database) (transactions : List (List Op)) → IsDoneInPart transactions m m
none_done m transactions = record { whole = 0; count = 0; after = refl }

-- after some of the operations of one transaction, those before it done
pub some_done : (m k n : Database) (vs : List (Vec Op Global)) (i : ℕ) (v : Vec Op Global) → i < length vs → v ≡ get_or vs i v → k ≡ after_each (lists_of (take i vs)) m → (count : ℕ) → n ≡ after_all (take count v.items) k → IsDoneInPart (lists_of vs) m n
some_done m k n vs i v within is before count now = record {
  whole = i;
  count = count;
  after =
      now
      ∙ ap (λ (ops : List Op). after_all (take count ops) k) (sym (ops_at vs i v within is))
      ∙ ap (after_all (take count (slice_index_or (lists_of vs) i []))) (before ∙ ap (λ (done : List (List Op)). after_each done m) (lists_of-take i vs));
}

-- after all operations of one transaction
pub one_done : (m k n : Database) (vs : List (Vec Op Global)) (i : ℕ) (v : Vec Op Global) → i < length vs → v ≡ get_or vs i v → k ≡ after_each (lists_of (take i vs)) m → n ≡ after_all v.items k → IsDoneInPart (lists_of vs) m n
one_done m k n vs i v within is before now =
    some_done m k n vs i v within is before (length v.items) (now ∙ ap (λ ops. after_all ops k) (sym (take-length v.items)))

-- transactions run, with their replies
pub record HasReplayed (m : Database) (transactions : List (List Op)) (replies : List (List Reply)) (n : Database) : Type 0 where
  pub answers : AnswersEach transactions replies
  pub run : RunsAll m (steps_of_each transactions replies) n
  pub after : n ≡ after_each transactions m

-- one more transaction
HasReplayed-push : (m k n : Database) (transactions : List (List Op)) (replies : List (List Reply)) (ops : List Op) (r : List Reply) → HasReplayed m transactions replies k → length r ≡ length ops → RunsOne k (steps_of ops r) → n ≡ after_all ops k → HasReplayed m (transactions ++ ops ∷ []) (replies ++ r ∷ []) n
HasReplayed-push m k n transactions replies ops r before count run now =
    let left : after_all (ops_of (steps_of ops r)) k ≡ n = ap (λ done. after_all done k) (ops_of-steps_of ops r count) ∙ sym now in
    let more : RunsAll m (steps_of_each transactions replies ++ steps_of ops r ∷ []) n =
    subst (λ d. RunsAll m (steps_of_each transactions replies ++ steps_of ops r ∷ []) d) left
    (RunsAll-push m k (steps_of_each transactions replies) (steps_of ops r) before.run run)
    in
    record {
      answers = AnswersEach-push transactions replies ops r before.answers count;
      run = subst (λ all. RunsAll m all n) (sym (steps_of_each-push transactions replies ops r before.answers)) more;
      after = now ∙ ap (after_all ops) before.after ∙ sym (after_each-push transactions ops m);
    }

pub HasReplayed-take_more : (m k n : Database) (vs : List (Vec Op Global)) (rs : List (Vec Reply Global)) (i : ℕ) (v : Vec Op Global) (r : Vec Reply Global) → i < length vs → v ≡ get_or vs i v → HasReplayed m (lists_of (take i vs)) (lists_of rs) k → length r.items ≡ length v.items → RunsOne k (steps_of v.items r.items) → n ≡ after_all v.items k → HasReplayed m (lists_of (take (i + 1) vs)) (lists_of (rs ++ r ∷ [])) n
HasReplayed-take_more m k n vs rs i v r within is before count run now =
    let done : lists_of (take (i + 1) vs) ≡ lists_of (take i vs) ++ v.items ∷ [] =
    ap lists_of (take_more vs i v within ∙ ap (λ x. take i vs ++ x ∷ []) (sym is)) ∙ lists_of-push (take i vs) v
    in
    subst (λ all. HasReplayed m all (lists_of (rs ++ r ∷ [])) n) (sym done)
    (subst (λ all. HasReplayed m (lists_of (take i vs) ++ v.items ∷ []) all n) (sym (lists_of-push rs r))
    (HasReplayed-push m k n (lists_of (take i vs)) (lists_of rs) v.items r.items before count run now))
