-- Runs joined end to end.
use Rattle.std.proofs.Common.{◌≡◌, ℕ, ◌+◌, ◌<◌, get_or, take, List, [], ◌∷◌, ◌++◌, length, refl, sym, ap, ◌∙◌, subst, arith}
use Rattle.std.proofs.lemmas.List.{map-append, length-take-le}
use Rattle.erm_model.specs.declared.operation.Op.{Op}
use Rattle.erm_model.specs.declared.operation.Reply.{Reply}
use Rattle.erm_model.specs.Database.{Database}
use Rattle.erm_model.specs.Run.{Saving, Step, after, after_all, after_from, begins, IsReply, RunsFrom, RunsOne, RunsAll, ops_of, steps_of}
use Rattle.erm_model.proofs.InTurn.{front_more, in_turn-append, in_turn-take_more}

-- operations after others act on what those left
pub after_from-append : (xs ys : List Op) (s : Saving Database) → after_from (xs ++ ys) s ≡ after_from ys (after_from xs s)
after_from-append xs ys s = in_turn-append after xs ys s

-- one more operation
pub after_from-push : (ops : List Op) (op : Op) (s : Saving Database) → after_from (ops ++ op ∷ []) s ≡ after op (after_from ops s)
after_from-push ops op s = after_from-append ops (op ∷ []) s

-- the operations of steps joined are theirs joined
pub ops_of-append : (xs ys : List Step) → ops_of (xs ++ ys) ≡ ops_of xs ++ ops_of ys
ops_of-append xs ys = map-append (λ step. step.op) xs ys

-- what steps joined leave
pub after_from-ops_of-append : (xs ys : List Step) (s : Saving Database) → after_from (ops_of (xs ++ ys)) s ≡ after_from (ops_of ys) (after_from (ops_of xs) s)
after_from-ops_of-append xs ys s = ap (λ ops. after_from ops s) (ops_of-append xs ys) ∙ after_from-append (ops_of xs) (ops_of ys) s

-- what one more step leaves
pub after_from-ops_of-push : (steps : List Step) (step : Step) (s : Saving Database) → after_from (ops_of (steps ++ step ∷ [])) s ≡ after step.op (after_from (ops_of steps) s)
after_from-ops_of-push steps step s = after_from-ops_of-append steps (step ∷ []) s

-- steps go on where those before them end
pub RunsFrom-append : (s : Saving Database) (xs ys : List Step) → RunsFrom s xs → RunsFrom (after_from (ops_of xs) s) ys → RunsFrom s (xs ++ ys)
RunsFrom-append s [] ys first then = then
RunsFrom-append s (x ∷ xs) ys first then = (first.0, RunsFrom-append (after x.op s) xs ys first.1 then)

-- one more step
pub RunsFrom-push : (s : Saving Database) (steps : List Step) (step : Step) → RunsFrom s steps → IsReply (after_from (ops_of steps) s) step.op step.reply → RunsFrom s (steps ++ step ∷ [])
RunsFrom-push s steps step first told = RunsFrom-append s steps (step ∷ []) first (told, tt)

-- one more step of a transaction
pub RunsOne-push : (m : Database) (steps : List Step) (step : Step) → RunsOne m steps → IsReply (after_from (ops_of steps) (begins m)) step.op step.reply → RunsOne m (steps ++ step ∷ [])
RunsOne-push m steps step first told = RunsFrom-push (begins m) steps step first told

-- steps joined run as their two parts do
pub RunsFrom-parts : (s : Saving Database) (xs ys : List Step) → RunsFrom s (xs ++ ys) → RunsFrom s xs × RunsFrom (after_from (ops_of xs) s) ys
RunsFrom-parts s [] ys run = (tt, run)
RunsFrom-parts s (x ∷ xs) ys run =
    let parts = RunsFrom-parts (after x.op s) xs ys run.1 in
    ((run.0, parts.0), parts.1)

-- transactions go on where those before them end
pub RunsAll-append : (m k n : Database) (xs ys : List (List Step)) → RunsAll m xs k → RunsAll k ys n → RunsAll m (xs ++ ys) n
RunsAll-append m k n [] ys first then = subst (λ start. RunsAll start ys n) first then
RunsAll-append m k n (x ∷ xs) ys first then = (first.0, RunsAll-append (after_all (ops_of x) m) k n xs ys first.1 then)

-- one more transaction
pub RunsAll-push : (m k : Database) (transactions : List (List Step)) (steps : List Step) → RunsAll m transactions k → RunsOne k steps → RunsAll m (transactions ++ steps ∷ []) (after_all (ops_of steps) k)
RunsAll-push m k transactions steps first run = RunsAll-append m k (after_all (ops_of steps) k) transactions (steps ∷ []) first (run, refl)

-- transactions joined run as their two parts do, by way of a database map between
pub RunsAll-parts : (m n : Database) (xs ys : List (List Step)) → RunsAll m (xs ++ ys) n → (k : Database) × RunsAll m xs k × RunsAll k ys n
RunsAll-parts m n [] ys run = (m, refl, run)
RunsAll-parts m n (x ∷ xs) ys run =
    let parts = RunsAll-parts (after_all (ops_of x) m) n xs ys run.1 in
    (parts.0, (run.0, parts.1), parts.2)

-- operations with as many replies are those of their steps
pub ops_of-steps_of : (ops : List Op) (replies : List Reply) → length replies ≡ length ops → ops_of (steps_of ops replies) ≡ ops
ops_of-steps_of [] replies same = refl
ops_of-steps_of (op ∷ ops) [] same = absurd (omega arith)
ops_of-steps_of (op ∷ ops) (r ∷ replies) same = ap (λ rest. op ∷ rest) (ops_of-steps_of ops replies (omega arith))

-- one more operation with its reply is one more step
pub steps_of-push : (ops : List Op) (op : Op) (replies : List Reply) (reply : Reply) → length replies ≡ length ops → steps_of (ops ++ op ∷ []) (replies ++ reply ∷ []) ≡ steps_of ops replies ++ record { op = op; reply = reply } ∷ []
steps_of-push [] op [] reply same = refl
steps_of-push [] op (r ∷ replies) reply same = absurd (omega arith)
steps_of-push (o ∷ ops) op [] reply same = absurd (omega arith)
steps_of-push (o ∷ ops) op (r ∷ replies) reply same = ap (λ rest. record { op = o; reply = r } ∷ rest) (steps_of-push ops op replies reply (omega arith))

-- one more operation, answered on what those before it leave
pub RunsFrom-steps_of-push : (s : Saving Database) (ops : List Op) (op : Op) (replies : List Reply) (reply : Reply) → length replies ≡ length ops → RunsFrom s (steps_of ops replies) → IsReply (after_from ops s) op reply → RunsFrom s (steps_of (ops ++ op ∷ []) (replies ++ reply ∷ []))
RunsFrom-steps_of-push s ops op replies reply same run told =
    let step : Step = record { op = op; reply = reply } in
    subst (RunsFrom s) (sym (steps_of-push ops op replies reply same))
    (RunsFrom-push s (steps_of ops replies) step run (subst (λ done. IsReply (after_from done s) op reply) (sym (ops_of-steps_of ops replies same)) told))

-- operations up to a place and the one at that place
pub after_from-take_more : (ops : List Op) (i : ℕ) (op : Op) (s : Saving Database) → i < length ops → op ≡ get_or ops i op → after_from (take (i + 1) ops) s ≡ after op (after_from (take i ops) s)
after_from-take_more ops i op s within is = in_turn-take_more after ops i op s within is

-- the same with their replies
pub RunsFrom-take_more : (s : Saving Database) (ops : List Op) (i : ℕ) (op : Op) (replies : List Reply) (reply : Reply) → i < length ops → op ≡ get_or ops i op → length replies ≡ i → RunsFrom s (steps_of (take i ops) replies) → IsReply (after_from (take i ops) s) op reply → RunsFrom s (steps_of (take (i + 1) ops) (replies ++ reply ∷ []))
RunsFrom-take_more s ops i op replies reply within is same run told =
    let count : length replies ≡ length (take i ops) = omega (arith, length-take-le i ops (omega arith)) in
    subst (λ done. RunsFrom s (steps_of done (replies ++ reply ∷ []))) (sym (front_more ops i op within is))
    (RunsFrom-steps_of-push s (take i ops) op replies reply count run told)
