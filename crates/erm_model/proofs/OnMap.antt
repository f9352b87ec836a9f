-- Operations on the database map alone: runs of them joined end to end, and that they leave what is saved.
use Rattle.std.proofs.Common.{◌≡◌, List, [], ◌∷◌, ◌++◌, refl, sym, ap, ◌∙◌, subst, ◌↔◌}
use Rattle.erm_model.specs.declared.operation.Op.{Op}
use Rattle.erm_model.specs.declared.operation.Op.TheVariants.{Get, Put, Del, Next, Scan, Save, Back}
use Rattle.erm_model.specs.Database.{Database}
use Rattle.erm_model.specs.Run.{AreOnMap, IsOnMap, IsReplyOn, RunsFrom, RunsOn, RunsOne, Saving, Step, after, after_all, after_by, after_from, begins, change, change_all, going_on, ops_of}
use Rattle.erm_model.proofs.InTurn.{in_turn-append}
use Rattle.erm_model.proofs.Runs.{ops_of-append}

-- operations after others act on what those left
pub change_all-append : (xs ys : List Op) (m : Database) → change_all (xs ++ ys) m ≡ change_all ys (change_all xs m)
change_all-append xs ys m = in_turn-append change xs ys m

-- one more operation
pub change_all-push : (ops : List Op) (op : Op) (m : Database) → change_all (ops ++ op ∷ []) m ≡ change op (change_all ops m)
change_all-push ops op m = change_all-append ops (op ∷ []) m

-- what steps joined leave
pub change_all-ops_of-append : (xs ys : List Step) (m : Database) → change_all (ops_of (xs ++ ys)) m ≡ change_all (ops_of ys) (change_all (ops_of xs) m)
change_all-ops_of-append xs ys m = ap (λ ops. change_all ops m) (ops_of-append xs ys) ∙ change_all-append (ops_of xs) (ops_of ys) m

-- what one more step leaves
pub change_all-ops_of-push : (steps : List Step) (step : Step) (m : Database) → change_all (ops_of (steps ++ step ∷ [])) m ≡ change step.op (change_all (ops_of steps) m)
change_all-ops_of-push steps step m = change_all-ops_of-append steps (step ∷ []) m

-- steps go on where those before them end
pub RunsOn-append : (m : Database) (xs ys : List Step) → RunsOn m xs → RunsOn (change_all (ops_of xs) m) ys → RunsOn m (xs ++ ys)
RunsOn-append m [] ys first then = then
RunsOn-append m (x ∷ xs) ys first then = (first.0, RunsOn-append (change x.op m) xs ys first.1 then)

-- one more step
pub RunsOn-push : (m : Database) (steps : List Step) (step : Step) → RunsOn m steps → IsReplyOn (change_all (ops_of steps) m) step.op step.reply → RunsOn m (steps ++ step ∷ [])
RunsOn-push m steps step first told = RunsOn-append m steps (step ∷ []) first (told, tt)

-- steps joined run as their two parts do
pub RunsOn-parts : (m : Database) (xs ys : List Step) → RunsOn m (xs ++ ys) → RunsOn m xs × RunsOn (change_all (ops_of xs) m) ys
RunsOn-parts m [] ys run = (tt, run)
RunsOn-parts m (x ∷ xs) ys run =
    let parts = RunsOn-parts (change x.op m) xs ys run.1 in
    ((run.0, parts.0), parts.1)

-- steps joined are on the map where both parts are
pub AreOnMap-append : (xs ys : List Step) → AreOnMap xs → AreOnMap ys → AreOnMap (xs ++ ys)
AreOnMap-append [] ys first then = then
AreOnMap-append (x ∷ xs) ys first then = (first.0, AreOnMap-append xs ys first.1 then)

pub AreOnMap-parts : (xs ys : List Step) → AreOnMap (xs ++ ys) → AreOnMap xs × AreOnMap ys
AreOnMap-parts [] ys are = (tt, are)
AreOnMap-parts (x ∷ xs) ys are =
    let parts = AreOnMap-parts xs ys are.1 in
    ((are.0, parts.0), parts.1)

-- an operation on the map does just what it does there
pub after_by-on_map : {X : Type 0} (does : Op → X → X) (op : Op) (s : Saving X) → IsOnMap op → after_by does op s ≡ going_on (does op s.now) s
after_by-on_map does (Get table key) s on = refl
after_by-on_map does (Put table key value) s on = refl
after_by-on_map does (Del table key) s on = refl
after_by-on_map does (Next table from) s on = refl
after_by-on_map does (Scan table low high) s on = refl
after_by-on_map does Save s on = absurd on
after_by-on_map does (Back n) s on = absurd on

pub after-on_map : (op : Op) (s : Saving Database) → IsOnMap op → after op s ≡ going_on (change op s.now) s
after-on_map op s on = after_by-on_map change op s on

-- steps on the map alone leave what is saved, and the map as they leave it alone
pub after_plainly : (steps : List Step) (s : Saving Database) → AreOnMap steps → after_from (ops_of steps) s ≡ going_on (change_all (ops_of steps) s.now) s
after_plainly [] s are = refl
after_plainly (step ∷ steps) s are = ap (after_from (ops_of steps)) (after-on_map step.op s are.0) ∙ after_plainly steps (going_on (change step.op s.now) s) are.1

-- a transaction of them alone leaves the map so
pub after_all_plainly : (steps : List Step) (m : Database) → AreOnMap steps → after_all (ops_of steps) m ≡ change_all (ops_of steps) m
after_all_plainly steps m are = ap (λ (s : Saving Database). s.now) (after_plainly steps (begins m) are)

-- and they run as they do alone
pub runs_plainly : (steps : List Step) (s : Saving Database) → AreOnMap steps → RunsFrom s steps ↔ RunsOn s.now steps
runs_plainly [] s are = (λ run. run, λ run. run)
runs_plainly (step ∷ steps) s are =
    let next : Saving Database = going_on (change step.op s.now) s in
    let is : after step.op s ≡ next = after-on_map step.op s are.0 in
    let rest = runs_plainly steps next are.1 in
    (λ run. (run.0, rest.0 (subst (λ (t : Saving Database). RunsFrom t steps) is run.1)), λ run. (run.0, subst (λ (t : Saving Database). RunsFrom t steps) (sym is) (rest.1 run.1)))

pub runs_one_plainly : (steps : List Step) (m : Database) → AreOnMap steps → RunsOne m steps ↔ RunsOn m steps
runs_one_plainly steps m are = runs_plainly steps (begins m) are
