-- Reads leave the database map as it is, and so does going back where there were only reads.
use Rattle.std.proofs.Common.{◌≡◌, List, [], ◌∷◌, refl, sym, ◌∙◌, subst}
use Rattle.std.specs.List.{All}
use Rattle.std.proofs.lemmas.List.Elements.{All-head, All-tail}
use Rattle.erm_model.specs.Database.{Database}
use Rattle.erm_model.specs.declared.operation.Op.{Op}
use Rattle.erm_model.specs.declared.operation.Op.TheVariants.{Back, Del, Get, Next, Put, Save, Scan}
use Rattle.erm_model.specs.Run.{Saving, Step, after, after_all, after_from, begins, change, ops_of}
use Rattle.erm_model.proofs.Savings.{AreAll, all_after, all_begins}
use Rattle.erm_invariant.specs.Invariant.{IsRead, ReadersKeep}

read_leaves : (op : Op) (m : Database) → IsRead op → change op m ≡ m
read_leaves (Get table key) m is = refl
read_leaves (Put table key value) m is = absurd is
read_leaves (Del table key) m is = absurd is
read_leaves (Next table from) m is = refl
read_leaves (Scan table low high) m is = refl
read_leaves Save m is = refl
read_leaves (Back n) m is = refl

reads_keep : (steps : List Step) (m : Database) (s : Saving Database) → All (λ (step : Step). IsRead step.op) steps → AreAll (λ (n : Database). n ≡ m) s → AreAll (λ (n : Database). n ≡ m) (after_from (ops_of steps) s)
reads_keep [] m s are all = all
reads_keep (step ∷ steps) m s are all =
    let read = All-head (λ (t : Step). IsRead t.op) step steps are in
    reads_keep steps m (after step.op s) (All-tail (λ (t : Step). IsRead t.op) step steps are)
    (all_after (λ (n : Database). n ≡ m) change step.op s (λ on same. read_leaves step.op s.now read ∙ same) all)

pub reads_leave : (steps : List Step) (m : Database) → All (λ (step : Step). IsRead step.op) steps → after_all (ops_of steps) m ≡ m
reads_leave steps m are = (reads_keep steps m (begins m) are (all_begins (λ (n : Database). n ≡ m) m refl)).now

pub readers_keep : (Invariant : Database → Type 0) → ReadersKeep Invariant
readers_keep Invariant steps are m holds run = subst Invariant (sym (reads_leave steps m are)) holds
