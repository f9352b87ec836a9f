-- The operations that a line more adds to a transaction.
use Rattle.std.proofs.Common.{◌≡◌, ◌⊎◌, ℕ, zero, suc, ◌+◌, ◌<◌, ◌≤◌, Bool, true, false, if◌then◌else◌, IsSome, List, [], ◌∷◌, ◌++◌, length, length-append, Option, Some, None, option_and_then, option_map, option_to_list, filter_map, refl, ap, ◌∙◌, subst, inl, inr, arith}
use Rattle.std.specs.List.{cons_option, slice_get}
use Rattle.std.proofs.lemmas.List.{length-take-le}
use Rattle.std.proofs.lemmas.List.Elements.{filter_map-append}
use Rattle.erm_model.specs.declared.operation.Op.{Op}
use Rattle.erm_model.specs.declared.operation.Op.TheVariants as op
use Rattle.erm_model.specs.declared.operation.Reply.{Reply}
use Rattle.erm_model.specs.Run.{IsOnMap, Saving, Step, back_to, begins, saved_as}
use Rattle.erm_model.specs.Staying.{stays_by, staying_from}
use Rattle.erm_model.proofs.Stays.{staying_from-append}
use Rattle.erm_report.specs.declared.answer.Answer.{Answer}
use Rattle.erm_report.specs.declared.answer.Answer.TheVariants as answer
use Rattle.erm_script.specs.declared.script.Command.{Command}
use Rattle.erm_script.specs.declared.script.Command.TheVariants as command
use Rattle.erm_good_report.specs.Transactions.{Exchange, Transaction, exchange_of, held_of, op_done, op_of, reply_in, step_of, steps_of, table_of, with_line, works_on_map}

-- the line, where it works on the map
abbrev pub line_added : Option Command → Answer → List Exchange
line_added asked a = option_to_list (exchange_of asked a)

-- its operation, where it was answered
abbrev pub added : Option Command → Answer → List Step
added asked a = filter_map step_of (line_added asked a)

-- a transaction's operations with those that a line adds
pub steps_with : (asked : Option Command) (a : Answer) (t : Transaction) → steps_of (with_line asked a t) ≡ steps_of t ++ added asked a
steps_with asked a t = filter_map-append step_of t.lines (line_added asked a)

-- a line with this operation and this reply, and the operation that it tells
abbrev told_by : Option Op → Option Reply → Option Step
told_by op reply = option_and_then (λ o. option_map (λ r. record { op = o; reply = r }) reply) op

untold : (op : Option Op) (reply : Option Reply) → (op ≡ None) ⊎ (reply ≡ None) → told_by op reply ≡ None
untold None reply none = refl
untold (Some op) None none = refl
untold (Some op) (Some reply) (inl none) = cc
untold (Some op) (Some reply) (inr none) = cc

one_line : (c : Command) (a : Answer) (works : Bool) → step_of (record { asked = c; answer = a }) ≡ None
    → filter_map step_of (option_to_list (if works then Some (record { asked = c; answer = a }) else None)) ≡ []
one_line c a false none = refl
one_line c a true none = ap (λ (o : Option Step). cons_option o []) none

-- a line without a reply tells no operation, and one that asks for none neither
pub none_replied : (c : Command) (a : Answer) → reply_in a ≡ None → added (Some c) a ≡ []
none_replied c a none = one_line c a (works_on_map c) (untold (op_of c) (reply_in a) (inr none))

pub none_asked : (c : Command) (a : Answer) → op_of c ≡ None → added (Some c) a ≡ []
none_asked c a none = one_line c a (works_on_map c) (untold (op_of c) (reply_in a) (inl none))

-- an operation that was answered is told
pub one_replied : (c : Command) (op : Op) (r : Reply) → op_of c ≡ Some op → added (Some c) (answer.Replied r) ≡ record { op = op; reply = r } ∷ []
one_replied (command.Get table key) op r is = ap (λ (o : Option Op). cons_option (told_by o (Some r)) []) is
one_replied (command.Put table key value) op r is = ap (λ (o : Option Op). cons_option (told_by o (Some r)) []) is
one_replied (command.Del table key) op r is = ap (λ (o : Option Op). cons_option (told_by o (Some r)) []) is
one_replied (command.Next table from) op r is = ap (λ (o : Option Op). cons_option (told_by o (Some r)) []) is
one_replied (command.Scan table low high) op r is = ap (λ (o : Option Op). cons_option (told_by o (Some r)) []) is
one_replied command.Save op r is = ap (λ (o : Option Op). cons_option (told_by o (Some r)) []) is
one_replied (command.Back n) op r is = ap (λ (o : Option Op). cons_option (told_by o (Some r)) []) is
one_replied c op r is = cc

-- SAVEPOINTS. How many a transaction holds after a line more, by what this adds.
held_with : (asked : Option Command) (a : Answer) (t : Transaction) → held_of (with_line asked a t) ≡ length (staying_from op_done (line_added asked a) (staying_from op_done t.lines (begins []))).saved
held_with asked a t = ap (λ (s : Saving (List Exchange)). length s.saved) (staying_from-append op_done t.lines (line_added asked a) (begins []))

-- a line that tells no operation leaves what stays, and what was saved of it
none_stays : (o : Option Exchange) (s : Saving (List Exchange)) → filter_map step_of (option_to_list o) ≡ [] → staying_from op_done (option_to_list o) s ≡ s
none_stays None s none = refl
none_stays (Some e) s none = ap (λ (o : Option Op). stays_by o e s) (ap (option_map (λ (step : Step). step.op)) (no_step (step_of e) none))
  where
    no_step : (o : Option Step) → cons_option o [] ≡ [] → o ≡ None
    no_step None is = refl
    no_step (Some step) is = absurd (cc)

-- one that tells an operation does what this does
one_stays : (o : Option Exchange) (s : Saving (List Exchange)) (step : Step) → filter_map step_of (option_to_list o) ≡ step ∷ [] → (e : Exchange) × (staying_from op_done (option_to_list o) s ≡ stays_by (Some step.op) e s)
one_stays None s step is = absurd (cc)
one_stays (Some e) s step is = (e, ap (λ (o : Option Op). stays_by o e s) (ap (option_map (λ (step : Step). step.op)) (the_step (step_of e) is)))
  where
    the_step : (o : Option Step) → cons_option o [] ≡ step ∷ [] → o ≡ Some step
    the_step None is = absurd (cc)
    the_step (Some other) is = cc

pub held_still : (asked : Option Command) (a : Answer) (t : Transaction) → added asked a ≡ [] → held_of (with_line asked a t) ≡ held_of t
held_still asked a t none = held_with asked a t ∙ ap (λ (s : Saving (List Exchange)). length s.saved) (none_stays (exchange_of asked a) (staying_from op_done t.lines (begins [])) none)

pub held_then : (asked : Option Command) (a : Answer) (t : Transaction) (step : Step) → added asked a ≡ step ∷ []
    → (e : Exchange) × (held_of (with_line asked a t) ≡ length (stays_by (Some step.op) e (staying_from op_done t.lines (begins []))).saved)
held_then asked a t step one =
    let stays = one_stays (exchange_of asked a) (staying_from op_done t.lines (begins [])) step one in
    (stays.0, held_with asked a t ∙ ap (λ (s : Saving (List Exchange)). length s.saved) stays.1)

-- one on the map leaves the savepoints
on_map_saved : (op : Op) (e : Exchange) (s : Saving (List Exchange)) → IsOnMap op → (stays_by (Some op) e s).saved ≡ s.saved
on_map_saved (op.Get table key) e s on = refl
on_map_saved (op.Put table key value) e s on = refl
on_map_saved (op.Del table key) e s on = refl
on_map_saved (op.Next table from) e s on = refl
on_map_saved (op.Scan table low high) e s on = refl
on_map_saved op.Save e s on = absurd on
on_map_saved (op.Back n) e s on = absurd on

the_op : (a b : Op) → Some a ≡ Some b → a ≡ b
the_op a b is = cc

-- a command that names a table asks for an operation on the map
pub named_on_map : (c : Command) (asked : Op) → IsSome (table_of c) → op_of c ≡ Some asked → IsOnMap asked
named_on_map (command.Get table key) asked named is = subst IsOnMap (the_op (op.Get table key) asked is) tt
named_on_map (command.Put table key value) asked named is = subst IsOnMap (the_op (op.Put table key value) asked is) tt
named_on_map (command.Del table key) asked named is = subst IsOnMap (the_op (op.Del table key) asked is) tt
named_on_map (command.Next table from) asked named is = subst IsOnMap (the_op (op.Next table from) asked is) tt
named_on_map (command.Scan table low high) asked named is = subst IsOnMap (the_op (op.Scan table low high) asked is) tt
named_on_map command.Save asked named is = absurd (cc)
named_on_map (command.Back n) asked named is = absurd (cc)
named_on_map c asked named is = absurd (cc)

pub held_on_map : (asked : Option Command) (a : Answer) (t : Transaction) (step : Step) → added asked a ≡ step ∷ [] → IsOnMap step.op → held_of (with_line asked a t) ≡ held_of t
held_on_map asked a t step one on =
    let after = held_then asked a t step one in after.1 ∙ ap length (on_map_saved step.op after.0 (staying_from op_done t.lines (begins [])) on)

-- a savepoint more, and a way back to one that is held
pub held_saved : (t : Transaction) (held : ℕ) → held_of (with_line (Some command.Save) (answer.Saved held) t) ≡ held_of t + 1
held_saved t held =
    let s = staying_from op_done t.lines (begins []) in held_with (Some command.Save) (answer.Saved held) t ∙ length-append s.saved (s.now ∷ [])

-- the list that was saved as one that is held
held_one : {X : Type 0} (xs : List X) (k : ℕ) → k < length xs → slice_get xs k ≡ None → ⊥
held_one [] k below none = omega (arith, below)
held_one (x ∷ xs) zero below none = cc
held_one (x ∷ xs) (suc k) below none = held_one xs k (omega (arith, below)) none

left_held : {X : Type 0} (n : ℕ) (s : Saving X) (old : Option X) → saved_as n s.saved ≡ old → 0 < n → n ≤ length s.saved → length (back_to n old s).saved ≡ n
left_held n s (Some x) is some few = length-take-le n s.saved few
left_held zero s None is some few = absurd (omega (arith, some))
left_held (suc k) s None is some few = absurd (held_one s.saved k (omega (arith, few)) is)

pub held_back : (t : Transaction) (n : ℕ) → 0 < n → n ≤ held_of t → held_of (with_line (Some (command.Back n)) (answer.Back n) t) ≡ n
held_back t n some few =
    let s = staying_from op_done t.lines (begins []) in
    held_with (Some (command.Back n)) (answer.Back n) t ∙ left_held n s (saved_as n s.saved) refl some few
