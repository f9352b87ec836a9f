-- Which lines of a transaction stay after one line more, and which stayed at its savepoints.
use Rattle.std.proofs.Common.{◌≡◌, ℕ, zero, suc, ◌⊎◌, is_some, List, [], ◌∷◌, ◌++◌, length, take, Option, Some, None, inl, inr, refl, sym, ap, ◌∙◌, subst}
use Rattle.std.specs.List.{slice_get}
use Rattle.std.specs.Option.{option_and_then, option_map}
use Rattle.erm_model.specs.declared.operation.Op.{Op}
use Rattle.erm_model.specs.declared.operation.Reply.{Reply}
use Rattle.erm_model.specs.Member.{◌∈◌}
use Rattle.erm_model.specs.Run.{Saving, Step, begins, going_on}
use Rattle.erm_model.specs.Staying.{stays_by, staying_from}
use Rattle.erm_model.proofs.Members.{none_in_nil}
use Rattle.erm_model.proofs.Stays.{staying_from-on_map, staying_from-push}
use Rattle.erm_machine.proofs.Listed.{∈-cons}
use Rattle.erm_world.proofs.Lists.{∈-parts}
use Rattle.erm_good_report.specs.Transactions.{Exchange, op_done, op_of, reply_in, table_of}
use Rattle.erm_told.proofs.Steps.{named_on_map}

-- lines have such a one
abbrev pub HasIn : (Exchange → Type 0) → List Exchange → Type 0
HasIn P lines = (e : Exchange) × (e ∈ lines) × P e

pub line_of : (P : Exchange → Type 0) (lines : List Exchange) (e : Exchange) → HasIn P (lines ++ e ∷ []) → HasIn P lines ⊎ P e
line_of P lines e (d, within, is) = elim (∈-parts lines (e ∷ []) d within) as (λ _. HasIn P lines ⊎ P e) [
  | inl before ↦ inl (d, before, is)
  | inr last ↦ elim (∈-cons d e [] last) as (λ _. HasIn P lines ⊎ P e) [
    | inl here ↦ inr (subst P (sym here) is)
    | inr none ↦ absurd (none_in_nil d none)
  ]
]

-- the lines that stay, and those that stayed at each savepoint
abbrev pub stays_of : List Exchange → Saving (List Exchange)
stays_of lines = staying_from op_done lines (begins [])

-- ONE MORE does its operation, if it was answered.
pub one_more : (lines : List Exchange) (e : Exchange) (o : Option Op) → op_done e ≡ o → stays_of (lines ++ e ∷ []) ≡ stays_by o e (stays_of lines)
one_more lines e o is = staying_from-push op_done lines e (begins []) ∙ ap (λ (done : Option Op). stays_by done e (stays_of lines)) is

done_of : (o : Option Op) (r : Option Reply) (op : Op)
    → option_map (λ (s : Step). s.op) (option_and_then (λ (p : Op). option_map (λ (reply : Reply). let s : Step = record { op = p; reply = reply } in s) r) o) ≡ Some op → o ≡ Some op
done_of None r op is = absurd (cc)
done_of (Some p) None op is = absurd (cc)
done_of (Some p) (Some r) op is = is

done_asked : (e : Exchange) (op : Op) → op_done e ≡ Some op → op_of e.asked ≡ Some op
done_asked e op is = done_of (op_of e.asked) (reply_in e.answer) op is

-- one of a table stays behind the others, or is none of those that do; and it leaves the savepoints
named_stays : (lines : List Exchange) (e : Exchange) (k : ℕ) → table_of e.asked ≡ Some k
    → (stays_of (lines ++ e ∷ []) ≡ stays_of lines) ⊎ (stays_of (lines ++ e ∷ []) ≡ going_on ((stays_of lines).now ++ e ∷ []) (stays_of lines))
named_stays lines e k named = by (op_done e) refl
  where
    by : (o : Option Op) → op_done e ≡ o → (stays_of (lines ++ e ∷ []) ≡ stays_of lines) ⊎ (stays_of (lines ++ e ∷ []) ≡ going_on ((stays_of lines).now ++ e ∷ []) (stays_of lines))
    by None is = inl (one_more lines e None is)
    by (Some op) is =
        inr (staying_from-on_map op_done lines e op (begins []) is (named_on_map e.asked op (ap is_some named) (done_asked e op is)))

pub kept_from : (P : Exchange → Type 0) (lines : List Exchange) (e : Exchange) (k : ℕ) → table_of e.asked ≡ Some k → HasIn P (stays_of (lines ++ e ∷ [])).now
    → HasIn P (stays_of lines).now ⊎ P e
kept_from P lines e k named has = elim (named_stays lines e k named) as (λ _. HasIn P (stays_of lines).now ⊎ P e) [
  | inl same ↦ inl (subst (λ (s : Saving (List Exchange)). HasIn P s.now) same has)
  | inr more ↦ line_of P (stays_of lines).now e (subst (λ (s : Saving (List Exchange)). HasIn P s.now) more has)
]

pub saved_same : (lines : List Exchange) (e : Exchange) (k : ℕ) → table_of e.asked ≡ Some k → (stays_of (lines ++ e ∷ [])).saved ≡ (stays_of lines).saved
saved_same lines e k named = elim (named_stays lines e k named) as (λ _. (stays_of (lines ++ e ∷ [])).saved ≡ (stays_of lines).saved) [
  | inl same ↦ ap (λ (s : Saving (List Exchange)). s.saved) same
  | inr more ↦ ap (λ (s : Saving (List Exchange)). s.saved) more
]

-- PLACES. What stands in two lists at one place does so in fronts of one length, and in lists that go on.
pub taken_both : {X Y : Type 0} (n : ℕ) (xs : List X) (ys : List Y) (j : ℕ) (x : X) (y : Y) → slice_get (take n xs) j ≡ Some x → slice_get ys j ≡ Some y → slice_get (take n ys) j ≡ Some y
taken_both zero xs ys j x y at other = absurd (cc)
taken_both (suc n) [] ys j x y at other = absurd (cc)
taken_both (suc n) (z ∷ xs) [] j x y at other = absurd (cc)
taken_both (suc n) (z ∷ xs) (w ∷ ys) zero x y at other = other
taken_both (suc n) (z ∷ xs) (w ∷ ys) (suc j) x y at other = taken_both n xs ys j x y at other

pub in_front : {X : Type 0} (xs ys : List X) (k : ℕ) (x : X) → slice_get xs k ≡ Some x → slice_get (xs ++ ys) k ≡ Some x
in_front [] ys k x at = absurd (cc)
in_front (z ∷ xs) ys zero x at = at
in_front (z ∷ xs) ys (suc k) x at = in_front xs ys k x at

pub at_end : {X : Type 0} (xs : List X) (x : X) → slice_get (xs ++ x ∷ []) (length xs) ≡ Some x
at_end [] x = refl
at_end (z ∷ xs) x = at_end xs x
