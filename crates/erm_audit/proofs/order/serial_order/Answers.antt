use Rattle.std.proofs.Common.{IsPermutation, subst}
use Rattle.std.proofs.lemmas.Result.{IfOk-weaker}
use Rattle.erm_audit.proofs.Turns.{all_places, in_turn, in_order}
use Rattle.erm_audit.proofs.order.serial_order.Goals as goal

pub returns-clause-all : goal.returns-clause-all
returns-clause-all c =
    let same = subst (λ l. IsPermutation l c.sort.new.self.items) c.in_ok-turns.ensures c.in_ok-sort.ensures.permutation in
    IfOk-weaker c.places_of.result _ _ (λ places is. rw is (rw c.deref.ensures.value (all_places c.args.commits.now c.sort.new.self.items same c.in_ok-sort.ensures.sorted))) c.places_of.ensures

pub returns-clause-in_turn : goal.returns-clause-in_turn
returns-clause-in_turn c =
    let same = subst (λ l. IsPermutation l c.sort.new.self.items) c.in_ok-turns.ensures c.in_ok-sort.ensures.permutation in
    IfOk-weaker c.places_of.result _ _ (λ places is. rw is (rw c.deref.ensures.value (in_turn c.args.commits.now c.sort.new.self.items same c.in_ok-sort.ensures.sorted))) c.places_of.ensures

pub returns-clause-serial : goal.returns-clause-serial
returns-clause-serial c =
    let same = subst (λ l. IsPermutation l c.sort.new.self.items) c.in_ok-turns.ensures c.in_ok-sort.ensures.permutation in
    IfOk-weaker c.places_of.result _ _ (λ places is. rw is (rw c.deref.ensures.value (in_order c.args.commits.now c.sort.new.self.items same c.in_ok-sort.ensures.sorted))) c.places_of.ensures
