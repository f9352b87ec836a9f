use Rattle.std.proofs.Common.{IsPermutation, length, subst, ◌∙◌}
use Rattle.std.specs.List.{range_with_len}
use Rattle.erm_model.specs.SerialOrder.{IsSerialOrder, StampsDiffer, rank_of_commit}
use Rattle.erm_summary.specs.Summary.{at_places}
use Rattle.erm_summary.proofs.Serial.{both_facts, serial_of_names}
use Rattle.erm_summary.proofs.order.order_of.Goals as goal

pub returns-clause-serial : goal.returns-clause-serial
returns-clause-serial c =
    let same = c.deref.ensures.value ∙ c.in_ok-named.ensures in
    both_facts c.serial_order.result _ _ _
    (λ order all serial script answers.
    serial_of_names script answers c.args.commits.now order.items (subst (λ xs. IsPermutation (range_with_len 0 (length xs)) order.items) same all)
    (subst (λ xs. StampsDiffer rank_of_commit xs → IsSerialOrder rank_of_commit xs (at_places xs order.items)) same serial))
    c.serial_order.ensures.all c.serial_order.ensures.serial
