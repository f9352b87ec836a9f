use Rattle.std.proofs.Common.{◌^◌, ◌<◌, Some, refl, subst, sym, ap, ◌∙◌, arith}
use Rattle.std.proofs.lemmas.List.Elements.{All-from_get_or}
use Rattle.std.specs.Bool.{then_some}
use Rattle.std.proofs.lemmas.Slice.Eq.{bytes_eq-Decides}
use Rattle.erm_record.specs.Record.{IsValue, value_row}
use Rattle.erm_record.proofs.Rows.{IfSome-then_some}
use Rattle.erm_record.proofs.value_with_row.Goals as goal

pub returns-clause-found : goal.returns-clause-found
returns-clause-found c =
    IfSome-then_some c.eq.result c.in_ok-value.value c.then_some.result _ c.then_some.ensures (λ passed.
    let same = (bytes_eq-Decides c.row_of.result c.args.row.now).0 (sym c.eq.ensures ∙ passed) in
    let bytes = All-from_get_or (λ b. b < 2 ^ 8) c.args.bytes.now 0 (λ i _. omega (arith, c.type_inv.bytes i)) in
    (subst IsValue (sym c.in_ok-value.ensures.bytes) (bytes, c.in_ok-value.ensures.fits.0 refl), sym same ∙ c.row_of.ensures.row))

pub returns-clause-given : goal.returns-clause-given
returns-clause-given c = λ is e.
    let same = (bytes_eq-Decides c.row_of.result c.args.row.now).1 (c.row_of.ensures.row ∙ ap value_row c.in_ok-value.ensures.bytes ∙ sym e) in
    c.then_some.ensures ∙ ap (λ passed. then_some passed c.in_ok-value.value) (c.eq.ensures ∙ same) ∙ ap Some c.in_ok-value.ensures.bytes
