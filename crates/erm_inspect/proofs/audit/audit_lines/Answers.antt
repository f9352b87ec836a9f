use Rattle.erm_inspect.proofs.Told.{tells_audit}
use Rattle.erm_inspect.proofs.audit.audit_lines.Goals as goal

pub returns : goal.returns
returns c =
    let order = c.in_ok-order.ensures in
    tells_audit c.args.found.now _ _ _ c.in_ok-order.order.items _ _ _ _ _
    c.deref.ensures.value c.deref-2.ensures.value c.deref-4.ensures.value c.deref-3.ensures.value
    order.all order.in_turn order.serial c.new-lines.ensures.items c.in_ok-push.ensures.items c.in_ok-push_order.ensures c.in_ok-push_map.ensures
