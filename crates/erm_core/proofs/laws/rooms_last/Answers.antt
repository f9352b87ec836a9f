use Rattle.erm_core.proofs.Lasting.{claim_leaves, others_leave, others_leave_swap, own_leave, own_leave_swap, steady_leaves}
use Rattle.erm_core.proofs.laws.rooms_last.Goals as goal

pub returns : goal.returns
returns c = record {
  others = λ s t p q k n left ne leaves room. others_leave s t q k left p n ne leaves room;
  own = λ s t p k n left nothing leaves room. own_leave s t p k left n nothing leaves room;
  steady = steady_leaves;
  claim = claim_leaves;
  swap_others = λ s t p q oid k left ne leaves room. others_leave_swap s t q k left p oid ne leaves room;
  swap_own = λ s t p oid k left nothing leaves room. own_leave_swap s t p k left oid nothing leaves room;
}
