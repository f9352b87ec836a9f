use Rattle.std.proofs.Common.{◌≡◌, ◌≤◌, ◌<◌, ◌+◌, ◌^◌, ℕ, List, ◌∷◌, [], ◌++◌, true, false, not, None, Some, Ok, Err, length, take, sym, ap, ◌∙◌, subst, arith}
use Rattle.std.specs.Prelude.{MatchOption, slice_index, nat_eq, Result}
use Rattle.std.specs.Result.{OkIff, result_ok}
use Rattle.std.proofs.lemmas.List.{take_all, take_more}
use Rattle.erm_node.specs.Node.{have_32_bits, shape_in}
use Rattle.erm_node.specs.NodeShape.{shape_of}
use Rattle.erm_node.proofs.Places.{length-pairs_in, get_or-pairs_in, have_32_bits-wide, have_32_bits-more}
use Rattle.erm_node.proofs.node.node_in.Goals as goal

not_small : {E : Type 0} (r : Result ℕ E) (n : ℕ) → OkIff r (n < 4294967296) n → result_ok r ≡ None → 2 ^ 32 ≤ n
not_small (Ok x) n iff none = absurd (cc)
not_small (Err e) n iff none = omega (arith, iff)

converted : {E : Type 0} (r : Result ℕ E) (n oid : ℕ) → OkIff r (n < 4294967296) n → result_ok r ≡ Some oid → oid ≡ n
converted (Ok x) n oid iff some = cc
converted (Err e) n oid iff some = absurd (cc)

small : {E : Type 0} (r : Result ℕ E) (n oid : ℕ) → OkIff r (n < 4294967296) n → result_ok r ≡ Some oid → n < 2 ^ 32
small (Ok x) n oid iff some = omega (arith, iff.0)
small (Err e) n oid iff some = absurd (cc)

pub returns-in_err-oid : goal.returns-in_err-oid
returns-in_err-oid c =
    let row = c.args.row.now in
    let wide = not_small c.try_from.result (slice_index row (9 + c.loop-i.i)) c.try_from.ensures (sym c.ok.ensures.value ∙ c.in_err-oid.was) in
    let below : c.loop-i.i < slice_index row 1 = omega (arith, c.min-count.ensures) in
    let is = have_32_bits-wide row (omega arith) c.loop-i.i (omega (arith, c.min-count.ensures)) below wide in
    subst (λ o. MatchOption o (have_32_bits (shape_in row).pairs ≡ false) (λ node. shape_of node ≡ shape_in row × have_32_bits node.pairs.items ≡ true)) (sym c.from_residual.ensures) is

pub loop-i-preserved : goal.loop-i-preserved
loop-i-preserved c =
    let row = c.args.row.now in
    let i = c.loop-i.i in
    let pairs = (shape_in row).pairs in
    let few : i < 7 = omega (arith, c.min-count.ensures) in
    let below : i < slice_index row 1 = omega (arith, c.min-count.ensures) in
    let oid = converted c.try_from.result (slice_index row (9 + i)) c.in_ok-oid.oid c.try_from.ensures (sym c.ok.ensures.value ∙ c.in_ok-oid.was) in
    let is_small = small c.try_from.result (slice_index row (9 + i)) c.in_ok-oid.oid c.try_from.ensures (sym c.ok.ensures.value ∙ c.in_ok-oid.was) in
    let some : i < length pairs = omega (arith, length-pairs_in row (omega arith)) in
    record {
      pairs =
          c.push.ensures.items
          ∙ ap (λ (front : List (ℕ × ℕ)). front ++ (slice_index row (2 + i), c.in_ok-oid.oid) ∷ []) c.loop-i.invariant.pairs
          ∙ ap (λ (n : ℕ). take i pairs ++ (slice_index row (2 + i), n) ∷ []) oid
          ∙ ap (λ (pair : ℕ × ℕ). take i pairs ++ pair ∷ []) (sym (get_or-pairs_in row (omega arith) i few below))
          ∙ sym (take_more pairs i (0, 0) some);
      narrow = have_32_bits-more row (omega arith) i few below is_small c.loop-i.invariant.narrow;
    }

pub returns : goal.returns
returns c =
    let row = c.args.row.now in
    let pairs = (shape_in row).pairs in
    let all : length pairs ≤ c.loop-i.i = omega (arith, length-pairs_in row (omega arith), c.min-count.ensures) in
    let whole = c.loop-i.invariant.pairs ∙ take_all c.loop-i.i pairs all in (
      ap (λ (ps : List (ℕ × ℕ)). record { leaf = not (nat_eq (slice_index row 0) 4); pairs = ps }) whole,
      ap have_32_bits c.loop-i.invariant.pairs ∙ c.loop-i.invariant.narrow,
    )
