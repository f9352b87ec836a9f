use Rattle.std.proofs.Common.{◌≡◌, ℕ, ◌+◌, ◌-◌, ◌≤◌, List, [], ◌∷◌, ◌++◌, length, replicate, append_assoc, ap, ◌∙◌, arith}
use Rattle.std.proofs.lemmas.List.{replicate-append-replicate}
use Rattle.erm_model.specs.declared.limits.TheConstants.{SESSIONS}
use Rattle.erm_run_at_once.proofs.room.add_spare.Goals as goal

pub loop-preserved : goal.loop-preserved
loop-preserved c =
    let names = c.args.names.now.items in
    let many = length names in
    let low : many ≤ c.loop.counter = (let from = c.loop.auto.counter in let start = c.len-counter.ensures in let size = c.args.names.now.ok.0 in omega (arith, from, start, size)) in
    let more : c.loop.counter - many + 1 ≡ c.loop.counter + 1 - many = omega (arith, low) in
    c.in_ok-push.ensures.items ∙ ap (λ (ns : List (List ℕ)). ns ++ c.empty.result ∷ []) c.loop.invariant
    ∙ ap (λ (n : List ℕ). names ++ replicate (c.loop.counter - many) [] ++ n ∷ []) c.empty.ensures
    ∙ append_assoc names (replicate (c.loop.counter - many) []) ([] ∷ [])
    ∙ ap (λ (ns : List (List ℕ)). names ++ ns) (replicate-append-replicate (c.loop.counter - many) 1 [] ∙ ap (λ (n : ℕ). replicate n []) more)

pub returns : goal.returns
returns c =
    let names = c.args.names.now.items in
    let at : c.loop.counter ≡ SESSIONS =
    (let over = c.loop-test.false in let end = c.from-end.ensures in let high = c.loop.auto.counter-end in let few = c.requires in let start = c.len-counter.ensures in let size = c.args.names.now.ok.0 in
    omega (arith, over, end, high, few, start, size)) in
    c.loop.invariant ∙ ap (λ (n : ℕ). names ++ replicate (n - length names) []) at
