use Rattle.std.proofs.Common.{◌≡◌, ℕ, ◌+◌, ◌-◌, ◌<◌, ◌≤◌, ◌++◌, min, List, map, take, drop, length, sym, ap, ◌∙◌, arith}
use Rattle.std.proofs.lemmas.List.{drop-take, take_min, take_all}
use Rattle.erm_machine.specs.declared.attempt.OwnCell.{OwnCell}
use Rattle.erm_machine.specs.declared.version.Version.{Version}
use Rattle.erm_seat.proofs.claiming.take_off.Goals as goal

-- the part of a list from one place up to another one within
part_of_list : {X : Type 0} (vs : List X) (cut place : ℕ) → cut < min place (length vs) → take (min place (length vs) - cut) (drop cut vs) ≡ drop cut (take place vs)
part_of_list vs cut place below =
    let sum : cut + (min place (length vs) - cut) ≡ min place (length vs) = omega arith in
    sym (drop-take cut (min place (length vs) - cut) vs) ∙ ap (λ n. drop cut (take n vs)) sum ∙ ap (λ zs. drop cut zs) (take_min place vs)

taken : (vs ws : List Version) (cut place len end k : ℕ) → ws ≡ vs → len ≡ length vs → end ≡ min place len → cut < end →
    length (take (end - cut) (drop cut ws)) ≤ k → take k (take (end - cut) (drop cut ws)) ≡ drop cut (take place vs)
taken vs ws cut place len end k same is_len is_end below all =
    let is : end ≡ min place (length vs) = omega (arith, is_end, is_len) in
    take_all k (take (end - cut) (drop cut ws)) all
    ∙ ap (λ zs. take (end - cut) (drop cut zs)) same
    ∙ ap (λ n. take (n - cut) (drop cut vs)) is
    ∙ part_of_list vs cut place (omega (arith, below, is))

pub returns-clause-items : goal.returns-clause-items
returns-clause-items c =
    c.loop-version.invariant.0
    ∙ ap (λ (vs : List Version). c.args.spare.now.items ++ map (λ (v : Version). let own : OwnCell = record { cell = v.cell; words = v.words } in own) vs)
    (taken c.args.object.now.versions.items c.deref.result.now c.args.object.now.cut c.args.place c.len.result c.min-end.result c.loop-version.version-index
    c.deref.ensures.value (c.len.ensures ∙ sym c.deref.ensures.len ∙ ap length c.deref.ensures.value) c.min-end.ensures c.if-object-end.false c.loop-version-test.false)
