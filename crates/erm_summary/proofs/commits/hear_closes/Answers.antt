use Rattle.std.proofs.Common.{◌≡◌, ℕ, ◌+◌, ◌≤◌, ◌-◌, ◌++◌, ◌∷◌, None, [], length, map, take, refl, sym, ap, ◌∙◌, subst, arith, append_assoc}
use Rattle.std.proofs.lemmas.List.{map-append, take_more}
use Rattle.erm_good_report.specs.Transactions.{Said}
use Rattle.erm_good_report.specs.Phases.{Closed}
use Rattle.erm_summary.specs.Told.{FollowEach, closed_of, closes_of}
use Rattle.erm_summary.proofs.Seats.{less_room}
use Rattle.erm_summary.proofs.commits.hear_closes.Goals as goal

pub hear_at-requires : goal.hear_at-requires
hear_at-requires c =
    let rest : ℕ = length c.args.closed.now - c.loop-close.close-index in
    let one : 1 ≤ rest = omega (arith, c.loop-close-test.true) in
    record { room = less_room 1 rest c.loop-close.heard.items one (c.loop-close.invariant.room rest (omega (arith, c.loop-close-test.true))) }

pub loop-close-preserved : goal.loop-close-preserved
loop-close-preserved c =
    let closed = c.args.closed.now in
    let i = c.loop-close.close-index in
    let close = c.close-item.result in
    let before = c.loop-close.invariant in
    let now = c.in_ok-hear_at.ensures in
    let place : Closed → Said = λ c. record { session = c.session; asked = None; answer = c.answer } in
    let longer : closes_of (map closed_of (take (i + 1) closed)) ≡ closes_of (map closed_of (take i closed)) ++ place (closed_of close) ∷ [] =
    ap (λ cs. closes_of (map closed_of cs)) (take_more closed i close c.loop-close-test.true ∙ ap (λ x. take i closed ++ x ∷ []) (sym c.close-item.is))
    ∙ ap closes_of (map-append closed_of (take i closed) (close ∷ []))
    ∙ map-append place (map closed_of (take i closed)) (closed_of close ∷ [])
    in
    record {
      follows = λ script answers said each.
          subst (λ more. FollowEach script answers more 1 c.hear_at.new.heard.items)
          (append_assoc said (closes_of (map closed_of (take i closed))) (place (closed_of close) ∷ []) ∙ ap (λ more. said ++ more) (sym longer))
          (now.follows script answers (said ++ closes_of (map closed_of (take i closed))) None refl refl (before.follows script answers said each));
      room = λ rest left. now.room rest (before.room (rest + 1) (omega (arith, left)));
      count = now.count ∙ before.count;
    }
