use Rattle.std.proofs.Common.{◌≡◌, ◌+◌, ◌++◌, ◌∷◌, [], length, Some, None, refl, sym, ap, ◌∙◌, subst, arith}
use Rattle.std.specs.Vec.Iter.{into_iter_items}
use Rattle.erm_client_beside.specs.Jobs.{AreJobs, IsJobOf}
use Rattle.erm_client_beside.proofs.Lists.{more_paired, none_paired}
use Rattle.erm_client_beside.proofs.Made.{comes_at, made_job, opened_idle, opened_ready}
use Rattle.erm_engine.proofs.Joined.{yields_on}
use Rattle.erm_engine.specs.Opened.{IsNew}
use Rattle.erm_run_beside.proofs.More.{comes_within, longer, none_came, whole_now}
use Rattle.std.proofs.lemmas.List.{length-append}
use Rattle.erm_client_beside.proofs.jobs.make_jobs.Goals as goal

pub loop-program-init : goal.loop-program-init
loop-program-init g c =
    let gives = c.into_iter-program-iterator.ensures.into_iter_gives in
    let is = c.into_iter-left.ensures in (
      refl,
      (let long = gives.1 in let same = ap (λ l. length l) gives.0 in let ok = c.args.programs.ok.0 in omega (arith, long, same, ok)),
      refl,
      ([], is.rest, refl),
      none_paired (λ k program j. IsJobOf g.L.RowLaw.law c.args.table.now c.args._opening.now (k + 1) program j) _ c.requires.none,
      (let shares = c.requires.shares in omega (arith, shares)),
      c.requires.unmet,
      (let long = is.len in let same = ap (λ l. length l) is.rest in let ok = c.args.sessions.ok.0 in omega (arith, long, same, ok)),
      c.requires.room,
    )

pub unreachable-requires : goal.unreachable-requires
unreachable-requires g c =
    let at = c.loop-program in
    let none : length (into_iter_items at.left) ≡ 0 = sym at.invariant.7 ∙ none_came _ _ c.next-in-loop-program.ensures.variant c.in_default.not-Some in
    let gone = at.invariant.3 in
    let whole = ap (λ l. length l) gone.1 in
    let parts = length-append gone.0 (into_iter_items at.left) in
    let count = c.requires.new.count_is in
    let gives = c.into_iter-program-iterator.ensures.into_iter_gives in
    let less = comes_within at.yielded _ (into_iter_items c.next.new.self) _ c.in-Some.program at.invariant.0 c.in-Some.ensures.steps.0 in
    let same = ap (λ l. length l) gives.0 in
    let ok = c.args.programs.ok.0 in
    let long = gone.2 in
    omega (arith, none, whole, parts, count, less, same, ok, long)

pub overflow_add-seat : goal.overflow_add-seat
overflow_add-seat g c =
    let at = c.loop-program in
    let gives = c.into_iter-program-iterator.ensures.into_iter_gives in
    let less = comes_within at.yielded _ (into_iter_items c.next.new.self) _ c.in-Some.program at.invariant.0 c.in-Some.ensures.steps.0 in
    let same = ap (λ l. length l) gives.0 in
    let ok = c.args.programs.ok.0 in
    let few = c.requires.few in
    let seat = at.invariant.2 in
    omega (arith, less, same, ok, few, seat)

pub split_off-requires-clause-has_parts : goal.split_off-requires-clause-has_parts
split_off-requires-clause-has_parts g c =
    let at = c.loop-program in
    let gives = c.into_iter-program-iterator.ensures.into_iter_gives in
    let less = comes_within at.yielded _ (into_iter_items c.next.new.self) _ c.in-Some.program at.invariant.0 c.in-Some.ensures.steps.0 in
    let same = ap (λ l. length l) gives.0 in
    let ok = c.args.programs.ok.0 in
    let shares = at.invariant.5 in
    omega (arith, less, same, ok, shares)

pub split_off-requires-clause-left_backed : goal.split_off-requires-clause-left_backed
split_off-requires-clause-left_backed g c last = sym c.loop-program.invariant.6

pub new-requires-clause-stands : goal.new-requires-clause-stands
new-requires-clause-stands g c =
    let gone = c.loop-program.invariant.3 in
    (c.requires.new.each (length gone.0) c.in-Some-next.session (comes_at gone.0 _ (into_iter_items c.next-in-loop-program.new.self) c.args.sessions.items c.in-Some-next.session gone.1 c.in-Some-next.ensures.items)).stands

pub new-requires-clause-seat : goal.new-requires-clause-seat
new-requires-clause-seat g c =
    let gone = c.loop-program.invariant.3 in
    let new = c.requires.new.each (length gone.0) c.in-Some-next.session (comes_at gone.0 _ (into_iter_items c.next-in-loop-program.new.self) c.args.sessions.items c.in-Some-next.session gone.1 c.in-Some-next.ensures.items) in
    let seat = c.loop-program.invariant.2 in
    let long = gone.2 in
    let is = new.seat_is in
    omega (arith, seat, long, is)

pub new-requires-clause-ready : goal.new-requires-clause-ready
new-requires-clause-ready g c =
    let gone = c.loop-program.invariant.3 in
    let new = c.requires.new.each (length gone.0) c.in-Some-next.session (comes_at gone.0 _ (into_iter_items c.next-in-loop-program.new.self) c.args.sessions.items c.in-Some-next.session gone.1 c.in-Some-next.ensures.items) in
    opened_ready c.args._opening.now _ _ new.own

pub new-requires-clause-idle : goal.new-requires-clause-idle
new-requires-clause-idle g c =
    let gone = c.loop-program.invariant.3 in
    let new = c.requires.new.each (length gone.0) c.in-Some-next.session (comes_at gone.0 _ (into_iter_items c.next-in-loop-program.new.self) c.args.sessions.items c.in-Some-next.session gone.1 c.in-Some-next.ensures.items) in
    opened_idle c.args._opening.now _ _ new.own

pub push_reserved-requires : goal.push_reserved-requires
push_reserved-requires g c =
    let at = c.loop-program in
    let gives = c.into_iter-program-iterator.ensures.into_iter_gives in
    let less = comes_within at.yielded _ (into_iter_items c.next.new.self) _ c.in-Some.program at.invariant.0 c.in-Some.ensures.steps.0 in
    let same = ap (λ l. length l) gives.0 in
    let ok = c.args.programs.ok.0 in
    let long = at.invariant.4.many in
    let is = at.jobs.ok.0 in
    let room = at.invariant.8 in
    omega (arith, less, same, ok, long, is, room)

pub loop-program-preserved : goal.loop-program-preserved
loop-program-preserved g c =
    let law = g.L.RowLaw.law in
    let table = c.args.table.now in
    let o = c.args._opening.now in
    let at = c.loop-program in
    let p = c.in-Some.program in
    let s = c.in-Some-next.session in
    let gone = at.invariant.3 in
    let seat = at.invariant.2 in
    let here = comes_at gone.0 _ (into_iter_items c.next-in-loop-program.new.self) c.args.sessions.items s gone.1 c.in-Some-next.ensures.items in
    let new : IsNew law table o (at.seat + 1) s = subst (λ n. IsNew law table o (n + 1) s) (gone.2 ∙ sym seat) (c.requires.new.each (length gone.0) s here) in
    let made = made_job law table o (at.seat + 1) p s c.new.result new c.new.ensures.same (ap (λ b. b.now) c.new.ensures.shared) c.new.ensures.client c.new.ensures.none in (
      yields_on at.yielded p (into_iter_items c.next.new.self) _ _ at.invariant.0 c.in-Some.ensures.steps.0,
      (let was = at.invariant.1 in let less = c.in-Some.ensures.steps.1 in let short = ap (λ l. length l) c.in-Some.ensures.steps.0 in omega (arith, was, less, short)),
      (let long = longer at.yielded p in omega (arith, seat, long)),
      (
        gone.0 ++ s ∷ [],
        yields_on gone.0 s (into_iter_items c.next-in-loop-program.new.self) _ _ gone.1 c.in-Some-next.ensures.items,
        (let was = gone.2 in let long = longer at.yielded p in let more = longer gone.0 s in omega (arith, was, long, more)),
      ),
      more_paired (λ k program j. IsJobOf law table o (k + 1) program j) at.yielded at.jobs.items _ p _ c.push_reserved.ensures.items at.invariant.4
          (subst (λ n. IsJobOf law table o (n + 1) p (record { program = p; client = Some c.new.result; finished = None })) seat made),
      (let was = at.invariant.5 in let long = longer at.yielded p in let left = c.split_off.ensures.parts_left in omega (arith, was, long, left)),
      (let none = at.invariant.6 in let left = c.split_off.ensures.amount_left in omega (arith, none, left)),
      (let was = at.invariant.7 in let less = c.in-Some-next.ensures.len in let short = ap (λ l. length l) c.in-Some-next.ensures.items in omega (arith, was, less, short)),
      (let room = at.invariant.8 in let same = c.push_reserved.ensures.capacity in omega (arith, room, same)),
    )

pub destroy_empty-requires : goal.destroy_empty-requires
destroy_empty-requires g c =
    let at = c.loop-program in
    let gone = at.invariant.3 in
    let gives = c.into_iter-program-iterator.ensures.into_iter_gives in
    let none = c.in-None.ensures.steps.0 in
    let left = at.invariant.1 in
    let whole = ap (λ l. length l) at.invariant.0 in
    let parts = length-append at.yielded (into_iter_items at.program-iterator) in
    let same = ap (λ l. length l) gives.0 in
    let all = ap (λ l. length l) gone.1 in
    let both = length-append gone.0 (into_iter_items at.left) in
    let count = c.requires.new.count_is in
    let ok = c.args.programs.ok.0 in
    let long = gone.2 in
    let is = at.invariant.7 in
    omega (arith, none, left, whole, parts, same, all, both, count, ok, long, is)

pub returns : goal.returns
returns g c =
    let at = c.loop-program in
    let gives = c.into_iter-program-iterator.ensures.into_iter_gives in
    let none : length (into_iter_items at.program-iterator) ≡ 0 = sym at.invariant.1 ∙ c.in-None.ensures.steps.0 in
    record {
      jobs = subst (λ l. AreJobs g.L.RowLaw.law c.args.table.now c.args._opening.now l at.jobs.items)
          (whole_now at.yielded (into_iter_items at.program-iterator) _ at.invariant.0 none ∙ gives.0) at.invariant.4;
    }
