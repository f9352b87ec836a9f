use Rattle.std.proofs.Common.{◌≡◌, ◌<◌, ℕ, ◌+◌, length, refl, sym, ap, ◌∙◌, subst, arith, get_or, set, Option, Some, None}
use Rattle.std.proofs.lemmas.List.{get_or_default}
use Rattle.erm_explain.specs.declared.told.Told.{Told}
use Rattle.erm_explain.proofs.Moving.{over_moves}
use Rattle.erm_explain.proofs.Placed.{current_placed, over_placed}
use Rattle.erm_explain.proofs.books.Books.end_own.Goals as goal

pub returns-clause-ends : goal.returns-clause-ends
returns-clause-ends c script answers =
    let current = c.args.self.now.current.items in
    let counts = c.args.self.now.counts.items in
    let within : c.from-seat.result < length current = omega arith in
    let counted : c.from-seat.result < length counts = omega arith in
    let after : Told = record {
      session = c.in-Some.told.session;
      number = c.in-Some.told.number;
      begin = c.in-Some.told.begin;
      lines = c.in-Some.told.lines;
      sealed = c.in-Some.told.sealed;
      ending = c.args.ending;
    }
    in
    let here : get_or current c.from-seat.result None ≡ Some c.in-Some.told =
    get_or_default current c.from-seat.result None c.index_mut.result.now within ∙ sym c.index_mut.ensures.value ∙ sym c.take.ensures.value ∙ c.in-Some.is
    in
    let count : c.index_mut-2.result.now ≡ get_or counts c.from-seat.result 0 =
    c.index_mut-2.ensures.value ∙ get_or_default counts c.from-seat.result c.index_mut-2.result.now 0 counted
    in
    over_moves script answers c.args.session c.args.self.now _ c.in-Some.told after c.args.ending
    (subst (λ (i : ℕ). i < length current) c.from-seat.ensures within)
    (subst (λ (i : ℕ). i < length counts) c.from-seat.ensures counted)
    (subst (λ (i : ℕ). get_or current i None ≡ Some c.in-Some.told) c.from-seat.ensures here)
    (ap (λ (x : Option Told). set current c.from-seat.result x) c.take.ensures.after ∙ ap (λ (i : ℕ). set current i None) c.from-seat.ensures)
    c.in_ok-push.ensures.items
    (ap (λ (n : ℕ). set counts c.from-seat.result (n + 1)) count ∙ ap (λ (i : ℕ). set counts i (get_or counts i 0 + 1)) c.from-seat.ensures) refl
    (c.requires.own c.args.session c.in-Some.told (subst (λ (i : ℕ). get_or current i None ≡ Some c.in-Some.told) c.from-seat.ensures here))
    refl

pub returns-clause-placed : goal.returns-clause-placed
returns-clause-placed c script answers placed =
    let current = c.args.self.now.current.items in
    let within : c.from-seat.result < length current = omega arith in
    let here : get_or current c.from-seat.result None ≡ Some c.in-Some.told =
    get_or_default current c.from-seat.result None c.index_mut.result.now within ∙ sym c.index_mut.ensures.value ∙ sym c.take.ensures.value ∙ c.in-Some.is
    in
    record {
      over = over_placed script answers c.args.self.now _ _ c.in_ok-push.ensures.items (placed.current c.from-seat.result c.in-Some.told here) placed;
      current = current_placed script answers c.args.self.now _ c.from-seat.result c.take.new.self within refl
          (λ t some. let none = c.take.ensures.after in absurd (cc)) placed;
    }
