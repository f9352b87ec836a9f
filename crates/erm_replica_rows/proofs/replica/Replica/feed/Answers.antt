use Rattle.std.proofs.Common.{◌≡◌, ℕ, List, true, ◌∙◌, ap, drop, refl, subst, sym}
use Rattle.erm_node.specs.Sound.{IsSound}
use Rattle.erm_replica.specs.Stream.{IsShort}
use Rattle.erm_replica_rows.specs.Keeping.{Replicated}
use Rattle.erm_replica_rows.specs.Reading.{IsStuck}
use Rattle.erm_replica_rows.proofs.Keeping.{bad_next, drained_fits, fed_goes, keeps_bad, keeps_good, keeps_passing}
use Rattle.erm_replica_rows.proofs.replica.Replica.feed.Goals as goal

pub returns-then-self-clause-stops : goal.returns-then-self-clause-stops
returns-then-self-clause-stops c =
    let bad : c.args.self.now.is_bad ≡ true = sym (ap (λ (r : Replicated). r.is_bad) c.self.view_is) ∙ c.if-self.true in (
      bad,
      ap (λ (r : Replicated). r.kept.stream.place) c.self.view_is,
      λ bytes keeps. keeps_passing bytes c.args.piece.now c.args.self.now keeps bad,
    )

pub invariant_of-self : goal.invariant_of-self
invariant_of-self c =
    drained_fits c.self-2.inside.bytes.items c.deref.result.now _ _ c.self-2.inside.end c.drain.new.end c.self-2.inside.snapshot c.drain.new.snapshot c.self-2.invariant c.deref.ensures.value c.deref.ensures.len c.drain.ensures.goes
    c.drain.ensures.end c.drain.ensures.since c.drain.ensures.lawful

pub invariant_of-self-in-Unreadable : goal.invariant_of-self-in-Unreadable
invariant_of-self-in-Unreadable c =
    drained_fits c.self-2.inside.bytes.items c.deref.result.now _ _ c.self-2.inside.end c.drain.new.end c.self-2.inside.snapshot c.drain.new.snapshot c.self-2.invariant c.deref.ensures.value c.deref.ensures.len c.drain.ensures.goes
    c.drain.ensures.end c.drain.ensures.since c.drain.ensures.lawful

pub returns-in-Short-clause-takes : goal.returns-in-Short-clause-takes
returns-in-Short-clause-takes c = λ bytes keeps.
    keeps_good bytes c.args.piece.now c.args.self.now _ keeps (sym (ap (λ (r : Replicated). r.is_bad) c.self.view_is) ∙ c.if-self.false)
    (ap (λ (r : Replicated). r.is_bad) c.self-2.view_is ∙ c.in_ok-add.ensures.ok.1 ∙ sym (ap (λ (r : Replicated). r.is_bad) c.self.view_is) ∙ c.if-self.false)
    (fed_goes c.fronts_stay.ensures.part (λ log bytes part stands. (c.parts_are_announced.ensures log bytes part stands).1) c.args.self.now.kept c.add.new.self.kept c.args.piece.now c.self-2.inside.bytes.items c.deref.result.now c.self-2.inside.end
    c.drain.new.end c.self-2.inside.snapshot c.drain.new.snapshot c.in_ok-add.ensures.ok.0 (ap (λ (r : Replicated). r.kept) c.self-2.view_is) c.deref.ensures.value c.drain.ensures.goes)
    (subst (λ (xs : List ℕ). IsShort c.drain.new.end.log (drop c.drain.new.end.index xs)) c.deref.ensures.value (c.drain.ensures.short c.in-Short.is))

pub returns-in-Unreadable-clause-stops : goal.returns-in-Unreadable-clause-stops
returns-in-Unreadable-clause-stops c = (
  refl,
  refl,
  λ bytes keeps.
      keeps_bad bytes c.args.piece.now c.args.self.now _ keeps (sym (ap (λ (r : Replicated). r.is_bad) c.self.view_is) ∙ c.if-self.false) refl
      (fed_goes c.fronts_stay.ensures.part (λ log bytes part stands. (c.parts_are_announced.ensures log bytes part stands).1) c.args.self.now.kept c.add.new.self.kept c.args.piece.now c.self-2.inside.bytes.items c.deref.result.now c.self-2.inside.end
      c.drain.new.end c.self-2.inside.snapshot c.drain.new.snapshot c.in_ok-add.ensures.ok.0 (ap (λ (r : Replicated). r.kept) c.self-2.view_is) c.deref.ensures.value c.drain.ensures.goes)
      (λ taken holds.
      bad_next c.respects_rows.ensures.meets taken c.drain.new.end c.drain.new.snapshot c.self-2.inside.bytes.items holds
      (subst (λ (xs : List ℕ). IsStuck IsSound xs c.drain.new.end) c.deref.ensures.value (c.drain.ensures.stuck c.in-Unreadable.is))),
)
