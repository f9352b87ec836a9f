use Rattle.std.proofs.Common.{ℕ, sym, subst, ◌∙◌}
use Rattle.erm_cells.specs.Calls.{DidLose, DidTake, IsFoundHead}
use Rattle.erm_rule.specs.Views.{part_of}
use Rattle.erm_entries.specs.Spelling.{word_of}
use Rattle.erm_entries.proofs.Spelled.{entry_again}
use Rattle.erm_entries.proofs.claiming.claim.Goals as goal
use Rattle.erm_machine.specs.declared.event.Kind.TheVariants.{Claim}
use Rattle.erm_rule.specs.Steps.{Booked}

pub take-found-requires-clause-head : goal.take-found-requires-clause-head
take-found-requires-clause-head g c = subst (λ (n : ℕ). IsFoundHead (part_of c.args.p.now.me.0.view c.args.who).task c.args.oid n) (sym c.word-word.ensures.word) c.requires.head

pub returns-then-found-word-clause-claimed : goal.returns-then-found-word-clause-claimed
returns-then-found-word-clause-claimed g c =
    subst (λ (n : ℕ). DidTake c.args.p.now.me.0.view c.args.who c.args.oid n c.take-found.new.p.me.0.view) c.word-word.ensures.word (c.take-found.ensures.taken c.if-found-word.true)

pub returns-else-found-word-clause-lost : goal.returns-else-found-word-clause-lost
returns-else-found-word-clause-lost g c = record {
  spelled = entry_again c.of.result c.take-found.result c.of.ensures.entry;
  other = λ same. c.if-found-word.false (sym c.of.ensures.spelled ∙ same ∙ sym c.word-word.ensures.word);
  loses =
      subst (λ (n : ℕ). DidLose c.args.p.now.me.0.view c.args.who c.args.oid n (word_of c.of.result) c.take-found.new.p.me.0.view) c.word-word.ensures.word
      (subst (λ (n : ℕ). DidLose c.args.p.now.me.0.view c.args.who c.args.oid c.word-word.result n c.take-found.new.p.me.0.view) (sym c.of.ensures.spelled) (c.take-found.ensures.lost c.if-found-word.false));
}

pub returns-then-found-word-clause-took : goal.returns-then-found-word-clause-took
returns-then-found-word-clause-took g c =
    subst (λ (n : ℕ). Booked g.L.RowLaw.law c.args.p.now.me.0 c.args.who (Claim c.args.oid n c.args.number) n c.take-found.new.p.me.0) c.word-word.ensures.word
    (subst (λ (n : ℕ). Booked g.L.RowLaw.law c.args.p.now.me.0 c.args.who (Claim c.args.oid c.word-word.result c.args.number) n c.take-found.new.p.me.0) c.if-found-word.true c.take-found.ensures.booked)

pub returns-else-found-word-clause-took_other : goal.returns-else-found-word-clause-took_other
returns-else-found-word-clause-took_other g c =
    subst (λ (n : ℕ). Booked g.L.RowLaw.law c.args.p.now.me.0 c.args.who (Claim c.args.oid n c.args.number) (word_of c.of.result) c.take-found.new.p.me.0) c.word-word.ensures.word
    (subst (λ (n : ℕ). Booked g.L.RowLaw.law c.args.p.now.me.0 c.args.who (Claim c.args.oid c.word-word.result c.args.number) n c.take-found.new.p.me.0) (sym c.of.ensures.spelled) c.take-found.ensures.booked)
