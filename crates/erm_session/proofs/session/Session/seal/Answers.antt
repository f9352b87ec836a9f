use Rattle.std.proofs.Common.{ℕ, ap, subst, sym, ◌∙◌}
use Rattle.erm_session.specs.declared.session.Stage.{Stage}
use Rattle.erm_session.specs.Session.{phase_of}
use Rattle.erm_session.proofs.Goes.{not_active}
use Rattle.erm_session.proofs.Seals.{rests, rows_few, sealed_session, seals_rows, size_there}
use Rattle.erm_session.proofs.session.Session.seal.Goals as goal
use Rattle.erm_seats.specs.Took.{TookSeal}

pub returns-clause-stands : goal.returns-clause-stands
returns-clause-stands g c =
    sealed_session c.args.self.now c.in-Active.txn _ c.requires.stands (sym c.replace.ensures.value ∙ c.in-Active.is) c.block_size-size.result c.seal_steps-stamp.result _ c.as_slice.ensures.value
    c.block_size-size.ensures.size _ c.seal_steps-stamp.ensures.sealed c.seal.result c.seal.ensures

pub returns-clause-sealed : goal.returns-clause-sealed
returns-clause-sealed g c =
    seals_rows c.args.self.now c.in-Active.txn _ c.requires.stands (sym c.replace.ensures.value ∙ c.in-Active.is) c.block_size-size.result c.seal_steps-stamp.result _ c.as_slice.ensures.value
    c.block_size-size.ensures.size _ c.seal_steps-stamp.ensures.sealed

pub returns-clause-took : goal.returns-clause-took
returns-clause-took g c =
    subst (λ (n : ℕ). TookSeal g.L.RowLaw.law c.args.self.now.seat n c.seal_steps-stamp.result c.args.p.now.me.0 c.seal_steps-stamp.new.p.me.0)
    (size_there c.args.self.now c.in-Active.txn c.args.p.now.me.0.view c.requires.stands (sym c.replace.ensures.value ∙ c.in-Active.is) c.block_size-size.result c.seal_steps-stamp.result _ c.as_slice.ensures.value
    c.block_size-size.ensures.size _ c.seal_steps-stamp.ensures.sealed) c.seal_steps-stamp.ensures.took

pub unreachable-requires : goal.unreachable-requires
unreachable-requires g c = not_active c.replace.result (ap (λ (a : Stage). phase_of a) c.replace.ensures.value ∙ c.requires.active) c.in_default.not-Active

pub block_size-size-requires : goal.block_size-size-requires
block_size-size-requires g c = record {
  few = rows_few c.args.self.now c.in-Active.txn c.args.p.now.me.0.view c.requires.stands (sym c.replace.ensures.value ∙ c.in-Active.is) c.requires.known _ c.as_slice.ensures.value;
}

pub seal_steps-stamp-requires-clause-rests : goal.seal_steps-stamp-requires-clause-rests
seal_steps-stamp-requires-clause-rests g c = rests c.args.self.now c.in-Active.txn c.args.p.now.me.0.view c.requires.stands (sym c.replace.ensures.value ∙ c.in-Active.is)
