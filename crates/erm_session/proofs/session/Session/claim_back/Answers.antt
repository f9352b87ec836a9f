use Rattle.std.proofs.Common.{◌∙◌, List, ℕ, Option, sym, subst}
use Rattle.std.specs.Prelude.{[], slice_index_or}
use Rattle.erm_session.specs.Saving.{ClaimGoesBack, TookClaimBack}
use Rattle.erm_session.proofs.session.Session.claim_back.Goals as goal

pub returns-in-Some-clause-back : goal.returns-in-Some-clause-back
returns-in-Some-clause-back g c =
    subst (λ (s : Option (List ℕ)). ClaimGoesBack c.args.p.now.me.0.view c.args.self.now.seat c.args.place s c.set_row.new.p.me.0.view) (sym c.in-Some.is ∙ c.row_at.ensures) c.set_row.ensures.back

pub returns-in-Some-clause-took : goal.returns-in-Some-clause-took
returns-in-Some-clause-took g c =
    subst (λ (s : Option (List ℕ)). TookClaimBack g.L.RowLaw.law c.args.self.now.seat c.args.place s (slice_index_or c.args.self.now.saves.found c.args.place []) c.args.p.now.me.0 c.set_row.new.p.me.0) (sym c.in-Some.is ∙ c.row_at.ensures)
    (record { cell = c.set_row.ensures.stores.0; of = c.set_row.ensures.stores.1; stores = c.set_row.ensures.stores.2 })

pub returns-in-None-clause-back : goal.returns-in-None-clause-back
returns-in-None-clause-back g c =
    subst (λ (s : Option (List ℕ)). ClaimGoesBack c.args.p.now.me.0.view c.args.self.now.seat c.args.place s c.unset_row.new.p.me.0.view) (sym c.in-None.is ∙ c.row_at.ensures) c.unset_row.ensures.back

pub returns-in-None-clause-took : goal.returns-in-None-clause-took
returns-in-None-clause-took g c =
    subst (λ (s : Option (List ℕ)). TookClaimBack g.L.RowLaw.law c.args.self.now.seat c.args.place s (slice_index_or c.args.self.now.saves.found c.args.place []) c.args.p.now.me.0 c.unset_row.new.p.me.0) (sym c.in-None.is ∙ c.row_at.ensures) c.unset_row.ensures.took
