use Rattle.std.proofs.Common.{◌∙◌, ◌++◌, ◌∷◌, [], List, ℕ, ap, arith}
use Rattle.erm_savepoints.specs.Saves.{rows_set}
use Rattle.erm_session.proofs.Backs.{adds_save, saving_session}
use Rattle.erm_session.proofs.session.Session.save.Goals as goal

pub returns-clause-stands : goal.returns-clause-stands
returns-clause-stands c = λ x stands. saving_session c.args.self.now c.save.new.self c.requires.active (omega (arith, c.held-held.ensures.few, c.held-held.ensures.held, c.if-held.false)) (c.save.ensures ∙ ap (λ (rows : List (List ℕ)). record c.args.self.now.saves { points = c.args.self.now.saves.points ++ rows_set rows c.args.self.now.saves.is_set ∷ [] }) c.as_slice.ensures.value) x stands

pub returns-clause-saved : goal.returns-clause-saved
returns-clause-saved c =
    adds_save c.args.self.now c.save.new.self c.requires.active (omega (arith, c.held-held.ensures.few, c.held-held.ensures.held, c.if-held.false)) (c.save.ensures ∙ ap (λ (rows : List (List ℕ)). record c.args.self.now.saves { points = c.args.self.now.saves.points ++ rows_set rows c.args.self.now.saves.is_set ∷ [] }) c.as_slice.ensures.value) c.held.result c.held.ensures.held
