use Rattle.std.proofs.Common.{subst, ◌≡◌, ap, sym, ◌∙◌, ◌++◌, ◌∷◌, [], refl}
use Rattle.std.proofs.lemmas.List.{map-append}
use Rattle.erm_model.specs.Member.{◌∈◌}
use Rattle.erm_script.proofs.Seats.{is_unnamed}
use Rattle.erm_script.proofs.sessions.Sessions.add.Goals as goal

pub returns : goal.returns
returns c =
    let known = c.self.inside.names.keys in
    let name = c.bytes_of.result in
    let new = is_unnamed (λ k. k.items) name.items known (rw c.bytes_of.ensures (subst (λ names. c.args.name.now ∈ names → ⊥) (sym c.self.view_is) c.requires)) in
    let keys : c.insert.new.self.keys ≡ known ++ name ∷ [] = c.in_ok-insert.ensures.keys ∙ (rw new refl) in
    rw keys (map-append (λ k. k.items) known (name ∷ []) ∙ (rw c.bytes_of.ensures (ap (λ names. names ++ c.args.name.now ∷ []) c.self.view_is)))
