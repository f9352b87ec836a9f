use Rattle.std.proofs.Common.{◌≡◌, ℕ, List, Some, None, sym, ap, ◌∙◌}
use Rattle.erm_model.specs.Run.{Saving, back_to, saved_as}
use Rattle.erm_model.proofs.Fronts.{AreLengthsOf-back, fronts-back, fronts-none}
use Rattle.erm_model.proofs.staying.Staying.back.Goals as goal

pub invariant_of-self : goal.invariant_of-self
invariant_of-self c =
    let is : saved_as c.args.n c.self.inside.lengths.items ≡ Some c.in-Some.length = ap (λ (l : List ℕ). saved_as c.args.n l) (sym c.deref.ensures.value) ∙ sym c.nth_length.ensures ∙ c.in-Some.is in
    rw (c.truncate.ensures.items, c.truncate-in-Some.ensures.items) (AreLengthsOf-back c.self.inside.places.items c.self.inside.lengths.items c.self.invariant c.args.n c.in-Some.length is)

pub returns-in-Some : goal.returns-in-Some
returns-in-Some c =
    let is : saved_as c.args.n c.self.inside.lengths.items ≡ Some c.in-Some.length = ap (λ (l : List ℕ). saved_as c.args.n l) (sym c.deref.ensures.value) ∙ sym c.nth_length.ensures ∙ c.in-Some.is in
    rw (c.truncate.ensures.items, c.truncate-in-Some.ensures.items) (fronts-back c.self.inside.places.items c.self.inside.lengths.items c.self.invariant c.args.n c.in-Some.length is)
    ∙ ap (λ (s : Saving (List ℕ)). back_to c.args.n (saved_as c.args.n s.saved) s) c.self.view_is

pub returns-in_default : goal.returns-in_default
returns-in_default c =
    let is : saved_as c.args.n c.self.inside.lengths.items ≡ None = ap (λ (l : List ℕ). saved_as c.args.n l) (sym c.deref.ensures.value) ∙ sym c.nth_length.ensures ∙ c.in_default.is in
    sym c.self.view_is
    ∙ fronts-none c.self.inside.places.items c.self.inside.lengths.items c.self.invariant c.args.n is
    ∙ ap (λ (s : Saving (List ℕ)). back_to c.args.n (saved_as c.args.n s.saved) s) c.self.view_is
