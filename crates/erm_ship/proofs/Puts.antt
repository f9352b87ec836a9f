-- What is put behind what was put.
use Rattle.std.proofs.Common.{◌≡◌, ℕ, ◌+◌, List, [], ◌++◌, length, take, Option, None, Some, refl, sym, ap, ◌∙◌, arith, append_assoc, append-nil, length-append, inl, inr, subst}
use Rattle.std.specs.Option.{option_map}
use Rattle.std.proofs.Math.Seq.{take-append-add}
use Rattle.erm_outside.specs.Faults.{Rose}
use Rattle.erm_outside.specs.Sink.{Puts, PutsFront}
use Rattle.erm_ship.specs.Ends.{PrintsTo}

map_twice : (o : Option (List ℕ)) (xs ys : List ℕ) → option_map (λ bytes. bytes ++ ys) (option_map (λ bytes. bytes ++ xs) o) ≡ option_map (λ bytes. bytes ++ (xs ++ ys)) o
map_twice None xs ys = refl
map_twice (Some bytes) xs ys = ap Some (append_assoc bytes xs ys)

pub puts_nothing : (o : Option (List ℕ)) → Puts [] o o
puts_nothing None = refl
puts_nothing (Some bytes) = ap Some (sym (append-nil bytes))

pub puts_join : (xs ys : List ℕ) (a b c : Option (List ℕ)) → Puts xs a b → Puts ys b c → Puts (xs ++ ys) a c
puts_join xs ys a b c first second = second ∙ ap (λ (o : Option (List ℕ)). option_map (λ (bytes : List ℕ). bytes ++ ys) o) first ∙ map_twice a xs ys

pub puts_front : (xs ys : List ℕ) (a b c : Option (List ℕ)) → Puts xs a b → PutsFront ys b c → PutsFront (xs ++ ys) a c
puts_front xs ys a b c first second = (
  length xs + second.0,
  omega (arith, second.1, length-append xs ys),
  subst (λ (text : List ℕ). Puts text a c) (sym (take-append-add xs ys second.0)) (puts_join xs (take second.0 ys) a b c first second.2),
)

pub prints_join : (xs ys : List ℕ) (a b c : Option (List ℕ)) (k m n : ℕ) → Puts xs a b → m ≡ k → PrintsTo ys b c m n → PrintsTo (xs ++ ys) a c k n
prints_join xs ys a b c k m n first sound second = elim second [
  | inl all ↦ inl (puts_join xs ys a b c first all.0, all.1 ∙ sound)
  | inr cut ↦ inr (puts_front xs ys a b c first cut.0, subst (λ (x : ℕ). Rose x n) sound cut.1)
]
