-- Bytes put, a part after a part.
use Rattle.std.proofs.Common.{◌≡◌, ℕ, ◌+◌, List, ◌++◌, take, drop, Option, Some, None, refl, sym, ap, ◌∙◌, append_assoc}
use Rattle.std.specs.Option.{option_map}
use Rattle.std.proofs.Math.Seq.{take-add}
use Rattle.erm_outside.specs.Sink.{Puts}

joined : (bytes : List ℕ) (at n : ℕ) (before : Option (List ℕ)) →
    option_map (λ b. b ++ take n (drop at bytes)) (option_map (λ b. b ++ take at bytes) before) ≡ option_map (λ b. b ++ take (at + n) bytes) before
joined bytes at n None = refl
joined bytes at n (Some b) = ap (λ x. Some x) (append_assoc b (take at bytes) (take n (drop at bytes)) ∙ ap (λ x. b ++ x) (sym (take-add at n bytes)))

-- a text put up to a place, and then some more of it
pub puts_more : (bytes : List ℕ) (at n : ℕ) (before mid after : Option (List ℕ)) → Puts (take at bytes) before mid →
    after ≡ option_map (λ b. b ++ take n (drop at bytes)) mid → Puts (take (at + n) bytes) before after
puts_more bytes at n before mid after put more = more ∙ ap (λ o. option_map (λ b. b ++ take n (drop at bytes)) o) put ∙ joined bytes at n before
