-- A reader that tells its bytes, as a source.
use Rattle.std.proofs.Common.{◌≡◌, ℕ, ◌≤◌, Bool, true, false, List, [], ◌++◌, length, take, drop, Option, None, Some, IfSome, IsSome, refl, sym, ◌∙◌, ap, arith, length-append}
use Rattle.std.proofs.lemmas.List.{take_at, drop_at, length-take-le}
use Rattle.std.specs.Io.KnownBytes.{Consumes, IsAtEnd}
use Rattle.erm_outside.specs.Source.{Takes}
use Rattle.erm_outside_real.specs.Streams.{known_if}

none_is : IsSome {T = List ℕ} None → ⊥
none_is h = cc

-- bytes were taken from the front of those that were left
takes_front : (xs ys buf : List ℕ) (n : ℕ) → n ≤ length buf → xs ≡ take n buf ++ ys → (n ≡ 0 → ys ≡ []) → Takes xs n buf (Some ys)
takes_front xs ys buf n le e end =
    let size : length (take n buf) ≡ n = length-take-le n buf le in
    record {
      there = omega (arith, ap length e, length-append (take n buf) ys, size);
      front = sym (ap (take n) e ∙ take_at (take n buf) ys n size);
      rest = ap Some (sym (ap (drop n) e ∙ drop_at (take n buf) ys n size));
      end = λ z. e ∙ ap (λ k. take k buf ++ ys) z ∙ end z;
    }

pub takes_if : (tells : Bool) (old new : Option (List ℕ)) (buf : List ℕ) (n : ℕ) → (tells ≡ true → IsSome old) → n ≤ length buf
    → Consumes old new (take n buf) → (n ≡ 0 → IsAtEnd new) → IfSome (known_if tells old) (λ bytes. Takes bytes n buf (known_if tells new))
takes_if false old new buf n is le consumes end = tt
takes_if true None new buf n is le consumes end = absurd (none_is (is refl))
takes_if true (Some xs) None buf n is le consumes end = absurd consumes
takes_if true (Some xs) (Some ys) buf n is le consumes end = takes_front xs ys buf n le consumes end
