-- The padded bytes of a value, and the value in them.
use Rattle.std.proofs.Common.{◌≡◌, ℕ, ◌-◌, ◌^◌, ◌<◌, List, ◌++◌, length, take, drop, replicate, Bool, true, false, Option, refl, subst, sym, ap, ◌∙◌, arith, length-append}
use Rattle.std.proofs.lemmas.List.{length-replicate, take_at, drop-replicate}
use Rattle.std.proofs.lemmas.List.Elements.{All-append, All-replicate}
use Rattle.std.specs.Prelude.{IfSome}
use Rattle.std.specs.Bool.{then_some}
use Rattle.erm_bytes.specs.Bytes.{AreBytes}
use Rattle.erm_record.specs.Record.{IsValue, padded}

-- as many bytes as a value may have
pub length-padded : (bytes : List ℕ) → IsValue bytes → length (padded bytes) ≡ 112
length-padded bytes is = omega (arith, length-append bytes (replicate (112 - length bytes) 0), length-replicate {A = ℕ} (112 - length bytes) 0, is.1)

-- zeros are bytes too
pub AreBytes-padded : (bytes : List ℕ) → IsValue bytes → AreBytes (padded bytes)
AreBytes-padded bytes is = All-append (λ b. b < 2 ^ 8) bytes (replicate (112 - length bytes) 0) is.0 (All-replicate (λ b. b < 2 ^ 8) (112 - length bytes) 0 (omega arith))

-- the value is in front
pub take-padded : (bytes : List ℕ) → take (length bytes) (padded bytes) ≡ bytes
take-padded bytes = take_at bytes (replicate (112 - length bytes) 0) (length bytes) refl

-- what the words say of a value, if its row spells its padded bytes
pub same_value : (a b : List ℕ) → padded a ≡ padded b → length a ≡ length b → a ≡ b
same_value a b e l = sym (take-padded a) ∙ ap (take (length a)) e ∙ ap (λ (n : ℕ). take n (padded b)) l ∙ take-padded b

-- what is there passed the test
pub IfSome-then_some : {X : Type 0} (b : Bool) (x : X) (r : Option X) (P : X → Type 0) → r ≡ then_some b x → (b ≡ true → P x) → IfSome r P
IfSome-then_some {X} true x r P e h = let Q : Option X → Type 0 = λ o. IfSome o P in subst Q (sym e) (h refl)
IfSome-then_some {X} false x r P e h = let Q : Option X → Type 0 = λ o. IfSome o P in subst Q (sym e) tt

-- bytes written over zeros
pub padded_over_zeros : (bytes written : List ℕ) → written ≡ bytes → written ++ drop (length bytes) (replicate 112 0) ≡ padded bytes
padded_over_zeros bytes written same =
    ap (λ (front : List ℕ). front ++ drop (length bytes) (replicate 112 0)) same ∙ ap (λ (rest : List ℕ). bytes ++ rest) (drop-replicate {X = ℕ} (length bytes) 112 0)
