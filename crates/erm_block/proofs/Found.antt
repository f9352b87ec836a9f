-- What a test of a block says of the answer.
use Rattle.std.proofs.Common.{◌≡◌, ℕ, List, ◌++◌, length, drop, Bool, true, false, Option, Some, sym, ap, subst, ◌∙◌, refl}
use Rattle.std.specs.Prelude.{IfSome}
use Rattle.std.specs.Bool.{then_some}
use Rattle.std.specs.List.{starts_with}
use Rattle.std.proofs.Math.Dec.{eqb}
use Rattle.std.proofs.lemmas.Bool.Decides.{Decides-eqb}
use Rattle.std.proofs.lemmas.Slice.Eq.{starts_is}
use Rattle.erm_block.specs.declared.block.Block.{Block}
use Rattle.erm_block.specs.Spelling.{spelling, Spells}

-- there is a value only if the test was true
pub IfSome-then_some : {X : Type 0} (b : Bool) (x : X) (r : Option X) (P : X → Type 0) → r ≡ then_some b x → (b ≡ true → P x) → IfSome r P
IfSome-then_some {X} true x r P e h = let Q : Option X → Type 0 = λ o. IfSome o P in subst Q (sym e) (h refl)
IfSome-then_some {X} false x r P e h = let Q : Option X → Type 0 = λ o. IfSome o P in subst Q (sym e) tt

-- there is the value if the test was true
pub Some-then_some : {X : Type 0} (b : Bool) (x : X) (r : Option X) → r ≡ then_some b x → b ≡ true → r ≡ Some x
Some-then_some b x r e was = e ∙ ap (λ (c : Bool). then_some c x) was

-- words that begin with a block's spelling spell it
pub Spells-from_starts_with : (words front : List ℕ) (block : Block) (r : Bool) → r ≡ starts_with eqb words front → front ≡ spelling block → r ≡ true → Spells words block
Spells-from_starts_with words front block r e is found =
    let parts : words ≡ front ++ drop (length front) words = (starts_is Decides-eqb words front r e).0 found in
    (drop (length front) words, parts ∙ ap (λ (ws : List ℕ). ws ++ drop (length front) words) is)

-- words that spell a block begin with its spelling
pub starts_with-from_Spells : (words front : List ℕ) (block : Block) (r : Bool) → r ≡ starts_with eqb words front → front ≡ spelling block → Spells words block → r ≡ true
starts_with-from_Spells words front block r e is (rest, spelled) =
    (starts_is Decides-eqb words front r e).1 rest (spelled ∙ ap (λ (ws : List ℕ). ws ++ rest) (sym is))
