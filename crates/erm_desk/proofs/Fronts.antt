-- Of two lists of blocks, where the words of one begin with those of the other, so do the blocks.
use Rattle.std.proofs.Common.{◌≡◌, ℕ, List, [], ◌∷◌, ◌++◌, append_assoc, sym, ap, ◌∙◌, refl}
use Rattle.std.proofs.lemmas.List.{append_cancel_left}
use Rattle.erm_block.specs.declared.block.Block.{Block}
use Rattle.erm_block.specs.Block.{IsBlock}
use Rattle.erm_block.specs.LogList.{End, end_after}
use Rattle.erm_block.specs.Spelling.{spelling}
use Rattle.erm_log_disk.specs.Chains.{MayStand}
use Rattle.erm_model.specs.Rows.{Rows}
use Rattle.erm_world.specs.Log.{words_of}

-- no block's spelling begins another's
abbrev pub OneSpelling : Type 0
OneSpelling = (a b : Block) (at_a run_a at_b run_b : ℕ) (x y : List ℕ) → IsBlock a at_a run_a → IsBlock b at_b run_b → spelling a ++ x ≡ spelling b ++ y → a ≡ b

none_spelled : (word : ℕ) (words : List ℕ) → [] ≡ word ∷ words → ⊥
none_spelled word words same = cc

module _ (one : OneSpelling) (sound : Rows → Type 0) where
  pub front_of : (xs ys : List Block) (a b : End) (rest : List ℕ) → MayStand sound a xs → MayStand sound b ys → words_of ys ≡ words_of xs ++ rest
      → (more : List Block) × (ys ≡ xs ++ more) × (words_of more ≡ rest)
  front_of [] ys a b rest first second same = (ys, refl, same)
  front_of (x ∷ xs) [] a b rest first second same = absurd (none_spelled _ _ same)
  front_of (x ∷ xs) (y ∷ ys) a b rest first second same =
      let all : spelling y ++ words_of ys ≡ spelling x ++ (words_of xs ++ rest) = same ∙ append_assoc (spelling x) (words_of xs) rest in
      let is : y ≡ x = one y x b.at b.run a.at a.run (words_of ys) (words_of xs ++ rest) second.0 first.0 all in
      let behind : words_of ys ≡ words_of xs ++ rest =
      append_cancel_left (spelling x) (words_of ys) (words_of xs ++ rest) (ap (λ (z : Block). spelling z ++ words_of ys) (sym is) ∙ all) in
      let found = front_of xs ys (end_after x a) (end_after y b) rest first.2 second.2 behind in
      (found.0, ap (λ (z : Block). z ∷ ys) is ∙ ap (λ (zs : List Block). x ∷ zs) found.1, found.2)
