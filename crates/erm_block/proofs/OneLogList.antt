-- Words have one log list.
use Rattle.std.proofs.Common.{◌≡◌, ℕ, ◌-◌, ◌≤◌, List, [], ◌∷◌, ◌++◌, length, take, replicate, refl, sym, ap, ◌∙◌, subst, arith}
use Rattle.erm_model.specs.Rows.{Rows}
use Rattle.erm_record.specs.Stored.{stored_length}
use Rattle.erm_block.specs.declared.block.Block.{Block}
use Rattle.erm_block.specs.LogList.{Continues, End, end_after, end_of, IsChain, IsLogList}
use Rattle.erm_block.proofs.OneSpelling.{same_from_spelling}

-- one more block goes on from the end
pub IsChain-push : (sound : Rows → Type 0) (end : End) (blocks : List Block) (block : Block) → IsChain sound end blocks → Continues sound (end_of end blocks) block → IsChain sound end (blocks ++ block ∷ [])
IsChain-push sound end [] block chain next = (next, tt)
IsChain-push sound end (b ∷ bs) block (first, chain) next = (first, IsChain-push sound (end_after b end) bs block chain next)

module _
    (short : (row : List ℕ) → stored_length row ≤ length row) (whole : (row : List ℕ) → take (stored_length row) row ++ replicate (length row - stored_length row) 0 ≡ row)
    (sound : Rows → Type 0) where
  -- two blocks that go on from one end are one
  same_next : (end : End) (a b : Block) → Continues sound end a → Continues sound end b → a ≡ b
  same_next end a b one other =
      same_from_spelling short whole a b end.at end.run end.at end.run one.stands.spelled.0 other.stands.spelled.0 one.stands.is other.stands.is
      (sym one.stands.spelled.1 ∙ other.stands.spelled.1)

  -- chains of one length are one
  same_chain : (end : End) (xs ys : List Block) → IsChain sound end xs → IsChain sound end ys → length xs ≡ length ys → xs ≡ ys
  same_chain end [] [] chain_a chain_b count = refl
  same_chain end [] (b ∷ ys) chain_a chain_b count = absurd (omega (arith, count))
  same_chain end (a ∷ xs) [] chain_a chain_b count = absurd (omega (arith, count))
  same_chain end (a ∷ xs) (b ∷ ys) (first_a, chain_a) (first_b, chain_b) count =
      let first : a ≡ b = same_next end a b first_a first_b in
      let moved = subst (λ (c : Block). IsChain sound (end_after c end) ys) (sym first) chain_b in
      ap (λ (c : Block). c ∷ xs) first ∙ ap (λ (cs : List Block). b ∷ cs) (same_chain (end_after a end) xs ys chain_a moved (omega (arith, count)))

  -- the longest is one
  pub same_log_list : (end : End) (xs ys : List Block) → IsLogList sound end xs → IsLogList sound end ys → xs ≡ ys
  same_log_list end xs ys list_a list_b =
      same_chain end xs ys list_a.chain list_b.chain (omega (arith, list_a.longest ys list_b.chain, list_b.longest xs list_a.chain))

  -- no chain is longer than one from whose end no block goes on
  length-chain_le : (end : End) (xs ys : List Block) → IsChain sound end xs → ((block : Block) → Continues sound (end_of end xs) block → ⊥) → IsChain sound end ys → length ys ≤ length xs
  length-chain_le end [] [] chain_a stops chain_b = omega arith
  length-chain_le end [] (b ∷ ys) chain_a stops (first_b, chain_b) = absurd (stops b first_b)
  length-chain_le end (a ∷ xs) [] chain_a stops chain_b = omega arith
  length-chain_le end (a ∷ xs) (b ∷ ys) (first_a, chain_a) stops (first_b, chain_b) =
      let first : a ≡ b = same_next end a b first_a first_b in
      let moved = subst (λ (c : Block). IsChain sound (end_after c end) ys) (sym first) chain_b in
      omega (arith, length-chain_le (end_after a end) xs ys chain_a stops moved)

  -- such a chain is the log list
  pub IsLogList-from_stop : (end : End) (blocks : List Block) → IsChain sound end blocks → ((block : Block) → Continues sound (end_of end blocks) block → ⊥) → IsLogList sound end blocks
  IsLogList-from_stop end blocks chain stops = record {
    chain = chain;
    longest = λ others other. length-chain_le end blocks others chain stops other;
  }
