-- Going over the blocks in words.
use Rattle.std.proofs.Common.{◌≡◌, ℕ, ◌+◌, ◌-◌, ◌<◌, ◌≤◌, List, [], ◌∷◌, ◌++◌, length, take, drop, refl, sym, ap, ◌∙◌, subst, arith, append_assoc, length-append, length-drop}
use Rattle.std.proofs.lemmas.List.{drop_at}
use Rattle.std.specs.List.{flat_map}
use Rattle.erm_block.specs.declared.block.Block.{Block}
use Rattle.erm_block.specs.declared.block.TheConstants.{BLOCK_WORDS}
use Rattle.erm_block.specs.Block.{IsBlock}
use Rattle.erm_block.specs.LogList.{End, IsChain, end_of}
use Rattle.erm_block.specs.Spelling.{StandsAt, spelling}
use Rattle.erm_ckpt.specs.Recovered.{State, end_at, state_behind}
use Rattle.erm_outside.specs.Disk.{Image}
use Rattle.erm_model.specs.Rows.{Rows}
use Rattle.erm_recover.specs.Lists.{end_in}
use Rattle.erm_recover.proofs.Chains.{IsChain-append, end_of-words, state_after, state_behind-append, state_behind-low}
use Rattle.erm_replica.specs.declared.item.LogPlace.{LogPlace}
use Rattle.erm_ship.specs.Leads.{Any, Going, IsNext, LeadTo, Leads, state_at}
use Rattle.erm_ship.specs.Sends.{AreBlocks}

-- ---- how far

-- how far blocks lead doesn't depend on rows
pub behind_same : (s t : State) (xs : List Block) → s.at ≡ t.at → s.run ≡ t.run → ((state_behind s xs).at ≡ (state_behind t xs).at) × ((state_behind s xs).run ≡ (state_behind t xs).run)
behind_same s t [] at run = (at, run)
behind_same s t (x ∷ xs) at run = behind_same (state_after x s) (state_after x t) xs (ap (λ (n : ℕ). n + x.size) at) refl

pub lead_on : (start mid next : LogPlace) (xs ys : List Block) → LeadTo start xs mid → LeadTo mid ys next → LeadTo start (xs ++ ys) next
lead_on start mid next xs ys first second =
    let joined = state_behind-append (state_at start) xs ys in
    let same = behind_same (state_behind (state_at start) xs) (state_at mid) ys first.at first.run in
    record {
      at = ap (λ (s : State). s.at) joined ∙ same.0 ∙ second.at;
      run = ap (λ (s : State). s.run) joined ∙ same.1 ∙ second.run;
    }

-- ---- chains, whatever the rows

-- a chain is one from a state that says the same but for the rows
pub as_any : (sound : Rows → Type 0) (words : List ℕ) (s t : State) (xs : List Block) → s.at ≡ t.at → s.run ≡ t.run → IsChain sound (end_in words s) xs → IsChain Any (end_in words t) xs
as_any sound words s t [] at run chain = tt
as_any sound words s t (x ∷ xs) at run (first, chain) = (
  record {
    stands = subst (λ (p : ℕ). StandsAt words x p t.run) at (subst (λ (r : ℕ). StandsAt words x s.at r) run first.stands);
    rows = tt;
  },
  as_any sound (drop x.size words) (state_after x s) (state_after x t) xs (ap (λ (n : ℕ). n + x.size) at) refl chain,
)

pub blocks_are : (words : List ℕ) (s : State) (xs : List Block) → IsChain Any (end_in words s) xs → AreBlocks s.at s.run xs
blocks_are words s [] chain = tt
blocks_are words s (x ∷ xs) (first, chain) = (first.stands.is, blocks_are (drop x.size words) (state_after x s) xs chain)

pub blocks_join : (s : State) (xs ys : List Block) → AreBlocks s.at s.run xs → AreBlocks (state_behind s xs).at (state_behind s xs).run ys → AreBlocks s.at s.run (xs ++ ys)
blocks_join s [] ys are behind = behind
blocks_join s (x ∷ xs) ys (first, are) behind = (first, blocks_join (state_after x s) xs ys are behind)

-- ---- one block more

pub going_nowhere : (words : List ℕ) (start : LogPlace) (end : ℕ) → start.at ≤ end → Going words start end start
going_nowhere words start end high = record { blocks = []; chain = tt; lead = record { at = refl; run = refl }; low = omega arith; there = omega arith; high = high }

-- a block stands where those before it lead
stands_behind : (words : List ℕ) (start place : LogPlace) (xs : List Block) (b : Block) → LeadTo start xs place → StandsAt (drop (place.at - start.at) words) b place.at place.run
    → StandsAt (drop ((state_behind (state_at start) xs).at - start.at) words) b (state_behind (state_at start) xs).at (state_behind (state_at start) xs).run
stands_behind words start place xs b lead stands =
    subst (λ (p : ℕ). StandsAt (drop (p - start.at) words) b p (state_behind (state_at start) xs).run) (sym lead.at)
    (subst (λ (r : ℕ). StandsAt (drop (place.at - start.at) words) b place.at r) (sym lead.run) stands)

pub going_on : (words rest : List ℕ) (start place next : LogPlace) (end : ℕ) → rest ≡ drop (place.at - start.at) words → Going words start end place → IsNext rest place end next → Going words start end next
going_on words rest start place next end rest_is going one =
    let xs = going.blocks in
    let here : StandsAt (drop (place.at - start.at) words) one.block place.at place.run = subst (λ (ws : List ℕ). StandsAt ws one.block place.at place.run) rest_is one.stands in
    let single : IsChain Any (end_in (drop ((state_behind (state_at start) xs).at - start.at) words) (state_behind (state_at start) xs)) (one.block ∷ []) =
    (record { stands = stands_behind words start place xs one.block going.lead here; rows = tt }, tt)
    in
    record {
      blocks = xs ++ one.block ∷ [];
      chain = IsChain-append Any (end_in words (state_at start)) xs (one.block ∷ []) going.chain
          (subst (λ (e : End). IsChain Any e (one.block ∷ [])) (sym (end_of-words words (state_at start) xs)) single);
      lead = lead_on start place next xs (one.block ∷ []) going.lead (record { at = sym one.at; run = sym one.run });
      low = omega (arith, going.low, one.above);
      there = omega (arith, one.there, going.low, going.there, ap length rest_is, length-drop (place.at - start.at) words);
      high = one.high;
    }

pub going_ends : (words rest : List ℕ) (start place : LogPlace) (end : ℕ) → rest ≡ drop (place.at - start.at) words → Going words start end place
    → ((block : Block) → StandsAt rest block place.at place.run → end < place.at + block.size) → (place.at ≡ start.at → place.run ≡ start.run) → Leads words start end place
going_ends words rest start place end rest_is going none same = record {
  going = going;
  none = λ here block stands.
      let all : rest ≡ words = rest_is ∙ ap (λ (n : ℕ). drop n words) (let e : place.at - start.at ≡ 0 = omega (arith, here) in e) in
      let there : StandsAt rest block place.at place.run =
      subst (λ (ws : List ℕ). StandsAt ws block place.at place.run) (sym all)
      (subst (λ (p : ℕ). StandsAt words block p place.run) (sym here) (subst (λ (r : ℕ). StandsAt words block start.at r) (sym (same here)) stands))
      in
      omega (arith, here, none block there);
}

module _
    (size : (block : Block) (at run : ℕ) → IsBlock block at run → length (spelling block) ≡ block.size) where
  pub size_some : (block : Block) (at run : ℕ) → IsBlock block at run → 0 < block.size
  size_some block at run is = omega (arith, size block at run is)

  -- blocks that lead nowhere are none
  pub leads_nowhere : (start place : LogPlace) (xs : List Block) → AreBlocks start.at start.run xs → LeadTo start xs place → place.at ≡ start.at → (xs ≡ []) × (place.run ≡ start.run)
  leads_nowhere start place [] are lead same = (refl, sym lead.run)
  leads_nowhere start place (x ∷ xs) (first, are) lead same =
      absurd (omega (arith, same, size_some x start.at start.run first, state_behind-low (state_after x (state_at start)) xs, lead.at))

  -- the words of a chain
  pub record SpellsChain (words : List ℕ) (s : State) (xs : List Block) : Type 0 where
    pub rest : List ℕ
    pub words_are : words ≡ flat_map spelling xs ++ rest
    pub count : s.at + length (flat_map spelling xs) ≡ (state_behind s xs).at

  pub spells_chain : (words : List ℕ) (s : State) (xs : List Block) → IsChain Any (end_in words s) xs → SpellsChain words s xs
  spells_chain words s [] chain = record { rest = words; words_are = refl; count = omega arith }
  spells_chain words s (x ∷ xs) (first, chain) =
      let spelled = first.stands.spelled in
      let count = size x s.at s.run first.stands.is in
      let behind : drop x.size words ≡ spelled.0 = ap (drop x.size) spelled.1 ∙ drop_at (spelling x) spelled.0 x.size count in
      let others = spells_chain (drop x.size words) (state_after x s) xs chain in
      record {
        rest = others.rest;
        words_are = spelled.1 ∙ ap (λ (ws : List ℕ). spelling x ++ ws) (sym behind ∙ others.words_are) ∙ sym (append_assoc (spelling x) (flat_map spelling xs) others.rest);
        count = omega (arith, others.count, count, length-append (spelling x) (flat_map spelling xs));
      }
