-- The whole text of a log.
use Rattle.std.proofs.Common.{◌≡◌, ℕ, List, ◌++◌, Option, Some, None, sym, ap, ◌∙◌, subst, codes}
use Rattle.std.specs.List.{flat_map}
use Rattle.std.specs.Prelude.{IfSome}
use Rattle.erm_ckpt.specs.Recovered.{Pair, base, slots_of, state_behind}
use Rattle.erm_node.specs.Sound.{sound_law}
use Rattle.erm_outside.specs.Disk.{Step, contents}
use Rattle.erm_recover.specs.declared.recovered.Recovered.{Recovered}
use Rattle.erm_recover.specs.declared.tail.Tail.{Tail}
use Rattle.erm_recover.specs.Recovering.{RecoveredTold}
use Rattle.erm_log.specs.declared.behind.Behind.{Behind}
use Rattle.erm_log.specs.Behind.{LiesBehind, words_behind}
use Rattle.erm_log.specs.Listed.{AddsChain, TextTold}
use Rattle.erm_log.specs.Texts.{behind_text, block_text, place_text}

-- what was recovered, the text up to the list, behind it, behind its end, and the whole
pub log_told : (told other last : Option (List Step)) (found : Recovered) (start : Tail) (behind : Behind) (first listed ended text : List ℕ) → other ≡ told → last ≡ told
    → RecoveredTold sound_law.meets told found
    → ((pair : Pair) → found.slots ≡ slots_of pair → (start.at ≡ (base pair).at) × (start.run ≡ (base pair).run))
    → first ≡ place_text (codes "from ") start.at start.run
    → IfSome other (λ steps. AddsChain (contents steps) start found.stamp first listed)
    → ended ≡ listed ++ place_text (codes "end ") found.stamp found.run
    → IfSome last (λ steps. LiesBehind (words_behind (contents steps) found.stamp) found.stamp behind)
    → text ≡ ended ++ behind_text behind
    → TextTold told text behind
log_told None other last found start behind first listed ended text same_other same_last recovered starts first_is adds ended_is lies text_is = tt
log_told (Some steps) other last found start behind first listed ended text same_other same_last (pair, recovered) starts first_is adds ended_is lies text_is =
    let here = starts pair recovered.slots in
    let state = state_behind (base pair) recovered.blocks in
    let chain = subst (λ (t : Option (List Step)). IfSome t (λ ss. AddsChain (contents ss) start found.stamp first listed)) same_other adds in
    let behind_it = subst (λ (t : Option (List Step)). IfSome t (λ ss. LiesBehind (words_behind (contents ss) found.stamp) found.stamp behind)) same_last lies in
    let blocks : List ℕ = flat_map block_text recovered.blocks in
    let from : first ≡ place_text (codes "from ") (base pair).at (base pair).run =
    first_is ∙ ap (λ (p : ℕ). place_text (codes "from ") p start.run) here.0 ∙ ap (λ (r : ℕ). place_text (codes "from ") (base pair).at r) here.1
    in
    let list : listed ≡ place_text (codes "from ") (base pair).at (base pair).run ++ blocks =
    chain (base pair) recovered.blocks recovered.recovers.list.chain (sym here.0) (sym here.1) recovered.state.at ∙ ap (λ (t : List ℕ). t ++ blocks) from
    in
    let end : place_text (codes "end ") found.stamp found.run ≡ place_text (codes "end ") state.at state.run =
    ap (λ (p : ℕ). place_text (codes "end ") p found.run) (sym recovered.state.at) ∙ ap (λ (r : ℕ). place_text (codes "end ") state.at r) (sym recovered.state.run)
    in
    record {
      pair = pair;
      blocks = recovered.blocks;
      recovers = recovered.recovers;
      lies = subst (λ (p : ℕ). LiesBehind (words_behind (contents steps) p) p behind) (sym recovered.state.at) behind_it;
      text_is = text_is ∙ ap (λ (t : List ℕ). t ++ behind_text behind) (
          ended_is ∙ ap (λ (t : List ℕ). t ++ place_text (codes "end ") found.stamp found.run) list
          ∙ ap (λ (t : List ℕ). (place_text (codes "from ") (base pair).at (base pair).run ++ blocks) ++ t) end);
    }
