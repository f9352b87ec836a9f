-- What a pass knows of the log goes on: blocks stay known, and those gathered behind them are known too.
use Rattle.std.proofs.Common.{◌≡◌, ℕ, List, ◌++◌, sym, ap, ◌∙◌, subst}
use Rattle.erm_block.specs.declared.block.Block.{Block}
use Rattle.erm_core_flush.specs.Turns.{Blocks}
use Rattle.erm_core_turns.proofs.LogIs.{Lists}
use Rattle.erm_gathered.proofs.Lasting.{BlocksBehind, BlocksStay, has_after, has_both}
use Rattle.erm_log_disk.proofs.Chains.{chain_may_stand}
use Rattle.erm_log_list.specs.LogOf.{IsDecidedUpTo}
use Rattle.erm_machine.specs.Core.{Core}
use Rattle.erm_model.specs.RowTransaction.{Law}
use Rattle.erm_ring.specs.Turns.{HasBlocks}
use Rattle.erm_rule.specs.declared.view.Book.{Book}
use Rattle.erm_rule.specs.declared.view.Start.{Start}
use Rattle.erm_rule.specs.Books.{IsAfter, IsBookOf}
use Rattle.erm_world.specs.Log.{IsLog, place_behind, words_of}
use Rattle.erm_desk.specs.Known.{KnowsBlocks, flushed_log}
use Rattle.erm_desk.proofs.Fronts.{OneSpelling, front_of}
use Rattle.erm_desk.proofs.Lawful.{UnderLaw}
use Rattle.erm_desk.proofs.Listed.{ends_at, log_is, words_upto}
use Rattle.erm_desk.proofs.Opened.{IsOf, state_is}

-- blocks more are known, and these are their words
pub record Grows (law : Law) (o : Start) (e : Book) (old : List Block) (to : ℕ) (words : List ℕ) : Type 0 where
  pub more : List Block
  pub words_are : words ≡ words_of more
  pub to_is : place_behind o.tail (old ++ more) ≡ to
  pub knows : KnowsBlocks law o e (old ++ more)

-- what is known stays known
pub knows_after : BlocksStay → (law : Law) (o : Start) (b e : Book) (blocks : List Block) → IsAfter b e → e.start ≡ b.start → KnowsBlocks law o b blocks → KnowsBlocks law o e blocks
knows_after stay law o b e blocks goes start knows = record {
  start = start ∙ knows.start;
  log = knows.log;
  whole = has_after stay o.tail (place_behind o.tail blocks) (words_of blocks) b e goes knows.whole;
}

module _ (law : Law) (lists : Lists law) (one : OneSpelling) (stay : BlocksStay) (behind : BlocksBehind) (o : Start) (b e : Book) (old : List Block) (knows : KnowsBlocks law o b old) where
  pub grows : (from to : ℕ) (words : List ℕ) → from ≡ place_behind o.tail old → IsAfter b e → ((c : Core) → IsBookOf e c → HasBlocks from to words c)
      → (u : UnderLaw law b.start e) → IsDecidedUpTo u.core to → Grows law o e old to words
  grows from to words here goes new u upto =
      let start : e.start ≡ o = u.start ∙ knows.start in
      let of : IsOf o u.core = subst (λ (s : Start). IsOf s u.core) start (state_is e u.core u.is) in
      let before = knows_after stay law o b e old goes u.start knows in
      let all : (c : Core) → IsBookOf e c → HasBlocks o.tail to (words_of old ++ words) c =
      λ c is. has_both behind o.tail from to (words_of old) words c (subst (λ (p : ℕ). HasBlocks o.tail p (words_of old) c) (sym here) (before.whole c is)) (new c is)
      in
      let found = lists u.core to u.under upto in
      let at_core = all u.core u.is in
      let lie = subst (λ (p : ℕ). Blocks u.core.seats p at_core.ranges to) (sym of.opening) at_core.blocks in
      let same = at_core.words_are ∙ words_upto u.core u.under.sound law to upto found.0 found.1 at_core.ranges lie in
      let log : IsLog law.meets (flushed_log o found.0) = log_is law o u.core u.under of to found.0 found.1 upto.within in
      let ends : place_behind o.tail found.0 ≡ to = ends_at law o u.core u.under of to found.0 found.1 in
      let cut = front_of one law.meets old found.0 _ _ words (chain_may_stand law.meets _ old knows.log.chain) (chain_may_stand law.meets _ found.0 log.chain) (sym same) in
      record {
        more = cut.0;
        words_are = sym cut.2;
        to_is = ap (place_behind o.tail) (sym cut.1) ∙ ends;
        knows = subst (KnowsBlocks law o e) cut.1
            (record { start = start; log = log; whole = λ c is. subst (λ (p : ℕ). HasBlocks o.tail p (words_of found.0) c) (sym ends) (subst (λ (ws : List ℕ). HasBlocks o.tail to ws c) same (all c is)) });
      }
