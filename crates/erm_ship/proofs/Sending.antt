-- Blocks of a disk's log that are put, some after some.
use Rattle.std.proofs.Common.{◌≡◌, ℕ, ◌+◌, ◌-◌, ◌^◌, ◌<◌, ◌≤◌, ◌⊎◌, List, [], ◌∷◌, ◌++◌, length, take, drop, Option, Some, None, refl, sym, ap, ◌∙◌, subst, arith, inl, inr, append-nil, length-append}
use Rattle.std.specs.Prelude.{IfSome}
use Rattle.std.specs.List.{flat_map}
use Rattle.std.proofs.lemmas.List.{take_at}
use Rattle.std.proofs.lemmas.List.Concat.{flat_map-append}
use Rattle.std.proofs.lemmas.List.Elements.{All-append, All-take}
use Rattle.std.proofs.Math.Seq.{take-append-add}
use Rattle.std.specs.Int.{w64, to_le_bytes}
use Rattle.erm_bytes.specs.Bytes.{AreWords, bytes_of}
use Rattle.erm_model.specs.Rows.{Rows}
use Rattle.erm_block.specs.declared.block.Block.{Block}
use Rattle.erm_block.specs.declared.block.TheConstants.{BLOCK_WORDS}
use Rattle.erm_block.specs.Block.{IsBlock}
use Rattle.erm_block.specs.LogList.{End, IsChain, end_of}
use Rattle.erm_block.specs.Spelling.{StandsAt, spelling}
use Rattle.erm_ckpt.specs.Recovered.{State, end_at, state_behind}
use Rattle.erm_log_words.specs.Words.{log_words}
use Rattle.erm_outside.specs.Disk.{Image, Step, contents}
use Rattle.erm_outside.specs.Faults.{Rose}
use Rattle.erm_outside.specs.Sink.{Puts, PutsFront}
use Rattle.erm_recover.specs.Lists.{end_in}
use Rattle.erm_recover.proofs.Chains.{IsChain-append, chain_front, end_of-image, state_after, state_behind-append, state_behind-low}
use Rattle.erm_replica.specs.declared.item.LogPlace.{LogPlace}
use Rattle.erm_ship.specs.declared.stop.ShipStop.{ShipStop}
use Rattle.erm_ship.specs.declared.stop.ShipStop.TheVariants as stop
use Rattle.erm_ship.specs.Leads.{Any, Going, LeadTo, Leads, state_at}
use Rattle.erm_ship.specs.Sends.{AreBlocks, NoneLead, SendsAll, SendsOne, Sent, StopsIn, blocks_text}
use Rattle.erm_ship.proofs.Leading.{as_any, behind_same, blocks_are, blocks_join, lead_on, leads_nowhere, size_some, spells_chain}
use Rattle.erm_ship.proofs.Puts.{puts_front, puts_join, puts_nothing}

pub blocks_text-join : (xs ys : List Block) → blocks_text (xs ++ ys) ≡ blocks_text xs ++ blocks_text ys
blocks_text-join xs ys = ap bytes_of (flat_map-append spelling xs ys) ∙ flat_map-append (to_le_bytes w64) (flat_map spelling xs) (flat_map spelling ys)

-- the log of an image from a state on, whatever its rows
any_from : (sound : Rows → Type 0) (image : Image) (s t : State) (xs : List Block) → s.at ≡ t.at → s.run ≡ t.run → IsChain sound (end_at image s) xs → IsChain Any (end_at image t) xs
any_from sound image s t xs at run chain =
    subst (λ (p : ℕ). IsChain Any (end_in (log_words image p) t) xs) at (as_any sound (log_words image s.at) s t xs at run chain)

pub from_list : (sound : Rows → Type 0) (image : Image) (s : State) (start : LogPlace) (xs : List Block) → s.at ≡ start.at → s.run ≡ start.run → IsChain sound (end_at image s) xs
    → IsChain Any (end_at image (state_at start)) xs
from_list sound image s start xs at run chain = any_from sound image s (state_at start) xs at run chain

pub sent_nothing : (told : Option (List Step)) (start : LogPlace) → Sent told start [] start
sent_nothing told start = record { are = tt; lead = record { at = refl; run = refl }; words = λ k d low. absurd (omega (arith, low)); there = none told } where
  none : (told : Option (List Step)) → IfSome told (λ steps. IsChain Any (end_at (contents steps) (state_at start)) [])
  none None = tt
  none (Some steps) = tt

module _
    (size : (block : Block) (at run : ℕ) → IsBlock block at run → length (spelling block) ≡ block.size)
    (most : (block : Block) (at run : ℕ) → IsBlock block at run → block.size ≤ BLOCK_WORDS) where
  -- ---- in a disk's log

  chains_join : (image : Image) (start mid : LogPlace) (xs ys : List Block) → LeadTo start xs mid → IsChain Any (end_at image (state_at start)) xs → IsChain Any (end_at image (state_at mid)) ys
      → IsChain Any (end_at image (state_at start)) (xs ++ ys)
  chains_join image start mid xs ys lead chain behind =
      let moved : IsChain Any (end_at image (state_behind (state_at start) xs)) ys = any_from Any image (state_at mid) (state_behind (state_at start) xs) ys (sym lead.at) (sym lead.run) behind in
      IsChain-append Any (end_at image (state_at start)) xs ys chain
      (subst (λ (e : End). IsChain Any e ys) (sym (end_of-image size most Any image (state_at start) xs chain)) moved)

  told_join : (told : Option (List Step)) (start mid : LogPlace) (xs ys : List Block) → LeadTo start xs mid → IfSome told (λ steps. IsChain Any (end_at (contents steps) (state_at start)) xs)
      → IfSome told (λ steps. IsChain Any (end_at (contents steps) (state_at mid)) ys) → IfSome told (λ steps. IsChain Any (end_at (contents steps) (state_at start)) (xs ++ ys))
  told_join None start mid xs ys lead first second = tt
  told_join (Some steps) start mid xs ys lead first second = chains_join (contents steps) start mid xs ys lead first second

  pub sent_join : (told : Option (List Step)) (start mid next : LogPlace) (xs ys : List Block) → Sent told start xs mid → Sent told mid ys next → Sent told start (xs ++ ys) next
  sent_join told start mid next xs ys first second =
      let behind : AreBlocks (state_behind (state_at start) xs).at (state_behind (state_at start) xs).run ys =
      subst (λ (p : ℕ). AreBlocks p (state_behind (state_at start) xs).run ys) (sym first.lead.at) (subst (λ (r : ℕ). AreBlocks mid.at r ys) (sym first.lead.run) second.are)
      in
      record {
        are = blocks_join (state_at start) xs ys first.are behind;
        lead = lead_on start mid next xs ys first.lead second.lead;
        words = subst AreWords (sym (flat_map-append spelling xs ys)) (All-append (λ w. w < 2 ^ 64) (flat_map spelling xs) (flat_map spelling ys) first.words second.words);
        there = told_join told start mid xs ys first.lead first.there second.there;
      }

  -- ---- a window

  told_front : (told : Option (List Step)) (n : ℕ) (words : List ℕ) (start : LogPlace) (xs : List Block) → IfSome told (λ steps. words ≡ take n (log_words (contents steps) start.at))
      → IsChain Any (end_in words (state_at start)) xs → IfSome told (λ steps. IsChain Any (end_at (contents steps) (state_at start)) xs)
  told_front None n words start xs read chain = tt
  told_front (Some steps) n words start xs read chain =
      chain_front size most Any n (log_words (contents steps) start.at) (state_at start) xs (subst (λ (ws : List ℕ). IsChain Any (end_in ws (state_at start)) xs) read chain)

  -- the words of blocks in a window
  pub window_words : (words : List ℕ) (start place : LogPlace) (end : ℕ) (going : Going words start end place) → take (place.at - start.at) words ≡ flat_map spelling going.blocks
  window_words words start place end going =
      let spells = spells_chain size words (state_at start) going.blocks going.chain in
      let count : length (flat_map spelling going.blocks) ≡ place.at - start.at = omega (arith, spells.count, going.lead.at) in
      ap (take (place.at - start.at)) spells.words_are ∙ take_at (flat_map spelling going.blocks) spells.rest (place.at - start.at) count

  pub sent_window : (told : Option (List Step)) (n : ℕ) (words : List ℕ) (start place : LogPlace) (end : ℕ) → IfSome told (λ steps. words ≡ take n (log_words (contents steps) start.at))
      → AreWords (take (place.at - start.at) words) → (going : Going words start end place) → Sent told start going.blocks place
  sent_window told n words start place end read typed going = record {
    are = blocks_are words (state_at start) going.blocks going.chain;
    lead = going.lead;
    words = subst AreWords (window_words words start place end going) typed;
    there = told_front told n words start going.blocks read going.chain;
  }

  pub window_sends : (told : Option (List Step)) (n : ℕ) (words : List ℕ) (start place : LogPlace) (end : ℕ) (before after : Option (List ℕ))
      → IfSome told (λ steps. words ≡ take n (log_words (contents steps) start.at)) → AreWords (take (place.at - start.at) words) → Leads words start end place → (place.at ≡ start.at → ⊥)
      → Puts (bytes_of (take (place.at - start.at) words)) before after → SendsOne told start end place before after
  window_sends told n words start place end before after read typed leads moved puts =
      let going = leads.going in
      record {
        blocks = going.blocks;
        sent = sent_window told n words start place end read typed going;
        puts = subst (λ (ws : List ℕ). Puts (bytes_of ws) before after) (window_words words start place end going) puts;
        above = further start.at place.at going.low moved;
        high = going.high;
      }
    where
      further : (m k : ℕ) → m ≤ k → (k ≡ m → ⊥) → m < k
      further m k le other = elim (Rattle.std.proofs.lemmas.Bool.cases_lt m k) as (λ _. m < k) [
        | inl less ↦ less
        | inr ge ↦ absurd (other (omega (arith, le, ge)))
      ]

  pub window_cut : (told : Option (List Step)) (n : ℕ) (words : List ℕ) (start place : LogPlace) (end : ℕ) (before after : Option (List ℕ)) (disk disk_now sink sink_now : ℕ)
      → IfSome told (λ steps. words ≡ take n (log_words (contents steps) start.at)) → AreWords (take (place.at - start.at) words) → Leads words start end place
      → PutsFront (bytes_of (take (place.at - start.at) words)) before after → Rose sink sink_now → StopsIn told start end stop.SinkFault before after disk disk_now sink sink_now
  window_cut told n words start place end before after disk disk_now sink sink_now read typed leads puts rose =
      let going = leads.going in
      record {
        blocks = going.blocks;
        place = place;
        sent = sent_window told n words start place end read typed going;
        high = going.high;
        how = inl (refl, subst (λ (ws : List ℕ). PutsFront (bytes_of ws) before after) (window_words words start place end going) puts, rose);
      }

  pub window_fails : (told : Option (List Step)) (start : LogPlace) (end : ℕ) (before after : Option (List ℕ)) (disk disk_now sink sink_now : ℕ)
      → start.at ≤ end → after ≡ before → sink_now ≡ sink → Rose disk disk_now ⊎ NoneLead told start end → StopsIn told start end stop.DiskFault before after disk disk_now sink sink_now
  window_fails told start end before after disk disk_now sink sink_now high same sound why = record {
    blocks = [];
    place = start;
    sent = sent_nothing told start;
    high = high;
    how = inr (refl, subst (λ (o : Option (List ℕ)). Puts [] before o) (sym same) (puts_nothing before), sound, why);
  }

  -- a block that stands in words stands in a front of them that has room for it
  stands_front : (n : ℕ) (words : List ℕ) (block : Block) (at run : ℕ) → BLOCK_WORDS ≤ n → StandsAt words block at run → StandsAt (take n words) block at run
  stands_front n words block at run room stands =
      let spelled = stands.spelled in
      let few = most block at run stands.is in
      let count : length (spelling block) ≡ block.size = size block at run stands.is in
      let sum : n ≡ length (spelling block) + (n - block.size) = omega arith in
      record {
        is = stands.is;
        spelled = (
          take (n - block.size) spelled.0,
          ap (λ (ws : List ℕ). take n ws) spelled.1 ∙ ap (λ (k : ℕ). take k (spelling block ++ spelled.0)) sum ∙ take-append-add (spelling block) spelled.0 (n - block.size),
        );
      }

  -- where no block was found in a window, none lead on
  none_lead : (image : Image) (n : ℕ) (words : List ℕ) (start place : LogPlace) (end : ℕ) → words ≡ take n (log_words image start.at) → BLOCK_WORDS ≤ n → start.at < end → Leads words start end place
      → place.at ≡ start.at → (others : List Block) → IsChain Any (end_at image (state_at start)) others → (state_behind (state_at start) others).at ≡ end → ⊥
  none_lead image n words start place end read room low leads here [] chain ends = omega (arith, low, ends)
  none_lead image n words start place end read room low leads here (x ∷ xs) (first, chain) ends =
      let stands : StandsAt words x start.at start.run =
      subst (λ (ws : List ℕ). StandsAt ws x start.at start.run) (sym read) (stands_front n (log_words image start.at) x start.at start.run room first.stands)
      in
      omega (arith, ends, leads.none here x stands, state_behind-low (state_after x (state_at start)) xs)

  pub window_ends : (told : Option (List Step)) (n : ℕ) (words : List ℕ) (start place : LogPlace) (end : ℕ) → IfSome told (λ steps. words ≡ take n (log_words (contents steps) start.at)) → BLOCK_WORDS ≤ n
      → start.at < end → Leads words start end place → place.at ≡ start.at → NoneLead told start end
  window_ends None n words start place end read room low leads here = tt
  window_ends (Some steps) n words start place end read room low leads here = none_lead (contents steps) n words start place end read room low leads here

  -- ---- one list of blocks

  module _ (one : (a b : Block) (at_a run_a at_b run_b : ℕ) (x y : List ℕ) → IsBlock a at_a run_a → IsBlock b at_b run_b → spelling a ++ x ≡ spelling b ++ y → a ≡ b) where
    -- of two chains in words that which leads less far is in front of the other
    pub record InFront (words : List ℕ) (s : State) (xs ys : List Block) : Type 0 where
      pub rest : List Block
      pub split : ys ≡ xs ++ rest
      pub chain : IsChain Any (end_of (end_in words s) xs) rest

    in_front : (words : List ℕ) (s : State) (xs ys : List Block) → IsChain Any (end_in words s) xs → IsChain Any (end_in words s) ys → (state_behind s xs).at ≤ (state_behind s ys).at → InFront words s xs ys
    in_front words s [] ys chain others less = record { rest = ys; split = refl; chain = others }
    in_front words s (x ∷ xs) [] (first, chain) others less =
        absurd (omega (arith, less, size_some size x s.at s.run first.stands.is, state_behind-low (state_after x s) xs))
    in_front words s (x ∷ xs) (y ∷ ys) (first, chain) (head, others) less =
        let same : y ≡ x = one y x s.at s.run s.at s.run head.stands.spelled.0 first.stands.spelled.0 head.stands.is first.stands.is (sym head.stands.spelled.1 ∙ first.stands.spelled.1) in
        let moved : IsChain Any (end_in (drop x.size words) (state_after x s)) ys = subst (λ (b : Block). IsChain Any (end_in (drop b.size words) (state_after b s)) ys) same others in
        let far : (state_behind (state_after x s) xs).at ≤ (state_behind (state_after x s) ys).at =
        subst (λ (b : Block). (state_behind (state_after x s) xs).at ≤ (state_behind (state_after b s) ys).at) same less
        in
        let rest = in_front (drop x.size words) (state_after x s) xs ys chain moved far in
        record { rest = rest.rest; split = ap (λ (b : Block). b ∷ ys) same ∙ ap (λ (bs : List Block). x ∷ bs) rest.split; chain = rest.chain }

    -- what of blocks that lead to an end wasn't put
    pub record Left (image : Image) (start place : LogPlace) (end : ℕ) (xs ys : List Block) : Type 0 where
      pub rest : List Block
      pub split : ys ≡ xs ++ rest
      pub chain : IsChain Any (end_at image (state_at place)) rest
      pub ends : (state_behind (state_at place) rest).at ≡ end

    pub left_of : (image : Image) (start place : LogPlace) (end : ℕ) (xs ys : List Block) → LeadTo start xs place → place.at ≤ end
        → IsChain Any (end_at image (state_at start)) xs → IsChain Any (end_at image (state_at start)) ys → (state_behind (state_at start) ys).at ≡ end → Left image start place end xs ys
    left_of image start place end xs ys lead high chain others ends =
        let front = in_front (log_words image start.at) (state_at start) xs ys chain others (omega (arith, lead.at, high, ends)) in
        let there : IsChain Any (end_at image (state_behind (state_at start) xs)) front.rest =
        subst (λ (e : End). IsChain Any e front.rest) (end_of-image size most Any image (state_at start) xs chain) front.chain
        in
        let same = behind_same (state_behind (state_at start) xs) (state_at place) front.rest lead.at lead.run in
        record {
          rest = front.rest;
          split = front.split;
          chain = any_from Any image (state_behind (state_at start) xs) (state_at place) front.rest lead.at lead.run there;
          ends = sym same.0 ∙ sym (ap (λ (s : State). s.at) (state_behind-append (state_at start) xs front.rest))
              ∙ ap (λ (bs : List Block). (state_behind (state_at start) bs).at) (sym front.split) ∙ ends;
        }

    -- where all up to the end was put, nothing is left
    pub all_of : (image : Image) (start place : LogPlace) (end : ℕ) (xs ys : List Block) → LeadTo start xs place → place.at ≡ end
        → IsChain Any (end_at image (state_at start)) xs → IsChain Any (end_at image (state_at start)) ys → (state_behind (state_at start) ys).at ≡ end → ys ≡ xs
    all_of image start place end xs ys lead whole chain others ends =
        let left = left_of image start place end xs ys lead (omega (arith, whole)) chain others ends in
        let none = (leads_nowhere size place place left.rest (blocks_are (log_words image place.at) (state_at place) left.rest left.chain)
        (record { at = left.ends ∙ sym whole; run = same_run left.rest left.chain (left.ends ∙ sym whole) }) refl).0 in
        left.split ∙ ap (λ (bs : List Block). xs ++ bs) none ∙ append-nil xs
      where
        same_run : (rest : List Block) → IsChain Any (end_at image (state_at place)) rest → (state_behind (state_at place) rest).at ≡ place.at → (state_behind (state_at place) rest).run ≡ place.run
        same_run [] chain same = refl
        same_run (b ∷ bs) (first, chain) same = absurd (omega (arith, same, size_some size b place.at place.run first.stands.is, state_behind-low (state_after b (state_at place)) bs))

    none_left : (told : Option (List Step)) (start place : LogPlace) (end : ℕ) (xs : List Block) → Sent told start xs place → place.at ≤ end → NoneLead told place end → NoneLead told start end
    none_left None start place end xs sent high none = tt
    none_left (Some steps) start place end xs sent high none = λ others chain ends.
        let left = left_of (contents steps) start place end xs others sent.lead high sent.there chain ends in
        none left.rest left.chain left.ends

    pub stops_later : (told other : Option (List Step)) (start place : LogPlace) (end : ℕ) (why : ShipStop) (xs : List Block) (a b c : Option (List ℕ)) (disk disk_mid disk_now sink sink_mid sink_now : ℕ)
        → other ≡ told → disk_mid ≡ disk → sink_mid ≡ sink
        → Sent told start xs place → place.at ≤ end → Puts (blocks_text xs) a b → StopsIn other place end why b c disk_mid disk_now sink_mid sink_now → StopsIn told start end why a c disk disk_now sink sink_now
    stops_later told other start place end why xs a b c disk disk_mid disk_now sink sink_mid sink_now same same_disk same_sink sent high puts stops =
        let moved : Sent told place stops.blocks stops.place = subst (λ (t : Option (List Step)). Sent t place stops.blocks stops.place) same stops.sent in
        record {
          blocks = xs ++ stops.blocks;
          place = stops.place;
          sent = sent_join told start place stops.place xs stops.blocks sent moved;
          high = stops.high;
          how = elim stops.how [
            | inl cut ↦ inl (
              cut.0,
              subst (λ (t : List ℕ). PutsFront t a c) (sym (blocks_text-join xs stops.blocks)) (puts_front (blocks_text xs) (blocks_text stops.blocks) a b c puts cut.1),
              subst (λ (n : ℕ). Rose n sink_now) same_sink cut.2,
            )
            | inr failed ↦ inr (
              failed.0,
              subst (λ (t : List ℕ). Puts t a c) (sym (blocks_text-join xs stops.blocks)) (puts_join (blocks_text xs) (blocks_text stops.blocks) a b c puts failed.1),
              failed.2 ∙ same_sink,
              elim failed.3 [
                | inl rose ↦ inl (subst (λ (n : ℕ). Rose n disk_now) same_disk rose)
                | inr none ↦ inr (none_left told start place end xs sent high (subst (λ (t : Option (List Step)). NoneLead t place end) same none))
              ],
            )
          ];
        }
