-- A reader of a stream takes its parts.
use Rattle.std.proofs.Common.{◌≡◌, ℕ, ◌+◌, ◌*◌, ◌/◌, ◌<◌, ◌^◌, List, [], ◌∷◌, ◌++◌, length, take, drop, map, Option, Some, None, refl, sym, ap, ◌∙◌, subst, arith, length-append}
use Rattle.std.specs.List.{flat_map}
use Rattle.std.specs.Int.{w64, to_le_bytes}
use Rattle.std.proofs.lemmas.List.{drop_at}
use Rattle.std.proofs.lemmas.List.Concat.{flat_map-append}
use Rattle.std.proofs.lemmas.List.Folds.{flat_map-map}
use Rattle.std.proofs.lemmas.List.Elements.{All-append, All-drop}
use Rattle.erm_bytes.specs.Bytes.{AreWords, bytes_of, words_of}
use Rattle.erm_bytes.specs.Digest.{digest_of}
use Rattle.erm_bytes.proofs.Words.{length-bytes_of, words_of-bytes_of}
use Rattle.erm_block.specs.declared.block.Block.{Block}
use Rattle.erm_block.specs.Block.{IsBlock}
use Rattle.erm_block.specs.Spelling.{body_of, spelling}
use Rattle.erm_ckpt.specs.Checkpoint.{Checkpoint, slot_words}
use Rattle.erm_replica.specs.declared.item.LogPlace.{LogPlace}
use Rattle.erm_replica.specs.Cuts.{Drains, Reads}
use Rattle.erm_replica.specs.Stream.{HasNext, IsBase, MayCome, Part, StandsFirst, Streamed, behind, fed, log_behind, part_words, start, words_in}
use Rattle.erm_replica.specs.Stream.Part.{base, block}
use Rattle.erm_replica.proofs.Words.{length-words_in}
use Rattle.erm_ship.specs.Sends.{AreBlocks, blocks_text}
use Rattle.erm_ship.specs.Streams.{Spells, stream_parts}

-- parts that may come one after another
abbrev Follow : Option LogPlace → List Part → Type 0
Follow log [] = Unit {0}
Follow log (part ∷ parts) = MayCome log part × Follow (Some (log_behind part)) parts

-- behind all of them
abbrev behind_all : List Part → Streamed → Streamed
behind_all [] s = s
behind_all (part ∷ parts) s = behind_all parts (behind part s)

words_again : (words : List ℕ) → AreWords words → words_in (bytes_of words) ≡ words
words_again words are =
    let count : length (bytes_of words) / 8 ≡ length words = omega (arith, length-bytes_of words) in
    ap (λ (n : ℕ). words_of n (bytes_of words)) count ∙ words_of-bytes_of words are

bytes_join : (xs ys : List ℕ) → bytes_of (xs ++ ys) ≡ bytes_of xs ++ bytes_of ys
bytes_join xs ys = flat_map-append (to_le_bytes w64) xs ys

-- a reader takes parts that may follow
record TakesAll (s : Streamed) (parts : List Part) : Type 0 where
  pub reads : Reads s parts (behind_all parts s)
  pub all : (behind_all parts s).rest ≡ []

behind_words : (xs ys : List ℕ) → AreWords (xs ++ ys) → AreWords ys
behind_words xs ys are = subst AreWords (drop_at xs ys (length xs) refl) (All-drop (λ w. w < 2 ^ 64) (length xs) (xs ++ ys) are)

takes_all : (s : Streamed) (parts : List Part) → Follow s.log parts → AreWords (flat_map part_words parts) → s.rest ≡ bytes_of (flat_map part_words parts) → TakesAll s parts
takes_all s [] follow are rest = record { reads = refl; all = rest }
takes_all s (part ∷ parts) (may, follow) are rest =
    let front : List ℕ = part_words part in
    let others : List ℕ = flat_map part_words parts in
    let there : HasNext s part = record { may = may; spelled = (others, ap words_in rest ∙ words_again (front ++ others) are) } in
    let left : drop (8 * length front) s.rest ≡ bytes_of others =
    ap (drop (8 * length front)) (rest ∙ bytes_join front others) ∙ drop_at (bytes_of front) (bytes_of others) (8 * length front) (length-bytes_of front)
    in
    let behind_it = takes_all (behind part s) parts follow (behind_words front others are) left in
    record { reads = (there, behind_it.reads); all = behind_it.all }

some_words : (part : Part) → 0 < length (part_words part)
some_words (base c) = omega arith
some_words (block b) = omega (arith, length-append (body_of b) (digest_of (body_of b) ∷ []))

-- no part begins where nothing is left
nothing_next : (t : Streamed) → t.rest ≡ [] → (part : Part) → HasNext t part → ⊥
nothing_next t none part there =
    omega (arith, some_words part, ap length none, length-words_in t.rest, ap length there.spelled.1, length-append (part_words part) there.spelled.0)

follows : (log : LogPlace) (blocks : List Block) → AreBlocks log.at log.run blocks → Follow (Some log) (map block blocks)
follows log [] are = tt
follows log (b ∷ bs) (first, are) = (
  first,
  follows (log_behind (block b)) bs (subst (λ (p : ℕ). AreBlocks (p + b.size) b.run bs) (sym first.stamp) are),
)

stream_words : (c : Checkpoint) (blocks : List Block) → flat_map part_words (stream_parts c blocks) ≡ part_words (base c) ++ flat_map spelling blocks
stream_words c blocks = ap (λ (ws : List ℕ). part_words (base c) ++ ws) (flat_map-map part_words block blocks)

-- a checkpoint that a stream may begin with, and blocks that may follow, are read again
pub spells_stream : (c : Checkpoint) (blocks : List Block) (front : List ℕ) → IsBase c → AreBlocks c.slot.stamp c.slot.run blocks → front ≡ part_words (base c) → AreWords front → AreWords (flat_map spelling blocks)
    → Spells (stream_parts c blocks) (bytes_of front ++ blocks_text blocks)
spells_stream c blocks front is are front_is typed words =
    let parts : List Part = stream_parts c blocks in
    let all : front ++ flat_map spelling blocks ≡ flat_map part_words parts =
    ap (λ (ws : List ℕ). ws ++ flat_map spelling blocks) front_is ∙ sym (stream_words c blocks)
    in
    let bytes : bytes_of front ++ blocks_text blocks ≡ bytes_of (flat_map part_words parts) = sym (bytes_join front (flat_map spelling blocks)) ∙ ap bytes_of all in
    let are_words : AreWords (flat_map part_words parts) = subst AreWords all (All-append (λ w. w < 2 ^ 64) front (flat_map spelling blocks) typed words) in
    let follow : Follow None parts = (is, follows (log_behind (base c)) blocks are) in
    let takes = takes_all (fed start (bytes_of front ++ blocks_text blocks)) parts follow are_words bytes in
    record {
      bytes_are = bytes;
      behind = behind_all parts (fed start (bytes_of front ++ blocks_text blocks));
      drains = record { reads = takes.reads; last = nothing_next (behind_all parts (fed start (bytes_of front ++ blocks_text blocks))) takes.all };
      all = takes.all;
    }
