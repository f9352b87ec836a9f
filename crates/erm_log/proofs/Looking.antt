-- Looking at what lies behind a place.
use Rattle.std.proofs.Common.{◌≡◌, ℕ, zero, suc, ◌+◌, ◌-◌, ◌<◌, ◌==◌, false, List, [], ◌∷◌, length, length-append, length-drop, arith, take, drop, Option, Some, None, sym, ap, ◌∙◌, subst}
use Rattle.std.specs.Prelude.{IfSome}
use Rattle.erm_block.specs.declared.block.Block.{Block}
use Rattle.erm_block.specs.Spelling.{StandsAt, body_of, spelling}
use Rattle.erm_bytes.specs.Digest.{digest_of}
use Rattle.erm_log_words.specs.Words.{log_words}
use Rattle.erm_outside.specs.Disk.{Step, contents}
use Rattle.erm_recover.specs.declared.list.TheConstants.{WINDOW_WORDS}
use Rattle.erm_recover.proofs.Reading.{rest_of}
use Rattle.erm_log.specs.declared.behind.Behind.{Behind}
use Rattle.erm_log.specs.Behind.{LiesBehind, ReadsBehind, words_behind}

-- what lies in the words that were read lies behind
pub lies_told : (told : Option (List Step)) (end room : ℕ) (words : List ℕ) (behind : Behind) → room ≡ WINDOW_WORDS
    → IfSome told (λ steps. words ≡ take room (log_words (contents steps) end)) → LiesBehind words end behind
    → IfSome told (λ steps. LiesBehind (words_behind (contents steps) end) end behind)
lies_told None end room words behind same read lies = tt
lies_told (Some steps) end room words behind same read lies =
    subst (λ (ws : List ℕ). LiesBehind ws end behind) (read ∙ ap (λ (n : ℕ). take n (log_words (contents steps) end)) same) lies

-- a block at the front of the words behind so many
pub reads_here : (words : List ℕ) (end skipped run : ℕ) (block : Block) (before : ℕ)
    → StandsAt (take (length words - skipped) (drop skipped words)) block (end + skipped) before → run ≡ block.run → ReadsBehind words end skipped run
reads_here words end skipped run block before stands is =
    record { block = block; before = before; stands = subst (λ (ws : List ℕ). StandsAt ws block (end + skipped) before) (rest_of words skipped) stands; run_is = is }

-- no block there
pub reads_none : (words : List ℕ) (end skipped : ℕ)
    → ((block : Block) (before : ℕ) → StandsAt (take (length words - skipped) (drop skipped words)) block (end + skipped) before → ⊥)
    → (run : ℕ) → ReadsBehind words end skipped run → ⊥
reads_none words end skipped none run reads =
    none reads.block reads.before (subst (λ (ws : List ℕ). StandsAt ws reads.block (end + skipped) reads.before) (sym (rest_of words skipped)) reads.stands)

-- a number that isn't 0
pub some_words : (n : ℕ) → false ≡ (n == 0) → 0 < n
some_words zero is = absurd (cc)
some_words (suc n) is = omega arith

-- a block reads only where words are
pub reads_within : (words : List ℕ) (end skipped run : ℕ) → ReadsBehind words end skipped run → skipped < length words
reads_within words end skipped run reads =
    let spelled = reads.stands.spelled in
    omega (arith, ap length spelled.1, length-drop skipped words, length-append (spelling reads.block) spelled.0, length-append (body_of reads.block) (digest_of (body_of reads.block) ∷ []))
