-- A disk to which nothing was done.
use Rattle.std.proofs.Common.{◌≡◌, ℕ, zero, suc, ◌+◌, ◌-◌, ◌*◌, ◌%◌, take, drop, List, [], Option, None, refl, sym, ap, ◌∙◌}
use Rattle.erm_bytes.specs.declared.bytes.TheConstants.{WORD_BYTES}
use Rattle.erm_model.specs.declared.limits.TheConstants.{LOG_END, SEGMENT_WORDS}
use Rattle.erm_outside.specs.Disk.{Image, contents}
use Rattle.erm_log_words.specs.Kept.{IsKept}
use Rattle.erm_log_words.specs.Tears.{IsFresh}
use Rattle.erm_log_words.specs.Words.{and_then, log_words, spelled_word, word_at, words_from}

no_bytes : (n : ℕ) → ◌≡◌ {A = List ℕ} (drop n []) []
no_bytes zero = refl
no_bytes (suc n) = refl

no_word : (p : ℕ) → word_at (contents []) p ≡ None
unfolding word_at
no_word p = ap (λ (bytes : List ℕ). spelled_word (take 8 bytes)) (no_bytes (WORD_BYTES * (p % SEGMENT_WORDS)))

none_from : (at n : ℕ) → words_from (contents []) at n ≡ []
none_from at zero = refl
none_from at (suc n) = ap (λ (word : Option ℕ). and_then word (words_from (contents []) (at + 1) n)) (no_word at)

no_words : (at : ℕ) → log_words (contents []) at ≡ []
unfolding log_words
no_words at = none_from at (LOG_END - at)

pub nothing_reads : (run from : ℕ) → IsFresh run (contents []) from
nothing_reads run from at behind block run_before later stands =
    let spelled = stands.spelled in
    let none = sym spelled.1 ∙ no_words at in
    cc

pub empty_kept : (Recovers : Image → ℕ → ℕ → Type 0) → IsKept Recovers []
empty_kept Recovers = record { settled = λ file left is. is; opens = λ at run recovers. nothing_reads (run + 1) at }
