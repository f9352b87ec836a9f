-- What was read, as words of the log.
use Rattle.std.proofs.Common.{◌≡◌, ℕ, ◌+◌, ◌-◌, ◌*◌, ◌/◌, ◌%◌, ◌<◌, ◌≤◌, List, ◌++◌, length, take, drop, Option, None, Some, refl, sym, ap, ◌∙◌, subst, arith, length-append, length-drop, Result, Ok, Err}
use Rattle.std.specs.Prelude.{IfOk, IfSome, min}
use Rattle.std.proofs.lemmas.List.{length-take, take-append-le}
use Rattle.std.proofs.Math.Seq.{take-append_seam, take-append-add, take-length}
use Rattle.erm_bytes.specs.Bytes.{words_of}
use Rattle.erm_bytes.proofs.Words.{length-words_of}
use Rattle.erm_model.specs.declared.limits.TheConstants.{LOG_END}
use Rattle.erm_outside.specs.declared.disk.File.{File}
use Rattle.erm_outside.specs.declared.disk.File.TheVariants.{Segment}
use Rattle.erm_outside.specs.Disk.{Reads, Step, contents}
use Rattle.erm_log_words.specs.Words.{log_words, words_from}
use Rattle.erm_segment.specs.Place.{place_of}
use Rattle.erm_log_disk.specs.Reads.{ReadsLog, ReadsRun, ReadsWords}
use Rattle.erm_log_disk.proofs.FileWords.{words_from-is, words_of-front, words_of-take}
use Rattle.erm_log_disk.proofs.LogWords.{words_from-join, words_from-length, words_from-short, words_from-take}

-- words of a front, where n of them stand in front
front_is : (n : ℕ) (ws behind : List ℕ) → length ws ≡ n → take n (ws ++ behind) ≡ ws
front_is n ws behind is = ap (λ (k : ℕ). take k (ws ++ behind)) (sym is) ∙ take-append_seam ws behind

-- the bytes that were read spell the words there
spelled_there : (file : List ℕ) (byte n k : ℕ) (old bytes : List ℕ) → Reads file byte n old bytes → 8 * k ≤ n → words_of k (take (8 * k) bytes) ≡ words_of k (drop byte file)
spelled_there file byte n k old bytes reads few =
    let front : List ℕ = take n (drop byte file) in
    let there : n ≤ length (drop byte file) = omega (arith, length-drop byte file, reads.count) in
    let long : n ≡ length front = omega (arith, length-take n (drop byte file)) in
    ap (λ (bs : List ℕ). words_of k (take (8 * k) bs)) reads.read
    ∙ words_of-take k (8 * k) (front ++ drop n old) (omega arith) (omega (arith, length-append front (drop n old)))
    ∙ words_of-front k front (drop n old) (omega arith)
    ∙ words_of-take k n (drop byte file) few there

-- words that were read from one segment
segment_read : (told : Option (List Step)) (at room n : ℕ) (old bytes ws now behind : List ℕ) → at % 65536 + room ≤ 65536 → length old ≡ 8 * room
    → IfSome told (λ steps. Reads (contents steps (Segment (at / 65536))) (8 * (at % 65536)) n old bytes)
    → ws ≡ words_of (n / 8) (take (8 * (n / 8)) bytes) → now ≡ ws ++ behind → ReadsRun told at room (n / 8) now
segment_read None at room n old bytes ws now behind one size reads read is = tt
segment_read (Some steps) at room n old bytes ws now behind one size reads read is =
    let file : List ℕ = contents steps (Segment (at / 65536)) in
    let byte : ℕ = 8 * (at % 65536) in
    let count : n / 8 ≡ min ((length file - byte) / 8) room = omega (arith, reads.count) in
    let long : length ws ≡ n / 8 = ap length read ∙ length-words_of (n / 8) (take (8 * (n / 8)) bytes) in
    ap (λ (vs : List ℕ). take (n / 8) vs) is ∙ front_is (n / 8) ws behind long ∙ read
    ∙ spelled_there file byte n (n / 8) old bytes reads (omega arith)
    ∙ sym (words_from-is (contents steps) at room (n / 8) one count)

-- the same, by the place where they begin
pub piece_read : (told : Option (List Step)) (at room n : ℕ) (place : File × ℕ) (old bytes ws now behind : List ℕ) → place ≡ place_of at → at % 65536 + room ≤ 65536
    → length old ≡ 8 * room → IfSome told (λ steps. Reads (contents steps place.0) place.1 n old bytes)
    → ws ≡ words_of (n / 8) (take (8 * (n / 8)) bytes) → now ≡ ws ++ behind → ReadsRun told at room (n / 8) now
piece_read told at room n place old bytes ws now behind there one size reads read is =
    let moved = subst (λ (p : File × ℕ). IfSome told (λ steps. Reads (contents steps p.0) p.1 n old bytes)) there reads in
    segment_read told at room n old bytes ws now behind one size moved read is

-- a piece was read that isn't whole: it is all that is there
pub short_read : (told : Option (List Step)) (at first room n : ℕ) (front behind : List ℕ) → first ≤ room → n < first → length front ≡ first
    → ReadsRun told at first n front → ReadsRun told at room n (front ++ behind)
short_read None at first room n front behind few short size reads = tt
short_read (Some steps) at first room n front behind few short size reads =
    let many : length (words_from (contents steps) at first) ≡ n = sym (ap length reads) ∙ (let e : length (take n front) ≡ n = omega (arith, length-take n front) in e) in
    take-append-le n front behind (omega arith) ∙ reads ∙ sym (words_from-short (contents steps) at first room few (omega arith))

-- a whole piece was read, and then words of the next
pub joined_read : (told : Option (List Step)) (at first room n : ℕ) (front rest : List ℕ) → first ≤ room → length front ≡ first
    → ReadsRun told at first first front → ReadsRun told (at + first) (room - first) n rest → ReadsRun told at room (first + n) (front ++ rest)
joined_read None at first room n front rest few size one other = tt
joined_read (Some steps) at first room n front rest few size one other =
    let whole : take first front ≡ front = ap (λ (k : ℕ). take k front) (sym size) ∙ take-length front in
    let is : front ≡ words_from (contents steps) at first = sym whole ∙ one in
    let cut : take (first + n) (front ++ rest) ≡ front ++ take n rest = ap (λ (k : ℕ). take (k + n) (front ++ rest)) (sym size) ∙ take-append-add front rest n in
    cut ∙ ap (λ (ws : List ℕ). ws ++ take n rest) is ∙ ap (λ (ws : List ℕ). words_from (contents steps) at first ++ ws) other
    ∙ sym (words_from-join (contents steps) at first (room - first) room (omega arith) (sym (ap length is) ∙ size))

-- words before the log's end are those of the log
log_front : (steps : List Step) (at room count : ℕ) → count ≡ min room (LOG_END - at) → take room (log_words (contents steps) at) ≡ words_from (contents steps) at count
unfolding log_words
log_front steps at room count least = words_from-take (contents steps) at room (LOG_END - at) count least

all_words : (told : Option (List Step)) (at room count n : ℕ) (front behind : List ℕ) → count ≡ min room (LOG_END - at) → n ≤ count → length front ≡ count
    → ReadsRun told at count n front → ReadsWords told at room n (front ++ behind)
all_words None at room count n front behind least few size reads = tt
all_words (Some steps) at room count n front behind least few size reads =
    take-append-le n front behind (omega arith) ∙ reads ∙ sym (log_front steps at room count least)

result_words : {E : Type 0} (result : Result ℕ E) (told : Option (List Step)) (at room count : ℕ) (front behind : List ℕ) → count ≡ min room (LOG_END - at) → length front ≡ count
    → IfOk result (λ n. n ≤ count) → IfOk result (λ n. ReadsRun told at count n front) → ReadsLog result told at room (front ++ behind)
result_words (Ok n) told at room count front behind least size few reads = all_words told at room count n front behind least few size reads
result_words (Err e) told at room count front behind least size few reads = tt

pub all_read : {E : Type 0} (result : Result ℕ E) (told : Option (List Step)) (at room count len : ℕ) (front behind : List ℕ) → count ≡ min room (LOG_END - at) → length front ≡ count
    → len ≡ count → IfOk result (λ n. n ≤ len) → IfOk result (λ n. ReadsRun told at len n front) → ReadsLog result told at room (front ++ behind)
all_read {E} result told at room count len front behind least size same few reads =
    result_words {E = E} result told at room count front behind least size (subst (λ (k : ℕ). IfOk result (λ n. n ≤ k)) same few)
    (subst (λ (k : ℕ). IfOk result (λ n. ReadsRun told at k n front)) same reads)

-- by a disk that tells the same
pub told_of : (other told : Option (List Step)) (at room n : ℕ) (words : List ℕ) → other ≡ told → ReadsRun other at room n words → ReadsRun told at room n words
told_of other told at room n words same reads = subst (λ (t : Option (List Step)). ReadsRun t at room n words) same reads

-- as many words, otherwise counted
pub run_of : (told : Option (List Step)) (at a b n m : ℕ) (words : List ℕ) → a ≡ b → n ≡ m → ReadsRun told at a n words → ReadsRun told at b m words
run_of told at a b n m words rooms counts reads =
    subst (λ (k : ℕ). ReadsRun told at b k words) counts (subst (λ (room : ℕ). ReadsRun told at room n words) rooms reads)
