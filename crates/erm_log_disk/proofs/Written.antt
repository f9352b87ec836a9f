-- Pieces of words that were written, and what reads give after them.
use Rattle.std.proofs.Common.{◌≡◌, ℕ, zero, suc, ◌+◌, ◌-◌, ◌*◌, ◌/◌, ◌%◌, ◌<◌, ◌≤◌, ◌++◌, Bool, true, false, if◌then◌else◌, List, [], ◌∷◌, length, get_or, take, drop, replicate, Option, Some, None, slice_index, slice_range, refl, sym, ap, ◌∙◌, inl, inr, arith, append_assoc, length-append, length-take, length-drop}
use Rattle.std.specs.Int.{w64, to_le_bytes}
use Rattle.std.specs.List.{All}
use Rattle.std.specs.Option.{option_map}
use Rattle.std.proofs.lemmas.Bool.{cases_lt}
use Rattle.std.proofs.lemmas.List.{drop-drop, drop_at, drop-append-le, drop-take, length-replicate, take-append-le, take_more}
use Rattle.std.proofs.lemmas.List.Elements.{All-head, All-tail}
use Rattle.std.proofs.lemmas.Nat.{from_le_bytes-to_le_bytes_8}
use Rattle.erm_bytes.specs.Bytes.{AreWords, bytes_of}
use Rattle.erm_bytes.proofs.Words.{length-bytes_of}
use Rattle.erm_outside.specs.declared.disk.File.{File}
use Rattle.erm_outside.specs.declared.disk.File.TheVariants.{Segment}
use Rattle.erm_outside.specs.Disk.{bytes_after, changes_of, contents, Image, IsFileSettled, IsSettled, patched, same_file, Step}
use Rattle.erm_outside.specs.Disk.Change.{Wrote, Synced}
use Rattle.erm_outside.proofs.Images.{same_file-refl, torn_by_patch}
use Rattle.erm_segment.specs.declared.Piece.{Piece}
use Rattle.erm_segment.specs.Pieces.{EndToEnd, IsInOneSegment, IsRun}
use Rattle.erm_log_words.specs.Words.{Has, spelled_word, word_at, word_in}
use Rattle.erm_log_words.proofs.Windows.{word_before}
use Rattle.erm_log_disk.specs.Pieces.{piece_bytes, synced, written}
use Rattle.erm_log_disk.specs.Writes.{AllWriteWords, IsPiece}
use Rattle.erm_log_disk.proofs.Trail.{pick, segment_is}

-- a piece of a run of so many words
pub record IsPart (at len : ℕ) (piece : Piece) : Type 0 where
  pub within : piece.from + piece.count ≤ len
  pub one : IsInOneSegment at piece

abbrev pub AreParts : ℕ → ℕ → List Piece → Type 0
AreParts at len [] = Unit {0}
AreParts at len (piece ∷ pieces) = IsPart at len piece × AreParts at len pieces

end_low : (from end : ℕ) (ps : List Piece) → EndToEnd from ps end → from ≤ end
end_low from end [] e = omega arith
end_low from end (p ∷ ps) (begins, others) = omega (arith, end_low (from + p.count) end ps others)

parts_from : (at len from : ℕ) (ps : List Piece) → EndToEnd from ps len → All (IsInOneSegment at) ps → AreParts at len ps
parts_from at len from [] ends each = tt
parts_from at len from (p ∷ ps) (begins, others) each =
    let low = end_low (from + p.count) len ps others in
    (record { within = omega arith; one = All-head (IsInOneSegment at) p ps each }, parts_from at len (from + p.count) ps others (All-tail (IsInOneSegment at) p ps each))

pub parts_of : (at len : ℕ) (ps : List Piece) → IsRun at len ps → AreParts at len ps
parts_of at len ps run = parts_from at len 0 ps run.covers run.each

pub parts_front : (at len : ℕ) (done rest : List Piece) → AreParts at len (done ++ rest) → AreParts at len done
parts_front at len [] rest parts = tt
parts_front at len (p ∷ done) rest (first, others) = (first, parts_front at len done rest others)

pub part_at : (at len : ℕ) (done : List Piece) (p : Piece) (rest : List Piece) → AreParts at len (done ++ p ∷ rest) → IsPart at len p
part_at at len [] p rest (first, others) = first
part_at at len (q ∷ done) p rest (first, others) = part_at at len done p rest others

-- each writes words of the run
pub is_piece : (at : ℕ) (words : List ℕ) (p : Piece) → IsPart at (length words) p → IsPiece at words p.file p.at (piece_bytes (bytes_of words) p)
is_piece at words p part = record { from = p.from; count = p.count; within = part.within; place = part.one.place; one = part.one.whole; bytes_are = refl }

-- nothing else was done since
abbrev pub Writes : ℕ → List ℕ → List Step → List Step → Type 0
Writes at words old new = (more : List Step) × (new ≡ more ++ old) × AllWriteWords at words more

pub writes_pieces : (at : ℕ) (words : List ℕ) (ps : List Piece) (old new : List Step) → AreParts at (length words) ps → Writes at words old new → Writes at words old (written (bytes_of words) ps new)
writes_pieces at words [] old new parts writes = writes
writes_pieces at words (p ∷ ps) old new (first, others) (more, split, all) =
    let step : Step = record { file = p.file; change = Wrote p.at (piece_bytes (bytes_of words) p) } in
    writes_pieces at words ps old (step ∷ new) others (step ∷ more, ap (λ (steps : List Step). step ∷ steps) split, (is_piece at words p first, all))

pub writes_syncs : (at : ℕ) (words : List ℕ) (ps : List Piece) (old new : List Step) → Writes at words old new → Writes at words old (synced ps new)
writes_syncs at words [] old new writes = writes
writes_syncs at words (p ∷ ps) old new (more, split, all) =
    let step : Step = record { file = p.file; change = Synced } in
    writes_syncs at words ps old (step ∷ new) (step ∷ more, ap (λ (steps : List Step). step ∷ steps) split, (tt, all))

-- one more at the end
pub written-push : (bytes : List ℕ) (ps : List Piece) (p : Piece) (steps : List Step) → written bytes (ps ++ p ∷ []) steps ≡ record { file = p.file; change = Wrote p.at (piece_bytes bytes p) } ∷ written bytes ps steps
written-push bytes [] p steps = refl
written-push bytes (q ∷ ps) p steps = written-push bytes ps p (record { file = q.file; change = Wrote q.at (piece_bytes bytes q) } ∷ steps)

pub synced-push : (ps : List Piece) (p : Piece) (steps : List Step) → synced (ps ++ p ∷ []) steps ≡ record { file = p.file; change = Synced } ∷ synced ps steps
synced-push [] p steps = refl
synced-push (q ∷ ps) p steps = synced-push ps p (record { file = q.file; change = Synced } ∷ steps)

-- a sync changes nothing that reads give
pub reads_synced : (ps : List Piece) (steps : List Step) (file : File) → contents (synced ps steps) file ≡ contents steps file
reads_synced [] steps file = refl
reads_synced (p ∷ ps) steps file =
    reads_synced ps (record { file = p.file; change = Synced } ∷ steps) file
    ∙ pick (λ changes. bytes_after changes ≡ contents steps file) (same_file p.file file) (Synced ∷ changes_of file steps) (changes_of file steps) (λ same. refl) (λ other. refl)

-- none of the pieces lies in this file
abbrev pub NoneIn : File → List Piece → Type 0
NoneIn file [] = Unit {0}
NoneIn file (p ∷ ps) = (same_file p.file file ≡ false) × NoneIn file ps

-- where none lies in a file, nothing was done to it
untouched : (file : File) (bytes : List ℕ) (ps : List Piece) (steps : List Step) → NoneIn file ps → changes_of file (written bytes ps steps) ≡ changes_of file steps
untouched file bytes [] steps none = refl
untouched file bytes (p ∷ ps) steps (other, others) =
    untouched file bytes ps (record { file = p.file; change = Wrote p.at (piece_bytes bytes p) } ∷ steps) others
    ∙ pick (λ changes. changes ≡ changes_of file steps) (same_file p.file file) (Wrote p.at (piece_bytes bytes p) ∷ changes_of file steps) (changes_of file steps) (λ same. absurd (cc)) (λ e. refl)

-- a file that is settled if none lies in it is settled after the syncs
settled_file : (file : File) (ps : List Piece) (steps : List Step) → (NoneIn file ps → IsFileSettled (changes_of file steps)) → IsFileSettled (changes_of file (synced ps steps))
settled_file file [] steps settled = settled tt
settled_file file (p ∷ ps) steps settled =
    settled_file file ps (record { file = p.file; change = Synced } ∷ steps)
    (λ none. pick IsFileSettled (same_file p.file file) (Synced ∷ changes_of file steps) (changes_of file steps) (λ same left may. may) (λ other. settled (other, none)))

pub settled_after : (bytes : List ℕ) (ps : List Piece) (steps : List Step) → IsSettled steps → IsSettled (synced ps (written bytes ps steps))
settled_after bytes ps steps settled file =
    settled_file file ps (written bytes ps steps) (λ none. let e = untouched file bytes ps steps none in rw e (settled file))

-- eight bytes within those that were laid into a file
front-length : (old : List ℕ) (at : ℕ) → length (take at (old ++ replicate (at - length old) 0)) ≡ at
front-length old at = omega (arith, length-take at (old ++ replicate (at - length old) 0), length-append old (replicate (at - length old) 0), length-replicate {A = ℕ} (at - length old) 0)

laid : (old : List ℕ) (at : ℕ) (bytes : List ℕ) (k : ℕ) → k + 8 ≤ length bytes → take 8 (drop (at + k) (patched old at bytes)) ≡ take 8 (drop k bytes)
laid old at [] k le = absurd (omega arith)
laid old at (b ∷ bs) k le =
    let zeros : List ℕ = replicate (at - length old) 0 in
    let front = take at (old ++ zeros) in
    let bytes : List ℕ = b ∷ bs in
    let rest = drop (at + length bytes) old in
    ap (λ (xs : List ℕ). take 8 (drop (at + k) xs)) (append_assoc front bytes rest)
    ∙ ap (take 8) (sym (drop-drop k at (front ++ (bytes ++ rest))))
    ∙ ap (λ (xs : List ℕ). take 8 (drop k xs)) (drop_at front (bytes ++ rest) at (front-length old at))
    ∙ ap (take 8) (drop-append-le k bytes rest (omega arith))
    ∙ take-append-le 8 (drop k bytes) rest (omega (arith, length-drop k bytes))

-- the bytes of a word
bytes_at : (words : List ℕ) (k : ℕ) → k < length words → take 8 (drop (8 * k) (bytes_of words)) ≡ to_le_bytes w64 (slice_index words k)
bytes_at [] k lt = absurd (omega arith)
bytes_at (w ∷ ws) zero lt = refl
bytes_at (w ∷ ws) (suc k) lt =
    let e : 8 * suc k ≡ 8 + 8 * k = omega arith in
    rw e (ap (take 8) (sym (drop-drop (8 * k) 8 (bytes_of (w ∷ ws)))) ∙ bytes_at ws k (omega arith))

spells : (words : List ℕ) (k : ℕ) → AreWords words → k < length words → spelled_word (to_le_bytes w64 (slice_index words k)) ≡ Some (slice_index words k)
spells words k are lt = ap Some (from_le_bytes-to_le_bytes_8 (slice_index words k) (are k 0 lt))

-- eight bytes within a part of some
within_range : (bytes : List ℕ) (from to k : ℕ) → k + 8 ≤ to - from → take 8 (drop k (slice_range bytes from to)) ≡ take 8 (drop (from + k) bytes)
within_range bytes from to k le =
    let e : to - from ≡ k + (to - from - k) = omega arith in
    ap (λ (n : ℕ). take 8 (drop k (take n (drop from bytes)))) e
    ∙ ap (take 8) (drop-take k (to - from - k) (drop from bytes))
    ∙ shorter 8 (to - from - k) (drop k (drop from bytes)) (omega arith)
    ∙ ap (take 8) (drop-drop k from bytes) where
      shorter : (n m : ℕ) (xs : List ℕ) → n ≤ m → take n (take m xs) ≡ take n xs
      shorter zero m xs le = refl
      shorter (suc n) zero xs le = absurd (omega arith)
      shorter (suc n) (suc m) [] le = refl
      shorter (suc n) (suc m) (x ∷ xs) le = ap (λ (ys : List ℕ). x ∷ ys) (shorter n m xs (omega arith))

-- the log has so many of these words from a place on
abbrev pub HasFirst : Image → ℕ → List ℕ → ℕ → Type 0
HasFirst image at words n = (k : ℕ) → k < n → word_at image (at + k) ≡ Some (slice_index words k)

-- a word of a piece that was written
new_word : (at : ℕ) (words : List ℕ) (p : Piece) (steps : List Step) (k : ℕ) → AreWords words → IsPart at (length words) p → p.from ≤ k → k < p.from + p.count
    → word_at (contents (record { file = p.file; change = Wrote p.at (piece_bytes (bytes_of words) p) } ∷ steps)) (at + k) ≡ Some (slice_index words k)
unfolding word_at
new_word at words p steps k are part low high =
    let within = part.within in
    let whole = part.one.whole in
    let file : p.file ≡ Segment ((at + p.from) / 65536) = ap (λ (x : File × ℕ). x.0) part.one.place in
    let byte : p.at ≡ 8 * ((at + p.from) % 65536) = ap (λ (x : File × ℕ). x.1) part.one.place in
    let segment : (at + k) / 65536 ≡ (at + p.from) / 65536 = omega arith in
    let place : 8 * ((at + k) % 65536) ≡ p.at + 8 * (k - p.from) = omega arith in
    let bytes = piece_bytes (bytes_of words) p in
    let size : length bytes ≡ 8 * p.count = omega (arith, length-take (8 * (p.from + p.count) - 8 * p.from) (drop (8 * p.from) (bytes_of words)), length-drop (8 * p.from) (bytes_of words), length-bytes_of words) in
    let same : same_file p.file (Segment ((at + k) / 65536)) ≡ true = ap (λ (f : File). same_file f (Segment ((at + k) / 65536))) (file ∙ ap Segment (sym segment)) ∙ same_file-refl (Segment ((at + k) / 65536)) in
    let old = contents steps (Segment ((at + k) / 65536)) in
    let there : 8 * p.from + 8 * (k - p.from) ≡ 8 * k = omega arith in
    ap (λ (test : Bool). word_in (bytes_after (if test then Wrote p.at bytes ∷ changes_of (Segment ((at + k) / 65536)) steps else changes_of (Segment ((at + k) / 65536)) steps)) (8 * ((at + k) % 65536))) same
    ∙ ap (word_in (patched old p.at bytes)) place
    ∙ ap spelled_word (laid old p.at bytes (8 * (k - p.from)) (omega arith)
    ∙ within_range (bytes_of words) (8 * p.from) (8 * (p.from + p.count)) (8 * (k - p.from)) (omega arith)
    ∙ ap (λ (n : ℕ). take 8 (drop n (bytes_of words))) there
    ∙ bytes_at words k (omega arith))
    ∙ spells words k are (omega arith)

-- a word before a piece that was written
old_word : (at : ℕ) (words : List ℕ) (p : Piece) (steps : List Step) (k word : ℕ) → IsPart at (length words) p → k < p.from → word_at (contents steps) (at + k) ≡ Some word
    → word_at (contents (record { file = p.file; change = Wrote p.at (piece_bytes (bytes_of words) p) } ∷ steps)) (at + k) ≡ Some word
unfolding word_at
old_word at words p steps k word part low is =
    let file : p.file ≡ Segment ((at + p.from) / 65536) = ap (λ (x : File × ℕ). x.0) part.one.place in
    let byte : p.at ≡ 8 * ((at + p.from) % 65536) = ap (λ (x : File × ℕ). x.1) part.one.place in
    let s = (at + k) / 65536 in
    let bytes = piece_bytes (bytes_of words) p in
    pick (λ changes. word_in (bytes_after changes) (8 * ((at + k) % 65536)) ≡ Some word) (same_file p.file (Segment s)) (Wrote p.at bytes ∷ changes_of (Segment s) steps) (changes_of (Segment s) steps)
    (λ same.
    let segment : (at + p.from) / 65536 ≡ s = same_segment ((at + p.from) / 65536) s (sym file ∙ segment_is p.file s same) in
    word_before p.at (length bytes) (8 * ((at + k) % 65536)) word (contents steps (Segment s)) (patched (contents steps (Segment s)) p.at bytes) (torn_by_patch (contents steps (Segment s)) p.at (length bytes) bytes (omega arith)) (omega arith) is)
    (λ other. is) where
      same_segment : (m n : ℕ) → Segment m ≡ Segment n → m ≡ n
      same_segment m n e = cc

has_piece : (at : ℕ) (words : List ℕ) (p : Piece) (steps : List Step) → AreWords words → IsPart at (length words) p → HasFirst (contents steps) at words p.from
    → HasFirst (contents (record { file = p.file; change = Wrote p.at (piece_bytes (bytes_of words) p) } ∷ steps)) at words (p.from + p.count)
has_piece at words p steps are part has k lt =
    elim (cases_lt k p.from) [
      | inl below ↦ old_word at words p steps k (slice_index words k) part below (has k below)
      | inr above ↦ new_word at words p steps k are part above lt
    ]

has_pieces : (at : ℕ) (words : List ℕ) (ps : List Piece) (from : ℕ) (steps : List Step) → AreWords words → EndToEnd from ps (length words) → AreParts at (length words) ps
    → HasFirst (contents steps) at words from → HasFirst (contents (written (bytes_of words) ps steps)) at words (length words)
has_pieces at words [] from steps are ends parts has = rw (sym ends) has
has_pieces at words (p ∷ ps) from steps are (begins, others) (first, parts) has =
    let e : from + p.count ≡ p.from + p.count = omega arith in
    let step : Step = record { file = p.file; change = Wrote p.at (piece_bytes (bytes_of words) p) } in
    has_pieces at words ps (from + p.count) (step ∷ steps) are others parts
    (λ k lt. has_piece at words p steps are first (λ j below. has j (omega arith)) k (omega arith))

-- the log has the words of a run whose pieces were written and synced
pub has_written : (at : ℕ) (words : List ℕ) (ps : List Piece) (steps : List Step) → AreWords words → IsRun at (length words) ps → Has (contents (synced ps (written (bytes_of words) ps steps))) at words
unfolding word_at
has_written at words ps steps are run = λ k lt.
    ap (λ (file : List ℕ). word_in file (8 * ((at + k) % 65536))) (reads_synced ps (written (bytes_of words) ps steps) (Segment ((at + k) / 65536)))
    ∙ has_pieces at words ps 0 steps are run.covers (parts_of at (length words) ps run) (λ j below. absurd (omega arith)) k lt

-- one piece more
pub more_written : (bytes : List ℕ) (ps : List Piece) (n : ℕ) (d : Piece) (before : Option (List Step)) → n < length ps
    → option_map (λ steps. record { file = (get_or ps n d).file; change = Wrote (get_or ps n d).at (piece_bytes bytes (get_or ps n d)) } ∷ steps) (option_map (written bytes (take n ps)) before)
    ≡ option_map (written bytes (take (n + 1) ps)) before
more_written bytes ps n d None lt = refl
more_written bytes ps n d (Some steps) lt = ap Some (sym (written-push bytes (take n ps) (get_or ps n d) steps) ∙ ap (λ (qs : List Piece). written bytes qs steps) (sym (take_more ps n d lt)))

pub more_synced : (ps : List Piece) (n : ℕ) (d : Piece) (before : Option (List Step)) → n < length ps
    → option_map (λ steps. record { file = (get_or ps n d).file; change = Synced } ∷ steps) (option_map (synced (take n ps)) before) ≡ option_map (synced (take (n + 1) ps)) before
more_synced ps n d None lt = refl
more_synced ps n d (Some steps) lt = ap Some (sym (synced-push (take n ps) (get_or ps n d) steps) ∙ ap (λ (qs : List Piece). synced qs steps) (sym (take_more ps n d lt)))
