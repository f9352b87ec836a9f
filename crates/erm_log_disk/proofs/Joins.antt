-- Words written, and then those behind them.
use Rattle.std.proofs.Common.{◌≡◌, ℕ, ◌+◌, ◌-◌, ◌*◌, ◌≤◌, ◌++◌, List, [], ◌∷◌, length, take, drop, slice_range, refl, sym, ap, ◌∙◌, arith, length-append, length-drop}
use Rattle.std.specs.Int.{w64, to_le_bytes}
use Rattle.std.proofs.lemmas.Grind.{flat_map-append}
use Rattle.std.proofs.lemmas.List.{drop-append-le, drop-drop, drop_at, take-append-le}
use Rattle.erm_bytes.specs.Bytes.{bytes_of}
use Rattle.erm_bytes.proofs.Words.{length-bytes_of}
use Rattle.erm_outside.specs.declared.disk.File.{File}
use Rattle.erm_outside.specs.Disk.{Change, Step}
use Rattle.erm_outside.specs.Disk.Change.{Wrote, Tried, Synced, Removed}
use Rattle.erm_segment.specs.Place.{place_of}
use Rattle.erm_log_disk.specs.Writes.{AllWriteWords, IsPiece, WritesWords}

-- bytes in the front part, and in the part behind
range_front : (a b : List ℕ) (from to : ℕ) → from ≤ to → to ≤ length a → slice_range (a ++ b) from to ≡ slice_range a from to
range_front a b from to order le =
    ap (take (to - from)) (drop-append-le from a b (omega arith))
    ∙ take-append-le (to - from) (drop from a) b (omega (arith, length-drop from a))

range_behind : (a b : List ℕ) (from to : ℕ) → slice_range (a ++ b) (length a + from) (length a + to) ≡ slice_range b from to
range_behind a b from to =
    let count : length a + to - (length a + from) ≡ to - from = omega arith in
    ap (λ (n : ℕ). take n (drop (length a + from) (a ++ b))) count
    ∙ ap (take (to - from)) (sym (drop-drop from (length a) (a ++ b)))
    ∙ ap (λ (xs : List ℕ). take (to - from) (drop from xs)) (drop_at a b (length a) refl)

bytes_of-append : (xs ys : List ℕ) → bytes_of (xs ++ ys) ≡ bytes_of xs ++ bytes_of ys
bytes_of-append xs ys = flat_map-append (λ (word : ℕ). to_le_bytes w64 word) xs ys

front_piece : (at : ℕ) (xs ys : List ℕ) (file : File) (byte : ℕ) (bytes : List ℕ) → IsPiece at xs file byte bytes → IsPiece at (xs ++ ys) file byte bytes
front_piece at xs ys file byte bytes p =
    let within = p.within in
    record {
      from = p.from;
      count = p.count;
      within = omega (arith, length-append xs ys);
      place = p.place;
      one = p.one;
      bytes_are = p.bytes_are
          ∙ sym (range_front (bytes_of xs) (bytes_of ys) (8 * p.from) (8 * (p.from + p.count)) (omega arith) (omega (arith, length-bytes_of xs)))
          ∙ ap (λ (all : List ℕ). slice_range all (8 * p.from) (8 * (p.from + p.count))) (sym (bytes_of-append xs ys));
    }

piece_behind : (at : ℕ) (xs ys : List ℕ) (file : File) (byte : ℕ) (bytes : List ℕ) → IsPiece (at + length xs) ys file byte bytes → IsPiece at (xs ++ ys) file byte bytes
piece_behind at xs ys file byte bytes p =
    let within = p.within in
    let same : at + length xs + p.from ≡ at + (length xs + p.from) = omega arith in
    let low : length (bytes_of xs) + 8 * p.from ≡ 8 * (length xs + p.from) = omega (arith, length-bytes_of xs) in
    let high : length (bytes_of xs) + 8 * (p.from + p.count) ≡ 8 * (length xs + p.from + p.count) = omega (arith, length-bytes_of xs) in
    let one = p.one in
    record {
      from = length xs + p.from;
      count = p.count;
      within = omega (arith, length-append xs ys);
      place = p.place ∙ ap place_of same;
      one = omega (arith, same, one);
      bytes_are = p.bytes_are
          ∙ sym (range_behind (bytes_of xs) (bytes_of ys) (8 * p.from) (8 * (p.from + p.count)))
          ∙ ap (λ (n : ℕ). slice_range (bytes_of xs ++ bytes_of ys) n (length (bytes_of xs) + 8 * (p.from + p.count))) low
          ∙ ap (λ (n : ℕ). slice_range (bytes_of xs ++ bytes_of ys) (8 * (length xs + p.from)) n) high
          ∙ ap (λ (all : List ℕ). slice_range all (8 * (length xs + p.from)) (8 * (length xs + p.from + p.count))) (sym (bytes_of-append xs ys));
    }

front_writes : (at : ℕ) (xs ys : List ℕ) (file : File) (change : Change) → WritesWords at xs file change → WritesWords at (xs ++ ys) file change
front_writes at xs ys file (Wrote byte bytes) p = front_piece at xs ys file byte bytes p
front_writes at xs ys file (Tried byte bytes left) p = (front_piece at xs ys file byte bytes p.0, p.1)
front_writes at xs ys file Synced p = p
front_writes at xs ys file Removed p = p

writes_behind : (at : ℕ) (xs ys : List ℕ) (file : File) (change : Change) → WritesWords (at + length xs) ys file change → WritesWords at (xs ++ ys) file change
writes_behind at xs ys file (Wrote byte bytes) p = piece_behind at xs ys file byte bytes p
writes_behind at xs ys file (Tried byte bytes left) p = (piece_behind at xs ys file byte bytes p.0, p.1)
writes_behind at xs ys file Synced p = p
writes_behind at xs ys file Removed p = p

all_front : (at : ℕ) (xs ys : List ℕ) (steps : List Step) → AllWriteWords at xs steps → AllWriteWords at (xs ++ ys) steps
all_front at xs ys [] all = tt
all_front at xs ys (step ∷ steps) (here, others) = (front_writes at xs ys step.file step.change here, all_front at xs ys steps others)

pub writes-joined : (at : ℕ) (xs ys : List ℕ) (first second : List Step) → AllWriteWords at xs first → AllWriteWords (at + length xs) ys second → AllWriteWords at (xs ++ ys) (second ++ first)
writes-joined at xs ys first [] one other = all_front at xs ys first one
writes-joined at xs ys first (step ∷ second) one (here, others) = (writes_behind at xs ys step.file step.change here, writes-joined at xs ys first second one others)
