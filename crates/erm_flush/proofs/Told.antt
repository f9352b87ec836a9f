-- What a disk tells after a turn, as far as it tells.
use Rattle.std.proofs.Common.{◌≡◌, ℕ, ◌-◌, ◌≤◌, ◌++◌, List, [], length, take, replicate, Option, Some, None, IfSome, Result, Ok, Err, OnOk, false, refl, sym, ap, ◌∙◌, subst, arith}
use Rattle.std.specs.Result.{is_err}
use Rattle.std.proofs.lemmas.List.{length-take, take_at}
use Rattle.erm_model.specs.Rows.{Rows}
use Rattle.erm_model.specs.declared.limits.TheConstants.{RING_WORDS}
use Rattle.erm_record.specs.Stored.{stored_length}
use Rattle.erm_block.specs.declared.block.Block.{Block}
use Rattle.erm_block.specs.LogList.{end_of}
use Rattle.erm_flush.specs.Turns.{HoldsFrom, IsReady, start_of, WritesFrom}
use Rattle.erm_log_disk.specs.Writes.{Holds, Lasts, OnlyWrites}
use Rattle.erm_log_disk.proofs.Chains.{length-words}
use Rattle.erm_log_words.specs.Tears.{IsFresh}
use Rattle.erm_outside.specs.Disk.{contents, Step, Tells}
use Rattle.erm_world.specs.Log.{DidGather, gathered_to, IsLog, Log, place_behind, Start, words_of}
use Rattle.erm_flush.proofs.Flushes.{fresh_behind, holds_from, parts, writes_from}

-- a buffer that was filled whole
pub whole_buffer : (now words items : List ℕ) (n size : ℕ) → now ≡ take n (words ++ items) → length words ≡ size → n ≡ size → now ≡ words
whole_buffer now words items n size cut long same = cut ∙ take_at words items n (long ∙ sym same)

-- a call that didn't fail
pub was_ok : {T E : Type 0} (r : Result T E) (P : Type 0) → is_err r ≡ false → OnOk r P → P
was_ok (Ok x) P fine ok = ok
was_ok (Err e) P fine ok = absurd (cc)

module _
    (short : (row : List ℕ) → stored_length row ≤ length row) (whole : (row : List ℕ) → take (stored_length row) row ++ replicate (length row - stored_length row) 0 ≡ row)
    (sound : Rows → Type 0) where
  -- the words gathered are as many as was said
  pub gathered_words : (l m : Log) (at count : ℕ) (words : List ℕ) (d : DidGather l m at count words) → IsLog sound m → length (words_of d.blocks) ≡ count
  gathered_words l m at count words d is =
      let opened : m.opened ≡ l.opened = ap (λ (x : Log). x.opened) d.gathered in
      let split : m.gathered ≡ d.front ++ d.blocks = ap (λ (x : Log). x.gathered) d.gathered in
      let p = parts sound l.flushed m d.front d.blocks is split (d.flushed_is ∙ ap (λ (s : Start). place_behind s.at d.front) (sym opened)) in
      let size = length-words short sound (end_of (start_of m) d.front) d.blocks p.stand in
      let place = p.place_is in
      let ends = p.ends in
      let count_is = d.count_is in
      omega arith

  -- words that were gathered were written
  pub written : (l n : Log) (front blocks : List Block) (at : ℕ) (words : List ℕ) (before after : Option (List Step)) → IsLog sound n → n.gathered ≡ front ++ blocks → n.opened ≡ l.opened
      → l.flushed ≡ place_behind l.opened.at front → at ≡ l.flushed → words ≡ words_of blocks → length words ≤ RING_WORDS → IfSome before (IsReady l) → OnlyWrites at words before after → Tells (WritesFrom sound l.flushed n) before after
  written l n front blocks at words None after is split opened place at_is words_are few ready writes = writes
  written l n front blocks at words (Some old) after is split opened place at_is words_are few ready (new, told, only) =
      let p = parts sound l.flushed n front blocks is split (place ∙ ap (λ (s : Start). place_behind s.at front) (sym opened)) in
      let fresh : IsFresh n.opened.run (contents old) l.flushed = subst (λ (s : Start). IsFresh s.run (contents old) l.flushed) (sym opened) ready.fresh in
      let all = rw (at_is, words_are) at only.2 in
      let less : length (words_of blocks) ≤ RING_WORDS = rw words_are at few in
      (new, told, writes_from short whole sound l.flushed n p old new only.0 ready.settled fresh only.1 all (words_of blocks, less, all))

  -- they last
  pub lasting : (l n : Log) (front blocks : List Block) (at : ℕ) (words : List ℕ) (before after : Option (List Step)) → IsLog sound n → n.gathered ≡ front ++ blocks → n.opened ≡ l.opened
      → l.flushed ≡ place_behind l.opened.at front → at ≡ l.flushed → words ≡ words_of blocks → IfSome before (IsReady l) → n.flushed ≡ gathered_to n → Lasts at words before after → Tells (HoldsFrom sound l.flushed n) before after
  lasting l n front blocks at words None after is split opened place at_is words_are ready flushed lasts = lasts
  lasting l n front blocks at words (Some old) after is split opened place at_is words_are ready flushed (new, told, holds) =
      let p = parts sound l.flushed n front blocks is split (place ∙ ap (λ (s : Start). place_behind s.at front) (sym opened)) in
      let fresh : IsFresh n.opened.run (contents old) l.flushed = subst (λ (s : Start). IsFresh s.run (contents old) l.flushed) (sym opened) ready.fresh in
      let all : Holds l.flushed (words_of blocks) old new = rw (at_is, words_are) at holds in
      (new, told, holds_from short whole sound l.flushed n p old new fresh flushed all)

  -- and the log may be flushed on
  pub readies : (l n : Log) (front blocks : List Block) (at : ℕ) (words : List ℕ) (before after : Option (List Step)) → IsLog sound n → n.gathered ≡ front ++ blocks → n.opened ≡ l.opened
      → l.flushed ≡ place_behind l.opened.at front → at ≡ l.flushed → words ≡ words_of blocks → IfSome before (IsReady l) → n.flushed ≡ gathered_to n → Lasts at words before after → IfSome after (IsReady n)
  readies l n front blocks at words None after is split opened place at_is words_are ready flushed lasts = rw lasts tt
  readies l n front blocks at words (Some old) after is split opened place at_is words_are ready flushed (new, told, holds) =
      let p = parts sound l.flushed n front blocks is split (place ∙ ap (λ (s : Start). place_behind s.at front) (sym opened)) in
      let fresh : IsFresh n.opened.run (contents old) l.flushed = subst (λ (s : Start). IsFresh s.run (contents old) l.flushed) (sym opened) ready.fresh in
      let all : Holds l.flushed (words_of blocks) old new = rw (at_is, words_are) at holds in
      let behind = fresh_behind short whole sound l.flushed n p old new fresh all in
      rw told (record { settled = all.settled; fresh = subst (λ (place : ℕ). IsFresh n.opened.run (contents new) place) (sym flushed) behind })

  -- no more words are cut off than there are
  pub cut_few : (count : ℕ) (words now : List ℕ) → now ≡ words → length words ≡ RING_WORDS → length (take count now) ≤ RING_WORDS
  cut_few count words now same room = let size = length-take count now in let long = ap length same in omega (arith, size, long, room)

  -- where nothing was done, nothing is written
  pub unchanged : (l : Log) (before : Option (List Step)) → IsLog sound l → IfSome before (IsReady l) → Tells (WritesFrom sound l.flushed l) before before
  unchanged l None is ready = refl
  unchanged l (Some old) is ready =
      let p = parts sound l.flushed l is.flushed.front is.flushed.rest is is.flushed.split is.flushed.behind in
      (old, refl, writes_from short whole sound l.flushed l p old old [] ready.settled ready.fresh refl tt ([], omega arith, tt))

  pub unchanged_log : (l m : Log) (before : Option (List Step)) → IsLog sound l → m ≡ l → IfSome before (IsReady l) → Tells (WritesFrom sound l.flushed m) before before
  unchanged_log l m before is same ready = subst (λ (n : Log). Tells (WritesFrom sound l.flushed n) before before) (sym same) (unchanged l before is ready)
