use Rattle.std.proofs.Common.{◌≡◌, ℕ, ◌+◌, ◌-◌, ◌<◌, [], ◌++◌, List, length, get_or, take, drop, ap, sym, ◌∙◌, arith, length-drop}
use Rattle.std.specs.List.{flat_map}
use Rattle.std.proofs.lemmas.List.{take_rest, drop_at, drop-drop}
use Rattle.erm_block.specs.Spelling.{entry_words}
use Rattle.erm_block.proofs.EntryWords.{flat_map-drop}
use Rattle.erm_block.proofs.Reading.{read_more, Some≡Some, None≢Some}
use Rattle.erm_block.proofs.entries.read_entries.Goals as goal

pub returns-in_err-entry : goal.returns-in_err-entry
returns-in_err-entry c = λ entries rest each count few words.
    let f = entry_words c.args.form in
    let i = c.loop-entry._entry in
    let below : i < length entries = omega (arith, count) in
    let front = take_rest c.args.words.now c.loop-entry.at ∙ (c.loop-entry.invariant.given entries rest each count words).1 ∙ flat_map-drop f entries (0, []) i rest below in
    None≢Some c.read_entry.result (get_or entries i (0, []), length (f (get_or entries i (0, [])))) c.in_err-entry.was
    (c.read_entry.ensures.given (get_or entries i (0, [])) (flat_map f (drop (i + 1) entries) ++ rest) (each i (0, []) below) front)

pub loop-entry-preserved : goal.loop-entry-preserved
loop-entry-preserved c =
    let at = c.loop-entry.at in
    let all = c.args.words.now in
    let left : length (take (length all - at) (drop at all)) ≡ length all - at = ap length (take_rest all at) ∙ length-drop at all in
    let room = c.in_ok-entry.ensures.room in
    record {
      many = omega (arith, c.push.ensures.len);
      within = omega (arith, room, left);
      given = λ entries rest each count words.
          let f = entry_words c.args.form in
          let i = c.loop-entry._entry in
          let entry = get_or entries i (0, []) in
          let behind : List ℕ = flat_map f (drop (i + 1) entries) ++ rest in
          let below : i < length entries = omega (arith, count) in
          let before = c.loop-entry.invariant.given entries rest each count words in
          let front : drop at all ≡ f entry ++ behind = before.1 ∙ flat_map-drop f entries (0, []) i rest below in
          let read = c.read_entry.ensures.given entry behind (each i (0, []) below) (take_rest all at ∙ front) in
          let same = Some≡Some c.read_entry.result (c.in_ok-entry.entry, c.in_ok-entry.size) (entry, length (f entry)) c.in_ok-entry.was read in
          let size : c.in_ok-entry.size ≡ length (f entry) = ap (λ p. p.1) same in (
            read_more entries i c.loop-entry.entries.items c.push.new.self.items c.in_ok-entry.entry below before.0 (ap (λ p. p.0) same) c.push.ensures.items,
            sym (drop-drop c.in_ok-entry.size at all) ∙ ap (drop c.in_ok-entry.size) front ∙ drop_at (f entry) behind c.in_ok-entry.size (sym size),
          );
    }
