-- Rows of a slot, written one after another.
use Rattle.std.proofs.Common.{◌≡◌, ℕ, ◌+◌, ◌-◌, ◌<◌, ◌≤◌, List, [], ◌∷◌, ◌++◌, length, get_or, take, drop, sym, ap, ◌∙◌, subst, arith, length-append, length-drop}
use Rattle.std.specs.List.{flat_map, All}
use Rattle.std.proofs.lemmas.List.Elements.{All-push}
use borrow.Rule.Slice.PartMut.{put_mid}
use Rattle.erm_bytes.specs.Bytes.{AreWords}
use Rattle.std.proofs.lemmas.List.{append_assoc, append-nil, length-take-le, take_at, take_rest, drop_all, drop_at, drop-drop}
use Rattle.std.proofs.lemmas.List.Concat.{flat_map-append}
use Rattle.erm_record.specs.Stored.{stored_length}
use Rattle.erm_block.specs.declared.block.Form.TheVariants.{Stored}
use Rattle.erm_block.specs.Block.{Entry}
use Rattle.erm_block.specs.Spelling.{entry_words}
use Rattle.erm_ckpt.specs.Checkpoint.{saved}
use Rattle.erm_ckpt.proofs.SavedRows.{saved-some, saved-zero, words_of_next}

-- of so many rows of an array those that aren't zero were written
pub record IsWritten (rows : List (List ℕ)) (out now : List ℕ) (i count at : ℕ) : Type 0 where
  pub many : count ≡ length (saved (take i rows))
  pub few : count ≤ i
  pub at_is : at ≡ length (flat_map (entry_words Stored) (saved (take i rows)))
  pub room : at ≤ length (flat_map (entry_words Stored) (saved rows))
  pub written : take at now ≡ flat_map (entry_words Stored) (saved (take i rows))
  pub kept : drop at now ≡ drop at out
  pub typed : All (λ entry. AreWords entry.1) (saved (take i rows))

module _ (rows : List (List ℕ)) (out now : List ℕ) (i count at : ℕ) (so_far : IsWritten rows out now i count at) (below : i < length rows) where
  -- a row of zeros is passed over
  pub skipped : stored_length (get_or rows i []) ≡ 0 → IsWritten rows out now (i + 1) count at
  skipped none =
      let same : saved (take (i + 1) rows) ≡ saved (take i rows) = saved-zero rows i below none in
      record {
        many = so_far.many ∙ ap (λ (es : List Entry). length es) (sym same);
        few = let few = so_far.few in omega (arith, few);
        at_is = so_far.at_is ∙ ap (λ (es : List Entry). length (flat_map (entry_words Stored) es)) (sym same);
        room = so_far.room;
        written = so_far.written ∙ ap (λ (es : List Entry). flat_map (entry_words Stored) es) (sym same);
        kept = so_far.kept;
        typed = subst (λ (es : List Entry). All (λ entry. AreWords entry.1) es) (sym same) so_far.typed;
      }

  module _ (words : List ℕ) (size : ℕ) (some : 0 < stored_length (get_or rows i [])) (room : at ≤ length now) where
    abbrev one : List ℕ
    one = entry_words Stored (i, get_or rows i [])

    -- another one is written behind those before
    pub added : size ≡ length one → size ≤ length now - at → words ≡ one ++ drop (length one) (take (length now - at) (drop at now)) → AreWords (get_or rows i [])
        → IsWritten rows out (put_mid at (length now - at) now words) (i + 1) (count + 1) (at + size)
    added sized fits is typed =
        let k : ℕ = length now - at in
        let row : List ℕ = get_or rows i [] in
        let front : List ℕ = take at now in
        let post : List ℕ = drop k (drop at now) in
        let left : List ℕ = drop (length one) (take k (drop at now)) in
        let S : List Entry = saved (take i rows) in
        let same : saved (take (i + 1) rows) ≡ S ++ (i, row) ∷ [] = saved-some rows i below some in
        let more : flat_map (entry_words Stored) (saved (take (i + 1) rows)) ≡ flat_map (entry_words Stored) S ++ one =
        ap (flat_map (entry_words Stored)) same ∙ flat_map-append (entry_words Stored) S ((i, row) ∷ []) ∙ ap (λ (ws : List ℕ). flat_map (entry_words Stored) S ++ ws) (append-nil one) in
        let whole : put_mid at k now words ≡ (front ++ one) ++ (left ++ post) =
        ap (λ (ws : List ℕ). front ++ (ws ++ post)) is ∙ ap (λ (ws : List ℕ). front ++ ws) (append_assoc one left post) ∙ sym (append_assoc front one (left ++ post)) in
        let long : length (front ++ one) ≡ at + size = omega (arith, length-append front one, length-take-le at now room, sized) in
        let none : post ≡ [] = drop_all k (drop at now) (omega (arith, length-drop at now)) in
        let behind : left ++ post ≡ drop size (drop at now) =
        ap (λ (ws : List ℕ). left ++ ws) none ∙ append-nil left ∙ ap (drop (length one)) (take_rest now at) ∙ ap (λ (n : ℕ). drop n (drop at now)) (sym sized) in
        record {
          many = omega (arith, so_far.many, ap (λ (es : List Entry). length es) same, length-append S ((i, row) ∷ []));
          few = let few = so_far.few in omega (arith, few);
          at_is = omega (arith, so_far.at_is, sized, ap (λ (ws : List ℕ). length ws) more, length-append (flat_map (entry_words Stored) S) one);
          room = let next = words_of_next rows i below some in omega (arith, so_far.at_is, sized, next);
          written = ap (take (at + size)) whole ∙ take_at (front ++ one) (left ++ post) (at + size) long ∙ ap (λ (ws : List ℕ). ws ++ one) so_far.written ∙ sym more;
          kept = ap (drop (at + size)) whole ∙ drop_at (front ++ one) (left ++ post) (at + size) long ∙ behind
              ∙ ap (drop size) so_far.kept ∙ drop-drop size at out;
          typed = subst (λ (es : List Entry). All (λ entry. AreWords entry.1) es) (sym same) (All-push (λ (entry : Entry). AreWords entry.1) S (i, row) so_far.typed typed);
        }
