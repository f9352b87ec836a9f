-- Rows of a slot, read one after another.
use Rattle.std.proofs.Common.{◌≡◌, ℕ, ◌+◌, ◌<◌, ◌≤◌, Bool, true, false, cond, List, [], ◌∷◌, ◌++◌, length, get_or, set, take, drop, refl, sym, ap, ◌∙◌, subst, arith, length-append}
use Rattle.std.proofs.Math.Dec.{eqb}
use Rattle.std.proofs.Math.Seq.{get_or-append_seam}
use Rattle.std.specs.List.{flat_map, All}
use Rattle.std.proofs.lemmas.List.{append_assoc, append-nil, drop_at, get_or_default, get_or-take, get_or-set_same, get_or-set_other, take_all}
use Rattle.std.proofs.lemmas.List.Concat.{flat_map-append}
use Rattle.std.proofs.lemmas.List.Elements.{All-nil, All-push}
use Rattle.std.proofs.lemmas.List.Quantifiers.{all_pairs_push}
use Rattle.erm_model.specs.declared.limits.TheConstants.{OID_LIMIT}
use Rattle.erm_model.specs.Rows.{Rows, rows_of, set_row}
use Rattle.erm_model.specs.RowTransaction.{SameRows}
use Rattle.erm_block.specs.declared.block.Form.{Form}
use Rattle.erm_block.specs.Block.{Entry}
use Rattle.erm_block.specs.LogList.{set_rows}
use Rattle.erm_block.specs.Spelling.{entry_words}
use Rattle.erm_block.proofs.EntryWords.{flat_map-drop}
use Rattle.erm_ckpt.specs.Checkpoint.{IsSaved, zero_rows}
use Rattle.erm_ckpt.specs.Reading.{BeginsWithEntry, HasRows}
use Rattle.erm_ckpt.proofs.Fronts.{IsFront, is_front}

-- rows read so far: `least` is the first number behind their objects
pub record IsReadSoFar (form : Form) (words : List ℕ) (rows : List (List ℕ)) (count at least : ℕ) : Type 0 where
  pub read : HasRows form words count at
  pub rows_are : SameRows (rows_of rows) (set_rows read.entries zero_rows)
  pub within : at ≤ length words
  pub below : All (λ entry. entry.0 < least) read.entries
  pub tight : (x : ℕ) → All (λ entry. entry.0 < x) read.entries → least ≤ x

-- nothing was read
pub none_read : (form : Form) (words : List ℕ) (rows : List (List ℕ)) → SameRows (rows_of rows) zero_rows → IsReadSoFar form words rows 0 0 0
none_read form words rows zeros = record {
  read = record {
    entries = [];
    each = All-nil IsSaved;
    ascending = λ i j d before below. absurd (omega (arith, below));
    many = refl;
    rest = words;
    words_are = refl;
    size_is = refl;
  };
  rows_are = zeros;
  within = omega arith;
  below = All-nil (λ (entry : Entry). entry.0 < 0);
  tight = λ x all. omega arith;
}

-- what stands behind them
pub left : (form : Form) (words : List ℕ) (count at : ℕ) (read : HasRows form words count at) → drop at words ≡ read.rest
left form words count at read =
    ap (drop at) read.words_are ∙ drop_at (flat_map (entry_words form) read.entries) read.rest at (sym read.size_is)

-- setting one row more
pub set_rows-push : (entries : List Entry) (entry : Entry) (rows : Rows) → set_rows (entries ++ entry ∷ []) rows ≡ set_row (set_rows entries rows) entry.0 entry.1
set_rows-push [] entry rows = refl
set_rows-push (e ∷ es) entry rows = set_rows-push es entry (set_row rows e.0 e.1)

set_there : (rows : List (List ℕ)) (oid x : ℕ) (row : List ℕ) (base : Rows) (b : Bool) → oid < length rows → eqb x oid ≡ b → rows_of rows x ≡ base x
    → rows_of (set rows oid row) x ≡ cond b row (base x)
set_there rows oid x row base true room test same =
    let e : x ≡ oid = grind (arith, test) in
    ap (λ (y : ℕ). get_or (set rows oid row) y []) e ∙ get_or-set_same rows oid row [] room
set_there rows oid x row base false room test same =
    get_or-set_other rows oid x row [] (let e : x ≡ oid → ⊥ = λ is. grind (arith, test, is) in e) ∙ same

-- one row more was set in an array
pub set_one : (rows : List (List ℕ)) (entries : List Entry) (entry : Entry) → length rows ≡ OID_LIMIT → entry.0 < OID_LIMIT
    → SameRows (rows_of rows) (set_rows entries zero_rows) → SameRows (rows_of (set rows entry.0 entry.1)) (set_rows (entries ++ entry ∷ []) zero_rows)
set_one rows entries entry long object same x low =
    set_there rows entry.0 x entry.1 (set_rows entries zero_rows) (eqb x entry.0) (omega (arith, long, object)) refl (same x low)
    ∙ ap (λ (r : Rows). r x) (sym (set_rows-push entries entry zero_rows))

module _ (form : Form) (words : List ℕ) (rows : List (List ℕ)) (count at least : ℕ) (so_far : IsReadSoFar form words rows count at least) where
  -- one more row was read
  pub one_more : (entry : Entry) (size : ℕ) → length rows ≡ OID_LIMIT → BeginsWithEntry form (drop at words) entry size → least ≤ entry.0
      → IsReadSoFar form words (set rows entry.0 entry.1) (count + 1) (at + size) (entry.0 + 1)
  one_more entry size long begins above =
      let read = so_far.read in
      let f : Entry → List ℕ = entry_words form in
      let es : List Entry = read.entries in
      let more : List Entry = es ++ entry ∷ [] in
      let e_rest : read.rest ≡ f entry ++ begins.rest = sym (left form words count at read) ∙ begins.words_are in
      let all : words ≡ flat_map f more ++ begins.rest =
      read.words_are ∙ ap (λ (r : List ℕ). flat_map f es ++ r) e_rest ∙ sym (append_assoc (flat_map f es) (f entry) begins.rest)
      ∙ ap (λ (ws : List ℕ). (flat_map f es ++ ws) ++ begins.rest) (sym (append-nil (f entry)))
      ∙ ap (λ (ws : List ℕ). ws ++ begins.rest) (sym (flat_map-append f es (entry ∷ []))) in
      let sized : at + size ≡ length (flat_map f more) =
      omega (arith, read.size_is, begins.size_is, ap length (flat_map-append f es (entry ∷ [])), length-append (flat_map f es) (f entry ++ []), ap length (append-nil (f entry))) in
      let lower : (k : ℕ) (d : Entry) → k < length es → (get_or es k d).0 < entry.0 = λ k d low.
      let one : (get_or es k d).0 < least = so_far.below k d low in omega (arith, one, above) in
      record {
        read = record {
          entries = more;
          each = All-push IsSaved es entry read.each begins.is;
          ascending = all_pairs_push (λ (a b : Entry). a.0 < b.0) es entry read.ascending lower;
          many = omega (arith, read.many, length-append es (entry ∷ []));
          rest = begins.rest;
          words_are = all;
          size_is = sized;
        };
        rows_are = set_one rows es entry long begins.is.is.oid so_far.rows_are;
        within = omega (arith, sized, ap length all, length-append (flat_map f more) begins.rest);
        below = All-push (λ (e : Entry). e.0 < entry.0 + 1) es entry (λ k d low. let one : (get_or es k d).0 < entry.0 = lower k d low in omega (arith, one)) (omega arith);
        tight = λ x every. let last = subst (λ (e : Entry). e.0 < x) (get_or-append_seam es entry [] entry) (every (length es) entry (omega (arith, length-append es (entry ∷ [])))) in omega (arith, last);
      }

  module _ (total size : ℕ) (begins : HasRows form words total size) (few : count ≤ total) where
    -- these rows are the first of those that stand there
    pub front_of_all : IsFront form so_far.read.entries begins.entries so_far.read.rest begins.rest
    front_of_all =
        is_front form so_far.read.entries begins.entries so_far.read.rest begins.rest so_far.read.each begins.each (omega (arith, so_far.read.many, begins.many, few))
        (sym so_far.read.words_are ∙ begins.words_are)

    -- and where these are all of them they take as many words
    pub all_read : count ≡ total → at ≡ size
    all_read same =
        let front = front_of_all in
        let every : take (length so_far.read.entries) begins.entries ≡ begins.entries = take_all (length so_far.read.entries) begins.entries (omega (arith, so_far.read.many, begins.many, same)) in
        so_far.read.size_is ∙ ap (λ (es : List Entry). length (flat_map (entry_words form) es)) (front.front ∙ every) ∙ sym begins.size_is

    module _ (below : count < total) where
      -- the next of them
      abbrev pub next : Entry
      next = get_or begins.entries (length so_far.read.entries) (0, [])

      next_is : length so_far.read.entries < length begins.entries
      next_is = omega (arith, so_far.read.many, begins.many, below)

      -- the next of these rows stands behind those that were read
      pub next_begins : BeginsWithEntry form (drop at words) next (length (entry_words form next))
      next_begins =
          let front = front_of_all in
          record {
            is = begins.each (length so_far.read.entries) (0, []) next_is;
            rest = flat_map (entry_words form) (drop (length so_far.read.entries + 1) begins.entries) ++ begins.rest;
            words_are = left form words count at so_far.read ∙ front.behind ∙ flat_map-drop (entry_words form) begins.entries (0, []) (length so_far.read.entries) begins.rest next_is;
            size_is = refl;
          }

      -- and its object is behind theirs
      pub next_above : least ≤ next.0
      next_above =
          let front = front_of_all in
          so_far.tight next.0 (λ k d low.
          let there : k < length begins.entries = omega (arith, low, next_is) in
          let same : get_or so_far.read.entries k d ≡ get_or begins.entries k d =
          ap (λ (es : List Entry). get_or es k d) front.front ∙ get_or-take (length so_far.read.entries) begins.entries k d low in
          let less = begins.ascending k (length so_far.read.entries) (0, []) low next_is in
          subst (λ (e : Entry). e.0 < next.0) (get_or_default begins.entries k (0, []) d there ∙ sym same) less)
