-- The cells that a cut takes off name one another by their links: each that of the next older one, and the oldest 0.
use Rattle.std.proofs.Common.{◌≡◌, ◌≢◌, ℕ, zero, suc, ◌+◌, ◌-◌, ◌%◌, ◌^◌, ◌<◌, ◌≤◌, List, length, drop, take, get_or, refl, sym, ap, ◌∙◌, arith}
use Rattle.std.proofs.lemmas.List.{get_or-drop, get_or-map, get_or-take, length-drop, length-map, length-take}
use Rattle.erm_machine.specs.declared.attempt.OwnCell.{OwnCell}
use Rattle.erm_machine.specs.declared.version.Version.{Version}
use Rattle.erm_machine.specs.Chains.{Linked}
use Rattle.erm_machine.specs.Core.{Object, version_at, no_version}
use Rattle.erm_machine.specs.Reading.{cut_off}
use Rattle.erm_machine.specs.Words.{blank_cell}

abbrev pub no_cell : OwnCell
no_cell = record { cell = 0; words = blank_cell }

-- the cell at a place of a list
abbrev pub cell_at : List OwnCell → ℕ → OwnCell
cell_at cut k = get_or cut k no_cell

-- the link that names the last of so many cells, or 0
abbrev pub link_to : List OwnCell → ℕ → ℕ
link_to cut zero = 0
link_to cut (suc k) = (cell_at cut k).cell + 1

pub record AreLinked (cut : List OwnCell) : Type 0 where
  pub small : (k : ℕ) → k < length cut → (cell_at cut k).cell < 2 ^ 24
  pub links : (k : ℕ) → k < length cut → (cell_at cut k).words.link ≡ link_to cut k

-- a link that isn't 0 names a cell
pub link_positive : (cut : List OwnCell) (n link : ℕ) → link ≡ link_to cut n → link ≢ 0 → 0 < n
link_positive cut zero link is some = absurd (some is)
link_positive cut (suc k) link is some = omega arith

-- and 0 names none
pub link_none : (cut : List OwnCell) (n link : ℕ) → link ≡ link_to cut n → link ≡ 0 → n ≡ 0
link_none cut zero link is none = refl
link_none cut (suc k) link is none = absurd (omega (arith, is, none))

-- the cell named by a link
pub link_names : (cut : List OwnCell) (n link : ℕ) → link ≡ link_to cut n → 0 < n → n ≤ length cut → AreLinked cut → (link - 1) % 2 ^ 32 ≡ (cell_at cut (n - 1)).cell
link_names cut zero link is some within linked = absurd (omega (arith, some))
link_names cut (suc k) link is some within linked =
    let back : suc k - 1 ≡ k = omega arith in
    let low : (cell_at cut k).cell < 2 ^ 24 = linked.small k (omega (arith, within)) in
    small_word link (cell_at cut k).cell is low ∙ ap (λ m. (cell_at cut m).cell) (sym back)
  where
    small_word : (n m : ℕ) → n ≡ m + 1 → m < 2 ^ 24 → (n - 1) % 2 ^ 32 ≡ m
    small_word n m e lt = omega (arith, e, lt)

module _ (o : Object) (place : ℕ) (chain : Linked o) (small : (i : ℕ) → i < length o.versions → (version_at o i).cell < 2 ^ 24)
    (attached : o.cut ≤ place) (within : place < length o.versions) where
  abbrev cut : List OwnCell
  cut = cut_off place o

  abbrev own_of : Version → OwnCell
  own_of v = record { cell = v.cell; words = v.words }

  pub cut_size : length cut ≡ place - o.cut
  cut_size =
      let a = length-map (drop o.cut (take place o.versions)) own_of in
      let b = length-drop o.cut (take place o.versions) in
      let d = length-take place o.versions in
      omega (arith, a, b, d, attached, within)

  -- the k-th of them is the version's that stood so many places above the oldest
  cut_at : (k : ℕ) → k < length cut → cell_at cut k ≡ own_of (version_at o (o.cut + k))
  cut_at k below =
      let size = cut_size in
      let here : k < length (drop o.cut (take place o.versions)) = let a = length-map (drop o.cut (take place o.versions)) own_of in omega (arith, a, below) in
      let old : o.cut + k < place = omega (arith, size, below, attached) in
      get_or-map own_of (drop o.cut (take place o.versions)) k no_version no_cell here
      ∙ ap own_of (get_or-drop o.cut (take place o.versions) k no_version ∙ get_or-take place o.versions (o.cut + k) no_version old)

  linked_at : (k : ℕ) → k ≤ length cut → (version_at o (o.cut + k)).words.link ≡ link_to cut k
  linked_at zero below = let first : o.cut + 0 ≡ o.cut = omega arith in ap (λ m. (version_at o m).words.link) first ∙ chain.oldest
  linked_at (suc k) below =
      let size = cut_size in
      let back : o.cut + suc k - 1 ≡ o.cut + k = omega arith in
      chain.older (o.cut + suc k) (omega arith) (omega (arith, size, below, attached, within))
      ∙ ap (λ m. (version_at o m).cell + 1) back
      ∙ ap (λ (own : OwnCell). own.cell + 1) (sym (cut_at k (omega (arith, below))))

  pub are_linked : AreLinked cut
  are_linked = record {
    small = λ k below.
        let size = cut_size in
        let low = small (o.cut + k) (omega (arith, size, below, attached, within)) in
        let at = ap (λ (own : OwnCell). own.cell) (cut_at k below) in
        omega (arith, low, at);
    links = λ k below. ap (λ (own : OwnCell). own.words.link) (cut_at k below) ∙ linked_at k (omega (arith, below));
  }

  -- the link of the version behind which the chain is cut names the newest of them
  pub first_link : (version_at o place).words.link ≡ link_to cut (length cut)
  first_link =
      let size = cut_size in
      let top : place ≡ o.cut + length cut = omega (arith, size, attached) in
      ap (λ m. (version_at o m).words.link) top ∙ linked_at (length cut) (omega arith)
