-- No two of some entries have one object, one more entry at a time.
use Rattle.std.proofs.Common.{◌≡◌, ◌≢◌, ℕ, ◌+◌, ◌<◌, ◌≤◌, List, length, get_or, take, sym, ap, ◌∙◌, subst, arith}
use Rattle.std.specs.List.{AllPairs, Any}
use Rattle.std.proofs.lemmas.List.{get_or-take, get_or_default, length-take-le, take_more, take_all}
use Rattle.std.proofs.lemmas.List.Quantifiers.{all_pairs_push}
use Rattle.erm_block.specs.Block.{Entry}

-- two entries are of two objects
abbrev pub Apart : Entry → Entry → Type 0
Apart a b = a.0 ≢ b.0

-- some entry is of this object
abbrev pub Has : ℕ → List Entry → Type 0
Has oid entries = Any (λ entry. entry.0 ≡ oid) entries

-- the next entry's object is none of those before
pub AllPairs-more : (entries : List Entry) (i : ℕ) (d : Entry) → i < length entries → AllPairs Apart (take i entries) → (Has (get_or entries i d).0 (take i entries) → ⊥) → AllPairs Apart (take (i + 1) entries)
AllPairs-more entries i d below apart fresh =
    let P : List Entry → Type 0 = AllPairs Apart in
    let front : List Entry = take i entries in
    subst P (sym (take_more entries i d below)) (all_pairs_push Apart front (get_or entries i d) apart (λ k e lt same. fresh (k, get_or front k e, lt, get_or_default front k _ e lt, same)))

-- an object that came before comes again
pub not_AllPairs : (entries : List Entry) (i : ℕ) (d : Entry) → i < length entries → Has (get_or entries i d).0 (take i entries) → AllPairs Apart entries → ⊥
not_AllPairs entries i d below (k, x, lt, is, same) apart =
    let before : k < i = omega (arith, length-take-le i entries (omega arith)) in
    let first : get_or entries k x ≡ x = sym (get_or-take i entries k x before) ∙ is in
    apart k i x before below (ap (λ (e : Entry). e.0) first ∙ same ∙ ap (λ (e : Entry). e.0) (get_or_default entries i d x below))

-- all of them were passed
pub AllPairs-all : (entries : List Entry) (i : ℕ) → length entries ≤ i → AllPairs Apart (take i entries) → AllPairs Apart entries
AllPairs-all entries i done apart = let P : List Entry → Type 0 = AllPairs Apart in subst P (take_all i entries done) apart
