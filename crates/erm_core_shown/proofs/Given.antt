-- The claims that the transactions of a seat gave up, as a world shows them.
use Rattle.std.proofs.Common.{◌≡◌, ℕ, ◌⊎◌, ⊎_elim, inl, inr, List, [], ◌∷◌, ◌++◌, append-nil, flat_map, map, sym, ap, ◌∙◌, subst}
use Rattle.std.proofs.lemmas.Grind.{flat_map-append}
use Rattle.std.proofs.lemmas.List.{map-append}
use Rattle.erm_model.specs.Member.{◌∈◌}
use Rattle.erm_model.proofs.Members.{none_in_nil, ∈-push}
use Rattle.erm_machine.specs.declared.attempt.Attempt.{Attempt}
use Rattle.erm_machine.specs.declared.part.Part.{Part}
use Rattle.erm_machine.specs.Facts.{all_of}
use Rattle.erm_machine.proofs.Listed.{∈-cons, ∈-either, ∈-first, ∈-map_from, ∈-second}
use Rattle.erm_world.specs.World.{GivenUp}
use Rattle.erm_core_shown.specs.Shown.{given_up_of}

-- those of one transaction
abbrev pub given_by : Attempt → List GivenUp
given_by t = map (λ oid. record { number = t.number; oid = oid }) t.given_up

-- one of a transaction of the seat is one of the seat's
from_flat : (ts : List Attempt) (t : Attempt) (x : GivenUp) → t ∈ ts → x ∈ given_by t → x ∈ flat_map given_by ts
from_flat [] t x m within = absurd (none_in_nil t m)
from_flat (u ∷ ts) t x m within =
    ⊎_elim (λ (here : u ≡ t). ∈-first (given_by u) (flat_map given_by ts) x (subst (λ (a : Attempt). x ∈ given_by a) (sym here) within))
    (λ (there : t ∈ ts). ∈-second (given_by u) (flat_map given_by ts) x (from_flat ts t x there within)) (∈-cons t u ts m)

pub given_stands : (x : Part) (t : Attempt) (oid : ℕ) → t ∈ all_of x → oid ∈ t.given_up → record { number = t.number; oid = oid } ∈ given_up_of x
given_stands x t oid m given =
    let g : GivenUp = record { number = t.number; oid = oid } in
    from_flat (all_of x) t g m (∈-map_from (λ (n : ℕ). let u : GivenUp = record { number = t.number; oid = n } in u) t.given_up oid given)

-- those of the transactions that are over, and those of the current one behind them
pub given_split : (x : Part) → given_up_of x ≡ flat_map given_by x.over ++ given_by x.current
given_split x = flat_map-append given_by x.over (x.current ∷ []) ∙ ap (λ (gs : List GivenUp). flat_map given_by x.over ++ gs) (append-nil (given_by x.current))

-- what is over stayed, and what the current one gave up
pub given_stays : (x y : Part) → y.over ≡ x.over → given_by y.current ≡ given_by x.current → given_up_of y ≡ given_up_of x
given_stays x y over current =
    given_split y ∙ ap (λ (ts : List Attempt). flat_map given_by ts ++ given_by y.current) over ∙ ap (λ (gs : List GivenUp). flat_map given_by x.over ++ gs) current ∙ sym (given_split x)

-- the current one is over, and the next one gave up none
pub given_ends : (x y : Part) (u : Attempt) → y.over ≡ x.over ++ u ∷ [] → given_by u ≡ given_by x.current → y.current.given_up ≡ [] → given_up_of y ≡ given_up_of x
given_ends x y u over same none =
    given_split y
    ∙ ap (λ (ns : List ℕ). flat_map given_by y.over ++ map (λ (n : ℕ). let g : GivenUp = record { number = y.current.number; oid = n } in g) ns) none
    ∙ append-nil (flat_map given_by y.over)
    ∙ ap (λ (ts : List Attempt). flat_map given_by ts) over
    ∙ flat_map-append given_by x.over (u ∷ [])
    ∙ ap (λ (gs : List GivenUp). flat_map given_by x.over ++ gs) (append-nil (given_by u) ∙ same)
    ∙ sym (given_split x)

-- the current one gave up one more
pub given_more : (x y : Part) (oid : ℕ) → y.over ≡ x.over → y.current.number ≡ x.current.number → y.current.given_up ≡ x.current.given_up ++ oid ∷ [] → (g : GivenUp) → g ∈ given_up_of y
    → (g ∈ given_up_of x) ⊎ (g ≡ record { number = x.current.number; oid = oid })
given_more x y oid over number given g m =
    let last : GivenUp = record { number = x.current.number; oid = oid } in
    let by : ℕ → ℕ → GivenUp = λ k n. record { number = k; oid = n } in
    let now : given_by y.current ≡ given_by x.current ++ last ∷ [] =
    ap (λ (k : ℕ). map (λ (n : ℕ). by k n) y.current.given_up) number ∙ ap (λ (ns : List ℕ). map (λ (n : ℕ). by x.current.number n) ns) given
    ∙ map-append (λ (n : ℕ). by x.current.number n) x.current.given_up (oid ∷ []) in
    let all : given_up_of y ≡ flat_map given_by x.over ++ (given_by x.current ++ last ∷ []) =
    given_split y ∙ ap (λ (ts : List Attempt). flat_map given_by ts ++ given_by y.current) over ∙ ap (λ (gs : List GivenUp). flat_map given_by x.over ++ gs) now in
    ⊎_elim
    (λ (past : g ∈ flat_map given_by x.over). inl (subst (λ (gs : List GivenUp). g ∈ gs) (sym (given_split x)) (∈-first (flat_map given_by x.over) (given_by x.current) g past)))
    (λ (current : g ∈ (given_by x.current ++ last ∷ [])).
    ⊎_elim
    (λ (before : g ∈ given_by x.current). inl (subst (λ (gs : List GivenUp). g ∈ gs) (sym (given_split x)) (∈-second (flat_map given_by x.over) (given_by x.current) g before)))
    (λ (new : g ≡ last). inr new) (∈-push (given_by x.current) last g current))
    (∈-either (flat_map given_by x.over) (given_by x.current ++ last ∷ []) g (subst (λ (gs : List GivenUp). g ∈ gs) all m))
