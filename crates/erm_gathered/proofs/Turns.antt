-- The pass may be joined as before, where the flush seat gathers and clears.
use Rattle.std.proofs.Common.{◌≡◌, ℕ, ◌<◌, ⊎_elim, List, [], ◌∷◌, length, map, unwrap_or, Some, refl, sym, ap, ◌∙◌, subst, eq-eqb, cond, Bool, arith}
use Rattle.std.proofs.lemmas.Bool.{cases_eq, ne_eqb}
use Rattle.erm_machine.specs.declared.limits.TheConstants.{FLUSH_SEAT}
use Rattle.erm_machine.specs.declared.part.Part.{Part}
use Rattle.erm_machine.specs.declared.place.Place.TheVariants.{Vacant}
use Rattle.erm_machine.specs.Core.{fresh_part}
use Rattle.erm_machine.specs.Seat.{is_vacant}
use Rattle.erm_ring.specs.Turns.{DidClear, Gathers}
use Rattle.erm_rule.specs.declared.view.Book.{Book}
use Rattle.erm_rule.specs.declared.view.Held.{Held}
use Rattle.erm_rule.specs.declared.view.View.{View}
use Rattle.erm_rule.specs.Views.{first_held, held_after, of_seats, part_in, part_of, with_part, MayJoin}
use Rattle.erm_world.specs.declared.gathered.Gathered.{Gathered}
use Rattle.erm_world.specs.declared.gathered.Gathered.TheVariants.{Empty, Unfilled, Words}

-- THE FIRST SEAT of the pass stays where it is, where its part's place stays.
module _ (who : ℕ) (y : Part) where
  placed : (hs : List Held) → is_vacant y.place ≡ is_vacant (part_of (of_seats hs) who).place → 0 < length hs
      → (0 < length (map (held_after who y) hs)) × (is_vacant (first_held (of_seats (map (held_after who y) hs))).part.place ≡ is_vacant (first_held (of_seats hs)).part.place)
  placed [] same some = absurd (omega (arith, some))
  placed (h ∷ hs) same some = (
    omega arith,
    ⊎_elim
        (λ (here : h.seat ≡ who).
        let test = eq-eqb h.seat who here in
        let new : (held_after who y h).part ≡ y = ap (λ (t : Bool). cond t y h.part) test in
        let old : part_of (of_seats (h ∷ hs)) who ≡ h.part = ap (λ (t : Bool). unwrap_or (cond t (Some h.part) (part_in (of_seats hs) who)) (fresh_part Vacant 0 0)) test in
        ap (λ (x : Part). is_vacant x.place) new ∙ same ∙ ap (λ (x : Part). is_vacant x.place) old)
        (λ (other : h.seat ≡ who → ⊥).
        ap (λ (t : Bool). is_vacant (cond t y h.part).place) (ne_eqb h.seat who other))
        (cases_eq h.seat who),
  )

pub joins_still : (v w : View) (y : Part) → w ≡ with_part FLUSH_SEAT y v → is_vacant y.place ≡ is_vacant (part_of v FLUSH_SEAT).place → MayJoin v → MayJoin w
joins_still v w y is same may =
    let at = placed FLUSH_SEAT y v.held same may.some_held in
    subst MayJoin (sym is) (record { some_held = at.0; taken = at.1 ∙ may.taken })

pub gather_joins : (g : Gathered) (words : List ℕ) (b e : Book) → MayJoin b.view → Gathers g b words e → MayJoin e.view
gather_joins (Empty at) words b e may did = joins_still b.view e.view _ did.view_is refl may
gather_joins (Unfilled at) words b e may did = joins_still b.view e.view _ did.1.view_is refl may
gather_joins (Words at count) words b e may did = joins_still b.view e.view _ did.1.view_is refl may

pub clear_joins : (to : ℕ) (b e : Book) → MayJoin b.view → DidClear b to e → MayJoin e.view
clear_joins to b e may did = joins_still b.view e.view _ did.view_is refl may
