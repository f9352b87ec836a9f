-- The savepoints of a world of one session: they are those of what its transaction goes on to.
use Rattle.std.proofs.Common.{◌≡◌, ℕ, zero, suc, ◌+◌, ◌<◌, ◌≤◌, false, List, Vec, [], ◌∷◌, ◌++◌, map, length, take, set, get_or, append-nil, length-append, option_map, refl, sym, ap, ◌∙◌, subst, arith, inl, inr, Option, None, Some}
use Rattle.std.specs.List.{slice_get}
use Rattle.std.proofs.lemmas.List.{length-map, map-append, take-map}
use Rattle.std.proofs.lemmas.Option.{slice_get-get_or, slice_get-map}
use Rattle.erm_model.specs.declared.history.VersionRead.{VersionRead}
use Rattle.erm_model.specs.declared.history.VersionWritten.{VersionWritten}
use Rattle.erm_model.specs.declared.limits.TheConstants.{SAVES}
use Rattle.erm_model.specs.Member.{◌∈◌}
use Rattle.erm_model.specs.RowTransaction.{Law}
use Rattle.erm_model.proofs.Members.{slice_get-push}
use Rattle.erm_model.proofs.Savings.{slice_get-take}
use Rattle.erm_map_world.specs.MapWorks.{restored_claim}
use Rattle.erm_map_world.specs.MapWorld.{FitSaves, IsMapWorld, Map}
use Rattle.erm_map_world.specs.Standing.{saves_in}
use Rattle.erm_world.specs.Going.{Extends, found_by}
use Rattle.erm_world.specs.Saves.{restored, with_claims}
use Rattle.erm_world.specs.Works.{claiming, making, reading, setting, with_row}
use Rattle.erm_world.specs.World.{Work}
use Rattle.erm_world.specs.World as world
use Rattle.erm_world.proofs.Halfway.{claim_back, halfway, halfway-set}
use Rattle.erm_world.proofs.Restored.{AreSavesOf-extended, AreSavesOf-front, AreSavesOf-more, AreSavesOf-none, AreSavesOf-restored}

-- one call more
pub reading_more : (r : VersionRead) (w : Work) → Extends w (reading r w)
reading_more r w = record {
  number = refl;
  begin = refl;
  read = r ∷ [];
  reads = refl;
  claimed = [];
  claims = sym (append-nil (map found_by w.claims));
  more = [];
  made = sym (append-nil w.made);
}

pub claiming_more : (c : VersionWritten) (w : Work) → Extends w (claiming c w)
claiming_more c w = record {
  number = refl;
  begin = refl;
  read = [];
  reads = sym (append-nil w.reads);
  claimed = found_by c ∷ [];
  claims = map-append found_by w.claims (c ∷ []);
  more = [];
  made = sym (append-nil w.made);
}

found_still : (oid : ℕ) (row : List ℕ) (cs : List VersionWritten) → map found_by (map (with_row oid row) cs) ≡ map found_by cs
found_still oid row [] = refl
found_still oid row (c ∷ cs) = ap (λ (rest : List (ℕ × ℕ × List ℕ)). found_by c ∷ rest) (found_still oid row cs)

pub setting_more : (oid : ℕ) (row : List ℕ) (w : Work) → Extends w (setting oid row w)
setting_more oid row w = record {
  number = refl;
  begin = refl;
  read = [];
  reads = sym (append-nil w.reads);
  claimed = [];
  claims = found_still oid row w.claims ∙ sym (append-nil (map found_by w.claims));
  more = [];
  made = sym (append-nil w.made);
}

pub making_more : (oid : ℕ) (w : Work) → Extends w (making oid w)
making_more oid w = record {
  number = refl;
  begin = refl;
  read = [];
  reads = sym (append-nil w.reads);
  claimed = [];
  claims = sym (append-nil (map found_by w.claims));
  more = oid ∷ [];
  made = refl;
}

pub FitSaves-more : (w u : Work) (saves : List (List VersionWritten)) → Extends w u → FitSaves (world.active w) saves → FitSaves (world.active u) saves
FitSaves-more w u saves more fit = (AreSavesOf-extended w u saves more fit.0, fit.1, fit.2)

-- where there are none
pub FitSaves-none : (w : Work) → FitSaves (world.active w) []
FitSaves-none w = (AreSavesOf-none w, omega arith, λ j saved at. absurd (cc))

-- one more, and those up to one
pub FitSaves-push : (w : Work) (saves : List (List VersionWritten)) → length saves < SAVES → ((c : VersionWritten) → c ∈ w.claims → c.is_set ≡ false → c.row ≡ c.base)
    → FitSaves (world.active w) saves → FitSaves (world.active w) (saves ++ w.claims ∷ [])
FitSaves-push w saves room kept fit =
    let count : length (saves ++ w.claims ∷ []) ≡ length saves + 1 = length-append saves (w.claims ∷ []) in (
      AreSavesOf-more w saves fit.0,
      omega (arith, count, room),
      λ j saved at.
          elim (slice_get-push saves w.claims saved j at) as (λ _. (s : VersionWritten) → s ∈ saved → s.is_set ≡ false → s.row ≡ s.base) [
            | inl before ↦ fit.2 j saved before.1
            | inr last ↦ subst (λ (claims : List VersionWritten). (s : VersionWritten) → s ∈ claims → s.is_set ≡ false → s.row ≡ s.base) last.1 kept
          ],
    )

pub FitSaves-back : (n : ℕ) (w : Work) (saves : List (List VersionWritten)) (k : ℕ) (saved : List VersionWritten) → slice_get saves k ≡ Some saved → FitSaves (world.active w) saves
    → FitSaves (world.active (with_claims (restored saved w.claims) w)) (take n saves)
FitSaves-back n w saves k saved at fit =
    let u : Work = with_claims (restored saved w.claims) w in
    let fewer : length (take n saves) ≤ length saves = length_take_le n saves in (
      AreSavesOf-front n u saves (AreSavesOf-restored w saves k saved fit.0 at),
      omega (arith, fewer, fit.1),
      λ j earlier there. fit.2 j earlier (slice_get-take n saves j earlier there),
    )
  where
    length_take_le : (i : ℕ) (xs : List (List VersionWritten)) → length (take i xs) ≤ length xs
    length_take_le zero xs = omega arith
    length_take_le (suc i) [] = omega arith
    length_take_le (suc i) (x ∷ xs) = omega (arith, length_take_le i xs)

-- the claims that the savepoint of a number keeps
pub saved_at : {A : Type 0} (items : List (Vec VersionWritten A)) (place : ℕ) (d : Vec VersionWritten A) → place < length items → slice_get (saves_in items) place ≡ Some (get_or items place d).items
saved_at {A} items place d within =
    slice_get-map (λ (v : Vec VersionWritten A). v.items) items place ∙ ap (option_map (λ (v : Vec VersionWritten A). v.items)) (slice_get-get_or items place d within)

-- a world with other savepoints
pub resaved : (law : Law) (m : Map) (saves : List (List VersionWritten)) → FitSaves m.stand saves → IsMapWorld law m → IsMapWorld law (record m { saves = saves })
resaved law m saves fit is = record {
  positive = is.positive;
  meets = is.meets;
  reach = is.reach;
  past = is.past;
  now_is = is.now_is;
  saves = fit;
  made_once = is.made_once;
  made_new = is.made_new;
  made_all = is.made_all;
  next_above = is.next_above;
}

-- a claim that goes back
pub restored_so : (saved : Option VersionWritten) (c : VersionWritten) → restored_claim saved c ≡ claim_back saved c
restored_so None c = refl
restored_so (Some s) c = refl

pub restored_next : (saved claims : List VersionWritten) (i : ℕ) (d : VersionWritten) → i < length claims
    → set (halfway saved claims i) i (restored_claim (slice_get saved i) (get_or claims i d)) ≡ halfway saved claims (suc i)
restored_next saved claims i d within =
    ap (λ (r : VersionWritten). set (halfway saved claims i) i r) (restored_so (slice_get saved i) (get_or claims i d)) ∙ halfway-set saved claims i d within

-- the lists that savepoints keep
pub saves_push : {A : Type 0} (items : List (Vec VersionWritten A)) (v : Vec VersionWritten A) → saves_in (items ++ v ∷ []) ≡ saves_in items ++ v.items ∷ []
saves_push {A} items v = map-append (λ (saved : Vec VersionWritten A). saved.items) items (v ∷ [])

pub saves_count : {A : Type 0} (items : List (Vec VersionWritten A)) → length (saves_in items) ≡ length items
saves_count {A} items = length-map items (λ (saved : Vec VersionWritten A). saved.items)

pub saves_cut : {A : Type 0} (n : ℕ) (items : List (Vec VersionWritten A)) → saves_in (take n items) ≡ take n (saves_in items)
saves_cut {A} n items = sym (take-map (λ (saved : Vec VersionWritten A). saved.items) n items)

pub in_items : {A : Type 0} (items : List (Vec VersionWritten A)) (place : ℕ) (d : Vec VersionWritten A) (claims : List VersionWritten) → d ≡ get_or items place d → claims ≡ d.items
    → (get_or items place d).items ≡ claims
in_items {A} items place d claims is same = sym (same ∙ ap (λ (v : Vec VersionWritten A). v.items) is)
