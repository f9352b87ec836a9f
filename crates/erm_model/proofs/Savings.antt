-- What is worked on and what was saved of it, read in another way; and all of it, where all have something.
use Rattle.std.proofs.Common.{◌≡◌, refl, ℕ, zero, suc, List, [], ◌∷◌, Option, Some, None, map, take, inl, inr, sym, ap, ◌∙◌, subst}
use Rattle.std.specs.List.{slice_get}
use Rattle.std.specs.Option.{option_map}
use Rattle.std.proofs.lemmas.List.{map-append, take-map}
use Rattle.std.proofs.lemmas.Option.{slice_get-map}
use Rattle.erm_model.specs.declared.operation.Op.{Op}
use Rattle.erm_model.specs.declared.operation.Op.TheVariants.{Get, Put, Del, Next, Scan, Save, Back}
use Rattle.erm_model.specs.InTurn.{in_turn}
use Rattle.erm_model.specs.Member.{◌∈◌}
use Rattle.erm_model.specs.Run.{IsOnMap, Saving, after_by, back_to, going_on, saved_as}
use Rattle.erm_model.proofs.Members.{∈-push}
use Rattle.erm_model.proofs.OnMap.{after_by-on_map}

-- what stands in a list's front stands in the list
pub slice_get-take : {X : Type 0} (n : ℕ) (xs : List X) (j : ℕ) (x : X) → slice_get (take n xs) j ≡ Some x → slice_get xs j ≡ Some x
slice_get-take zero xs j x at = absurd (cc)
slice_get-take (suc n) [] j x at = at
slice_get-take (suc n) (y ∷ xs) zero x at = at
slice_get-take (suc n) (y ∷ xs) (suc j) x at = slice_get-take n xs j x at

-- what was saved as the n-th is one of what was saved
pub saved_in : {X : Type 0} (n : ℕ) (saved : List X) (x : X) → saved_as n saved ≡ Some x → x ∈ saved
saved_in zero saved x is = absurd (cc)
saved_in (suc k) saved x is = (k, is)

-- an operation is on the map, or one of the two on savepoints
pub op_cases : (P : Op → Type 0) → ((op : Op) → IsOnMap op → P op) → P Save → ((n : ℕ) → P (Back n)) → (op : Op) → P op
op_cases P on save back (Get table key) = on (Get table key) tt
op_cases P on save back (Put table key value) = on (Put table key value) tt
op_cases P on save back (Del table key) = on (Del table key) tt
op_cases P on save back (Next table from) = on (Next table from) tt
op_cases P on save back (Scan table low high) = on (Scan table low high) tt
op_cases P on save back Save = save
op_cases P on save back (Back n) = back n

-- what is worked on and what was saved of it, read in another way
abbrev pub read_as : {X Y : Type 0} → (X → Y) → Saving X → Saving Y
read_as f s = record { now = f s.now; saved = map f s.saved }

module _ {X Y : Type 0} (f : X → Y) where
  -- what was saved as the n-th, read so
  pub saved_as-map : (n : ℕ) (saved : List X) → saved_as n (map f saved) ≡ option_map f (saved_as n saved)
  saved_as-map zero saved = refl
  saved_as-map (suc k) saved = slice_get-map f saved k

  back_to-read_as : (n : ℕ) (old : Option X) (s : Saving X) → back_to n (option_map f old) (read_as f s) ≡ read_as f (back_to n old s)
  back_to-read_as n (Some x) s = ap (λ (saved : List Y). let left : Saving Y = record { now = f x; saved = saved } in left) (take-map f n s.saved)
  back_to-read_as n None s = refl

  module _ (does : Op → X → X) (acts : Op → Y → Y) where
    -- an operation does the same where what it does on the map is the same
    pub after_by-read_as : (op : Op) (s : Saving X) → (IsOnMap op → acts op (f s.now) ≡ f (does op s.now)) → after_by acts op (read_as f s) ≡ read_as f (after_by does op s)
    after_by-read_as op s = op_cases (λ (o : Op). (IsOnMap o → acts o (f s.now) ≡ f (does o s.now)) → after_by acts o (read_as f s) ≡ read_as f (after_by does o s))
        (λ o on same. after_by-on_map acts o (read_as f s) on ∙ ap (λ (now : Y). going_on now (read_as f s)) (same on) ∙ sym (ap (read_as f) (after_by-on_map does o s on)))
        (λ same. ap (λ (saved : List Y). let left : Saving Y = record { now = f s.now; saved = saved } in left) (sym (map-append f s.saved (s.now ∷ []))))
        (λ n same. ap (λ (old : Option Y). back_to n old (read_as f s)) (saved_as-map n s.saved) ∙ back_to-read_as n (saved_as n s.saved) s) op

    -- operations do the same where what they do on the map is the same
    pub in_turn-read_as : ((op : Op) (x : X) → IsOnMap op → acts op (f x) ≡ f (does op x)) → (ops : List Op) (s : Saving X) → in_turn (after_by acts) ops (read_as f s) ≡ read_as f (in_turn (after_by does) ops s)
    in_turn-read_as same [] s = refl
    in_turn-read_as same (op ∷ ops) s = ap (in_turn (after_by acts) ops) (after_by-read_as op s (same op s.now)) ∙ in_turn-read_as same ops (after_by does op s)

module _ {X : Type 0} (P : X → Type 0) where
  -- what is worked on has it, and all that was saved
  pub record AreAll (s : Saving X) : Type 0 where
    pub now : P s.now
    pub saved : (x : X) → x ∈ s.saved → P x

  pub all_begins : (x : X) → P x → AreAll (record { now = x; saved = [] })
  all_begins x has = record { now = has; saved = λ y there. absurd (cc (there.1)) }

  all_back : (n : ℕ) (s : Saving X) → AreAll s → (old : Option X) → saved_as n s.saved ≡ old → AreAll (back_to n old s)
  all_back n s all (Some x) is = record {
    now = all.saved x (saved_in n s.saved x is);
    saved = λ other there. all.saved other (there.0, slice_get-take n s.saved there.0 other there.1);
  }
  all_back n s all None is = all

  -- an operation keeps it where one on the map does
  pub all_after : (does : Op → X → X) (op : Op) (s : Saving X) → (IsOnMap op → P s.now → P (does op s.now)) → AreAll s → AreAll (after_by does op s)
  all_after does op s = op_cases (λ (o : Op). (IsOnMap o → P s.now → P (does o s.now)) → AreAll s → AreAll (after_by does o s))
      (λ o on keeps all. subst AreAll (sym (after_by-on_map does o s on)) (record { now = keeps on all.now; saved = all.saved }))
      (λ keeps all. record {
        now = all.now;
        saved = λ x there. elim (∈-push s.saved s.now x there) [
          | inl before ↦ all.saved x before
          | inr last ↦ subst P (sym last) all.now
        ];
      })
      (λ n keeps all. all_back n s all (saved_as n s.saved) refl) op

  -- and operations in turn do
  pub all_in_turn : (does : Op → X → X) (ops : List Op) (s : Saving X) → ((op : Op) (x : X) → op ∈ ops → IsOnMap op → P x → P (does op x)) → AreAll s → AreAll (in_turn (after_by does) ops s)
  all_in_turn does [] s keeps all = all
  all_in_turn does (op ∷ ops) s keeps all =
      all_in_turn does ops (after_by does op s) (λ o x there on has. keeps o x (suc there.0, there.1) on has)
      (all_after does op s (λ on has. keeps op s.now (zero, refl) on has) all)
