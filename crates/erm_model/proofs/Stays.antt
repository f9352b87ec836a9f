-- What stays of what a transaction does.
use Rattle.std.proofs.Common.{◌≡◌, refl, ℕ, zero, suc, ◌+◌, ◌<◌, List, [], ◌∷◌, ◌++◌, Option, Some, None, get_or, length, map, take, inl, inr, sym, ap, ◌∙◌, subst, arith}
use Rattle.std.specs.List.{cons_option, filter_map, slice_get}
use Rattle.std.proofs.lemmas.List.{length-map, map-append}
use Rattle.std.proofs.lemmas.List.Elements.{filter_map-append}
use Rattle.erm_model.specs.declared.operation.Op.{Op}
use Rattle.erm_model.specs.Database.{Database}
use Rattle.erm_model.specs.InTurn.{in_turn}
use Rattle.erm_model.specs.Member.{◌∈◌}
use Rattle.erm_model.specs.Run.{IsOnMap, Saving, after, after_all, after_from, begins, change, change_all, going_on}
use Rattle.erm_model.specs.Staying.{held_by, stays_by, staying, staying_from}
use Rattle.erm_model.proofs.InTurn.{in_turn-append, in_turn-take_more}
use Rattle.erm_model.proofs.Members.{∈-push, slice_get-push}
use Rattle.erm_model.proofs.OnMap.{after_by-on_map, change_all-push}
use Rattle.erm_model.proofs.Savings.{AreAll, after_by-read_as, all_after, all_begins, read_as}

module _ {X : Type 0} (op_of : X → Option Op) where
  abbrev one : X → Saving (List X) → Saving (List X)
  one x s = stays_by (op_of x) x s

  -- things after others
  pub staying_from-append : (xs ys : List X) (s : Saving (List X)) → staying_from op_of (xs ++ ys) s ≡ staying_from op_of ys (staying_from op_of xs s)
  staying_from-append xs ys s = in_turn-append one xs ys s

  -- one thing more
  pub staying_from-push : (xs : List X) (x : X) (s : Saving (List X)) → staying_from op_of (xs ++ x ∷ []) s ≡ stays_by (op_of x) x (staying_from op_of xs s)
  staying_from-push xs x s = staying_from-append xs (x ∷ []) s

  -- things up to a place and the one at that place
  pub staying_from-take_more : (xs : List X) (i : ℕ) (x : X) (s : Saving (List X)) → i < length xs → x ≡ get_or xs i x → staying_from op_of (take (i + 1) xs) s ≡ stays_by (op_of x) x (staying_from op_of (take i xs) s)
  staying_from-take_more xs i x s within is = in_turn-take_more one xs i x s within is

  -- one more on the map stays behind the others, and no savepoint changes
  pub staying_from-on_map : (xs : List X) (x : X) (op : Op) (s : Saving (List X)) → op_of x ≡ Some op → IsOnMap op → staying_from op_of (xs ++ x ∷ []) s ≡ going_on ((staying_from op_of xs s).now ++ x ∷ []) (staying_from op_of xs s)
  staying_from-on_map xs x op s is on =
      staying_from-push xs x s
      ∙ ap (λ (o : Option Op). stays_by o x (staying_from op_of xs s)) is
      ∙ after_by-on_map (λ _ ys. ys ++ x ∷ []) op (staying_from op_of xs s) on

  -- what a thing keeps of all lists of what stays
  all_stays : (P : List X → Type 0) (x : X) (s : Saving (List X)) (o : Option Op) → ((op : Op) → o ≡ Some op → IsOnMap op → P s.now → P (s.now ++ x ∷ [])) → AreAll P s → AreAll P (stays_by o x s)
  all_stays P x s (Some op) keeps all = all_after P (λ _ ys. ys ++ x ∷ []) op s (λ on has. keeps op refl on has) all
  all_stays P x s None keeps all = all

  -- what stays has what each thing has that does an operation on the map
  module _ (P : X → Type 0) where
    abbrev Has : List X → Type 0
    Has ys = (y : X) → y ∈ ys → P y

    has_staying : (xs : List X) (s : Saving (List X)) → ((x : X) (op : Op) → x ∈ xs → op_of x ≡ Some op → IsOnMap op → P x) → AreAll Has s → AreAll Has (staying_from op_of xs s)
    has_staying [] s each all = all
    has_staying (x ∷ xs) s each all =
        has_staying xs (one x s) (λ y op there is on. each y op (suc there.0, there.1) is on)
        (all_stays Has x s (op_of x) (λ op is on has y there. elim (∈-push s.now x y there) [
          | inl before ↦ has y before
          | inr last ↦ subst P (sym last) (each x op (zero, refl) is on)
        ]) all)

    pub all_staying : (xs : List X) → ((x : X) (op : Op) → x ∈ xs → op_of x ≡ Some op → IsOnMap op → P x) → (x : X) → x ∈ staying op_of xs → P x
    all_staying xs each = (has_staying xs (begins []) each (all_begins Has [] (λ y there. absurd (cc (there.1))))).now

  -- what stays is among what was done
  pub staying_among : (xs : List X) (x : X) → x ∈ staying op_of xs → x ∈ xs
  staying_among xs = all_staying (λ (x : X). x ∈ xs) xs (λ x op there is on. there)

  -- and does an operation on the map
  pub staying_on_map : (xs : List X) (x : X) → x ∈ staying op_of xs → (op : Op) × (op_of x ≡ Some op) × IsOnMap op
  staying_on_map xs = all_staying (λ (x : X). (op : Op) × (op_of x ≡ Some op) × IsOnMap op) xs (λ x op there is on. (op, is, on))

  -- what stays is ordered as what was done
  module _ (R : X → X → Type 0) where
    abbrev Ordered : List X → Type 0
    Ordered xs = (i j : ℕ) (a b : X) → i < j → slice_get xs i ≡ Some a → slice_get xs j ≡ Some b → R a b

    -- a list is ordered, and so is each of it with each of these
    record IsBefore (xs ys : List X) : Type 0 where
      within : Ordered ys
      before : (y x : X) → y ∈ ys → x ∈ xs → R y x

    ordered_push : (x : X) (xs ys : List X) → Ordered (x ∷ xs) → IsBefore (x ∷ xs) ys → IsBefore xs (ys ++ x ∷ [])
    ordered_push x xs ys ordered is = record {
      within = λ i j a b less at_i at_j. elim (slice_get-push ys x b j at_j) [
        | inl second ↦ elim (slice_get-push ys x a i at_i) [
          | inl first ↦ is.within i j a b less first.1 second.1
          | inr last ↦ absurd (omega (arith, less, last.0, second.0))
        ]
        | inr end ↦ elim (slice_get-push ys x a i at_i) [
          | inl first ↦ subst (R a) end.1 (is.before a x (i, first.1) (zero, refl))
          | inr last ↦ absurd (omega (arith, less, last.0, end.0))
        ]
      ];
      before = λ y z there later. elim (∈-push ys x y there) [
        | inl first ↦ is.before y z first (suc later.0, later.1)
        | inr last ↦ subst (λ (w : X). R w z) (sym last) (ordered zero (suc later.0) x z (omega arith) refl later.1)
      ];
    }

    shorter : (x : X) (xs ys : List X) → IsBefore (x ∷ xs) ys → IsBefore xs ys
    shorter x xs ys is = record { within = is.within; before = λ y z there later. is.before y z there (suc later.0, later.1) }

    rest_ordered : (x : X) (xs : List X) → Ordered (x ∷ xs) → Ordered xs
    rest_ordered x xs ordered i j a b less at_i at_j = ordered (suc i) (suc j) a b (omega arith) at_i at_j

    ordered_one : (x : X) (xs : List X) (s : Saving (List X)) (o : Option Op) → Ordered (x ∷ xs) → AreAll (IsBefore (x ∷ xs)) s → AreAll (IsBefore xs) (stays_by o x s)
    ordered_one x xs s o ordered all =
        let later : AreAll (IsBefore xs) s = record { now = shorter x xs s.now all.now; saved = λ ys there. shorter x xs ys (all.saved ys there) } in
        all_stays (IsBefore xs) x s o (λ op is on has. ordered_push x xs s.now ordered all.now) later

    ordered_staying : (xs : List X) (s : Saving (List X)) → Ordered xs → AreAll (IsBefore xs) s → AreAll (IsBefore []) (staying_from op_of xs s)
    ordered_staying [] s ordered all = all
    ordered_staying (x ∷ xs) s ordered all =
        ordered_staying xs (one x s) (rest_ordered x xs ordered) (ordered_one x xs s (op_of x) ordered all)

    pub staying_ordered : (xs : List X) → Ordered xs → Ordered (staying op_of xs)
    staying_ordered xs ordered =
        (ordered_staying xs (begins []) ordered
        (all_begins (IsBefore xs) [] (record { within = λ i j a b less at_i at_j. absurd (cc); before = λ y x there later. absurd (cc (there.1)) }))).now.within

  -- what stays of other things that stand for these
  module _ {Y : Type 0} (f : Y → X) where
    one_stays : (y : Y) (s : Saving (List Y)) (o : Option Op) → stays_by o (f y) (read_as (map f) s) ≡ read_as (map f) (stays_by o y s)
    one_stays y s (Some op) = after_by-read_as (map f) (λ _ ys. ys ++ y ∷ []) (λ _ xs. xs ++ f y ∷ []) op s (λ on. sym (map-append f s.now (y ∷ [])))
    one_stays y s None = refl

    pub staying_from-map : (ys : List Y) (s : Saving (List Y)) → staying_from op_of (map f ys) (read_as (map f) s) ≡ read_as (map f) (staying_from (λ y. op_of (f y)) ys s)
    staying_from-map [] s = refl
    staying_from-map (y ∷ ys) s = ap (staying_from op_of (map f ys)) (one_stays y s (op_of (f y))) ∙ staying_from-map ys (stays_by (op_of (f y)) y s)

    pub staying-map : (ys : List Y) → staying op_of (map f ys) ≡ map f (staying (λ y. op_of (f y)) ys)
    staying-map ys = ap (λ (s : Saving (List X)). s.now) (staying_from-map ys (begins []))

    pub held_by-map : (ys : List Y) → held_by op_of (map f ys) ≡ held_by (λ y. op_of (f y)) ys
    held_by-map ys = ap (λ (s : Saving (List X)). length s.saved) (staying_from-map ys (begins [])) ∙ length-map (staying_from (λ y. op_of (f y)) ys (begins [])).saved (map f)

  -- the map after all operations is that after those that stay
  module _ (m : Database) where
    abbrev left_by : List X → Database
    left_by kept = change_all (filter_map op_of kept) m

    left_push : (kept : List X) (x : X) (op : Op) → op_of x ≡ Some op → left_by (kept ++ x ∷ []) ≡ change op (left_by kept)
    left_push kept x op is =
        ap (λ ops. change_all ops m) (filter_map-append op_of kept (x ∷ []) ∙ ap (λ (o : Option Op). filter_map op_of kept ++ cons_option o []) is)
        ∙ change_all-push (filter_map op_of kept) op m

    left_one : (x : X) (s : Saving (List X)) (o : Option Op) → op_of x ≡ o → in_turn after (cons_option o []) (read_as left_by s) ≡ read_as left_by (stays_by o x s)
    left_one x s (Some op) is = after_by-read_as left_by (λ _ ys. ys ++ x ∷ []) change op s (λ on. sym (left_push s.now x op is))
    left_one x s None is = refl

    cons_first : (o : Option Op) (ops : List Op) (s : Saving Database) → after_from (cons_option o ops) s ≡ after_from ops (after_from (cons_option o []) s)
    cons_first (Some op) ops s = refl
    cons_first None ops s = refl

    pub after_from-staying : (xs : List X) (s : Saving (List X)) → after_from (filter_map op_of xs) (read_as left_by s) ≡ read_as left_by (staying_from op_of xs s)
    after_from-staying [] s = refl
    after_from-staying (x ∷ xs) s =
        cons_first (op_of x) (filter_map op_of xs) (read_as left_by s)
        ∙ ap (after_from (filter_map op_of xs)) (left_one x s (op_of x) refl)
        ∙ after_from-staying xs (one x s)

    pub after_all-staying : (xs : List X) → after_all (filter_map op_of xs) m ≡ change_all (filter_map op_of (staying op_of xs)) m
    after_all-staying xs = ap (λ (s : Saving Database). s.now) (after_from-staying xs (begins []))

    -- as many savepoints are held as maps are saved
    pub held_by-saved : (xs : List X) → length (after_from (filter_map op_of xs) (begins m)).saved ≡ held_by op_of xs
    held_by-saved xs = ap (λ (s : Saving Database). length s.saved) (after_from-staying xs (begins [])) ∙ length-map (staying_from op_of xs (begins [])).saved left_by

-- operations that stay
filter_map-Some : {X : Type 0} (xs : List X) → filter_map Some xs ≡ xs
filter_map-Some [] = refl
filter_map-Some (x ∷ xs) = ap (λ rest. x ∷ rest) (filter_map-Some xs)

pub after_all-staying_ops : (ops : List Op) (m : Database) → after_all ops m ≡ change_all (staying Some ops) m
after_all-staying_ops ops m =
    ap (λ (done : List Op). after_all done m) (sym (filter_map-Some ops))
    ∙ after_all-staying Some m ops
    ∙ ap (λ (kept : List Op). change_all kept m) (filter_map-Some (staying Some ops))

pub staying_ops_on_map : (ops : List Op) (op : Op) → op ∈ staying Some ops → IsOnMap op
staying_ops_on_map ops op there =
    let on = staying_on_map Some ops op there in
    let is : on.0 ≡ op = cc (on.1) in
    subst IsOnMap is on.2
