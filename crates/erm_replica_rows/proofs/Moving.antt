-- The reader that follows the greatest safe stamp.
use Rattle.std.proofs.Common.{◌≡◌, ℕ, true, List, [], ◌∷◌, ◌++◌, drop, Option, None, Some, Result, Err, refl, sym, ap, ◌∙◌, subst, arith, inl, inr, append_assoc}
use Rattle.std.specs.Prelude.{IfSome}
use Rattle.std.specs.List.{All}
use Rattle.std.proofs.lemmas.Bool.Decides.{nat_tests}
use Rattle.std.proofs.lemmas.List.Elements.{All-nil, All-push}
use Rattle.erm_model.specs.InTurn.{in_turn}
use Rattle.erm_model.specs.Rows.{Rows, rows_of}
use Rattle.erm_model.specs.RowTransaction.{SameRows, any_law}
use Rattle.erm_replica.specs.declared.front.Lack.{Lack}
use Rattle.erm_replica.specs.declared.front.Lack.TheVariants as lack
use Rattle.erm_replica.specs.declared.item.Item.{Item}
use Rattle.erm_replica.specs.declared.item.LogPlace.{LogPlace}
use Rattle.erm_replica.specs.Cuts.{Reads}
use Rattle.erm_replica.specs.Stream.{HasNext, IsShort, IsUnreadable, MayCome, Part, StandsFirst, Streamed, behind}
use Rattle.erm_replica.specs.Stream.Part.{base, block}
use Rattle.erm_replica.proofs.Cuts.{reads_join}
use Rattle.erm_replica_rows.specs.declared.reader.Reader.{Reader}
use Rattle.erm_replica_rows.specs.Moving.{IsBefore, IsFrom, Moves, MovesBelow}
use Rattle.erm_replica_rows.specs.Reading.{Advances, IsStuck, StaysPut, seen}
use Rattle.erm_replica_rows.specs.Replica.{is_below, rows_after}
use Rattle.erm_replica_rows.proofs.Rows.{after_part, if_some, in_turn_append, same_trans}

same_itself : (log : Option LogPlace) (rows : Rows) → IfSome log (λ _. SameRows rows rows)
same_itself None rows = tt
same_itself (Some log) rows = λ oid few. refl

pub moves_none : (stamp : ℕ) (bytes : List ℕ) (reader : Reader) → MovesBelow stamp bytes reader reader
moves_none stamp bytes reader parts end reads from = record {
  taken = [];
  others = parts;
  split = refl;
  reads = refl;
  goes_on = reads;
  below = All-nil (λ (part : Part). is_below stamp part ≡ true);
  rows = same_itself reader.log (rows_of reader.rows.items);
}

before_from : (stamp : ℕ) (log : Option LogPlace) → IsBefore stamp log → IsFrom stamp log → ⊥
before_from stamp None before from = from
before_from stamp (Some log) before from = omega (arith, before, from)

next_below : (stamp : ℕ) (log : Option LogPlace) (part : Part) → MayCome log part → IsBefore stamp log → is_below stamp part ≡ true
next_below stamp log (base c) may before = refl
next_below stamp None (block b) may before = absurd may
next_below stamp (Some log) (block b) may before = let at = may.stamp in grind (arith, nat_tests)

module _ (one : (log : Option LogPlace) (bytes : List ℕ) (a b : Part) → StandsFirst log bytes a → StandsFirst log bytes b → a ≡ b) where
  moves_on : (stamp : ℕ) (bytes : List ℕ) (first mid after : Reader) (parts taken others : List Part) (end : Streamed) (i : Item) → parts ≡ taken ++ others
      → Reads (seen first bytes) taken (seen mid bytes) → Reads (seen mid bytes) others end → All (λ part. is_below stamp part ≡ true) taken
      → IfSome mid.log (λ _. SameRows (rows_of mid.rows.items) (in_turn rows_after taken (rows_of first.rows.items)))
      → IsBefore stamp mid.log → IsFrom stamp end.log → Advances i bytes mid after → Moves stamp bytes first after parts end
  moves_on stamp bytes first mid after parts taken [] end i split reads goes_on below rows before from adv =
      absurd (before_from stamp mid.log before (subst (λ (s : Streamed). IsFrom stamp s.log) goes_on from))
  moves_on stamp bytes first mid after parts taken (q ∷ qs) end i split reads goes_on below rows before from adv =
      let same : q ≡ adv.part = one mid.log (drop mid.index bytes) q adv.part goes_on.0 adv.there in
      let later : Reads (behind adv.part (seen mid bytes)) qs end = subst (λ (p : Part). Reads (behind p (seen mid bytes)) qs end) same goes_on.1 in
      let step : Reads (seen mid bytes) (adv.part ∷ []) (seen after bytes) = (adv.there, adv.state) in
      let there : SameRows (rows_after adv.part (rows_of mid.rows.items)) (rows_after adv.part (in_turn rows_after taken (rows_of first.rows.items))) =
      after_part mid.log adv.part (rows_of mid.rows.items) (in_turn rows_after taken (rows_of first.rows.items)) adv.there.may rows in
      record {
        taken = taken ++ adv.part ∷ [];
        others = qs;
        split = split ∙ ap (λ (p : Part). taken ++ p ∷ qs) same ∙ sym (append_assoc taken (adv.part ∷ []) qs);
        reads = reads_join (seen first bytes) (seen mid bytes) (seen after bytes) taken (adv.part ∷ []) reads step;
        goes_on = subst (λ (s : Streamed). Reads s qs end) (sym adv.state) later;
        below = All-push (λ (part : Part). is_below stamp part ≡ true) taken adv.part below (next_below stamp mid.log adv.part adv.there.may before);
        rows =
            if_some after.log (SameRows (rows_of after.rows.items) (in_turn rows_after (taken ++ adv.part ∷ []) (rows_of first.rows.items)))
            (subst (λ (r : Rows). SameRows (rows_of after.rows.items) r) (sym (in_turn_append taken (adv.part ∷ []) (rows_of first.rows.items)))
            (same_trans (rows_of after.rows.items) (rows_after adv.part (rows_of mid.rows.items)) (rows_after adv.part (in_turn rows_after taken (rows_of first.rows.items))) adv.rows there));
      }

  pub moves_more : (stamp : ℕ) (bytes : List ℕ) (first mid after : Reader) (i : Item) → MovesBelow stamp bytes first mid → IsBefore stamp mid.log → Advances i bytes mid after
      → MovesBelow stamp bytes first after
  moves_more stamp bytes first mid after i moves before adv parts end reads from =
      let m = moves parts end reads from in
      moves_on stamp bytes first mid after parts m.taken m.others end i m.split m.reads m.goes_on m.below m.rows before from adv

module _ (short : (log : Option LogPlace) (bytes : List ℕ) (part : Part) → StandsFirst log bytes part → IsShort log bytes → ⊥)
    (unreadable : (log : Option LogPlace) (bytes : List ℕ) (part : Part) → StandsFirst log bytes part → IsUnreadable log bytes → ⊥) where
  moved : (bytes : List ℕ) (before after : Reader) (part : Part) → HasNext (seen before bytes) part → StaysPut before after → StandsFirst after.log (drop after.index bytes) part
  moved bytes before after part there stays =
      subst (λ (log : Option LogPlace). StandsFirst log (drop after.index bytes) part) (sym stays.log)
      (subst (λ (n : ℕ). StandsFirst before.log (drop n bytes) part) (sym stays.index) there)

  -- where a part stands, a reader of all rows isn't stuck
  not_stuck : (answer : Result Item Lack) (l : Lack) (bytes : List ℕ) (before after : Reader) (part : Part) → HasNext (seen before bytes) part → answer ≡ Err l → StaysPut before after
      → (answer ≡ Err lack.Short → IsShort after.log (drop after.index bytes)) → (answer ≡ Err lack.Unreadable → IsStuck any_law.meets bytes after) → ⊥
  not_stuck answer lack.Short bytes before after part there is stays is_short is_stuck =
      let here : StandsFirst after.log (drop after.index bytes) part = moved bytes before after part there stays in
      short after.log (drop after.index bytes) part here (is_short is)
  not_stuck answer lack.Unreadable bytes before after part there is stays is_short is_stuck =
      let here : StandsFirst after.log (drop after.index bytes) part = moved bytes before after part there stays in
      elim (is_stuck is) [
        | inl un ↦ unreadable after.log (drop after.index bytes) part here un
        | inr bad ↦ bad.2 tt
      ]

  -- so a reader before the stamp isn't stuck while parts lead there
  stuck_in : (stamp : ℕ) (bytes : List ℕ) (mid after : Reader) (others : List Part) (end : Streamed) (answer : Result Item Lack) (l : Lack) → Reads (seen mid bytes) others end
      → IsBefore stamp mid.log → IsFrom stamp end.log → answer ≡ Err l → StaysPut mid after
      → (answer ≡ Err lack.Short → IsShort after.log (drop after.index bytes)) → (answer ≡ Err lack.Unreadable → IsStuck any_law.meets bytes after) → ⊥
  stuck_in stamp bytes mid after [] end answer l goes_on before from is stays is_short is_stuck =
      before_from stamp mid.log before (subst (λ (s : Streamed). IsFrom stamp s.log) goes_on from)
  stuck_in stamp bytes mid after (q ∷ qs) end answer l goes_on before from is stays is_short is_stuck =
      not_stuck answer l bytes mid after q goes_on.0 is stays is_short is_stuck

  pub never_stuck : (stamp : ℕ) (bytes : List ℕ) (first mid after : Reader) (answer : Result Item Lack) (l : Lack) → MovesBelow stamp bytes first mid → IsBefore stamp mid.log
      → answer ≡ Err l → StaysPut mid after
      → (answer ≡ Err lack.Short → IsShort after.log (drop after.index bytes)) → (answer ≡ Err lack.Unreadable → IsStuck any_law.meets bytes after)
      → (parts : List Part) (end : Streamed) → Reads (seen first bytes) parts end → IsFrom stamp end.log → ⊥
  never_stuck stamp bytes first mid after answer l moves before is stays is_short is_stuck parts end reads from =
      let m = moves parts end reads from in
      stuck_in stamp bytes mid after m.others end answer l m.goes_on before from is stays is_short is_stuck
