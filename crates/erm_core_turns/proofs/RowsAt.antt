-- Rows as of the pin: the newest version below it, where no range below it may still write one, is that of the blocks below it.
use Rattle.std.proofs.Common.{◌≡◌, ◌≢◌, ℕ, ◌+◌, ◌<◌, ◌≤◌, List, [], ◌∷◌, ◌++◌, length, Some, refl, sym, ap, ◌∙◌, subst, arith}
use Rattle.std.specs.Prelude.{IsSome}
use Rattle.std.proofs.lemmas.Option.{same_Some}
use Rattle.erm_model.specs.History.{History, IsCertified, IsNewestBelow, IsSnapshot}
use Rattle.erm_model.specs.Member.{◌∈◌}
use Rattle.erm_model.specs.RowTransaction.{Law}
use Rattle.erm_model.specs.Rows.{Rows}
use Rattle.erm_model.proofs.Members.{∈-behind}
use Rattle.erm_machine.specs.declared.limits.TheConstants.{FLUSH_SEAT, OBJECT_LIMIT}
use Rattle.erm_machine.specs.declared.place.Place.{Place}
use Rattle.erm_machine.specs.Core.{Core, version_at}
use Rattle.erm_machine.specs.Decided.{history_of}
use Rattle.erm_machine.specs.Facts.{HasBegun, HoldsBelow, all_of}
use Rattle.erm_machine.specs.Lawful.{opening_rows}
use Rattle.erm_machine.specs.Snapshot.{NewerFrom}
use Rattle.erm_machine.proofs.Listed.{∈-head, ∈-second}
use Rattle.erm_block.specs.declared.block.Block.{Block}
use Rattle.erm_core_ssn.proofs.RowsHistory.{newest_below}
use Rattle.erm_core_ssn.proofs.RowsRun.{one_newest}
use Rattle.erm_core_view.specs.Views.{IsQuiet, pin_of, view_of}
use Rattle.erm_core_view.proofs.Commits.{has_the_history}
use Rattle.erm_log_list.specs.LogOf.{IsDecidedUpTo, IsLogUpTo}
use Rattle.erm_sound.specs.Kept.{SoundUnder}
use Rattle.erm_world.specs.Laws.{IsSerializable}
use Rattle.erm_world.specs.Log.{IsRowAt, place_behind, rows_behind}
use Rattle.erm_world.specs.World as world
use Rattle.erm_core_turns.specs.Turns.{blocks_below, log_of}
use Rattle.erm_core_turns.proofs.Blocks.{decided_upto, place_of, place_upto}
use Rattle.erm_core_turns.proofs.LogIs.{Lists, More, behind_upto, gathered_behind, log_upto, rows_upto}
use Rattle.erm_core_turns.proofs.Pins.{is_pinned}
use Rattle.erm_core_turns.proofs.Whole.{gathered_are}

abbrev F : ℕ
F = FLUSH_SEAT

-- places behind blocks ascend
behind_up : (at : ℕ) (bs : List Block) → at ≤ place_behind at bs
behind_up at [] = omega arith
behind_up at (b ∷ bs) = let up = behind_up (at + b.size) bs in omega (arith, up)

behind_more : (at : ℕ) (bs more : List Block) → place_behind at bs ≤ place_behind at (bs ++ more)
behind_more at [] more = behind_up at more
behind_more at (b ∷ bs) more = behind_more (at + b.size) bs more

-- blocks have words, so that the front of a list is known by the place behind it
head_same : (x y : Block) (xs ys : List Block) → ◌≡◌ {A = List Block} (x ∷ xs) (y ∷ ys) → x ≡ y
head_same x y xs ys e = cc

tail_same : (x y : Block) (xs ys : List Block) → ◌≡◌ {A = List Block} (x ∷ xs) (y ∷ ys) → xs ≡ ys
tail_same x y xs ys e = cc

front_same : (a b more rest : List Block) (at : ℕ) → a ++ more ≡ b ++ rest → ((x : Block) → x ∈ (a ++ more) → 0 < x.size) → place_behind at a ≡ place_behind at b → a ≡ b
front_same [] [] more rest at e some same = refl
front_same [] (y ∷ b) more rest at e some same =
    let up = behind_up (at + y.size) b in
    let size = some y (subst (λ (bs : List Block). y ∈ bs) (sym e) (∈-head y (b ++ rest))) in
    absurd (omega (arith, up, size, same))
front_same (x ∷ a) [] more rest at e some same =
    let up = behind_up (at + x.size) a in let size = some x (∈-head x (a ++ more)) in absurd (omega (arith, up, size, same))
front_same (x ∷ a) (y ∷ b) more rest at e some same =
    let one = head_same x y (a ++ more) (b ++ rest) e in
    let later : place_behind (at + x.size) a ≡ place_behind (at + x.size) b = same ∙ ap (λ (z : Block). place_behind (at + z.size) b) (sym one) in
    let tails = front_same a b more rest (at + x.size) (tail_same x y (a ++ more) (b ++ rest) e) (λ z m. some z (∈-behind x (a ++ more) z m)) later in
    ap (λ (z : Block). z ∷ a) one ∙ ap (λ (zs : List Block). y ∷ zs) tails

-- an object's version that a reader as of a place sees: the last below it, of which none below it is still to come
pub record IsSeen (c : Core) (oid bound place : ℕ) (row : List ℕ) : Type 0 where
  pub known : oid < OBJECT_LIMIT
  pub within : place < length (c.shared.objects oid).versions
  pub below : (version_at (c.shared.objects oid) place).words.stamp < bound
  pub newer : NewerFrom (c.shared.objects oid) place bound
  pub row_is : (version_at (c.shared.objects oid) place).words.row ≡ row
  pub apart : (q : ℕ) → F ≢ q → HoldsBelow (c.seats q) oid bound → ⊥

module _ (law : Law) (lists : Lists law) (more : More law) (sessions : ℕ) (c : Core) (under : SoundUnder law c) (quiet : IsQuiet sessions c)
    (is : IsSerializable law (view_of sessions c)) (some : IsSome (pin_of (c.seats F).place (c.seats F).current)) where
  abbrev b : ℕ
  b = (c.seats F).current.begin

  pub pin_is : pin_of (c.seats F).place (c.seats F).current ≡ Some b
  pin_is = ap (λ (pl : Place). pin_of pl (c.seats F).current) (is_pinned sessions c under.sound quiet some).place

  stands : (c.seats F).current ∈ all_of (c.seats F)
  stands = ∈-second (c.seats F).over ((c.seats F).current ∷ []) (c.seats F).current (∈-head (c.seats F).current [])

  -- it is the newest below the pin
  pub seen_newest : (oid place : ℕ) (row : List ℕ) → IsSeen c oid b place row
      → IsNewestBelow (history_of c.seats) (opening_rows c.shared) oid b (version_at (c.shared.objects oid) place).words.stamp row
  seen_newest oid place row seen =
      newest_below c under.sound F (c.seats F).current oid place (version_at (c.shared.objects oid) place).words.stamp row stands
      (record { known = seen.known; within = seen.within; stamp_is = refl; newer = seen.newer; apart = seen.apart }) seen.below seen.row_is

  history : world.history_of (view_of sessions c) ≡ history_of c.seats
  history = has_the_history sessions c under.sound quiet

  pub newest_shown : (oid stamp : ℕ) (row : List ℕ) → IsNewestBelow (history_of c.seats) (opening_rows c.shared) oid b stamp row
      → IsNewestBelow (world.history_of (view_of sessions c)) (opening_rows c.shared) oid b stamp row
  newest_shown oid stamp row newest = subst (λ (h : History). IsNewestBelow h (opening_rows c.shared) oid b stamp row) (sym history) newest

  -- the row of the blocks below the pin
  behind_row : (oid stamp : ℕ) (row : List ℕ) → IsNewestBelow (history_of c.seats) (opening_rows c.shared) oid b stamp row
      → b ≤ place_of c → (front rest : List Block) → blocks_below c (place_of c) ≡ front ++ rest → b ≡ place_behind c.shared.opening front
      → row ≡ rows_behind (opening_rows c.shared) front oid
  behind_row oid stamp row newest low front rest e at =
      let most = (place_upto c under.sound).2 in
      let begun : HasBegun (c.seats F).place = subst HasBegun (sym (is_pinned sessions c under.sound quiet some).place) tt in
      let upto : IsDecidedUpTo c b = decided_upto c b under.sound ((under.begins F).ends begun) (omega (arith, low, most)) in
      let part : IsLogUpTo law c b (blocks_below c b) = log_upto law lists sessions c under quiet b upto in
      let whole = log_upto law lists sessions c under quiet (place_of c) (place_upto c under.sound).0 in
      let split = more c b (place_of c) (blocks_below c b) (blocks_below c (place_of c)) under.sound low part whole in
      let sizes : (x : Block) → x ∈ (front ++ rest) → 0 < x.size = λ x m.
      let size = (gathered_are law sessions c under quiet x (subst (λ (bs : List Block). x ∈ bs) (sym e) m)).size in omega (arith, size)
      in
      let same : front ≡ blocks_below c b =
      front_same front (blocks_below c b) rest split.0 c.shared.opening (sym e ∙ split.1) sizes
      (sym at ∙ sym (behind_upto law lists sessions c under quiet b (blocks_below c b) part))
      in
      let certified : IsCertified (history_of c.seats) = subst IsCertified history is.certified in
      let snapshot : IsSnapshot (history_of c.seats) (opening_rows c.shared) = subst (λ (h : History). IsSnapshot h (opening_rows c.shared)) history is.snapshots in
      let other = part.newest oid in
      (one_newest (history_of c.seats) (opening_rows c.shared) snapshot certified oid b stamp other.0 row (part.rows oid) newest other.1).1
      ∙ sym (ap (λ (rows : Rows). rows oid) (rows_upto law lists sessions c under quiet b (blocks_below c b) part))
      ∙ ap (λ (bs : List Block). rows_behind (opening_rows c.shared) bs oid) (sym same)

  -- so that a row which is the newest below the pin of all that the world has committed is that of the blocks gathered up to it
  pub newest_row : (oid stamp : ℕ) (row : List ℕ) → IsNewestBelow (world.history_of (view_of sessions c)) (opening_rows c.shared) oid b stamp row → IsRowAt (log_of sessions c) oid row
  newest_row oid stamp row newest front rest e pinned =
      let at : b ≡ place_behind c.shared.opening front = same_Some b (place_behind c.shared.opening front) (sym pin_is ∙ pinned) in
      let total : place_behind c.shared.opening (front ++ rest) ≡ place_of c =
      ap (place_behind c.shared.opening) (sym e) ∙ gathered_behind law lists sessions c under quiet
      in
      let low = behind_more c.shared.opening front rest in
      let here = subst (λ (h : History). IsNewestBelow h (opening_rows c.shared) oid b stamp row) history newest in
      behind_row oid stamp row here (omega (arith, at, total, low)) front rest e at

  pub seen_row : (oid place : ℕ) (row : List ℕ) → IsSeen c oid b place row → IsRowAt (log_of sessions c) oid row
  seen_row oid place row seen =
      let stamp = (version_at (c.shared.objects oid) place).words.stamp in
      newest_row oid stamp row (newest_shown oid stamp row (seen_newest oid place row seen))
