-- Images of a disk whose log was opened.
use Rattle.std.proofs.Common.{◌≡◌, ◌≢◌, ℕ, ◌+◌, ◌-◌, ◌*◌, ◌<◌, ◌≤◌, ◌⊎◌, List, [], ◌∷◌, ◌++◌, length, take, drop, replicate, Option, Some, None, refl, sym, ap, ◌∙◌, subst, arith, inl, inr, append-nil, length-append, Bool, true, false}
use Rattle.std.specs.Prelude.{IfSome, ◌↔◌, if◌then◌else◌, nat_lt}
use Rattle.std.specs.List.{slice_get}
use Rattle.std.proofs.lemmas.Bool.{cases_lt}
use Rattle.erm_record.specs.Stored.{stored_length}
use Rattle.erm_model.specs.Rows.{Rows, rows_of}
use Rattle.erm_model.specs.RowTransaction.{SameRows}
use Rattle.erm_block.specs.declared.block.Block.{Block}
use Rattle.erm_block.specs.Block.{IsBlock}
use Rattle.erm_block.specs.LogList.{End, IsChain, IsLogList, end_of}
use Rattle.erm_block.specs.Spelling.{Spells, spelling}
use Rattle.erm_block.proofs.OneSpelling.{length-spelling}
use Rattle.erm_outside.specs.declared.disk.File.TheVariants.{Slot0, Slot1, Segment}
use Rattle.erm_outside.specs.Disk.{EachImage, Image, IsImage, IsSettled, Step, Tells, changes_of, contents, OnlyWaits}
use Rattle.erm_outside.proofs.Images.{reads_may_be}
use Rattle.erm_log_words.specs.Tears.{IsFresh, ShowsBlock, Unread}
use Rattle.erm_log_words.specs.Words.{Has, Spares, log_words}
use Rattle.erm_log_words.proofs.LogWords.{has-log_words, log_words-behind}
use Rattle.erm_log_disk.specs.Chains.{MayStand, log_from}
use Rattle.erm_log_disk.specs.Writes.{AllWriteWords, Holds, Lasts, OnlyWrites}
use Rattle.erm_log_disk.proofs.Chains.{list_is_all, lists-joined}
use Rattle.erm_log_disk.proofs.Trail.{images_spare, images_torn}
use Rattle.erm_ckpt.specs.Checkpoint.{Checkpoint}
use Rattle.erm_ckpt.specs.Recovered.{HasBase, Pair, Recovers, Shows, State, base, best, better, end_at, state_behind, state_of}
use Rattle.erm_ckpt.specs.States.{HoldsAll, RecoversTo, SameState}
use Rattle.erm_recover.specs.declared.recovered.Recovered.{Recovered}
use Rattle.erm_recover.specs.Lists.{end_in}
use Rattle.erm_recover.specs.Opening.{HoldsOpened, Opens, OpensTold, RecoversEither, open_block, opened}
use Rattle.erm_recover.specs.Recovering.{IsRecovered, state_recovered}
use Rattle.erm_outside.proofs.Waits.{reads_stay}
use Rattle.erm_recover.proofs.Waits.{WaitsTold}
use Rattle.erm_recover.proofs.Chains.{IsChain-append, end_of-words, state_behind-append, state_behind-low}

-- ---- the first segment keeps bytes

first_byte : (old new : List ℕ) → ((byte : ℕ) → slice_get old 0 ≡ Some byte → slice_get new 0 ≡ Some byte) → old ≢ [] → new ≢ []
first_byte [] new keeps some none = some refl
first_byte (x ∷ old) [] keeps some none = let e : ◌≡◌ {A = Option ℕ} None (Some x) = keeps x refl in absurd (cc)
first_byte (x ∷ old) (y ∷ new) keeps some none = cc

-- where words were written behind the first, the first segment has bytes still
pub keeps_first : (at : ℕ) (words : List ℕ) (old more : List Step) (image : Image) → 0 < at → IsSettled old → AllWriteWords at words more → IsImage (more ++ old) image
    → contents old (Segment 0) ≢ [] → image (Segment 0) ≢ []
keeps_first at words old more image low settled writes is =
    let torn = images_torn at words 0 old more image settled writes is in
    first_byte (contents old (Segment 0)) (image (Segment 0)) (λ byte was. torn.before 0 byte (omega arith) was)

-- at each moment, what holds of each image that spares all others and keeps the first segment holds of each
pub each_moment_keeping : (P : Image → Type 0) (at : ℕ) (words : List ℕ) (old more : List Step) → 0 < at → IsSettled old → AllWriteWords at words more
    → ((image : Image) → Spares at (at + length words) (contents old) image → (contents old (Segment 0) ≢ [] → image (Segment 0) ≢ []) → P image) → EachImage P old more
each_moment_keeping P at words old [] low settled writes holds = λ image is. holds image (images_spare at words old [] image settled writes is) (keeps_first at words old [] image low settled writes is)
each_moment_keeping P at words old (step ∷ more) low settled (here, others) holds = (
  λ image is. holds image (images_spare at words old (step ∷ more) image settled (here, others) is) (keeps_first at words old (step ∷ more) image low settled (here, others) is),
  each_moment_keeping P at words old more low settled others holds,
)

-- ---- what was only waited for

-- what was recovered is so after waits too
recovered_moved : (sound : Rows → Type 0) (r : Recovered) (pair : Pair) (old now : List Step) → OnlyWaits old now → IsRecovered sound old r pair → IsRecovered sound now r pair
recovered_moved sound r pair old now waits is = record {
  slots = is.slots;
  blocks = is.blocks;
  recovers = subst (λ (image : Image). Recovers sound image pair is.blocks) (sym (reads_stay old now waits)) is.recovers;
  state = is.state;
  base_is = is.base_is;
  commits = is.commits;
}

fresh_moved : (run at : ℕ) (old now : List Step) → OnlyWaits old now → IsFresh run (contents old) at → IsFresh run (contents now) at
fresh_moved run at old now waits fresh = subst (λ (image : Image). IsFresh run image at) (sym (reads_stay old now waits)) fresh

-- it was only waited
pub waited_told : (sound : Rows → Type 0) (state : State) (pair : Pair) (before after : Option (List Step)) → WaitsTold before after → OpensTold sound state pair before after
waited_told sound state pair None after waits = waits
waited_told sound state pair (Some old) after (new, told, waits) = (new, told, inl waits)

module _
    (short : (row : List ℕ) → stored_length row ≤ length row) (whole : (row : List ℕ) → take (stored_length row) row ++ replicate (length row - stored_length row) 0 ≡ row)
    (sound : Rows → Type 0) where
  -- the log list of an image that has the words below a place, from an earlier state on
  grown : (old new : Image) (s : State) (xs ys : List Block) (to : ℕ) → IsChain sound (end_at old s) xs → Spares (state_behind s xs).at to old new
      → IsLogList sound (end_at new (state_behind s xs)) ys → IsLogList sound (end_at new s) (xs ++ ys)
  grown old new s xs ys to chain spares list =
      let end : End = end_of (end_in [] s) xs in
      let same : end ≡ end_in (drop ((state_behind s xs).at - s.at) []) (state_behind s xs) = end_of-words [] s xs in
      lists-joined short whole sound old new (end_in [] s) xs ys to chain
      (subst (λ (p : ℕ). Spares p to old new) (sym (ap (λ (e : End). e.at) same)) spares)
      (subst (λ (e : End). IsLogList sound (log_from new e) ys) (sym same) list)

  -- the rest of a log list, behind all of it
  rest_list : (end : End) (xs : List Block) → IsLogList sound end xs → IsLogList sound (end_of end xs) []
  rest_list end xs list = record {
    chain = tt;
    longest = λ others chain. omega (arith, list.longest (xs ++ others) (IsChain-append sound end xs others list.chain chain), length-append xs others);
  }

  -- so an image recovers to the same and then these blocks
  recovers_on : (old new : Image) (pair : Pair) (xs ys : List Block) (to : ℕ) → Recovers sound old pair xs → Spares (state_behind (base pair) xs).at to old new
      → (old (Segment 0) ≢ [] → new (Segment 0) ≢ []) → IsLogList sound (end_at new (state_behind (base pair) xs)) ys → Recovers sound new pair (xs ++ ys)
  recovers_on old new pair xs ys to recovers spares keeps list = record {
    slot0 = subst (λ (file : List ℕ). Shows sound file pair.slot0) (sym spares.slot0) recovers.slot0;
    slot1 = subst (λ (file : List ℕ). Shows sound file pair.slot1) (sym spares.slot1) recovers.slot1;
    based = λ none. elim (recovers.based none) [
      | inl empty ↦ inl (spares.slot0 ∙ empty.0, spares.slot1 ∙ empty.1)
      | inr some ↦ inr (keeps some)
    ];
    list = grown old new (base pair) xs ys to recovers.list.chain spares list;
  }

  module _ (state : State) (pair : Pair) (xs : List Block) (old : Image) (recovers : Recovers sound old pair xs) (same : SameState (state_behind (base pair) xs) state)
      (met : sound (state_behind (base pair) xs).rows) (block : IsBlock (open_block state.at state.run) state.at state.run) (fresh : IsFresh (state.run + 1) old state.at) where
    ends : state_behind (base pair) xs ≡ record { at = state.at; run = state.run; rows = (state_behind (base pair) xs).rows }
    ends =
        let b : State = state_behind (base pair) xs in
        ap (λ (at : ℕ). let s : State = record { at = at; run = b.run; rows = b.rows } in s) same.at
        ∙ ap (λ (run : ℕ). let s : State = record { at = state.at; run = run; rows = b.rows } in s) same.run

    -- behind the Open block no block of its run or a later one reads
    fresh_behind : (new : Image) → Spares state.at (state.at + length (spelling (open_block state.at state.run))) old new → IsFresh (state.run + 1) new (state.at + 5)
    fresh_behind new spares p from b run_before later stands =
        let long = length-spelling short (open_block state.at state.run) state.at state.run block in
        let there = log_words-behind state.at (state.at + length (spelling (open_block state.at state.run))) old new spares p (omega (arith, long)) in
        fresh p (omega arith) b run_before later (record { is = stands.is; spelled = (stands.spelled.0, sym there ∙ stands.spelled.1) })

    spares_here : (new : Image) (to : ℕ) → Spares state.at to old new → Spares (state_behind (base pair) xs).at to old new
    spares_here new to spares = subst (λ (p : ℕ). Spares p to old new) (sym same.at) spares

    -- an image that has the Open block recovers to the state behind it
    has_opened : (new : Image) → Spares state.at (state.at + length (spelling (open_block state.at state.run))) old new → (old (Segment 0) ≢ [] → new (Segment 0) ≢ [])
        → Has new state.at (spelling (open_block state.at state.run)) → RecoversTo sound (opened state) pair new
    has_opened new spares keeps has =
        let b : Block = open_block state.at state.run in
        let s : State = record { at = state.at; run = state.run; rows = (state_behind (base pair) xs).rows } in
        let stand : MayStand sound (end_in [] s) (b ∷ []) = (block, met, tt) in
        let behind = fresh_behind new spares in
        let list : IsLogList sound (end_at new s) (b ∷ []) =
        list_is_all short whole sound new (end_in [] s) (b ∷ []) stand (subst (λ (ws : List ℕ). Has new state.at ws) (sym (append-nil (spelling b))) has) (behind (state.at + 5) (omega arith))
        in
        let moved = subst (λ (t : State). IsLogList sound (end_at new t) (b ∷ [])) (sym ends) list in
        let is : SameState (state_behind (state_behind (base pair) xs) (b ∷ [])) (opened state) = record { at = ap (λ (n : ℕ). n + 5) same.at; run = refl; rows = same.rows } in
        record {
          blocks = xs ++ b ∷ [];
          recovers = recovers_on old new pair xs (b ∷ []) (state.at + length (spelling b)) recovers (spares_here new (state.at + length (spelling b)) spares) keeps moved;
          is = subst (λ (t : State). SameState t (opened state)) (sym (state_behind-append (base pair) xs (b ∷ []))) is;
          opens = λ p from c run_before later stands. behind p from c run_before (omega arith) stands;
        }

    -- an image that shows no block there recovers to the state before it
    has_not_opened : (new : Image) → Spares state.at (state.at + length (spelling (open_block state.at state.run))) old new → (old (Segment 0) ≢ [] → new (Segment 0) ≢ [])
        → Unread state.run new state.at → ((p : ℕ) → state.at < p → p < state.at + 5 → Unread (state.run + 1) new p) → RecoversTo sound state pair new
    has_not_opened new spares keeps none within =
        let b : Block = open_block state.at state.run in
        let s : State = record { at = state.at; run = state.run; rows = (state_behind (base pair) xs).rows } in
        let behind = fresh_behind new spares in
        let list : IsLogList sound (end_at new s) [] = list_is_all short whole sound new (end_in [] s) [] tt (λ k lt. absurd (omega arith)) none in
        let moved = subst (λ (t : State). IsLogList sound (end_at new t) []) (sym ends) list in
        record {
          blocks = xs ++ [];
          recovers = recovers_on old new pair xs [] (state.at + length (spelling b)) recovers (spares_here new (state.at + length (spelling b)) spares) keeps moved;
          is = subst (λ (t : State). SameState t state) (sym (state_behind-append (base pair) xs [])) same;
          opens = λ p from c run_before later stands. elim (cases_lt p (state.at + 5)) [
            | inr far ↦ behind p far c run_before later stands
            | inl near ↦ elim (cases_lt state.at p) [
              | inl inside ↦ within p inside near c run_before later stands
              | inr here ↦
                  let e : p ≡ state.at = omega arith in
                  none c run_before (omega arith) (record { is = subst (λ (q : ℕ). IsBlock c q run_before) e stands.is; spelled = (stands.spelled.0, ap (λ (q : ℕ). log_words new q) (sym e) ∙ stands.spelled.1) })
            ]
          ];
        }

    -- where it shows the block or none, to one of them
    pub recovers_either : (new : Image) → Spares state.at (state.at + length (spelling (open_block state.at state.run))) old new → (old (Segment 0) ≢ [] → new (Segment 0) ≢ [])
        → RecoversEither sound state pair new
    recovers_either new spares keeps shows = elim shows.place [
      | inl spelled ↦ inr (has_opened new spares keeps (has-log_words new state.at (spelling (open_block state.at state.run)) spelled.0 spelled.1))
      | inr none ↦ inl (has_not_opened new spares keeps none shows.within)
    ]

  -- ---- places of the log that are recovered

  better_low : (test : Bool) (a b : Checkpoint) → 8 ≤ a.slot.stamp → 8 ≤ b.slot.stamp → 8 ≤ (state_of (if test then Some b else Some a)).at
  better_low true a b low_a low_b = low_b
  better_low false a b low_a low_b = low_a

  best_low : (f g : List ℕ) (a b : Option Checkpoint) → Shows sound f a → Shows sound g b → 8 ≤ (state_of (better a b)).at
  best_low f g None None one other = omega arith
  best_low f g None (Some b) one other = other.is.slot.stamp_low
  best_low f g (Some a) None one other = one.is.slot.stamp_low
  best_low f g (Some a) (Some b) one other = better_low (nat_lt a.slot.stamp b.slot.stamp) a b one.is.slot.stamp_low other.is.slot.stamp_low

  recovered_low : (image : Image) (pair : Pair) (xs : List Block) → Recovers sound image pair xs → 8 ≤ (state_behind (base pair) xs).at
  recovered_low image pair xs recovers =
      let low = best_low (image Slot0) (image Slot1) pair.slot0 pair.slot1 recovers.slot0 recovers.slot1 in
      let grows = state_behind-low (base pair) xs in
      omega (arith, low, grows)

  -- ---- as far as the disk tells

  module _ (r : Recovered) (pair : Pair) (respects : (a b : Rows) → SameRows a b → sound a ↔ sound b) (meets : sound (rows_of r.rows.items)) where
    -- the rows behind the blocks are sound
    met_behind : (old : List Step) (is : IsRecovered sound old r pair) → sound (state_behind (base pair) is.blocks).rows
    met_behind old is = (respects (state_behind (base pair) is.blocks).rows (rows_of r.rows.items) is.state.rows).1 meets

    low_place : (old : List Step) (is : IsRecovered sound old r pair) → 0 < r.stamp
    low_place old is =
        let low = recovered_low (contents old) pair is.blocks is.recovers in
        let same = is.state.at in
        omega arith

    module _ (words : List ℕ) (spelled : words ≡ spelling (open_block r.stamp r.run)) (block : IsBlock (open_block r.stamp r.run) r.stamp r.run) where
      -- words of the Open block were written
      written : (old new more : List Step) → IsSettled old → IsFresh (r.run + 1) (contents old) r.stamp → IsRecovered sound old r pair → new ≡ more ++ old
          → AllWriteWords r.stamp words more → Opens sound (state_recovered r) pair old new
      written old new more settled fresh is steps writes =
          let moved = subst (λ (ws : List ℕ). AllWriteWords r.stamp ws more) spelled writes in
          record {
            more = more;
            steps = steps;
            writes = moved;
            images = each_moment_keeping (RecoversEither sound (state_recovered r) pair) r.stamp (spelling (open_block r.stamp r.run)) old more (low_place old is) settled moved
                (λ image spares keeps. recovers_either (state_recovered r) pair is.blocks (contents old) is.recovers is.state (met_behind old is) block fresh image spares keeps);
          }

      pub written_told : (before mid after : Option (List Step)) → WaitsTold before mid → IfSome mid IsSettled → IfSome before (λ steps. IsFresh (r.run + 1) (contents steps) r.stamp)
          → IfSome before (λ steps. IsRecovered sound steps r pair) → OnlyWrites r.stamp words mid after → OpensTold sound (state_recovered r) pair before after
      written_told None mid after waits settled fresh is only = subst (λ (x : Option (List Step)). OnlyWrites r.stamp words x after) waits only
      written_told (Some old) mid after waits settled fresh is only =
          let now : List Step = waits.0 in
          let moved : OnlyWrites r.stamp words (Some now) after = subst (λ (x : Option (List Step)). OnlyWrites r.stamp words x after) waits.1 only in
          let settled_now : IsSettled now = subst (λ (x : Option (List Step)). IfSome x IsSettled) waits.1 settled in (
            moved.0,
            moved.1,
            inr (record {
              mid = now;
              waits = waits.2;
              settled = settled_now;
              since = written now moved.0 moved.2.0 settled_now (fresh_moved (r.run + 1) r.stamp old now waits.2 fresh) (recovered_moved sound r pair old now waits.2 is) moved.2.1 moved.2.2;
            }),
          )

      same_steps : (a b : List Step) (after : Option (List Step)) → after ≡ Some a → after ≡ Some b → a ≡ b
      same_steps a b after one other = cc

      -- and all of it lasts
      lasting : (old new more : List Step) → IsSettled old → IsFresh (r.run + 1) (contents old) r.stamp → IsRecovered sound old r pair → new ≡ more ++ old
          → AllWriteWords r.stamp words more → Holds r.stamp words old new → HoldsAll sound (opened (state_recovered r)) pair new
      lasting old new more settled fresh is same writes holds =
          let spares = subst (λ (ws : List ℕ). Spares r.stamp (r.stamp + length ws) (contents old) (contents new)) spelled holds.others in
          let has = subst (λ (ws : List ℕ). Has (contents new) r.stamp ws) spelled holds.has in
          let image : IsImage (more ++ old) (contents (more ++ old)) = λ file. reads_may_be (changes_of file (more ++ old)) in
          let keeps : contents old (Segment 0) ≢ [] → contents new (Segment 0) ≢ [] =
          subst (λ (s : List Step). contents old (Segment 0) ≢ [] → contents s (Segment 0) ≢ []) (sym same)
          (keeps_first r.stamp words old more (contents (more ++ old)) (low_place old is) settled writes image)
          in
          record {
            settled = holds.settled;
            fresh = fresh_behind (state_recovered r) pair is.blocks (contents old) is.recovers is.state (met_behind old is) block fresh (contents new) spares;
            there = has_opened (state_recovered r) pair is.blocks (contents old) is.recovers is.state (met_behind old is) block fresh (contents new) spares keeps has;
          }

      pub lasting_told : (before mid after : Option (List Step)) → WaitsTold before mid → IfSome mid IsSettled → IfSome before (λ steps. IsFresh (r.run + 1) (contents steps) r.stamp)
          → IfSome before (λ steps. IsRecovered sound steps r pair) → OnlyWrites r.stamp words mid after → Lasts r.stamp words mid after
          → HoldsOpened sound (state_recovered r) pair before after
      lasting_told None mid after waits settled fresh is only lasts = subst (λ (x : Option (List Step)). Lasts r.stamp words x after) waits lasts
      lasting_told (Some old) mid after waits settled fresh is only lasts =
          let now : List Step = waits.0 in
          let moved : OnlyWrites r.stamp words (Some now) after = subst (λ (x : Option (List Step)). OnlyWrites r.stamp words x after) waits.1 only in
          let lasting_now : Lasts r.stamp words (Some now) after = subst (λ (x : Option (List Step)). Lasts r.stamp words x after) waits.1 lasts in
          let settled_now : IsSettled now = subst (λ (x : Option (List Step)). IfSome x IsSettled) waits.1 settled in
          let fresh_now = fresh_moved (r.run + 1) r.stamp old now waits.2 fresh in
          let is_now = recovered_moved sound r pair old now waits.2 is in
          let holds : Holds r.stamp words now moved.0 = subst (λ (s : List Step). Holds r.stamp words now s) (same_steps lasting_now.0 moved.0 after lasting_now.1 moved.1) lasting_now.2 in (
            moved.0,
            moved.1,
            record {
              mid = now;
              waits = waits.2;
              settled = settled_now;
              since = record {
                opens = written now moved.0 moved.2.0 settled_now fresh_now is_now moved.2.1 moved.2.2;
                holds = lasting now moved.0 moved.2.0 settled_now fresh_now is_now moved.2.1 moved.2.2 holds;
              };
            },
          )
