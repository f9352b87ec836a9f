-- Turns one after another.
use Rattle.std.proofs.Common.{inl, inr, ◌≡◌, ℕ, ◌+◌, ◌-◌, ◌<◌, ◌≤◌, ◌⊎◌, ◌++◌, true, false, List, [], ◌∷◌, length, take, replicate, Bool, Option, Some, None, IfSome, Err, refl, sym, ap, ◌∙◌, subst, arith, append_assoc, append-nil}
use Rattle.std.specs.Prelude.{is_some}
use Rattle.std.proofs.lemmas.Grind.{flat_map-append}
use Rattle.std.proofs.lemmas.List.{append_cancel_right}
use Rattle.erm_model.specs.Rows.{Rows}
use Rattle.erm_record.specs.Stored.{stored_length}
use Rattle.erm_block.specs.declared.block.Block.{Block}
use Rattle.erm_block.specs.Block.{IsBlock}
use Rattle.erm_block.specs.LogList.{End, end_after, end_of}
use Rattle.erm_block.specs.Spelling.{spelling}
use Rattle.erm_block.proofs.OneSpelling.{length-spelling}
use Rattle.erm_flush.specs.Blocks.{HoldsBlocks, WritesBlocks}
use Rattle.erm_flush.specs.declared.stops.FlushStop.{FlushStop}
use Rattle.erm_flush.specs.declared.stops.FlushStop.TheVariants.{Empty, Unfilled, DiskFault, Failed}
use Rattle.erm_flush.specs.Turns.{DidGather, GoesOn, HoldsFrom, IsReady, start_of, Stays, Turns, WritesFew, WritesFrom}
use Rattle.erm_log_disk.specs.Chains.{MayStand}
use Rattle.erm_log_disk.specs.Writes.{AllWriteWords}
use Rattle.erm_log_disk.proofs.Chains.{chain_may_stand, end_of-append, length-words, list_is_all, lists-joined, may_stand-behind, may_stand-front, places_grow}
use Rattle.erm_log_disk.proofs.Joins.{writes-joined}
use Rattle.erm_log_words.specs.Tears.{IsFresh}
use Rattle.erm_log_words.specs.Words.{Spares}
use Rattle.erm_outside.specs.Disk.{contents, Image, IsSettled, Step, Tells}
use Rattle.erm_world.specs.Log.{gathered_to, IsLog, IsStop, Log, Start, words_of}
use Rattle.erm_flush.proofs.Flushes.{other_words, parts, same_place, still_fresh, writes_from}

-- one after another, two changes of words spare all others
spares_on : (lo mid hi : ℕ) (a b c : Image) → lo ≤ mid → mid ≤ hi → Spares lo mid a b → Spares mid hi b c → Spares lo hi a c
spares_on lo mid hi a b c low high first second = record {
  slot0 = second.slot0 ∙ first.slot0;
  slot1 = second.slot1 ∙ first.slot1;
  before = λ p word lt is. second.before p word (omega arith) (first.before p word lt is);
  behind = λ p le. second.behind p le ∙ first.behind p (omega arith);
}

spares_all : (lo : ℕ) (a : Image) → Spares lo lo a a
spares_all lo a = record { slot0 = refl; slot1 = refl; before = λ p word lt is. is; behind = λ p le. refl }

-- what was written since some place, and lasts
pub record Progress (sound : Rows → Type 0) (place : ℕ) (log : Log) (old new : List Step) : Type 0 where
  pub holds : HoldsFrom sound place log old new
  pub more : List Step
  pub steps : new ≡ more ++ old
  pub writes : AllWriteWords place (words_of holds.blocks) more
  pub few : WritesFew place more
  pub stops : ((holds.blocks ≡ []) × (more ≡ [])) ⊎ IsStop log log.flushed

-- where nothing is to gather, nothing was gathered
no_stop : (log m : Log) → DidGather log m → IsStop log log.flushed → ⊥
no_stop log m did (inl ends) = let waits = did.waits in omega (arith, waits, ends)
no_stop log m did (inr busy) = let no : true ≡ false = sym busy ∙ ap is_some did.decided in cc

-- so all that turns write is what one of them does
few_turn : (sound : Rows → Type 0) (place : ℕ) (log m : Log) (old mid new : List Step) → DidGather log m → (q : Progress sound place log old mid) (w : WritesFrom sound log.flushed m mid new) → WritesFew place (w.writes.more ++ q.more)
few_turn sound place log m old mid new did q w = elim q.stops [
  | inl none ↦
      let h = q.holds in
      let at : log.flushed ≡ place = sym h.to ∙ ap (λ (bs : List Block). (end_of (end_of (start_of log) h.front) bs).at) none.0 ∙ h.from in
      subst (λ (xs : List Step). WritesFew place (w.writes.more ++ xs)) (sym none.1)
      (subst (WritesFew place) (sym (append-nil w.writes.more)) (subst (λ (n : ℕ). WritesFew n w.writes.more) at w.few))
  | inr stop ↦ absurd (no_stop log m did stop)
]

-- and where a turn did nothing, what the others do
few_stop : (sound : Rows → Type 0) (place : ℕ) (log m : Log) (old mid new : List Step) → new ≡ mid → (q : Progress sound place log old mid) (w : WritesFrom sound log.flushed m mid new) → WritesFew place (w.writes.more ++ q.more)
few_stop sound place log m old mid new same q w =
    let none : w.writes.more ≡ [] = append_cancel_right w.writes.more [] mid (sym w.writes.steps ∙ same) in
    subst (λ (xs : List Step). WritesFew place (xs ++ q.more)) (sym none) q.few

-- two cuts of one list
pub record SameCut (xs us ys vs : List Block) : Type 0 where
  pub front : xs ≡ ys
  pub behind : us ≡ vs

more_cut : (x : Block) (xs us ys vs : List Block) → SameCut xs us ys vs → SameCut (x ∷ xs) us (x ∷ ys) vs
more_cut x xs us ys vs same = record { front = ap (λ (bs : List Block). x ∷ bs) same.front; behind = same.behind }

module _ (short : (row : List ℕ) → stored_length row ≤ length row) where
  -- a block takes words
  takes_words : (b : Block) (at run : ℕ) → IsBlock b at run → 0 < b.size
  takes_words b at run is = let size = length-spelling short b at run is in omega arith

  -- a list of blocks that may stand is cut at a place in one way
  pub one_cut : (sound : Rows → Type 0) (end : End) (xs us ys vs : List Block) → MayStand sound end (xs ++ us) → xs ++ us ≡ ys ++ vs → (end_of end xs).at ≡ (end_of end ys).at → SameCut xs us ys vs
  one_cut sound end [] us [] vs stand same place = record { front = refl; behind = same }
  one_cut sound end [] us (y ∷ ys) vs stand same place =
      let moved : MayStand sound end (y ∷ (ys ++ vs)) = rw same at stand in
      let some = takes_words y end.at end.run moved.0 in
      let further = places_grow (end_after y end) ys in
      absurd (omega arith)
  one_cut sound end (x ∷ xs) us [] vs stand same place =
      let some = takes_words x end.at end.run stand.0 in
      let further = places_grow (end_after x end) xs in
      absurd (omega arith)
  one_cut sound end (x ∷ xs) us (y ∷ ys) vs (is, rows, others) same place =
      let first : x ≡ y = cc in
      let tails : xs ++ us ≡ ys ++ vs = cc in
      let place_x : (end_of (end_after x end) xs).at ≡ (end_of (end_after x end) ys).at = place ∙ ap (λ (b : Block). (end_of (end_after b end) ys).at) (sym first) in
      subst (λ (b : Block). SameCut (x ∷ xs) us (b ∷ ys) vs) first (more_cut x xs us ys vs (one_cut sound (end_after x end) xs us ys vs others tails place_x))

-- blocks that were written since a place, and those behind them
record Joined (place : ℕ) (base : End) (gathered blocks behind : List Block) (front : List Block) (old new : List Step) : Type 0 where
  pub split : gathered ≡ front ++ (blocks ++ behind)
  pub more : List Step
  pub steps : new ≡ more ++ old
  pub writes : AllWriteWords place (words_of (blocks ++ behind)) more
  pub few : WritesFew place more

module _
    (short : (row : List ℕ) → stored_length row ≤ length row) (whole : (row : List ℕ) → take (stored_length row) row ++ replicate (length row - stored_length row) 0 ≡ row)
    (sound : Rows → Type 0) where
  -- before the first turn
  pub at_start : (l : Log) (old : List Step) → IsLog sound l → IsReady l old → Progress sound l.flushed l old old
  at_start l old is ready =
      let p = parts sound l.flushed l is.flushed.front is.flushed.rest is is.flushed.split is.flushed.behind in
      let end = end_of (start_of l) p.front in
      let place = p.place_is in
      let low = p.low in
      let unread = still_fresh l.opened.run end.run l.flushed l.flushed l.flushed (contents old) (contents old) ready.fresh (spares_all l.flushed (contents old)) (omega arith) (omega arith) in
      record {
        holds = record {
          front = p.front;
          blocks = [];
          rest = p.blocks;
          split = p.split;
          from = place;
          to = place;
          holds = record {
            settled = ready.settled;
            list = list_is_all short whole sound (contents old) end [] tt (λ k lt. absurd (omega arith)) (unread end.at (omega arith));
            others = spares_all end.at (contents old);
          };
        };
        more = [];
        steps = refl;
        writes = tt;
        few = ([], omega arith, tt);
        stops = inl (refl, refl);
      }

  -- the words of blocks that stand behind others
  joined : (place : ℕ) (base : End) (gathered front blocks rest : List Block) (old mid new : List Step) (w_front w_blocks : List Block) (r : List Block) → MayStand sound base gathered
      → gathered ≡ (front ++ (blocks ++ rest)) ++ r → (end_of base front).at ≡ place
      → (more : List Step) → mid ≡ more ++ old → AllWriteWords place (words_of blocks) more
      → gathered ≡ w_front ++ w_blocks → (end_of base w_front).at ≡ (end_of (end_of base front) blocks).at → (w : WritesBlocks sound (end_of base w_front) w_blocks mid new)
      → WritesFew place (w.more ++ more) → SameCut (front ++ blocks) (rest ++ r) w_front w_blocks × Joined place base gathered blocks w_blocks front old new
  joined place base gathered front blocks rest old mid new w_front w_blocks r stand split from more steps writes w_split w_place w few =
      let regroup : gathered ≡ (front ++ blocks) ++ (rest ++ r) = split ∙ ap (λ (bs : List Block). bs ++ r) (sym (append_assoc front blocks rest)) ∙ append_assoc (front ++ blocks) rest r in
      let stands : MayStand sound base ((front ++ blocks) ++ (rest ++ r)) = rw regroup at stand in
      let same = one_cut short sound base (front ++ blocks) (rest ++ r) w_front w_blocks stands (sym regroup ∙ w_split) (ap (λ (e : End). e.at) (end_of-append base front blocks) ∙ sym w_place) in
      let behind : MayStand sound (end_of base front) (blocks ++ (rest ++ r)) = may_stand-behind sound base front (blocks ++ (rest ++ r)) (rw append_assoc at stands) in
      let size = length-words short sound (end_of base front) blocks (may_stand-front sound (end_of base front) blocks (rest ++ r) behind) in
      let there : AllWriteWords (place + length (words_of blocks)) (words_of w_blocks) w.more = rw (let e : (end_of base w_front).at ≡ place + length (words_of blocks) = w_place ∙ sym size ∙ ap (λ (n : ℕ). n + length (words_of blocks)) from in e) at w.writes in
      let all = writes-joined place (words_of blocks) (words_of w_blocks) more w.more writes there in (
        same,
        record {
          split = w_split ∙ ap (λ (bs : List Block). bs ++ w_blocks) (sym same.front) ∙ append_assoc front blocks w_blocks;
          more = w.more ++ more;
          steps = w.steps ∙ ap (λ (ss : List Step). w.more ++ ss) steps ∙ sym (append_assoc w.more more old);
          writes = rw (flat_map-append spelling blocks w_blocks) all;
          few = few;
        },
      )

  -- all blocks of a log may stand
  all_stand : (log : Log) → IsLog sound log → MayStand sound (start_of log) log.gathered
  all_stand log is = other_words sound _ [] log.gathered (chain_may_stand sound _ log.gathered is.chain)

  -- after some turns and one more, which may have stopped, all that was done was to write
  written_at : (place : ℕ) (log : Log) (G : List Block) (F : ℕ) (r : List Block) (old mid new : List Step) → IsLog sound (record log { gathered = G; flushed = F }) → G ≡ log.gathered ++ r
      → IsSettled old → IsFresh log.opened.run (contents old) place → (q : Progress sound place log old mid) (w : WritesFrom sound log.flushed (record log { gathered = G; flushed = F }) mid new)
      → WritesFew place (w.writes.more ++ q.more) → WritesFrom sound place (record log { gathered = G; flushed = F }) old new
  written_at place log G F r old mid new is grown settled fresh q w few =
      let n = record log { gathered = G; flushed = F } in
      let h = q.holds in
      let j = joined place (start_of log) G h.front h.blocks h.rest old mid new w.front w.blocks r (all_stand n is) (grown ∙ ap (λ (bs : List Block). bs ++ r) h.split) h.from
      q.more q.steps q.writes w.split (w.place_is ∙ sym h.to) w.writes few in
      let p = parts sound place n h.front (h.blocks ++ w.blocks) is j.1.split (sym h.from ∙ sym (same_place (start_of log) h.front)) in
      writes_from short whole sound place n p old new j.1.more settled fresh j.1.steps j.1.writes j.1.few

  pub written_on : (place : ℕ) (log m : Log) (old mid new : List Step) → GoesOn log m → IsLog sound m → IsSettled old → IsFresh m.opened.run (contents old) place
      → (q : Progress sound place log old mid) (w : WritesFrom sound log.flushed m mid new) → DidGather log m ⊎ (new ≡ mid) → WritesFrom sound place m old new
  written_on place log m old mid new on is settled fresh q w did =
      let n : Log = record log { gathered = m.gathered; flushed = m.flushed } in
      let run : m.opened.run ≡ log.opened.run = ap (λ (x : Log). x.opened.run) on.log in
      let moved : WritesFrom sound log.flushed n mid new = subst (λ (x : Log). WritesFrom sound log.flushed x mid new) on.log w in
      let few : WritesFew place (moved.writes.more ++ q.more) = elim did [
        | inl gathers ↦ few_turn sound place log n old mid new (subst (λ (x : Log). DidGather log x) on.log gathers) q moved
        | inr same ↦ few_stop sound place log n old mid new same q moved
      ] in
      let here = written_at place log m.gathered m.flushed on.more.0 old mid new (subst (λ (x : Log). IsLog sound x) on.log is) on.more.1 settled (rw run at fresh) q moved few in
      subst (λ (x : Log). WritesFrom sound place x old new) (sym on.log) here

  -- after one turn more the blocks last, and those before them
  turned_at : (place : ℕ) (log : Log) (G : List Block) (F : ℕ) (r : List Block) (old mid new : List Step) → IsLog sound (record log { gathered = G; flushed = F }) → G ≡ log.gathered ++ r
      → F ≡ gathered_to (record log { gathered = G; flushed = F }) → DidGather log (record log { gathered = G; flushed = F }) → Progress sound place log old mid
      → WritesFrom sound log.flushed (record log { gathered = G; flushed = F }) mid new
      → HoldsFrom sound log.flushed (record log { gathered = G; flushed = F }) mid new → Progress sound place (record log { gathered = G; flushed = F }) old new
  turned_at place log G F r old mid new is grown flushed did q w h =
      let n = record log { gathered = G; flushed = F } in
      let base = start_of log in
      let k = q.holds in
      let end = end_of base k.front in
      let stand = all_stand n is in
      let j = joined place base G k.front k.blocks k.rest old mid new w.front w.blocks r stand (grown ∙ ap (λ (bs : List Block). bs ++ r) k.split) k.from
      q.more q.steps q.writes w.split (w.place_is ∙ sym k.to) w.writes (few_turn sound place log n old mid new did q w) in
      -- what lasts is all that was written
      let cut : G ≡ (h.front ++ h.blocks) ++ h.rest = h.split ∙ sym (append_assoc h.front h.blocks h.rest) in
      let last : (end_of base (h.front ++ h.blocks)).at ≡ (end_of base G).at = ap (λ (e : End). e.at) (end_of-append base h.front h.blocks) ∙ h.to ∙ flushed ∙ same_place base G in
      let whole_cut = one_cut short sound base (h.front ++ h.blocks) h.rest G [] (rw cut at stand) (sym cut ∙ sym (append-nil G)) last in
      let two = one_cut short sound base h.front h.blocks w.front w.blocks (rw whole_cut.front stand) (whole_cut.front ∙ w.split) (h.from ∙ sym w.place_is) in
      let front_is : h.front ≡ k.front ++ k.blocks = two.front ∙ sym j.0.front in
      let ends : end_of base h.front ≡ end_of end k.blocks = ap (λ (bs : List Block). end_of base bs) front_is ∙ end_of-append base k.front k.blocks in
      let moved : HoldsBlocks sound (end_of end k.blocks) w.blocks mid new = subst (λ (bs : List Block). HoldsBlocks sound (end_of end k.blocks) bs mid new) two.behind (subst (λ (e : End). HoldsBlocks sound e h.blocks mid new) ends h.holds) in
      let further : (end_of end (k.blocks ++ w.blocks)).at ≡ (end_of (end_of end k.blocks) w.blocks).at = ap (λ (e : End). e.at) (end_of-append end k.blocks w.blocks) in
      let to : (end_of end (k.blocks ++ w.blocks)).at ≡ F = ap (λ (e : End). e.at) (sym (end_of-append base k.front (k.blocks ++ w.blocks))) ∙ ap (λ (bs : List Block). (end_of base bs).at) (sym j.1.split) ∙ sym (same_place base G) ∙ sym flushed in
      let spares = spares_on end.at (end_of end k.blocks).at (end_of (end_of end k.blocks) w.blocks).at (contents old) (contents mid) (contents new) (places_grow end k.blocks) (places_grow (end_of end k.blocks) w.blocks) k.holds.others moved.others in
      record {
        holds = record {
          front = k.front;
          blocks = k.blocks ++ w.blocks;
          rest = [];
          split = j.1.split ∙ ap (λ (bs : List Block). k.front ++ bs) (sym (append-nil (k.blocks ++ w.blocks)));
          from = k.from;
          to = to;
          holds = record {
            settled = moved.settled;
            list = lists-joined short whole sound (contents mid) (contents new) end k.blocks w.blocks (end_of (end_of end k.blocks) w.blocks).at k.holds.list.chain moved.others moved.list;
            others = rw (sym further) at spares;
          };
        };
        more = j.1.more;
        steps = j.1.steps;
        writes = j.1.writes;
        few = j.1.few;
        stops = inr (subst (IsStop n) (sym flushed) did.stops);
      }

  pub turned_on : (place : ℕ) (log m : Log) (old mid new : List Step) → DidGather log m → IsLog sound m → m.flushed ≡ gathered_to m
      → Progress sound place log old mid → WritesFrom sound log.flushed m mid new → HoldsFrom sound log.flushed m mid new → Progress sound place m old new
  turned_on place log m old mid new did is flushed q w h =
      let on = did.goes_on in
      let here = turned_at place log m.gathered m.flushed on.more.0 old mid new (subst (λ (x : Log). IsLog sound x) on.log is) on.more.1 (subst (λ (x : Log). m.flushed ≡ gathered_to x) on.log flushed)
      (subst (λ (x : Log). DidGather log x) on.log did) q
      (subst (λ (x : Log). WritesFrom sound log.flushed x mid new) on.log w) (subst (λ (x : Log). HoldsFrom sound log.flushed x mid new) on.log h) in
      subst (λ (x : Log). Progress sound place x old new) (sym on.log) here

  -- the same, as far as a disk tells
  pub told_start : (l : Log) (before : Option (List Step)) → IsLog sound l → IfSome before (IsReady l) → Tells (Progress sound l.flushed l) before before
  told_start l None is ready = refl
  told_start l (Some old) is ready = (old, refl, at_start l old is ready)

  pub told_turn : (place : ℕ) (log m : Log) (a b c : Option (List Step)) → DidGather log m → IsLog sound m → m.flushed ≡ gathered_to m
      → Tells (Progress sound place log) a b → Tells (WritesFrom sound log.flushed m) b c → Tells (HoldsFrom sound log.flushed m) b c → Tells (Progress sound place m) a c
  told_turn place log m None b c on is flushed q w h = rw q at w
  told_turn place log m (Some old) b c on is flushed (mid, told, q) w h = turn_told (rw told at w) (rw told at h) where
    turn_told : Tells (WritesFrom sound log.flushed m) (Some mid) c → Tells (HoldsFrom sound log.flushed m) (Some mid) c → Tells (Progress sound place m) (Some old) c
    turn_told (new, told_new, w') (other, told_other, h') =
        let same : other ≡ new = cc in
        (new, told_new, turned_on place log m old mid new on is flushed q w' (subst (λ (ss : List Step). HoldsFrom sound log.flushed m mid ss) same h'))

  pub told_stop : (l log m : Log) (a b c : Option (List Step)) → GoesOn log m → IsLog sound m → m.opened ≡ l.opened → IfSome a (IsReady l) → DidGather log m ⊎ (c ≡ b)
      → Tells (Progress sound l.flushed log) a b → Tells (WritesFrom sound log.flushed m) b c → Tells (WritesFrom sound l.flushed m) a c
  told_stop l log m None b c on is opened ready did q w = rw q at w
  told_stop l log m (Some old) b c on is opened ready did (mid, told, q) w = stop_told (rw told at w) where
    either : (new : List Step) → c ≡ Some new → DidGather log m ⊎ (new ≡ mid)
    either new told_new = elim did [
      | inl gathers ↦ inl gathers
      | inr same ↦ inr (let one : Some new ≡ Some mid = sym told_new ∙ same ∙ told in cc)
    ]

    stop_told : Tells (WritesFrom sound log.flushed m) (Some mid) c → Tells (WritesFrom sound l.flushed m) (Some old) c
    stop_told (new, told_new, w') =
        (new, told_new, written_on l.flushed log m old mid new on is ready.settled (subst (λ (s : Start). IsFresh s.run (contents old) l.flushed) (sym opened) ready.fresh) q w' (either new told_new))

-- a log goes on, and on from there
goes_where : (l : Log) (G H : List Block) (F E : ℕ) → GoesOn l (record l { gathered = G; flushed = F }) → (m : Log) → GoesOn (record l { gathered = G; flushed = F }) m → GoesOn l m
goes_where l G H F E first m second =
    let one = first.further in
    let two = second.further in
    record {
      log = second.log;
      more = (first.more.0 ++ second.more.0, second.more.1 ∙ ap (λ (bs : List Block). bs ++ second.more.0) first.more.1 ∙ append_assoc l.gathered first.more.0 second.more.0);
      further = omega arith;
    }

pub goes_further : (l log m : Log) → GoesOn l log → GoesOn log m → GoesOn l m
goes_further l log m first second =
    let here : Log = record l { gathered = log.gathered; flushed = log.flushed } in
    goes_where l log.gathered m.gathered log.flushed m.flushed (subst (λ (x : Log). GoesOn l x) first.log first) m (subst (λ (x : Log). GoesOn x m) first.log second)

pub goes_nowhere : (l m : Log) → m ≡ l → GoesOn l m
goes_nowhere l m same = subst (λ (x : Log). GoesOn l x) (sym same) (record { log = refl; more = ([], sym (append-nil l.gathered)); further = omega arith })

-- what a turn that stopped did: it gathered, or nothing
pub stop_did : (stop : FlushStop) (was now : Bool) (log m : Log) (before after : Option (List Step)) → Turns (Err stop) was now log m → Stays (Err stop) before after → DidGather log m ⊎ (after ≡ before)
stop_did (Empty at) was now log m before after turn stays = inr stays
stop_did (Unfilled at) was now log m before after turn stays = inr stays
stop_did DiskFault was now log m before after turn stays = inl turn.2
stop_did Failed was now log m before after turn stays = inr stays

-- what a turn that stopped leaves
pub stop_goes_on : (stop : FlushStop) (was now : Bool) (log m : Log) → Turns (Err stop) was now log m → GoesOn log m
stop_goes_on (Empty at) was now log m turn = goes_nowhere log m turn.2
stop_goes_on (Unfilled at) was now log m turn = goes_nowhere log m turn.2
stop_goes_on DiskFault was now log m turn = turn.2.goes_on
stop_goes_on Failed was now log m turn = goes_nowhere log m turn.2
