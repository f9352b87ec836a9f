-- A pin of the log's end, rows as of it, and its end: what is known of the log then.
use Rattle.std.proofs.Common.{◌≡◌, ℕ, ◌+◌, ◌≤◌, ⊎_elim, List, [], ◌∷◌, ◌++◌, length, Some, None, refl, sym, ap, ◌∙◌, subst, arith}
use Rattle.erm_block.specs.declared.block.Block.{Block}
use Rattle.erm_core_ssn.proofs.RowsHistory.{newest_below}
use Rattle.erm_core_turns.proofs.Blocks.{flushed_upto, place_upto}
use Rattle.erm_core_turns.proofs.LogIs.{Lists, More}
use Rattle.erm_entries.specs.Took.{TookAgain, TookReach}
use Rattle.erm_gathered.proofs.Lasting.{BlocksStay}
use Rattle.erm_log_list.specs.LogOf.{IsDecidedUpTo}
use Rattle.erm_machine.specs.declared.event.Kind.{Kind}
use Rattle.erm_machine.specs.declared.event.Kind.TheVariants as kind
use Rattle.erm_machine.specs.declared.event.TailUse.TheVariants as purpose
use Rattle.erm_machine.specs.declared.limits.TheConstants.{FLUSH_SEAT}
use Rattle.erm_machine.specs.declared.part.Part.{Part}
use Rattle.erm_machine.specs.declared.task.Task.{Task}
use Rattle.erm_machine.specs.declared.task.Task.TheVariants as task
use Rattle.erm_machine.specs.Chains.{IsNamed, NamedInHand}
use Rattle.erm_machine.specs.Core.{Core}
use Rattle.erm_machine.specs.Decided.{history_of}
use Rattle.erm_machine.specs.Facts.{all_of}
use Rattle.erm_machine.specs.Lawful.{opening_rows}
use Rattle.erm_machine.specs.Snapshot.{InHand, IsNewestAt, NoneInHand}
use Rattle.erm_machine.specs.Sound.{Sound}
use Rattle.erm_machine.proofs.Listed.{∈-head, ∈-second}
use Rattle.erm_model.specs.History.{IsCertified, IsNewestBelow, IsSnapshot}
use Rattle.erm_model.specs.Member.{◌∈◌}
use Rattle.erm_model.specs.RowTransaction.{Law}
use Rattle.erm_pin.specs.Rows.{row_of}
use Rattle.erm_pin.specs.Took.{TookRow}
use Rattle.erm_record.specs.Stored.{stored_length}
use Rattle.erm_rule.specs.declared.view.Book.{Book}
use Rattle.erm_rule.specs.declared.view.Start.{Start}
use Rattle.erm_rule.specs.Books.{IsBookOf, WasSeen}
use Rattle.erm_rule.specs.Steps.{Booked}
use Rattle.erm_rule.specs.Views.{part_of}
use Rattle.erm_rule.specs.Went.{Took}
use Rattle.erm_rule.proofs.Courses.{goes_step, seen_once}
use Rattle.erm_world.specs.declared.gathered.SeatWait.{SeatWait}
use Rattle.erm_world.specs.Log.{IsRowAt, Log, place_behind, rows_behind}
use Rattle.erm_world.specs.Log as world
use Rattle.erm_desk.specs.Known.{HasPin, IsFlushedTo, KnowsLog, ended_log, flushed_log}
use Rattle.erm_desk.specs.Turns.{DidPin, DidRead, DidWait, EndsPin}
use Rattle.erm_desk.proofs.Ended.{log_on, pinned_is, unpinned_is}
use Rattle.erm_desk.proofs.Fronts.{OneSpelling}
use Rattle.erm_desk.proofs.Lawful.{UnderLaw, took_start}
use Rattle.erm_desk.proofs.Opened.{IsOf, state_is}
use Rattle.erm_desk.proofs.PinFront.{row_there, up_to}
use Rattle.erm_desk.proofs.PinKept.{pin_ended, pin_ends, pin_held, pin_looked, pin_some}
use Rattle.erm_desk.proofs.Stays.{ended_after, last_under, loads_store, steps_flushed, tail_later, took_goes, took_under}
use Rattle.erm_desk.proofs.Onward.{knows_after}
use Rattle.erm_desk.specs.Known.{KnowsBlocks}

abbrev F : ℕ
F = FLUSH_SEAT

behind_up : (at : ℕ) (bs : List Block) → at ≤ place_behind at bs
behind_up at [] = omega arith
behind_up at (b ∷ bs) = let up = behind_up (at + b.size) bs in omega (arith, up)

behind_more : (at : ℕ) (bs more : List Block) → place_behind at bs ≤ place_behind at (bs ++ more)
behind_more at [] more = behind_up at more
behind_more at (b ∷ bs) more = behind_more (at + b.size) bs more

-- A PIN
module _ (stay : BlocksStay) (law : Law) (b e : Book) (l : Log) (k : KnowsLog law b l) where
  -- the log ended there when it was pinned
  last_tail : (place : ℕ) (m : Book) → Booked law m F (kind.LoadTail purpose.Begin) place e → WasSeen m (λ c. c.shared.tail ≡ place) e
  last_tail place m booked = seen_once law m (λ c. c.shared.tail ≡ place) F (kind.LoadTail purpose.Begin) place e booked (λ c is met. met)

  pub pinned_at : (place : ℕ) → DidPin law b place e → (l.tail ≤ place) × KnowsLog law e (record l { tail = place; pinned = Some place })
  pinned_at place did =
      let took = did.took.took in
      let m = took.0 in
      let goes = took_goes law ((kind.LoadTail purpose.Begin, place) ∷ (kind.StoreBegin did.took.announced, did.took.word) ∷ (kind.LoadTail purpose.Begin, did.took.announced) ∷ []) b e took in
      let goes_m = took_goes law ((kind.StoreBegin did.took.announced, did.took.word) ∷ (kind.LoadTail purpose.Begin, did.took.announced) ∷ []) b m took.1 in
      let start = took_start law F ((kind.LoadTail purpose.Begin, place) ∷ (kind.StoreBegin did.took.announced, did.took.word) ∷ (kind.LoadTail purpose.Begin, did.took.announced) ∷ []) b e took in
      let flushed = (steps_flushed law ((kind.LoadTail purpose.Begin, place) ∷ (kind.StoreBegin did.took.announced, did.took.word) ∷ (kind.LoadTail purpose.Begin, did.took.announced) ∷ []) b e
      (place_behind b.start.tail k.blocks) took (λ s. s, (λ s. s, (λ s. s, tt))) (pin_some b.view l.pinned k.end.pin) k.flushed).0 in
      let seen = last_tail place m took.2 in
      let u = last_under law (kind.LoadTail purpose.Begin, place) ((kind.StoreBegin did.took.announced, did.took.word) ∷ (kind.LoadTail purpose.Begin, did.took.announced) ∷ []) b e took in
      let w = seen u.core u.is in
      let before = ended_after b m l.tail goes_m k.end.ended w.start w.is in
      let since = tail_later w.start w.state w.since in
      let met = w.met in
      let low : l.tail ≤ place = omega (arith, before, since, met) in
      let here : (c : Core) → IsBookOf e c → place ≤ c.shared.tail =
      λ c is. let v = seen c is in let at = v.met in let on = tail_later v.state c v.later in omega (arith, at, on)
      in
      let last = here u.core u.is in
      let high = u.is.sound.common.ranges.below in (
        low,
        record {
          blocks = k.blocks;
          is = ap (λ (x : Log). ended_log x place (Some place)) k.is ∙ ap (λ (x : Start). ended_log (flushed_log x k.blocks) place (Some place)) (sym start);
          knows = subst (λ (x : Start). KnowsBlocks law x e k.blocks) (sym start) (knows_after stay law b.start b e k.blocks goes start k.knows);
          flushed = subst (λ (x : Start). IsFlushedTo e (place_behind x.tail k.blocks)) (sym start) flushed;
          end = record {
            is_log = pinned_is law.meets l place k.end.is_log low (omega (arith, last, high));
            pin = (did.pinned, did.place_is);
            ended = here;
          };
        },
      )

  -- ITS END
  pub unpinned_at : EndsPin law b e → KnowsLog law e (record l { pinned = None })
  unpinned_at did =
      let took : Took law F ((kind.StoreBegin 0, did.found) ∷ []) b e = (b, refl, did.step) in
      let goes = goes_step law b F (kind.StoreBegin 0) did.found e did.step in
      let start = took_start law F ((kind.StoreBegin 0, did.found) ∷ []) b e took in
      let flushed = (steps_flushed law ((kind.StoreBegin 0, did.found) ∷ []) b e (place_behind b.start.tail k.blocks) took (λ s. s, tt) (pin_some b.view l.pinned k.end.pin) k.flushed).0 in
      record {
        blocks = k.blocks;
        is = ap (λ (x : Log). ended_log x l.tail None) k.is ∙ ap (λ (x : Start). ended_log (flushed_log x k.blocks) l.tail None) (sym start);
        knows = subst (λ (x : Start). KnowsBlocks law x e k.blocks) (sym start) (knows_after stay law b.start b e k.blocks goes start k.knows);
        flushed = subst (λ (x : Start). IsFlushedTo e (place_behind x.tail k.blocks)) (sym start) flushed;
        end = record {
          is_log = unpinned_is law.meets l k.end.is_log;
          pin = pin_ended b e l.pinned did.unpins k.end.pin;
          ended = ended_after b e l.tail goes k.end.ended;
        };
      }

  -- A LOOK
  looks_on : (steps : List (Kind × ℕ)) → Took law F steps b e → IsFlushedTo e (place_behind b.start.tail k.blocks) → HasPin e.view l.pinned → KnowsLog law e l
  looks_on steps took flushed pin = log_on stay law b e l k (took_goes law steps b e took) (took_start law F steps b e took) flushed pin

  pub waits_on : (oid : ℕ) (wait : SeatWait) → DidWait law b oid wait e → KnowsLog law e l
  waits_on oid wait did =
      let loads = did.loads in
      looks_on loads.steps loads.took (steps_flushed law loads.steps b e (place_behind b.start.tail k.blocks) loads.took (loads_store loads.steps loads.all) (pin_some b.view l.pinned k.end.pin) k.flushed).0
      (pin_looked b e l.pinned did.looked k.end.pin)

  pub reads_on : (oid : ℕ) (row : List ℕ) → DidRead law b oid row e → KnowsLog law e l
  reads_on oid row did =
      let loads = did.loads in
      looks_on loads.steps loads.took (steps_flushed law loads.steps b e (place_behind b.start.tail k.blocks) loads.took (loads_store loads.steps loads.all) (pin_some b.view l.pinned k.end.pin) k.flushed).0
      (pin_looked b e l.pinned did.looked k.end.pin)

-- THE ROW that was found, in a state under the law
module _ (law : Law) (oid place : ℕ) (row : List ℕ) (b e : Book) (took : TookRow law oid place row b e) where
  reached : (entry : ℕ) (m : Book) → TookReach law F oid place entry b m → UnderLaw law b.start m
  reached entry m reach =
      ⊎_elim (λ free. last_under law (kind.LoadEntry oid, entry) [] b m free.1)
      (λ (again : TookAgain law F oid place entry b m).
      last_under law (kind.LoadEntry oid, entry) ((kind.LoadState again.owner place, again.state) ∷ (kind.LoadEntry oid, again.first) ∷ []) b m again.took) reach

  pub found_under : UnderLaw law b.start e
  found_under = took_under law b.start took.loads.steps took.entered e (reached took.entry took.entered took.reach) took.loads.took

  module _ (c : Core) (is : IsBookOf e c) (begin : (part_of e.view F).current.begin ≡ place) (held : c.seats F ≡ part_of e.view F) where
    sound : Sound c
    sound = is.sound

    task_is : (c.seats F).task ≡ task.Found took.version took.stamp took.head
    task_is = ap (λ (x : Part). x.task) held ∙ took.found

    begin_is : (c.seats F).current.begin ≡ place
    begin_is = ap (λ (x : Part). x.current.begin) held ∙ begin

    named : IsNamed c.shared took.version
    named = subst (λ (t : Task). NamedInHand c.shared t) task_is (sound.own F).chains.named

    newest : IsNewestAt (c.shared.objects took.version.oid) took.version.place (c.seats F).current.begin took.stamp
    newest = subst (λ (t : Task). InHand c.shared (c.seats F).current.begin t) task_is (sound.own F).snapshot.in_hand

    stands : (c.seats F).current ∈ all_of (c.seats F)
    stands = ∈-second (c.seats F).over ((c.seats F).current ∷ []) (c.seats F).current (∈-head (c.seats F).current [])

    row_here : row_of c took.version ≡ row
    row_here = took.row_is c is

    pub row_newest : IsNewestBelow (history_of c.seats) (opening_rows c.shared) oid place took.stamp row
    row_newest =
        let all = newest_below c sound F (c.seats F).current took.version.oid took.version.place took.stamp row stands
        (record {
          known = named.object;
          within = named.within;
          stamp_is = newest.stamp_is;
          newer = newest.newer;
          apart = λ q other below. subst (λ (t : Task). NoneInHand (c.seats F).current.begin t q (c.seats q)) task_is (sound.both F q other).snapshot.in_hand below;
        }) newest.below row_here
        in
        subst (λ (p : ℕ). IsNewestBelow (history_of c.seats) (opening_rows c.shared) oid p took.stamp row) begin_is
        (subst (λ (o : ℕ). IsNewestBelow (history_of c.seats) (opening_rows c.shared) o (c.seats F).current.begin took.stamp row) took.oid_is all)

-- is that of the blocks up to the pin
module _ (law : Law) (lists : Lists law) (more : More law) (one : OneSpelling) (short : (row : List ℕ) → stored_length row ≤ length row)
    (certified : (c : Core) → Sound c → IsCertified (history_of c.seats)) (snapshots : (c : Core) → Sound c → IsSnapshot (history_of c.seats) (opening_rows c.shared))
    (b e : Book) (l : Log) (k : KnowsLog law e l) (oid : ℕ) (row : List ℕ) (did : DidRead law b oid row e) where
  pub row_at : HasPin b.view l.pinned → IsRowAt l oid row
  row_at was front rest split pinned =
      let o = e.start in
      let u = found_under law oid did.place row b e did.took in
      let c = u.core in
      let of : IsOf o c = state_is e c u.is in
      let opened : l.opened ≡ (flushed_log o k.blocks).opened = ap (λ (x : Log). x.opened) k.is in
      let blocks : k.blocks ≡ front ++ rest = sym (ap (λ (x : Log). x.gathered) k.is) ∙ split in
      let place = place_behind o.tail front in
      let same : place_behind l.opened.at front ≡ place = ap (λ (s : world.Start). place_behind s.at front) opened in
      let pin_is : l.pinned ≡ Some place = pinned ∙ ap (λ (n : ℕ). Some n) same in
      let pin : HasPin e.view (Some place) = subst (HasPin e.view) pin_is k.end.pin in
      let old : HasPin b.view (Some place) = subst (HasPin b.view) pin_is was in
      let at : did.place ≡ place = sym did.place_is ∙ old.1 in
      let held : c.seats F ≡ part_of e.view F = u.is.is_view F (part_of e.view F) (pin_held e.view (Some place) pin) in
      let newest = row_newest law oid did.place row b e did.took c u.is (pin.1 ∙ sym at) held in
      let to = place_behind o.tail k.blocks in
      let upto : IsDecidedUpTo c to = subst (IsDecidedUpTo c) (k.flushed c u.is) (flushed_upto c u.is.sound) in
      let deep = place_upto c u.is.sound in
      let one_low = deep.1 in
      let two_low = deep.2 in
      let flushed = k.flushed c u.is in
      let low = behind_more o.tail front rest in
      let whole = ap (place_behind o.tail) blocks in
      let found = up_to law lists more one short o c u.under of k.blocks k.knows.log (k.knows.whole c u.is) place
      (pin_ends e.view c place u.is.is_view u.under.begins pin) upto (omega (arith, one_low, two_low, flushed)) (omega (arith, low, whole))
      in
      row_there law lists more one short o c u.under of k.blocks k.knows.log (k.knows.whole c u.is) (certified c u.is.sound) (snapshots c u.is.sound) place found oid did.took.stamp row
      (subst (λ (p : ℕ). IsNewestBelow (history_of c.seats) (opening_rows c.shared) oid p did.took.stamp row) at newest) front rest blocks refl
      ∙ ap (λ (s : world.Start). rows_behind s.rows front oid) (sym opened)
