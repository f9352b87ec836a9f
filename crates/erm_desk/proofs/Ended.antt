-- What is known of the end of a log and of its pin, and how that goes on.
use Rattle.std.proofs.Common.{◌≡◌, ℕ, ◌+◌, ◌^◌, ◌<◌, ◌≤◌, List, [], ◌∷◌, ◌++◌, Option, Some, None, IfSome, refl, sym, ap, ◌∙◌, subst, append-nil, arith}
use Rattle.erm_block.specs.declared.block.Block.{Block}
use Rattle.erm_gathered.proofs.Lasting.{BlocksStay}
use Rattle.erm_model.specs.RowTransaction.{Law}
use Rattle.erm_model.specs.Rows.{Rows}
use Rattle.erm_rule.specs.declared.view.Book.{Book}
use Rattle.erm_rule.specs.declared.view.Start.{Start}
use Rattle.erm_rule.specs.Books.{IsAfter}
use Rattle.erm_world.specs.Log.{IsEnd, IsLog, Log, gathered_to, place_behind}
use Rattle.erm_desk.specs.Known.{HasPin, IsFlushedTo, KnowsBlocks, KnowsEnd, KnowsLog, ended_log, flushed_log, pending_log}
use Rattle.erm_desk.proofs.Onward.{knows_after}
use Rattle.erm_desk.proofs.Stays.{ended_after}

-- what was known of it is known still
pub end_on : (law : Law) (b e : Book) (l : Log) → KnowsEnd law b l → IsAfter b e → HasPin e.view l.pinned → KnowsEnd law e l
end_on law b e l k goes pin = record { is_log = k.is_log; pin = pin; ended = ended_after b e l.tail goes k.ended }

pub log_on : BlocksStay → (law : Law) (b e : Book) (l : Log) → (k : KnowsLog law b l) → IsAfter b e → e.start ≡ b.start → IsFlushedTo e (place_behind b.start.tail k.blocks) → HasPin e.view l.pinned → KnowsLog law e l
log_on stay law b e l k goes start flushed pin = record {
  blocks = k.blocks;
  is = k.is ∙ ap (λ (x : Start). ended_log (flushed_log x k.blocks) l.tail l.pinned) (sym start);
  knows = subst (λ (x : Start). KnowsBlocks law x e k.blocks) (sym start) (knows_after stay law b.start b e k.blocks goes start k.knows);
  flushed = subst (λ (x : Start). IsFlushedTo e (place_behind x.tail k.blocks)) (sym start) flushed;
  end = end_on law b e l k.end goes pin;
}

-- blocks were gathered behind those that are known, and the end that was met is now this one
pub pending_is : (sound : Rows → Type 0) (o : Start) (old more : List Block) (l : Log) (tail : ℕ) → IsLog sound l → l ≡ ended_log (flushed_log o old) l.tail l.pinned
    → IsLog sound (flushed_log o (old ++ more)) → l.tail ≤ tail → place_behind o.tail (old ++ more) ≤ tail → tail < 2 ^ 64
    → ((place : ℕ) → l.pinned ≡ Some place → place ≤ place_behind o.tail (old ++ more) → IsEnd (flushed_log o (old ++ more)) place)
    → IsLog sound (ended_log (pending_log o old more) tail l.pinned)
pending_is sound o old more l tail was same is low within high ends = record {
  opening = is.opening;
  chain = is.chain;
  one_run = is.one_run;
  flushed = record { front = old; rest = more; split = refl; behind = refl };
  within = within;
  places = high;
  decided = λ place below. refl;
  pinned = at_pin l.pinned refl;
}
  where
    at_pin : (p : Option ℕ) → l.pinned ≡ p
        → IfSome p (λ place. (o.tail ≤ place) × (place ≤ tail) × (place ≤ place_behind o.tail (old ++ more) → IsEnd (ended_log (pending_log o old more) tail l.pinned) place))
    at_pin None e = tt
    at_pin (Some place) e =
        let had = subst (λ (q : Option ℕ). IfSome q (λ place. (l.opened.at ≤ place) × (place ≤ l.tail) × (place ≤ gathered_to l → IsEnd l place))) e was.pinned in
        let from : l.opened.at ≡ o.tail = ap (λ (x : Log). x.opened.at) same in
        let one = had.0 in
        let two = had.1 in (
          omega (arith, from, one),
          omega (arith, two, low),
          λ below. let i = ends place e below in record { front = i.front; rest = i.rest; split = i.split; behind = i.behind },
        )

-- all that was gathered is flushed
pub flushed_is : (sound : Rows → Type 0) (l : Log) (end : ℕ) → IsLog sound l → end ≡ gathered_to l → IsLog sound (record l { flushed = end })
flushed_is sound l end is to = record {
  opening = is.opening;
  chain = is.chain;
  one_run = is.one_run;
  flushed = record { front = l.gathered; rest = []; split = sym (append-nil l.gathered); behind = to };
  within = is.within;
  places = is.places;
  decided = is.decided;
  pinned = at_pin l.pinned is.pinned;
}
  where
    at_pin : (p : Option ℕ) → IfSome p (λ place. (l.opened.at ≤ place) × (place ≤ l.tail) × (place ≤ gathered_to l → IsEnd l place))
        → IfSome p (λ place. (l.opened.at ≤ place) × (place ≤ l.tail) × (place ≤ gathered_to l → IsEnd (record l { flushed = end }) place))
    at_pin None had = tt
    at_pin (Some place) had = (had.0, had.1, λ below. let i = had.2 below in record { front = i.front; rest = i.rest; split = i.split; behind = i.behind })

-- its pin was ended
pub unpinned_is : (sound : Rows → Type 0) (l : Log) → IsLog sound l → IsLog sound (record l { pinned = None })
unpinned_is sound l is = record {
  opening = is.opening;
  chain = is.chain;
  one_run = is.one_run;
  flushed = record { front = is.flushed.front; rest = is.flushed.rest; split = is.flushed.split; behind = is.flushed.behind };
  within = is.within;
  places = is.places;
  decided = is.decided;
  pinned = tt;
}

-- it was pinned at its end
pub pinned_is : (sound : Rows → Type 0) (l : Log) (place : ℕ) → IsLog sound l → l.tail ≤ place → place < 2 ^ 64 → IsLog sound (record l { tail = place; pinned = Some place })
pinned_is sound l place is low high =
    let within = is.within in
    let start = place_up l.opened.at l.gathered in
    record {
      opening = is.opening;
      chain = is.chain;
      one_run = is.one_run;
      flushed = record { front = is.flushed.front; rest = is.flushed.rest; split = is.flushed.split; behind = is.flushed.behind };
      within = omega (arith, within, low);
      places = high;
      decided = is.decided;
      pinned = (
        omega (arith, start, within, low),
        omega arith,
        λ below. record { front = l.gathered; rest = []; split = sym (append-nil l.gathered); behind = (omega (arith, below, within, low)) },
      );
    }
  where
    place_up : (at : ℕ) (bs : List Block) → at ≤ place_behind at bs
    place_up at [] = omega arith
    place_up at (b ∷ bs) = let rest = place_up (at + b.size) bs in omega (arith, rest)
