-- What is told of a stream's items, item by item.
use Rattle.std.proofs.Common.{◌≡◌, ℕ, ◌+◌, ◌<◌, List, [], ◌∷◌, ◌++◌, length, get_or, take, drop, map, Option, None, Some, refl, sym, ap, ◌∙◌, subst, append-nil, append_assoc}
use Rattle.std.specs.List.{flat_map}
use Rattle.std.specs.Prelude.{Result, Ok, Err, OnErr}
use Rattle.std.proofs.lemmas.List.{map-append, take-append-drop, take_more}
use Rattle.std.proofs.lemmas.List.Concat.{flat_map-append}
use Rattle.erm_model.specs.declared.history.Commit.{Commit}
use Rattle.erm_block.specs.declared.block.Block.{Block}
use Rattle.erm_follow.specs.declared.seen.Seen.{Seen}
use Rattle.erm_follow.specs.Follow.{Followed}
use Rattle.erm_report.specs.declared.line.Line.{Line}
use Rattle.erm_report.specs.Texts.{line_text}
use Rattle.erm_replica.specs.Stream.{HasNext, Streamed}
use Rattle.erm_replica.specs.Stream.Part.{block}
use Rattle.erm_follow_run.specs.declared.halt.Halt.{Halt}
use Rattle.erm_follow_run.specs.declared.halt.Halt.TheVariants as halt
use Rattle.erm_follow_run.specs.Draining.{AreLines, Drains, DrainsTo, HaltsIn, HasFront, Leads, StaysFor, StopsHearing}
use Rattle.erm_follow_run.specs.Following.{Following, IsBelow, seen_in_kind}
use Rattle.erm_follow_run.specs.Texts.{lines_text, logged}

-- ---- why a follower tells nothing of a block

stops_kind : (o : Option Seen) (s : Streamed) (f : Followed) (b : Block) (h : Halt) → seen_in_kind b.kind b ≡ o → HasNext s (block b) → StopsHearing o f h → HaltsIn s f h
stops_kind (Some seen) s f b (halt.Broken by) is there stops = record { part = block b; there = there; seen = seen; seen_is = is; after = stops.0; breaks = stops.1 }
stops_kind (Some seen) s f b halt.Memory is there stops = tt
stops_kind (Some seen) s f b (halt.NotYet bytes) is there stops = absurd stops
stops_kind (Some seen) s f b (halt.Bad place) is there stops = absurd stops
stops_kind None s f b halt.Memory is there stops = tt
stops_kind None s f b (halt.NotYet bytes) is there stops = absurd stops
stops_kind None s f b (halt.Bad place) is there stops = absurd stops
stops_kind None s f b (halt.Broken by) is there stops = absurd stops

pub stops_block : (s : Streamed) (f : Followed) (b : Block) (h : Halt) → HasNext s (block b) → StopsHearing (seen_in_kind b.kind b) f h → HaltsIn s f h
stops_block s f b h there stops = stops_kind (seen_in_kind b.kind b) s f b h refl there stops

pub stays_block : (o : Option Seen) (s t : Streamed) (f g : Followed) (h : Halt) → StopsHearing o f h → StaysFor h s f t g
stays_block (Some seen) s t f g (halt.NotYet bytes) stops = absurd stops
stays_block None s t f g (halt.NotYet bytes) stops = absurd stops
stays_block o s t f g (halt.Bad place) stops = tt
stays_block o s t f g (halt.Broken by) stops = tt
stays_block o s t f g halt.Memory stops = tt

-- ---- the lines of commits

pub lines_more : (xs ys : List Commit) → lines_text (xs ++ ys) ≡ lines_text xs ++ lines_text ys
lines_more xs ys = ap (λ (ls : List Line). flat_map line_text ls) (map-append logged xs ys) ∙ flat_map-append line_text (map logged xs) (map logged ys)

-- one more
pub line_more : (commits : List Commit) (i : ℕ) (c : Commit) (first before now : List ℕ) → i < length commits → get_or commits i c ≡ c
    → before ≡ first ++ lines_text (take i commits) → now ≡ before ++ line_text (logged c) → now ≡ first ++ lines_text (take (i + 1) commits)
line_more commits i c first before now within at was is =
    let one : take (i + 1) commits ≡ take i commits ++ c ∷ [] = take_more commits i c within ∙ ap (λ (x : Commit). take i commits ++ x ∷ []) at in
    let text : lines_text (take (i + 1) commits) ≡ lines_text (take i commits) ++ line_text (logged c) =
    ap lines_text one ∙ lines_more (take i commits) (c ∷ []) ∙ ap (λ (more : List ℕ). lines_text (take i commits) ++ more) (append-nil (line_text (logged c))) in
    is ∙ ap (λ (front : List ℕ). front ++ line_text (logged c)) was
    ∙ append_assoc first (lines_text (take i commits)) (line_text (logged c))
    ∙ ap (λ (more : List ℕ). first ++ more) (sym text)

pub front_at : (commits : List Commit) (i : ℕ) (old now : List ℕ) → now ≡ old ++ lines_text (take i commits) → HasFront commits old now
front_at commits i old now is = record { front = take i commits; rest = drop i commits; split = sym (take-append-drop i commits); added = is }

pub on_err : {X E : Type 0} (r : Result X E) (P : Type 0) → P → OnErr r P
on_err (Ok x) P p = tt
on_err (Err e) P p = p

-- ---- draining

pub leads_nothing : (s : Streamed) (f : Followed) → Leads s f [] s f
leads_nothing s f = λ bytes lines following. subst (λ (ls : List Commit). Following bytes s f ls) (sym (append-nil lines)) following

leads_both : (s t u : Streamed) (f g h : Followed) (xs ys : List Commit) → Leads s f xs t g → Leads t g ys u h → Leads s f (xs ++ ys) u h
leads_both s t u f g h xs ys one other = λ bytes lines following.
    subst (λ (ls : List Commit). Following bytes u h ls) (append_assoc lines xs ys) (other bytes (lines ++ xs) (one bytes lines following))

pub drains_first : (s : Streamed) (f : Followed) → IsBelow s.log f → f.broken ≡ None → Drains s f [] s f
drains_first s f below whole = record { new = []; leads = leads_nothing s f; lines = refl; below = below; whole = whole }

pub drains_more : (s t u : Streamed) (f g h : Followed) (text now : List ℕ) (more : List Commit) → Drains s f text t g → Leads t g more u h → IsBelow u.log h → h.broken ≡ None
    → now ≡ text ++ lines_text more → Drains s f now u h
drains_more s t u f g h text now more drains leads below whole is = record {
  new = drains.new ++ more;
  leads = leads_both s t u f g h drains.new more drains.leads leads;
  lines = is ∙ ap (λ (front : List ℕ). front ++ lines_text more) drains.lines ∙ sym (lines_more drains.new more);
  below = below;
  whole = whole;
}

are_lines : (h : Halt) (commits : List Commit) (text : List ℕ) → text ≡ lines_text commits → AreLines h commits text
are_lines (halt.NotYet bytes) commits text is = is
are_lines (halt.Bad place) commits text is = is
are_lines (halt.Broken by) commits text is = is
are_lines halt.Memory commits text is = record { front = commits; rest = []; split = sym (append-nil commits); added = is }

-- where no more is told
pub drains_to : (s t u : Streamed) (f g h : Followed) (text : List ℕ) (why : Halt) → Drains s f text t g → HaltsIn t g why → StaysFor why t g u h → DrainsTo s f text why u h
drains_to s t u f g h text why drains halts stays = record {
  new = drains.new;
  last_s = t;
  last_f = g;
  leads = drains.leads;
  halts = halts;
  stays = stays;
  lines = are_lines why drains.new text drains.lines;
}

-- where memory runs out for the lines
pub drains_starved : (s t u : Streamed) (f g h : Followed) (text now : List ℕ) (more : List Commit) → Drains s f text t g → Leads t g more u h → HasFront more text now → DrainsTo s f now halt.Memory u h
drains_starved s t u f g h text now more drains leads front = record {
  new = drains.new ++ more;
  last_s = u;
  last_f = h;
  leads = leads_both s t u f g h drains.new more drains.leads leads;
  halts = tt;
  stays = tt;
  lines = record {
    front = drains.new ++ front.front;
    rest = front.rest;
    split = ap (λ (ls : List Commit). drains.new ++ ls) front.split ∙ sym (append_assoc drains.new front.front front.rest);
    added = front.added ∙ ap (λ (first : List ℕ). first ++ lines_text front.front) drains.lines ∙ sym (lines_more drains.new front.front);
  };
}
