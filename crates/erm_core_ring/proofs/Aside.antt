-- The log after a step that leaves each block as it was, and the words of the ring.
use Rattle.std.proofs.Common.{◌≡◌, ◌≢◌, ℕ, ◌<◌, ◌≤◌, List, refl, sym, subst, inl, arith}
use Rattle.erm_model.specs.Member.{◌∈◌}
use Rattle.erm_machine.specs.declared.attempt.Attempt.{Attempt}
use Rattle.erm_machine.specs.declared.event.Counter.{Counter}
use Rattle.erm_machine.specs.declared.event.Counter.TheVariants.{Objects, Cells}
use Rattle.erm_machine.specs.declared.event.Kind.{Kind}
use Rattle.erm_machine.specs.declared.event.Kind.TheVariants as kind
use Rattle.erm_machine.specs.declared.limits.TheConstants.{FLUSH_SEAT}
use Rattle.erm_machine.specs.declared.part.Flushing.{Flushing}
use Rattle.erm_machine.specs.declared.part.Flushing.TheVariants as flushing
use Rattle.erm_machine.specs.declared.part.Part.{Part}
use Rattle.erm_machine.specs.declared.version.Span.{Span}
use Rattle.erm_machine.specs.Core.{Core, Shared, spot_of, word_at}
use Rattle.erm_machine.specs.Facts.{all_of}
use Rattle.erm_machine.specs.Log.{Gathered, IsFlushing, Log, LogFits, OwnLog, RingFits, cleared_to}
use Rattle.erm_machine.specs.Ranges.{Ranges}
use Rattle.erm_machine.specs.Sound.{Sound}
use Rattle.erm_machine.specs.Step.{shared_after, with_counter}
use Rattle.erm_machine.specs.Words.{put}
use Rattle.erm_machine.proofs.Frames.{at_cases, each_seat}
use Rattle.erm_machine.proofs.QuietKinds.{Moves}
use Rattle.erm_core_ring.proofs.Onward.{Before, GoesOn, SameBlock, flushing_on, gathered_on, ring_from, same_block, same_onward}
use Rattle.erm_core_ring.proofs.Own.{KeepsBlocks, other_own}

-- what the log's facts read of what is shared
pub record SameWords (s t : Shared) : Type 0 where
  pub opening : t.opening ≡ s.opening
  pub run : t.run ≡ s.run
  pub tail : t.tail ≡ s.tail
  pub log : t.log ≡ s.log
  pub flushed : t.flushed ≡ s.flushed
  pub ring : t.ring ≡ s.ring

pub words_refl : (s : Shared) → SameWords s s
words_refl s = record { opening = refl; run = refl; tail = refl; log = refl; flushed = refl; ring = refl }

-- kinds that leave it
abbrev pub LeavesWords : Kind → Type 0
LeavesWords (kind.AddTail size) = ⊥
LeavesWords (kind.StoreRing at value) = ⊥
LeavesWords (kind.Decide at header) = ⊥
LeavesWords (kind.ClearRing at) = ⊥
LeavesWords (kind.StoreFlushed value) = ⊥
LeavesWords _ = Unit {0}

counter_leaves : (c : Counter) (n : ℕ) (s : Shared) → SameWords s (with_counter c n s)
counter_leaves Objects n s = record { opening = refl; run = refl; tail = refl; log = refl; flushed = refl; ring = refl }
counter_leaves Cells n s = record { opening = refl; run = refl; tail = refl; log = refl; flushed = refl; ring = refl }

pub leaves_words : (p : ℕ) (k : Kind) (found : ℕ) (x : Part) (s : Shared) → LeavesWords k → SameWords s (shared_after p k found x s)
leaves_words p (kind.AddTail size) found x s q = absurd q
leaves_words p (kind.StoreRing at value) found x s q = absurd q
leaves_words p (kind.Decide at header) found x s q = absurd q
leaves_words p (kind.ClearRing at) found x s q = absurd q
leaves_words p (kind.StoreFlushed value) found x s q = absurd q
leaves_words p (kind.AddCounter counter) found x s q = counter_leaves counter _ s
leaves_words p _ found x s q = record { opening = refl; run = refl; tail = refl; log = refl; flushed = refl; ring = refl }

-- the log where these words are another's
shown_turn : (s t : Shared) (f : ℕ → Part) (n : ℕ) (fl : Flushing) → IsFlushing s f n fl →
    IsFlushing (record t { opening = s.opening; tail = s.tail; log = s.log; flushed = s.flushed; ring = s.ring }) f n fl
shown_turn s t f n flushing.Still old = tt
shown_turn s t f n (flushing.Tail tail) old = record { past = old.past; whole = old.whole }
shown_turn s t f n (flushing.Gathers tail from block next end) old = record {
  from_flushed = old.from_flushed;
  seen = record { past = old.seen.past; whole = old.seen.whole };
  onward = old.onward;
  gathered = old.gathered;
  whole = old.whole;
  between = old.between;
  in_hand = λ less. let h = old.in_hand less in record { onward = h.onward; range = h.range; decided = h.decided };
}
shown_turn s t f n (flushing.Clears next to) old = record { onward = old.onward; whole = old.whole }

shown : (s t : Shared) (f : ℕ → Part) (x : Part) → LogFits s f x → LogFits (record t { opening = s.opening; tail = s.tail; log = s.log; flushed = s.flushed; ring = s.ring }) f x
shown s t f x old = record {
  gathered = record { onward = old.gathered.onward; flushed = old.gathered.flushed; whole = old.gathered.whole; decided = old.gathered.decided };
  turn = shown_turn s t f x.gathered_to x.flushing old.turn;
  ring = record { beyond = old.ring.beyond; gone = old.ring.gone; blocks = old.ring.blocks };
}

pub same_words_log : (s t : Shared) (f : ℕ → Part) (x : Part) → SameWords s t → LogFits s f x → LogFits t f x
same_words_log s t f x same old =
    subst (λ o. LogFits (record t { opening = o }) f x) (sym same.opening)
    (subst (λ n. LogFits (record t { opening = s.opening; tail = n }) f x) (sym same.tail)
    (subst (λ (rs : List Span). LogFits (record t { opening = s.opening; tail = s.tail; log = rs }) f x) (sym same.log)
    (subst (λ n. LogFits (record t { opening = s.opening; tail = s.tail; log = s.log; flushed = n }) f x) (sym same.flushed)
    (subst (λ r. LogFits (record t { opening = s.opening; tail = s.tail; log = s.log; flushed = s.flushed; ring = r }) f x) (sym same.ring) (shown s t f x old)))))

-- the flush seat's part counts by what it has gathered and how far it has come
pub flush_part : (s : Shared) (g : ℕ → Part) (x y : Part) → y.flushing ≡ x.flushing → y.gathered_to ≡ x.gathered_to → LogFits s g x → LogFits s g y
flush_part s g x y flushing to old = record {
  gathered = subst (Gathered s g) (sym to) old.gathered;
  turn = subst (λ fl. IsFlushing s g y.gathered_to fl) (sym flushing) (subst (λ n. IsFlushing s g n x.flushing) (sym to) old.turn);
  ring = subst (λ fl. RingFits s g (cleared_to s.flushed fl)) (sym flushing) old.ring;
}

-- the log where each block was one before
pub log_from : (s : Shared) (f g : ℕ → Part) (x : Part) → Ranges s f → ((q : ℕ) (u : Attempt) → u ∈ all_of (g q) → 0 < u.stamp → Before (f q) u SameBlock) →
    LogFits s f x → LogFits s g x
log_from s f g x common from old = record {
  gathered = gathered_on s s f g on common x.gathered_to old.gathered;
  turn = flushing_on s s f g on common x.gathered_to x.flushing old.turn;
  ring = ring_from s f g (cleared_to s.flushed x.flushing) from old.ring;
}
  where
    on : GoesOn s s f g
    on = record {
      opening = refl;
      flushed = refl;
      tail = omega arith;
      log = λ r m. m;
      grown = λ q u m drawn. let b = from q u m drawn in inl (record { old = b.old; stands = b.stands; is = same_onward b.old u b.is });
    }

-- what each seat's transactions were, where one seat's part changes
pub before_put : (R : Attempt → Attempt → Type 0) (f : ℕ → Part) (p : ℕ) (y : Part) → ((u : Attempt) → R u u) →
    ((u : Attempt) → u ∈ all_of y → 0 < u.stamp → Before (f p) u R) → (q : ℕ) (u : Attempt) → u ∈ all_of (put f p y q) → 0 < u.stamp → Before (f q) u R
before_put R f p y same own q u =
    at_cases (λ (z : Part). u ∈ all_of z → 0 < u.stamp → Before (f q) u R) f p y q
    (λ is m drawn. subst (λ n. Before (f n) u R) (sym is) (own u m drawn))
    (λ _ m drawn. record { old = u; stands = m; is = same u })

pub blocks_put : (f : ℕ → Part) (p : ℕ) (y : Part) → KeepsBlocks (f p) y → (q : ℕ) (u : Attempt) → u ∈ all_of (put f p y q) → 0 < u.stamp → Before (f q) u SameBlock
blocks_put f p y keeps = before_put SameBlock f p y (λ u. same_block u u refl) keeps

-- the log, where one seat's part changes, be it the flush seat's or another's
pub log_put : (t : Shared) (f : ℕ → Part) (p : ℕ) (y : Part) → (FLUSH_SEAT ≡ p → LogFits t (put f p y) y) → (FLUSH_SEAT ≢ p → LogFits t (put f p y) (f FLUSH_SEAT)) → Log t (put f p y)
log_put t f p y here there = at_cases (λ z. LogFits t (put f p y) z) f p y FLUSH_SEAT here there

-- what the law says of a state
pub record Kept (d : Core) : Type 0 where
  pub shared : Log d.shared d.seats
  pub seats : (p : ℕ) → OwnLog d.shared p (d.seats p)

-- each block was one before, and the flush seat hasn't come on
pub kept_blocks : (c : Core) (t : Shared) (p : ℕ) (y : Part) → Sound c → SameWords c.shared t → KeepsBlocks (c.seats p) y → y.flushing ≡ (c.seats p).flushing →
    y.gathered_to ≡ (c.seats p).gathered_to → OwnLog c.shared p y → Kept (record { shared = t; seats = put c.seats p y })
kept_blocks c t p y sound same keeps flushing to own =
    let g = put c.seats p y in
    let log : LogFits t g (c.seats FLUSH_SEAT) =
    same_words_log c.shared t g (c.seats FLUSH_SEAT) same
    (log_from c.shared c.seats g (c.seats FLUSH_SEAT) sound.common.ranges (blocks_put c.seats p y keeps) sound.common.log)
    in
    let less : c.shared.flushed ≤ t.flushed = let e = same.flushed in omega (arith, e) in
    record {
      shared = log_put t c.seats p y (λ is. flush_part t g (c.seats p) y flushing to (subst (λ n. LogFits t g (c.seats n)) is log)) (λ _. log);
      seats = each_seat (λ q (z : Part). OwnLog t q z) c.seats p y (other_own c.shared t p y same.run less own)
          (λ q _. other_own c.shared t q (c.seats q) same.run less (sound.own q).log);
    }

pub kept_moves : (c : Core) (p : ℕ) (k : Kind) (d : Core) → Sound c → LeavesWords k → (m : Moves c p k d) → KeepsBlocks (c.seats p) m.part →
    m.part.flushing ≡ (c.seats p).flushing → m.part.gathered_to ≡ (c.seats p).gathered_to → OwnLog c.shared p m.part → Kept d
kept_moves c p k d sound leaves m keeps flushing to own =
    subst Kept (sym m.is) (kept_blocks c _ p m.part sound (leaves_words p k (word_at c (spot_of p k)) (c.seats p) c.shared leaves) keeps flushing to own)
