-- A stream followed goes on, item by item.
use Rattle.std.proofs.Common.{◌≡◌, ℕ, ◌*◌, ◌<◌, ◌≤◌, List, [], ◌∷◌, ◌++◌, length, Option, None, Some, refl, sym, ap, ◌∙◌, arith, subst, append-nil, length-drop}
use Rattle.std.specs.List.{cons_option, slice_get}
use Rattle.erm_model.specs.declared.history.Commit.{Commit}
use Rattle.erm_model.specs.Member.{◌∈◌}
use Rattle.erm_block.specs.declared.block.Block.{Block}
use Rattle.erm_block.specs.Block.{IsBlock}
use Rattle.erm_block.specs.Spelling.{spelling}
use Rattle.erm_ckpt.specs.Checkpoint.{Checkpoint}
use Rattle.erm_ckpt.specs.declared.slot.Slot.{Slot}
use Rattle.erm_ckpt.specs.declared.slot.TheConstants.{LOG_START}
use Rattle.erm_follow.specs.declared.seen.Seen.{Seen}
use Rattle.erm_follow.specs.Follow.{Followed, GivesNext, MayTake, start as follow_start}
use Rattle.erm_follow.specs.Given.{HasGiven}
use Rattle.erm_replica.specs.declared.item.Item.TheVariants as item
use Rattle.erm_replica.specs.declared.item.LogPlace.{LogPlace}
use Rattle.erm_replica.specs.Cuts.{Reads}
use Rattle.erm_replica.specs.Stream.{HasNext, MayCome, Part, StandsFirst, Streamed, TakesNext, behind, fed, item_of, log_behind, part_words, start}
use Rattle.erm_replica.specs.Stream.Part.{base, block}
use Rattle.erm_replica.proofs.Cuts.{reads_join}
use Rattle.erm_follow_run.specs.Draining.{Leads}
use Rattle.erm_follow_run.specs.Following.{Following, Hears, HearsPart, IsBelow, MayHear, Steps, base_of, seen_in, seen_in_kind, seen_of}
use Rattle.erm_follow_run.proofs.Hearing.{below_block, may_hear}

-- nothing is a member of no list
no_at : (xs : List Commit) (k : ℕ) (w : Commit) (P : Type 0) → xs ≡ [] → slice_get xs k ≡ Some w → P
no_at [] k w P e at = absurd (cc)
no_at (x ∷ xs) k w P e at = absurd (cc)

no_member : (xs : List Commit) (w : Commit) → xs ≡ [] → w ∈ xs → (P : Type 0) → P
no_member xs w e at P = no_at xs at.0 w P e at.1

-- ---- what was taken

block_is : (part : Part) (b : Block) → item.Block b ≡ item_of part → part ≡ block b
block_is (base c) b e = absurd (cc)
block_is (block d) b e = ap block (let f : d ≡ b = cc in f)

slot_is : (part : Part) (slot : Slot) (P : Part → Type 0) → item.Base slot ≡ item_of part → ((c : Checkpoint) → part ≡ base c → c.slot ≡ slot → P (base c)) → P part
slot_is (base c) slot P e then = then c refl (cc)
slot_is (block b) slot P e then = absurd (cc)

-- a block was taken
pub takes_block : (s t : Streamed) (b : Block) → TakesNext s (item.Block b) t → HasNext s (block b) × (t ≡ behind (block b) s)
takes_block s t b takes =
    let e : takes.part ≡ block b = block_is takes.part b takes.item_is in (
      subst (λ (p : Part). HasNext s p) e takes.there,
      takes.state ∙ ap (λ (p : Part). behind p s) e,
    )

-- the checkpoint was taken, and following begins
pub steps_base : (s t : Streamed) (f g : Followed) (slot : Slot) (lines : List Commit) → TakesNext s (item.Base slot) t → lines ≡ [] → g ≡ follow_start slot.stamp → Steps s f lines t g
steps_base s t f g slot lines takes none begins = record {
  part = takes.part;
  there = takes.there;
  state = takes.state;
  heard = slot_is takes.part slot (λ p. HearsPart p f lines g) takes.item_is (λ c is same. (none, begins ∙ ap (λ (x : Slot). follow_start x.stamp) (sym same)));
}

pub steps_block : (s t : Streamed) (f g : Followed) (b : Block) (lines : List Commit) → TakesNext s (item.Block b) t → Hears (seen_in_kind b.kind b) f lines g → Steps s f lines t g
steps_block s t f g b lines takes heard =
    let taken = takes_block s t b takes in
    record { part = block b; there = taken.0; state = taken.1; heard = heard }

-- ---- below the place, and whole

module _ (size : (b : Block) (at run : ℕ) → IsBlock b at run → length (spelling b) ≡ b.size) where
  below_part : (log : Option LogPlace) (part : Part) (f g : Followed) (lines : List Commit) → MayCome log part → IsBelow log f → HearsPart part f lines g → IsBelow (Some (log_behind part)) g
  below_part log (base c) f g lines may below heard = (
    omega (arith, ap (λ (x : Followed). x.safe) heard.1),
    λ w there. no_member [] w refl (subst (λ (x : Followed). w ∈ x.waiting) heard.1 there) (w.stamp < c.slot.stamp),
  )
  below_part None (block b) f g lines may below heard = absurd may
  below_part (Some log) (block b) f g lines may below heard = below_block size log b f g lines may below heard

  pub below_steps : (s t : Streamed) (f g : Followed) (lines : List Commit) → IsBelow s.log f → Steps s f lines t g → IsBelow t.log g
  below_steps s t f g lines below steps =
      subst (λ (x : Streamed). IsBelow x.log g) (sym steps.state) (below_part s.log steps.part f g lines steps.there.may below steps.heard)

whole_hears : (o : Option Seen) (f g : Followed) (lines : List Commit) → f.broken ≡ None → Hears o f lines g → g.broken ≡ None
whole_hears None f g lines whole heard = ap (λ (x : Followed). x.broken) heard.1 ∙ whole
whole_hears (Some s) f g lines whole heard = heard.1.still

whole_part : (part : Part) (f g : Followed) (lines : List Commit) → f.broken ≡ None → HearsPart part f lines g → g.broken ≡ None
whole_part (base c) f g lines whole heard = ap (λ (x : Followed). x.broken) heard.1
whole_part (block b) f g lines whole heard = whole_hears (seen_in_kind b.kind b) f g lines whole heard

pub whole_steps : (s t : Streamed) (f g : Followed) (lines : List Commit) → f.broken ≡ None → Steps s f lines t g → g.broken ≡ None
whole_steps s t f g lines whole steps = whole_part steps.part f g lines whole steps.heard

-- ---- the bytes that are left are fewer

pub fewer_steps : ((log : Option LogPlace) (bytes : List ℕ) (part : Part) → StandsFirst log bytes part → 8 * length (part_words part) ≤ length bytes)
    → (s t : Streamed) (f g : Followed) (lines : List Commit) → Steps s f lines t g → length t.rest < length s.rest
fewer_steps fits s t f g lines steps =
    let few = fits s.log s.rest steps.part steps.there in
    let some : 1 ≤ length (part_words steps.part) = some_words steps.part in
    omega (arith, few, some, ap (λ (x : Streamed). length x.rest) steps.state, length-drop (8 * length (part_words steps.part)) s.rest) where
      some_words : (part : Part) → 1 ≤ length (part_words part)
      some_words (base c) = omega arith
      some_words (block b) = omega arith

-- ---- what was told goes on

-- where parts were read the log goes on
log_goes : (s t : Streamed) (parts : List Part) (at : LogPlace) → s.log ≡ Some at → Reads s parts t → (now : LogPlace) × (t.log ≡ Some now)
log_goes s t [] at some reads = (at, ap (λ (x : Streamed). x.log) reads ∙ some)
log_goes s t (p ∷ ps) at some reads = log_goes (behind p s) t ps (log_behind p) refl reads.1

none_read : (s t : Streamed) (parts : List Part) → t.log ≡ None → Reads s parts t → parts ≡ []
none_read s t [] none reads = refl
none_read s t (p ∷ ps) none reads =
    let goes = log_goes (behind p s) t ps (log_behind p) refl reads.1 in
    let e : ◌≡◌ {A = Option LogPlace} None (Some goes.0) = sym none ∙ goes.1 in absurd (cc)

-- parts with one more
cons_more : (o : Option Seen) (xs ys : List Seen) → cons_option o xs ++ ys ≡ cons_option o (xs ++ ys)
cons_more None xs ys = refl
cons_more (Some s) xs ys = refl

seen_more : (parts : List Part) (part : Part) → seen_of (parts ++ part ∷ []) ≡ seen_of parts ++ cons_option (seen_in part) []
seen_more [] part = refl
seen_more (p ∷ ps) part = ap (cons_option (seen_in p)) (seen_more ps part) ∙ sym (cons_more (seen_in p) (seen_of ps) (cons_option (seen_in part) []))

base_more : (part : Part) (parts : List Part) (more : Part) → base_of ((part ∷ parts) ++ more ∷ []) ≡ base_of (part ∷ parts)
base_more (base c) parts more = refl
base_more (block b) parts more = refl

nothing_given : (log : ℕ) (lines : List Commit) (f : Followed) → HasGiven log [] lines f → lines ≡ []
nothing_given log [] f given = refl
nothing_given log (c ∷ lines) f given =
    no_member [] c refl (given.given c (0, refl)).0 (c ∷ lines ≡ [])

module _ (first : (log : ℕ) → HasGiven log [] [] (follow_start log))
    (next : (log : ℕ) (seens : List Seen) (lines new : List Commit) (f g : Followed) (s : Seen) → HasGiven log seens lines f → MayTake f s → GivesNext f s new g → HasGiven log (seens ++ s ∷ []) (lines ++ new) g) where
  given_more : (o : Option Seen) (log : ℕ) (seens : List Seen) (lines new : List Commit) (f g : Followed) → HasGiven log seens lines f → Hears o f new g → HasGiven log (seens ++ cons_option o []) (lines ++ new) g
  given_more None log seens lines new f g given heard =
      subst (λ (x : Followed). HasGiven log (seens ++ []) (lines ++ new) x) (sym heard.1)
      (subst (λ (ls : List Commit). HasGiven log (seens ++ []) ls f) (sym (append-nil lines) ∙ ap (λ (ls : List Commit). lines ++ ls) (sym heard.0))
      (subst (λ (ss : List Seen). HasGiven log ss lines f) (sym (append-nil seens)) given))
  given_more (Some s) log seens lines new f g given heard = next log seens lines new f g s given heard.0 heard.1

  module _ (size : (b : Block) (at run : ℕ) → IsBlock b at run → length (spelling b) ≡ b.size) where
    -- at a block
    goes_block : (bytes : List ℕ) (s t : Streamed) (f g : Followed) (lines new : List Commit) (b : Block) (parts : List Part) → Reads (fed start bytes) parts s
        → HasGiven (base_of parts) (seen_of parts) lines f → HasNext s (block b) → t ≡ behind (block b) s → Hears (seen_in_kind b.kind b) f new g → IsBelow t.log g → Following bytes t g (lines ++ new)
    goes_block bytes s t f g lines new b [] reads given there state heard below =
        absurd (subst (λ (l : Option LogPlace). MayCome l (block b)) (ap (λ (x : Streamed). x.log) reads) there.may)
    goes_block bytes s t f g lines new b (p ∷ ps) reads given there state heard below = record {
      parts = (p ∷ ps) ++ block b ∷ [];
      reads = reads_join (fed start bytes) s t (p ∷ ps) (block b ∷ []) reads (there, state);
      given = subst (λ (log : ℕ). HasGiven log (seen_of ((p ∷ ps) ++ block b ∷ [])) (lines ++ new) g) (sym (base_more p ps (block b)))
          (subst (λ (seens : List Seen). HasGiven (base_of (p ∷ ps)) seens (lines ++ new) g) (sym (seen_more (p ∷ ps) (block b)))
          (given_more (seen_in_kind b.kind b) (base_of (p ∷ ps)) (seen_of (p ∷ ps)) lines new f g given heard));
      below = below;
    }

    -- at the checkpoint
    goes_base : (bytes : List ℕ) (s t : Streamed) (f g : Followed) (lines new : List Commit) (c : Checkpoint) (parts : List Part) → Reads (fed start bytes) parts s
        → HasGiven (base_of parts) (seen_of parts) lines f → HasNext s (base c) → t ≡ behind (base c) s → (new ≡ []) × (g ≡ follow_start c.slot.stamp) → IsBelow t.log g → Following bytes t g (lines ++ new)
    goes_base bytes s t f g lines new c [] reads given there state heard below = record {
      parts = base c ∷ [];
      reads = (
        subst (λ (x : Streamed). HasNext x (base c)) reads there,
        state ∙ ap (behind (base c)) reads,
      );
      given = subst (λ (x : Followed). HasGiven c.slot.stamp [] (lines ++ new) x) (sym heard.1)
          (subst (λ (ls : List Commit). HasGiven c.slot.stamp [] ls (follow_start c.slot.stamp)) (sym (ap (λ (ls : List Commit). ls ++ new) (nothing_given LOG_START lines f given) ∙ heard.0)) (first c.slot.stamp));
      below = below;
    }
    goes_base bytes s t f g lines new c (p ∷ ps) reads given there state heard below =
        let goes = log_goes (behind p (fed start bytes)) s ps (log_behind p) refl reads.1 in
        absurd (subst (λ (l : Option LogPlace). MayCome l (base c)) goes.1 there.may)

    goes_part : (part : Part) (bytes : List ℕ) (s t : Streamed) (f g : Followed) (lines new : List Commit) (parts : List Part) → Reads (fed start bytes) parts s
        → HasGiven (base_of parts) (seen_of parts) lines f → HasNext s part → t ≡ behind part s → HearsPart part f new g → IsBelow t.log g → Following bytes t g (lines ++ new)
    goes_part (base c) bytes s t f g lines new parts reads given there state heard below = goes_base bytes s t f g lines new c parts reads given there state heard below
    goes_part (block b) bytes s t f g lines new parts reads given there state heard below = goes_block bytes s t f g lines new b parts reads given there state heard below

    pub leads_on : (s t : Streamed) (f g : Followed) (new : List Commit) → Steps s f new t g → Leads s f new t g
    leads_on s t f g new steps = λ bytes lines following.
        goes_part steps.part bytes s t f g lines new following.parts following.reads following.given steps.there steps.state steps.heard (below_steps size s t f g new following.below steps)

-- what a block that was taken tells may be heard
module _ (size : (b : Block) (at run : ℕ) → IsBlock b at run → length (spelling b) ≡ b.size) where
  may_at : (log : Option LogPlace) (b : Block) (f : Followed) → MayCome log (block b) → IsBelow log f → MayHear (seen_in_kind b.kind b) f
  may_at None b f may below = absurd may
  may_at (Some log) b f may below = may_hear size log b f may below

  pub may_hear_taken : (s t : Streamed) (f : Followed) (b : Block) → TakesNext s (item.Block b) t → IsBelow s.log f → MayHear (seen_in_kind b.kind b) f
  may_hear_taken s t f b takes below = may_at s.log b f (takes_block s t b takes).0.may below
