-- Steps leave a state of their book under the law, and the book's start.
use Rattle.std.proofs.Common.{◌≡◌, ℕ, zero, suc, ◌+◌, ⊎_elim, List, [], ◌∷◌, sym, ap, ◌∙◌, subst}
use Rattle.erm_machine.specs.declared.event.Kind.{Kind}
use Rattle.erm_machine.specs.declared.event.Kind.TheVariants as kind
use Rattle.erm_machine.specs.declared.event.TailUse.TheVariants as purpose
use Rattle.erm_machine.specs.declared.limits.TheConstants.{FLUSH_SEAT}
use Rattle.erm_machine.specs.Core.{Core}
use Rattle.erm_model.specs.RowTransaction.{Law}
use Rattle.erm_ring.specs.Took.{TookClear, TookGather, TookGathered, TookWords, ring_steps}
use Rattle.erm_rule.specs.declared.view.Book.{Book}
use Rattle.erm_rule.specs.declared.view.Start.{Start}
use Rattle.erm_rule.specs.Books.{IsBookOf}
use Rattle.erm_rule.specs.Steps.{Booked}
use Rattle.erm_rule.specs.Went.{Took}
use Rattle.erm_sound.specs.Kept.{SoundUnder}
use Rattle.erm_world.specs.declared.gathered.Gathered.{Gathered}
use Rattle.erm_world.specs.declared.gathered.Gathered.TheVariants.{Empty, Unfilled, Words}
use Rattle.erm_desk.proofs.Opened.{state_is}

abbrev F : ℕ
F = FLUSH_SEAT

-- a state of the book under the law; the book has this start
pub record UnderLaw (law : Law) (s : Start) (e : Book) : Type 0 where
  pub core : Core
  pub is : IsBookOf e core
  pub under : SoundUnder law core
  pub start : e.start ≡ s

start_on : (law : Law) (b : Book) (who : ℕ) (k : Kind) (found : ℕ) (e : Book) → Booked law b who k found e → e.start ≡ b.start
start_on law b who k found e booked = ap (λ (z : Book). z.start) booked.book_is

pub took_start : (law : Law) (who : ℕ) (steps : List (Kind × ℕ)) (b e : Book) → Took law who steps b e → e.start ≡ b.start
took_start law who [] b e took = ap (λ (z : Book). z.start) took
took_start law who (s ∷ steps) b e took = start_on law took.0 who s.0 s.1 e took.2 ∙ took_start law who steps b took.0 took.1

pub booked_under : (law : Law) (s : Start) (b : Book) (who : ℕ) (k : Kind) (found : ℕ) (e : Book) → Booked law b who k found e → b.start ≡ s → UnderLaw law s e
booked_under law s b who k found e booked start =
    let told = booked.under.told in
    let is : IsBookOf e told.after = record { sound = told.sound_after; is_view = told.is_view_after; course = booked.course_after } in
    record {
      core = told.after;
      is = is;
      under = record { sound = told.sound_after; lawful = booked.under.lawful_after; spelled = booked.under.spelled_after; begins = (state_is e told.after is).begins };
      start = start_on law b who k found e booked ∙ start;
    }

loads_under : (law : Law) (s : Start) (from : ℕ) (words : List ℕ) (n : ℕ) (b e : Book) → UnderLaw law s b → Took law F (ring_steps from words n) b e → UnderLaw law s e
loads_under law s from words zero b e u took = subst (UnderLaw law s) (sym took) u
loads_under law s from words (suc n) b e u took = booked_under law s took.0 F _ _ e took.2 (took_start law F (ring_steps from words n) b took.0 took.1 ∙ u.start)

words_under : (law : Law) (tail from count : ℕ) (words : List ℕ) (b e : Book) → TookWords law tail from count words b e → UnderLaw law b.start e
words_under law tail from count words b e took =
    let first = took.begins in
    let u : UnderLaw law b.start took.began =
    booked_under law b.start first.0 F kind.LoadFlushed from took.began first.2 (took_start law F ((kind.LoadTail purpose.Gather, tail) ∷ []) b first.0 first.1) in
    loads_under law b.start from words count took.began e u took.loads

gathered_under : (law : Law) (tail from count : ℕ) (words : List ℕ) (b e : Book) → TookGathered law tail from count words b e → UnderLaw law b.start e
gathered_under law tail from count words b e took =
    let u = words_under law tail from count words b took.gathered took.loads in
    ⊎_elim (λ ended. subst (UnderLaw law b.start) (sym ended.1) u)
    (λ open_here. booked_under law b.start took.gathered F (kind.LoadRing (from + count)) 0 e open_here.2 u.start) took.stop

pub look_under : (law : Law) (g : Gathered) (words : List ℕ) (b e : Book) → TookGather law g words b e → UnderLaw law b.start e
look_under law (Empty at) words b e took = gathered_under law took.0 at 0 words b e took.2
look_under law (Unfilled at) words b e took = gathered_under law took.0 at 0 words b e took.2
look_under law (Words at count) words b e took = gathered_under law took.0 at count words b e took.2

pub clear_under : (law : Law) (to : ℕ) (b e : Book) → TookClear law to b e → UnderLaw law b.start e
clear_under law to b e took =
    let cleared = took.clears in
    let before : took.cleared.start ≡ b.start =
    took_start law F cleared.clears.steps cleared.first took.cleared cleared.clears.took ∙ start_on law b F kind.LoadFlushed took.from cleared.first cleared.load in
    booked_under law b.start took.cleared F (kind.StoreFlushed to) took.word e took.step before
