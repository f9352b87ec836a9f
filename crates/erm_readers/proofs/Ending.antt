-- An end raises the reader stamps of versions read, and marks versions overwritten.
use Rattle.std.proofs.Common.{◌≡◌, ℕ, ◌+◌, ◌<◌, Bool, true, Some, refl, sym, ap, ◌∙◌, subst, length, arith}
use Rattle.std.specs.Prelude.{if◌then◌else◌}
use Rattle.std.proofs.lemmas.Bool.{eq-eqb, lt-ltb}
use Rattle.erm_machine.specs.declared.attempt.Attempt.{Attempt}
use Rattle.erm_machine.specs.declared.attempt.Decision.{Decision}
use Rattle.erm_machine.specs.declared.attempt.Decision.TheVariants.{Commit}
use Rattle.erm_machine.specs.declared.event.Kind.TheVariants as kind
use Rattle.erm_machine.specs.declared.limits.TheConstants.{OBJECT_LIMIT}
use Rattle.erm_machine.specs.declared.part.Part.{Part}
use Rattle.erm_machine.specs.declared.place.Place.TheVariants.{Active}
use Rattle.erm_machine.specs.declared.task.Task.{Task}
use Rattle.erm_machine.specs.declared.task.Task.TheVariants as task
use Rattle.erm_machine.specs.declared.version.CellWord.TheVariants as word
use Rattle.erm_machine.specs.declared.version.VersionAt.{VersionAt}
use Rattle.erm_machine.specs.Claims.{claims_over, InstallFits}
use Rattle.erm_machine.specs.Core.{Shared, claim_at, spot_of, word_at}
use Rattle.erm_machine.specs.Readers.{cleared, raised, raised_of}
use Rattle.erm_machine.specs.Seat.{with_task, is_commit, is_decided, read_at}
use Rattle.erm_machine.specs.Settling.{installs, mark_overwritten, raise_reader}
use Rattle.erm_machine.specs.Sound.{Own}
use Rattle.erm_machine.specs.Step.{part_after}
use Rattle.erm_rule.specs.declared.view.View.{View}
use Rattle.erm_rule.specs.Hands.{IsKnown}
use Rattle.erm_rule.specs.Steps.{Ready, Told}
use Rattle.erm_rule.specs.Views.{part_in, part_of, with_part}
use Rattle.erm_rule.proofs.Telling.{changed_here, held_part, is_held, part_of-changed}
use Rattle.erm_cells.specs.Hands.{ended_by, ended_claim, mark_kind, next_raised, raise_kind, raised_by, succ_kind}
use Rattle.erm_cells.proofs.Views.{when_true, both, ready_at, told_is, told_next}
use Rattle.erm_readers.specs.Calls.{DidMark, DidRaise, IsMarking, IsRaising, marked, raised_once, words_of}
use Rattle.erm_readers.proofs.Seats.{decided_ending, ending_taken, known_there, object_met, over_ending, own_in, raised_ending, same_self}

commits : (d : Decision) → d ≡ Commit → is_commit d ≡ true
commits d e = ap is_commit e

-- one more reader stamp is raised
after_raise : (x : Part) (t : Task) (stamp : ℕ) → is_decided x.place ≡ true → x.current.decision ≡ Commit → IsRaising x.current t → x.current.stamp ≡ stamp
    → raise_reader (read_at x.current (raised_by t)).version stamp x t ≡ Some (with_task (raised_once t) x)
after_raise x (task.Ends raised ended step cleared) stamp decided committed low is =
    when_true _ (with_task (task.Ends (raised + 1) ended step cleared) x)
    (both _ _ (both _ _ (both _ _ (both _ _ decided (commits x.current.decision committed)) (lt-ltb _ _ low)) (same_self (read_at x.current raised).version))
    (eq-eqb stamp x.current.stamp (sym is)))
after_raise x _ stamp decided committed low is = absurd low

raised_there : (x : Part) (t : Task) → IsRaising x.current t → raised_by t < length x.current.reads
raised_there x (task.Ends raised ended step cleared) low = low
raised_there x _ low = absurd low

raised_more : (x : Part) (t : Task) (n : ℕ) → IsRaising x.current t → raised_of (Active 0) (raised_once t) n ≡ raised_by t + 1
raised_more x (task.Ends raised ended step cleared) n low = refl
raised_more x _ n low = absurd low

-- the part that is about to mark a version overwritten
pub record WasMarking (t : Attempt) (u : Task) : Type 0 where
  pub raised : ℕ
  pub ended : ℕ
  pub cleared : ℕ
  pub is : u ≡ task.Ends raised ended 6 cleared
  pub all : raised ≡ length t.reads
  pub low : ended < length t.writes

was_marking : (t : Attempt) (u : Task) → IsMarking t u → WasMarking t u
was_marking t (task.Ends raised ended step cleared) h = record {
  raised = raised;
  ended = ended;
  cleared = cleared;
  is = ap (λ (n : ℕ). task.Ends raised ended n cleared) h.2;
  all = h.0;
  low = h.1;
}
was_marking t _ h = absurd h

module _ (v : View) (who : ℕ) (known : IsKnown v) (decided : is_decided (part_of v who).place ≡ true) (committed : (part_of v who).current.decision ≡ Commit) where
  abbrev x : Part
  x = part_of v who

  pub has_decided : part_in v who ≡ Some x
  has_decided = held_part v who (ending_taken x.place (decided_ending x.place decided))

  -- RAISE
  module _ (raising : IsRaising (part_of v who).current (part_of v who).task) (stamp : ℕ) (stamp_is : (part_of v who).current.stamp ≡ stamp) where
    pub ready_raise : Ready v who (raise_kind x stamp)
    ready_raise = ready_at v who (raise_kind x stamp) x has_decided (λ c. with_task (raised_once x.task) x) (λ c sound. after_raise x x.task stamp decided committed raising stamp_is)

    pub object_of_raised : (next_raised x).oid < OBJECT_LIMIT
    object_of_raised = object_met v who (raise_kind x stamp) (next_raised x) word.ReaderStamp known (is_held v who x has_decided) tt ready_raise (λ m. m) refl

    pub did_raise : (found : ℕ) (w : View) → Told v who (raise_kind x stamp) found w → DidRaise v who w
    did_raise found w told =
        let y : Part = with_task (raised_once x.task) x in
        let now : IsKnown w = known_there v who (raise_kind x stamp) found w told in
        let is : w ≡ with_part who y v = told_is v who (raise_kind x stamp) found w x y has_decided told (after_raise x x.task stamp decided committed raising stamp_is) in
        let own : Own now.core.shared who y = own_in w who y now (changed_here v who w y x has_decided is) in
        let more : raised y ≡ raised_by x.task + 1 =
        raised_ending x.place y.task (length x.current.reads) (decided_ending x.place decided) ∙ raised_more x x.task (length x.current.reads) raising in
        record {
          known = now;
          view_is = is;
          stamp = own.readers.raising committed (raised_by x.task) (omega (arith, more)) (raised_there x x.task raising);
        }

  -- MARK
  module _ (marking : IsMarking (part_of v who).current (part_of v who).task) (stamp succ : ℕ) (stamp_is : (part_of v who).current.stamp ≡ stamp)
      (succ_is : (part_of v who).current.succ ≡ succ) where
    pub end : WasMarking x.current x.task
    end = was_marking x.current x.task marking

    abbrev version : VersionAt
    version = (claim_at x.current end.ended).version

    ended_is : ended_claim x ≡ version
    ended_is = ap (λ (t : Task). (claim_at x.current (ended_by t)).version) end.is

    -- the part after so many steps of the install
    abbrev stepped : ℕ → Part
    stepped n = with_task (task.Ends end.raised end.ended n end.cleared) x

    may_install : installs end.raised end.ended 6 x ≡ true
    may_install =
        both _ _ (both _ _ (both _ _ decided (commits x.current.decision committed)) (eq-eqb end.raised (length x.current.reads) end.all)) (lt-ltb _ _ end.low)

    after_succ : (found : ℕ) (s : Shared) → part_after who (kind.StoreSucc version succ) found s x ≡ Some (stepped 7)
    after_succ found s =
        subst (λ (t : Task). mark_overwritten 6 version succ x.current.succ x t ≡ Some (stepped 7)) (sym end.is)
        (when_true _ (stepped 7) (both _ _ (both _ _ (both _ _ may_install refl) (same_self version)) (eq-eqb succ x.current.succ (sym succ_is))))

    ready_version : Ready v who (kind.StoreSucc version succ)
    ready_version = ready_at v who (kind.StoreSucc version succ) x has_decided (λ c. stepped 7) (λ c sound. after_succ (word_at c (spot_of who (kind.StoreSucc version succ))) c.shared)

    pub ready_succ : Ready v who (succ_kind x succ)
    ready_succ = subst (λ (n : VersionAt). Ready v who (kind.StoreSucc n succ)) (sym ended_is) ready_version

    object_of_version : version.oid < OBJECT_LIMIT
    object_of_version = object_met v who (kind.StoreSucc version succ) version word.OverwriterSucc known (is_held v who x has_decided) tt ready_version (λ m. m) refl

    pub object_of_ended : (ended_claim x).oid < OBJECT_LIMIT
    object_of_ended = subst (λ (n : VersionAt). n.oid < OBJECT_LIMIT) (sym ended_is) object_of_version

    module _ (cell before : ℕ) (cell_is : (ended_claim (part_of v who)).cell ≡ cell) (u : View) (first : Told v who (succ_kind x succ) before u) where
      succ_told : Told v who (kind.StoreSucc version succ) before u
      succ_told = subst (λ (n : VersionAt). Told v who (kind.StoreSucc n succ) before u) ended_is first

      here : u ≡ with_part who (stepped 7) v
      here = told_is v who (kind.StoreSucc version succ) before u x (stepped 7) has_decided succ_told (after_succ before succ_told.before.shared)

      pub has_stepped : part_in u who ≡ Some (stepped 7)
      has_stepped = changed_here v who u (stepped 7) x has_decided here

      part_is : part_of u who ≡ stepped 7
      part_is = part_of-changed v who u (stepped 7) x has_decided here

      pub known_stepped : IsKnown u
      known_stepped = known_there v who (kind.StoreSucc version succ) before u succ_told

      pub object_of_stepped : (ended_claim (part_of u who)).oid < OBJECT_LIMIT
      object_of_stepped = subst (λ (z : Part). (ended_claim z).oid < OBJECT_LIMIT) (sym part_is) object_of_version

      pub cell_of_stepped : (ended_claim (part_of u who)).cell ≡ cell
      cell_of_stepped = ap (λ (z : Part). (ended_claim z).cell) part_is ∙ sym (ap (λ (n : VersionAt). n.cell) ended_is) ∙ cell_is

      -- it is still the version of the same claim
      pub ended_stays : ended_claim (part_of u who) ≡ ended_claim (part_of v who)
      ended_stays = ap (λ (z : Part). ended_claim z) part_is ∙ sym ended_is

      after_mark : (found : ℕ) (s : Shared) → part_after who (kind.StoreOverwriter version stamp) found s (stepped 7) ≡ Some (stepped 8)
      after_mark found s =
          when_true _ (stepped 8) (both _ _ (both _ _ (both _ _ may_install refl) (same_self version)) (eq-eqb stamp x.current.stamp (sym stamp_is)))

      pub ready_mark : Ready u who (mark_kind (part_of u who) stamp)
      ready_mark =
          subst (λ (z : Part). Ready u who (mark_kind z stamp)) (sym part_is)
          (ready_at u who (kind.StoreOverwriter version stamp) (stepped 7) has_stepped (λ c. stepped 8)
          (λ c sound. after_mark (word_at c (spot_of who (kind.StoreOverwriter version stamp))) c.shared))

      module _ (found : ℕ) (w : View) (second : Told u who (mark_kind (part_of u who) stamp) found w) where
        mark_told : Told u who (kind.StoreOverwriter version stamp) found w
        mark_told = subst (λ (z : Part). Told u who (mark_kind z stamp) found w) part_is second

        now : IsKnown w
        now = known_there u who (kind.StoreOverwriter version stamp) found w mark_told

        stepped_is : w ≡ with_part who (stepped 8) v
        stepped_is =
            told_next v who (kind.StoreOverwriter version stamp) found u w (stepped 7) x (stepped 8) has_decided here mark_told
            (after_mark found mark_told.before.shared)

        own : Own now.core.shared who (stepped 8)
        own = own_in w who (stepped 8) now (changed_here v who w (stepped 8) x has_decided stepped_is)

        over_is : claims_over (stepped 8) ≡ end.ended
        over_is = over_ending x.place (stepped 8).task (length x.current.writes) (decided_ending x.place decided)

        fits : InstallFits x.current (now.core.shared.objects version.oid) (claim_at x.current end.ended) 8
        fits =
            subst (λ (b : Bool). InstallFits x.current (now.core.shared.objects version.oid) (claim_at x.current end.ended) (if b then 8 else 0))
            (eq-eqb end.ended end.ended refl) (own.claims.install end.ended end.low (own.claims.held end.ended end.low (omega (arith, over_is))))

        pub did_mark : DidMark v who w
        did_mark = record {
          known = now;
          view_is = stepped_is ∙ ap (λ (t : Task). with_part who (with_task (marked t) x) v) (sym end.is);
          stamp = ap (λ (n : VersionAt). (words_of now.core n).overwriter) ended_is ∙ fits.mark (omega arith);
          succ = ap (λ (n : VersionAt). (words_of now.core n).overwriter_succ) ended_is ∙ fits.succ (omega arith);
        }
