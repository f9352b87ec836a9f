-- An install is pinned to its step.
use Rattle.std.proofs.Common.{◌≡◌, ℕ, ◌+◌, ◌<◌, Bool, true, length, Option, Some, None, refl, sym, ap, ◌∙◌, subst, arith}
use Rattle.std.specs.Prelude.{if◌then◌else◌, nat_lt}
use Rattle.std.proofs.lemmas.Bool.{eq-eqb}
use Rattle.erm_machine.specs.declared.attempt.Attempt.{Attempt}
use Rattle.erm_machine.specs.declared.attempt.Claim.{Claim}
use Rattle.erm_machine.specs.declared.attempt.OwnCell.{OwnCell}
use Rattle.erm_machine.specs.declared.event.Kind.TheVariants as kind
use Rattle.erm_machine.specs.declared.limits.TheConstants.{OBJECT_LIMIT}
use Rattle.erm_machine.specs.declared.part.Part.{Part}
use Rattle.erm_machine.specs.declared.version.Version.{Version}
use Rattle.erm_machine.specs.declared.version.VersionAt.{VersionAt}
use Rattle.erm_machine.specs.Claims.{ClaimFits, InstallFits, OwnClaims}
use Rattle.erm_machine.specs.Core.{Core, Object, claim_at, newest, own_words, version_at}
use Rattle.erm_machine.specs.Facts.{over_of}
use Rattle.erm_machine.specs.Seat.{end_of, is_commit}
use Rattle.erm_machine.specs.Settling.{adds_version}
use Rattle.erm_machine.specs.Sound.{Sound}
use Rattle.erm_machine.specs.Step.{added, after_event, installed}
use Rattle.erm_machine.specs.Words.{head_of, number_of, owner_of}
use Rattle.erm_machine.proofs.Objects.{at_push-new, length_installed}
use Rattle.erm_model.specs.RowTransaction.{Law}
use Rattle.erm_rule.specs.declared.view.Book.{Book}
use Rattle.erm_rule.specs.Books.{IsBookOf}
use Rattle.erm_rule.specs.Hands.{IsKnown}
use Rattle.erm_rule.specs.Steps.{Booked}
use Rattle.erm_rule.specs.Views.{IsView, part_in, part_of}
use Rattle.erm_rule.proofs.Telling.{changed_here}
use Rattle.erm_cells.specs.Hands.{ended_claim}
use Rattle.erm_cells.specs.Heads.{DidStoreHead, with_own_head}
use Rattle.erm_cells.specs.Took.{TookHeadWords}
use Rattle.erm_cells.proofs.Claimed.{claims_set}
use Rattle.erm_cells.proofs.Views.{both}
use Rattle.erm_entries.specs.Ends.{DidInstall, HasFreeHead, newest_version, next_install}
use Rattle.erm_readers.specs.Calls.{DidMark}
use Rattle.erm_readers.specs.Took.{TookMarks}
use Rattle.erm_readers.proofs.Seats.{decided_ending, over_ending}
use Rattle.erm_precommit.specs.declared.pre.KeptClaim.{KeptClaim}
use Rattle.erm_ends.specs.Commits.{IsNextCommit}
use Rattle.erm_ends.specs.Took.{IsClaimInstalled, IsMarked, WasInstalled}
use Rattle.erm_ends.proofs.Installs as one
use Rattle.erm_ends.proofs.Left.{object_left, seen_left, seen_so}

module _ (law : Law) (who : ℕ) (b s m e : Book) (kept : KeptClaim) (stamp succ : ℕ) (known : IsKnown b.view) (next : IsNextCommit kept stamp succ (part_of b.view who))
    (stored : DidStoreHead b.view who kept.own s.view) (mark : DidMark s.view who m.view) (last : DidInstall m.view who kept.oid kept.own e.view)
    (found : ℕ) (booked : Booked law m who (kind.Install kept.oid kept.own) found e) where
  abbrev x : Part
  x = part_of b.view who

  abbrev n : ℕ
  n = next.ended

  abbrev claim : Claim
  claim = claim_at x.current n

  abbrev new : Claim
  new = one.new b.view who kept stamp succ known next

  -- the part when all but the entry is stored
  abbrev y : Part
  y = one.at_step b.view who kept stamp succ known next 8

  has : part_in m.view who ≡ Some y
  has = changed_here b.view who m.view y x (one.has b.view who kept stamp succ known next) (one.is_marked b.view who kept stamp succ known next s.view stored m.view mark)

  new_there : claim_at y.current n ≡ new
  new_there = one.new_there b.view who kept stamp succ known next 8

  within : n < length y.current.writes
  within = let more = claims_set x.current n new in let w = next.within in omega (arith, more, w)

  own : (c : Core) → Sound c → IsView m.view c → OwnClaims c.shared who y
  own c sound is = subst (λ (z : Part). OwnClaims c.shared who z) (is who y has) (sound.own who).claims

  held : (c : Core) (sound : Sound c) (is : IsView m.view c) → (claim_at y.current n).held ≡ true
  held c sound is =
      let over : over_of y.place y.task (length y.current.writes) ≡ n = over_ending y.place y.task (length y.current.writes) (decided_ending y.place next.decided) in
      (own c sound is).held n within (omega (arith, over))

  -- in each state with the view's parts the entry is the claim's, and the version overwritten is marked
  fits : (c : Core) → Sound c → IsView m.view c → ClaimFits who x.current.number x.current.begin (c.shared.objects claim.version.oid) new
  fits c sound is =
      subst (λ (w : Claim). ClaimFits who x.current.number x.current.begin (c.shared.objects w.version.oid) w) new_there
      ((own c sound is).fit n within (held c sound is))

  marks : (c : Core) → IsBookOf m c → IsMarked x.current claim.version c
  marks c is =
      let at : InstallFits y.current (c.shared.objects claim.version.oid) new 8 =
      subst (λ (w : Claim). InstallFits y.current (c.shared.objects w.version.oid) w 8) new_there
      (subst (λ (t : Bool). InstallFits y.current (c.shared.objects (claim_at y.current n).version.oid) (claim_at y.current n) (if t then 8 else 0)) (eq-eqb n n refl)
      ((own c is.sound is.is_view).install n within (held c is.sound is.is_view)))
      in
      record { overwriter = at.mark (omega arith); succ = at.succ (omega arith) }

  abbrev version : Version
  version = record { cell = kept.own; words = own_words (claim_at y.current n).own }

  adds : adds_version y ≡ true
  adds = both _ _ next.decided (ap is_commit next.committed)

  newest_is : (o : Object) → version_at (installed kept.own (Some version) o) (newest (installed kept.own (Some version) o)) ≡ version
  newest_is o = at_push-new kept.own version o (newest (installed kept.own (Some version) o)) (let k = length_installed kept.own version o in omega (arith, k))

  left : (c d : Core) → IsBookOf m c → after_event c who (kind.Install kept.oid kept.own) ≡ Some d → IsClaimInstalled x.current claim kept.own d
  left c d is event =
      let same : c.seats who ≡ y = is.is_view who y has in
      let object : d.shared.objects kept.oid ≡ installed kept.own (Some version) (c.shared.objects kept.oid) =
      object_left c d who kept.oid kept.own (nat_lt kept.oid OBJECT_LIMIT) _ event
      ∙ ap (λ (z : Part). installed kept.own (added kept.own z (end_of z.task)) (c.shared.objects kept.oid)) same
      ∙ ap (λ (t : Bool). installed kept.own (if t then Some version else None) (c.shared.objects kept.oid)) adds
      in
      let newest : newest_version d kept.oid ≡ version = ap (λ (o : Object). version_at o (newest o)) object ∙ newest_is (c.shared.objects kept.oid) in
      let head : HasFreeHead d kept.oid kept.own = record {
        entry = ap (λ (o : Object). o.entry) object;
        unowned = last.is_head.unowned;
        cell = ap (λ (z : Version). z.cell) newest;
      } in
      record {
        is_head = subst (λ (k : ℕ). HasFreeHead d k kept.own) next.claim.oid head;
        words = subst (λ (k : ℕ). (newest_version d k).words ≡ own_words (with_own_head x.current claim claim.own)) next.claim.oid
            (ap (λ (z : Version). z.words) newest ∙ ap (λ (w : Claim). own_words w.own) new_there);
      }

  pub was_installed : TookHeadWords law who kept.own stamp (Some kept.overwritten) b s → TookMarks law who (ended_claim (part_of s.view who)) stamp succ s m → WasInstalled law who x.current (next_install x) b e
  was_installed stores marking =
      let told = booked.under.told in
      let fit = fits told.before told.sound told.is_view in
      let is : (told.before.shared.objects claim.version.oid).entry ≡ found = ap (λ (k : ℕ). (told.before.shared.objects k).entry) (sym next.claim.oid) ∙ told.met in
      subst (λ (w : Claim). WasInstalled law who x.current w b e) (sym (one.next_is b.view who kept stamp succ known next s.view stored m.view mark))
      (record {
        own = kept.own;
        own_is = next.claim.own;
        stored = s;
        stores = subst (λ (k : ℕ). TookHeadWords law who kept.own x.current.stamp (Some k) b s) next.claim.overwritten
            (subst (λ (k : ℕ). TookHeadWords law who kept.own k (Some kept.overwritten) b s) (sym next.stamp_is) stores);
        marked = m;
        marks = subst (λ (u : VersionAt). TookMarks law who u x.current.stamp x.current.succ s m) (one.mark_version b.view who kept stamp succ known next s.view stored)
            (subst (λ (k : ℕ). TookMarks law who (ended_claim (part_of s.view who)) k x.current.succ s m) (sym next.stamp_is)
            (subst (λ (k : ℕ). TookMarks law who (ended_claim (part_of s.view who)) stamp k s m) (sym next.succ_is) marking));
        is_marked = marks;
        found = found;
        entry = record { owner = ap owner_of (sym is) ∙ fit.owner; number_is = ap number_of (sym is) ∙ fit.numbered; head = ap head_of (sym is) ∙ sym fit.cell };
        step = subst (λ (k : ℕ). Booked law m who (kind.Install k kept.own) found e) next.claim.oid booked;
        installed = seen_left law m (IsClaimInstalled x.current claim kept.own) who (kind.Install kept.oid kept.own) found e booked left;
      })

same_head : (t u : Attempt) (w : Claim) (o : Option OwnCell) → u.stamp ≡ t.stamp → own_words (with_own_head u w o) ≡ own_words (with_own_head t w o)
same_head t u w None e = refl
same_head t u w (Some own) e =
    ap (λ (n : ℕ). record own.words { stamp = n; link = w.version.cell + 1; readers = 0; reader_stamp = n; overwriter = 0; overwriter_succ = 0 }) e

-- an install looks at few things of a transaction
pub installed_for : (law : Law) (who : ℕ) (t u : Attempt) (w : Claim) (b e : Book) → u.stamp ≡ t.stamp → u.succ ≡ t.succ → u.number ≡ t.number → WasInstalled law who u w b e → WasInstalled law who t w b e
installed_for law who t u w b e stamp succ number was = record {
  own = was.own;
  own_is = was.own_is;
  stored = was.stored;
  stores = subst (λ (k : ℕ). TookHeadWords law who was.own k (Some w.version.cell) b was.stored) stamp was.stores;
  marked = was.marked;
  marks = subst (λ (k : ℕ). TookMarks law who w.version k t.succ was.stored was.marked) stamp (subst (λ (k : ℕ). TookMarks law who w.version u.stamp k was.stored was.marked) succ was.marks);
  is_marked = λ c of. let at = was.is_marked c of in record { overwriter = at.overwriter ∙ stamp; succ = at.succ ∙ succ };
  found = was.found;
  entry = record { owner = was.entry.owner; number_is = was.entry.number_is ∙ number; head = was.entry.head };
  step = was.step;
  installed = seen_so was.marked (IsClaimInstalled u w was.own) (IsClaimInstalled t w was.own) e (λ c at. record { is_head = at.is_head; words = at.words ∙ same_head t u w w.own stamp }) was.installed;
}
