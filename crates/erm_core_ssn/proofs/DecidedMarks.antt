-- Each step leaves the marks that aren't 0.
use Rattle.std.proofs.Common.{◌≡◌, ℕ, ◌<◌, ◌≤◌, ⊎_elim, Bool, cond, length, Option, Some, None, refl, sym, ap, ◌∙◌, subst, arith}
use Rattle.std.proofs.lemmas.Bool.{and_parts, cases_lt, eqb-true, ltb-true, eq-eqb}
use Rattle.std.proofs.lemmas.List.{get_or_past}
use Rattle.erm_machine.specs.declared.event.Kind.{Kind}
use Rattle.erm_machine.specs.declared.event.Kind.TheVariants as kind
use Rattle.erm_machine.specs.declared.part.Part.{Part}
use Rattle.erm_machine.specs.declared.task.Task.{Task}
use Rattle.erm_machine.specs.declared.task.Task.TheVariants as task
use Rattle.erm_machine.specs.declared.version.Version.{Version}
use Rattle.erm_machine.specs.declared.version.CellWord.{CellWord}
use Rattle.erm_machine.specs.declared.version.CellWord.TheVariants as word
use Rattle.erm_machine.specs.declared.version.VersionAt.{VersionAt}
use Rattle.erm_machine.specs.Claims.{step_of}
use Rattle.erm_machine.specs.Core.{Core, Object, spot_of, word_at, version_at, with_version, claim_at, no_version}
use Rattle.erm_machine.specs.Facts.{over_of}
use Rattle.erm_machine.specs.Seat.{end_of}
use Rattle.erm_machine.specs.Settling.{mark_overwritten}
use Rattle.erm_machine.specs.Sound.{Sound}
use Rattle.erm_machine.specs.Step.{installed, added, shared_after}
use Rattle.erm_machine.specs.Words.{put, set_word}
use Rattle.erm_machine.proofs.Versions.{ends_over}
use Rattle.erm_machine.proofs.Frames.{at_cases}
use Rattle.erm_machine.proofs.Guards.{when_then}
use Rattle.erm_machine.proofs.Objects.{at_word, at_push-old, same_objects}
use Rattle.erm_machine.proofs.QuietKinds.{Moves}
use Rattle.erm_core_ssn.proofs.DecidedLeft.{KeepsMarks}

-- an object keeps its marks
pub record SameMarks (o u : Object) : Type 0 where
  pub kept : (place mark : ℕ) → (version_at o place).words.overwriter ≡ mark → 0 < mark → (version_at u place).words.overwriter ≡ mark

marks_put : (f : ℕ → Object) (at : ℕ) (u : Object) → SameMarks (f at) u → (oid : ℕ) → SameMarks (f oid) (put f at u oid)
marks_put f at u h oid = at_cases (λ z. SameMarks (f oid) z) f at u oid (λ same. subst (λ n. SameMarks (f n) u) (sym same) h) (λ _. record { kept = λ place mark e _. e })

-- a word of a version is changed that isn't the mark, or where there is no mark yet
marks_word : (o : Object) (at : ℕ) (w : CellWord) (value : ℕ) →
    ((mark : ℕ) → (version_at o at).words.overwriter ≡ mark → 0 < mark → (set_word w value (version_at o at).words).overwriter ≡ mark) →
    SameMarks o (with_version o at (set_word w value (version_at o at).words))
marks_word o at w value same = record {
  kept = λ place mark e positive.
      at_word (λ v. v.words.overwriter ≡ mark) o at (set_word w value (version_at o at).words) place
      (λ here. same mark (ap (λ n. (version_at o n).words.overwriter) (sym here) ∙ e) positive) e;
}

marks_installed : (head : ℕ) (v : Option Version) (o : Object) → SameMarks o (installed head v o)
marks_installed head None o = record { kept = λ place mark e _. e }
marks_installed head (Some v) o = record {
  kept = λ place mark e positive.
      ⊎_elim
      (λ (within : place < length o.versions). ap (λ (u : Version). u.words.overwriter) (at_push-old head v o place within) ∙ e)
      (λ (past : length o.versions ≤ place).
      absurd (let z : (version_at o place).words.overwriter ≡ 0 = ap (λ (u : Version). u.words.overwriter) (get_or_past o.versions place no_version past) in omega (arith, z, e, positive)))
      (cases_lt place (length o.versions));
}

-- what an overwriter marks isn't marked
unmarked : (c : Core) (p : ℕ) (v : VersionAt) (value wanted : ℕ) (u : Task) (y : Part) → Sound c → (c.seats p).task ≡ u → mark_overwritten 7 v value wanted (c.seats p) u ≡ Some y →
    (version_at (c.shared.objects v.oid) v.place).words.overwriter ≡ 0
unmarked c p v value wanted (task.Ends raised ended step cleared) y sound at e =
    let x = c.seats p in
    when_then (λ _. (version_at (c.shared.objects v.oid) v.place).words.overwriter ≡ 0) _ _ y e (λ g.
    let all = and_parts _ _ (and_parts _ _ g).0 in
    let same = and_parts _ _ (and_parts _ _ all.1).0 in
    let step_is : step ≡ 7 = eqb-true step 7 (and_parts _ _ all.0).1 in
    let install = and_parts _ _ (and_parts _ _ all.0).0 in
    let decided = (and_parts _ _ (and_parts _ _ install.0).0).0 in
    let within = ltb-true _ _ install.1 in
    let over : over_of x.place x.task (length x.current.writes) ≡ ended =
    subst (λ (t : Task). over_of x.place t (length x.current.writes) ≡ ended) (sym at) (ends_over x.place raised ended step cleared (length x.current.writes) decided) in
    let held = (sound.own p).claims.held ended within (omega (arith, over)) in
    let now : step_of x.task ended ≡ step = subst (λ (t : Task). step_of t ended ≡ step) (sym at) (ap (λ (b : Bool). cond b step 0) (eq-eqb ended ended refl)) in
    let none = ((sound.own p).claims.install ended within held).no_mark (omega (arith, now, step_is)) in
    let oid : v.oid ≡ (claim_at x.current ended).version.oid = eqb-true _ _ same.0 in
    let place : v.place ≡ (claim_at x.current ended).version.place = eqb-true _ _ same.1 in
    ap (λ n. (version_at (c.shared.objects n) v.place).words.overwriter) oid ∙ (ap (λ n. (version_at (c.shared.objects (claim_at x.current ended).version.oid) n).words.overwriter) place ∙ none))
unmarked c p v value wanted _ y sound at e = absurd (cc)

pub keeps_marks : (c : Core) (p : ℕ) (k : Kind) (d : Core) → Sound c → (m : Moves c p k d) → KeepsMarks c.shared (shared_after p k (word_at c (spot_of p k)) (c.seats p) c.shared)
keeps_marks c p (kind.Claim oid seen number) d sound m = record {
  kept = λ n. (marks_put c.shared.objects oid (record (c.shared.objects oid) { entry = _ }) (record { kept = λ place mark e _. e }) n).kept;
}
keeps_marks c p (kind.Install oid head) d sound m = record {
  kept = λ n. (marks_put c.shared.objects oid _ (marks_installed head (added head (c.seats p) (end_of (c.seats p).task)) (c.shared.objects oid)) n).kept;
}
keeps_marks c p (kind.SetReader v) d sound m = record { kept = λ n. (marks_put c.shared.objects v.oid _ (marks_word (c.shared.objects v.oid) v.place word.Readers _ (λ mark e _. e)) n).kept }
keeps_marks c p (kind.ClearReader v) d sound m = record { kept = λ n. (marks_put c.shared.objects v.oid _ (marks_word (c.shared.objects v.oid) v.place word.Readers _ (λ mark e _. e)) n).kept }
keeps_marks c p (kind.RaiseReader v value) d sound m = record { kept = λ n. (marks_put c.shared.objects v.oid _ (marks_word (c.shared.objects v.oid) v.place word.ReaderStamp _ (λ mark e _. e)) n).kept }
keeps_marks c p (kind.StoreSucc v value) d sound m = record { kept = λ n. (marks_put c.shared.objects v.oid _ (marks_word (c.shared.objects v.oid) v.place word.OverwriterSucc _ (λ mark e _. e)) n).kept }
keeps_marks c p (kind.StoreOverwriter v value) d sound m = record {
  kept = λ n. (marks_put c.shared.objects v.oid _ (marks_word (c.shared.objects v.oid) v.place word.Overwriter value
      (λ mark e positive. absurd (let z = unmarked c p v value (c.seats p).current.stamp (c.seats p).task m.part sound refl m.after in omega (arith, z, e, positive)))) n).kept;
}
keeps_marks c p (kind.SwapLink v) d sound m =
    let w = marks_word (c.shared.objects v.oid) v.place word.Link 0 (λ mark e _. e) in
    record { kept = λ n. (marks_put c.shared.objects v.oid _ (record { kept = w.kept }) n).kept }
keeps_marks c p k d sound m = record {
  kept = λ oid place mark e _. subst (λ (f : ℕ → Object). (version_at (f oid) place).words.overwriter ≡ mark) (sym (same_objects p k (word_at c (spot_of p k)) (c.seats p) c.shared tt)) e;
}
