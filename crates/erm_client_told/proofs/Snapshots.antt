-- The snapshots that transcripts tell to have ended, in an execution for some of whose clients memory ran out within a line.
use Rattle.std.proofs.Common.{◌≡◌, ℕ, zero, suc, ◌+◌, List, [], ◌∷◌, ◌++◌, Some, sym, ap, ◌∙◌, subst, arith}
use Rattle.std.specs.List.{slice_get}
use Rattle.std.specs.Option.{option_to_list}
use Rattle.erm_client.specs.Dealings.{dealings_of}
use Rattle.erm_client.specs.declared.transcript.Transcript.{Transcript}
use Rattle.erm_client.specs.Laws.{AreFrom, answers_of, lines_of}
use Rattle.erm_client_invariant.proofs.Among.{has_begun}
use Rattle.erm_client_invariant.proofs.There.{from_filter}
use Rattle.erm_client_told.proofs.Commits.{behind_own, first_own, said_all, said_so, starved_tell_commits}
use Rattle.erm_client_told.proofs.Cut.{answered_are}
use Rattle.erm_client_told.specs.Starved.{StarvedTranscriptsTellSnapshots}
use Rattle.erm_client_told.specs.Told.{all_commits, answers_by}
use Rattle.erm_good_at_once.specs.CutReports.{answered_of}
use Rattle.erm_good_report.specs.Transactions.{HasSnapshot, Progress, Said, ended_as, looks_of, progress_of, said_of}
use Rattle.erm_joined.specs.Merged.{counts_of}
use Rattle.erm_machine.proofs.Listed.{∈-first}
use Rattle.erm_model.specs.Committed.{Committed, HasSnapshotReplies}
use Rattle.erm_model.specs.Member.{◌∈◌}
use Rattle.erm_script.specs.declared.script.ScriptLine.{ScriptLine}
use Rattle.erm_starved_at_once.specs.Laws.{StarvedRunsTell}

-- of each session what is said in all is what its transcript tells
progress_at : (s k : ℕ) (all : List Transcript) (c : Transcript) → AreFrom s all → slice_get all k ≡ Some c → progress_of (s + k) (said_all all) ≡ dealings_of c
progress_at s k [] c are at = cc
progress_at s zero (d ∷ all) c are at =
    let same : d ≡ c = cc in
    ap (λ (q : ℕ). progress_of q (said_all (d ∷ all))) (omega arith) ∙ first_own s d all are ∙ ap (λ (x : Transcript). dealings_of x) same
progress_at s (suc k) (d ∷ all) c are at =
    behind_own s (s + suc k) d all (omega arith) are ∙ ap (λ (q : ℕ). progress_of q (said_all all)) (omega arith) ∙ progress_at (s + 1) k all c are.2 at

seat_at : (s k : ℕ) (all : List Transcript) (c : Transcript) → AreFrom s all → slice_get all k ≡ Some c → c.seat ≡ s + k
seat_at s k [] c are at = cc
seat_at s zero (d ∷ all) c are at = let same : d ≡ c = cc in ap (λ (x : Transcript). x.seat) (sym same) ∙ are.0 ∙ omega arith
seat_at s (suc k) (d ∷ all) c are at = seat_at (s + 1) k all c are.2 at ∙ omega arith

-- THE LAW
pub starved_tell_snapshots : StarvedRunsTell → StarvedTranscriptsTellSnapshots
starved_tell_snapshots tell v f all closed opening are few run of c (k, at) x there =
    let counts = counts_of (answers_by all) in
    let said : List Said = said_of (answered_of counts (lines_of all)) (answers_of all) in
    let s = from_filter (ended_as c.seat) (dealings_of c).snapshots x there in
    let began = has_begun c.seat s.0 x s.2 in
    let own : progress_of c.seat said ≡ dealings_of c =
    ap (λ (q : ℕ). progress_of q said) (seat_at 1 k all c are at)
    ∙ ap (λ (y : List Said). progress_of (1 + k) y) (ap (λ (ls : List ScriptLine). said_of ls (answers_of all)) (answered_are all are) ∙ said_so 1 all are)
    ∙ progress_at 1 k all c are at in
    let has : HasSnapshot said c.seat s.0 =
    subst (λ (p : Progress). s.0 ∈ (p.snapshots ++ option_to_list p.snapshot)) (sym own) (∈-first (dealings_of c).snapshots (option_to_list (dealings_of c).snapshot) s.0 s.1) in
    subst (λ (y : Committed). HasSnapshotReplies (all_commits all) opening.map y.begin y.steps) began.is
    (subst (λ (cs : List Committed). HasSnapshotReplies cs opening.map began.begin (looks_of s.0)) (starved_tell_commits tell v f all closed are few run)
    ((tell.owes v f (lines_of all) counts (answers_of all) closed opening run of).looks c.seat began.begin s.0 has began.told))
