-- The commits of an execution that was cut off, of which the transcripts are the script: those that the transcripts tell.
use Rattle.std.proofs.Common.{◌≡◌, ℕ, zero, suc, ◌+◌, ◌<◌, ◌≤◌, ◌==◌, cond, List, [], ◌∷◌, ◌++◌, length, take, Option, Some, None, append-nil, refl, sym, ap, ◌∙◌, arith}
use Rattle.std.proofs.lemmas.List.Elements.{filter_map-append}
use Rattle.std.proofs.lemmas.List.Sums.{fold-append}
use Rattle.std.specs.List.{cons_option, flat_map, range_with_len}
use Rattle.std.specs.Option.{option_to_list}
use Rattle.erm_client.specs.Dealings.{commits_told, dealings_of}
use Rattle.erm_client.specs.declared.transcript.Transcript.{Transcript}
use Rattle.erm_client.specs.Laws.{AreFrom, answers_of, lines_of}
use Rattle.erm_client_invariant.proofs.Alone.{hears, others, progress_unfinished}
use Rattle.erm_client_told.proofs.Cut.{answered_are}
use Rattle.erm_client_told.proofs.Lines.{answered_lines, few_answers}
use Rattle.erm_client_told.proofs.Unsealed.{lines_unsealed, phases}
use Rattle.erm_client_told.specs.Starved.{StarvedTranscriptsTellCommits}
use Rattle.erm_client_told.specs.Told.{TranscriptsTellCommits, all_commits, answers_by}
use Rattle.erm_cut_at_once.specs.Laws.{CutRunsCloseUnseen}
use Rattle.erm_good_at_once.specs.CutReports.{IsUnseen, answered_of}
use Rattle.erm_good_report.specs.GoodReport.{places_of}
use Rattle.erm_good_report.specs.Phases.{Closed, phase_after, phase_of}
use Rattle.erm_good_report.specs.Transactions.{Progress, Said, Transaction, committed_as, committed_of, heard, history_of, nothing, progress_of, said_of, transactions_of}
use Rattle.erm_good_report.specs.Transactions as dealt
use Rattle.erm_joined.specs.Merged.{counts_of}
use Rattle.erm_model.specs.Committed.{Committed}
use Rattle.erm_model.specs.declared.outcome.Phase.{Phase}
use Rattle.erm_model.specs.declared.outcome.Phase.TheVariants.{Idle, Sealed}
use Rattle.erm_model.specs.Member.{◌∈◌}
use Rattle.erm_report.specs.declared.answer.Answer.{Answer}
use Rattle.erm_script.specs.declared.script.ScriptLine.{ScriptLine}
use Rattle.erm_starved_at_once.specs.Laws.{StarvedRunsTell}

-- PLACES. What transcripts say, one behind another.
abbrev pub said_all : List Transcript → List Said
said_all [] = []
said_all (c ∷ all) = said_of c.lines.items c.answers.items ++ said_all all

-- a line without an answer says nothing
said_first : (ls more : List ScriptLine) (gs bs : List Answer) → length gs ≤ length ls → said_of (take (length gs) ls ++ more) (gs ++ bs) ≡ said_of ls gs ++ said_of more bs
said_first [] more [] bs most = refl
said_first (l ∷ ls) more [] bs most = refl
said_first [] more (a ∷ gs) bs most = absurd (omega (arith, most))
said_first (l ∷ ls) more (a ∷ gs) bs most =
    ap (λ (said : List Said). record { session = l.session; asked = Some l.command; answer = a } ∷ said) (said_first ls more gs bs (omega (arith, most)))

pub said_so : (s : ℕ) (all : List Transcript) → AreFrom s all → said_of (answered_lines all) (answers_of all) ≡ said_all all
said_so s [] are = refl
said_so s (c ∷ all) are =
    said_first c.lines.items (answered_lines all) c.answers.items (answers_of all) (few_answers c are.1)
    ∙ ap (λ (said : List Said). said_of c.lines.items c.answers.items ++ said) (said_so (s + 1) all are.2)

-- PHASES. None of them leaves a session sealed.
never_sealed : (q s : ℕ) (all : List Transcript) (p : Phase) → AreFrom s all → (p ≡ Sealed → ⊥) → phases q p (said_all all) ≡ Sealed → ⊥
never_sealed q s [] p are not is = not is
never_sealed q s (c ∷ all) p are not is =
    let ok = are.1 in
    let parts : phases q p (said_all (c ∷ all)) ≡ phases q (phases q p (said_of c.lines.items c.answers.items)) (said_all all) =
    fold-append (λ (p : Phase) (s : Said). cond (s.session == q) (phase_after s.asked s.answer p) p) p (said_of c.lines.items c.answers.items) (said_all all) in
    never_sealed q (s + 1) all (phases q p (said_of c.lines.items c.answers.items)) are.2
    (lines_unsealed q p c.lines.items c.answers.items (λ l there. (ok.own l there).of_client) ok.told not) (sym parts ∙ is)

-- so none was decided behind them
none_unseen : (all : List Transcript) (closed : List Closed) → AreFrom 1 all
    → ((c : Closed) → c ∈ closed → IsUnseen (lines_of all) (answered_of (counts_of (answers_by all)) (lines_of all)) (answers_of all) c) → closed ≡ []
none_unseen all [] are unseen = refl
none_unseen all (c ∷ closed) are unseen =
    let sealed : phase_of c.session (said_of (answered_of (counts_of (answers_by all)) (lines_of all)) (answers_of all)) ≡ Sealed = (unseen c (0, refl)).sealed in
    let said : said_of (answered_of (counts_of (answers_by all)) (lines_of all)) (answers_of all) ≡ said_all all =
    ap (λ (ls : List ScriptLine). said_of ls (answers_of all)) (answered_are all are) ∙ said_so 1 all are in
    absurd (never_sealed c.session 1 all Idle are idle (sym (ap (λ (x : List Said). phases c.session Idle x) said) ∙ sealed))
  where
    idle : Idle ≡ Sealed → ⊥
    idle same = cc

-- TRANSACTIONS of a session, by its own transcript
pub hears_then : (q : ℕ) (p : Progress) (xs ys : List Said) → hears q p (xs ++ ys) ≡ hears q (hears q p xs) ys
hears_then q p xs ys = fold-append (λ (p : Progress) (s : Said). cond (s.session == q) (heard q s.asked s.answer p) p) p xs ys

of_others : (q s : ℕ) (all : List Transcript) (p : Progress) → q < s → AreFrom s all → hears q p (said_all all) ≡ p
of_others q s [] p below are = refl
of_others q s (c ∷ all) p below are =
    hears_then q p (said_of c.lines.items c.answers.items) (said_all all)
    ∙ ap (λ (x : Progress). hears q x (said_all all))
    (others q p c.lines.items c.answers.items (λ l there own. let line = are.1.own l there in let seat = are.0 in omega (arith, line.own, seat, below, own)))
    ∙ of_others q (s + 1) all p (omega (arith, below)) are.2

pub first_own : (s : ℕ) (c : Transcript) (all : List Transcript) → AreFrom s (c ∷ all) → progress_of s (said_all (c ∷ all)) ≡ dealings_of c
first_own s c all are =
    hears_then s nothing (said_of c.lines.items c.answers.items) (said_all all)
    ∙ of_others s (s + 1) all (progress_of s (said_of c.lines.items c.answers.items)) (omega arith) are.2
    ∙ ap (λ (q : ℕ). progress_of q (said_of c.lines.items c.answers.items)) (sym are.0)

pub behind_own : (s q : ℕ) (c : Transcript) (all : List Transcript) → s < q → AreFrom s (c ∷ all) → progress_of q (said_all (c ∷ all)) ≡ progress_of q (said_all all)
behind_own s q c all above are =
    hears_then q nothing (said_of c.lines.items c.answers.items) (said_all all)
    ∙ ap (λ (x : Progress). hears q x (said_all all))
    (others q nothing c.lines.items c.answers.items (λ l there own. let line = are.1.own l there in let seat = are.0 in omega (arith, line.own, seat, above, own)))

-- all of a session's
abbrev pub dealt_by : List Said → ℕ → List Transaction
dealt_by said q = (progress_of q said).over ++ option_to_list (progress_of q said).current

none_dealt : (a n : ℕ) → flat_map (dealt_by []) (range_with_len a n) ≡ []
none_dealt a zero = refl
none_dealt a (suc n) = none_dealt (a + 1) n

-- COMMITS. One in progress is none.
current_none : (o : Option Transaction) → ((t : Transaction) → o ≡ Some t → t.ending ≡ dealt.Unfinished) → history_of (option_to_list o) ≡ []
current_none None unfinished = refl
current_none (Some t) unfinished = ap (λ (e : dealt.Ending). cons_option (committed_as e t) []) (unfinished t refl)

pub own_commits : (said : List Said) (q : ℕ) → history_of (dealt_by said q) ≡ history_of (progress_of q said).over
own_commits said q =
    filter_map-append committed_of (progress_of q said).over (option_to_list (progress_of q said).current)
    ∙ ap (λ (cs : List Committed). history_of (progress_of q said).over ++ cs) (current_none (progress_of q said).current (progress_unfinished q said))
    ∙ append-nil (history_of (progress_of q said).over)

-- of sessions from one on, where those of each are the same
pub same_history : (a n : ℕ) (F G : ℕ → List Transaction) → ((q : ℕ) → a ≤ q → history_of (F q) ≡ history_of (G q)) → history_of (flat_map F (range_with_len a n)) ≡ history_of (flat_map G (range_with_len a n))
same_history a zero F G same = refl
same_history a (suc n) F G same =
    filter_map-append committed_of (F a) (flat_map F (range_with_len (a + 1) n))
    ∙ ap (λ (cs : List Committed). cs ++ history_of (flat_map F (range_with_len (a + 1) n))) (same a (omega arith))
    ∙ ap (λ (cs : List Committed). history_of (G a) ++ cs) (same_history (a + 1) n F G (λ q above. same q (omega (arith, above))))
    ∙ sym (filter_map-append committed_of (G a) (flat_map G (range_with_len (a + 1) n)))

pub commits_so : (s n : ℕ) (all : List Transcript) → AreFrom s all → length all ≤ n → history_of (flat_map (dealt_by (said_all all)) (range_with_len s n)) ≡ all_commits all
commits_so s n [] are most = ap history_of (none_dealt s n)
commits_so s zero (c ∷ all) are most = absurd (omega (arith, most))
commits_so s (suc n) (c ∷ all) are most =
    let said = said_all (c ∷ all) in
    filter_map-append committed_of (dealt_by said s) (flat_map (dealt_by said) (range_with_len (s + 1) n))
    ∙ ap (λ (cs : List Committed). cs ++ history_of (flat_map (dealt_by said) (range_with_len (s + 1) n)))
    (own_commits said s ∙ ap (λ (p : Progress). history_of p.over) (first_own s c all are))
    ∙ ap (λ (cs : List Committed). commits_told c ++ cs)
    (same_history (s + 1) n (dealt_by said) (dealt_by (said_all all))
    (λ q above. ap (λ (p : Progress). history_of (p.over ++ option_to_list p.current)) (behind_own s q c all (omega (arith, above)) are)))
    ∙ ap (λ (cs : List Committed). commits_told c ++ cs) (commits_so (s + 1) n all are.2 (omega (arith, most)))

-- THE LAWS. So the commits are those that the transcripts tell, also where memory ran out for some.
tell_all : (sessions : ℕ) (all : List Transcript) (closed : List Closed) → AreFrom 1 all → length all ≤ sessions
    → ((c : Closed) → c ∈ closed → IsUnseen (lines_of all) (answered_of (counts_of (answers_by all)) (lines_of all)) (answers_of all) c)
    → history_of (transactions_of sessions (places_of (answered_of (counts_of (answers_by all)) (lines_of all)) (answers_of all) closed)) ≡ all_commits all
tell_all sessions all closed are few unseen =
    let said = said_of (answered_of (counts_of (answers_by all)) (lines_of all)) (answers_of all) in
    ap (λ (cs : List Closed). history_of (transactions_of sessions (places_of (answered_of (counts_of (answers_by all)) (lines_of all)) (answers_of all) cs))) (none_unseen all closed are unseen)
    ∙ ap (λ (x : List Said). history_of (transactions_of sessions x))
    (append-nil said ∙ ap (λ (ls : List ScriptLine). said_of ls (answers_of all)) (answered_are all are) ∙ said_so 1 all are)
    ∙ commits_so 1 sessions all are few

pub tell_commits : CutRunsCloseUnseen → TranscriptsTellCommits
tell_commits unseen v f all closed are sessions run =
    tell_all v.opening.sessions all closed are sessions (unseen v f (lines_of all) (counts_of (answers_by all)) (answers_of all) closed run)

pub starved_tell_commits : StarvedRunsTell → StarvedTranscriptsTellCommits
starved_tell_commits tell v f all closed are sessions run =
    tell_all v.opening.sessions all closed are sessions (tell.unseen v f (lines_of all) (counts_of (answers_by all)) (answers_of all) closed run)
