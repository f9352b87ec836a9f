-- The places that the lines of a report acknowledge.
use Rattle.std.proofs.Common.{⊎_elim, ◌≡◌, ℕ, Bool, true, false, List, [], ◌∷◌, ◌++◌, length, map, Option, Some, None, sym, ◌∙◌, subst}
use Rattle.std.specs.Prelude.{nat_lt}
use Rattle.erm_model.specs.Member.{◌∈◌}
use Rattle.erm_model.specs.Rows.{Rows}
use Rattle.erm_model.proofs.Members.{none_in_nil, ∈-behind}
use Rattle.erm_machine.proofs.Listed.{∈-cons, ∈-either, ∈-head, ∈-map}
use Rattle.erm_model.specs.Committed.{Committed}
use Rattle.erm_model.specs.declared.limits.TheConstants.{LOG_END}
use Rattle.erm_block.specs.declared.block.Block.{Block}
use Rattle.erm_ckpt.specs.Recovered.{State}
use Rattle.erm_outside.specs.Disk.{Step, Tells}
use Rattle.erm_report.specs.declared.answer.Answer.{Answer}
use Rattle.erm_report.specs.declared.line.Line.{Line}
use Rattle.erm_report.specs.declared.line.Line.TheVariants as line
use Rattle.erm_script.specs.declared.script.ScriptLine.{ScriptLine}
use Rattle.erm_good_report.specs.GoodReport.{answer_lines, close_line, fault_line, line_in_order, order_line, Report, report_lines}
use Rattle.erm_good_report.specs.Opening.{Opening}
use Rattle.erm_good_report.specs.Phases.{Closed}
use Rattle.erm_good_report.specs.Stamps.{place_told}
use Rattle.erm_summary.specs.Summary.{Summarizes}
use Rattle.erm_checkpoint.specs.Taken.{state_at}
use Rattle.erm_crash.specs.Kept.{KeepsBlocks}
use Rattle.erm_log_run.specs.Acknowledged.{AllLast, IsAcknowledged, IsTold, LastsFrom}
use Rattle.erm_log_run.specs.Keeping.{Keeper, KeepsMoments, KeepsOn}
use Rattle.erm_log_run.proofs.Held.{same_start}
use Rattle.erm_log_run.proofs.Told.{AreKept, lasts_now}

-- a line of an answer acknowledges the place that it tells
abbrev Acknowledges : Line → ℕ → Type 0
Acknowledges (line.Answer number a) place = place_told a ≡ Some place
Acknowledges l place = ⊥

-- a line is that of one of these answers
abbrev IsLineOf : Line → List Answer → Type 0
IsLineOf (line.Answer number a) answers = a ∈ answers
IsLineOf l answers = ⊥

line_of_more : (l : Line) (a : Answer) (answers : List Answer) → IsLineOf l answers → IsLineOf l (a ∷ answers)
line_of_more (line.Answer number b) a answers of = ∈-behind a answers b of
line_of_more l a answers of = absurd of

-- these lines acknowledge no place
abbrev AcknowledgeNone : List Line → Type 0
AcknowledgeNone lines = (l : Line) (place : ℕ) → l ∈ lines → Acknowledges l place → ⊥

none_at : (l : Line) (lines : List Line) → ((place : ℕ) → Acknowledges l place → ⊥) → AcknowledgeNone lines → AcknowledgeNone (l ∷ lines)
none_at l lines own others x place within tells = ⊎_elim (λ (same : l ≡ x). own place (subst (λ (y : Line). Acknowledges y place) (sym same) tells)) (λ (there : x ∈ lines). others x place there tells) (∈-cons x l lines within)

none_mapped : {X : Type 0} (f : X → Line) (xs : List X) → ((x : X) (place : ℕ) → Acknowledges (f x) place → ⊥) → AcknowledgeNone (map f xs)
none_mapped f xs own x place within tells = let from = ∈-map f xs x within in own from.0 place (subst (λ (y : Line). Acknowledges y place) (sym from.2) tells)

none_in : AcknowledgeNone []
none_in x place within tells = none_in_nil x within

-- a line that acknowledges a place is that of an answer
answers_tell : (script : List ScriptLine) (answers : List Answer) (l : Line) → l ∈ answer_lines script answers → IsLineOf l answers
answers_tell [] answers l within = absurd (none_in_nil l within)
answers_tell (s ∷ script) [] l within = absurd (none_in_nil l within)
answers_tell (s ∷ script) (a ∷ answers) l within = ⊎_elim
    (λ (same : line.Answer s.line a ≡ l). subst (λ (y : Line). IsLineOf y (a ∷ answers)) same (∈-head a answers))
    (λ (there : l ∈ answer_lines script answers). line_of_more l a answers (answers_tell script answers l there))
    (∈-cons l (line.Answer s.line a) (answer_lines script answers) within)

-- of lines only those of answers acknowledge a place
abbrev TellOnly : List Line → List Answer → Type 0
TellOnly lines answers = (l : Line) (place : ℕ) → l ∈ lines → Acknowledges l place → IsLineOf l answers

-- the opening and the answers do, and with others behind that acknowledge none
front_tells : (stamp run : ℕ) (script : List ScriptLine) (answers : List Answer) → TellOnly (line.Open stamp run ∷ answer_lines script answers) answers
front_tells stamp run script answers l place within tells = ⊎_elim
    (λ (same : line.Open stamp run ≡ l). absurd (subst (λ (y : Line). Acknowledges y place) (sym same) tells))
    (λ (here : l ∈ answer_lines script answers). answers_tell script answers l here)
    (∈-cons l (line.Open stamp run) (answer_lines script answers) within)

with_none : (lines rest : List Line) (answers : List Answer) → TellOnly lines answers → AcknowledgeNone rest → TellOnly (lines ++ rest) answers
with_none lines rest answers told none l place within tells = ⊎_elim
    (λ (here : l ∈ lines). told l place here tells)
    (λ (there : l ∈ rest). absurd (none l place there tells))
    (∈-either lines rest l within)

-- a line of the order, of a commit or of a snapshot, acknowledges none
order_none : (b : Bool) (names : List (List ℕ)) (c : Committed) (place : ℕ) → Acknowledges (line_in_order b names c) place → ⊥
order_none true names c place tells = tells
order_none false names c place tells = tells

-- the lines of a whole report
pub report_tells : (opening : Opening) (names : List (List ℕ)) (script : List ScriptLine) (r : Report) → TellOnly (report_lines opening names script r) r.answers
report_tells opening names script r =
    let front : List Line = line.Open opening.stamp opening.run ∷ answer_lines script r.answers in
    let closes : List Line = map (close_line names) r.closed in
    let orders : List Line = line.Order (length r.order) ∷ map (order_line names) r.order in
    let pairs : List Line = line.Map (length r.pairs) ∷ map line.Pair r.pairs in
    let closed : TellOnly (front ++ closes) r.answers =
    with_none front closes r.answers (front_tells opening.stamp opening.run script r.answers) (none_mapped (close_line names) r.closed (λ c place tells. tells))
    in
    let ordered : TellOnly (front ++ closes ++ orders) r.answers =
    with_none (front ++ closes) orders r.answers closed
    (none_at (line.Order (length r.order)) (map (order_line names) r.order) (λ place tells. tells) (none_mapped (order_line names) r.order (λ c place tells. order_none (nat_lt c.stamp LOG_END) names c place tells)))
    in
    let mapped : TellOnly (front ++ closes ++ orders ++ pairs) r.answers =
    with_none (front ++ closes ++ orders) pairs r.answers ordered
    (none_at (line.Map (length r.pairs)) (map line.Pair r.pairs) (λ place tells. tells) (none_mapped line.Pair r.pairs (λ p place tells. tells)))
    in
    with_none (front ++ closes ++ orders ++ pairs) (line.End ∷ []) r.answers mapped (none_at line.End [] (λ place tells. tells) none_in)

-- each place that lines acknowledge, one of these answers tells
abbrev pub TellsFor : List Line → List Answer → Type 0
TellsFor lines answers = (place : ℕ) (is : IsAcknowledged lines place) → is.answer ∈ answers

-- those of a summary
pub summary_tells : (opening : Opening) (names : List (List ℕ)) (script : List ScriptLine) (answers : List Answer) (closed : List Closed) (lines : List Line) → Summarizes opening names script answers closed lines
    → TellsFor lines answers
summary_tells opening names script answers closed lines sums place is = subst (λ (xs : List Answer). is.answer ∈ xs) sums.answers_ok
    (report_tells opening names script sums.report (line.Answer is.number is.answer) place (subst (λ (ls : List Line). line.Answer is.number is.answer ∈ ls) sums.lines_ok is.told) is.tells)

-- the lines of one that the disk's fault cut off
pub cut_tells : (lines : List Line) (stamp run : ℕ) (script : List ScriptLine) (answers : List Answer) (fault : Option ScriptLine)
    → lines ≡ line.Open stamp run ∷ answer_lines script answers ++ fault_line fault ∷ [] → TellsFor lines answers
cut_tells lines stamp run script answers fault are place is =
    with_none (line.Open stamp run ∷ answer_lines script answers) (fault_line fault ∷ []) answers (front_tells stamp run script answers) (none_at (fault_line fault) [] (by fault) none_in)
    (line.Answer is.number is.answer) place (subst (λ (ls : List Line). line.Answer is.number is.answer ∈ ls) are is.told) is.tells
  where
    by : (o : Option ScriptLine) (place : ℕ) → Acknowledges (fault_line o) place → ⊥
    by None place tells = tells
    by (Some l) place tells = let no : None ≡ Some place = tells in cc

-- what a disk tells for each place, it tells of all of them
each_tells : (Q : ℕ → Type 0) (M : List Step → List Step → Type 0) (P : (place : ℕ) → Q place → List Step → List Step → Type 0) (before after : Option (List Step)) → Tells M before after
    → ((place : ℕ) (q : Q place) → Tells (P place q) before after) → Tells (λ old new. (place : ℕ) (q : Q place) → P place q old new) before after
each_tells Q M P None after told each = told
each_tells Q M P (Some old) after (new, is, m) each = (
  new,
  is,
  λ place q.
      let one = each place q in
      let same : one.0 ≡ new = one_of (sym one.1 ∙ is) in
      subst (P place q old) same one.2,
)
  where
    one_of : {x y : List Step} → Some x ≡ Some y → x ≡ y
    one_of same = cc

-- so it is of the places that lines acknowledge
pub all_last : (sound : Rows → Type 0) (from : State) (blocks : List Block) (answers : List Answer) (lines : List Line) (M : List Step → List Step → Type 0) (before after : Option (List Step)) → Tells M before after
    → TellsFor lines answers → ((place : ℕ) (is : IsTold answers place) → Tells (LastsFrom sound from blocks is.answer place) before after)
    → Tells (AllLast sound from blocks lines) before after
all_last sound from blocks answers lines M before after told tells each =
    each_tells (IsAcknowledged lines) M (λ place is. LastsFrom sound from blocks is.answer place) before after told
    (λ place is. each place (record { answer = is.answer; given = tells place is; tells = is.tells }))

pub all_last_now : (sound : Rows → Type 0) (k m : Keeper) (answers : List Answer) (lines : List Line) → KeepsOn sound k m → AreKept sound k.told answers m
    → TellsFor lines answers → Tells (KeepsBlocks sound (state_at k.log []) m.log.gathered k.log.flushed) k.told m.told
    → Tells (AllLast sound (state_at k.log []) m.log.gathered lines) k.told m.told
all_last_now sound k m answers lines on all tells moments =
    all_last sound (state_at k.log []) m.log.gathered answers lines (KeepsBlocks sound (state_at k.log []) m.log.gathered k.log.flushed) k.told m.told moments tells
    (λ place told.
    subst (λ (s : State). Tells (LastsFrom sound s m.log.gathered told.answer place) k.told m.told) (same_start k.log m.log on.opened) (lasts_now sound k.told m told.answer place (all place told)))

pub all_last_at_fault : (sound : Rows → Type 0) (k m : Keeper) (answers : List Answer) (lines : List Line) → KeepsMoments sound k m
    → ((place : ℕ) (is : IsTold answers place) → Tells (LastsFrom sound (state_at m.log []) m.log.gathered is.answer place) k.told m.told)
    → TellsFor lines answers → Tells (KeepsBlocks sound (state_at k.log []) m.log.gathered k.log.flushed) k.told m.told
    → Tells (AllLast sound (state_at k.log []) m.log.gathered lines) k.told m.told
all_last_at_fault sound k m answers lines on all tells moments =
    all_last sound (state_at k.log []) m.log.gathered answers lines (KeepsBlocks sound (state_at k.log []) m.log.gathered k.log.flushed) k.told m.told moments tells
    (λ place told. subst (λ (s : State). Tells (LastsFrom sound s m.log.gathered told.answer place) k.told m.told) (same_start k.log m.log on.opened) (all place told))
