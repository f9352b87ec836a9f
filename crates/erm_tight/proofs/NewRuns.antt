-- The lines of a run put new keys, as many as make the objects that it makes.
use Rattle.std.proofs.Common.{◌≡◌, ℕ, zero, suc, ◌+◌, ◌*◌, ◌<◌, ◌≤◌, List, [], ◌∷◌, ◌++◌, length, take, slice_get, Option, Some, None, append_assoc, refl, sym, ap, ◌∙◌, subst, ⊎_elim, arith}
use Rattle.erm_model.specs.declared.history.TransactionRecord.{TransactionRecord}
use Rattle.erm_model.specs.declared.limits.TheConstants.{OID_LIMIT, PUT_OBJECTS}
use Rattle.erm_model.specs.declared.row_stop.RowStop.TheVariants as stop
use Rattle.erm_model.specs.Member.{◌∈◌}
use Rattle.erm_model.specs.RowTransaction.{Asked, asked_claim, asked_make, asked_read}
use Rattle.erm_model.specs.Run.{Step}
use Rattle.erm_machine.proofs.Listed.{∈-head}
use Rattle.erm_model.proofs.Members.{∈-behind}
use Rattle.erm_node.specs.Sound.{sound_law}
use Rattle.erm_tree.specs.Change.{count_makes}
use Rattle.erm_world.specs.Calls.{AreAllMade}
use Rattle.erm_world.specs.Face.{WasRefused}
use Rattle.erm_world.specs.Going.{Extends}
use Rattle.erm_world.specs.Laws.{IsNumbered, IsSerializable}
use Rattle.erm_world.specs.World.{IsSession, Session, View, Work, history_of, phase_at, work_at}
use Rattle.erm_world.specs.World as world
use Rattle.erm_maps.specs.Runs.{IsAnswered}
use Rattle.erm_report.specs.declared.answer.Answer.{Answer}
use Rattle.erm_report.specs.declared.answer.Answer.TheVariants as answer
use Rattle.erm_script.specs.declared.script.Command.{Command}
use Rattle.erm_script.specs.declared.script.Command.TheVariants as command
use Rattle.erm_script.specs.declared.script.ScriptLine.{ScriptLine}
use Rattle.erm_script.specs.Script.{IsInRange}
use Rattle.erm_good_report.specs.Phases.{FitsRefusal, IsAnswerTo, need_of, refusal_in, refusal_of}
use Rattle.erm_good_report.proofs.Phases.{phase_refuses}
use Rattle.erm_good_report.specs.Transactions.{Progress, Said, nothing, progress_of, said_of}
use Rattle.erm_lines.specs.Answers.{DidLine}
use Rattle.erm_lines.specs.Executions.{DidLog, DidLogLine, DidMove, IsCourse, IsExecution, IsOpened, Move, line_moves, move_of, said_in}
use Rattle.erm_lines.specs.Laws.{ExecutionsTell}
use Rattle.erm_lines.specs.Operations.{AsksOf, FrontOf, WereCutOff}
use Rattle.erm_lines.specs.Told.{Tells}
use Rattle.erm_lines.proofs.Keeping.{NoneRuns}
use Rattle.erm_lines.proofs.Moved.{log_flushes, moved, said_move}
use Rattle.erm_told.proofs.Runs.{executed_both, said_both, serializable_then}
use Rattle.erm_causes.proofs.Moves.{move_history, move_range, opened_told, session_before}
use Rattle.erm_causes.proofs.Tables.{AreMovesInRange, heard_said, run_opening}
use Rattle.erm_told_limits.proofs.Holds.{Laws, said_by}
use Rattle.erm_told_limits.proofs.Moved.{mades_in}
use Rattle.erm_told_limits.proofs.Pigeons.{has_made, made_few}
use Rattle.erm_told_limits.proofs.Refused.{WasFull, oids_full, was_full}
use Rattle.erm_told_limits.proofs.Totals.{all_made, length_all, mades_by_all, mades_kept, times_all, total_zero}
use Rattle.erm_told_limits.proofs.Given.{HistoryLaws}
use Rattle.erm_tight.specs.NewKeys.{HaveNewKeys, PutsNewKey}
use Rattle.erm_tight.proofs.Moves.{IsMarked, opened_marked, run_marked}
use Rattle.erm_tight.proofs.NewKeys.{cut_asks_none, cut_less, grows_to}
use Rattle.erm_tight.proofs.NewLines.{going, line_counts, new_keys-append, new_keys-more, put_new}
use Rattle.erm_tight.proofs.Serial.{IsTold}
use Rattle.erm_tight.proofs.Told.{record_told}
use Rattle.erm_tight.proofs.Whole.{KeyLaws}

-- moves in range, and more
both_range : (moves more : List Move) → AreMovesInRange moves → AreMovesInRange more → AreMovesInRange (moves ++ more)
both_range [] more first second = second
both_range (m ∷ moves) more first second = (first.0, both_range moves more first.1 second)

-- only a put is answered so
record IsPutOf (c : Command) : Type 0 where
  table : ℕ
  key : ℕ
  value : List ℕ
  is : c ≡ command.Put table key value

only_put : (drawn : ℕ) (c : Command) → IsAnswerTo c (answer.OidsFull drawn) → IsPutOf c
only_put drawn (command.Put table key value) fits = record { table = table; key = key; value = value; is = refl }
only_put drawn c fits = absurd fits

fits_put : (drawn : ℕ) (v : View) (seat : ℕ) (c : Command) (refusal : Option Answer) → refusal_of (phase_at v seat) c ≡ refusal → FitsRefusal refusal c (answer.OidsFull drawn) → IsPutOf c
fits_put drawn v seat c None is fits = only_put drawn c fits
fits_put drawn v seat c (Some r) is fits =
    let kind = phase_refuses (need_of c) (phase_at v seat) r is in
    let none : refusal_in r ≡ None = ap refusal_in (sym fits) in
    absurd (cc)

not_logged : (drawn : ℕ) (v t : View) (c : Command) → DidLog v c (answer.OidsFull drawn) t → ⊥
not_logged drawn v t command.Flush did = did
not_logged drawn v t command.Checkpoint did = did
not_logged drawn v t c did = did

-- only a call for an object is refused so
asked_for_one : (drawn : ℕ) (at t : View) (seat : ℕ) (asked : Asked) → WasRefused at seat asked (stop.OidsFull drawn) t → (asked ≡ asked_make) × (t ≡ at) × AreAllMade at
asked_for_one drawn at t seat (asked_read oid) did = absurd did
asked_for_one drawn at t seat (asked_claim oid) did = absurd did
asked_for_one drawn at t seat asked_make did = (refl, did.0, did.2)

module _ (laws : HistoryLaws) (limits : Laws) (keys : KeyLaws) (begun : NoneRuns)
    (stay : (w u : Work) (steps : List Step) → Extends w u → IsAnswered w steps → IsAnswered u steps) (tell : ExecutionsTell) (v0 : View) (opened : IsOpened v0) where
  -- AFTER MOVES
  module _ (moves : List Move) (v : View) (run : IsExecution v0 moves v) (range : AreMovesInRange moves) where
    same : v.opening ≡ v0.opening
    same = run_opening moves v0 v run

    tells : (seat : ℕ) → IsSession v seat → Tells seat (progress_of seat (said_in moves)) (v.session seat)
    tells seat session = (tell v0 v moves opened run seat (session_before v0 v seat same session)).0

    numbered : (seat : ℕ) → IsSession v seat → IsNumbered (v.session seat)
    numbered = (serializable_then moves v0 v opened.serializable run).numbered

    marked : (seat : ℕ) → IsSession v seat → IsMarked (progress_of seat (said_in moves)) (v.saves seat) (v.session seat)
    marked seat session =
        subst (λ (p : Progress). IsMarked p (v.saves seat) (v.session seat)) (heard_said moves (λ q. nothing) seat)
        (run_marked keys begun stay moves (λ q. nothing) v0 v run range (opened_told v0 opened) (opened_marked v0 opened) seat session)

    told : (r : TransactionRecord) → r ∈ history_of v → IsTold r
    told r within = record_told v v.opening.sessions (said_in moves) refl numbered tells marked r within

  -- so many lines have put new keys
  record Counted (moves : List Move) (v : View) : Type 0 where
    n : ℕ
    have : HaveNewKeys v0.opening.sessions [] (said_in moves) n
    most : mades_by_all v ≤ PUT_OBJECTS * n

  said_next : (moves : List Move) (l : ScriptLine) (a : Answer) → said_in (moves ++ move_of l a ∷ []) ≡ said_in moves ++ said_by l a ∷ []
  said_next moves l a = said_both moves (move_of l a ∷ []) ∙ ap (λ (said : List Said). said_in moves ++ said) (said_move l a [])

  module _ (moves : List Move) (v : View) (run : IsExecution v0 moves v) (range : AreMovesInRange moves) (counted : Counted moves v) (l : ScriptLine) (a : Answer) (u : View)
      (did : DidMove v (move_of l a) u) (holds : IsSerializable sound_law u) (run_then : IsExecution v0 (moves ++ move_of l a ∷ []) u) (range_then : AreMovesInRange (moves ++ move_of l a ∷ [])) where
    still : HaveNewKeys v0.opening.sessions [] (said_in (moves ++ move_of l a ∷ [])) counted.n
    still = subst (λ (said : List Said). HaveNewKeys v0.opening.sessions [] said counted.n) (sym (said_next moves l a)) (new_keys-append v0.opening.sessions [] (said_in moves) (said_by l a) counted.n counted.have)

    one_more : PutsNewKey v.opening.sessions (said_in moves) (said_by l a) → HaveNewKeys v0.opening.sessions [] (said_in (moves ++ move_of l a ∷ [])) (suc counted.n)
    one_more puts =
        subst (λ (said : List Said). HaveNewKeys v0.opening.sessions [] said (suc counted.n)) (sym (said_next moves l a))
        (new_keys-more v0.opening.sessions [] (said_in moves) (said_by l a) counted.n counted.have
        (subst (λ (o : world.Opening). PutsNewKey o.sessions (said_in moves) (said_by l a)) (same moves v run range) puts))

    of_line : DidLine v l a u → Counted (moves ++ move_of l a ∷ []) u
    of_line line =
        ⊎_elim (λ (none : mades_by_all u ≤ mades_by_all v). record { n = counted.n; have = still; most = omega (arith, none, counted.most) })
        (λ (some : PutsNewKey v.opening.sessions (said_in moves) (said_by l a) × (mades_by_all u ≤ mades_by_all v + PUT_OBJECTS)). record { n = suc counted.n; have = one_more some.0; most = omega (arith, some.1, counted.most) })
        (line_counts laws limits v u (said_in moves) (numbered moves v run range) (tells moves v run range) (marked moves v run range) holds (told (moves ++ move_of l a ∷ []) u run_then range_then) (λ r within. move_history v (move_of l a) u did r within) l a line)

    of_log : DidLogLine v l a u → Counted (moves ++ move_of l a ∷ []) u
    of_log logged = record { n = counted.n; have = still; most = omega (arith, mades_kept v u (log_flushes v u l a logged), counted.most) }

    counts_then : Counted (moves ++ move_of l a ∷ []) u
    counts_then = ⊎_elim of_line of_log (moved v l a u did)

  -- WHERE OBJECTS ARE FULL. The line asked for one more.
  abbrev pub IsFullOf : List Said → Type 0
  IsFullOf said = (n : ℕ) × HaveNewKeys v0.opening.sessions [] said n × (OID_LIMIT < v0.opening.first + PUT_OBJECTS * n)

  module _ (moves : List Move) (v : View) (run : IsExecution v0 moves v) (range : AreMovesInRange moves) (counted : Counted moves v) (l : ScriptLine) (drawn : ℕ) (u : View)
      (line : DidLine v l (answer.OidsFull drawn) u) (holds : IsSerializable sound_law u) (told_then : (r : TransactionRecord) → r ∈ history_of u → IsTold r)
      (stays : (r : TransactionRecord) → r ∈ history_of v → r ∈ history_of u) (opening_then : u.opening ≡ v0.opening) where
    full_by : IsPutOf l.command → WasFull v l.session l.command (stop.OidsFull drawn) u → IsFullOf (said_in moves ++ said_by l (answer.OidsFull drawn) ∷ [])
    full_by put full =
        let table = put.table in
        let key = put.key in
        let value = put.value in
        let why = stop.OidsFull drawn in
        let cut : WereCutOff v l.session (FrontOf (command.Put table key value)) (AsksOf (command.Put table key value)) why u =
        subst (λ (c : Command). WereCutOff v l.session (FrontOf c) (AsksOf c) why u) put.is full.cut in
        let one = asked_for_one drawn cut.at u l.session cut.asked cut.refused in
        let g = going laws limits v u (said_in moves) (numbered moves v run range) (tells moves v run range) (marked moves v run range) holds told_then stays l.session line.session full.active in
        let lines = g.told.lines in
        let puts : PutsNewKey v.opening.sessions (said_in moves) (said_by l (answer.OidsFull drawn)) =
        put_new laws limits v u (said_in moves) (numbered moves v run range) (tells moves v run range) (marked moves v run range) holds told_then stays l (answer.OidsFull drawn) table key value put.is line.session full.active
        (λ by within below known.
        cut_asks_none laws v u l.session line.session full.active holds told_then lines g.goes.marks g.run.lawful table key value why cut by (stays by within) below known one.0) in
        let less : count_makes cut.events + 1 ≤ PUT_OBJECTS = cut_less laws v u l.session line.session full.active holds told_then lines g.goes.marks g.run.lawful table key value why cut one.0 in
        let grown : mades_by_all u ≤ mades_by_all v + count_makes cut.events = grows_to laws v u l.session line.session full.active holds told_then lines g.goes.marks g.run.lawful table key value why cut in
        let made : AreAllMade u = subst AreAllMade (sym one.1) one.2 in
        let first : u.opening.first ≡ v0.opening.first = ap (λ (o : world.Opening). o.first) opening_then in
        let most : OID_LIMIT ≤ u.opening.first + length (all_made u) =
        made_few u.opening.first OID_LIMIT (all_made u) (λ q above below. has_made (all_made u) q (let some = made q above below in omega (arith, some, times_all u q))) in (
          suc counted.n,
          new_keys-more v0.opening.sessions [] (said_in moves) (said_by l (answer.OidsFull drawn)) counted.n counted.have
              (subst (λ (o : world.Opening). PutsNewKey o.sessions (said_in moves) (said_by l (answer.OidsFull drawn))) (same moves v run range) puts),
          omega (arith, most, first, length_all u, grown, less, counted.most),
        )

    full_here : IsFullOf (said_in moves ++ said_by l (answer.OidsFull drawn) ∷ [])
    full_here =
        full_by (fits_put drawn v l.session l.command (refusal_of (phase_at v l.session) l.command) refl line.fits) (was_full (answer.OidsFull drawn) (stop.OidsFull drawn) (oids_full drawn) v l u line)

  -- THE WALK.
  said_then : (moves : List Move) (l : ScriptLine) (a : Answer) (rest : List Said) → said_in (moves ++ move_of l a ∷ []) ++ rest ≡ said_in moves ++ said_by l a ∷ rest
  said_then moves l a rest = ap (λ (said : List Said). said ++ rest) (said_next moves l a) ∙ append_assoc (said_in moves) (said_by l a ∷ []) rest

  walk : (script : List ScriptLine) (answers : List Answer) (moves : List Move) (v : View) (run : IsExecution v0 moves v) (range : AreMovesInRange moves) → Counted moves v → (end : View)
      → IsExecution v (line_moves script answers) end → ((l : ScriptLine) → l ∈ script → IsInRange l.command) → length answers ≤ length script → (i drawn : ℕ) → slice_get answers i ≡ Some (answer.OidsFull drawn)
      → IsFullOf (said_in moves ++ take (i + 1) (said_of script answers))
  walk script [] moves v run range counted end runs ranges few i drawn e = absurd (cc e)
  walk [] (a ∷ answers) moves v run range counted end runs ranges few i drawn e = absurd (omega (arith, few))
  walk (l ∷ script) (a ∷ answers) moves v run range counted end runs ranges few zero drawn e =
      let is : a ≡ answer.OidsFull drawn = cc e in
      let u = runs.0 in
      let did : DidMove v (move_of l (answer.OidsFull drawn)) u = subst (λ (x : Answer). DidMove v (move_of l x) u) is runs.1 in
      let in_line : IsInRange l.command = ranges l (∈-head l script) in
      let m = move_of l (answer.OidsFull drawn) in
      let then : IsExecution v0 (moves ++ m ∷ []) u = executed_both moves (m ∷ []) v0 v u run (u, did, runs.2, refl) in
      let range_then : AreMovesInRange (moves ++ m ∷ []) = both_range moves (m ∷ []) range (move_range l (answer.OidsFull drawn) in_line, tt) in
      subst (λ (x : Answer). IsFullOf (said_in moves ++ said_by l x ∷ [])) (sym is)
      (⊎_elim (λ (line : DidLine v l (answer.OidsFull drawn) u).
      full_here moves v run range counted l drawn u line runs.2 (told (moves ++ m ∷ []) u then range_then) (λ r within. move_history v m u did r within) (run_opening (moves ++ m ∷ []) v0 u then))
      (λ (logged : DidLogLine v l (answer.OidsFull drawn) u). absurd (not_logged drawn v u l.command logged.did))
      (moved v l (answer.OidsFull drawn) u did))
  walk (l ∷ script) (a ∷ answers) moves v run range counted end runs ranges few (suc i) drawn e =
      let u = runs.0 in
      let m = move_of l a in
      let then : IsExecution v0 (moves ++ m ∷ []) u = executed_both moves (m ∷ []) v0 v u run (u, runs.1, runs.2, refl) in
      let range_then : AreMovesInRange (moves ++ m ∷ []) = both_range moves (m ∷ []) range (move_range l a (ranges l (∈-head l script)), tt) in
      let counted_then = counts_then moves v run range counted l a u runs.1 runs.2 then range_then in
      let later = walk script answers (moves ++ m ∷ []) u then range_then counted_then end runs.3 (λ k within. ranges k (∈-behind l script k within)) (omega (arith, few)) i drawn e in
      let place : suc i + 1 ≡ suc (i + 1) = omega arith in
      subst (λ (k : ℕ). IsFullOf (said_in moves ++ take k (said_by l a ∷ said_of script answers))) (sym place)
      (subst IsFullOf (said_then moves l a (take (i + 1) (said_of script answers))) later)

  pub oids_full_of : (t : View) (script : List ScriptLine) (answers : List Answer) (run : IsCourse v0 script answers t) → (i drawn : ℕ) → slice_get answers i ≡ Some (answer.OidsFull drawn)
      → IsFullOf (take (i + 1) (said_of script answers))
  oids_full_of t script answers run i drawn e =
      walk script answers [] v0 refl tt (record { n = 0; have = refl; most = omega (arith, none_made) }) run.between run.lines run.ranges run.most i drawn e
    where
      none_made : mades_by_all v0 ≡ 0
      none_made = total_zero mades_in v0.opening.sessions v0.session (λ q above within. subst (λ (s : Session). mades_in s ≡ 0) (sym (opened.idle q (above, within))) refl)
