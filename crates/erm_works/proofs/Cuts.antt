-- What all sessions did, of which some were left behind their first lines, as an execution that was cut off, also where memory ran out for some.
use Rattle.std.proofs.Common.{◌≡◌, ℕ, ◌+◌, ◌<◌, List, [], ◌++◌, length, map, Option, Some, None, option_map, inl, inr, sym, ap, ◌∙◌, subst, arith}
use Rattle.std.specs.List.{slice_get}
use Rattle.std.proofs.lemmas.List.{append-nil, length-map}
use Rattle.std.proofs.lemmas.Option.{slice_get-map, slice_get_cases, slice_get_within}
use Rattle.erm_model.specs.declared.outcome.Phase.TheVariants.{Sealed}
use Rattle.erm_model.specs.Member.{◌∈◌}
use Rattle.erm_report.specs.declared.answer.Answer.{Answer}
use Rattle.erm_script.specs.declared.script.ScriptLine.{ScriptLine}
use Rattle.erm_world.specs.World.{IsSession, Session, View, phase_at}
use Rattle.erm_good_report.specs.Phases.{Closed, Closes}
use Rattle.erm_good_at_once.specs.CutReports.{answered_of}
use Rattle.erm_lines.specs.Executions.{Move, line_moves}
use Rattle.erm_lines_at_once.specs.CutRuns.{IsCutPart, next_of}
use Rattle.erm_lines_at_once.specs.Executions.{all_moves}
use Rattle.erm_worker.specs.Laws.{HasOwn}
use Rattle.erm_worker.specs.Work.{WasGivenUp}
use Rattle.erm_worker.proofs.Parts.{among}
use Rattle.erm_threads.specs.Merged.{own_answers}
use Rattle.erm_threads.specs.Parts.{own_lines}
use Rattle.erm_threads.specs.Work.{DidSome, DidWork}
use Rattle.erm_threads.proofs.Merged.{own_all}
use Rattle.erm_joined.specs.Merged.{AreMerged, closes_from, counts_of, told_when_cut}
use Rattle.erm_joined.proofs.Closes.{ascending, closing_of, in_closes, none_closed, own_closed}
use Rattle.erm_works.specs.Cuts.{WorksAreACutRun}
use Rattle.erm_works.specs.Starved.{IsStarvedPart, WorksAreAStarvedRun}
use Rattle.erm_works.specs.Works.{Did, DidSession, DidSo, HaveDone, IsSplit}
use Rattle.erm_works.proofs.Closings.{decided_so, noted_so, the_one}
use Rattle.erm_works.proofs.Moves.{none_answered, same_moves}
use Rattle.erm_works.proofs.Places.{by_place, count_of, is_session, not_its, own_session, so_first, stays}
use Rattle.erm_works.proofs.Merging.{merged_first}
use Rattle.erm_works.proofs.Sessions.{cut_session, from_part, no_session}

-- CLOSED. A session that is told as closed was sealed, and has no line more.
closed_cut : (f : View) (seat : ℕ) (v : View) (lines : List ScriptLine) (own : List Answer) (end : Option Answer) (a : Answer) → DidSession f seat v lines own end → told_when_cut end ≡ Some a
    → Closes Sealed a × (slice_get lines (length own) ≡ None)
closed_cut f seat v lines own end a it told = elim (slice_get_cases lines (length own)).1 [
  | inl here ↦ absurd (let none = (it.did.cut here.1).0 in let no : None ≡ Some a = sym (ap told_when_cut none) ∙ told in cc)
  | inr past ↦
      let all : length own ≡ length lines = (let least = past.0 in let most = it.most in omega (arith, most, least)) in
      (decided_so (phase_at it.did.last seat) seat end it.did.last it.last a (it.did.whole all) told, past.1)
]

-- WHERE MEMORY MAY HAVE RUN OUT for it it did its work, or it was given up behind its first lines.
by_work : (f : View) (seat : ℕ) (v : View) (lines : List ScriptLine) (own : List Answer) (end : Option Answer) → (it : DidSo DidSome f seat v lines own end) → DidWork f seat lines own end v it.last
    → DidSession f seat v lines own end
by_work f seat v lines own end it work = record { last = it.last; at_end = it.at_end; rests = it.rests; most = it.most; did = work }

starved_session : (f : View) (seat : ℕ) (v : View) (lines : List ScriptLine) (own : List Answer) (end : Option Answer) (moves : List Move) → DidSo DidSome f seat v lines own end
    → HasOwn seat moves (line_moves lines own ++ closing_of seat (told_when_cut end)) → IsStarvedPart f seat (slice_get lines (length own)) v moves
starved_session f seat v lines own end moves it has = by it.did
  where
    by : DidSome f seat lines own end v it.last → IsStarvedPart f seat (slice_get lines (length own)) v moves
    by (inl work) = inl (cut_session f seat v lines own end moves (by_work f seat v lines own end it work) has)
    by (inr (none, short)) = inr (record {
      last = short.last;
      run = among f seat moves (line_moves lines own) v short.last
          (has ∙ ap (λ (o : Option Answer). line_moves lines own ++ closing_of seat (told_when_cut o)) none ∙ append-nil (line_moves lines own)) short.run;
      gave_up = subst (λ (s : Session). WasGivenUp (short.last.session seat) s) it.at_end.own short.went;
      within = short.within;
    })

closed_starved : (f : View) (seat : ℕ) (v : View) (lines : List ScriptLine) (own : List Answer) (end : Option Answer) (a : Answer) → DidSo DidSome f seat v lines own end → told_when_cut end ≡ Some a
    → Closes Sealed a × (slice_get lines (length own) ≡ None)
closed_starved f seat v lines own end a it told = by it.did
  where
    by : DidSome f seat lines own end v it.last → Closes Sealed a × (slice_get lines (length own) ≡ None)
    by (inl work) = closed_cut f seat v lines own end a (by_work f seat v lines own end it work) told
    by (inr (none, short)) = absurd (let no : None ≡ Some a = sym (ap told_when_cut none) ∙ told in cc)

-- ALL SESSIONS, by what the part of each is
module _ {So : Did} (Part : View → ℕ → Option ScriptLine → View → List Move → Type 0)
    (part_of : (f : View) (seat : ℕ) (v : View) (lines : List ScriptLine) (own : List Answer) (end : Option Answer) (moves : List Move) → DidSo So f seat v lines own end
    → HasOwn seat moves (line_moves lines own ++ closing_of seat (told_when_cut end)) → Part f seat (slice_get lines (length own)) v moves)
    (part_from : (f : View) (seat : ℕ) (next : Option ScriptLine) (v : View) (moves : List Move) → IsCutPart f seat next v moves → Part f seat next v moves)
    (closed_of : (f : View) (seat : ℕ) (v : View) (lines : List ScriptLine) (own : List Answer) (end : Option Answer) (a : Answer) → DidSo So f seat v lines own end → told_when_cut end ≡ Some a
    → Closes Sealed a × (slice_get lines (length own) ≡ None))
    (v f : View) (script : List ScriptLine) (parts : List (List ScriptLine)) (answers : List (List Answer)) (closed : List (Option Answer)) (merged : List Answer)
    (split : IsSplit v script parts) (works : HaveDone So v f parts answers closed) (puts : AreMerged (answered_of (counts_of answers) script) answers merged) where
  abbrev counts : ℕ → ℕ
  counts = counts_of answers

  abbrev noted : List (Option Answer)
  noted = map told_when_cut closed

  abbrev moves : List Move
  moves = all_moves (answered_of counts script) merged (closes_from 1 noted)

  many_noted : length noted ≡ length parts
  many_noted = length-map closed told_when_cut ∙ works.as_many.1

  noted_at : (k : ℕ) (end : Option Answer) → slice_get closed k ≡ Some end → slice_get noted k ≡ Some (told_when_cut end)
  noted_at k end at = slice_get-map told_when_cut closed k ∙ ap (option_map told_when_cut) at

  with_part : (k : ℕ) (lines : List ScriptLine) (own : List Answer) (end : Option Answer) → slice_get parts k ≡ Some lines → slice_get answers k ≡ Some own → slice_get closed k ≡ Some end
      → Part f (k + 1) (next_of (k + 1) counts script) v moves
  with_part k lines own end lines_at own_at end_at =
      let count = count_of answers k own own_at in
      subst (λ (n : ℕ). Part f (k + 1) (slice_get (own_lines (k + 1) script) n) v moves) (sym count)
      (part_of f (k + 1) v (own_lines (k + 1) script) own end moves (own_session v f script parts answers closed split works k lines own end lines_at own_at end_at)
      (own_all (k + 1) (answered_of counts script) merged (closes_from 1 noted)
      ∙ ap (λ (ms : List Move). line_moves (own_lines (k + 1) (answered_of counts script)) (own_answers (k + 1) (answered_of counts script) merged) ++ ms)
      (own_closed (k + 1) 1 k noted (told_when_cut end) (omega arith) (noted_at k end end_at))
      ∙ ap (λ (as_told : List Answer). line_moves (own_lines (k + 1) (answered_of counts script)) as_told ++ closing_of (k + 1) (told_when_cut end)) (puts.own k own own_at)
      ∙ ap (λ (ms : List Move). ms ++ closing_of (k + 1) (told_when_cut end)) (same_moves (k + 1) counts script own (sym count))))

  without_part : (s : ℕ) → IsSession v s → length parts < s → Part f s (next_of s counts script) v moves
  without_part s session behind =
      let many = many_noted in
      let none = none_closed s 1 noted (λ k few here. absurd (omega (arith, few, here, behind, many))) in
      let no_own = none_answered s counts script (not_its v f script parts answers closed split works s behind) in
      part_from f s (next_of s counts script) v moves (from_part f s (next_of s counts script) v moves
      (no_session f s v moves
      (own_all s (answered_of counts script) merged (closes_from 1 noted)
      ∙ ap (λ (ms : List Move). line_moves (own_lines s (answered_of counts script)) (own_answers s (answered_of counts script) merged) ++ ms) none
      ∙ ap (λ (ls : List ScriptLine). line_moves ls (own_answers s (answered_of counts script) merged) ++ []) no_own)
      (stays v f script parts answers closed split works s session behind)))

  pub own_part : (s : ℕ) → IsSession v s → Part f s (next_of s counts script) v moves
  own_part s session = by_place v f script parts answers closed split works s session.0 (Part f s (next_of s counts script) v moves)
      (λ k lines own end is lines_at own_at end_at. subst (λ (x : ℕ). Part f x (next_of x counts script) v moves) is (with_part k lines own end lines_at own_at end_at))
      (λ behind. without_part s session behind)

  -- a session that is told as closed was sealed, and has no line more
  decided_at : (k : ℕ) (lines : List ScriptLine) (own : List Answer) (end : Option Answer) (a : Answer) → slice_get parts k ≡ Some lines → slice_get answers k ≡ Some own
      → slice_get closed k ≡ Some end → told_when_cut end ≡ Some a → Closes Sealed a × (next_of (k + 1) counts script ≡ None)
  decided_at k lines own end a lines_at own_at end_at told =
      let it = own_session v f script parts answers closed split works k lines own end lines_at own_at end_at in
      let so = closed_of f (k + 1) v (own_lines (k + 1) script) own end a it told in
      (so.0, ap (slice_get (own_lines (k + 1) script)) (count_of answers k own own_at) ∙ so.1)

  pub decided : (c : Closed) → c ∈ closes_from 1 noted → Closes Sealed c.answer × (next_of c.session counts script ≡ None)
  decided c m =
      let at = noted_so 1 noted c m in
      let k = at.0 in
      let is = at.1 in
      let few = slice_get_within noted k (Some c.answer) at.2 in
      let many = many_noted in
      by_place v f script parts answers closed split works c.session (omega (arith, is)) (Closes Sealed c.answer × (next_of c.session counts script ≡ None))
      (λ j lines own end here lines_at own_at end_at.
      let same : j ≡ k = omega (arith, here, is) in
      let told : told_when_cut end ≡ Some c.answer = the_one (told_when_cut end) (Some c.answer) (sym (noted_at j end end_at) ∙ ap (slice_get noted) same ∙ at.2) in
      let so = decided_at j lines own end c.answer lines_at own_at end_at told in
      (so.0, subst (λ (s : ℕ). next_of s counts script ≡ None) here so.1))
      (λ behind. absurd (omega (arith, behind, is, few, many)))

  pub named : (l : ScriptLine) → l ∈ script → IsSession v l.session
  named l m = let seat = split.seats l m in is_session v f script parts answers closed split works l.session seat.0 seat.1

  pub sessions : (c : Closed) → c ∈ closes_from 1 noted → IsSession v c.session
  sessions c m =
      let at = in_closes 1 noted c m in
      let few = at.1 in
      let is = at.2 in
      let many = many_noted in
      is_session v f script parts answers closed split works c.session (omega (arith, is)) (omega (arith, few, is, many))

pub are_a_cut_run : WorksAreACutRun
are_a_cut_run v f script parts answers closed merged split works puts =
    let none = λ (f : View) (seat : ℕ) (next : Option ScriptLine) (v : View) (moves : List Move) (part : IsCutPart f seat next v moves). part in record {
      opened = split.opened;
      ranges = split.ranges;
      few = split.few;
      each = puts.many;
      named = named IsCutPart cut_session none closed_cut v f script parts answers closed merged split works puts;
      opening = works.beyond.opening;
      ascend = ascending 1 (map told_when_cut closed);
      sessions = sessions IsCutPart cut_session none closed_cut v f script parts answers closed merged split works puts;
      decided = decided IsCutPart cut_session none closed_cut v f script parts answers closed merged split works puts;
      own = own_part IsCutPart cut_session none closed_cut v f script parts answers closed merged split works puts;
      ends = works.ends_so;
    }

pub are_a_starved_run : WorksAreAStarvedRun
are_a_starved_run v f script parts answers closed split works =
    let (merged, puts) = merged_first script answers (so_first v f script parts answers closed split works) in
    let none = λ (f : View) (seat : ℕ) (next : Option ScriptLine) (v : View) (moves : List Move) (part : IsCutPart f seat next v moves). inl part in (
      merged,
      record {
        opened = split.opened;
        ranges = split.ranges;
        few = split.few;
        each = puts.many;
        named = named IsStarvedPart starved_session none closed_starved v f script parts answers closed merged split works puts;
        opening = works.beyond.opening;
        ascend = ascending 1 (map told_when_cut closed);
        sessions = sessions IsStarvedPart starved_session none closed_starved v f script parts answers closed merged split works puts;
        decided = decided IsStarvedPart starved_session none closed_starved v f script parts answers closed merged split works puts;
        own = own_part IsStarvedPart starved_session none closed_starved v f script parts answers closed merged split works puts;
        ends = works.ends_so;
      },
    )
