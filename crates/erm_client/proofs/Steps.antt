-- One step of a client: a line was answered, it was told to stop, memory ran out, or nothing was asked.
use Rattle.std.proofs.Common.{◌≡◌, ◌≢◌, ℕ, ◌+◌, ◌≤◌, length, Option, Some, None, Result, Ok, Err, IfErr, IfOk, IsErr, IsErrAnd, OnOk, List, [], ◌∷◌, ◌++◌, ◌⊎◌, ⊎_elim, inl, inr, refl, sym, ap, ◌∙◌, subst, arith}
use Rattle.erm_beside.specs.Laws.{GoesOnward}
use Rattle.erm_client.proofs.Dealt.{dealt_more, dealt_same}
use Rattle.erm_client.proofs.Grown.{ended_transcript, more_transcript, open_each, room_then, run_ends, run_more, run_same, run_starves, same_transcript}
use Rattle.erm_client.proofs.Told.{line_tells}
use Rattle.erm_client.proofs.Watched.{LinesLeave, abort_rests, in_phase_line, none_current, none_watched, unsealed}
use Rattle.erm_client.specs.Clients.{GoesOn, HasRun, IsClient, IsInPhase, Rests}
use Rattle.erm_client.specs.Dealings.{ComesAlone, dealings_of}
use Rattle.erm_client.specs.declared.client.Client.{Client}
use Rattle.erm_client.specs.declared.transcript.Standing.{Standing}
use Rattle.erm_client.specs.declared.transcript.Standing.TheVariants as standing
use Rattle.erm_client.specs.declared.transcript.Transcript.{Transcript}
use Rattle.erm_client.specs.declared.refusal.Refusal.{Refusal}
use Rattle.erm_client.specs.declared.refusal.Refusal.TheVariants as refusal
use Rattle.erm_client.specs.Refusals.{IsUntold, MayTell, refusal_told}
use Rattle.erm_client.specs.Transcripts.{EndsWith, HasAnswers, HasMore, HasRoom, IsAnswered, IsAsked, IsLine, IsRefused, IsSame, IsUnended, Starves, over_told, room_for}
use Rattle.erm_client.specs.Transcripts as refused
use Rattle.erm_good_report.specs.Phases.{FitsPhase, phase_after}
use Rattle.erm_good_report.specs.Transactions.{Progress, heard}
use Rattle.erm_model.specs.declared.operation.Reply.TheVariants as reply
use Rattle.erm_model.specs.declared.outcome.Phase.{Phase}
use Rattle.erm_model.specs.declared.outcome.Phase.TheVariants.{Active, Idle, Sealed, Pending, Safe}
use Rattle.erm_model.specs.declared.outcome.Receipt.{Receipt}
use Rattle.erm_report.specs.declared.answer.Answer.{Answer}
use Rattle.erm_report.specs.declared.answer.Answer.TheVariants as answer
use Rattle.erm_script.specs.declared.script.Command.{Command}
use Rattle.erm_script.specs.declared.script.Command.TheVariants as command
use Rattle.erm_script.specs.declared.script.ScriptLine.{ScriptLine}
use Rattle.erm_worker.specs.Work.{IsReady, RanLine}
use Rattle.erm_world.specs.Face.{Grows}
use Rattle.erm_world.specs.World.{View, phase_at}

differ : (s : Standing) → s ≡ standing.Open → s ≡ standing.Stopped → ⊥
differ s opened stopped = cc

starved_differ : (s : Standing) → s ≡ standing.Starved → s ≡ standing.Stopped → ⊥
starved_differ s starved stopped = cc

starved_open : (s : Standing) → s ≡ standing.Starved → s ≡ standing.Open → ⊥
starved_open s starved opened = cc

module _ {S T X : Type 0} (stands : X → S → Type 0) (seat : S → ℕ) (own : S → View) (ends : S → View → Type 0) (told : T → Type 0) (c d : Client S T X)
    (client : IsClient stands seat own c) (opened : c.transcript.standing ≡ standing.Open) (same : d.shared ≡ c.shared) (standing_so : stands d.shared.now d.session)
    (onward : GoesOnward (seat c.session) (seat d.session) (ends c.session) (ends d.session)) where
  own_line : (l : ScriptLine) → IsLine (seat c.session) l → IsLine c.transcript.seat l
  own_line l line = subst (λ (n : ℕ). IsLine n l) (sym client.seat_is) line

  pub answer_tells : (l : ScriptLine) (a : Answer) → IsLine (seat c.session) l → ((f : View) → ends d.session f → RanLine f l (Some a) (own c.session) (own d.session))
      → ((f : View) × ends d.session f) → MayTell l.command a
  answer_tells l a line ran (f, end) = line_tells f l a (own c.session) (own d.session) line.of_client (ran f end)

  -- the phase that it leaves, and what is told to be in progress there
  answer_leaves : LinesLeave → (l : ScriptLine) (a : Answer) → IsLine (seat c.session) l → ((f : View) → ends d.session f → RanLine f l (Some a) (own c.session) (own d.session))
      → ((f : View) × ends d.session f) → HasMore c.transcript l a d.transcript → IsInPhase (phase_at (own d.session) (seat d.session)) (dealings_of d.transcript)
  answer_leaves leave l a line ran (f, end) more =
      let v = own c.session in
      let t = own d.session in
      let p = dealings_of c.transcript in
      let seated : c.transcript.seat ≡ l.session = client.seat_is ∙ sym line.own in
      let before : IsInPhase (phase_at v l.session) p = subst (λ (n : ℕ). IsInPhase (phase_at v n) p) (sym line.own) (client.in_phase opened) in
      let behind : IsInPhase (phase_at t l.session) (heard l.session (Some l.command) a p) =
      in_phase_line leave f l a v t p line.of_client (line_tells f l a v t line.of_client (ran f end)) (ran f end) before in
      let dealt : dealings_of d.transcript ≡ heard l.session (Some l.command) a p =
      dealt_more c.transcript d.transcript l a (open_each c.transcript client.transcript_ok opened) (sym seated) more ∙ ap (λ (n : ℕ). heard n (Some l.command) a p) seated in
      subst (λ (n : ℕ). IsInPhase (phase_at t n) (dealings_of d.transcript)) (line.own ∙ sym onward.seat_is)
      (subst (λ (q : Progress). IsInPhase (phase_at t l.session) q) (sym dealt) behind)

  -- an abort leaves nothing
  pub aborted_rests : LinesLeave → (l : ScriptLine) (a : Answer) → IsLine (seat c.session) l → ((f : View) → ends d.session f → RanLine f l (Some a) (own c.session) (own d.session))
      → ((f : View) × ends d.session f) → l.command ≡ command.Abort → phase_at (own d.session) (seat d.session) ≡ Idle
  aborted_rests leave l a line ran (f, end) asks =
      let v = own c.session in
      let t = own d.session in
      let did = ran f end in
      let left = subst (λ (x : Command). phase_at t l.session ≡ phase_after (Some x) a (phase_at v l.session)) asks (leave f l a v t did) in
      let fits = subst (λ (x : Command). FitsPhase (phase_at v l.session) x a) asks did.fits in
      let un : phase_at v l.session ≡ Sealed → ⊥ = λ sealed. unsealed (phase_at v (seat c.session)) (dealings_of c.transcript) (client.in_phase opened) (ap (λ (n : ℕ). phase_at v n) (sym line.own) ∙ sealed) in
      ap (λ (n : ℕ). phase_at t n) (onward.seat_is ∙ sym line.own) ∙ abort_rests a (phase_at v l.session) (phase_at t l.session) un fits left

  -- it was answered
  pub answered_goes : LinesLeave → (l : ScriptLine) (a : Answer) → IsLine (seat c.session) l → ((f : View) → ends d.session f → RanLine f l (Some a) (own c.session) (own d.session))
      → ((f : View) × ends d.session f) → IsReady (own d.session) (seat c.session) d.receipt → HasMore c.transcript l a d.transcript
      → (l.command ≡ command.Abort) ⊎ HasRoom 1 d.transcript → GoesOn stands seat own ends told c d
  answered_goes leave l a line ran some ready more room = record {
    client = record {
      stands_so = standing_so;
      seat_is = more.seat ∙ client.seat_is ∙ sym onward.seat_is;
      transcript_ok = more_transcript c.transcript d.transcript l a client.transcript_ok opened (own_line l line) (answer_tells l a line ran some) more;
      ready = λ now. subst (λ (n : ℕ). IsReady (own d.session) n d.receipt) (sym onward.seat_is) ready;
      in_phase = λ now. answer_leaves leave l a line ran some more;
      room = λ now busy. ⊎_elim (λ (asks : l.command ≡ command.Abort). absurd (busy (aborted_rests leave l a line ran some asks))) (λ (there : HasRoom 1 d.transcript). there) room;
      left = λ stopped. absurd (differ c.transcript.standing opened (sym more.standing_so ∙ stopped));
    };
    same = same;
    onward = onward;
    ran = λ v before f end.
        run_more f v (own c.session) (own d.session) c.transcript d.transcript l a client.transcript_ok opened (own_line l line) more (before f (onward.ends_so f end)) (ran f end);
    stops = λ _ stopped. absurd (differ c.transcript.standing opened (sym more.standing_so ∙ stopped));
    over = λ over. absurd (over opened);
  }

  -- it was told to stop
  inactive : (l : ScriptLine) → IsLine (seat c.session) l → ((f : View) → ends d.session f → RanLine f l None (own c.session) (own d.session)) → ((f : View) × ends d.session f)
      → phase_at (own d.session) (seat d.session) ≡ Active → ⊥
  inactive l line ran (f, end) active = (ran f end).inactive (ap (λ (n : ℕ). phase_at (own d.session) n) (line.own ∙ sym onward.seat_is) ∙ active)

  pub stopped_goes : (l : ScriptLine) → IsLine (seat c.session) l → ((f : View) → ends d.session f → RanLine f l None (own c.session) (own d.session))
      → ((f : View) × ends d.session f) → told d.turns → EndsWith c.transcript l d.transcript → GoesOn stands seat own ends told c d
  stopped_goes l line ran some was stops = record {
    client = record {
      stands_so = standing_so;
      seat_is = stops.seat ∙ client.seat_is ∙ sym onward.seat_is;
      transcript_ok = ended_transcript c.transcript d.transcript l client.transcript_ok opened (own_line l line) stops;
      ready = λ now. absurd (differ d.transcript.standing now stops.standing_so);
      in_phase = λ now. absurd (differ d.transcript.standing now stops.standing_so);
      room = λ now. absurd (differ d.transcript.standing now stops.standing_so);
      left = λ stopped. inactive l line ran some;
    };
    same = same;
    onward = onward;
    ran = λ v before f end.
        run_ends f v (own c.session) (own d.session) c.transcript d.transcript l client.transcript_ok opened (own_line l line) stops (before f (onward.ends_so f end)) (ran f end);
    stops = λ _ stopped. was;
    over = λ over. absurd (over opened);
  }

  -- memory ran out
  pub starved_goes : ((f : View) → ends c.session f → ((own c.session).tail ≤ f.tail) × ((own c.session).flushed ≤ f.flushed))
      → Grows ((own c.session).session (seat c.session)) ((own d.session).session (seat c.session)) → Starves c.transcript d.transcript → GoesOn stands seat own ends told c d
  starved_goes within grown starves = record {
    client = record {
      stands_so = standing_so;
      seat_is = starves.seat ∙ client.seat_is ∙ sym onward.seat_is;
      transcript_ok = same_transcript c.transcript d.transcript client.transcript_ok starves.seat starves.lines starves.answers
          (subst (λ (s : Standing). HasAnswers s (length c.transcript.lines.items) (length c.transcript.answers.items)) (sym starves.standing_so) (open_each c.transcript client.transcript_ok opened));
      ready = λ now. absurd (starved_open d.transcript.standing starves.standing_so now);
      in_phase = λ now. absurd (starved_open d.transcript.standing starves.standing_so now);
      room = λ now. absurd (starved_open d.transcript.standing starves.standing_so now);
      left = λ stopped. absurd (starved_differ d.transcript.standing starves.standing_so stopped);
    };
    same = same;
    onward = onward;
    ran = λ v before f end. run_starves f v (own c.session) (own d.session) c.transcript d.transcript client.transcript_ok opened starves (within f (onward.ends_so f end))
        (subst (λ (n : ℕ). Grows ((own c.session).session n) ((own d.session).session n)) (sym client.seat_is) grown) (before f (onward.ends_so f end));
    stops = λ _ stopped. absurd (starved_differ d.transcript.standing starves.standing_so stopped);
    over = λ over. absurd (over opened);
  }

  -- nothing was asked
  pub same_goes : d.session ≡ c.session → d.receipt ≡ c.receipt → IsSame c.transcript d.transcript → ((spare : ℕ) → HasRoom spare c.transcript → HasRoom spare d.transcript)
      → GoesOn stands seat own ends told c d
  same_goes session receipt still kept = record {
    client = record {
      stands_so = standing_so;
      seat_is = still.seat ∙ client.seat_is ∙ sym onward.seat_is;
      transcript_ok = same_transcript c.transcript d.transcript client.transcript_ok still.seat still.lines still.answers
          (subst (λ (s : Standing). HasAnswers s (length c.transcript.lines.items) (length c.transcript.answers.items)) (sym still.standing_so) client.transcript_ok.each);
      ready = λ now. subst (λ (r : Option Receipt). IsReady (own d.session) (seat d.session) r) (sym receipt)
          (subst (λ (s : S). IsReady (own s) (seat s) c.receipt) (sym session) (client.ready opened));
      in_phase = λ now. subst (λ (q : Progress). IsInPhase (phase_at (own d.session) (seat d.session)) q) (sym (dealt_same c.transcript d.transcript still))
          (subst (λ (s : S). IsInPhase (phase_at (own s) (seat s)) (dealings_of c.transcript)) (sym session) (client.in_phase opened));
      room = λ now busy. kept 1 (client.room opened (subst (λ (s : S). phase_at (own s) (seat s) ≡ Idle → ⊥) session busy));
      left = λ stopped. absurd (differ c.transcript.standing opened (sym still.standing_so ∙ stopped));
    };
    same = same;
    onward = onward;
    ran = λ v before f end.
        let ran : HasRun f v c.transcript (own d.session) = subst (λ (s : S). HasRun f v c.transcript (own s)) (sym session) (before f (onward.ends_so f end)) in
        run_same f v (own c.session) (own d.session) c.transcript d.transcript still ran;
    stops = λ _ stopped. absurd (differ c.transcript.standing opened (sym still.standing_so ∙ stopped));
    over = λ over. absurd (over opened);
  }

-- WHAT WAS ASKED
pub more_asked : (c d : Transcript) (l : ScriptLine) (a : Answer) → l.session ≡ c.seat → HasMore c l a d → HasMore c (record { line = l.line; session = c.seat; command = l.command }) a d
more_asked c d l a own more = subst (λ (n : ℕ). HasMore c (record { line = l.line; session = n; command = l.command }) a d) own more

pub ends_asked : (c d : Transcript) (l : ScriptLine) → l.session ≡ c.seat → EndsWith c l d → EndsWith c (record { line = l.line; session = c.seat; command = l.command }) d
ends_asked c d l own ends = subst (λ (n : ℕ). EndsWith c (record { line = l.line; session = n; command = l.command }) d) own ends

-- a transcript that has had room made for it has the same lines
module _ (b c d : Transcript) (same : IsSame b c) (kept : (spare : ℕ) → HasRoom spare b → HasRoom spare c) (asked : Command) where
  pub more_same : (l : ScriptLine) (a : Answer) → HasMore c l a d → HasMore b l a d
  more_same l a more = record {
    seat = more.seat ∙ same.seat;
    lines = more.lines ∙ ap (λ (ls : List ScriptLine). ls ++ l ∷ []) same.lines;
    answers = more.answers ∙ ap (λ (gs : List Answer). gs ++ a ∷ []) same.answers;
    standing_so = more.standing_so ∙ same.standing_so;
    room = room_then same.room more.room;
  }

  ends_same : (l : ScriptLine) → EndsWith c l d → EndsWith b l d
  ends_same l ends = record {
    seat = ends.seat ∙ same.seat;
    lines = ends.lines ∙ ap (λ (ls : List ScriptLine). ls ++ l ∷ []) same.lines;
    answers = ends.answers ∙ same.answers;
    standing_so = ends.standing_so;
    room = room_then same.room ends.room;
  }

  starves_same : Starves c d → Starves b d
  starves_same starves = record { seat = starves.seat ∙ same.seat; lines = starves.lines ∙ same.lines; answers = starves.answers ∙ same.answers; standing_so = starves.standing_so; room = room_then same.room starves.room }

  same_same : IsSame c d → IsSame b d
  same_same again = record { seat = again.seat ∙ same.seat; lines = again.lines ∙ same.lines; answers = again.answers ∙ same.answers; standing_so = again.standing_so ∙ same.standing_so; room = room_then same.room again.room }

  answered_same : (a : Answer) → IsAnswered c asked a d → IsAnswered b asked a d
  answered_same a it = record {
    opened = sym same.standing_so ∙ it.opened;
    number = it.number;
    more = subst (λ (n : ℕ). HasMore b (record { line = it.number; session = n; command = asked }) a d) same.seat (more_same (record { line = it.number; session = c.seat; command = asked }) a it.more);
    tells = it.tells;
    comes = subst (λ (p : Progress). ComesAlone a p) (dealt_same b c same) it.comes;
  }

  pub refused_same : (why : Refusal) → IsRefused c asked why d → IsRefused b asked why d
  refused_same why (refused.answered a it is) = refused.answered a (answered_same a it) is
  refused_same why (refused.untold table low high found scans it is) = refused.untold table low high found scans (answered_same (answer.Replied (reply.Found found)) it) is
  refused_same why (refused.stopped number opened is ends) =
      refused.stopped number (sym same.standing_so ∙ opened) is
      (subst (λ (n : ℕ). EndsWith b (record { line = number; session = n; command = asked }) d) same.seat (ends_same (record { line = number; session = c.seat; command = asked }) ends))
  refused_same why (refused.starved opened is starves) = refused.starved (sym same.standing_so ∙ opened) is (starves_same starves)
  refused_same why (refused.unasked opened is none again) = refused.unasked (sym same.standing_so ∙ opened) is (λ room. none (kept (room_for asked) room)) (same_same again)
  refused_same why (refused.over is again) = refused.over (ap over_told (sym same.standing_so) ∙ is) (same_same again)

  pub if_refused : {Y : Type 0} (result : Result Y Refusal) → IfErr result (λ why. IsRefused c asked why d) → IfErr result (λ why. IsRefused b asked why d)
  if_refused (Ok y) it = tt
  if_refused (Err why) it = refused_same why it

-- WHAT IS TOLD of the last answer
module _ {phase next : Phase} (c d : Transcript) (asked : Command) (w : IsAsked phase next c asked d) (last : Answer) (is : (front : List Answer) (a : Answer) → d.answers.items ≡ front ++ a ∷ [] → last ≡ a) where
  pub last_is : last ≡ w.answer
  last_is = is c.answers.items w.answer w.answered.more.answers

  pub last_tells : MayTell asked last
  last_tells = subst (λ (a : Answer). MayTell asked a) (sym last_is) w.answered.tells

  pub told_err : {Y : Type 0} (result : Result Y Refusal) → IfErr result (λ why. refusal_told last ≡ Some why) → IfErr result (λ why. IsRefused c asked why d)
  told_err (Ok y) told = tt
  told_err (Err why) told = refused.answered w.answer w.answered (ap refusal_told (sym last_is) ∙ told)

  pub told_ok : {Y : Type 0} (P : Y → Answer) (result : Result Y Refusal) → IfOk result (λ y. last ≡ P y) → IfOk result (λ y. IsAnswered c asked (P y) d)
  told_ok P (Ok y) told = subst (λ (a : Answer). IsAnswered c asked a d) (sym last_is ∙ told) w.answered
  told_ok P (Err why) told = tt

  -- what an answer leaves nothing in progress behind
  pub leaves_idle : {Y : Type 0} (P : Y → Answer) (result : Result Y Refusal) → ((y : Y) → phase_after (Some asked) (P y) phase ≡ Idle) → IfOk result (λ y. last ≡ P y) → OnOk result (next ≡ Idle)
  leaves_idle P (Ok y) rests told = w.leaves ∙ ap (λ (a : Answer). phase_after (Some asked) a phase) (sym last_is ∙ told) ∙ rests y
  leaves_idle P (Err why) rests told = tt

  pub leaves_idle_so : {Y : Type 0} (P : Answer) (result : Result Y Refusal) → phase_after (Some asked) P phase ≡ Idle → OnOk result (last ≡ P) → OnOk result (next ≡ Idle)
  leaves_idle_so P (Ok y) rests told = w.leaves ∙ ap (λ (a : Answer). phase_after (Some asked) a phase) (sym last_is ∙ told) ∙ rests
  leaves_idle_so P (Err why) rests told = tt

-- of what was found there may be no memory
module _ {phase next : Phase} (c d : Transcript) (table low high : ℕ) (w : IsAsked phase next c (command.Scan table low high) d) (last : Answer)
    (is : (front : List Answer) (a : Answer) → d.answers.items ≡ front ++ a ∷ [] → last ≡ a) where
  untold : (why : Refusal) (it : IsUntold last why) → IsRefused c (command.Scan table low high) why d
  untold why it =
      refused.untold table low high it.found refl
      (subst (λ (a : Answer). IsAnswered c (command.Scan table low high) a d) (sym (last_is c d (command.Scan table low high) w last is) ∙ it.is) w.answered) it.memory

  pub found_err : {Y : Type 0} (result : Result Y Refusal) → IfErr result (λ why. (refusal_told last ≡ Some why) ⊎ IsUntold last why)
      → IfErr result (λ why. IsRefused c (command.Scan table low high) why d)
  found_err (Ok y) told = tt
  found_err (Err why) told = ⊎_elim
      (λ (it : refusal_told last ≡ Some why). refused.answered w.answer w.answered (ap refusal_told (sym (last_is c d (command.Scan table low high) w last is)) ∙ it))
      (λ (it : IsUntold last why). untold why it) told

-- WHAT RESTS
module _ {S T X : Type 0} (stands : X → S → Type 0) (seat : S → ℕ) (own : S → View) (d : Client S T X) (client : IsClient stands seat own d) where
  pub rests_idle : phase_at (own d.session) (seat d.session) ≡ Idle → Rests seat own d
  rests_idle idle = record {
    idle = λ now. idle;
    none = λ now. record {
      no_transaction = none_current (phase_at (own d.session) (seat d.session)) (dealings_of d.transcript) (client.in_phase now) idle;
      no_snapshot = none_watched (phase_at (own d.session) (seat d.session)) (dealings_of d.transcript) (client.in_phase now) idle;
    };
    left = client.left;
  }

  pub rests_over : (d.transcript.standing ≡ standing.Open → ⊥) → Rests seat own d
  rests_over over = record { idle = λ now. absurd (over now); none = λ now. absurd (over now); left = client.left }

  pub rests_ok : {Y : Type 0} (result : Result Y Refusal) → OnOk result (phase_at (own d.session) (seat d.session) ≡ Idle) → OnOk result (Rests seat own d)
  rests_ok (Ok y) idle = rests_idle idle
  rests_ok (Err why) idle = tt

-- where there is room unless it is idle, and there isn't, it is idle
pub idle_without : (phase : Phase) (Room : Type 0) → ((phase ≡ Idle → ⊥) → Room) → (Room → ⊥) → phase ≡ Idle
idle_without Idle Room there none = refl
idle_without Active Room there none = absurd (none (there (λ (is : Active ≡ Idle). cc)))
idle_without Sealed Room there none = absurd (none (there (λ (is : Sealed ≡ Idle). cc)))
idle_without Pending Room there none = absurd (none (there (λ (is : Pending ≡ Idle). cc)))
idle_without Safe Room there none = absurd (none (there (λ (is : Safe ≡ Idle). cc)))

-- WHAT ROOM IS LEFT behind a line: room for another one, unless it was an abort
pub room_left : (c : Command) (b d : Transcript) → HasRoom (room_for c) b → (HasRoom 2 b → HasRoom 1 d) → (c ≡ command.Abort) ⊎ HasRoom 1 d
room_left command.Abort b d room left = inl refl
room_left c b d room left = inr (left room)

pub room_within : (many : ℕ) (b : Transcript) → HasRoom (many + 1) b → HasRoom 1 b
room_within many b room = record { lines = omega (arith, room.lines); answers = omega (arith, room.answers) }

pub room_now : (c : Command) (b : Transcript) → HasRoom (room_for c) b → HasRoom 1 b
room_now command.Abort b room = room
room_now c b room = room_within 1 b room

-- WHAT IS REFUSED to an end of a snapshot
pub unended : {Y : Type 0} (c d : Transcript) (result : Result Y Refusal) → IfErr result (λ why. IsRefused c command.Commit why d) → IfErr result (λ why. why ≢ refusal.Ended)
    → IfErr result (λ why. IsUnended c why d)
unended c d (Ok y) it other = tt
unended c d (Err why) it other = refused.refused it other

pub unended_by : {Y : Type 0} (c d : Transcript) (result : Result Y Refusal) (why : Refusal) → IsErr result × IsErrAnd result (λ other. other ≡ why) → IsRefused c command.Commit why d
    → why ≢ refusal.Ended → IfErr result (λ why. IsUnended c why d)
unended_by c d (Ok y) why is it other = tt
unended_by c d (Err w) why is it other = subst (λ (x : Refusal). IsUnended c x d) (sym is.1) (refused.refused it other)
