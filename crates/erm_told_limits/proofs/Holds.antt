-- What is so after some lines of an execution.
use Rattle.std.proofs.Common.{◌≡◌, ℕ, ◌+◌, ◌*◌, ◌<◌, ◌≤◌, ◌==◌, Bool, true, cond, List, [], ◌∷◌, ◌++◌, Option, Some, None, length, is_some, refl, sym, ap, ◌∙◌, subst, inl, inr, ⊎_elim, ne_eqb, arith}
use Rattle.std.proofs.lemmas.Bool.{cases_eq}
use Rattle.std.proofs.lemmas.Bool.Decides.{eqb_tells}
use Rattle.std.proofs.lemmas.List.{length-append}
use Rattle.std.proofs.lemmas.List.Sums.{fold-append, sum_by_push}
use Rattle.erm_model.specs.declared.limits.TheConstants.{GREATEST_BLOCK, WRITE_LIMIT}
use Rattle.erm_model.specs.declared.history.VersionRead.{VersionRead}
use Rattle.erm_model.specs.declared.history.VersionWritten.{VersionWritten}
use Rattle.erm_model.specs.declared.outcome.Phase.TheVariants.{Active}
use Rattle.erm_machine.proofs.Listed.{∈-first}
use Rattle.erm_node.specs.Sound.{reached, sound_law}
use Rattle.erm_world.specs.Laws.{IsSerializable}
use Rattle.erm_world.specs.Works.{row_read}
use Rattle.erm_world.specs.World.{IsSession, Session, View, Work, claims_by_all, made_by_all, phase_at, phase_of, work_at, work_of}
use Rattle.erm_world.specs.World as world
use Rattle.erm_world.proofs.Lists.{∈-last}
use Rattle.erm_report.specs.declared.answer.Answer.{Answer}
use Rattle.erm_script.specs.declared.script.Command.{Command}
use Rattle.erm_script.specs.declared.script.Command.TheVariants as command
use Rattle.erm_script.specs.declared.script.ScriptLine.{ScriptLine}
use Rattle.erm_good_report.specs.Phases.{FitsRefusal, need_of, refusal_of}
use Rattle.erm_good_report.specs.Refusals.{claims_of, draws_of, makes_of, total_of}
use Rattle.erm_good_report.specs.Transactions.{Exchange, Progress, Said, Transaction, heard, nothing, progress_of, with_line}
use Rattle.erm_lines.specs.Answers.{DidAsked, DidCommand, DidLine, DidOperation}
use Rattle.erm_lines.specs.Executions.{DidFlush, DidLogLine, DidMove, move_of}
use Rattle.erm_lines.proofs.Keeping.{run_same}
use Rattle.erm_lines.proofs.Moved.{log_flushes, log_of_none, moved}
use Rattle.erm_told_limits.specs.Limits.{AreInRange}
use Rattle.erm_told_limits.proofs.Arrays.{HaveRowsBelow}
use Rattle.erm_told_limits.proofs.Grown.{Apart}
use Rattle.erm_told_limits.proofs.Heard.{Was, began_none, heard_line, heard_refusal, heard_was, is_operated, may_claim}
use Rattle.erm_told_limits.proofs.Lines.{HasRun, Known}
use Rattle.erm_told_limits.proofs.Looks.{MayHaveRead, command_looks, own_reads}
use Rattle.erm_told_limits.proofs.Moved.{Turned}
use Rattle.erm_told_limits.proofs.Reached.{Ways}
use Rattle.erm_told_limits.proofs.Tails.{line_tail}
use Rattle.erm_told_limits.proofs.Totals.{claims_kept, claims_turned, made_kept, made_turned, mades_by_all, mades_kept, mades_turned}
use Rattle.erm_told_limits.proofs.Turns.{BegunAreRuns, bare_after, in_either, line_runs, line_turned}

pub record Holds (ls : List ScriptLine) (said : List Said) (v : View) : Type 0 where
  pub serializable : IsSerializable sound_law v
  pub runs : (seat : ℕ) → IsSession v seat → phase_at v seat ≡ Active → HasRun v seat
  -- all transactions have made and claimed no more than the lines may
  pub mades : mades_by_all v ≤ total_of makes_of ls
  pub claims : claims_by_all v ≤ total_of claims_of ls
  pub over : (seat : ℕ) → IsSession v seat → length (v.session seat).over ≤ length ls
  -- the log went on by no more than the lines may draw
  pub tail : v.tail ≤ v.opening.tail + GREATEST_BLOCK * total_of draws_of ls
  -- one in progress has claimed few objects, and no more than its lines may; it has read none twice, and no more than its lines may read
  pub few : (seat : ℕ) → IsSession v seat → length (work_at v seat).claims ≤ WRITE_LIMIT
  pub own : (seat : ℕ) (t : Transaction) → IsSession v seat → (progress_of seat said).current ≡ Some t → length (work_at v seat).claims ≤ may_claim t
  pub apart : (seat : ℕ) → IsSession v seat → Apart (work_at v seat).reads
  -- and each that it has read the opening's rows reach, or it was made
  pub seeks : AreInRange ls → (seat : ℕ) (t : Transaction) → IsSession v seat → (progress_of seat said).current ≡ Some t → MayHaveRead (work_at v seat) t
  pub known : AreInRange ls → (seat : ℕ) (x : ℕ) → IsSession v seat → is_some (row_read (work_at v seat).reads x) ≡ true → 0 < reached v.opening.rows x + made_by_all v x

-- what the laws below say
pub record Laws : Type 0 where
  pub rows_below : HaveRowsBelow
  pub ways : Ways
  pub start : BegunAreRuns

-- what a line says
abbrev pub said_by : ScriptLine → Answer → Said
said_by l a = record { session = l.session; asked = Some l.command; answer = a }

progress_then : (seat : ℕ) (said : List Said) (l : ScriptLine) (a : Answer) → progress_of seat (said ++ said_by l a ∷ []) ≡ cond (l.session == seat) (heard seat (Some l.command) a (progress_of seat said)) (progress_of seat said)
progress_then seat said l a = fold-append (λ (p : Progress) (s : Said). cond (s.session == seat) (heard seat s.asked s.answer p) p) nothing said (said_by l a ∷ [])

-- a transaction has claimed no more than its lines may
module _ (c : Command) (a : Answer) (p : Progress) (v : View) (seat : ℕ) (t : View) (u : Transaction) (grown : length (work_at t seat).claims ≤ length (work_at v seat).claims + claims_of c)
    (before : (w : Transaction) → p.current ≡ Some w → length (work_at v seat).claims ≤ may_claim w) where
  from_before : (more : ℕ) → Was claims_of p.current u more → claims_of c ≤ more → length (work_at t seat).claims ≤ may_claim u
  from_before more was most =
      let old = before was.before was.is in
      omega (arith, grown, old, was.lines, most)

  unwritten : claims_of c ≡ 0 → DidCommand v seat c a t → (heard seat (Some c) a p).current ≡ Some u → length (work_at t seat).claims ≤ may_claim u
  unwritten none by e = elim (heard_was claims_of seat c p u a e) as (λ _. length (work_at t seat).claims ≤ may_claim u) [
    | inl began ↦
        let new = began_none v seat t began.0 c (subst (λ (x : Answer). DidCommand v seat c x t) began.1 by) in
        omega (arith, ap (λ (w : Work). length w.claims) new.1)
    | inr was ↦ from_before 0 was (omega (arith, none))
  ]

  written : DidOperation v seat c a t → ((w : Transaction) → may_claim w + claims_of c ≤ may_claim (with_line (Some c) a w)) → (heard seat (Some c) a p).current ≡ Some u → length (work_at t seat).claims ≤ may_claim u
  written by grows e = from_before (claims_of c) (heard_line claims_of seat c p u a (is_operated v seat c a t by) grows e) (omega arith)

pub own_command : (c : Command) (a : Answer) (p : Progress) (v : View) (seat : ℕ) (t : View) (u : Transaction) → length (work_at t seat).claims ≤ length (work_at v seat).claims + claims_of c
    → ((w : Transaction) → p.current ≡ Some w → length (work_at v seat).claims ≤ may_claim w) → DidCommand v seat c a t → (heard seat (Some c) a p).current ≡ Some u → length (work_at t seat).claims ≤ may_claim u
own_command (command.Put table key value) a p v seat t u grown before by e =
    written (command.Put table key value) a p v seat t u grown before by (λ w. let one = sum_by_push (λ (x : Exchange). claims_of x.asked) w.lines (record { asked = command.Put table key value; answer = a }) in omega (arith, one)) e
own_command (command.Del table key) a p v seat t u grown before by e =
    written (command.Del table key) a p v seat t u grown before by (λ w. let one = sum_by_push (λ (x : Exchange). claims_of x.asked) w.lines (record { asked = command.Del table key; answer = a }) in omega (arith, one)) e
own_command (command.Tidy table key) a p v seat t u grown before by e =
    written (command.Tidy table key) a p v seat t u grown before by (λ w. let one = sum_by_push (λ (x : Exchange). claims_of x.asked) w.lines (record { asked = command.Tidy table key; answer = a }) in omega (arith, one)) e
own_command c a p v seat t u grown before by e = unwritten c a p v seat t u grown before refl by e

module _ (laws : Laws) (ls : List ScriptLine) (said : List Said) (v : View) (before : Holds ls said v) (l : ScriptLine) (a : Answer) (t : View) (did : DidLine v l a t) (holds : IsSerializable sound_law t) where
  abbrev turned : Turned (Known l.command t) (makes_of l.command) (claims_of l.command) 1 v l.session t
  turned = line_turned laws.rows_below laws.ways v l a t did holds (before.runs l.session did.session)

  there : (seat : ℕ) → IsSession t seat → IsSession v seat
  there seat session = subst (λ (o : world.Opening). (0 < seat) × (seat ≤ o.sessions)) turned.opening session

  by_seat : (B : Session → Type 0) (seat : ℕ) → (l.session ≡ seat → B (t.session seat)) → B (v.session seat) → B (t.session seat)
  by_seat B seat own other = elim (cases_eq seat l.session) as (λ _. B (t.session seat)) [
    | inl is ↦ own (sym is)
    | inr another ↦ subst B (sym (turned.others seat another)) other
  ]

  runs_then : (seat : ℕ) → IsSession t seat → phase_at t seat ≡ Active → HasRun t seat
  runs_then seat session =
      elim (cases_eq seat l.session) as (λ _. phase_at t seat ≡ Active → HasRun t seat) [
        | inl is ↦ subst (λ q. phase_at t q ≡ Active → HasRun t q) (sym is) (line_runs laws.start v l a t did (before.runs l.session did.session))
        | inr another ↦ run_same v t seat (turned.others seat another) (turned.saves seat another) (before.runs seat (there seat session))
      ]

  over_then : (seat : ℕ) → IsSession t seat → length (t.session seat).over ≤ length (ls ++ l ∷ [])
  over_then seat session =
      let longer = length-append ls (l ∷ []) in
      by_seat (λ s. length s.over ≤ length (ls ++ l ∷ [])) seat
      (λ is. subst (λ q. length (t.session q).over ≤ length (ls ++ l ∷ [])) is (let most = before.over l.session did.session in omega (arith, turned.own.over, most, longer)))
      (let most = before.over seat (there seat session) in omega (arith, most, longer))

  few_then : (seat : ℕ) → IsSession t seat → length (work_at t seat).claims ≤ WRITE_LIMIT
  few_then seat session =
      by_seat (λ s. length (work_of s.stand).claims ≤ WRITE_LIMIT) seat
      (λ is. subst (λ q. length (work_at t q).claims ≤ WRITE_LIMIT) is (turned.own.now.few (before.few l.session did.session)))
      (before.few seat (there seat session))

  apart_then : (seat : ℕ) → IsSession t seat → Apart (work_at t seat).reads
  apart_then seat session =
      by_seat (λ s. Apart (work_of s.stand).reads) seat
      (λ is. subst (λ q. Apart (work_at t q).reads) is (turned.own.now.apart (before.apart l.session did.session)))
      (before.apart seat (there seat session))

  still_known : (x : ℕ) → 0 < reached v.opening.rows x + made_by_all v x → 0 < reached t.opening.rows x + made_by_all t x
  still_known x some =
      let more = made_turned (Known l.command t) (makes_of l.command) (claims_of l.command) 1 v l.session t did.session turned x in
      let same : reached t.opening.rows x ≡ reached v.opening.rows x = ap (λ (o : world.Opening). reached o.rows x) turned.opening in
      omega (arith, some, more, same)

  known_then : AreInRange (ls ++ l ∷ []) → (seat : ℕ) (x : ℕ) → IsSession t seat → is_some (row_read (work_at t seat).reads x) ≡ true → 0 < reached t.opening.rows x + made_by_all t x
  known_then range seat x session =
      let earlier : AreInRange ls = λ k m. range k (∈-first ls (l ∷ []) k m) in
      by_seat (λ s. is_some (row_read (work_of s.stand).reads x) ≡ true → 0 < reached t.opening.rows x + made_by_all t x) seat
      (λ is. subst (λ q. is_some (row_read (work_at t q).reads x) ≡ true → 0 < reached t.opening.rows x + made_by_all t x) is
      (λ read. elim (turned.own.reads x read) as (λ _. 0 < reached t.opening.rows x + made_by_all t x) [
        | inl old ↦ still_known x (before.known earlier l.session x did.session old)
        | inr new ↦ new (range l (∈-last ls l))
      ]))
      (λ read. still_known x (before.known earlier seat x (there seat session) read))

  by_refusal : (u : Transaction) (refusal : Option Answer) → refusal_of (phase_at v l.session) l.command ≡ refusal → FitsRefusal refusal l.command a → DidAsked refusal v l.session l.command a t
      → (heard l.session (Some l.command) a (progress_of l.session said)).current ≡ Some u → length (work_at t l.session).claims ≤ may_claim u
  by_refusal u (Some r) is fits same e =
      let p = progress_of l.session said in
      let nothing_heard : heard l.session (Some l.command) a p ≡ p =
      subst (λ (x : Answer). heard l.session (Some l.command) x p ≡ p) (sym fits) (heard_refusal l.session (Some l.command) p (need_of l.command) (phase_at v l.session) r is) in
      let old = before.own l.session u did.session (sym (ap (λ (q : Progress). q.current) nothing_heard) ∙ e) in
      omega (arith, old, ap (λ (x : View). length (work_at x l.session).claims) same)
  by_refusal u None is fits by e =
      in_either (length (work_at t l.session).claims ≤ may_claim u) v t l.session l.command a
      (λ plain done. own_command l.command a (progress_of l.session said) v l.session t u turned.own.now.claimed (λ w there. before.own l.session w did.session there) done e)
      (λ has done. omega (arith, ap (λ (claims : List VersionWritten). length claims) (bare_after v t l.session l.command a has done).claims)) by

  own_then : (seat : ℕ) (u : Transaction) → IsSession t seat → (progress_of seat (said ++ said_by l a ∷ [])).current ≡ Some u → length (work_at t seat).claims ≤ may_claim u
  own_then seat u session e =
      elim (eqb_tells l.session seat) as (λ _. length (work_at t seat).claims ≤ may_claim u) [
        | inl here ↦
            let p = progress_of seat said in
            let told : progress_of seat (said ++ said_by l a ∷ []) ≡ heard seat (Some l.command) a p =
            progress_then seat said l a ∙ ap (λ (b : Bool). cond b (heard seat (Some l.command) a p) p) here.0 in
            subst (λ q. (heard q (Some l.command) a (progress_of q said)).current ≡ Some u → length (work_at t q).claims ≤ may_claim u) here.1
            (λ heard_so. by_refusal u (refusal_of (phase_at v l.session) l.command) refl did.fits did.did heard_so)
            (sym (ap (λ (q : Progress). q.current) told) ∙ e)
        | inr another ↦
            let p = progress_of seat said in
            let told : progress_of seat (said ++ said_by l a ∷ []) ≡ p =
            progress_then seat said l a ∙ ap (λ (b : Bool). cond b (heard seat (Some l.command) a p) p) another.0 in
            subst (λ (s : Session). length (work_of s.stand).claims ≤ may_claim u) (sym (turned.others seat (λ is. another.1 (sym is))))
            (before.own seat u (there seat session) (sym (ap (λ (q : Progress). q.current) told) ∙ e))
      ]

  -- what it has read
  module _ (range : AreInRange (ls ++ l ∷ [])) where
    ranged : AreInRange ls
    ranged k m = range k (∈-first ls (l ∷ []) k m)

    refusal_reads : (u : Transaction) (refusal : Option Answer) → refusal_of (phase_at v l.session) l.command ≡ refusal → FitsRefusal refusal l.command a → DidAsked refusal v l.session l.command a t
        → (heard l.session (Some l.command) a (progress_of l.session said)).current ≡ Some u → MayHaveRead (work_at t l.session) u
    refusal_reads u (Some r) is fits same e =
        let p = progress_of l.session said in
        let nothing_heard : heard l.session (Some l.command) a p ≡ p =
        subst (λ (x : Answer). heard l.session (Some l.command) x p ≡ p) (sym fits) (heard_refusal l.session (Some l.command) p (need_of l.command) (phase_at v l.session) r is) in
        subst (λ (x : View). MayHaveRead (work_at x l.session) u) (sym same) (before.seeks ranged l.session u did.session (sym (ap (λ (q : Progress). q.current) nothing_heard) ∙ e))
    refusal_reads u None is fits by e =
        in_either (MayHaveRead (work_at t l.session) u) v t l.session l.command a
        (λ plain done.
        own_reads l.command a (progress_of l.session said) v l.session t u (turned.own.now.apart (before.apart l.session did.session))
        (command_looks laws.rows_below laws.ways v l.session t did.session holds (before.runs l.session did.session) l.command a is plain (range l (∈-last ls l)) done)
        (λ w there. before.seeks ranged l.session w did.session there) done e)
        (λ has done. inl (omega (arith, ap (λ (reads : List VersionRead). length reads) (bare_after v t l.session l.command a has done).reads))) by

    seeks_then : (seat : ℕ) (u : Transaction) → IsSession t seat → (progress_of seat (said ++ said_by l a ∷ [])).current ≡ Some u → MayHaveRead (work_at t seat) u
    seeks_then seat u session e =
        elim (eqb_tells l.session seat) as (λ _. MayHaveRead (work_at t seat) u) [
          | inl here ↦
              let p = progress_of seat said in
              let told : progress_of seat (said ++ said_by l a ∷ []) ≡ heard seat (Some l.command) a p =
              progress_then seat said l a ∙ ap (λ (b : Bool). cond b (heard seat (Some l.command) a p) p) here.0 in
              subst (λ q. (heard q (Some l.command) a (progress_of q said)).current ≡ Some u → MayHaveRead (work_at t q) u) here.1
              (λ heard_so. refusal_reads u (refusal_of (phase_at v l.session) l.command) refl did.fits did.did heard_so)
              (sym (ap (λ (q : Progress). q.current) told) ∙ e)
          | inr another ↦
              let p = progress_of seat said in
              let told : progress_of seat (said ++ said_by l a ∷ []) ≡ p =
              progress_then seat said l a ∙ ap (λ (b : Bool). cond b (heard seat (Some l.command) a p) p) another.0 in
              subst (λ (s : Session). MayHaveRead (work_of s.stand) u) (sym (turned.others seat (λ is. another.1 (sym is))))
              (before.seeks ranged seat u (there seat session) (sym (ap (λ (q : Progress). q.current) told) ∙ e))
        ]

holds_then : (laws : Laws) (ls : List ScriptLine) (said : List Said) (v : View) → Holds ls said v → (l : ScriptLine) (a : Answer) (t : View) → DidLine v l a t → IsSerializable sound_law t
    → Holds (ls ++ l ∷ []) (said ++ said_by l a ∷ []) t
holds_then laws ls said v before l a t did holds =
    let turn = turned laws ls said v before l a t did holds in
    record {
      serializable = holds;
      runs = runs_then laws ls said v before l a t did holds;
      mades =
          let more = mades_turned (Known l.command t) (makes_of l.command) (claims_of l.command) 1 v l.session t did.session turn in
          omega (arith, more, before.mades, sum_by_push (λ (k : ScriptLine). makes_of k.command) ls l);
      claims =
          let more = claims_turned (Known l.command t) (makes_of l.command) (claims_of l.command) 1 v l.session t did.session turn in
          omega (arith, more, before.claims, sum_by_push (λ (k : ScriptLine). claims_of k.command) ls l);
      tail =
          let more = line_tail v l a t did in
          let same : t.opening.tail ≡ v.opening.tail = ap (λ (o : world.Opening). o.tail) turn.opening in
          omega (arith, more, same, before.tail, sum_by_push (λ (k : ScriptLine). draws_of k.command) ls l);
      over = over_then laws ls said v before l a t did holds;
      few = few_then laws ls said v before l a t did holds;
      own = own_then laws ls said v before l a t did holds;
      apart = apart_then laws ls said v before l a t did holds;
      seeks = seeks_then laws ls said v before l a t did holds;
      known = known_then laws ls said v before l a t did holds;
    }

-- A line of the log leaves the sessions.
module _ (ls : List ScriptLine) (said : List Said) (v : View) (before : Holds ls said v) (l : ScriptLine) (a : Answer) (t : View) (did : DidLogLine v l a t) (holds : IsSerializable sound_law t) where
  abbrev kept : DidFlush v t
  kept = log_flushes v t l a did

  was_there : (seat : ℕ) → IsSession t seat → IsSession v seat
  was_there seat session = subst (λ (o : world.Opening). (0 < seat) × (seat ≤ o.sessions)) kept.opening session

  by_same : (B : Session → Type 0) (seat : ℕ) → IsSession t seat → B (v.session seat) → B (t.session seat)
  by_same B seat session is = subst B (sym (kept.session seat (was_there seat session))) is

  own_logged : (seat : ℕ) (u : Transaction) → IsSession t seat → (progress_of seat (said ++ said_by l a ∷ [])).current ≡ Some u → length (work_at t seat).claims ≤ may_claim u
  own_logged seat u session e =
      let p = progress_of seat said in
      let told : progress_of seat (said ++ said_by l a ∷ []) ≡ p =
      progress_then seat said l a ∙ ap (λ (b : Bool). cond b (heard seat (Some l.command) a p) p) (ne_eqb l.session seat (log_of_none v t l a seat did session.0)) in
      by_same (λ s. length (work_of s.stand).claims ≤ may_claim u) seat session
      (before.own seat u (was_there seat session) (sym (ap (λ (q : Progress). q.current) told) ∙ e))

  seeks_logged : AreInRange (ls ++ l ∷ []) → (seat : ℕ) (u : Transaction) → IsSession t seat → (progress_of seat (said ++ said_by l a ∷ [])).current ≡ Some u → MayHaveRead (work_at t seat) u
  seeks_logged range seat u session e =
      let p = progress_of seat said in
      let told : progress_of seat (said ++ said_by l a ∷ []) ≡ p =
      progress_then seat said l a ∙ ap (λ (b : Bool). cond b (heard seat (Some l.command) a p) p) (ne_eqb l.session seat (log_of_none v t l a seat did session.0)) in
      by_same (λ s. MayHaveRead (work_of s.stand) u) seat session
      (before.seeks (λ k m. range k (∈-first ls (l ∷ []) k m)) seat u (was_there seat session) (sym (ap (λ (q : Progress). q.current) told) ∙ e))

  known_logged : AreInRange (ls ++ l ∷ []) → (seat : ℕ) (x : ℕ) → IsSession t seat → is_some (row_read (work_at t seat).reads x) ≡ true → 0 < reached t.opening.rows x + made_by_all t x
  known_logged range seat x session =
      by_same (λ s. is_some (row_read (work_of s.stand).reads x) ≡ true → 0 < reached t.opening.rows x + made_by_all t x) seat session
      (λ read.
      let some = before.known (λ k m. range k (∈-first ls (l ∷ []) k m)) seat x (was_there seat session) read in
      let same : reached t.opening.rows x ≡ reached v.opening.rows x = ap (λ (o : world.Opening). reached o.rows x) kept.opening in
      omega (arith, some, same, made_kept v t kept x))

  pub holds_logged : Holds (ls ++ l ∷ []) (said ++ said_by l a ∷ []) t
  holds_logged = record {
    serializable = holds;
    runs = λ seat session. run_same v t seat (kept.session seat (was_there seat session)) (kept.saves seat (was_there seat session)) (before.runs seat (was_there seat session));
    mades = omega (arith, mades_kept v t kept, before.mades, sum_by_push (λ (k : ScriptLine). makes_of k.command) ls l);
    claims = omega (arith, claims_kept v t kept, before.claims, sum_by_push (λ (k : ScriptLine). claims_of k.command) ls l);
    tail =
        let same : t.opening.tail ≡ v.opening.tail = ap (λ (o : world.Opening). o.tail) kept.opening in
        omega (arith, kept.tail, same, before.tail, sum_by_push (λ (k : ScriptLine). draws_of k.command) ls l);
    over = λ seat session.
        by_same (λ s. length s.over ≤ length (ls ++ l ∷ [])) seat session (omega (arith, before.over seat (was_there seat session), length-append ls (l ∷ [])));
    few = λ seat session. by_same (λ s. length (work_of s.stand).claims ≤ WRITE_LIMIT) seat session (before.few seat (was_there seat session));
    own = own_logged;
    apart = λ seat session. by_same (λ s. Apart (work_of s.stand).reads) seat session (before.apart seat (was_there seat session));
    seeks = seeks_logged;
    known = known_logged;
  }

pub holds_moved : (laws : Laws) (ls : List ScriptLine) (said : List Said) (v : View) → Holds ls said v → (l : ScriptLine) (a : Answer) (t : View) → DidMove v (move_of l a) t → IsSerializable sound_law t
    → Holds (ls ++ l ∷ []) (said ++ said_by l a ∷ []) t
holds_moved laws ls said v before l a t did holds =
    ⊎_elim (λ (of_session : DidLine v l a t). holds_then laws ls said v before l a t of_session holds)
    (λ (of_log : DidLogLine v l a t). holds_logged ls said v before l a t of_log holds)
    (moved v l a t did)
