-- What a client's calls say of the transaction in progress, and of the stretch of its transcript.
use Rattle.std.proofs.Common.{◌≡◌, ℕ, ◌+◌, List, [], ◌∷◌, ◌++◌, Option, Some, None, Result, Ok, Err, IfErr, IfOk, OnOk, inl, inr, refl, sym, ap, ◌∙◌, subst}
use Rattle.std.specs.Option.{option_map, option_to_list}
use Rattle.erm_accounts.specs.Accounts.{Account, reads, table_of, writes}
use Rattle.erm_client.proofs.Dealt.{at_begun, at_replied, dealt_answered, safe_begun, safe_replied}
use Rattle.erm_client.proofs.Stretched.{begins_answered, never_ends, refused_now, went_answered, went_committed, went_ended, went_refused, went_unended}
use Rattle.erm_client.proofs.Telling.{answers_refuse}
use Rattle.erm_client.specs.Dealings.{HasNone, IsAt, IsSafeAt, begins_by, begins_in, dealings_of}
use Rattle.erm_client.specs.declared.refusal.Refusal.{Refusal}
use Rattle.erm_client.specs.declared.replies.Commit.{Commit}
use Rattle.erm_client.specs.declared.transcript.Transcript.{Transcript}
use Rattle.erm_client.specs.Refusals.{IsRefusal, MayTell}
use Rattle.erm_client.specs.Stretches.{Went}
use Rattle.erm_client.specs.Transcripts.{IsAnswered, IsRefused, IsTranscript, IsUnended}
use Rattle.erm_client.specs.Transcripts as transcripts
use Rattle.erm_good_report.specs.Transactions.{Commits, Progress, Transaction, with_ending}
use Rattle.erm_model.specs.declared.operation.Op.TheVariants as op
use Rattle.erm_model.specs.declared.operation.Reply.TheVariants as reply
use Rattle.erm_model.specs.Run.{Step}
use Rattle.erm_report.specs.declared.answer.Answer.{Answer}
use Rattle.erm_report.specs.declared.answer.Answer.TheVariants as answer
use Rattle.erm_script.specs.declared.script.Command.{Command}
use Rattle.erm_script.specs.declared.script.Command.TheVariants as command
use Rattle.erm_tellers.specs.Plans.{Aborts, IsDone}
use Rattle.erm_tellers.specs.Served as served
use Rattle.erm_tellers.specs.Tellers.{CommittedAt, finds}
use Rattle.erm_tellers.specs.Tries.{IsUnderWay, Refuses}

-- an answer that tells neither a commit nor that a snapshot has ended
abbrev pub IsPlain : Answer → Type 0
IsPlain (answer.Committed stamp succ pred) = ⊥
IsPlain answer.Ended = ⊥
IsPlain a = Unit {0}

plain_commit : (a : Answer) → IsPlain a → (stamp succ pred : ℕ) → a ≡ answer.Committed stamp succ pred → ⊥
plain_commit a plain stamp succ pred is = subst IsPlain is plain

plain_end : (c : Transcript) (a : Answer) → IsPlain a → a ≡ answer.Ended → HasNone c
plain_end c a plain is = absurd (subst IsPlain is plain)

module _ (c d : Transcript) (ok : IsTranscript c) where
  -- such an answer, or a refusal to a command that ends no snapshot
  pub went_by : {Y : Type 0} (P : Y → Answer) (asked : Command) (result : Result Y Refusal) → ((y : Y) → IsPlain (P y)) → (MayTell asked answer.Ended → ⊥)
      → IfOk result (λ y. IsAnswered c asked (P y) d) → IfErr result (λ why. IsRefused c asked why d) → Went (begins_by asked) [] [] c d
  went_by P asked (Ok y) plain never answered refused = went_answered c d ok asked (P y) (plain_commit (P y) (plain y)) (plain_end c (P y) (plain y)) answered
  went_by P asked (Err why) plain never answered refused = went_refused c d ok asked why (never_ends c asked why never) refused

  pub done_by : (P : Answer) (asked : Command) (result : Result (Unit {0}) Refusal) → IsPlain P → (MayTell asked answer.Ended → ⊥)
      → OnOk result (IsAnswered c asked P d) → IfErr result (λ why. IsRefused c asked why d) → Went (begins_by asked) [] [] c d
  done_by P asked (Ok y) plain never answered refused = went_answered c d ok asked P (plain_commit P plain) (plain_end c P plain) answered
  done_by P asked (Err why) plain never answered refused = went_refused c d ok asked why (never_ends c asked why never) refused

  -- how it is refused, whatever the command is called
  refuses : (asked : Command) (why : Refusal) → IsRefused c asked why d → Refuses asked why c d
  refuses asked why it = record {
    refused = it;
    counted = λ by. let answered = answers_refuse c d asked why by it in begins_answered c d asked answered.0 answered.1;
    standing_so = (refused_now c d ok asked why it).standing_so;
  }

  pub refused_by : {Y : Type 0} (asked named : Command) (result : Result Y Refusal) → asked ≡ named → IfErr result (λ why. IsRefused c asked why d) → IfErr result (λ why. Refuses named why c d)
  refused_by asked named (Ok y) is refused = tt
  refused_by asked named (Err why) is refused = subst (λ (x : Command). Refuses x why c d) is (refuses asked why refused)

  -- and how it is done, by an answer that is no refusal
  pub granted_by : {Y : Type 0} (P : Y → Answer) (asked named : Command) (result : Result Y Refusal) → ((y : Y) → IsRefusal (P y) → ⊥) → asked ≡ named
      → IfOk result (λ y. IsAnswered c asked (P y) d) → OnOk result (IsDone named c d)
  granted_by P asked named (Ok y) granted is answered = subst (λ (x : Command). IsDone x c d) is (record { answer = P y; answered = answered; granted = granted y })
  granted_by P asked named (Err why) granted is answered = tt

  pub granted_so : (P : Answer) (asked named : Command) (result : Result (Unit {0}) Refusal) → (IsRefusal P → ⊥) → asked ≡ named → OnOk result (IsAnswered c asked P d)
      → OnOk result (IsDone named c d)
  granted_so P asked named (Ok y) granted is answered = subst (λ (x : Command). IsDone x c d) is (record { answer = P; answered = answered; granted = granted })
  granted_so P asked named (Err why) granted is answered = tt

  -- a begin that was answered was asked once
  pub begun_by : {Y : Type 0} (P : Y → Answer) (asked : Command) (result : Result Y Refusal) → ((y : Y) → IsPlain (P y)) → ((y : Y) → IsRefusal (P y) → ⊥) → begins_by asked ≡ 1
      → IfOk result (λ y. IsAnswered c asked (P y) d) → OnOk result (IsUnderWay (asked ∷ []) c d)
  begun_by P asked (Ok y) plain granted one answered = record {
    did = (d, record { answer = P y; answered = answered; granted = granted y }, refl);
    went = subst (λ (n : ℕ). Went n [] [] c d) one (went_answered c d ok asked (P y) (plain_commit (P y) (plain y)) (plain_end c (P y) (plain y)) answered);
    once = begins_answered c d asked (P y) answered ∙ ap (λ (n : ℕ). begins_in c + n) one;
  }
  begun_by P asked (Err why) plain granted one answered = tt

  -- an abort
  pub aborted_by : (result : Result (Unit {0}) Refusal) → OnOk result (IsAnswered c command.Abort answer.Aborted d) → IfErr result (λ why. IsRefused c command.Abort why d) → Aborts c d
  aborted_by (Ok y) answered refused = inl answered
  aborted_by (Err why) answered refused = inr (why, refused)

  -- a commit that is refused in a transaction
  pub undone_by : {Y : Type 0} (result : Result Y Refusal) → IfErr result (λ why. IsRefused c command.Commit why d) → IfErr result (λ _. (steps : List Step) → IsAt c steps → Went 0 [] [] c d)
  undone_by (Ok y) refused = tt
  undone_by (Err why) refused = λ steps at. went_refused c d ok command.Commit why (λ a tells told is. at.alone) refused

  -- an end of a snapshot that is refused
  pub unended_by : {Y : Type 0} (result : Result Y Refusal) → IfErr result (λ why. IsUnended c why d) → IfErr result (λ _. Went 0 [] [] c d)
  unended_by (Ok y) unended = tt
  unended_by (Err why) unended = went_unended c d ok why unended

  pub why_unended : {Y : Type 0} (result : Result Y Refusal) → IfErr result (λ why. IsUnended c why d)
      → IfErr result (λ why. (begin : ℕ) (steps : List Step) → IsSafeAt c begin steps → Refuses command.Commit why c d)
  why_unended (Ok y) unended = tt
  why_unended (Err why) unended = λ begin steps at. of at unended
    where
      of : {begin : ℕ} {steps : List Step} → IsSafeAt c begin steps → IsUnended c why d → Refuses command.Commit why c d
      of at (transcripts.refused it other) = refuses command.Commit why it
      of at (transcripts.none is none same) = absurd (let so : Some at.current ≡ None = sym at.is ∙ none in cc)

module _ (c d : Transcript) (ok : IsTranscript c) where
  pub begun_at : (result : Result ℕ Refusal) → IfOk result (λ stamp. IsAnswered c command.Begin (answer.Began stamp) d) → OnOk result (IsAt d [])
  begun_at (Ok stamp) answered = at_begun c d stamp ok answered
  begun_at (Err why) answered = tt

  pub safe_at : (result : Result ℕ Refusal) → IfOk result (λ begin. IsAnswered c command.Safe (answer.Safe begin) d) → IfOk result (λ begin. IsSafeAt d begin [])
  safe_at (Ok begin) answered = safe_begun c d begin ok answered
  safe_at (Err why) answered = tt

  pub read_at : (account : Account) (customer table : ℕ) (result : Result (Option (List ℕ)) Refusal) → table ≡ table_of account
      → IfOk result (λ value. IsAnswered c (command.Get table customer) (answer.Replied (reply.Value value)) d)
      → IfOk result (λ value. (steps : List Step) → IsAt c steps → IsAt d (steps ++ reads account customer value ∷ []))
  read_at account customer table (Ok value) is answered = λ steps at.
      subst (λ (n : ℕ). IsAt d (steps ++ record { op = op.Get n customer; reply = reply.Value value } ∷ [])) is
      (at_replied c d (command.Get table customer) (reply.Value value) steps refl ok at answered)
  read_at account customer table (Err why) is answered = tt

  pub found_at : (account : Account) (low high table : ℕ) (result : Result (List (ℕ × List ℕ)) Refusal) → table ≡ table_of account
      → IfOk result (λ found. IsAnswered c (command.Scan table low high) (answer.Replied (reply.Found found)) d)
      → IfOk result (λ found. (steps : List Step) → IsAt c steps → IsAt d (steps ++ finds account low high found ∷ []))
  found_at account low high table (Ok found) is answered = λ steps at.
      subst (λ (n : ℕ). IsAt d (steps ++ record { op = op.Scan n low high; reply = reply.Found found } ∷ [])) is
      (at_replied c d (command.Scan table low high) (reply.Found found) steps refl ok at answered)
  found_at account low high table (Err why) is answered = tt

  pub seen_at : (account : Account) (low high table : ℕ) (result : Result (List (ℕ × List ℕ)) Refusal) → table ≡ table_of account
      → IfOk result (λ found. IsAnswered c (command.Scan table low high) (answer.Replied (reply.Found found)) d)
      → IfOk result (λ found. (begin : ℕ) (steps : List Step) → IsSafeAt c begin steps → IsSafeAt d begin (steps ++ finds account low high found ∷ []))
  seen_at account low high table (Ok found) is answered = λ begin steps at.
      subst (λ (n : ℕ). IsSafeAt d begin (steps ++ record { op = op.Scan n low high; reply = reply.Found found } ∷ [])) is
      (safe_replied c d (command.Scan table low high) (reply.Found found) begin steps refl ok at answered)
  seen_at account low high table (Err why) is answered = tt

  pub written_at : (account : Account) (customer table : ℕ) (value : List ℕ) (result : Result (Unit {0}) Refusal) → table ≡ table_of account
      → OnOk result (IsAnswered c (command.Put table customer value) (answer.Replied reply.Done) d)
      → OnOk result ((steps : List Step) → IsAt c steps → IsAt d (steps ++ writes account customer value ∷ []))
  written_at account customer table value (Ok y) is answered = λ steps at.
      subst (λ (n : ℕ). IsAt d (steps ++ record { op = op.Put n customer value; reply = reply.Done } ∷ [])) is
      (at_replied c d (command.Put table customer value) reply.Done steps refl ok at answered)
  written_at account customer table value (Err why) is answered = tt

  committed_at : (x : Commit) (steps : List Step) → IsAnswered c command.Commit (answer.Committed x.stamp x.succ x.pred) d → IsAt c steps → CommittedAt steps d
  committed_at x steps answered at = record {
    front = (dealings_of c).over;
    last = with_ending (Commits x.stamp x.succ x.pred) at.current;
    over = ap (λ (p : Progress). p.over) (dealt_answered c d command.Commit (answer.Committed x.stamp x.succ x.pred) ok answered)
        ∙ ap (λ (t : Option Transaction). (dealings_of c).over ++ option_to_list (option_map (with_ending (Commits x.stamp x.succ x.pred)) t)) at.is;
    commits = (x.stamp, x.succ, x.pred, refl);
    steps_are = at.steps_are;
  }

  pub committed_by : (result : Result Commit Refusal) → IfOk result (λ x. IsAnswered c command.Commit (answer.Committed x.stamp x.succ x.pred) d)
      → OnOk result ((steps : List Step) → IsAt c steps → served.Commits steps c d)
  committed_by (Ok x) answered = λ steps at.
      let one = went_committed c d ok x.stamp x.succ x.pred steps at answered in
      record { commit = one.0; steps_are = one.1; went = one.2; last = committed_at x steps answered at }
  committed_by (Err why) answered = tt

  pub ended_by : (result : Result (Unit {0}) Refusal) → OnOk result (IsAnswered c command.Commit answer.Ended d)
      → OnOk result ((begin : ℕ) (steps : List Step) → IsSafeAt c begin steps → served.Ends steps c d)
  ended_by (Ok y) answered = λ begin steps at. let one = went_ended c d ok begin steps at answered in record { snapshot = one.0; steps_are = one.1; went = one.3 }
  ended_by (Err why) answered = tt
