-- What the planted engine notes: its transcripts are ones as clients write them, which tell of no snapshot.
use Rattle.std.proofs.Common.{◌≡◌, ℕ, length, Some, None, refl, sym, ap, ◌∙◌, subst}
use Rattle.std.specs.Option.{option_map}
use Rattle.erm_client.proofs.Dealt.{dealt_answered, dealt_same}
use Rattle.erm_client.proofs.Grown.{more_transcript, same_transcript}
use Rattle.erm_client.proofs.Steps.{more_asked, more_same}
use Rattle.erm_client.specs.Dealings.{ComesAlone, dealings_of}
use Rattle.erm_client.specs.declared.transcript.Standing.{Standing}
use Rattle.erm_client.specs.declared.transcript.Transcript.{Transcript}
use Rattle.erm_client.specs.Refusals.{IsOfClient, MayTell}
use Rattle.erm_client.specs.Transcripts.{HasAnswers, HasMore, HasRoom, IsAnswered, IsLine, IsSame}
use Rattle.erm_client_cases.specs.Planted.{IsOfPlanted, IsTold}
use Rattle.erm_good_report.specs.Transactions.{Progress, heard, with_look}
use Rattle.erm_report.specs.declared.answer.Answer.{Answer}
use Rattle.erm_report.specs.declared.answer.Answer.TheVariants as answer
use Rattle.erm_script.specs.declared.script.Command.{Command}
use Rattle.erm_script.specs.declared.script.ScriptLine.{ScriptLine}
use Rattle.erm_script.specs.Script.{IsInRange}
use Rattle.erm_worker.specs.Work.{MayBeAsked}

-- no snapshot begins
none_heard : (session : ℕ) (asked : Command) (a : Answer) (p : Progress) → IsOfPlanted a → p.snapshot ≡ None → (heard session (Some asked) a p).snapshot ≡ None
none_heard session asked (answer.Began begin) p of none = none
none_heard session asked (answer.Replied reply) p of none = ap (option_map (with_look (Some asked) (answer.Replied reply))) none
none_heard session asked (answer.Committed stamp succ pred) p of none = refl
none_heard session asked answer.Aborted p of none = refl
none_heard session asked (answer.Newer stamp) p of none = refl
none_heard session asked answer.NotIdle p of none = none
none_heard session asked answer.NoTransaction p of none = none
none_heard session asked answer.ReadsFull p of none = ap (option_map (with_look (Some asked) answer.ReadsFull)) none
none_heard session asked answer.WritesFull p of none = ap (option_map (with_look (Some asked) answer.WritesFull)) none
none_heard session asked a p of none = absurd of

alone : (a : Answer) (p : Progress) → IsOfPlanted a → p.snapshot ≡ None → ComesAlone a p
alone (answer.Began begin) p of none = none
alone (answer.Safe begin) p of none = absurd of
alone a p of none = tt

-- a transcript with room made
pub same_told : (c d : Transcript) → IsTold c → IsSame c d → IsTold d
same_told c d told same = record {
  ok = same_transcript c d told.ok same.seat same.lines same.answers
      (subst (λ (s : Standing). HasAnswers s (length c.lines.items) (length c.answers.items)) (sym same.standing_so) told.ok.each);
  opened = same.standing_so ∙ told.opened;
  none = ap (λ (p : Progress). p.snapshot) (dealt_same c d same) ∙ told.none;
}

-- a line more, behind room made
module _ (c m d : Transcript) (told : IsTold c) (same : IsSame c m) (kept : (spare : ℕ) → HasRoom spare c → HasRoom spare m) (asked : Command) (a : Answer) (of : IsOfPlanted a) (tells : MayTell asked a)
    (l : ScriptLine) (own : l.session ≡ m.seat) (is : l.command ≡ asked) (more : HasMore m l a d) where
  pub noted : IsAnswered c asked a d
  noted = record {
    opened = told.opened;
    number = l.line;
    more = subst (λ (x : Command). HasMore c (record { line = l.line; session = c.seat; command = x }) a d) is
        (more_asked c d l a (own ∙ same.seat) (more_same c m d same kept asked l a more));
    tells = tells;
    comes = alone a (dealings_of c) of told.none;
  }

  pub noted_told : MayBeAsked asked → IsOfClient asked → IsInRange asked → IsTold d
  unfolding noted
  noted_told may of_client range =
      let line : IsLine c.seat (record { line = l.line; session = c.seat; command = asked }) = record { own = refl; may = may; of_client = of_client; range = range } in
      record {
        ok = more_transcript c d (record { line = l.line; session = c.seat; command = asked }) a told.ok told.opened line tells noted.more;
        opened = noted.more.standing_so ∙ told.opened;
        none = ap (λ (p : Progress). p.snapshot) (dealt_answered c d asked a told.ok noted) ∙ none_heard c.seat asked a (dealings_of c) of told.none;
      }
