use Rattle.std.proofs.Common.{◌≡◌, ◌<◌, ℕ, true, length, refl, sym, ap, ◌∙◌, subst, arith, get_or, set, take, Option, Some, None}
use Rattle.std.proofs.lemmas.List.{get_or_default}
use Rattle.std.specs.Option.{option_map}
use Rattle.erm_good_report.specs.Transactions.{progress_of, said_of, with_line, works_on_map}
use Rattle.erm_explain.specs.declared.told.Told.{Told}
use Rattle.erm_explain.specs.Books.{ArePlacesOf, IsPlaceOf, transaction_of}
use Rattle.erm_explain.proofs.Moving.{current_moves, line_more}
use Rattle.erm_explain.proofs.Placed.{current_placed, places_more}
use Rattle.erm_explain.proofs.books.Books.note.Goals as goal

pub returns-in_ok-push-clause-notes : goal.returns-in_ok-push-clause-notes
returns-in_ok-push-clause-notes c script answers answer at told =
    let line = c.args.line.now in
    let current = c.args.self.now.current.items in
    let within : c.from-seat.result < length current = omega arith in
    let after : Told = record {
      session = c.in-Some.told.session;
      number = c.in-Some.told.number;
      begin = c.in-Some.told.begin;
      lines = c.push.new.self;
      sealed = c.in-Some.told.sealed;
      ending = c.in-Some.told.ending;
    }
    in
    let here : get_or current c.from-seat.result None ≡ Some c.in-Some.told =
    get_or_default current c.from-seat.result None c.index_mut.result.now within ∙ sym c.index_mut.ensures.value ∙ c.in-Some.is
    in
    let works : works_on_map line.command ≡ true = sym c.works_on_map.ensures ∙ cc c.if-not-works_on_map.false in
    current_moves script answers line.session c.args.self.now _ c.in-Some.told after (with_line (Some line.command) answer)
    (subst (λ (i : ℕ). i < length current) c.from-seat.ensures within)
    (subst (λ (i : ℕ). get_or current i None ≡ Some c.in-Some.told) c.from-seat.ensures here)
    (ap (λ (i : ℕ). set current i (Some after)) c.from-seat.ensures)
    refl refl refl
    (line_more script answers line c.args.place answer c.in-Some.told after at told works refl refl refl refl refl c.in_ok-push.ensures.items)

pub returns-in_ok-push-clause-placed : goal.returns-in_ok-push-clause-placed
returns-in_ok-push-clause-placed c answer script answers at told has placed =
    let line = c.args.line.now in
    let current = c.args.self.now.current.items in
    let within : c.from-seat.result < length current = omega arith in
    let after : Told = record {
      session = c.in-Some.told.session;
      number = c.in-Some.told.number;
      begin = c.in-Some.told.begin;
      lines = c.push.new.self;
      sealed = c.in-Some.told.sealed;
      ending = c.in-Some.told.ending;
    }
    in
    let here : get_or current c.from-seat.result None ≡ Some c.in-Some.told =
    get_or_default current c.from-seat.result None c.index_mut.result.now within ∙ sym c.index_mut.ensures.value ∙ c.in-Some.is
    in
    let its : get_or current line.session None ≡ Some c.in-Some.told = subst (λ (i : ℕ). get_or current i None ≡ Some c.in-Some.told) c.from-seat.ensures here in
    let own : c.in-Some.told.session ≡ line.session = c.requires.own line.session c.in-Some.told its in
    let known : (progress_of c.in-Some.told.session (take c.args.place (said_of script answers))).current ≡ Some (transaction_of script answers c.in-Some.told) =
    subst (λ (s : ℕ). (progress_of s (take c.args.place (said_of script answers))).current ≡ Some (transaction_of script answers c.in-Some.told)) (sym own)
    (sym has.current ∙ ap (λ (x : Option Told). option_map (transaction_of script answers) x) its)
    in
    let place : IsPlaceOf script answers c.in-Some.told.session c.in-Some.told.number c.args.place = record {
      line = line;
      stands = at;
      of_session = sym own;
      answer = answer;
      answered = told;
      own = transaction_of script answers c.in-Some.told;
      current = known;
      number_is = refl;
    }
    in
    let places = places_more script answers c.in-Some.told after c.args.place refl refl c.in_ok-push.ensures.items (placed.current line.session c.in-Some.told its) place in
    record {
      over = placed.over;
      current = current_placed script answers c.args.self.now _ c.from-seat.result (Some after) within refl
          (λ t same. let is : after ≡ t = cc in subst (λ (u : Told). ArePlacesOf script answers u) is places) placed;
    }
