use Rattle.std.proofs.Common.{◌≡◌, length, Some, ap, refl, sym, ◌∙◌, subst, arith}
use Rattle.std.specs.List.{slice_get}
use Rattle.std.specs.Prelude.{max}
use Rattle.std.proofs.lemmas.Option.{slice_get-get_or}
use Rattle.erm_bank.proofs.Errands.{did_more, longer_told, of_tellers, serves_more, shows_more, shows_still}
use Rattle.erm_bank.proofs.teller.TellerProgram.run.Goals as goal
use Rattle.erm_bank.specs.Tellers.{DidAll, DidErrand, IsServing}
use Rattle.erm_client.proofs.Commits.{all_still}
use Rattle.erm_model.specs.Member.{◌∈◌}
use Rattle.erm_tellers.proofs.Behind.{goes}

pub do_errand-told-requires-clause-tellers : goal.do_errand-told-requires-clause-tellers
do_errand-told-requires-clause-tellers g c = of_tellers c.args.self.now.errands.items c.errands.client.transcript c.errands.invariant.serves

pub errands-preserved : goal.errands-preserved
errands-preserved g c =
    let at = c.errands.invariant in
    let errands = c.args.self.now.errands.items in
    let most = max c.args.self.now.tries 1 in
    let before = c.errands.client.transcript in
    let after = c.do_errand-told.new.client.transcript in
    let tells = c.do_errand-told.result in
    let asked = c.index.result.now in
    let less = c.errands-test.true in
    let few = at.few in
    let long = ap (λ e. length e.items) at.same in
    let item : slice_get c.errands.self.errands.items c.errands.place ≡ Some asked = slice_get-get_or c.errands.self.errands.items c.errands.place asked (omega (arith, less, few, long)) ∙ ap Some (sym c.index.ensures) in
    let there : slice_get errands c.errands.place ≡ Some asked = subst (λ e. slice_get e.items c.errands.place ≡ Some asked) at.same item in
    let among : asked ∈ errands = (c.errands.place, there) in
    let did : DidErrand most asked tells before after = subst (λ n. DidErrand (max n 1) asked tells before after) at.tries c.do_errand-told.ensures.did in
    let pushed = c.push_reserved.ensures.items in
    record {
      on = goes at.on c.do_errand-told.ensures.on;
      same = at.same;
      tries = at.tries;
      few = few;
      room = (let room = at.room in let kept = c.push_reserved.ensures.capacity in omega (arith, room, kept));
      all = at.all;
      least = at.least;
      long = longer_told c.errands.self.told.items tells c.push_reserved.new.self.items c.errands.place pushed at.long;
      did = subst (λ ts. DidAll most ts errands c.args.client.now.transcript after) (sym pushed)
          (did_more most c.errands.self.told.items errands asked tells c.args.client.now.transcript before after (subst (λ k. slice_get errands k ≡ Some asked) (sym at.long) there) at.did did.came_to);
      serves = serves_more most errands asked among before after tells did at.serves;
      shown = shows_more most errands asked among before after tells did c.errands.self.told.items c.push_reserved.new.self.items pushed at.shown;
    }

pub returns-clause-on : goal.returns-clause-on
returns-clause-on g c = goes c.errands.invariant.on c.wait_for_disk.ensures.on

pub returns-clause-promised : goal.returns-clause-promised
returns-clause-promised g c =
    let at = c.errands.invariant in
    record {
      errands = at.same;
      tries = at.tries;
      did = record {
        start = c.args.client.now.transcript;
        until = c.errands.client.transcript;
        fresh = (let new = c.requires.new in record { seat_is = refl; lines = new.lines; answers = new.answers; opened = new.opened });
        did = at.did;
        waited = c.wait_for_disk.ensures.waited;
      };
      all = λ enough. (let all = at.all enough in let done = c.errands-test.false in let told = at.long in let few = at.few in omega (arith, all, done, told, few));
      least = (let least = at.least in let done = c.errands-test.false in let told = at.long in let few = at.few in omega (arith, least, done, told, few));
      serves = all_still (IsServing c.args.self.now.errands.items) c.wait_for_disk.ensures.went at.serves;
      shown = λ low high total there. shows_still c.errands.client.transcript c.wait_for_disk.new.client.transcript 0 c.wait_for_disk.ensures.went low high total (at.shown low high total there);
    }
