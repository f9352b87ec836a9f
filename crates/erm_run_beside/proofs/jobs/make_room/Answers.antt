use Rattle.std.proofs.Common.{length, sym, ap, ◌∙◌, arith}
use Rattle.std.proofs.lemmas.List.{length-map}
use Rattle.erm_run_beside.proofs.jobs.make_room.Goals as goal

pub returns-in-Ok : goal.returns-in-Ok
returns-in-Ok g c =
    let made = c.in_ok-parts.parts in
    let lines = c.in_ok-parts.ensures.lines in
    let long = sym (length-map made.items _) ∙ ap (λ l. length l) lines ∙ length-map c.args.parts.items _ in
    record {
      lines = lines;
      many = made.ok.0 ∙ long ∙ sym c.args.parts.ok.0;
      answers = c.in_ok-parts.ensures.room;
      no_job = c.in_ok-jobs.ensures.items;
      none_done = c.in-Ok.ensures.items;
      jobs = (let most = c.in_ok-jobs.ensures.capacity in let is = c.len.ensures in omega (arith, most, is));
      done = (let most = c.in-Ok.ensures.capacity in let is = c.len-2.ensures in omega (arith, most, is));
    }
