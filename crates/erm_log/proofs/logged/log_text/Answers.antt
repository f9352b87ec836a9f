use Rattle.std.proofs.Common.{ℕ, List, ◌∙◌, ap, ◌++◌, codes}
use Rattle.erm_log.specs.Texts.{place_text}
use Rattle.erm_log.proofs.Whole.{log_told}
use Rattle.erm_log.proofs.logged.log_text.Goals as goal

pub returns-clause-text : goal.returns-clause-text
returns-clause-text g c =
    log_told (g.D.Disk.told c.args.disk.now) _ _ c.in_ok-found.found c.start_of-start.result c.in_ok-behind.behind c.push_place.new.out.items c.push_list.new.out.items c.push_place-2.new.out.items c.push_behind.new.out.items
    c.in_ok-found.ensures.told
    (c.in_ok-push_list.ensures.told ∙ c.in_ok-found.ensures.told)
    c.in_ok-found.ensures.recovered
    c.start_of-start.ensures
    (c.in_ok-push_place.ensures ∙ ap (λ (t : List ℕ). t ++ place_text (codes "from ") c.start_of-start.result.at c.start_of-start.result.run) c.new-text.ensures.items)
    c.in_ok-push_list.ensures.texts
    c.in_ok-push_place-2.ensures
    c.in_ok-behind.ensures.lies
    c.in_ok-push_behind.ensures
