use Rattle.std.proofs.Common.{◌≡◌, ◌∙◌, ◌||◌, rules, ap, ap₂, codes, false}
use Rattle.std.proofs.lemmas.Result.{IfOk-weaker}
use Rattle.clap.specs.Walk.{rule_of}
use Rattle.clap.specs.Simple.{App, app_of, new_app, with_rule}
use Rattle.clap.specs.declared.builder.command.Command.TheViews.{out-Command}
use Rattle.erm_command_line.specs.CommandLine.{flag, needed}
use Rattle.erm_command_line.proofs.line.make.Goals as goal

pub returns : goal.returns
returns c =
    let count_is : rule_of c.required.result ≡ needed (codes "count") = search rules in
    let sessions_is : rule_of c.required-2.result ≡ needed (codes "sessions") = search rules in
    let text_is : rule_of c.action.result ≡ flag (codes "text") = search rules in
    let first_own : c.required.result.global ≡ false = search rules in
    let second_own : c.required-2.result.global ≡ false = search rules in
    let third_own : c.action.result.global ≡ false = search rules in
    let first : app_of c.in_ok-arg.field-0 ≡ with_rule (new_app (codes "make")) (needed (codes "count")) = c.in_ok-arg.ensures.shape first_own ∙ ap₂ with_rule c.new.ensures.app count_is in
    let first_globals : (out-Command c.in_ok-arg.field-0).has_globals ≡ false = c.in_ok-arg.ensures.globals ∙ ap₂ ◌||◌ c.new.ensures.local first_own in
    let second = c.in_ok-arg-2.ensures.shape second_own ∙ ap₂ with_rule first sessions_is in
    let second_globals = c.in_ok-arg-2.ensures.globals ∙ ap₂ ◌||◌ first_globals second_own in
    IfOk-weaker c.arg-3.result _ _ (λ r h. (ap (λ (a : App). a.top) (h.shape third_own ∙ ap₂ with_rule second text_is), h.globals ∙ ap₂ ◌||◌ second_globals third_own)) c.arg-3.ensures
