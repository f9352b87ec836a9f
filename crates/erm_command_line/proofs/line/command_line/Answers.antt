use Rattle.std.proofs.Common.{ap, ap₂, ◌∙◌, true}
use Rattle.std.proofs.lemmas.Result.{IfOk-weaker}
use Rattle.clap.specs.Simple.{App, app_of_fields, with_subcommand}
use Rattle.erm_command_line.proofs.line.command_line.Goals as goal

pub returns : goal.returns
returns c =
    let program = ap app_of_fields c.subcommand_required.ensures ∙ ap (λ (a : App). record a { top = record a.top { subcommand_required = true } }) c.new.ensures.app in
    let run = c.in_ok-subcommand.ensures.shape c.new-2.ensures.local ∙ ap₂ with_subcommand program (ap (λ (a : App). a.top) c.new-2.ensures.app) in
    let threads = c.in_ok-subcommand-2.ensures.shape c.new-3.ensures.local ∙ ap₂ with_subcommand run (ap (λ (a : App). a.top) c.new-3.ensures.app) in
    let make = c.in_ok-subcommand-3.ensures.shape c.in_ok-make.ensures.1 ∙ ap₂ with_subcommand threads c.in_ok-make.ensures.0 in
    let recover = c.in_ok-subcommand-4.ensures.shape c.new-4.ensures.local ∙ ap₂ with_subcommand make (ap (λ (a : App). a.top) c.new-4.ensures.app) in
    let audit = c.in_ok-subcommand-5.ensures.shape c.new-5.ensures.local ∙ ap₂ with_subcommand recover (ap (λ (a : App). a.top) c.new-5.ensures.app) in
    let checkpoint = c.in_ok-subcommand-6.ensures.shape c.new-6.ensures.local ∙ ap₂ with_subcommand audit (ap (λ (a : App). a.top) c.new-6.ensures.app) in
    let ship = c.in_ok-subcommand-7.ensures.shape c.new-7.ensures.local ∙ ap₂ with_subcommand checkpoint (ap (λ (a : App). a.top) c.new-7.ensures.app) in
    let follow = c.in_ok-subcommand-8.ensures.shape c.new-8.ensures.local ∙ ap₂ with_subcommand ship (ap (λ (a : App). a.top) c.new-8.ensures.app) in
    IfOk-weaker c.subcommand-9.result _ _ (λ r h. h.shape c.new-9.ensures.local ∙ ap₂ with_subcommand follow (ap (λ (a : App). a.top) c.new-9.ensures.app)) c.subcommand-9.ensures
