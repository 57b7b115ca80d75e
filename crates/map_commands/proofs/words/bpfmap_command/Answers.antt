use Rattle.std.proofs.Common.{◌∙◌, ap, ap₂, true}
use Rattle.std.proofs.lemmas.Result.{IfOk-weaker}
use Rattle.clap.specs.Words.{App, with_subcommand}
use Rattle.clap.specs.Simple.{app_of_fields, on_top}
use Rattle.map_commands.proofs.words.bpfmap_command.Goals as goal

pub returns : goal.returns
returns c =
    let named = ap app_of_fields c.version.ensures ∙ ap (on_top (λ s. record s { has_version = true })) c.plain_command.ensures.app in
    let told = ap app_of_fields c.after_help.ensures ∙ named in
    let required = ap app_of_fields c.subcommand_required.ensures ∙ ap (on_top (λ s. record s { subcommand_required = true })) told in
    let helped = ap app_of_fields c.arg_required_else_help.ensures ∙ ap (on_top (λ s. record s { arg_required_else_help = true })) required in
    let bare = ap app_of_fields c.disable_help_subcommand.ensures ∙ ap (on_top (λ s. record s { disable_help_subcommand = true })) helped in
    let asm = c.in_ok-subcommand.ensures.shape c.plain_command-asm.ensures.local ∙ ap₂ with_subcommand bare (ap (λ (a : App). a.top) c.plain_command-asm.ensures.app) in
    let disasm = c.in_ok-subcommand-2.ensures.shape c.plain_command-disasm.ensures.local ∙ ap₂ with_subcommand asm (ap (λ (a : App). a.top) c.plain_command-disasm.ensures.app) in
    let check = c.in_ok-subcommand-3.ensures.shape c.in_ok-check_command.ensures.local ∙ ap₂ with_subcommand disasm (ap (λ (a : App). a.top) c.in_ok-check_command.ensures.app) in
    let run = c.in_ok-subcommand-4.ensures.shape c.in_ok-run_command.ensures.local ∙ ap₂ with_subcommand check (ap (λ (a : App). a.top) c.in_ok-run_command.ensures.app) in
    IfOk-weaker c.subcommand-5.result _ _
    (λ r h. h.shape c.in_ok-exec_command.ensures.local ∙ ap₂ with_subcommand run (ap (λ (a : App). a.top) c.in_ok-exec_command.ensures.app))
    c.subcommand-5.ensures
