use Rattle.std.proofs.Common.{◌∙◌, ap, ap₂, refl}
use Rattle.std.specs.Prelude.{true, codes, Some}
use Rattle.std.proofs.lemmas.Result.{IfOk-weaker}
use Rattle.clap.specs.Words.{with_rule}
use Rattle.clap.specs.Simple.{app_of_fields, on_top}
use Rattle.map_commands.specs.CommandLine.{size_option}
use Rattle.map_server.proofs.ServerWordLemmas.{narrowed}
use Rattle.map_server.proofs.words.mapd_command.Goals as goal

pub returns : goal.returns
returns c =
    let about = ap app_of_fields c.about.ensures ∙ c.new.ensures.app in
    let named = ap app_of_fields c.version.ensures ∙ ap (on_top (λ s. record s { has_version = true })) about in
    let bare = ap app_of_fields c.after_help.ensures ∙ named in
    let listen = c.in_ok-arg.ensures.shape c.text_option.ensures.local ∙ ap₂ with_rule bare c.text_option.ensures.rule in
    let redis = c.in_ok-arg-2.ensures.shape c.text_option-2.ensures.local ∙ ap₂ with_rule listen c.text_option-2.ensures.rule in
    let stripes = c.in_ok-arg-3.ensures.shape c.size_option.ensures.local ∙ ap₂ with_rule redis c.size_option.ensures.rule in
    let workers = c.in_ok-arg-4.ensures.shape c.range_option.ensures.local ∙ ap₂ with_rule stripes (c.range_option.ensures.rule ∙ ap (λ p. record (size_option (codes "workers")) { parser = Some p }) (narrowed _ _ _ _ 32 c.value_parser.ensures c.new-2.ensures.start c.new-2.ensures.end refl c.range.ensures)) in
    let team = c.in_ok-arg-5.ensures.shape c.range_option-2.ensures.local ∙ ap₂ with_rule workers (c.range_option-2.ensures.rule ∙ ap (λ p. record (size_option (codes "team")) { parser = Some p }) (narrowed _ _ _ _ 8 c.value_parser-2.ensures c.new-3.ensures.start c.new-3.ensures.end refl c.range-2.ensures)) in
    let sessions = c.in_ok-arg-6.ensures.shape c.size_option-2.ensures.local ∙ ap₂ with_rule team c.size_option-2.ensures.rule in
    let clients = c.in_ok-arg-7.ensures.shape c.range_option-3.ensures.local ∙ ap₂ with_rule sessions (c.range_option-3.ensures.rule ∙ ap (λ p. record (size_option (codes "clients")) { parser = Some p }) (narrowed _ _ _ _ 65535 c.value_parser-3.ensures c.new-4.ensures.start c.new-4.ensures.end refl c.range-3.ensures)) in
    let idle = c.in_ok-arg-8.ensures.shape c.range_option-4.ensures.local ∙ ap₂ with_rule clients (c.range_option-4.ensures.rule ∙ ap (λ p. record (size_option (codes "idle")) { parser = Some p }) (narrowed _ _ _ _ 65535 c.value_parser-4.ensures c.new-5.ensures.start c.new-5.ensures.end refl c.range-4.ensures)) in
    let programs = c.in_ok-arg-9.ensures.shape c.size_option-3.ensures.local ∙ ap₂ with_rule idle c.size_option-3.ensures.rule in
    let keep = c.in_ok-arg-10.ensures.shape c.text_option-3.ensures.local ∙ ap₂ with_rule programs c.text_option-3.ensures.rule in
    let seconds = c.in_ok-arg-11.ensures.shape c.range_option-5.ensures.local ∙ ap₂ with_rule keep (c.range_option-5.ensures.rule ∙ ap (λ p. record (size_option (codes "keep-seconds")) { parser = Some p }) (narrowed _ _ _ _ 3600 c.value_parser-5.ensures c.new-6.ensures.start c.new-6.ensures.end refl c.range-5.ensures)) in
    let memory = c.in_ok-arg-12.ensures.shape c.range_option-6.ensures.local ∙ ap₂ with_rule seconds (c.range_option-6.ensures.rule ∙ ap (λ p. record (size_option (codes "memory")) { parser = Some p }) (narrowed _ _ _ _ 65535 c.value_parser-6.ensures c.new-7.ensures.start c.new-7.ensures.end refl c.range-6.ensures)) in
    let password = c.in_ok-arg-13.ensures.shape c.text_option-4.ensures.local ∙ ap₂ with_rule memory c.text_option-4.ensures.rule in
    let metrics = c.in_ok-arg-14.ensures.shape c.text_option-5.ensures.local ∙ ap₂ with_rule password c.text_option-5.ensures.rule in
    let slowlog = c.in_ok-arg-15.ensures.shape c.size_option-4.ensures.local ∙ ap₂ with_rule metrics c.size_option-4.ensures.rule in
    IfOk-weaker c.arg-16.result _ _ (λ r h. h.shape c.flag_option.ensures.local ∙ ap₂ with_rule slowlog c.flag_option.ensures.rule) c.arg-16.ensures
