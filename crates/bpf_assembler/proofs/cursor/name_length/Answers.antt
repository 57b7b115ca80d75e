use Rattle.std.proofs.Common.{◌≡◌, ◌∙◌, rules, tests}
use Rattle.std.specs.Prelude.{not}
use Rattle.std.specs.List.{position}
use Rattle.std.proofs.lemmas.Iterator.{YieldsList-from_slice}
use Rattle.std.proofs.lemmas.Iterator.Search.{position_from_yields_List}
use Rattle.bpf_assembler.specs.Reading.{is_name_byte}
use Rattle.bpf_assembler.proofs.RunLemmas.{run-position}
use Rattle.bpf_assembler.proofs.cursor.name_length.Goals as goal

pub returns-clause-value : goal.returns-clause-value
returns-clause-value c =
    let text = c.args.text.now in
    let end : c.position-end.result ≡ position (λ b. not (is_name_byte b)) text = position_from_yields_List (λ b. not (is_name_byte b)) _ _ c.position-end.result c.position-end.ensures.ran (YieldsList-from_slice _ c.iter.ensures.rest) (λ x b q k. search (rules, tests)) in
    c.unwrap_or.ensures ∙ rw end (run-position is_name_byte text)
