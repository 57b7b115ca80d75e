use Rattle.std.proofs.Common.{◌∙◌, sym}
use Rattle.std.proofs.lemmas.List.{take-append-drop}
use Rattle.bpf_assembler.specs.Names.{stems}
use Rattle.bpf_assembler.specs.Operands.{run}
use Rattle.bpf_assembler.specs.Reading.{is_name_byte}
use Rattle.bpf_assembler.proofs.NameLaws.{mnemonic_found}
use Rattle.bpf_assembler.proofs.cursor.Cursor.mnemonic.Goals as goal

pub returns-in-Some-clause-found : goal.returns-in-Some-clause-found
returns-in-Some-clause-found c =
    let text = c.args.self.now.rest.now in
    let named = mnemonic_found stems c.name.result.now c.in-Some.mnemonic (sym c.from_name.ensures ∙ c.in-Some.is) in
    rw (← named, c.name.ensures.name, c.name.ensures.rest) (sym (take-append-drop (run is_name_byte text) text))
