use Rattle.std.proofs.Common.{◌≡◌, ◌∙◌, sym, refl, inl, inr, false, option_copied}
use Rattle.bpf_assembler.specs.Faults.{IsFirstAsmFault}
use Rattle.redis_scripts.specs.Pieces.{pieces_after}
use Rattle.redis_scripts.specs.Code.{code_of_all}
use Rattle.redis_scripts.specs.Scripts.{is_hex}
use Rattle.redis_scripts.proofs.reading.program_bytes.Goals as goal

pub returns-in-Err-clause-err : goal.returns-in-Err-clause-err
returns-in-Err-clause-err c =
    let code = code_of_all (pieces_after 10 (option_copied c.args.lines)) in
    let other : is_hex code ≡ false = rw (sym (c.deref.ensures.value ∙ c.in_ok-code.ensures)) (sym c.is_hex.ensures ∙ c.if-is_hex.false) in
    let text : c.in-Ok.text.now ≡ code = c.in-Ok.ensures.cases.0 ∙ c.deref-2.ensures.value ∙ c.in_ok-code.ensures in
    elim c.fault_in.ensures [
      | inl none ↦ rw none tt
      | inr (known, is) ↦
          let first : IsFirstAsmFault code c.in-Err.fault = elim c.in-Err.ensures.first_fault [ inl none ↦ absurd (known none) | inr first ↦ rw text at first ] in
          rw is (other, (c.in-Err.fault, first, refl))
    ]
