use Rattle.std.proofs.Common.{◌≡◌, ◌+◌, ◌<◌, sym, refl, arith, inr, length, subst, ℕ}
use Rattle.bpf_model.specs.declared.limits.TheConstants.{PROGRAM_UNITS}
use Rattle.bpf_model.specs.Program.{unit_count, units_of}
use Rattle.bpf_assembler.specs.Text.{text_of}
use Rattle.bpf_assembler.specs.declared.fault.AsmFault.TheVariants.{NoMemory, BadCount}
use Rattle.bpf_assembler.specs.Faults.{at_line, IsFaultyLine}
use Rattle.bpf_model.proofs.SpellingLaws.{AreInstructions-push}
use Rattle.bpf_assembler.proofs.FaultLemmas.{unread_line, line_past_units, first_line, at_line_says_no_memory, line_shortens, lines_push, unit_count-push}
use Rattle.bpf_assembler.proofs.assembler.instructions.Goals as goal

pub loop-cursor-init : goal.loop-cursor-init
unfolding unit_count text_of
loop-cursor-init c =
    let none = c.new-instructions.ensures.items in
    record { fits = rw none tt; counted = rw none refl; bounded = omega arith; lines = rw none (sym c.new-cursor.ensures) }

pub returns-in-Err-clause-first_fault : goal.returns-in-Err-clause-first_fault
returns-in-Err-clause-first_fault c =
    let l = c.loop-cursor in
    let line : c.len-line.result ≡ length l.instructions.items = omega (arith, c.len-line.ensures, l.instructions.ok.0) in
    let told = c.at.ensures in
    let named : c.at.result ≡ at_line (length l.instructions.items + 1) c.in-Err.fault = cc in
    inr (unread_line c.args.text.now l.cursor.rest.now l.instructions.items l.units c.is_done.result c.in-Err.fault c.at.result l.invariant.fits l.invariant.counted l.invariant.bounded l.invariant.lines c.is_done.ensures c.loop-cursor-test.true c.in-Err.ensures.exact named)

pub returns-then-units-gt-PROGRAM_UNITS-clause-first_fault :
    goal.returns-then-units-gt-PROGRAM_UNITS-clause-first_fault
returns-then-units-gt-PROGRAM_UNITS-clause-first_fault c =
    let l = c.loop-cursor in
    let line : length l.instructions.items ≡ c.len-line.result = omega (arith, c.len-line.ensures, l.instructions.ok.0) in
    let (read, fits) = c.in-Ok.ensures.found in
    let past : PROGRAM_UNITS < l.units + units_of c.in-Ok.insn = omega (arith, c.if-units-gt-PROGRAM_UNITS.true, c.units-units.ensures.value) in
    let here = line_past_units c.args.text.now l.cursor.rest.now c.line.new.self.rest.now l.instructions.items l.units c.is_done.result c.in-Ok.insn l.invariant.fits l.invariant.counted l.invariant.bounded l.invariant.lines c.is_done.ensures c.loop-cursor-test.true read fits past in
    inr (subst (λ (n : ℕ). IsFaultyLine c.args.text.now (BadCount (n + 1))) line here)

pub returns-in_err-append-clause-memory : goal.returns-in_err-append-clause-memory
returns-in_err-append-clause-memory c = λ e.
    let l = c.loop-cursor in
    let (read, fits) = c.in-Ok.ensures.found in
    first_line c.args.text.now l.cursor.rest.now c.line.new.self.rest.now l.instructions.items c.in-Ok.insn l.invariant.fits fits l.invariant.lines read

pub returns-in-Err-clause-memory : goal.returns-in-Err-clause-memory
returns-in-Err-clause-memory c = λ e.
    let told = c.at.ensures in
    let named : at_line (c.len-line.result + 1) c.in-Err.fault ≡ NoMemory = cc in
    absurd (at_line_says_no_memory (c.len-line.result + 1) c.in-Err.fault named)

pub loop-cursor-smaller : goal.loop-cursor-smaller
loop-cursor-smaller c = line_shortens c.loop-cursor.cursor.rest.now c.line.new.self.rest.now c.in-Ok.insn c.in-Ok.ensures.found.0

pub loop-cursor-preserved : goal.loop-cursor-preserved
loop-cursor-preserved c =
    let l = c.loop-cursor in
    let (read, fits) = c.in-Ok.ensures.found in
    let added = c.in_ok-append.ensures in
    let count = unit_count-push l.instructions.items c.in-Ok.insn in
    record {
      fits = rw added (AreInstructions-push l.instructions.items c.in-Ok.insn l.invariant.fits fits);
      counted = rw added (omega (arith, count, l.invariant.counted, c.units-units.ensures.value));
      bounded = omega (arith, c.if-units-gt-PROGRAM_UNITS.false);
      lines = rw added (lines_push c.args.text.now l.cursor.rest.now c.line.new.self.rest.now l.instructions.items c.in-Ok.insn l.invariant.lines read);
    }
