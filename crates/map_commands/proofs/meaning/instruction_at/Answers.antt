use Rattle.std.proofs.Common.{◌≡◌, ℕ, ◌+◌, ◌<◌, ◌≤◌, take, length, refl, arith, add-one, sym, subst}
use Rattle.std.specs.Prelude.{Some}
use Rattle.std.proofs.lemmas.Grind.{common_steps}
use Rattle.std.proofs.lemmas.Option.{slice_get_read}
use Rattle.bpf_model.specs.Program.{units_of, unit_count, instruction_at}
use Rattle.bpf_model.proofs.ProgramLemmas.{unit_count-next, starts_at, none_inside, none_past}
use Rattle.map_commands.proofs.meaning.instruction_at.Goals as goal

pub loop-insn-init : goal.loop-insn-init
unfolding unit_count
loop-insn-init c = omega arith

pub loop-insn-preserved : goal.loop-insn-preserved
loop-insn-preserved c =
    let xs = c.args.program.now in
    let k = c.loop-insn.insn-index in
    let i = c.insn-item.result in
    let here = slice_get_read xs (length xs) k i refl c.loop-insn-test.true c.insn-item.is in
    let next = unit_count-next xs k i here in
    rw (add-one, c.units-left.ensures.value) (omega (arith, next, c.loop-insn.invariant, c.units.ensures.value, c.if-left-units.false))

pub returns-then-left-eq0 : goal.returns-then-left-eq0
returns-then-left-eq0 c =
    let xs = c.args.program.now in
    let k = c.loop-insn.insn-index in
    let i = c.insn-item.result in
    let here = slice_get_read xs (length xs) k i refl c.loop-insn-test.true c.insn-item.is in
    let unit : unit_count (take k xs) ≡ c.args.unit = omega (arith, c.loop-insn.invariant, c.if-left-eq0.true) in
    sym (subst (λ (u : ℕ). instruction_at xs u ≡ Some i) unit (starts_at xs k i here))

pub returns-then-left-units : goal.returns-then-left-units
returns-then-left-units c =
    let xs = c.args.program.now in
    let k = c.loop-insn.insn-index in
    let i = c.insn-item.result in
    let here = slice_get_read xs (length xs) k i refl c.loop-insn-test.true c.insn-item.is in
    let behind : unit_count (take k xs) < c.args.unit = omega (arith, c.loop-insn.invariant, c.if-left-eq0.false) in
    let before : c.args.unit < unit_count (take k xs) + units_of i = omega (arith, c.loop-insn.invariant, c.units.ensures.value, c.if-left-units.true) in
    sym (none_inside xs k i c.args.unit here behind before)

pub returns : goal.returns
returns c =
    let xs = c.args.program.now in
    let whole : take c.loop-insn.insn-index xs ≡ xs = grind (arith, common_steps, c.loop-insn-test.false) in
    sym (none_past xs c.args.unit (subst (λ l. unit_count l ≤ c.args.unit) whole (omega (arith, c.loop-insn.invariant))))
