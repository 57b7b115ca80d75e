use Rattle.std.proofs.Common.{◌≡◌, Some, length, string_bytes}
use Rattle.std.specs.Prelude.{slice_get}
use Rattle.explanations.proofs.ListingLemmas.{got}
use Rattle.explanations.proofs.ReasonLemmas.{told_after}
use Rattle.explanations.proofs.reason.reason_after.Goals as goal

pub returns-in-UnwrittenRegister : goal.returns-in-UnwrittenRegister
returns-in-UnwrittenRegister c =
    let before = c.args.before.now in
    let states = c.args.states.now in
    let a = c.in-Some-Some.state in
    let found = c.in-Some-Some.ensures.lookup in
    let at = got states (length before) (Some c.in-Some-Some.field-0) found.0 found.1 in
    let known : slice_get states (length before) ≡ Some (Some a) = cc in
    told_after states c.args.sizes c.args.fault c.args.insn (λ text. string_bytes text) c.unwritten_reason.result before a known (rw c.in-UnwrittenRegister.is c.unwritten_reason.ensures)

pub returns-in-NotAWindow : goal.returns-in-NotAWindow
returns-in-NotAWindow c =
    let before = c.args.before.now in
    let states = c.args.states.now in
    let a = c.in-Some-Some.state in
    let found = c.in-Some-Some.ensures.lookup in
    let at = got states (length before) (Some c.in-Some-Some.field-0) found.0 found.1 in
    let known : slice_get states (length before) ≡ Some (Some a) = cc in
    told_after states c.args.sizes c.args.fault c.args.insn (λ text. string_bytes text) c.address_reason.result before a known (rw c.in-NotAWindow.is c.address_reason.ensures)

pub returns-in-OutOfWindow : goal.returns-in-OutOfWindow
returns-in-OutOfWindow c =
    let before = c.args.before.now in
    let states = c.args.states.now in
    let a = c.in-Some-Some.state in
    let found = c.in-Some-Some.ensures.lookup in
    let at = got states (length before) (Some c.in-Some-Some.field-0) found.0 found.1 in
    let known : slice_get states (length before) ≡ Some (Some a) = cc in
    told_after states c.args.sizes c.args.fault c.args.insn (λ text. string_bytes text) c.access_reason.result before a known (rw c.in-OutOfWindow.is c.access_reason.ensures)

pub returns-in-ReadOnly : goal.returns-in-ReadOnly
returns-in-ReadOnly c =
    let before = c.args.before.now in
    let states = c.args.states.now in
    let a = c.in-Some-Some.state in
    let found = c.in-Some-Some.ensures.lookup in
    let at = got states (length before) (Some c.in-Some-Some.field-0) found.0 found.1 in
    let known : slice_get states (length before) ≡ Some (Some a) = cc in
    told_after states c.args.sizes c.args.fault c.args.insn (λ text. string_bytes text) c.store_reason.result before a known (rw c.in-ReadOnly.is c.store_reason.ensures)

pub returns-in-UnwrittenBytes : goal.returns-in-UnwrittenBytes
returns-in-UnwrittenBytes c =
    let before = c.args.before.now in
    let states = c.args.states.now in
    let a = c.in-Some-Some.state in
    let found = c.in-Some-Some.ensures.lookup in
    let at = got states (length before) (Some c.in-Some-Some.field-0) found.0 found.1 in
    let known : slice_get states (length before) ≡ Some (Some a) = cc in
    told_after states c.args.sizes c.args.fault c.args.insn (λ text. string_bytes text) c.load_reason.result before a known (rw c.in-UnwrittenBytes.is c.load_reason.ensures)

pub returns-in-BadExitValue : goal.returns-in-BadExitValue
returns-in-BadExitValue c =
    let before = c.args.before.now in
    let states = c.args.states.now in
    let a = c.in-Some-Some.state in
    let found = c.in-Some-Some.ensures.lookup in
    let at = got states (length before) (Some c.in-Some-Some.field-0) found.0 found.1 in
    let known : slice_get states (length before) ≡ Some (Some a) = cc in
    told_after states c.args.sizes c.args.fault c.args.insn (λ text. string_bytes text) c.exit_reason.result before a known (rw c.in-BadExitValue.is c.exit_reason.ensures)
