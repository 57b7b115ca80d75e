use Rattle.std.proofs.Common.{◌≡◌, ◌∙◌, List, suc, length, take, Some, Ok, refl, sym, ap, subst, inl, arith, add-one}
use Rattle.std.proofs.lemmas.Option.{slice_get_read}
use Rattle.bpf_model.specs.declared.instruction.Insn.{Insn}
use Rattle.bpf_model.specs.Program.{unit_count, instruction_at}
use Rattle.bpf_model.proofs.ProgramLemmas.{unit_count-next, unit_count-take, units_of-some, starts_at, ends_inside}
use Rattle.verifier.specs.Bound.{LandsForward}
use Rattle.verifier.specs.Walks.{IsKnown}
use Rattle.verifier.proofs.FlowLemmas.{no_units}
use Rattle.verifier.proofs.WalkLemmas.{walked_none, walked_same}
use Rattle.verifier.proofs.BoundLemmas.{length_more}
use Rattle.verifier.proofs.ArriveLemmas.{walk_visits}
use Rattle.verifier.proofs.KnownLemmas.{none_known, knows_more}
use Rattle.verifier.proofs.GrantWalkLemmas.{visit_grants, start_grants, suffices_there}
use Rattle.verifier.proofs.walk.states.states_of.Goals as goal

pub visit-requires-clause-inside : goal.visit-requires-clause-inside
visit-requires-clause-inside c =
    let p = c.args.program.now in
    let k = c.loop-insn.insn-index in
    let i = c.insn-item.result in
    let at = slice_get_read p (length p) k i refl c.loop-insn-test.true c.insn-item.is in
    let inside = ends_inside p (unit_count (take k p)) i (starts_at p k i at) in
    omega (arith, inside, units_of-some i, c.requires.program.bounded, c.loop-insn.invariant.counted)

pub visit-requires-clause-lands : goal.visit-requires-clause-lands
visit-requires-clause-lands c =
    let p = c.args.program.now in
    let k = c.loop-insn.insn-index in
    let i = c.insn-item.result in
    let at = slice_get_read p (length p) k i refl c.loop-insn-test.true c.insn-item.is in
    let start : instruction_at p c.loop-insn.unit ≡ Some i = ap (instruction_at p) c.loop-insn.invariant.counted ∙ starts_at p k i at in
    let lands : LandsForward p c.loop-insn.unit i = λ distance has. c.requires.forward.lands c.loop-insn.unit distance (rw start has) in
    subst (λ (q : List Insn). LandsForward q c.loop-insn.unit i) (sym c.of-indices.ensures.value) lands

pub overflow_add-unit : goal.overflow_add-unit
overflow_add-unit c =
    let bounded = unit_count-take c.args.program.now c.loop-insn.insn-index in
    let most = c.requires.program.bounded in
    record { fits = omega (arith, bounded, most, c.loop-insn.invariant.counted, c.units-unit.ensures.bounded) }

pub loop-insn-init : goal.loop-insn-init
loop-insn-init c = record {
  counted = sym (no_units c.args.program.now);
  listed = ap length c.new-states.ensures.items;
  walked = walked_none c.args.program.now c.args.sizes (IsKnown 0 (Some c.entry.result) c.new-pending.result c.args.sizes) (λ input bytes fits.
      inl (refl, c.entry.ensures.describes input c.requires.limits bytes fits));
  knows = rw c.new-states.ensures.items (none_known c.args.program.now c.args.sizes);
  granted = λ plain. start_grants c.args.program.now c.entry.result c.new-pending.result c.entry.ensures.grants c.new-pending.ensures.none;
}

pub returns-in-Err-Fault-clause-sound : goal.returns-in-Err-Fault-clause-sound
returns-in-Err-Fault-clause-sound c =
    let p = c.args.program.now in
    let sizes = c.args.sizes in
    let l = c.loop-insn in
    let k = l.insn-index in
    let i = c.insn-item.result in
    let at = slice_get_read p (length p) k i refl c.loop-insn-test.true c.insn-item.is in
    let known = walked_same p sizes l.unit (IsKnown l.unit l.state l.pending sizes) (IsKnown l.unit c.come.new.state c.come.new.pending sizes) (c.come.ensures.known sizes) l.invariant.walked in
    let more = knows_more p sizes l.unit k i c.come.new.state c.come.new.pending l.states.items c.requires.program c.requires.forward at l.invariant.counted l.invariant.listed c.come.ensures.empty known l.invariant.knows in
    rw (c.in_ok-push.ensures.items, c.copy_of.ensures.value) more

pub returns-in-Err-Fault-clause-floor : goal.returns-in-Err-Fault-clause-floor
returns-in-Err-Fault-clause-floor c = λ plain.
    let p = c.args.program.now in
    let l = c.loop-insn in
    let k = l.insn-index in
    let i = c.insn-item.result in
    let at = slice_get_read p (length p) k i refl c.loop-insn-test.true c.insn-item.is in
    let start : instruction_at p l.unit ≡ Some i = ap (instruction_at p) l.invariant.counted ∙ starts_at p k i at in
    let there = c.come.ensures.grants p (l.invariant.granted plain) in
    let enough = c.visit.ensures.accepts (suffices_there p c.args.sizes l.unit i c.come.new.state plain start there.now) in
    let stop = rw (c.in-Err-Fault.is, c.in-Err-Fault.field-0-is) at enough in
    absurd (let wrong = stop in cc)

pub loop-insn-preserved : goal.loop-insn-preserved
loop-insn-preserved c =
    let p = c.args.program.now in
    let sizes = c.args.sizes in
    let l = c.loop-insn in
    let k = l.insn-index in
    let i = c.insn-item.result in
    let at = slice_get_read p (length p) k i refl c.loop-insn-test.true c.insn-item.is in
    let next = unit_count-next p k i at in
    let start : instruction_at p l.unit ≡ Some i = ap (instruction_at p) l.invariant.counted ∙ starts_at p k i at in
    let here = c.come.new.state in
    let before = c.come.new.pending in
    let empty = c.come.ensures.empty in
    let known = walked_same p sizes l.unit (IsKnown l.unit l.state l.pending sizes) (IsKnown l.unit here before sizes) (c.come.ensures.known sizes) l.invariant.walked in
    let operation = c.in-Ok.field-0 in
    let was : c.visit.result ≡ Ok operation = c.in-Ok.is in
    let visits = rw (was, c.of-indices.ensures.value) at c.visit.ensures.ok in
    let sends = rw was at c.visit.ensures.sends in
    let more = knows_more p sizes l.unit k i here before l.states.items c.requires.program c.requires.forward at l.invariant.counted l.invariant.listed empty known l.invariant.knows in
    record {
      counted = rw add-one (omega (arith, next, l.invariant.counted, c.units-unit.ensures.value));
      listed = rw (c.in_ok-push.ensures.items, add-one) (length_more l.states.items c.copy_of.result ∙ ap suc l.invariant.listed);
      walked = rw c.units-unit.ensures.value (walk_visits p sizes l.unit i here c.visit.new.state before c.visit.new.pending operation c.requires.program c.requires.forward start empty visits known);
      knows = rw (c.in_ok-push.ensures.items, c.copy_of.ensures.value) more;
      granted = λ plain.
          let there = c.come.ensures.grants p (l.invariant.granted plain) in
          rw c.units-unit.ensures.value (visit_grants p l.unit i before c.visit.new.pending here c.visit.new.state (λ w. plain.bases l.unit i w start) start sends there);
    }
