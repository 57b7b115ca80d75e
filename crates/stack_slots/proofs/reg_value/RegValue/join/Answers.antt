use Rattle.std.proofs.Common.{◌≡◌, ◌∙◌, true, false, refl, sym, ap, rules}
use Rattle.std.proofs.lemmas.Bool.{eq-eqb, ne_eqb}
use Rattle.bpf_model.specs.Memory.{first_address}
use Rattle.bpf_model.specs.contracts.window.Window.{the_type}
use denote.Enum.Bare.{same_true, same_false}
use Rattle.stack_slots.specs.Values.{have_one_window}
use Rattle.stack_slots.proofs.ValueLemmas.{join_first, join_second, join_pointer, join_number, same_window}
use Rattle.stack_slots.proofs.reg_value.RegValue.join.Goals as goal
use Rattle.stack_slots.proofs.reg_value.RegValue.join.Goals.{in_default-via-in-Number+in_default, in_default-via-in-Pointer-Pointer+else-eq, in_default-via-in-Pointer+in_default}

pub returns-in-Number-Number-clause-exact : goal.returns-in-Number-Number-clause-exact
returns-in-Number-Number-clause-exact c = rw (c.in-Number-Number.is-0, c.in-Number-Number.is-1) (record { range = c.join.result; is = refl; umin = c.join.ensures.unsigned.0; umax = c.join.ensures.unsigned.1; smin = c.join.ensures.signed.0; smax = c.join.ensures.signed.1 })

pub returns-in-Number-Number-clause-range : goal.returns-in-Number-Number-clause-range
returns-in-Number-Number-clause-range c = λ lo hi. join_number c.args.self.now c.args.other.now _ lo hi (returns-in-Number-Number-clause-exact c)

pub returns-in-Pointer-Pointer-clause-exact : goal.returns-in-Pointer-Pointer-clause-exact
returns-in-Pointer-Pointer-clause-exact c =
    let p = c.in-Pointer-Pointer.a in
    let q = c.in-Pointer-Pointer.b in
    let window : p.window ≡ q.window = same_true the_type (search rules) _ _ (sym c.if-eq.ensures) in
    let one : have_one_window p q ≡ true = eq-eqb (first_address p.window) (first_address q.window) (ap first_address window) in
    rw (c.in-Pointer-Pointer.is-0, c.in-Pointer-Pointer.is-1, one) (record { pointer = c.over.result; is = refl; offsets = c.over.ensures.value })

pub returns-in-Pointer-Pointer-clause-first : goal.returns-in-Pointer-Pointer-clause-first
returns-in-Pointer-Pointer-clause-first c = λ o. join_first c.args.self.now c.args.other.now _ o (returns-in-Pointer-Pointer-clause-exact c)

pub returns-in-Pointer-Pointer-clause-second : goal.returns-in-Pointer-Pointer-clause-second
returns-in-Pointer-Pointer-clause-second c = λ o. join_second c.args.self.now c.args.other.now _ o (returns-in-Pointer-Pointer-clause-exact c)

pub returns-in-Pointer-Pointer-clause-pointer : goal.returns-in-Pointer-Pointer-clause-pointer
returns-in-Pointer-Pointer-clause-pointer c = λ w lo hi. join_pointer c.args.self.now c.args.other.now _ w lo hi (returns-in-Pointer-Pointer-clause-exact c)

pub returns-in_default-clause-exact : goal.returns-in_default-clause-exact
returns-in_default-clause-exact c = elim c.in_default.branch [
  | in_default-via-in-Number+in_default w ↦ rw (w.in_default.is-0, w.in_default.is-1) (record { range = c.full.result; is = refl; every = c.full.ensures })
  | in_default-via-in-Pointer-Pointer+else-eq w ↦
      let p = w.in-Pointer-Pointer.a in
      let q = w.in-Pointer-Pointer.b in
      let apart : p.window ≡ q.window → ⊥ = same_false the_type _ _ (sym w.eq.ensures ∙ w.if-eq.false) in
      let two : have_one_window p q ≡ false = ne_eqb (first_address p.window) (first_address q.window) (λ e. apart (same_window p.window q.window e)) in
      rw (w.in-Pointer-Pointer.is-0, w.in-Pointer-Pointer.is-1, two) (record { range = c.full.result; is = refl; every = c.full.ensures })
  | in_default-via-in-Pointer+in_default w ↦ rw (w.in_default.is-0, w.in_default.is-1) (record { range = c.full.result; is = refl; every = c.full.ensures })
]
