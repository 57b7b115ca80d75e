-- Marking the units at which an instruction starts.
use Rattle.std.proofs.Common.{◌≡◌, ◌≢◌, ℕ, zero, suc, ◌+◌, ◌<◌, ◌≤◌, Bool, true, false, List, length, take, get_or, set, replicate, Some, refl, sym, ap, ◌∙◌, inl, inr, arith}
use Rattle.std.specs.Prelude.{slice_get, slice_index_or, is_some, nat_lt, ◌&&◌}
use Rattle.std.proofs.lemmas.Bool.Decides.{nat_tests}
use Rattle.std.proofs.lemmas.Bool.{cases_order}
use Rattle.std.proofs.lemmas.List.{get_or-set_same, get_or-set_other, take_all, length-set}
use Rattle.bpf_model.specs.declared.limits.TheConstants.{PROGRAM_UNITS}
use Rattle.bpf_model.specs.declared.instruction.Insn.{Insn}
use Rattle.bpf_model.specs.Program.{units_of, unit_count, instruction_at}
use Rattle.bpf_model.proofs.ProgramLemmas.{units_of-some, unit_count-next, unit_count-take, starts_at, none_inside, none_past}
use Rattle.flow_shape.specs.Layouts.{IsLaidOut}

-- the starts are marked up to the unit that the first k instructions end at
pub record Marked (program : List Insn) (k : ℕ) (flags : List Bool) (total : ℕ) : Type 0 where
  pub len : length flags ≡ PROGRAM_UNITS
  pub counted : total ≡ unit_count (take k program)
  pub starts : (unit : ℕ) → slice_index_or flags unit false ≡ (nat_lt unit total && is_some (instruction_at program unit))

blank : (n unit : ℕ) → get_or (replicate n false) unit false ≡ false
blank zero unit = refl
blank (suc n) zero = refl
blank (suc n) (suc unit) = blank n unit

pub none_marked : (program : List Insn) → Marked program 0 (replicate PROGRAM_UNITS false) 0
unfolding unit_count
none_marked program = record { len = refl; counted = refl; starts = λ unit. blank PROGRAM_UNITS unit ∙ sym (below unit) }
  where
    below : (unit : ℕ) → (nat_lt unit 0 && is_some (instruction_at program unit)) ≡ false
    below unit = grind (arith, nat_tests)

-- the next instruction starts inside the program
pub next_inside : (program : List Insn) (k : ℕ) (i : Insn) (total : ℕ) → slice_get program k ≡ Some i → total ≡ unit_count (take k program) → total + units_of i ≤ unit_count program
next_inside program k i total here counted = omega (arith, counted, unit_count-next program k i here, unit_count-take program (suc k))

-- its start is marked
pub more_marked : (program : List Insn) (k : ℕ) (i : Insn) (flags : List Bool) (total : ℕ) → unit_count program ≤ PROGRAM_UNITS → slice_get program k ≡ Some i → Marked program k flags total → Marked program (suc k) (set flags total true) (total + units_of i)
more_marked program k i flags total bounded here marked = record {
  len = length-set flags total true ∙ marked.len;
  counted = omega (arith, marked.counted, unit_count-next program k i here);
  starts = starts;
}
  where
    some : 1 ≤ units_of i
    some = units_of-some i

    inside : total < length flags
    inside = omega (arith, some, bounded, marked.len, next_inside program k i total here marked.counted)

    at : instruction_at program total ≡ Some i
    at = ap (instruction_at program) marked.counted ∙ starts_at program k i here

    starts : (unit : ℕ) → slice_index_or (set flags total true) unit false ≡ (nat_lt unit (total + units_of i) && is_some (instruction_at program unit))
    starts unit =
        elim (cases_order unit total) [
          | inl same ↦
              let below : nat_lt total (total + units_of i) ≡ true = grind (arith, nat_tests, some) in
              rw (same, get_or-set_same flags total true false inside, below, at) refl
          | inr apart ↦
              let other : unit ≢ total = λ e. elim apart [ inl lt ↦ omega (arith, lt, e) | inr gt ↦ omega (arith, gt, e) ] in
              get_or-set_other flags total unit true false other ∙ marked.starts unit ∙ elim apart [
                | inl before ↦
                    let lt : nat_lt unit total ≡ true = grind (arith, nat_tests, before) in
                    let below : nat_lt unit (total + units_of i) ≡ true = grind (arith, nat_tests, before) in
                    rw (lt, below) refl
                | inr after ↦
                    let past : nat_lt unit total ≡ false = grind (arith, nat_tests, after) in
                    rw past (sym (elim (cases_order unit (total + units_of i)) [
                      | inl end ↦ unmarked unit (grind (arith, nat_tests, end))
                      | inr beside ↦ elim beside [
                        | inl second ↦
                            let none = none_inside program k i unit here (omega (arith, marked.counted, after)) (omega (arith, marked.counted, second)) in
                            let below : nat_lt unit (total + units_of i) ≡ true = grind (arith, nat_tests, second) in
                            rw (below, none) refl
                        | inr later ↦ unmarked unit (grind (arith, nat_tests, later))
                      ]
                    ]))
              ]
        ]
      where
        unmarked : (unit : ℕ) → nat_lt unit (total + units_of i) ≡ false → (nat_lt unit (total + units_of i) && is_some (instruction_at program unit)) ≡ false
        unmarked unit past = rw past refl

-- if all instructions are marked, the program is laid out
pub all_marked : (program : List Insn) (k : ℕ) (flags : List Bool) (total : ℕ) → unit_count program ≤ PROGRAM_UNITS → length program ≤ k → Marked program k flags total → IsLaidOut program flags total
all_marked program k flags total bounded all marked = record { starts = starts; counted = counted; bounded = bounded }
  where
    counted : total ≡ unit_count program
    counted = marked.counted ∙ ap unit_count (take_all k program all)

    starts : (unit : ℕ) → slice_index_or flags unit false ≡ is_some (instruction_at program unit)
    starts unit = marked.starts unit ∙ elim (cases_order unit total) [
      | inl end ↦ past unit (omega (arith, end))
      | inr apart ↦ elim apart [
        | inl before ↦ let lt : nat_lt unit total ≡ true = grind (arith, nat_tests, before) in rw lt refl
        | inr after ↦ past unit (omega (arith, after))
      ]
    ]
      where
        past : (unit : ℕ) → total ≤ unit → (nat_lt unit total && is_some (instruction_at program unit)) ≡ is_some (instruction_at program unit)
        past unit le =
            let not_below : nat_lt unit total ≡ false = grind (arith, nat_tests, le) in
            let none = none_past program unit (omega (arith, counted, le)) in
            rw (not_below, none) refl
