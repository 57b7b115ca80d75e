-- Closed texts: a fact of each instruction, and the units from which a path comes to another.
use Rattle.std.proofs.Common.{◌≡◌, ◌≢◌, ℕ, zero, suc, ◌+◌, ◌⊎◌, Bool, true, false, List, [], ◌∷◌, take, Option, Some, None, refl, sym, subst, inl, inr, arith, ℤ}
use Rattle.std.specs.Prelude.{slice_get, nat_eq, ◌&&◌, ◌||◌, if◌then◌else◌}
use Rattle.std.proofs.lemmas.Bool.Decides.{nat_tests}
use Rattle.bpf_model.specs.declared.instruction.Insn.{Insn}
use Rattle.bpf_model.specs.Program.{units_of, unit_count, instruction_at}
use Rattle.bpf_model.specs.Step.{unit_of}
use Rattle.bpf_model.proofs.Options.{chain_some, test_of}
use Rattle.bpf_model.proofs.ProgramLemmas.{place_of}
use Rattle.flow_shape.specs.Jumps.{distance_of, falls_through, target_of}
use Rattle.verifier.specs.Paths.{HasValueAtEntry, IsNextUnit, OnEveryPath, WasWritten}

-- this holds of each instruction, with the unit at which it starts
abbrev pub AtEach : List Insn → ℕ → (ℕ → Insn → Type 0) → Type 0
AtEach [] unit holds = Unit {0}
AtEach (i ∷ rest) unit holds = holds unit i × AtEach rest (unit + units_of i) holds

at_place : (program : List Insn) (unit : ℕ) (holds : ℕ → Insn → Type 0) → AtEach program unit holds → (k : ℕ) (i : Insn) → slice_get program k ≡ Some i → holds (unit + unit_count (take k program)) i
unfolding unit_count
at_place [] unit holds all k i e = absurd cc
at_place (j ∷ rest) unit holds all zero i e =
    let same : j ≡ i = cc in
    let here : unit ≡ unit + 0 = omega arith in
    subst (λ (u : ℕ). holds u i) here (subst (holds unit) same all.0)
at_place (j ∷ rest) unit holds all (suc k) i e =
    let there : (unit + units_of j) + unit_count (take k rest) ≡ unit + (units_of j + unit_count (take k rest)) = omega arith in
    subst (λ (u : ℕ). holds u i) there (at_place rest (unit + units_of j) holds all.1 k i e)

pub at_each : (program : List Insn) (holds : ℕ → Insn → Type 0) → AtEach program 0 holds → (u : ℕ) (i : Insn) → instruction_at program u ≡ Some i → holds u i
at_each program holds all u i e =
    let p = place_of program u i e in
    let there : 0 + unit_count (take p.0 program) ≡ u = omega (arith, p.1.1) in
    subst (λ (v : ℕ). holds v i) there (at_place program 0 holds all p.0 i p.1.0)

abbrev pub is_number : Option ℕ → ℕ → Bool
is_number None v = false
is_number (Some n) v = nat_eq n v

abbrev pub jumps_there : Option ℤ → ℕ → ℕ → Bool
jumps_there None u v = false
jumps_there (Some distance) u v = is_number (unit_of (target_of u distance)) v

-- whether an instruction at the first unit is followed by the second
unfoldable pub leads_there : Insn → ℕ → ℕ → Bool
leads_there i u v = (falls_through i && nat_eq (u + units_of i) v) || jumps_there (distance_of i) u v

-- the units of the instructions from which a path comes to the unit
abbrev pub sources : List Insn → ℕ → ℕ → List ℕ
sources [] unit v = []
sources (i ∷ rest) unit v = if leads_there i unit v then unit ∷ sources rest (unit + units_of i) v else sources rest (unit + units_of i) v

abbrev pub IsAmong : ℕ → List ℕ → Type 0
IsAmong u [] = ⊥
IsAmong u (x ∷ xs) = (u ≡ x) ⊎ IsAmong u xs

among_sources : (program : List Insn) (unit v k : ℕ) (i : Insn) → slice_get program k ≡ Some i → leads_there i (unit + unit_count (take k program)) v ≡ true → IsAmong (unit + unit_count (take k program)) (sources program unit v)
unfolding unit_count
among_sources [] unit v k i e leads = absurd cc
among_sources (j ∷ rest) unit v zero i e leads =
    let same : j ≡ i = cc in
    let here : unit + 0 ≡ unit = omega arith in
    let there : leads_there j unit v ≡ true = subst (λ (u : ℕ). leads_there j u v ≡ true) here (subst (λ (x : Insn). leads_there x (unit + 0) v ≡ true) (sym same) leads) in
    rw there (inl here)
among_sources (j ∷ rest) unit v (suc k) i e leads =
    let there : (unit + units_of j) + unit_count (take k rest) ≡ unit + (units_of j + unit_count (take k rest)) = omega arith in
    let later = among_sources rest (unit + units_of j) v k i e (subst (λ (u : ℕ). leads_there i u v ≡ true) (sym there) leads) in
    let moved : IsAmong (unit + (units_of j + unit_count (take k rest))) (sources rest (unit + units_of j) v) = subst (λ (u : ℕ). IsAmong u (sources rest (unit + units_of j) v)) there later in
    elim (test_of (leads_there j unit v)) [ inl t ↦ rw t (inr moved) | inr t ↦ rw t moved ]

both_true : (a b c : Bool) → a ≡ true → b ≡ true → ((a && b) || c) ≡ true
both_true true true c h k = refl
both_true true false c h k = absurd cc
both_true false b c h k = absurd cc

later_true : (a b : Bool) → b ≡ true → (a || b) ≡ true
later_true true b h = refl
later_true false b h = h

follows_leads : (program : List Insn) (u v : ℕ) → IsNextUnit program u v → (i : Insn) × ((instruction_at program u ≡ Some i) × (leads_there i u v ≡ true))
unfolding leads_there
follows_leads program u v (inl falls) =
    let i = falls.0 in
    let there : nat_eq (u + units_of i) v ≡ true = let next = falls.1.1.1 in grind (arith, nat_tests) in
    (i, (falls.1.0, both_true (falls_through i) (nat_eq (u + units_of i) v) (jumps_there (distance_of i) u v) falls.1.1.0 there))
follows_leads program u v (inr jump) =
    let x = chain_some distance_of (instruction_at program u) jump.0 jump.1.0 in
    let same : nat_eq v v ≡ true = grind (arith, nat_tests) in
    let lands : is_number (unit_of (target_of u jump.0)) v ≡ true = rw jump.1.1 same in
    let jumps : jumps_there (distance_of x.0) u v ≡ true = rw x.2 lands in
    (x.0, (x.1, later_true (falls_through x.0 && nat_eq (u + units_of x.0) v) (jumps_there (distance_of x.0) u v) jumps))

pub came_from : (program : List Insn) (u v : ℕ) → IsNextUnit program u v → IsAmong u (sources program 0 v)
came_from program u v follows =
    let x = follows_leads program u v follows in
    let p = place_of program u x.0 x.1.0 in
    let there : 0 + unit_count (take p.0 program) ≡ u = omega (arith, p.1.1) in
    subst (λ (n : ℕ). IsAmong n (sources program 0 v)) there (among_sources program 0 v p.0 x.0 p.1.0 (subst (λ (n : ℕ). leads_there x.0 n v ≡ true) (sym there) x.1.1))

-- a fact holds of each path to a later unit if it does for each unit from which a path comes there
pub on_paths_from : (program : List Insn) (v : ℕ) (holds : List ℕ → Type 0) → v ≢ 0 → ((u : ℕ) → IsAmong u (sources program 0 v) → OnEveryPath program u (λ before. holds (u ∷ before))) → OnEveryPath program v holds
on_paths_from program v holds later from [] comes = absurd (later comes)
on_paths_from program v holds later from (u ∷ before) comes = from u (came_from program u v comes.0) before comes.1

-- a register that has a value at entry was written on every path
pub written_at_entry : (program : List Insn) (r : ℕ) → HasValueAtEntry r → (before : List ℕ) → WasWritten program r before
written_at_entry program r h [] = h
written_at_entry program r h (u ∷ before) = inr (written_at_entry program r h before)
