-- Actions as ghost data, told apart by codes.
use Rattle.std.specs.Prelude.{◌≡◌, ◌⊎◌, ℕ, List, Option}
use Rattle.std.specs.Coded.{Coded, code_by, coded_ℕ, coded_list, coded_option, coded_result, coded×, coded⊎}
use base.Stored.{coded_unit}
use mathlib.Core.Path.{refl}
use mathlib.Core.Logic.{inl, inr}
use Rattle.bpf_model.specs.contracts.input.Answer.{the_row as answer_row}
use Rattle.bpf_model.specs.contracts.input.InputPart.{the_row as part_row}
use Rattle.verifier.specs.Checked.{Checked}
use Rattle.verifier.specs.contracts.verified.Verified.{the_row as verified_row}
use Rattle.bins.specs.Table.{Entry}
use Rattle.bins.specs.Replacements.{Outcome}
use Rattle.atomic_methods.specs.declared.reply.Reply.{Reply}
use Rattle.atomic_methods.specs.contracts.reply.Reply.{the_row as reply_row}
use Rattle.atomic_methods.specs.Invocations.{Method, get, put, put_if_absent, remove, remove_if, replace, replace_if, compute, compute_if_absent, compute_if_present, merge, Invocation}
use Rattle.noted_bins.specs.declared.taken.Taken.{Taken}
use Rattle.noted_bins.specs.contracts.taken.Taken.{the_row as taken_row}
use Rattle.bin_stripes.specs.Actions.{Action, called, scanned, replaced, saved}

abbrev pub Value : Type 0
Value = List ℕ

abbrev pub Program : Type 0
Program = Checked × Option Value

-- a method as a sum: those with no value, one, two, and those with a program
abbrev pub Sum : Type 0
Sum = (Unit {0} ⊎ Unit {0}) ⊎ ((Value ⊎ Value ⊎ Value ⊎ Value) ⊎ ((Value × Value) ⊎ ((Program ⊎ Program ⊎ Program) ⊎ (Value × Checked))))

abbrev pub to_sum : Method → Sum
to_sum get = inl (inl tt)
to_sum remove = inl (inr tt)
to_sum (put v) = inr (inl (inl v))
to_sum (put_if_absent v) = inr (inl (inr (inl v)))
to_sum (remove_if v) = inr (inl (inr (inr (inl v))))
to_sum (replace v) = inr (inl (inr (inr (inr v))))
to_sum (replace_if x v) = inr (inr (inl (x, v)))
to_sum (compute p a) = inr (inr (inr (inl (inl (p, a)))))
to_sum (compute_if_absent p a) = inr (inr (inr (inl (inr (inl (p, a))))))
to_sum (compute_if_present p a) = inr (inr (inr (inl (inr (inr (p, a))))))
to_sum (merge v p) = inr (inr (inr (inr (v, p))))

abbrev pub from_sum : Sum → Method
from_sum (inl (inl t)) = get
from_sum (inl (inr t)) = remove
from_sum (inr (inl (inl v))) = put v
from_sum (inr (inl (inr (inl v)))) = put_if_absent v
from_sum (inr (inl (inr (inr (inl v))))) = remove_if v
from_sum (inr (inl (inr (inr (inr v))))) = replace v
from_sum (inr (inr (inl x))) = replace_if x.0 x.1
from_sum (inr (inr (inr (inl (inl x))))) = compute x.0 x.1
from_sum (inr (inr (inr (inl (inr (inl x)))))) = compute_if_absent x.0 x.1
from_sum (inr (inr (inr (inl (inr (inr x)))))) = compute_if_present x.0 x.1
from_sum (inr (inr (inr (inr x)))) = merge x.0 x.1

pub back : (m : Method) → from_sum (to_sum m) ≡ m
back get = refl
back remove = refl
back (put v) = refl
back (put_if_absent v) = refl
back (remove_if v) = refl
back (replace v) = refl
back (replace_if x v) = refl
back (compute p a) = refl
back (compute_if_absent p a) = refl
back (compute_if_present p a) = refl
back (merge v p) = refl

abbrev pub bytes_code : Coded Value
bytes_code = coded_list coded_ℕ

abbrev pub checked_code : Coded Checked
checked_code = verified_row.coded

abbrev pub program_code : Coded Program
program_code = coded× checked_code (coded_option bytes_code)

abbrev pub method_code : Coded Method
method_code = code_by Sum
    (coded⊎ (coded⊎ coded_unit coded_unit)
    (coded⊎ (coded⊎ bytes_code (coded⊎ bytes_code (coded⊎ bytes_code bytes_code)))
    (coded⊎ (coded× bytes_code bytes_code)
    (coded⊎ (coded⊎ program_code (coded⊎ program_code program_code)) (coded× bytes_code checked_code)))))
    to_sum from_sum back

abbrev pub invocation_code : Coded Invocation
invocation_code = code_by (Value × Method) (coded× bytes_code method_code) (λ i. (i.key, i.method))
    (λ x. record { key = x.0; method = x.1 }) (λ _. refl)

abbrev pub Actions : Type 0
Actions = (Invocation × Reply) ⊎ (List Entry ⊎ (((Value × Program) × Outcome) ⊎ (Taken × List (Value × Option Value))))

abbrev pub to_actions : Action → Actions
to_actions (called i r) = inl (i, r)
to_actions (scanned es) = inr (inl es)
to_actions (replaced k p a o) = inr (inr (inl ((k, (p, a)), o)))
to_actions (saved taken rows) = inr (inr (inr (taken, rows)))

abbrev pub from_actions : Actions → Action
from_actions (inl x) = called x.0 x.1
from_actions (inr (inl es)) = scanned es
from_actions (inr (inr (inl x))) = replaced x.0.0 x.0.1.0 x.0.1.1 x.1
from_actions (inr (inr (inr x))) = saved x.0 x.1

pub again : (a : Action) → from_actions (to_actions a) ≡ a
again (called i r) = refl
again (scanned es) = refl
again (replaced k p a o) = refl
again (saved taken rows) = refl

-- an action as ghost data
abbrev pub action_code : Coded Action
action_code = code_by Actions
    (coded⊎ (coded× invocation_code reply_row.coded)
    (coded⊎ (coded_list (coded× bytes_code bytes_code))
    (coded⊎ (coded× (coded× bytes_code program_code) (coded_result answer_row.coded part_row.coded))
    (coded× taken_row.coded (coded_list (coded× bytes_code (coded_option bytes_code)))))))
    to_actions from_actions again
