-- The effect and the reply of a call that runs a program.
use Rattle.std.proofs.Common.{◌≡◌, ℕ, List, Option, Some, None, Ok, Err, refl, sym}
use Rattle.std.specs.FinMap as map
use Rattle.bpf_model.specs.declared.input.Answer.TheVariants.{Nothing, Bytes}
use Rattle.bpf_model.specs.declared.input.InputPart.{InputPart}
use Rattle.verifier.specs.Checked.{Checked}
use Rattle.bins.specs.Table.{Table}
use Rattle.bins.specs.Replacements.{Outcome, ComesTo}
use Rattle.atomic_methods.specs.declared.reply.Reply.TheVariants.{Value, Unfit}
use Rattle.atomic_methods.specs.Invocations.{Invocation}
use Rattle.atomic_methods.specs.Methods.{rule_of, runs, Answers, RunsTo, WouldAdd}
use Rattle.atomic_methods.proofs.TableLemmas.{keeps}

-- a call runs the program that its rule names, on the key's value
pub runs_to : (table : Table) (invocation : Invocation) (old : Option (List ℕ)) (program : Checked) (arg : Option (List ℕ)) (outcome : Outcome) → old ≡ map.get table invocation.key → runs program arg ≡ rule_of invocation.method old → ComesTo program (record { key = invocation.key; old = old; arg = arg }) outcome → RunsTo table invocation outcome
runs_to table invocation old program arg outcome found rule comes = rw (← found) (program, (arg, (sym rule, comes)))

-- bytes are entered and replied
pub bytes_entered : (table new : Table) (invocation : Invocation) (bytes : List ℕ) → RunsTo table invocation (Ok (Bytes bytes)) → new ≡ map.insert table invocation.key bytes → Answers table invocation new (Value (Some bytes))
bytes_entered table new invocation bytes came entered = (Some bytes, (rw came.1.1.0 (Ok (Bytes bytes), (came.1.1.1, (refl, refl))), entered))

-- entering them would add a key that is absent
pub bytes_add : (table : Table) (invocation : Invocation) (bytes : List ℕ) → RunsTo table invocation (Ok (Bytes bytes)) → map.get table invocation.key ≡ None → WouldAdd table invocation
bytes_add table invocation bytes came absent = (absent, (bytes, (Value (Some bytes), rw came.1.1.0 (Ok (Bytes bytes), (came.1.1.1, (refl, refl))))))

-- if the answer is nothing, the key is removed
pub nothing_left : (table new : Table) (invocation : Invocation) → RunsTo table invocation (Ok Nothing) → new ≡ map.remove table invocation.key → Answers table invocation new (Value None)
nothing_left table new invocation came removed = (None, (rw came.1.1.0 (Ok Nothing, (came.1.1.1, (refl, refl))), removed))

-- if a window is too small, the key keeps its value
pub unfit_kept : (table : Table) (invocation : Invocation) (part : InputPart) → RunsTo table invocation (Err part) → Answers table invocation table (Unfit part)
unfit_kept table invocation part came = (map.get table invocation.key, (rw came.1.1.0 (Err part, (came.1.1.1, (refl, refl))), keeps table invocation.key (map.get table invocation.key) refl))
