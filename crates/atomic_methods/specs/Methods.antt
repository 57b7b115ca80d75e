-- What each method does to its key, and its reply. Java SE 17: Map and ConcurrentMap, but the functions are programs
-- here; null means no value. Our profile: a program runs only on inputs that fit.
use Rattle.std.specs.Prelude.{◌≡◌, ℕ, true, false, List, Option, Some, None, Result, Ok, Err, if◌then◌else◌}
use Rattle.std.specs.Str.{bytes_eq}
use Rattle.std.specs.FinMap as map
use Rattle.bpf_model.specs.declared.input.Answer.{Answer}
use Rattle.bpf_model.specs.declared.input.Answer.TheVariants.{Nothing, Bytes}
use Rattle.bpf_model.specs.declared.input.InputPart.{InputPart}
use Rattle.verifier.specs.Checked.{Checked}
use Rattle.bins.specs.Table.{Table}
use Rattle.bins.specs.Replacements.{ComesTo}
use Rattle.atomic_methods.specs.declared.reply.Reply.{Reply}
use Rattle.atomic_methods.specs.declared.reply.Reply.TheVariants.{Value, Done, Unfit}
use Rattle.atomic_methods.specs.Invocations.{Method, get, put, put_if_absent, remove, remove_if, replace, replace_if, compute, compute_if_absent, compute_if_present, merge, Invocation}

-- the outcome at a key: its new value, or none, and the reply; or the program to run
pub data Rule : Type 0 where
  leaves : Option (List ℕ) → Reply → Rule
  runs : Checked → Option (List ℕ) → Rule

-- if the value is the expected one
abbrev where_same : List ℕ → List ℕ → Rule → Rule → Rule
where_same value expected same other = if bytes_eq value expected then same else other

-- what a method does to a key that has this value, or none
abbrev pub rule_of : Method → Option (List ℕ) → Rule
rule_of get old = leaves old (Value old)
rule_of (put new) old = leaves (Some new) (Value old)
rule_of (put_if_absent new) (Some value) = leaves (Some value) (Value (Some value))
rule_of (put_if_absent new) None = leaves (Some new) (Value None)
rule_of remove old = leaves None (Value old)
rule_of (remove_if expected) (Some value) =
    where_same value expected (leaves None (Done true)) (leaves (Some value) (Done false))
rule_of (remove_if expected) None = leaves None (Done false)
rule_of (replace new) (Some value) = leaves (Some new) (Value (Some value))
rule_of (replace new) None = leaves None (Value None)
rule_of (replace_if expected new) (Some value) =
    where_same value expected (leaves (Some new) (Done true)) (leaves (Some value) (Done false))
rule_of (replace_if expected new) None = leaves None (Done false)
rule_of (compute program arg) old = runs program arg
rule_of (compute_if_absent program arg) (Some value) = leaves (Some value) (Value (Some value))
rule_of (compute_if_absent program arg) None = runs program arg
rule_of (compute_if_present program arg) (Some value) = runs program arg
rule_of (compute_if_present program arg) None = leaves None (Value None)
rule_of (merge given program) (Some value) = runs program (Some given)
rule_of (merge given program) None = leaves (Some given) (Value (Some given))

-- the program's answer becomes the key's value and is the reply; nothing means no value, and unfit keeps the old one
abbrev pub Enters : Result Answer InputPart → Option (List ℕ) → Option (List ℕ) → Reply → Type 0
Enters (Ok (Bytes value)) old new reply = (new ≡ Some value) × (reply ≡ Value (Some value))
Enters (Ok Nothing) old new reply = (new ≡ None) × (reply ≡ Value None)
Enters (Err part) old new reply = (new ≡ old) × (reply ≡ Unfit part)

-- by the rule, a key with the old value then has the new one, and this is the reply
abbrev pub Follows : Rule → List ℕ → Option (List ℕ) → Option (List ℕ) → Reply → Type 0
Follows (leaves value told) key old new reply = (new ≡ value) × (reply ≡ told)
Follows (runs program arg) key old new reply =
    (outcome : Result Answer InputPart)
    × (ComesTo program (record { key = key; old = old; arg = arg }) outcome × Enters outcome old new reply)

-- the table with this value at the key, or without the key
abbrev pub with_value : Table → List ℕ → Option (List ℕ) → Table
with_value table key (Some value) = map.insert table key value
with_value table key None = map.remove table key

-- the invocation may leave its key with this value, and get this reply
abbrev pub LeavesAtKey : Table → Invocation → Option (List ℕ) → Reply → Type 0
LeavesAtKey table invocation new reply =
    let old = map.get table invocation.key in Follows (rule_of invocation.method old) invocation.key old new reply

-- the invocation, made on the table, leaves the new one and gets the reply; no other key changes
abbrev pub Answers : Table → Invocation → Table → Reply → Type 0
Answers table invocation new reply =
    (value : Option (List ℕ)) × (LeavesAtKey table invocation value reply × (new ≡ with_value table invocation.key value))

-- the invocation, made on the table, would add its key
abbrev pub WouldAdd : Table → Invocation → Type 0
WouldAdd table invocation =
    (map.get table invocation.key ≡ None)
    × ((value : List ℕ) × ((reply : Reply) × LeavesAtKey table invocation (Some value) reply))

-- the invocation, made on the table, runs a program with this result
abbrev pub RunsTo : Table → Invocation → Result Answer InputPart → Type 0
RunsTo table invocation outcome =
    let old = map.get table invocation.key in
    (program : Checked) × ((arg : Option (List ℕ)) × ((rule_of invocation.method old ≡ runs program arg)
    × ComesTo program (record { key = invocation.key; old = old; arg = arg }) outcome))
