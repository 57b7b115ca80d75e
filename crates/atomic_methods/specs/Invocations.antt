-- A call as a value: a method with its arguments, on one key. The methods are those of Java SE 17's ConcurrentMap.
use Rattle.std.specs.Prelude.{ℕ, List, Option, option_copied}
use Rattle.verifier.specs.Checked.{Checked}
use Rattle.atomic_methods.specs.declared.call.Call.{Call}
use Rattle.atomic_methods.specs.declared.call.Call.TheVariants.{Get, Put, PutIfAbsent, Remove, RemoveIf, Replace, ReplaceIf, Compute, ComputeIfAbsent, ComputeIfPresent, Merge}

-- a method with its values, program and argument
pub data Method : Type 0 where
  get : Method
  put : List ℕ → Method
  put_if_absent : List ℕ → Method
  remove : Method
  remove_if : List ℕ → Method
  replace : List ℕ → Method
  replace_if : List ℕ → List ℕ → Method
  compute : Checked → Option (List ℕ) → Method
  compute_if_absent : Checked → Option (List ℕ) → Method
  compute_if_present : Checked → Option (List ℕ) → Method
  merge : List ℕ → Checked → Method

-- a method on a key
pub record Invocation : Type 0 where
  pub key : List ℕ
  pub method : Method

abbrev pub on_key : List ℕ → Method → Invocation
on_key k m = record { key = k; method = m }

-- the invocation of a call, which borrows its key, values and program
abbrev pub invocation_of : Call → Invocation
invocation_of (Get key) = on_key key.now get
invocation_of (Put key value) = on_key key.now (put value.now)
invocation_of (PutIfAbsent key value) = on_key key.now (put_if_absent value.now)
invocation_of (Remove key) = on_key key.now remove
invocation_of (RemoveIf key expected) = on_key key.now (remove_if expected.now)
invocation_of (Replace key value) = on_key key.now (replace value.now)
invocation_of (ReplaceIf key expected value) = on_key key.now (replace_if expected.now value.now)
invocation_of (Compute key program arg) = on_key key.now (compute program.now (option_copied arg))
invocation_of (ComputeIfAbsent key program arg) = on_key key.now (compute_if_absent program.now (option_copied arg))
invocation_of (ComputeIfPresent key program arg) = on_key key.now (compute_if_present program.now (option_copied arg))
invocation_of (Merge key value program) = on_key key.now (merge value.now program.now)
