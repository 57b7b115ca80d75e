-- The meaning of plans, kinds of replies, and answers in a value of the caller's.
use Rattle.std.specs.Prelude.{ℕ, Bool, true, false, List, Option, Some, None, Result, Ok, Err, option_copied}
use Rattle.bpf_model.specs.declared.input.Answer.{Answer}
use Rattle.bpf_model.specs.declared.input.Answer.TheVariants.{Nothing, Bytes}
use Rattle.bpf_model.specs.declared.input.InputPart.{InputPart}
use Rattle.atomic_methods.specs.declared.methods.Change.{Change}
use Rattle.atomic_methods.specs.declared.methods.Change.TheVariants.{Keep, Remove, Enter}
use Rattle.atomic_methods.specs.declared.methods.PlannedReply.{PlannedReply}
use Rattle.atomic_methods.specs.declared.methods.PlannedReply.TheVariants.{Old, Done as Tells}
use Rattle.atomic_methods.specs.declared.methods.Plan.{Plan}
use Rattle.atomic_methods.specs.declared.methods.Plan.TheVariants.{Apply, Give, Run}
use Rattle.atomic_methods.specs.declared.reply.Reply.{Reply}
use Rattle.atomic_methods.specs.declared.reply.Reply.TheVariants.{Value, Done, Unfit}
use Rattle.atomic_methods.specs.declared.reply.ReplyKind.{ReplyKind}
use Rattle.atomic_methods.specs.declared.reply.ReplyKind.TheVariants.{None as NoValue, Some as SomeValue, Done as IsDone, Unfit as IsUnfit}
use Rattle.atomic_methods.specs.Methods.{Rule, leaves, runs}

-- the value after a change of the old one
abbrev pub changed : Change → Option (List ℕ) → Option (List ℕ)
changed Keep old = old
changed Remove old = None
changed (Enter value) old = Some value.now

-- the reply, if the key had the old value
abbrev pub reply_planned : PlannedReply → Option (List ℕ) → Reply
reply_planned Old old = Value old
reply_planned (Tells done) old = Done done

abbrev pub rule_by : Plan → Option (List ℕ) → Rule
rule_by (Apply change told) old = leaves (changed change old) (reply_planned told old)
rule_by (Give value) old = leaves (Some value.now) (Value (Some value.now))
rule_by (Run program arg) old = runs program.now (option_copied arg)

-- a program's outcome, if an answer of bytes was left here
abbrev pub outcome_by : Result Bool InputPart → List ℕ → Result Answer InputPart
outcome_by (Ok true) bytes = Ok (Bytes bytes)
outcome_by (Ok false) bytes = Ok Nothing
outcome_by (Err part) bytes = Err part

-- the reply, if the bytes of its value were left here
abbrev pub reply_by : ReplyKind → List ℕ → Reply
reply_by NoValue bytes = Value None
reply_by SomeValue bytes = Value (Some bytes)
reply_by (IsDone done) bytes = Done done
reply_by (IsUnfit part) bytes = Unfit part

-- the value, if there is one
abbrev pub where_true : Bool → List ℕ → Option (List ℕ)
where_true true value = Some value
where_true false value = None
