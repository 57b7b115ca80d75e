-- The commands of programs: the call that each one makes, and the bytes of its reply.
use Rattle.std.specs.Prelude.{◌≡◌, ◌≢◌, ◌⊎◌, ℕ, ℤ, FitsSigned, Bool, true, false, List, [], ◌∷◌, ◌++◌, length, flat_map, nat_eq, pos, ◌≤◌, ◌<◌, Option, Some, None, Ok, codes, if◌then◌else◌}
use Rattle.std.specs.Int.{w64, to_le_bytes, from_le_bytes, cast_signed, cast_unsigned}
use Rattle.std.specs.Fmt.{signed_decimal}
use Rattle.sha1.specs.Sha1.{sha1}
use Rattle.std.specs.List.{AllPass}
use Rattle.hex.specs.Hex.{decode_of, encode_lower, is_hex_digit}
use Rattle.bpf_model.specs.declared.limits.TheConstants.{VALUE_BYTES}
use Rattle.verifier.specs.Checked.{Checked}
use Rattle.atomic_methods.specs.declared.reply.Reply.{Reply}
use Rattle.atomic_methods.specs.declared.reply.Reply.TheVariants.{Value, Done, Unfit}
use Rattle.atomic_methods.specs.Invocations.{on_key, remove_if, replace_if, compute, compute_if_absent, compute_if_present, merge}
use Rattle.timed_bins.specs.declared.timing.DeadlineChange.TheVariants.{Keep, Set}
use Rattle.timed_bins.specs.declared.timing.SetRule.TheVariants.{Always}
use Rattle.bin_stripes.specs.Passes.{PassState}
use Rattle.resp.specs.Replies.{error_bytes, integer_bytes, value_bytes, nothing_bytes, array_head}
use Rattle.redis_commands.specs.Commands.{ProgramAsked}
use Rattle.redis_commands.specs.Commands.ProgramAsked.{Load, Exists, Call, Eval}
use Rattle.redis_scripts.specs.declared.head.Method.{Method}
use Rattle.redis_scripts.specs.declared.head.Method.TheVariants.{Compute, IfAbsent, IfPresent, Merge}
use Rattle.redis_scripts.specs.declared.head.ReplyKind.{ReplyKind}
use Rattle.redis_scripts.specs.declared.head.ReplyKind.TheVariants.{Bytes, Integer}
use Rattle.redis_scripts.specs.declared.fault.ScriptFault.{ScriptFault}
use Rattle.redis_scripts.specs.Faults.{IsFaultOf, fault_text}
use Rattle.redis_scripts.specs.declared.lua.LockAct.{LockAct}
use Rattle.redis_scripts.specs.declared.lua.LockAct.TheVariants.{Release, Extend, Reacquire}
use Rattle.redis_scripts.specs.Lua.{ActsOnLock}
use Rattle.redis_scripts.specs.Scripts.{IsText, IsScript}
use Rattle.redis_service.specs.Calls.{AnswersCall, AnswersTimed, Each, is_done}
use Rattle.redis_service.specs.Deadlines.{later_by, goes_on, extended_line}
use Rattle.redis_service.specs.Texts.{one_if, text_of, not_a_number, too_long}

-- ---- replies

-- a script that replies by numbers replies 8 bytes as the signed number that they spell, the low one first
abbrev pub value_line : ReplyKind → List ℕ → List ℕ
value_line Bytes value = value_bytes value
value_line Integer value = if nat_eq (length value) 8 then integer_bytes (cast_signed w64 (from_le_bytes w64 value)) else value_bytes value

-- the reply of a script's call
abbrev pub script_line : ReplyKind → Reply → List ℕ
script_line kind (Value (Some value)) = value_line kind value
script_line kind (Value None) = nothing_bytes
script_line kind (Done done) = one_if done
script_line kind (Unfit part) = error_bytes (codes "ERR unfit: a length is above its declared size")

-- no call was made, and the reply is this
abbrev pub Only : List ℕ → PassState → List ℕ → PassState → Type 0
Only line old written new = (written ≡ line) × (new ≡ old)

abbrev pub no_script : List ℕ
no_script = error_bytes (codes "NOSCRIPT No matching script. Please use EVAL.")

abbrev pub no_argument : List ℕ
no_argument = error_bytes (codes "ERR wrong number of arguments for this script")

-- the word is a time in milliseconds, in decimal and below 2^63, with which this is so
abbrev pub AnswersTime : List ℕ → (ℕ → Type 0) → PassState → List ℕ → PassState → Type 0
AnswersTime word Answers old written new =
    ((ms : ℕ) × FitsSigned w64 (pos ms) × (word ≡ signed_decimal (pos ms)) × Answers ms)
    ⊎ (((ms : ℕ) → FitsSigned w64 (pos ms) → word ≢ signed_decimal (pos ms)) × Only not_a_number old written new)

-- ---- one call, over the time at which it is made

-- a script that asks for the time gets an argument that begins with it: 8 bytes, the low one first
abbrev pub with_time : ℕ → Bool → Option (List ℕ) → Option (List ℕ)
with_time now false arg = arg
with_time now true arg = Some (to_le_bytes w64 now ++ text_of arg)

module _ (now : ℕ) where
  -- the call of a script's program on a key, by the script's method. A merge needs an argument
  abbrev pub AnswersWith : PassState → List ℕ → Method → ReplyKind → Checked → Option (List ℕ) → List ℕ → PassState → Type 0
  AnswersWith old key Compute kind program arg written new = AnswersCall now Keep old (on_key key (compute program arg)) (script_line kind) written new
  AnswersWith old key IfAbsent kind program arg written new =
      AnswersCall now Keep old (on_key key (compute_if_absent program arg)) (script_line kind) written new
  AnswersWith old key IfPresent kind program arg written new =
      AnswersCall now Keep old (on_key key (compute_if_present program arg)) (script_line kind) written new
  AnswersWith old key Merge kind program (Some arg) written new = AnswersCall now Keep old (on_key key (merge arg program)) (script_line kind) written new
  AnswersWith old key Merge kind program None written new = Only no_argument old written new

  -- the same with this argument, unless it is too long
  abbrev pub AnswersIfFit : PassState → List ℕ → Method → ReplyKind → Checked → Option (List ℕ) → List ℕ → PassState → Type 0
  AnswersIfFit old key method kind program arg written new =
      ((length (text_of arg) ≤ VALUE_BYTES) × AnswersWith old key method kind program arg written new)
      ⊎ ((VALUE_BYTES < length (text_of arg)) × Only too_long old written new)

  -- a script that replies by numbers takes one: the argument is a number of 64 bits in decimal, and the program gets its 8 bytes,
  -- the low one first. Another script gets the argument's bytes
  abbrev pub AnswersScript : PassState → List ℕ → Method → ReplyKind → Bool → Checked → Option (List ℕ) → List ℕ → PassState → Type 0
  AnswersScript old key method kind with_now program None written new =
      AnswersIfFit old key method kind program (with_time now with_now None) written new
  AnswersScript old key method Bytes with_now program (Some word) written new =
      AnswersIfFit old key method Bytes program (with_time now with_now (Some word)) written new
  AnswersScript old key method Integer with_now program (Some word) written new =
      ((n : ℤ) × FitsSigned w64 n × (word ≡ signed_decimal n)
      × AnswersIfFit old key method Integer program (with_time now with_now (Some (to_le_bytes w64 (cast_unsigned w64 n)))) written new)
      ⊎ (((n : ℤ) → FitsSigned w64 n → word ≢ signed_decimal n) × Only not_a_number old written new)

  -- a script has one argument, or none
  abbrev pub AnswersArguments : PassState → List ℕ → Method → ReplyKind → Bool → Checked → List (List ℕ) → List ℕ → PassState → Type 0
  AnswersArguments old key method kind with_now program [] written new = AnswersScript old key method kind with_now program None written new
  AnswersArguments old key method kind with_now program (word ∷ []) written new =
      AnswersScript old key method kind with_now program (Some word) written new
  AnswersArguments old key method kind with_now program words written new = Only no_argument old written new

  -- an act on a lock, whose value has to be the first argument: the key is removed, its time goes on, or its time begins anew
  abbrev pub AnswersLock : PassState → List ℕ → LockAct → List (List ℕ) → List ℕ → PassState → Type 0
  AnswersLock old key Release (holder ∷ []) written new =
      AnswersCall now Keep old (on_key key (remove_if holder)) (λ reply. one_if (is_done reply)) written new
  AnswersLock old key Extend (holder ∷ time ∷ word ∷ []) written new =
      AnswersTime time (λ ms. AnswersTimed now (goes_on now ms word) old (on_key key (replace_if holder holder))
      (λ reply before. extended_line (is_done reply) before) written new) old written new
  AnswersLock old key Reacquire (holder ∷ time ∷ []) written new =
      AnswersTime time (λ ms. AnswersCall now (Set (later_by now ms) Always) old (on_key key (replace_if holder holder))
      (λ reply. one_if (is_done reply)) written new) old written new
  AnswersLock old key act words written new = Only no_argument old written new

-- ---- commands

-- this word is the name of a digest: 40 hexadecimal digits of either case
pub record Names (word digest : List ℕ) : Type 0 where
  pub long : length word ≡ 40
  pub digits : AllPass is_hex_digit word
  pub value : decode_of word ≡ Ok digest

-- no act on a lock has this name
abbrev pub NamesNoAct : List ℕ → Type 0
NamesNoAct word = (digest : List ℕ) (act : LockAct) → Names word digest → ActsOnLock digest act → ⊥

-- SCRIPT LOAD: the name of the text's digest, in lower case, if it is an act on a lock or a script's text
abbrev pub LoadsText : List ℕ → List ℕ → Type 0
LoadsText text written =
    ((act : LockAct) × ActsOnLock (sha1 text) act × (written ≡ value_bytes (encode_lower (sha1 text))))
    ⊎ (((method : Method) × (kind : ReplyKind) × (with_now : Bool) × (program : Checked) × IsText text method kind with_now program
    × (written ≡ value_bytes (encode_lower (sha1 text))))
    ⊎ ((fault : ScriptFault) × IsFaultOf text fault × (written ≡ error_bytes (fault_text fault))))

-- whether the word names what can be called: an act on a lock, or a script
abbrev pub Tells : List ℕ → Bool → Type 0
Tells word true =
    (digest : List ℕ) × Names word digest × (((act : LockAct) × ActsOnLock digest act)
    ⊎ ((method : Method) × (kind : ReplyKind) × (with_now : Bool) × (program : Checked) × IsScript digest method kind with_now program))
Tells word false = NamesNoAct word

-- the same, and no call is made
abbrev pub Looks : PassState → List ℕ → Bool → PassState → Type 0
Looks old word is new = Tells word is × (new ≡ old)

module _ (now : ℕ) where
  -- EVALSHA of an act on a lock, of a script with this digest, or of none that was found
  abbrev pub AnswersDigest : PassState → List ℕ → List ℕ → List (List ℕ) → List ℕ → PassState → Type 0
  AnswersDigest old word key arguments written new =
      ((digest : List ℕ) × (act : LockAct) × Names word digest × ActsOnLock digest act × AnswersLock now old key act arguments written new)
      ⊎ (((digest : List ℕ) × Names word digest × ((method : Method) × (kind : ReplyKind) × (with_now : Bool) × (program : Checked)
      × IsScript digest method kind with_now program × AnswersArguments now old key method kind with_now program arguments written new))
      ⊎ (NamesNoAct word × Only no_script old written new))

  -- EVAL of an act on a lock, of a script's text, or of a text that is none
  abbrev pub AnswersText : PassState → List ℕ → List ℕ → List (List ℕ) → List ℕ → PassState → Type 0
  AnswersText old text key arguments written new =
      ((act : LockAct) × ActsOnLock (sha1 text) act × AnswersLock now old key act arguments written new)
      ⊎ (((method : Method) × (kind : ReplyKind) × (with_now : Bool) × (program : Checked) × IsText text method kind with_now program
      × AnswersArguments now old key method kind with_now program arguments written new)
      ⊎ ((fault : ScriptFault) × IsFaultOf text fault × Only (error_bytes (fault_text fault)) old written new))

  -- a command about programs
  abbrev pub AnswersProgram : PassState → ProgramAsked → List ℕ → PassState → Type 0
  AnswersProgram old (Load text) written new = LoadsText text written × (new ≡ old)
  AnswersProgram old (Exists words) written new =
      (marks : List Bool) × Each Looks old words marks new × (written ≡ array_head (length words) ++ flat_map one_if marks)
  AnswersProgram old (Call word key arguments) written new = AnswersDigest old word key arguments written new
  AnswersProgram old (Eval text key arguments) written new = AnswersText old text key arguments written new
