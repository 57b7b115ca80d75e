-- The table of commands: the calls that each one makes, in order, and the bytes of its reply.
use Rattle.std.specs.Prelude.{◌≡◌, ◌⊎◌, ℕ, Bool, true, false, List, [], ◌∷◌, ◌++◌, length, flat_map, count_by, Option, is_some, is_none}
use Rattle.atomic_methods.specs.declared.reply.Reply.{Reply}
use Rattle.atomic_methods.specs.Invocations.{on_key, get, put, put_if_absent, replace, replace_if, remove_if}
use Rattle.timed_bins.specs.declared.timing.DeadlineChange.TheVariants.{Keep, Clear}
use Rattle.timed_bins.specs.declared.timing.DeadlineChange.TheVariants as deadline
use Rattle.bin_stripes.specs.Passes.{PassState}
use Rattle.resp.specs.Replies.{array_head}
use Rattle.redis_commands.specs.Commands.{Act, Condition}
use Rattle.redis_commands.specs.Commands.Act.{Get, Set, SetIfAbsent, GetAndSet, GetAndDelete, GetAndExpire, Expire, Persist, TimeLeft, Length, TypeName, Add, Append, GetRange, SetRange, DeleteIfEqual}
use Rattle.redis_commands.specs.Commands.Condition.{Always, IfAbsent, IfPresent, IfEqual}
use Rattle.redis_commands.specs.declared.command.Lifetime.{Lifetime}
use Rattle.redis_commands.specs.declared.command.KeysAct.{KeysAct}
use Rattle.redis_commands.specs.declared.command.KeysAct.TheVariants.{GetEach, Delete, CountPresent}
use Rattle.redis_service.specs.Lines.{no_memory_line}
use Rattle.redis_service.specs.Calls.{Makes, Refuses, AnswersCall, AnswersTimed, AnswersGet, Finds, Removes, Each, value_in, is_done, bulk}
use Rattle.redis_service.specs.Changes.{AnswersChange}
use Rattle.redis_service.specs.Deadlines.{lives, rule_by, expire_line, persist_line, time_line}
use Rattle.redis_service.specs.Texts.{ok_line, ok_if, one_if, count_line, length_line, type_line, range_line, Adds, Appends, SetsRange, SetsIfEqual}

-- keys and values by turns, as pairs
abbrev pub pairs : List (List ℕ) → List (List ℕ × List ℕ)
pairs [] = []
pairs (key ∷ []) = []
pairs (key ∷ value ∷ more) = (key, value) ∷ pairs more

-- over the time at which the calls are made. A call says what becomes of its key's deadline, if it gets to the entry
module _ (now : ℕ) where
  -- ---- one key

  -- SET, SETEX and PSETEX; the old value is the reply if that is wanted
  abbrev pub AnswersSet : PassState → List ℕ → List ℕ → Condition → Bool → Lifetime → List ℕ → PassState → Type 0
  AnswersSet old key value Always false lifetime written new =
      AnswersCall now (lives lifetime) old (on_key key (put value)) (λ reply. ok_line) written new
  AnswersSet old key value Always true lifetime written new =
      AnswersCall now (lives lifetime) old (on_key key (put value)) (λ reply. bulk (value_in reply)) written new
  AnswersSet old key value IfAbsent false lifetime written new =
      AnswersCall now (lives lifetime) old (on_key key (put_if_absent value)) (λ reply. ok_if (is_none (value_in reply))) written new
  AnswersSet old key value IfAbsent true lifetime written new =
      AnswersCall now (lives lifetime) old (on_key key (put_if_absent value)) (λ reply. bulk (value_in reply)) written new
  AnswersSet old key value IfPresent false lifetime written new =
      AnswersCall now (lives lifetime) old (on_key key (replace value)) (λ reply. ok_if (is_some (value_in reply))) written new
  AnswersSet old key value IfPresent true lifetime written new =
      AnswersCall now (lives lifetime) old (on_key key (replace value)) (λ reply. bulk (value_in reply)) written new
  AnswersSet old key value (IfEqual expected) false lifetime written new =
      AnswersCall now (lives lifetime) old (on_key key (replace_if expected value)) (λ reply. ok_if (is_done reply)) written new
  AnswersSet old key value (IfEqual expected) true lifetime written new =
      AnswersChange now (lives lifetime) key (SetsIfEqual expected value) old written new

  abbrev pub AnswersKey : PassState → List ℕ → Act → List ℕ → PassState → Type 0
  AnswersKey old key Get written new = AnswersGet now old key bulk written new
  AnswersKey old key (Set value condition wants_old lifetime) written new = AnswersSet old key value condition wants_old lifetime written new
  AnswersKey old key (SetIfAbsent value) written new =
      AnswersCall now Clear old (on_key key (put_if_absent value)) (λ reply. one_if (is_none (value_in reply))) written new
  AnswersKey old key (GetAndSet value) written new =
      AnswersCall now Clear old (on_key key (put value)) (λ reply. bulk (value_in reply)) written new
  AnswersKey old key GetAndDelete written new =
      (found : Option (List ℕ)) × Removes now old key found new × (written ≡ bulk found)
  AnswersKey old key (GetAndExpire lifetime) written new =
      AnswersCall now (lives lifetime) old (on_key key get) (λ reply. bulk (value_in reply)) written new
  AnswersKey old key (Expire at rule) written new =
      AnswersTimed now (deadline.Set at (rule_by rule)) old (on_key key get)
      (λ reply before. expire_line (rule_by rule) at (value_in reply) before) written new
  AnswersKey old key Persist written new =
      AnswersTimed now Clear old (on_key key get) (λ reply before. persist_line (value_in reply) before) written new
  AnswersKey old key (TimeLeft unit form) written new =
      AnswersTimed now Keep old (on_key key get) (λ reply before. time_line now unit form (value_in reply) before) written new
  AnswersKey old key Length written new = AnswersGet now old key length_line written new
  AnswersKey old key TypeName written new = AnswersGet now old key type_line written new
  AnswersKey old key (Add by) written new = AnswersChange now Keep key (Adds by) old written new
  AnswersKey old key (Append more) written new = AnswersChange now Keep key (Appends more) old written new
  AnswersKey old key (GetRange start end) written new = AnswersGet now old key (range_line start end) written new
  AnswersKey old key (SetRange offset more) written new = AnswersChange now Keep key (SetsRange offset more) old written new
  AnswersKey old key (DeleteIfEqual value) written new =
      AnswersCall now Keep old (on_key key (remove_if value)) (λ reply. one_if (is_done reply)) written new

  -- ---- several keys, one after the other

  -- MGET, DEL and EXISTS
  abbrev pub AnswersKeys : PassState → List (List ℕ) → KeysAct → List ℕ → PassState → Type 0
  AnswersKeys old keys GetEach written new =
      (founds : List (Option (List ℕ))) × Each (Finds now) old keys founds new × (written ≡ array_head (length keys) ++ flat_map bulk founds)
  AnswersKeys old keys Delete written new =
      (founds : List (Option (List ℕ))) × Each (Removes now) old keys founds new × (written ≡ count_line (count_by is_some founds))
  AnswersKeys old keys CountPresent written new =
      (founds : List (Option (List ℕ))) × Each (Finds now) old keys founds new × (written ≡ count_line (count_by is_some founds))

  -- a Put of a pair, which goes without a deadline
  abbrev pub Puts : PassState → List ℕ × List ℕ → Reply → PassState → Type 0
  Puts old pair reply new = (before : Option ℕ) × Makes now Clear old (on_key pair.0 (put pair.1)) reply before new

  -- memory was refused to one of the Puts, and the ones before it were made
  pub record StopsAt (old : PassState) (all : List (List ℕ × List ℕ)) (new : PassState) : Type 0 where
    pub done : List (List ℕ × List ℕ)
    pub pair : List ℕ × List ℕ
    pub left : List (List ℕ × List ℕ)
    pub order : all ≡ done ++ pair ∷ left
    pub replies : List Reply
    pub mid : PassState
    pub puts : Each Puts old done replies mid
    pub refuses : Refuses now Clear mid (on_key pair.0 (put pair.1)) new

  -- MSET
  abbrev pub AnswersSetEach : PassState → List (List ℕ × List ℕ) → List ℕ → PassState → Type 0
  AnswersSetEach old all written new =
      ((replies : List Reply) × Each Puts old all replies new × (written ≡ ok_line))
      ⊎ (StopsAt old all new × (written ≡ no_memory_line))
