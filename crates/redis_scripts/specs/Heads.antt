-- A script's first line: `#!bpf METHOD REPLY KEY OLD ARGUMENT RESULT`, with one blank between two words. It may end with the word
-- `with-now`.
use Rattle.std.specs.Prelude.{◌≡◌, ℕ, ◌<◌, ◌^◌, Bool, true, false, List, [], ◌∷◌, ◌++◌, codes, decimal}
use Rattle.bpf_model.specs.declared.input.Sizes.{Sizes}
use Rattle.redis_scripts.specs.declared.head.Method.{Method}
use Rattle.redis_scripts.specs.declared.head.Method.TheVariants.{Compute, IfAbsent, IfPresent, Merge}
use Rattle.redis_scripts.specs.declared.head.ReplyKind.{ReplyKind}
use Rattle.redis_scripts.specs.declared.head.ReplyKind.TheVariants.{Bytes, Integer}
use Rattle.redis_scripts.specs.declared.head.Head.{Head}
use Rattle.redis_scripts.specs.Pieces.{pieces}
use Rattle.redis_scripts.specs.Code.{without_end_blanks}

abbrev pub method_word : Method → List ℕ
method_word Compute = codes "compute"
method_word IfAbsent = codes "if-absent"
method_word IfPresent = codes "if-present"
method_word Merge = codes "merge"

abbrev pub reply_word : ReplyKind → List ℕ
reply_word Bytes = codes "bytes"
reply_word Integer = codes "integer"

-- the most bytes of key, old value, argument and result
abbrev pub size_words : Sizes → List (List ℕ)
size_words sizes = decimal sizes.key ∷ decimal sizes.old ∷ decimal sizes.arg ∷ decimal sizes.result ∷ []

-- whether the program gets the time in front of its argument
abbrev pub now_words : Bool → List (List ℕ)
now_words true = codes "with-now" ∷ []
now_words false = []

abbrev pub head_words : Head → List (List ℕ)
head_words head = codes "#!bpf" ∷ method_word head.method ∷ reply_word head.reply ∷ (size_words head.sizes ++ now_words head.with_now)

-- a merge stores its argument if there is no old value, so it can't have the time in front
abbrev pub merges_with_now : Method → Bool → Bool
merges_with_now Compute with_now = false
merges_with_now IfAbsent with_now = false
merges_with_now IfPresent with_now = false
merges_with_now Merge with_now = with_now

-- each size has 16 bits
abbrev pub AreSmall : Sizes → Type 0
AreSmall sizes = (sizes.key < 2 ^ 16) × (sizes.old < 2 ^ 16) × (sizes.arg < 2 ^ 16) × (sizes.result < 2 ^ 16)

-- the line says this; blanks at its end don't count
pub record IsHead (line : List ℕ) (head : Head) : Type 0 where
  pub words : pieces 32 (without_end_blanks line) ≡ head_words head
  pub small : AreSmall head.sizes
