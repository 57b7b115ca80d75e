-- Commands about the whole map: the walk that each one makes, and its reply.
use Rattle.std.specs.Prelude.{◌≡◌, ◌⊎◌, ℕ, max, Bool, if◌then◌else◌, List, [], ◌++◌, length, flat_map, filter, Option, Some, None, decimal}
use Rattle.bin_stripes.specs.Passes.{PassState, stripes_of}
use Rattle.key_walks.specs.Turns.{Stops}
use Rattle.key_walks.specs.Expired.{FindsLive, StopsLive}
use Rattle.key_walks.specs.Walks.{CountsAll, FindsAll, ClearsAll, Clears, Chooses, each, each_from}
use Rattle.key_walks.specs.Pages.{IsPage, TakesLive, stripes_from}
use Rattle.resp.specs.Replies.{value_bytes, array_head}
use Rattle.redis_commands.specs.Matching.{matches}
use Rattle.redis_commands.specs.Commands.{WalkAsked}
use Rattle.redis_commands.specs.Commands.WalkAsked.{CountAll, Scan, Keys, RandomKey, RemoveAll}
use Rattle.redis_service.specs.Lines.{no_memory_line}
use Rattle.redis_service.specs.Calls.{bulk}
use Rattle.redis_service.specs.Texts.{ok_line, count_line}

-- ---- replies

-- an array of keys
abbrev pub keys_bytes : List (List ℕ) → List ℕ
keys_bytes keys = array_head (length keys) ++ flat_map value_bytes keys

-- an array of two: the next cursor, and an array of keys
abbrev pub page_bytes : ℕ → List (List ℕ) → List ℕ
page_bytes next keys = (array_head 2 ++ value_bytes (decimal next)) ++ keys_bytes keys

-- ---- patterns

-- the keys that are shown: all, or those that the pattern matches
abbrev pub shown : Option (List ℕ) → List (List ℕ) → List (List ℕ)
shown None keys = keys
shown (Some pattern) keys = filter (λ key. matches pattern key) keys

-- ---- walks. SCAN, KEYS and RANDOMKEY take entries of a stripe away whose time is over, before they scan it

-- DBSIZE; entries whose time is over may be counted, until they are taken away
abbrev pub AnswersCount : PassState → List ℕ → PassState → Type 0
AnswersCount old written new = (count : ℕ) × CountsAll old count new × (written ≡ count_line count)

-- FLUSHALL
abbrev pub AnswersClear : PassState → List ℕ → PassState → Type 0
AnswersClear old written new =
    (ClearsAll old new × (written ≡ ok_line))
    ⊎ (Stops Clears each old new × (written ≡ no_memory_line))

-- SCAN; no key is of another type than a string
abbrev pub AnswersScan : ℕ → ℕ → Option (List ℕ) → ℕ → Bool → PassState → List ℕ → PassState → Type 0
AnswersScan now cursor pattern most is_string old written new =
    ((keys : List (List ℕ)) × (next : ℕ) × IsPage now old cursor most keys next new
    × (written ≡ page_bytes next (if is_string then shown pattern keys else [])))
    ⊎ (StopsLive now (TakesLive now (max most 1)) (stripes_from cursor) old new × (written ≡ no_memory_line))

-- KEYS
abbrev pub AnswersAllKeys : ℕ → List ℕ → PassState → List ℕ → PassState → Type 0
AnswersAllKeys now pattern old written new =
    ((keys : List (List ℕ)) × FindsAll now old keys new × (written ≡ keys_bytes (shown (Some pattern) keys)))
    ⊎ (StopsLive now (FindsLive now) each old new × (written ≡ no_memory_line))

-- RANDOMKEY; which key is chosen is not said
abbrev pub AnswersChoice : ℕ → PassState → List ℕ → PassState → Type 0
AnswersChoice now old written new = (number : ℕ)
    × (((choice : Option (List ℕ)) × Chooses now number old choice new × (written ≡ bulk choice))
    ⊎ (StopsLive now (FindsLive now) (each_from (stripes_of old.map) number) old new × (written ≡ no_memory_line)))

abbrev pub AnswersWalk : ℕ → PassState → WalkAsked → List ℕ → PassState → Type 0
AnswersWalk now old CountAll written new = AnswersCount old written new
AnswersWalk now old (Scan cursor pattern count is_string) written new = AnswersScan now cursor pattern count is_string old written new
AnswersWalk now old (Keys pattern) written new = AnswersAllKeys now pattern old written new
AnswersWalk now old RandomKey written new = AnswersChoice now old written new
AnswersWalk now old RemoveAll written new = AnswersClear old written new
