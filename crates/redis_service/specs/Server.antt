-- What the server tells of itself.
use Rattle.std.specs.Prelude.{ℕ, ◌*◌, ◌||◌, Bool, List, ◌++◌, flat_map, count_by, codes, decimal, Option, Some, None, is_some, if◌then◌else◌}
use Rattle.std.specs.Str.{str_eq_ignore_ascii_case}
use Rattle.resp.specs.Replies.{array_head, value_bytes}
use Rattle.redis_service.specs.Texts.{text_of}

-- texts, one after the other
abbrev pub joined : List (List ℕ) → List ℕ
joined texts = flat_map (λ text. text) texts

-- a word is this one, in any case
abbrev pub is : List ℕ → List ℕ → Bool
is name word = str_eq_ignore_ascii_case name word

-- the name and the value of the setting that a word names, as two values of a reply
abbrev pub setting_of : List ℕ → Option (List ℕ)
setting_of word =
    if is (codes "save") word then Some (codes "$4\r\nsave\r\n$0\r\n\r\n")
    else (if is (codes "appendonly") word then Some (codes "$10\r\nappendonly\r\n$2\r\nno\r\n")
    else (if is (codes "maxmemory") word then Some (codes "$9\r\nmaxmemory\r\n$1\r\n0\r\n")
    else (if is (codes "databases") word then Some (codes "$9\r\ndatabases\r\n$1\r\n1\r\n")
    else (if is (codes "timeout") word then Some (codes "$7\r\ntimeout\r\n$1\r\n0\r\n")
    else (if is (codes "slowlog-max-len") word then Some (codes "$15\r\nslowlog-max-len\r\n$3\r\n128\r\n")
    else None)))))

-- the setting that says which commands SLOWLOG keeps
abbrev pub is_slow_setting : List ℕ → Bool
is_slow_setting word = is (codes "slowlog-log-slower-than") word

-- from how many microseconds on SLOWLOG keeps a command; if it keeps none, -1
abbrev pub least_text : Option ℕ → List ℕ
least_text None = codes "-1"
least_text (Some least) = decimal least

abbrev pub is_setting : List ℕ → Bool
is_setting word = is_slow_setting word || is_some (setting_of word)

abbrev pub setting_bytes : Option ℕ → List ℕ → List ℕ
setting_bytes least word =
    if is_slow_setting word then codes "$23\r\nslowlog-log-slower-than\r\n" ++ value_bytes (least_text least)
    else text_of (setting_of word)

-- CONFIG GET: the settings that these words name, in order
abbrev pub config_bytes : Option ℕ → List (List ℕ) → List ℕ
config_bytes least words = array_head (2 * count_by is_setting words) ++ flat_map (setting_bytes least) words
