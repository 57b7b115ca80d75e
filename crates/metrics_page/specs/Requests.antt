-- What a request asks for. Its head is that of RFC 9112, by the grammar of httparse.
use Rattle.std.specs.Prelude.{◌≡◌, ◌<◌, ◌≤◌, ◌⊎◌, ◌||◌, ℕ, Bool, List, length, take, Option, Some, None, codes, if◌then◌else◌}
use Rattle.std.specs.Str.{bytes_eq}
use Rattle.httparse.specs.Grammar.{HasNoRequest, MayBecomeRequest, ReadsRequest, RequestHead}
use Rattle.httparse.specs.Spans.{RequestOverflows}
use Rattle.metrics_page.specs.declared.asked.Asked.{Asked}
use Rattle.metrics_page.specs.declared.asked.Asked.TheVariants.{Page, PageHead, OtherPath, OtherMethod, Unreadable}
use Rattle.metrics_page.specs.declared.asked.TheConstants.{HEAD_BYTES, MOST_FIELDS}

-- the target of the page, with a query or without one
abbrev pub is_page : List ℕ → Bool
is_page target = bytes_eq target (codes "/metrics") || bytes_eq (codes "/metrics?") (take 9 target)

-- what a method and a target ask for
abbrev pub asked_of : List ℕ → List ℕ → Asked
asked_of method target =
    if is_page target
    then (if bytes_eq method (codes "GET") then Page else (if bytes_eq method (codes "HEAD") then PageHead else OtherMethod))
    else OtherPath

-- the bytes begin with a head that has not too many fields, and it asks for this
abbrev pub IsAskedBy : List ℕ → Asked → Type 0
IsAskedBy bytes asked =
    (head : RequestHead) × (rest : List ℕ) × ReadsRequest bytes head rest × (length head.fields ≤ MOST_FIELDS)
    × (asked ≡ asked_of head.method head.target)

-- whatever follows, no head that has not too many fields begins there; or it is too long
abbrev pub IsUnreadable : List ℕ → Type 0
IsUnreadable bytes = RequestOverflows MOST_FIELDS bytes ⊎ (HasNoRequest bytes × (HEAD_BYTES ≤ length bytes))

-- what the bytes of a request ask for; none while their head may go on
abbrev pub Asks : List ℕ → Option Asked → Type 0
Asks bytes (Some asked) = IsAskedBy bytes asked ⊎ ((asked ≡ Unreadable) × IsUnreadable bytes)
Asks bytes None = HasNoRequest bytes × MayBecomeRequest bytes × (length bytes < HEAD_BYTES)
