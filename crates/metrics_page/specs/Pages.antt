-- The numbers as Prometheus reads them, in its text format 0.0.4, and the answers to requests, by RFC 9110 and 9112.
use Rattle.std.specs.Prelude.{ℕ, List, ◌++◌, length, flat_map, codes, decimal, if◌then◌else◌}
use Rattle.metrics_page.specs.declared.asked.Asked.{Asked}
use Rattle.metrics_page.specs.declared.asked.Asked.TheVariants.{Page, PageHead, OtherPath, OtherMethod, Unreadable}
use Rattle.metrics_page.specs.declared.numbers.Labelled.{Labelled}
use Rattle.metrics_page.specs.declared.numbers.Numbers.{Numbers}
use Rattle.metrics_page.specs.declared.text.Kind.{Kind}
use Rattle.metrics_page.specs.declared.text.Kind.TheVariants.{Gauge, Counter}

abbrev pub kind_text : Kind → List ℕ
kind_text Gauge = codes " gauge\n"
kind_text Counter = codes " counter\n"

-- three lines: what the number means, its kind, and the number
unfoldable pub metric : Kind → List ℕ → List ℕ → ℕ → List ℕ
metric kind name help number =
    codes "# HELP " ++ name ++ codes " " ++ help ++ codes "\n# TYPE " ++ name ++ kind_text kind ++ name ++ codes " " ++ decimal number ++ codes "\n"

-- two lines: what numbers of a name mean, and their kind
unfoldable pub about : Kind → List ℕ → List ℕ → List ℕ
about kind name help = codes "# HELP " ++ name ++ codes " " ++ help ++ codes "\n# TYPE " ++ name ++ kind_text kind

-- the line of one of several numbers of a name, with its label of this key
unfoldable pub series_line : List ℕ → List ℕ → List ℕ → ℕ → List ℕ
series_line name key label number =
    name ++ codes "{" ++ key ++ codes "=\"" ++ label ++ codes "\"} " ++ decimal number ++ codes "\n"

-- the lines of several numbers of a name
abbrev pub series_lines : List ℕ → List ℕ → List Labelled → List ℕ
series_lines name key all = flat_map (λ one. series_line name key one.label.items one.number) all

-- several numbers of a name that count up
abbrev pub series : List ℕ → List ℕ → List ℕ → List Labelled → List ℕ
series name help key all = about Counter name help ++ series_lines name key all

-- the map and the process
abbrev pub process : Numbers → List ℕ
process numbers =
    metric Gauge (codes "mapd_entries") (codes "Entries of the map.") numbers.entries
    ++ metric Gauge (codes "mapd_resident_bytes") (codes "Memory of the process.") numbers.resident_bytes
    ++ metric Gauge (codes "mapd_uptime_seconds") (codes "Time since the server began.") numbers.uptime_seconds

abbrev pub clients : Numbers → List ℕ
clients numbers =
    metric Gauge (codes "mapd_clients") (codes "Clients that are connected.") numbers.clients
    ++ metric Counter (codes "mapd_clients_came_total") (codes "Clients that came, also those that were turned away.") numbers.clients_came
    ++ metric Counter (codes "mapd_clients_refused_total") (codes "Clients that were turned away, since there was no room.") numbers.clients_refused

abbrev pub commands : Numbers → List ℕ
commands numbers =
    series (codes "mapd_commands_total") (codes "Commands on the Redis port, right ones and wrong ones.") (codes "command") numbers.commands.items
    ++ metric Counter (codes "mapd_walks_total") (codes "Commands on the Redis port that walked over the whole map.") numbers.walks

abbrev pub requests : Numbers → List ℕ
requests numbers = series (codes "mapd_requests_total") (codes "Requests in frames.") (codes "request") numbers.requests.items

abbrev pub refusals : Numbers → List ℕ
refusals numbers =
    series (codes "mapd_refusals_total") (codes "Refusals in frames by their numbers; OOM: memory was refused to commands on the Redis port.")
    (codes "number") numbers.refusals.items

abbrev pub keys : Numbers → List ℕ
keys numbers =
    metric Counter (codes "mapd_expired_total") (codes "Entries that sweeps took away, since their time was over.") numbers.expired
    ++ metric Counter (codes "mapd_hits_total") (codes "Reads of a key on the Redis port that found a value.") numbers.hits
    ++ metric Counter (codes "mapd_misses_total") (codes "Reads of a key on the Redis port that found none.") numbers.misses

abbrev pub saves : Numbers → List ℕ
saves numbers =
    metric Gauge (codes "mapd_last_save_seconds") (codes "When the last save was written, in seconds since the epoch; 0: never.") numbers.last_save_seconds
    ++ metric Gauge (codes "mapd_save_failing") (codes "1 if the last save could not be written, else 0.") (if numbers.is_save_failing then 1 else 0)

abbrev pub waits : Numbers → List ℕ
waits numbers =
    metric Counter (codes "mapd_stripe_waits_total") (codes "Calls that waited for a stripe which another held.") numbers.stripe_waits
    ++ metric Gauge (codes "mapd_longest_wait_microseconds") (codes "The longest that a call waited for a stripe, at least.") numbers.longest_wait_micros
    ++ metric Gauge (codes "mapd_longest_hold_microseconds") (codes "The longest that a walk, a save or a sweep held a stripe.") numbers.longest_hold_micros

abbrev pub bytes : Numbers → List ℕ
bytes numbers =
    about Gauge (codes "mapd_bytes") (codes "Memory by what it is for.")
    ++ series_line (codes "mapd_bytes") (codes "kind") (codes "rows") numbers.row_bytes
    ++ series_line (codes "mapd_bytes") (codes "kind") (codes "index") numbers.index_bytes
    ++ series_line (codes "mapd_bytes") (codes "kind") (codes "programs") numbers.program_bytes
    ++ series_line (codes "mapd_bytes") (codes "kind") (codes "sessions") numbers.session_bytes

-- the page
unfoldable pub text : Numbers → List ℕ
text numbers =
    process numbers ++ clients numbers ++ commands numbers ++ requests numbers ++ refusals numbers ++ keys numbers ++ saves numbers
    ++ waits numbers ++ bytes numbers

-- the head of the page's answer, by the length of the page
abbrev pub page_head : ℕ → List ℕ
page_head bytes =
    codes "HTTP/1.1 200 OK\r\nContent-Type: text/plain; version=0.0.4; charset=utf-8\r\nContent-Length: " ++ decimal bytes
    ++ codes "\r\nConnection: close\r\n\r\n"

-- the answer to a request
abbrev pub answer : Asked → Numbers → List ℕ
answer Page numbers = page_head (length (text numbers)) ++ text numbers
answer PageHead numbers = page_head (length (text numbers))
answer OtherPath numbers = codes "HTTP/1.1 404 Not Found\r\nContent-Length: 0\r\nConnection: close\r\n\r\n"
answer OtherMethod numbers = codes "HTTP/1.1 405 Method Not Allowed\r\nAllow: GET, HEAD\r\nContent-Length: 0\r\nConnection: close\r\n\r\n"
answer Unreadable numbers = codes "HTTP/1.1 400 Bad Request\r\nContent-Length: 0\r\nConnection: close\r\n\r\n"
