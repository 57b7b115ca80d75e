-- What a head asks for, from the places of its parts.
use Rattle.std.proofs.Common.{◌≡◌, ◌≤◌, ◌∙◌, ℕ, List, length, take, drop, map, ap, ap₂, sym, arith, length-take}
use Rattle.std.proofs.lemmas.List.{length-map}
use Rattle.httparse.specs.Spans.{IsRequestOf, IsRequestWithin, header_bytes, name_and_value, span_bytes}
use Rattle.httparse.specs.Grammar.{Field}
use Rattle.httparse.specs.declared.spans.HeaderSpan.{HeaderSpan}
use Rattle.httparse.specs.declared.spans.RequestSpans.{RequestSpans}
use Rattle.metrics_page.specs.declared.asked.Asked.{Asked}
use Rattle.metrics_page.specs.Requests.{IsAskedBy, asked_of}

-- fields that are written to a room are no more than it has
few_fields : (bytes : List ℕ) (headers : List HeaderSpan) (count : ℕ) (fields : List Field) → count ≤ length headers
    → map (header_bytes bytes) (take count headers) ≡ map name_and_value fields → length fields ≤ length headers
few_fields bytes headers count fields fits are =
    let same : length fields ≡ length (take count headers) =
    sym (length-map fields name_and_value) ∙ (sym (ap length are) ∙ length-map (take count headers) (header_bytes bytes)) in
    let taken = length-take count headers in
    omega arith

-- a head whose parts are there asks for what they ask for
pub asked_there : (bytes : List ℕ) (headers : List HeaderSpan) (r : RequestSpans) (method target : List ℕ) (asked : Asked) → length headers ≡ 64
    → IsRequestOf bytes headers r → IsRequestWithin bytes headers r → method ≡ span_bytes bytes r.method → target ≡ span_bytes bytes r.path
    → asked ≡ asked_of method target → IsAskedBy bytes asked
asked_there bytes headers r method target asked room (head, at) within is_method is_target is =
    let few = few_fields bytes headers r.headers head.fields within.section.count_fits at.fields in
    (head, drop r.len bytes, at.reads, omega (arith, few, room), is ∙ ap₂ asked_of (is_method ∙ at.method) (is_target ∙ at.path))
