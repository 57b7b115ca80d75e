use Rattle.std.proofs.Common.{List, ℕ, [], ◌∷◌, ◌++◌, ◌∙◌, ap, sym}
use Rattle.client_protocol.specs.declared.response.ShortResponse.{ShortResponse}
use Rattle.client_protocol.specs.Responses.{response_body, response_of}
use Rattle.client_protocol.proofs.FieldLaws.{four_behind}
use Rattle.client_protocol.proofs.response.ShortResponse.put_body.Goals as goal

-- the tag and the three counts follow each other
pub returns-in-End : goal.returns-in-End
returns-in-End c =
    let out = c.args.out.now.items in
    let scanned = c.to_be_bytes-in-End.result in
    let given = c.to_be_bytes-in-End-2.result in
    let unfit = c.to_be_bytes-in-End-3.result in
    let first = c.put-in-End-2.ensures.items ∙ ap (λ (t : List ℕ). t ++ scanned) c.put-in-End.ensures.items in
    let second = c.put-in-End-3.ensures.items ∙ ap (λ (t : List ℕ). t ++ given) first in
    let all = c.put-in-End-4.ensures.items ∙ ap (λ (t : List ℕ). t ++ unfit) second ∙ four_behind out (135 ∷ []) scanned given unfit in
    rw (c.to_be_bytes-in-End.ensures, c.to_be_bytes-in-End-2.ensures, c.to_be_bytes-in-End-3.ensures) at all
    ∙ ap (λ (r : ShortResponse). out ++ response_body (response_of r)) (sym c.in-End.is)
