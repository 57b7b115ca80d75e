use Rattle.std.proofs.Common.{List, ℕ, ◌≡◌, ◌≤◌, ◌++◌, [], ◌∷◌, length, Some, sym, ap, ◌∙◌, arith}
use Rattle.client_protocol.specs.declared.response.Response.TheVariants.{Value}
use Rattle.client_protocol.specs.Bodies.{limits_after}
use Rattle.client_protocol.specs.Responses.{response_frame, response_frames}
use Rattle.sessions.specs.Answering.{sendable}
use Rattle.sessions.proofs.SendingLemmas.{value_whole}
use Rattle.sessions.proofs.session.send.send_value.Goals as goal

pub returns-clause-err : goal.returns-clause-err
returns-clause-err g c =
    let most = ap (λ l. l.value) c.after.ensures in
    let long = ap length c.as_slice-bytes.ensures.value in
    let short : length c.args.value.now ≤ (limits_after c.args.hello).value = omega (arith, c.if-bytes-after.false, most, long) in
    let frames : response_frames (sendable c.args.hello (Value (Some c.args.value.now) ∷ [])) ≡ c.value_head.result ++ c.as_slice-bytes.result.now =
    value_whole c.args.hello c.args.value.now short ∙ ap (λ (bytes : List ℕ). response_frame (Value (Some bytes))) (sym c.as_slice-bytes.ensures.value) ∙ c.value_head.ensures in
    rw frames c.send_parts.ensures.err
