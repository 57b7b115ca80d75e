use Rattle.std.proofs.Common.{[], ◌∷◌, refl}
use Rattle.client_protocol.specs.Bodies.{limits_after}
use Rattle.client_protocol.specs.Bodies.Kind.{a_short}
use Rattle.client_protocol.proofs.BodyLaws.{bad_fields, register_found}
use Rattle.client_protocol.proofs.reading.register_request.Goals as goal

pub returns-in_default-clause-err : goal.returns-in_default-clause-err
returns-in_default-clause-err c = bad_fields c.args.hello 1 (a_short ∷ a_short ∷ a_short ∷ a_short ∷ []) c.args.rest.now refl c.in_default.ensures.none

pub returns-clause-ok : goal.returns-clause-ok
returns-clause-ok c =
    register_found (limits_after c.args.hello) c.args.rest.now c.in-Some.sizes c.replace.new.bytes.items c.in-Some.program.now c.in-Some.ensures.some c.in_ok-replace.ensures.ok
