use Rattle.std.proofs.Common.{[], ◌∷◌, arith}
use Rattle.std.proofs.lemmas.Grind.{common_steps}
use Rattle.client_protocol.specs.Bodies.{limits_after}
use Rattle.client_protocol.proofs.FieldLaws.{takes_one}
use Rattle.client_protocol.proofs.BodyLaws.{trailing}
use Rattle.client_protocol.proofs.fields.one_field.Goals as goal

pub returns-then-not-is_empty-clause-err : goal.returns-then-not-is_empty-clause-err
returns-then-not-is_empty-clause-err g c =
    let a = g.A.Field in
    trailing c.args.hello c.args.tag (a.kind ∷ []) c.args.bytes.now (a.field c.read.new.self ∷ []) c.in-Some.tail.now c.requires.known c.requires.no_tail
    (takes_one (limits_after c.args.hello) a.kind c.args.bytes.now (a.field c.read.new.self) c.in-Some.tail.now c.in-Some.ensures.some) (grind (arith, common_steps))
