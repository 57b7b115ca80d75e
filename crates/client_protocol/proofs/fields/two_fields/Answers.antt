use Rattle.std.proofs.Common.{[], ◌∷◌, arith}
use Rattle.std.proofs.lemmas.Grind.{common_steps}
use Rattle.client_protocol.specs.Bodies.{limits_after}
use Rattle.client_protocol.proofs.FieldLaws.{none_first, none_later, takes_two}
use Rattle.client_protocol.proofs.BodyLaws.{bad_fields, trailing}
use Rattle.client_protocol.proofs.fields.two_fields.Goals as goal

pub returns-in_default-read-clause-err : goal.returns-in_default-read-clause-err
returns-in_default-read-clause-err g c =
    let a = g.A.Field in
    let b = g.B.Field in
    let limits = limits_after c.args.hello in
    bad_fields c.args.hello c.args.tag (a.kind ∷ b.kind ∷ []) c.args.bytes.now c.requires.known
    (none_later limits a.kind (b.kind ∷ []) c.args.bytes.now (a.field c.read.new.self) c.in-Some.rest.now c.in-Some.ensures.some
    (none_first limits b.kind [] c.in-Some.rest.now c.in_default-read.ensures.none))

pub returns-then-not-is_empty-clause-err : goal.returns-then-not-is_empty-clause-err
returns-then-not-is_empty-clause-err g c =
    let a = g.A.Field in
    let b = g.B.Field in
    let first = a.field c.read.new.self in
    let second = b.field c.read-2.new.self in
    let tail = c.in-Some-read.tail.now in
    trailing c.args.hello c.args.tag (a.kind ∷ b.kind ∷ []) c.args.bytes.now (first ∷ second ∷ []) tail c.requires.known c.requires.no_tail
    (takes_two (limits_after c.args.hello) a.kind b.kind c.args.bytes.now first second c.in-Some.rest.now tail c.in-Some.ensures.some c.in-Some-read.ensures.some) (grind (arith, common_steps))
