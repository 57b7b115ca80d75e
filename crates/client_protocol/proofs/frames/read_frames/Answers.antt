use Rattle.std.proofs.Common.{List, [], ◌∷◌, ◌++◌, ap, sym, subst, ◌∙◌, append_assoc}
use Rattle.std.specs.Prelude.{Option}
use Rattle.client_protocol.specs.declared.limits.Version.{Version}
use Rattle.client_protocol.specs.Requests.{Request}
use Rattle.client_protocol.specs.Frames.{Follow}
use Rattle.client_protocol.proofs.FrameLaws.{follow_more, spelled_more}
use Rattle.client_protocol.proofs.frames.read_frames.Goals as goal

pub loop-behind-preserved : goal.loop-behind-preserved
loop-behind-preserved c =
    let (new, items, follow, spelled) = c.loop-behind.invariant in
    let e = rw c.in-Ok-Some.field-0-is at c.in-Ok-Some.ensures in
    let adds = e.frame in
    let r = adds.request in (
      new ++ r ∷ [],
      adds.added ∙ ap (λ (t : List Request). t ++ r ∷ []) items ∙ append_assoc c.args.requests.now new (r ∷ []),
      subst (λ (h : Option Version). Follow c.args.hello (new ++ r ∷ []) h) (sym adds.taken) (follow_more c.args.hello c.loop-behind.hello new r follow adds.comes),
      spelled_more new r c.args.bytes.now c.loop-behind.rest.now c.in-Ok-Some.behind.bytes.now spelled adds.spelled,
    )
