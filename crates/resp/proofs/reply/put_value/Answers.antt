-- the head of a value, and the value
use Rattle.std.proofs.Common.{◌≡◌, ℕ, List, ◌++◌, length, ap, sym, ◌∙◌, decimal}
use Rattle.resp.specs.Grammar.{newline}
use Rattle.resp.specs.Replies.{marked_line, value_bytes}
use Rattle.resp.proofs.reply.put_value.Goals as goal

pub returns-clause-err : goal.returns-clause-err
returns-clause-err g c =
    let bytes = c.args.bytes.now in
    let head : c.as_slice.result.now ≡ marked_line 36 (decimal (length bytes)) =
    c.as_slice.ensures.value ∙ c.short_line-head.ensures ∙ ap (marked_line 36) (c.as_bytes.ensures.value ∙ c.format.ensures.text) in
    let whole : value_bytes bytes ≡ c.as_slice.result.now ++ (bytes ++ newline) = ap (λ (t : List ℕ). t ++ (bytes ++ newline)) (sym head) in
    rw whole c.put_three.ensures.err
