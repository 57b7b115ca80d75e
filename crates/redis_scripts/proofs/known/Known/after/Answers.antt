use Rattle.std.proofs.Common.{◌≡◌, rules}
use Rattle.std.proofs.lemmas.List.Elements.{All-push}
use Rattle.redis_scripts.specs.Scripts.{IsLoadedText}
use Rattle.redis_scripts.proofs.known.Known.after.Goals as goal

-- the text is that of a script that was noted
pub loop-place-preserved : goal.loop-place-preserved
loop-place-preserved c =
    let noted = c.index-noted.result.now in
    let says : IsLoadedText noted.text.items = (noted.script.method, noted.script.reply, noted.script.with_now, noted.script.program.now, noted.says) in
    let same : c.in_ok-text.text.items ≡ noted.text.items = search rules in
    rw c.in_ok-push.ensures.items (All-push (λ t. IsLoadedText t.items) c.loop-place.texts.items c.in_ok-text.text c.loop-place.invariant (rw same says))
