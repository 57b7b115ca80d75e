use Rattle.std.proofs.Common.{sym}
use Rattle.redis_scripts.specs.Scripts.{Says}
use Rattle.redis_scripts.proofs.ScriptLemmas.{says-admitted}
use Rattle.redis_scripts.proofs.scripts.Scripts.made.Goals as goal

pub invariant_of-result : goal.invariant_of-result
invariant_of-result g c =
    let read = c.in_ok-read.read in
    let program = c.get_by.result.now in
    let ok = rw (sym c.get_by.ensures.value) at c.in_ok-token.ensures.ok in
    let says : Says c.args.text.now read.head.method read.head.reply read.head.with_now program = says-admitted c.args.text.now read.bytes.items read.head program c.in_ok-read.ensures.head.0 c.in_ok-read.ensures.head.1 c.in_ok-read.ensures.bytes (rw c.deref.ensures.value at ok.0) ok.1 in
    record { is_script = ∣ (c.args.text.now, c.requires, says) ∣₁ }
