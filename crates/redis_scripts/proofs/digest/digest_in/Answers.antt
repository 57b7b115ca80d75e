use Rattle.std.proofs.Common.{sym, ◌∙◌, ap, refl, is_ok}
use Rattle.hex.proofs.HexLemmas.{IsOk-decode_sized}
use Rattle.redis_scripts.proofs.digest.digest_in.Goals as goal

pub returns-in-Ok-clause-found : goal.returns-in-Ok-clause-found
returns-in-Ok-clause-found c =
    let digits = IsOk-decode_sized c.args.word.now 20 in
    (λ h. digits.0 (ap is_ok (sym c.from_hex.ensures ∙ c.in-Ok.is)), λ h. refl)

pub returns-in-Err-clause-found : goal.returns-in-Err-clause-found
returns-in-Err-clause-found c =
    let digits = IsOk-decode_sized c.args.word.now 20 in
    (λ h. absurd cc, λ h. ap is_ok (sym c.in-Err.is ∙ c.from_hex.ensures) ∙ digits.1 h)
