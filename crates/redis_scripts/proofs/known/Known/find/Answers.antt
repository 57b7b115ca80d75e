use Rattle.std.proofs.Common.{◌≡◌, sym}
use Rattle.std.proofs.lemmas.Bool.Decides.{Decides-eqb}
use Rattle.std.proofs.lemmas.Slice.Eq.{slice_eq-Decides}
use Rattle.redis_scripts.proofs.known.Known.find.Goals as goal

pub returns-then-eq-clause-script : goal.returns-then-eq-clause-script
returns-then-eq-clause-script c =
    let noted = c.in_ok-noted.noted.now.script in
    let same : noted.digest.bytes ≡ c.args.digest.bytes = (slice_eq-Decides Decides-eqb noted.digest.bytes c.args.digest.bytes c.eq.result c.eq.ensures).0 c.if-eq.true in
    rw (sym same) noted.is_script
