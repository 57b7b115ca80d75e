use Rattle.std.proofs.Common.{◌≡◌, ◌≤◌, ◌∷◌, ◌++◌, length, arith}
use Rattle.bpf_model.specs.declared.limits.TheConstants.{KEY_BYTES}
use Rattle.kept_file.proofs.changes.KeptChange.read.Goals as goal
use Rattle.kept_file.proofs.changes.KeptChange.read.Goals.{After-read_entry}
use Rattle.kept_file.proofs.ChangeLemmas.{none_of_entry, too_long_once}

-- the bytes are the key's length, the mark, the key and the rest
whole : (c : After-read_entry) → c.args.bytes.now ≡ length c.in_ok-key.key.now ∷ c.in_ok-mark.mark ∷ (c.in_ok-key.key.now ++ c.in_ok-key.rest.now)
whole c = rw (c.in_ok-length.ensures.ok, c.in_ok-mark.ensures.ok, c.in_ok-key.ensures.ok.1, c.in_ok-key.ensures.ok.0, c.from-length.ensures)

pub returns-clause-err : goal.returns-clause-err
returns-clause-err c =
    none_of_entry c.args.bytes.now c.in_ok-key.key.now c.in_ok-key.rest.now c.in_ok-mark.mark c.read_entry.result (whole c) c.read_entry.ensures.err

pub returns-clause-too_long : goal.returns-clause-too_long
returns-clause-too_long c =
    let low : length c.in_ok-key.key.now ≤ KEY_BYTES = omega (arith, c.in_ok-key.ensures.ok.0, c.if-length-gt-KEY_BYTES.false) in
    let once = too_long_once c.args.bytes.now c.in_ok-key.key.now c.in_ok-key.rest.now c.in_ok-mark.mark (whole c) low in
    let entry = c.read_entry.ensures.too_long in
    (λ fails. once.0 (entry.0 fails), λ long. entry.1 (once.1 long))
