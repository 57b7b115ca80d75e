use Rattle.std.proofs.Common.{◌≡◌, length}
use Rattle.std.specs.Int.{from_le_bytes, w64}
use Rattle.std.proofs.lemmas.Nat.{le_bytes_8}
use Rattle.bins.proofs.width_rows.whole_word.Goals as goal

-- the word tells its bytes
pub returns-in-Ok-clause-bytes : goal.returns-in-Ok-clause-bytes
returns-in-Ok-clause-bytes c =
    let whole = c.in-Ok.ensures.1 in
    let long : length c.args.bytes.now ≡ 8 = whole.long in
    let same : c.in-Ok.bytes ≡ c.args.bytes.now = whole.same in
    let word : c.from_le_bytes.result ≡ from_le_bytes w64 c.args.bytes.now = rw same at c.from_le_bytes.ensures in
    le_bytes_8 c.args.bytes.now c.from_le_bytes.result long (λ i. (c.type_inv.bytes i).fits) word
