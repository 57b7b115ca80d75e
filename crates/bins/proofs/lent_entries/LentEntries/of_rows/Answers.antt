use Rattle.std.proofs.Common.{arith, sym, ◌∙◌}
use Rattle.bins.proofs.PairedEntries.{paired-length}
use Rattle.bins.proofs.lent_entries.LentEntries.of_rows.Goals as goal

-- there are as many entries as keys
pub invariant_of-result : goal.invariant_of-result
invariant_of-result c =
    let many = paired-length c.args.rows.now.keys c.args.rows.now.values c.requires.paired in
    (c.requires.paired, c.len.ensures.value ∙ sym many, omega (arith, c.len.ensures.few))

pub returns-clause-few : goal.returns-clause-few
returns-clause-few c =
    let many = paired-length c.args.rows.now.keys c.args.rows.now.values c.requires.paired in
    omega (arith, many, c.len.ensures.value, c.len.ensures.few)
