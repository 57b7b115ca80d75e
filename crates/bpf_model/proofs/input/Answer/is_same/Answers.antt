use Rattle.std.proofs.Common.{rules}
use Rattle.bpf_model.proofs.RunLaws.{one_answer}
use Rattle.bpf_model.proofs.input.Answer.is_same.Goals as goal

pub returns-clause-one : goal.returns-clause-one
returns-clause-one c program sizes input first second =
    let same = one_answer program sizes input c.args.self.now c.args.other.now first second in
    let equal = c.eq.ensures in
    search rules
