use Rattle.std.proofs.Common.{◌≡◌, ◌++◌, [], true, unwrap_or, is_some, rules, sym, arith}
use Rattle.sessions.proofs.OwedLemmas.{front_owed, reply_owed}
use Rattle.sessions.proofs.owed_answers.OwedAnswers.is_empty.Goals as goal
use Rattle.sessions.proofs.owed_answers.OwedAnswers.is_empty.Goals.{then-is_some-via-then-is_some, then-is_some-via-else-is_some+then-len-gt0}

pub returns-then-is_some : goal.returns-then-is_some
returns-then-is_some c =
    let inside = c.self.inside in
    rw (sym c.self.view_is) (
      (λ t. search rules),
      (λ none. elim c.then-is_some.branch [
        | then-is_some-via-then-is_some w ↦
            let is : is_some inside.reply ≡ true = let told = c.is_some.ensures in let test = w.if-is_some.true in cc in
            absurd (reply_owed inside.front inside.back inside.reply c.self.invariant is none)
        | then-is_some-via-else-is_some+then-len-gt0 w ↦
            absurd (front_owed inside.front (unwrap_or inside.reply [] ++ inside.back) (omega (arith, w.if-len-gt0.true, w.len.ensures)) none)
      ]),
    )
