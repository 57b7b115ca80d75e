use Rattle.std.proofs.Common.{refl}
use Rattle.verifier.proofs.ChangeLemmas.{narrows_same, narrows_then}
use Rattle.verifier.proofs.abstract_state.AbstractState.assume.Goals as goal

pub returns-then-eq-clause-ok : goal.returns-then-eq-clause-ok
returns-then-eq-clause-ok c = λ sizes s d.
    let x = rw c.number.ensures.value at (c.in_ok-read.ensures.ok sizes s d) in
    let y = c.in_ok-operand.ensures.ok sizes s d in
    record { first = x.word; second = y.word; reads = x.is; operand = y.is; described = λ h. (refl, d) }

pub returns-in_default-clause-ok : goal.returns-in_default-clause-ok
returns-in_default-clause-ok c = λ sizes s d.
    let x = rw c.number.ensures.value at (c.in_ok-read.ensures.ok sizes s d) in
    let y = c.in_ok-operand.ensures.ok sizes s d in
    let a = c.as_number-a.ensures.holds x.word x.stands in
    let b = c.as_number-b.ensures.holds y.word y.stands in
    record { first = x.word; second = y.word; reads = x.is; operand = y.is; described = λ h. absurd (c.in_default.ensures x.word y.word a b h) }

pub returns-in-Register-clause-ok : goal.returns-in-Register-clause-ok
returns-in-Register-clause-ok c = λ sizes s d.
    let x = rw c.number.ensures.value at (c.in_ok-read.ensures.ok sizes s d) in
    let y = c.in_ok-operand.ensures.ok sizes s d in
    let a = c.as_number-a.ensures.holds x.word x.stands in
    let b = c.as_number-b.ensures.holds y.word y.stands in
    record {
      first = x.word;
      second = y.word;
      reads = x.is;
      operand = y.is;
      described = λ h.
          let both = c.in-Some.ensures x.word y.word a b h in
          let narrowed = c.narrow.ensures.narrows sizes s x.word d x.is both.0 in
          (refl, c.narrow-in-Register.ensures.narrows sizes s y.word narrowed (rw c.in-Register.is at y.is) both.1);
    }

pub returns-in_default-src-clause-ok : goal.returns-in_default-src-clause-ok
returns-in_default-src-clause-ok c = λ sizes s d.
    let x = rw c.number.ensures.value at (c.in_ok-read.ensures.ok sizes s d) in
    let y = c.in_ok-operand.ensures.ok sizes s d in
    let a = c.as_number-a.ensures.holds x.word x.stands in
    let b = c.as_number-b.ensures.holds y.word y.stands in
    record {
      first = x.word;
      second = y.word;
      reads = x.is;
      operand = y.is;
      described = λ h.
          let both = c.in-Some.ensures x.word y.word a b h in
          (refl, c.narrow.ensures.narrows sizes s x.word d x.is both.0);
    }

pub returns-in_err-read-clause-changes : goal.returns-in_err-read-clause-changes
returns-in_err-read-clause-changes c = narrows_same c.args.self.now

pub returns-in_err-operand-clause-changes : goal.returns-in_err-operand-clause-changes
returns-in_err-operand-clause-changes c = narrows_same c.args.self.now

pub returns-then-eq-clause-changes : goal.returns-then-eq-clause-changes
returns-then-eq-clause-changes c = narrows_same c.args.self.now

pub returns-in_default-clause-changes : goal.returns-in_default-clause-changes
returns-in_default-clause-changes c = narrows_same c.args.self.now

pub returns-in-Register-clause-changes : goal.returns-in-Register-clause-changes
returns-in-Register-clause-changes c =
    narrows_then c.args.self.now c.narrow.new.self c.narrow-in-Register.new.self c.narrow.ensures.changes c.narrow-in-Register.ensures.changes
