-- arrays that are whole, begun or refused
use Rattle.std.proofs.Common.{arith}
use Rattle.resp.proofs.ArrayLemmas.{no_count, count_goes_on, zero_ignored, whole_array, array_goes_on, array_refused}
use Rattle.resp.proofs.array.full_array_at.Goals as goal

pub returns-in-Ok-None-clause-read : goal.returns-in-Ok-None-clause-read
returns-in-Ok-None-clause-read c =
    let e = rw c.in-Ok-None.field-0-is at c.in-Ok-None.ensures in
    count_goes_on c.args.head.now e.none

pub returns-in-Err-clause-err : goal.returns-in-Err-clause-err
returns-in-Err-clause-err c = no_count c.args.head.now c.requires.sign c.in-Err.ensures.err

pub returns-then-count-eq0-clause-read : goal.returns-then-count-eq0-clause-read
returns-then-count-eq0-clause-read c =
    let e = rw c.in-Ok-Some.field-0-is at c.in-Ok-Some.ensures in
    zero_ignored c.args.head.now c.in-Ok-Some.read.1.now c.in-Ok-Some.read.0 c.if-count-eq0.true e.some

pub returns-in-Ok-Some-words_at-clause-read : goal.returns-in-Ok-Some-words_at-clause-read
returns-in-Ok-Some-words_at-clause-read c =
    let e = rw c.in-Ok-Some.field-0-is at c.in-Ok-Some.ensures in
    let f = rw c.in-Ok-Some-words_at.field-0-is at c.in-Ok-Some-words_at.ensures in
    whole_array c.args.head.now c.in-Ok-Some.read.1.now c.in-Ok-Some-words_at.after.now c.in-Ok-Some.read.0 c.words_at.new.words.items (omega (arith, c.if-count-eq0.false)) e.range e.some f.len f.words f.fit f.some

pub returns-in-Ok-None-words_at-clause-read : goal.returns-in-Ok-None-words_at-clause-read
returns-in-Ok-None-words_at-clause-read c =
    let e = rw c.in-Ok-Some.field-0-is at c.in-Ok-Some.ensures in
    let f = rw c.in-Ok-None-words_at.field-0-is at c.in-Ok-None-words_at.ensures in
    array_goes_on c.args.head.now c.in-Ok-Some.read.1.now c.in-Ok-Some.read.0 e.range e.some f.none

pub returns-in-Err-words_at-clause-err : goal.returns-in-Err-words_at-clause-err
returns-in-Err-words_at-clause-err c =
    let e = rw c.in-Ok-Some.field-0-is at c.in-Ok-Some.ensures in
    array_refused c.args.head.now c.in-Ok-Some.read.1.now c.in-Ok-Some.read.0 c.in-Err-words_at.fault e.range e.some c.in-Err-words_at.ensures.err
