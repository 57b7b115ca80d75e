-- words that are not whole, or can't be
use Rattle.std.proofs.Common.{◌≡◌, ℕ, ◌∷◌, ap, ◌∙◌, arith}
use Rattle.resp.proofs.WordLemmas.{length_goes_on, word_goes_on, end_goes_on, no_word_end}
use Rattle.resp.proofs.word.word_at.Goals as goal

pub returns-in-Ok-None-clause-none : goal.returns-in-Ok-None-clause-none
returns-in-Ok-None-clause-none c =
    let head = c.in-Some.head.now in
    let dollar : c.args.bytes.now ≡ 36 ∷ head = c.in-Some.ensures.some ∙ ap (λ (m : ℕ). m ∷ head) c.if-mark-ne36.false in
    let e = rw c.in-Ok-None.field-0-is at c.in-Ok-None.ensures in
    length_goes_on c.args.room c.args.bytes.now head dollar e.none

pub returns-in_default-split_at_checked-clause-none :
    goal.returns-in_default-split_at_checked-clause-none
returns-in_default-split_at_checked-clause-none c =
    let head = c.in-Some.head.now in
    let dollar : c.args.bytes.now ≡ 36 ∷ head = c.in-Some.ensures.some ∙ ap (λ (m : ℕ). m ∷ head) c.if-mark-ne36.false in
    let e = rw c.in-Ok-Some.field-0-is at c.in-Ok-Some.ensures in
    word_goes_on c.args.room c.args.bytes.now head c.in-Ok-Some.read.1.now c.in-Ok-Some.read.0 dollar e.some e.range e.fits (omega (arith, c.in_default-split_at_checked.ensures.cases))

pub returns-in-Ok-None-newline_at-clause-none : goal.returns-in-Ok-None-newline_at-clause-none
returns-in-Ok-None-newline_at-clause-none c =
    let head = c.in-Some.head.now in
    let dollar : c.args.bytes.now ≡ 36 ∷ head = c.in-Some.ensures.some ∙ ap (λ (m : ℕ). m ∷ head) c.if-mark-ne36.false in
    let e = rw c.in-Ok-Some.field-0-is at c.in-Ok-Some.ensures in
    let f = rw c.in-Ok-None-newline_at.field-0-is at c.in-Ok-None-newline_at.ensures in
    end_goes_on c.args.room c.args.bytes.now head c.in-Ok-Some.read.1.now c.in-Some-split_at_checked.word.now c.in-Some-split_at_checked.end.now c.in-Ok-Some.read.0 dollar e.some e.range e.fits c.in-Some-split_at_checked.ensures.cases f.none

pub returns-in-Err-newline_at-clause-err : goal.returns-in-Err-newline_at-clause-err
returns-in-Err-newline_at-clause-err c =
    let head = c.in-Some.head.now in
    let dollar : c.args.bytes.now ≡ 36 ∷ head = c.in-Some.ensures.some ∙ ap (λ (m : ℕ). m ∷ head) c.if-mark-ne36.false in
    let e = rw c.in-Ok-Some.field-0-is at c.in-Ok-Some.ensures in
    no_word_end c.args.room c.args.bytes.now head c.in-Ok-Some.read.1.now c.in-Some-split_at_checked.word.now c.in-Some-split_at_checked.end.now c.in-Ok-Some.read.0 dollar e.some e.range e.fits c.in-Some-split_at_checked.ensures.cases c.in-Err-newline_at.ensures.err
