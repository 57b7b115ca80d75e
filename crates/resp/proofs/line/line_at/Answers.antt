-- lines without an end, above the limit, with words and without
use Rattle.std.proofs.Common.{ap, sym, ◌∙◌, arith}
use Rattle.std.proofs.lemmas.List.{length-map}
use Rattle.resp.specs.Grammar.{texts}
use Rattle.resp.proofs.StreamLemmas.{empty_list, some_list}
use Rattle.resp.proofs.LineLemmas.{open_line, too_big, empty_line, command_line}
use Rattle.resp.proofs.line.line_at.Goals as goal

pub open_line_at-requires : goal.open_line_at-requires
open_line_at-requires c =
    let cut = c.before_end in
    open_line c.args.bytes.now cut.result.0.now cut.result.1.now c.requires.line cut.ensures c.in_default.ensures.none

pub returns-in_default-clause-read : goal.returns-in_default-clause-read
returns-in_default-clause-read c = c.open_line_at.ensures.read (texts c.args.words.now.items)

pub returns-then-line-gt-LINE_BYTES-clause-err : goal.returns-then-line-gt-LINE_BYTES-clause-err
returns-then-line-gt-LINE_BYTES-clause-err c =
    let cut = c.before_end in
    too_big c.args.bytes.now cut.result.0.now cut.result.1.now c.requires.line cut.ensures c.if-line-gt-LINE_BYTES.true

pub returns-then-is_empty-clause-read : goal.returns-then-is_empty-clause-read
returns-then-is_empty-clause-read c =
    let cut = c.before_end in
    let words = c.split_line.new.words in
    empty_line c.args.bytes.now cut.result.0.now cut.result.1.now c.in-Some.rest.now (texts words.items) c.requires.line cut.ensures c.if-line-gt-LINE_BYTES.false c.in-Some.ensures.some c.in_default-split_line.ensures.ok
    (ap texts (empty_list words.items words.len words.ok.0 (sym c.is_empty.ensures ∙ c.if-is_empty.true)))

pub returns-clause-read : goal.returns-clause-read
returns-clause-read c =
    let cut = c.before_end in
    let words = c.split_line.new.words in
    let same = length-map words.items (λ word. word.now) in
    let some = some_list words.items words.len words.ok.0 (sym c.is_empty.ensures ∙ c.if-is_empty.false) in
    command_line c.args.bytes.now cut.result.0.now cut.result.1.now c.in-Some.rest.now (texts words.items) c.requires.line cut.ensures c.if-line-gt-LINE_BYTES.false c.in-Some.ensures.some c.in_default-split_line.ensures.ok
    (omega (arith, same, some), omega (arith, same, words.ok.0, c.len.ensures, c.if-len.false))
