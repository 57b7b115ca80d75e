use Rattle.std.proofs.Common.{◌≡◌, ap, sym, ◌∙◌, length, option_to_list, append-nil, arith}
use Rattle.std.proofs.lemmas.Grind.{common_steps}
use Rattle.map_commands.proofs.HexLemmas.{front_takes_piece, read_once}
use Rattle.map_commands.proofs.hex.hex_bytes.Goals as goal

pub loop-byte-preserved-in_ok-push : goal.loop-byte-preserved-in_ok-push
loop-byte-preserved-in_ok-push c =
    let (front, parts, spelled) = c.loop-byte.invariant in
    let (piece, fits, split, read) = c.in-Some.ensures.some in
    let byte = sym (ap option_to_list c.in-Some-byte.is) ∙ read in
    front_takes_piece _ front _ _ _ _ _ piece parts spelled fits split byte c.in_ok-push.ensures.items

pub loop-byte-preserved : goal.loop-byte-preserved
loop-byte-preserved c =
    let (front, parts, spelled) = c.loop-byte.invariant in
    let (piece, fits, split, read) = c.in-Some.ensures.some in
    let none = sym (ap option_to_list c.in_default-byte.is) ∙ read in
    front_takes_piece _ front _ _ _ _ _ piece parts spelled fits split none (sym (append-nil c.loop-byte.bytes.items))

pub returns-then-not-is_empty-clause-only : goal.returns-then-not-is_empty-clause-only
returns-then-not-is_empty-clause-only c bytes whole =
    let (front, parts, spelled) = c.loop-byte.invariant in
    let (same, empty) = read_once _ front _ bytes _ whole spelled parts c.in_default.ensures.none in
    let none : length c.loop-byte.rest.now ≡ 0 = ap length empty in
    absurd (grind (arith, common_steps, none))

pub returns-clause-only : goal.returns-clause-only
returns-clause-only c bytes whole =
    let (front, parts, spelled) = c.loop-byte.invariant in
    (read_once _ front _ bytes _ whole spelled parts c.in_default.ensures.none).0
