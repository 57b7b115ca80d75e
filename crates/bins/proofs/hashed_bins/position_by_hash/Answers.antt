use Rattle.std.proofs.Common.{◌≡◌, ◌≢◌, ◌<◌, ℕ, List, [], true, false, length, get_or, sym, ◌∙◌, arith}
use Rattle.std.proofs.lemmas.List.{get_or_default}
use Rattle.bins.proofs.HashSearch.{as_many, past, past_all}
use Rattle.bins.proofs.hashed_bins.position_by_hash.Goals as goal

never : false ≡ true → ⊥
never e = cc

-- no position has the hash
pub returns-in_err-last-clause-absent : goal.returns-in_err-last-clause-absent
returns-in_err-last-clause-absent c = rw c.from_residual.ensures
    (past_all _ _ _ c.requires.index c.args.key.now c.args.hash c.requires.hash (length c.args.index.now.hashes)
    (λ j d low high. absurd (omega (arith, low, high, as_many _ _ _ c.requires.index))) c.in_err-last.ensures.value)

-- the last position of the hash has another key, and no position after it has the hash
pub position_before-requires-clause-lacks : goal.position_before-requires-clause-lacks
position_before-requires-clause-lacks c =
    let keys = c.args.rows.now.keys in
    let last = c.in_ok-last.last in
    let inside : last < length keys = omega (arith, c.in_ok-last.ensures.value.0, as_many _ _ _ c.requires.index) in
    let other : (d : List ℕ) → get_or keys last d ≢ c.args.key.now = λ d same.
    never (c.if-is_at.ensures.exact.1 (get_or_default keys last [] d inside ∙ same ∙ sym c.as_slice.ensures.value)) in
    past _ _ _ c.requires.index c.args.key.now c.args.hash c.requires.hash (length c.args.index.now.hashes) last
    (λ j d low high. absurd (omega (arith, low, high, as_many _ _ _ c.requires.index))) c.in_ok-last.ensures.value other
