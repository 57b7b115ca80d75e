use Rattle.std.proofs.Common.{arith, ◌∙◌, ◌≤◌, ◌≡◌, ℕ, ap, subst, length, ◌&&◌, nat_eq, List}
use Rattle.server_state.proofs.PasswordLemmas.{compared}
use Rattle.server_state.proofs.password.Password.is.Goals as goal

pub returns : goal.returns
returns c =
    let most : length c.as_slice-bytes.result.now ≤ 512 = c.as_slice-bytes.ensures.fits in
    let same : c.as_slice-bytes.result.now ≡ c.args.self.now = c.as_slice-bytes.ensures.value ∙ c.self.view_is in
    let fits : length c.args.self.now ≤ 512 = subst (λ (xs : List ℕ). length xs ≤ 512) same most in
    ap (λ (n : ℕ). nat_eq c.loop-place.different 0 && nat_eq n (length c.args.shown.now)) (ap length same)
    ∙ compared c.args.self.now c.args.shown.now c.loop-place.different c.loop-place.place c.loop-place.invariant.none c.loop-place.invariant.same
    (omega (arith, fits, c.loop-place-test.false))
