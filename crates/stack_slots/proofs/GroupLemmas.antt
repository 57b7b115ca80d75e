-- Values of slots in groups.
use Rattle.std.proofs.Common.{◌≡◌, ◌∙◌, ℕ, ◌+◌, ◌*◌, ◌<◌, List, [], ◌∷◌, ◌++◌, length, take, drop, get_or, Option, refl, sym, ap, arith}
use Rattle.std.specs.Global.{Global}
use Rattle.std.specs.declared.rc.Rc.{Rc}
use Rattle.std.proofs.lemmas.List.{take-append-drop, take-take, take_all, drop-take, take_more}
use Rattle.std.proofs.lemmas.Grind.{common_steps, flat_map-append}
use Rattle.stack_slots.specs.declared.reg_value.RegValue.{RegValue}
use Rattle.stack_slots.specs.Groups.{together}

pub take_further : {A : Type 0} (n m : ℕ) (xs : List A) → take (n + m) xs ≡ take n xs ++ take m (drop n xs)
take_further n m xs = sym (take-append-drop n (take (n + m) xs)) ∙ rw (take-take n (n + m) xs (omega arith), drop-take n m xs) refl

-- one more group
pub together_push : (gs : List (Rc (List (Option RegValue)) Global)) (g : Rc (List (Option RegValue)) Global) → together (gs ++ (g ∷ [])) ≡ together gs ++ g.value
together_push gs g = grind (arith, common_steps, flat_map-append)

pub together_further : (gs : List (Rc (List (Option RegValue)) Global)) (i : ℕ) (g : Rc (List (Option RegValue)) Global) → i < length gs → get_or gs i g ≡ g → together (take (i + 1) gs) ≡ together (take i gs) ++ g.value
together_further gs i g inside is = rw (take_more gs i g inside, is) (together_push (take i gs) g)

-- if one more group has the next values, the groups so far have the values so far
pub further : (gs : List (Rc (List (Option RegValue)) Global)) (values : List (Option RegValue)) (i : ℕ) (g : Rc (List (Option RegValue)) Global) → i < length gs → get_or gs i g ≡ g → together (take i gs) ≡ take (8 * i) values → g.value ≡ take 8 (drop (8 * i) values) → together (take (i + 1) gs) ≡ take (8 * (i + 1)) values
further gs values i g inside is done same =
    let next : 8 * (i + 1) ≡ 8 * i + 8 = omega arith in
    together_further gs i g inside is ∙ rw (next, done, same) (sym (take_further (8 * i) 8 values))

pub pushed : (gs : List (Rc (List (Option RegValue)) Global)) (values : List (Option RegValue)) (i : ℕ) (g : Rc (List (Option RegValue)) Global) → together gs ≡ take (8 * i) values → g.value ≡ take 8 (drop (8 * i) values) → together (gs ++ (g ∷ [])) ≡ take (8 * (i + 1)) values
pushed gs values i g done same =
    let next : 8 * (i + 1) ≡ 8 * i + 8 = omega arith in
    together_push gs g ∙ rw (next, done, same) (sym (take_further (8 * i) 8 values))

-- eight groups have all values
pub all_together : (gs : List (Rc (List (Option RegValue)) Global)) (values : List (Option RegValue)) (n : ℕ) → n ≡ 8 → length gs ≡ 8 → length values ≡ 64 → take (8 * n) values ≡ together (take n gs) → values ≡ together gs
all_together gs values n eight groups all done =
    let at : take 64 values ≡ together (take 8 gs) = rw eight at done in
    sym (take_all 64 values (omega (arith, all))) ∙ at ∙ ap together (take_all 8 gs (omega (arith, groups)))
