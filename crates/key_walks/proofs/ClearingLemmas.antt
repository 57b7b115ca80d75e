-- Stripes that were cleared.
use Rattle.std.proofs.Common.{◌≡◌, ℕ, ◌+◌, List, [], ◌∷◌, ◌++◌, Some, None, Result, Ok, Err, IfOk, OnErr, refl, sym, ◌∙◌, subst, arith, length, length-append}
use Rattle.bpf_model.specs.declared.memory.NoMemory.{NoMemory}
use Rattle.atomic_methods.specs.declared.reply.ReplyKind.{ReplyKind}
use Rattle.atomic_methods.specs.Invocations.{on_key, remove}
use Rattle.atomic_methods.specs.Plans.{reply_by}
use Rattle.bin_stripes.specs.Invoked.{Calls, RefusesCall}
use Rattle.bin_stripes.specs.Passes.{PassState, ServesSameMap, stripes_of}
use Rattle.key_walks.specs.Turns.{Chain, InTurn, FindsKeys, MayScan, Stops}
use Rattle.key_walks.specs.Walks.{Removes, Clears, ClearsAll, each}
use Rattle.key_walks.proofs.ChainLemmas.{turn_more, same_on}

some_none : (value : List ℕ) → Some value ≡ None → ⊥
some_none value e = cc

-- a removal adds no key, so it is never refused
pub removes_always : (old new : PassState) (key bytes : List ℕ) (answer : Result ReplyKind NoMemory)
    → IfOk answer (λ kind. Calls old (on_key key remove) (reply_by kind bytes) new) → OnErr answer (RefusesCall old (on_key key remove) new) → Removes old key new
removes_always old new key bytes (Ok kind) made refused = (reply_by kind bytes, made)
removes_always old new key bytes (Err e) made refused = absurd (some_none refused.adds.1.0 refused.adds.1.1.1.0)

-- the first n stripes were cleared
pub record Cleared (n : ℕ) (old new : PassState) : Type 0 where
  pub lists : List (List (List ℕ))
  pub turns : InTurn Clears each old lists new
  pub some : length lists ≡ n

pub cleared_none : (p : PassState) → Cleared 0 p p
cleared_none p = record { lists = []; turns = refl; some = refl }

pub cleared_more : (n : ℕ) (p q r s : PassState) (keys : List (List ℕ)) → Cleared n p q → ServesSameMap q r → FindsKeys q n keys r → ServesSameMap r s → Chain Removes r keys s
    → Cleared (n + 1) p s
cleared_more n p q r s keys f same finds same' removes =
    let longer = length-append f.lists (keys ∷ []) in
    let some = f.some in
    let clears : Clears q n keys s = record { between = r; same = same; finds = finds; removes = removes } in
    record {
      lists = f.lists ++ keys ∷ [];
      turns = turn_more Clears each p q s f.lists keys f.turns (same_on q r s same same') (subst (λ k. Clears q k keys s) (sym f.some) clears);
      some = omega (arith, longer, some);
    }

pub cleared_all : (n : ℕ) (p q : PassState) → Cleared n p q → n ≡ stripes_of p.map → ClearsAll p q
cleared_all n p q f all = record { lists = f.lists; turns = f.turns; all = f.some ∙ all }

pub cleared_stops : (n : ℕ) (p q r : PassState) → Cleared n p q → MayScan q n r → Stops Clears each p r
cleared_stops n p q r f may = record { items = f.lists; between = q; turns = f.turns; last = subst (λ k. MayScan q k r) (sym f.some) may }
