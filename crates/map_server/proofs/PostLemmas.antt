-- Crews of posts.
use Rattle.std.proofs.Common.{◌≡◌, ℕ, suc, Bool, Option, List, [], ◌∷◌, length, map, All, refl, ap, sym, subst}
use Rattle.std.proofs.lemmas.List.Elements.{All-nil, All-cons, All-head, All-tail, All-map}
use Rattle.atomic_table.specs.Seated.{TableId}
use Rattle.crews.specs.declared.crew.Crew.{Crew}
use Rattle.crews.specs.declared.posts.Post.{Post}
use Rattle.program_registry.specs.declared.registry.Registry.{Registry}
use Rattle.crews.specs.Crews.{IsCrewOf, CarriesSame}
use Rattle.crews.specs.Lives.{HasLived}
use Rattle.crews.specs.Steps.{Pairwise}
use Rattle.map_server.specs.ServerRuns.{AnyComes, HaveAttended, tells_none}

-- the crews of posts that came back have attended
pub crews_attended : {P : Type 0} (registry : Registry) (password : Option (List ℕ)) (strict : Bool) (crews : List Crew) (olds news : List (Post P Crew)) → map (λ post. post.crew) olds ≡ crews
    → Pairwise (λ old new. CarriesSame old.crew new.crew) olds news → Pairwise (λ old new. HasLived tells_none AnyComes registry password strict old.crew new.crew) olds news
    → HaveAttended registry password strict crews (map (λ post. post.crew) news)
crews_attended registry password strict crews olds news are same lived = subst (λ (all : List Crew). HaveAttended registry password strict all (map (λ post. post.crew) news)) are (each olds news same lived) where
  each : {P : Type 0} (olds news : List (Post P Crew)) → Pairwise (λ old new. CarriesSame old.crew new.crew) olds news
      → Pairwise (λ old new. HasLived tells_none AnyComes registry password strict old.crew new.crew) olds news → HaveAttended registry password strict (map (λ post. post.crew) olds) (map (λ post. post.crew) news)
  each [] [] same lived = tt
  each [] (new ∷ news) same lived = absurd same
  each (old ∷ olds) [] same lived = absurd same
  each (old ∷ olds) (new ∷ news) same lived = (record { same = same.0; lived = lived.0 }, each olds news same.1 lived.1)

-- as many came back
pub as_many : {P : Type 0} (crews : List Crew) (olds news : List (Post P Crew)) → map (λ post. post.crew) olds ≡ crews
    → Pairwise (λ old new. CarriesSame old.crew new.crew) olds news → length news ≡ length crews
as_many crews olds news are same = subst (λ (all : List Crew). length news ≡ length all) are (paired olds news same) where
  paired : {P : Type 0} (olds news : List (Post P Crew)) → Pairwise (λ old new. CarriesSame old.crew new.crew) olds news
      → length news ≡ length (map (λ post. post.crew) olds)
  paired [] [] same = refl
  paired [] (new ∷ news) same = absurd same
  paired (old ∷ olds) [] same = absurd same
  paired (old ∷ olds) (new ∷ news) same = ap suc (paired olds news same.1)

-- the posts of crews of this map have crews of it
pub posts_of_map : {P : Type 0} (id : TableId) (crews : List Crew) (posts : List (Post P Crew)) → map (λ post. post.crew) posts ≡ crews
    → All (λ crew. IsCrewOf id crew) crews → All (λ post. IsCrewOf id post.crew) posts
posts_of_map id crews posts are all = each posts (subst (λ (some : List Crew). All (λ crew. IsCrewOf id crew) some) (sym are) all) where
  each : {P : Type 0} (posts : List (Post P Crew)) → All (λ crew. IsCrewOf id crew) (map (λ post. post.crew) posts) → All (λ post. IsCrewOf id post.crew) posts
  each [] all = All-nil (λ post. IsCrewOf id post.crew)
  each (post ∷ posts) all = All-cons (λ post. IsCrewOf id post.crew) post posts (All-head (λ crew. IsCrewOf id crew) _ _ all) (each posts (All-tail (λ crew. IsCrewOf id crew) _ _ all))

-- and their crews are of this map
pub crews_of_map : {P : Type 0} (id : TableId) (posts : List (Post P Crew)) → All (λ post. IsCrewOf id post.crew) posts → All (λ crew. IsCrewOf id crew) (map (λ post. post.crew) posts)
crews_of_map id posts all = All-map (λ crew. IsCrewOf id crew) (λ post. post.crew) posts all
