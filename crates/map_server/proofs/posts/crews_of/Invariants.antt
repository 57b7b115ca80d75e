use Rattle.std.proofs.Common.{◌≡◌, ◌≤◌, map, vec_len, vec_capacity}
use Rattle.map_server.proofs.posts.crews_of.Given as goal

abbrev pub invariant-loop-post : goal.invariant-loop-post
invariant-loop-post g l = record {
  crews : l.crews.items ≡ map (λ post. post.crew) l.yielded;
  room : vec_len l.fn.posts ≤ vec_capacity l.crews;
}
