use Rattle.std.proofs.Common.{◌≡◌, ◌+◌, ◌≤◌, length, map, vec_len, vec_capacity}
use Rattle.map_server.proofs.posts.posts_of.Given as goal

abbrev pub invariant-loop-crew : goal.invariant-loop-crew
invariant-loop-crew g l = record {
  crews : map (λ post. post.crew) l.posts.items ≡ l.yielded;
  polls : vec_len l.polls + length l.yielded ≡ vec_len l.fn.crews;
  room : vec_len l.fn.crews ≤ vec_capacity l.posts;
}
