-- The answer of a walk whose program is registered.
use Rattle.std.proofs.Common.{◌≡◌, inl, refl, subst, ℕ, List, Option, Some}
use Rattle.std.specs.Prelude.{slice_get}
use Rattle.std.specs.FinMap as map
use Rattle.verifier.specs.Checked.{Checked}
use Rattle.bins.specs.Table.{Entry}
use Rattle.atomic_methods.specs.declared.walk_reply.WalkKind.{WalkKind}
use Rattle.atomic_methods.specs.declared.walk_reply.WalkReply.{WalkReply}
use Rattle.atomic_methods.specs.Replies.{IsReply}
use Rattle.client_protocol.specs.declared.limits.Version.{Version}
use Rattle.sessions.specs.declared.alone.Alone.{Alone}
use Rattle.sessions.specs.Answering.{walk_responses}
use Rattle.sessions.specs.Asking.{walk, with_program}
use Rattle.sessions.specs.Requests.{Meets}

-- a walk over the entries of the table, by the program of this number
pub walk_meets : (hello : Option Version) (old : Alone) (kind : WalkKind) (number : ℕ) (arg : Option (List ℕ)) (program : Checked) (entries : List Entry) (reply : WalkReply)
    → Some program ≡ slice_get old.programs number → entries ≡ map.entries old.table → IsReply kind program arg entries reply
    → Meets hello old (with_program (slice_get old.programs number) (λ p. walk kind p arg)) (walk_responses reply) old
walk_meets hello old kind number arg program entries reply is all replies =
    subst (λ (found : Option Checked). Meets hello old (with_program found (λ p. walk kind p arg)) (walk_responses reply) old) is
    (inl (reply, subst (λ (es : List Entry). IsReply kind program arg es reply) all replies, refl, refl))
