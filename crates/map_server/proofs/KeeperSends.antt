-- A map that is kept may go to another thread, with its keeper: each of its fields may, at the values that it has.
use denote.RattleType.{RattleType}
use denote.Param.Send.{FieldsAt, IsSend, IsSync, SendAt, recorded_send, recorded_send_at, recorded_send_of, sendable, shr_send, struct_send, struct_send_at}
use denote.Ref.{NamedLft}
use denote.Struct.Struct.{Struct}
use denote.Struct.Declared.{Declared, fields, row, shape}
use denote.Struct.Tuple.{TupleAt, type_at}
use denote.Struct.Field.{shr_ref_field}
use mathlib.Core.List.{List, [], ◌∷◌}
use mir.Syntax.{Sym}
use Rattle.std.proofs.Crossing.{crosses}
use Rattle.sqlite_trees.specs.declared.store.Store as store
use Rattle.sqlite_store.proofs.store.FileStore.TheSendSync as file_store
use Rattle.sqlite_disk.proofs.modelled.Modelled.TheSendSync as modelled
use Rattle.sqlite_std_file.specs.contracts.host.Host as host
use Rattle.map_keeper.specs.contracts.keeper.Keeper as keeper
use Rattle.map_keeper.proofs.keeper.Keeper.TheSendSync as kept_with
use Rattle.std.specs.contracts.alloc.Global as global
use Rattle.devices.specs.declared.sink.Sink as sink
use Rattle.map_keeper.specs.contracts.keeper.Shared as shared
use Rattle.map_keeper.proofs.keeper.Shared.TheSendSync as shared_with
use Rattle.map_server.specs.contracts.entrance.Entrance as entrance
use Rattle.map_server.proofs.entrance.Entrance.TheSendSync as entered
use Rattle.map_server.specs.contracts.keeping.Bell as bell
use Rattle.map_server.proofs.keeping.Bell.TheSendSync as rung
use Rattle.map_server.specs.contracts.keeping.Kept as kept

-- a type that may be sent may at each of its values
at : (R : RattleType) → IsSend R → (x : R.Denot) → SendAt R x
at R sends x = (sends.owned x, λ k. sends.leaving k x)

-- so may a struct, where it is a field
field_at : (T : Declared) → IsSend (row T) → (d : T.D) → SendAt (Struct (shape T)) (T.to d)
field_at T sends d = recorded_send_at (Struct (shape T)) T.D T.to T.to_one sends d

-- a struct may be sent if its fields may at each of its values
by_fields : (T : Declared) → ((d : T.D) → FieldsAt SendAt (fields T) (T.to d)) → IsSend (row T)
by_fields T all = recorded_send_of (Struct (shape T)) T.D T.to T.to_one (λ d. struct_send_at (shape T) (T.to d) (all d))

host_sends : IsSend host.the_row
host_sends = search (crosses, sendable) depth 12

keeper_at : (A : RattleType) (g : store.Ghosts A.Denot) → IsSend A → (d : (keeper.the_type A g).D) → SendAt (keeper.the_field A g).row ((keeper.the_type A g).to d)
keeper_at A g sends d = field_at (keeper.the_type A g) (kept_with.the_send A g sends) d

kept_sends : (life : NamedLft) → IsSend (kept.the_row life)
kept_sends life = by_fields (kept.the_type life) (λ d. search (at, crosses, sendable, keeper_at, file_store.the_send, modelled.the_send, host_sends) depth 10)

-- what the closure captures that saves it: the entrance, what is kept, the allocator, the map that is kept and the bell
abbrev pub captures : NamedLft → NamedLft → NamedLft → NamedLft → NamedLft → NamedLft → NamedLft → NamedLft → (H E : RattleType) → sink.Ghosts E.Denot → List RattleType
captures a b c d e f k l H E g =
    (shr_ref_field a (entrance.the_row b c H E g) tt).row ∷ (shr_ref_field d (shared.the_row e f) tt).row ∷ global.the_row ∷ kept.the_row k ∷ (shr_ref_field l bell.the_row tt).row ∷ []

-- so may that closure
pub saving_sends : (name : Sym) (a b c d e f k l : NamedLft) (H E : RattleType) (g : sink.Ghosts E.Denot) → IsSend E → IsSync H → IsSend (TupleAt name (captures a b c d e f k l H E g))
saving_sends name a b c d e f k l H E g sends shares =
    let T = type_at name (captures a b c d e f k l H E g) in
    let alloc : IsSend global.the_row = search (crosses, sendable) depth 6 in
    recorded_send (Struct (shape T)) T.D T.to T.to_one (struct_send (shape T) (shr_send _ _ _ (entered.the_sync b c H E g sends shares), (shr_send _ _ _ (shared_with.the_sync e f), (alloc, (kept_sends k, (shr_send _ _ _ rung.the_sync, tt))))))
