-- A `&` to a `Known` holds a share of its view. Assumes `Logic`.
use denote.RattleType.{RattleType}
use denote.Param.Laws.{Laws}
use denote.Param.Shared.{copy_shared}
use denote.Struct.Laws.{field_copy}
use denote.Struct.Lending.{of_Lends}
use Rattle.std.specs.contracts.marker.PhantomData as marker
use Rattle.known_seat.specs.contracts.Known as C
use Rattle.known_seat.proofs.Sharing.{known_laws, lends_known}
use Rattle.known_seat.proofs.Known.TheLaw.Statement.{statement}

pub shares : (V : RattleType) (L : Laws V) → statement V L
shares V L = of_Lends (C.struct V) (C.the_codes V.Denot V.coded (marker.the_row V).coded) (C.the_heap V) (C.the_lent V)
    (λ d p. known_laws V.coded d.table_id d.id d.views)
    (copy_shared (marker.the_field V) (field_copy (marker.the_type V) tt), tt)
    (λ M 𝓤 𝓛 d p. lends_known V.coded d.table_id d.id d.views 𝓛 (C.the_row V).lives)
