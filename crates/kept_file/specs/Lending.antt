-- The connection of a file, lent.
use Rattle.std.specs.Borrow.{Fml, RattleType, MutBor, Lends}
use Rattle.sqlite.specs.Store as store
use Rattle.sqlite.specs.Held.{Held}
use Rattle.sqlite.specs.contracts.connection.Connection as connection
use Rattle.kept_file.specs.declared.file.KeptFile.{KeptFile}
use Rattle.kept_file.specs.contracts.file.KeptFile as file

module _ (S : RattleType) (g : store.Ghosts S.Denot) where
  -- the file ends with the connection as it was left
  abbrev pub LendsConnection : MutBor (KeptFile S.Denot) → MutBor (Held S.Denot) → Fml
  LendsConnection lender lent = Lends (file.the_row S g) (connection.the_row S g) lender lent (λ conn. record { conn = conn })
