-- The lines that need no command.
use Rattle.std.specs.Prelude.{ℕ, List, codes, ◌++◌, ◌∷◌, []}

-- how each line ends
abbrev pub line_end : List ℕ
line_end = 13 ∷ 10 ∷ []

-- a request for memory was refused
abbrev pub no_memory_line : List ℕ
no_memory_line = codes "-OOM command not allowed when used memory > 'maxmemory'." ++ line_end

-- there is no room for one more client
abbrev pub no_room_line : List ℕ
no_room_line = codes "-ERR max number of clients reached" ++ line_end
