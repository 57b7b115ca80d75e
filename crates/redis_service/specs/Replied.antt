-- The bytes of replies, and of parts of them.
use Rattle.std.specs.Prelude.{ℕ, List, pos}
use Rattle.resp.specs.Replies.{simple_bytes, error_bytes, integer_bytes, value_bytes, nothing_bytes, array_head}
use Rattle.redis_service.specs.Lines.{no_memory_line}
use Rattle.redis_service.specs.declared.reply.Replied.{Replied}
use Rattle.redis_service.specs.declared.reply.Replied.TheVariants.{Found, Nothing, Integer, Count, Array, Bytes, Simple, Error, NoMemory}

-- the bytes of the reply, if this is the value that was found
abbrev pub replied_bytes : Replied → List ℕ → List ℕ
replied_bytes Found found = value_bytes found
replied_bytes Nothing found = nothing_bytes
replied_bytes (Integer number) found = integer_bytes number
replied_bytes (Count number) found = integer_bytes (pos number)
replied_bytes (Array count) found = array_head count
replied_bytes (Bytes bytes) found = bytes.now
replied_bytes (Simple text) found = simple_bytes text.now
replied_bytes (Error text) found = error_bytes text.now
replied_bytes NoMemory found = no_memory_line
