use Rattle.redis_scripts.specs.Lua.{redis_py_release, redis_py_extend, redis_py_reacquire, redlock_release}
use Rattle.redis_scripts.proofs.lua.LuaTexts.new.Goals as goal

pub invariant_of-result : goal.invariant_of-result
unfolding redis_py_release redis_py_extend redis_py_reacquire redlock_release
invariant_of-result c = record { releases = (c.digest_of.ensures, c.digest_of-2.ensures); prolongs = (c.digest_of-3.ensures, c.digest_of-4.ensures) }
