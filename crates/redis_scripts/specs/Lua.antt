-- Texts in Lua by which clients release a lock, give it more time, or begin its time anew.
use Rattle.std.specs.Prelude.{◌≡◌, ◌⊎◌, ℕ, List, codes}
use Rattle.sha1.specs.Sha1.{sha1}
use Rattle.redis_scripts.specs.declared.lua.LockAct.{LockAct}
use Rattle.redis_scripts.specs.declared.lua.LockAct.TheVariants.{Release, Extend, Reacquire}

-- `Lock.release` of redis-py
unfoldable pub redis_py_release : List ℕ
redis_py_release = codes "\n        local token = redis.call('get', KEYS[1])\n        if not token or token ~= ARGV[1] then\n            return 0\n        end\n        redis.call('del', KEYS[1])\n        return 1\n    "

-- `Lock.extend` of redis-py
unfoldable pub redis_py_extend : List ℕ
redis_py_extend = codes "\n        local token = redis.call('get', KEYS[1])\n        if not token or token ~= ARGV[1] then\n            return 0\n        end\n        local expiration = redis.call('pttl', KEYS[1])\n        if not expiration then\n            expiration = 0\n        end\n        if expiration < 0 then\n            return 0\n        end\n\n        local newttl = ARGV[2]\n        if ARGV[3] == \"0\" then\n            newttl = ARGV[2] + expiration\n        end\n        redis.call('pexpire', KEYS[1], newttl)\n        return 1\n    "

-- `Lock.reacquire` of redis-py
unfoldable pub redis_py_reacquire : List ℕ
redis_py_reacquire = codes "\n        local token = redis.call('get', KEYS[1])\n        if not token or token ~= ARGV[1] then\n            return 0\n        end\n        redis.call('pexpire', KEYS[1], ARGV[2])\n        return 1\n    "

-- the page of Redis on distributed locks
unfoldable pub redlock_release : List ℕ
redlock_release = codes "if redis.call(\"get\",KEYS[1]) == ARGV[1] then\n    return redis.call(\"del\",KEYS[1])\nelse\n    return 0\nend"

-- the digest names the release of a lock: it removes the lock if its value is the first argument
abbrev pub ReleasesLock : List ℕ → Type 0
ReleasesLock digest = (digest ≡ sha1 redis_py_release) ⊎ (digest ≡ sha1 redlock_release)

-- the digest names the extension of a lock: the lock has more time if its value is the first argument and it has a deadline
abbrev pub ExtendsLock : List ℕ → Type 0
ExtendsLock digest = digest ≡ sha1 redis_py_extend

-- the digest names the reacquisition of a lock: its time begins anew if its value is the first argument
abbrev pub ReacquiresLock : List ℕ → Type 0
ReacquiresLock digest = digest ≡ sha1 redis_py_reacquire

-- the digest names a text that does this
abbrev pub ActsOnLock : List ℕ → LockAct → Type 0
ActsOnLock digest Release = ReleasesLock digest
ActsOnLock digest Extend = ExtendsLock digest
ActsOnLock digest Reacquire = ReacquiresLock digest
