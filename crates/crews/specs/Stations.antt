-- What a session of a crew goes through.
use Rattle.std.specs.Prelude.{Bool, List, []}
use Rattle.bin_stripes.specs.Passes.{PassState}
use Rattle.program_registry.specs.declared.registry.ProgramToken.{ProgramToken}
use Rattle.program_registry.specs.declared.registry.Registry.{Registry}

-- the registry that a session looks numbers up in, and the tokens that it keeps: one of each program that it registered or named
pub record KeptTokens : Type 0 where
  pub registry : Registry
  pub items : List ProgramToken

-- these tokens of this registry
abbrev pub tokens_of : Registry → List ProgramToken → KeptTokens
tokens_of registry items = record { registry = registry; items = items }

-- none yet
abbrev pub no_tokens : Registry → KeptTokens
no_tokens registry = tokens_of registry []

-- a state between two requests: what the crew's pass and those of its team know, the tokens that the session keeps, and whether the
-- crew's server is strict: then it may refuse a change of a present key too
pub record Station : Type 0 where
  pub pass : PassState
  pub team : List PassState
  pub tokens : KeptTokens
  pub is_strict : Bool
