-- What a build is of: the root request, the tools, and what each request does.
use Rattle.msb_laws.specs.Words.{Name}
use Rattle.result_cache.specs.declared.request.RequestKey.{RequestKey}
use Rattle.result_cache.specs.Journal.{Journal}
use Rattle.build_meaning.specs.Walk.{Walk}

-- the request that the build is of; what a tool answers, by its name and its input; what a request
-- does, by its caller's journal
pub record World (P I A : Type 0) : Type 0 where
  pub root : RequestKey
  pub tools : Name → I → A
  pub walks : RequestKey → Journal → Walk P I A
