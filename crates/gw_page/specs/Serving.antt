-- What was read from a peer, and what was written to it.
use Rattle.std.specs.Prelude.{◌≡◌, ℕ, List, All, Option}
use Rattle.std.specs.Io.KnownBytes.{Appends, Consumes}
use Rattle.http_server.specs.declared.state.Config.{Config}
use Rattle.http_server.specs.History.{History, IsServed}
use Rattle.gw_page.specs.Pages.{Answers}

-- Of the bytes that a reader and a writer have, from how the two were to how they are: what was written answers the requests that
-- were read, in order, each by its response, by the grammar of HTTP; of what is no request, or is too long, the state says so.
pub record IsConversation (unread left written told : Option (List ℕ)) : Type 0 where
  pub config : Config
  -- the body of a request has at most 1 MiB, and its head at most 16 KiB
  pub body : config.max_body_len ≡ 1048576
  pub head : config.limits.max_head_len ≡ 16384
  pub history : History
  pub read : Consumes unread left history.received
  pub wrote : Appends written told history.sent
  pub served : ∥ IsServed config history ∥₁
  pub answers : All (λ call. Answers call.0 call.1) history.calls

-- the same of what a reader and a writer have
abbrev pub Converses : {R W : Type 0} → (R → Option (List ℕ)) → (W → Option (List ℕ)) → R → R → W → W → Type 0
Converses remaining contents reader left writer told =
    IsConversation (remaining reader) (remaining left) (contents writer) (contents told)
