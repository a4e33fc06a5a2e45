use Rattle.std.proofs.Common.{ap}
use Rattle.gw_page.proofs.Conversations.{called, conversed}
use Rattle.gw_page.proofs.serving.serve_page.Goals as goal

pub returns : goal.returns
returns g c =
    let fresh = c.new-connection.ensures.history in
    record {
      served =
          conversed _ _ _ _ c.new-connection.result c.serve.new.connection c.default.result c.new-connection.ensures.config c.serve.ensures.config
          c.default.ensures.0 c.default.ensures.3 fresh c.serve.ensures.read c.serve.ensures.written
          (called _ _ _ _ (ap (λ h. h.calls) fresh) c.serve.ensures.calls);
    }
