use Rattle.gw_page.proofs.Fields.{four}
use Rattle.gw_page.proofs.reply.put_headers.Goals as goal

pub returns-clause-headers : goal.returns-clause-headers
returns-clause-headers c =
    rw (
      c.in_ok-add_header-4.ensures.headers,
      c.in_ok-add_header-3.ensures.headers,
      c.in_ok-add_header-2.ensures.headers,
      c.in_ok-add_header.ensures.headers,
      c.policy_of.ensures,
      c.from_static-2.ensures,
      c.from_static.ensures,
      c.type_of.ensures,
      four,
    ) at c.put_allowed.ensures.headers
