use Rattle.gw_page.proofs.reply.put_allowed.Goals as goal

pub returns-in-GetAlone-clause-headers : goal.returns-in-GetAlone-clause-headers
returns-in-GetAlone-clause-headers c = rw c.in-GetAlone.is (rw c.from_static.ensures at c.add_header.ensures.headers)

pub returns-in-PostAlone-clause-headers : goal.returns-in-PostAlone-clause-headers
returns-in-PostAlone-clause-headers c =
    rw c.in-PostAlone.is (rw c.from_static-in-PostAlone.ensures at c.add_header-in-PostAlone.ensures.headers)
