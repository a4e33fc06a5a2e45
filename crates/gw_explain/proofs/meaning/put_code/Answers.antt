use Rattle.gw_explain.proofs.Naming.{named_where}
use Rattle.gw_explain.proofs.meaning.put_code.Goals as goal

pub returns : goal.returns
returns c =
    named_where _ _ _ _ c.args.code c.extend_from_slice.result c.extend_from_slice.ensures.items (rw c.deref.ensures.value at c.behind_refused.ensures)
    c.in_ok-refusal.ensures.0
