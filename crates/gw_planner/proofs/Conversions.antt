-- A converted text with lines behind it.
use Rattle.std.proofs.Common.{◌≡◌, ℕ, List, ◌++◌}
use Rattle.gw_answers.specs.Status.{end_status}
use Rattle.gw_convert.specs.Pieces.{IsConverted}
use Rattle.gw_planner.specs.Answers.{IsConversion}

pub with_lines : (bytes new told text : List ℕ) (status : ℕ) → IsConverted bytes new → text ≡ new ++ told → status ≡ end_status → IsConversion bytes text status
with_lines bytes new told text status c w e = record {
  ends = e;
  new = new;
  converted = c;
  told = told;
  whole = w;
}
