use Rattle.std.proofs.Common.{◌≡◌, ◌∙◌, ℕ, ℤ, List, Option, replicate, sym, ap}
use Rattle.gw_transactions.specs.Parameters.{Numbered}
use Rattle.gw_transactions.specs.Transactions.{kept_of, parameters_at}
use Rattle.gw_scan.proofs.visit.Visit.pass_and_copy.Goals as goal

abbrev numbered : List (Option ℤ) → ℕ → Numbered
numbered values last = record { values = values; last = last }

-- who enters keeps its parameters
pub make_copies-requires-clause-same : goal.make_copies-requires-clause-same
make_copies-requires-clause-same c =
    let e = c.enter_as_found.ensures in
    let n = c.args.self.now.tx.number in
    let old = c.reserve_copies.new.self.transactions in
    let new = c.enter_as_found.new.self.transactions in
    let same : kept_of n new ≡ kept_of n old = ap (λ (values : List (Option ℤ)). numbered values new.last) e.parameters
    ∙ ap (λ (last : ℕ). numbered (parameters_at n old.txs) last) e.last in
    c.in_ok-parameters.ensures.parameters ∙ ap (replicate c.args.copies) (sym same)
