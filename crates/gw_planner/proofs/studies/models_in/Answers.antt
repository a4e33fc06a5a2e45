use Rattle.std.proofs.Common.{◌∙◌, ◌++◌, [], ap, sym}
use Rattle.std.proofs.lemmas.List.{append_assoc, append-nil}
use Rattle.gw_planner.proofs.studies.models_in.Goals as goal

pub returns-then-input-lt-LENGTH_BYTES : goal.returns-then-input-lt-LENGTH_BYTES
returns-then-input-lt-LENGTH_BYTES c =
    (c.args.input.now, sym (append-nil (c.args.input.now ++ []) ∙ append-nil c.args.input.now))

pub returns : goal.returns
returns c =
    let front = c.split_at.result.0.now in
    let first = c.split_at-2.result.0.now in
    let second = c.split_at-2.result.1.now in
    (front, c.split_at.ensures.by_index.0 ∙ ap (λ ys. front ++ ys) c.split_at-2.ensures.by_index.0 ∙ sym (append_assoc front first second))
