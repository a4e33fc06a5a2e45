use Rattle.std.proofs.Common.{rules, ◌≡◌, ◌<◌, ℕ, List, map, length, Bor, sym, subst}
use Rattle.std.proofs.lemmas.List.{length-map}
use Rattle.gw_convert.proofs.converting.put_lines.Goals as goal
use Rattle.gw_convert.proofs.Joining.{one_more}

-- the piece of a line joins those of the lines before it
pub loop-at-preserved : goal.loop-at-preserved
loop-at-preserved c =
    let ls : List (List ℕ) = map (λ (s : Bor (List ℕ)). s.now) c.args.lines.now in
    let lt : c.loop-at.at < length ls = subst (λ n. c.loop-at.at < n) (sym (length-map c.args.lines.now (λ (s : Bor (List ℕ)). s.now))) c.loop-at-test.true in
    one_more ls c.loop-at.at c.line_at.result.now c.args.out.now.items c.loop-at.out.items c.put_line.new.out.items
    lt c.line_at.ensures c.loop-at.invariant c.in_ok-put_line.ensures
