use Rattle.std.proofs.Common.{rules, ◌≡◌, ◌++◌, ◌-◌, ◌∙◌, ℕ, List, drop, take, length, ap, append_assoc, arith}
use Rattle.std.proofs.lemmas.List.{take_all, length-drop}
use Rattle.gw_settle.specs.Joins.{union_of}
use Rattle.gw_settle.proofs.Uniting.{common_first}
use Rattle.gw_settle.proofs.sets.push_union.Goals as goal

whole : (k : ℕ) (ns : List ℕ) → take (length ns - k) (drop k ns) ≡ drop k ns
whole k ns = take_all (length ns - k) (drop k ns) (omega (arith, length-drop k ns))

pub returns : goal.returns
returns c =
    let k = c.count_common-common.result in
    let before = c.args.all.now.items in
    let ns = c.args.numbers.now in
    let ms = c.args.others.now in
    let all : c.push_united.new.all.items
    ≡ (before ++ take k ns) ++ union_of (take (length ns - k) (drop k ns)) (take (length ms - k) (drop k ms)) = search rules in
    rw (whole k ns, whole k ms) at all
    ∙ append_assoc before (take k ns) (union_of (drop k ns) (drop k ms))
    ∙ ap (λ xs. before ++ xs) (common_first k ns ms c.requires.numbers c.requires.others c.count_common-common.ensures.same
    c.count_common-common.ensures.numbers c.count_common-common.ensures.others)
