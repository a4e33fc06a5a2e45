use Rattle.std.proofs.Common.{◌≡◌, ◌∙◌, ◌<◌, ◌+◌, ◌++◌, ◌∷◌, [], List, ℕ, length, get_or, take, refl, ap, sym, subst, arith}
use Rattle.std.proofs.lemmas.List.{map-append, take_more}
use Rattle.gw_summary.specs.Keeping.{Takes, waiting_lines}
use Rattle.gw_summary.specs.declared.rows.Rows.{Rows}
use Rattle.gw_summary.specs.declared.rows.Waiting.{Waiting}
use Rattle.std.proofs.lemmas.Result.{err_from_is_err_and}
use Rattle.gw_summary.specs.StudyRows.{IsSomeRow}
use Rattle.gw_summary.proofs.HoldingRows.{HaveSameParts, held_by, passed_on, stays_so_far}
use Rattle.gw_summary.proofs.Taking.{same_then, takes_then}
use Rattle.gw_summary.proofs.rows.Rows.add_waiting.Goals as goal

pub loop-i-preserved : goal.loop-i-preserved
loop-i-preserved c =
    let xs = c.args.waiting.now in
    let i = c.loop-i.i in
    let given = c.index-waiting-i-in-loop-i.result in
    let x = get_or xs i given in
    let line = x.line.items in
    let below : i < length xs = omega (arith, c.loop-i-test.true) in
    let more : take (i + 1) xs ≡ take i xs ++ x ∷ [] = take_more xs i given below in
    let same : waiting_lines (take (i + 1) xs) ≡ waiting_lines (take i xs) ++ line ∷ [] =
    ap waiting_lines more ∙ map-append (λ (w : Waiting). w.line.items) (take i xs) (x ∷ []) in
    let new = c.add_behind.new.self in
    let middle : Rows = record c.loop-i.self { number = (get_or xs i c.index-waiting-i.result).number } in
    let here = subst (λ (l : List ℕ). Takes (l ∷ []) middle new) c.deref.ensures.value c.in_ok-add_behind.ensures.takes in
    let added = same_then (line ∷ []) c.loop-i.self middle new (refl, refl) here in
    let parts : HaveSameParts c.loop-i.self middle =
    record { header = refl; figures = refl; waiting = refl; study = refl; refused = refl; points = refl } in (
      subst (λ (ls : List (List ℕ)). Takes ls c.args.self.now new) (sym same)
          (takes_then (waiting_lines (take i xs)) (line ∷ []) c.args.self.now c.loop-i.self new c.loop-i.invariant.0 added),
      λ s. stays_so_far s xs c.args.self.now c.loop-i.self middle new (c.loop-i.invariant.1 s) parts
          (λ readable await some held. c.in_ok-add_behind.ensures.study s some readable
          (subst (λ l. IsSomeRow s l) (sym c.deref.ensures.value) (await.rows_are i given below)) held),
    )

pub returns-in_err-add_behind-clause-study : goal.returns-in_err-add_behind-clause-study
returns-in_err-add_behind-clause-study c =
    let xs = c.args.waiting.now in
    let i = c.loop-i.i in
    let below : i < length xs = omega (arith, c.loop-i-test.true) in
    let middle : Rows = record c.loop-i.self { number = (get_or xs i c.index-waiting-i.result).number } in
    let parts : HaveSameParts c.loop-i.self middle =
    record { header = refl; figures = refl; waiting = refl; study = refl; refused = refl; points = refl } in
    let p = err_from_is_err_and c.from_residual.result c.from_residual.ensures.1 in
    λ s readable await.
    let so_far = c.loop-i.invariant.1 s readable await in
    passed_on c.from_residual.result _ p.0 _ _ p.1 p.2
    (c.in_err-add_behind.ensures.study s (λ none. await.header (sym so_far.header ∙ none)) readable
    (subst (λ l. IsSomeRow s l) (sym c.deref.ensures.value) (await.rows_are i c.index-waiting-i-in-loop-i.result below))
    (held_by s c.loop-i.self middle parts so_far.held))

pub returns-clause-study : goal.returns-clause-study
returns-clause-study c = c.loop-i.invariant.1
