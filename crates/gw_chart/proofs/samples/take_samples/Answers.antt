use Rattle.std.proofs.Common.{◌+◌, ◌++◌, ◌∙◌, ℕ, ℤ, List, [], ◌∷◌, get_or, refl, sym, ap, subst, arith, length, length-append}
use Rattle.gw_chart.specs.declared.bands.Band.{Band}
use Rattle.gw_chart.specs.Windows.{moment}
use Rattle.gw_chart.specs.Samples.{StoodAt, AreBands}
use Rattle.gw_chart.proofs.Looking.{still_first, still_of, stood_of, listed_more, bands_of}
use Rattle.gw_chart.proofs.samples.take_samples.Goals as goal

pub sample-requires-clause-still : goal.sample-requires-clause-still
sample-requires-clause-still c = still_first c.args.sim.now.job c.moment.result.0 c.args.sim.now.state c.requires.start

pub loop-number-init : goal.loop-number-init
loop-number-init c =
    let j = c.args.sim.now.job in
    let k = c.sample.new.sim.job in
    let w = c.args.window in
    let first = moment w 0 in
    let row = c.in_ok-sample.field-0 in
    let sampled = c.in_ok-sample.ensures in
    let none = c.new-rows.ensures.items in
    let items = c.in_ok-push.ensures.items in
    let stood = stood_of k j first c.moment.result.0 row (sym sampled.job) c.moment.ensures sampled.stood in
    let each = listed_more (λ i (r : List ℤ). StoodAt k (moment w i) r) [] 0 c.new-rows.result.items row (ap length none)
    (λ i h. absurd (omega (arith, h))) stood in
    record {
      job = refl;
      rows_count = ap length items ∙ ap (λ (rows : List (List ℤ)). length (rows ++ row ∷ [])) none;
      rows_each = λ i h. subst (λ (all : List (List ℤ)). StoodAt k (moment w i) (get_or all i [])) (sym items) (each i h);
      bands_count = ap length c.new-bands.ensures.items;
      bands_each = λ i h. absurd (omega (arith, h));
      still = still_of j k c.moment.result.0 first c.sample.new.sim.state.steps sampled.job (sym c.moment.ensures) sampled.still;
    }

pub look-requires-clause-still : goal.look-requires-clause-still
look-requires-clause-still c =
    let before = c.loop-number.invariant in
    still_of _ c.loop-number.sim.job (moment c.args.window c.loop-number.number) c.moment-from.result.0 c.loop-number.sim.state.steps
    before.job c.moment-from.ensures before.still

pub sample-requires-in-loop-number-clause-still : goal.sample-requires-in-loop-number-clause-still
sample-requires-in-loop-number-clause-still c =
    let looked = c.in_ok-look.ensures in
    still_of c.loop-number.sim.job c.look.new.sim.job c.moment-to.result.0 c.moment-to.result.0 c.look.new.sim.state.steps looked.job refl looked.still

pub loop-number-preserved : goal.loop-number-preserved
loop-number-preserved c =
    let j = c.sample.new.sim.job in
    let k = c.loop-number.sim.job in
    let w = c.args.window in
    let n = c.loop-number.number in
    let before = c.loop-number.invariant in
    let looked = c.in_ok-look.ensures in
    let sampled = c.in_ok-sample-2.ensures in
    let row = c.in_ok-sample-2.field-0 in
    let band = c.in_ok-look.field-0 in
    let rows = c.in_ok-push-3.ensures.items in
    let bands = c.in_ok-push-2.ensures.items in
    let next = moment w (n + 1) in
    let stood = stood_of j c.look.new.sim.job next c.moment-to.result.0 row (looked.job ∙ before.job) c.moment-to.ensures sampled.stood in
    let are = bands_of j k (moment w n) next c.moment-from.result.0 c.moment-to.result.0 band before.job c.moment-from.ensures
    c.moment-to.ensures looked.bands in
    let rows_each = listed_more (λ i (r : List ℤ). StoodAt j (moment w i) r) [] (n + 1) c.loop-number.rows.items row before.rows_count before.rows_each stood in
    let bands_each = listed_more (λ i (b : List Band). AreBands j (moment w i) (moment w (i + 1)) b) [] n c.loop-number.bands.items band
    before.bands_count before.bands_each are in
    record {
      job = sampled.job ∙ looked.job ∙ before.job;
      rows_count = ap length rows ∙ length-append c.loop-number.rows.items (row ∷ []) ∙ ap (λ (m : ℕ). m + 1) before.rows_count;
      rows_each = λ i h. subst (λ (all : List (List ℤ)). StoodAt j (moment w i) (get_or all i [])) (sym rows) (rows_each i h);
      bands_count = ap length bands ∙ length-append c.loop-number.bands.items (band ∷ []) ∙ ap (λ (m : ℕ). m + 1) before.bands_count;
      bands_each = λ i h. subst (λ (all : List (List Band)). AreBands j (moment w i) (moment w (i + 1)) (get_or all i [])) (sym bands) (bands_each i h);
      still = still_of c.look.new.sim.job j c.moment-to.result.0 next c.sample-in-loop-number.new.sim.state.steps
          (sym (looked.job ∙ before.job)) (sym c.moment-to.ensures) sampled.still;
    }
