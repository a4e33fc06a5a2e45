use Rattle.std.proofs.Common.{◌≡◌, ◌∙◌, ◌+◌, ◌-◌, ◌<◌, ◌≤◌, suc, drop, ap, sym, subst, arith}
use Rattle.gw_chains.specs.Buckets.{total}
use Rattle.gw_chains.specs.Spots.{place_at}
use Rattle.gw_chains.proofs.Spotting.{count-here, place_first, place_next, number_from, fewer_left}
use Rattle.gw_chains.proofs.spot.bucket_of.Goals as goal

pub loop-passed-init : goal.loop-passed-init
loop-passed-init c = record { place = place_first c.args.row.now.items c.args.place; left = c.requires }

pub index-requires : goal.index-requires
index-requires c = omega (arith, c.args.row.now.ok.0, number_from c.args.row.now.items c.loop-passed.bucket c.loop-passed.passed c.loop-passed.invariant.left)

pub loop-passed-preserved : goal.loop-passed-preserved
loop-passed-preserved c =
    let bs = c.args.row.now.items in
    let n = c.loop-passed.bucket in
    let p = c.loop-passed.passed in
    let b = c.index.result.now in
    let within = number_from bs n p c.loop-passed.invariant.left in
    let one : n + 1 ≡ suc n = omega arith in
    let later = c.index-in-loop-passed.result.now in
    let upto : later.count ≤ p =
    omega (
      arith,
      count-here bs n later within c.index-in-loop-passed.ensures,
      count-here bs n b within c.index.ensures,
      c.loop-passed-test.true,
    ) in record {
      place =
          ap (λ m. place_at bs m (p - later.count)) one
          ∙ place_next bs n p later.count within (sym (count-here bs n later within c.index-in-loop-passed.ensures)) upto
          ∙ c.loop-passed.invariant.place;
      left = subst (λ m. p - later.count < total (drop m bs)) (sym one)
          (fewer_left bs n p later within c.index-in-loop-passed.ensures upto c.loop-passed.invariant.left);
    }

pub returns-clause-inside : goal.returns-clause-inside
returns-clause-inside c =
    let bs = c.args.row.now.items in
    let within = number_from bs c.loop-passed.bucket c.loop-passed.passed c.loop-passed.invariant.left in
    omega (arith, count-here bs c.loop-passed.bucket c.index.result.now within c.index.ensures)
