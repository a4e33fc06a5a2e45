use Rattle.std.specs.Str.{bytes_eq}
use Rattle.gw_names.specs.Known.{found_in}
use Rattle.gw_names.specs.Places.{block_of, declared_procedure, procedure_of, declared_equ, equ_of, equ_number_of}
use Rattle.gw_names.proofs.Declaring.{labels_step, places_step, numbers_step}
use Rattle.gw_names.proofs.places.places_in.Goals as goal

pub loop-i-preserved : goal.loop-i-preserved
loop-i-preserved c =
    let ss = c.args.statements.now in
    let i = c.loop-i.i in
    let s = c.index-statements-i.result in
    let more = c.loop-i-test.true in
    let there = c.index-statements-i.is in
    let before = c.loop-i.places in
    let after = c.add.new.places in
    let adds = c.in_ok-blocks.ensures in
    let so_far = c.loop-i.invariant in
    record {
      blocks = λ label. labels_step ss i c.loop-i.blocks c.in_ok-blocks.blocks s label (found_in before.blocks label)
          (found_in after.blocks label) (block_of ss label) more there adds.counted (adds.blocks label) (so_far.blocks label);
      procedures = λ name. places_step declared_procedure (bytes_eq name) ss i s (found_in before.procedures name)
          (found_in after.procedures name) (procedure_of ss name) more there (adds.procedures name) (so_far.procedures name);
      equs = λ name. places_step declared_equ (bytes_eq name) ss i s (found_in before.equs name) (found_in after.equs name)
          (equ_of ss name) more there (adds.equs name) (so_far.equs name);
      numbers = λ name. numbers_step (found_in before.equ_numbers) (found_in after.equ_numbers) ss i s name (equ_number_of ss name) more
          there adds.numbers (so_far.numbers name);
    }
