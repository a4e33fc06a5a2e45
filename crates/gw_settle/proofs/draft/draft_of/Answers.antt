use Rattle.std.proofs.Common.{rules, ◌≡◌, length, replicate, true, false, refl, sym, ap, subst, ◌∙◌}
use Rattle.std.proofs.Math.ListN.{length-replicate}
use Rattle.gw_settle.specs.declared.passing.Latest.{Latest}
use Rattle.gw_settle.specs.declared.table.Change.TheVariants.{Same}
use Rattle.gw_settle.specs.Drafts.{rows_held}
use Rattle.gw_settle.specs.Marks.{MarksSuffice}
use Rattle.gw_settle.proofs.Marking.{suffice_start}
use Rattle.gw_settle.proofs.Sharing.{no_versions_are}
use Rattle.gw_settle.proofs.draft.draft_of.Goals as goal

pub returns-clause-noted : goal.returns-clause-noted
returns-clause-noted c =
    let n = length c.args.parts.now.blocks in
    let all : c.in_ok-marks.marks.items ≡ replicate n true = search rules in
    let none : c.in_ok-versions.versions.items ≡ replicate n 0 = search rules in
    let none_found : Latest = record { version = 0; parameter = 0; like = record { version = 0; change = Same; alone = false } } in
    record {
      marks = subst (λ marks. MarksSuffice c.args.parts.now marks (rows_held c.args.rows)) (sym all) (suffice_start c.args.parts.now (rows_held c.args.rows));
      versions = no_versions_are none_found n c.in_ok-versions.versions.items c.args.rows.blocks.items refl none
          (ap length none ∙ length-replicate n 0 ∙ sym c.requires);
    }
