use Rattle.std.proofs.Common.{inl, refl}
use Rattle.gw_summary.proofs.WholeStudies.{gap_told, study_answered}
use Rattle.gw_summary.proofs.telling.summary_of.Goals as goal

pub returns-in_ok-told-in-None-clause-summary : goal.returns-in_ok-told-in-None-clause-summary
returns-in_ok-told-in-None-clause-summary c =
    inl (refl, c.requires.only, (c.args.study.now, c.requires.study, c.in-None.ensures.complete, c.in_ok-told-in-None.ensures.rows))

pub returns-in_ok-told-in-None-clause-study : goal.returns-in_ok-told-in-None-clause-study
returns-in_ok-told-in-None-clause-study c =
    study_answered c.args.rows.now c.args.study.now c.args.request _ c.requires.study c.in_ok-told-in-None.ensures.alone

pub returns-in-Some-clause-study : goal.returns-in-Some-clause-study
returns-in-Some-clause-study c =
    gap_told c.refusal.result c.gap_of.result c.in-Some.gap c.args.rows.now c.args.study.now c.args.request c.in-Some.is c.requires.study
    c.gap_of.ensures.whole
