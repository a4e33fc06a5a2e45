use Rattle.std.specs.Prelude.{slice_set}
use Rattle.std.proofs.Common.{rules, ℕ, if◌then◌else◌, Bool, Err, None, suc, drop, ◌≡◌, ◌++◌, ◌∷◌, [], ◌||◌, ◌<◌, IfOk, length, true, Some, subst, ap, sym, ◌∙◌}
use Rattle.std.proofs.Math.Seq.{drop-cons}
use Rattle.gw_text_plus.specs.declared.model.PlusStatement.{If}
use Rattle.gw_object.specs.Limits.{most_locals}
use Rattle.gw_compile.specs.Numbers.{Numbers}
use Rattle.gw_compile.specs.Unknown.{Judges}
use Rattle.gw_compile.specs.Scope.{scope_of}
use Rattle.gw_object.specs.declared.code.Instruction.TheVariants.{Back, Jump}
use Rattle.gw_compile.specs.Statements.{target, turns, when, IsWritten, piece, sequence, if_with_else}
use Rattle.gw_compile.proofs.Writing.{if_is_written, while_is_written, if_else_is_written, block_is, if_with_else_is, judged_in_first}
use Rattle.gw_compile.proofs.Writing.{judged_in_second, judged_in_sequence, Leads}
use Rattle.gw_compile.proofs.statements.+statements.Goals.{put_statement-In-Some, put_statement-After-deref}
use Rattle.gw_compile.proofs.statements.+statements.Goals as goal

pub put_if-returns-clause-written : goal.put_if-returns-clause-written
put_if-returns-clause-written g t c =
    let n = g.N.Numbering.numbers c.args.names.now in
    if_is_written n (scope_of c.args.locals.now.items) c.args.test.now c.args.code.now.items c.args.first.now c.put_test.new.code.items
    c.put_statement.new.code.items c.lead_test_on.new.code.items (scope_of c.put_statement.new.locals.items)
    c.in_ok-put_statement.field-0 c.in_ok-at.at (search rules) (search rules) c.in_ok-put_statement.ensures.written c.lead_test_on.ensures

pub put_while-returns-clause-written : goal.put_while-returns-clause-written
put_while-returns-clause-written g t c =
    let n = g.N.Numbering.numbers c.args.names.now in
    let before = c.args.code.now.items in
    let round : c.put_turn.new.code.items ≡ c.put_statement.new.code.items
    ++ when c.in_ok-goes_on.goes_on (Back (record { target = target (length before); count = turns }) ∷ []) = search rules in
    while_is_written n (scope_of c.args.locals.now.items) c.args.test.now before c.args.body.now c.put_test.new.code.items
    c.put_statement.new.code.items c.put_turn.new.code.items c.lead_test_on.new.code.items (scope_of c.put_statement.new.locals.items)
    c.in_ok-goes_on.goes_on c.in_ok-at.at (search rules) (search rules) c.in_ok-goes_on.ensures.written round c.lead_test_on.ensures

-- the code of a block is that of its statements, one behind the other
whole_block : (g : _) (t : _) (c : put_statement-After-deref g t) (n : Numbers) (scope : _) (place : ℕ)
    → piece n scope place c.args.statement.now ≡ sequence n scope place true c.deref.result.now
whole_block g t c n scope place = ap (piece n scope place) c.in-Block.is ∙ block_is n scope place c.in-Block.statements
    ∙ ap (sequence n scope place true) (sym c.deref.ensures.value)

pub put_statement-returns-in-Block-clause-written : goal.put_statement-returns-in-Block-clause-written
put_statement-returns-in-Block-clause-written g t c =
    let whole = whole_block g t (goal.at.put_statement-returns-in-Block-clause-written g t c).After-deref
    (g.N.Numbering.numbers c.args.names.now) (scope_of c.args.locals.now.items) (length c.args.code.now.items) in
    subst (λ one. IfOk c.put_block.result
    (IsWritten one c.args.code.now.items c.put_block.new.code.items (scope_of c.put_block.new.locals.items))) (sym whole) c.put_block.ensures.written

pub put_statement-returns-in-Block-clause-fault : goal.put_statement-returns-in-Block-clause-fault
put_statement-returns-in-Block-clause-fault g t c =
    let whole = whole_block g t (goal.at.put_statement-returns-in-Block-clause-fault g t c).After-deref
    (g.N.Numbering.numbers c.args.names.now) (scope_of c.args.locals.now.items) (length c.args.code.now.items) in
    subst (λ one. Judges one.blame (most_locals < length one.scope) c.put_block.result) (sym whole) c.put_block.ensures.fault

pub put_block-returns-in_err-reached-clause-fault : goal.put_block-returns-in_err-reached-clause-fault
put_block-returns-in_err-reached-clause-fault g t c =
    let n = g.N.Numbering.numbers c.args.names.now in
    let whole = sequence n (scope_of c.args.locals.now.items) (length c.args.code.now.items) true c.args.statements.now in
    let own : Judges {A = Bool} whole.blame (most_locals < length whole.scope) (Err c.in_err-reached.field-0.0) =
    let i = c.loop-i.i in
    let s = c.index-statements-i.result in
    let here : drop i c.args.statements.now ≡ s ∷ drop (suc i) c.args.statements.now =
    drop-cons c.args.statements.now i s c.loop-i-test.true ∙ ap (λ x. x ∷ drop (suc i) c.args.statements.now) (sym c.index-statements-i.is) in
    let leads = subst (λ l. Leads whole (sequence n (scope_of c.loop-i.locals.items) (length c.loop-i.code.items) c.loop-i.reached l)
    c.args.code.now.items c.loop-i.code.items) here c.loop-i.invariant.leads in
    judged_in_sequence n whole c.loop-i.reached s (drop (suc i) c.args.statements.now) c.args.code.now.items c.loop-i.code.items
    (scope_of c.loop-i.locals.items) c.in_err-reached.field-0.0 leads c.in_err-reached.ensures.fault in
    search rules

-- where an IF has an ELSE, its code is that of both branches
whole_if : (g : _) (t : _) (c : put_statement-In-Some g t) (n : Numbers) (scope : _) (place : ℕ) → piece n scope place c.args.statement.now
    ≡ if_with_else n scope place c.in-If.test c.in-If.first.value c.in-Some.other.value
whole_if g t c n scope place =
    let same : c.args.statement.now ≡ If c.in-If.test c.in-If.first (Some c.in-Some.other) = search rules in
    ap (piece n scope place) same ∙ if_with_else_is n scope place c.in-If.test c.in-If.first c.in-Some.other

-- a fault of either branch is one of the whole
judged_in_whole : (g : _) (t : _) (c : put_statement-In-Some g t) (n : Numbers) (scope : _) (place : ℕ) (fault : _)
    → (let both = if_with_else n scope place c.in-If.test c.in-If.first.value c.in-Some.other.value in
    Judges {A = Bool} both.blame (most_locals < length both.scope) (Err fault))
    → (let one = piece n scope place c.args.statement.now in Judges {A = Bool} one.blame (most_locals < length one.scope) (Err fault))
judged_in_whole g t c n scope place fault judged =
    subst (λ one. Judges {A = Bool} one.blame (most_locals < length one.scope) (Err fault)) (sym (whole_if g t c n scope place)) judged

pub put_statement-returns-in_err-skips-in-Some-clause-fault : goal.put_statement-returns-in_err-skips-in-Some-clause-fault
put_statement-returns-in_err-skips-in-Some-clause-fault g t c =
    let n = g.N.Numbering.numbers c.args.names.now in
    let scope = scope_of c.args.locals.now.items in
    let before = c.args.code.now.items in
    let here = (goal.at.put_statement-returns-in_err-skips-in-Some-clause-fault g t c).In-Some in
    let own_first : c.deref-in-Some-2.result.now ≡ c.in-If.first.value = search rules in
    let fault = c.in_err-skips-in-Some.field-0.0 in
    let opened = c.put_test.new.code.items in
    let judged : Judges {A = Bool} (piece n scope (length opened) c.in-If.first.value).blame
    (most_locals < length (piece n scope (length opened) c.in-If.first.value).scope) (Err fault) =
    subst (λ s. Judges {A = Bool} (piece n scope (length opened) s).blame (most_locals < length (piece n scope (length opened) s).scope)
    (Err fault)) own_first c.in_err-skips-in-Some.ensures.fault in
    let own = judged_in_whole g t here n scope (length before) fault
    (judged_in_first n scope c.in-If.test before c.in-If.first.value c.in-Some.other.value (search rules) opened fault (search rules) judged) in
    search rules

pub put_statement-returns-in_err-goes_on-in-Some-clause-fault : goal.put_statement-returns-in_err-goes_on-in-Some-clause-fault
put_statement-returns-in_err-goes_on-in-Some-clause-fault g t c =
    let n = g.N.Numbering.numbers c.args.names.now in
    let scope = scope_of c.args.locals.now.items in
    let before = c.args.code.now.items in
    let test = c.in-If.test in
    let first = c.in-If.first in
    let other = c.in-Some.other in
    let here = (goal.at.put_statement-returns-in_err-goes_on-in-Some-clause-fault g t c).In-Some in
    let own_first : c.deref-in-Some-2.result.now ≡ c.in-If.first.value = search rules in
    let fault = c.in_err-goes_on-in-Some.field-0.0 in
    let opened = c.put_test.new.code.items in
    let after = c.put_statement.new.code.items in
    let first_scope = scope_of c.put_statement.new.locals.items in
    let skips = c.in_ok-skips-in-Some.skips in
    let led = c.lead_test_on.new.code.items in
    let written : IsWritten (piece n scope (length opened) first.value) opened after first_scope skips =
    subst (λ s. IsWritten (piece n scope (length opened) s) opened after first_scope skips) own_first c.in_ok-skips-in-Some.ensures.written in
    let own_other : c.deref-in-Some-3.result.now ≡ other.value = search rules in
    let nobody : (piece n scope (length opened) first.value).blame ≡ None =
    subst (λ s. (piece n scope (length opened) s).blame ≡ None) own_first c.in_ok-skips-in-Some.ensures.fault in
    let judged : Judges {A = Bool} (piece n first_scope (length led) other.value).blame
    (most_locals < length (piece n first_scope (length led) other.value).scope) (Err fault) =
    subst (λ s. Judges {A = Bool} (piece n first_scope (length led) s).blame
    (most_locals < length (piece n first_scope (length led) s).scope) (Err fault)) own_other c.in_err-goes_on-in-Some.ensures.fault in
    let own = judged_in_whole g t here n scope (length before) fault
    (judged_in_second n scope test before first.value other.value (search rules) opened after c.put_leap.new.code.items led first_scope
    skips c.in_ok-test_at-in-Some.test_at fault (search rules) written nobody (search rules) c.lead_test_on.ensures judged) in
    search rules

pub put_statement-returns-after-goes_on-clause-written : goal.put_statement-returns-after-goes_on-clause-written
put_statement-returns-after-goes_on-clause-written g t c =
    let n = g.N.Numbering.numbers c.args.names.now in
    let scope = scope_of c.args.locals.now.items in
    let before = c.args.code.now.items in
    let first = c.in-If.first.value in
    let other = c.in-Some.other.value in
    let here = (goal.at.put_statement-returns-after-goes_on-clause-written g t c).In-Some in
    let opened = c.put_test.new.code.items in
    let after = c.put_statement.new.code.items in
    let first_scope = scope_of c.put_statement.new.locals.items in
    let skips = c.in_ok-skips-in-Some.skips in
    let on = c.in_ok-goes_on-in-Some.goes_on in
    let led = c.lead_test_on.new.code.items in
    let test_at = c.in_ok-test_at-in-Some.test_at in
    let leap_at = c.in_ok-leap_at-in-Some.leap_at in
    let own_first : c.deref-in-Some-2.result.now ≡ c.in-If.first.value = search rules in
    let written : IsWritten (piece n scope (length opened) first) opened after first_scope skips =
    subst (λ s. IsWritten (piece n scope (length opened) s) opened after first_scope skips) own_first c.in_ok-skips-in-Some.ensures.written in
    let path : c.if-goes_on.result ≡ (on || skips) = search rules in
    let own_other : c.deref-in-Some-3.result.now ≡ other = search rules in
    let second_scope = scope_of c.put_statement-in-Some.new.locals.items in
    let after_second = c.put_statement-in-Some.new.code.items in
    let second : IsWritten (piece n first_scope (length led) other) led after_second second_scope on =
    subst (λ s. IsWritten (piece n first_scope (length led) s) led after_second second_scope on) own_other c.in_ok-goes_on-in-Some.ensures.written in
    let now_is : c.lead_leap_on.new.code.items
    ≡ (if skips then slice_set after_second leap_at (Jump (target (length after_second))) else after_second) = search rules in
    let all = if_else_is_written n scope c.in-If.test before first other opened after c.put_leap.new.code.items led after_second
    c.lead_leap_on.new.code.items first_scope second_scope skips on test_at leap_at (search rules) (search rules) written
    (search rules) (search rules) c.lead_test_on.ensures second now_is in
    subst (λ one. IsWritten one before c.lead_leap_on.new.code.items second_scope c.if-goes_on.result) (sym (whole_if g t here n scope (length before)))
    (subst (λ b. IsWritten (if_with_else n scope (length before) c.in-If.test first other) before c.lead_leap_on.new.code.items second_scope b) (sym path) all)
