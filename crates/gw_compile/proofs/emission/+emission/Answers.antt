use Rattle.std.proofs.Common.{rules, ◌≡◌, ◌++◌, None, Err, sym, ap, ◌∙◌, subst, append_assoc, OnOk, length}
use Rattle.std.specs.Prelude.{string_bytes}
use Rattle.std.specs.List.{flat_map}
use Rattle.gw_compile.specs.Code.{call_code, expression_code}
use Rattle.gw_compile.specs.Scope.{scope_of}
use Rattle.gw_compile.specs.Unknown.{Judges, if_misfit, first_of, first_blame, first_in}
use Rattle.gw_compile.proofs.Blaming.{judged_first, judged_second}
use Rattle.gw_compile.proofs.Rows.{code_of_call, blame_in_call}
use Rattle.gw_compile.proofs.emission.+emission.Goals as goal

pub emit-returns-in-Ok-clause-code : goal.emit-returns-in-Ok-clause-code
emit-returns-in-Ok-clause-code g t c =
    let n = g.N.Numbering.numbers c.args.names.now in
    let scope = scope_of c.args.locals.now in
    let before = c.args.code.now.items in
    let callee = n.procedure (string_bytes c.in-Call.name) in
    let of_list = ap (flat_map (expression_code n scope)) c.deref-in-Call.ensures.value in
    let whole = ap (expression_code n scope) c.in-Call.is ∙ code_of_call n scope c.in-Call.name c.in-Call.arguments in
    let same : c.emit_all.new.code.items ++ call_code c.procedure.result ≡ before ++ expression_code n scope c.args.expression.now =
    ap (λ x. c.emit_all.new.code.items ++ call_code x) c.procedure.ensures
    ∙ ap (λ l. l ++ call_code callee) c.in-Ok.ensures.code
    ∙ append_assoc before (flat_map (expression_code n scope) c.deref-in-Call.result.now) (call_code callee)
    ∙ ap (λ l. before ++ (l ++ call_code callee)) of_list
    ∙ ap (λ l. before ++ l) (sym whole) in
    subst (λ l. OnOk c.put_call.result (c.put_call.new.code.items ≡ l)) same c.put_call.ensures.code

pub emit-returns-in-Ok-clause-fault : goal.emit-returns-in-Ok-clause-fault
emit-returns-in-Ok-clause-fault g t c =
    let n = g.N.Numbering.numbers c.args.names.now in
    let scope = scope_of c.args.locals.now in
    let call = c.args.expression.now in
    let callee = n.procedure (string_bytes c.in-Call.name) in
    let many : c.len.result ≡ length c.in-Call.arguments.items = search rules in
    let first = first_in n scope c.in-Call.arguments.items in
    let none : first ≡ None = sym (ap (first_in n scope) c.deref-in-Call.ensures.value) ∙ c.in-Ok.ensures.fault in
    let misfit : if_misfit c.procedure.result c.len.result call ≡ if_misfit callee (length c.in-Call.arguments.items) call =
    ap (λ x. if_misfit x c.len.result call) c.procedure.ensures ∙ ap (λ k. if_misfit callee k call) many in
    let whole : first_blame n scope call ≡ first_of first (if_misfit callee (length c.in-Call.arguments.items) call) =
    ap (first_blame n scope) c.in-Call.is ∙ blame_in_call n scope c.in-Call.name c.in-Call.arguments
    ∙ ap (λ e. first_of first (if_misfit callee (length c.in-Call.arguments.items) e)) (sym c.in-Call.is) in
    let own = subst (λ b. Judges b ⊥ c.put_call.result) misfit c.put_call.ensures.fault in
    subst (λ b. Judges b ⊥ c.put_call.result) (sym whole) (judged_second first _ ⊥ c.put_call.result none own)

pub emit-returns-in-Err-clause-fault : goal.emit-returns-in-Err-clause-fault
emit-returns-in-Err-clause-fault g t c =
    let n = g.N.Numbering.numbers c.args.names.now in
    let scope = scope_of c.args.locals.now in
    let first = first_in n scope c.in-Call.arguments.items in
    let whole = ap (first_blame n scope) c.in-Call.is ∙ blame_in_call n scope c.in-Call.name c.in-Call.arguments in
    let own = subst (λ b. Judges {A = Unit {0}} b ⊥ (Err c.in-Err.fault)) (ap (first_in n scope) c.deref-in-Call.ensures.value) c.in-Err.ensures.fault in
    subst (λ b. Judges {A = Unit {0}} b ⊥ (Err c.in-Err.fault)) (sym whole) (judged_first (Unit {0}) (Unit {0}) first _ ⊥ c.in-Err.fault own)
