-- In an object that passes, the operands of statements that are expressions are computed by their procedures.
use Rattle.std.proofs.Common.{◌≡◌, ◌≤◌, ◌+◌, ℕ, ℤ, suc, List, [], ◌∷◌, Option, Some, None, Bool, true, false, slice_get, take, Ok, String, Global}
use Rattle.std.proofs.Common.{arith, refl, sym, ap, subst, ◌∙◌}
use Rattle.std.specs.Prelude.{pos, option_map, option_and_then, string_bytes, ◌==◌, ◌&&◌, nat_le}
use Rattle.std.proofs.lemmas.Option.{slice_get_within}
use Rattle.std.proofs.lemmas.Bool.Decides.{nat_tests}
use Rattle.gw_object.specs.declared.parts.Parts.{Parts}
use Rattle.gw_object.specs.declared.parts.Function.{Function}
use Rattle.gw_object.specs.declared.parts.Kind.{Kind}
use Rattle.gw_object.specs.declared.parts.Kind.TheVariants as kinds
use Rattle.gw_object.specs.declared.parts.Point.{Point}
use Rattle.gw_object.specs.declared.parts.Table.{Table}
use Rattle.gw_object.specs.declared.blocks.Numbered.{Numbered}
use Rattle.gw_object.specs.declared.blocks.Operand.{Operand}
use Rattle.gw_object.specs.declared.blocks.Operand.TheVariants as parts
use Rattle.gw_text_statements.specs.declared.model.Operand.{Operand as Text}
use Rattle.gw_text_statements.specs.declared.model.Operand.TheVariants as texts
use Rattle.gw_text_tokens.specs.declared.words.Word.TheVariants as words
use Rattle.gw_object_records.specs.Entities.{kind_of, points_in}
use Rattle.gw_object_records.specs.Operands.{whole_in, number_in as number_in_text}
use Rattle.gw_object_records.specs.Records.{of_two, of_three}
use Rattle.gw_pieces.specs.Numbers.{with_source}
use Rattle.gw_object.specs.Grammar.{HasSpelling}
use Rattle.gw_object.specs.declared.code.Procedure.{Procedure}
use Rattle.gw_rules.specs.Pass.{KindsPass}
use Rattle.gw_rules.specs.Code.{procedure_at, arguments_of}
use Rattle.gw_rules.specs.Environment.{Environment}
use Rattle.gw_rules.specs.Outcome.{outcome_of}
use Rattle.gw_rules.specs.PlusChecks.{PlusPasses}
use Rattle.gw_rules.proofs.PlusTheorems.{code_holds}
use Rattle.gw_text_expressions.specs.declared.model.Expression.{Expression, Row_of-Expression, end_of-Expression, more_of-Expression}
use Rattle.gw_text_expressions.specs.declared.model.Expression.TheVariants.{Whole, Name, Sna, Parentheses', Call', Unary', Binary'}
use Rattle.gw_text_plus.specs.declared.model.Procedure.{Procedure as TextProcedure}
use Rattle.gw_text_tokens.specs.declared.words.Word.{Word}
use Rattle.gw_text.specs.declared.model.Body.{Body}
use Rattle.gw_text.specs.declared.model.Body.TheVariants as bodies
use Rattle.gw_text.specs.declared.model.Statement.{Statement}
use Rattle.gw_compile.specs.declared.numbering.Callee.{Callee}
use Rattle.gw_compile.specs.declared.numbering.Equ.TheVariants as equs
use Rattle.gw_compile.specs.Numbers.{Numbers}
use Rattle.gw_compile.specs.Keeps.{SpeakOf, IsCompiled, IsCompiledProcedure}
use Rattle.gw_compile.specs.Value.{outcome_with, with_value, value_of, values_of, call_value}
use Rattle.gw_compile.specs.Unknown.{count}
use Rattle.gw_pieces.specs.declared.origins.Origin.{Origin}
use Rattle.gw_pieces.specs.Origins.{expression_in, expression_at, whole_call, is_variable, same_origin, place_from, place_in, in_16_bits, own_number}
use Rattle.gw_pieces.specs.Origins.{if_without_arguments, number_called, number_by, number_in, number_for, numbers_for}
use Rattle.gw_pieces.specs.Sources.{IsFromExpression, IsProcedureOf, IsProcedureOfBody}
use Rattle.gw_pieces.specs.Naming.{number_at, IsCallee, IsEquOf}
use Rattle.gw_pieces.proofs.Meanings.{callee_is, equ_is}
use Rattle.gw_pieces.specs.Pieces.{HasPieces, Computes, OperandsCompute, IsEvaluated, ByProcedure, DeclarationsCompute, EquationsCompute, AllCompute}
use Rattle.gw_pieces.specs.Pieces.{AllComputeWherePassed}

-- one thing isn't two
same : {A : Type 0} (o : Option A) (x y : A) → o ≡ Some x → o ≡ Some y → x ≡ y
same o x y h k = let e : Some x ≡ Some y = sym h ∙ k in cc

cases : {P : Type 0} (b : Bool) → (b ≡ true → P) → (b ≡ false → P) → P
cases true f g = f refl
cases false f g = g refl

-- a number that 16 bits hold is itself
fits_16 : (place q : ℕ) → in_16_bits place ≡ Some q → place ≡ q
fits_16 place q h = cases (nat_le place 65535)
    (λ yes. let e = rw yes at h in cc)
    (λ no. let e = rw no at h in absurd cc)

both : (a b : Bool) → (a && b) ≡ true → (a ≡ true) × (b ≡ true)
both true true h = (refl, refl)
both true false h = absurd cc
both false b h = absurd cc

-- an origin
abbrev origin_at : ℕ → ℕ → Origin
origin_at statement operand = record { statement = statement; operand = operand }

-- the same origin
same_is : (o origin : Origin) → same_origin o origin ≡ true → o ≡ origin
same_is o origin h = made (grind (arith, nat_tests, (both (o.statement == origin.statement) (o.operand == origin.operand) h).0))
    (grind (arith, nat_tests, (both (o.statement == origin.statement) (o.operand == origin.operand) h).1))
  where
    made : {a b c d : ℕ} → a ≡ c → b ≡ d → origin_at a b ≡ origin_at c d
    made s k = rw (s, k) refl

-- the place that is found has the origin that is looked for
found : (k q : ℕ) (origins : List Origin) (origin : Origin) → place_from k origins origin ≡ Some q → (j : ℕ) × (q ≡ k + j) × (slice_get origins j ≡ Some origin)
found k q [] origin h = absurd cc
found k q (o ∷ origins) origin h = cases (same_origin o origin)
    (λ yes.
    let e = rw yes at h in
    let here : k ≡ q = cc in
    (0, omega (arith, here), ap Some (same_is o origin yes)))
    (λ no.
    let e = rw no at h in
    let later = found (k + 1) q origins origin e in
    (suc later.0, omega (arith, later.1), later.2))

module _ (n : Numbers) (order : List Origin) (ss : List Statement) (p : Parts) (fits : HasSpelling p) (kinds_pass : KindsPass p)
    (plus : PlusPasses p) (pieces : HasPieces n order ss p) where
  -- a procedure that comes from the origin at a place
  record Comes (place : ℕ) (s : Statement) : Type 0 where
    procedure : Procedure
    there : procedure_at p place ≡ Some procedure
    origin : Origin
    at : slice_get order place ≡ Some origin
    statement : slice_get ss origin.statement ≡ Some s
    before : List Procedure
    compiled : IsProcedureOf n before s origin.operand procedure

  comes : (place : ℕ) (origin : Origin) (s : Statement) → slice_get order place ≡ Some origin → slice_get ss origin.statement ≡ Some s → Comes place s
  comes place origin s at statement =
      let c = pieces.code.compiled.each place origin at in
      let is = same (slice_get ss origin.statement) c.2.statement s c.2.there statement in
      record {
        procedure = c.0;
        there = c.1;
        origin = origin;
        at = at;
        statement = statement;
        before = take place p.procedures;
        compiled =
            subst (λ x. IsProcedureOf n (take place p.procedures) x origin.operand c.0) is c.2.compiled;
      }

  -- there are at most as many as 16 bits number
  within : (place : ℕ) (origin : Origin) → slice_get order place ≡ Some origin → number_at place ≡ place
  within place origin at =
      let below = slice_get_within order place origin at in
      omega (arith, below, pieces.code.compiled.all, fits.limits.procedures)

  -- what is compiled from a PROCEDURE has as many arguments as it has
  by_body : (b : Body) (before : List Procedure) (s : Statement) (k : ℕ) (pr : Procedure) (t : TextProcedure) → b ≡ bodies.Procedure t
      → IsProcedureOfBody n before b s k pr → IsCompiledProcedure n before t pr
  by_body (bodies.Procedure x) before s k pr t is compiled = let e : x ≡ t = cc in subst (λ y. IsCompiledProcedure n before y pr) e compiled
  by_body bodies.Nothing before s k pr t is compiled = absurd cc
  by_body (bodies.Points points) before s k pr t is compiled = absurd cc

  -- and from nothing else an expression
  by_nothing : (b : Body) (before : List Procedure) (s : Statement) (k : ℕ) (pr : Procedure) → b ≡ bodies.Nothing
      → IsProcedureOfBody n before b s k pr → IsFromExpression n before s k pr
  by_nothing (bodies.Procedure x) before s k pr is compiled = absurd cc
  by_nothing bodies.Nothing before s k pr is compiled = compiled
  by_nothing (bodies.Points points) before s k pr is compiled = absurd cc

  -- the arguments of a procedure are few
  few : (q : ℕ) (pr : Procedure) → procedure_at p q ≡ Some pr → pr.arguments ≤ 32
  few q pr there = let f = ((code_holds p fits kinds_pass).procedures q pr there).0 in omega (arith, f.arguments, f.locals)

  arguments_are : (q : ℕ) (pr : Procedure) → procedure_at p q ≡ Some pr → arguments_of (procedure_at p q) ≡ pr.arguments
  arguments_are q pr there = rw there refl

  callee_speaks : (name : List ℕ) (c : Callee) → IsCallee ss order name c → c.arguments ≡ arguments_of (procedure_at p c.number)
  callee_speaks name c is =
      let here = comes is.place is.stands.origin is.statement is.stands.there is.stands.statement in
      let number : c.number ≡ is.place = is.number ∙ within is.place is.stands.origin is.stands.there in
      let compiled = by_body is.statement.body here.before is.statement here.origin.operand here.procedure is.procedure is.body here.compiled in
      let most = few is.place here.procedure here.there in
      let count : c.arguments ≡ here.procedure.arguments = omega (arith, is.arguments, compiled.arguments, most) in
      count ∙ sym (ap (λ q. arguments_of (procedure_at p q)) number ∙ arguments_are is.place here.procedure here.there)

  equ_speaks : (name : List ℕ) (q : ℕ) → IsEquOf ss order name q → 0 ≡ arguments_of (procedure_at p q)
  equ_speaks name q is =
      let here = comes is.place is.stands.origin is.statement is.stands.there is.stands.statement in
      let number : q ≡ is.place = is.number ∙ within is.place is.stands.origin is.stands.there in
      let e = by_nothing is.statement.body here.before is.statement here.origin.operand here.procedure is.body here.compiled in
      sym (ap (λ x. arguments_of (procedure_at p x)) number ∙ arguments_are is.place here.procedure here.there ∙ e.2.arguments)

  pub speaks : SpeakOf n p
  speaks = record {
    calls = λ name c h. callee_speaks name c (callee_is ss order name c (sym (pieces.names.callees name) ∙ h));
    equs = λ name q h. equ_speaks name q (equ_is ss order name (equs.Procedure q) (sym (pieces.names.equs name) ∙ h));
  }

  -- what is compiled from an expression computes it
  computed : (q : ℕ) (before : List Procedure) (e : Expression) (pr : Procedure) → procedure_at p q ≡ Some pr → IsCompiled n before e pr → Computes n p e q
  computed q before e pr there compiled =
      record { procedure = pr; there = there; value = λ env set. compiled.value p env q fits kinds_pass plus speaks there set }

  -- an operand with a procedure of its own
  own : (i : ℕ) (s : Statement) (k : ℕ) (e : Expression) (q : ℕ) → slice_get ss i ≡ Some s
      → ((b : Body) × (s.body ≡ b) × ((pr : TextProcedure) → b ≡ bodies.Procedure pr → ⊥)) → expression_at s k ≡ Some e
      → own_number order i k ≡ Some q → Computes n p e q
  own i s k e q at body there number = of_place (place_in order origin) refl number
    where
      origin : Origin
      origin = record { statement = i; operand = k }

      of_compiled : (b : Body) (before : List Procedure) (pr : Procedure) → ((x : TextProcedure) → b ≡ bodies.Procedure x → ⊥)
          → procedure_at p q ≡ Some pr → IsProcedureOfBody n before b s k pr → Computes n p e q
      of_compiled (bodies.Procedure x) before pr none is compiled = absurd (none x refl)
      of_compiled bodies.Nothing before pr none is compiled = let one = same (expression_at s k) compiled.0 e compiled.1 there in
          computed q before e pr is (subst (λ x. IsCompiled n before x pr) one compiled.2)
      of_compiled (bodies.Points points) before pr none is compiled = let one = same (expression_at s k) compiled.0 e compiled.1 there in
          computed q before e pr is (subst (λ x. IsCompiled n before x pr) one compiled.2)

      at_place : (j : ℕ) → j ≡ q → slice_get order j ≡ Some origin → Computes n p e q
      at_place j is here =
          let c = comes q origin s (subst (λ x. slice_get order x ≡ Some origin) is here) at in
          let o = same (slice_get order q) c.origin origin c.at (subst (λ x. slice_get order x ≡ Some origin) is here) in
          of_compiled s.body c.before c.procedure (λ x h. body.2 x (sym body.1 ∙ h)) c.there
          (subst (λ (y : Origin). IsProcedureOf n c.before s y.operand c.procedure) o c.compiled)

      of_place : (place : Option ℕ) → place_in order origin ≡ place → option_and_then in_16_bits (place_in order origin) ≡ Some q → Computes n p e q
      of_place None is h = let e2 = rw is at h in absurd cc
      of_place (Some j) is h =
          let e2 : in_16_bits j ≡ Some q = rw is at h in
          let f = found 0 j order origin is in
          at_place f.0 (omega (arith, f.1, fits_16 j q e2)) f.2

  -- the values of no arguments
  no_values : {m : _} (env : Environment) (es : Row_of-Expression m) → count es ≡ 0 → values_of n [] p env [] es ≡ Some (Ok [])
  no_values env end_of-Expression none = refl
  no_values env (more_of-Expression e es) none = absurd cc

  -- what a call of a procedure comes to
  answer : (env : Environment) (c : Callee) (name : List ℕ) (q : ℕ) → n.procedure name ≡ Some c → c.number ≡ q → outcome_of p env q
      ≡ call_value p env (n.procedure name) []
  unfolding outcome_of outcome_with
  answer env c name q there number = sym (ap (λ x. call_value p env x []) there ∙ ap (λ x. outcome_with p env x []) number)

  -- and so what a whole call does
  called_whole : {m : _} (env : Environment) (c : Callee) (name : String Global) (es : Row_of-Expression m) (q : ℕ) → count es ≡ 0
      → n.procedure (string_bytes name) ≡ Some c → c.number ≡ q
      → outcome_of p env q ≡ with_value (values_of n [] p env [] es) (λ vs. call_value p env (n.procedure (string_bytes name)) vs)
  called_whole env c name es q none there number = answer env c (string_bytes name) q there number
      ∙ sym (ap (λ came. with_value came (λ vs. call_value p env (n.procedure (string_bytes name)) vs)) (no_values env es none))

  -- the procedure of a name computes a call of it without arguments
  of_number : (c : Callee) (name : List ℕ) (e : Expression) (q : ℕ) → n.procedure name ≡ Some c → if_without_arguments c ≡ Some q
      → ((env : Environment) → c.number ≡ q → outcome_of p env q ≡ value_of n [] p env [] e) → Computes n p e q
  of_number c name e q there h comes_to = cases (c.arguments == 0)
      (λ none.
      let number : c.number ≡ q = let x = rw none at h in cc in
      let is = callee_is ss order name c (sym (pieces.names.callees name) ∙ there) in
      let place : c.number ≡ is.place = is.number ∙ within is.place is.stands.origin is.stands.there in
      let here = comes is.place is.stands.origin is.statement is.stands.there is.stands.statement in
      record {
        procedure = here.procedure;
        there = subst (λ x. procedure_at p x ≡ Some here.procedure) (sym place ∙ number) here.there;
        value = λ env set. comes_to env number;
      })
      (λ some. let x = rw some at h in absurd cc)

  of_callee : (o : Option Callee) (name : List ℕ) (e : Expression) (q : ℕ) → n.procedure name ≡ o
      → option_and_then if_without_arguments (n.procedure name) ≡ Some q
      → ((c : Callee) → n.procedure name ≡ Some c → (env : Environment) → c.number ≡ q → outcome_of p env q ≡ value_of n [] p env [] e) → Computes n p e q
  of_callee None name e q there h comes_to = let x = rw there at h in absurd cc
  of_callee (Some c) name e q there h comes_to = of_number c name e q there (rw there at h) (comes_to c there)

  -- a whole call of a PROCEDURE without arguments
  whole : (e : Expression) (called : List ℕ) (q : ℕ) → whole_call e ≡ Some called → number_called n called ≡ Some q → Computes n p e q
  whole (Call' name shape es) called q is number = cases (count es == 0)
      (λ yes.
      let none : count es ≡ 0 = grind (arith, nat_tests, yes) in
      let bytes : string_bytes name ≡ called = let x = rw yes at is in cc in
      let own : number_called n (string_bytes name) ≡ Some q = subst (λ x. number_called n x ≡ Some q) (sym bytes) number in
      of_callee (n.procedure (string_bytes name)) (string_bytes name) (Call' name shape es) q refl own
      (λ c there env same_number. called_whole env c name es q none there same_number))
      (λ no. let x = rw no at is in absurd cc)
  whole (Whole z) called q is number = absurd cc
  whole (Name name) called q is number = absurd cc
  whole (Sna sna) called q is number = absurd cc
  whole (Parentheses' x e) called q is number = absurd cc
  whole (Unary' operator x a) called q is number = absurd cc
  whole (Binary' operator x a y b) called q is number = absurd cc

  -- an operand that is an expression, by what number it has
  by_number : (i : ℕ) (s : Statement) (k : ℕ) (e : Expression) (q : ℕ) → slice_get ss i ≡ Some s
      → ((b : Body) × (s.body ≡ b) × ((pr : TextProcedure) → b ≡ bodies.Procedure pr → ⊥)) → expression_at s k ≡ Some e
      → (v : Bool) (called : Option (List ℕ)) → whole_call e ≡ called → number_by n (own_number order i k) v called ≡ Some q → Computes n p e q
  by_number i s k e q at body there true called is h = own i s k e q at body there h
  by_number i s k e q at body there false None is h = own i s k e q at body there h
  by_number i s k e q at body there false (Some name) is h = whole e name q is h

  by_statement : (i : ℕ) (s : Statement) (k : ℕ) (e : Expression) (q : ℕ) → slice_get ss i ≡ Some s → expression_at s k ≡ Some e
      → (b : Body) → s.body ≡ b → number_in n (own_number order i k) s.word b (Some e) ≡ Some q → Computes n p e q
  by_statement i s k e q at there (bodies.Procedure pr) is h = absurd cc
  by_statement i s k e q at there bodies.Nothing is h = by_number i s k e q at (bodies.Nothing, is, λ x y. cc) there (is_variable s.word) (whole_call e) refl h
  by_statement i s k e q at there (bodies.Points points) is h =
      by_number i s k e q at (bodies.Points points, is, λ x y. cc) there (is_variable s.word) (whole_call e) refl h

  pub operands : OperandsCompute n order ss p
  operands i s k e q at there number = by_statement i s k e q at there s.body refl (rw there at number)

  -- DECLARATIONS

  made_by : (make : ℕ → Kind) (o : Option ℕ) (kind : Kind) → option_map make o ≡ Some kind → (q : ℕ) × (o ≡ Some q) × (kind ≡ make q)
  made_by make None kind h = absurd cc
  made_by make (Some q) kind h = let e : make q ≡ kind = cc in (q, refl, sym e)

  module _ (i : ℕ) (s : Statement) (e : Expression) (kind : Kind) (source : Numbered → Operand) (at : slice_get ss i ≡ Some s)
      (there : expression_at s 0 ≡ Some e) where
    abbrev own_of : Option ℕ
    own_of = number_for n order s i 0

    abbrev makes : Word → List Text → Body → Option Kind
    makes word l b = kind_of (with_source n source) (numbers_for (with_source n source) order s i) word l b

    evaluated : (word : Word) (q : ℕ) → own_of ≡ Some q → ByProcedure word q kind → IsEvaluated n p e (ByProcedure word) kind
    evaluated word q own by = record { number = q; kind_is = by; computes = operands i s 0 e q at there own }

    as_variable : (l : List Text) (b : Body) → makes words.Variable l b ≡ Some kind → option_map kinds.Variable own_of ≡ Some kind
    as_variable [] b h = absurd cc
    as_variable (o ∷ []) b h = h
    as_variable (o ∷ x ∷ l) b h = absurd cc

    as_boolean : (l : List Text) (b : Body) → makes words.BVariable l b ≡ Some kind → option_map kinds.BooleanVariable own_of ≡ Some kind
    as_boolean [] b h = absurd cc
    as_boolean (o ∷ []) b h = h
    as_boolean (o ∷ x ∷ l) b h = absurd cc

    table_with : (q : ℕ) (l : Option ℤ) (w c : Option ℕ)
        → of_three (λ l w c. kinds.Table (record { argument = parts.Procedure q; limit = l; width = w; classes = c })) l w c ≡ Some kind
        → ByProcedure words.Table q kind
    table_with q (Some l) (Some w) (Some c) h =
        let t : Table = record { argument = parts.Procedure q; limit = l; width = w; classes = c } in
        let is : kinds.Table t ≡ kind = cc in
        (t, sym is, refl)
    table_with q None w c h = absurd cc
    table_with q (Some l) None c h = absurd cc
    table_with q (Some l) (Some w) None h = absurd cc

    table_by : (limit width classes : Text) (o : Option ℕ)
        → option_and_then (λ a. of_three (λ l w c. kinds.Table (record { argument = a; limit = l; width = w; classes = c }))
        (whole_in (pos 0) limit) (number_in_text 4294967295 width) (number_in_text 65535 classes)) (option_map parts.Procedure o) ≡ Some kind
        → (q : ℕ) × (o ≡ Some q) × ByProcedure words.Table q kind
    table_by limit width classes None h = absurd cc
    table_by limit width classes (Some q) h =
        (q, refl, table_with q (whole_in (pos 0) limit) (number_in_text 4294967295 width) (number_in_text 65535 classes) h)

    as_table : (l : List Text) (b : Body) → expression_in (slice_get l 0) ≡ Some e → makes words.Table l b ≡ Some kind → (q : ℕ)
        × (own_of ≡ Some q) × ByProcedure words.Table q kind
    as_table [] b is h = absurd cc
    as_table (texts.Missing ∷ l) b is h = absurd cc
    as_table (texts.Name name ∷ l) b is h = absurd cc
    as_table (texts.Whole z ∷ l) b is h = absurd cc
    as_table (texts.Fraction t ∷ l) b is h = absurd cc
    as_table (texts.Both ∷ l) b is h = absurd cc
    as_table (texts.Sna sna ∷ l) b is h = absurd cc
    as_table (texts.Expression x ∷ []) b is h = absurd cc
    as_table (texts.Expression x ∷ limit ∷ []) b is h = absurd cc
    as_table (texts.Expression x ∷ limit ∷ width ∷ []) b is h = absurd cc
    as_table (texts.Expression x ∷ limit ∷ width ∷ classes ∷ []) b is h = table_by limit width classes own_of h
    as_table (texts.Expression x ∷ limit ∷ width ∷ classes ∷ y ∷ l) b is h = absurd cc

    function_by : (o : Option ℕ) (points : Option (List Point))
        → of_two (λ a ps. kinds.Function (record { argument = a; points = ps })) (option_map parts.Procedure o) points ≡ Some kind
        → (q : ℕ) × (o ≡ Some q) × ByProcedure words.Function q kind
    function_by None points h = absurd cc
    function_by (Some q) None h = absurd cc
    function_by (Some q) (Some ps) h =
        let f : Function = record { argument = parts.Procedure q; points = ps } in
        let is : kinds.Function f ≡ kind = cc in
        (q, refl, (f, sym is, refl))

    as_function : (l : List Text) (b : Body) → expression_in (slice_get l 0) ≡ Some e → makes words.Function l b ≡ Some kind → (q : ℕ)
        × (own_of ≡ Some q) × ByProcedure words.Function q kind
    as_function [] b is h = absurd cc
    as_function (texts.Missing ∷ l) b is h = absurd cc
    as_function (texts.Name name ∷ l) b is h = absurd cc
    as_function (texts.Whole z ∷ l) b is h = absurd cc
    as_function (texts.Fraction t ∷ l) b is h = absurd cc
    as_function (texts.Both ∷ l) b is h = absurd cc
    as_function (texts.Sna sna ∷ l) b is h = absurd cc
    as_function (texts.Expression x ∷ []) b is h = function_by own_of (points_in b) h
    as_function (texts.Expression x ∷ y ∷ l) b is h = absurd cc

  variables : DeclarationsCompute words.Variable n order ss p
  variables i s e kind source at word there h =
      let m = made_by kinds.Variable (number_for n order s i 0) kind
      (as_variable i s e kind source at there s.operands.items s.body
      (subst (λ w. makes i s e kind source at there w s.operands.items s.body ≡ Some kind) word h)) in
      evaluated i s e kind source at there words.Variable m.0 m.1 m.2

  boolean_variables : DeclarationsCompute words.BVariable n order ss p
  boolean_variables i s e kind source at word there h =
      let m = made_by kinds.BooleanVariable (number_for n order s i 0) kind
      (as_boolean i s e kind source at there s.operands.items s.body
      (subst (λ w. makes i s e kind source at there w s.operands.items s.body ≡ Some kind) word h)) in
      evaluated i s e kind source at there words.BVariable m.0 m.1 m.2

  tables : DeclarationsCompute words.Table n order ss p
  tables i s e kind source at word there h =
      let m = as_table i s e kind source at there s.operands.items s.body there
      (subst (λ w. makes i s e kind source at there w s.operands.items s.body ≡ Some kind) word h) in
      evaluated i s e kind source at there words.Table m.0 m.1 m.2

  functions : DeclarationsCompute words.Function n order ss p
  functions i s e kind source at word there h =
      let m = as_function i s e kind source at there s.operands.items s.body there
      (subst (λ w. makes i s e kind source at there w s.operands.items s.body ≡ Some kind) word h) in
      evaluated i s e kind source at there words.Function m.0 m.1 m.2

  -- EQUS

  equations : EquationsCompute n order ss p
  unfolding comes
  equations name q h =
      let is = equ_is ss order name (equs.Procedure q) (sym (pieces.names.equs name) ∙ h) in
      let here = comes is.place is.stands.origin is.statement is.stands.there is.stands.statement in
      let number : q ≡ is.place = is.number ∙ within is.place is.stands.origin is.stands.there in
      let from = by_nothing is.statement.body here.before is.statement is.stands.origin.operand here.procedure is.body here.compiled in
      record {
        equ = is;
        expression = from.0;
        there = from.1;
        computes = computed q here.before from.0 here.procedure (subst (λ x. procedure_at p x ≡ Some here.procedure) (sym number) here.there) from.2;
      }

  pub all : AllCompute n order ss p
  all = record {
    operands = operands;
    variables = variables;
    boolean_variables = boolean_variables;
    tables = tables;
    functions = functions;
    equations = equations;
  }

pub all_compute : AllComputeWherePassed
all_compute n order ss p fits kinds_pass plus pieces = all n order ss p fits kinds_pass plus pieces
