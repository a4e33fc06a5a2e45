-- Who is to blame: what follows where nobody is, and how answers go by it.
use Rattle.std.proofs.Common.{◌≡◌, ℕ, Option, Some, None, Bool, true, false, Result, Err, if◌then◌else◌, refl, sym, ap, subst}
use Rattle.std.specs.Prelude.{option_map}
use Rattle.std.proofs.lemmas.Bool.{eqb-true}
use Rattle.gw_text_expressions.specs.declared.model.Expression.{Expression}
use Rattle.gw_compile.specs.declared.numbering.Callee.{Callee}
use Rattle.gw_compile.specs.declared.faults.CompileFault.{CompileFault}
use Rattle.gw_compile.specs.declared.faults.CompileFault.TheVariants as faults
use Rattle.gw_compile.specs.Unknown.{Blame, first_of, if_unknown, if_misfit, Judges}

-- where the first of two is nobody, both are
pub neither : (a b : Option Blame) → first_of a b ≡ None → (a ≡ None) × (b ≡ None)
neither None b is = (refl, is)
neither (Some blame) b is = absurd (cc)

-- what is blamed on nobody is there
pub is_there : {A : Type 0} (x : Option A) (e : Expression) → if_unknown x e ≡ None → (y : A) × (x ≡ Some y)
is_there (Some y) e is = (y, refl)
is_there None e is = absurd (cc)

-- what is made of something that is known is known, and of nothing else
pub unknown_as : {A B : Type 0} (f : A → B) (x : Option A) (e : Expression) → if_unknown (option_map f x) e ≡ if_unknown x e
unknown_as f (Some y) e = refl
unknown_as f None e = refl

-- the PROCEDURE that is called is known, and takes as many arguments
abbrev pub CallFits : Option Callee → ℕ → Type 0
CallFits None given = ⊥
CallFits (Some c) given = given ≡ c.arguments

-- a test whose failure is blamed holds
decided : (b : Bool) (blame : Blame) → (if b then None else Some blame) ≡ None → b ≡ true
decided true blame is = refl
decided false blame is = absurd (cc)

pub call_fits : (callee : Option Callee) (given : ℕ) (call : Expression) → if_misfit callee given call ≡ None → CallFits callee given
call_fits None given call is = absurd (cc)
call_fits (Some c) given call is = eqb-true given c.arguments (decided _ _ is)

-- a fault that the first explains is explained by both
pub judged_first : (A B : Type 0) (a b : Option Blame) (over : Type 0) (fault : CompileFault) → Judges {A = A} a over (Err fault)
    → Judges {A = B} (first_of a b) over (Err fault)
judged_first A B a b over (faults.Unknown operand) judged = ap (λ x. first_of x b) judged
judged_first A B a b over (faults.Arguments call) judged = ap (λ x. first_of x b) judged
judged_first A B a b over (faults.Target name) judged = ap (λ x. first_of x b) judged
judged_first A B a b over faults.Limit judged = judged
judged_first A B a b over faults.Memory judged = tt

-- where the first is nobody, what goes by the second goes by both
pub judged_second : {A : Type 0} (a b : Option Blame) (over : Type 0) (answer : Result A CompileFault) → a ≡ None → Judges b over answer
    → Judges (first_of a b) over answer
judged_second a b over answer none judged = subst (λ x. Judges (first_of x b) over answer) (sym none) judged
