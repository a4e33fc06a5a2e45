-- The line of a refusal without a place, behind its first word.
use Rattle.std.proofs.Common.{◌≡◌, ◌∙◌, ◌≤◌, ℕ, List, [], ◌++◌, codes, length, drop, ap, sym, subst, arith, Result, Ok, Err, OnOk, is_ok, if◌then◌else◌}
use Rattle.std.specs.Fmt.{decimal}
use Rattle.std.proofs.lemmas.List.{append-nil}
use Rattle.gw_object.specs.declared.fault.Place.TheVariants.{Nowhere}
use Rattle.gw_answers.specs.Refusal.{refusal_line, code_name}
use Rattle.gw_explain.specs.Meaning.{code_line}

-- behind the first word a number and a name stand
shortened : (number name line : List ℕ) → line ≡ codes "refused " ++ number ++ codes " " ++ name ++ [] ++ codes "\n" → drop 8 line ≡ number
    ++ codes " " ++ name ++ codes "\n"
shortened number name line is = ap (drop 8) is ∙ ap (λ x. x ++ codes "\n") (append-nil (number ++ codes " " ++ name))

-- the first word is there
long : (number name line : List ℕ) → line ≡ codes "refused " ++ number ++ codes " " ++ name ++ [] ++ codes "\n" → 8 ≤ length line
long number name line is = subst (λ x. 8 ≤ length x) (sym is) (omega arith)

pub long_enough : (code : ℕ) (line : List ℕ) → line ≡ refusal_line (record { code = code; place = Nowhere }) → 8 ≤ length line
long_enough code line is = long (decimal code) (code_name code) line is

-- it is the code and its name
named : (code : ℕ) (line : List ℕ) → line ≡ refusal_line (record { code = code; place = Nowhere }) → drop 8 line ≡ code_line code
unfolding code_line
named code line is = shortened (decimal code) (code_name code) line is

pub named_where : {A E : Type 0} (old shown new line : List ℕ) (code : ℕ) (r : Result A E) → new ≡ (if is_ok r then old ++ shown else old) → shown ≡ drop 8 line
    → line ≡ refusal_line (record { code = code; place = Nowhere }) → OnOk r (new ≡ old ++ code_line code)
named_where old shown new line code (Ok x) grown is told = grown ∙ ap (λ s. old ++ s) (is ∙ named code line told)
named_where old shown new line code (Err e) grown is told = tt
