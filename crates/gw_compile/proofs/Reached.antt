-- The expressions of a PROCEDURE stand in its code, and keep their values there.
use Rattle.std.proofs.Common.{◌≡◌, ℕ, ◌+◌, List, [], ◌∷◌, ◌++◌, length, Some, None, Bool, true, false, ◌&&◌, refl, sym, subst, All}
use Rattle.std.specs.Prelude.{string_bytes, map}
use Rattle.std.proofs.lemmas.List.Elements.{All-nil, All-cons, All-head, All-tail, All-append}
use Rattle.gw_object.specs.declared.code.Instruction.{Instruction}
use Rattle.gw_object.specs.declared.code.Instruction.TheVariants.{JumpIfZero}
use Rattle.gw_object.specs.declared.code.Procedure.{Procedure}
use Rattle.gw_text_plus.specs.declared.model.Procedure.{Procedure as TextProcedure}
use Rattle.gw_text_plus.specs.declared.model.PlusStatement.{PlusStatement, Row_of-PlusStatement, end_of-PlusStatement, more_of-PlusStatement}
use Rattle.gw_text_plus.specs.declared.model.PlusStatement.{Held-PlusStatement-If-2, None', Some'}
use Rattle.gw_text_plus.specs.declared.model.PlusStatement.TheVariants.{Block', Temporary, Assign, If', While', Return as Returns}
use Rattle.gw_compile.specs.Numbers.{Numbers, Scope, number_of}
use Rattle.gw_compile.specs.Code.{expression_code}
use Rattle.gw_compile.specs.Unknown.{first_of, first_blame}
use Rattle.gw_compile.specs.Statements.{Standing, target, when, leap, leap_length, turn, if_no_target, has_else, reached_piece, piece, else_piece}
use Rattle.gw_compile.specs.Statements.{pieces, body_of, body_code, end_code}
use Rattle.gw_compile.specs.Keeps.{KeepsValueAt}
use Rattle.gw_compile.proofs.Blaming.{neither}
use Rattle.gw_compile.proofs.Standing.{HasAt, has_front, has_back, has_all}
use Rattle.gw_compile.proofs.Follows.{keeps_at}

leap_is : (skips : Bool) (place : ℕ) → length (leap skips place) ≡ leap_length skips
leap_is true place = refl
leap_is false place = refl

module _ (n : Numbers) (code : List Instruction) where
  -- the code of an expression stands there, and its names are known
  abbrev pub Stands : Standing → Type 0
  Stands at = HasAt code at.place (expression_code n at.scope at.expression) × (first_blame n at.scope at.expression ≡ None)

  -- where a path leads
  when_reached : (reached : Bool) (place : ℕ) (own : List Instruction) (values : List Standing)
      → (HasAt code place own → All Stands values) → HasAt code place (when reached own) → All Stands (when reached values)
  when_reached true place own values stand has = stand has
  when_reached false place own values stand has = All-nil Stands

  mutual
    stand : (scope : Scope) (place : ℕ) (s : PlusStatement) → HasAt code place (piece n scope place s).code → (piece n scope place s).blame
        ≡ None → All Stands (piece n scope place s).values
    stand scope place (Block' shape ss) has none = all_stand scope place true ss has none
    stand scope place (Temporary names) has none = All-nil Stands
    stand scope place (Assign name e) has none =
        let both = neither (if_no_target (number_of scope (string_bytes name)) (string_bytes name)) (first_blame n scope e) none in
        All-cons Stands _ [] (has_front code place (expression_code n scope e) _ has, both.1) (All-nil Stands)
    stand scope place (If' test x a other) has none =
        let tested = expression_code n scope test in
        let inside = place + length tested + 1 in
        let first = piece n scope inside a in
        let skips = has_else other && first.goes_on in
        let behind = inside + length first.code + leap_length skips in
        let second = else_piece n first.scope behind other in
        let leaping = leap skips (behind + length second.code) in
        let nobody = neither (first_blame n scope test) (first_of first.blame second.blame) none in
        let others = neither first.blame second.blame nobody.1 in
        let rest = (has_back code place tested (JumpIfZero (target behind) ∷ (first.code ++ (leaping ++ second.code))) has).1 in
        let there = has_back code (inside + length first.code) leaping second.code (has_back code inside first.code (leaping ++ second.code) rest) in
        let here = subst (λ k. HasAt code (inside + length first.code + k) second.code) (leap_is skips (behind + length second.code)) there in
        All-cons Stands _ _ (has_front code place tested _ has, nobody.0)
        (All-append Stands first.values second.values (stand scope inside a (has_front code inside first.code _ rest) others.0)
        (else_stands first.scope behind other here others.1))
    stand scope place (While' test x a) has none =
        let tested = expression_code n scope test in
        let inside = place + length tested + 1 in
        let body = piece n scope inside a in
        let nobody = neither (first_blame n scope test) body.blame none in
        let rest = (has_back code place tested
        (JumpIfZero (target (inside + length body.code + length (turn body.goes_on place))) ∷ (body.code ++ turn body.goes_on place)) has).1 in
        All-cons Stands _ body.values (has_front code place tested _ has, nobody.0) (stand scope inside a (has_front code inside body.code _ rest) nobody.1)
    stand scope place (Returns None) has none = All-nil Stands
    stand scope place (Returns (Some e)) has none = All-cons Stands _ [] (has_front code place (expression_code n scope e) _ has, none) (All-nil Stands)

    else_stands : (scope : Scope) (place : ℕ) (other : Held-PlusStatement-If-2) → HasAt code place (else_piece n scope place other).code
        → (else_piece n scope place other).blame ≡ None → All Stands (else_piece n scope place other).values
    else_stands scope place None' has none = All-nil Stands
    else_stands scope place (Some' x a) has none = stand scope place a has none

    all_stand : {m : _} (scope : Scope) (place : ℕ) (reached : Bool) (ss : Row_of-PlusStatement m)
        → HasAt code place (pieces n scope place reached ss).code → (pieces n scope place reached ss).blame ≡ None
        → All Stands (pieces n scope place reached ss).values
    all_stand scope place reached end_of-PlusStatement has none = All-nil Stands
    all_stand scope place reached (more_of-PlusStatement s ss) has none =
        let whole = piece n scope place s in
        let one = reached_piece reached whole in
        let rest = pieces n one.scope (place + length one.code) one.goes_on ss in
        let nobody = neither whole.blame rest.blame none in
        All-append Stands one.values rest.values
        (when_reached reached place whole.code whole.values (λ own. stand scope place s own nobody.0) (has_front code place one.code rest.code has))
        (all_stand one.scope (place + length one.code) one.goes_on ss (has_back code place one.code rest.code has) nobody.1)

all_onward : {X : Type 0} (P Q : X → Type 0) (xs : List X) → ((x : X) → P x → Q x) → All P xs → All Q xs
all_onward P Q [] onward each = All-nil Q
all_onward P Q (x ∷ xs) onward each = All-cons Q x xs (onward x (All-head P x xs each)) (all_onward P Q xs onward (All-tail P x xs each))

-- the expressions of a PROCEDURE keep their values
pub values_kept : (n : Numbers) (procedure : TextProcedure) (pr : Procedure) → pr.code ≡ body_code (body_of n procedure)
    → (body_of n procedure).blame ≡ None → All (KeepsValueAt n pr) (body_of n procedure).values
values_kept n procedure pr is none =
    let body = body_of n procedure in
    let has : HasAt pr.code 0 (body_code body) = subst (λ c. HasAt c 0 (body_code body)) (sym is) (has_all (body_code body) []) in
    let own = has_front pr.code 0 body.code (when body.goes_on end_code) has in
    all_onward (Stands n pr.code) (KeepsValueAt n pr) body.values (λ at stands. keeps_at n pr at stands.0 stands.1)
    (stand n pr.code (map string_bytes procedure.arguments.items) 0 procedure.statement own none)
