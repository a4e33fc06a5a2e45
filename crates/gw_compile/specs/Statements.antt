-- What the statements of a PROCEDURE become.
use Rattle.std.specs.Prelude.{◌≡◌, ℕ, pos, ◌+◌, ◌<◌, min, Result, List, [], ◌∷◌, ◌++◌, length, map, Option, Some, None, option_map, option_to_list}
use Rattle.std.specs.Prelude.{Bool, true, false, ◌&&◌, ◌||◌, string_bytes}
use Rattle.gw_object.specs.declared.code.Instruction.{Instruction}
use Rattle.gw_object.specs.declared.code.Instruction.TheVariants.{Push, Set, Jump, JumpIfZero, Back, Return}
use Rattle.gw_object.specs.Limits.{most_locals}
use Rattle.gw_text_expressions.specs.declared.model.Expression.{Expression}
use Rattle.gw_text_plus.specs.declared.model.PlusStatement.{PlusStatement, Row_of-PlusStatement, end_of-PlusStatement, more_of-PlusStatement}
use Rattle.gw_text_plus.specs.declared.model.PlusStatement.{Held-PlusStatement-If-2, None', Some'}
use Rattle.gw_text_plus.specs.declared.model.PlusStatement.TheVariants.{Block', Temporary, Assign, If', While', Return as Returns}
use Rattle.gw_text_plus.specs.declared.model.Procedure.{Procedure as TextProcedure}
use Rattle.gw_compile.specs.declared.faults.CompileFault.{CompileFault}
use Rattle.gw_compile.specs.Numbers.{Numbers, Scope, number_of}
use Rattle.gw_compile.specs.Code.{expression_code}
use Rattle.gw_compile.specs.Unknown.{Blame, Target, first_of, first_blame, Judges}

-- an expression whose code stands at this place of a procedure's code, where these locals hold
pub record Standing : Type 0 where
  pub place : ℕ
  pub scope : Scope
  pub expression : Expression

-- what a statement becomes
pub record Piece : Type 0 where
  -- its instructions
  pub code : List Instruction
  -- the locals that hold behind it
  pub scope : Scope
  -- whether a path leads on behind it
  pub goes_on : Bool
  -- the first to blame in it, also where no path leads
  pub blame : Option Blame
  -- the expressions in its code
  pub values : List Standing

-- a piece is written: its code stands behind what there was, its locals hold, and it is told whether a path leads on
pub record IsWritten (one : Piece) (before after : List Instruction) (scope : Scope) (goes_on : Bool) : Type 0 where
  pub code : after ≡ before ++ one.code
  pub locals : scope ≡ one.scope
  pub path : goes_on ≡ one.goes_on

-- an answer goes by a piece: by the first to blame in it, and that of a limit by its locals
abbrev pub JudgesPiece : {A : Type 0} → Piece → Result A CompileFault → Type 0
JudgesPiece one answer = Judges one.blame (most_locals < length one.scope) answer

-- how often a WHILE goes round at most, while one activation of its procedure lasts
abbrev pub turns : ℕ
turns = 10000

-- where a jump leads: no code that keeps its limit comes so far
abbrev pub target : ℕ → ℕ
target place = min place 65535

-- what is kept only where a path leads
abbrev pub when : {A : Type 0} → Bool → List A → List A
when true xs = xs
when false xs = []

-- how many instructions lead round the other branch of an IF
abbrev pub leap_length : Bool → ℕ
leap_length true = 1
leap_length false = 0

-- and which
abbrev pub leap : Bool → ℕ → List Instruction
leap true place = Jump (target place) ∷ []
leap false place = []

-- nothing
abbrev pub no_piece : Scope → Bool → Piece
no_piece scope on = record { code = []; scope = scope; goes_on = on; blame = None; values = [] }

-- the instruction that puts a value into a local
abbrev pub set_code : Option ℕ → List Instruction
set_code local = option_to_list (option_map Set local)

-- a name to which a value is assigned, where it is no local
abbrev pub if_no_target : Option ℕ → List ℕ → Option Blame
if_no_target (Some local) name = None
if_no_target None name = Some (Target name)

-- name = e;
abbrev pub assign_piece : Numbers → Scope → ℕ → List ℕ → Expression → Piece
assign_piece n scope place name e = record {
  code = expression_code n scope e ++ set_code (number_of scope name);
  scope = scope;
  goes_on = true;
  blame = first_of (if_no_target (number_of scope name) name) (first_blame n scope e);
  values = record { place = place; scope = scope; expression = e } ∷ [];
}

-- RETURN e; or RETURN; of which the value is 0
abbrev pub return_piece : Numbers → Scope → ℕ → Option Expression → Piece
return_piece n scope place None = record { code = Push (pos 0) ∷ Return ∷ []; scope = scope; goes_on = false; blame = None; values = [] }
return_piece n scope place (Some e) = record {
  code = expression_code n scope e ++ Return ∷ [];
  scope = scope;
  goes_on = false;
  blame = first_blame n scope e;
  values = record { place = place; scope = scope; expression = e } ∷ [];
}

-- IF: where the test is 0 it leads to the second branch, which begins behind; where the first one goes on, a jump leads round the second
abbrev pub branch_piece : Numbers → Scope → ℕ → Expression → Piece → Bool → ℕ → Piece → Piece
branch_piece n scope place test first skips behind second = record {
  code = expression_code n scope test ++ (JumpIfZero (target behind) ∷ (first.code ++ (leap skips (behind + length second.code) ++ second.code)));
  scope = second.scope;
  goes_on = second.goes_on || first.goes_on;
  blame = first_of (first_blame n scope test) (first_of first.blame second.blame);
  values = record { place = place; scope = scope; expression = test } ∷ (first.values ++ second.values);
}

-- the jump back of a WHILE, to its test
abbrev pub turn : Bool → ℕ → List Instruction
turn true place = Back (record { target = target place; count = turns }) ∷ []
turn false place = []

-- WHILE: where the test is 0 it leads behind the jump back, and where the body goes on the jump back leads to the test
abbrev pub loop_piece : Numbers → Scope → ℕ → Expression → Piece → Piece
loop_piece n scope place test body =
    let tested = expression_code n scope test in
    let inside = place + length tested + 1 in
    let round = turn body.goes_on place in
    record {
      code = tested ++ (JumpIfZero (target (inside + length body.code + length round)) ∷ (body.code ++ round));
      scope = body.scope;
      goes_on = true;
      blame = first_of (first_blame n scope test) body.blame;
      values = record { place = place; scope = scope; expression = test } ∷ body.values;
    }

-- a statement where a path leads or not
abbrev pub reached_piece : Bool → Piece → Piece
reached_piece reached one = record one { code = when reached one.code; goes_on = reached && one.goes_on; values = when reached one.values }

-- a statement, and those behind it: what no path reaches is left out
abbrev pub before_piece : Piece → Piece → Piece
before_piece one rest = record {
  code = one.code ++ rest.code;
  scope = rest.scope;
  goes_on = rest.goes_on;
  blame = first_of one.blame rest.blame;
  values = one.values ++ rest.values;
}

-- whether there is an ELSE
abbrev pub has_else : Held-PlusStatement-If-2 → Bool
has_else None' = false
has_else (Some' x other) = true

abbrev mutual
  -- what a statement becomes at this place of a procedure's code, where these locals hold before it
  pub piece : Numbers → Scope → ℕ → PlusStatement → Piece
  piece n scope place (Block' shape ss) = pieces n scope place true ss
  piece n scope place (Temporary names) = no_piece (scope ++ map string_bytes names.items) true
  piece n scope place (Assign name e) = assign_piece n scope place (string_bytes name) e
  piece n scope place (If' test x a other) =
      let inside = place + length (expression_code n scope test) + 1 in
      let first = piece n scope inside a in
      let skips = has_else other && first.goes_on in
      let behind = inside + length first.code + leap_length skips in
      branch_piece n scope place test first skips behind (else_piece n first.scope behind other)
  piece n scope place (While' test x a) = loop_piece n scope place test (piece n scope (place + length (expression_code n scope test) + 1) a)
  piece n scope place (Returns e) = return_piece n scope place e

  -- what ELSE has
  pub else_piece : Numbers → Scope → ℕ → Held-PlusStatement-If-2 → Piece
  else_piece n scope place None' = no_piece scope true
  else_piece n scope place (Some' x a) = piece n scope place a

  -- the statements of a block
  pub pieces : {m : _} → Numbers → Scope → ℕ → Bool → Row_of-PlusStatement m → Piece
  pieces n scope place reached end_of-PlusStatement = no_piece scope reached
  pieces n scope place reached (more_of-PlusStatement s ss) =
      let one = reached_piece reached (piece n scope place s) in
      before_piece one (pieces n one.scope (place + length one.code) one.goes_on ss)

-- IF, by what ELSE has, if there is one
abbrev pub if_piece : Numbers → Scope → ℕ → Expression → PlusStatement → Bool → (Scope → ℕ → Piece) → Piece
if_piece n scope place test a is_there other =
    let inside = place + length (expression_code n scope test) + 1 in
    let first = piece n scope inside a in
    let skips = is_there && first.goes_on in
    let behind = inside + length first.code + leap_length skips in
    branch_piece n scope place test first skips behind (other first.scope behind)

-- IF without ELSE
abbrev pub if_without_else : Numbers → Scope → ℕ → Expression → PlusStatement → Piece
if_without_else n scope place test a = if_piece n scope place test a false (λ scope behind. no_piece scope true)

-- IF with ELSE
abbrev pub if_with_else : Numbers → Scope → ℕ → Expression → PlusStatement → PlusStatement → Piece
if_with_else n scope place test a b = if_piece n scope place test a true (λ scope behind. piece n scope behind b)

-- WHILE
abbrev pub while_piece : Numbers → Scope → ℕ → Expression → PlusStatement → Piece
while_piece n scope place test a = loop_piece n scope place test (piece n scope (place + length (expression_code n scope test) + 1) a)

-- the same of a list of statements
abbrev pub sequence : Numbers → Scope → ℕ → Bool → List PlusStatement → Piece
sequence n scope place reached [] = no_piece scope reached
sequence n scope place reached (s ∷ ss) =
    let one = reached_piece reached (piece n scope place s) in
    before_piece one (sequence n one.scope (place + length one.code) one.goes_on ss)

-- what the statement of a PROCEDURE becomes
abbrev pub body_of : Numbers → TextProcedure → Piece
body_of n procedure = piece n (map string_bytes procedure.arguments.items) 0 procedure.statement

-- how many locals a PROCEDURE has, with its arguments
abbrev pub local_count : Numbers → TextProcedure → ℕ
local_count n procedure = length (body_of n procedure).scope

-- the end of a PROCEDURE: its value is 0
abbrev pub end_code : List Instruction
end_code = Push (pos 0) ∷ Return ∷ []

-- the code of a PROCEDURE
abbrev pub body_code : Piece → List Instruction
body_code body = body.code ++ when body.goes_on end_code

-- the code that a PROCEDURE becomes
abbrev pub code_of : Numbers → TextProcedure → List Instruction
code_of n procedure = body_code (body_of n procedure)
