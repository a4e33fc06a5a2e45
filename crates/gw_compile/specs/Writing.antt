-- The code of statements, behind code that stands.
use Rattle.std.specs.Prelude.{◌≡◌, ℕ, List, [], ◌∷◌, ◌++◌, length, Bool, true, Option, Result, IfOk, OnOk, Vec, if◌then◌else◌, slice_set, string_bytes}
use Rattle.std.specs.Global.{Global}
use Rattle.std.specs.Borrow.{Bor}
use Rattle.std.specs.declared.string.String.{String}
use Rattle.gw_object.specs.declared.code.Instruction.{Instruction}
use Rattle.gw_object.specs.declared.code.Instruction.TheVariants.{Back, Jump, Return}
use Rattle.gw_text_expressions.specs.declared.model.Expression.{Expression}
use Rattle.gw_text_plus.specs.declared.model.PlusStatement.{PlusStatement}
use Rattle.gw_compile.specs.declared.faults.CompileFault.{CompileFault}
use Rattle.gw_compile.specs.Numbers.{Numbers, Scope}
use Rattle.gw_compile.specs.Scope.{scope_of}
use Rattle.gw_compile.specs.Statements.{Piece, IsWritten, JudgesPiece, assign_piece, return_piece, piece, reached_piece, sequence, if_without_else}
use Rattle.gw_compile.specs.Statements.{while_piece, target, turns, when}
use Rattle.gw_compile.specs.Unknown.{Judges}

-- JUMPS

-- code in which a jump of this kind, at this place, leads to what comes next
abbrev pub with_jump : (ℕ → Instruction) → ℕ → List Instruction → List Instruction
with_jump jump at code = slice_set code at (jump (target (length code)))

-- code in which the jump at a place does, where there is one
abbrev pub with_leap : Bool → ℕ → List Instruction → List Instruction
with_leap skips at code = if skips then with_jump Jump at code else code

-- a jump back to this place, where a path leads to it
abbrev pub jump_back : Bool → ℕ → List Instruction
jump_back on place = when on (Back (record { target = place; count = turns }) ∷ [])

-- unless there is a fault, a piece is written behind code, and these locals hold then
abbrev pub Extends : {E : Type 0} → Result Bool E → Vec Instruction Global → Vec Instruction Global → Scope → Piece → Type 0
Extends result old new scope one = IfOk result (IsWritten one old.items new.items scope)

-- PARTS OF STATEMENTS

-- by what names stand for, where these locals hold
module _ (n : Numbers) (locals : List (Bor (List ℕ))) (code : Vec Instruction Global) where
  -- name = e; behind this code
  abbrev pub assignment_behind : String Global → Expression → Piece
  assignment_behind name e = assign_piece n (scope_of locals) (length code.items) (string_bytes name) e

  -- RETURN
  abbrev pub return_behind : Option Expression → Piece
  return_behind value = return_piece n (scope_of locals) (length code.items) value

module _ {E : Type 0} (result : Result Bool E) (old new : Vec Instruction Global) (n : Numbers) (locals : List (Bor (List ℕ))) where
  -- name = e; is written
  abbrev pub Assigns : String Global → Expression → Type 0
  Assigns name e = Extends result old new (scope_of locals) (assignment_behind n locals old name e)

  -- RETURN is
  abbrev pub Returns : Option Expression → Type 0
  Returns value = Extends result old new (scope_of locals) (return_behind n locals old value)

-- RETURN is written but for its last instruction
abbrev pub EmitsValue : {A E : Type 0} → Result A E → Vec Instruction Global → Vec Instruction Global → Numbers → List (Bor (List ℕ))
    → Option Expression → Type 0
EmitsValue result old new n locals value = OnOk result (new.items ++ Return ∷ [] ≡ old.items ++ (return_behind n locals old value).code)

module _ {A : Type 0} (answer : Result A CompileFault) (code : Vec Instruction Global) (n : Numbers) (locals : List (Bor (List ℕ))) where
  -- an answer goes by name = e;
  abbrev pub JudgesAssignment : String Global → Expression → Type 0
  JudgesAssignment name e = Judges (assignment_behind n locals code name e).blame ⊥ answer

  -- by RETURN
  abbrev pub JudgesReturn : Option Expression → Type 0
  JudgesReturn value = Judges (return_behind n locals code value).blame ⊥ answer

-- STATEMENTS

-- by what names stand for, where these locals hold
module _ (n : Numbers) (locals : Vec (Bor (List ℕ)) Global) (code : Vec Instruction Global) where
  -- a statement behind this code
  abbrev pub statement_behind : PlusStatement → Piece
  statement_behind s = piece n (scope_of locals.items) (length code.items) s

  -- those of a block
  abbrev pub block_behind : List PlusStatement → Piece
  block_behind ss = sequence n (scope_of locals.items) (length code.items) true ss

  -- IF without ELSE
  abbrev pub if_behind : Expression → PlusStatement → Piece
  if_behind test a = if_without_else n (scope_of locals.items) (length code.items) test a

  -- WHILE
  abbrev pub while_behind : Expression → PlusStatement → Piece
  while_behind test a = while_piece n (scope_of locals.items) (length code.items) test a

-- where code and locals become others
module _ {E : Type 0} (result : Result Bool E) (old new : Vec Instruction Global) (locals after : Vec (Bor (List ℕ)) Global) (n : Numbers) where
  -- a statement is written
  abbrev pub Writes : PlusStatement → Type 0
  Writes s = Extends result old new (scope_of after.items) (statement_behind n locals old s)

  -- it is, where a path leads to it
  abbrev pub Joins : Bool → PlusStatement → Type 0
  Joins reached s = Extends result old new (scope_of after.items) (reached_piece reached (statement_behind n locals old s))

  -- those of a block are
  abbrev pub WritesAll : List PlusStatement → Type 0
  WritesAll ss = Extends result old new (scope_of after.items) (block_behind n locals old ss)

  -- IF without ELSE is
  abbrev pub WritesIf : Expression → PlusStatement → Type 0
  WritesIf test a = Extends result old new (scope_of after.items) (if_behind n locals old test a)

  -- WHILE is
  abbrev pub Loops : Expression → PlusStatement → Type 0
  Loops test a = Extends result old new (scope_of after.items) (while_behind n locals old test a)

-- an answer goes by what is written
module _ {A : Type 0} (answer : Result A CompileFault) (code : Vec Instruction Global) (locals : Vec (Bor (List ℕ)) Global) (n : Numbers) where
  -- by a statement
  abbrev pub JudgesStatement : PlusStatement → Type 0
  JudgesStatement s = JudgesPiece (statement_behind n locals code s) answer

  -- by those of a block
  abbrev pub JudgesBlock : List PlusStatement → Type 0
  JudgesBlock ss = JudgesPiece (block_behind n locals code ss) answer

  -- by IF without ELSE
  abbrev pub JudgesIf : Expression → PlusStatement → Type 0
  JudgesIf test a = JudgesPiece (if_behind n locals code test a) answer

  -- by WHILE
  abbrev pub JudgesWhile : Expression → PlusStatement → Type 0
  JudgesWhile test a = JudgesPiece (while_behind n locals code test a) answer
