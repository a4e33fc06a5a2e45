-- How pieces are written behind one another.
use Rattle.std.proofs.Common.{◌≡◌, ℕ, ◌+◌, ◌≤◌, ◌<◌, List, [], ◌∷◌, ◌++◌, length, Option, Some, None, Bool, true, false, ◌&&◌, ◌||◌, Result, Ok, Err}
use Rattle.std.proofs.Common.{refl, sym, ap, ◌∙◌, subst, arith, append_assoc, length-append, if◌then◌else◌, Vec, Box, Global}
use Rattle.std.specs.Prelude.{string_bytes, slice_set, map}
use Rattle.std.specs.Result.{IsErrAnd}
use Rattle.std.proofs.lemmas.List.{append-nil, set_at, length-set}
use mathlib.Core.Former.{Count}
use Rattle.gw_object.specs.declared.code.Instruction.{Instruction}
use Rattle.gw_object.specs.declared.code.Instruction.TheVariants.{Jump, JumpIfZero, Back}
use Rattle.gw_text_expressions.specs.declared.model.Expression.{Expression}
use Rattle.gw_text_plus.specs.declared.model.PlusStatement.{PlusStatement, Block, Block', If, Row_of-PlusStatement, end_of-PlusStatement}
use Rattle.gw_text_plus.specs.declared.model.PlusStatement.{more_of-PlusStatement, Held-PlusStatement-If-2, None', Some', items-the_row-PlusStatement}
use Rattle.gw_text_plus.specs.declared.model.PlusStatement.{items_hidden-the_row-PlusStatement-0}
use Rattle.gw_text_plus.specs.declared.model.PlusStatement.TheVariants.{Temporary, Assign, If', While', Return as Returns}
use Rattle.gw_compile.specs.declared.faults.CompileFault.{CompileFault}
use Rattle.gw_compile.specs.declared.faults.CompileFault.TheVariants as faults
use Rattle.gw_compile.specs.Numbers.{Numbers, Scope}
use Rattle.gw_compile.specs.Code.{expression_code}
use Rattle.gw_compile.specs.Unknown.{Blame, first_of, first_blame, Judges}
use Rattle.gw_object.specs.Limits.{most_locals}
use Rattle.gw_compile.proofs.Blaming.{judged_first, judged_second}
use Rattle.gw_compile.specs.Statements.{Piece, IsWritten, target, turns, when, leap, leap_length, turn, no_piece, has_else, reached_piece}
use Rattle.gw_compile.specs.Statements.{before_piece, piece, else_piece, pieces, sequence, if_without_else, if_with_else, while_piece}

-- WRITING

-- a jump whose target wasn't known
patched : (before x rest : List Instruction) (y z : Instruction) (at : ℕ) → at ≡ length before + length x
    → slice_set ((before ++ (x ++ y ∷ [])) ++ rest) at z ≡ before ++ (x ++ (z ∷ rest))
patched before x rest y z at is =
    let there : length (before ++ x) ≡ at = omega (arith, is, length-append before x) in
    let whole : (before ++ (x ++ y ∷ [])) ++ rest ≡ (before ++ x) ++ y ∷ rest = simp append_assoc in
    ap (λ code. slice_set code at z) whole ∙ set_at (before ++ x) y rest z at there ∙ append_assoc before x (z ∷ rest)

inside_is : (before x : List Instruction) (y : Instruction) → length (before ++ (x ++ y ∷ [])) ≡ length before + length x + 1
inside_is before x y = omega (arith, length-append before (x ++ y ∷ []), length-append x (y ∷ []))

module _ (n : Numbers) (scope : Scope) (test : Expression) (before : List Instruction) where
  -- the code of a test
  abbrev pub tested : List Instruction
  tested = expression_code n scope test

  -- the code with a test, and a jump whose target isn't known
  abbrev pub opened_code : List Instruction
  opened_code = before ++ (tested ++ JumpIfZero 0 ∷ [])

  -- where it goes on behind that
  abbrev pub inside : ℕ
  inside = length before + length tested + 1

  -- what is written there
  written_inside : (a : PlusStatement) (opened after : List Instruction) (after_scope : Scope) (path : Bool) → opened ≡ opened_code
      → IsWritten (piece n scope (length opened) a) opened after after_scope path → IsWritten (piece n scope inside a) opened_code after after_scope path
  written_inside a opened after after_scope path is first =
      subst (λ k. IsWritten (piece n scope k a) opened_code after after_scope path) (inside_is before tested (JumpIfZero 0))
      (subst (λ l. IsWritten (piece n scope (length l) a) l after after_scope path) is first)

  -- how long the code is then
  long_inside : (own after : List Instruction) → after ≡ opened_code ++ own → length after ≡ inside + length own
  long_inside own after is = ap length is ∙ length-append opened_code own ∙ ap (λ k. k + length own) (inside_is before tested (JumpIfZero 0))

  pub if_is_written : (a : PlusStatement) (opened after now : List Instruction) (after_scope : Scope) (path : Bool) (at : ℕ) → at
      ≡ length before + length tested → opened ≡ opened_code → IsWritten (piece n scope (length opened) a) opened after after_scope path
      → now ≡ slice_set after at (JumpIfZero (target (length after))) → IsWritten (if_without_else n scope (length before) test a) before now after_scope true
  if_is_written a opened after now after_scope path at is opens first set =
      let first = written_inside a opened after after_scope path opens first in
      let own = (piece n scope inside a).code in
      let there : length after ≡ inside + length own + 0 = long_inside own after first.code
      ∙ (let e : inside + length own ≡ inside + length own + 0 = omega arith in e) in
      record {
        code = set ∙ ap (λ k. slice_set after at (JumpIfZero (target k))) there
            ∙ ap (λ code. slice_set code at (JumpIfZero (target (inside + length own + 0)))) first.code
            ∙ patched before tested own (JumpIfZero 0) (JumpIfZero (target (inside + length own + 0))) at is
            ∙ ap (λ code. before ++ (tested ++ (JumpIfZero (target (inside + length own + 0)) ∷ code))) (sym (append-nil own));
        locals = first.locals;
        path = refl;
      }

  -- WHILE
  turned : (on : Bool) → when on (Back (record { target = target (length before); count = turns }) ∷ []) ≡ turn on (length before)
  turned true = refl
  turned false = refl

  pub while_is_written : (a : PlusStatement) (opened after turned_code now : List Instruction) (after_scope : Scope) (path : Bool) (at : ℕ)
      → at ≡ length before + length tested → opened ≡ opened_code
      → IsWritten (piece n scope (length opened) a) opened after after_scope path → turned_code ≡ after
      ++ when path (Back (record { target = target (length before); count = turns }) ∷ []) → now
      ≡ slice_set turned_code at (JumpIfZero (target (length turned_code))) → IsWritten (while_piece n scope (length before) test a) before now after_scope true
  while_is_written a opened after turned_code now after_scope path at is opens first round set =
      let first = written_inside a opened after after_scope path opens first in
      let body = piece n scope inside a in
      let back = turn body.goes_on (length before) in
      let behind = inside + length body.code + length back in
      let rounds : turned_code ≡ opened_code ++ (body.code ++ back) =
      round ∙ ap (λ code. code ++ when path (Back (record { target = target (length before); count = turns }) ∷ [])) first.code
      ∙ ap (λ on. (opened_code ++ body.code) ++ when on (Back (record { target = target (length before); count = turns }) ∷ [])) first.path
      ∙ ap (λ code. (opened_code ++ body.code) ++ code) (turned body.goes_on)
      ∙ append_assoc opened_code body.code back in
      let there : length turned_code ≡ behind = long_inside (body.code ++ back) turned_code rounds
      ∙ (let e = length-append body.code back in let k : inside + length (body.code ++ back) ≡ behind = omega arith in k) in
      record {
        code = set ∙ ap (λ k. slice_set turned_code at (JumpIfZero (target k))) there
            ∙ ap (λ code. slice_set code at (JumpIfZero (target behind))) rounds
            ∙ patched before tested (body.code ++ back) (JumpIfZero 0) (JumpIfZero (target behind)) at is;
        locals = first.locals;
        path = refl;
      }

  -- the code of an IF's first branch, and of the jump round the second, once the test leads on
  module _ (first second : List Instruction) (test_at leap_at : ℕ) (is : test_at ≡ length before + length tested)
      (leaps : leap_at ≡ length (opened_code ++ first)) where
    abbrev leaping : Bool → List Instruction
    leaping skips = (opened_code ++ first) ++ when skips (Jump 0 ∷ [])

    abbrev behind_of : Bool → ℕ
    behind_of skips = inside + length first + leap_length skips

    long_leaping : (skips : Bool) → length (leaping skips) ≡ behind_of skips
    long_leaping true = let e = long_inside first (opened_code ++ first) refl in omega (arith, length-append (opened_code ++ first) (Jump 0 ∷ []))
    long_leaping false = let e = long_inside first (opened_code ++ first) refl in omega (arith, length-append (opened_code ++ first) [])

    abbrev led : Bool → List Instruction
    led skips = slice_set (leaping skips) test_at (JumpIfZero (target (behind_of skips)))

    long_led : (skips : Bool) → length (led skips) ≡ behind_of skips
    long_led skips = length-set (leaping skips) test_at (JumpIfZero (target (behind_of skips))) ∙ long_leaping skips

    abbrev test_jump : Bool → Instruction
    test_jump skips = JumpIfZero (target (behind_of skips))

    led_is : (skips : Bool) → led skips ≡ before ++ (tested ++ (test_jump skips ∷ (first ++ when skips (Jump 0 ∷ []))))
    led_is skips =
        let jumps = when skips (Jump 0 ∷ []) in
        ap (λ code. slice_set code test_at (test_jump skips)) (append_assoc opened_code first jumps)
        ∙ patched before tested (first ++ jumps) (JumpIfZero 0) (test_jump skips) test_at is

    both_written : (skips : Bool)
        → (if skips then slice_set (led skips ++ second) leap_at (Jump (target (length (led skips ++ second)))) else led skips ++ second)
        ≡ before ++ (tested ++ (test_jump skips ∷ (first ++ (leap skips (behind_of skips + length second) ++ second))))
    both_written false =
        let e : (before ++ (tested ++ (test_jump false ∷ (first ++ [])))) ++ second ≡ before
        ++ (tested ++ (test_jump false ∷ (first ++ second))) = simp (append_assoc, append-nil) in
        ap (λ code. code ++ second) (led_is false) ∙ e
    both_written true =
        let front = before ++ (tested ++ (test_jump true ∷ first)) in
        let end = behind_of true + length second in
        let whole : (before ++ (tested ++ (test_jump true ∷ (first ++ Jump 0 ∷ [])))) ++ second ≡ front ++ Jump 0 ∷ second = simp append_assoc in
        let code_is : led true ++ second ≡ front ++ Jump 0 ∷ second = ap (λ code. code ++ second) (led_is true) ∙ whole in
        let long : length (led true ++ second) ≡ end = length-append (led true) second ∙ ap (λ k. k + length second) (long_led true) in
        let there : length front ≡ leap_at =
        omega (
          arith,
          leaps,
          long_inside first (opened_code ++ first) refl,
          length-append before (tested ++ (test_jump true ∷ first)),
          length-append tested (test_jump true ∷ first),
        ) in
        let same : front ++ Jump (target end) ∷ second ≡ before ++ (tested ++ (test_jump true ∷ (first ++ (Jump (target end) ∷ second)))) = simp append_assoc in
        ap (λ k. slice_set (led true ++ second) leap_at (Jump (target k))) long
        ∙ ap (λ code. slice_set code leap_at (Jump (target end))) code_is
        ∙ set_at front (Jump 0) second (Jump (target end)) leap_at there ∙ same

  pub if_else_is_written : (a b : PlusStatement) (opened after leap_code led_code after_second now : List Instruction)
      (first_scope second_scope : Scope) (skips on : Bool) (test_at leap_at : ℕ) → test_at ≡ length before + length tested → opened
      ≡ opened_code → IsWritten (piece n scope (length opened) a) opened after first_scope skips → leap_code ≡ after
      ++ when skips (Jump 0 ∷ []) → leap_at ≡ length after → led_code
      ≡ slice_set leap_code test_at (JumpIfZero (target (length leap_code)))
      → IsWritten (piece n first_scope (length led_code) b) led_code after_second second_scope on → now
      ≡ (if skips then slice_set after_second leap_at (Jump (target (length after_second))) else after_second)
      → IsWritten (if_with_else n scope (length before) test a b) before now second_scope (on || skips)
  if_else_is_written a b opened after leap_code led_code after_second now first_scope second_scope skips on test_at leap_at is opens first
      leap_is leaps led_is second now_is =
      let one = piece n scope inside a in
      let first = written_inside a opened after first_scope skips opens first in
      let leaps_there : leap_at ≡ length (opened_code ++ one.code) = leaps ∙ ap length first.code in
      let leap_same : leap_code ≡ leaping one.code [] test_at leap_at is leaps_there one.goes_on =
      leap_is ∙ ap (λ code. code ++ when skips (Jump 0 ∷ [])) first.code ∙ ap (λ k. (opened_code ++ one.code) ++ when k (Jump 0 ∷ [])) first.path in
      let behind = behind_of one.code [] test_at leap_at is leaps_there one.goes_on in
      let two = piece n one.scope behind b in
      let led_same : led_code ≡ led one.code two.code test_at leap_at is leaps_there one.goes_on =
      led_is ∙ ap (λ code. slice_set code test_at (JumpIfZero (target (length code)))) leap_same
      ∙ ap (λ k. slice_set (leaping one.code [] test_at leap_at is leaps_there one.goes_on) test_at (JumpIfZero (target k)))
      (long_leaping one.code [] test_at leap_at is leaps_there one.goes_on) in
      let second = subst (λ l. IsWritten (piece n first_scope (length l) b) l after_second second_scope on) led_same second in
      let second = subst (λ k. IsWritten (piece n first_scope k b) (led one.code two.code test_at leap_at is leaps_there one.goes_on)
      after_second second_scope on) (long_led one.code two.code test_at leap_at is leaps_there one.goes_on) second in
      let second = subst (λ k. IsWritten (piece n k behind b) (led one.code two.code test_at leap_at is leaps_there one.goes_on)
      after_second second_scope on) first.locals second in
      record {
        code = now_is ∙ ap (λ k. if k then slice_set after_second leap_at (Jump (target (length after_second))) else after_second) first.path
            ∙ ap (λ code. if one.goes_on then slice_set code leap_at (Jump (target (length code))) else code) second.code
            ∙ both_written one.code two.code test_at leap_at is leaps_there one.goes_on;
        locals = second.locals;
        path = ap (λ k. k || skips) second.path ∙ ap (λ k. two.goes_on || k) first.path;
      }

-- BLOCKS

-- the statements of a block, as a list
pieces_are : (n : Numbers) (scope : Scope) (place : ℕ) (reached : Bool) (m : _) (ss : Row_of-PlusStatement m)
    → pieces n scope place reached ss ≡ sequence n scope place reached (items-the_row-PlusStatement m ss)
pieces_are n scope place reached m end_of-PlusStatement = refl
pieces_are n scope place reached m (more_of-PlusStatement s ss) =
    let one = reached_piece reached (piece n scope place s) in
    ap (before_piece one) (pieces_are n one.scope (place + length one.code) one.goes_on _ ss)

abbrev row_of : PlusStatement → (m : Count) × Row_of-PlusStatement m
row_of (Block' m ss) = (_, ss)
row_of _ = (_, end_of-PlusStatement)

-- and as they lie in memory
pub block_is : (n : Numbers) (scope : Scope) (place : ℕ) (statements : Vec PlusStatement Global) → piece n scope place (Block statements)
    ≡ sequence n scope place true statements.items
block_is n scope place statements =
    let row = row_of (Block statements) in
    pieces_are n scope place true row.0 row.1 ∙ ap (sequence n scope place true) (items_hidden-the_row-PlusStatement-0 statements)

-- what was written, and what is to come
pub record Leads (whole rest : Piece) (before now : List Instruction) : Type 0 where
  pub code : before ++ whole.code ≡ now ++ rest.code
  pub scope : whole.scope ≡ rest.scope
  pub path : whole.goes_on ≡ rest.goes_on
  pub blame : whole.blame ≡ rest.blame

-- at first all is to come
pub leads_at_first : (whole : Piece) (before : List Instruction) → Leads whole whole before before
leads_at_first whole before = record { code = refl; scope = refl; path = refl; blame = refl }

-- and then one statement less
pub leads_on : (n : Numbers) (whole : Piece) (reached : Bool) (s : PlusStatement) (ss : List PlusStatement)
    (before now after : List Instruction) (scope after_scope : Scope) (path : Bool)
    → Leads whole (sequence n scope (length now) reached (s ∷ ss)) before now
    → IsWritten (reached_piece reached (piece n scope (length now) s)) now after after_scope path → (piece n scope (length now) s).blame
    ≡ None → Leads whole (sequence n after_scope (length after) path ss) before after
leads_on n whole reached s ss before now after scope after_scope path leads written none =
    let one = reached_piece reached (piece n scope (length now) s) in
    let rest = sequence n one.scope (length now + length one.code) one.goes_on ss in
    let long : length after ≡ length now + length one.code = ap length written.code ∙ length-append now one.code in
    let same : sequence n after_scope (length after) path ss ≡ rest =
    ap (λ k. sequence n k (length after) path ss) written.locals
    ∙ ap (λ k. sequence n one.scope k path ss) long
    ∙ ap (λ k. sequence n one.scope (length now + length one.code) k ss) written.path in
    let next : Leads whole rest before after = record {
      code = leads.code ∙ sym (append_assoc now one.code rest.code) ∙ ap (λ l. l ++ rest.code) (sym written.code);
      scope = leads.scope;
      path = leads.path;
      blame = leads.blame ∙ ap (λ b. first_of b rest.blame) none;
    } in
    subst (λ k. Leads whole k before after) (sym same) next

-- in the end all is written
pub leads_to_end : (whole : Piece) (before now : List Instruction) (scope : Scope) (reached : Bool)
    → Leads whole (no_piece scope reached) before now → IsWritten whole before now scope reached
leads_to_end whole before now scope reached leads = record { code = sym (leads.code ∙ append-nil now); locals = sym leads.scope; path = sym leads.path }

-- SCOPES

mutual
  -- no local goes
  pub grows : (n : Numbers) (scope : Scope) (place : ℕ) (s : PlusStatement) → length scope ≤ length (piece n scope place s).scope
  grows n scope place (Block' shape ss) = grow n scope place true ss
  grows n scope place (Temporary names) = omega (arith, length-append scope (map string_bytes names.items))
  grows n scope place (Assign name e) = omega arith
  grows n scope place (If' test x a other) =
      let inside = place + length (expression_code n scope test) + 1 in
      let first = piece n scope inside a in
      let behind = inside + length first.code + leap_length (has_else other && first.goes_on) in
      let here = grows n scope inside a in
      let there = grows_in_else n first.scope behind other in
      omega (arith, here, there)
  grows n scope place (While' test x a) = grows n scope (place + length (expression_code n scope test) + 1) a
  grows n scope place (Returns None) = omega arith
  grows n scope place (Returns (Some e)) = omega arith

  grows_in_else : (n : Numbers) (scope : Scope) (place : ℕ) (other : Held-PlusStatement-If-2) → length scope ≤ length (else_piece n scope place other).scope
  grows_in_else n scope place None' = omega arith
  grows_in_else n scope place (Some' x a) = grows n scope place a

  grow : {m : _} (n : Numbers) (scope : Scope) (place : ℕ) (reached : Bool) (ss : Row_of-PlusStatement m) → length scope
      ≤ length (pieces n scope place reached ss).scope
  grow n scope place reached end_of-PlusStatement = omega arith
  grow n scope place reached (more_of-PlusStatement s ss) =
      let one = reached_piece reached (piece n scope place s) in
      let here = grows n scope place s in
      let there = grow n one.scope (place + length one.code) one.goes_on ss in
      omega (arith, here, there)

-- nor in a list of statements
pub sequence_grows : (n : Numbers) (scope : Scope) (place : ℕ) (reached : Bool) (ss : List PlusStatement) → length scope
    ≤ length (sequence n scope place reached ss).scope
sequence_grows n scope place reached [] = omega arith
sequence_grows n scope place reached (s ∷ ss) =
    let one = reached_piece reached (piece n scope place s) in
    let here = grows n scope place s in
    let there = sequence_grows n one.scope (place + length one.code) one.goes_on ss in
    omega (arith, here, there)

-- FAULTS

-- a fault that is explained where more locals come behind
pub judged_wider : {A : Type 0} (first : Option Blame) (over wider : Type 0) (answer : Result A CompileFault) → (over → wider)
    → Judges first over answer → Judges first wider answer
judged_wider first over wider (Ok x) more judged = judged
judged_wider first over wider (Err (faults.Unknown operand)) more judged = judged
judged_wider first over wider (Err (faults.Arguments call)) more judged = judged
judged_wider first over wider (Err (faults.Target name)) more judged = judged
judged_wider first over wider (Err faults.Limit) more judged = more judged
judged_wider first over wider (Err faults.Memory) more judged = judged

-- a fault that is passed on
pub judged_on : (A B : Type 0) (first : Option Blame) (over : Type 0) (fault : CompileFault) (answer : Result B CompileFault)
    → IsErrAnd answer (λ e. fault ≡ e) → Judges {A = A} first over (Err fault) → Judges {A = B} first over answer
judged_on A B first over fault (Ok x) passed judged = absurd passed
judged_on A B first over fault (Err e) passed judged = subst (λ f. Judges {A = B} first over (Err f)) passed (retold A B first over fault judged)
  where
    retold : (A B : Type 0) (first : Option Blame) (over : Type 0) (fault : CompileFault) → Judges {A = A} first over (Err fault)
        → Judges {A = B} first over (Err fault)
    retold A B first over (faults.Unknown operand) judged = judged
    retold A B first over (faults.Arguments call) judged = judged
    retold A B first over (faults.Target name) judged = judged
    retold A B first over faults.Limit judged = judged
    retold A B first over faults.Memory judged = judged

-- an IF with ELSE, as it lies in memory
pub if_with_else_is : (n : Numbers) (scope : Scope) (place : ℕ) (test : Expression) (first other : Box PlusStatement Global)
    → piece n scope place (If test first (Some other)) ≡ if_with_else n scope place test first.value other.value
if_with_else_is n scope place test first other = refl

module _ (n : Numbers) (scope : Scope) (test : Expression) (before : List Instruction) (a b : PlusStatement) (none : first_blame n scope test ≡ None) where
  -- a fault in the first branch of an IF
  pub judged_in_first : (opened : List Instruction) (fault : CompileFault) → opened ≡ opened_code n scope test before
      → Judges {A = Bool} (piece n scope (length opened) a).blame (most_locals < length (piece n scope (length opened) a).scope)
      (Err fault) → Judges {A = Bool} (if_with_else n scope (length before) test a b).blame
      (most_locals < length (if_with_else n scope (length before) test a b).scope) (Err fault)
  judged_in_first opened fault opens judged =
      let place = inside n scope test before in
      let one = piece n scope place a in
      let behind = place + length one.code + leap_length one.goes_on in
      let two = piece n one.scope behind b in
      let long : length opened ≡ place = ap length opens ∙ inside_is before (tested n scope test before) (JumpIfZero 0) in
      let own = subst (λ k. Judges {A = Bool} (piece n scope k a).blame (most_locals < length (piece n scope k a).scope) (Err fault)) long judged in
      let grown = grows n one.scope behind b in
      let wide = judged_wider {A = Bool} one.blame (most_locals < length one.scope) (most_locals < length two.scope) (Err fault)
      (λ over. omega (arith, over, grown)) own in
      judged_second {A = Bool} (first_blame n scope test) (first_of one.blame two.blame) (most_locals < length two.scope) (Err fault) none
      (judged_first Bool Bool one.blame two.blame (most_locals < length two.scope) fault wide)

  -- where the second branch begins
  second_begins : (opened after leap_code led_code : List Instruction) (first_scope : Scope) (skips : Bool) (at : ℕ) → opened
      ≡ opened_code n scope test before → IsWritten (piece n scope (length opened) a) opened after first_scope skips → leap_code ≡ after
      ++ when skips (Jump 0 ∷ []) → led_code ≡ slice_set leap_code at (JumpIfZero (target (length leap_code))) → length led_code
      ≡ inside n scope test before + length (piece n scope (inside n scope test before) a).code
      + leap_length (piece n scope (inside n scope test before) a).goes_on
  second_begins opened after leap_code led_code first_scope skips at opens first leap_is led_is =
      let one = written_inside n scope test before a opened after first_scope skips opens first in
      let long = long_inside n scope test before (piece n scope (inside n scope test before) a).code after one.code in
      let led : length led_code ≡ length leap_code = ap length led_is ∙ length-set leap_code at (JumpIfZero (target (length leap_code))) in
      let leaps : length leap_code ≡ length after + leap_length skips = ap length leap_is ∙ length-append after (when skips (Jump 0 ∷ []))
      ∙ ap (λ k. length after + k) (long_leap skips) in
      led ∙ leaps ∙ ap (λ k. k + leap_length skips) long
      ∙ ap (λ k. inside n scope test before + length (piece n scope (inside n scope test before) a).code + leap_length k) one.path
    where
      long_leap : (skips : Bool) → length (when skips (Jump 0 ∷ [])) ≡ leap_length skips
      long_leap true = refl
      long_leap false = refl

  -- a fault in the second branch
  pub judged_in_second : (opened after leap_code led_code : List Instruction) (first_scope : Scope) (skips : Bool) (at : ℕ)
      (fault : CompileFault) → opened ≡ opened_code n scope test before
      → IsWritten (piece n scope (length opened) a) opened after first_scope skips → (piece n scope (length opened) a).blame ≡ None
      → leap_code ≡ after ++ when skips (Jump 0 ∷ []) → led_code ≡ slice_set leap_code at (JumpIfZero (target (length leap_code)))
      → Judges {A = Bool} (piece n first_scope (length led_code) b).blame
      (most_locals < length (piece n first_scope (length led_code) b).scope) (Err fault)
      → Judges {A = Bool} (if_with_else n scope (length before) test a b).blame
      (most_locals < length (if_with_else n scope (length before) test a b).scope) (Err fault)
  judged_in_second opened after leap_code led_code first_scope skips at fault opens first nobody leap_is led_is judged =
      let place = inside n scope test before in
      let one = piece n scope place a in
      let behind = place + length one.code + leap_length one.goes_on in
      let two = piece n one.scope behind b in
      let long : length opened ≡ place = ap length opens ∙ inside_is before (tested n scope test before) (JumpIfZero 0) in
      let none_first : one.blame ≡ None = subst (λ k. (piece n scope k a).blame ≡ None) long nobody in
      let scopes = (written_inside n scope test before a opened after first_scope skips opens first).locals in
      let here = second_begins opened after leap_code led_code first_scope skips at opens first leap_is led_is in
      let judged = subst (λ k. Judges {A = Bool} (piece n first_scope k b).blame (most_locals < length (piece n first_scope k b).scope)
      (Err fault)) here judged in
      let judged = subst (λ k. Judges {A = Bool} (piece n k behind b).blame (most_locals < length (piece n k behind b).scope) (Err fault)) scopes judged in
      judged_second {A = Bool} (first_blame n scope test) (first_of one.blame two.blame) (most_locals < length two.scope) (Err fault) none
      (judged_second {A = Bool} one.blame two.blame (most_locals < length two.scope) (Err fault) none_first judged)

-- a fault in a statement of a block
pub judged_in_sequence : (n : Numbers) (whole : Piece) (reached : Bool) (s : PlusStatement) (ss : List PlusStatement)
    (before now : List Instruction) (scope : Scope) (fault : CompileFault)
    → Leads whole (sequence n scope (length now) reached (s ∷ ss)) before now
    → Judges {A = Bool} (piece n scope (length now) s).blame (most_locals < length (piece n scope (length now) s).scope) (Err fault)
    → Judges {A = Bool} whole.blame (most_locals < length whole.scope) (Err fault)
judged_in_sequence n whole reached s ss before now scope fault leads judged =
    let one = reached_piece reached (piece n scope (length now) s) in
    let rest = sequence n one.scope (length now + length one.code) one.goes_on ss in
    let grown = sequence_grows n one.scope (length now + length one.code) one.goes_on ss in
    let wide = judged_wider {A = Bool} one.blame (most_locals < length one.scope) (most_locals < length rest.scope) (Err fault)
    (λ over. omega (arith, over, grown)) judged in
    let own = judged_first Bool Bool one.blame rest.blame (most_locals < length rest.scope) fault wide in
    subst (λ b. Judges {A = Bool} b (most_locals < length whole.scope) (Err fault)) (sym leads.blame)
    (subst (λ k. Judges {A = Bool} (first_of one.blame rest.blame) (most_locals < length k) (Err fault)) (sym leads.scope) own)

-- a fault that blames nobody is of a limit or of memory
pub limit_alone : (A B : Type 0) (first : Option Blame) (over wider : Type 0) (fault : CompileFault) → (over → wider)
    → Judges {A = A} None over (Err fault) → Judges {A = B} first wider (Err fault)
limit_alone A B first over wider (faults.Unknown operand) more judged = absurd (cc)
limit_alone A B first over wider (faults.Arguments call) more judged = absurd (cc)
limit_alone A B first over wider (faults.Target name) more judged = absurd (cc)
limit_alone A B first over wider faults.Limit more judged = more judged
limit_alone A B first over wider faults.Memory more judged = judged
