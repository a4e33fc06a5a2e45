use Rattle.std.proofs.Common.{◌≡◌, ℕ, List, drop}
use Rattle.std.specs.Option.{option_or}
use Rattle.gw_names.specs.Known.{found_in}
use Rattle.gw_names.specs.Places.{last_of}
use Rattle.gw_pieces.specs.Naming.{entries_from, callee_of_origin, equ_of_origin}
use Rattle.gw_pieces.proofs.naming.put_meanings.Given as goal

-- those that are left go before those so far
abbrev pub invariant-loop-i : goal.invariant-loop-i
invariant-loop-i l = record {
  procedures : (name : List ℕ)
      → option_or (last_of (entries_from (callee_of_origin l.text.statements.items) 0 l.order) name)
      (found_in l.fn.meanings.procedures name)
      ≡ option_or (last_of (entries_from (callee_of_origin l.text.statements.items) l.i (drop l.i l.order)) name) (found_in l.meanings.procedures name);
  equs : (name : List ℕ) → option_or (last_of (entries_from (equ_of_origin l.text.statements.items) 0 l.order) name)
      (found_in l.fn.meanings.equs name)
      ≡ option_or (last_of (entries_from (equ_of_origin l.text.statements.items) l.i (drop l.i l.order)) name) (found_in l.meanings.equs name);
}
