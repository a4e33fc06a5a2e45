use Rattle.std.proofs.Common.{◌≡◌, ℕ, List, drop}
use Rattle.std.specs.Option.{option_or}
use Rattle.gw_names.specs.Known.{found_in}
use Rattle.gw_names.specs.Places.{last_of, places_from, block_labels, block_of, declared_procedure, procedure_of, declared_equ, equ_of, numbers_below}
use Rattle.gw_names.specs.Places.{equ_number_of}
use Rattle.gw_names.proofs.places.places_in.Given as goal

-- the statements that are left go before those so far
abbrev pub invariant-loop-i : goal.invariant-loop-i
invariant-loop-i l = record {
  blocks : (label : List ℕ) → block_of l.statements label
      ≡ option_or (last_of (block_labels l.blocks (drop l.i l.statements)) label) (found_in l.places.blocks label);
  procedures : (name : List ℕ) → procedure_of l.statements name
      ≡ option_or (last_of (places_from declared_procedure l.i (drop l.i l.statements)) name) (found_in l.places.procedures name);
  equs : (name : List ℕ) → equ_of l.statements name
      ≡ option_or (last_of (places_from declared_equ l.i (drop l.i l.statements)) name) (found_in l.places.equs name);
  numbers : (name : List ℕ) → equ_number_of l.statements name ≡ numbers_below (found_in l.places.equ_numbers) (drop l.i l.statements) name;
}
