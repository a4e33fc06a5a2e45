use Rattle.gw_stops.proofs.Activations.{stuck_activations_have_no_outcome, empty_stack_stops, full_stack_stops, full_stack_has_no_room}
use Rattle.gw_stops.proofs.Activations.{jump_out_stops, absent_procedure_stops, call_of_absent_stops, get_of_absent_stops, set_of_absent_stops}
use Rattle.gw_stops.proofs.Activations.{unset_value_stops}
use Rattle.gw_stops.proofs.Stops.{release_of_anothers_stops, seize_of_ones_own_stops, terminate_while_owning_stops, assemble_while_owning_stops}
use Rattle.gw_stops.proofs.Stops.{leave_of_too_much_stops, depart_of_too_much_stops, enter_above_capacity_stops, missing_block_stops}
use Rattle.gw_stops.proofs.Stops.{move_to_no_target_stops, choice_of_no_target_stops, copies_to_no_target_stop, members_to_no_target_stop}
use Rattle.gw_stops.proofs.Stops.{operand_without_value_stops, loop_by_unset_stops, return_by_unset_stops, interval_without_value_stops}
use Rattle.gw_stops.proofs.Stops.{arrival_without_value_has_no_start}
use Rattle.gw_stops.proofs.laws.error_stops_are_stuck.Goals as goal

pub returns-clause-release : goal.returns-clause-release
returns-clause-release c = release_of_anothers_stops

pub returns-clause-seize : goal.returns-clause-seize
returns-clause-seize c = seize_of_ones_own_stops

pub returns-clause-terminate : goal.returns-clause-terminate
returns-clause-terminate c = terminate_while_owning_stops

pub returns-clause-assemble : goal.returns-clause-assemble
returns-clause-assemble c = assemble_while_owning_stops

pub returns-clause-leave : goal.returns-clause-leave
returns-clause-leave c = leave_of_too_much_stops

pub returns-clause-depart : goal.returns-clause-depart
returns-clause-depart c = depart_of_too_much_stops

pub returns-clause-enter : goal.returns-clause-enter
returns-clause-enter c = enter_above_capacity_stops

pub returns-clause-missing : goal.returns-clause-missing
returns-clause-missing c = missing_block_stops

pub returns-clause-moves : goal.returns-clause-moves
returns-clause-moves c = move_to_no_target_stops

pub returns-clause-choices : goal.returns-clause-choices
returns-clause-choices c = choice_of_no_target_stops

pub returns-clause-copies : goal.returns-clause-copies
returns-clause-copies c = copies_to_no_target_stop

pub returns-clause-members : goal.returns-clause-members
returns-clause-members c = members_to_no_target_stop

pub returns-clause-operands : goal.returns-clause-operands
returns-clause-operands c = operand_without_value_stops

pub returns-clause-loops : goal.returns-clause-loops
returns-clause-loops c = loop_by_unset_stops

pub returns-clause-returning : goal.returns-clause-returning
returns-clause-returning c = return_by_unset_stops

pub returns-clause-interval : goal.returns-clause-interval
returns-clause-interval c = interval_without_value_stops

pub returns-clause-start : goal.returns-clause-start
returns-clause-start c = arrival_without_value_has_no_start

pub returns-clause-stuck : goal.returns-clause-stuck
returns-clause-stuck c = stuck_activations_have_no_outcome

pub returns-clause-empty : goal.returns-clause-empty
returns-clause-empty c = empty_stack_stops

pub returns-clause-full : goal.returns-clause-full
returns-clause-full c = full_stack_stops

pub returns-clause-room : goal.returns-clause-room
returns-clause-room c = full_stack_has_no_room

pub returns-clause-outside : goal.returns-clause-outside
returns-clause-outside c = jump_out_stops

pub returns-clause-absent : goal.returns-clause-absent
returns-clause-absent c = absent_procedure_stops

pub returns-clause-calls : goal.returns-clause-calls
returns-clause-calls c = call_of_absent_stops

pub returns-clause-gets : goal.returns-clause-gets
returns-clause-gets c = get_of_absent_stops

pub returns-clause-sets : goal.returns-clause-sets
returns-clause-sets c = set_of_absent_stops

pub returns-clause-unset : goal.returns-clause-unset
returns-clause-unset c = unset_value_stops
