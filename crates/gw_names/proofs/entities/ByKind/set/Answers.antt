use Rattle.std.proofs.Common.{refl}
use Rattle.std.specs.Prelude.{string_bytes}
use Rattle.gw_names.proofs.Declaring.{on_ok, set_facilities, set_storages, set_queues, set_switches, set_savevalues, set_tables, set_chains}
use Rattle.gw_names.proofs.Declaring.{set_variables, set_boolean_variables, set_functions}
use Rattle.gw_names.proofs.entities.ByKind.set.Goals as goal

pub returns-in-Facility : goal.returns-in-Facility
returns-in-Facility g c =
    on_ok c.set.result (set_facilities c.args.self.now c.args.kind (string_bytes c.args.name.now) c.args.value
    (record c.args.self.now { facilities = c.set.new.map }) c.in-Facility.is refl) c.set.ensures

pub returns-in-Storage : goal.returns-in-Storage
returns-in-Storage g c =
    on_ok c.set-in-Storage.result
    (set_storages c.args.self.now c.args.kind (string_bytes c.args.name.now) c.args.value
    (record c.args.self.now { storages = c.set-in-Storage.new.map }) c.in-Storage.is refl) c.set-in-Storage.ensures

pub returns-in-Queue : goal.returns-in-Queue
returns-in-Queue g c = on_ok c.set-in-Queue.result
    (set_queues c.args.self.now c.args.kind (string_bytes c.args.name.now) c.args.value
    (record c.args.self.now { queues = c.set-in-Queue.new.map }) c.in-Queue.is refl) c.set-in-Queue.ensures

pub returns-in-Switch : goal.returns-in-Switch
returns-in-Switch g c = on_ok c.set-in-Switch.result
    (set_switches c.args.self.now c.args.kind (string_bytes c.args.name.now) c.args.value
    (record c.args.self.now { switches = c.set-in-Switch.new.map }) c.in-Switch.is refl) c.set-in-Switch.ensures

pub returns-in-Savevalue : goal.returns-in-Savevalue
returns-in-Savevalue g c =
    on_ok c.set-in-Savevalue.result
    (set_savevalues c.args.self.now c.args.kind (string_bytes c.args.name.now) c.args.value
    (record c.args.self.now { savevalues = c.set-in-Savevalue.new.map }) c.in-Savevalue.is refl) c.set-in-Savevalue.ensures

pub returns-in-Table : goal.returns-in-Table
returns-in-Table g c = on_ok c.set-in-Table.result
    (set_tables c.args.self.now c.args.kind (string_bytes c.args.name.now) c.args.value
    (record c.args.self.now { tables = c.set-in-Table.new.map }) c.in-Table.is refl) c.set-in-Table.ensures

pub returns-in-Chain : goal.returns-in-Chain
returns-in-Chain g c = on_ok c.set-in-Chain.result
    (set_chains c.args.self.now c.args.kind (string_bytes c.args.name.now) c.args.value
    (record c.args.self.now { chains = c.set-in-Chain.new.map }) c.in-Chain.is refl) c.set-in-Chain.ensures

pub returns-in-Variable : goal.returns-in-Variable
returns-in-Variable g c =
    on_ok c.set-in-Variable.result
    (set_variables c.args.self.now c.args.kind (string_bytes c.args.name.now) c.args.value
    (record c.args.self.now { variables = c.set-in-Variable.new.map }) c.in-Variable.is refl) c.set-in-Variable.ensures

pub returns-in-BooleanVariable : goal.returns-in-BooleanVariable
returns-in-BooleanVariable g c =
    on_ok c.set-in-BooleanVariable.result
    (set_boolean_variables c.args.self.now c.args.kind (string_bytes c.args.name.now) c.args.value
    (record c.args.self.now { boolean_variables = c.set-in-BooleanVariable.new.map }) c.in-BooleanVariable.is refl) c.set-in-BooleanVariable.ensures

pub returns-in-Function : goal.returns-in-Function
returns-in-Function g c =
    on_ok c.set-in-Function.result
    (set_functions c.args.self.now c.args.kind (string_bytes c.args.name.now) c.args.value
    (record c.args.self.now { functions = c.set-in-Function.new.map }) c.in-Function.is refl) c.set-in-Function.ensures
