-- The figures of a state: the numbers that a report tells, exact, as they lie in the state.
use Rattle.std.specs.Prelude.{ℕ, ℤ, pos, false, List, [], map, length, sum, slice_index_or}
use Rattle.std.specs.List.{range_with_len}
use Rattle.gw_num.specs.Table.{at}
use Rattle.gw_transactions.specs.Transactions.{here_count}
use Rattle.gw_entities.specs.Contents.{empty}
use Rattle.gw_entities.specs.Facility.{idle}
use Rattle.gw_entities.specs.Storage.{vacant}
use Rattle.gw_entities.specs.Table.{table_at}
use Rattle.gw_scan.specs.declared.sim.Status.{Status}
use Rattle.gw_scan.specs.Answers.{status_at}
use Rattle.gw_step.specs.State.{State, delay_list, user_chain}
use Rattle.gw_step.specs.Job.{Progress}
use Rattle.gw_report.specs.declared.entries.BlockFigures.{BlockFigures}
use Rattle.gw_report.specs.declared.entries.TableFigures.{TableFigures}
use Rattle.gw_report.specs.declared.entries.EntityFigures.{EntityFigures}

-- the figures of a state: how it stands, its clock, steps, entries and count, those of each block, and
-- of each entity, and how many values each class of each table has
pub record Figures : Type 0 where
  pub status : Status
  pub clock : ℤ
  pub steps : ℕ
  pub entries : ℕ
  pub count : ℤ
  pub blocks : List BlockFigures
  pub entities : List EntityFigures
  pub classes : List (List ℕ)

-- OF A STATE

-- the figures of the block of a number
abbrev pub figures_of_block : State → ℕ → BlockFigures
figures_of_block s b = record { entries = at 0 s.entries b; here = here_count b s.transactions }

-- the figures of the table of a number
abbrev pub figures_of_table : State → ℕ → TableFigures
figures_of_table s e =
    let table = table_at e s.entities.tables in record { count = table.count; sum = table.sum }

-- the figures of the entity of a number, as each kind that it may be of
abbrev pub figures_of_entity : State → ℕ → EntityFigures
figures_of_entity s e =
    record {
      facility = at idle s.entities.facilities e;
      storage = at (vacant 0) s.entities.storages e;
      queue = at empty s.entities.queues e;
      switch = at false s.entities.switches e;
      savevalue = at (pos 0) s.entities.savevalues e;
      table = figures_of_table s e;
      waiting = length (delay_list e s);
      members = length (user_chain e s);
    }

-- the classes of the table of a number
abbrev pub classes_of : State → ℕ → List ℕ
classes_of s e = (table_at e s.entities.tables).classes

-- those of each block of a job and its state, in order
abbrev pub block_figures : Progress → List BlockFigures
block_figures p = map (figures_of_block p.state) (range_with_len 1 (length p.job.parts.blocks))

-- those of each entity
abbrev pub entity_figures : Progress → List EntityFigures
entity_figures p = map (figures_of_entity p.state) (range_with_len 0 (length p.job.parts.entities))

-- and the classes of each
abbrev pub entity_classes : Progress → List (List ℕ)
entity_classes p = map (classes_of p.state) (range_with_len 0 (length p.job.parts.entities))

-- the figures of a job and its state
abbrev pub figures_of : Progress → Figures
figures_of p =
    record {
      status = status_at p.state.ended;
      clock = p.state.clock;
      steps = p.state.steps;
      entries = sum p.state.entries;
      count = p.state.count;
      blocks = block_figures p;
      entities = entity_figures p;
      classes = entity_classes p;
    }

-- OF A PLACE

-- of a block where nothing came to pass
abbrev pub no_block : BlockFigures
no_block = record { entries = 0; here = 0 }

-- of an entity where nothing came to pass
abbrev pub no_entity : EntityFigures
no_entity =
    record {
      facility = idle;
      storage = vacant 0;
      queue = empty;
      switch = false;
      savevalue = pos 0;
      table = record { count = 0; sum = pos 0 };
      waiting = 0;
      members = 0;
    }

-- those of the block at a place, from 0
abbrev pub block_at : ℕ → Figures → BlockFigures
block_at i f = slice_index_or f.blocks i no_block

-- those of the entity of a number, from 0
abbrev pub entity_at : ℕ → Figures → EntityFigures
entity_at e f = slice_index_or f.entities e no_entity

-- the classes of the table of a number, from 0
abbrev pub classes_at : ℕ → Figures → List ℕ
classes_at e f = slice_index_or f.classes e []
