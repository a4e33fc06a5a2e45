use Rattle.gw_names.proofs.known.label_all.Goals as goal

pub returns : goal.returns
returns c = record {
  uses = record {
    entity = c.requires.entity;
    sighted = c.requires.sighted;
    declared = c.requires.declared;
    declaration = c.requires.declaration;
    parameter = c.requires.parameter;
  };
  places = record {
    block = c.in_ok-places.ensures.blocks;
    procedure = c.in_ok-places.ensures.procedures;
    equ = c.in_ok-places.ensures.equs;
    equ_number = c.in_ok-places.ensures.numbers;
  };
}
