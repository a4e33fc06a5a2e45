-- What blocks do with user chains, and the edges to these and from them.
use Rattle.std.proofs.Common.{◌≡◌, [], refl}
use Rattle.gw_object.specs.declared.blocks.Link.{Link}
use Rattle.gw_object.specs.declared.blocks.Unlink.{Unlink}
use Rattle.gw_object.specs.declared.blocks.Block.{Block}
use Rattle.gw_object.specs.declared.blocks.Block.TheVariants as blocks
use Rattle.gw_rules.specs.Rows.{Row}
use Rattle.gw_rules.specs.Blocks.{Table, joins, members_edges}

-- a block puts who enters it on a user chain, or sends the members of one on, or does neither
pub data ChainUse : Block → Type 0 where
  Links : (l : Link) → ChainUse (blocks.Link l)
  Unlinks : (u : Unlink) → ChainUse (blocks.Unlink u)
  Neither : {block : Block} → ((state : Row) → joins block state ≡ []) → ((table : Table) → members_edges table block ≡ []) → ChainUse block

-- what each block does with one
pub chain_use : (block : Block) → ChainUse block
chain_use (blocks.Link l) = Links l
chain_use (blocks.Unlink u) = Unlinks u
chain_use block = Neither (λ state. refl) (λ table. refl)
