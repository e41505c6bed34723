-- `sends::send_block` meets its contract: the block has its TYPE and its bytes. Assumes nothing.
use Rattle.sends.proofs.send_block.Goals as goal

pub returns : goal.returns
returns c = rw (c.block_type.ensures, c.block-d.ensures) at c.lay.ensures
