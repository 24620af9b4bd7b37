-- `octets::blocks::add_block` meets its contract: after all places, those still to be added are none.
use mathlib.Core.Path.{sym, ◌∙◌}
use borrow.Author.Rules.{rules}
use Rattle.octets.proofs.BlockLaws.{added_end}
use Rattle.octets.proofs.blocks.add_block.Goals as goal

pub returns : goal.returns
returns c =
    sym (added_end _ c.args.block.now 127 (search rules)) ∙ c.add_places-2.ensures ∙ c.add_places.ensures
