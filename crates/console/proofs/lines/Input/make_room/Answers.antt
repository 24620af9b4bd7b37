-- `console::lines::Input::make_room` meets its contract: what is left goes to the start, whatever is left.
use Rattle.console.proofs.LineLaws.{left_moved}
use Rattle.console.proofs.lines.Input.make_room.Goals as goal

pub returns-clause-leaves : goal.returns-clause-leaves
returns-clause-leaves c =
    left_moved c.args.self.now c.unfinished-left.result c.move_to_start.new.s c.unfinished-left.ensures c.move_to_start.ensures.leaves
