use Rattle.name_table.proofs.Leaving.{left_stands}
use Rattle.name_tree.proofs.names.NameTreeNames.left.Goals as goal

pub returns-clause-stands : goal.returns-clause-stands
returns-clause-stands c w st = left_stands c.args._node.number.0 c.args._leaving c.args.self.now w st
