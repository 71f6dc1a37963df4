-- Hubs without a name.
use Rattle.std.specs.Prelude.{Bool, true, false}
use Rattle.kj_model.specs.Nodes.{Form, Hub}

-- a hub whose name went
abbrev pub is_nameless : Form → Bool
is_nameless (Hub content false branches) = true
is_nameless other = false
