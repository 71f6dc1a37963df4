-- Hubs that lose their name.
use Rattle.std.specs.Prelude.{Option, None, Some, false}
use Rattle.kj_base.specs.declared.nodes.Form.{Form as FormCase}
use Rattle.kj_base.specs.declared.nodes.Form.TheVariants.{Hub as HubCase}

-- the form of a hub without its name, where it is a hub's
abbrev pub unnamed_form : FormCase → Option FormCase
unnamed_form (HubCase content is_named) = Some (HubCase content false)
unnamed_form other = None
