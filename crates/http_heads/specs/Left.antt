-- What an iterator over a list of values has still to give.
use Rattle.std.specs.Prelude.{ℕ, List, ◌++◌}
use Rattle.http_heads.specs.declared.list.Elements.{Elements}
use Rattle.http_heads.specs.Values.{elements_of_rest, list_of}

abbrev pub elements_left : Elements → List (List ℕ)
elements_left it = elements_of_rest it.rest ++ list_of it.name.now it.fields.now
