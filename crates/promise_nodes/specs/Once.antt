-- Nodes that stand once.
use Rattle.std.specs.Prelude.{◌≡◌, List, [], ◌∷◌, None}
use Rattle.kj_model.specs.Nodes.{Entry, form_at}

-- no number stands twice
abbrev pub AreOnce : List Entry → Type 0
AreOnce [] = Unit {0}
AreOnce (e ∷ es) = (form_at e.number es ≡ None) × AreOnce es
