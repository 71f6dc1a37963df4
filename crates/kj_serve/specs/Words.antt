-- The forms of the program's words.
use Rattle.std.specs.Prelude.{◌≡◌, ℕ, ◌*◌, ◌<◌, ◌≤◌, ◌^◌, List, [], ◌∷◌, map, String, string_bytes, codes, decimal}
use Rattle.std.specs.declared.alloc.Global.{Global}
use Rattle.conn_record.specs.declared.read.TheConstants.{MAX_CONNS}
use Rattle.kj_serve.specs.declared.forms.Form.{Form}
use Rattle.kj_serve.specs.declared.forms.Form.TheVariants.{Run, Replay, Make}
use Rattle.kj_serve.specs.declared.forms.TheConstants.{MAX_REQUESTS, MAX_REQUESTS_IN_ALL}
use Rattle.kj_serve.specs.declared.replay.ServiceName.{ServiceName}
use Rattle.kj_serve.specs.declared.replay.ServiceName.TheVariants.{Echo, Target}

-- the texts of the words
abbrev pub texts_of : List (String Global) → List (List ℕ)
texts_of words = map (λ (w : String Global). string_bytes w) words

-- the word of a service
abbrev pub service_word : ServiceName → List ℕ
service_word Echo = codes "echo"
service_word Target = codes "target"

-- the words of a form
abbrev pub form_words : Form → List (List ℕ)
form_words Run = codes "run" ∷ []
form_words (Replay service) = codes "replay" ∷ codes "1" ∷ service_word service ∷ []
form_words (Make number conns requests) =
    codes "make" ∷ decimal number ∷ decimal conns ∷ decimal requests ∷ []

-- the limits of its numbers
abbrev pub FormFits : Form → Type 0
FormFits Run = Unit {0}
FormFits (Replay service) = Unit {0}
FormFits (Make number conns requests) =
    (number < 2 ^ 64) × (0 < conns) × (conns ≤ MAX_CONNS)
    × (0 < requests) × (requests ≤ MAX_REQUESTS) × (conns * requests ≤ MAX_REQUESTS_IN_ALL)

-- these texts are the words of a form, within its limits
abbrev pub IsFormOf : List (List ℕ) → Form → Type 0
IsFormOf texts form = FormFits form × (texts ≡ form_words form)

-- these words are of a form
abbrev pub IsForm : List (String Global) → Form → Type 0
IsForm words form = IsFormOf (texts_of words) form

-- these texts, or these words, are of no form
abbrev pub IsNoFormOf : List (List ℕ) → Type 0
IsNoFormOf texts = (form : Form) → IsFormOf texts form → ⊥

abbrev pub IsNoForm : List (String Global) → Type 0
IsNoForm words = (form : Form) → IsForm words form → ⊥
