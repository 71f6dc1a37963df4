-- What the stages of a connection over a stream stand for.
use Rattle.std.specs.Prelude.{◌≡◌, ℕ, Bool, true, false, ◌-◌, ◌≤◌, List, [], ◌∷◌, ◌++◌, length, drop, ⊤, Option, Some, None}
use Rattle.http_core.specs.declared.message.Request.{Request}
use Rattle.http_core.specs.declared.message.Answer.{Answer}
use Rattle.http_core.specs.declared.message.End.TheVariants as ends
use Rattle.http_core.specs.declared.read.Part.{Part}
use Rattle.http_core.specs.declared.read.RequestRead.{RequestRead}
use Rattle.http_core.specs.declared.read.RequestRead.TheVariants.{More, Whole, Fault}
use Rattle.http_core.specs.Text.{text}
use Rattle.http_core.specs.Requests.{skip_pairs, IsRequest, Along, Requests, replies, end_text}
use Rattle.http_core.specs.Reading.{IsReading}
use Rattle.http_stream.specs.declared.stage.Stage.{Stage}
use Rattle.http_stream.specs.declared.stage.Stage.TheVariants.{Open, Reading, Asked, Settled, Ended, Drained, Broken}

-- the last octets
abbrev pub behind : List ℕ → ℕ → List ℕ
behind octets left = drop (length octets - left) octets

-- these requests were answered, with these octets read; part is what came of the next one, request the one that is whole
abbrev pub StageStands : Stage → Part → Request → List Request → List ℕ → Type 0
StageStands (Open left) part request requests octets = (left ≤ length octets) × Along requests octets (behind octets left)
StageStands Reading part request requests octets = (rest : List ℕ) × Along requests octets rest × IsReading part rest
StageStands (Asked left) part request requests octets =
    (left ≤ length octets) × (rest : List ℕ) × Along requests octets rest × IsRequest (skip_pairs rest) request (behind octets left)
StageStands (Settled end) part request requests octets = (more : List ℕ) → Requests requests end (octets ++ more)
StageStands (Ended end) part request requests octets = Requests requests end octets
StageStands (Drained closes) part request requests octets = (rest : List ℕ) × Along requests octets rest
StageStands Broken part request requests octets = (rest : List ℕ) × Along requests octets rest

-- the texts of the answers where a drain came: the last closes where the drain began before it was made
abbrev pub DrainedTexts : Bool → (Request → Answer) → List Request → List ℕ → Type 0
DrainedTexts false f requests texts = texts ≡ replies f requests
DrainedTexts true f requests texts =
    (before : List Request) × (last : Request) × (requests ≡ before ++ last ∷ []) × (texts ≡ replies f before ++ text last (f last) true)

-- the texts that were made
abbrev pub Made : Stage → (Request → Answer) → List Request → List ℕ → Type 0
Made (Open left) f requests texts = texts ≡ replies f requests
Made Reading f requests texts = texts ≡ replies f requests
Made (Asked left) f requests texts = texts ≡ replies f requests
Made (Settled end) f requests texts = texts ≡ replies f requests ++ end_text end
Made (Ended end) f requests texts = texts ≡ replies f requests ++ end_text end
Made (Drained closes) f requests texts = DrainedTexts closes f requests texts
Made Broken f requests texts = texts ≡ replies f requests

-- what the stream has left
abbrev pub Leaves : Stage → List ℕ → Type 0
Leaves (Open left) octets = ⊤
Leaves Reading octets = ⊤
Leaves (Asked left) octets = ⊤
Leaves (Settled end) octets = ⊤
Leaves (Ended end) octets = octets ≡ []
Leaves (Drained closes) octets = ⊤
Leaves Broken octets = ⊤

-- how the connection stands after a request was read on
abbrev pub read_stage : RequestRead → Stage
read_stage (More part) = Reading
read_stage (Whole request left) = Asked left
read_stage (Fault code) = Settled (ends.Bad code)

-- whether the connection closes after an answer, by whether its request lets it go on and whether a drain began; and how it then stands
abbrev pub closes_after : Bool → Bool → Bool
closes_after true drained = drained
closes_after false drained = true

abbrev pub answered_stage : Bool → Bool → ℕ → Stage
answered_stage true true left = Drained true
answered_stage true false left = Open left
answered_stage false drained left = Settled ends.Closed

-- how it stands where a drain may have begun: a request that isn't whole is dropped
abbrev pub drained_stage : Bool → Stage → Stage
drained_stage false stage = stage
drained_stage true (Open left) = Drained false
drained_stage true Reading = Drained false
drained_stage true (Asked left) = Asked left
drained_stage true (Settled end) = Settled end
drained_stage true (Ended end) = Ended end
drained_stage true (Drained closes) = Drained closes
drained_stage true Broken = Broken

-- whether a drain ended the requests
abbrev pub is_drained : Stage → Bool
is_drained (Open left) = false
is_drained Reading = false
is_drained (Asked left) = false
is_drained (Settled end) = false
is_drained (Ended end) = false
is_drained (Drained closes) = true
is_drained Broken = false

-- whether the last answer says that the connection closes because of a drain
abbrev pub is_closing : Stage → Bool
is_closing (Open left) = false
is_closing Reading = false
is_closing (Asked left) = false
is_closing (Settled end) = false
is_closing (Ended end) = false
is_closing (Drained closes) = closes
is_closing Broken = false

-- how many octets weren't looked at behind the last request, where a look is wanted
abbrev pub unlooked : Bool → Stage → Option ℕ
unlooked true stage = None
unlooked false (Open left) = Some left
unlooked false Reading = None
unlooked false (Asked left) = None
unlooked false (Settled end) = None
unlooked false (Ended end) = None
unlooked false (Drained closes) = None
unlooked false Broken = None

-- how many octets stand behind the request that is whole, where one is
abbrev pub asked_left : Stage → Option ℕ
asked_left (Open left) = None
asked_left Reading = None
asked_left (Asked left) = Some left
asked_left (Settled end) = None
asked_left (Ended end) = None
asked_left (Drained closes) = None
asked_left Broken = None
