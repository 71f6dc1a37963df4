-- Requests one after another, and the output that answers them.
use Rattle.std.proofs.Common.{◌≡◌, ℕ, suc, ◌-◌, ◌≤◌, true, false, Option, Some, None, Result, Ok, Err, List, [], ◌∷◌, ◌++◌, length, drop, refl, sym, ap, subst, ◌∙◌, arith}
use Rattle.std.specs.Prelude.{IfSome, IsErr}
use Rattle.std.proofs.lemmas.List.{append-nil, append_assoc}
use Rattle.std.proofs.lemmas.Grind.{flat_map-append}
use Rattle.http_heads.specs.Framing.{persists}
use Rattle.http_core.specs.declared.message.Request.{Request}
use Rattle.http_core.specs.declared.message.Answer.{Answer}
use Rattle.http_core.specs.declared.message.End.TheVariants.{Closed, Bad}
use Rattle.http_core.specs.declared.read.Part.{Part}
use Rattle.http_core.specs.declared.read.RequestRead.{RequestRead}
use Rattle.http_core.specs.declared.read.RequestRead.TheVariants.{More, Whole, Fault}
use Rattle.http_core.specs.Text.{fault_text}
use Rattle.http_core.specs.Requests.{skip_pairs, IsRequest, Along, reply, replies}
use Rattle.http_core.specs.Reading.{IsReading, ReadsOn}
use Rattle.kj_base.specs.declared.memory.NoMemory.{NoMemory}
use Rattle.http_core.specs.declared.connection.AfterPiece.{AfterPiece}
use Rattle.http_core.specs.Serving.{Answered, AnsweredAll, Serves, Grows}
use Rattle.http_core.proofs.SkipLemmas.{skip_front}
use Rattle.http_core.proofs.RequestLemmas.{request_append, request_long}

-- ---- requests one after another

pub request_more : (bytes rest more : List ℕ) (r : Request) → IsRequest (skip_pairs bytes) r rest → IsRequest (skip_pairs (bytes ++ more)) r (rest ++ more)
request_more bytes rest more r is =
    let long : 2 ≤ length (skip_pairs bytes) = omega (arith, request_long (skip_pairs bytes) rest r is) in
    subst (λ (b : List ℕ). IsRequest b r (rest ++ more)) (sym (skip_front bytes more long)) (request_append (skip_pairs bytes) r rest more is)

pub along_more : (requests : List Request) (bytes rest more : List ℕ) → Along requests bytes rest → Along requests (bytes ++ more) (rest ++ more)
along_more [] bytes rest more along = ap (λ (b : List ℕ). b ++ more) along
along_more (r ∷ requests) bytes rest more along = (along.0 ++ more, request_more bytes along.0 more r along.1, along.2, along_more requests along.0 rest more along.3)

pub along_push : (requests : List Request) (bytes at behind : List ℕ) (r : Request) → Along requests bytes at → IsRequest (skip_pairs at) r behind → persists r.head ≡ true → Along (requests ++ r ∷ []) bytes behind
along_push [] bytes at behind r along is goes = (behind, subst (λ (b : List ℕ). IsRequest (skip_pairs b) r behind) (sym along) is, goes, refl)
along_push (q ∷ requests) bytes at behind r along is goes = (along.0, along.1, along.2, along_push requests along.0 at behind r along.3 is goes)

-- requests, and then those of the rest
pub along_along : (requests others : List Request) (bytes middle rest : List ℕ) → Along requests bytes middle → Along others middle rest → Along (requests ++ others) bytes rest
along_along [] others bytes middle rest along then_these = subst (λ (b : List ℕ). Along others b rest) (sym along) then_these
along_along (r ∷ requests) others bytes middle rest along then_these = (along.0, along.1, along.2, along_along requests others along.0 middle rest along.3 then_these)

-- ---- the output

pub grows_none : (xs : List ℕ) → Grows xs xs
grows_none xs = ([], sym (append-nil xs))

pub grows_on : (xs ys zs : List ℕ) → Grows xs ys → Grows ys zs → Grows xs zs
grows_on xs ys zs first then_more = (first.0 ++ then_more.0, then_more.1 ∙ ap (λ (b : List ℕ). b ++ then_more.0) first.1 ∙ append_assoc xs first.0 then_more.0)

pub output_push : (told : Option (Request → Answer)) (requests : List Request) (r : Request) (before after pushed : List ℕ) → IfSome told (λ f. after ≡ before ++ replies f requests) → IfSome told (λ f. pushed ≡ after ++ reply f r)
    → IfSome told (λ f. pushed ≡ before ++ replies f (requests ++ r ∷ []))
output_push None requests r before after pushed so_far next = tt
output_push (Some f) requests r before after pushed so_far next =
    next ∙ ap (λ (b : List ℕ). b ++ reply f r) so_far ∙ append_assoc before (replies f requests) (reply f r)
    ∙ ap (λ (b : List ℕ). before ++ b) (sym (flat_map-append (reply f) requests (r ∷ []) ∙ ap (λ (b : List ℕ). replies f requests ++ b) (append-nil (reply f r))))

pub output_end : (told : Option (Request → Answer)) (requests : List Request) (before after pushed more : List ℕ) → IfSome told (λ f. after ≡ before ++ replies f requests) → pushed ≡ after ++ more → IfSome told (λ f. pushed ≡ before ++ replies f requests ++ more)
output_end None requests before after pushed more so_far text = tt
output_end (Some f) requests before after pushed more so_far text = text ∙ ap (λ (b : List ℕ). b ++ more) so_far

pub output_same : (told : Option (Request → Answer)) (requests : List Request) (before after pushed : List ℕ) → pushed ≡ after → IfSome told (λ f. after ≡ before ++ replies f requests) → IfSome told (λ f. pushed ≡ before ++ replies f requests)
output_same told requests before after pushed same so_far = subst (λ (b : List ℕ). IfSome told (λ f. b ≡ before ++ replies f requests)) (sym same) so_far

pub output_none : (told : Option (Request → Answer)) (output : List ℕ) → IfSome told (λ f. output ≡ output ++ replies f [])
output_none None output = tt
output_none (Some f) output = sym (append-nil output)

-- ---- a piece that is served

-- some requests were answered, and a step was made on what is left of the piece
pub record Serving (told : Option (Request → Answer)) (whole before after rest : List ℕ) (step : RequestRead) : Type 0 where
  pub requests : List Request
  pub seen : List ℕ
  pub along : Along requests whole (seen ++ rest)
  pub steps : ReadsOn seen rest step
  pub output : IfSome told (λ f. after ≡ before ++ replies f requests)

-- how many octets a step left, and one: each further step leaves fewer
abbrev pub left_of : RequestRead → ℕ
left_of (More part) = 0
left_of (Whole request left) = suc left
left_of (Fault code) = 0

pub serving_as : (told : Option (Request → Answer)) (whole before after rest : List ℕ) (a b : RequestRead) → a ≡ b → Serving told whole before after rest a → Serving told whole before after rest b
serving_as told whole before after rest a b same serving = subst (Serving told whole before after rest) same serving

pub serve_first : (told : Option (Request → Answer)) (bytes piece before : List ℕ) (step : RequestRead) → ReadsOn bytes piece step → Serving told (bytes ++ piece) before before piece step
serve_first told bytes piece before step steps = record { requests = []; seen = bytes; along = refl; steps = steps; output = output_none told before }

pub serve_nothing : (told : Option (Request → Answer)) (whole before after : List ℕ) → after ≡ before → Answered told whole before after
serve_nothing told whole before after same = record { requests = []; rest = whole; along = refl; output = output_same told [] before before after same (output_none told before) }

pub serve_more : (told : Option (Request → Answer)) (whole before after rest : List ℕ) (part : Part) → Serving told whole before after rest (More part) → (is : Answered told whole before after) × IsReading part is.rest
serve_more told whole before after rest part serving = (record { requests = serving.requests; rest = serving.seen ++ rest; along = serving.along; output = serving.output }, serving.steps)

-- what is answered stays, where nothing more was written
pub serve_stopped : (told : Option (Request → Answer)) (whole before after rest pushed : List ℕ) (step : RequestRead) → pushed ≡ after → Serving told whole before after rest step → Answered told whole before pushed
serve_stopped told whole before after rest pushed step same serving = record {
  requests = serving.requests;
  rest = serving.seen ++ rest;
  along = serving.along;
  output = output_same told serving.requests before after pushed same serving.output;
}

pub serve_fault : (told : Option (Request → Answer)) (whole before after rest pushed : List ℕ) (code : ℕ) → pushed ≡ after ++ fault_text code → Serving told whole before after rest (Fault code) → AnsweredAll told (Bad code) whole before pushed
serve_fault told whole before after rest pushed code text serving = record {
  requests = serving.requests;
  all = λ more. ((serving.seen ++ rest) ++ more, along_more serving.requests whole (serving.seen ++ rest) more serving.along, serving.steps more);
  output = output_end told serving.requests before after pushed (fault_text code) serving.output text;
}

pub serve_closed : (told : Option (Request → Answer)) (whole before after rest pushed : List ℕ) (r : Request) (left : ℕ) → persists r.head ≡ false → IfSome told (λ f. pushed ≡ after ++ reply f r) → Serving told whole before after rest (Whole r left)
    → AnsweredAll told Closed whole before pushed
serve_closed told whole before after rest pushed r left stops text serving = record {
  requests = serving.requests ++ r ∷ [];
  all = λ more. (
    serving.requests,
    r,
    (serving.seen ++ rest) ++ more,
    drop (length rest - left) rest ++ more,
    refl,
    along_more serving.requests whole (serving.seen ++ rest) more serving.along,
    request_more (serving.seen ++ rest) (drop (length rest - left) rest) more r serving.steps.1,
    stops,
  );
  output = output_end told (serving.requests ++ r ∷ []) before pushed pushed [] (output_push told serving.requests r before after pushed serving.output text) (sym (append-nil pushed));
}

-- a request was answered, and the rest is what stands behind it
pub serve_on : (told : Option (Request → Answer)) (whole before after rest pushed next : List ℕ) (r : Request) (left : ℕ) → persists r.head ≡ true → IfSome told (λ f. pushed ≡ after ++ reply f r) → (left ≤ length rest → next ≡ drop (length rest - left) rest)
    → Serving told whole before after rest (Whole r left) → Answered told whole before pushed × ((step : RequestRead) → ReadsOn [] next step → Serving told whole before pushed next step)
serve_on told whole before after rest pushed next r left goes text end serving =
    let next_is = end serving.steps.0 in
    let along : Along (serving.requests ++ r ∷ []) whole next = along_push serving.requests whole (serving.seen ++ rest) next r serving.along (subst (IsRequest (skip_pairs (serving.seen ++ rest)) r) (sym next_is) serving.steps.1) goes in
    let output = output_push told serving.requests r before after pushed serving.output text in (
      record { requests = serving.requests ++ r ∷ []; rest = next; along = along; output = output },
      λ step steps. record { requests = serving.requests ++ r ∷ []; seen = []; along = along; steps = steps; output = output },
    )

pub serves_err : (told : Option (Request → Answer)) (whole before after : List ℕ) (result : Result AfterPiece NoMemory) → IsErr result → Answered told whole before after → Serves told whole before after result
serves_err told whole before after (Ok served) is answered = absurd (cc (is))
serves_err told whole before after (Err error) is answered = answered
