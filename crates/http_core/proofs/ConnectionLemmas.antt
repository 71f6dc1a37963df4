-- What a connection stands for, from one call to the next.
use Rattle.std.proofs.Common.{◌≡◌, ◌≢◌, ℕ, ◌<◌, true, false, nat_eq, Option, Some, None, Ok, List, [], ◌∷◌, ◌++◌, length, refl, sym, ap, subst, ◌∙◌, arith, inl, inr}
use Rattle.std.specs.Prelude.{IfSome}
use Rattle.std.proofs.lemmas.List.{append-nil, append_assoc, length-append}
use Rattle.std.proofs.lemmas.Bool.{eqb-true}
use Rattle.std.proofs.lemmas.Grind.{flat_map-append}
use Rattle.http_heads.specs.declared.Framing.{Framing}
use Rattle.http_heads.specs.declared.Framing.TheVariants as framings
use Rattle.http_heads.specs.Heads.{StartsWithHead, HasNoHead, StartsWell}
use Rattle.http_heads.specs.Framing.{framing_of}
use Rattle.http_core.specs.declared.message.Request.{Request}
use Rattle.http_core.specs.declared.message.Answer.{Answer}
use Rattle.http_core.specs.declared.message.End.{End}
use Rattle.http_core.specs.declared.message.End.TheVariants.{Clean, Closed, Bad}
use Rattle.http_core.specs.declared.read.Part.{Part}
use Rattle.http_core.specs.declared.read.Part.TheVariants as parts
use Rattle.http_core.specs.declared.connection.AfterPiece.{AfterPiece}
use Rattle.http_core.specs.declared.connection.ConnectionState.{ConnectionState}
use Rattle.http_core.specs.declared.connection.ConnectionState.TheVariants.{Going, Settled, Ended, Drained, Broken}
use Rattle.http_core.specs.declared.connection.Connection.{Connection}
use Rattle.http_core.specs.Text.{fault_text}
use Rattle.http_core.specs.Requests.{skip_pairs, IsBody, IsFault, Along, Requests, reply, replies, end_text, Awaits}
use Rattle.http_core.specs.Replies.{IsReplies}
use Rattle.http_core.specs.Reading.{HasBegun, IsReading}
use Rattle.http_core.specs.Serving.{Answered, AnsweredAll, Serves, is_idle}
use Rattle.http_core.specs.Standing.{IsGoing, Stands, last_text, WasFed, fed_with}
use Rattle.http_core.proofs.RequestLemmas.{front_long, fault_without_head, no_body_is_fault, no_chunked_body, no_sized_body}
use Rattle.http_core.proofs.ReadLemmas.{no_stop_no_head, no_stop_well, start_some}
use Rattle.http_core.proofs.ServeLemmas.{along_more, along_along}

-- ---- a request that isn't whole

pub reading_awaits : (part : Part) (bytes : List ℕ) → IsReading part bytes → Awaits (skip_pairs bytes)
reading_awaits (parts.Line octets) bytes is = inl (subst (λ (b : List ℕ). HasNoHead b × (length b < 65536) × StartsWell b) (sym is.0) (no_stop_no_head octets is.1, is.2, no_stop_well octets is.1))
reading_awaits (parts.Head octets) bytes is = inl (subst (λ (b : List ℕ). HasNoHead b × (length b < 65536) × StartsWell b) (sym is.0) (is.1, is.2, is.3.well))
reading_awaits (parts.Crowded len) bytes is = inl (
  λ head len' has. is.1 [] head len' (subst (λ (b : List ℕ). StartsWithHead b head len') (sym (append-nil (skip_pairs bytes))) has),
  omega (arith, is.0, is.2),
  is.3.well,
)
reading_awaits (parts.Sized head lengths) bytes is =
    inr (record { front = is.front; behind = is.behind; head = is.head; text = is.text; is = is.is; body = inl (lengths.size, is.has.1, is.has.3) })
reading_awaits (parts.Chunked head chunks) bytes is =
    inr (record { front = is.front; behind = is.behind; head = is.head; text = is.text; is = is.is; body = inr (is.has.1, is.has.3, is.has.4) })

sized_no_fault : (framing : Framing) (n code : ℕ) → framing ≡ framings.Length n → framing ≡ framings.Fault code → ⊥
sized_no_fault framing n code sized fault = let wrong : framings.Length n ≡ framings.Fault code = sym sized ∙ fault in cc

chunks_no_fault : (framing : Framing) (code : ℕ) → framing ≡ framings.Chunked → framing ≡ framings.Fault code → ⊥
chunks_no_fault framing code chunked fault = let wrong : framings.Chunked ≡ framings.Fault code = sym chunked ∙ fault in cc

-- where no more octets come, what waits is a fault
pub awaits_fault : (bytes : List ℕ) → bytes ≢ [] → Awaits bytes → IsFault bytes 400
awaits_fault bytes some (inl none) = fault_without_head bytes some none.0
awaits_fault bytes some (inr a) =
    subst (λ (b : List ℕ). IsFault b 400) (append-nil bytes)
    (no_body_is_fault bytes a.front a.behind a.head a.text a.is [] (λ body rest is. no_body body rest (subst (λ (b : List ℕ). IsBody (framing_of a.head) b body rest) (append-nil a.behind) is)) no_fault)
  where
    no_body : (body rest : List ℕ) → IsBody (framing_of a.head) a.behind body rest → ⊥
    no_body body rest is = elim a.body [
      | inl sized ↦ no_sized_body a.head sized.0 a.behind sized.1 sized.2 body rest is
      | inr chunked ↦ no_chunked_body a.head a.behind chunked.0 chunked.1 body rest is
    ]

    no_fault : (code : ℕ) → framing_of a.head ≡ framings.Fault code → ⊥
    no_fault code fault = elim a.body [
      | inl sized ↦ sized_no_fault (framing_of a.head) sized.0 code sized.1 fault
      | inr chunked ↦ chunks_no_fault (framing_of a.head) code chunked.0 fault
    ]

none_of : (xs : List ℕ) → true ≡ nat_eq (length xs) 0 → xs ≡ []
none_of [] h = refl
none_of (x ∷ xs) h = absurd (omega (arith, eqb-true (length (x ∷ xs)) 0 (sym h)))

some_of : (xs : List ℕ) → false ≡ nat_eq (length xs) 0 → xs ≢ []
some_of [] h = absurd (cc (h))
some_of (x ∷ xs) h = λ same. cc (same)

pub idle_clean : (part : Part) (bytes : List ℕ) → true ≡ is_idle part → IsReading part bytes → skip_pairs bytes ≡ []
idle_clean (parts.Line octets) bytes idle is = is.0 ∙ none_of octets idle
idle_clean (parts.Head octets) bytes idle is = absurd (cc (idle))
idle_clean (parts.Crowded len) bytes idle is = absurd (cc (idle))
idle_clean (parts.Sized head lengths) bytes idle is = absurd (cc (idle))
idle_clean (parts.Chunked head chunks) bytes idle is = absurd (cc (idle))

begun_some : (bytes : List ℕ) (part : Part) → HasBegun bytes part → bytes ≢ []
begun_some bytes part begun = λ none. omega (arith, front_long begun.front begun.head begun.is, ap length begun.text, length-append begun.front begun.behind, ap length none)

pub busy_some : (part : Part) (bytes : List ℕ) → false ≡ is_idle part → IsReading part bytes → skip_pairs bytes ≢ []
busy_some (parts.Line octets) bytes busy is = λ none. some_of octets busy (sym is.0 ∙ none)
busy_some (parts.Head octets) bytes busy is = λ none. start_some octets is.3 (sym is.0 ∙ none)
busy_some (parts.Crowded len) bytes busy is = start_some (skip_pairs bytes) is.3
busy_some (parts.Sized head lengths) bytes busy is = begun_some (skip_pairs bytes) (parts.Sized head lengths) is
busy_some (parts.Chunked head chunks) bytes busy is = begun_some (skip_pairs bytes) (parts.Chunked head chunks) is

-- ---- requests, and how they end

-- requests, and then all those of the rest
pub along_requests : (requests others : List Request) (end : End) (bytes middle : List ℕ) → Along requests bytes middle → Requests others end middle → Requests (requests ++ others) end bytes
along_requests requests others Clean bytes middle along ends = (ends.0, along_along requests others bytes middle ends.0 along ends.1, ends.2)
along_requests requests others Closed bytes middle along ends = (
  requests ++ ends.0,
  ends.1,
  ends.2,
  ends.3,
  ap (λ (rs : List Request). requests ++ rs) ends.4 ∙ sym (append_assoc requests ends.0 (ends.1 ∷ [])),
  along_along requests ends.0 bytes middle ends.2 along ends.5,
  ends.6,
  ends.7,
)
along_requests requests others (Bad code) bytes middle along ends = (ends.0, along_along requests others bytes middle ends.0 along ends.1, ends.2)

outputs : (told : Option (Request → Answer)) (rs qs : List Request) (taken old new text : List ℕ) → IfSome told (λ f. taken ++ old ≡ replies f rs ++ []) → IfSome told (λ f. new ≡ old ++ replies f qs ++ text) → IfSome told (λ f. taken ++ new ≡ replies f (rs ++ qs) ++ text)
outputs None rs qs taken old new text before now = tt
outputs (Some f) rs qs taken old new text before now =
    ap (λ (b : List ℕ). taken ++ b) now ∙ sym (append_assoc taken (old ++ replies f qs) text)
    ∙ ap (λ (b : List ℕ). b ++ text) (sym (append_assoc taken old (replies f qs)) ∙ ap (λ (b : List ℕ). b ++ replies f qs) (before ∙ append-nil (replies f rs)) ∙ sym (flat_map-append (reply f) rs qs))

plain : (told : Option (Request → Answer)) (qs : List Request) (old new : List ℕ) → IfSome told (λ f. new ≡ old ++ replies f qs) → IfSome told (λ f. new ≡ old ++ replies f qs ++ [])
plain None qs old new now = tt
plain (Some f) qs old new now = now ∙ sym (append-nil (old ++ replies f qs))

-- ---- one call

served_by : {S : Type 0} (told : Option (Request → Answer)) (new : Connection S) (state : ConnectionState) (fed taken : List ℕ) (requests : List Request) → new.state ≡ state → Stands state new.part requests fed
    → IfSome told (λ f. taken ++ new.output ≡ replies f requests ++ last_text state) → WasFed told new fed taken
served_by told new state fed taken requests is stands output = record {
  requests = requests;
  stands = subst (λ (s : ConnectionState). Stands s new.part requests fed) (sym is) stands;
  output = subst (λ (s : ConnectionState). IfSome told (λ f. taken ++ new.output ≡ replies f requests ++ last_text s)) (sym is) output;
}

going_stands : {S : Type 0} (told : Option (Request → Answer)) (old : Connection S) (fed taken : List ℕ) → old.state ≡ Going → (served : WasFed told old fed taken) → IsGoing old.part served.requests fed
going_stands told old fed taken going served = subst (λ (s : ConnectionState). Stands s old.part served.requests fed) going served.stands

going_output : {S : Type 0} (told : Option (Request → Answer)) (old : Connection S) (fed taken : List ℕ) → old.state ≡ Going → (served : WasFed told old fed taken) → IfSome told (λ f. taken ++ old.output ≡ replies f served.requests ++ [])
going_output told old fed taken going served = subst (λ (s : ConnectionState). IfSome told (λ f. taken ++ old.output ≡ replies f served.requests ++ last_text s)) going served.output

fed_going : {S : Type 0} (told : Option (Request → Answer)) (old new : Connection S) (fed taken piece : List ℕ) → old.state ≡ Going → WasFed told new (fed ++ piece) taken → WasFed told new (fed_with old.state fed piece) taken
fed_going told old new fed taken piece going served = subst (λ (s : ConnectionState). WasFed told new (fed_with s fed piece) taken) (sym going) served

stands_on : (state : ConnectionState) (part : Part) (requests : List Request) (fed piece : List ℕ) → state ≢ Going → Stands state part requests fed → Stands state part requests (fed_with state fed piece)
stands_on Going part requests fed piece other stands = absurd (other refl)
stands_on (Settled end) part requests fed piece other stands = λ more. subst (Requests requests end) (sym (append_assoc fed piece more)) (stands (piece ++ more))
stands_on (Ended end) part requests fed piece other stands = stands
stands_on Drained part requests fed piece other stands = (stands.0 ++ piece, along_more requests fed stands.0 piece stands.1)
stands_on Broken part requests fed piece other stands = (stands.0 ++ piece, along_more requests fed stands.0 piece stands.1)

pub served_on : {S : Type 0} (told : Option (Request → Answer)) (c : Connection S) (fed taken piece : List ℕ) → c.state ≢ Going → WasFed told c fed taken → WasFed told c (fed_with c.state fed piece) taken
served_on told c fed taken piece other served = record {
  requests = served.requests;
  stands = stands_on c.state c.part served.requests fed piece other served.stands;
  output = served.output;
}

pub served_err : {S : Type 0} (told : Option (Request → Answer)) (old new : Connection S) (fed taken piece : List ℕ) (part : Part) → old.state ≡ Going → new.state ≡ Broken → part ≡ old.part
    → ((bytes : List ℕ) → IsReading part bytes → Answered told (bytes ++ piece) old.output new.output) → WasFed told old fed taken → WasFed told new (fed_with old.state fed piece) taken
served_err told old new fed taken piece part going broken same serves served =
    let stands = going_stands told old fed taken going served in
    let a = serves stands.rest (subst (λ (p : Part). IsReading p stands.rest) (sym same) stands.reading) in
    fed_going told old new fed taken piece going
    (served_by told new Broken (fed ++ piece) taken (served.requests ++ a.requests) broken
    (a.rest, along_along served.requests a.requests (fed ++ piece) (stands.rest ++ piece) a.rest (along_more served.requests fed stands.rest piece stands.along) a.along)
    (outputs told served.requests a.requests taken old.output new.output [] (going_output told old fed taken going served) (plain told a.requests old.output new.output a.output)))

pub served_more : {S : Type 0} (told : Option (Request → Answer)) (old new : Connection S) (fed taken piece : List ℕ) (part : Part) → old.state ≡ Going → new.state ≡ Going → part ≡ old.part
    → ((bytes : List ℕ) → IsReading part bytes → (is : Answered told (bytes ++ piece) old.output new.output) × IsReading new.part is.rest) → WasFed told old fed taken → WasFed told new (fed_with old.state fed piece) taken
served_more told old new fed taken piece part going goes same serves served =
    let stands = going_stands told old fed taken going served in
    let found = serves stands.rest (subst (λ (p : Part). IsReading p stands.rest) (sym same) stands.reading) in
    let a = found.0 in
    fed_going told old new fed taken piece going
    (served_by told new Going (fed ++ piece) taken (served.requests ++ a.requests) goes
    (record {
      rest = a.rest;
      along = along_along served.requests a.requests (fed ++ piece) (stands.rest ++ piece) a.rest (along_more served.requests fed stands.rest piece stands.along) a.along;
      awaits = reading_awaits new.part a.rest found.1;
      reading = found.1;
    })
    (outputs told served.requests a.requests taken old.output new.output [] (going_output told old fed taken going served) (plain told a.requests old.output new.output a.output)))

pub served_settled : {S : Type 0} (told : Option (Request → Answer)) (old new : Connection S) (fed taken piece : List ℕ) (part : Part) (end : End) → old.state ≡ Going → new.state ≡ Settled end → part ≡ old.part
    → ((bytes : List ℕ) → IsReading part bytes → AnsweredAll told end (bytes ++ piece) old.output new.output) → WasFed told old fed taken → WasFed told new (fed_with old.state fed piece) taken
served_settled told old new fed taken piece part end going settled same serves served =
    let stands = going_stands told old fed taken going served in
    let a = serves stands.rest (subst (λ (p : Part). IsReading p stands.rest) (sym same) stands.reading) in
    fed_going told old new fed taken piece going
    (served_by told new (Settled end) (fed ++ piece) taken (served.requests ++ a.requests) settled
    (λ more. along_requests served.requests a.requests end ((fed ++ piece) ++ more) ((stands.rest ++ piece) ++ more)
    (along_more served.requests (fed ++ piece) (stands.rest ++ piece) more (along_more served.requests fed stands.rest piece stands.along)) (a.all more))
    (outputs told served.requests a.requests taken old.output new.output (end_text end) (going_output told old fed taken going served) a.output))

pub served_first : {S : Type 0} (told : Option (Request → Answer)) (new : Connection S) (octets : List ℕ) → new.state ≡ Going → new.part ≡ parts.Line octets → octets ≡ [] → new.output ≡ [] → WasFed told new [] []
served_first told new octets going part none output =
    let reading : IsReading new.part [] = subst (λ (p : Part). IsReading p []) (sym part) (sym none, (λ k inside. absurd (omega (arith, inside, ap length none))), omega (arith, ap length none)) in
    served_by told new Going [] [] [] going (record { rest = []; along = refl; awaits = reading_awaits new.part [] reading; reading = reading }) (empty told)
  where
    empty : (t : Option (Request → Answer)) → IfSome t (λ f. [] ++ new.output ≡ replies f [] ++ [])
    empty None = tt
    empty (Some f) = output

pub served_clean : {S : Type 0} (told : Option (Request → Answer)) (old new : Connection S) (fed taken : List ℕ) → old.state ≡ Going → new.state ≡ Ended Clean → new.output ≡ old.output → true ≡ is_idle old.part → WasFed told old fed taken → WasFed told new fed taken
served_clean told old new fed taken going ended output idle served =
    let stands = going_stands told old fed taken going served in
    served_by told new (Ended Clean) fed taken served.requests ended (stands.rest, stands.along, idle_clean old.part stands.rest idle stands.reading)
    (subst (λ (o : List ℕ). IfSome told (λ f. taken ++ o ≡ replies f served.requests ++ [])) (sym output) (going_output told old fed taken going served))

pub served_cut : {S : Type 0} (told : Option (Request → Answer)) (old new : Connection S) (fed taken : List ℕ) → old.state ≡ Going → new.state ≡ Ended (Bad 400) → new.output ≡ old.output ++ fault_text 400 → false ≡ is_idle old.part → WasFed told old fed taken
    → WasFed told new fed taken
served_cut told old new fed taken going ended output busy served =
    let stands = going_stands told old fed taken going served in
    served_by told new (Ended (Bad 400)) fed taken served.requests ended
    (stands.rest, stands.along, awaits_fault (skip_pairs stands.rest) (busy_some old.part stands.rest busy stands.reading) stands.awaits)
    (behind told (going_output told old fed taken going served))
  where
    behind : (t : Option (Request → Answer)) → IfSome t (λ f. taken ++ old.output ≡ replies f served.requests ++ []) → IfSome t (λ f. taken ++ new.output ≡ replies f served.requests ++ fault_text 400)
    behind None before = tt
    behind (Some f) before = ap (λ (b : List ℕ). taken ++ b) output ∙ sym (append_assoc taken old.output (fault_text 400)) ∙ ap (λ (b : List ℕ). b ++ fault_text 400) (before ∙ append-nil (replies f served.requests))

pub serves_as : (told : Option (Request → Answer)) (whole before after : List ℕ) (a b : AfterPiece) → a ≡ b → Serves told whole before after (Ok a) → Serves told whole before after (Ok b)
serves_as told whole before after a b same serves = subst (λ (s : AfterPiece). Serves told whole before after (Ok s)) same serves

-- ---- what is ready at the end

replies_of : (f : Request → Answer) (state : ConnectionState) (part : Part) (requests : List Request) (fed output : List ℕ) → state ≢ Going → state ≢ Drained → state ≢ Broken → Stands state part requests fed → output ≡ replies f requests ++ last_text state → IsReplies f fed output
replies_of f Going part requests fed output going drained broken stands text = absurd (going refl)
replies_of f (Settled end) part requests fed output going drained broken stands text = record { requests = requests; end = end; reads = subst (Requests requests end) (append-nil fed) (stands []); output_is = text }
replies_of f (Ended end) part requests fed output going drained broken stands text = record { requests = requests; end = end; reads = stands; output_is = text }
replies_of f Drained part requests fed output going drained broken stands text = absurd (drained refl)
replies_of f Broken part requests fed output going drained broken stands text = absurd (broken refl)

pub all_replies : {S : Type 0} (told : Option (Request → Answer)) (c : Connection S) (fed taken : List ℕ) → c.state ≢ Going → c.state ≢ Drained → c.state ≢ Broken → WasFed told c fed taken → IfSome told (λ f. IsReplies f fed (taken ++ c.output))
all_replies None c fed taken going drained broken served = tt
all_replies (Some f) c fed taken going drained broken served = replies_of f c.state c.part served.requests fed (taken ++ c.output) going drained broken served.stands served.output

pub clean_replies : {S : Type 0} (told : Option (Request → Answer)) (old : Connection S) (fed taken : List ℕ) → old.state ≡ Going → true ≡ is_idle old.part → WasFed told old fed taken → IfSome told (λ f. IsReplies f fed (taken ++ old.output))
clean_replies told old fed taken going idle served = ready told (going_output told old fed taken going served)
  where
    ready : (t : Option (Request → Answer)) → IfSome t (λ f. taken ++ old.output ≡ replies f served.requests ++ []) → IfSome t (λ f. IsReplies f fed (taken ++ old.output))
    ready None before = tt
    ready (Some f) before =
        let stands = going_stands told old fed taken going served in
        record { requests = served.requests; end = Clean; reads = (stands.rest, stands.along, idle_clean old.part stands.rest idle stands.reading); output_is = before }

pub cut_replies : {S : Type 0} (told : Option (Request → Answer)) (old : Connection S) (fed taken output : List ℕ) → old.state ≡ Going → false ≡ is_idle old.part → output ≡ old.output ++ fault_text 400 → WasFed told old fed taken → IfSome told (λ f. IsReplies f fed (taken ++ output))
cut_replies told old fed taken output going busy text served = ready told (going_output told old fed taken going served)
  where
    ready : (t : Option (Request → Answer)) → IfSome t (λ f. taken ++ old.output ≡ replies f served.requests ++ []) → IfSome t (λ f. IsReplies f fed (taken ++ output))
    ready None before = tt
    ready (Some f) before =
        let stands = going_stands told old fed taken going served in
        record {
          requests = served.requests;
          end = Bad 400;
          reads = (stands.rest, stands.along, awaits_fault (skip_pairs stands.rest) (busy_some old.part stands.rest busy stands.reading) stands.awaits);
          output_is = ap (λ (b : List ℕ). taken ++ b) text ∙ sym (append_assoc taken old.output (fault_text 400)) ∙ ap (λ (b : List ℕ). b ++ fault_text 400) (before ∙ append-nil (replies f served.requests));
        }

-- where a connection stands otherwise it goes on as it did
pub settled_replies : {S : Type 0} (told : Option (Request → Answer)) (c : Connection S) (fed taken : List ℕ) (end : End) → c.state ≡ Settled end → WasFed told c fed taken → IfSome told (λ f. IsReplies f fed (taken ++ c.output))
settled_replies told c fed taken end settled served =
    all_replies told c fed taken (λ h. let wrong : Settled end ≡ Going = sym settled ∙ h in cc) (λ h. let wrong : Settled end ≡ Drained = sym settled ∙ h in cc) (λ h. let wrong : Settled end ≡ Broken = sym settled ∙ h in cc) served
