-- One draw, request or connection more.
use Rattle.std.proofs.Common.{◌≡◌, ℕ, suc, ◌+◌, ◌%◌, List, [], ◌∷◌, ◌++◌, sym, ap, ◌∙◌}
use Rattle.std.proofs.lemmas.List.{append_assoc}
use Rattle.conn_record.specs.Records.{conn_text, conns_text}
use Rattle.conn_record.specs.Generator.{next, drawn, after, letters, request_text, after_request, requests_text, after_requests, connections}

pub letters_step : (out pushed : List ℕ) (k j x y v : ℕ) → k ≡ suc j → y ≡ next x → v ≡ drawn y → pushed ≡ out ++ (97 + v % 26) ∷ [] → pushed ++ letters j y ≡ out ++ letters k x
letters_step out pushed k j x y v more state value push =
    (λ i. push i ++ letters j y) ∙ append_assoc out ((97 + v % 26) ∷ []) (letters j y)
    ∙ (λ i. out ++ (97 + value i % 26) ∷ letters j y) ∙ (λ i. out ++ (97 + drawn (state i) % 26) ∷ letters j (state i)) ∙ sym (ap (λ (n : ℕ). out ++ letters n x) more)

pub after_step : (k j x y : ℕ) → k ≡ suc j → y ≡ next x → after j y ≡ after k x
after_step k j x y more state = ap (after j) state ∙ sym (ap (λ (n : ℕ). after n x) more)

pub requests_step : (out pushed : List ℕ) (conn request k j x y : ℕ) → k ≡ suc j → y ≡ after_request x → pushed ≡ out ++ request_text conn request x → pushed ++ requests_text conn (request + 1) j y ≡ out ++ requests_text conn request k x
requests_step out pushed conn request k j x y more state push =
    (λ i. push i ++ requests_text conn (request + 1) j (state i)) ∙ append_assoc out (request_text conn request x) (requests_text conn (request + 1) j (after_request x))
    ∙ sym (ap (λ (n : ℕ). out ++ requests_text conn request n x) more)

pub after_requests_step : (k j x y : ℕ) → k ≡ suc j → y ≡ after_request x → after_requests j y ≡ after_requests k x
after_requests_step k j x y more state = ap (after_requests j) state ∙ sym (ap (λ (n : ℕ). after_requests n x) more)

pub connections_step : (out pushed octets : List ℕ) (conn requests k j x y : ℕ) → k ≡ suc j → y ≡ after_requests requests x → octets ≡ requests_text conn 0 requests x → pushed ≡ out ++ conn_text octets
    → pushed ++ conns_text (connections (conn + 1) j requests y) ≡ out ++ conns_text (connections conn k requests x)
connections_step out pushed octets conn requests k j x y more state text push =
    (λ i. push i ++ conns_text (connections (conn + 1) j requests (state i))) ∙ append_assoc out (conn_text octets) (conns_text (connections (conn + 1) j requests (after_requests requests x)))
    ∙ (λ i. out ++ (conn_text (text i) ++ conns_text (connections (conn + 1) j requests (after_requests requests x)))) ∙ sym (ap (λ (n : ℕ). out ++ conns_text (connections conn n requests x)) more)
