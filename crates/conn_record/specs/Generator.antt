-- The generator of recordings: a state of 64 bits, and what is drawn from it.
use Rattle.std.specs.Prelude.{ℕ, zero, suc, ◌+◌, ◌*◌, ◌/◌, ◌%◌, ◌^◌, List, [], ◌∷◌, ◌++◌, ◌==◌, nat_lt, if◌then◌else◌, codes, decimal}

-- the next state
abbrev pub next : ℕ → ℕ
next x = (x * 6364136223846793005 + 1442695040888963407) % 2 ^ 64

-- what is drawn as a state is reached
abbrev pub drawn : ℕ → ℕ
drawn x = x / 2 ^ 33

-- the state after so many draws
abbrev pub after : ℕ → ℕ → ℕ
after zero x = x
after (suc n) x = after n (next x)

-- so many letters, each from a draw
abbrev pub letters : ℕ → ℕ → List ℕ
letters zero x = []
letters (suc n) x = (97 + drawn (next x) % 26) ∷ letters n (next x)

-- the target of a request of a connection
unfoldable pub path : ℕ → ℕ → List ℕ
path conn request = 47 ∷ decimal conn ++ 47 ∷ decimal request

-- the request line and the Host line
unfoldable pub lines : List ℕ → ℕ → ℕ → List ℕ
lines method conn request = method ++ 32 ∷ path conn request ++ codes " HTTP/1.1\r\nHost: kj.test\r\n"

-- the number of octets of a body, drawn from a state
abbrev pub size : ℕ → ℕ
size x = drawn (next x) % 16

abbrev pub body : ℕ → List ℕ
body x = letters (size x) (next x)

-- the state after a body's size and letters
abbrev pub after_body : ℕ → ℕ
after_body x = after (size x) (next x)

abbrev pub hex_digit : ℕ → ℕ
hex_digit n = if nat_lt n 10 then 48 + n else 87 + n

-- a chunk of at most 15 octets, and nothing where there are none
unfoldable pub chunk : ℕ → List ℕ → List ℕ
chunk n octets = if n == 0 then [] else hex_digit n ∷ codes "\r\n" ++ octets ++ codes "\r\n"

unfoldable pub chunked_post : ℕ → ℕ → ℕ → List ℕ
chunked_post conn request x =
    lines (codes "POST") conn request ++ codes "Transfer-Encoding: chunked\r\n\r\n" ++ chunk (size x) (body x) ++ codes "0\r\n\r\n"

unfoldable pub sized_post : ℕ → ℕ → ℕ → List ℕ
sized_post conn request x =
    lines (codes "POST") conn request ++ codes "Content-Length: " ++ decimal (size x) ++ codes "\r\n\r\n" ++ body x

abbrev pub bare_request : List ℕ → ℕ → ℕ → List ℕ
bare_request method conn request = lines method conn request ++ codes "\r\n"

-- which kind of request is drawn from a state
abbrev pub kind : ℕ → ℕ
kind x = drawn (next x) % 4

-- a request of a connection, drawn from a state
unfoldable pub request_text : ℕ → ℕ → ℕ → List ℕ
request_text conn request x =
    if kind x == 0 then chunked_post conn request (next x)
    else (if kind x == 1 then sized_post conn request (next x)
    else (if kind x == 2 then bare_request (codes "GET") conn request
    else bare_request (codes "HEAD") conn request))

-- the state after a request
unfoldable pub after_request : ℕ → ℕ
after_request x = if nat_lt (kind x) 2 then after_body (next x) else next x

-- so many requests of a connection, from this one on
abbrev pub requests_text : ℕ → ℕ → ℕ → ℕ → List ℕ
requests_text conn request zero x = []
requests_text conn request (suc n) x = request_text conn request x ++ requests_text conn (request + 1) n (after_request x)

abbrev pub after_requests : ℕ → ℕ → ℕ
after_requests zero x = x
after_requests (suc n) x = after_requests n (after_request x)

-- so many connections, from this one on, of so many requests each
abbrev pub connections : ℕ → ℕ → ℕ → ℕ → List (List ℕ)
connections conn zero requests x = []
connections conn (suc n) requests x = requests_text conn 0 requests x ∷ connections (conn + 1) n requests (after_requests requests x)

-- the recording of a number, with so many connections of so many requests each
abbrev pub generated : ℕ → ℕ → ℕ → List (List ℕ)
generated number conns requests = connections 0 conns requests number
