-- The texts of answers (RFC 9112, sections 4, 6 and 7.1).
use Rattle.std.specs.Prelude.{ℕ, zero, suc, ◌+◌, ◌-◌, ◌/◌, Bool, List, [], ◌∷◌, ◌++◌, ◌&&◌, ◌||◌, ◌==◌, length, take, drop, codes, decimal, bytes_eq, if◌then◌else◌}
use Rattle.http_frames.specs.Written.{chunk_of}
use Rattle.http_core.specs.declared.message.Request.{Request}
use Rattle.http_core.specs.declared.message.Answer.{Answer}
use Rattle.http_core.specs.declared.text.TheConstants.{CHUNK}

-- the reason phrases that are used; others are empty
abbrev pub reason : ℕ → List ℕ
reason status =
    if status == 200 then codes "OK"
    else (if status == 204 then codes "No Content"
    else (if status == 304 then codes "Not Modified"
    else (if status == 400 then codes "Bad Request"
    else (if status == 404 then codes "Not Found"
    else (if status == 500 then codes "Internal Server Error"
    else (if status == 501 then codes "Not Implemented"
    else (if status == 503 then codes "Service Unavailable"
    else [])))))))

unfoldable pub status_line : ℕ → List ℕ
status_line status = codes "HTTP/1.1 " ++ decimal status ++ 32 ∷ reason status ++ 13 ∷ 10 ∷ []

-- these have no body and no line on its length
abbrev pub has_no_length : ℕ → Bool
has_no_length status = (status == 204) || (status == 304)

-- the body is written in chunks: only to version 1.1
abbrev pub is_chunked : ℕ → Answer → Bool
is_chunked minor answer = answer.chunked && (minor == 1)

unfoldable pub length_line : ℕ → Answer → List ℕ
length_line minor answer =
    if has_no_length answer.status then []
    else (if is_chunked minor answer then codes "Transfer-Encoding: chunked\r\n"
    else codes "Content-Length: " ++ decimal (length answer.body) ++ 13 ∷ 10 ∷ [])

unfoldable pub connection_line : ℕ → Bool → List ℕ
connection_line minor closes =
    if closes then codes "Connection: close\r\n"
    else (if minor == 0 then codes "Connection: keep-alive\r\n" else [])

-- so many chunks of 4,096 octets each; the last may be shorter
abbrev pub chunks : ℕ → List ℕ → List ℕ
chunks zero octets = []
chunks (suc n) octets = chunk_of (take CHUNK octets) ++ chunks n (drop CHUNK octets)

-- as many chunks as the octets fill
unfoldable pub all_chunks : List ℕ → List ℕ
all_chunks octets = chunks ((length octets + (CHUNK - 1)) / CHUNK) octets

-- all chunks and the last one
unfoldable pub chunked_text : List ℕ → List ℕ
chunked_text octets = all_chunks octets ++ codes "0\r\n\r\n"

unfoldable pub body_text : List ℕ → ℕ → Answer → List ℕ
body_text method minor answer =
    if bytes_eq method (codes "HEAD") || has_no_length answer.status then []
    else (if is_chunked minor answer then chunked_text answer.body
    else answer.body)

-- the lines of an answer, with the empty one
unfoldable pub head_text : ℕ → Answer → Bool → List ℕ
head_text minor answer closes = status_line answer.status ++ length_line minor answer ++ connection_line minor closes ++ 13 ∷ 10 ∷ []

-- the text of the answer to a request, after which the connection may close
unfoldable pub text : Request → Answer → Bool → List ℕ
text request answer closes = head_text request.head.minor answer closes ++ body_text request.head.method request.head.minor answer

-- the text that answers a request that is no request, after which the connection closes
unfoldable pub fault_text : ℕ → List ℕ
fault_text code =
    if code == 501 then codes "HTTP/1.1 501 Not Implemented\r\nContent-Length: 0\r\nConnection: close\r\n\r\n"
    else codes "HTTP/1.1 400 Bad Request\r\nContent-Length: 0\r\nConnection: close\r\n\r\n"
