-- Octets have one reading.
use Rattle.std.proofs.Common.{◌≡◌, ℕ, ◌⊎◌, true, false, List, [], ◌∷◌, ◌++◌, length, refl, sym, ap, subst, ◌∙◌, arith, inl, inr}
use Rattle.std.proofs.lemmas.List.{append-nil}
use Rattle.http_heads.specs.declared.Framing.{Framing}
use Rattle.http_heads.specs.declared.Framing.TheVariants.{Empty, Length, Chunked, Fault}
use Rattle.http_heads.specs.Heads.{StartsWithHead}
use Rattle.http_heads.specs.Framing.{framing_of, persists}
use Rattle.http_heads.proofs.HeadLemmas.{head_unique}
use Rattle.http_frames.specs.Chunks.{Body}
use Rattle.http_frames.proofs.ChunkLemmas.{body_only}
use Rattle.http_core.specs.declared.message.Request.{Request}
use Rattle.http_core.specs.declared.message.End.{End}
use Rattle.http_core.specs.declared.message.End.TheVariants.{Clean, Closed, Bad}
use Rattle.http_core.specs.Requests.{skip_pairs, IsBody, IsRequest, HasFault, IsFault, Along, Requests}
use Rattle.http_core.proofs.SkipLemmas.{same_split}
use Rattle.http_core.proofs.RequestLemmas.{request_long, same_head}

-- ---- one request

same_front : (a b s t : List ℕ) → length a ≡ length b → a ++ s ≡ b ++ t → a ≡ b
same_front [] [] s t long same = refl
same_front [] (y ∷ b) s t long same = absurd (omega arith)
same_front (x ∷ a) [] s t long same = absurd (omega arith)
same_front (x ∷ a) (y ∷ b) s t long same =
    let others : a ++ s ≡ b ++ t = cc in
    let first : x ≡ y = cc in
    cc (first, same_front a b s t (omega arith) others)

one_body : (framing : Framing) (bytes body other rest behind : List ℕ) → IsBody framing bytes body rest → IsBody framing bytes other behind → (body ≡ other) × (rest ≡ behind)
one_body Empty bytes body other rest behind a b = (a.0 ∙ sym b.0, sym a.1 ∙ b.1)
one_body (Length n) bytes body other rest behind a b =
    let long : length body ≡ length other = a.0 ∙ sym b.0 in
    let texts : body ++ rest ≡ other ++ behind = sym a.1 ∙ b.1 in
    (same_front body other rest behind long texts, same_split body other rest behind long texts)
one_body Chunked bytes body other rest behind a b =
    let found = body_only bytes [] body other a.0 b.0 rest behind a.1 (subst (λ (x : List ℕ). Body x other b.0 behind) (sym (append-nil bytes)) b.1) in
    (found.0, sym (append-nil rest) ∙ sym found.2)
one_body (Fault code) bytes body other rest behind a b = absurd a

same_request : (a b : Request) → a.head ≡ b.head → a.body ≡ b.body → a ≡ b
same_request a b heads bodies = λ i. record { head = heads i; body = bodies i }

pub one_request : (bytes : List ℕ) (a b : Request) (rest behind : List ℕ) → IsRequest bytes a rest → IsRequest bytes b behind → (a ≡ b) × (rest ≡ behind)
one_request bytes a b rest behind x y =
    let found = same_head bytes x.front x.behind a.head x.text x.head [] b behind (subst (λ (t : List ℕ). IsRequest t b behind) (sym (append-nil bytes)) y) in
    let bodies = one_body (framing_of a.head) x.behind a.body b.body rest behind x.body (subst (λ (t : List ℕ). IsBody (framing_of a.head) t b.body behind) (append-nil x.behind) found.1) in
    (same_request a b (sym found.0) bodies.0, bodies.1)

-- ---- one end

fault_once : (bytes : List ℕ) (a b : ℕ) → HasFault bytes a → HasFault bytes b → a ≡ b
fault_once bytes a b x y =
    let heads = head_unique bytes [] x.0 y.0 x.1 y.1 x.2 (subst (λ (t : List ℕ). StartsWithHead t y.0 y.1) (sym (append-nil bytes)) y.2) in
    let faults : Fault a ≡ Fault b = sym x.3 ∙ ap framing_of heads.0 ∙ y.3 in
    cc

one_code : (bytes : List ℕ) (a b : ℕ) → IsFault bytes a → IsFault bytes b → a ≡ b
one_code bytes a b x y = by_cases x.code_is y.code_is
  where
    by_cases : (HasFault bytes a ⊎ (((other : ℕ) → HasFault bytes other → ⊥) × (a ≡ 400))) → (HasFault bytes b ⊎ (((other : ℕ) → HasFault bytes other → ⊥) × (b ≡ 400))) → a ≡ b
    by_cases (inl p) (inl q) = fault_once bytes a b p q
    by_cases (inl p) (inr q) = absurd (q.0 a p)
    by_cases (inr p) (inl q) = absurd (p.0 b q)
    by_cases (inr p) (inr q) = p.1 ∙ sym q.1

-- how octets end behind requests after which the connection goes on
abbrev pub Last : End → List ℕ → List Request → Type 0
Last Clean bytes tail = (skip_pairs bytes ≡ []) × (tail ≡ [])
Last Closed bytes tail = (last : Request) × (behind : List ℕ) × IsRequest (skip_pairs bytes) last behind × (persists last.head ≡ false) × (tail ≡ last ∷ [])
Last (Bad code) bytes tail = IsFault (skip_pairs bytes) code × (tail ≡ [])

pub record Reading (requests : List Request) (end : End) (bytes : List ℕ) : Type 0 where
  pub before : List Request
  pub tail : List Request
  pub rest : List ℕ
  pub all : requests ≡ before ++ tail
  pub along : Along before bytes rest
  pub last : Last end rest tail

reading_of : (requests : List Request) (end : End) (bytes : List ℕ) → Requests requests end bytes → Reading requests end bytes
reading_of requests Clean bytes is = record { before = requests; tail = []; rest = is.0; all = sym (append-nil requests); along = is.1; last = (is.2, refl) }
reading_of requests Closed bytes is = record { before = is.0; tail = is.1 ∷ []; rest = is.2; all = is.4; along = is.5; last = (is.1, is.3, is.6, is.7, refl) }
reading_of requests (Bad code) bytes is = record { before = requests; tail = []; rest = is.0; all = sym (append-nil requests); along = is.1; last = (is.2, refl) }

no_request_in_nothing : (bytes rest : List ℕ) (r : Request) → bytes ≡ [] → IsRequest bytes r rest → ⊥
no_request_in_nothing bytes rest r none is = omega (arith, request_long bytes rest r is, ap length none)

-- behind a last part no request stands after which the connection goes on
last_is_last : (end : End) (bytes rest : List ℕ) (tail : List Request) (r : Request) → Last end bytes tail → IsRequest (skip_pairs bytes) r rest → persists r.head ≡ true → ⊥
last_is_last Clean bytes rest tail r last is goes = no_request_in_nothing (skip_pairs bytes) rest r last.0 is
last_is_last Closed bytes rest tail r last is goes =
    let wrong : false ≡ true = sym last.3 ∙ ap (λ (q : Request). persists q.head) (one_request (skip_pairs bytes) last.0 r last.1 rest last.2 is).0 ∙ goes in
    cc
last_is_last (Bad code) bytes rest tail r last is goes = last.0.none r rest is

one_last : (e f : End) (bytes : List ℕ) (s t : List Request) → Last e bytes s → Last f bytes t → (s ≡ t) × (e ≡ f)
one_last Clean Clean bytes s t x y = (x.1 ∙ sym y.1, refl)
one_last Clean Closed bytes s t x y = absurd (no_request_in_nothing (skip_pairs bytes) y.1 y.0 x.0 y.2)
one_last Clean (Bad code) bytes s t x y = absurd (y.0.some x.0)
one_last Closed Clean bytes s t x y = absurd (no_request_in_nothing (skip_pairs bytes) x.1 x.0 y.0 x.2)
one_last Closed Closed bytes s t x y = (x.4 ∙ ap (λ (r : Request). r ∷ []) (one_request (skip_pairs bytes) x.0 y.0 x.1 y.1 x.2 y.2).0 ∙ sym y.4, refl)
one_last Closed (Bad code) bytes s t x y = absurd (y.0.none x.0 x.1 x.2)
one_last (Bad code) Clean bytes s t x y = absurd (x.0.some y.0)
one_last (Bad code) Closed bytes s t x y = absurd (x.0.none y.0 y.1 y.2)
one_last (Bad code) (Bad other) bytes s t x y = (x.1 ∙ sym y.1, ap (λ (c : ℕ). Bad c) (one_code (skip_pairs bytes) code other x.0 y.0))

one_way : (e f : End) (ps bs s t : List Request) (bytes rest behind : List ℕ) → Along ps bytes rest → Last e rest s → Along bs bytes behind → Last f behind t → (ps ++ s ≡ bs ++ t) × (e ≡ f)
one_way e f [] [] s t bytes rest behind along last follows ends =
    one_last e f bytes s t (subst (λ (b : List ℕ). Last e b s) (sym along) last) (subst (λ (b : List ℕ). Last f b t) (sym follows) ends)
one_way e f [] (b ∷ bs) s t bytes rest behind along last follows ends = absurd (last_is_last e bytes follows.0 s b (subst (λ (x : List ℕ). Last e x s) (sym along) last) follows.1 follows.2)
one_way e f (a ∷ ps) [] s t bytes rest behind along last follows ends = absurd (last_is_last f bytes along.0 t a (subst (λ (x : List ℕ). Last f x t) (sym follows) ends) along.1 along.2)
one_way e f (a ∷ ps) (b ∷ bs) s t bytes rest behind along last follows ends =
    let first = one_request (skip_pairs bytes) a b along.0 follows.0 along.1 follows.1 in
    let others = one_way e f ps bs s t along.0 rest behind along.3 last (subst (λ (x : List ℕ). Along bs x behind) (sym first.1) follows.3) ends in
    ((λ i. first.0 i ∷ others.0 i), others.1)

pub one_reading : (bytes : List ℕ) (requests others : List Request) (e f : End) → Requests requests e bytes → Requests others f bytes → (requests ≡ others) × (e ≡ f)
one_reading bytes requests others e f x y =
    let a = reading_of requests e bytes x in
    let b = reading_of others f bytes y in
    let same = one_way e f a.before b.before a.tail b.tail bytes a.rest b.rest a.along a.last b.along b.last in
    (a.all ∙ same.0 ∙ sym b.all, same.1)
