-- The words are those of one form at most.
use Rattle.std.proofs.Common.{◌≡◌, ◌<◌, ◌≤◌, ◌*◌, ◌^◌, ℕ, List, [], ◌∷◌, refl, sym, ap, subst, arith, ◌∙◌}
use Rattle.std.specs.Prelude.{decimal}
use Rattle.kj_base.proofs.Digits.{decimal_same}
use Rattle.conn_record.specs.declared.read.TheConstants.{MAX_CONNS}
use Rattle.kj_serve.specs.declared.forms.Form.{Form}
use Rattle.kj_serve.specs.declared.forms.Form.TheVariants.{Run, Replay, Make}
use Rattle.kj_serve.specs.declared.forms.TheConstants.{MAX_REQUESTS, MAX_REQUESTS_IN_ALL}
use Rattle.kj_serve.specs.declared.replay.ServiceName.{ServiceName}
use Rattle.kj_serve.specs.declared.replay.ServiceName.TheVariants.{Echo, Target}
use Rattle.kj_serve.specs.Words.{FormFits, form_words, service_word, IsFormOf}

same_service : (a b : ServiceName) → service_word a ≡ service_word b → a ≡ b
same_service Echo Echo same = refl
same_service Echo Target same = absurd (cc (same))
same_service Target Echo same = absurd (cc (same))
same_service Target Target same = refl

same_words : (a b : Form) → FormFits a → FormFits b → form_words a ≡ form_words b → a ≡ b
same_words Run Run f g same = refl
same_words Run (Make n c r) f g same = absurd (cc (same))
same_words (Make n c r) Run f g same = absurd (cc (same))
same_words Run (Replay s) f g same = absurd (cc (same))
same_words (Replay s) Run f g same = absurd (cc (same))
same_words (Replay s) (Make n c r) f g same = absurd (cc (same))
same_words (Make n c r) (Replay s) f g same = absurd (cc (same))
same_words (Replay s) (Replay t) f g same = ap (λ (x : ServiceName). Replay x) (same_service s t (cc (same)))
same_words (Make n c r) (Make m d s) f g same =
    let numbers : n ≡ m = decimal_same n m f.0 g.0 (cc (same)) in
    let conns : c ≡ d = decimal_same c d (omega arith) (omega arith) (cc (same)) in
    let requests : r ≡ s = decimal_same r s (omega arith) (omega arith) (cc (same)) in
    λ i. Make (numbers i) (conns i) (requests i)

-- two forms of one list of words are the same
pub one_form : (texts : List (List ℕ)) (a b : Form) → IsFormOf texts a → IsFormOf texts b → a ≡ b
one_form texts a b f g = same_words a b f.0 g.0 (sym f.1 ∙ g.1)

-- the number of connections that the words of `make` name is within its limits
pub conns_within : (w a b d : List ℕ) (form : Form) (m : ℕ) → IsFormOf (w ∷ a ∷ b ∷ d ∷ []) form → b ≡ decimal m → m < 2 ^ 64 → (0 < m) × (m ≤ MAX_CONNS)
conns_within w a b d Run m is text fits = absurd (cc (is.1))
conns_within w a b d (Replay s) m is text fits = absurd (cc (is.1))
conns_within w a b d (Make n c r) m is text fits =
    let same : m ≡ c = decimal_same m c fits (omega (arith, is.0.2)) (sym text ∙ cc (is.1)) in
    (omega (arith, is.0.1, same), omega (arith, is.0.2, same))

-- and that of requests
pub requests_within : (w a b d : List ℕ) (form : Form) (k : ℕ) → IsFormOf (w ∷ a ∷ b ∷ d ∷ []) form → d ≡ decimal k → k < 2 ^ 64 → (0 < k) × (k ≤ MAX_REQUESTS)
requests_within w a b d Run k is text fits = absurd (cc (is.1))
requests_within w a b d (Replay s) k is text fits = absurd (cc (is.1))
requests_within w a b d (Make n c r) k is text fits =
    let same : k ≡ r = decimal_same k r fits (omega (arith, is.0.4)) (sym text ∙ cc (is.1)) in
    (omega (arith, is.0.3, same), omega (arith, is.0.4, same))

-- and both together
pub all_within : (w a b d : List ℕ) (form : Form) (m k : ℕ) → IsFormOf (w ∷ a ∷ b ∷ d ∷ []) form → b ≡ decimal m → m < 2 ^ 64 → d ≡ decimal k → k < 2 ^ 64 → m * k ≤ MAX_REQUESTS_IN_ALL
all_within w a b d Run m k is conns fits requests under = absurd (cc (is.1))
all_within w a b d (Replay s) m k is conns fits requests under = absurd (cc (is.1))
all_within w a b d (Make n c r) m k is conns fits requests under =
    let many : m ≡ c = decimal_same m c fits (omega (arith, is.0.2)) (sym conns ∙ cc (is.1)) in
    let each : k ≡ r = decimal_same k r under (omega (arith, is.0.4)) (sym requests ∙ cc (is.1)) in
    let within : c * r ≤ MAX_REQUESTS_IN_ALL = is.0.5 in
    subst (λ (x : ℕ). x * k ≤ MAX_REQUESTS_IN_ALL) (sym many) (subst (λ (x : ℕ). c * x ≤ MAX_REQUESTS_IN_ALL) (sym each) within)
