-- The forms of nodes, where one node goes, comes or changes.
use Rattle.std.proofs.Common.{◌≡◌, ◌≢◌, ℕ, List, [], ◌∷◌, ◌++◌, None, Some, Bool, true, false, cond, not, arith, refl, sym, ap, ◌∙◌}
use Rattle.std.specs.Prelude.{◌==◌}
use Rattle.std.proofs.lemmas.Bool.Decides.{nat_tests}
use Rattle.kj_model.specs.Nodes.{Form, Entry as Seen, form_at, without, with_form, formed_if}
use Rattle.promise_nodes.specs.Once.{AreOnce}
use Rattle.promise_graph.proofs.Lists.{none_some, equal_yes, equal_not}

-- ---- a node goes

without_case : (b c : Bool) (m n : ℕ) (e : Seen) (es : List Seen) → (e.number == m) ≡ b → (e.number == n) ≡ c → (m ≡ n → ⊥) → form_at m (without n es) ≡ form_at m es
    → form_at m (cond (not c) (e ∷ without n es) (without n es)) ≡ form_at m (e ∷ es)
without_case true true m n e es p q d h = absurd (d (grind (arith, nat_tests)))
without_case true false m n e es p q d h = rw p refl
without_case false true m n e es p q d h = rw p h
without_case false false m n e es p q d h = rw p h

pub without_other : (m n : ℕ) (es : List Seen) → m ≢ n → form_at m (without n es) ≡ form_at m es
without_other m n [] d = refl
without_other m n (e ∷ es) d = without_case (e.number == m) (e.number == n) m n e es refl refl d (without_other m n es d)

gone_case : (c : Bool) (n : ℕ) (e : Seen) (es : List Seen) → (e.number == n) ≡ c → form_at n (without n es) ≡ None → form_at n (cond (not c) (e ∷ without n es) (without n es)) ≡ None
gone_case true n e es q h = h
gone_case false n e es q h = rw q h

pub without_same : (n : ℕ) (es : List Seen) → form_at n (without n es) ≡ None
without_same n [] = refl
without_same n (e ∷ es) = gone_case (e.number == n) n e es refl (without_same n es)

none_case : (b c : Bool) (m n : ℕ) (e : Seen) (es : List Seen) → (e.number == m) ≡ b → (e.number == n) ≡ c → form_at m (e ∷ es) ≡ None → (form_at m es ≡ None → form_at m (without n es) ≡ None) → form_at m (cond (not c) (e ∷ without n es) (without n es)) ≡ None
none_case true c m n e es p q h k = absurd (none_some e.form (sym (rw p at h)))
none_case false true m n e es p q h k = k (rw p at h)
none_case false false m n e es p q h k = rw p (k (rw p at h))

without_none : (m n : ℕ) (es : List Seen) → form_at m es ≡ None → form_at m (without n es) ≡ None
without_none m n [] h = refl
without_none m n (e ∷ es) h = none_case (e.number == m) (e.number == n) m n e es refl refl h (without_none m n es)

once_case : (c : Bool) (n : ℕ) (e : Seen) (es : List Seen) → form_at e.number (without n es) ≡ None → AreOnce (without n es) → AreOnce (cond (not c) (e ∷ without n es) (without n es))
once_case true n e es h k = k
once_case false n e es h k = (h, k)

pub once_without : (n : ℕ) (es : List Seen) → AreOnce es → AreOnce (without n es)
once_without n [] o = tt
once_without n (e ∷ es) o = once_case (e.number == n) n e es (without_none e.number n es o.0) (once_without n es o.1)

-- ---- a node gets another form

put_other_case : (b c : Bool) (m n : ℕ) (f : Form) (e : Seen) (es : List Seen) → (e.number == m) ≡ b → (e.number == n) ≡ c → m ≢ n → form_at m (with_form n f es) ≡ form_at m es → form_at m (with_form n f (e ∷ es)) ≡ form_at m (e ∷ es)
put_other_case true true m n f e es p q d h = absurd (d (grind (arith, nat_tests)))
put_other_case true false m n f e es p q d h = rw (q, p) refl
put_other_case false true m n f e es p q d h = rw (q, p) h
put_other_case false false m n f e es p q d h = rw (q, p) h

pub put_other : (m n : ℕ) (f : Form) (es : List Seen) → m ≢ n → form_at m (with_form n f es) ≡ form_at m es
put_other m n f [] d = refl
put_other m n f (e ∷ es) d = put_other_case (e.number == m) (e.number == n) m n f e es refl refl d (put_other m n f es d)

put_same_case : (c : Bool) (n : ℕ) (f old : Form) (e : Seen) (es : List Seen) → (e.number == n) ≡ c → form_at n (e ∷ es) ≡ Some old → (form_at n es ≡ Some old → form_at n (with_form n f es) ≡ Some f) → form_at n (with_form n f (e ∷ es)) ≡ Some f
put_same_case true n f old e es q h k = rw (q, q) refl
put_same_case false n f old e es q h k = rw (q, q) (k (rw q at h))

pub put_same : (n : ℕ) (f old : Form) (es : List Seen) → form_at n es ≡ Some old → form_at n (with_form n f es) ≡ Some f
put_same n f old [] h = absurd (none_some old h)
put_same n f old (e ∷ es) h = put_same_case (e.number == n) n f old e es refl h (put_same n f old es)

put_none_case : (b c : Bool) (m n : ℕ) (f : Form) (e : Seen) (es : List Seen) → (e.number == m) ≡ b → (e.number == n) ≡ c → form_at m (e ∷ es) ≡ None → (form_at m es ≡ None → form_at m (with_form n f es) ≡ None) → form_at m (with_form n f (e ∷ es)) ≡ None
put_none_case true c m n f e es p q h k = absurd (none_some e.form (sym (rw p at h)))
put_none_case false true m n f e es p q h k = rw (q, p) (k (rw p at h))
put_none_case false false m n f e es p q h k = rw (q, p) (k (rw p at h))

pub put_none : (m n : ℕ) (f : Form) (es : List Seen) → form_at m es ≡ None → form_at m (with_form n f es) ≡ None
put_none m n f [] h = refl
put_none m n f (e ∷ es) h = put_none_case (e.number == m) (e.number == n) m n f e es refl refl h (put_none m n f es)

put_once_case : (c : Bool) (n : ℕ) (f : Form) (e : Seen) (es : List Seen) → form_at e.number (with_form n f es) ≡ None → AreOnce (with_form n f es) → AreOnce (formed_if c f e ∷ with_form n f es)
put_once_case true n f e es h k = (h, k)
put_once_case false n f e es h k = (h, k)

pub put_once : (n : ℕ) (f : Form) (es : List Seen) → AreOnce es → AreOnce (with_form n f es)
put_once n f [] o = tt
put_once n f (e ∷ es) o = put_once_case (e.number == n) n f e es (put_none e.number n f es o.0) (put_once n f es o.1)

-- nothing changes where no node has the number
pub put_nobody : (n : ℕ) (f : Form) (es : List Seen) → form_at n es ≡ None → with_form n f es ≡ es
put_nobody n f [] h = refl
put_nobody n f (e ∷ es) h = absent_case (e.number == n) refl h (put_nobody n f es)
  where
    absent_case : (c : Bool) → (e.number == n) ≡ c → form_at n (e ∷ es) ≡ None → (form_at n es ≡ None → with_form n f es ≡ es) → with_form n f (e ∷ es) ≡ e ∷ es
    absent_case true q h k = absurd (none_some e.form (sym (rw q at h)))
    absent_case false q h k = rw q (ap (λ (l : List Seen). e ∷ l) (k (rw q at h)))

-- ---- a node comes

there_case : (b : Bool) (m : ℕ) (f : Form) (e : Seen) (es fs : List Seen) → (e.number == m) ≡ b → form_at m (e ∷ es) ≡ Some f → (form_at m es ≡ Some f → form_at m (es ++ fs) ≡ Some f) → form_at m ((e ∷ es) ++ fs) ≡ Some f
there_case true m f e es fs t h k = rw t (rw t at h)
there_case false m f e es fs t h k = rw t (k (rw t at h))

pub form_there : (m : ℕ) (f : Form) (es fs : List Seen) → form_at m es ≡ Some f → form_at m (es ++ fs) ≡ Some f
form_there m f [] fs h = absurd (none_some f h)
form_there m f (e ∷ es) fs h = there_case (e.number == m) m f e es fs refl h (form_there m f es fs)

later_case : (b : Bool) (m : ℕ) (e : Seen) (es fs : List Seen) → (e.number == m) ≡ b → form_at m (e ∷ es) ≡ None → (form_at m es ≡ None → form_at m (es ++ fs) ≡ form_at m fs) → form_at m ((e ∷ es) ++ fs) ≡ form_at m fs
later_case true m e es fs t h k = absurd (none_some e.form (sym (rw t at h)))
later_case false m e es fs t h k = rw t (k (rw t at h))

pub form_later : (m : ℕ) (es fs : List Seen) → form_at m es ≡ None → form_at m (es ++ fs) ≡ form_at m fs
form_later m [] fs h = refl
form_later m (e ∷ es) fs h = later_case (e.number == m) m e es fs refl h (form_later m es fs)

pub form_new : (m : ℕ) (f : Form) → form_at m (record { number = m; form = f } ∷ []) ≡ Some f
form_new m f = let t : (m == m) ≡ true = equal_yes m m refl in rw t refl

pub form_other : (m n : ℕ) (f : Form) → n ≢ m → form_at m (record { number = n; form = f } ∷ []) ≡ None
form_other m n f d = let t : (n == m) ≡ false = equal_not n m d in rw t refl

first_none_case : (b : Bool) (m : ℕ) (e : Seen) (es : List Seen) → (e.number == m) ≡ b → form_at m (e ∷ es) ≡ None → e.number ≢ m
first_none_case true m e es t h = absurd (none_some e.form (sym (rw t at h)))
first_none_case false m e es t h = λ same. absurd (grind (arith, nat_tests))

rest_none_case : (b : Bool) (m : ℕ) (e : Seen) (es : List Seen) → (e.number == m) ≡ b → form_at m (e ∷ es) ≡ None → form_at m es ≡ None
rest_none_case true m e es t h = absurd (none_some e.form (sym (rw t at h)))
rest_none_case false m e es t h = rw t at h

pub once_more : (m : ℕ) (f : Form) (es : List Seen) → AreOnce es → form_at m es ≡ None → AreOnce (es ++ record { number = m; form = f } ∷ [])
once_more m f [] o h = (refl, tt)
once_more m f (e ∷ es) o h = (
  form_later e.number es (record { number = m; form = f } ∷ []) o.0 ∙ form_other e.number m f (λ same. first_none_case (e.number == m) m e es refl h (sym same)),
  once_more m f es o.1 (rest_none_case (e.number == m) m e es refl h),
)
