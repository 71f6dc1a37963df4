-- How many names there are after a command's names came and went.
use Rattle.std.proofs.Common.{◌≡◌, ℕ, ◌+◌, ◌≤◌, List, [], ◌∷◌, ◌++◌, Option, None, Some, Bool, true, false, refl, sym, ap, ◌∙◌, arith, subst}
use Rattle.std.specs.Prelude.{nat_eq, nat_lt, not, ◌&&◌, ◌||◌, ◌==◌, length}
use Rattle.std.proofs.lemmas.Bool.{false≢true}
use Rattle.std.proofs.lemmas.Bool.Decides.{nat_tests}
use Rattle.kj_model.specs.World.{World, Named, Held, Awaited, Promise, CellOf, held_at}
use Rattle.kj_model.specs.Changes.{named, unnamed, with_new, without_name}
use Rattle.kj_model.specs.Uses.{Role, IsNew, IsSource, IsCell, IsAsk, IsHub, IsGroup, IsGroupAlone, IsCanceler, IsRequest, IsDroppable, Use, is_name, is_new, is_source, used_before, first_failing, found_if, is_unknown, is_taken}
use Rattle.kj_model.specs.Apply.{each_named, named_by, with_awaited}
use Rattle.promise_names.specs.Once.{AreOnce}
use Rattle.promise_apply.specs.Applying.{ArePassed, names_left, awaited_over, one_if, count_new, count_sources}

zero_plus : (n : ℕ) → 0 + n ≡ n
zero_plus n = omega arith

-- how often a name stands there
abbrev times : ℕ → List Named → ℕ
times n [] = 0
times n (x ∷ xs) = one_if (x.name == n) + times n xs

new_case : (b : Bool) (n : ℕ) (x y : Named) (ys : List Named) → nat_lt x.name y.name ≡ b → times n (with_new x ys) ≡ one_if (x.name == n) + times n ys → times n (with_new x (y ∷ ys)) ≡ one_if (x.name == n) + times n (y ∷ ys)
new_case true n x y ys h ih = rw h refl
new_case false n x y ys h ih = rw h (omega (arith, ih))

new_times : (n : ℕ) (x : Named) (ys : List Named) → times n (with_new x ys) ≡ one_if (x.name == n) + times n ys
new_times n x [] = refl
new_times n x (y ∷ ys) = new_case (nat_lt x.name y.name) n x y ys refl (new_times n x ys)

long_case : (b : Bool) (x y : Named) (ys : List Named) → nat_lt x.name y.name ≡ b → length (with_new x ys) ≡ length ys + 1 → length (with_new x (y ∷ ys)) ≡ length (y ∷ ys) + 1
long_case true x y ys h ih = rw h (omega arith)
long_case false x y ys h ih = rw h (omega (arith, ih))

new_long : (x : Named) (ys : List Named) → length (with_new x ys) ≡ length ys + 1
new_long x [] = refl
new_long x (y ∷ ys) = long_case (nat_lt x.name y.name) x y ys refl (new_long x ys)

-- 0 where it holds
abbrev none_if : Bool → ℕ → ℕ
none_if true t = 0
none_if false t = t

gone_case : (a b : Bool) (n m : ℕ) (y : Named) (ys : List Named) → nat_eq y.name m ≡ a → nat_eq m n ≡ b → times n (without_name m ys) ≡ none_if b (times n ys) → times n (without_name m (y ∷ ys)) ≡ none_if b (times n (y ∷ ys))
gone_case true true n m y ys h k ih = rw h ih
gone_case true false n m y ys h k ih = let other : nat_eq y.name n ≡ false = grind (arith, nat_tests) in rw (h, other) (ih ∙ sym (zero_plus (times n ys)))
gone_case false true n m y ys h k ih = let other : nat_eq y.name n ≡ false = grind (arith, nat_tests) in rw (h, other) (zero_plus (times n (without_name m ys)) ∙ ih)
gone_case false false n m y ys h k ih = rw h (ap (λ (t : ℕ). one_if (y.name == n) + t) ih)

gone_times : (n m : ℕ) (ys : List Named) → times n (without_name m ys) ≡ none_if (m == n) (times n ys)
gone_times n m [] = decide (nat_eq m n)
  where
    decide : (b : Bool) → 0 ≡ none_if b 0
    decide true = refl
    decide false = refl
gone_times n m (y ∷ ys) = gone_case (nat_eq y.name m) (nat_eq m n) n m y ys refl refl (gone_times n m ys)

short_case : (b : Bool) (m : ℕ) (y : Named) (ys : List Named) → nat_eq y.name m ≡ b → length (without_name m ys) + times m ys ≡ length ys → length (without_name m (y ∷ ys)) + times m (y ∷ ys) ≡ length (y ∷ ys)
short_case true m y ys h ih = rw h (omega (arith, ih))
short_case false m y ys h ih = rw h (omega (arith, ih))

gone_long : (m : ℕ) (ys : List Named) → length (without_name m ys) + times m ys ≡ length ys
gone_long m [] = refl
gone_long m (y ∷ ys) = short_case (nat_eq y.name m) m y ys refl (gone_long m ys)

none_case : (b : Bool) (n : ℕ) (y : Named) (ys : List Named) → nat_eq y.name n ≡ b → (held_at n ys ≡ None → times n ys ≡ 0) → held_at n (y ∷ ys) ≡ None → times n (y ∷ ys) ≡ 0
none_case true n y ys h ih none = absurd (some_none y.held (rw h at none))
  where
    some_none : (x : Held) → ◌≡◌ {A = Option Held} (Some x) None → ⊥
    some_none x e = cc
none_case false n y ys h ih none = rw h (zero_plus (times n ys) ∙ ih (rw h at none))

none_times : (n : ℕ) (ys : List Named) → held_at n ys ≡ None → times n ys ≡ 0
none_times n [] none = refl
none_times n (y ∷ ys) none = none_case (nat_eq y.name n) n y ys refl (none_times n ys) none

once_case : (b : Bool) (n : ℕ) (y : Named) (ys : List Named) → nat_eq y.name n ≡ b → times n ys ≡ one_if (is_name n ys) → (nat_eq y.name n ≡ true → times n ys ≡ 0) → times n (y ∷ ys) ≡ one_if (is_name n (y ∷ ys))
once_case true n y ys h ih first = rw h (ap (λ (t : ℕ). 1 + t) (first h))
once_case false n y ys h ih first = rw h (zero_plus (times n ys) ∙ ih)

-- a name that stands once
once_times : (n : ℕ) (ys : List Named) → AreOnce ys → times n ys ≡ one_if (is_name n ys)
once_times n [] once = refl
once_times n (y ∷ ys) once = once_case (nat_eq y.name n) n y ys refl (once_times n ys once.1) (λ h. let same : y.name ≡ n = grind (arith, nat_tests) in subst (λ (m : ℕ). times m ys ≡ 0) same (none_times y.name ys once.0))

more_case : (a : Bool) (test : Role → Bool) (n : ℕ) (u v : Use) (us : List Use) → (test u.role && (u.name == n)) ≡ a → used_before test n (us ++ v ∷ []) ≡ (used_before test n us || (test v.role && (v.name == n)))
    → used_before test n (u ∷ us ++ v ∷ []) ≡ (used_before test n (u ∷ us) || (test v.role && (v.name == n)))
more_case true test n u v us h ih = rw h refl
more_case false test n u v us h ih = rw h ih

or_false : (b : Bool) → (b || false) ≡ b
or_false true = refl
or_false false = refl

used_more : (test : Role → Bool) (n : ℕ) (us : List Use) (v : Use) → used_before test n (us ++ v ∷ []) ≡ (used_before test n us || (test v.role && (v.name == n)))
used_more test n [] v = or_false (test v.role && (v.name == n))
used_more test n (u ∷ us) v = more_case (test u.role && (u.name == n)) test n u v us refl (used_more test n us v)

-- how often a name stands there, after these names came and went
abbrev stood : Bool → Bool → ℕ → ℕ
stood true source t = 1
stood false true t = 0
stood false false t = t

-- the names so far: what stands there, and how many
record IsSoFar (w v : World) (before : List Use) : Type 0 where
  stand : (n : ℕ) → times n v.names ≡ stood (used_before is_new n before) (used_before is_source n before) (times n w.names)
  absent : (n : ℕ) → used_before is_new n before ≡ true → times n w.names ≡ 0
  long : length v.names + count_sources before ≡ length w.names + count_new before

found_none : (b : Bool) (n : ℕ) (rest : Option ℕ) → found_if b n rest ≡ None → (b ≡ false) × (rest ≡ None)
found_none true n rest h = absurd (some_none n h)
  where
    some_none : (x : ℕ) → ◌≡◌ {A = Option ℕ} (Some x) None → ⊥
    some_none x e = cc
found_none false n rest h = (refl, h)

-- the first name passes, and so do the others
pub passed_first : (fails : List Use → Use → Bool) (before : List Use) (u : Use) (us : List Use) → first_failing fails before (u ∷ us) ≡ None → (fails before u ≡ false) × (first_failing fails (before ++ u ∷ []) us ≡ None)
passed_first fails before u us h = found_none (fails before u) u.name (first_failing fails (before ++ u ∷ []) us) h

counts_new : (us : List Use) (u : Use) → count_new (us ++ u ∷ []) ≡ count_new us + one_if (is_new u.role)
counts_new [] u = omega arith
counts_new (v ∷ us) u = let h = counts_new us u in omega (arith, h)

counts_sources : (us : List Use) (u : Use) → count_sources (us ++ u ∷ []) ≡ count_sources us + one_if (is_source u.role)
counts_sources [] u = omega arith
counts_sources (v ∷ us) u = let h = counts_sources us u in omega (arith, h)

pub or_parts : (a b : Bool) → (a || b) ≡ false → (a ≡ false) × (b ≡ false)
or_parts true b h = absurd (false≢true (sym h))
or_parts false b h = (refl, h)

stood_none : (source : Bool) (t : ℕ) → t ≡ 0 → stood false source t ≡ 0
stood_none true t h = refl
stood_none false t h = h

-- a name that is new
new_stand : (b new source : Bool) (t before : ℕ) → before ≡ stood new source t → one_if b + none_if b before ≡ stood (new || (true && b)) (source || (false && b)) t
new_stand true true source t before h = refl
new_stand true false source t before h = refl
new_stand false true true t before h = zero_plus before ∙ h
new_stand false true false t before h = zero_plus before ∙ h
new_stand false false true t before h = zero_plus before ∙ h
new_stand false false false t before h = zero_plus before ∙ h

-- one that goes
source_stand : (b new source : Bool) (t before : ℕ) → (b ≡ true → new ≡ false) → before ≡ stood new source t → none_if b before ≡ stood (new || (false && b)) (source || (true && b)) t
source_stand true true source t before fresh h = absurd (false≢true (sym (fresh refl)))
source_stand true false true t before fresh h = refl
source_stand true false false t before fresh h = refl
source_stand false true true t before fresh h = h
source_stand false true false t before fresh h = h
source_stand false false true t before fresh h = h
source_stand false false false t before fresh h = h

same_stand : (b new source : Bool) (t before : ℕ) → before ≡ stood new source t → before ≡ stood (new || (false && b)) (source || (false && b)) t
same_stand b true true t before h = h
same_stand b true false t before h = h
same_stand b false true t before h = h
same_stand b false false t before h = h

either : (a b : Bool) → (a || b) ≡ true → (a ≡ false → b ≡ true)
either true b h f = absurd (false≢true (sym f))
either false b h f = h

same_number : (a b : ℕ) → nat_eq a b ≡ true → a ≡ b
same_number a b h = grind (arith, nat_tests)

new_absent : (a b : Bool) (n name t : ℕ) (ys : List Named) → a ≡ (nat_eq name n) → (b || (true && a)) ≡ true → (b ≡ true → times n ys ≡ 0) → times name ys ≡ 0 → times n ys ≡ 0
new_absent a true n name t ys e h before none = before refl
new_absent a false n name t ys e h before none = subst (λ (m : ℕ). times m ys ≡ 0) (same_number name n (sym e ∙ h)) none

old_absent : (a b : Bool) (x : ℕ) → (b || (false && a)) ≡ true → (b ≡ true → x ≡ 0) → x ≡ 0
old_absent a true x h before = before refl
old_absent a false x h before = absurd (false≢true h)

-- one new name more
step_new : (name : ℕ) (w v : World) (before : List Use) → AreOnce w.names → IsSoFar w v before → is_taken w before (record { role = IsNew; name = name }) ≡ false → IsSoFar w (named name (CellOf 0) v) (before ++ record { role = IsNew; name = name } ∷ [])
step_new name w v before once so taken =
    let u : Use = record { role = IsNew; name = name } in
    let x : Named = record { name = name; held = CellOf 0 } in
    let parts = or_parts (is_name name w.names) (used_before is_new name before) taken in
    let none : times name w.names ≡ 0 = once_times name w.names once ∙ ap one_if parts.0 in
    let gone : times name v.names ≡ 0 = so.stand name ∙ ap (λ (b : Bool). stood b (used_before is_source name before) (times name w.names)) parts.1 ∙ stood_none (used_before is_source name before) (times name w.names) none in
    record {
      stand = λ n. new_times n x (without_name name v.names) ∙ ap (λ (t : ℕ). one_if (name == n) + t) (gone_times n name v.names)
          ∙ new_stand (name == n) (used_before is_new n before) (used_before is_source n before) (times n w.names) (times n v.names) (so.stand n)
          ∙ sym (ap (λ (b : Bool). stood b (used_before is_source n before || (false && (name == n))) (times n w.names)) (used_more is_new n before u))
          ∙ sym (ap (λ (b : Bool). stood (used_before is_new n (before ++ u ∷ [])) b (times n w.names)) (used_more is_source n before u));
      absent = λ n h. new_absent (name == n) (used_before is_new n before) n name 0 w.names refl (sym (used_more is_new n before u) ∙ h) (so.absent n) none;
      long =
          let a = new_long x (without_name name v.names) in
          let b = gone_long name v.names in
          let d = so.long in
          let e = counts_new before u in
          let f = counts_sources before u in
          omega (arith, a, b, d, e, f, gone);
    }

one_of : (b : Bool) (t : ℕ) → t ≡ one_if b → b ≡ true → t ≡ 1
one_of true t h e = h
one_of false t h e = absurd (false≢true e)

zero_one : (t : ℕ) → t ≡ 0 → t ≡ 1 → ⊥
zero_one t h k = omega (arith, h, k)

not_true : (b : Bool) → (b ≡ true → ⊥) → b ≡ false
not_true true f = absurd (f refl)
not_true false f = refl

pub not_false : (b : Bool) → not b ≡ false → b ≡ true
not_false true h = refl
not_false false h = absurd (false≢true (sym h))

-- one source more
step_source : (name : ℕ) (w v : World) (before : List Use) → AreOnce w.names → IsSoFar w v before → is_unknown w before (record { role = IsSource; name = name }) ≡ false → IsSoFar w (unnamed name v) (before ++ record { role = IsSource; name = name } ∷ [])
step_source name w v before once so unknown =
    let u : Use = record { role = IsSource; name = name } in
    let parts = or_parts (not (is_name name w.names)) (used_before is_source name before) unknown in
    let one : times name w.names ≡ 1 = one_of (is_name name w.names) (times name w.names) (once_times name w.names once) (not_false (is_name name w.names) parts.0) in
    let fresh : used_before is_new name before ≡ false = not_true (used_before is_new name before) (λ h. zero_one (times name w.names) (so.absent name h) one) in
    let there : times name v.names ≡ 1 = so.stand name ∙ ap (λ (b : Bool). stood b (used_before is_source name before) (times name w.names)) fresh ∙ ap (λ (b : Bool). stood false b (times name w.names)) parts.1 ∙ one in
    record {
      stand = λ n. gone_times n name v.names
          ∙ source_stand (name == n) (used_before is_new n before) (used_before is_source n before) (times n w.names) (times n v.names) (λ h. subst (λ (m : ℕ). used_before is_new m before ≡ false) (same_number name n h) fresh) (so.stand n)
          ∙ sym (ap (λ (b : Bool). stood b (used_before is_source n before || (true && (name == n))) (times n w.names)) (used_more is_new n before u))
          ∙ sym (ap (λ (b : Bool). stood (used_before is_new n (before ++ u ∷ [])) b (times n w.names)) (used_more is_source n before u));
      absent = λ n h. old_absent (name == n) (used_before is_new n before) (times n w.names) (sym (used_more is_new n before u) ∙ h) (so.absent n);
      long =
          let b = gone_long name v.names in
          let d = so.long in
          let e = counts_new before u in
          let f = counts_sources before u in
          omega (arith, b, d, e, f, there);
    }

-- one name more of another kind
step_other : (u : Use) (w v : World) (before : List Use) → is_new u.role ≡ false → is_source u.role ≡ false → IsSoFar w v before → IsSoFar w v (before ++ u ∷ [])
step_other u w v before fresh source so = record {
  stand = λ n. same_stand (u.name == n) (used_before is_new n before) (used_before is_source n before) (times n w.names) (times n v.names) (so.stand n)
      ∙ sym (ap (λ (b : Bool). stood b (used_before is_source n before || (false && (u.name == n))) (times n w.names)) (used_more is_new n before u ∙ ap (λ (t : Bool). used_before is_new n before || (t && (u.name == n))) fresh))
      ∙ sym (ap (λ (b : Bool). stood (used_before is_new n (before ++ u ∷ [])) b (times n w.names)) (used_more is_source n before u ∙ ap (λ (t : Bool). used_before is_source n before || (t && (u.name == n))) source));
  absent = λ n h. old_absent (u.name == n) (used_before is_new n before) (times n w.names) (sym (used_more is_new n before u ∙ ap (λ (t : Bool). used_before is_new n before || (t && (u.name == n))) fresh) ∙ h) (so.absent n);
  long =
      let d = so.long in
      let e = counts_new before u ∙ ap (λ (b : Bool). count_new before + one_if b) fresh in
      let f = counts_sources before u ∙ ap (λ (b : Bool). count_sources before + one_if b) source in
      omega (arith, d, e, f);
}

step : (role : Role) (name : ℕ) (w v : World) (before : List Use) → AreOnce w.names → IsSoFar w v before → is_unknown w before (record { role = role; name = name }) ≡ false → is_taken w before (record { role = role; name = name }) ≡ false
    → IsSoFar w (named_by role name v) (before ++ record { role = role; name = name } ∷ [])
step IsNew name w v before once so unknown taken = step_new name w v before once so taken
step IsSource name w v before once so unknown taken = step_source name w v before once so unknown
step IsCell name w v before once so unknown taken = step_other (record { role = IsCell; name = name }) w v before refl refl so
step IsAsk name w v before once so unknown taken = step_other (record { role = IsAsk; name = name }) w v before refl refl so
step IsHub name w v before once so unknown taken = step_other (record { role = IsHub; name = name }) w v before refl refl so
step IsGroup name w v before once so unknown taken = step_other (record { role = IsGroup; name = name }) w v before refl refl so
step IsGroupAlone name w v before once so unknown taken = step_other (record { role = IsGroupAlone; name = name }) w v before refl refl so
step IsCanceler name w v before once so unknown taken = step_other (record { role = IsCanceler; name = name }) w v before refl refl so
step IsRequest name w v before once so unknown taken = step_other (record { role = IsRequest; name = name }) w v before refl refl so
step IsDroppable name w v before once so unknown taken = step_other (record { role = IsDroppable; name = name }) w v before refl refl so

nothing_more : (us : List Use) → us ++ [] ≡ us
nothing_more [] = refl
nothing_more (u ∷ us) = ap (λ (vs : List Use). u ∷ vs) (nothing_more us)

one_more : (us : List Use) (u : Use) (vs : List Use) → (us ++ u ∷ []) ++ vs ≡ us ++ u ∷ vs
one_more [] u vs = refl
one_more (x ∷ us) u vs = ap (λ (xs : List Use). x ∷ xs) (one_more us u vs)

all_steps : (us : List Use) (w v : World) (before : List Use) → AreOnce w.names → IsSoFar w v before → first_failing (is_unknown w) before us ≡ None → first_failing (is_taken w) before us ≡ None → IsSoFar w (each_named us v) (before ++ us)
all_steps [] w v before once so unknown taken = subst (IsSoFar w v) (sym (nothing_more before)) so
all_steps (u ∷ us) w v before once so unknown taken =
    let p = passed_first (is_unknown w) before u us unknown in
    let q = passed_first (is_taken w) before u us taken in
    let next = all_steps us w (named_by u.role u.name v) (before ++ u ∷ []) once (step u.role u.name w v before once so p.0 q.0) p.1 q.1 in
    subst (IsSoFar w (each_named us (named_by u.role u.name v))) (one_more before u us) next

over_case : (new source there : Bool) (t rest len : ℕ) → t ≡ stood new source (one_if there) → rest + t ≡ len → rest + 1 ≡ len + one_if (not (new || (there && not source)))
over_case true source there t rest len h k = omega (arith, h, k)
over_case false true true t rest len h k = omega (arith, h, k)
over_case false true false t rest len h k = omega (arith, h, k)
over_case false false true t rest len h k = omega (arith, h, k)
over_case false false false t rest len h k = omega (arith, h, k)

with_over : (o : Option Awaited) (w v : World) (uses : List Use) → AreOnce w.names → IsSoFar w v uses → length (with_awaited o v).names ≡ length v.names + awaited_over o uses w
with_over None w v uses once so = omega arith
with_over (Some a) w v uses once so =
    new_long (record { name = a.name; held = Promise a.root }) (without_name a.name v.names)
    ∙ over_case (used_before is_new a.name uses) (used_before is_source a.name uses) (is_name a.name w.names) (times a.name v.names) (length (without_name a.name v.names)) (length v.names)
    (so.stand a.name ∙ ap (stood (used_before is_new a.name uses) (used_before is_source a.name uses)) (once_times a.name w.names once))
    (gone_long a.name v.names)

-- how many names there would be
pub counted : (uses : List Use) (w : World) → AreOnce w.names → ArePassed uses w
    → (names_left uses w + count_sources uses ≡ length w.names + count_new uses + awaited_over w.awaited uses w) × (count_sources uses ≤ length w.names + count_new uses)
counted uses w once passed =
    let start : IsSoFar w w [] = record { stand = λ n. refl; absent = λ n h. absurd (false≢true h); long = omega arith } in
    let so = all_steps uses w w [] once start passed.unknown passed.taken in
    let long = so.long in
    let over = with_over w.awaited w (each_named uses w) uses once so in
    (omega (arith, long, over), omega (arith, long))
