-- What goes with the members of a list.
use Rattle.std.proofs.Common.{◌≡◌, ◌∙◌, ℕ, ◌+◌, ◌<◌, ◌≤◌, List, [], ◌∷◌, ◌++◌, Option, None, Some, Bool, true, false, cond, arith, length, refl, sym, ap, subst}
use Rattle.std.specs.Prelude.{◌==◌, ◌||◌, is_some, find, reverse, nat_eq}
use Rattle.std.specs.List.{AllByRecursion, IsDistinct, list_any}
use Rattle.std.proofs.lemmas.Bool.{false≢true, or_parts}
use Rattle.std.proofs.lemmas.Bool.Decides.{nat_tests}
use Rattle.std.proofs.lemmas.List.{append_assoc, append-nil, length-append, length-reverse, reverse-append, reverse-reverse}
use Rattle.std.proofs.lemmas.Map.Steps.{length-le_from_distinct_below}
use Rattle.kj_model.specs.Nodes.{Form, form_at, is_in}
use Rattle.kj_model.specs.World.{World}
use Rattle.kj_model.specs.Free.{Holding}
use Rattle.kj_model.specs.Trees.{none_if}
use Rattle.kj_model.specs.Falling.{falling, each_falling}
use Rattle.promise_nodes.specs.declared.nodes.Mark.{Mark}
use Rattle.promise_nodes.specs.Kept.{IsLive, is_live}
use Rattle.promise_nodes.specs.Members.{AreEachOnce, newest_member}
use Rattle.promise_walks.specs.Falls.{AreMarks, HaveFallen}
use Rattle.promise_walks.proofs.Fallen.{falling_none}

-- ---- few members

swapped : (x y : ℕ) → nat_eq y x ≡ false → nat_eq x y ≡ false
swapped x y h = grind (arith, nat_tests)

all_other : (x : ℕ) (ns : List ℕ) → is_in x ns ≡ false → AllByRecursion (λ y. nat_eq x y ≡ false) ns
all_other x [] h = tt
all_other x (n ∷ ns) h = let p = or_parts (n == x) (is_in x ns) h in (swapped x n p.0, all_other x ns p.1)

distinct : (ns : List ℕ) → AreEachOnce ns → IsDistinct nat_eq ns
unfolding IsDistinct
distinct [] h = tt
distinct (n ∷ ns) h = (all_other n ns h.0, distinct ns h.1)

any_case : (b : Bool) (q n : ℕ) (ns : List ℕ) → nat_eq q n ≡ b → (list_any (nat_eq q) ns ≡ true → is_in q ns ≡ true) → (b || list_any (nat_eq q) ns) ≡ true → is_in q (n ∷ ns) ≡ true
any_case true q n ns e more i = let here : (n == q) ≡ true = grind (arith, nat_tests, e) in ap (λ (t : Bool). t || is_in q ns) here
any_case false q n ns e more i = let other : (n == q) ≡ false = grind (arith, nat_tests, e) in ap (λ (t : Bool). t || is_in q ns) other ∙ more i

any_in : (q : ℕ) (ns : List ℕ) → list_any (nat_eq q) ns ≡ true → is_in q ns ≡ true
any_in q [] h = h
any_in q (n ∷ ns) h = any_case (nat_eq q n) q n ns refl (any_in q ns) h

-- numbers below n, each once, are at most n
pub few_below : (ns : List ℕ) (n : ℕ) → AreEachOnce ns → ((m : ℕ) → is_in m ns ≡ true → m < n) → length ns ≤ n
few_below ns n once below = length-le_from_distinct_below ns n (distinct ns once) (λ q i. below q (any_in q ns i))

-- ---- the next member

-- a live member behind others that don't live
record IsFound (w : World) (rest : List ℕ) (n : ℕ) : Type 0 where
  dead : List ℕ
  older : List ℕ
  are : rest ≡ dead ++ n ∷ older
  gone : AllByRecursion (λ m. is_live w m ≡ false) dead
  live : is_live w n ≡ true

none_found : {P : Type 0} (n : ℕ) → ◌≡◌ {A = Option ℕ} None (Some n) → P
none_found n e = cc

same_found : (m n : ℕ) → ◌≡◌ {A = Option ℕ} (Some m) (Some n) → m ≡ n
same_found m n e = cc

found_case : (w : World) (b : Bool) (m n : ℕ) (rest : List ℕ) → is_live w m ≡ b → (find (is_live w) rest ≡ Some n → IsFound w rest n) → cond b (Some m) (find (is_live w) rest) ≡ Some n → IsFound w (m ∷ rest) n
found_case w true m n rest live more e =
    let same = same_found m n e in
    record { dead = []; older = rest; are = ap (λ (j : ℕ). j ∷ rest) same; gone = tt; live = ap (is_live w) (sym same) ∙ live }
found_case w false m n rest dies more e =
    let r = more e in
    record { dead = m ∷ r.dead; older = r.older; are = ap (λ (l : List ℕ). m ∷ l) r.are; gone = (dies, r.gone); live = r.live }

find_live : (w : World) (rest : List ℕ) (n : ℕ) → find (is_live w) rest ≡ Some n → IsFound w rest n
find_live w [] n e = none_found n e
find_live w (m ∷ rest) n e = found_case w (is_live w m) m n rest refl (find_live w rest n) e

none_case : (w : World) (b : Bool) (m : ℕ) (rest : List ℕ) → is_live w m ≡ b → (find (is_live w) rest ≡ None → AllByRecursion (λ n. is_live w n ≡ false) rest) → cond b (Some m) (find (is_live w) rest) ≡ None → AllByRecursion (λ n. is_live w n ≡ false) (m ∷ rest)
none_case w true m rest live more e = none_found m (sym e)
none_case w false m rest dies more e = (dies, more e)

none_live : (w : World) (rest : List ℕ) → find (is_live w) rest ≡ None → AllByRecursion (λ m. is_live w m ≡ false) rest
none_live w [] e = tt
none_live w (m ∷ rest) e = none_case w (is_live w m) m rest refl (none_live w rest) e

-- ---- what doesn't live frees nothing

none_if_none : (b : Bool) (o : Option Form) → is_some o ≡ false → none_if b o ≡ None
none_if_none true o h = refl
none_if_none false None h = refl
none_if_none false (Some form) h = absurd (false≢true (sym h))

pub dead_frees_none : (w : World) (d : ℕ) (gone : List ℕ) (n : ℕ) → is_live w n ≡ false → falling (Holding []) w d [] gone n ≡ []
dead_frees_none w d gone n h = falling_none w d [] gone n (none_if_none (is_in n gone) (form_at n w.nodes) h)

dead_passed : (w : World) (d : ℕ) (gone dead rest : List ℕ) → AllByRecursion (λ m. is_live w m ≡ false) dead → each_falling (falling (Holding []) w d []) gone (dead ++ rest) ≡ each_falling (falling (Holding []) w d []) gone rest
dead_passed w d gone [] rest h = refl
dead_passed w d gone (n ∷ dead) rest h =
    let falls = falling (Holding []) w d [] in
    ap (λ (first : List ℕ). first ++ each_falling falls (gone ++ first) (dead ++ rest)) (dead_frees_none w d gone n h.0)
    ∙ ap (λ (l : List ℕ). each_falling falls l (dead ++ rest)) (append-nil gone)
    ∙ dead_passed w d gone dead rest h.1

dead_all : (w : World) (d : ℕ) (gone dead : List ℕ) → AllByRecursion (λ m. is_live w m ≡ false) dead → each_falling (falling (Holding []) w d []) gone dead ≡ []
dead_all w d gone dead h = ap (each_falling (falling (Holding []) w d []) gone) (sym (append-nil dead)) ∙ dead_passed w d gone dead [] h

-- ---- one member after another

module _ (w : World) (d : ℕ) (members : List ℕ) where
  -- all members are still to come
  pub fallen_first : (marks : ℕ → Mark) (at : Option ℕ) (most : ℕ) → AreMarks marks [] [] → at ≡ newest_member w members → length members ≤ most → HaveFallen w d marks members at most
  fallen_first marks at most h first few = record {
    newer = [];
    rest = reverse members;
    gone = [];
    members_are = refl;
    first = first;
    marks_are = h;
    ends = refl;
    few = let same = length-reverse members in omega (arith, few, same);
  }

  -- no member is still to come that lives
  pub fallen_last : (marks : ℕ → Mark) (at : Option ℕ) (most : ℕ) → at ≡ None → HaveFallen w d marks members at most → AreMarks marks [] (each_falling (falling (Holding []) w d []) [] (reverse members))
  fallen_last marks at most none h =
      let falls = falling (Holding []) w d [] in
      let all = dead_all w d h.gone h.rest (none_live w h.rest (sym h.first ∙ none)) in
      subst (AreMarks marks []) (sym (append-nil h.gone) ∙ ap (λ (l : List ℕ). h.gone ++ l) (sym all) ∙ h.ends) h.marks_are

  no_rest : (rest : List ℕ) → length rest ≤ 0 → find (is_live w) rest ≡ None
  no_rest [] h = refl
  no_rest (n ∷ rest) h = absurd (omega (arith, h))

  -- no more members can come
  pub fallen_all : (marks : ℕ → Mark) (at : Option ℕ) (most : ℕ) → most ≡ 0 → HaveFallen w d marks members at most → AreMarks marks [] (each_falling (falling (Holding []) w d []) [] (reverse members))
  fallen_all marks at most none h = let few = h.few in fallen_last marks at most (h.first ∙ no_rest h.rest (omega (arith, few, none))) h

  module _ (old : ℕ → Mark) (at : Option ℕ) (n most : ℕ) (is : at ≡ Some n) (h : HaveFallen w d old members at most) where
    found : IsFound w h.rest n
    found = find_live w h.rest n (sym h.first ∙ is)

    -- the members that are older than the next one, and the others
    pub older : List ℕ
    older = reverse found.older

    pub newer : List ℕ
    newer = reverse (h.newer ++ found.dead)

    pub next_lives : IsLive w n
    unfolding found
    next_lives = found.live

    pub parted : members ≡ older ++ n ∷ newer
    unfolding found older newer
    parted =
        sym (reverse-reverse members)
        ∙ ap reverse (h.members_are ∙ ap (λ (l : List ℕ). h.newer ++ l) found.are ∙ sym (append_assoc h.newer found.dead (n ∷ found.older)))
        ∙ reverse-append (h.newer ++ found.dead) (n ∷ found.older)
        ∙ ap (λ (l : List ℕ). l ++ reverse (h.newer ++ found.dead)) (reverse-append (n ∷ []) found.older)
        ∙ append_assoc (reverse found.older) (n ∷ []) (reverse (h.newer ++ found.dead))

    -- the next member went too
    pub fallen_next : (new : ℕ → Mark) (then : Option ℕ) (less : ℕ) → AreMarks new [] (h.gone ++ falling (Holding []) w d [] h.gone n) → then ≡ newest_member w older → less + 1 ≡ most → HaveFallen w d new members then less
    unfolding found older
    fallen_next new then less marks next e =
        let falls = falling (Holding []) w d [] in
        let first = falls h.gone n in
        record {
          newer = (h.newer ++ found.dead) ++ n ∷ [];
          rest = found.older;
          gone = h.gone ++ first;
          members_are = h.members_are ∙ ap (λ (l : List ℕ). h.newer ++ l) found.are
              ∙ sym (append_assoc h.newer found.dead (n ∷ found.older))
              ∙ sym (append_assoc (h.newer ++ found.dead) (n ∷ []) found.older);
          first = next ∙ ap (find (is_live w)) (reverse-reverse found.older);
          marks_are = marks;
          ends = append_assoc h.gone first (each_falling falls (h.gone ++ first) found.older)
              ∙ ap (λ (l : List ℕ). h.gone ++ l) (sym (dead_passed w d h.gone found.dead (n ∷ found.older) found.gone) ∙ ap (each_falling falls h.gone) (sym found.are))
              ∙ h.ends;
          few = let few = h.few in let size = ap length found.are in let more = length-append found.dead (n ∷ found.older) in omega (arith, few, size, more, e);
        }
