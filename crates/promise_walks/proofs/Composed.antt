-- One change after another.
use Rattle.std.proofs.Common.{◌≡◌, ℕ, List, [], ◌∷◌, ◌++◌, Option, None, Some, Bool, refl, sym, ap, ◌∙◌, append_assoc, length, length-append, arith}
use Rattle.kj_model.specs.World.{World, State}
use Rattle.kj_model.specs.Changes.{frees_in}
use Rattle.kj_base.specs.Record.{Item, Run, Free, Tells}
use Rattle.promise_commands.specs.Telling.{Telling, Hears}
use Rattle.std.proofs.lemmas.List.{append-nil}
use Rattle.promise_nodes.specs.Kept.{OnlyFalls, OnlyRises}
use Rattle.promise_walks.specs.Walks.{Moves, Does}

-- one way after another
pub moves_then : (A B C : World → Type 0) (f g h : State → State) (xs ys : List Item) → Moves A B f g xs → Moves B C g h ys → Moves A C f h (xs ++ ys)
moves_then A B C f g h xs ys m n s a =
    let r = m s a in
    let q = n r.state r.stands in
    record {
      state = q.state;
      stands = q.stands;
      past_is = q.past_is ∙ ap (λ (l : List Item). l ++ ys) r.past_is ∙ append_assoc s.past xs ys;
      ends = q.ends ∙ r.ends;
    }

-- nothing is done
pub moves_not : (A : World → Type 0) (f g : State → State) → ((s : State) → f s ≡ g s) → Moves A A f g []
moves_not A f g h s a = record { state = s; stands = a; past_is = sym (append-nil s.past); ends = sym (h s) }

some_same : (l q : List Item) → ◌≡◌ {A = Option (List Item)} (Some l) (Some q) → l ≡ q
some_same l q e = cc

none_some : (q : List Item) → ◌≡◌ {A = Option (List Item)} None (Some q) → ⊥
none_some q e = cc

items_then : (a b c : Option (List Item)) (xs ys : List Item) → Tells a xs b → Tells b ys c → Tells a (xs ++ ys) c
items_then a b None xs ys h k = tt
items_then a (Some l) (Some m) xs ys (p, e, f) (q, g, h) = (p, e, h ∙ ap (λ x. x ++ ys) (sym (some_same l q g) ∙ f) ∙ append_assoc p xs ys)
items_then a None (Some m) xs ys h (q, g, k) = absurd (none_some q g)

no_items : (a : Option (List Item)) → Tells a [] a
no_items None = tt
no_items (Some l) = (l, refl, sym (append-nil l))

frees_append : (xs ys : List Item) → frees_in (xs ++ ys) ≡ frees_in xs ++ frees_in ys
frees_append [] ys = refl
frees_append (Free n ∷ xs) ys = ap (λ (ns : List ℕ). n ∷ ns) (frees_append xs ys)
frees_append (Run n step input action ∷ xs) ys = frees_append xs ys

-- what steps hear, one list after another
pub hears_then : (a b c : Telling) (xs ys : List Item) → Hears a xs b → Hears b ys c → Hears a (xs ++ ys) c
hears_then a b c xs ys h k = record {
  told = items_then a.items b.items c.items xs ys h.told k.told;
  least = let both = ap length (frees_append xs ys) ∙ length-append (frees_in xs) (frees_in ys) in omega (arith, h.least, k.least, both);
}

-- they hear nothing
pub hears_none : (a : Telling) → Hears a [] a
hears_none a = record { told = no_items a.items; least = omega arith }

pub does_then : (A B C : World → Type 0) (f g h : State → State) (a b c : Telling) → Does A B f g a b → Does B C g h b c → Does A C f h a c
does_then A B C f g h a b c d e = record {
  items = d.items ++ e.items;
  told = hears_then a b c d.items e.items d.told e.told;
  moves = moves_then A B C f g h d.items e.items d.moves e.moves;
}

pub falls_then : (a b c : ℕ → Bool) → OnlyFalls a b → OnlyFalls b c → OnlyFalls a c
falls_then a b c f g n h = f n (g n h)

pub rises_then : (a b c : ℕ → Bool) → OnlyRises a b → OnlyRises b c → OnlyRises a c
rises_then a b c f g n h = g n (f n h)

-- the same from another definition, where they agree on each world that stood
pub does_from : (A B : World → Type 0) (f g h : State → State) (a b : Telling) → ((s : State) → A s.world → f s ≡ g s) → Does A B f h a b → Does A B g h a b
does_from A B f g h a b same d = record {
  items = d.items;
  told = d.told;
  moves = λ s stands. let r = d.moves s stands in record { state = r.state; stands = r.stands; past_is = r.past_is; ends = r.ends ∙ same s stands };
}
